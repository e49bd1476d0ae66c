-- What a client got since its request, of a run that it saw through.
use Rattle.std.specs.Prelude.{◌≡◌, ◌≢◌, ℕ, ◌<◌, ◌==◌, ◌&&◌, Bool, false, if◌then◌else◌, List, [], ◌∷◌, ◌++◌, length, map, take, drop, slice_get, Some, Ok, refl}
use Rattle.std.specs.List.{AllByRecursion, filter}
use Rattle.std.proofs.Common.{ap, sym, ◌∙◌, subst, append_assoc, ne_eqb}
use Rattle.std.proofs.lemmas.List.{take-map, drop-map, take_at, drop_at, take-append-drop}
use Rattle.daq_types.specs.Callers.{entries_by}
use Rattle.daq_types.proofs.CallersLaws.{entries_by-append}
use Rattle.daq_types.specs.declared.events.Event.{Event}
use Rattle.daq_types.specs.declared.runs.Kind.TheVariants.{All}
use Rattle.buffer_core.specs.declared.entry.BufferEntry.{BufferEntry}
use Rattle.buffer_core.specs.declared.entry.BufferEntry.TheVariants.{Request}
use Rattle.buffer_core.proofs.SlotLaws.{split}
use Rattle.buffer_core.specs.Window.{Sent, opening}
use Rattle.buffer_core.specs.Histories.{IsLegal}
use Rattle.buffer_core.specs.Points.{sent, count_at, past_of}
use Rattle.buffer_core.specs.Continued.{sent_in}
use Rattle.buffer_core.specs.Runs.{segment}
use Rattle.buffer_core.specs.Readers.{wanted}
use Rattle.buffer_core.specs.Ports.{GotEvent, name_of, names_given}
use Rattle.buffer_core.specs.CallersView.{given_in}
use Rattle.buffer_core.proofs.GotNames.{named_in}
use Rattle.member_model.specs.SentCalls.{EachCall}
use Rattle.member_model.specs.OwnCalls.{AreOwnCalls, AreGivenBy}
use Rattle.history_laws.specs.BufferLaws.{BufferLaws}
use Rattle.history_laws.specs.OneCaller.{WasSentAt, IsCallersPart, HaveOwnClients, SendsInRuns, HaveRunSends, events_in}
use Rattle.member_model.specs.GotRuns.{events_of_start}
use Rattle.member_model.proofs.GotRunLaws.{events_of_start-append}
use Rattle.history_laws.specs.CallerLaws.{SeenSince}
use Rattle.history_laws.proofs.Pasts.{own_after}
use Rattle.history_laws.proofs.OwnPlaces.{named_places, all_front, all_back}
use Rattle.history_laws.proofs.GotEvents.{events_of}
use Rattle.history_laws.proofs.Reading.{Facts, facts, facts_front, names_given-append, names_sent}
use Rattle.history_laws.proofs.Sending.{all_at}
use Rattle.history_laws.proofs.PortParts.{given_from}
use Rattle.history_laws.proofs.RunsSeen.{has_start, all_seen, get_first, SeenAt, seen_at, seen_events}

-- What calls of a history gave was sent in it, also where the history went on.
sent_by_then : (laws : BufferLaws) (h more : List (ℕ × BufferEntry)) (gs : List GotEvent) → AllByRecursion (λ (n : ℕ × ℕ × ℕ). n.1 < count_at (past_of h)) (map name_of gs) → AllByRecursion (WasSentAt (h ++ more)) gs
    → AllByRecursion (WasSentAt h) gs
sent_by_then laws h more [] below all = tt
sent_by_then laws h more (g ∷ gs) below all = (
  sym (get_first (sent (past_of h)) (sent_in more) g.place below.0) ∙ (ap (λ (xs : List Sent). slice_get xs g.place) (sym (laws.events h more)) ∙ all.0),
  sent_by_then laws h more gs below.1 all.1,
)

-- where nothing was sent with a start number, nothing was got with it
none_early : (ss : List Sent) (client start : ℕ) (gs : List GotEvent) → AllByRecursion (λ (s : Sent). s.start ≢ start) ss
    → AllByRecursion (λ (g : GotEvent). slice_get ss g.place ≡ Some (record { event = g.event; start = g.start })) gs → events_of_start client start gs ≡ []
none_early ss client start [] early all = refl
none_early ss client start (g ∷ gs) early all =
    let other : g.start ≢ start = all_at (λ (s : Sent). s.start ≢ start) ss g.place (record { event = g.event; start = g.start }) early all.0 in
    let later : events_of_start client start gs ≡ [] = none_early ss client start gs early all.1 in
    ap (λ (b : Bool). (if (g.client == client) && b then g.event ∷ [] else []) ++ events_of_start client start gs) (ne_eqb g.start start other)
    ∙ split (g.client == client) (λ b. (if b && false then g.event ∷ [] else []) ++ events_of_start client start gs ≡ []) (λ h. later) (λ h. later)

each_front : (P : BufferEntry → Type 0) (xs ys : List BufferEntry) → EachCall P (xs ++ ys) → EachCall P xs
each_front P [] ys each = tt
each_front P (x ∷ xs) ys each = (each.0, each_front P xs ys each.1)

sends_front : (h later : List (ℕ × BufferEntry)) → HaveRunSends (h ++ later) → HaveRunSends h
sends_front h later sends by = each_front SendsInRuns (entries_by by h) (entries_by by later) (subst (EachCall SendsInRuns) (entries_by-append by h later) (sends by))

-- what is seen of a run by its number depends on the names of what was got alone
same_seen : (ss : List Sent) (client start : ℕ) (gs hs : List GotEvent) → map name_of gs ≡ map name_of hs → AllByRecursion (λ (g : GotEvent). slice_get ss g.place ≡ Some (record { event = g.event; start = g.start })) gs
    → AllByRecursion (λ (g : GotEvent). slice_get ss g.place ≡ Some (record { event = g.event; start = g.start })) hs → events_of_start client start gs ≡ events_of_start client start hs
same_seen ss client start gs hs names first second =
    all_seen ss client start gs first
    ∙ (ap (λ (ms : List (ℕ × ℕ × ℕ)). events_of ss (filter (λ (p : ℕ). has_start start (slice_get ss p)) (named_places client ms))) names
    ∙ sym (all_seen ss client start hs second))

-- What the caller got by its calls of a history, and of that by its calls since the request.
record GotSince (h later before : List (ℕ × BufferEntry)) (by : ℕ) (calls : List BufferEntry) : Type 0 where
  got_by : List GotEvent
  earlier : List GotEvent
  since : List GotEvent
  got_is : got_by ≡ earlier ++ since
  names_by : map name_of got_by ≡ names_given (entries_by by h)
  names_earlier : map name_of earlier ≡ names_given (entries_by by before)
  names_since : map name_of since ≡ names_given calls
  sent_so : AllByRecursion (WasSentAt (h ++ later)) got_by

got_since : (h later before : List (ℕ × BufferEntry)) (by client id mask number : ℕ) (calls : List BufferEntry) (got : List GotEvent) → AreGivenBy (entries_by by (h ++ later)) got → AllByRecursion (WasSentAt (h ++ later)) got
    → entries_by by h ≡ entries_by by before ++ Request client id mask All (Ok number) ∷ calls → GotSince h later before by calls
got_since h later before by client id mask number calls got gave sent_so calls_are =
    let own : List BufferEntry = entries_by by h in
    let rest : List BufferEntry = entries_by by later in
    let first : List BufferEntry = entries_by by before in
    let n : ℕ = length (names_given own) in
    let m : ℕ = length (names_given first) in
    let got_by : List GotEvent = take n got in
    let names_got : map name_of got ≡ names_given own ++ names_given rest =
    sym gave.named_so ∙ (ap names_given (entries_by-append by h later) ∙ names_given-append own rest) in
    let names_by : map name_of got_by ≡ names_given own =
    sym (take-map name_of n got) ∙ (ap (λ (l : List (ℕ × ℕ × ℕ)). take n l) names_got ∙ take_at (names_given own) (names_given rest) n refl) in
    let names_own : map name_of got_by ≡ names_given first ++ names_given calls =
    names_by ∙ (ap names_given calls_are ∙ names_given-append first (Request client id mask All (Ok number) ∷ calls)) in
    record {
      got_by = got_by;
      earlier = take m got_by;
      since = drop m got_by;
      got_is = sym (take-append-drop m got_by);
      names_by = names_by;
      names_earlier = sym (take-map name_of m got_by) ∙ (ap (λ (l : List (ℕ × ℕ × ℕ)). take m l) names_own ∙ take_at (names_given first) (names_given calls) m refl);
      names_since = sym (drop-map name_of m got_by) ∙ (ap (λ (l : List (ℕ × ℕ × ℕ)). drop m l) names_own ∙ drop_at (names_given first) (names_given calls) m refl);
      sent_so = all_front (WasSentAt (h ++ later)) got_by (drop n got) (subst (AllByRecursion (WasSentAt (h ++ later))) (sym (take-append-drop n got)) sent_so);
    }

pub seen_since : BufferLaws → SeenSince
seen_since laws size h later by given legal clients sends client id mask start ended s calls calls_are given_by given_sent =
    let f_whole : Facts size (h ++ later) = facts laws size (h ++ later) legal clients in
    let f : Facts size h = facts_front size h later f_whole in
    let own : List BufferEntry = entries_by by h in
    let got : List GotEvent = given_in by (opening size) (h ++ later) in
    let gave : AreGivenBy (entries_by by (h ++ later)) got = record { named_so = sym (named_in by (opening size) (h ++ later)) } in
    let g : GotSince h later s.before by calls = got_since h later s.before by client id mask s.number calls got gave (given_from laws size by [] (h ++ later) legal) calls_are in
    let sent_by : AllByRecursion (WasSentAt h) g.got_by =
    sent_by_then laws h later g.got_by (subst (AllByRecursion (λ (n : ℕ × ℕ × ℕ). n.1 < count_at (past_of h))) (sym g.names_by) (names_sent size h by own f refl)) g.sent_so in
    let own_clients : HaveOwnClients h = λ c. subst AreOwnCalls (own_after c [] h) (f.own c) in
    let part : IsCallersPart h by own g.got_by = record { own_is = refl; sent_so = sent_by } in
    let all : events_of_start client start g.got_by ≡ events_in (wanted id mask (segment h start)) =
    seen_events laws size h by own g.got_by f.legal own_clients (sends_front h later sends) part (record { named_so = sym g.names_by }) client id mask start ended s in
    let a : SeenAt size h by client id mask start ended s.before = seen_at laws size h by client id mask start ended f s in
    let f_before : Facts size s.before = facts_front size s.before a.later (subst (Facts size) a.whole f) in
    let sent_earlier : AllByRecursion (WasSentAt h) g.earlier = all_front (WasSentAt h) g.earlier g.since (subst (AllByRecursion (WasSentAt h)) g.got_is sent_by) in
    let sent_before : AllByRecursion (WasSentAt s.before) g.earlier =
    sent_by_then laws s.before a.later g.earlier
    (subst (AllByRecursion (λ (n : ℕ × ℕ × ℕ). n.1 < count_at (past_of s.before))) (sym g.names_earlier) (names_sent size s.before by (entries_by by s.before) f_before refl))
    (subst (λ (x : List (ℕ × BufferEntry)). AllByRecursion (WasSentAt x) g.earlier) a.whole sent_earlier) in
    let none : events_of_start client start g.earlier ≡ [] = none_early (sent (past_of s.before)) client start g.earlier s.early sent_before in
    let sent_since : AllByRecursion (WasSentAt (h ++ later)) g.since =
    all_back (WasSentAt (h ++ later)) g.earlier g.since (subst (AllByRecursion (WasSentAt (h ++ later))) g.got_is g.sent_so) in
    let joined : h ++ later ≡ a.ends ++ (a.rest ++ later) = ap (λ (x : List (ℕ × BufferEntry)). x ++ later) a.whole_ends ∙ append_assoc a.ends a.rest later in
    let segment_h : segment h start ≡ segment a.ends start =
    ap (λ (x : List (ℕ × BufferEntry)). segment x start) a.whole_ends ∙ laws.run size a.ends a.rest start ended (subst (IsLegal (opening size)) a.whole_ends f.legal) a.ended_ends in
    let segment_whole : segment (h ++ later) start ≡ segment a.ends start =
    ap (λ (x : List (ℕ × BufferEntry)). segment x start) joined ∙ laws.run size a.ends (a.rest ++ later) start ended (subst (IsLegal (opening size)) joined legal) a.ended_ends in
    same_seen (sent (past_of (h ++ later))) client start given g.since (sym given_by.named_so ∙ sym g.names_since) given_sent sent_since
    ∙ (ap (λ (es : List Event). es ++ events_of_start client start g.since) (sym none)
    ∙ (sym (events_of_start-append client start g.earlier g.since)
    ∙ (ap (events_of_start client start) (sym g.got_is)
    ∙ (all ∙ ap (λ (es : List (ℕ × Sent)). events_in (wanted id mask es)) (segment_h ∙ sym segment_whole)))))
