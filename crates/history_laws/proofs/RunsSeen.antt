-- The events of a run that a client saw by their start number.
use Rattle.std.specs.Prelude.{◌≡◌, ◌≢◌, ℕ, zero, suc, ◌<◌, ◌≤◌, ◌==◌, ◌&&◌, ◌||◌, nat_lt, Bool, true, false, if◌then◌else◌, List, [], ◌∷◌, ◌++◌, length, map, take, drop, slice_get, Option, Some, None, Ok, refl}
use Rattle.std.specs.List.{AllByRecursion, filter, enumerate_from, list_any}
use Rattle.std.proofs.Math.Bool.{or-true}
use Rattle.std.proofs.Common.{ap, sym, ◌∙◌, subst, arith, inl, inr, append_assoc, eq-eqb, le-leb}
use Rattle.std.proofs.lemmas.Bool.{eqb-true, eqb-false, lt-ltb, ltb-true, ltb-false}
use Rattle.std.proofs.lemmas.List.{length-take}
use Rattle.std.proofs.lemmas.List.Elements.{filter-append}
use Rattle.daq_types.specs.Callers.{entries_by}
use Rattle.daq_types.proofs.CallersLaws.{entries_by-own}
use Rattle.daq_types.specs.declared.events.Event.{Event}
use Rattle.daq_types.specs.declared.runs.Kind.TheVariants.{All}
use Rattle.event.specs.Events.{matches}
use Rattle.buffer_core.specs.declared.replies.Received.TheVariants.{Empty}
use Rattle.buffer_core.specs.declared.entry.BufferEntry.{BufferEntry}
use Rattle.buffer_core.specs.declared.entry.BufferEntry.TheVariants.{Request, Receive, End}
use Rattle.buffer_core.proofs.SlotLaws.{split}
use Rattle.buffer_core.specs.Window.{Sent, opening}
use Rattle.buffer_core.specs.Histories.{IsLegal}
use Rattle.buffer_core.specs.Points.{sent, count_at, past_of}
use Rattle.buffer_core.specs.Continued.{sent_in}
use Rattle.buffer_core.specs.Runs.{AreRunsKept, begun_at, ended_at, segment, events_between}
use Rattle.buffer_core.specs.Readers.{HasReadBelow, ReadsAll, places_got, places_of, among, wanted}
use Rattle.buffer_core.specs.Ports.{GotEvent, name_of, names_given}
use Rattle.member_model.specs.OwnCalls.{gave_number, KeepsAsking, is_place_within}
use Rattle.history_laws.specs.BufferLaws.{BufferLaws}
use Rattle.history_laws.specs.OneCaller.{HaveRunSends}
use Rattle.member_model.specs.GotRuns.{events_of_start}
use Rattle.history_laws.specs.SeenRuns.{SeesRun}
use Rattle.history_laws.specs.CallerLaws.{SeenEvents}
use Rattle.history_laws.proofs.Pasts.{past_of-push}
use Rattle.history_laws.proofs.OwnPlaces.{place_if, named_places, places_named, all_weaker}
use Rattle.history_laws.proofs.GotEvents.{event_of, events_of, events_of-append, agree, all_named, among_is, filter_there, events_of_places, between_front}
use Rattle.history_laws.proofs.Marked.{count_of_end, count_front, ended_here}
use Rattle.history_laws.proofs.Reading.{Facts, facts, facts_front, keeps_join, names_sent, RequestAt, request_placed, reads_from}
use Rattle.history_laws.proofs.RunsRead.{less_read}
use Rattle.history_laws.proofs.Sending.{all_at, segment_there, SentInRun, sent_in_run}

-- Events by their start number.

abbrev pub has_start : (start : ℕ) → Option Sent → Bool
has_start start None = false
has_start start (Some x) = x.start == start

one_seen : (ss : List Sent) (c start : ℕ) (g : GotEvent) → slice_get ss g.place ≡ Some (record { event = g.event; start = g.start })
    → (if (g.client == c) && (g.start == start) then g.event ∷ [] else []) ≡ events_of ss (filter (λ (p : ℕ). has_start start (slice_get ss p)) (place_if (g.client == c) g.place))
one_seen ss c start g is =
    let test : ℕ → Bool = λ p. has_start start (slice_get ss p) in
    let tells : test g.place ≡ (g.start == start) = ap (has_start start) is in
    let whole : events_of ss (g.place ∷ []) ≡ g.event ∷ [] = ap (λ (o : Option Sent). event_of o ++ []) is in
    split (g.client == c) (λ b. (if b && (g.start == start) then g.event ∷ [] else []) ≡ events_of ss (filter test (place_if b g.place)))
    (λ h.
    split (g.start == start) (λ d. (if d then g.event ∷ [] else []) ≡ events_of ss (if d then g.place ∷ [] else [])) (λ h'. sym whole) (λ h'. refl)
    ∙ ap (λ (d : Bool). events_of ss (if d then g.place ∷ [] else [])) (sym tells))
    (λ h. refl)

pub all_seen : (ss : List Sent) (c start : ℕ) (gs : List GotEvent) → AllByRecursion (λ (g : GotEvent). slice_get ss g.place ≡ Some (record { event = g.event; start = g.start })) gs
    → events_of_start c start gs ≡ events_of ss (filter (λ (p : ℕ). has_start start (slice_get ss p)) (named_places c (map name_of gs)))
all_seen ss c start [] all = refl
all_seen ss c start (g ∷ gs) all =
    let test : ℕ → Bool = λ p. has_start start (slice_get ss p) in
    let here : List ℕ = place_if (g.client == c) g.place in
    let rest : List ℕ = named_places c (map name_of gs) in
    ap (λ (es : List Event). es ++ events_of_start c start gs) (one_seen ss c start g all.0)
    ∙ (ap (λ (es : List Event). events_of ss (filter test here) ++ es) (all_seen ss c start gs all.1)
    ∙ (sym (events_of-append ss (filter test here) (filter test rest)) ∙ ap (events_of ss) (sym (filter-append test here rest))))

-- Members of a segment.

is_member : List (ℕ × Sent) → ℕ → Bool
is_member es p = list_any (λ (e : ℕ × Sent). e.0 == p) es

any_at : (es : List (ℕ × Sent)) (i p : ℕ) (x : Sent) → slice_get es i ≡ Some (p, x) → list_any (λ (e : ℕ × Sent). e.0 == p) es ≡ true
any_at [] i p x is = absurd (cc (is))
any_at (e ∷ es) zero p x is =
    let same : e ≡ (p, x) = cc (is) in
    ap (λ (b : Bool). b || list_any (λ (f : ℕ × Sent). f.0 == p) es) (eq-eqb e.0 p (ap (λ (f : ℕ × Sent). f.0) same))
any_at (e ∷ es) (suc i) p x is = ap (λ (b : Bool). (e.0 == p) || b) (any_at es i p x is) ∙ or-true (e.0 == p)

any_found : (es : List (ℕ × Sent)) (p : ℕ) → list_any (λ (e : ℕ × Sent). e.0 == p) es ≡ true → (i : ℕ) × (x : Sent) × (slice_get es i ≡ Some (p, x))
any_found [] p is = absurd (cc (is))
any_found (e ∷ es) p is =
    split (e.0 == p) (λ b. (e.0 == p) ≡ b → b || list_any (λ (f : ℕ × Sent). f.0 == p) es ≡ true → (i : ℕ) × (x : Sent) × (slice_get (e ∷ es) i ≡ Some (p, x)))
    (λ h here e'. (0, e.1, ap (λ (n : ℕ). Some (n, e.1)) (eqb-true e.0 p here)))
    (λ h there later. let rest = any_found es p later in (suc rest.0, rest.1, rest.2))
    refl is

get_some : {X : Type 0} (xs : List X) (i : ℕ) → i < length xs → (x : X) × (slice_get xs i ≡ Some x)
get_some [] i less = absurd (omega (arith, less))
get_some (y ∷ ys) zero less = (y, refl)
get_some (y ∷ ys) (suc i) less = get_some ys i (omega (arith, less))

pub get_first : {X : Type 0} (xs ys : List X) (i : ℕ) → i < length xs → slice_get (xs ++ ys) i ≡ slice_get xs i
get_first [] ys i less = absurd (omega (arith, less))
get_first (x ∷ xs) ys zero less = refl
get_first (x ∷ xs) ys (suc i) less = get_first xs ys i (omega (arith, less))

-- the events of a segment are those with its start number
pub record SegmentFacts (h : List (ℕ × BufferEntry)) (start : ℕ) : Type 0 where
  pub of_run : (p : ℕ) (x : Sent) → slice_get (sent (past_of h)) p ≡ Some x → x.start ≡ start → list_any (λ (e : ℕ × Sent). e.0 == p) (segment h start) ≡ true
  pub only_run : (p : ℕ) → list_any (λ (e : ℕ × Sent). e.0 == p) (segment h start) ≡ true → (x : Sent) × (slice_get (sent (past_of h)) p ≡ Some x) × (x.start ≡ start)

segment_facts : (laws : BufferLaws) (size : ℕ) (h : List (ℕ × BufferEntry)) (start : ℕ) → IsLegal (opening size) h → HaveRunSends h → SegmentFacts h start
segment_facts laws size h start legal sends =
    let runs : AreRunsKept (past_of h) = laws.ordered size h legal in
    let ss : List Sent = sent (past_of h) in
    record {
      of_run = λ p x is same.
          let s : SentInRun h p x = sent_in_run laws size h legal sends p x is in
          let inside = runs.inside p x is s.in_run in
          any_at (segment h start) inside.0 p x (subst (λ (n : ℕ). slice_get (segment h n) inside.0 ≡ Some (p, x)) same inside.1);
      only_run = λ p member.
          let found = any_found (segment h start) p member in
          let there : slice_get ss p ≡ Some found.1 = all_at (λ (e : ℕ × Sent). slice_get ss e.0 ≡ Some e.1) (segment h start) found.0 (p, found.1) (segment_there (begun_at (past_of h) start) (ended_at (past_of h) start) ss) found.2 in
          let s : SentInRun h p found.1 = sent_in_run laws size h legal sends p found.1 there in (
            found.1,
            there,
            elim (runs.only start found.0 p found.1 found.2) as (λ w. found.1.start ≡ start) [
              | inl same ↦ same
              | inr none ↦ absurd (s.in_run none)
            ],
          );
    }

same_members : (h : List (ℕ × BufferEntry)) (start p : ℕ) → SegmentFacts h start → p < count_at (past_of h) → has_start start (slice_get (sent (past_of h)) p) ≡ list_any (λ (e : ℕ × Sent). e.0 == p) (segment h start)
same_members h start p facts less =
    let ss : List Sent = sent (past_of h) in
    let at = get_some ss p less in
    let member : Bool = list_any (λ (e : ℕ × Sent). e.0 == p) (segment h start) in
    ap (has_start start) at.1
    ∙ split (at.0.start == start) (λ b. (at.0.start == start) ≡ b → b ≡ list_any (λ (e : ℕ × Sent). e.0 == p) (segment h start))
    (λ h' e. sym (facts.of_run p at.0 at.1 (eqb-true at.0.start start e)))
    (λ h' e.
    split (list_any (λ (f : ℕ × Sent). f.0 == p) (segment h start)) (λ d. list_any (λ (f : ℕ × Sent). f.0 == p) (segment h start) ≡ d → false ≡ d)
    (λ h'' is.
    let it = facts.only_run p is in
    let same : it.0 ≡ at.0 = cc (it.1, at.1) in
    absurd (eqb-false at.0.start start e (sym (ap (λ (x : Sent). x.start) same) ∙ it.2)))
    (λ h'' is. refl)
    refl)
    refl

-- A client that sees the run through.

drop_all : {X : Type 0} (n : ℕ) (xs : List X) → length xs ≤ n → drop n xs ≡ []
drop_all zero [] less = refl
drop_all zero (x ∷ xs) less = absurd (omega (arith, less))
drop_all (suc n) [] less = refl
drop_all (suc n) (x ∷ xs) less = drop_all n xs (omega (arith, less))

nothing_between : (from to : ℕ) (ss : List Sent) → to ≤ from → events_between (Some from) (Some to) ss ≡ []
nothing_between from to ss less = ap (λ (xs : List Sent). enumerate_from from xs) (drop_all from (take to ss) (omega (arith, length-take to ss, less)))

first_member : (from to : ℕ) (ss : List Sent) → from < to → to ≤ length ss → list_any (λ (e : ℕ × Sent). e.0 == from) (events_between (Some from) (Some to) ss) ≡ true
first_member from to ss less small =
    let one : among (events_between (Some from) (Some to) ss) (from ∷ []) ≡ from ∷ [] =
    among_is from to ss (from ∷ []) small ∙ ap (λ (b : Bool). if b then from ∷ [] else []) (starts_within from to less) in
    split (list_any (λ (e : ℕ × Sent). e.0 == from) (events_between (Some from) (Some to) ss)) (λ b. (if b then from ∷ [] else []) ≡ from ∷ [] → b ≡ true) (λ h e. refl) (λ h e. absurd (cc (e))) one
  where
    starts_within : (from to : ℕ) → from < to → is_place_within from to from ≡ true
    starts_within from to less = ap (λ (b : Bool). b && nat_lt from to) (le-leb from from (omega arith)) ∙ lt-ltb from to less

-- the segment, where the run was ended and its begin is this
seen_segment : (laws : BufferLaws) (size : ℕ) (h front later : List (ℕ × BufferEntry)) (start ended : ℕ) (o : Option ℕ) → IsLegal (opening size) h → h ≡ front ++ later → ended_at (past_of front) start ≡ Some ended → begun_at (past_of front) start ≡ o
    → ended ≤ count_at (past_of front) → segment h start ≡ events_between o (Some ended) (sent (past_of h))
seen_segment laws size h front later start ended o legal whole ends begins small =
    let same : segment h start ≡ events_between o (Some ended) (sent (past_of front)) =
    ap (λ (x : List (ℕ × BufferEntry)). segment x start) whole
    ∙ (laws.run size front later start ended (subst (IsLegal (opening size)) whole legal) ends
    ∙ (ap (λ (b : Option ℕ). events_between b (ended_at (past_of front) start) (sent (past_of front))) begins
    ∙ ap (λ (e : Option ℕ). events_between o e (sent (past_of front))) ends)) in
    same ∙ (in_front o ended (sent (past_of front)) (sent_in later) small ∙ ap (events_between o (Some ended)) (sym (laws.events front later) ∙ ap (λ (x : List (ℕ × BufferEntry)). sent (past_of x)) (sym whole)))
  where
    in_front : (o : Option ℕ) (ended : ℕ) (ss more : List Sent) → ended ≤ length ss → events_between o (Some ended) ss ≡ events_between o (Some ended) (ss ++ more)
    in_front None ended ss more small = refl
    in_front (Some from) ended ss more small = sym (between_front from ended ss more small)

none_among : (ps : List ℕ) → among [] ps ≡ []
none_among [] = refl
none_among (p ∷ ps) = none_among ps

-- the places that were got are those of the events that it asks for
seen_places : (laws : BufferLaws) (size : ℕ) (h : List (ℕ × BufferEntry)) (start ended : ℕ) (before later : List (ℕ × BufferEntry)) (client id mask : ℕ) (o : Option ℕ) → IsLegal (opening size) h → SegmentFacts h start
    → h ≡ before ++ later → AllByRecursion (λ (s : Sent). s.start ≢ start) (sent (past_of before)) → ended ≤ count_at (past_of h) → segment h start ≡ events_between o (Some ended) (sent (past_of h))
    → ((from : ℕ) → count_at (past_of before) ≤ from → ReadsAll h client id mask from ended)
    → among (segment h start) (places_got h client) ≡ places_of (wanted id mask (segment h start))
seen_places laws size h start ended before later client id mask None legal facts whole early small is reads =
    subst (λ (es : List (ℕ × Sent)). among es (places_got h client) ≡ places_of (wanted id mask es)) (sym is) (none_among (places_got h client))
seen_places laws size h start ended before later client id mask (Some from) legal facts whole early small is reads =
    let ss : List Sent = sent (past_of h) in
    let Goal : List (ℕ × Sent) → Type 0 = λ es. among es (places_got h client) ≡ places_of (wanted id mask es) in
    split (nat_lt from (count_at (past_of before))) (λ b. nat_lt from (count_at (past_of before)) ≡ b → Goal (segment h start))
    (λ t behind.
    split (nat_lt from ended) (λ d. nat_lt from ended ≡ d → Goal (segment h start))
    (λ t' within.
    let member : list_any (λ (e : ℕ × Sent). e.0 == from) (segment h start) ≡ true =
    ap (λ (es : List (ℕ × Sent)). list_any (λ (e : ℕ × Sent). e.0 == from) es) is ∙ first_member from ended ss (ltb-true from ended within) small in
    let it = facts.only_run from member in
    let less : from < count_at (past_of before) = ltb-true from (count_at (past_of before)) behind in
    let there : slice_get (sent (past_of before)) from ≡ Some it.0 =
    sym (get_first (sent (past_of before)) (sent_in later) from less)
    ∙ (ap (λ (xs : List Sent). slice_get xs from) (sym (laws.events before later) ∙ ap (λ (x : List (ℕ × BufferEntry)). sent (past_of x)) (sym whole)) ∙ it.1) in
    absurd (all_at (λ (s : Sent). s.start ≢ start) (sent (past_of before)) from it.0 early there it.2))
    (λ t' outside.
    let empty : segment h start ≡ [] = is ∙ nothing_between from ended ss (ltb-false from ended outside) in
    subst Goal (sym empty) (none_among (places_got h client)))
    refl)
    (λ t ahead.
    subst Goal (sym is) (laws.between size h client id mask from ended legal (reads from (ltb-false from (count_at (past_of before)) ahead))))
    refl

-- The marks and the request of a run that was seen.
pub record SeenAt (size : ℕ) (h : List (ℕ × BufferEntry)) (by client id mask start ended : ℕ) (before : List (ℕ × BufferEntry)) : Type 0 where
  pub later : List (ℕ × BufferEntry)
  pub whole : h ≡ before ++ later
  pub gave : gave_number (entries_by by (past_of h)) client ≡ true
  pub begin : Option ℕ
  pub segment_is : segment h start ≡ events_between begin (Some ended) (sent (past_of h))
  pub within : ended ≤ count_at (past_of h)
  pub ends : List (ℕ × BufferEntry)
  pub rest : List (ℕ × BufferEntry)
  pub whole_ends : h ≡ ends ++ rest
  pub ended_ends : ended_at (past_of ends) start ≡ Some ended
  pub reads : (from : ℕ) → count_at (past_of before) ≤ from → ReadsAll h client id mask from ended

pub seen_at : (laws : BufferLaws) (size : ℕ) (h : List (ℕ × BufferEntry)) (by client id mask start ended : ℕ) → Facts size h → (s : SeesRun h by client id mask start ended) → SeenAt size h by client id mask start ended s.before
seen_at laws size h by client id mask start ended f s =
    let call : ℕ × BufferEntry = (by, Request client id mask All (Ok s.number)) in
    let end : ℕ × BufferEntry = (s.by, End start (Ok ended)) in
    let last : ℕ × BufferEntry = (by, Receive client s.room (Empty s.gate s.last)) in
    let middle : List (ℕ × BufferEntry) = s.running ++ end ∷ s.draining in
    let pre : List (ℕ × BufferEntry) = s.before ++ call ∷ middle in
    let front : List (ℕ × BufferEntry) = pre ++ last ∷ [] in
    let behind : List (ℕ × BufferEntry) = middle ++ last ∷ [] in
    let front_is : s.before ++ call ∷ (s.running ++ end ∷ (s.draining ++ last ∷ [])) ≡ front =
    ap (λ (es : List (ℕ × BufferEntry)). s.before ++ call ∷ es) (sym (append_assoc s.running (end ∷ s.draining) (last ∷ []))) ∙ sym (append_assoc s.before (call ∷ middle) (last ∷ [])) in
    let whole : h ≡ front ++ s.after = s.whole ∙ ap (λ (es : List (ℕ × BufferEntry)). es ++ s.after) front_is in
    let front_split : front ≡ s.before ++ call ∷ behind = append_assoc s.before (call ∷ middle) (last ∷ []) in
    let f_front : Facts size front = facts_front size front s.after (subst (Facts size) whole f) in
    let e_before : List (ℕ × BufferEntry) = s.before ++ call ∷ s.running in
    let ends : List (ℕ × BufferEntry) = e_before ++ end ∷ [] in
    let rest : List (ℕ × BufferEntry) = s.draining ++ last ∷ s.after in
    let pre_is : pre ≡ ends ++ s.draining = sym (append_assoc s.before (call ∷ s.running) (end ∷ s.draining)) ∙ sym (append_assoc e_before (end ∷ []) s.draining) in
    let whole_ends : h ≡ ends ++ rest =
    whole ∙ (append_assoc pre (last ∷ []) s.after ∙ (ap (λ (es : List (ℕ × BufferEntry)). es ++ last ∷ s.after) pre_is ∙ append_assoc ends s.draining (last ∷ s.after))) in
    let count : ended ≡ count_at (past_of e_before) = count_of_end laws size h e_before rest s.by start ended f.legal (whole_ends ∙ append_assoc e_before (end ∷ []) rest) in
    let ended_ends : ended_at (past_of ends) start ≡ Some ended = ap (λ (past : List (ℕ × BufferEntry)). ended_at past start) (past_of-push e_before end) ∙ ended_here (past_of e_before) s.by start ended in
    let small_ends : ended ≤ count_at (past_of ends) = omega (arith, count, count_front e_before (end ∷ [])) in
    let small_pre : ended ≤ count_at (past_of pre) = omega (arith, small_ends, subst (λ (x : List (ℕ × BufferEntry)). count_at (past_of ends) ≤ count_at (past_of x)) (sym pre_is) (count_front ends s.draining)) in
    let has_read : HasReadBelow front client ended = less_read front client (count_at (past_of pre)) ended small_pre (laws.read_all size pre [] by client s.room s.gate s.last f_front.legal tt) in
    let keeps : KeepsAsking client (entries_by by behind) =
    subst (KeepsAsking client) (sym (entries_by-own by middle last.1)) (keeps_join client (entries_by by middle) (last.1 ∷ []) s.keeps (tt, tt)) in
    let at_front : RequestAt front s.before behind by client = request_placed size front s.before behind by client id mask s.number f_front front_split s.alone in
    let whole_before : h ≡ s.before ++ call ∷ (behind ++ s.after) = whole ∙ (ap (λ (es : List (ℕ × BufferEntry)). es ++ s.after) front_split ∙ append_assoc s.before (call ∷ behind) s.after) in
    let at_whole : RequestAt h s.before (behind ++ s.after) by client = request_placed size h s.before (behind ++ s.after) by client id mask s.number f whole_before s.alone in
    record {
      later = call ∷ (behind ++ s.after);
      whole = whole_before;
      gave = at_whole.gave;
      begin = begun_at (past_of ends) start;
      segment_is = seen_segment laws size h ends rest start ended (begun_at (past_of ends) start) f.legal whole_ends ended_ends refl small_ends;
      within = omega (arith, small_ends, subst (λ (x : List (ℕ × BufferEntry)). count_at (past_of ends) ≤ count_at (past_of x)) (sym whole_ends) (count_front ends rest));
      ends = ends;
      rest = rest;
      whole_ends = whole_ends;
      ended_ends = ended_ends;
      reads = λ from less. reads_from size h front s.after s.before behind by client id mask s.number from ended whole f front_split at_front less keeps has_read;
    }

pub seen_events : BufferLaws → SeenEvents
seen_events laws size h by own got legal clients sends part gave client id mask start ended s =
    let f : Facts size h = facts laws size h legal clients in
    let a : SeenAt size h by client id mask start ended s.before = seen_at laws size h by client id mask start ended f s in
    let seg : List (ℕ × Sent) = segment h start in
    let ss : List Sent = sent (past_of h) in
    let test : ℕ → Bool = λ p. has_start start (slice_get ss p) in
    let member : ℕ → Bool = λ p. list_any (λ (e : ℕ × Sent). e.0 == p) seg in
    let there : SegmentFacts h start = segment_facts laws size h start legal sends in
    let ns : List (ℕ × ℕ × ℕ) = names_given (entries_by by h) in
    let ps : List ℕ = named_places client ns in
    let names : map name_of got ≡ ns = sym gave.named_so ∙ ap names_given part.own_is in
    let below : AllByRecursion (λ (n : ℕ × ℕ × ℕ). n.1 < count_at (past_of h)) ns = names_sent size h by (entries_by by h) f refl in
    let agrees : AllByRecursion (λ (p : ℕ). test p ≡ member p) ps =
    all_named (λ (p : ℕ). test p ≡ member p) client ns
    (all_weaker (λ (n : ℕ × ℕ × ℕ). n.1 < count_at (past_of h)) (λ (n : ℕ × ℕ × ℕ). n.0 ≡ client → test n.1 ≡ member n.1) (λ n less same. same_members h start n.1 there less) ns below) in
    let places : places_got h client ≡ ps = places_named h by client f.own f.tells a.gave in
    all_seen ss client start got part.sent_so
    ∙ (ap (λ (ms : List (ℕ × ℕ × ℕ)). events_of ss (filter test (named_places client ms))) names
    ∙ (ap (events_of ss) (agree test member ps agrees)
    ∙ (ap (λ (qs : List ℕ). events_of ss (filter member qs)) (sym places)
    ∙ (ap (events_of ss) (seen_places laws size h start ended s.before a.later client id mask a.begin legal there a.whole s.early a.within a.segment_is a.reads)
    ∙ events_of_places ss (wanted id mask seg) (filter_there ss (λ (e : ℕ × Sent). matches id mask e.1.event) seg (segment_there (begun_at (past_of h) start) (ended_at (past_of h) start) ss))))))
