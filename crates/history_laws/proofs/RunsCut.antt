-- The run whose reading was broken off.
use Rattle.std.specs.Prelude.{◌≡◌, ℕ, ◌<◌, ◌≤◌, nat_le, List, [], ◌∷◌, ◌++◌, min, Some, Ok, refl}
use Rattle.std.specs.List.{AllByRecursion, filter}
use Rattle.std.proofs.Common.{ap, sym, ◌∙◌, subst, arith, append_assoc, inl, inr}
use Rattle.daq_types.specs.Callers.{entries_by}
use Rattle.daq_types.specs.declared.events.Event.{Event}
use Rattle.daq_types.specs.declared.runs.Kind.TheVariants.{All}
use Rattle.buffer_core.specs.declared.entry.BufferEntry.{BufferEntry}
use Rattle.buffer_core.specs.declared.entry.BufferEntry.TheVariants.{Request, Begin, End}
use Rattle.buffer_core.specs.Window.{Sent}
use Rattle.buffer_core.specs.Points.{Life, got_end, sent, count_at, past_of}
use Rattle.buffer_core.specs.Runs.{segment, events_between}
use Rattle.buffer_core.specs.Readers.{HasReadBelow, places_of, wanted}
use Rattle.buffer_core.specs.Ports.{GotEvent, names_given}
use Rattle.member_model.specs.OwnCalls.{calls_after, KeepsAsking, is_place_within}
use Rattle.member_model.specs.ReadRuns.{AskedOnce, IsReading, IsDraining}
use Rattle.history_laws.specs.BufferLaws.{BufferLaws}
use Rattle.history_laws.specs.OneCaller.{WasSentAt, events_in}
use Rattle.member_model.specs.CutRuns.{MarksEnd}
use Rattle.history_laws.specs.CallerLaws.{CutEvents}
use Rattle.history_laws.proofs.Pasts.{own_after, StandsIn, stands, SplitsAt, splits}
use Rattle.history_laws.proofs.Owners.{owned_lives}
use Rattle.history_laws.proofs.OwnPlaces.{named_places, named_places-append, own_places, places_are, ends_highest, named_of_places, names_in_order, all_weaker, all_front, all_back}
use Rattle.history_laws.proofs.GotEvents.{events_of, events_named, agree, all_named, before_end, same_ends}
use Rattle.history_laws.proofs.Marked.{count_of_end, count_front, RunStands, run_stands}
use Rattle.history_laws.proofs.Reading.{Facts, facts, facts_front, names_given-append, keeps_join, names_sent, RequestStands, request_stands, places_read}
use Rattle.history_laws.proofs.RunsRead.{behind_begin, asks_through, with_marks, PartsSent, parts_sent, running_below, two_parts, wanted_front}
use Rattle.history_laws.proofs.FirstParts.{IsFirstPart, as_prefix, wanted_part}

-- How far a client has got: all places that its calls name are below this one, below which it has read.
pub record HasGot (h : List (ℕ × BufferEntry)) (client : ℕ) (xs : List BufferEntry) (far : ℕ) : Type 0 where
  pub reads : HasReadBelow h client far
  pub below : AllByRecursion (λ (p : ℕ). p < far) (named_places client (names_given xs))
  pub within : far ≤ count_at (past_of h)

both_below : (P Q : ℕ → Type 0) (ps : List ℕ) → AllByRecursion P ps → AllByRecursion Q ps → AllByRecursion (λ (p : ℕ). P p × Q p) ps
both_below P Q [] first second = tt
both_below P Q (p ∷ ps) first second = ((first.0, second.0), both_below P Q ps first.1 second.1)

pub has_got : (size : ℕ) (h : List (ℕ × BufferEntry)) (by client id mask number : ℕ) (since : List BufferEntry) → Facts size h → AskedOnce (entries_by by h) client id mask number since → (far : ℕ) × HasGot h client (entries_by by h) far
has_got size h by client id mask number since f asked =
    let xs : List BufferEntry = entries_by by h in
    let r : RequestStands h by client id mask number since = request_stands size h by client id mask number since f asked in
    let alive = owned_lives (past_of h) f.own by client r.at_place.gave in
    let l : Life = alive.0 in
    let last : ℕ = got_end l.places in
    let count : ℕ = count_at (past_of h) in
    let places : l.places ≡ own_places (calls_after [] xs) client =
    places_are (past_of h) f.own f.tells by client l r.at_place.gave alive.1 ∙ ap (λ (es : List BufferEntry). own_places es client) (own_after by [] h) in
    let highest : AllByRecursion (λ (p : ℕ). p < last) (own_places (calls_after [] xs) client) = subst (AllByRecursion (λ (p : ℕ). p < last)) places (ends_highest (past_of h) f.in_order client l alive.1) in
    let high : AllByRecursion (λ (p : ℕ). p < last) (named_places client (names_given xs)) =
    all_named (λ (p : ℕ). p < last) client (names_given xs)
    (names_in_order (λ (n : ℕ × ℕ × ℕ). n.0 ≡ client → n.1 < last) [] xs (named_of_places (λ (p : ℕ). p < last) client (calls_after [] xs) highest)) in
    let counted : AllByRecursion (λ (p : ℕ). p < count) (named_places client (names_given xs)) =
    all_named (λ (p : ℕ). p < count) client (names_given xs)
    (all_weaker (λ (n : ℕ × ℕ × ℕ). n.1 < count) (λ (n : ℕ × ℕ × ℕ). n.0 ≡ client → n.1 < count) (λ n less same. less) (names_given xs) (names_sent size h by xs f refl)) in
    let far : ℕ = min last count in (
      far,
      record {
        reads = record { life = l; lives = alive.1; far = omega arith };
        below = all_weaker (λ (p : ℕ). (p < last) × (p < count)) (λ (p : ℕ). p < far) (λ p both. omega (arith, both.0, both.1)) (named_places client (names_given xs))
            (both_below (λ (p : ℕ). p < last) (λ (p : ℕ). p < count) (named_places client (names_given xs)) high counted);
        within = omega arith;
      },
    )

-- the places that the calls behind the begin name are among them
behind_below : (client : ℕ) (P : ℕ → Type 0) (xs early rest : List BufferEntry) → xs ≡ early ++ rest → AllByRecursion P (named_places client (names_given xs)) → AllByRecursion P (named_places client (names_given rest))
behind_below client P xs early rest is all =
    all_back P (named_places client (names_given early)) (named_places client (names_given rest))
    (subst (AllByRecursion P) (ap (λ (es : List BufferEntry). named_places client (names_given es)) is ∙ (ap (named_places client) (names_given-append early rest) ∙ named_places-append client (names_given early) (names_given rest))) all)

-- what was got by the place up to which the client has read is a first part of what it asks for
part_up_to : (laws : BufferLaws) (size : ℕ) (h front later : List (ℕ × BufferEntry)) (by client id mask number start begun ended to : ℕ) (asking rest : List BufferEntry) (events : List Event)
    → h ≡ front ++ later → Facts size front → AskedOnce (entries_by by front) client id mask number (asking ++ Begin start (Ok begun) ∷ rest) → KeepsAsking client (asking ++ Begin start (Ok begun) ∷ rest)
    → HasReadBelow front client to → to ≤ count_at (past_of front) → to ≤ ended → RunStands size h start begun ended
    → events ≡ events_of (sent (past_of h)) (filter (is_place_within begun to) (named_places client (names_given rest))) → IsFirstPart events (events_in (wanted id mask (segment h start)))
part_up_to laws size h front later by client id mask number start begun ended to asking rest events whole f asked keeps reads small less marks is =
    let ss : List Sent = sent (past_of h) in
    let segment_up_to : List (ℕ × Sent) = events_between (Some begun) (Some to) ss in
    let read = places_read laws size front by client id mask number start begun to asking rest f asked keeps reads small in
    let front_events : events_of ss (places_of (wanted id mask (events_between (Some begun) (Some to) (sent (past_of front))))) ≡ events_in (wanted id mask segment_up_to) =
    subst (λ (x : List (ℕ × BufferEntry)). events_of (sent (past_of x)) (places_of (wanted id mask (events_between (Some begun) (Some to) (sent (past_of front))))) ≡ events_in (wanted id mask (events_between (Some begun) (Some to) (sent (past_of x))))) (sym whole)
    (wanted_front laws front later id mask begun to small) in
    let all : events ≡ events_in (wanted id mask segment_up_to) = is ∙ (ap (events_of ss) read ∙ front_events) in
    subst (λ (es : List Event). IsFirstPart es (events_in (wanted id mask (segment h start)))) (sym all)
    (subst (λ (es : List (ℕ × Sent)). IsFirstPart (events_in (wanted id mask segment_up_to)) (events_in (wanted id mask es))) (sym marks.segment_is) (wanted_part id mask begun to ended ss less))

-- broken off while the run was on
cut_reading : (laws : BufferLaws) (size : ℕ) (h : List (ℕ × BufferEntry)) (by client id mask number start begun ended : ℕ) (calls later : List BufferEntry) (got got_by got_later : List GotEvent) (events : List Event)
    → Facts size h → entries_by by h ≡ calls ++ later → AllByRecursion (WasSentAt h) got → got ≡ got_by ++ got_later
    → IsReading calls got_by client id mask number start begun events → MarksEnd later start ended → IsFirstPart events (events_in (wanted id mask (segment h start)))
cut_reading laws size h by client id mask number start begun ended calls later got got_by got_later events f own_is sent_so got_is r ends =
    let begins : BufferEntry = Begin start (Ok begun) in
    let end : BufferEntry = End start (Ok ended) in
    let s : SplitsAt h by calls later = splits by h calls later own_is in
    let front : List (ℕ × BufferEntry) = s.before in
    let f_front : Facts size front = facts_front size front s.after (subst (Facts size) s.whole f) in
    let since : List BufferEntry = r.asking ++ begins ∷ r.running in
    let asked : AskedOnce (entries_by by front) client id mask number since = subst (λ (es : List BufferEntry). AskedOnce es client id mask number since) (sym s.own_before) r.asked in
    let keeps : KeepsAsking client since = keeps_join client r.asking (begins ∷ r.running) r.asks_on (tt, r.reads_on) in
    let g = has_got size front by client id mask number since f_front asked in
    let t : StandsIn s.after by ends.before end ends.after = stands by s.after ends.before end ends.after (s.own_after ∙ ends.is) in
    let whole : h ≡ (front ++ t.before) ++ (by, end) ∷ t.after = s.whole ∙ (ap (λ (es : List (ℕ × BufferEntry)). front ++ es) t.whole ∙ sym (append_assoc front t.before ((by, end) ∷ t.after))) in
    let count : ended ≡ count_at (past_of (front ++ t.before)) = count_of_end laws size h (front ++ t.before) t.after by start ended f.legal whole in
    let less : g.0 ≤ ended = omega (arith, g.1.within, count, count_front front t.before) in
    let early : List BufferEntry = asked.before ++ Request client id mask All (Ok number) ∷ r.asking in
    let early_is : entries_by by front ≡ early ++ begins ∷ r.running = asked.whole ∙ sym (append_assoc asked.before (Request client id mask All (Ok number) ∷ r.asking) (begins ∷ r.running)) in
    let marked : entries_by by h ≡ (early ++ begins ∷ (r.running ++ ends.before)) ++ end ∷ ends.after =
    own_is
    ∙ (ap (λ (es : List BufferEntry). es ++ later) (sym s.own_before ∙ early_is)
    ∙ (ap (λ (es : List BufferEntry). (early ++ begins ∷ r.running) ++ es) ends.is
    ∙ (sym (append_assoc (early ++ begins ∷ r.running) ends.before (end ∷ ends.after))
    ∙ ap (λ (es : List BufferEntry). es ++ end ∷ ends.after) (append_assoc early (begins ∷ r.running) ends.before)))) in
    let marks : RunStands size h start begun ended = run_stands laws size h by start begun ended early (r.running ++ ends.before) ends.after f.legal marked in
    let ps : List ℕ = named_places client (names_given r.running) in
    let below : AllByRecursion (λ (p : ℕ). p < g.0) ps = behind_below client (λ (p : ℕ). p < g.0) (entries_by by front) early (begins ∷ r.running) early_is g.1.below in
    let same : filter (nat_le begun) ps ≡ filter (is_place_within begun g.0) ps =
    agree (nat_le begun) (is_place_within begun g.0) ps (all_weaker (λ (p : ℕ). p < g.0) (λ (p : ℕ). nat_le begun p ≡ is_place_within begun g.0 p) (λ p small. before_end begun g.0 p small) ps below) in
    let by_all : AllByRecursion (WasSentAt h) got_by = all_front (WasSentAt h) got_by got_later (subst (AllByRecursion (WasSentAt h)) got_is sent_so) in
    let given_all : AllByRecursion (WasSentAt h) r.given = all_back (WasSentAt h) r.earlier r.given (subst (AllByRecursion (WasSentAt h)) r.got_is by_all) in
    part_up_to laws size h front s.after by client id mask number start begun ended g.0 r.asking r.running events s.whole f_front asked keeps g.1.reads g.1.within less marks
    (r.events_are ∙ (events_named (sent (past_of h)) client (nat_le begun) r.running r.given r.gives given_all ∙ ap (events_of (sent (past_of h))) same))

-- broken off while the client was drained
cut_draining : (laws : BufferLaws) (size : ℕ) (h : List (ℕ × BufferEntry)) (by client id mask number start begun ended : ℕ) (calls later : List BufferEntry) (got got_by got_later : List GotEvent) (events : List Event)
    → Facts size h → entries_by by h ≡ calls ++ later → AllByRecursion (WasSentAt h) got → got ≡ got_by ++ got_later
    → IsDraining calls got_by client id mask number start begun ended events → IsFirstPart events (events_in (wanted id mask (segment h start)))
cut_draining laws size h by client id mask number start begun ended calls later got got_by got_later events f own_is sent_so got_is d =
    let begins : BufferEntry = Begin start (Ok begun) in
    let end : BufferEntry = End start (Ok ended) in
    let rest : List BufferEntry = behind_begin start ended d.running d.draining in
    let s : SplitsAt h by calls later = splits by h calls later own_is in
    let front : List (ℕ × BufferEntry) = s.before in
    let f_front : Facts size front = facts_front size front s.after (subst (Facts size) s.whole f) in
    let since : List BufferEntry = d.asking ++ begins ∷ rest in
    let asked : AskedOnce (entries_by by front) client id mask number since = subst (λ (es : List BufferEntry). AskedOnce es client id mask number since) (sym s.own_before) d.asked in
    let keeps : KeepsAsking client since = asks_through calls got_by client id mask number start begun ended events d in
    let g = has_got size front by client id mask number since f_front asked in
    let to : ℕ = min g.0 ended in
    let early : List BufferEntry = asked.before ++ Request client id mask All (Ok number) ∷ d.asking in
    let front_marked : entries_by by front ≡ (early ++ begins ∷ d.running) ++ end ∷ d.draining = with_marks (entries_by by front) client id mask number start begun ended d.asking d.running d.draining asked in
    let marked : entries_by by h ≡ (early ++ begins ∷ d.running) ++ end ∷ (d.draining ++ later) =
    own_is ∙ (ap (λ (es : List BufferEntry). es ++ later) (sym s.own_before ∙ front_marked) ∙ append_assoc (early ++ begins ∷ d.running) (end ∷ d.draining) later) in
    let marks : RunStands size h start begun ended = run_stands laws size h by start begun ended early d.running (d.draining ++ later) f.legal marked in
    let ps : List ℕ = named_places client (names_given d.running) in
    let qs : List ℕ = named_places client (names_given d.draining) in
    let early_is : entries_by by front ≡ (early ++ begins ∷ []) ++ (d.running ++ end ∷ d.draining) =
    front_marked ∙ (append_assoc early (begins ∷ d.running) (end ∷ d.draining) ∙ sym (append_assoc early (begins ∷ []) (d.running ++ end ∷ d.draining))) in
    let far : ℕ → Type 0 = λ p. p < g.0 in
    let all_below : AllByRecursion far (named_places client (names_given (d.running ++ end ∷ d.draining))) = behind_below client far (entries_by by front) (early ++ begins ∷ []) (d.running ++ end ∷ d.draining) early_is g.1.below in
    let parts_below : AllByRecursion far (ps ++ qs) =
    subst (AllByRecursion far) (ap (named_places client) (names_given-append d.running (end ∷ d.draining)) ∙ named_places-append client (names_given d.running) (names_given d.draining)) all_below in
    let before : AllByRecursion (λ (p : ℕ). p < ended) ps = running_below laws size front by client start begun ended early d.running d.draining f_front front_marked in
    let same_one : filter (nat_le begun) ps ≡ filter (is_place_within begun to) ps =
    agree (nat_le begun) (is_place_within begun to) ps
    (all_weaker (λ (p : ℕ). (p < g.0) × (p < ended)) (λ (p : ℕ). nat_le begun p ≡ is_place_within begun to p) (λ p both. before_end begun to p (omega (arith, both.0, both.1))) ps
    (both_below far (λ (p : ℕ). p < ended) ps (all_front far ps qs parts_below) before)) in
    let same_two : filter (is_place_within begun ended) qs ≡ filter (is_place_within begun to) qs =
    agree (is_place_within begun ended) (is_place_within begun to) qs
    (all_weaker far (λ (p : ℕ). is_place_within begun ended p ≡ is_place_within begun to p) (λ p less. same_ends begun ended to p (λ small. omega (arith, small, less)) (λ small. omega (arith, small))) qs (all_back far ps qs parts_below)) in
    let ss : List Sent = sent (past_of h) in
    let sent_parts : PartsSent h d.given_running d.given_draining = parts_sent h got got_by got_later d.earlier d.given_running d.given_draining sent_so got_is d.got_is in
    let reads : HasReadBelow front client to = record { life = g.1.reads.life; lives = g.1.reads.lives; far = omega (arith, g.1.reads.far) } in
    part_up_to laws size h front s.after by client id mask number start begun ended to d.asking rest events s.whole f_front asked keeps reads (omega (arith, g.1.within)) (omega arith) marks
    (d.events_are
    ∙ two_parts ss client begun to (nat_le begun) (is_place_within begun ended) d.running d.draining d.given_running d.given_draining start ended
    (events_named ss client (nat_le begun) d.running d.given_running d.gives_running sent_parts.one)
    (events_named ss client (is_place_within begun ended) d.draining d.given_draining d.gives_draining sent_parts.two)
    same_one same_two)

pub cut_events : BufferLaws → CutEvents
cut_events laws size h by own got legal clients part client id mask number start begun ended events c =
    let f : Facts size h = facts laws size h legal clients in
    let own_is : entries_by by h ≡ c.calls ++ c.later = sym part.own_is ∙ c.own_is in
    let whole : List Event = events_in (wanted id mask (segment h start)) in
    as_prefix events whole (elim c.stage as (λ w. IsFirstPart events whole) [
      | inl on ↦ cut_reading laws size h by client id mask number start begun ended c.calls c.later got c.got_by c.got_later events f own_is part.sent_so c.got_is on.0 on.1
      | inr off ↦ cut_draining laws size h by client id mask number start begun ended c.calls c.later got c.got_by c.got_later events f own_is part.sent_so c.got_is off
    ])
