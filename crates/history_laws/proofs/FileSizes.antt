-- How long a run file is: what a client gets in its life takes at most 2^62 bytes of room, which is 8 more for each event than the
-- event's bytes in a file; so where there are many events the two records fit besides, and few events are short.
use Rattle.std.specs.Prelude.{◌≡◌, ℕ, ◌+◌, ◌*◌, ◌^◌, ◌≤◌, ◌==◌, Bool, if◌then◌else◌, List, [], ◌∷◌, ◌++◌, All, length, reverse, slice_get, Option, Some, None, refl}
use Rattle.std.specs.List.{filter, list_any, sum_by}
use Rattle.std.proofs.Common.{ap, arith, length-append}
use Rattle.std.proofs.lemmas.List.{reverse-append}
use Rattle.std.proofs.lemmas.List.Elements.{All-head, All-tail}
use Rattle.std.proofs.lemmas.List.Sums.{sum_by-cons}
use Rattle.daq_types.specs.declared.events.Event.{Event}
use Rattle.event.specs.Events.{encoding, all_encoded, slot_size, slot_of_length, matches}
use Rattle.event.specs.RunFile.{begin_record, end_record, begun_file, run_file, IsFileEvent}
use Rattle.event.proofs.Events.{length-encoding}
use Rattle.buffer_core.proofs.SlotLaws.{split}
use Rattle.buffer_core.specs.declared.entry.BufferEntry.{BufferEntry}
use Rattle.buffer_core.specs.Window.{Sent}
use Rattle.buffer_core.specs.Points.{Life, sent, life_at, past_of}
use Rattle.buffer_core.specs.Delivered.{slot_of_place, slots_of_places, StaysBounded}
use Rattle.buffer_core.specs.Runs.{segment, begun_at, ended_at}
use Rattle.buffer_core.specs.Readers.{places_in, places_got, places_of, among, wanted}
use Rattle.history_laws.specs.BufferLaws.{BufferLaws}
use Rattle.history_laws.specs.OneCaller.{events_in}
use Rattle.history_laws.specs.CallerLaws.{RunFileFits}
use Rattle.history_laws.proofs.GotEvents.{StandThere, filter_there}
use Rattle.history_laws.proofs.Sending.{segment_there}

-- The room of places.

slots_append : (ss : List Sent) (ps qs : List ℕ) → slots_of_places ss (ps ++ qs) ≡ slots_of_places ss ps + slots_of_places ss qs
slots_append ss [] qs = omega arith
slots_append ss (p ∷ ps) qs = omega (arith, slots_append ss ps qs)

slots_reverse : (ss : List Sent) (ps : List ℕ) → slots_of_places ss (reverse ps) ≡ slots_of_places ss ps
slots_reverse ss [] = refl
slots_reverse ss (p ∷ ps) =
    let last : reverse (p ∷ ps) ≡ reverse ps ++ p ∷ [] = reverse-append (p ∷ []) ps in
    let ends : slots_of_places ss (reverse (p ∷ ps)) ≡ slots_of_places ss (reverse ps ++ p ∷ []) = ap (slots_of_places ss) last in
    omega (arith, ends, slots_append ss (reverse ps) (p ∷ []), slots_reverse ss ps)

slots_filter : (ss : List Sent) (test : ℕ → Bool) (ps : List ℕ) → slots_of_places ss (filter test ps) ≤ slots_of_places ss ps
slots_filter ss test [] = omega arith
slots_filter ss test (p ∷ ps) =
    let more : slots_of_places ss (filter test ps) ≤ slots_of_places ss ps = slots_filter ss test ps in
    split (test p) (λ b. slots_of_places ss (if b then p ∷ filter test ps else filter test ps) ≤ slots_of_places ss (p ∷ ps))
    (λ h. omega (arith, more))
    (λ h. omega (arith, more))

slots_there : (ss : List Sent) (es : List (ℕ × Sent)) → StandThere ss es → slots_of_places ss (places_of es) ≡ sum_by slot_size (events_in es)
slots_there ss [] all = refl
slots_there ss (e ∷ es) all =
    let here : slot_of_place (slice_get ss e.0) ≡ slot_size e.1.event = ap slot_of_place all.0 in
    let first : sum_by slot_size (e.1.event ∷ events_in es) ≡ slot_size e.1.event + sum_by slot_size (events_in es) = sum_by-cons slot_size e.1.event (events_in es) in
    let more : slots_of_places ss (places_of es) ≡ sum_by slot_size (events_in es) = slots_there ss es all.1 in
    omega (arith, here, first, more)

life_slots : (past : List (ℕ × BufferEntry)) → StaysBounded past → (client : ℕ) → slots_of_places (sent past) (places_in (life_at past client)) ≤ 2 ^ 62
life_slots [] bounded client = omega arith
life_slots (e ∷ past) bounded client = in_life (life_at (e ∷ past) client) refl
  where
    in_life : (o : Option Life) → life_at (e ∷ past) client ≡ o → slots_of_places (sent (e ∷ past)) (places_in o) ≤ 2 ^ 62
    in_life None is = omega arith
    in_life (Some life) is =
        let few : slots_of_places (sent (e ∷ past)) life.places ≤ 2 ^ 62 = bounded.0 client life is in
        omega (arith, slots_reverse (sent (e ∷ past)) life.places, few)

run_slots : (h : List (ℕ × BufferEntry)) → StaysBounded (past_of h) → (client id mask start : ℕ) → among (segment h start) (places_got h client) ≡ places_of (wanted id mask (segment h start))
    → sum_by slot_size (events_in (wanted id mask (segment h start))) ≤ 2 ^ 62
run_slots h bounded client id mask start got =
    let past : List (ℕ × BufferEntry) = past_of h in
    let ss : List Sent = sent past in
    let run : List (ℕ × Sent) = segment h start in
    let asked : List (ℕ × Sent) = wanted id mask run in
    let there : StandThere ss asked = filter_there ss (λ (e : ℕ × Sent). matches id mask e.1.event) run (segment_there (begun_at past start) (ended_at past start) ss) in
    let few : slots_of_places ss (places_got h client) ≤ 2 ^ 62 = life_slots past bounded client in
    let kept : slots_of_places ss (among run (places_got h client)) ≤ slots_of_places ss (places_got h client) =
    slots_filter ss (λ (p : ℕ). list_any (λ (e : ℕ × Sent). e.0 == p) run) (places_got h client) in
    let same : slots_of_places ss (among run (places_got h client)) ≡ slots_of_places ss (places_of asked) = ap (slots_of_places ss) got in
    omega (arith, few, kept, same, slots_there ss asked there)

-- The bytes of events.

slot_room : (n : ℕ) → 24 + n ≤ slot_of_length n
unfolding slot_of_length
slot_room n = omega arith

first_bytes : (e : Event) (es : List Event) → length (all_encoded (e ∷ es)) ≡ 16 + length e.body + length (all_encoded es)
first_bytes e es = omega (arith, length-append (encoding e) (all_encoded es), length-encoding e)

bytes_within : (es : List Event) → length (all_encoded es) + 8 * length es ≤ sum_by slot_size es
bytes_within [] = omega arith
bytes_within (e ∷ es) = omega (arith, first_bytes e es, slot_room (length e.body), sum_by-cons slot_size e es, bytes_within es)

bytes_few : (es : List Event) → All IsFileEvent es → length (all_encoded es) ≤ length es * 4194320
bytes_few [] fine = omega arith
bytes_few (e ∷ es) fine =
    let first : IsFileEvent e = All-head IsFileEvent e es fine in
    omega (arith, first_bytes e es, first.small, bytes_few es (All-tail IsFileEvent e es fine))

-- The whole file.

pub run_file_fits : BufferLaws → RunFileFits
run_file_fits laws size h legal client id mask start got run time0 time1 dump0 dump1 begins ends fine =
    let es : List Event = events_in (wanted id mask (segment h start)) in
    let few : sum_by slot_size es ≤ 2 ^ 62 = run_slots h (laws.delivers size h legal).bounded client id mask start got in
    let first : length (encoding (begin_record run time0 dump0)) ≡ 16 + length dump0 = length-encoding (begin_record run time0 dump0) in
    let last : length (encoding (end_record run time1 dump1)) ≡ 16 + length dump1 = length-encoding (end_record run time1 dump1) in
    let begun : length (begun_file run time0 dump0 es) ≡ length (encoding (begin_record run time0 dump0)) + length (all_encoded es) = length-append (encoding (begin_record run time0 dump0)) (all_encoded es) in
    let whole : length (run_file run time0 dump0 es time1 dump1) ≡ length (begun_file run time0 dump0 es) + length (encoding (end_record run time1 dump1)) =
    length-append (begun_file run time0 dump0 es) (encoding (end_record run time1 dump1)) in
    record {
      is_file = refl;
      begins_small = begins;
      ends_small = ends;
      fine = fine;
      counted = omega (arith, few, first, last, begun, whole, begins, ends, bytes_within es, bytes_few es fine);
    }
