-- The samples of a run that was seen through meet what is said of them.
use Rattle.std.specs.Prelude.{◌≢◌, ℕ, List, [], ◌∷◌, Ok, refl}
use Rattle.event.specs.Events.{matches, slot_of_length}
use Rattle.buffer_core.specs.declared.gate.RunGate.TheVariants.{Shut}
use Rattle.buffer_core.specs.declared.replies.Received.TheVariants.{Got}
use Rattle.buffer_core.specs.declared.entry.BufferEntry.{BufferEntry}
use Rattle.buffer_core.specs.declared.entry.BufferEntry.TheVariants.{Attach, Send, SendInRun, Receive, Begin}
use Rattle.buffer_core.specs.Window.{opening, no_clients, no_requests, any}
use Rattle.buffer_core.specs.Histories.{IsLegal}
use Rattle.buffer_core.specs.Samples.{sample_event}
use Rattle.history_laws.specs.OneCaller.{HaveRunSends}
use Rattle.history_laws.specs.SeenRuns.{SeesRun}
use Rattle.history_laws.specs.CallerSamples.{reading_history, read_whole, found_nothing, got_by_other, call_left_out, other_event_told, not_drained}
use Rattle.history_laws.specs.SeenSamples.{SeenPremise, SeenLegal, SeenClients, SeenSends, SeenEntries, SeenPlaces, SeenGiven, SeenThrough, MeetsSeen, IsSeenRight, FailsToSee, got_of_none, event_not_told}
use Rattle.history_laws.proofs.Sampled.{have_own, have_runs, reading_legal, reading_own, other_legal, not_drained_legal, other_events}

-- A run that was seen through.

abbrev asked_before : List (ℕ × BufferEntry)
asked_before = (1, Attach [] (Ok 0)) ∷ []

reading_runs : HaveRunSends reading_history
reading_runs = have_runs reading_history (tt, (tt, (tt, (tt, (tt, (tt, (tt, tt)))))))

reading_seen : SeesRun reading_history 1 0 any any 1 1
reading_seen =
    record {
      before = asked_before;
      running = (1, Begin 1 (Ok 0)) ∷ (2, SendInRun 1 0 sample_event (Ok 0)) ∷ (1, Receive 0 0 (Got 0 1)) ∷ [];
      draining = [];
      after = [];
      number = 0;
      by = 1;
      room = 0;
      gate = Shut;
      last = 1;
      whole = refl;
      early = tt;
      alone = λ n. refl;
      keeps = (tt, (tt, (tt, tt)));
    }

pub all_seen_met : (premise : SeenPremise) → MeetsSeen premise read_whole
all_seen_met SeenLegal = reading_legal
all_seen_met SeenClients = reading_own
all_seen_met SeenSends = reading_runs
all_seen_met SeenEntries = refl
all_seen_met SeenPlaces = (refl, tt)
all_seen_met SeenGiven = record { named_so = refl }
all_seen_met SeenThrough = reading_seen

pub seen_right : IsSeenRight read_whole
unfolding matches
seen_right = refl

-- Without one of the premises.

found_seen : SeesRun found_nothing.history 1 0 any any 1 1
found_seen =
    record {
      before = asked_before;
      running = (1, Begin 1 (Ok 0)) ∷ (2, SendInRun 1 0 sample_event (Ok 0)) ∷ [];
      draining = [];
      after = [];
      number = 0;
      by = 1;
      room = 0;
      gate = Shut;
      last = 1;
      whole = refl;
      early = tt;
      alone = λ n. refl;
      keeps = (tt, (tt, tt));
    }

found_wrong : IsSeenRight found_nothing → ⊥
unfolding matches
found_wrong e = cc (e)

others_of_found : (other : SeenPremise) → other ≢ SeenLegal → MeetsSeen other found_nothing
others_of_found SeenLegal ne = absurd (ne refl)
others_of_found SeenClients ne = have_own found_nothing.history (refl, (tt, (tt, (tt, (refl, (tt, tt))))))
others_of_found SeenSends ne = have_runs found_nothing.history (tt, (tt, (tt, (tt, (tt, (tt, tt))))))
others_of_found SeenEntries ne = refl
others_of_found SeenPlaces ne = tt
others_of_found SeenGiven ne = record { named_so = refl }
others_of_found SeenThrough ne = found_seen

pub seen_legal_needed : FailsToSee SeenLegal found_nothing
seen_legal_needed = record { others = others_of_found; wrong = found_wrong }

by_other_seen : SeesRun got_by_other.history 1 0 any any 1 1
by_other_seen =
    record {
      before = asked_before;
      running = (1, Begin 1 (Ok 0)) ∷ (2, SendInRun 1 0 sample_event (Ok 0)) ∷ (2, Receive 0 0 (Got 0 1)) ∷ [];
      draining = [];
      after = [];
      number = 0;
      by = 1;
      room = 0;
      gate = Shut;
      last = 1;
      whole = refl;
      early = tt;
      alone = λ n. refl;
      keeps = (tt, (tt, tt));
    }

by_other_wrong : IsSeenRight got_by_other → ⊥
unfolding matches
by_other_wrong e = cc (e)

others_of_by_other : (other : SeenPremise) → other ≢ SeenClients → MeetsSeen other got_by_other
others_of_by_other SeenLegal ne = other_legal
others_of_by_other SeenClients ne = absurd (ne refl)
others_of_by_other SeenSends ne = have_runs got_by_other.history (tt, (tt, (tt, (tt, (tt, (tt, (tt, tt)))))))
others_of_by_other SeenEntries ne = refl
others_of_by_other SeenPlaces ne = tt
others_of_by_other SeenGiven ne = record { named_so = refl }
others_of_by_other SeenThrough ne = by_other_seen

pub seen_clients_needed : FailsToSee SeenClients got_by_other
seen_clients_needed = record { others = others_of_by_other; wrong = by_other_wrong }

none_legal : IsLegal (opening 48) got_of_none.history
unfolding no_clients no_requests slot_of_length matches
none_legal = (refl, (refl, (refl, (refl, (refl, (refl, (refl, tt)))))))

none_seen : SeesRun got_of_none.history 1 0 any any 1 1
none_seen =
    record {
      before = asked_before;
      running = (1, Begin 1 (Ok 0)) ∷ (2, Send 0 sample_event (Ok 0)) ∷ (1, Receive 0 0 (Got 0 0)) ∷ [];
      draining = [];
      after = [];
      number = 0;
      by = 1;
      room = 0;
      gate = Shut;
      last = 1;
      whole = refl;
      early = tt;
      alone = λ n. refl;
      keeps = (tt, (tt, (tt, tt)));
    }

none_wrong : IsSeenRight got_of_none → ⊥
unfolding matches
none_wrong e = cc (e)

others_of_none : (other : SeenPremise) → other ≢ SeenSends → MeetsSeen other got_of_none
others_of_none SeenLegal ne = none_legal
others_of_none SeenClients ne = have_own got_of_none.history (refl, (tt, (refl, (tt, (tt, (refl, (tt, tt)))))))
others_of_none SeenSends ne = absurd (ne refl)
others_of_none SeenEntries ne = refl
others_of_none SeenPlaces ne = (refl, tt)
others_of_none SeenGiven ne = record { named_so = refl }
others_of_none SeenThrough ne = none_seen

pub seen_sends_needed : FailsToSee SeenSends got_of_none
seen_sends_needed = record { others = others_of_none; wrong = none_wrong }

left_wrong : IsSeenRight call_left_out → ⊥
unfolding matches
left_wrong e = cc (e)

others_of_left_out : (other : SeenPremise) → other ≢ SeenEntries → MeetsSeen other call_left_out
others_of_left_out SeenLegal ne = reading_legal
others_of_left_out SeenClients ne = reading_own
others_of_left_out SeenSends ne = reading_runs
others_of_left_out SeenEntries ne = absurd (ne refl)
others_of_left_out SeenPlaces ne = tt
others_of_left_out SeenGiven ne = record { named_so = refl }
others_of_left_out SeenThrough ne = reading_seen

pub seen_entries_needed : FailsToSee SeenEntries call_left_out
seen_entries_needed = record { others = others_of_left_out; wrong = left_wrong }

told_wrong : IsSeenRight other_event_told → ⊥
unfolding matches
told_wrong e = other_events e

others_of_told_event : (other : SeenPremise) → other ≢ SeenPlaces → MeetsSeen other other_event_told
others_of_told_event SeenLegal ne = reading_legal
others_of_told_event SeenClients ne = reading_own
others_of_told_event SeenSends ne = reading_runs
others_of_told_event SeenEntries ne = refl
others_of_told_event SeenPlaces ne = absurd (ne refl)
others_of_told_event SeenGiven ne = record { named_so = refl }
others_of_told_event SeenThrough ne = reading_seen

pub seen_places_needed : FailsToSee SeenPlaces other_event_told
seen_places_needed = record { others = others_of_told_event; wrong = told_wrong }

not_told_wrong : IsSeenRight event_not_told → ⊥
unfolding matches
not_told_wrong e = cc (e)

others_of_not_told : (other : SeenPremise) → other ≢ SeenGiven → MeetsSeen other event_not_told
others_of_not_told SeenLegal ne = reading_legal
others_of_not_told SeenClients ne = reading_own
others_of_not_told SeenSends ne = reading_runs
others_of_not_told SeenEntries ne = refl
others_of_not_told SeenPlaces ne = tt
others_of_not_told SeenGiven ne = absurd (ne refl)
others_of_not_told SeenThrough ne = reading_seen

pub seen_given_needed : FailsToSee SeenGiven event_not_told
seen_given_needed = record { others = others_of_not_told; wrong = not_told_wrong }

not_drained_wrong : IsSeenRight not_drained → ⊥
unfolding matches
not_drained_wrong e = cc (e)

others_of_not_drained : (other : SeenPremise) → other ≢ SeenThrough → MeetsSeen other not_drained
others_of_not_drained SeenLegal ne = not_drained_legal
others_of_not_drained SeenClients ne = have_own not_drained.history (refl, (tt, (tt, (tt, (refl, (tt, tt))))))
others_of_not_drained SeenSends ne = have_runs not_drained.history (tt, (tt, (tt, (tt, (tt, (tt, tt))))))
others_of_not_drained SeenEntries ne = refl
others_of_not_drained SeenPlaces ne = tt
others_of_not_drained SeenGiven ne = record { named_so = refl }
others_of_not_drained SeenThrough ne = absurd (ne refl)

pub seen_through_needed : FailsToSee SeenThrough not_drained
seen_through_needed = record { others = others_of_not_drained; wrong = not_drained_wrong }
