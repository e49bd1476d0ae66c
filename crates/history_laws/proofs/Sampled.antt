-- The samples meet what is said of them.
use Rattle.std.specs.Prelude.{◌≡◌, ◌≢◌, ℕ, List, [], ◌∷◌, ◌++◌, Ok, refl, ⊤}
use Rattle.std.specs.List.{AllByRecursion}
use Rattle.std.proofs.Common.{ap, subst, arith}
use Rattle.daq_types.specs.Callers.{entries_by}
use Rattle.daq_types.specs.declared.events.Event.{Event}
use Rattle.event.specs.Events.{matches, slot_of_length}
use Rattle.buffer_core.specs.declared.gate.RunGate.TheVariants.{Shut}
use Rattle.buffer_core.specs.declared.replies.Received.TheVariants.{Got, Empty}
use Rattle.buffer_core.specs.declared.entry.BufferEntry.{BufferEntry}
use Rattle.buffer_core.specs.declared.entry.BufferEntry.TheVariants.{Attach, SendInRun, Receive, End}
use Rattle.buffer_core.specs.Window.{opening, no_clients, no_requests, any}
use Rattle.buffer_core.specs.Histories.{IsLegal}
use Rattle.buffer_core.specs.Points.{past_of}
use Rattle.buffer_core.specs.Samples.{sample_event, longer_event}
use Rattle.member_model.specs.OwnCalls.{IsOwnCall, AreOwnCalls}
use Rattle.member_model.specs.ReadRuns.{HasReadRun}
use Rattle.history_laws.specs.OneCaller.{HaveOwnClients, SendsInRuns, HaveRunSends, IsCallersPart}
use Rattle.history_laws.specs.CallerLaws.{IsSendOf}
use Rattle.history_laws.specs.CallerSamples.{ReadPremise, LegalHistory, OwnClients, CallersEntries, SentEvents, RunIsRead, MeetsPremise, IsReadRight, FailsWithout, IsUnsent, with_own_run, got_first, drained_calls, reading_calls, reading_history, read_whole, found_nothing, got_by_other, call_left_out, other_event_told, not_drained, sent_in_none, sent_in_other, asked_level}
use Rattle.history_laws.proofs.Pasts.{OwnPast, own_cases, own_after}
use Rattle.history_laws.proofs.OwnPlaces.{all_back}
use Rattle.history_laws.proofs.Sending.{each_of_all}

-- All callers at once.

-- each entry is a call on a client of its caller's own
abbrev EachIsOwn : List (ℕ × BufferEntry) → Type 0
EachIsOwn [] = ⊤
EachIsOwn (x ∷ past) = IsOwnCall x.1 (entries_by x.0 past) × EachIsOwn past

own_from_each : (past : List (ℕ × BufferEntry)) → EachIsOwn past → OwnPast past
own_from_each [] each by = tt
own_from_each (x ∷ past) each by =
    own_cases by x past AreOwnCalls
    (λ same. (subst (λ (n : ℕ). IsOwnCall x.1 (entries_by n past)) same each.0, own_from_each past each.1 by))
    (λ other. own_from_each past each.1 by)

pub have_own : (h : List (ℕ × BufferEntry)) → EachIsOwn (past_of h) → HaveOwnClients h
have_own h each by = subst AreOwnCalls (own_after by [] h) (own_from_each (past_of h) each by)

-- what holds of all entries holds of each caller's
pub all_entries : (P : BufferEntry → Type 0) (by : ℕ) (h : List (ℕ × BufferEntry)) → AllByRecursion (λ (x : ℕ × BufferEntry). P x.1) h → AllByRecursion P (entries_by by h)
all_entries P by [] all = tt
all_entries P by (x ∷ xs) all = own_cases by x xs (AllByRecursion P) (λ same. (all.0, all_entries P by xs all.1)) (λ other. all_entries P by xs all.1)

pub have_runs : (h : List (ℕ × BufferEntry)) → AllByRecursion (λ (x : ℕ × BufferEntry). SendsInRuns x.1) h → HaveRunSends h
have_runs h all by = each_of_all SendsInRuns (entries_by by h) (all_entries SendsInRuns by h all)

-- A run that was read.

pub reading_legal : IsLegal (opening 48) reading_history
unfolding no_clients no_requests slot_of_length matches
reading_legal = (refl, (refl, (refl, (refl, (refl, (refl, (refl, tt)))))))

pub reading_own : HaveOwnClients reading_history
reading_own = have_own reading_history (refl, (tt, (refl, (tt, (tt, (refl, (tt, tt)))))))

read_with : (e : Event) → HasReadRun reading_calls (got_first e ∷ []) 0 any any 0 1 0 1 (e ∷ [])
read_with e =
    record {
      drained = with_own_run (Receive 0 0 (Got 0 1) ∷ End 1 (Ok 1) ∷ []);
      room = 0;
      reply = Empty Shut 1;
      later = [];
      own_is = refl;
      got_by = got_first e ∷ [];
      got_later = [];
      got_is = refl;
      reads = record {
        asking = [];
        running = Receive 0 0 (Got 0 1) ∷ [];
        draining = Receive 0 0 (Empty Shut 1) ∷ [];
        asked = record { before = Attach [] (Ok 0) ∷ []; whole = refl; alone = λ n. refl };
        asks_on = tt;
        no_begin = tt;
        reads_on = (tt, tt);
        no_end = (tt, tt);
        drains_on = (tt, tt);
        earlier = [];
        given_running = got_first e ∷ [];
        given_draining = [];
        got_is = refl;
        gives_running = record { named_so = refl };
        gives_draining = record { named_so = refl };
        events_are = refl;
      };
      drains = tt;
    }

pub all_met : (premise : ReadPremise) → MeetsPremise premise read_whole
all_met LegalHistory = reading_legal
all_met OwnClients = reading_own
all_met CallersEntries = refl
all_met SentEvents = (refl, tt)
all_met RunIsRead = read_with sample_event

pub read_right : IsReadRight read_whole
unfolding matches
read_right = refl

-- Without one of them.

drained_read : HasReadRun drained_calls [] 0 any any 0 1 0 1 []
drained_read =
    record {
      drained = with_own_run (End 1 (Ok 1) ∷ []);
      room = 0;
      reply = Empty Shut 1;
      later = [];
      own_is = refl;
      got_by = [];
      got_later = [];
      got_is = refl;
      reads = record {
        asking = [];
        running = [];
        draining = Receive 0 0 (Empty Shut 1) ∷ [];
        asked = record { before = Attach [] (Ok 0) ∷ []; whole = refl; alone = λ n. refl };
        asks_on = tt;
        no_begin = tt;
        reads_on = tt;
        no_end = tt;
        drains_on = (tt, tt);
        earlier = [];
        given_running = [];
        given_draining = [];
        got_is = refl;
        gives_running = record { named_so = refl };
        gives_draining = record { named_so = refl };
        events_are = refl;
      };
      drains = tt;
    }

nothing_right : IsReadRight found_nothing → ⊥
unfolding matches
nothing_right e = cc (e)

others_of_nothing : (other : ReadPremise) → other ≢ LegalHistory → MeetsPremise other found_nothing
others_of_nothing LegalHistory ne = absurd (ne refl)
others_of_nothing OwnClients ne = have_own found_nothing.history (refl, (tt, (tt, (tt, (refl, (tt, tt))))))
others_of_nothing CallersEntries ne = refl
others_of_nothing SentEvents ne = tt
others_of_nothing RunIsRead ne = drained_read

pub legal_needed : FailsWithout LegalHistory found_nothing
legal_needed = record { others = others_of_nothing; wrong = nothing_right }

pub other_legal : IsLegal (opening 48) got_by_other.history
unfolding no_clients no_requests slot_of_length matches
other_legal = (refl, (refl, (refl, (refl, (refl, (refl, (refl, tt)))))))

other_right : IsReadRight got_by_other → ⊥
unfolding matches
other_right e = cc (e)

others_of_other : (other : ReadPremise) → other ≢ OwnClients → MeetsPremise other got_by_other
others_of_other LegalHistory ne = other_legal
others_of_other OwnClients ne = absurd (ne refl)
others_of_other CallersEntries ne = refl
others_of_other SentEvents ne = tt
others_of_other RunIsRead ne = drained_read

pub clients_needed : FailsWithout OwnClients got_by_other
clients_needed = record { others = others_of_other; wrong = other_right }

left_right : IsReadRight call_left_out → ⊥
unfolding matches
left_right e = cc (e)

others_of_left : (other : ReadPremise) → other ≢ CallersEntries → MeetsPremise other call_left_out
others_of_left LegalHistory ne = reading_legal
others_of_left OwnClients ne = reading_own
others_of_left CallersEntries ne = absurd (ne refl)
others_of_left SentEvents ne = tt
others_of_left RunIsRead ne = drained_read

pub calls_needed : FailsWithout CallersEntries call_left_out
calls_needed = record { others = others_of_left; wrong = left_right }

bodies_of : List Event → List ℕ
bodies_of [] = []
bodies_of (e ∷ es) = e.body ++ bodies_of es

-- the two events of the samples are not one
pub other_events : longer_event ∷ [] ≡ sample_event ∷ [] → ⊥
unfolding bodies_of
other_events e = let same : bodies_of (longer_event ∷ []) ≡ bodies_of (sample_event ∷ []) = ap bodies_of e in cc (same)

told_right : IsReadRight other_event_told → ⊥
unfolding matches
told_right e = other_events e

others_of_told : (other : ReadPremise) → other ≢ SentEvents → MeetsPremise other other_event_told
others_of_told LegalHistory ne = reading_legal
others_of_told OwnClients ne = reading_own
others_of_told CallersEntries ne = refl
others_of_told SentEvents ne = absurd (ne refl)
others_of_told RunIsRead ne = read_with longer_event

pub events_needed : FailsWithout SentEvents other_event_told
events_needed = record { others = others_of_told; wrong = told_right }

pub not_drained_legal : IsLegal (opening 48) not_drained.history
unfolding no_clients no_requests slot_of_length matches
not_drained_legal = (refl, (refl, (refl, (refl, (refl, (refl, tt))))))

not_drained_right : IsReadRight not_drained → ⊥
unfolding matches
not_drained_right e = cc (e)

others_of_drained : (other : ReadPremise) → other ≢ RunIsRead → MeetsPremise other not_drained
others_of_drained LegalHistory ne = not_drained_legal
others_of_drained OwnClients ne = have_own not_drained.history (refl, (tt, (tt, (tt, (refl, (tt, tt))))))
others_of_drained CallersEntries ne = refl
others_of_drained SentEvents ne = tt
others_of_drained RunIsRead ne = absurd (ne refl)

pub drained_needed : FailsWithout RunIsRead not_drained
drained_needed = record { others = others_of_drained; wrong = not_drained_right }

-- Who sent.

abbrev NotInRunOne : BufferEntry → Type 0
NotInRunOne (SendInRun start stated e reply) = start ≢ 1
NotInRunOne entry = ⊤

never_sent : (h : List (ℕ × BufferEntry)) (caller : ℕ) (e : Event) → AllByRecursion (λ (x : ℕ × BufferEntry). NotInRunOne x.1) h → IsSendOf (entries_by caller h) 1 0 e → ⊥
never_sent h caller e all is =
    let mine : AllByRecursion NotInRunOne (entries_by caller h) = all_entries NotInRunOne caller h all in
    (all_back NotInRunOne is.before (SendInRun 1 is.stated e (Ok 0) ∷ is.after) (subst (AllByRecursion NotInRunOne) is.stands mine)).0 refl

pub none_is_legal : IsLegal (opening 48) sent_in_none
unfolding no_clients slot_of_length
none_is_legal = (refl, (refl, tt))

pub none_unsent : IsUnsent sent_in_none
none_unsent = record { sent = record { event = sample_event; start = 0 }; stands = refl; by_none = λ caller is. never_sent sent_in_none caller sample_event (tt, (tt, tt)) is }

pub other_runs : HaveRunSends sent_in_other
other_runs = have_runs sent_in_other (tt, (tt, tt))

pub other_unsent : IsUnsent sent_in_other
other_unsent = record { sent = record { event = sample_event; start = 2 }; stands = refl; by_none = λ caller is. never_sent sent_in_other caller sample_event (tt, ((λ same. absurd (omega (arith, same))), tt)) is }

-- A caller that goes on.

pub empty_part : IsCallersPart [] 1 [] []
empty_part = record { own_is = refl; sent_so = tt }

pub no_silent_part : IsCallersPart asked_level 1 [] [] → ⊥
no_silent_part part = cc (part.own_is)
