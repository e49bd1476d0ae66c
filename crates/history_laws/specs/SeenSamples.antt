-- A run that a client saw through, which meets all that the law of it asks; and others, each of which meets all but one, and
-- for which what the law says is false.
use Rattle.std.specs.Prelude.{◌≡◌, ◌≢◌, [], ◌∷◌, Ok}
use Rattle.std.specs.List.{AllByRecursion}
use Rattle.daq_types.specs.Callers.{entries_by}
use Rattle.buffer_core.specs.declared.gate.RunGate.TheVariants.{Shut}
use Rattle.buffer_core.specs.declared.replies.Received.TheVariants.{Got, Empty}
use Rattle.buffer_core.specs.declared.entry.BufferEntry.TheVariants.{Send, Receive, End}
use Rattle.buffer_core.specs.Window.{opening, any}
use Rattle.buffer_core.specs.Histories.{IsLegal}
use Rattle.buffer_core.specs.Runs.{segment}
use Rattle.buffer_core.specs.Readers.{wanted}
use Rattle.buffer_core.specs.Samples.{sample_event}
use Rattle.member_model.specs.OwnCalls.{AreGivenBy}
use Rattle.history_laws.specs.OneCaller.{WasSentAt, HaveOwnClients, HaveRunSends, events_in}
use Rattle.member_model.specs.GotRuns.{events_of_start}
use Rattle.history_laws.specs.SeenRuns.{SeesRun}
use Rattle.history_laws.specs.CallerSamples.{RunSample, with_run, with_own_run, reading_history, reading_calls}

-- what the law asks
pub data SeenPremise : Type 0 where
  SeenLegal : SeenPremise
  SeenClients : SeenPremise
  SeenSends : SeenPremise
  SeenEntries : SeenPremise
  SeenPlaces : SeenPremise
  SeenGiven : SeenPremise
  SeenThrough : SeenPremise

-- of caller 1 with its client 0, which asks for all events, in run 1 that ends at place 1, in 48 bytes
abbrev pub MeetsSeen : SeenPremise → RunSample → Type 0
MeetsSeen SeenLegal s = IsLegal (opening 48) s.history
MeetsSeen SeenClients s = HaveOwnClients s.history
MeetsSeen SeenSends s = HaveRunSends s.history
MeetsSeen SeenEntries s = s.own ≡ entries_by 1 s.history
MeetsSeen SeenPlaces s = AllByRecursion (WasSentAt s.history) s.got
MeetsSeen SeenGiven s = AreGivenBy s.own s.got
MeetsSeen SeenThrough s = SeesRun s.history 1 0 any any 1 1

-- what the law says of it
abbrev pub IsSeenRight : RunSample → Type 0
IsSeenRight s = events_of_start 0 1 s.got ≡ events_in (wanted any any (segment s.history 1))

-- all but this premise are met, and the events are wrong
pub record FailsToSee (premise : SeenPremise) (s : RunSample) : Type 0 where
  pub others : (other : SeenPremise) → other ≢ premise → MeetsSeen other s
  pub wrong : IsSeenRight s → ⊥

-- an event that was sent in no run stands between the marks, and is got
abbrev pub got_of_none : RunSample
got_of_none = record {
  history = with_run ((2, Send 0 sample_event (Ok 0)) ∷ (1, Receive 0 0 (Got 0 0)) ∷ (1, End 1 (Ok 1)) ∷ (1, Receive 0 0 (Empty Shut 1)) ∷ []);
  own = with_own_run (Receive 0 0 (Got 0 0) ∷ End 1 (Ok 1) ∷ Receive 0 0 (Empty Shut 1) ∷ []);
  got = record { client = 0; place = 0; start = 0; event = sample_event } ∷ [];
  events = [];
}

-- an event that a call gave is not told
abbrev pub event_not_told : RunSample
event_not_told = record { history = reading_history; own = reading_calls; got = []; events = [] }
