-- A run that a caller read, which meets all that the law of it asks; and others, each of which meets all but one, and for
-- which what the law says is false.
use Rattle.std.specs.Prelude.{◌≡◌, ◌≢◌, ℕ, List, [], ◌∷◌, slice_get, Some, Ok, Err}
use Rattle.std.specs.List.{AllByRecursion}
use Rattle.daq_types.specs.Callers.{entries_by}
use Rattle.daq_types.specs.declared.events.Event.{Event}
use Rattle.daq_types.specs.declared.runs.Kind.TheVariants.{All}
use Rattle.buffer_core.specs.declared.gate.RunGate.TheVariants.{Shut}
use Rattle.buffer_core.specs.declared.replies.MarkRefusal.TheVariants.{WrongGate}
use Rattle.buffer_core.specs.declared.replies.Received.TheVariants.{Got, Empty}
use Rattle.buffer_core.specs.declared.entry.BufferEntry.{BufferEntry}
use Rattle.buffer_core.specs.declared.entry.BufferEntry.TheVariants.{Attach, Request, Cancel, Send, SendInRun, Receive, Begin, End, Level}
use Rattle.buffer_core.specs.Window.{Sent, opening, any}
use Rattle.buffer_core.specs.Histories.{IsLegal}
use Rattle.buffer_core.specs.Runs.{segment}
use Rattle.buffer_core.specs.Readers.{wanted}
use Rattle.buffer_core.specs.Ports.{GotEvent}
use Rattle.buffer_core.specs.Samples.{sample_event, longer_event}
use Rattle.member_model.specs.ReadRuns.{HasReadRun}
use Rattle.member_model.specs.CutRuns.{MarksEnd}
use Rattle.member_model.specs.EndedRuns.{EndsBegun}
use Rattle.history_laws.specs.OneCaller.{WasSentAt, HaveOwnClients, events_in}
use Rattle.history_laws.specs.CallerLaws.{IsSendOf}

-- a history, a caller's own calls, the events that it got, and those of the run that it read
pub record RunSample : Type 0 where
  pub history : List (ℕ × BufferEntry)
  pub own : List BufferEntry
  pub got : List GotEvent
  pub events : List Event

-- what the law asks
pub data ReadPremise : Type 0 where
  LegalHistory : ReadPremise
  OwnClients : ReadPremise
  CallersEntries : ReadPremise
  SentEvents : ReadPremise
  RunIsRead : ReadPremise

-- of caller 1 with its client 0, which asks for all events by its request 0, in run 1 from place 0 to 1, in 48 bytes
abbrev pub MeetsPremise : ReadPremise → RunSample → Type 0
MeetsPremise LegalHistory s = IsLegal (opening 48) s.history
MeetsPremise OwnClients s = HaveOwnClients s.history
MeetsPremise CallersEntries s = s.own ≡ entries_by 1 s.history
MeetsPremise SentEvents s = AllByRecursion (WasSentAt s.history) s.got
MeetsPremise RunIsRead s = HasReadRun s.own s.got 0 any any 0 1 0 1 s.events

-- what the law says of it
abbrev pub IsReadRight : RunSample → Type 0
IsReadRight s = s.events ≡ events_in (wanted any any (segment s.history 1))

-- all but this premise are met, and the events are wrong
pub record FailsWithout (premise : ReadPremise) (s : RunSample) : Type 0 where
  pub others : (other : ReadPremise) → other ≢ premise → MeetsPremise other s
  pub wrong : IsReadRight s → ⊥

-- a client that asks for all events, and a run that begins
abbrev pub with_run : List (ℕ × BufferEntry) → List (ℕ × BufferEntry)
with_run es = (1, Attach [] (Ok 0)) ∷ (1, Request 0 any any All (Ok 0)) ∷ (1, Begin 1 (Ok 0)) ∷ es

abbrev pub with_own_run : List BufferEntry → List BufferEntry
with_own_run es = Attach [] (Ok 0) ∷ Request 0 any any All (Ok 0) ∷ Begin 1 (Ok 0) ∷ es

abbrev pub got_first : Event → GotEvent
got_first e = record { client = 0; place = 0; start = 1; event = e }

abbrev pub drained_calls : List BufferEntry
drained_calls = with_own_run (End 1 (Ok 1) ∷ Receive 0 0 (Empty Shut 1) ∷ [])

abbrev pub reading_calls : List BufferEntry
reading_calls = with_own_run (Receive 0 0 (Got 0 1) ∷ End 1 (Ok 1) ∷ Receive 0 0 (Empty Shut 1) ∷ [])

abbrev pub reading_history : List (ℕ × BufferEntry)
reading_history = with_run ((2, SendInRun 1 0 sample_event (Ok 0)) ∷ (1, Receive 0 0 (Got 0 1)) ∷ (1, End 1 (Ok 1)) ∷ (1, Receive 0 0 (Empty Shut 1)) ∷ [])

-- the run has one event, which the client gets before it is drained
abbrev pub read_whole : RunSample
read_whole = record { history = reading_history; own = reading_calls; got = got_first sample_event ∷ []; events = sample_event ∷ [] }

-- the buffer finds nothing, though there is the event
abbrev pub found_nothing : RunSample
found_nothing = record {
  history = with_run ((2, SendInRun 1 0 sample_event (Ok 0)) ∷ (1, End 1 (Ok 1)) ∷ (1, Receive 0 0 (Empty Shut 1)) ∷ []);
  own = drained_calls;
  got = [];
  events = [];
}

-- another caller gets it by this caller's client
abbrev pub got_by_other : RunSample
got_by_other = record {
  history = with_run ((2, SendInRun 1 0 sample_event (Ok 0)) ∷ (2, Receive 0 0 (Got 0 1)) ∷ (1, End 1 (Ok 1)) ∷ (1, Receive 0 0 (Empty Shut 1)) ∷ []);
  own = drained_calls;
  got = [];
  events = [];
}

-- the call that got it is left out of the caller's calls
abbrev pub call_left_out : RunSample
call_left_out = record { history = reading_history; own = drained_calls; got = []; events = [] }

-- another event is told in its place
abbrev pub other_event_told : RunSample
other_event_told = record { history = reading_history; own = reading_calls; got = got_first longer_event ∷ []; events = longer_event ∷ [] }

-- the request is cancelled before the client is drained
abbrev pub not_drained : RunSample
not_drained = record {
  history = with_run ((2, SendInRun 1 0 sample_event (Ok 0)) ∷ (1, End 1 (Ok 1)) ∷ (1, Cancel 0 0 (Ok tt)) ∷ []);
  own = with_own_run (End 1 (Ok 1) ∷ Cancel 0 0 (Ok tt) ∷ []);
  got = [];
  events = [];
}

-- the first event between the marks of run 1 was sent in that run by no caller
pub record IsUnsent (history : List (ℕ × BufferEntry)) : Type 0 where
  pub sent : Sent
  pub stands : slice_get (segment history 1) 0 ≡ Some (0, sent)
  pub by_none : (caller : ℕ) → IsSendOf (entries_by caller history) 1 0 sent.event → ⊥

-- an event stands between the marks of a run that was sent in none
abbrev pub sent_in_none : List (ℕ × BufferEntry)
sent_in_none = (1, Begin 1 (Ok 0)) ∷ (2, Send 0 sample_event (Ok 0)) ∷ []

-- or in another run, where replies are no buffer's
abbrev pub sent_in_other : List (ℕ × BufferEntry)
sent_in_other = (1, Begin 1 (Ok 0)) ∷ (2, SendInRun 2 0 sample_event (Ok 0)) ∷ []

-- a call of the caller itself
abbrev pub asked_level : List (ℕ × BufferEntry)
asked_level = (1, Level 0) ∷ []

-- these calls began run 1 and then called to end it, and none of them ended it
pub record IsNotEnded (own : List BufferEntry) : Type 0 where
  pub begun : EndsBegun own 1
  pub never : (ended : ℕ) → MarksEnd own 1 ended → ⊥

-- another caller ended the run
abbrev pub ended_by_other : List (ℕ × BufferEntry)
ended_by_other = (1, Begin 1 (Ok 0)) ∷ (2, End 1 (Ok 0)) ∷ (1, End 1 (Err (WrongGate Shut))) ∷ []

-- the end of a run that is on is refused, where replies are no buffer's
abbrev pub end_refused : List (ℕ × BufferEntry)
end_refused = (1, Begin 1 (Ok 0)) ∷ (1, End 1 (Err (WrongGate Shut))) ∷ []
