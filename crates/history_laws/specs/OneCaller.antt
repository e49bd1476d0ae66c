-- The calls of one caller in the history of all callers, and what they gave.
use Rattle.std.specs.Prelude.{◌≡◌, ◌≢◌, ℕ, List, [], map, slice_get, Some, ⊤}
use Rattle.std.specs.List.{AllByRecursion}
use Rattle.daq_types.specs.Callers.{entries_by}
use Rattle.daq_types.specs.declared.events.Event.{Event}
use Rattle.buffer_core.specs.declared.entry.BufferEntry.{BufferEntry}
use Rattle.buffer_core.specs.declared.entry.BufferEntry.TheVariants.{Send}
use Rattle.buffer_core.specs.Window.{Sent}
use Rattle.buffer_core.specs.Points.{sent, past_of}
use Rattle.buffer_core.specs.Ports.{GotEvent}
use Rattle.member_model.specs.SentCalls.{EachCall}
use Rattle.member_model.specs.OwnCalls.{calls_after, AreOwnCalls}
use Rattle.member_model.specs.EndedRuns.{MakesNoMark}

-- the event was sent at its place, with its start number
abbrev pub WasSentAt : (history : List (ℕ × BufferEntry)) → GotEvent → Type 0
WasSentAt h g = slice_get (sent (past_of h)) g.place ≡ Some (record { event = g.event; start = g.start })

-- These are the calls of one caller in the history of all callers, and these events were each sent at the place that they
-- have.
pub record IsCallersPart (history : List (ℕ × BufferEntry)) (caller : ℕ) (own : List BufferEntry) (got : List GotEvent) : Type 0 where
  pub own_is : own ≡ entries_by caller history
  pub sent_so : AllByRecursion (WasSentAt history) got

-- each caller of the history names only clients that its own attach gave, and detaches none
abbrev pub HaveOwnClients : (history : List (ℕ × BufferEntry)) → Type 0
HaveOwnClients h = (caller : ℕ) → AreOwnCalls (calls_after [] (entries_by caller h))

-- the call sends no event but in a run
abbrev pub SendsInRuns : BufferEntry → Type 0
SendsInRuns (Send stated e reply) = ⊥
SendsInRuns entry = ⊤

-- no caller of the history sends an event but in a run
abbrev pub HaveRunSends : (history : List (ℕ × BufferEntry)) → Type 0
HaveRunSends h = (caller : ℕ) → EachCall SendsInRuns (entries_by caller h)

-- the events themselves, without their places
abbrev pub events_in : (events : List (ℕ × Sent)) → List Event
events_in events = map (λ e. e.1.event) events

-- no other caller of the history makes marks of runs
abbrev pub MarksAlone : (history : List (ℕ × BufferEntry)) → (caller : ℕ) → Type 0
MarksAlone h caller = (other : ℕ) → other ≢ caller → EachCall MakesNoMark (entries_by other h)
