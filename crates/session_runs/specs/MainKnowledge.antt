-- What the main thread knows of the engine from its own calls: nobody else registers clients, begins or checks transitions, or
-- closes the engine.
use Rattle.std.specs.Prelude.{ℕ, Bool, true, false, if◌then◌else◌, List, [], ◌∷◌, map, Option, Some, None, Result, Ok, Err}
use Rattle.daq_types.specs.Callers.{main_caller}
use Rattle.daq_types.specs.declared.runs.RunState.{RunState}
use Rattle.daq_types.specs.declared.runs.RunState.TheVariants.{Stopped}
use Rattle.daq_types.specs.declared.runs.Transition.{Transition}
use Rattle.daq_types.specs.declared.runs.StartOutcome.{StartOutcome}
use Rattle.daq_types.specs.declared.runs.StartOutcome.TheVariants.{Completed}
use Rattle.transitions.specs.States.{is_allowed, run_state_after}
use Rattle.transitions.specs.declared.client.Registered.{Registered}
use Rattle.transitions.specs.declared.replies.BeginRefusal.{BeginRefusal}
use Rattle.transitions.specs.declared.replies.BeginRefusal.TheVariants.{Closed as BeginClosed, InProgress, WrongState}
use Rattle.transitions.specs.declared.entry.EngineEntry.TheVariants.{Close}
use Rattle.transitions.specs.EngineCalls.{start_reply}
use Rattle.transitions.specs.EnginePoints.{Ended, engine_news, engine_past, clients_at, starts_at, transition_at}
use Rattle.transitions.specs.TurnOrder.{number_with}
use Rattle.member_model.specs.RunEngines.{EngineEntry, EngineNews}

-- what the main thread knows
pub record MainKnows : Type 0 where
  -- whether it closed the engine
  pub closed : Bool
  -- the clients that it registered, in order
  pub clients : List Registered
  -- how many starts it began: the number of the last one
  pub starts : ℕ
  -- the transition that it began, and whose end it was not told yet
  pub going : Option Transition
  -- the run state where none is going on: that to which the transitions led whose ends it was told
  pub state : RunState

-- whether one of these calls, the latest of which stands first, closed the engine
abbrev pub is_closed_by : EngineEntry → Bool → Bool
is_closed_by (Close (Ok done)) before = true
is_closed_by entry before = before

abbrev pub is_closed_at : List (ℕ × EngineEntry) → Bool
is_closed_at [] = false
is_closed_at (e ∷ past) = is_closed_by e.1 (is_closed_at past)

-- the run state behind a transition that was going on and ended so: a start that was refused changes nothing
abbrev pub state_behind : StartOutcome → Option Transition → RunState → RunState
state_behind Completed (Some t) state = run_state_after state t
state_behind outcome going state = state

abbrev pub state_told_by : EngineNews → (going : Option Transition) → RunState → RunState
state_told_by (Ended outcome) going state = state_behind outcome going state
state_told_by news going state = state

-- the run state to which the transitions led whose ends were told
abbrev pub state_told_at : List (ℕ × EngineEntry) → RunState
state_told_at [] = Stopped
state_told_at (e ∷ past) = state_told_by (engine_news e.1) (transition_at past) (state_told_at past)

-- what calls tell, the latest of which stands first
abbrev pub known_at : List (ℕ × EngineEntry) → MainKnows
known_at past = record {
  closed = is_closed_at past;
  clients = clients_at past;
  starts = starts_at past;
  going = transition_at past;
  state = state_told_at past;
}

abbrev pub entry_of_main : EngineEntry → ℕ × EngineEntry
entry_of_main entry = (main_caller, entry)

-- what the main thread knows from its own calls, in their order
abbrev pub known_from : (own : List EngineEntry) → MainKnows
known_from own = known_at (engine_past (map entry_of_main own))

-- The reply of a begin, as the main thread can tell it before: the engine is closed, or a transition is going on, or the state
-- does not allow this one, or the last start number was given; else it is the start number.
abbrev pub begin_known_in : Option Transition → RunState → (starts : ℕ) → Transition → Result ℕ BeginRefusal
begin_known_in (Some going) state starts t = Err (InProgress going)
begin_known_in None state starts t = if is_allowed state t then start_reply t starts else Err (WrongState state)

abbrev pub begin_known : MainKnows → Transition → Result ℕ BeginRefusal
begin_known k t = if k.closed then Err BeginClosed else begin_known_in k.going k.state k.starts t

-- what the main thread knows behind a transition that it made and that ended so
abbrev pub known_behind : Transition → StartOutcome → MainKnows → MainKnows
known_behind t outcome k = record {
  closed = k.closed;
  clients = k.clients;
  starts = number_with t k.starts;
  going = None;
  state = state_behind outcome (Some t) k.state;
}
