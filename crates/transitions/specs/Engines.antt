-- The engine as its calls see it.
use Rattle.std.specs.Prelude.{ℕ, Bool, false, List, [], Option, None}
use Rattle.daq_types.specs.declared.runs.RunState.{RunState}
use Rattle.daq_types.specs.declared.runs.RunState.TheVariants.{Stopped}
use Rattle.daq_types.specs.declared.runs.Transition.{Transition}
use Rattle.daq_types.specs.declared.runs.Order.{Order}
use Rattle.transitions.specs.declared.client.Registered.{Registered}
use Rattle.transitions.specs.declared.called.Called.{Called}
use Rattle.transitions.specs.declared.answers.ClientTally.{ClientTally}
use Rattle.transitions.specs.declared.engine.Refusal.{Refusal}

-- a transition in progress
pub record Underway (R : Type 0) : Type 0 where
  -- the one that was begun
  pub transition : Transition
  pub order : Order
  -- the dump and the blank reports that are not yet given
  pub dump : Option (List ℕ)
  pub blanks : List R
  -- the clients that were given no turn yet, in order; those of the group whose turn it is stand in front
  pub called : List Called
  -- the clients of that group that were given their turn and have not answered, in the order of their polls
  pub polled : List Called
  -- the first refusal of a start
  pub refusal : Option Refusal
  -- whether clients are called for start-abort: a start was refused, and all its turns are answered
  pub is_off : Bool
  -- the answers so far
  pub tallies : List (ClientTally R)

pub record EngineState (R : Type 0) : Type 0 where
  pub closed : Bool
  pub state : RunState
  -- the number of the last start, 0 before the first
  pub start : ℕ
  -- the registered clients by number
  pub clients : List Registered
  pub underway : Option (Underway R)

module _ {R : Type 0} where
  -- a new engine
  abbrev pub engine_opening : EngineState R
  engine_opening = record { closed = false; state = Stopped; start = 0; clients = []; underway = None }
