-- How an engine is kept, and what is known of it.
use Rattle.std.specs.Prelude.{◌≡◌, ℕ, ◌+◌, ◌≤◌, ◌<◌, List, length, Option, Some, None, IsTrue, if◌then◌else◌, ⊤}
use Rattle.std.specs.List.{AllByRecursion}
use Rattle.std.specs.Global.{Vec}
use Rattle.daq_types.specs.declared.runs.RunState.{RunState}
use Rattle.transitions.specs.States.{is_allowed}
use Rattle.transitions.specs.declared.client.Registered.{Registered}
use Rattle.transitions.specs.declared.called.Called.{Called}
use Rattle.transitions.specs.declared.answers.ClientTally.{ClientTally}
use Rattle.transitions.specs.declared.engine.Stage.{Stage}
use Rattle.transitions.specs.Limits.{most_clients, most_tallies}
use Rattle.transitions.specs.Rooms.{HasSpaceFor}
use Rattle.transitions.specs.Engines.{Underway}
use Rattle.transitions.specs.EngineHistories.{IsShort}

module _ {R : Type 0} where
  -- a transition in progress has its parts beside it
  abbrev pub underway_of : Option Stage → Option (List ℕ) → List R → (called polled : List Called) → List (ClientTally R) → Option (Underway R)
  underway_of None dump blanks called polled tallies = None
  underway_of (Some stage) dump blanks called polled tallies = Some (record {
    transition = stage.transition;
    order = stage.order;
    dump = dump;
    blanks = blanks;
    called = called;
    polled = polled;
    refusal = stage.refusal;
    is_off = stage.off;
    tallies = tallies;
  })

  -- the state allows a transition that no client refused
  abbrev pub IsChangeAllowed : RunState → Option (Underway R) → Type 0
  IsChangeAllowed state None = ⊤
  IsChangeAllowed state (Some u) = u.refusal ≡ None → IsTrue (is_allowed state u.transition)

-- the tallies that there are and that may still come: once start-abort is begun, some of start besides
abbrev pub most_at : Stage → ℕ
most_at stage = if stage.off then most_tallies else most_clients

module _ {R : Type 0} (is_blank : R → Type 0) where
  pub record IsEngine (state : RunState) (clients : Vec Registered) (stage : Option Stage) (dump : Option (List ℕ)) (blanks : List R) (called polled : Vec Called) (tallies : List (ClientTally R)) : Type 0 where
    pub clients_fit : HasSpaceFor most_clients clients
    pub called_fit : HasSpaceFor most_clients called
    pub polled_fit : HasSpaceFor most_clients polled
    -- all who have yet to answer have room in each of the two lists
    pub open_fit : length polled.items + length called.items ≤ most_clients
    pub tallies_fit : (now : Stage) → stage ≡ Some now → length tallies + (length polled.items + length called.items) ≤ most_at now
    -- while an answer is awaited and no client refused, the transition is one that the state allows
    pub allowed : (now : Stage) → stage ≡ Some now → now.refusal ≡ None → 0 < length polled.items + length called.items → IsTrue (is_allowed state now.transition)
    pub short : IsShort dump
    pub blank : AllByRecursion is_blank blanks
