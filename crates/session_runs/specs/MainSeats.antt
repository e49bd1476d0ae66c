-- The main thread's place at a shared engine, as contracts see it.
use Rattle.std.specs.Prelude.{◌≡◌, false, List, None}
use Rattle.transition_lock.specs.declared.shared.SharedEngine.{SharedEngine}
use Rattle.member_model.specs.RunEngines.{EngineEntry}
use Rattle.session_runs.specs.MainKnowledge.{known_from}

-- the engine, and the main thread's own calls on it with their replies, in order
pub record MainSeen : Type 0 where
  pub engine : SharedEngine
  pub own : List EngineEntry

-- The main thread stands between two transitions: by its own calls none is in progress, and the engine is open.
pub record StandsFree (own : List EngineEntry) : Type 0 where
  pub open_yet : (known_from own).closed ≡ false
  pub none_going : (known_from own).going ≡ None
