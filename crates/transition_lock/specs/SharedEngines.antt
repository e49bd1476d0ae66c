-- What contracts see of a shared engine.
use Rattle.member_model.specs.RunEngines.{EngineEntry, EngineState}
use Rattle.turn_lock.specs.declared.lock.Turns.{Turns}
use Rattle.turn_lock.specs.Passes.{first_value}
use Rattle.transition_lock.specs.declared.locked.LockedEngine.{LockedEngine}
use Rattle.transition_lock.specs.declared.shared.SharedEngine.{SharedEngine}

-- the lock, whose passes the calls take
abbrev pub engine_lock_of : SharedEngine → Turns LockedEngine EngineState EngineEntry
engine_lock_of shared = shared.turns

-- the engine as it came to be shared
abbrev pub first_engine : SharedEngine → EngineState
first_engine shared = (first_value (engine_lock_of shared)).engine
