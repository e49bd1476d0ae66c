-- A call on an engine as one step of its lock.
use Rattle.std.specs.Prelude.{◌≡◌, ℕ}
use Rattle.transitions.specs.EngineCalls.{IsEngineReply, engine_after}
use Rattle.member_model.specs.RunEngines.{EngineEntry, EngineState, IsEngineCaller}

-- the caller may make the call, whose reply is the one that the state before gives, and the state after is the one that the
-- call leaves
pub record StepsEngine (before : EngineState) (caller : ℕ) (entry : EngineEntry) (after : EngineState) : Type 0 where
  pub may : IsEngineCaller caller entry
  pub reply : IsEngineReply before entry
  pub after_is : after ≡ engine_after before entry
