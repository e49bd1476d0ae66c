-- A client at a shared engine, as contracts see it.
use Rattle.std.specs.Prelude.{ℕ, List}
use Rattle.transition_lock.specs.declared.shared.SharedEngine.{SharedEngine}
use Rattle.member_model.specs.RunEngines.{EngineEntry}

-- the engine that the client asks, its client number, and its own calls on the engine with their replies, in order
pub record EngineClientSeen : Type 0 where
  pub engine : SharedEngine
  pub client : ℕ
  pub calls : List EngineEntry

-- A member's client: the same, and what the member calls by besides the engine, as that stood when the member answered last.
pub record MemberClientSeen (X : Type 0) : Type 0 where
  pub engine : SharedEngine
  pub client : ℕ
  pub calls : List EngineEntry
  pub stood : X

-- this client for a member that gave no answer yet, with what it calls by besides the engine
abbrev pub at_first : {X : Type 0} → EngineClientSeen → (beside : X) → MemberClientSeen X
at_first client beside = record {
  engine = client.engine;
  client = client.client;
  calls = client.calls;
  stood = beside;
}
