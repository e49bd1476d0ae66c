-- An analyzer in a session, with its own port to its buffer.
use Rattle.std.specs.Prelude.{◌≡◌, ℕ, ◌-◌, ◌≤◌, min, true, List}
use Rattle.daq_types.specs.Callers.{caller_of_client}
use Rattle.event.specs.Events.{event_limit}
use Rattle.buffer_core.specs.Ports.{Access}
use Rattle.member_model.specs.RunEngines.{EngineEntry}
use Rattle.transition_lock.specs.declared.shared.SharedEngine.{SharedEngine}
use Rattle.analyzers.specs.Analyzers.{AnalyzerState, IsWithinGot}
use Rattle.loggers.specs.Moments.{IsSameAccess}
use Rattle.member_crew.specs.declared.turned.Turned.{Turned}
use Rattle.daq_members.specs.OwnTurns.{are_calls_for}
use Rattle.daq_members.specs.EngineClients.{EngineClientSeen, MemberClientSeen, at_first}
use Rattle.daq_members.specs.AnalyzerTaken.{AnalyzerTaken, AnalyzerMemberStands}

-- An analyzer in a session: the engine that it asks, its client number, the analyzer, its calls on the engine, and its
-- access to its buffer, as it is and as it stood when the analyzer answered last.
pub record AnalyzerSeen : Type 0 where
  pub engine : SharedEngine
  pub client : ℕ
  pub analyzer : AnalyzerState
  pub calls : List EngineEntry
  pub port : Access
  pub stood : Access

-- an analyzer, by its client at the engine, what it counts, and its port
abbrev pub analyzer_by : {P : Type 0} → (access : P → Access) → MemberClientSeen P → AnalyzerState → (port : P) → AnalyzerSeen
analyzer_by access engine analyzer port = record {
  engine = engine.engine;
  client = engine.client;
  analyzer = analyzer;
  calls = engine.calls;
  port = access port;
  stood = access engine.stood;
}

-- what is seen of an analyzer that gave no answer yet, by its client at the engine, what it counts, and its port
abbrev pub analyzer_seen : EngineClientSeen → AnalyzerState → Access → AnalyzerSeen
analyzer_seen engine analyzer port = analyzer_by (λ (a : Access). a) (at_first engine port) analyzer port

-- On the engine the analyzer polls and answers for its own client alone; the port is the client's own, each event of the
-- buffer fits into the analyzer's room, and what it counted is no more than it got; and it keeps its contract over its own
-- calls on engine and buffer.
pub record IsAnalyzerSeated (seen : AnalyzerSeen) : Type 0 where
  pub speaks : are_calls_for seen.client seen.calls ≡ true
  pub caller : seen.port.caller ≡ caller_of_client seen.client
  pub room : min event_limit (seen.port.size - 24) ≤ seen.analyzer.room
  pub counted : IsWithinGot seen.analyzer.run seen.port.got
  pub stands : AnalyzerMemberStands seen.client seen.analyzer seen.calls seen.port.own seen.port.got

-- a turn of the analyzer, by what is seen of it before and behind
abbrev pub analyzer_taken : (before after : AnalyzerSeen) → Turned → AnalyzerTaken
analyzer_taken before after turned = record {
  client = before.client;
  calls = before.calls;
  later_calls = after.calls;
  analyzer = before.analyzer;
  later = after.analyzer;
  port = before.port;
  later_port = after.port;
  stood = after.stood;
  turned = turned;
}

-- The same analyzer: it asks the same engine by the same client number, wants the same events, and leads to the same buffer.
pub record IsSameAnalyzer (before after : AnalyzerSeen) : Type 0 where
  pub engine : after.engine ≡ before.engine
  pub client : after.client ≡ before.client
  pub wanted : after.analyzer.wanted ≡ before.analyzer.wanted
  pub room : after.analyzer.room ≡ before.analyzer.room
  pub port : IsSameAccess before.port after.port
