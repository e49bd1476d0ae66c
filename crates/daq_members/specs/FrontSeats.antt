-- A front-end in a session, with its own port to its buffer and its own access to the database.
use Rattle.std.specs.Prelude.{◌≡◌, ℕ, ◌≤◌, Bool, true, List, Option}
use Rattle.daq_types.specs.Callers.{caller_of_client}
use Rattle.daq_types.specs.declared.events.Event.{Event}
use Rattle.daq_types.specs.declared.runs.Order.{Order}
use Rattle.buffer_core.specs.Ports.{Access}
use Rattle.odb_watch.specs.DatabasePorts.{DatabaseAccess, IsSamePort, own_watched}
use Rattle.member_model.specs.RunEngines.{EngineEntry}
use Rattle.transition_lock.specs.declared.shared.SharedEngine.{SharedEngine}
use Rattle.front_ends.specs.declared.front_run.FrontRun.{FrontRun}
use Rattle.front_ends.specs.Fronts.{FrontState}
use Rattle.loggers.specs.Moments.{IsSameAccess}
use Rattle.member_crew.specs.declared.turned.Turned.{Turned}
use Rattle.daq_members.specs.OwnTurns.{are_calls_for}
use Rattle.daq_members.specs.EngineClients.{EngineClientSeen, MemberClientSeen, at_first}
use Rattle.daq_members.specs.TracedPorts.{TracedPortSeen, untraced}
use Rattle.daq_members.specs.FrontTaken.{FrontTaken, FrontMemberStands}

-- A front-end in a session: the engine that it asks, its client number, its name, its equipment, and its run; its
-- calls on the engine; its access to its buffer; the moments of its turns, the latest first: how many calls it had made there when
-- it answered each, or when it was given it, while it has no answer; its access to the database; and that as it stood when it
-- answered last.
pub record FrontSeen (E : Type 0) : Type 0 where
  pub engine : SharedEngine
  pub client : ℕ
  pub name : List ℕ
  pub equipment : E
  pub run : Option FrontRun
  pub calls : List EngineEntry
  pub port : Access
  pub moments : List ℕ
  pub database : DatabaseAccess
  pub stood : DatabaseAccess

-- a front-end, by its client at the engine, its name, what it does, its port, and its database
abbrev pub front_of_parts : {E D : Type 0} → (access : D → DatabaseAccess) → MemberClientSeen D → (name : List ℕ) → FrontState E → TracedPortSeen →
    (database : D) → FrontSeen E
front_of_parts access engine name front port database = record {
  engine = engine.engine;
  client = engine.client;
  name = name;
  equipment = front.equipment;
  run = front.run;
  calls = engine.calls;
  port = port.access;
  moments = port.moments;
  database = access database;
  stood = access engine.stood;
}

-- what is seen of a front-end that took no turn yet, by its client at the engine, its name, what it does, its port and its access
abbrev pub front_seen : {E : Type 0} → EngineClientSeen → (name : List ℕ) → FrontState E → Access → DatabaseAccess → FrontSeen E
front_seen engine name front port database =
    front_of_parts (λ (a : DatabaseAccess). a) (at_first engine database) name front (untraced port) database

-- On the engine the front-end polls and answers for its own client alone; the port and the access are the client's own, an
-- event fits into the buffer, and the front-end keeps its contract over its own calls on engine, buffer and database.
pub record IsSeated {E : Type 0} (takes : E → Order → Bool) (makes : E → Order → ℕ → Event) (front : FrontSeen E) : Type 0 where
  pub speaks : are_calls_for front.client front.calls ≡ true
  pub caller : front.port.caller ≡ caller_of_client front.client
  pub database_caller : front.database.caller ≡ caller_of_client front.client
  pub size : 104 ≤ front.port.size
  pub stands : FrontMemberStands front.client front.name (takes front.equipment) (makes front.equipment) front.run
      front.calls front.port.own front.moments (own_watched front.database)

module _ {E : Type 0} (takes : E → Order → Bool) (makes : E → Order → ℕ → Event) where
  -- a turn of the front-end, by what is seen of it before and behind
  abbrev pub front_taken : (before after : FrontSeen E) → Turned → FrontTaken
  front_taken before after turned = record {
    client = before.client;
    name = before.name;
    takes = takes before.equipment;
    makes = makes before.equipment;
    run = before.run;
    later_run = after.run;
    calls = before.calls;
    later_calls = after.calls;
    port = before.port;
    later_port = after.port;
    moments = before.moments;
    later_moments = after.moments;
    database = before.database;
    later_database = after.database;
    stood = after.stood;
    turned = turned;
  }

  -- The same front-end with the same equipment: it asks the same engine by the same client number, and leads to the
  -- same buffer and the same database.
  pub record IsSameFront (before after : FrontSeen E) : Type 0 where
    pub engine : after.engine ≡ before.engine
    pub client : after.client ≡ before.client
    pub name : after.name ≡ before.name
    pub takes_as : takes after.equipment ≡ takes before.equipment
    pub makes_as : makes after.equipment ≡ makes before.equipment
    pub port : IsSameAccess before.port after.port
    pub database : IsSamePort before.database after.database
