-- Where a session stands between two lines of its script, by what its main thread did.
use Rattle.daq_io.specs.Told.{AheadTold, FilesTold}
use Rattle.std.specs.Prelude.{ℕ, List, [], map, Option, Some, None}
use Rattle.std.specs.Option.{option_map}
use Rattle.transition_lock.specs.declared.shared.SharedEngine.{SharedEngine}
use Rattle.odb_watch.specs.DatabasePorts.{DatabaseAccess}
use Rattle.console.specs.DatabaseStages.{DatabaseStage}
use Rattle.session_runs.specs.declared.opening.MemberName.{MemberName}
use Rattle.session_runs.specs.Members.{member_in, registrations}
use Rattle.session_runs.specs.MainSeats.{MainSeen}
use Rattle.session_setup.specs.declared.member.MemberDeclared.{MemberDeclared}
use Rattle.session_setup.specs.DeclaredMembers.{declared_members, name_of_member, role_of_member}
use Rattle.session_setup.specs.Setup.{Declared, lists_declared, nothing_declared}
use Rattle.session_runs.specs.KeptRuns.{RunsSeen, channels_of}

-- Where a session stands.
pub record SessionStage : Type 0 where
  -- how many events each front-end has to send in the runs that are started from here on
  pub quota : ℕ
  -- what is declared, and whether a start opened the session
  pub declared : Declared
  -- the online database
  pub database : DatabaseStage
  -- the clock
  pub clock : AheadTold
  -- what the main thread keeps of the runs of an open session, with its own calls on the engine
  pub runs : Option RunsSeen

-- a session before its first line
abbrev pub first_stage : DatabaseAccess → FilesTold → AheadTold → SessionStage
first_stage access files clock = record {
  quota = 0;
  declared = nothing_declared;
  database = record { access = access; files = files; replies = [] };
  clock = clock;
  runs = None;
}

-- the stage of a session that is not open
abbrev pub unopened_stage : (quota : ℕ) → Declared → DatabaseStage → AheadTold → SessionStage
unopened_stage quota declared database clock = record {
  quota = quota;
  declared = declared;
  database = database;
  clock = clock;
  runs = None;
}

-- the stage of an open session
abbrev pub open_stage : Declared → DatabaseStage → AheadTold → RunsSeen → SessionStage
open_stage declared database clock runs = record {
  quota = runs.quota;
  declared = declared;
  database = database;
  clock = clock;
  runs = Some runs;
}

-- with another quota
abbrev pub runs_with_quota : ℕ → RunsSeen → RunsSeen
runs_with_quota count runs = record runs { quota = count }

abbrev pub with_quota : ℕ → SessionStage → SessionStage
with_quota count s = record s { quota = count; runs = option_map (runs_with_quota count) s.runs }

-- the names of the declared front-ends
abbrev pub front_names : Declared → List (List ℕ)
front_names d = map (λ front. front.name) d.fronts

-- the members of a session of these declarations, as they are registered
abbrev pub members_declared : Declared → List MemberName
members_declared d =
    map (λ (m : MemberDeclared). member_in (role_of_member m) (name_of_member m)) (declared_members (lists_declared d))

-- what the main thread keeps as a session opens: no run yet, the members and the channels as they were declared, and the engine,
-- on which it registered the members
abbrev pub opened_runs : (quota : ℕ) → Declared → SharedEngine → RunsSeen
opened_runs quota d engine = record {
  quota = quota;
  runs = [];
  members = members_declared d;
  channels = channels_of d.channels;
  on = None;
  main = record { engine = engine; own = registrations 0 (members_declared d) };
}
