-- What the outside tells of itself, before a call and after it.
use Rattle.daq_io.specs.Told.{AheadTold, FilesTold, SinkTold, SourceTold}
use Rattle.daq_io.specs.declared.objects.Outside.{Outside}
use Rattle.frontend_kit.specs.declared.generator.Generator.{Generator}
use Rattle.daq_members.specs.Members.{MemberTold}
use Rattle.session_objects.specs.Members.{members_told}

-- What is left of the script, the text written so far, the run files, the files of the database and the clock, with the counts
-- of faults.
pub record Environment : Type 0 where
  pub source : SourceTold
  pub sink : SinkTold
  pub run_files : FilesTold
  pub odb_files : FilesTold
  pub clock : AheadTold

-- What the parts of the outside tell of themselves: a source, a sink, run files, with what the equipments of front-ends do, the files
-- of the database, and a clock.
pub record OutsideTold (S O F E C : Type 0) : Type 0 where
  pub source : S → SourceTold
  pub sink : O → SinkTold
  pub crew : MemberTold Generator F
  pub dumps : E → FilesTold
  pub clock : C → AheadTold

-- What is told of the outside of a session, by what is told of each of its objects.
abbrev pub outside_told : {S O F E C : Type 0} → (source : S → SourceTold) → (sink : O → SinkTold) → (files : F → FilesTold) →
    (dumps : E → FilesTold) → (clock : C → AheadTold) → OutsideTold S O F E C
outside_told source sink files dumps clock = record {
  source = source;
  sink = sink;
  crew = members_told files;
  dumps = dumps;
  clock = clock;
}

-- the outside as it is, by what its parts tell
abbrev pub environment : {S O F E C K : Type 0} → OutsideTold S O F E C → Outside S O F E C K → Environment
environment told outside = record {
  source = told.source outside.src;
  sink = told.sink outside.out;
  run_files = told.crew.read outside.run_files;
  odb_files = told.dumps outside.odb_files;
  clock = told.clock outside.clock;
}
