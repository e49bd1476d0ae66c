-- Members of which nothing is said.
use Rattle.std.specs.Prelude.{⊤}
use Rattle.session_commands.specs.declared.passed_over.PassedOver.{PassedOver}
use Rattle.odb_watch.specs.DatabasePorts.{DatabaseAccess}
use Rattle.session_runs.specs.KeptRuns.{RunsSeen}
use Rattle.session_runs.specs.RunAnswers.{CommandPoint, point_of}

-- Nothing is said here of what the members did meanwhile: their own contracts say it.
abbrev pub NothingSaid : (before after : PassedOver) → Type 0
NothingSaid before after = ⊤

-- the members, passed over
abbrev pub nobody : PassedOver
nobody = record {}

-- where the main thread stands, with the members passed over
abbrev pub own_point : RunsSeen → DatabaseAccess → CommandPoint PassedOver
own_point runs access = point_of runs access nobody
