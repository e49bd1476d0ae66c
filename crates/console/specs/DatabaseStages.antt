-- Where the main thread of a session stands with the online database.
use Rattle.daq_io.specs.Told.{FilesTold}
use Rattle.std.specs.Prelude.{ℕ, List, Option}
use Rattle.daq_io.specs.Seen.{Seen}
use Rattle.odb_watch.specs.DatabasePorts.{DatabaseAccess}
use Rattle.odb_commands.specs.declared.dump_replies.FileReply.{FileReply}

-- The main thread's access, with its own calls so far and the replies that they got; the files of the dumps; and what came of
-- the lines that called these, each with its number.
pub record DatabaseStage : Type 0 where
  pub access : DatabaseAccess
  pub files : FilesTold
  pub replies : List (ℕ × FileReply)

abbrev pub database_stage : DatabaseAccess → FilesTold → List (ℕ × FileReply) → DatabaseStage
database_stage access files replies = record { access = access; files = files; replies = replies }
