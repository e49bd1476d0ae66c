-- The quotas with which the starts of a script were begun.
use Rattle.std.specs.Prelude.{ℕ, Bool, true, false, if◌then◌else◌, List, [], ◌∷◌, ◌++◌, Option, Some, None, Ok}
use Rattle.daq_types.specs.declared.runs.Transition.TheVariants.{Start}
use Rattle.odb_script.specs.declared.commands.Command.{Command}
use Rattle.odb_script.specs.declared.commands.Command.TheVariants.{Run}
use Rattle.odb_script.specs.declared.commands.RunCommand.TheVariants.{Events}
use Rattle.odb_script.specs.Forms.{Read, command_of}
use Rattle.member_model.specs.RunEngines.{EngineEntry}
use Rattle.transitions.specs.declared.entry.EngineEntry.TheVariants.{Begin}
use Rattle.console.specs.declared.replies.Reply.{Reply}
use Rattle.console.specs.declared.replies.Reply.TheVariants.{Started, StartRefused}
use Rattle.session_runs.specs.KeptRuns.{RunsSeen}

-- the quota of the runs that are started behind this line, where it was so before the line
abbrev pub quota_behind : Read Command → (quota : ℕ) → ℕ
quota_behind (Ok (Run (Events count))) quota = count
quota_behind line quota = quota

-- whether the reply tells of a start that was begun
abbrev pub tells_begin : Reply → Bool
tells_begin (Started run) = true
tells_begin (StartRefused name why) = true
tells_begin reply = false

-- the quota of the start that a line with this reply began, if it began one
abbrev pub quota_told : Reply → (quota : ℕ) → List ℕ
quota_told reply quota = if tells_begin reply then quota ∷ [] else []

-- The quotas of the starts that these lines began, by their replies, in order: each is that of the last `events` line before it, or
-- this one where there is none.
abbrev pub quotas_asked : (quota : ℕ) → (lines : List (List ℕ)) → (replies : List Reply) → List ℕ
quotas_asked quota [] replies = []
quotas_asked quota (line ∷ lines) [] = []
quotas_asked quota (line ∷ lines) (reply ∷ replies) =
    quota_told reply quota ++ quotas_asked (quota_behind (command_of line) quota) lines replies

-- the quota of the start that a call on the engine began, if it began one
abbrev pub quota_begun : EngineEntry → List ℕ
quota_begun (Begin Start sheet (Ok start)) = sheet.quota ∷ []
quota_begun entry = []

-- those of the starts that these calls began, in order
abbrev pub quotas_begun : List EngineEntry → List ℕ
quotas_begun [] = []
quotas_begun (entry ∷ own) = quota_begun entry ++ quotas_begun own

-- those of the starts of a session, if it is open
abbrev pub quotas_so_far : Option RunsSeen → List ℕ
quotas_so_far None = []
quotas_so_far (Some runs) = quotas_begun runs.main.own
