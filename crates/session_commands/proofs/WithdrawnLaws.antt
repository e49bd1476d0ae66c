-- What stays of a session where what was noted of a line is taken out again: all but what came of the lines that called files.
use Rattle.std.proofs.Common.{◌≡◌, ℕ, List, ap, ◌∙◌}
use Rattle.odb_commands.specs.declared.dump_replies.FileReply.{FileReply}
use Rattle.console.specs.DatabaseStages.{DatabaseStage}
use Rattle.session_commands.specs.Stages.{SessionStage}
use Rattle.session_commands.specs.ScriptLines.{WithdrawsLine}

-- with this of the lines
abbrev pub with_replies : SessionStage → List (ℕ × FileReply) → SessionStage
with_replies s replies = record s { database = record s.database { replies = replies } }

pub withdrawn : (number : ℕ) (old new : SessionStage) → WithdrawsLine number old new → new ≡ with_replies old new.database.replies
withdrawn number old new withdrew = withdrew.1 ∙ ap (λ (d : DatabaseStage). record old { database = d }) withdrew.0.rest
