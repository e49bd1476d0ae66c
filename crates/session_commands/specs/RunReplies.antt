-- How the commands of runs are answered.
use Rattle.daq_io.specs.Told.{AheadTold}
use Rattle.std.specs.Prelude.{◌≡◌, ◌⊎◌, ℕ}
use Rattle.session_commands.specs.RunLines.{reply_for}
use Rattle.console.specs.declared.replies.Reply.{Reply}
use Rattle.session_runs.specs.declared.replies.RunReply.{RunReply}
use Rattle.session_runs.specs.declared.replies.RunReply.TheVariants.{Stopped}
use Rattle.session_runs.specs.RunAnswers.{AnswersStop, CommandPoint, StopsUnsaved}

-- A command that has one of these answers leads from the one point to the other, and this is its reply.
abbrev pub RepliesBy : {M : Type 0} → (Answers : RunReply → (old new : CommandPoint M) → Type 0) → Reply → (old new : CommandPoint M) → Type 0
RepliesBy Answers reply old new = (answer : RunReply) × Answers answer old new × (reply ≡ reply_for new.runs answer)

-- The run that is on was stopped, and there was no memory for the reply, or for its dump.
abbrev pub StopsUnanswered : {M : Type 0} → (round : M → M → Type 0) → (before after : AheadTold) → (old new : CommandPoint M) → Type 0
StopsUnanswered round before after old new =
    ((run : ℕ) × AnswersStop round (Stopped run) before after old new) ⊎ StopsUnsaved round before after old new
