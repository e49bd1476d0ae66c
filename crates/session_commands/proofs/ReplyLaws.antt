-- The replies to the commands of runs.
use Rattle.daq_io.specs.Told.{AheadTold}
use Rattle.std.proofs.Common.{◌≡◌, ◌≢◌, ℕ, subst}
use Rattle.session_runs.specs.declared.replies.RunReply.{RunReply}
use Rattle.session_runs.specs.declared.replies.RunReply.TheVariants.{Stopped}
use Rattle.session_runs.specs.RunAnswers.{AnswersPause, AnswersResume, AnswersStart, CommandPoint}

-- No command but a stop stops a run.

module _ {M : Type 0} (round : M → M → Type 0) where
  pub start_plain : (answer : RunReply) (before after : AheadTold) (old new : CommandPoint M) → AnswersStart round answer before after old new → (run : ℕ) → answer ≢ Stopped run
  start_plain answer before after old new does run is = (subst (λ (a : RunReply). AnswersStart round a before after old new) is does).0

  pub pause_plain : (answer : RunReply) (old new : CommandPoint M) → AnswersPause round answer old new → (run : ℕ) → answer ≢ Stopped run
  pause_plain answer old new does run is = (subst (λ (a : RunReply). AnswersPause round a old new) is does).0

  pub resume_plain : (answer : RunReply) (old new : CommandPoint M) → AnswersResume round answer old new → (run : ℕ) → answer ≢ Stopped run
  resume_plain answer old new does run is = (subst (λ (a : RunReply). AnswersResume round a old new) is does).0
