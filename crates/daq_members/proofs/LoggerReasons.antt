-- A turn of the logger in a session keeps that its answers rest on the counts of the run files.
use Rattle.std.specs.Prelude.{◌≡◌, ℕ, zero, suc, Bool, List, [], ◌∷◌, Option, Some, None, refl}
use Rattle.std.proofs.Common.{ap, sym, subst, ◌∙◌}
use Rattle.daq_io.specs.Told.{FilesTold}
use Rattle.buffer_core.specs.Ports.{Access}
use Rattle.member_model.specs.RunEngines.{Answer, Polled}
use Rattle.transitions.specs.declared.replies.Polled.TheVariants.{Turn, Idle as NoTurn, Closed, NoClient}
use Rattle.member_model.specs.Turns.{MemberTurn, latest_answered}
use Rattle.member_model.specs.TurnCalls.{member_turns}
use Rattle.loggers.specs.Moments.{LoggerMoment}
use Rattle.loggers.specs.Reasons.{GivesReasons, IsLatestOpen, TurnsGiveReasons, PullsGiveReasons, FinishesGiveReasons}
use Rattle.daq_members.specs.OwnTurns.{start_unanswered, open_start, start_owed}
use Rattle.daq_members.specs.LoggerTaken.{LoggerTaken, PullsBelow, TakesLoggerBy, TakesLogger, pulled_channels}
use Rattle.daq_members.proofs.OwnTurnLaws.{idle_turns, closed_turns, unknown_turns, taken_turns, finished_turns}

-- what the laws of the logger's calls say of that
pub record ReasonLaws : Type 0 where
  pub turns : TurnsGiveReasons
  pub pulls : PullsGiveReasons
  pub finishes : FinishesGiveReasons

abbrev Gives : FilesTold → LoggerMoment → List MemberTurn → Type 0
Gives first m turns = GivesReasons m.slots m.ports first m.files turns

same_gives : (first : FilesTold) (a b : LoggerMoment) (turns later : List MemberTurn) → b ≡ a → later ≡ turns → Gives first a turns → Gives first b later
same_gives first a b turns later moment same gives = subst (λ (m : LoggerMoment). Gives first m later) (sym moment) (subst (λ (ts : List MemberTurn). Gives first a ts) (sym same) gives)

pulled : PullsGiveReasons → (first : FilesTold) (turns : List MemberTurn) (dump : List ℕ) (n : ℕ) (got : Bool) (a b : LoggerMoment) → PullsBelow dump n got a b → Gives first a turns → Gives first b turns
pulled law first turns dump zero got a b pulls gives = subst (λ (m : LoggerMoment). Gives first m turns) (sym pulls.1) gives
pulled law first turns dump (suc n) got a b pulls gives = law dump n pulls.2 pulls.0 b first turns pulls.4 (pulled law first turns dump n pulls.1 a pulls.0 pulls.3 gives)

-- where a turn is owed, the latest is not answered
unanswered : (a : Option Answer) (start owed : ℕ) → start_unanswered a start ≡ Some owed → a ≡ None
unanswered None start owed is = refl
unanswered (Some answer) start owed is = absurd (cc (is))

latest_open : (turns : List MemberTurn) (owed : ℕ) → open_start turns ≡ Some owed → IsLatestOpen turns
latest_open [] owed is = absurd (cc (is))
latest_open (t ∷ ts) owed is = unanswered t.answer t.order.start owed is

reasons_by : ReasonLaws → (t : LoggerTaken) (first : FilesTold) (reply : Polled) (owed : Option ℕ) → start_owed t.client t.calls ≡ owed → TakesLoggerBy reply owed t → Gives first t.before (member_turns t.client t.calls) → Gives first t.after (member_turns t.client t.later_calls)
reasons_by laws t first Closed owed is leaves gives = same_gives first t.before t.after _ _ leaves.moment (ap (member_turns t.client) leaves.asks ∙ closed_turns t.client t.calls) gives
reasons_by laws t first NoClient owed is leaves gives = same_gives first t.before t.after _ _ leaves.moment (ap (member_turns t.client) leaves.asks ∙ unknown_turns t.client t.calls) gives
reasons_by laws t first (NoTurn state) owed is works gives =
    subst (λ (ts : List MemberTurn). Gives first t.after ts) (sym (ap (member_turns t.client) works.asks ∙ idle_turns t.client t.calls state))
    (pulled laws.pulls first (member_turns t.client t.calls) _ pulled_channels works.got t.before t.after works.pulls gives)
reasons_by laws t first (Turn transition order dump blank) None is taken gives =
    subst (λ (ts : List MemberTurn). Gives first t.after ts) (sym (taken_turns t.client t.calls _ t.later_calls transition order dump blank taken.answer is refl taken.gives))
    (laws.turns _ first (member_turns t.client t.calls) taken.takes gives)
reasons_by laws t first (Turn transition order dump blank) (Some start) is ends gives =
    subst (λ (ts : List MemberTurn). Gives first t.after ts) (sym (finished_turns t.client t.calls _ t.later_calls transition order dump blank start ends.answer is refl ends.gives))
    (subst (λ (ports : List Access). GivesReasons t.after.slots ports first t.after.files (latest_answered (member_turns t.client t.calls) ends.answer)) (sym ends.ports)
    (laws.finishes _ ends.pulled.ports first (member_turns t.client t.calls) ends.finishes (latest_open (member_turns t.client t.calls) start is) (pulled laws.pulls first (member_turns t.client t.calls) _ pulled_channels ends.got t.before ends.pulled ends.pulls gives)))

pub reasons_kept : ReasonLaws → (t : LoggerTaken) (first : FilesTold) → TakesLogger t → Gives first t.before (member_turns t.client t.calls) → Gives first t.after (member_turns t.client t.later_calls)
reasons_kept laws t first takes gives = reasons_by laws t first takes.reply (start_owed t.client t.calls) refl takes.takes gives
