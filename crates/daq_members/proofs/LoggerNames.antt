-- A turn of the logger in a session keeps which names of run files it leaves.
use Rattle.std.specs.Prelude.{◌≡◌, ℕ, zero, suc, Bool, List, [], Option, Some, None, refl}
use Rattle.std.proofs.Common.{ap, sym, subst, ◌∙◌, inl}
use Rattle.daq_io.specs.Told.{FilesTold}
use Rattle.member_model.specs.RunEngines.{Polled}
use Rattle.transitions.specs.declared.replies.Polled.TheVariants.{Turn, Idle as NoTurn, Closed, NoClient}
use Rattle.member_model.specs.Turns.{MemberTurn}
use Rattle.member_model.specs.TurnCalls.{member_turns}
use Rattle.mid_logger.specs.declared.channel.Channel.{Channel}
use Rattle.mid_logger.specs.declared.stage.ChannelStage.{ChannelStage}
use Rattle.mid_logger.specs.Channels.{channel_run}
use Rattle.loggers.specs.Moments.{LoggerMoment, IsLoggerReady, AreIdleChannels}
use Rattle.loggers.specs.Turning.{IsIdleOutside}
use Rattle.loggers.specs.LoggerStands.{LoggerStands}
use Rattle.loggers.specs.OtherFiles.{specs_in, HaveRunsAmong, PullsLeaveFiles}
use Rattle.loggers.specs.Reasons.{GivesReasons}
use Rattle.loggers.specs.LeftNames.{HasUntoldFault, EachBehind, EachFindsNames, NamesFaultOfStart, KeepsNames, HaveStoppedRuns, TurnsKeepNames, PullsKeepNames, FinishesKeepNames, StandingHasStopped, PullsKeepStopped}
use Rattle.daq_members.specs.OwnTurns.{start_owed}
use Rattle.daq_members.specs.StartedRuns.{started_runs}
use Rattle.daq_members.specs.LoggerTaken.{LoggerTaken, PullsBelow, TakesLoggerBy, TakesLogger, pulled_channels}
use Rattle.daq_members.proofs.OwnTurnLaws.{idle_turns, closed_turns, unknown_turns, taken_turns, finished_turns}
use Rattle.daq_members.proofs.OtherFilesKept.{Pulled, runs_held, pulled}

-- what the laws of the logger's calls say of that
pub record NameLaws : Type 0 where
  pub turns : TurnsKeepNames
  pub pulls : PullsKeepNames
  pub finishes : FinishesKeepNames
  pub stopped : StandingHasStopped
  pub still_stopped : PullsKeepStopped
  pub leave : PullsLeaveFiles

-- a logger without a run, which had no turn, keeps the names that are there
pub idle_names : (slots : List (Option Channel)) (told : FilesTold) (turns : List MemberTurn) → AreIdleChannels slots → turns ≡ [] → KeepsNames slots told told turns
idle_names slots told turns idle no_turns = record {
  told = refl;
  names = λ named. record {
    each = λ name. inl (inl refl);
    fresh = λ name o. absurd (let is : None ≡ Some o.opened = sym (ap (λ (s : ChannelStage). channel_run s) (idle o.number o.channel o.there)) ∙ o.of in cc (is));
  };
  found = λ named. subst (λ (ts : List MemberTurn). EachFindsNames (HasUntoldFault slots turns told told) (specs_in slots) told.seen ts) (sym no_turns) tt;
  first_fault = λ none undone name is. absurd (cc (none, is));
  fault_known = λ none name is. absurd (cc (none, is));
  faults_named = subst (λ (ts : List MemberTurn). EachBehind (NamesFaultOfStart (specs_in slots) told told) ts) (sym no_turns) tt;
}

-- what holds of a logger before its turn, and what its turn keeps
record Names (run : _) (dump : _) (first : FilesTold) (m : LoggerMoment) (turns : List MemberTurn) : Type 0 where
  ready : IsLoggerReady m.slots m.ports m.files.seen
  idle : IsIdleOutside run m.slots
  stands : LoggerStands run dump m.slots m.ports turns m.files.seen
  reasons : GivesReasons m.slots m.ports first m.files turns
  names : KeepsNames m.slots first m.files turns

abbrev Keeps : FilesTold → LoggerMoment → List MemberTurn → Type 0
Keeps first m turns = KeepsNames m.slots first m.files turns

same_keeps : (first : FilesTold) (a b : LoggerMoment) (turns later : List MemberTurn) → b ≡ a → later ≡ turns → Keeps first a turns → Keeps first b later
same_keeps first a b turns later moment same keeps = subst (λ (m : LoggerMoment). Keeps first m later) (sym moment) (subst (λ (ts : List MemberTurn). Keeps first a ts) (sym same) keeps)

pulled_names : NameLaws → (first : FilesTold) (turns : List MemberTurn) (runs dump : List ℕ) (n : ℕ) (got : Bool) (a b : LoggerMoment) → PullsBelow dump n got a b → IsLoggerReady a.slots a.ports a.files.seen → HaveRunsAmong runs a.slots → Keeps first a turns → Keeps first b turns
pulled_names laws first turns runs dump zero got a b pulls ready held keeps = subst (λ (m : LoggerMoment). Keeps first m turns) (sym pulls.1) keeps
pulled_names laws first turns runs dump (suc n) got a b pulls ready held keeps =
    laws.pulls dump n pulls.2 pulls.0 b first turns pulls.4 (pulled laws.leave runs dump n pulls.1 a pulls.0 pulls.3 ready held).ready (pulled_names laws first turns runs dump n pulls.1 a pulls.0 pulls.3 ready held keeps)

pulled_stopped : NameLaws → (run : _) (stop : _) (turns : List MemberTurn) (runs dump : List ℕ) (n : ℕ) (got : Bool) (a b : LoggerMoment) → PullsBelow dump n got a b → IsLoggerReady a.slots a.ports a.files.seen → HaveRunsAmong runs a.slots → HaveStoppedRuns run stop a.slots turns
    → HaveStoppedRuns run stop b.slots turns
pulled_stopped laws run stop turns runs dump zero got a b pulls ready held stopped = subst (λ (m : LoggerMoment). HaveStoppedRuns run stop m.slots turns) (sym pulls.1) stopped
pulled_stopped laws run stop turns runs dump (suc n) got a b pulls ready held stopped =
    laws.still_stopped dump n pulls.2 pulls.0 b run stop turns pulls.4 (pulled laws.leave runs dump n pulls.1 a pulls.0 pulls.3 ready held).ready (pulled_stopped laws run stop turns runs dump n pulls.1 a pulls.0 pulls.3 ready held stopped)

names_by : NameLaws → (t : LoggerTaken) (first : FilesTold) (reply : Polled) (owed : Option ℕ) → start_owed t.client t.calls ≡ owed → TakesLoggerBy reply owed t → Names t.run t.dumps first t.before (member_turns t.client t.calls) → Keeps first t.after (member_turns t.client t.later_calls)
names_by laws t first Closed owed is leaves had = same_keeps first t.before t.after _ _ leaves.moment (ap (member_turns t.client) leaves.asks ∙ closed_turns t.client t.calls) had.names
names_by laws t first NoClient owed is leaves had = same_keeps first t.before t.after _ _ leaves.moment (ap (member_turns t.client) leaves.asks ∙ unknown_turns t.client t.calls) had.names
names_by laws t first (NoTurn state) owed is works had =
    let turns : List MemberTurn = member_turns t.client t.calls in
    let held : HaveRunsAmong (started_runs turns) t.before.slots = runs_held t.run t.dumps t.before.slots t.before.ports turns t.before.files.seen had.stands in
    subst (λ (ts : List MemberTurn). Keeps first t.after ts) (sym (ap (member_turns t.client) works.asks ∙ idle_turns t.client t.calls state))
    (pulled_names laws first turns (started_runs turns) _ pulled_channels works.got t.before t.after works.pulls had.ready held had.names)
names_by laws t first (Turn transition order dump blank) None is taken had =
    subst (λ (ts : List MemberTurn). Keeps first t.after ts) (sym (taken_turns t.client t.calls _ t.later_calls transition order dump blank taken.answer is refl taken.gives))
    (laws.turns _ first (member_turns t.client t.calls) taken.takes had.ready had.idle had.stands had.reasons had.names)
names_by laws t first (Turn transition order dump blank) (Some start) is ends had =
    let turns : List MemberTurn = member_turns t.client t.calls in
    let runs : List ℕ = started_runs turns in
    let held : HaveRunsAmong runs t.before.slots = runs_held t.run t.dumps t.before.slots t.before.ports turns t.before.files.seen had.stands in
    let stopped : HaveStoppedRuns t.run t.dumps.stop t.before.slots turns = laws.stopped t.run t.dumps t.before.slots t.before.ports turns t.before.files.seen had.stands in
    let left : Pulled runs t.before ends.pulled = pulled laws.leave runs _ pulled_channels ends.got t.before ends.pulled ends.pulls had.ready held in
    subst (λ (ts : List MemberTurn). Keeps first t.after ts) (sym (finished_turns t.client t.calls _ t.later_calls transition order dump blank start ends.answer is refl ends.gives))
    (laws.finishes _ first turns ends.finishes left.ready.many left.ready.files (pulled_stopped laws t.run t.dumps.stop turns runs _ pulled_channels ends.got t.before ends.pulled ends.pulls had.ready held stopped)
    (pulled_names laws first turns runs _ pulled_channels ends.got t.before ends.pulled ends.pulls had.ready held had.names))

pub names_stay : NameLaws → (t : LoggerTaken) (first : FilesTold) → TakesLogger t → IsLoggerReady t.before.slots t.before.ports t.before.files.seen → IsIdleOutside t.run t.before.slots
    → LoggerStands t.run t.dumps t.before.slots t.before.ports (member_turns t.client t.calls) t.before.files.seen → GivesReasons t.before.slots t.before.ports first t.before.files (member_turns t.client t.calls) → Keeps first t.before (member_turns t.client t.calls)
    → Keeps first t.after (member_turns t.client t.later_calls)
names_stay laws t first takes ready idle stands reasons names =
    names_by laws t first takes.reply (start_owed t.client t.calls) refl takes.takes (record { ready = ready; idle = idle; stands = stands; reasons = reasons; names = names })
