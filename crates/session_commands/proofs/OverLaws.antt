-- Behind a script no run is on.
use Rattle.daq_io.specs.Told.{AheadTold, SourceTold}
use Rattle.std.proofs.Common.{◌≡◌, ◌≢◌, ℕ, List, Option, Some, None, refl, ap, sym, ◌∙◌, subst}
use Rattle.std.specs.Prelude.{Bool, true, false, if◌then◌else◌, Result, Ok, Err}
use Rattle.std.proofs.Math.Logic.{⊎_elim}
use Rattle.daq_types.specs.declared.runs.RunState.{RunState}
use Rattle.daq_types.specs.declared.runs.RunState.TheVariants.{Stopped, Paused, Running}
use Rattle.daq_types.specs.declared.runs.Transition.{Transition}
use Rattle.daq_types.specs.declared.runs.Transition.TheVariants.{Stop}
use Rattle.daq_types.specs.declared.memory.NoMemory.{NoMemory}
use Rattle.transitions.specs.States.{is_allowed}
use Rattle.transitions.specs.declared.replies.BeginRefusal.{BeginRefusal}
use Rattle.transitions.specs.declared.replies.BeginRefusal.TheVariants.{Closed, WrongState}
use Rattle.session_runs.specs.MainKnowledge.{MainKnows, begin_known, begin_known_in, known_from}
use Rattle.session_runs.specs.declared.on.CurrentRun.{CurrentRun}
use Rattle.session_runs.specs.declared.replies.RunReply.{RunReply}
use Rattle.session_runs.specs.declared.replies.RunReply.TheVariants as answer
use Rattle.session_runs.specs.KeptRuns.{IsInStep, RunsSeen}
use Rattle.session_runs.specs.RunAnswers.{AnswersStop, CommandPoint, MakesStop}
use Rattle.console.specs.declared.replies.Reply.{Reply}
use Rattle.console.specs.declared.refusals.Refusals.{Refusals}
use Rattle.session_commands.specs.declared.passed_over.PassedOver.{PassedOver}
use Rattle.session_commands.specs.NothingSaid.{NothingSaid, own_point}
use Rattle.session_commands.specs.Stages.{SessionStage}
use Rattle.session_commands.specs.RunLines.{BreaksStop, ClosesRun, RunsCommand, StopsBy}
use Rattle.session_commands.specs.ScriptLines.{BreaksScriptLine, ClosesScript, DoesScriptLine, GivesUp, WithdrawsLine}
use Rattle.console.specs.declared.endings.Ending.{Ending}
use Rattle.console.specs.declared.halts.Halt.{Halt}
use Rattle.console.specs.Closing.{Finished, GaveUp, IsClosed}
use Rattle.session_commands.specs.Keeping.{EndsOver, KnowsRuns}

same_some : (x y : RunsSeen) → Some x ≡ Some y → x ≡ y
same_some x y is = cc is

stopped_over : (r : CurrentRun) (saved : Result (List ℕ) NoMemory) (before after : AheadTold) (old new : CommandPoint PassedOver) → MakesStop NothingSaid r saved before after old new → new.runs.on ≡ None
stopped_over r saved before after old new m = ap (λ (s : RunsSeen). s.on) m.kept

-- where the state is not stopped a stop begins

stop_allowed : (state : RunState) → state ≢ Stopped → is_allowed state Stop ≡ true
stop_allowed Stopped on = absurd (on refl)
stop_allowed Paused on = refl
stop_allowed Running on = refl

chosen : (b : Bool) (state : RunState) (starts : ℕ) → b ≡ true → (if b then Ok starts else Err (WrongState state)) ≡ Ok starts
chosen true state starts is = refl
chosen false state starts is = absurd (cc is)

stop_begins : (k : MainKnows) → k.closed ≡ false → k.going ≡ None → k.state ≢ Stopped → begin_known k Stop ≡ Ok k.starts
stop_begins k open_yet none on =
    ap (λ (b : Bool). if b then Err Closed else begin_known_in k.going k.state k.starts Stop) open_yet
    ∙ ap (λ (g : Option Transition). begin_known_in g k.state k.starts Stop) none
    ∙ chosen (is_allowed k.state Stop) k.state k.starts (stop_allowed k.state on)

-- a stop of a run that is on is not refused
never_refused : (why : BeginRefusal) (runs later : RunsSeen) (run : CurrentRun) → runs.on ≡ Some run → later ≡ runs → KnowsRuns later
    → begin_known (known_from runs.main.own) Stop ≡ Err why → ⊥
never_refused why runs later run on same knows refused =
    let here : KnowsRuns runs = subst KnowsRuns same knows in
    let step : IsInStep (Some run) (known_from runs.main.own) = subst (λ (o : Option CurrentRun). IsInStep o (known_from runs.main.own)) on here.step in
    let begins = stop_begins (known_from runs.main.own) here.free.open_yet here.free.none_going step.0 in
    cc (sym begins ∙ refused)

answered_over : (reply : RunReply) (before after : AheadTold) (old new : CommandPoint PassedOver) (run : CurrentRun) → old.runs.on ≡ Some run → KnowsRuns new.runs
    → AnswersStop NothingSaid reply before after old new → new.runs.on ≡ None
answered_over (answer.Stopped number) before after old new run on knows a = stopped_over a.0 (Ok a.2) before after old new a.3
answered_over (answer.WrongState state) before after old new run on knows a = absurd (never_refused _ old.runs new.runs run on (ap (λ (p : CommandPoint PassedOver). p.runs) a.1) knows a.0)
answered_over answer.LastStart before after old new run on knows a = absurd (never_refused _ old.runs new.runs run on (ap (λ (p : CommandPoint PassedOver). p.runs) a.1) knows a.0)
answered_over (answer.RunNumber have) before after old new run on knows a = absurd a.0
answered_over (answer.StartRefused client why) before after old new run on knows a = absurd a.0
answered_over (answer.Started number) before after old new run on knows a = absurd a.0
answered_over (answer.Paused number) before after old new run on knows a = absurd a.0
answered_over (answer.Resumed number) before after old new run on knows a = absurd a.0

closed_over : (runs : Option RunsSeen) (old : SessionStage) (reply : Option Reply) (new : SessionStage) → old.runs ≡ runs → ClosesRun runs old reply new → EndsOver new
closed_over None old reply new none closed = λ last is knows.
    let both : Some last ≡ None = sym is ∙ (ap (λ (s : SessionStage). s.runs) closed.1 ∙ none) in
    absurd (cc both)
closed_over (Some runs) old None new there closed = λ last is knows.
    let same : last ≡ runs = same_some last runs (sym is ∙ (ap (λ (s : SessionStage). s.runs) closed.1 ∙ there)) in
    ap (λ (s : RunsSeen). s.on) same ∙ closed.0
closed_over (Some runs) old (Some reply) new there closed = λ last is knows.
    let c : RunsCommand StopsBy runs old reply new = closed.1 in
    let same : last ≡ c.after = same_some last c.after (sym is ∙ c.runs) in
    ap (λ (s : RunsSeen). s.on) same
    ∙ answered_over c.answer old.clock new.clock (own_point runs old.database.access) (own_point c.after new.database.access) closed.0.0 closed.0.1
    (subst KnowsRuns same knows) c.does

gave_over : (runs : Option RunsSeen) (old new : SessionStage) → BreaksStop runs old new → EndsOver new
gave_over None old new broke = absurd broke
gave_over (Some runs) old new broke = λ last is knows.
    let same : last ≡ broke.0 = same_some last broke.0 (sym is ∙ ap (λ (s : SessionStage). s.runs) broke.1) in
    ap (λ (s : RunsSeen). s.on) same ∙ ⊎_elim
    (λ stopped. stopped_over stopped.1.0 (Ok stopped.1.2) old.clock new.clock (own_point runs old.database.access) (own_point broke.0 new.database.access) stopped.1.3)
    (λ unsaved. stopped_over unsaved.0 (Err (record {})) old.clock new.clock (own_point runs old.database.access) (own_point broke.0 new.database.access) unsaved.1)
    broke.2

-- A whole script.
pub script_over : (first final : SessionStage) (ending : Ending) (closing : Option Halt) (source left : SourceTold) (told_first told : Option (List ℕ)) (refusals : Refusals)
    → Finished DoesScriptLine BreaksScriptLine WithdrawsLine ClosesScript GivesUp first ending closing source left told_first told final refusals → EndsOver final
script_over first final ending closing source left told_first told refusals finished = ⊎_elim
    (λ (is : IsClosed ClosesScript GivesUp finished.behind finished.cut final). closed_over finished.cut.runs finished.cut is.reply final refl is.closed)
    (λ (gave : GaveUp ClosesScript GivesUp closing finished.behind finished.cut final). gave_over finished.cut.runs finished.cut final gave.gave_up.1)
    finished.closed
