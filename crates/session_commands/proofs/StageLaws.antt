-- Each line of a script keeps what is kept of an open session.
use Rattle.daq_io.specs.Told.{AheadTold}
use Rattle.std.proofs.Common.{◌≡◌, ℕ, true, List, [], ◌++◌, Option, Some, None, refl, ap, sym, ◌∙◌, subst, append_assoc}
use Rattle.std.specs.Option.{option_map}
use Rattle.std.proofs.lemmas.List.{append-nil}
use Rattle.std.proofs.Math.Logic.{⊎_elim}
use Rattle.odb_script.specs.declared.commands.Command.{Command}
use Rattle.odb_script.specs.declared.commands.DatabaseCommand.{DatabaseCommand}
use Rattle.odb_script.specs.Forms.{Read}
use Rattle.odb_watch.specs.declared.entry.WatchEntry.{WatchEntry}
use Rattle.odb_watch.specs.DatabasePorts.{DatabaseAccess, own_watched}
use Rattle.console.specs.declared.replies.Reply.{Reply}
use Rattle.session_setup.specs.Setup.{Declared}
use Rattle.session_runs.specs.declared.replies.RunReply.{RunReply}
use Rattle.session_runs.specs.declared.replies.RunReply.TheVariants as answer
use Rattle.session_runs.specs.KeptRuns.{RunsSeen}
use Rattle.session_runs.specs.RunsFit.{RunsFit, starts_begun}
use Rattle.session_runs.specs.declared.opening.MemberName.{MemberName}
use Rattle.session_runs.specs.Members.{registrations}
use Rattle.session_runs.specs.RunAnswers.{AnswersPause, AnswersResume, AnswersStart, AnswersStop, CommandPoint, StopsUnsaved}
use Rattle.console.specs.DatabaseLines.{BreaksDatabase}
use Rattle.session_commands.specs.declared.passed_over.PassedOver.{PassedOver}
use Rattle.session_commands.specs.NothingSaid.{NothingSaid, own_point}
use Rattle.session_commands.proofs.WithdrawnLaws.{withdrawn}
use Rattle.session_commands.specs.Stages.{SessionStage, members_declared, opened_runs, runs_with_quota, with_quota}
use Rattle.session_commands.specs.RunLines.{BreaksStart, BreaksStop, ClosesRun, CutsOpening, CutsRun, DoesPause, DoesResume, DoesStart, DoesStop, OpensSession, PausesBy, ResumesBy, RunsCommand, StartsBy, StopsBy}
use Rattle.session_commands.specs.ScriptLines.{BreaksScriptLine, CallsDatabase, ClosesScript, DoesScriptLine, GivesUp, WithdrawsLine}
use Rattle.session_commands.specs.Keeping.{MayKeep, RunsKept, StageKept}
use Rattle.session_commands.proofs.LineKinds.{LineCut, CutsCalls, CutsStartLine, CutsStopLine, LineKind, CallsRows, Declares, IsPause, IsResume, IsStart, IsStill, IsStop, SetsQuota, line_cut, line_kind}
use Rattle.session_commands.proofs.SpareLaws.{SpareLaws, SparesOn, broken_on, cut_on, database_on}
use Rattle.session_commands.proofs.SteeringLaws.{SteersOn, all_steer, pause_moves, resume_moves, start_moves, stop_moves, unsaved_moves}

-- What the run commands say of the records, and the calls of a port of its caller's own calls.
pub record FitLaws : Type 0 where
  pub start : (reply : RunReply) → (before after : AheadTold) → (old new : CommandPoint PassedOver) → AnswersStart NothingSaid reply before after old new → RunsFit old.runs (own_watched old.database) → RunsFit new.runs (own_watched new.database)
  pub stop : (reply : RunReply) → (before after : AheadTold) → (old new : CommandPoint PassedOver) → AnswersStop NothingSaid reply before after old new → RunsFit old.runs (own_watched old.database) → RunsFit new.runs (own_watched new.database)
  pub unsaved : (before after : AheadTold) → (old new : CommandPoint PassedOver) → StopsUnsaved NothingSaid before after old new → RunsFit old.runs (own_watched old.database) → RunsFit new.runs (own_watched new.database)
  pub pause : (reply : RunReply) → (old new : CommandPoint PassedOver) → AnswersPause NothingSaid reply old new → RunsFit old.runs (own_watched old.database) → RunsFit new.runs (own_watched new.database)
  pub resume : (reply : RunReply) → (old new : CommandPoint PassedOver) → AnswersResume NothingSaid reply old new → RunsFit old.runs (own_watched old.database) → RunsFit new.runs (own_watched new.database)
  pub opening : (s : RunsSeen) → (own : List WatchEntry) → s.runs ≡ [] → s.on ≡ None → starts_begun s.main.own ≡ [] → RunsFit s own
  pub registered : (first : ℕ) → (members : List MemberName) → starts_begun (registrations first members) ≡ []
  pub more : (s : RunsSeen) → (own more : List WatchEntry) → RunsFit s own → RunsFit s (own ++ more)
  pub spares : SpareLaws

-- the caller's own calls are more
abbrev Grows : (a b : DatabaseAccess) → Type 0
Grows a b = (more : List WatchEntry) × (own_watched b ≡ own_watched a ++ more)

forget : (a b : DatabaseAccess) → SparesOn a b → Grows a b
forget a b on = (on.0, on.1)

-- behind more calls on the database
more_kept : FitLaws → (d : Declared) (runs : RunsSeen) (a b : DatabaseAccess) → Grows a b → RunsKept d (own_watched a) runs → RunsKept d (own_watched b) runs
more_kept laws d runs a b grows kept = subst (λ (own : List WatchEntry). RunsKept d own runs) (sym grows.1) (record {
  opened = kept.opened;
  members = kept.members;
  channels = kept.channels;
  later = kept.later;
  begins = kept.begins;
  steers = kept.steers;
  fit = laws.more runs (own_watched a) grows.0 kept.fit;
})

may_more : FitLaws → (d : Declared) (runs : Option RunsSeen) (a b : DatabaseAccess) → Grows a b → MayKeep d (own_watched a) runs → MayKeep d (own_watched b) runs
may_more laws d None a b grows kept = tt
may_more laws d (Some runs) a b grows kept = more_kept laws d runs a b grows kept

-- Stages.

-- with other calls on the database
moved_kept : FitLaws → (old moved new : SessionStage) → new ≡ moved → moved.declared ≡ old.declared → moved.runs ≡ old.runs → Grows old.database.access moved.database.access → StageKept old → StageKept new
moved_kept laws old moved new is declared runs grows kept = subst StageKept (sym is)
    (subst (λ (d : Declared). MayKeep d (own_watched moved.database.access) moved.runs) (sym declared)
    (subst (λ (r : Option RunsSeen). MayKeep old.declared (own_watched moved.database.access) r) (sym runs)
    (may_more laws old.declared old.runs old.database.access moved.database.access grows kept)))

open_kept : (s : SessionStage) (runs : RunsSeen) → s.runs ≡ Some runs → StageKept s → RunsKept s.declared (own_watched s.database.access) runs
open_kept s runs is kept = subst (λ (r : Option RunsSeen). MayKeep s.declared (own_watched s.database.access) r) is kept

kept_open : (s : SessionStage) (runs : RunsSeen) → s.runs ≡ Some runs → RunsKept s.declared (own_watched s.database.access) runs → StageKept s
kept_open s runs is kept = subst (λ (r : Option RunsSeen). MayKeep s.declared (own_watched s.database.access) r) (sym is) kept

kept_closed : (s : SessionStage) → s.runs ≡ None → StageKept s
kept_closed s is = subst (λ (r : Option RunsSeen). MayKeep s.declared (own_watched s.database.access) r) (sym is) tt

steered_kept : (d : Declared) (old new : RunsSeen) (own later : List WatchEntry) → SteersOn old new → RunsFit new later → RunsKept d own old → RunsKept d later new
steered_kept d old new own later on fit kept = record {
  opened = kept.opened;
  members = on.members ∙ kept.members;
  channels = on.channels ∙ kept.channels;
  later = kept.later ++ on.more;
  begins = on.calls ∙ (ap (λ (xs : List _). xs ++ on.more) kept.begins ∙ append_assoc _ kept.later on.more);
  steers = all_steer kept.later on.more kept.steers on.steers;
  fit = fit;
}

-- Commands of runs.

command_kept : (Does : RunReply → (old new : SessionStage) → (before after : RunsSeen) → Type 0) (before : RunsSeen) (old : SessionStage) (reply : Reply) (new : SessionStage) → (c : RunsCommand Does before old reply new)
    → SteersOn before c.after → RunsFit c.after (own_watched new.database.access) → RunsKept old.declared (own_watched old.database.access) before → StageKept new
command_kept Does before old reply new c on fit kept = kept_open new c.after c.runs
    (subst (λ (d : Declared). RunsKept d (own_watched new.database.access) c.after) (sym c.declared)
    (steered_kept old.declared before c.after (own_watched old.database.access) (own_watched new.database.access) on fit kept))

start_command : FitLaws → (before : RunsSeen) (old : SessionStage) (reply : Reply) (new : SessionStage) → RunsCommand StartsBy before old reply new → RunsKept old.declared (own_watched old.database.access) before → StageKept new
start_command laws before old reply new c kept = command_kept StartsBy before old reply new c
    (start_moves laws.spares NothingSaid c.answer old.clock new.clock (own_point before old.database.access) (own_point c.after new.database.access) c.does).steers
    (laws.start c.answer old.clock new.clock (own_point before old.database.access) (own_point c.after new.database.access) c.does kept.fit)
    kept

stop_command : FitLaws → (before : RunsSeen) (old : SessionStage) (reply : Reply) (new : SessionStage) → RunsCommand StopsBy before old reply new → RunsKept old.declared (own_watched old.database.access) before → StageKept new
stop_command laws before old reply new c kept = command_kept StopsBy before old reply new c
    (stop_moves laws.spares NothingSaid c.answer old.clock new.clock (own_point before old.database.access) (own_point c.after new.database.access) c.does).steers
    (laws.stop c.answer old.clock new.clock (own_point before old.database.access) (own_point c.after new.database.access) c.does kept.fit)
    kept

pause_command : FitLaws → (before : RunsSeen) (old : SessionStage) (reply : Reply) (new : SessionStage) → RunsCommand PausesBy before old reply new → RunsKept old.declared (own_watched old.database.access) before → StageKept new
pause_command laws before old reply new c kept = command_kept PausesBy before old reply new c
    (pause_moves laws.spares NothingSaid c.answer (own_point before old.database.access) (own_point c.after new.database.access) c.does.0).steers
    (laws.pause c.answer (own_point before old.database.access) (own_point c.after new.database.access) c.does.0 kept.fit)
    kept

resume_command : FitLaws → (before : RunsSeen) (old : SessionStage) (reply : Reply) (new : SessionStage) → RunsCommand ResumesBy before old reply new → RunsKept old.declared (own_watched old.database.access) before → StageKept new
resume_command laws before old reply new c kept = command_kept ResumesBy before old reply new c
    (resume_moves laws.spares NothingSaid c.answer (own_point before old.database.access) (own_point c.after new.database.access) c.does.0).steers
    (laws.resume c.answer (own_point before old.database.access) (own_point c.after new.database.access) c.does.0 kept.fit)
    kept

opened_kept : FitLaws → (old ready : SessionStage) → OpensSession old ready → StageKept ready
opened_kept laws old ready opens = kept_open ready (opened_runs old.quota ready.declared opens.engine) opens.runs (record {
  opened = ap (λ (d : Declared). d.opened) opens.declared;
  members = refl;
  channels = refl;
  later = [];
  begins = sym (append-nil _);
  steers = tt;
  fit = laws.opening (opened_runs old.quota ready.declared opens.engine) (own_watched ready.database.access) refl refl (laws.registered 0 (members_declared ready.declared));
})

start_kept : FitLaws → (runs : Option RunsSeen) (old : SessionStage) (reply : Reply) (new : SessionStage) → old.runs ≡ runs → DoesStart runs old reply new → StageKept old → StageKept new
start_kept laws None old reply new is does kept = start_command laws does.1 does.0 reply new does.4 (open_kept does.0 does.1 does.2 (opened_kept laws old does.0 does.3))
start_kept laws (Some runs) old reply new is does kept = start_command laws runs old reply new does (open_kept old runs is kept)

stop_kept : FitLaws → (runs : Option RunsSeen) (old : SessionStage) (reply : Reply) (new : SessionStage) → old.runs ≡ runs → DoesStop runs old reply new → StageKept old → StageKept new
stop_kept laws None old reply new is does kept = subst StageKept (sym does.1) kept
stop_kept laws (Some runs) old reply new is does kept = stop_command laws runs old reply new does (open_kept old runs is kept)

pause_kept : FitLaws → (runs : Option RunsSeen) (old : SessionStage) (reply : Reply) (new : SessionStage) → old.runs ≡ runs → DoesPause runs old reply new → StageKept old → StageKept new
pause_kept laws None old reply new is does kept = subst StageKept (sym does.1) kept
pause_kept laws (Some runs) old reply new is does kept = pause_command laws runs old reply new does (open_kept old runs is kept)

resume_kept : FitLaws → (runs : Option RunsSeen) (old : SessionStage) (reply : Reply) (new : SessionStage) → old.runs ≡ runs → DoesResume runs old reply new → StageKept old → StageKept new
resume_kept laws None old reply new is does kept = subst StageKept (sym does.1) kept
resume_kept laws (Some runs) old reply new is does kept = resume_command laws runs old reply new does (open_kept old runs is kept)

-- Other lines.

setup_by : (runs : Option RunsSeen) (old new : SessionStage) → old.runs ≡ runs → (old.declared.opened ≡ true → new.declared ≡ old.declared) → new ≡ record old { declared = new.declared } → StageKept old → StageKept new
setup_by None old new is opened same kept = kept_closed new (ap (λ (s : SessionStage). s.runs) same ∙ is)
setup_by (Some runs) old new is opened same kept =
    let nothing : new ≡ old = same ∙ ap (λ (d : Declared). record old { declared = d }) (opened (open_kept old runs is kept).opened) in
    subst StageKept (sym nothing) kept

setup_kept : (old new : SessionStage) → (old.declared.opened ≡ true → new.declared ≡ old.declared) → new ≡ record old { declared = new.declared } → StageKept old → StageKept new
setup_kept old new opened same kept = setup_by old.runs old new refl opened same kept

quota_runs : (count : ℕ) (d : Declared) (own : List WatchEntry) (runs : Option RunsSeen) → MayKeep d own runs → MayKeep d own (option_map (runs_with_quota count) runs)
quota_runs count d own None kept = tt
quota_runs count d own (Some runs) kept = record {
  opened = kept.opened;
  members = kept.members;
  channels = kept.channels;
  later = kept.later;
  begins = kept.begins;
  steers = kept.steers;
  fit = record { each_start = kept.fit.each_start; runs = kept.fit.runs; on = kept.fit.on };
}

quota_kept : (count : ℕ) (old new : SessionStage) → new ≡ with_quota count old → StageKept old → StageKept new
quota_kept count old new is kept = subst StageKept (sym is) (quota_runs count old.declared (own_watched old.database.access) old.runs kept)

calls_kept : FitLaws → (number : ℕ) (command : DatabaseCommand) (old : SessionStage) (reply : Reply) (new : SessionStage) → CallsDatabase number command old reply new → StageKept old → StageKept new
calls_kept laws number command old reply new does kept =
    moved_kept laws old (record old { database = new.database }) new does.1 refl refl (forget old.database.access new.database.access (database_on laws.spares number command old.database reply new.database does.0)) kept

kind_keeps : FitLaws → (number : ℕ) (line : Read Command) (old : SessionStage) (reply : Reply) (new : SessionStage) → LineKind number line old reply new → StageKept old → StageKept new
kind_keeps laws number line old reply new (IsStill same) kept = subst StageKept (sym same) kept
kind_keeps laws number line old reply new (Declares opened same) kept = setup_kept old new opened same kept
kind_keeps laws number line old reply new (SetsQuota count same) kept = quota_kept count old new same kept
kind_keeps laws number line old reply new (IsStart does) kept = start_kept laws old.runs old reply new refl does kept
kind_keeps laws number line old reply new (IsStop does) kept = stop_kept laws old.runs old reply new refl does kept
kind_keeps laws number line old reply new (IsPause does) kept = pause_kept laws old.runs old reply new refl does kept
kind_keeps laws number line old reply new (IsResume does) kept = resume_kept laws old.runs old reply new refl does kept
kind_keeps laws number line old reply new (CallsRows command is does) kept = calls_kept laws number command old reply new does kept

pub line_keeps : FitLaws → (number : ℕ) (line : Read Command) (old new : SessionStage) (reply : Reply) → DoesScriptLine number line old reply new → StageKept old → StageKept new
line_keeps laws number line old new reply does kept = kind_keeps laws number line old reply new (line_kind number line old reply new does) kept

-- Where memory ended.

cut_run_kept : FitLaws → (before : RunsSeen) (old new : SessionStage) → CutsRun before old new → StageKept old → StageKept new
cut_run_kept laws before old new cut kept = moved_kept laws old _ new cut.same refl refl
    (forget old.database.access new.database.access (cut_on laws.spares old.clock new.clock (own_point before old.database.access) (own_point before new.database.access) cut.cut)) kept

cut_opening_kept : (old new : SessionStage) → CutsOpening old new → StageKept new
cut_opening_kept old new cut = kept_closed new (ap (λ (s : SessionStage). s.runs) cut.same ∙ cut.closed)

start_breaks : FitLaws → (runs : Option RunsSeen) (old new : SessionStage) → old.runs ≡ runs → BreaksStart runs old new → StageKept old → StageKept new
start_breaks laws None old new is broke kept = ⊎_elim
    (λ (cut : CutsOpening old new). cut_opening_kept old new cut)
    (λ cut. cut_run_kept laws cut.1 cut.0 new cut.4 (opened_kept laws old cut.0 cut.3))
    broke
start_breaks laws (Some runs) old new is broke kept = cut_run_kept laws runs old new broke kept

stop_breaks : FitLaws → (runs : Option RunsSeen) (old new : SessionStage) → old.runs ≡ runs → BreaksStop runs old new → StageKept old → StageKept new
stop_breaks laws None old new is broke kept = absurd broke
stop_breaks laws (Some runs) old new is broke kept =
    let after : RunsSeen = broke.0 in
    let shown : RunsKept old.declared (own_watched old.database.access) runs = open_kept old runs is kept in
    let a : CommandPoint PassedOver = own_point runs old.database.access in
    let b : CommandPoint PassedOver = own_point after new.database.access in
    subst StageKept (sym broke.1) (⊎_elim
    (λ stopped. steered_kept old.declared runs after (own_watched old.database.access) (own_watched new.database.access)
    (stop_moves laws.spares NothingSaid (answer.Stopped stopped.0) old.clock new.clock a b stopped.1).steers (laws.stop (answer.Stopped stopped.0) old.clock new.clock a b stopped.1 shown.fit) shown)
    (λ unsaved. steered_kept old.declared runs after (own_watched old.database.access) (own_watched new.database.access)
    (unsaved_moves laws.spares NothingSaid old.clock new.clock a b unsaved).steers (laws.unsaved old.clock new.clock a b unsaved shown.fit) shown)
    broke.2)

other_breaks : FitLaws → (command : DatabaseCommand) (old new : SessionStage) → BreaksDatabase command old.database new.database → new ≡ record old { database = new.database } → StageKept old → StageKept new
other_breaks laws command old new broke same kept = moved_kept laws old (record old { database = new.database }) new same refl refl (forget old.database.access new.database.access (broken_on laws.spares command old.database new.database broke)) kept

cut_keeps : FitLaws → (old new : SessionStage) → LineCut old new → StageKept old → StageKept new
cut_keeps laws old new (CutsStartLine broke) kept = start_breaks laws old.runs old new refl broke kept
cut_keeps laws old new (CutsStopLine broke) kept = stop_breaks laws old.runs old new refl broke kept
cut_keeps laws old new (CutsCalls command broke same) kept = other_breaks laws command old new broke same kept

pub line_breaks : FitLaws → (number : ℕ) (line : Read Command) (old new : SessionStage) → BreaksScriptLine number line old new → StageKept old → StageKept new
line_breaks laws number line old new broke kept = cut_keeps laws old new (line_cut number line old new broke) kept

-- Where what was noted of a line is taken out again.
pub withdraw_keeps : (number : ℕ) (old new : SessionStage) → WithdrawsLine number old new → StageKept old → StageKept new
withdraw_keeps number old new withdrew kept = subst StageKept (sym (withdrawn number old new withdrew)) kept

-- Behind all lines.

run_closes : FitLaws → (runs : Option RunsSeen) (old : SessionStage) (reply : Option Reply) (new : SessionStage) → old.runs ≡ runs → ClosesRun runs old reply new → StageKept old → StageKept new
run_closes laws None old reply new is closed kept = subst StageKept (sym closed.1) kept
run_closes laws (Some runs) old None new is closed kept = subst StageKept (sym closed.1) kept
run_closes laws (Some runs) old (Some reply) new is closed kept = stop_command laws runs old reply new closed.1 (open_kept old runs is kept)

pub script_closes : FitLaws → (old new : SessionStage) (reply : Option Reply) → ClosesScript old reply new → StageKept old → StageKept new
script_closes laws old new reply closed kept = run_closes laws old.runs old reply new refl closed kept

pub script_gives_up : FitLaws → (old new : SessionStage) → GivesUp old new → StageKept old → StageKept new
script_gives_up laws old new gave kept = stop_breaks laws old.runs old new refl gave.1 kept
