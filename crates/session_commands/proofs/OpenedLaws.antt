-- The lines of an open session, by what its commands of runs do.
use Rattle.daq_io.specs.Told.{AheadTold}
use Rattle.std.proofs.Common.{◌≡◌, ℕ, Option, Some, None, true, refl, sym, subst, ap, ◌∙◌}
use Rattle.std.specs.Prelude.{Result, Ok, Err, ◌⊎◌, IfOk, OnErr, is_some}
use Rattle.std.proofs.Math.Logic.{⊎_elim}
use Rattle.odb_script.specs.declared.commands.Command.{Command}
use Rattle.odb_script.specs.declared.commands.Command.TheVariants.{Run}
use Rattle.odb_script.specs.declared.commands.RunCommand.TheVariants.{Start, Stop, Pause, Resume}
use Rattle.odb_script.specs.Forms.{Read}
use Rattle.odb_watch.specs.DatabasePorts.{DatabaseAccess}
use Rattle.member_crew.specs.Rounds.{HadRounds}
use Rattle.session_setup.specs.Setup.{Declared}
use Rattle.session_setup.specs.declared.declared.DeclaredLists.{DeclaredLists}
use Rattle.console.specs.declared.replies.Reply.{Reply}
use Rattle.session_runs.specs.declared.on.CurrentRun.{CurrentRun}
use Rattle.session_runs.specs.declared.replies.RunReply.{RunReply}
use Rattle.session_runs.specs.declared.replies.RunReply.TheVariants as answer
use Rattle.session_runs.specs.KeptRuns.{RunsSeen}
use Rattle.session_runs.specs.RunAnswers.{AnswersPause, AnswersResume, AnswersStart, AnswersStop, CommandPoint, CutsStart, StopsUnsaved}
use Rattle.console.specs.DatabaseStages.{DatabaseStage}
use Rattle.session_commands.specs.NothingSaid.{NothingSaid, own_point}
use Rattle.session_commands.specs.KeptByCommands.{KeptByCommand}
use Rattle.session_commands.specs.Staying.{StaysOpen}
use Rattle.session_commands.specs.Stages.{SessionStage, open_stage}
use Rattle.session_commands.specs.RunLines.{BreaksStop, RunsCommand, StartsBy, StopsBy, behind_command, reply_for}
use Rattle.session_commands.specs.ScriptLines.{BreaksScriptLine, DoesScriptLine}
use Rattle.session_commands.specs.Staying.{rounds_more}

pub on_err : {T E : Type 0} (r : Result T E) (P : Type 0) → P → OnErr r P
on_err (Ok x) P p = tt
on_err (Err e) P p = p

pub either : {T E : Type 0} (r : Result T E) (P : T → Type 0) (Q R : Type 0) → ((x : T) → P x → R) → (Q → R) → IfOk r P → OnErr r Q → R
either (Ok x) P Q R f g p q = f x p
either (Err e) P Q R f g p q = g q

pub some_on : (on : Option CurrentRun) → is_some on ≡ true → (run : CurrentRun) × (on ≡ Some run)
some_on (Some run) is = (run, refl)
some_on None is = absurd (cc is)

pub cut_runs : {M : Type 0} (before after : AheadTold) (old new : CommandPoint M) → CutsStart before after old new → new.runs ≡ old.runs
cut_runs before after old new c = ⊎_elim (λ cut. cut.1.runs) (λ cut. cut.3.runs ∙ cut.2.runs) c.cut

module _ (d : Declared) (db : DatabaseStage) (a : DatabaseAccess) (k l : AheadTold) (runs later : RunsSeen) where
  abbrev old_stage : SessionStage
  old_stage = open_stage d db k runs

  abbrev new_stage : SessionStage
  new_stage = open_stage d (record db { access = a }) l later

  pub start_command : (reply : Reply) (said : RunReply) → AnswersStart NothingSaid said k l (own_point runs db.access) (own_point later a) → reply ≡ reply_for later said → later.quota ≡ runs.quota → RunsCommand StartsBy runs (open_stage d db k runs) reply (open_stage d (record db { access = a }) l later)
  start_command reply said does is quota = record { after = later; answer = said; does = does; reply_is = is; runs = refl; quota = quota; declared = refl; files = refl; replies = refl }

  pub stop_command : (reply : Reply) (said : RunReply) → AnswersStop NothingSaid said k l (own_point runs db.access) (own_point later a) → reply ≡ reply_for later said → later.quota ≡ runs.quota → RunsCommand StopsBy runs (open_stage d db k runs) reply (open_stage d (record db { access = a }) l later)
  stop_command reply said does is quota = record { after = later; answer = said; does = does; reply_is = is; runs = refl; quota = quota; declared = refl; files = refl; replies = refl }

  pub start_line : (number : ℕ) (line : Read Command) → line ≡ Ok (Run Start) → (reply : Reply) (said : RunReply) → AnswersStart NothingSaid said k l (own_point runs db.access) (own_point later a) → reply ≡ reply_for later said → later.quota ≡ runs.quota
      → DoesScriptLine number line (open_stage d db k runs) reply (open_stage d (record db { access = a }) l later)
  start_line number line at reply said does is quota = subst (λ (x : Read Command). DoesScriptLine number x old_stage reply new_stage) (sym at) (start_command reply said does is quota)

  pub stop_line : (number : ℕ) (line : Read Command) → line ≡ Ok (Run Stop) → (reply : Reply) (said : RunReply) → AnswersStop NothingSaid said k l (own_point runs db.access) (own_point later a) → reply ≡ reply_for later said → later.quota ≡ runs.quota
      → DoesScriptLine number line (open_stage d db k runs) reply (open_stage d (record db { access = a }) l later)
  stop_line number line at reply said does is quota = subst (λ (x : Read Command). DoesScriptLine number x old_stage reply new_stage) (sym at) (stop_command reply said does is quota)

  pub start_cut : (number : ℕ) (line : Read Command) → line ≡ Ok (Run Start) → CutsStart k l (own_point runs db.access) (own_point later a) → later ≡ runs → BreaksScriptLine number line (open_stage d db k runs) (open_stage d (record db { access = a }) l later)
  start_cut number line at cut same = subst (λ (x : Read Command). BreaksScriptLine number x old_stage new_stage) (sym at) (record {
    cut = subst (λ (r : RunsSeen). CutsStart k l (own_point runs db.access) (own_point r a)) same cut;
    same = ap (λ (r : RunsSeen). open_stage d (record db { access = a }) l r) same;
  })

  behind_same : later.quota ≡ runs.quota → new_stage ≡ behind_command old_stage new_stage later
  behind_same quota = ap (λ (q : ℕ). record new_stage { quota = q }) quota

  pub stop_broken : ((run : ℕ) × AnswersStop NothingSaid (answer.Stopped run) k l (own_point runs db.access) (own_point later a)) ⊎ StopsUnsaved NothingSaid k l (own_point runs db.access) (own_point later a) → later.quota ≡ runs.quota
      → BreaksStop (Some runs) (open_stage d db k runs) (open_stage d (record db { access = a }) l later)
  stop_broken cut quota = (later, behind_same quota, cut)

  pub stop_cut : (number : ℕ) (line : Read Command) → line ≡ Ok (Run Stop) → ((run : ℕ) × AnswersStop NothingSaid (answer.Stopped run) k l (own_point runs db.access) (own_point later a)) ⊎ StopsUnsaved NothingSaid k l (own_point runs db.access) (own_point later a) → later.quota ≡ runs.quota
      → BreaksScriptLine number line (open_stage d db k runs) (open_stage d (record db { access = a }) l later)
  stop_cut number line at cut quota = subst (λ (x : Read Command). BreaksScriptLine number x old_stage new_stage) (sym at) (stop_broken cut quota)

module _ (d : Declared) (db : DatabaseStage) (a : DatabaseAccess) (k : AheadTold) (runs later : RunsSeen) where
  pub pause_line : (number : ℕ) (line : Read Command) → line ≡ Ok (Run Pause) → (reply : Reply) (said : RunReply) → AnswersPause NothingSaid said (own_point runs db.access) (own_point later a) → reply ≡ reply_for later said → later.quota ≡ runs.quota
      → DoesScriptLine number line (open_stage d db k runs) reply (open_stage d (record db { access = a }) k later)
  pause_line number line at reply said does is quota = subst (λ (x : Read Command). DoesScriptLine number x (open_stage d db k runs) reply (open_stage d (record db { access = a }) k later)) (sym at)
      (record { after = later; answer = said; does = (does, refl); reply_is = is; runs = refl; quota = quota; declared = refl; files = refl; replies = refl })

  pub resume_line : (number : ℕ) (line : Read Command) → line ≡ Ok (Run Resume) → (reply : Reply) (said : RunReply) → AnswersResume NothingSaid said (own_point runs db.access) (own_point later a) → reply ≡ reply_for later said → later.quota ≡ runs.quota
      → DoesScriptLine number line (open_stage d db k runs) reply (open_stage d (record db { access = a }) k later)
  resume_line number line at reply said does is quota = subst (λ (x : Read Command). DoesScriptLine number x (open_stage d db k runs) reply (open_stage d (record db { access = a }) k later)) (sym at)
      (record { after = later; answer = said; does = (does, refl); reply_is = is; runs = refl; quota = quota; declared = refl; files = refl; replies = refl })

pub command_stays : {M : Type 0} (round : M → M → Type 0) (lists : DeclaredLists) (m : M) (old new : CommandPoint M) (count : ℕ) → HadRounds round count m old.members → KeptByCommand round old new
    → StaysOpen round m new.members old.runs.main.engine new.runs.main.engine old.database new.database lists lists
command_stays round lists m old new count begun kept =
    let more = rounds_more round count m old.members new.members kept.count begun kept.rounds in
    record { count = more.0; rounds = more.1; same_engine = kept.engine; port = kept.port; same_lists = refl }
