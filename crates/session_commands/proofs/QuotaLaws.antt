-- The starts of a script are begun with the quotas that its lines ask for.
use Rattle.daq_io.specs.Told.{AheadTold, SourceTold}
use Rattle.std.proofs.Common.{◌≡◌, ℕ, zero, suc, ◌+◌, List, [], ◌∷◌, ◌++◌, Option, Some, None, refl, ap, sym, ◌∙◌, subst, append_assoc}
use Rattle.std.specs.Prelude.{Bool, true, false, Result, Ok, Err, ⊤}
use Rattle.std.specs.Option.{option_map}
use Rattle.std.proofs.lemmas.List.{append-nil}
use Rattle.std.proofs.Math.Logic.{⊎_elim}
use Rattle.daq_types.specs.declared.memory.NoMemory.{NoMemory}
use Rattle.daq_types.specs.declared.runs.RunState.TheVariants.{Stopped as is_stopped}
use Rattle.daq_types.specs.declared.runs.StartOutcome.{StartOutcome}
use Rattle.daq_types.specs.declared.runs.StartOutcome.TheVariants.{Completed, Refused}
use Rattle.daq_types.specs.declared.runs.Transition.{Transition}
use Rattle.daq_types.specs.declared.runs.Transition.TheVariants.{Start as start_of_run, Stop as stop_of_run, Pause as pause_of_run, Resume as resume_of_run}
use Rattle.odb_script.specs.declared.commands.Command.{Command}
use Rattle.odb_script.specs.declared.commands.Command.TheVariants.{Nothing, Exit, Declare, Run, Database}
use Rattle.odb_script.specs.declared.commands.Declaration.{Declaration}
use Rattle.odb_script.specs.declared.commands.Declaration.TheVariants.{Channel}
use Rattle.odb_script.specs.declared.commands.RunCommand.TheVariants.{Events, Start, Stop, Pause, Resume}
use Rattle.odb_script.specs.declared.commands.DatabaseCommand.{DatabaseCommand}
use Rattle.odb_script.specs.declared.commands.DatabaseCommand.TheVariants.{Rows, Watches}
use Rattle.odb_script.specs.declared.refusals.LineRefusal.TheVariants.{BadCommand as no_command}
use Rattle.odb_script.specs.Forms.{Read, command_of}
use Rattle.transitions.specs.declared.entry.EngineEntry.TheVariants.{Begin}
use Rattle.member_model.specs.RunEngines.{ClientTally, EngineEntry, Sheet}
use Rattle.session_runs.specs.declared.opening.MemberName.{MemberName}
use Rattle.session_runs.specs.MadeTransitions.{done_check, going_checks}
use Rattle.session_runs.specs.Members.{registrations}
use Rattle.console.specs.declared.replies.Reply.{Reply}
use Rattle.console.specs.declared.replies.Reply.TheVariants as reply
use Rattle.console.specs.declared.refusals.Refusals.{Refusals}
use Rattle.session_setup.specs.declared.refusals.SetupRefusal.{SetupRefusal}
use Rattle.session_setup.specs.Setup.{Declared}
use Rattle.session_runs.specs.declared.on.CurrentRun.{CurrentRun}
use Rattle.session_runs.specs.declared.replies.RunReply.{RunReply}
use Rattle.session_runs.specs.declared.replies.RunReply.TheVariants as answer
use Rattle.session_runs.specs.KeptRuns.{RunsSeen, behind_start}
use Rattle.session_runs.specs.RunAnswers.{AnswersPause, AnswersResume, AnswersStart, AnswersStop, BeginsRun, CommandPoint, MakesChange, MakesStart, MakesStop}
use Rattle.console.specs.DatabaseLines.{DoesDatabase}
use Rattle.session_commands.specs.declared.passed_over.PassedOver.{PassedOver}
use Rattle.session_commands.specs.NothingSaid.{NothingSaid, own_point}
use Rattle.session_commands.proofs.WithdrawnLaws.{withdrawn}
use Rattle.session_commands.specs.Stages.{SessionStage, members_declared, runs_with_quota, with_quota}
use Rattle.session_commands.specs.SetupReplies.{SetupUnless, TakesChannel, TakesDeclaration, TakesSetup}
use Rattle.session_commands.specs.RunLines.{BreaksStart, BreaksStop, ClosesRun, CutsOpening, CutsRun, DoesPause, DoesResume, DoesStart, DoesStop, OpensSession, PausesBy, ResumesBy, RunsCommand, StartsBy, StopsBy, reply_for}
use Rattle.session_commands.specs.ScriptLines.{BreaksScriptLine, CallsDatabase, ClosesScript, DoesCommand, DoesScriptLine, GivesUp, WithdrawsLine}
use Rattle.console.specs.declared.endings.Ending.{Ending}
use Rattle.console.specs.declared.halts.Halt.{Halt}
use Rattle.console.specs.Playing.{PlaysFrom}
use Rattle.console.specs.Closing.{Finished}
use Rattle.console.proofs.KeepingLaws.{behind_keeps}
use Rattle.session_commands.specs.Quotas.{quota_begun, quota_behind, quota_told, quotas_asked, quotas_begun, quotas_so_far}
use Rattle.session_commands.proofs.LineKinds.{LineCut, CutsCalls, CutsStartLine, CutsStopLine, line_cut}

-- Calls on the engine.

quotas_joined : (own more : List EngineEntry) → quotas_begun (own ++ more) ≡ quotas_begun own ++ quotas_begun more
quotas_joined [] more = refl
quotas_joined (e ∷ own) more =
    ap (λ (l : List ℕ). quota_begun e ++ l) (quotas_joined own more) ∙ sym (append_assoc (quota_begun e) (quotas_begun own) (quotas_begun more))

checks_begin_none : (rounds : ℕ) (outcome : StartOutcome) (tallies : List ClientTally) → quotas_begun (going_checks rounds ++ done_check outcome tallies ∷ []) ≡ []
checks_begin_none zero outcome tallies = refl
checks_begin_none (suc n) outcome tallies = checks_begin_none n outcome tallies

registered_none : (first : ℕ) (members : List MemberName) → quotas_begun (registrations first members) ≡ []
registered_none first [] = refl
registered_none first (m ∷ members) = registered_none (suc first) members

-- a transition begins a start, or none
made_quotas : (t : Transition) (sheet : Sheet) (start : ℕ) (outcome : StartOutcome) (tallies : List ClientTally) (rounds : ℕ) (own later : List EngineEntry)
    → later ≡ own ++ Begin t sheet (Ok start) ∷ (going_checks rounds ++ done_check outcome tallies ∷ []) → quotas_begun later ≡ quotas_begun own ++ quota_begun (Begin t sheet (Ok start))
made_quotas t sheet start outcome tallies rounds own later is =
    ap quotas_begun is
    ∙ (quotas_joined own (Begin t sheet (Ok start) ∷ (going_checks rounds ++ done_check outcome tallies ∷ []))
    ∙ ap (λ (l : List ℕ). quotas_begun own ++ l)
    (ap (λ (l : List ℕ). quota_begun (Begin t sheet (Ok start)) ++ l) (checks_begin_none rounds outcome tallies) ∙ append-nil (quota_begun (Begin t sheet (Ok start)))))

-- Commands of runs.

-- The command leaves the quota, and begins starts with these quotas.
record Asks (old new : RunsSeen) (asked : List ℕ) : Type 0 where
  quota : new.quota ≡ old.quota
  begun : quotas_begun new.main.own ≡ quotas_begun old.main.own ++ asked

same_asks : (old new : RunsSeen) → new ≡ old → Asks old new []
same_asks old new same = record {
  quota = ap (λ (s : RunsSeen). s.quota) same;
  begun = ap (λ (s : RunsSeen). quotas_begun s.main.own) same ∙ sym (append-nil (quotas_begun old.main.own));
}

-- the quota of the start that a command with this answer began
abbrev asked_by : RunReply → (quota : ℕ) → List ℕ
asked_by (answer.Started run) quota = quota ∷ []
asked_by (answer.StartRefused client why) quota = quota ∷ []
asked_by said quota = []

start_quota : (s : RunsSeen) (r : CurrentRun) (outcome : StartOutcome) → (behind_start s r outcome).quota ≡ s.quota
start_quota s r Completed = refl
start_quota s r (Refused client why) = refl

begins_asks : (run : ℕ) (outcome : StartOutcome) (before after : AheadTold) (old new : CommandPoint PassedOver) → BeginsRun NothingSaid run outcome before after old new → Asks old.runs new.runs (old.runs.quota ∷ [])
begins_asks run outcome before after old new b = record {
  quota = ap (λ (s : RunsSeen). s.quota) b.kept ∙ start_quota old.runs _ outcome;
  begun = made_quotas start_of_run _ b.start outcome b.tallies b.drives.rounds old.runs.main.own new.runs.main.own b.drives.calls;
}

makes_asks : (run : ℕ) (outcome : StartOutcome) (before after : AheadTold) (old new : CommandPoint PassedOver) → MakesStart NothingSaid run outcome before after old new → Asks old.runs new.runs (old.runs.quota ∷ [])
makes_asks run outcome before after old new m =
    subst (λ (s : RunsSeen). Asks s new.runs (s.quota ∷ [])) m.1.runs (begins_asks run outcome before after m.0 new m.2)

start_asks : (said : RunReply) (before after : AheadTold) (old new : CommandPoint PassedOver) → AnswersStart NothingSaid said before after old new → Asks old.runs new.runs (asked_by said old.runs.quota)
start_asks (answer.Started run) before after old new a = makes_asks run Completed before after old new a
start_asks (answer.StartRefused client why) before after old new a = makes_asks a.0 (Refused client why) before after old new a.1
start_asks (answer.RunNumber have) before after old new a = same_asks old.runs new.runs a.0.runs
start_asks (answer.WrongState state) before after old new a = same_asks old.runs new.runs (ap (λ (p : CommandPoint PassedOver). p.runs) a.1)
start_asks answer.LastStart before after old new a = same_asks old.runs new.runs (ap (λ (p : CommandPoint PassedOver). p.runs) a.1)
start_asks (answer.Paused run) before after old new a = absurd a.0
start_asks (answer.Resumed run) before after old new a = absurd a.0
start_asks (answer.Stopped run) before after old new a = absurd a.0

stopped_asks : (r : CurrentRun) (saved : Result (List ℕ) NoMemory) (before after : AheadTold) (old new : CommandPoint PassedOver) → MakesStop NothingSaid r saved before after old new → Asks old.runs new.runs []
stopped_asks r saved before after old new m = record {
  quota = ap (λ (s : RunsSeen). s.quota) m.kept;
  begun = made_quotas stop_of_run _ r.start Completed m.tallies m.drives.rounds old.runs.main.own new.runs.main.own m.drives.calls;
}

stop_asks : (said : RunReply) (before after : AheadTold) (old new : CommandPoint PassedOver) → AnswersStop NothingSaid said before after old new → Asks old.runs new.runs (asked_by said old.runs.quota)
stop_asks (answer.Stopped run) before after old new a = stopped_asks a.0 (Ok a.2) before after old new a.3
stop_asks (answer.WrongState state) before after old new a = same_asks old.runs new.runs (ap (λ (p : CommandPoint PassedOver). p.runs) a.1)
stop_asks answer.LastStart before after old new a = same_asks old.runs new.runs (ap (λ (p : CommandPoint PassedOver). p.runs) a.1)
stop_asks (answer.RunNumber have) before after old new a = absurd a.0
stop_asks (answer.StartRefused client why) before after old new a = absurd a.0
stop_asks (answer.Started run) before after old new a = absurd a.0
stop_asks (answer.Paused run) before after old new a = absurd a.0
stop_asks (answer.Resumed run) before after old new a = absurd a.0

changed_asks : (t : Transition) (r : CurrentRun) (old new : CommandPoint PassedOver) → ((sheet : Sheet) → quota_begun (Begin t sheet (Ok r.start)) ≡ []) → MakesChange NothingSaid t r old new → Asks old.runs new.runs []
changed_asks t r old new none m = record {
  quota = ap (λ (s : RunsSeen). s.quota) m.kept;
  begun = made_quotas t _ r.start Completed m.tallies m.drives.rounds old.runs.main.own new.runs.main.own m.drives.calls
      ∙ ap (λ (l : List ℕ). quotas_begun old.runs.main.own ++ l) (none _);
}

pause_asks : (said : RunReply) (old new : CommandPoint PassedOver) → AnswersPause NothingSaid said old new → Asks old.runs new.runs (asked_by said old.runs.quota)
pause_asks (answer.Paused run) old new a = changed_asks pause_of_run a.0 old new (λ sheet. refl) a.2
pause_asks (answer.WrongState state) old new a = same_asks old.runs new.runs (ap (λ (p : CommandPoint PassedOver). p.runs) a.1)
pause_asks answer.LastStart old new a = same_asks old.runs new.runs (ap (λ (p : CommandPoint PassedOver). p.runs) a.1)
pause_asks (answer.RunNumber have) old new a = absurd a.0
pause_asks (answer.StartRefused client why) old new a = absurd a.0
pause_asks (answer.Started run) old new a = absurd a.0
pause_asks (answer.Resumed run) old new a = absurd a.0
pause_asks (answer.Stopped run) old new a = absurd a.0

resume_asks : (said : RunReply) (old new : CommandPoint PassedOver) → AnswersResume NothingSaid said old new → Asks old.runs new.runs (asked_by said old.runs.quota)
resume_asks (answer.Resumed run) old new a = changed_asks resume_of_run a.0 old new (λ sheet. refl) a.2
resume_asks (answer.WrongState state) old new a = same_asks old.runs new.runs (ap (λ (p : CommandPoint PassedOver). p.runs) a.1)
resume_asks answer.LastStart old new a = same_asks old.runs new.runs (ap (λ (p : CommandPoint PassedOver). p.runs) a.1)
resume_asks (answer.RunNumber have) old new a = absurd a.0
resume_asks (answer.StartRefused client why) old new a = absurd a.0
resume_asks (answer.Started run) old new a = absurd a.0
resume_asks (answer.Paused run) old new a = absurd a.0
resume_asks (answer.Stopped run) old new a = absurd a.0

told_by : (runs : RunsSeen) (said : RunReply) (quota : ℕ) → quota_told (reply_for runs said) quota ≡ asked_by said quota
told_by runs (answer.WrongState state) quota = refl
told_by runs answer.LastStart quota = refl
told_by runs (answer.RunNumber have) quota = refl
told_by runs (answer.StartRefused client why) quota = refl
told_by runs (answer.Started run) quota = refl
told_by runs (answer.Paused run) quota = refl
told_by runs (answer.Resumed run) quota = refl
told_by runs (answer.Stopped run) quota = refl

-- Lines.

-- What an open session keeps as its quota is the stage's.
abbrev MayAsk : (quota : ℕ) → Option RunsSeen → Type 0
MayAsk quota None = ⊤
MayAsk quota (Some runs) = runs.quota ≡ quota

abbrev StageAsks : SessionStage → Type 0
StageAsks s = MayAsk s.quota s.runs

-- A line sets the quota where it is an `events` line, and begins a start with the quota that stood where its reply tells of one.
record LineAsks (line : Read Command) (old : SessionStage) (said : Reply) (new : SessionStage) : Type 0 where
  quota : new.quota ≡ quota_behind line old.quota
  begun : StageAsks old → quotas_so_far new.runs ≡ quotas_so_far old.runs ++ quota_told said old.quota
  asks : StageAsks old → StageAsks new

none_more : (begun told : List ℕ) → told ≡ [] → begun ≡ begun ++ told
none_more begun told none = sym (append-nil begun) ∙ ap (λ (l : List ℕ). begun ++ l) (sym none)

-- a line that leaves the quota and the runs
other_line : (line : Read Command) (old : SessionStage) (said : Reply) (new : SessionStage) → ((q : ℕ) → quota_behind line q ≡ q) → ((q : ℕ) → quota_told said q ≡ []) → new.quota ≡ old.quota → new.runs ≡ old.runs → LineAsks line old said new
other_line line old said new stays none quota runs = record {
  quota = quota ∙ sym (stays old.quota);
  begun = λ asks. ap quotas_so_far runs ∙ none_more (quotas_so_far old.runs) (quota_told said old.quota) (none old.quota);
  asks = λ asks. subst (λ (q : ℕ). MayAsk q new.runs) (sym quota) (subst (MayAsk old.quota) (sym runs) asks);
}

still_line : (line : Read Command) (old : SessionStage) (said : Reply) (new : SessionStage) → ((q : ℕ) → quota_behind line q ≡ q) → ((q : ℕ) → quota_told said q ≡ []) → new ≡ old → LineAsks line old said new
still_line line old said new stays none same = other_line line old said new stays none (ap (λ (s : SessionStage). s.quota) same) (ap (λ (s : SessionStage). s.runs) same)

as_said : (said known : Reply) → said ≡ known → ((q : ℕ) → quota_told known q ≡ []) → (q : ℕ) → quota_told said q ≡ []
as_said said known is none q = ap (λ (r : Reply). quota_told r q) is ∙ none q

-- declarations

taken_none : (refusal : Option SetupRefusal) (taken old : Declared) (said : Reply) (new : Declared) → TakesSetup refusal taken old said new → (q : ℕ) → quota_told said q ≡ []
taken_none None taken old said new does q = as_said said reply.Silent does.0 (λ n. refl) q
taken_none (Some refusal) taken old said new does q = as_said said (reply.Setup refusal) does.0 (λ n. refl) q

channel_none : (refusal : Option SetupRefusal) (number : ℕ) (text buffer : List ℕ) (id mask sub_bytes : ℕ) (old : Declared) (said : Reply) (new : Declared) → TakesChannel refusal number text buffer id mask sub_bytes old said new → (q : ℕ) → quota_told said q ≡ []
channel_none None number text buffer id mask sub_bytes old said new does q = as_said said reply.Silent does.2 (λ n. refl) q
channel_none (Some refusal) number text buffer id mask sub_bytes old said new does q = as_said said (reply.Setup refusal) does.0 (λ n. refl) q

setup_none : (opened : Bool) (Then : Type 0) (old : Declared) (said : Reply) (new : Declared) → SetupUnless opened Then old said new → (Then → (q : ℕ) → quota_told said q ≡ []) → (q : ℕ) → quota_told said q ≡ []
setup_none true Then old said new does none q = as_said said (reply.Setup _) does.0 (λ n. refl) q
setup_none false Then old said new does none q = none does q

setup_line : (line : Read Command) (old : SessionStage) (said : Reply) (new : SessionStage) → ((q : ℕ) → quota_behind line q ≡ q) → ((q : ℕ) → quota_told said q ≡ []) → new ≡ record old { declared = new.declared } → LineAsks line old said new
setup_line line old said new stays none same = other_line line old said new stays none (ap (λ (s : SessionStage). s.quota) same) (ap (λ (s : SessionStage). s.runs) same)

-- `events`

quota_left : (count : ℕ) (runs : Option RunsSeen) → quotas_so_far (option_map (runs_with_quota count) runs) ≡ quotas_so_far runs
quota_left count None = refl
quota_left count (Some runs) = refl

quota_set : (count : ℕ) (runs : Option RunsSeen) → MayAsk count (option_map (runs_with_quota count) runs)
quota_set count None = tt
quota_set count (Some runs) = refl

events_line : (count : ℕ) (old : SessionStage) (said : Reply) (new : SessionStage) → said ≡ reply.Silent → new ≡ with_quota count old → LineAsks (Ok (Run (Events count))) old said new
events_line count old said new is same = record {
  quota = ap (λ (s : SessionStage). s.quota) same;
  begun = λ asks. ap (λ (s : SessionStage). quotas_so_far s.runs) same
      ∙ (quota_left count old.runs ∙ none_more (quotas_so_far old.runs) (quota_told said old.quota) (as_said said reply.Silent is (λ n. refl) old.quota));
  asks = λ asks. subst StageAsks (sym same) (quota_set count old.runs);
}

-- commands of an open session

run_line : (line : Read Command) (Does : RunReply → (old new : SessionStage) → (before after : RunsSeen) → Type 0) (before : RunsSeen) (old : SessionStage) (said : Reply) (new : SessionStage)
    → ((q : ℕ) → quota_behind line q ≡ q) → old.runs ≡ Some before → (c : RunsCommand Does before old said new) → Asks before c.after (asked_by c.answer before.quota) → LineAsks line old said new
run_line line Does before old said new stays there c did = record {
  quota = c.quota ∙ sym (stays old.quota);
  begun = λ asks.
      let same : before.quota ≡ old.quota = subst (MayAsk old.quota) there asks in
      let told : quota_told said old.quota ≡ asked_by c.answer old.quota = ap (λ (r : Reply). quota_told r old.quota) c.reply_is ∙ told_by c.after c.answer old.quota in
      ap quotas_so_far c.runs
      ∙ (did.begun
      ∙ (ap (λ (q : ℕ). quotas_begun before.main.own ++ asked_by c.answer q) same
      ∙ (ap (λ (l : List ℕ). quotas_begun before.main.own ++ l) (sym told)
      ∙ ap (λ (runs : Option RunsSeen). quotas_so_far runs ++ quota_told said old.quota) (sym there))));
  asks = λ asks. subst (MayAsk new.quota) (sym c.runs) (did.quota ∙ (subst (MayAsk old.quota) there asks ∙ sym c.quota));
}

stopped_line : (line : Read Command) (old : SessionStage) (said : Reply) (new : SessionStage) → ((q : ℕ) → quota_behind line q ≡ q) → said ≡ reply.WrongState is_stopped → new ≡ old → LineAsks line old said new
stopped_line line old said new stays is same = still_line line old said new stays (as_said said (reply.WrongState is_stopped) is (λ n. refl)) same

-- a session opens with no start begun
opens_none : (old ready : SessionStage) → OpensSession old ready → (quotas_so_far ready.runs ≡ []) × StageAsks ready
opens_none old ready opens = (
  ap quotas_so_far opens.runs ∙ registered_none 0 (members_declared ready.declared),
  subst (MayAsk ready.quota) (sym opens.runs) (sym opens.quota),
)

first_line : (old ready : SessionStage) (said : Reply) (new : SessionStage) → old.runs ≡ None → OpensSession old ready → LineAsks (Ok (Run Start)) ready said new → LineAsks (Ok (Run Start)) old said new
first_line old ready said new closed opens line = record {
  quota = line.quota ∙ opens.quota;
  begun = λ asks. line.begun (opens_none old ready opens).1
      ∙ (ap (λ (l : List ℕ). l ++ quota_told said ready.quota) (opens_none old ready opens).0
      ∙ (ap (quota_told said) opens.quota
      ∙ ap (λ (runs : Option RunsSeen). quotas_so_far runs ++ quota_told said old.quota) (sym closed)));
  asks = λ asks. line.asks (opens_none old ready opens).1;
}

start_line : (runs : Option RunsSeen) (old : SessionStage) (said : Reply) (new : SessionStage) → old.runs ≡ runs → DoesStart runs old said new → LineAsks (Ok (Run Start)) old said new
start_line None old said new closed does = first_line old does.0 said new closed does.3
    (run_line (Ok (Run Start)) StartsBy does.1 does.0 said new (λ q. refl) does.2 does.4
    (start_asks does.4.answer does.0.clock new.clock (own_point does.1 does.0.database.access) (own_point does.4.after new.database.access) does.4.does))
start_line (Some runs) old said new there does = run_line (Ok (Run Start)) StartsBy runs old said new (λ q. refl) there does
    (start_asks does.answer old.clock new.clock (own_point runs old.database.access) (own_point does.after new.database.access) does.does)

stop_line : (runs : Option RunsSeen) (old : SessionStage) (said : Reply) (new : SessionStage) → old.runs ≡ runs → DoesStop runs old said new → LineAsks (Ok (Run Stop)) old said new
stop_line None old said new closed does = stopped_line (Ok (Run Stop)) old said new (λ q. refl) does.0 does.1
stop_line (Some runs) old said new there does = run_line (Ok (Run Stop)) StopsBy runs old said new (λ q. refl) there does
    (stop_asks does.answer old.clock new.clock (own_point runs old.database.access) (own_point does.after new.database.access) does.does)

pause_line : (runs : Option RunsSeen) (old : SessionStage) (said : Reply) (new : SessionStage) → old.runs ≡ runs → DoesPause runs old said new → LineAsks (Ok (Run Pause)) old said new
pause_line None old said new closed does = stopped_line (Ok (Run Pause)) old said new (λ q. refl) does.0 does.1
pause_line (Some runs) old said new there does = run_line (Ok (Run Pause)) PausesBy runs old said new (λ q. refl) there does
    (pause_asks does.answer (own_point runs old.database.access) (own_point does.after new.database.access) does.does.0)

resume_line : (runs : Option RunsSeen) (old : SessionStage) (said : Reply) (new : SessionStage) → old.runs ≡ runs → DoesResume runs old said new → LineAsks (Ok (Run Resume)) old said new
resume_line None old said new closed does = stopped_line (Ok (Run Resume)) old said new (λ q. refl) does.0 does.1
resume_line (Some runs) old said new there does = run_line (Ok (Run Resume)) ResumesBy runs old said new (λ q. refl) there does
    (resume_asks does.answer (own_point runs old.database.access) (own_point does.after new.database.access) does.does.0)

-- commands of the online database

database_none : (number : ℕ) (command : DatabaseCommand) (old : SessionStage) (said : Reply) (new : SessionStage) → DoesDatabase number command old.database said new.database → (q : ℕ) → quota_told said q ≡ []
database_none number (Rows command) old said new does q = as_said said (reply.Database does.answer) does.reply_is (λ n. refl) q
database_none number (Watches command) old said new does q = as_said said (reply.Watch does.answer.reply) does.reply_is (λ n. refl) q

calls_line : (number : ℕ) (command : DatabaseCommand) (old : SessionStage) (said : Reply) (new : SessionStage) → CallsDatabase number command old said new → LineAsks (Ok (Database command)) old said new
calls_line number command old said new does = other_line (Ok (Database command)) old said new (λ q. refl) (database_none number command old said new does.0)
    (ap (λ (s : SessionStage). s.quota) does.1) (ap (λ (s : SessionStage). s.runs) does.1)

declared_none : (declaration : Declaration) (old : Declared) (said : Reply) (new : Declared) → TakesDeclaration declaration old said new → (q : ℕ) → quota_told said q ≡ []
declared_none (Channel n pattern buffer id mask sub_bytes) old said new does q = channel_none _ n pattern buffer id mask sub_bytes old said new does.2 q
declared_none declaration old said new does q = taken_none _ _ old said new does.2 q

command_asks : (number : ℕ) (command : Command) (old : SessionStage) (said : Reply) (new : SessionStage) → DoesCommand number command old said new → LineAsks (Ok command) old said new
command_asks number Nothing old said new does = still_line (Ok Nothing) old said new (λ q. refl) (as_said said reply.Silent does.0 (λ n. refl)) does.1
command_asks number Exit old said new does = still_line (Ok Exit) old said new (λ q. refl) (as_said said reply.Silent does.0 (λ n. refl)) does.1
command_asks number (Declare declaration) old said new does = setup_line (Ok (Declare declaration)) old said new (λ q. refl) (setup_none old.declared.opened _ old.declared said new.declared does.0 (declared_none declaration old.declared said new.declared)) does.1
command_asks number (Run (Events count)) old said new does = events_line count old said new does.0 does.1
command_asks number (Run Start) old said new does = start_line old.runs old said new refl does
command_asks number (Run Stop) old said new does = stop_line old.runs old said new refl does
command_asks number (Run Pause) old said new does = pause_line old.runs old said new refl does
command_asks number (Run Resume) old said new does = resume_line old.runs old said new refl does
command_asks number (Database command) old said new does = calls_line number command old said new does

line_asks : (number : ℕ) (line : Read Command) (old : SessionStage) (said : Reply) (new : SessionStage) → DoesScriptLine number line old said new → LineAsks line old said new
line_asks number (Err (no_command at)) old said new does = still_line (Err (no_command at)) old said new (λ q. refl) (as_said said (reply.BadCommand at) does.0 (λ n. refl)) does.1
line_asks number (Ok command) old said new does = command_asks number command old said new does

lines_ask : (number : ℕ) (lines : List (List ℕ)) (replies : List Reply) (old new : SessionStage) → PlaysFrom DoesScriptLine number lines replies old new → StageAsks old
    → quotas_so_far new.runs ≡ quotas_so_far old.runs ++ quotas_asked old.quota lines replies
lines_ask number [] [] old new same asks = ap (λ (s : SessionStage). quotas_so_far s.runs) same ∙ sym (append-nil (quotas_so_far old.runs))
lines_ask number [] (said ∷ replies) old new plays asks = absurd plays
lines_ask number (line ∷ lines) [] old new plays asks = absurd plays
lines_ask number (line ∷ lines) (said ∷ replies) old new plays asks =
    let first : LineAsks (command_of line) old said plays.0 = line_asks number (command_of line) old said plays.0 plays.1 in
    lines_ask (number + 1) lines replies plays.0 new plays.2 (first.asks asks)
    ∙ (ap (λ (q : ℕ). quotas_so_far plays.0.runs ++ quotas_asked q lines replies) first.quota
    ∙ (ap (λ (l : List ℕ). l ++ quotas_asked (quota_behind (command_of line) old.quota) lines replies) (first.begun asks)
    ∙ append_assoc (quotas_so_far old.runs) (quota_told said old.quota) (quotas_asked (quota_behind (command_of line) old.quota) lines replies)))

-- What is behind the lines begins no start, nor does a line that memory was wanting for.

cut_run_same : (before : RunsSeen) (old new : SessionStage) → CutsRun before old new → quotas_so_far new.runs ≡ quotas_so_far old.runs
cut_run_same before old new cut = ap (λ (s : SessionStage). quotas_so_far s.runs) cut.same

start_cut : (runs : Option RunsSeen) (old new : SessionStage) → old.runs ≡ runs → BreaksStart runs old new → quotas_so_far new.runs ≡ quotas_so_far old.runs
start_cut None old new closed broke = ⊎_elim
    (λ (cut : CutsOpening old new). ap (λ (s : SessionStage). quotas_so_far s.runs) cut.same)
    (λ cut. cut_run_same cut.1 cut.0 new cut.4 ∙ ((opens_none old cut.0 cut.3).0 ∙ ap quotas_so_far (sym closed)))
    broke
start_cut (Some runs) old new there broke = cut_run_same runs old new broke

none_begun : (runs later : RunsSeen) (old new : SessionStage) → old.runs ≡ Some runs → new.runs ≡ Some later → Asks runs later [] → quotas_so_far new.runs ≡ quotas_so_far old.runs
none_begun runs later old new there is asks = ap quotas_so_far is ∙ (asks.begun ∙ (append-nil (quotas_begun runs.main.own) ∙ ap quotas_so_far (sym there)))

stop_cut : (runs : Option RunsSeen) (old new : SessionStage) → old.runs ≡ runs → BreaksStop runs old new → quotas_so_far new.runs ≡ quotas_so_far old.runs
stop_cut None old new closed broke = absurd broke
stop_cut (Some runs) old new there broke = none_begun runs broke.0 old new there (ap (λ (s : SessionStage). s.runs) broke.1) (⊎_elim
    (λ stopped. stop_asks (answer.Stopped stopped.0) old.clock new.clock (own_point runs old.database.access) (own_point broke.0 new.database.access) stopped.1)
    (λ unsaved. stopped_asks unsaved.0 (Err (record {})) old.clock new.clock (own_point runs old.database.access) (own_point broke.0 new.database.access) unsaved.1)
    broke.2)

cut_same : (old new : SessionStage) → LineCut old new → quotas_so_far new.runs ≡ quotas_so_far old.runs
cut_same old new (CutsStartLine broke) = start_cut old.runs old new refl broke
cut_same old new (CutsStopLine broke) = stop_cut old.runs old new refl broke
cut_same old new (CutsCalls command broke same) = ap (λ (s : SessionStage). quotas_so_far s.runs) same

-- a stop begins no start
stop_answers : (said : RunReply) (before after : AheadTold) (old new : CommandPoint PassedOver) → AnswersStop NothingSaid said before after old new → asked_by said old.runs.quota ≡ []
stop_answers (answer.Stopped run) before after old new a = refl
stop_answers (answer.WrongState state) before after old new a = refl
stop_answers answer.LastStart before after old new a = refl
stop_answers (answer.RunNumber have) before after old new a = refl
stop_answers (answer.StartRefused client why) before after old new a = absurd a.0
stop_answers (answer.Started run) before after old new a = absurd a.0
stop_answers (answer.Paused run) before after old new a = refl
stop_answers (answer.Resumed run) before after old new a = refl

closed_same : (runs : Option RunsSeen) (old : SessionStage) (said : Option Reply) (new : SessionStage) → old.runs ≡ runs → ClosesRun runs old said new → quotas_so_far new.runs ≡ quotas_so_far old.runs
closed_same None old said new closed closes = ap (λ (s : SessionStage). quotas_so_far s.runs) closes.1
closed_same (Some runs) old None new there closes = ap (λ (s : SessionStage). quotas_so_far s.runs) closes.1
closed_same (Some runs) old (Some said) new there closes =
    let c : RunsCommand StopsBy runs old said new = closes.1 in
    let before : CommandPoint PassedOver = own_point runs old.database.access in
    let after : CommandPoint PassedOver = own_point c.after new.database.access in
    none_begun runs c.after old new there c.runs
    (subst (Asks runs c.after) (stop_answers c.answer old.clock new.clock before after c.does) (stop_asks c.answer old.clock new.clock before after c.does))

abbrev HaveBegun : (asked : List ℕ) → SessionStage → Type 0
HaveBegun asked s = quotas_so_far s.runs ≡ asked

-- A whole script, however it ended.
pub script_asks : (first final : SessionStage) (ending : Ending) (closing : Option Halt) (source left : SourceTold) (told_first told : Option (List ℕ)) (refusals : Refusals)
    → (finished : Finished DoesScriptLine BreaksScriptLine WithdrawsLine ClosesScript GivesUp first ending closing source left told_first told final refusals)
    → first.runs ≡ None → quotas_so_far final.runs ≡ quotas_asked first.quota finished.lines finished.replies
script_asks first final ending closing source left told_first told refusals finished none =
    let asked : List ℕ = quotas_asked first.quota finished.lines finished.replies in
    let played : quotas_so_far finished.between.runs ≡ asked =
    lines_ask 1 finished.lines finished.replies first finished.between finished.plays (subst (MayAsk first.quota) (sym none) tt)
    ∙ ap (λ (runs : Option RunsSeen). quotas_so_far runs ++ asked) none in
    behind_keeps DoesScriptLine BreaksScriptLine WithdrawsLine ClosesScript GivesUp (HaveBegun asked)
    (λ number old new withdrew kept. subst (HaveBegun asked) (sym (withdrawn number old new withdrew)) kept)
    (λ number line old new broke kept. cut_same old new (line_cut number line old new broke) ∙ kept)
    (λ old new said closes kept. closed_same old.runs old said new refl closes ∙ kept)
    (λ old new gave kept. stop_cut old.runs old new refl gave.1 ∙ kept)
    first final ending closing source left told_first told refusals finished played
