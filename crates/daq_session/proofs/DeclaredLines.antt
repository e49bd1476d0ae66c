-- What is declared as a session is open is what the lines of its script declare.
use Rattle.daq_io.specs.Told.{SourceTold}
use Rattle.std.proofs.Common.{◌≡◌, ℕ, ◌+◌, List, [], ◌∷◌, ◌++◌, ◌⊎◌, length, inl, inr, Option, Some, None, refl, ap, sym, ◌∙◌, subst}
use Rattle.std.specs.Prelude.{Bool, true, false, if◌then◌else◌, Ok, Err}
use Rattle.std.specs.Option.{option_map}
use Rattle.std.proofs.Math.Logic.{⊎_elim}
use Rattle.odb_script.specs.declared.commands.Command.{Command}
use Rattle.odb_script.specs.declared.commands.Command.TheVariants.{Nothing, Exit, Declare, Run, Database}
use Rattle.odb_script.specs.declared.commands.Declaration.{Declaration}
use Rattle.odb_script.specs.declared.commands.Declaration.TheVariants.{Buffer, Equip, Channel, Analyzer}
use Rattle.odb_script.specs.declared.commands.RunCommand.TheVariants.{Events, Start, Stop, Pause, Resume}
use Rattle.odb_script.specs.declared.refusals.LineRefusal.TheVariants.{BadCommand as no_command}
use Rattle.odb_script.specs.Forms.{Read, command_of}
use Rattle.session_setup.specs.declared.refusals.SetupRefusal.{SetupRefusal}
use Rattle.session_setup.specs.Setup.{Declared, nothing_declared}
use Rattle.session_setup.specs.SetupLines.{opened_with_defaults}
use Rattle.session_runs.specs.KeptRuns.{RunsSeen}
use Rattle.session_runs.specs.declared.replies.RunReply.{RunReply}
use Rattle.session_commands.specs.Stages.{SessionStage, runs_with_quota}
use Rattle.session_commands.specs.SetupReplies.{SetupUnless, TakesChannel, TakesDeclaration, TakesSetup}
use Rattle.session_commands.specs.RunLines.{BreaksStart, BreaksStop, ClosesRun, CutsOpening, CutsRun, DoesPause, DoesResume, DoesStart, DoesStop, OpensSession, PausesBy, ResumesBy, RunsCommand, StartsBy, StopsBy}
use Rattle.session_commands.specs.ScriptLines.{BreaksCommand, BreaksScriptLine, ClosesScript, DoesCommand, DoesScriptLine, GivesUp, WithdrawsLine}
use Rattle.console.specs.declared.endings.Ending.{Ending}
use Rattle.console.specs.declared.endings.Ending.TheVariants.{End, TooLong, SourceFault, Halted}
use Rattle.console.specs.declared.halts.Halt.{Halt}
use Rattle.console.specs.declared.halts.Halt.TheVariants.{NoMemory, SinkFault}
use Rattle.console.specs.declared.refusals.Refusals.{Refusals}
use Rattle.console.specs.declared.replies.Reply.{Reply}
use Rattle.console.specs.declared.replies.Reply.TheVariants.{Silent}
use Rattle.console.specs.Playing.{AreOfGiven, BreaksAt, CutBy, PlaysFrom, Wrote, WroteAll, WroteBut}
use Rattle.console.specs.Closing.{ClosesBy, Finished, GaveUp, IsClosed}
use Rattle.daq_session.specs.DeclaredLines.{IsDeclaredIn, LineDeclares, LinesDeclare, opened_by_start}

-- What is declared says whether the session is open.
abbrev OpenedBy : (opened : Bool) → Option RunsSeen → Type 0
OpenedBy opened None = opened ≡ false
OpenedBy opened (Some runs) = opened ≡ true

abbrev StageOpened : SessionStage → Type 0
StageOpened s = OpenedBy s.declared.opened s.runs

opened_as : (old new : Bool) (runs later : Option RunsSeen) → new ≡ old → later ≡ runs → OpenedBy old runs → OpenedBy new later
opened_as old new runs later opened same by =
    subst (λ (b : Bool). OpenedBy b later) (sym opened) (subst (OpenedBy old) (sym same) by)

-- A line or a part of one does so.
record Leads (Says : Declared → Declared → Type 0) (old new : SessionStage) : Type 0 where
  says : Says old.declared new.declared
  opened : StageOpened new

abbrev Stays : Declared → Declared → Type 0
Stays old new = new ≡ old

same_leads : (old new : SessionStage) → new ≡ old → StageOpened old → Leads Stays old new
same_leads old new same by = record { says = ap (λ (s : SessionStage). s.declared) same; opened = subst StageOpened (sym same) by }

-- what is declared stays, and so do the runs
kept_leads : (old new : SessionStage) → new.declared ≡ old.declared → new.runs ≡ old.runs → StageOpened old → Leads Stays old new
kept_leads old new declared runs by = record {
  says = declared;
  opened = opened_as old.declared.opened new.declared.opened old.runs new.runs (ap (λ (d : Declared). d.opened) declared) runs by;
}

-- declarations

taken_keeps : (refusal : Option SetupRefusal) (taken old : Declared) (said : Reply) (new : Declared) → TakesSetup refusal taken old said new → taken.opened ≡ old.opened → new.opened ≡ old.opened
taken_keeps None taken old said new does is = ap (λ (d : Declared). d.opened) does.1 ∙ is
taken_keeps (Some refusal) taken old said new does is = ap (λ (d : Declared). d.opened) does.1

channel_keeps : (refusal : Option SetupRefusal) (number : ℕ) (text buffer : List ℕ) (id mask sub_bytes : ℕ) (old : Declared) (said : Reply) (new : Declared) → TakesChannel refusal number text buffer id mask sub_bytes old said new → new.opened ≡ old.opened
channel_keeps None number text buffer id mask sub_bytes old said new does = ap (λ (d : Declared). d.opened) does.3
channel_keeps (Some refusal) number text buffer id mask sub_bytes old said new does = ap (λ (d : Declared). d.opened) does.1

declaration_keeps : (declaration : Declaration) (old : Declared) (said : Reply) (new : Declared) → TakesDeclaration declaration old said new → new.opened ≡ old.opened
declaration_keeps (Buffer name size) old said new does = taken_keeps _ _ old said new does.2 refl
declaration_keeps (Equip name id mask buffer limit) old said new does = taken_keeps _ _ old said new does.2 refl
declaration_keeps (Channel n pattern buffer id mask sub_bytes) old said new does = channel_keeps _ n pattern buffer id mask sub_bytes old said new does.2
declaration_keeps (Analyzer name buffer id mask kind) old said new does = taken_keeps _ _ old said new does.2 refl

setup_keeps : (opened : Bool) (declaration : Declaration) (old : Declared) (said : Reply) (new : Declared) → SetupUnless opened (TakesDeclaration declaration old said new) old said new → new.opened ≡ old.opened
setup_keeps true declaration old said new does = ap (λ (d : Declared). d.opened) does.1
setup_keeps false declaration old said new does = declaration_keeps declaration old said new does

-- starts

opened_from : (d : Declared) → d.opened ≡ false → opened_by_start d ≡ opened_with_defaults d
opened_from d shut = ap (λ (b : Bool). if b then d else opened_with_defaults d) shut

opened_still : (d : Declared) → d.opened ≡ true → opened_by_start d ≡ d
opened_still d is = ap (λ (b : Bool). if b then d else opened_with_defaults d) is

abbrev Starts : Declared → Declared → Type 0
Starts old new = new ≡ opened_by_start old

-- the session that was opened
opening_starts : (old ready : SessionStage) → OpensSession old ready → StageOpened old → ready.declared ≡ opened_by_start old.declared
opening_starts old ready opens by = opens.declared ∙ sym (opened_from old.declared (subst (OpenedBy old.declared.opened) opens.closed by))

ready_opened : (old ready : SessionStage) → OpensSession old ready → ready.declared.opened ≡ true
ready_opened old ready opens = ap (λ (d : Declared). d.opened) opens.declared

-- a stage with runs
with_runs : (new : SessionStage) (after : RunsSeen) → new.runs ≡ Some after → new.declared.opened ≡ true → StageOpened new
with_runs new after runs is = subst (OpenedBy new.declared.opened) (sym runs) is

command_leads : (Does : RunReply → (old new : SessionStage) → (before after : RunsSeen) → Type 0) (before : RunsSeen) (old : SessionStage) (said : Reply) (new : SessionStage)
    → old.declared.opened ≡ true → RunsCommand Does before old said new → Leads Stays old new
command_leads Does before old said new is c = record {
  says = c.declared;
  opened = with_runs new c.after c.runs (ap (λ (d : Declared). d.opened) c.declared ∙ is);
}

start_leads : (runs : Option RunsSeen) (old : SessionStage) (said : Reply) (new : SessionStage) → old.runs ≡ runs → StageOpened old → DoesStart runs old said new → Leads Starts old new
start_leads None old said new closed by does =
    let done : Leads Stays does.0 new = command_leads StartsBy does.1 does.0 said new (ready_opened old does.0 does.3) does.4 in
    record { says = done.says ∙ opening_starts old does.0 does.3 by; opened = done.opened }
start_leads (Some runs) old said new there by does =
    let is : old.declared.opened ≡ true = subst (OpenedBy old.declared.opened) there by in
    let done : Leads Stays old new = command_leads StartsBy runs old said new is does in
    record { says = done.says ∙ sym (opened_still old.declared is); opened = done.opened }

stop_leads : (runs : Option RunsSeen) (old : SessionStage) (said : Reply) (new : SessionStage) → old.runs ≡ runs → StageOpened old → DoesStop runs old said new → Leads Stays old new
stop_leads None old said new closed by does = same_leads old new does.1 by
stop_leads (Some runs) old said new there by does = command_leads StopsBy runs old said new (subst (OpenedBy old.declared.opened) there by) does

pause_leads : (runs : Option RunsSeen) (old : SessionStage) (said : Reply) (new : SessionStage) → old.runs ≡ runs → StageOpened old → DoesPause runs old said new → Leads Stays old new
pause_leads None old said new closed by does = same_leads old new does.1 by
pause_leads (Some runs) old said new there by does = command_leads PausesBy runs old said new (subst (OpenedBy old.declared.opened) there by) does

resume_leads : (runs : Option RunsSeen) (old : SessionStage) (said : Reply) (new : SessionStage) → old.runs ≡ runs → StageOpened old → DoesResume runs old said new → Leads Stays old new
resume_leads None old said new closed by does = same_leads old new does.1 by
resume_leads (Some runs) old said new there by does = command_leads ResumesBy runs old said new (subst (OpenedBy old.declared.opened) there by) does

quota_opened : (count : ℕ) (opened : Bool) (runs : Option RunsSeen) → OpenedBy opened runs → OpenedBy opened (option_map (runs_with_quota count) runs)
quota_opened count opened None by = by
quota_opened count opened (Some runs) by = by

-- Lines.

abbrev Declares : Read Command → Reply → Declared → Declared → Type 0
Declares line said old new = LineDeclares line old said new

command_declares : (number : ℕ) (command : Command) (old : SessionStage) (said : Reply) (new : SessionStage) → StageOpened old → DoesCommand number command old said new → Leads (Declares (Ok command) said) old new
command_declares number Nothing old said new by does = let done : Leads Stays old new = same_leads old new does.1 by in record { says = done.says; opened = done.opened }
command_declares number Exit old said new by does = let done : Leads Stays old new = same_leads old new does.1 by in record { says = done.says; opened = done.opened }
command_declares number (Declare declaration) old said new by does = record {
  says = does.0;
  opened = opened_as old.declared.opened new.declared.opened old.runs new.runs
      (setup_keeps old.declared.opened declaration old.declared said new.declared does.0) (ap (λ (s : SessionStage). s.runs) does.1) by;
}
command_declares number (Run (Events count)) old said new by does = record {
  says = ap (λ (s : SessionStage). s.declared) does.1;
  opened = subst StageOpened (sym does.1) (quota_opened count old.declared.opened old.runs by);
}
command_declares number (Run Start) old said new by does = let done : Leads Starts old new = start_leads old.runs old said new refl by does in record { says = done.says; opened = done.opened }
command_declares number (Run Stop) old said new by does = let done : Leads Stays old new = stop_leads old.runs old said new refl by does in record { says = done.says; opened = done.opened }
command_declares number (Run Pause) old said new by does = let done : Leads Stays old new = pause_leads old.runs old said new refl by does in record { says = done.says; opened = done.opened }
command_declares number (Run Resume) old said new by does = let done : Leads Stays old new = resume_leads old.runs old said new refl by does in record { says = done.says; opened = done.opened }
command_declares number (Database command) old said new by does =
    let done : Leads Stays old new = kept_leads old new (ap (λ (s : SessionStage). s.declared) does.1) (ap (λ (s : SessionStage). s.runs) does.1) by in
    record { says = done.says; opened = done.opened }

line_declares : (number : ℕ) (line : Read Command) (old : SessionStage) (said : Reply) (new : SessionStage) → StageOpened old → DoesScriptLine number line old said new → Leads (Declares line said) old new
line_declares number (Err (no_command at)) old said new by does = let done : Leads Stays old new = same_leads old new does.1 by in record { says = done.says; opened = done.opened }
line_declares number (Ok command) old said new by does = command_declares number command old said new by does

lines_declare : (number : ℕ) (lines : List (List ℕ)) (replies : List Reply) (old new : SessionStage) → StageOpened old → PlaysFrom DoesScriptLine number lines replies old new → Leads (LinesDeclare lines replies) old new
lines_declare number [] [] old new by same = let done : Leads Stays old new = same_leads old new same by in record { says = done.says; opened = done.opened }
lines_declare number [] (said ∷ replies) old new by plays = absurd plays
lines_declare number (line ∷ lines) [] old new by plays = absurd plays
lines_declare number (line ∷ lines) (said ∷ replies) old new by plays =
    let first = line_declares number (command_of line) old said plays.0 by plays.1 in
    let rest = lines_declare (number + 1) lines replies plays.0 new first.opened plays.2 in
    record { says = (plays.0.declared, first.says, rest.says); opened = rest.opened }

one_more : (lines : List (List ℕ)) (replies : List Reply) (line : List ℕ) (said : Reply) (old between new : Declared) → LinesDeclare lines replies old between → LineDeclares (command_of line) between said new
    → LinesDeclare (lines ++ line ∷ []) (replies ++ said ∷ []) old new
one_more [] [] line said old between new same declares =
    (new, subst (λ (d : Declared). LineDeclares (command_of line) d said new) same declares, refl)
one_more [] (reply ∷ replies) line said old between new none declares = absurd none
one_more (first ∷ lines) [] line said old between new none declares = absurd none
one_more (first ∷ lines) (reply ∷ replies) line said old between new does declares =
    (does.0, does.1, one_more lines replies line said does.0 between new does.2 declares)

-- Where memory ended.

cut_run_leads : (runs : RunsSeen) (old new : SessionStage) → StageOpened old → CutsRun runs old new → Leads Stays old new
cut_run_leads runs old new by cut = kept_leads old new (ap (λ (s : SessionStage). s.declared) cut.same) (ap (λ (s : SessionStage). s.runs) cut.same) by

stop_cut : (runs : Option RunsSeen) (old new : SessionStage) → old.runs ≡ runs → StageOpened old → BreaksStop runs old new → Leads Stays old new
stop_cut None old new closed by broke = absurd broke
stop_cut (Some runs) old new there by broke = record {
  says = ap (λ (s : SessionStage). s.declared) broke.1;
  opened = subst StageOpened (sym broke.1) (subst (OpenedBy old.declared.opened) there by);
}

-- The line changed nothing that is declared; or it was a start, which opened the session.
abbrev CutSo : Read Command → (old new : SessionStage) → Type 0
CutSo line old new = Leads Stays old new ⊎ Leads (Declares line Silent) old new

start_cut : (runs : Option RunsSeen) (old new : SessionStage) → old.runs ≡ runs → StageOpened old → BreaksStart runs old new → CutSo (Ok (Run Start)) old new
start_cut None old new closed by broke = ⊎_elim
    (λ (cut : CutsOpening old new). inl (kept_leads old new (ap (λ (s : SessionStage). s.declared) cut.same) (ap (λ (s : SessionStage). s.runs) cut.same) by))
    (λ cut.
    let ready : StageOpened cut.0 = with_runs cut.0 cut.1 cut.2 (ready_opened old cut.0 cut.3) in
    let done : Leads Stays cut.0 new = cut_run_leads cut.1 cut.0 new ready cut.4 in
    inr (record { says = done.says ∙ opening_starts old cut.0 cut.3 by; opened = done.opened }))
    broke
start_cut (Some runs) old new there by broke = inl (cut_run_leads runs old new by broke)

command_cut : (command : Command) (old new : SessionStage) → StageOpened old → BreaksCommand command old new → CutSo (Ok command) old new
command_cut Nothing old new by broke = absurd broke
command_cut Exit old new by broke = absurd broke
command_cut (Declare declaration) old new by broke = absurd broke
command_cut (Run (Events count)) old new by broke = absurd broke
command_cut (Run Start) old new by broke = start_cut old.runs old new refl by broke
command_cut (Run Stop) old new by broke = inl (stop_cut old.runs old new refl by broke)
command_cut (Run Pause) old new by broke = absurd broke
command_cut (Run Resume) old new by broke = absurd broke
command_cut (Database command) old new by broke =
    inl (kept_leads old new (ap (λ (s : SessionStage). s.declared) broke.1) (ap (λ (s : SessionStage). s.runs) broke.1) by)

line_cut : (number : ℕ) (line : Read Command) (old new : SessionStage) → StageOpened old → BreaksScriptLine number line old new → CutSo line old new
line_cut number (Err refusal) old new by broke = absurd broke
line_cut number (Ok command) old new by broke = command_cut command old new by broke

-- What was declared at some point of a script is what its lines declare.
record DeclaredTo (source left : SourceTold) (s : SessionStage) : Type 0 where
  lines : List (List ℕ)
  replies : List Reply
  ending : Ending
  given : AreOfGiven ending source left lines
  declares : LinesDeclare lines replies nothing_declared s.declared
  opened : StageOpened s

stays_to : (source left : SourceTold) (old new : SessionStage) → Leads Stays old new → DeclaredTo source left old → DeclaredTo source left new
stays_to source left old new leads to = record {
  lines = to.lines;
  replies = to.replies;
  ending = to.ending;
  given = to.given;
  declares = subst (LinesDeclare to.lines to.replies nothing_declared) (sym leads.says) to.declares;
  opened = leads.opened;
}

module _ (source left : SourceTold) (lines : List (List ℕ)) (replies : List Reply) (between cut : SessionStage)
    (declares : LinesDeclare lines replies nothing_declared between.declared) (by : StageOpened between) where
  -- the lines that were answered
  same_to : (ending : Ending) → AreOfGiven ending source left lines → cut ≡ between → DeclaredTo source left cut
  same_to ending given same =
      let here : DeclaredTo source left between = record { lines = lines; replies = replies; ending = ending; given = given; declares = declares; opened = by } in
      stays_to source left between cut (same_leads between cut same by) here

  -- and the next one, if it was begun
  broken_to : (ending : Ending) → AreOfGiven ending source left lines → BreaksAt DoesScriptLine BreaksScriptLine source left lines between cut → DeclaredTo source left cut
  broken_to ending given broke =
      let here : DeclaredTo source left between = record { lines = lines; replies = replies; ending = ending; given = given; declares = declares; opened = by } in
      ⊎_elim
      (λ (leads : Leads Stays between cut). stays_to source left between cut leads here)
      (λ (leads : Leads (Declares (command_of broke.line) Silent) between cut). record {
        lines = lines ++ broke.line ∷ [];
        replies = replies ++ Silent ∷ [];
        ending = Halted NoMemory;
        given = record { came = broke.next.came; gave = broke.next.gave; are = broke.next.of_came };
        declares = one_more lines replies broke.line Silent nothing_declared between.declared cut.declared declares leads.says;
        opened = leads.opened;
      })
      (line_cut (1 + length lines) (command_of broke.line) between cut by broke.broke)

  cut_to : (ending : Ending) → AreOfGiven ending source left lines → CutBy DoesScriptLine BreaksScriptLine ending source left lines between cut → DeclaredTo source left cut
  cut_to End given same = same_to End given same
  cut_to TooLong given same = same_to TooLong given same
  cut_to SourceFault given same = same_to SourceFault given same
  cut_to (Halted NoMemory) given is = ⊎_elim
      (λ (same : cut ≡ between). same_to (Halted NoMemory) given same)
      (λ (broke : BreaksAt DoesScriptLine BreaksScriptLine source left lines between cut). broken_to (Halted NoMemory) given broke)
      is
  cut_to (Halted SinkFault) given same = same_to (Halted SinkFault) given same

-- What is taken out of a line for whose text there was no memory is no declaration.

withdrawn_leads : (told_first told_now : Option (List ℕ)) (replies : List Reply) (old new : SessionStage) → StageOpened old → (ending : Ending)
    → Wrote WithdrawsLine ending told_first told_now replies old new → Leads Stays old new
withdrawn_leads told_first told_now replies old new by End all = same_leads old new all.stays by
withdrawn_leads told_first told_now replies old new by TooLong all = same_leads old new all.stays by
withdrawn_leads told_first told_now replies old new by SourceFault all = same_leads old new all.stays by
withdrawn_leads told_first told_now replies old new by (Halted SinkFault) part = same_leads old new part.1 by
withdrawn_leads told_first told_now replies old new by (Halted NoMemory) is = ⊎_elim
    (λ (all : WroteAll told_first told_now replies old new). same_leads old new all.stays by)
    (λ (but : WroteBut WithdrawsLine told_first told_now replies old new). kept_leads old new (ap (λ (s : SessionStage). s.declared) but.withdrew.1) (ap (λ (s : SessionStage). s.runs) but.withdrew.1) by)
    is

-- What is done behind the lines declares nothing.

closed_leads : (runs : Option RunsSeen) (old : SessionStage) (said : Option Reply) (new : SessionStage) → old.runs ≡ runs → StageOpened old → ClosesRun runs old said new → Leads Stays old new
closed_leads None old said new closed by closes = same_leads old new closes.1 by
closed_leads (Some runs) old None new there by closes = same_leads old new closes.1 by
closed_leads (Some runs) old (Some said) new there by closes = command_leads StopsBy runs old said new (subst (OpenedBy old.declared.opened) there by) closes.1

behind_leads : (closing : Option Halt) (behind : List Reply) (old new : SessionStage) → StageOpened old → ClosesBy ClosesScript GivesUp closing behind old new → Leads Stays old new
behind_leads closing behind old new by closed = ⊎_elim
    (λ (c : IsClosed ClosesScript GivesUp behind old new). closed_leads old.runs old c.reply new refl by c.closed)
    (λ (g : GaveUp ClosesScript GivesUp closing behind old new). stop_cut old.runs old new refl by g.gave_up.1)
    closed

-- A whole script that was played from a session for which nothing is declared.
pub script_declares : (first final : SessionStage) (ending : Ending) (closing : Option Halt) (source left : SourceTold) (told_first told : Option (List ℕ)) (refusals : Refusals)
    → Finished DoesScriptLine BreaksScriptLine WithdrawsLine ClosesScript GivesUp first ending closing source left told_first told final refusals
    → first.declared ≡ nothing_declared → first.runs ≡ None → (runs : RunsSeen) → final.runs ≡ Some runs → IsDeclaredIn source left final.declared
script_declares first final ending closing source left told_first told refusals finished nothing none runs is_open =
    let shut : StageOpened first = opened_as false first.declared.opened None first.runs (ap (λ (d : Declared). d.opened) nothing) none refl in
    let played : Leads (LinesDeclare finished.lines finished.replies) first finished.between =
    lines_declare 1 finished.lines finished.replies first finished.between shut finished.plays in
    let declares : LinesDeclare finished.lines finished.replies nothing_declared finished.between.declared =
    subst (λ (d : Declared). LinesDeclare finished.lines finished.replies d finished.between.declared) nothing played.says in
    let noted : Leads Stays finished.between finished.noted =
    withdrawn_leads told_first finished.told_lines finished.replies finished.between finished.noted played.opened ending finished.wrote_lines in
    let still : LinesDeclare finished.lines finished.replies nothing_declared finished.noted.declared =
    subst (LinesDeclare finished.lines finished.replies nothing_declared) (sym noted.says) declares in
    let cut : DeclaredTo source left finished.cut =
    cut_to source left finished.lines finished.replies finished.noted finished.cut still noted.opened ending finished.given finished.is_cut in
    let behind : Leads Stays finished.cut final = behind_leads closing finished.behind finished.cut final cut.opened finished.closed in
    let whole : DeclaredTo source left final = stays_to source left finished.cut final behind cut in
    record {
      lines = whole.lines;
      replies = whole.replies;
      ending = whole.ending;
      given = whole.given;
      declares = whole.declares;
      opened = subst (OpenedBy final.declared.opened) is_open whole.opened;
    }
