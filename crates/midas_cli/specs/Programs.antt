-- What the program's call of `midas` is, over all that it touches outside itself.
use Rattle.std.specs.Prelude.{◌≡◌, ◌≢◌, ◌↔◌, ◌⊎◌, ℕ, List, [], ◌∷◌, Option, Some, None, IfSome, Result, Ok, Err}
use Rattle.std.specs.Io.KnownBytes.{Appends}
use Rattle.std.specs.IoError.{error_kind}
use Rattle.std.specs.declared.io.Error.{Error}
use Rattle.std.specs.declared.io.ErrorKind.TheVariants.{InvalidData}
use Rattle.daq_io.specs.Counts.{Rose}
use Rattle.daq_io.specs.Seen.{IsFree, Same}
use Rattle.daq_io.specs.Streams.{AppendsPart}
use Rattle.daq_io.specs.Told.{FilesTold, SinkTold, SourceTold}
use Rattle.daq_io.specs.Uses.{free_numbers}
use Rattle.daq_io.specs.declared.objects.Outside.{Outside}
use Rattle.daq_std.specs.GivenWords.{IsBehindName}
use Rattle.daq_std.specs.InBlocks.{InBlocks}
use Rattle.command_words.specs.CommandLine.{HasForm, IsGenerate, IsOnFiles, IsRunWords}
use Rattle.command_words.specs.declared.forms.Tool.{Tool}
use Rattle.daq_session.specs.DeclaredLines.{ForSession}
use Rattle.daq_session.specs.Environments.{OutsideTold, environment}
use Rattle.daq_session.specs.Promises.{AnswerOnce, DeliverOwed, EndAll, EndsWell, FitCalls, FrontEndsSend, HasOneDatabase, HaveOneHistory, HaveReports, HaveRunFiles, NothingFailed, OthersStay, WroteReplies}
use Rattle.daq_session.specs.Sessions.{RunsScript}
use Rattle.daq_session.specs.declared.ends.ScriptEnd.{ScriptEnd}
use Rattle.midas_cli.specs.Generating.{Generates}
use Rattle.midas_cli.specs.Outcomes.{script_cause, status_of}
use Rattle.midas_cli.specs.Tools.{ToolRan}
use Rattle.midas_cli.specs.Usages.{usage_line}
use Rattle.midas_cli.specs.declared.causes.Cause.TheVariants.{NoMemory, SinkFault, Usage}
use Rattle.midas_cli.specs.declared.outcome.Outcome.{Outcome}
use Rattle.midas_cli.specs.declared.real.NotCalled.{NotCalled}
use Rattle.midas_cli.specs.declared.real.NotCalled.TheVariants as uncalled
use Rattle.midas_cli.specs.declared.real.NotCalled.TheVariants.{StreamsNotTaken}
use Rattle.midas_tools.specs.Findings.{call_counts}

-- The words are those behind the program's name that the system gave; none of them where one was no text, which is then the only error.
abbrev pub AreWordsOf : {S T : Type 0} → (S → Option T → S → Type 0) → (T → List ℕ) → Result S Error → (words : List (List ℕ)) → Type 0
AreWordsOf steps text (Ok given) words = IsBehindName steps text given words
AreWordsOf steps text (Err error) words = (error_kind error ≡ InvalidData → words ≡ []) × ¬ (error_kind error ≢ InvalidData)

-- the status of a program that was not called
abbrev pub status_uncalled : NotCalled → ℕ
status_uncalled StreamsNotTaken = status_of SinkFault
status_uncalled uncalled.NoMemory = status_of NoMemory

-- What a call of `midas` with these words came to: all that `midas` says of it.
pub record MidasRan {S O F E C K : Type 0} (told : OutsideTold S O F E C) (words : List (List ℕ)) (before after : Outside S O F E C K)
    (outcome : Outcome) : Type 0 where
  pub status : outcome.status ≡ status_of outcome.cause
  pub usage : (outcome.cause ≡ Usage) ↔ ¬ HasForm words
  pub usage_whole : ¬ HasForm words → ¬ Rose (told.sink before.out).faults (told.sink after.out).faults →
      Appends (told.sink before.out).written (told.sink after.out).written usage_line
  pub usage_part : ¬ HasForm words → AppendsPart (told.sink before.out).written (told.sink after.out).written usage_line
  pub usage_files : ¬ HasForm words → after.run_files ≡ before.run_files
  pub tool : (tool : Tool) → (names : List (List ℕ)) → IsOnFiles tool names words →
      ToolRan tool (told.crew.read before.run_files).seen names (told.sink before.out).written (told.sink after.out).written
      (call_counts told.sink told.crew.read before.out after.out before.run_files after.run_files)
      (told.crew.read after.run_files).first outcome.cause
      ⊎ ((outcome.cause ≡ NoMemory) × (after ≡ before))
  pub generated : (number : ℕ) → IsGenerate number words → Generates number (told.sink before.out).written (told.sink after.out).written
      (told.sink before.out).faults (told.sink after.out).faults outcome.cause
  pub generated_files : (number : ℕ) → IsGenerate number words → after.run_files ≡ before.run_files
  pub files : ¬ IsRunWords words → Same (told.crew.read before.run_files).seen (told.crew.read after.run_files).seen
  pub database_files : ¬ IsRunWords words → after.odb_files ≡ before.odb_files
  pub source : ¬ IsRunWords words → after.src ≡ before.src
  pub clock : ¬ IsRunWords words → after.clock ≡ before.clock
  pub picks : ¬ IsRunWords words → after.pick ≡ before.pick
  pub session : ¬ IsRunWords words → outcome.session ≡ None
  pub file_replies : ¬ IsRunWords words → outcome.file_replies.replies ≡ []
  pub one_history : IfSome outcome.session (λ session. HaveOneHistory session)
  pub delivery : IfSome outcome.session (λ session. DeliverOwed session)
  pub front_end_sends : ForSession outcome.session (told.source before.src) (told.source after.src)
      (λ declared session. FrontEndsSend declared session)
  pub run_files : ForSession outcome.session (told.source before.src) (told.source after.src)
      (λ declared session. HaveRunFiles (told.crew.read after.run_files).seen declared session)
  pub reports : ForSession outcome.session (told.source before.src) (told.source after.src)
      (λ declared session. HaveReports declared session)
  pub records : ForSession outcome.session (told.source before.src) (told.source after.src)
      (λ declared session. FitCalls declared session)
  pub database : ForSession outcome.session (told.source before.src) (told.source after.src)
      (λ declared session. HasOneDatabase declared session)
  pub other_files : ForSession outcome.session (told.source before.src) (told.source after.src)
      (λ declared session. OthersStay (told.crew.read before.run_files) (told.crew.read after.run_files) declared session)
  pub one_answer : IfSome outcome.session
      (λ session. AnswerOnce (told.crew.read before.run_files) (told.crew.read after.run_files) session)
  pub completeness : outcome.cause ≢ NoMemory → IfSome outcome.session
      (λ session. EndAll (told.crew.read before.run_files) (told.crew.read after.run_files) session)
  pub console : IsRunWords words → ((end : ScriptEnd) × (outcome.cause ≡ script_cause end)
      × WroteReplies (environment told before) (environment told after) end)
      ⊎ ((outcome.cause ≡ NoMemory) × (after ≡ before))
  pub ends_well : IsRunWords words → outcome.cause ≢ NoMemory → NothingFailed (environment told before) (environment told after) →
      (end : ScriptEnd) × (outcome.cause ≡ script_cause end) × EndsWell end
  pub ran : IsRunWords words → ((end : ScriptEnd) × (outcome.cause ≡ script_cause end)
      × RunsScript told before after end outcome.file_replies.replies outcome.session)
      ⊎ ((outcome.cause ≡ NoMemory) × (outcome.session ≡ None) × (outcome.file_replies.replies ≡ []) × (after ≡ before))

-- Files of which none was made, left or removed yet, and no call failed.
pub record AreUntouched (files : FilesTold) : Type 0 where
  pub unused : (number : ℕ) → IsFree files.seen number
  pub given : (number : ℕ) → files.seen.given number ≡ []
  pub done : files.seen.done ≡ []
  pub faults : files.faults ≡ 0
  pub clashes : files.clashes ≡ 0
  pub first : files.first ≡ None

-- The outside as the program finds it: no byte of the script was given and none of the console's text was written; the files are those
-- of the folder in which it runs, 17 run files and one of the database at a time, and none was made, left or removed.
pub record IsUntouched {S O A B C K : Type 0} (told : OutsideTold S O (InBlocks A) (InBlocks B) C) (outside : Outside S O (InBlocks A) (InBlocks B) C K) : Type 0 where
  pub script : (told.source outside.src).gave ≡ []
  pub script_faults : (told.source outside.src).faults ≡ 0
  pub text : (told.sink outside.out).written ≡ Some []
  pub text_faults : (told.sink outside.out).faults ≡ 0
  pub run_files : AreUntouched (told.crew.read outside.run_files)
  pub run_numbers : free_numbers outside.run_files.uses ≡ 17
  pub run_folder : outside.run_files.inside.folder ≡ 46 ∷ []
  pub odb_files : AreUntouched (told.dumps outside.odb_files)
  pub odb_numbers : free_numbers outside.odb_files.uses ≡ 1
  pub odb_folder : outside.odb_files.inside.folder ≡ 46 ∷ []
