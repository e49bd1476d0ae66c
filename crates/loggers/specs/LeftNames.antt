-- Which names of run files a logger leaves as they were at first: all but those of the runs that were stopped, of the run that it has,
-- and of runs whose start was undone, where a fault was counted.
use Rattle.std.specs.Prelude.{◌≡◌, ◌≢◌, ◌<◌, ◌≤◌, ◌+◌, ℕ, IsTrue, IsSome, List, [], ◌∷◌, length, slice_get, Option, Some, None, ⊤, ◌⊎◌}
use Rattle.daq_types.specs.declared.runs.Order.{Order}
use Rattle.daq_types.specs.declared.runs.ChannelState.TheVariants.{Broken as IsBroken}
use Rattle.daq_types.specs.declared.runs.Transition.TheVariants.{Start, Stop, StartAbort}
use Rattle.daq_types.specs.declared.runs.Why.{Why}
use Rattle.daq_types.specs.declared.runs.Why.TheVariants.{Exists, Fault}
use Rattle.daq_io.specs.Counts.{Rose, RoseBy}
use Rattle.daq_io.specs.Seen.{Seen, Stored}
use Rattle.daq_io.specs.Told.{FilesTold}
use Rattle.buffer_core.specs.Ports.{Access}
use Rattle.buffer_core.specs.Slots.{slot_at}
use Rattle.daq_types.specs.declared.runs.ChannelEnd.{ChannelEnd}
use Rattle.transitions.specs.declared.answers.Answer.TheVariants.{Yes, No}
use Rattle.transitions.specs.declared.answers.Tally.TheVariants.{Channels}
use Rattle.member_model.specs.RunEngines.{Tally}
use Rattle.member_model.specs.Turns.{MemberTurn, HasTurn, HasTurnOf, IsAcceptedStart, latest_answered, AreEngineTurns}
use Rattle.mid_logger.specs.declared.channel.Channel.{Channel}
use Rattle.mid_logger.specs.declared.channel_spec.ChannelSpec.{ChannelSpec}
use Rattle.mid_logger.specs.declared.pulled.Pulled.{Pulled}
use Rattle.mid_logger.specs.declared.stage.BegunRun.{BegunRun}
use Rattle.mid_logger.specs.declared.stage.ChannelRun.{ChannelRun}
use Rattle.mid_logger.specs.declared.stage.ChannelStage.TheVariants.{Broken}
use Rattle.sub_files.specs.declared.open_file.Fallen.{Fallen}
use Rattle.mid_logger.specs.Patterns.{file_name_by}
use Rattle.mid_logger.specs.Channels.{channel_run, files_by as files_made}
use Rattle.sub_files.specs.Cuts.{last_number}
use Rattle.sub_files.specs.Patterns.{piece_name_by}
use Rattle.loggers.specs.declared.logged_run.LoggedRun.{LoggedRun}
use Rattle.loggers.specs.declared.logged_run.RunDumps.{RunDumps}
use Rattle.loggers.specs.Moments.{LoggerMoment, HaveFilesOpen, IsLoggerReady, channel_limit}
use Rattle.loggers.specs.SlotPulls.{PullsNumbered}
use Rattle.loggers.specs.Turning.{LoggerTurn, TakesTurn, IsIdleOutside}
use Rattle.loggers.specs.Finishing.{LoggerFinish, FinishesLogger, waiting_stop}
use Rattle.loggers.specs.LoggerStands.{LoggerStands, logger_turn}
use Rattle.loggers.specs.OtherFiles.{specs_in}
use Rattle.loggers.specs.Reasons.{GivesReasons}
use Rattle.loggers.specs.ToldCounts.{faults_told, broken_off, starts_undone}

-- the name is that of a file that one of these channels made in the run that it writes, or broke off
pub record IsOpenName (slots : List (Option Channel)) (name : List ℕ) : Type 0 where
  pub number : ℕ
  pub channel : Channel
  pub opened : ChannelRun
  pub there : slot_at slots number ≡ Some channel
  pub of : channel_run channel.stage ≡ Some opened
  pub sub : ℕ
  pub made : sub < files_made channel.stage
  pub is : piece_name_by channel.spec.pattern opened.run sub ≡ name

-- Under each name there is what is good there, but for the names of the runs that these channels write, or broke off; and
-- there it is good that there is no file.
pub record NamesLeft (Good : (name : List ℕ) → Option Stored → Type 0) (slots : List (Option Channel)) (now : Seen) : Type 0 where
  pub each : (name : List ℕ) → Good name (now.at name) ⊎ IsOpenName slots name
  pub fresh : (name : List ℕ) → IsOpenName slots name → Good name None

-- no fault was counted meanwhile
abbrev pub NoneRose : (old new : FilesTold) → Type 0
NoneRose old new = Rose old.faults new.faults → ⊥

-- the run with this number was started, which was accepted, and stopped, and this was told of its channels
pub record IsStoppedRunOf (turns : List MemberTurn) (run : ℕ) (ends : List ChannelEnd) : Type 0 where
  pub begin : MemberTurn
  pub stop : MemberTurn
  pub is_start : IsAcceptedStart turns stop.order.start begin
  pub number : begin.order.run ≡ run
  pub stands : HasTurn turns stop
  pub is : stop.transition ≡ Stop
  pub answered : stop.answer ≡ Some (Yes (Channels ends))

-- the name is that of a file of one of these channels in such a run: of a number below how many files were told of the channel
pub record IsStoppedName (specs : List (Option ChannelSpec)) (turns : List MemberTurn) (name : List ℕ) : Type 0 where
  pub number : ℕ
  pub spec : ChannelSpec
  pub there : slot_at specs number ≡ Some spec
  pub run : ℕ
  pub ends : List ChannelEnd
  pub stopped : IsStoppedRunOf turns run ends
  pub told : ChannelEnd
  pub at : slice_get ends number ≡ Some told
  pub sub : ℕ
  pub made : sub < told.files
  pub is : piece_name_by spec.pattern run sub ≡ name

-- A start of the run with this number is among these turns, and was undone: it was refused, or it was called off.
pub record IsUndoneRun (turns : List MemberTurn) (run : ℕ) : Type 0 where
  pub begin : MemberTurn
  pub stands : HasTurn turns begin
  pub is : begin.transition ≡ Start
  pub number : begin.order.run ≡ run
  pub undone : ((why : Why) × (begin.answer ≡ Some (No why)))
      ⊎ ((off : MemberTurn) × HasTurnOf turns StartAbort begin.order.start off)

-- the name is one that one of these channels gives to a file, of whatever number, in such a run
pub record IsUndoneName (specs : List (Option ChannelSpec)) (turns : List MemberTurn) (name : List ℕ) : Type 0 where
  pub number : ℕ
  pub spec : ChannelSpec
  pub there : slot_at specs number ≡ Some spec
  pub run : ℕ
  pub undone : IsUndoneRun turns run
  pub sub : ℕ
  pub few : sub ≤ last_number
  pub is : piece_name_by spec.pattern run sub ≡ name

-- More faults were counted than the answers to these turns and the channels that broke off tell, one for each: as where a start was
-- undone, or a channel broke off by more than one failed call.
abbrev pub HasUntoldFault : List (Option Channel) → List MemberTurn → (first now : FilesTold) → Type 0
HasUntoldFault slots turns first now = RoseBy (faults_told turns + broken_off slots + 1) first.faults now.faults

-- The name is that of a file of a run that was stopped; or it is one of a run whose start was undone, of which a file may be left where
-- more faults were counted than are told.
abbrev pub IsNameMade : (Untold : Type 0) → List (Option ChannelSpec) → List MemberTurn → (name : List ℕ) → Type 0
IsNameMade Untold specs turns name = IsStoppedName specs turns name ⊎ (Untold × IsUndoneName specs turns name)

-- what stands under the name is as it was at first; or there was no file of this name at first, and it is a name of such a run
abbrev pub IsNameLeft : (Untold : Type 0) → List (Option ChannelSpec) → List MemberTurn → (first : Seen) → (name : List ℕ) →
    Option Stored → Type 0
IsNameLeft Untold specs turns first name stored =
    (stored ≡ first.at name) ⊎ ((first.at name ≡ None) × IsNameMade Untold specs turns name)

-- a channel of a lower place gives the name to its first file in the same run
pub record IsGivenBefore (specs : List (Option ChannelSpec)) (place run : ℕ) (name : List ℕ) : Type 0 where
  pub lower : ℕ
  pub spec : ChannelSpec
  pub below : lower < place
  pub there : slot_at specs lower ≡ Some spec
  pub is : file_name_by spec.pattern run ≡ name

-- The name that the channel at this place gives to its first file in this run is free behind these turns: no file had it at first, no
-- run that was stopped has it, and no channel of a lower place gives it.
pub record IsNameFree (specs : List (Option ChannelSpec)) (turns : List MemberTurn) (first : Seen) (place run : ℕ) (name : List ℕ) : Type 0 where
  pub first_none : first.at name ≡ None
  pub none_made : AreEngineTurns turns → IsStoppedName specs turns name → ⊥
  pub none_gives : IsGivenBefore specs place run name → ⊥

-- so it is with each channel at a lower place than this
abbrev pub AreNamesFree : List (Option ChannelSpec) → List MemberTurn → (first : Seen) → (run place : ℕ) → Type 0
AreNamesFree specs turns first run place =
    (lower : ℕ) → (spec : ChannelSpec) → lower < place → slot_at specs lower ≡ Some spec →
    IsNameFree specs turns first lower run (file_name_by spec.pattern run)

-- The name that a channel with this number gives to its first file in this run is taken behind these turns: a file had it at first,
-- or it is one of a run that was stopped, or of one whose start was undone, or another channel of that run gives it. The channels of
-- lower places found theirs free.
pub record IsNameTaken (Untold : Type 0) (specs : List (Option ChannelSpec)) (turns : List MemberTurn) (first : Seen) (run number : ℕ) : Type 0 where
  pub place : ℕ
  pub spec : ChannelSpec
  pub there : slot_at specs place ≡ Some spec
  pub number_is : spec.number ≡ number
  pub by : IsSome (first.at (file_name_by spec.pattern run))
      ⊎ (IsNameMade Untold specs turns (file_name_by spec.pattern run)
      ⊎ IsGivenBefore specs place run (file_name_by spec.pattern run))
  pub least : AreNamesFree specs turns first run place

-- A start behind these turns was refused for a name only where that was taken, and accepted only where the names of all channels were
-- free.
pub record FindsNames (Untold : Type 0) (specs : List (Option ChannelSpec)) (turns : List MemberTurn) (first : Seen) (t : MemberTurn) : Type 0 where
  pub taken : (number : ℕ) → t.answer ≡ Some (No (Exists number)) → IsNameTaken Untold specs turns first t.order.run number
  pub free : t.transition ≡ Start → (tally : Tally) → t.answer ≡ Some (Yes tally) →
      AreNamesFree specs turns first t.order.run (length specs)

-- each of these turns is so, by those before it; the latest stands first
abbrev pub EachBehind : (Is : List MemberTurn → MemberTurn → Type 0) → List MemberTurn → Type 0
EachBehind Is [] = ⊤
EachBehind Is (t ∷ ts) = Is ts t × EachBehind Is ts

-- so it is with each of these turns
abbrev pub EachFindsNames : (Untold : Type 0) → List (Option ChannelSpec) → (first : Seen) → List MemberTurn → Type 0
EachFindsNames Untold specs first turns = EachBehind (λ ts t. FindsNames Untold specs ts first t) turns

-- The name is that of a file of one of these channels in a run that was stopped, of which it was told that it broke off; or of the one
-- behind those that were made, which could not be.
pub record IsBrokenName (specs : List (Option ChannelSpec)) (turns : List MemberTurn) (name : List ℕ) : Type 0 where
  pub number : ℕ
  pub spec : ChannelSpec
  pub there : slot_at specs number ≡ Some spec
  pub run : ℕ
  pub ends : List ChannelEnd
  pub stopped : IsStoppedRunOf turns run ends
  pub told : ChannelEnd
  pub at : slice_get ends number ≡ Some told
  pub broken : told.state ≡ IsBroken
  pub sub : ℕ
  pub few : sub ≤ told.files
  pub is : piece_name_by spec.pattern run sub ≡ name

-- the same of a channel that broke off in a run that is not settled
pub record IsBrokenOffName (slots : List (Option Channel)) (name : List ℕ) : Type 0 where
  pub number : ℕ
  pub channel : Channel
  pub run : BegunRun
  pub fallen : Fallen
  pub there : slot_at slots number ≡ Some channel
  pub of : channel.stage ≡ Broken run fallen
  pub sub : ℕ
  pub few : sub ≤ fallen.files
  pub is : piece_name_by channel.spec.pattern run.opened.run sub ≡ name

-- Where no fault was named at first, and no turn undid what was opened, the file of the first fault is that of a channel that broke off.
abbrev pub IsFaultTold : List (Option Channel) → List MemberTurn → (first now : FilesTold) → Type 0
IsFaultTold slots turns first now =
    first.first ≡ None → starts_undone turns ≡ 0 → (name : List ℕ) → now.first ≡ Some name →
    IsBrokenName (specs_in slots) turns name ⊎ IsBrokenOffName slots name

-- One of these channels gives the name to a file of a run whose start was undone.
pub record IsUndoneFile (specs : List (Option ChannelSpec)) (turns : List MemberTurn) (name : List ℕ) : Type 0 where
  pub number : ℕ
  pub spec : ChannelSpec
  pub there : slot_at specs number ≡ Some spec
  pub run : ℕ
  pub undone : IsUndoneRun turns run
  pub sub : ℕ
  pub is : piece_name_by spec.pattern run sub ≡ name

-- The name is that of a file of a channel that is told to have broken off, of one that broke off in a run that is not settled, or of a
-- run whose start was undone.
abbrev pub IsFaultName : List (Option Channel) → List MemberTurn → (name : List ℕ) → Type 0
IsFaultName slots turns name =
    IsBrokenName (specs_in slots) turns name ⊎ (IsBrokenOffName slots name ⊎ IsUndoneFile (specs_in slots) turns name)

-- Where no fault was named at first, the file of the first fault is one of these.
abbrev pub IsFaultKnown : List (Option Channel) → List MemberTurn → (first now : FilesTold) → Type 0
IsFaultKnown slots turns first now =
    first.first ≡ None → (name : List ℕ) → now.first ≡ Some name → IsFaultName slots turns name

-- the channel with this number gives the name to its first file in the run
pub record IsGivenBy (specs : List (Option ChannelSpec)) (number run : ℕ) (name : List ℕ) : Type 0 where
  pub place : ℕ
  pub spec : ChannelSpec
  pub there : slot_at specs place ≡ Some spec
  pub number_is : spec.number ≡ number
  pub is : file_name_by spec.pattern run ≡ name

-- The file of the first fault is the one that the channel with this number was to make in the run; or it is one of these turns: of a
-- channel that is told to have broken off, or of a run whose start was undone.
pub record IsFaultOf (specs : List (Option ChannelSpec)) (turns : List MemberTurn) (now : FilesTold) (run number : ℕ) : Type 0 where
  pub name : List ℕ
  pub named : now.first ≡ Some name
  pub of : IsGivenBy specs number run name ⊎ (IsBrokenName specs turns name ⊎ IsUndoneFile specs turns name)

-- Where no fault was named at first, and a start behind these turns was refused for a fault of a channel, the file of the first fault is
-- the one that this channel was to make in the run, or one of these turns.
abbrev pub NamesFaultOfStart : List (Option ChannelSpec) → (first now : FilesTold) → List MemberTurn → MemberTurn → Type 0
NamesFaultOfStart specs first now turns t = first.first ≡ None → (number : ℕ) → t.answer ≡ Some (No (Fault number)) →
    IsFaultOf specs turns now t.order.run number

-- A logger with these channels and these turns, whose run files were so at first, and are so now: where names are told, it left all
-- names so but those of the runs that it has. A start that was refused, or called off, left nothing, unless a fault was counted that no
-- answer tells; and it was refused for a name only where that was taken. And where no fault was named at first, the file of the first
-- fault is one of a channel that broke off, or, where a turn undid what was opened, one of such a run; and where a start was refused for
-- a fault of a channel, it is the one that this channel was to make, or one of the turns before.
pub record KeepsNames (slots : List (Option Channel)) (first now : FilesTold) (turns : List MemberTurn) : Type 0 where
  pub told : now.seen.names ≡ first.seen.names
  pub names : IsTrue first.seen.names →
      NamesLeft (IsNameLeft (HasUntoldFault slots turns first now) (specs_in slots) turns first.seen) slots now.seen
  pub found : IsTrue first.seen.names → EachFindsNames (HasUntoldFault slots turns first now) (specs_in slots) first.seen turns
  pub first_fault : IsFaultTold slots turns first now
  pub fault_known : IsFaultKnown slots turns first now
  pub faults_named : EachBehind (NamesFaultOfStart (specs_in slots) first now) turns

-- A turn and a pull keep that.
abbrev pub TurnsKeepNames : Type 0
TurnsKeepNames = (t : LoggerTurn) → (first : FilesTold) → (turns : List MemberTurn) → TakesTurn t →
    IsLoggerReady t.before.slots t.before.ports t.before.files.seen → IsIdleOutside t.run t.before.slots →
    LoggerStands t.run t.dumps t.before.slots t.before.ports turns t.before.files.seen →
    GivesReasons t.before.slots t.before.ports first t.before.files turns → KeepsNames t.before.slots first t.before.files turns →
    KeepsNames t.after.slots first t.after.files (logger_turn t.transition t.order t.dump t.answer ∷ turns)

abbrev pub PullsKeepNames : Type 0
PullsKeepNames = (dump : List ℕ) → (number : ℕ) → (answer : Pulled) → (a b : LoggerMoment) → (first : FilesTold) →
    (turns : List MemberTurn) → PullsNumbered dump number answer a b → IsLoggerReady a.slots a.ports a.files.seen →
    KeepsNames a.slots first a.files turns → KeepsNames b.slots first b.files turns

-- The latest of these turns is a stop with this dump that is not answered, and the run that each of these channels writes, or
-- broke off, is that of the accepted start with the stop's number.
pub record StopsOpenRuns (dump : Option (List ℕ)) (slots : List (Option Channel)) (turns : List MemberTurn) : Type 0 where
  pub order : Order
  pub earlier : List MemberTurn
  pub latest : turns ≡ logger_turn Stop order dump None ∷ earlier
  pub runs : (number : ℕ) → (channel : Channel) → (opened : ChannelRun) → slot_at slots number ≡ Some channel →
      channel_run channel.stage ≡ Some opened →
      (begin : MemberTurn) × IsAcceptedStart turns order.start begin × (begin.order.run ≡ opened.run)

-- so it is where the logger's stop waits for its answer
abbrev pub HaveStoppedRuns : Option LoggedRun → (dump : Option (List ℕ)) → List (Option Channel) → List MemberTurn → Type 0
HaveStoppedRuns run dump slots turns = (time : ℕ) → waiting_stop run ≡ Some time → StopsOpenRuns dump slots turns

-- So it is between the logger's calls, and a pull keeps it.
abbrev pub StandingHasStopped : Type 0
StandingHasStopped = (run : Option LoggedRun) → (dumps : RunDumps) → (slots : List (Option Channel)) →
    (ports : List Access) → (turns : List MemberTurn) → (seen : Seen) →
    LoggerStands run dumps slots ports turns seen → HaveStoppedRuns run dumps.stop slots turns

abbrev pub PullsKeepStopped : Type 0
PullsKeepStopped = (dump : List ℕ) → (number : ℕ) → (answer : Pulled) → (a b : LoggerMoment) → (run : Option LoggedRun) →
    (stop_dump : Option (List ℕ)) → (turns : List MemberTurn) → PullsNumbered dump number answer a b →
    IsLoggerReady a.slots a.ports a.files.seen → HaveStoppedRuns run stop_dump a.slots turns →
    HaveStoppedRuns run stop_dump b.slots turns

-- Then a call to finish keeps the names: the files that it ends are those of a run that was stopped, and it tells how many these
-- are, where the channels are no more than are told of.
abbrev pub FinishesKeepNames : Type 0
FinishesKeepNames = (f : LoggerFinish) → (first : FilesTold) → (turns : List MemberTurn) → FinishesLogger f →
    length f.slots ≤ channel_limit → HaveFilesOpen f.slots f.files.seen → HaveStoppedRuns f.run f.dumps.stop f.slots turns →
    KeepsNames f.slots first f.files turns →
    KeepsNames f.later_slots first f.later_files (latest_answered turns f.answer)

-- Between the logger's calls the run that a channel writes, or broke off, is that of an accepted start, which no turn called
-- off.
pub record IsStartedRun (turns : List MemberTurn) (opened : ChannelRun) : Type 0 where
  pub begin : MemberTurn
  pub is_start : IsAcceptedStart turns opened.start begin
  pub number : begin.order.run ≡ opened.run
  pub on : (turn : MemberTurn) → HasTurn turns turn → turn.transition ≡ StartAbort → turn.order.start ≢ opened.start

abbrev pub StandingHasStarted : Type 0
StandingHasStarted = (run : Option LoggedRun) → (dumps : RunDumps) → (slots : List (Option Channel)) →
    (ports : List Access) → (turns : List MemberTurn) → (seen : Seen) →
    LoggerStands run dumps slots ports turns seen → AreEngineTurns turns →
    (number : ℕ) → (channel : Channel) → (opened : ChannelRun) → slot_at slots number ≡ Some channel →
    channel_run channel.stage ≡ Some opened → IsStartedRun turns opened
