-- What each call keeps of what a logger keeps between its calls.
use Rattle.std.specs.Prelude.{◌≤◌, ℕ, List, [], ◌∷◌, length, unwrap_or, Option}
use Rattle.event.specs.Events.{record_limit}
use Rattle.buffer_core.specs.Ports.{Access}
use Rattle.member_model.specs.Turns.{MemberTurn, NoneOpen, latest_answered}
use Rattle.mid_logger.specs.declared.channel.Channel.{Channel}
use Rattle.mid_logger.specs.declared.pulled.Pulled.{Pulled}
use Rattle.loggers.specs.Moments.{LoggerMoment, HaveFilesOpen, IsLoggerReady}
use Rattle.loggers.specs.SlotPulls.{PullsNumbered}
use Rattle.loggers.specs.Turning.{LoggerTurn, TakesTurn, IsIdleOutside}
use Rattle.loggers.specs.Finishing.{LoggerFinish, FinishesLogger}
use Rattle.loggers.specs.NewLoggers.{GiveEachOnce}
use Rattle.loggers.specs.LoggerFaults.{NotesFaults}
use Rattle.loggers.specs.LoggerStands.{logger_turn, LoggerStands}

-- Where the logger stood before a turn that comes once the latest was answered, it stands behind it, with that turn and its
-- answer, if its ports gave it no client that it has.
abbrev pub StandsAfterTurn : LoggerTurn → Type 0
StandsAfterTurn t = (turns : List MemberTurn) → NoneOpen turns → GiveEachOnce t.after.ports →
    LoggerStands t.run t.dumps t.before.slots t.before.ports turns t.before.files.seen →
    LoggerStands t.later_run t.later_dumps t.after.slots t.after.ports
    (logger_turn t.transition t.order t.dump t.answer ∷ turns) t.after.files.seen

-- Where it stood before a call to finish, it stands behind it, with the answer to the stop that waits, if there is one.
abbrev pub StandsAfterFinish : LoggerFinish → Type 0
StandsAfterFinish f = (ports : List Access) → (turns : List MemberTurn) →
    LoggerStands f.run f.dumps f.slots ports turns f.files.seen →
    LoggerStands f.later_run f.later_dumps f.later_slots ports (latest_answered turns f.answer) f.later_files.seen

-- Behind a turn that comes once the latest was answered the logger stands with that turn and its answer, where its ports gave it no
-- client that it has.
abbrev pub TurnsKeep : Type 0
TurnsKeep = (t : LoggerTurn) → (turns : List MemberTurn) → TakesTurn t → length (unwrap_or t.dump []) ≤ record_limit →
    IsLoggerReady t.before.slots t.before.ports t.before.files.seen →
    IsLoggerReady t.after.slots t.after.ports t.after.files.seen →
    IsIdleOutside t.run t.before.slots → IsIdleOutside t.later_run t.after.slots →
    NoneOpen turns → GiveEachOnce t.after.ports →
    LoggerStands t.run t.dumps t.before.slots t.before.ports turns t.before.files.seen →
    LoggerStands t.later_run t.later_dumps t.after.slots t.after.ports
    (logger_turn t.transition t.order t.dump t.answer ∷ turns) t.after.files.seen

-- Behind a call to finish it stands with the answer to the stop that waits, if there is one.
abbrev pub FinishesKeep : Type 0
FinishesKeep = (f : LoggerFinish) → (ports : List Access) → (turns : List MemberTurn) → FinishesLogger f →
    HaveFilesOpen f.slots f.files.seen → LoggerStands f.run f.dumps f.slots ports turns f.files.seen →
    LoggerStands f.later_run f.later_dumps f.later_slots ports (latest_answered turns f.answer) f.later_files.seen

-- Where behind a turn the ports gave the logger no client that it has, they gave it none before.
abbrev pub TurnsGiveOnce : Type 0
TurnsGiveOnce = (t : LoggerTurn) → TakesTurn t → GiveEachOnce t.after.ports → GiveEachOnce t.before.ports

-- The same of a pull.
abbrev pub PullsGiveOnce : Type 0
PullsGiveOnce = (dump : List ℕ) → (number : ℕ) → (answer : Pulled) → (a b : LoggerMoment) → PullsNumbered dump number answer a b →
    GiveEachOnce b.ports → GiveEachOnce a.ports

-- A turn, a pull and a call to finish each note the faults of the files.
abbrev pub TurnsNote : Type 0
TurnsNote = (t : LoggerTurn) → TakesTurn t →
    NotesFaults t.before.slots t.after.slots t.before.files.faults t.after.files.faults

abbrev pub PullsNote : Type 0
PullsNote = (dump : List ℕ) → (number : ℕ) → (answer : Pulled) → (a b : LoggerMoment) → PullsNumbered dump number answer a b →
    NotesFaults a.slots b.slots a.files.faults b.files.faults

abbrev pub FinishesNote : Type 0
FinishesNote = (f : LoggerFinish) → FinishesLogger f →
    NotesFaults f.slots f.later_slots f.files.faults f.later_files.faults

-- What two calls note, one behind the other, they note together.
abbrev pub NotesFollow : Type 0
NotesFollow = (first second third : List (Option Channel)) → (f g h : ℕ) → NotesFaults first second f g →
    NotesFaults second third g h → NotesFaults first third f h
