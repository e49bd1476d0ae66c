-- What the logger does in one turn of its own: its calls on the engine, its channels, its ports and the files, and
-- what it came to.
use Rattle.std.specs.Prelude.{◌≡◌, ℕ, zero, suc, Bool, true, false, ◌||◌, is_some, List, [], slice_get, unwrap_or, Option, Some, None}
use Rattle.daq_types.specs.declared.runs.Order.{Order}
use Rattle.daq_types.specs.declared.runs.Transition.{Transition}
use Rattle.buffer_core.specs.Ports.{Access}
use Rattle.transitions.specs.declared.replies.Polled.TheVariants.{Turn, Idle as NoTurn, Closed, NoClient}
use Rattle.member_model.specs.RunEngines.{Answer, Polled, EngineEntry}
use Rattle.member_model.specs.TurnCalls.{member_turns}
use Rattle.mid_logger.specs.declared.pulled.Pulled.{Pulled}
use Rattle.mid_logger.specs.declared.pulled.Pulled.TheVariants.{Wrote, Dropped, Nothing, Broke, NoChannel}
use Rattle.loggers.specs.declared.logged_run.LoggedRun.{LoggedRun}
use Rattle.loggers.specs.declared.logged_run.RunDumps.{RunDumps}
use Rattle.loggers.specs.Moments.{LoggerMoment}
use Rattle.loggers.specs.NewLoggers.{GiveEachOnce}
use Rattle.loggers.specs.LoggerStands.{LoggerStands}
use Rattle.loggers.specs.Turning.{TakesTurn}
use Rattle.loggers.specs.Finishing.{FinishesLogger}
use Rattle.loggers.specs.SlotPulls.{PullsNumbered}
use Rattle.member_crew.specs.declared.turned.Turned.{Turned}
use Rattle.member_crew.specs.declared.turned.Turned.TheVariants.{Worked, Idle, Ended}
use Rattle.daq_members.specs.OwnTurns.{start_owed, asked_so, GivesAnswer, AnswersLast}
use Rattle.daq_members.specs.FrontTaken.{turned_by}

-- how many channels are pulled
abbrev pub pulled_channels : ℕ
pulled_channels = 16

-- each port is this caller's
abbrev pub HaveCaller : (caller : ℕ) → List Access → Type 0
HaveCaller caller ports = (buffer : ℕ) → (a : Access) → slice_get ports buffer ≡ Some a → a.caller ≡ caller

-- the pull got an event
abbrev pub has_pulled : Pulled → Bool
has_pulled (Wrote place) = true
has_pulled (Dropped place) = true
has_pulled Broke = true
has_pulled Nothing = false
has_pulled NoChannel = false

-- Each channel with a number below this pulls once, in order of number, where the files of its run begin with this dump; and whether
-- one of the pulls got an event.
abbrev pub PullsBelow : (dump : List ℕ) → (count : ℕ) → (got : Bool) → (a b : LoggerMoment) → Type 0
PullsBelow dump zero got a b = (got ≡ false) × (b ≡ a)
PullsBelow dump (suc n) got a b = (m : LoggerMoment) × (earlier : Bool) × (answer : Pulled) ×
    PullsBelow dump n earlier a m × PullsNumbered dump n answer m b × (got ≡ (has_pulled answer || earlier))

-- each channel pulls once, where these are the dumps of the run
abbrev pub PullsAll : (dumps : RunDumps) → (got : Bool) → (a b : LoggerMoment) → Type 0
PullsAll dumps got a b = PullsBelow (unwrap_or dumps.start []) pulled_channels got a b

-- A turn of the logger: its client number; its calls on the engine, its run, with the dumps of its start and of its stop, and its
-- channels with the ports and the files, before and behind; these as they stood when it answered last; and what it came to.
pub record LoggerTaken : Type 0 where
  pub client : ℕ
  pub calls : List EngineEntry
  pub later_calls : List EngineEntry
  pub run : Option LoggedRun
  pub later_run : Option LoggedRun
  pub dumps : RunDumps
  pub later_dumps : RunDumps
  pub before : LoggerMoment
  pub after : LoggerMoment
  pub stood : LoggerMoment
  pub turned : Turned

-- Where the logger kept its contract over the turns that its calls on the engine told before, it keeps it over those that they
-- tell behind the turn, if its ports gave it no client that it has.
abbrev pub KeepsLoggerMember : LoggerTaken → Type 0
KeepsLoggerMember t = GiveEachOnce t.after.ports →
    LoggerStands t.run t.dumps t.before.slots t.before.ports (member_turns t.client t.calls) t.before.files.seen →
    LoggerStands t.later_run t.later_dumps t.after.slots t.after.ports (member_turns t.client t.later_calls)
    t.after.files.seen

-- Nothing is done but to ask.
pub record LeavesTurn (t : LoggerTaken) (reply : Polled) (turned : Turned) : Type 0 where
  pub asks : t.later_calls ≡ asked_so t.client t.calls reply
  pub run : t.later_run ≡ t.run
  pub dumps : t.later_dumps ≡ t.dumps
  pub moment : t.after ≡ t.before
  pub turned_is : t.turned ≡ turned

-- Each channel pulls once.
pub record WorksLogger (t : LoggerTaken) (reply : Polled) : Type 0 where
  pub asks : t.later_calls ≡ asked_so t.client t.calls reply
  pub run : t.later_run ≡ t.run
  pub dumps : t.later_dumps ≡ t.dumps
  pub got : Bool
  pub pulls : PullsAll t.dumps got t.before t.after
  pub turned_is : t.turned ≡ turned_by got

-- A new turn is taken, and then answered, if it is yet.
pub record TakesLoggerTurn (t : LoggerTaken) (transition : Transition) (order : Order) (dump : Option (List ℕ))
    (reply : Polled) : Type 0 where
  pub answer : Option Answer
  pub gives : GivesAnswer t.client answer (asked_so t.client t.calls reply) t.later_calls
  pub takes : TakesTurn (record {
    transition = transition;
    order = order;
    dump = dump;
    answer = answer;
    run = t.run;
    later_run = t.later_run;
    dumps = t.dumps;
    later_dumps = t.later_dumps;
    before = t.before;
    after = t.after;
  })
  pub last : AnswersLast answer t.stood t.after
  pub turned_is : t.turned ≡ Worked

-- Each channel pulls once; then the stop that waited is answered, if it can be.
pub record FinishesTurn (t : LoggerTaken) (reply : Polled) : Type 0 where
  pub got : Bool
  pub pulled : LoggerMoment
  pub pulls : PullsAll t.dumps got t.before pulled
  pub answer : Option Answer
  pub gives : GivesAnswer t.client answer (asked_so t.client t.calls reply) t.later_calls
  pub ports : t.after.ports ≡ pulled.ports
  pub finishes : FinishesLogger (record {
    run = t.run;
    later_run = t.later_run;
    dumps = t.dumps;
    later_dumps = t.later_dumps;
    slots = pulled.slots;
    later_slots = t.after.slots;
    files = pulled.files;
    later_files = t.after.files;
    answer = answer;
  })
  pub last : AnswersLast answer t.stood t.after
  pub turned_is : t.turned ≡ turned_by (got || is_some answer)

-- by what the engine replied, and whether a turn was owed before
abbrev pub TakesLoggerBy : Polled → (owed : Option ℕ) → LoggerTaken → Type 0
TakesLoggerBy Closed owed t = LeavesTurn t Closed Ended
TakesLoggerBy NoClient owed t = LeavesTurn t NoClient Idle
TakesLoggerBy (NoTurn state) owed t = WorksLogger t (NoTurn state)
TakesLoggerBy (Turn transition order dump blank) None t =
    TakesLoggerTurn t transition order dump (Turn transition order dump blank)
TakesLoggerBy (Turn transition order dump blank) (Some start) t = FinishesTurn t (Turn transition order dump blank)

-- The logger asks the engine once, and goes on by the reply.
pub record TakesLogger (t : LoggerTaken) : Type 0 where
  pub reply : Polled
  pub takes : TakesLoggerBy reply (start_owed t.client t.calls) t
