-- Where behind a turn or a pull the ports gave the logger no client that it has, they gave it none before.
use Rattle.std.specs.Prelude.{◌≡◌, ℕ, Bool, true, false, List, length, Option, Some, None, Result, Ok, Err, ⊤}
use Rattle.std.proofs.Common.{subst, inl, inr}
use Rattle.daq_types.specs.declared.runs.Order.{Order}
use Rattle.daq_types.specs.declared.runs.Transition.{Transition}
use Rattle.daq_types.specs.declared.runs.Transition.TheVariants.{Start, Stop, Pause, Resume, StartAbort}
use Rattle.daq_types.specs.declared.runs.Why.{Why}
use Rattle.buffer_core.specs.Ports.{Access}
use Rattle.buffer_core.specs.Slots.{slot_at}
use Rattle.mid_logger.specs.declared.channel.Channel.{Channel}
use Rattle.mid_logger.specs.declared.pulled.Pulled.{Pulled}
use Rattle.loggers.specs.Moments.{LoggerMoment, InTurn, StepsAt}
use Rattle.loggers.specs.ChannelSteps.{OpensChannel, PullsChannel}
use Rattle.loggers.specs.NewLoggers.{GiveEachOnce}
use Rattle.loggers.specs.SlotPulls.{PullsSlot, PullsNumbered}
use Rattle.loggers.specs.Turning.{LoggerTurn, BeginsBuffer, EndsBuffer, PausesBuffer, ResumesBuffer, OpensBelow, BeginsBelow, StartsSo, TakesStart, TakesStop, TakesMark, TakesAbort, TakesTurnBy, TakesTurn, is_run_on, is_started, is_of_start, buffers_begun}
use Rattle.loggers.proofs.GivenOnce.{once_called, once_stepped, once_opened, once_opened_slot, once_turns}
use Rattle.loggers.proofs.PullMoves.{pull_grows}
use Rattle.loggers.proofs.TurnedLogger.{once_aborts}

same_once : (a b : LoggerMoment) → b ≡ a → GiveEachOnce b.ports → GiveEachOnce a.ports
same_once a b same once = subst (λ (m : LoggerMoment). GiveEachOnce m.ports) same once

-- Turns.

opens_once : (order : Order) (dump : List ℕ) (n : ℕ) (a b : LoggerMoment) → OpensBelow order dump n a b → GiveEachOnce b.ports → GiveEachOnce a.ports
opens_once order dump n a b opens once = once_turns (λ k. StepsAt (OpensChannel order dump (Ok tt)) k) n a b (λ k x y step. once_opened_slot order dump (Ok tt) k (slot_at x.slots k) x y step) opens once

begins_once : (start n : ℕ) (a b : LoggerMoment) → BeginsBelow start n a b → GiveEachOnce b.ports → GiveEachOnce a.ports
begins_once start n a b begins once = once_turns (λ k. BeginsBuffer start k) n a b (λ k x y step. once_called _ k x (record y { slots = x.slots }) step.1.marks) begins once

ends_once : (start n : ℕ) (a b : LoggerMoment) → InTurn (λ k. EndsBuffer start k) n a b → GiveEachOnce b.ports → GiveEachOnce a.ports
ends_once start n a b ends once = once_turns (λ k. EndsBuffer start k) n a b (λ k x y step. once_called _ k x (record y { slots = x.slots }) step.1.marks) ends once

pauses_once : (start n : ℕ) (a b : LoggerMoment) → InTurn (λ k. PausesBuffer start k) n a b → GiveEachOnce b.ports → GiveEachOnce a.ports
pauses_once start n a b pauses once = once_turns (λ k. PausesBuffer start k) n a b (λ k x y step. once_called _ k x y step.1) pauses once

resumes_once : (start n : ℕ) (a b : LoggerMoment) → InTurn (λ k. ResumesBuffer start k) n a b → GiveEachOnce b.ports → GiveEachOnce a.ports
resumes_once start n a b resumes once = once_turns (λ k. ResumesBuffer start k) n a b (λ k x y step. once_called _ k x y step.1) resumes once

starts_once : (r : Result ⊤ Why) (order : Order) (dump : List ℕ) (begun : ℕ) (a b : LoggerMoment) → StartsSo r order dump begun a b → GiveEachOnce b.ports → GiveEachOnce a.ports
starts_once (Ok done) order dump begun a b starts once =
    opens_once order dump (length a.slots) a starts.opened starts.opens (begins_once order.start (length a.ports) starts.opened b starts.begins once)
starts_once (Err why) order dump begun a b undoes once = elim undoes as (λ w. GiveEachOnce a.ports) [
  | inl opens ↦
      let r = opens.opens in
      opens_once order dump r.number a r.opened r.opens
      (once_opened order dump (Err why) r.number r.channel r.opened opens.refused r.refuses (once_aborts opens.refused b opens.aborts once))
  | inr begins ↦
      let m = begins.begins in
      opens_once order dump (length a.slots) a begins.opened begins.opens
      (begins_once order.start begun begins.opened m.begun m.begins
      (once_called _ begun m.begun begins.refused m.refuses.1 (once_aborts begins.refused b begins.aborts once)))
]

start_once : (on : Bool) (t : LoggerTurn) → TakesStart on t → GiveEachOnce t.after.ports → GiveEachOnce t.before.ports
start_once true t takes once = same_once t.before t.after takes.moment once
start_once false t takes once = starts_once takes.result t.order _ takes.begun t.before t.after takes.starts once

stop_once : (of : Bool) (t : LoggerTurn) → TakesStop of t → GiveEachOnce t.after.ports → GiveEachOnce t.before.ports
stop_once true t takes once = ends_once t.order.start (length t.before.ports) t.before t.after takes.ends once
stop_once false t takes once = same_once t.before t.after takes.moment once

pause_once : (of : Bool) (t : LoggerTurn) → TakesMark PausesBuffer of t → GiveEachOnce t.after.ports → GiveEachOnce t.before.ports
pause_once true t takes once = pauses_once t.order.start (length t.before.ports) t.before t.after takes.marks once
pause_once false t takes once = same_once t.before t.after takes.moment once

resume_once : (of : Bool) (t : LoggerTurn) → TakesMark ResumesBuffer of t → GiveEachOnce t.after.ports → GiveEachOnce t.before.ports
resume_once true t takes once = resumes_once t.order.start (length t.before.ports) t.before t.after takes.marks once
resume_once false t takes once = same_once t.before t.after takes.moment once

abort_once : (of : Bool) (t : LoggerTurn) → TakesAbort of t → GiveEachOnce t.after.ports → GiveEachOnce t.before.ports
abort_once true t takes once = ends_once t.order.start (buffers_begun t.run) t.before takes.ended takes.ends (once_aborts takes.ended t.after takes.aborts once)
abort_once false t takes once = same_once t.before t.after takes.moment once

turn_by_once : (transition : Transition) (t : LoggerTurn) → TakesTurnBy transition t → GiveEachOnce t.after.ports → GiveEachOnce t.before.ports
turn_by_once Start t takes once = start_once (is_run_on t.run) t takes once
turn_by_once Stop t takes once = stop_once (is_started t.run t.order.start) t takes once
turn_by_once Pause t takes once = pause_once (is_started t.run t.order.start) t takes once
turn_by_once Resume t takes once = resume_once (is_started t.run t.order.start) t takes once
turn_by_once StartAbort t takes once = abort_once (is_of_start t.run t.order.start) t takes once

pub turn_once : (t : LoggerTurn) → TakesTurn t → GiveEachOnce t.after.ports → GiveEachOnce t.before.ports
turn_once t takes once = turn_by_once t.transition t takes once

-- Pulls.

slot_once : (dump : List ℕ) (number : ℕ) (answer : Pulled) (slot : Option Channel) (a b : LoggerMoment) → PullsSlot dump slot number answer a b → GiveEachOnce b.ports → GiveEachOnce a.ports
slot_once dump number answer None a b pulls once = same_once a b pulls.1 once
slot_once dump number answer (Some before) a b s once =
    once_stepped (PullsChannel dump answer) number before a b s (pull_grows _ before.event.room s.step.pulls) once

pub pull_once : (dump : List ℕ) (number : ℕ) (answer : Pulled) (a b : LoggerMoment) → PullsNumbered dump number answer a b → GiveEachOnce b.ports → GiveEachOnce a.ports
pull_once dump number answer a b pulls once = slot_once dump number answer (slot_at a.slots number) a b pulls once
