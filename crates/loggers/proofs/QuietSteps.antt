-- What calls on one port that make no mark keep, the steps of channels keep.
use Rattle.std.specs.Prelude.{◌≡◌, ℕ, List, length, slice_get, slice_set, Option, Some, None, Result, Ok, ⊤}
use Rattle.std.proofs.Common.{sym, subst}
use Rattle.daq_types.specs.declared.runs.Order.{Order}
use Rattle.daq_types.specs.declared.runs.Why.{Why}
use Rattle.buffer_core.specs.Ports.{Access}
use Rattle.buffer_core.specs.Slots.{slot_at}
use Rattle.mid_logger.specs.declared.channel.Channel.{Channel}
use Rattle.mid_logger.specs.declared.pulled.Pulled.{Pulled}
use Rattle.mid_logger.specs.Channels.{reading_run}
use Rattle.mid_logger.specs.ChannelTurns.{asking_run}
use Rattle.loggers.specs.Moments.{LoggerMoment, StepsChannel, StepsSlot, StepsAt}
use Rattle.loggers.specs.ChannelSteps.{OpensChannel, AbortsChannel}
use Rattle.loggers.specs.SlotPulls.{PullsSlot}
use Rattle.loggers.specs.Turning.{OpensBelow, AbortsAll}
use Rattle.loggers.proofs.InTurns.{turns_keep}
use Rattle.loggers.proofs.FairPorts.{CallsQuietly}
use Rattle.loggers.proofs.FairTurns.{opens_quietly, cancels_quietly, pulls_quietly}

module _ (Kept : List Access → Type 0)
    (quiet : (ports : List Access) (buffer : ℕ) (p q : Access) (before after : Option ℕ) → slice_get ports buffer ≡ Some p → CallsQuietly p q before after → Kept ports → Kept (slice_set ports buffer q)) where
  pub same_kept : (a b : LoggerMoment) → b ≡ a → Kept a.ports → Kept b.ports
  same_kept a b same kept = subst (λ (m : LoggerMoment). Kept m.ports) (sym same) kept

  pub opened_kept : (order : Order) (dump : List ℕ) (r : Result ⊤ Why) (n : ℕ) (before : Channel) (a b : LoggerMoment) → StepsChannel (OpensChannel order dump r) n before a b → Kept a.ports → Kept b.ports
  opened_kept order dump r n before a b s kept =
      subst Kept (sym s.ports)
      (quiet a.ports before.spec.buffer s.port s.later_port before.client s.after.client s.at_port (opens_quietly before.spec order dump r _ _ s.step.opens) kept)

  open_kept : (order : Order) (dump : List ℕ) (n : ℕ) (slot : Option Channel) (a b : LoggerMoment) → StepsSlot (OpensChannel order dump (Ok tt)) n slot a b → Kept a.ports → Kept b.ports
  open_kept order dump n None a b same kept = same_kept a b same kept
  open_kept order dump n (Some before) a b s kept = opened_kept order dump (Ok tt) n before a b s kept

  abort_kept : (n : ℕ) (slot : Option Channel) (a b : LoggerMoment) → StepsSlot AbortsChannel n slot a b → Kept a.ports → Kept b.ports
  abort_kept n None a b same kept = same_kept a b same kept
  abort_kept n (Some before) a b s kept =
      let calls : CallsQuietly s.port s.later_port before.client before.client = cancels_quietly before.client (asking_run before.stage) s.port s.later_port s.step.cancels in
      subst Kept (sym s.ports) (quiet a.ports before.spec.buffer s.port s.later_port before.client before.client s.at_port calls kept)

  pub pull_kept : (dump : List ℕ) (n : ℕ) (answer : Pulled) (slot : Option Channel) (a b : LoggerMoment) → PullsSlot dump slot n answer a b → Kept a.ports → Kept b.ports
  pull_kept dump n answer None a b pulls kept = same_kept a b pulls.1 kept
  pull_kept dump n answer (Some before) a b s kept =
      let calls : CallsQuietly s.port s.later_port before.client before.client = pulls_quietly before.client _ before.event.room (reading_run before.stage) s.step.pulls in
      subst Kept (sym s.ports) (quiet a.ports before.spec.buffer s.port s.later_port before.client before.client s.at_port calls kept)

  pub opens_kept : (order : Order) (dump : List ℕ) (count : ℕ) (a b : LoggerMoment) → OpensBelow order dump count a b → Kept a.ports → Kept b.ports
  opens_kept order dump count a b opens kept =
      turns_keep (λ k. StepsAt (OpensChannel order dump (Ok tt)) k) (λ (m : LoggerMoment). Kept m.ports) count a b (λ k x y step was. open_kept order dump k (slot_at x.slots k) x y step was) opens kept

  pub aborts_kept : (a b : LoggerMoment) → AbortsAll a b → Kept a.ports → Kept b.ports
  aborts_kept a b aborts kept =
      turns_keep (λ k. StepsAt AbortsChannel k) (λ (m : LoggerMoment). Kept m.ports) (length a.slots) a b (λ k x y step was. abort_kept k (slot_at x.slots k) x y step was) aborts kept
