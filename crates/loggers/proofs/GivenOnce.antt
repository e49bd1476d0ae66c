-- The calls on a port before a step are the first of those behind it: so where these give each client once, those do.
use Rattle.std.specs.Prelude.{◌≡◌, ℕ, zero, suc, List, [], ◌∷◌, ◌++◌, slice_get, slice_set, Option, Some, None, Result, Ok, ⊤}
use Rattle.std.proofs.Common.{ap, subst, ◌∙◌, append_assoc, inl, inr}
use Rattle.daq_types.specs.declared.runs.Order.{Order}
use Rattle.daq_types.specs.declared.runs.Why.{Why}
use Rattle.buffer_core.specs.declared.entry.BufferEntry.{BufferEntry}
use Rattle.buffer_core.specs.declared.entry.BufferEntry.TheVariants.{Attach}
use Rattle.buffer_core.specs.Ports.{Access}
use Rattle.mid_logger.specs.declared.channel.Channel.{Channel}
use Rattle.mid_logger.specs.Channels.{GivesEachOnce}
use Rattle.mid_logger.specs.ChannelTurns.{asking_run}
use Rattle.loggers.specs.Moments.{LoggerMoment, InTurn, ChannelStep, StepsChannel, StepsSlot, CallsBuffer}
use Rattle.loggers.specs.ChannelSteps.{OpensChannel, AbortsChannel}
use Rattle.loggers.specs.NewLoggers.{GiveEachOnce}
use Rattle.loggers.proofs.AbortMoves.{standing_grows}
use Rattle.loggers.proofs.OpenMoves.{open_grows}
use Rattle.loggers.proofs.PullMoves.{GrowsOn}
use Rattle.loggers.proofs.SlotLists.{same_or_other, got_there, kept_there}

once_first : (own more : List BufferEntry) → GivesEachOnce (own ++ more) → GivesEachOnce own
once_first own more once before after name client call whole given =
    once before (after ++ more) name client call (ap (λ (l : List BufferEntry). l ++ more) whole ∙ append_assoc before (Attach name (Ok client) ∷ after) more) given

-- one port more
once_before : (ports : List Access) (buffer : ℕ) (p q : Access) (more : List BufferEntry) → slice_get ports buffer ≡ Some p → q.own ≡ p.own ++ more → GiveEachOnce (slice_set ports buffer q) → GiveEachOnce ports
once_before ports buffer p q more there own once k x at = elim (same_or_other k buffer) as (λ w. GivesEachOnce x.own) [
  | inl same ↦
      let is : p ≡ x = cc (there, same, at) in
      let last : GivesEachOnce q.own = once buffer q (got_there ports buffer p q there) in
      subst (λ (y : Access). GivesEachOnce y.own) is (once_first p.own more (subst (λ (l : List BufferEntry). GivesEachOnce l) own last))
  | inr other ↦ once k x (kept_there ports buffer k q x other at)
]

pub once_called : (entry : BufferEntry) (buffer : ℕ) (a b : LoggerMoment) → CallsBuffer entry buffer a b → GiveEachOnce b.ports → GiveEachOnce a.ports
once_called entry buffer a b called once = once_before a.ports buffer called.port called.later_port (entry ∷ []) called.at_port called.called.own (subst (λ (l : List Access). GiveEachOnce l) called.ports once)

pub once_stepped : (Step : ChannelStep → Type 0) (n : ℕ) (before : Channel) (a b : LoggerMoment) (s : StepsChannel Step n before a b) → GrowsOn s.port s.later_port → GiveEachOnce b.ports → GiveEachOnce a.ports
once_stepped Step n before a b s grows once = once_before a.ports before.spec.buffer s.port s.later_port grows.more s.at_port grows.own (subst (λ (l : List Access). GiveEachOnce l) s.ports once)

-- Opening a run.

pub once_opened : (order : Order) (dump : List ℕ) (r : Result ⊤ Why) (n : ℕ) (before : Channel) (a b : LoggerMoment) → StepsChannel (OpensChannel order dump r) n before a b → GiveEachOnce b.ports → GiveEachOnce a.ports
once_opened order dump r n before a b s once = once_stepped (OpensChannel order dump r) n before a b s (open_grows before.spec order dump r _ _ s.step.opens) once

pub once_opened_slot : (order : Order) (dump : List ℕ) (r : Result ⊤ Why) (n : ℕ) (slot : Option Channel) (a b : LoggerMoment) → StepsSlot (OpensChannel order dump r) n slot a b → GiveEachOnce b.ports → GiveEachOnce a.ports
once_opened_slot order dump r n None a b same once = subst (λ (m : LoggerMoment). GiveEachOnce m.ports) same once
once_opened_slot order dump r n (Some before) a b s once = once_opened order dump r n before a b s once

-- Calling off.

pub once_aborted : (n : ℕ) (slot : Option Channel) (a b : LoggerMoment) → StepsSlot AbortsChannel n slot a b → GiveEachOnce b.ports → GiveEachOnce a.ports
once_aborted n None a b same once = subst (λ (m : LoggerMoment). GiveEachOnce m.ports) same once
once_aborted n (Some before) a b s once = once_stepped AbortsChannel n before a b s (standing_grows (asking_run before.stage) s.port s.later_port s.step.cancels) once

-- Steps one after another.

pub once_turns : (Step : ℕ → LoggerMoment → LoggerMoment → Type 0) (count : ℕ) (a b : LoggerMoment) → ((k : ℕ) (x y : LoggerMoment) → Step k x y → GiveEachOnce y.ports → GiveEachOnce x.ports) → InTurn Step count a b → GiveEachOnce b.ports → GiveEachOnce a.ports
once_turns Step zero a b each steps once = subst (λ (m : LoggerMoment). GiveEachOnce m.ports) steps once
once_turns Step (suc n) a b each steps once = once_turns Step n a steps.0 each steps.1 (each n steps.0 b steps.2 once)
