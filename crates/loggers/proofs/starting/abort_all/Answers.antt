use Rattle.std.proofs.Common.{◌≡◌, ℕ, length, refl, sym, subst, ◌∙◌, arith, inl, inr}
use Rattle.buffer_core.proofs.SlotLaws.{slot_within}
use Rattle.buffer_core.specs.Slots.{slot_at}
use Rattle.std.specs.Prelude.{Some}
use Rattle.mid_logger.specs.declared.stage.ChannelStage.TheVariants.{Idle}
use Rattle.loggers.proofs.InTurns.{turn_more}
use Rattle.loggers.proofs.SlotLists.{same_or_other}
use Rattle.loggers.proofs.starting.abort_all.Goals as goal

pub loop-number-init : goal.loop-number-init
loop-number-init g c = record {
  aborts = refl;
  ready = c.requires.ready;
  count = refl;
  idle = λ n d below there. absurd (omega (arith, below));
  many = refl;
}

pub loop-number-preserved : goal.loop-number-preserved
loop-number-preserved g c =
    record {
      aborts = turn_more _ c.loop-number.number _ _ _ c.loop-number.invariant.aborts c.abort_at.ensures.aborts;
      ready = c.abort_at.ensures.ready;
      count = c.abort_at.ensures.count ∙ c.loop-number.invariant.count;
      idle = λ n d below there. elim (same_or_other n c.loop-number.number) as (λ w. d.stage ≡ Idle) [
        | inl same ↦ c.abort_at.ensures.idle d (subst (λ (k : ℕ). slot_at c.abort_at.new.slots k ≡ Some d) same there)
        | inr other ↦ c.loop-number.invariant.idle n d (omega (arith, below, other)) (sym (c.abort_at.ensures.others.at n other) ∙ there)
      ];
      many = c.abort_at.ensures.others.many ∙ c.loop-number.invariant.many;
    }

pub returns-clause-aborts : goal.returns-clause-aborts
returns-clause-aborts g c =
    let end : c.loop-number.number ≡ length c.args.slots.now = omega (arith, c.loop-number-test.false, c.len-number-end.ensures) in
    rw (← end) c.loop-number.invariant.aborts

pub returns-clause-idle : goal.returns-clause-idle
returns-clause-idle g c = λ n d there.
    c.loop-number.invariant.idle n d (omega (arith, slot_within c.loop-number.slots n d there, c.loop-number.invariant.many, c.loop-number-test.false, c.len-number-end.ensures)) there

pub returns-clause-count : goal.returns-clause-count
returns-clause-count g c = c.loop-number.invariant.count
