use Rattle.std.proofs.Common.{◌≡◌, ℕ, ◌<◌, ◌++◌, length, take, drop, ap, sym, ◌∙◌, arith, refl}
use Rattle.std.specs.Option.{option_map}
use Rattle.buffer_core.specs.Slots.{change_all}
use Rattle.ring_buffer.specs.Pointers.{raised}
use Rattle.ring_buffer.proofs.Raising.{raised_one}
use Rattle.ring_buffer.proofs.GivenNumbers.{all_changed}
use Rattle.ring_buffer.proofs.pointers.raise_all.Goals as goal

pub loop-number-preserved : goal.loop-number-preserved
loop-number-preserved c =
    let within : c.loop-number.number < length c.args.slots.now = omega arith in
    raised_one c.args.off c.args.place _ _ _ _ c.index-slots-number.result _ within c.loop-number.invariant c.index-slots-number.is
    (c.raise_slot.ensures ∙ ap (option_map (raised c.args.off c.args.place)) (sym c.index-slots-number.is)) refl

pub returns : goal.returns
returns c =
    let all : c.loop-number.number ≡ c.args.given = omega arith in
    c.loop-number.invariant
    ∙ (ap (λ (n : ℕ). change_all (raised c.args.off c.args.place) (take n c.args.slots.now) ++ drop n c.args.slots.now) all
    ∙ all_changed (raised c.args.off c.args.place) c.args.given c.args.slots.now c.requires.free)
