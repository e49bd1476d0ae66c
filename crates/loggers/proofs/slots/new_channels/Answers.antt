use Rattle.std.proofs.Common.{◌≡◌, ◌-◌, ◌+◌, ◌∷◌, ◌++◌, ℕ, [], length, take, take_all, subst, sym, ◌∙◌, arith, lit<}
use Rattle.loggers.proofs.NewSlots.{AddedFrom, added_none, all_added, none_left, number_fits, put_more}
use Rattle.loggers.proofs.slots.new_channels.Goals as goal

pub set-requires : goal.set-requires
set-requires c =
    let left : take (length c.args.specs - c.loop-count.count) c.args.specs ≡ c.pop.new.self ++ c.in-Some.spec ∷ [] = sym c.loop-count.invariant.left ∙ c.in-Some.ensures.last in
    let fits = number_fits c.args.specs c.pop.new.self c.in-Some.spec (length c.args.specs - c.loop-count.count) c.requires.numbers (omega arith) left in
    (lit< tt, omega (arith, fits, c.loop-count.invariant.added.many))

pub loop-count-preserved : goal.loop-count-preserved
loop-count-preserved c =
    let left : take (length c.args.specs - c.loop-count.count) c.args.specs ≡ c.pop.new.self ++ c.in-Some.spec ∷ [] = sym c.loop-count.invariant.left ∙ c.in-Some.ensures.last in
    let more = put_more c.args.specs c.args.rooms.now c.pop.new.self c.in-Some.spec (length c.args.specs - (c.loop-count.count + 1)) (length c.args.specs - c.loop-count.count) c.len.result
    c.loop-count.slots c.set.new.self c.in_ok-channel.channel c.requires.numbers c.requires.rooms (omega arith) (omega (arith, c.loop-count-test.true, c.requires.rooms)) left c.len.ensures c.in_ok-channel.ensures c.set.ensures
    c.loop-count.invariant.added in
    record { left = more.0; added = more.1 }

pub loop-count-init : goal.loop-count-init
loop-count-init c =
    let all : length c.args.specs ≡ length c.args.specs - 0 = omega arith in
    record {
      left = sym (take_all (length c.args.specs - 0) c.args.specs (omega arith));
      added = subst (λ (n : ℕ). AddedFrom c.args.specs c.args.rooms.now n c.in_ok-slots.slots) all (added_none c.args.specs c.args.rooms.now c.in_ok-slots.slots c.in_ok-slots.ensures);
    }

pub unreachable-unreachable : goal.unreachable-unreachable
unreachable-unreachable c =
    none_left c.args.specs (length c.args.specs - c.loop-count.count) (omega arith) (omega (arith, c.loop-count-test.true, c.requires.rooms)) (sym c.loop-count.invariant.left ∙ c.in_default.ensures.none)

pub returns : goal.returns
returns c =
    let all : length c.args.specs - c.loop-count.count ≡ 0 = omega (arith, c.loop-count-test.false, c.requires.rooms) in
    all_added c.args.specs c.args.rooms.now c.loop-count.slots (subst (λ (n : ℕ). AddedFrom c.args.specs c.args.rooms.now n c.loop-count.slots) all c.loop-count.invariant.added)
