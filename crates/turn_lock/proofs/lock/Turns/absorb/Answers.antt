use Rattle.std.proofs.Common.{rules, ◌≡◌, [], ◌++◌, refl, sym, ap, ◌∙◌, append-nil, inr, None}
use Rattle.std.proofs.lemmas.List.Elements.{All-nil, All-same}
use Rattle.turn_lock.specs.declared.lock.Pass.{Pass}
use Rattle.turn_lock.specs.Views.{carried}
use Rattle.turn_lock.specs.Passes.{held_by, IsOf}
use Rattle.turn_lock.specs.Closing.{Absorbs}
use Rattle.turn_lock.proofs.Endings.{Absorbing-join}
use Rattle.turn_lock.proofs.LockLaws.{All_last, prefix_self}
use Rattle.turn_lock.proofs.lock.Turns.absorb.Goals as goal

pub loop-pass-init : goal.loop-pass-init
loop-pass-init g c = record {
  own = c.requires.own;
  number = c.requires.zero;
  idle = c.requires.idle;
  seen = prefix_self _;
  mine = refl;
  found = prefix_self _;
  left_own = c.requires.all_own;
  left_idle = c.requires.all_idle;
  done = [];
  items = sym (append-nil _);
  absorbed = All-nil _;
}

pub join-requires-clause-table : goal.join-requires-clause-table
join-requires-clause-table g c = let lock = c.args.self.now in
    (All_last (IsOf lock) c.pop.new.self.items c.in-Some.pass (All-same (IsOf lock) _ _ (sym c.in-Some.ensures.items) c.loop-pass.invariant.left_own)).table

pub join-requires-clause-asked : goal.join-requires-clause-asked
join-requires-clause-asked g c = inr c.loop-pass.invariant.number

pub join-requires-clause-idle : goal.join-requires-clause-idle
join-requires-clause-idle g c = let pass = c.in-Some.pass in
    let P : Pass g.row.M.Denot g.row.M-State.Denot g.row.M-Entry.Denot g.M.Machine → Type 0 = λ p. held_by p ≡ None in
    let idle : held_by pass ≡ None = All_last P c.pop.new.self.items pass (All-same P _ _ (sym c.in-Some.ensures.items) c.loop-pass.invariant.left_idle) in
    (idle, pass.carries ∙ ap carried idle)

pub loop-pass-preserved : goal.loop-pass-preserved
loop-pass-preserved g c = let join = c.join.ensures in
    Absorbing-join _ _ c.loop-pass.zero c.join.new.pass c.in-Some.pass _ c.pop.new.self.items (rw⁻¹ c.in-Some.ensures.items c.loop-pass.invariant) join.own join.number join.held join.seen join.met join.mine join.pairs join.found

pub returns-clause-absorbed : goal.returns-clause-absorbed
returns-clause-absorbed g c = let left : c.loop-pass.items.items ≡ [] = search rules in
    All-same (Absorbs c.loop-pass.zero) _ _ (c.loop-pass.invariant.items ∙ ap (λ l. l ++ c.loop-pass.invariant.done) left) c.loop-pass.invariant.absorbed
