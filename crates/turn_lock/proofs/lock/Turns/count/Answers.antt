use Rattle.std.proofs.Common.{rules, ap, refl, ◌++◌}
use Rattle.turn_lock.specs.Passes.{seen_by}
use Rattle.turn_lock.proofs.LockLaws.{leads_in_step}
use Rattle.turn_lock.proofs.Keeps.{counts_kept}
use Rattle.turn_lock.proofs.lock.Turns.count.Goals as goal

pub fetch_add-requires : goal.fetch_add-requires
fetch_add-requires g c = let step = c.requires.step in (
  search rules,
  search rules,
  counts_kept _ _ _ _ _ _ _ c.args.pass.now.number _ _ _ step.0 _ c.args.pass.now.is step.1 c.requires.said.0 c.requires.said.1 step.2,
)

pub invariant_of-pass : goal.invariant_of-pass
invariant_of-pass g c = let pass = c.args.pass.now in let told = c.fetch_add.ensures.2 pass.number _ _ pass.is c.requires.said.0 c.requires.said.1 in let view = told.0.view in record {
  in_range = pass.in_range;
  is = rw view pass.is;
  carries = rw (told.1, view, pass.carries, c.requires.step.1) refl;
  next = λ z. rw view (pass.next z);
}

pub returns-clause-own : goal.returns-clause-own
returns-clause-own g c = let pass = c.args.pass.now in let told = c.fetch_add.ensures.2 pass.number _ _ pass.is c.requires.said.0 c.requires.said.1 in record {
  table = search rules;
  count = c.requires.own.count;
  start = rw told.0.view c.requires.own.start;
  passes = rw told.0.view c.requires.own.passes;
}

pub returns-clause-held : goal.returns-clause-held
returns-clause-held g c = let pass = c.args.pass.now in let told = c.fetch_add.ensures.2 pass.number _ _ pass.is c.requires.said.0 c.requires.said.1 in ap (λ v. v.kept) told.0.view

pub returns-clause-counted : goal.returns-clause-counted
returns-clause-counted g c = let pass = c.args.pass.now in let told = c.fetch_add.ensures.2 pass.number _ _ pass.is c.requires.said.0 c.requires.said.1 in ap (λ v. v.counted) told.0.view

pub returns-clause-found : goal.returns-clause-found
returns-clause-found g c = let pass = c.args.pass.now in let told = c.fetch_add.ensures.2 pass.number _ _ pass.is c.requires.said.0 c.requires.said.1 in ap (λ v. v.found) told.0.view

pub returns-clause-appends : goal.returns-clause-appends
returns-clause-appends g c = let pass = c.args.pass.now in let told = c.fetch_add.ensures.2 pass.number _ _ pass.is c.requires.said.0 c.requires.said.1 in record {
  others = told.0.others;
  list = ap (λ v. v.seen) told.0.view;
  foreign = told.0.foreign;
}

pub returns-clause-led : goal.returns-clause-led
returns-clause-led g c = let pass = c.args.pass.now in let told = c.fetch_add.ensures.2 pass.number _ _ pass.is c.requires.said.0 c.requires.said.1 in
    let step = c.requires.step in let led = told.0.led _ step.0 c.requires.own.start step.1 in (
      step.0,
      step.1,
      record {
        earlier = seen_by pass ++ told.0.others;
        list = ap (λ v. v.seen) told.0.view;
        to_held = led.0;
        onward = led.1;
      },
    )

pub returns-clause-legal : goal.returns-clause-legal
returns-clause-legal g c = let led = returns-clause-led g c in leads_in_step g.M.Machine.step _ led.0 _ _ _ _ led.2
