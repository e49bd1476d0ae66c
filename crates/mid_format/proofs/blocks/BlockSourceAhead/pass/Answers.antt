use Rattle.std.proofs.Common.{◌≡◌, ◌∙◌, ◌+◌, ◌-◌, ◌≤◌, ◌++◌, ℕ, List, length, take, drop, slice_range, ap, sym, subst, arith, length-take, length-drop, take-append-drop}
use Rattle.std.specs.Io.KnownBytes.{Consumes, prepend_known}
use Rattle.mid_format.proofs.AtHand.{range_behind, taken_at_hand}
use Rattle.mid_format.proofs.blocks.BlockSourceAhead.pass.Goals as goal

pub returns-clause-behind : goal.returns-clause-behind
returns-clause-behind g c =
    let b = c.self.inside in
    let old : slice_range b.block.items b.start b.end ≡ c.args.self.now.at_hand = ap (λ v. v.at_hand) c.self.view_is in
    let within : b.start + c.args.count ≤ b.end =
    omega (arith, c.requires, ap (length {A = ℕ}) old, length-take (b.end - b.start) (drop b.start b.block.items), length-drop b.start b.block.items, c.self.invariant.0, c.self.invariant.1) in
    range_behind b.block.items b.start b.end c.args.count within ∙ ap (λ (l : List ℕ). drop c.args.count l) old

pub returns-clause-taken : goal.returns-clause-taken
returns-clause-taken g c =
    let b = c.self.inside in
    let old : List ℕ = c.args.self.now.at_hand in
    let new : List ℕ = slice_range b.block.items (b.start + c.args.count) b.end in
    let parts : old ≡ take c.args.count old ++ new = sym (take-append-drop c.args.count old) ∙ ap (λ (l : List ℕ). take c.args.count old ++ l) (sym (returns-clause-behind g c)) in
    subst (λ s. Consumes (prepend_known old (g.S.Source.told s).left) (prepend_known new (g.S.Source.told b.source).left) (take c.args.count old)) (ap (λ v. v.source) c.self.view_is)
    (taken_at_hand (g.S.Source.told b.source).left old (take c.args.count old) new parts)
