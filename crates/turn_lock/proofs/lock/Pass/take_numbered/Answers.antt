use Rattle.std.proofs.Common.{rules, ◌≢◌, ◌≤◌, ◌+◌, ℕ, take, drop, length, map, ◌∙◌, sym, refl, add-one}
use Rattle.std.specs.Prelude.{Contains, All}
use Rattle.std.proofs.lemmas.List.Elements.{All-map, All-contains, All-from_all_within, AllWithin-upto}
use Rattle.turn_lock.specs.Passes.{number_of}
use Rattle.turn_lock.specs.declared.lock.Pass.{Pass}
use Rattle.turn_lock.proofs.Endings.{parts_round}
use Rattle.turn_lock.proofs.lock.Pass.take_numbered.Goals as goal

pub returns-then-index-number-clause-out : goal.returns-then-index-number-clause-out
returns-then-index-number-clause-out g c = let i = c.loop-index.index in let xs = c.loop-index.items.items in (
  take i xs,
  drop (i + 1) xs,
  c.loop-index.invariant.0 ∙ rw add-one (parts_round xs i c.remove.result (search rules) c.remove.ensures.value),
  c.remove.ensures.by_index.2,
)

pub unreachable-requires : goal.unreachable-requires
unreachable-requires g c = let xs = c.loop-index.items.items in
    let P : Pass g.row.M.Denot g.row.M-State.Denot g.row.M-Entry.Denot g.M.Machine → Type 0 = λ p. number_of p ≢ c.args.number in
    let long : length xs ≤ c.loop-index.index = search rules in
    let none : All P xs = All-from_all_within P xs (AllWithin-upto P xs 0 c.loop-index.index (length xs) long c.loop-index.invariant.1) in
    let there : Contains (map number_of xs) c.args.number = rw (sym c.loop-index.invariant.0) c.requires in
    All-contains (λ (n : ℕ). n ≢ c.args.number) (map number_of xs) c.args.number (All-map (λ (n : ℕ). n ≢ c.args.number) number_of xs none) there refl
