use Rattle.std.proofs.Common.{◌≡◌, ◌+◌, ◌++◌, ℕ, List, [], length, drop, take, None, ap, subst, ◌∙◌, arith}
use Rattle.std.specs.Option.{option_copied}
use Rattle.odb_tree.specs.Rows.{Rows, row_at}
use Rattle.odb_tree.specs.Links.{numbers_along}
use Rattle.odb_tree.proofs.Along.{numbers_end, numbered_all}
use Rattle.odb_tree.specs.Trees.{IsTree}
use Rattle.odb_arena.proofs.Walking.{walk_stops, walk_further}
use Rattle.odb_arena.proofs.tree.ArenaTreeDatabase.walk.Goals as goal

pub returns-in_default-clause-count : goal.returns-in_default-clause-count
returns-in_default-clause-count c =
    let s : Rows = c.args.self.now in
    let names : List (List ℕ) = c.names-names.result.now in
    let stop : row_at s.rows (take (c.loop-depth.depth + 1) names) ≡ None =
    walk_stops s names c.loop-depth.depth c.loop-depth.at c.args.numbers.now c.loop-depth.numbers c.index-names-depth.result (option_copied c.child.result) c.loop-depth.invariant c.loop-depth-test.true c.index-names-depth.is
    (c.child.ensures c.loop-depth.invariant.path c.loop-depth.invariant.there) (ap option_copied c.in_default.is) in
    let all = numbered_all s.rows names c.loop-depth.depth c.args.numbers.now c.loop-depth.numbers
    (omega (arith, c.told-numbers, c.loop-depth.invariant.numbered.long, c.loop-depth-test.true, ap (λ (p : List (List ℕ)). length p) c.names-names.ensures.names, c.names-names.ensures.is_path.short)) c.loop-depth.invariant.numbered
    (numbers_end s.rows names c.loop-depth.depth c.loop-depth-test.true stop) in
    all.0 ∙ ap (λ (p : List (List ℕ)). length (numbers_along s.rows [] p)) c.names-names.ensures.names

pub returns-in_default-clause-numbers : goal.returns-in_default-clause-numbers
returns-in_default-clause-numbers c =
    let s : Rows = c.args.self.now in
    let names : List (List ℕ) = c.names-names.result.now in
    let stop : row_at s.rows (take (c.loop-depth.depth + 1) names) ≡ None =
    walk_stops s names c.loop-depth.depth c.loop-depth.at c.args.numbers.now c.loop-depth.numbers c.index-names-depth.result (option_copied c.child.result) c.loop-depth.invariant c.loop-depth-test.true c.index-names-depth.is
    (c.child.ensures c.loop-depth.invariant.path c.loop-depth.invariant.there) (ap option_copied c.in_default.is) in
    let all = numbered_all s.rows names c.loop-depth.depth c.args.numbers.now c.loop-depth.numbers
    (omega (arith, c.told-numbers, c.loop-depth.invariant.numbered.long, c.loop-depth-test.true, ap (λ (p : List (List ℕ)). length p) c.names-names.ensures.names, c.names-names.ensures.is_path.short)) c.loop-depth.invariant.numbered
    (numbers_end s.rows names c.loop-depth.depth c.loop-depth-test.true stop) in
    all.1 ∙ ap (λ (p : List (List ℕ)). numbers_along s.rows [] p ++ drop c.loop-depth.depth c.args.numbers.now) c.names-names.ensures.names

pub loop-depth-preserved : goal.loop-depth-preserved
loop-depth-preserved c =
    walk_further c.args.self.now c.names-names.result.now c.loop-depth.depth c.loop-depth.at c.args.numbers.now c.loop-depth.numbers c.index-names-depth.result (option_copied c.child.result) c.in-Some.child.now
    (subst IsTree c.self.view_is c.self.invariant.database.tree) c.loop-depth.invariant c.loop-depth-test.true c.index-names-depth.is
    (omega (arith, c.told-numbers, c.loop-depth.invariant.numbered.long, c.loop-depth-test.true, ap (λ (p : List (List ℕ)). length p) c.names-names.ensures.names, c.names-names.ensures.is_path.short))
    (c.child.ensures c.loop-depth.invariant.path c.loop-depth.invariant.there) (ap option_copied c.in-Some.is)
