use Rattle.std.proofs.Common.{◌≡◌, ℕ, ◌+◌, ◌<◌, Bool, true, false, cond, List, [], ◌∷◌, ◌++◌, length, get_or, take, map, refl, sym, ap, ◌∙◌, append_assoc}
use Rattle.std.specs.List.{filter}
use Rattle.std.proofs.lemmas.List.{map-append}
use Rattle.std.proofs.lemmas.List.Elements.{filter_more}
use Rattle.odb_tree.specs.declared.rows.Row.{Row}
use Rattle.odb_tree.specs.declared.children.Child.{Child}
use Rattle.odb_tree.specs.Rows.{is_listed}
use Rattle.odb_tree.specs.Calls.{child_of}
use Rattle.odb_tree.proofs.listing.add_children.Goals as goal

child_if : (b : Bool) (row : Row) → map child_of (cond b (row ∷ []) []) ≡ cond b (child_of row ∷ []) []
child_if true row = refl
child_if false row = refl

one_more : (test : Row → Bool) (rows : List Row) (i : ℕ) (row : Row) (xs ys zs : List Child) → i < length rows → row ≡ get_or rows i row
    → ys ≡ xs ++ map child_of (filter test (take i rows)) → zs ≡ ys ++ cond (test row) (child_of row ∷ []) [] → zs ≡ xs ++ map child_of (filter test (take (i + 1) rows))
one_more test rows i row xs ys zs within is so_far more =
    let here : Row = get_or rows i row in
    let before : List Child = map child_of (filter test (take i rows)) in
    let step : map child_of (filter test (take (i + 1) rows)) ≡ before ++ cond (test row) (child_of row ∷ []) [] =
    ap (map child_of) (filter_more test rows i row within) ∙ (map-append child_of (filter test (take i rows)) (cond (test here) (here ∷ []) [])
    ∙ ap (λ (cs : List Child). before ++ cs) (child_if (test here) here ∙ ap (λ (r : Row). cond (test r) (child_of r ∷ []) []) (sym is))) in
    more ∙ (ap (λ (cs : List Child). cs ++ cond (test row) (child_of row ∷ []) []) so_far
    ∙ (append_assoc xs before (cond (test row) (child_of row ∷ []) []) ∙ ap (λ (cs : List Child). xs ++ cs) (sym step)))

pub loop-row-preserved : goal.loop-row-preserved
loop-row-preserved c =
    one_more (is_listed c.args.keys c.args.names.now) c.args.rows.now c.loop-row.row-index c.row-item.result c.args.children.now.items c.loop-row.children.items c.add_listed.new.children.items
    c.loop-row-test.true c.row-item.is c.loop-row.invariant c.in_ok-add_listed.ensures
