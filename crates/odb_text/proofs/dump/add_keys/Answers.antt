use Rattle.std.proofs.Common.{◌≡◌, ◌++◌, List, ℕ, OnOk, ap, ◌∙◌, subst}
use Rattle.std.specs.List.{flat_map}
use Rattle.odb_tree.specs.Rows.{Rows}
use Rattle.odb_text.specs.Standing.{key_part}
use Rattle.odb_text.proofs.Parts.{keys_whole}
use Rattle.odb_text.proofs.dump.add_keys.Goals as goal

pub returns : goal.returns
returns g c =
    let s : Rows = g.D.Database.rows c.args.database.now in
    subst (λ (l : List ℕ). OnOk c.add_children.result (c.add_children.new.text ≡ c.args.text.now ++ l))
    (ap (flat_map (key_part s c.args.path.now)) (c.as_slice.ensures ∙ c.in_ok-children.ensures.children) ∙ keys_whole s c.args.path.now c.in_ok-children.ensures.database c.requires)
    c.add_children.ensures
