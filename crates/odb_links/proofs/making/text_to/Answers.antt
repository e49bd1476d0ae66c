use Rattle.std.proofs.Common.{◌≡◌, ℕ, List, ◌++◌, subst, sym, ap, ◌∙◌}
use Rattle.odb_value.specs.PathText.{path_text}
use Rattle.odb_value.specs.ItemBytes.{IsText}
use Rattle.odb_links.proofs.Written.{path_is_text}
use Rattle.odb_links.proofs.making.text_to.Goals as goal

pub of-requires : goal.of-requires
of-requires c =
    let same : c.into_vec.result.items ≡ path_text c.args.target.now =
    c.into_vec.ensures ∙ (c.in_ok-print_path.ensures ∙ (ap (λ (l : List ℕ). l ++ path_text c.names.result.now) c.new-text.ensures ∙ ap path_text c.names.ensures.names)) in
    subst IsText (sym same) (path_is_text c.args.target.now c.names.ensures.is_path)
