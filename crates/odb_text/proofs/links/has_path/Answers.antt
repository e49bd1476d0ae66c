use Rattle.std.proofs.Common.{◌≡◌, ◌↔◌, ℕ, IsTrue, List, sym, ◌∙◌, subst}
use Rattle.daq_types.specs.declared.types.Tid.{Tid}
use Rattle.odb_value.specs.declared.items.Item.TheVariants.{Text}
use Rattle.odb_text.specs.LineForms.{IsBracketed}
use Rattle.odb_text.specs.ItemLines.{IsItemAlone, IsPathText}
use Rattle.odb_text.proofs.LinkKeys.{path_behind}
use Rattle.odb_text.proofs.links.has_path.Goals as goal

pub returns-in-None : goal.returns-in-None
returns-in-None c = λ (size : ℕ) (link : List ℕ) (h : IsItemAlone Tid.Text c.args.text.now size (Text link)).
    absurd (c.in-None.ensures.none h.digits h.rest (subst (λ (l : List ℕ). IsBracketed l h.digits h.rest) (sym c.behind_blank.ensures) h.bracketed))

pub returns-in-Some : goal.returns-in-Some
returns-in-Some c = λ (size : ℕ) (link : List ℕ) (h : IsItemAlone Tid.Text c.args.text.now size (Text link)).
    let digits = c.in-Some.field-0-0.now in
    let rest = c.in-Some.rest.now in
    let same : c.behind_blank-in-Some.result.now ≡ link = c.behind_blank-in-Some.ensures
    ∙ path_behind c.args.text.now digits rest size link (subst (λ (l : List ℕ). IsBracketed l digits rest) c.behind_blank.ensures c.in-Some.ensures.some) h in
    subst (λ (t : List ℕ). IsTrue c.is_path.result ↔ IsPathText t) same c.is_path.ensures
