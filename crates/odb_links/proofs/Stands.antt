-- What stands at a path, by the number that `find` answers.
use Rattle.std.proofs.Common.{◌≡◌, ℕ, ◌<◌, Bool, true, false, List, [], ◌∷◌, length, Option, Some, None, Ok, ◌⊎◌, inl, inr, refl, sym, ap, ◌∙◌, subst, arith}
use Rattle.std.specs.Option.{option_map, is_some}
use Rattle.odb_tree.specs.declared.rows.Row.{Row}
use Rattle.odb_tree.specs.Rows.{Rows, row_at}
use Rattle.odb_tree.specs.Calls.{find_reply}
use Rattle.odb_links.specs.declared.links.Link.{Link}
use Rattle.odb_links.specs.Seen.{is_linked, AreLinks}
use Rattle.odb_links.specs.declared.making.Standing.{Standing}
use Rattle.odb_links.specs.declared.making.Standing.TheVariants.{Nothing, Linked, Other}
use Rattle.odb_links.specs.Writing.{RowAt, StandsThere, IsFreeOfLinks, IsForLinks}
use Rattle.odb_tree.specs.Trees.{IsTree}
use Rattle.odb_links.proofs.Above.{found_there, root_free}
use Rattle.odb_links.proofs.Marked.{unlinked_below, not_linked}

pub target_some : (o : Option Link) (t : List (List ℕ)) → Some t ≡ option_map (λ (l : Link). l.target) o → is_some o ≡ true
target_some None t e = absurd (cc)
target_some (Some l) t e = refl

pub target_none : (o : Option Link) → None ≡ option_map (λ (l : Link). l.target) o → is_some o ≡ false
target_none None e = refl
target_none (Some l) e = absurd (cc)

row_found : (links : List Link) (s : Rows) (p : List (List ℕ)) (n : ℕ) (linked : Bool) → 0 < length p → Ok n ≡ find_reply s p → is_linked links n ≡ linked → RowAt links s p linked
row_found links s p n linked some e is =
    let found = found_there s p n some e in record { row = found.0; there = found.1; is = ap (is_linked links) found.2 ∙ is }

pub stands_linked : (links : List Link) (s : Rows) (p : List (List ℕ)) (n : ℕ) → AreLinks links s → Ok n ≡ find_reply s p → is_linked links n ≡ true → RowAt links s p true
stands_linked links s [] n h e is =
    let zero_is : n ≡ 0 = cc in
    let k : true ≡ false = sym is ∙ (ap (is_linked links) zero_is ∙ not_linked links 0 (unlinked_below 1 links s.next 0 h.order (omega arith))) in absurd (cc)
stands_linked links s (name ∷ names) n h e is = row_found links s (name ∷ names) n true (omega arith) e is

pub stands_other : (links : List Link) (s : Rows) (p : List (List ℕ)) (n : ℕ) → Ok n ≡ find_reply s p → is_linked links n ≡ false → (p ≡ []) ⊎ RowAt links s p false
stands_other links s [] n e is = inl refl
stands_other links s (name ∷ names) n e is = inr (row_found links s (name ∷ names) n false (omega arith) e is)

-- what follows of what stands there

pub free_there : (links : List Link) (s : Rows) (p : List (List ℕ)) (x : Standing) → IsTree s → StandsThere links s p x → (x ≡ Nothing) ⊎ (x ≡ Other) → IsFreeOfLinks links s p
free_there links s p Nothing tree h is = λ r there. let k : None ≡ Some r = sym h.1 ∙ there in absurd (cc)
free_there links s p Linked tree h (inl e) = absurd (cc)
free_there links s p Linked tree h (inr e) = absurd (cc)
free_there links s p Other tree (inl root) is = λ r there. absurd (root_free s r tree (subst (λ (q : List (List ℕ)). row_at s.rows q ≡ Some r) root there))
free_there links s p Other tree (inr at) is = λ r there.
    let k : Some at.row ≡ Some r = sym at.there ∙ there in
    let same : at.row ≡ r = cc in ap (λ (y : Row). is_linked links y.number) (sym same) ∙ at.is

pub links_there : (links : List Link) (s : Rows) (p : List (List ℕ)) (x : Standing) → StandsThere links s p x → (x ≡ Nothing) ⊎ (x ≡ Linked) → IsForLinks links s p
links_there links s p Nothing h is = λ r there. let k : None ≡ Some r = sym h.1 ∙ there in absurd (cc)
links_there links s p Linked h is = λ r there.
    let k : Some h.row ≡ Some r = sym h.there ∙ there in
    let same : h.row ≡ r = cc in ap (λ (y : Row). is_linked links y.number) (sym same) ∙ h.is
links_there links s p Other h (inl e) = absurd (cc)
links_there links s p Other h (inr e) = absurd (cc)

-- the root, or a row
pub some_there : (links : List Link) (s : Rows) (p : List (List ℕ)) (x : Standing) → StandsThere links s p x → (x ≡ Linked) ⊎ (x ≡ Other) → (p ≡ []) ⊎ ((r : Row) × (row_at s.rows p ≡ Some r))
some_there links s p Nothing h (inl e) = absurd (cc)
some_there links s p Nothing h (inr e) = absurd (cc)
some_there links s p Linked h is = inr (h.row, h.there)
some_there links s p Other (inl root) is = inl root
some_there links s p Other (inr at) is = inr (at.row, at.there)

pub free_without : (links : List Link) (s : Rows) (p : List (List ℕ)) → links ≡ [] → IsFreeOfLinks links s p
free_without links s p e = λ r there. ap (λ (l : List Link). is_linked l r.number) e
