-- No link is met on the path of a directory that is there.
use Rattle.std.proofs.Common.{◌≡◌, ℕ, zero, suc, ◌≤◌, Bool, true, false, cond, ◌&&◌, ◌||◌, List, [], ◌∷◌, ◌++◌, length, Option, Some, None, Result, Ok, inl, inr, refl, sym, ap, ◌∙◌, subst, arith, append_assoc, append-nil, length-append}
use Rattle.std.specs.Option.{option_or, is_some}
use Rattle.odb_value.specs.Values.{HeldValue}
use Rattle.odb_tree.specs.declared.rows.Row.{Row}
use Rattle.odb_tree.specs.declared.children.Child.{Child}
use Rattle.odb_tree.specs.declared.refusals.OdbRefusal.{OdbRefusal}
use Rattle.odb_tree.specs.Rows.{Rows, row_at}
use Rattle.odb_tree.specs.Lookups.{dir_fault}
use Rattle.odb_tree.specs.Links.{is_link, is_link_value, target_of, Met, has_names, met_at, first_link, follow, lead, links_limit, resolved, through}
use Rattle.odb_tree.specs.Calls.{children_or, list_reply}
use Rattle.odb_tree.specs.Trees.{IsDir, IsPlaced, ArePlaced, AreApart, IsTree}
use Rattle.odb_text.proofs.Found.{row_found, placed_in}
use Rattle.odb_text.proofs.LedThere.{further_none}

first_none : (a b : Option Met) → option_or a b ≡ None → a ≡ None
first_none None b h = refl
first_none (Some m) b h = absurd (cc)

second_none : (a b : Option Met) → option_or a b ≡ None → b ≡ None
second_none None b h = h
second_none (Some m) b h = absurd (cc)

both_none : (a b : Option Met) → a ≡ None → b ≡ None → option_or a b ≡ None
both_none None b h k = k
both_none (Some m) b h k = absurd (cc)

-- what is no link is met nowhere
met_by : (t : Bool) (last : Bool) (rest : List (List ℕ)) (r : Row) → is_link r ≡ t → t ≡ false → met_at last rest (Some r) ≡ None
met_by t last rest r e none = ap (λ (b : Bool). cond (b && (last || has_names rest)) (Some (record { target = target_of r; rest = rest })) None) (e ∙ none)

not_met : (t : Bool) (m : Met) → cond (t && true) (Some m) None ≡ None → t ≡ false
not_met true m h = absurd (cc)
not_met false m h = refl

-- a row that is not met with `last` is no link, and so is not met at all
met_other : (last : Bool) (rest other : List (List ℕ)) (o : Option Row) → met_at true rest o ≡ None → met_at last other o ≡ None
met_other last rest other None h = refl
met_other last rest other (Some r) h = met_by (is_link r) last other r refl (not_met (is_link r) (record { target = target_of r; rest = rest }) h)

none_met : (rows : List Row) (last : Bool) (passed names : List (List ℕ)) → first_link rows true passed names ≡ None → first_link rows last passed names ≡ None
none_met rows last passed [] h = refl
none_met rows last passed (name ∷ names) h =
    let o : Option Row = row_at rows (passed ++ name ∷ []) in
    both_none (met_at last names o) (first_link rows last (passed ++ name ∷ []) names)
    (met_other last names names o (first_none (met_at true names o) (first_link rows true (passed ++ name ∷ []) names) h))
    (none_met rows last (passed ++ name ∷ []) names (second_none (met_at true names o) (first_link rows true (passed ++ name ∷ []) names) h))

-- one name more
none_further : (rows : List Row) (passed names : List (List ℕ)) (name : List ℕ) (r : Row) → first_link rows true passed names ≡ None → row_at rows ((passed ++ names) ++ name ∷ []) ≡ Some r → is_link r ≡ false
    → first_link rows true passed (names ++ name ∷ []) ≡ None
none_further rows passed [] name r h there none =
    let at : row_at rows (passed ++ name ∷ []) ≡ Some r = ap (λ (p : List (List ℕ)). row_at rows (p ++ name ∷ [])) (sym (append-nil passed)) ∙ there in
    both_none (met_at true [] (row_at rows (passed ++ name ∷ []))) None (ap (met_at true []) at ∙ met_by (is_link r) true [] r refl none) refl
none_further rows passed (n ∷ names) name r h there none =
    let o : Option Row = row_at rows (passed ++ n ∷ []) in
    both_none (met_at true (names ++ name ∷ []) o) (first_link rows true (passed ++ n ∷ []) (names ++ name ∷ []))
    (met_other true names (names ++ name ∷ []) o (first_none (met_at true names o) (first_link rows true (passed ++ n ∷ []) names) h))
    (none_further rows (passed ++ n ∷ []) names name r (second_none (met_at true names o) (first_link rows true (passed ++ n ∷ []) names) h)
    (ap (λ (p : List (List ℕ)). row_at rows (p ++ name ∷ [])) (append_assoc passed (n ∷ []) names) ∙ there) none)

no_link_value : (o : Option HeldValue) → is_some o ≡ false → is_link_value o ≡ false
no_link_value None h = refl
no_link_value (Some v) h = absurd (cc)

dirs_unmet : (most : ℕ) (rows : List Row) (p : List (List ℕ)) → ArePlaced [] rows → AreApart rows → IsDir rows p → length p ≤ most → first_link rows true [] p ≡ None
dirs_unmet most rows p placed apart (inl e) short = ap (first_link rows true []) e
dirs_unmet zero rows p placed apart (inr h) short =
    let k = placed_in rows h.front h.dir h.back h.there placed in
    absurd (omega (arith, short, ap (length {A = List ℕ}) (sym h.path ∙ k.path), length-append k.parent (k.name ∷ [])))
dirs_unmet (suc most) rows p placed apart (inr h) short =
    let k = placed_in rows h.front h.dir h.back h.there placed in
    let e : p ≡ k.parent ++ k.name ∷ [] = sym h.path ∙ k.path in
    let above : first_link rows true [] k.parent ≡ None =
    dirs_unmet most rows k.parent placed apart k.there (omega (arith, short, ap (length {A = List ℕ}) e, length-append k.parent (k.name ∷ []))) in
    let found : row_at rows (k.parent ++ k.name ∷ []) ≡ Some h.dir = ap (row_at rows) (sym k.path) ∙ row_found rows h.front h.dir h.back h.there apart in
    ap (first_link rows true []) e ∙ none_further rows [] k.parent k.name h.dir above found (no_link_value h.dir.value h.kind)

-- so its path is itself after its links
pub dir_unled : (s : Rows) (p : List (List ℕ)) (last : Bool) → IsTree s → IsDir s.rows p → resolved s p last ≡ Ok p
dir_unled s p last tree dir = by_flag s.links
  where
    by_flag : (links : Bool) → cond links (lead links_limit s.rows last 0 p) (Ok p) ≡ Ok p
    by_flag true = ap (follow (lead 15 s.rows last 1) 0 p) (none_met s.rows last [] p (dirs_unmet (length p) s.rows p tree.placed tree.apart dir (omega arith)))
    by_flag false = refl

pub listed_there : (s : Rows) (p : List (List ℕ)) (children : List Child) → IsTree s → IsDir s.rows p → through (resolved s p true) (λ q. list_reply s q) ≡ Ok children
    → children_or s.rows p (dir_fault s.rows p) ≡ Ok children
listed_there s p children tree dir h = subst (λ (r : Result (List (List ℕ)) OdbRefusal). through r (λ q. list_reply s q) ≡ Ok children) (dir_unled s p true tree dir) h

-- and so is that of what may be made in one
pub placed_unled : (s : Rows) (q : List (List ℕ)) → IsTree s → IsPlaced s.rows q → resolved s q false ≡ Ok q
placed_unled s q tree k = by_flag s.links
  where
    by_flag : (links : Bool) → cond links (lead links_limit s.rows false 0 q) (Ok q) ≡ Ok q
    by_flag true =
        ap (follow (lead 15 s.rows false 1) 0 q)
        (ap (first_link s.rows false []) k.path ∙ further_none s.rows k.parent k.name (dirs_unmet (length k.parent) s.rows k.parent tree.placed tree.apart k.there (omega arith)))
    by_flag false = refl
