-- The lines of a text, one after the other.
use Rattle.std.proofs.Common.{◌≡◌, ℕ, ◌<◌, ◌==◌, Bool, true, false, cond, List, [], ◌∷◌, ◌++◌, length, refl, sym, ap, ◌∙◌, arith, ne_eqb}
use Rattle.std.specs.Prelude.{All}
use Rattle.std.specs.List.{slice_split, onto_first}
use Rattle.std.specs.Str.Lines.{lines, lines_of_parts, strip_carriage_return}
use Rattle.std.proofs.lemmas.List.Splits.{slice_split_none, slice_split_at}
use Rattle.std.proofs.lemmas.List.Elements.{All-from_recursion}
use Rattle.odb_text.specs.LineForms.{HasNo}

pub record HasParts (parts : List (List ℕ)) : Type 0 where
  pub first : List ℕ
  pub more : List (List ℕ)
  pub are : parts ≡ first ∷ more

has_parts : (text : List ℕ) → HasParts (slice_split (λ b. b == 10) text)
has_parts [] = record { first = []; more = []; are = refl }
has_parts (x ∷ xs) = cases (x == 10) (slice_split (λ b. b == 10) xs)
  where
    onto : (parts : List (List ℕ)) → HasParts (onto_first x parts)
    onto [] = record { first = x ∷ []; more = []; are = refl }
    onto (p ∷ ps) = record { first = x ∷ p; more = ps; are = refl }

    cases : (t : Bool) (parts : List (List ℕ)) → HasParts (cond t ([] ∷ parts) (onto_first x parts))
    cases true parts = record { first = []; more = parts; are = refl }
    cases false parts = onto parts

none_passes : (xs : List ℕ) → HasNo 10 xs → All (λ b. (b == 10) ≡ false) xs
none_passes xs h = All-from_recursion (λ b. (b == 10) ≡ false) xs h

pub first_line : (text line rest : List ℕ) → text ≡ line ++ 10 ∷ rest → HasNo 10 line → lines text ≡ strip_carriage_return line ∷ lines rest
first_line text line rest e h =
    let parts = has_parts rest in
    ap lines e ∙ ap lines_of_parts (slice_split_at (λ b. b == 10) line 10 rest (none_passes line h) refl)
    ∙ ap (λ (ps : List (List ℕ)). lines_of_parts (line ∷ ps)) parts.are
    ∙ ap (λ (ps : List (List ℕ)). strip_carriage_return line ∷ lines_of_parts ps) (sym parts.are)

pub last_line : (text : List ℕ) → 0 < length text → HasNo 10 text → lines text ≡ text ∷ []
last_line text some h =
    let e : (length text == 0) ≡ false = ne_eqb (length text) 0 (omega (arith, some)) in
    ap lines_of_parts (slice_split_none (λ b. b == 10) text (none_passes text h))
    ∙ ap (λ (t : Bool). cond t [] (text ∷ [])) e
