-- The line of a directory is read as that directory.
use Rattle.std.proofs.Common.{◌≡◌, ℕ, ◌==◌, false, List, [], ◌∷◌, ◌++◌, refl, arith, ne_eqb}
use Rattle.std.specs.Prelude.{codes}
use Rattle.std.specs.List.{flat_map, AllByRecursion}
use Rattle.std.proofs.lemmas.List.Elements.{recursion_from_All}
use Rattle.daq_types.specs.Names.{IsName, is_outside}
use Rattle.odb_value.specs.Paths.{IsPath}
use Rattle.odb_value.specs.PathText.{path_text}
use Rattle.odb_value.proofs.PathAgain.{NoneOutside, name_none_outside, above_blank, inside_tests, map_all, path_again}
use Rattle.odb_text.specs.LineForms.{HasNo, IsDirLine}
use Rattle.odb_text.proofs.DumpLines.{bare_dir_line, IsPlainLine}

-- bytes of names

has_no_by : (c : ℕ) (bs : List ℕ) → ((b : ℕ) → is_outside b ≡ false → (b == c) ≡ false) → NoneOutside bs → HasNo c bs
has_no_by c [] f h = tt
has_no_by c (b ∷ bs) f h = (f b h.0, has_no_by c bs f h.1)

pub name_no_bracket : (name : List ℕ) → IsName name → HasNo 93 name
name_no_bracket name n = has_no_by 93 name (λ (b : ℕ) h. (inside_tests b h).1) (name_none_outside name n)

pub name_no_sign : (name : List ℕ) → IsName name → HasNo 61 name
name_no_sign name n = has_no_by 61 name (λ (b : ℕ) h. (inside_tests b h).2) (name_none_outside name n)

pub name_plain : (name : List ℕ) → IsName name → IsPlainLine name
name_plain name n = (
  has_no_by 10 name (λ (b : ℕ) h. ne_eqb b 10 (omega (arith, above_blank b h))) (name_none_outside name n),
  has_no_by 13 name (λ (b : ℕ) h. ne_eqb b 13 (omega (arith, above_blank b h))) (name_none_outside name n),
)

pub has_no_append : (c : ℕ) (xs ys : List ℕ) → HasNo c xs → HasNo c ys → HasNo c (xs ++ ys)
has_no_append c [] ys h k = k
has_no_append c (x ∷ xs) ys h k = (h.0, has_no_append c xs ys h.1 k)

-- the text of a path

abbrev slashed : List (List ℕ) → List ℕ
slashed names = flat_map (λ (n : List ℕ). 47 ∷ n) names

slashed_no : (c : ℕ) (names : List (List ℕ)) → (47 == c) ≡ false → AllByRecursion (HasNo c) names → HasNo c (slashed names)
slashed_no c [] e h = tt
slashed_no c (n ∷ ns) e h = (e, has_no_append c n (slashed ns) h.0 (slashed_no c ns e h.1))

path_no : (c : ℕ) (p : List (List ℕ)) → (47 == c) ≡ false → AllByRecursion (HasNo c) p → HasNo c (path_text p)
path_no c [] e h = (e, tt)
path_no c (n ∷ ns) e h = slashed_no c (n ∷ ns) e h

pub dir_line_reads : (p : List (List ℕ)) → IsPath p → IsDirLine (bare_dir_line p) p
dir_line_reads p h =
    let names : AllByRecursion IsName p = recursion_from_All IsName p h.names in
    record {
      text = path_text p;
      blanks = [];
      spelled = refl;
      inside = path_no 93 p refl (map_all IsName (HasNo 93) p name_no_bracket names);
      blank = tt;
      path = path_again p h;
    }

pub dir_line_plain : (p : List (List ℕ)) → IsPath p → IsPlainLine (bare_dir_line p)
dir_line_plain p h =
    let names : AllByRecursion IsName p = recursion_from_All IsName p h.names in
    let free : (c : ℕ) → (91 == c) ≡ false → (93 == c) ≡ false → (47 == c) ≡ false → AllByRecursion (HasNo c) p → HasNo c (bare_dir_line p) =
    λ (c : ℕ) a b s all. (a, has_no_append c (path_text p) (codes "]") (path_no c p s all) (b, tt)) in (
      free 10 refl refl refl (map_all IsName (HasNo 10) p (λ (n : List ℕ) k. (name_plain n k).0) names),
      free 13 refl refl refl (map_all IsName (HasNo 13) p (λ (n : List ℕ) k. (name_plain n k).1) names),
    )
