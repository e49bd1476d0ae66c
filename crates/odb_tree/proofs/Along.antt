-- Going along the names of a path.
use Rattle.std.proofs.Common.{◌≡◌, ℕ, ◌+◌, ◌<◌, ◌≤◌, Bool, true, false, cond, List, [], ◌∷◌, ◌++◌, length, get_or, set, take, drop, append_assoc, append-nil, Option, Some, None, ◌⊎◌, inl, inr, ◌^◌, ◌&&◌, ◌==◌, refl, sym, ap, ◌∙◌, subst, arith}
use Rattle.std.specs.Option.{option_or, is_some}
use Rattle.std.specs.List.{find}
use Rattle.std.proofs.lemmas.Bool.Decides.{nat_tests}
use Rattle.odb_value.specs.Paths.{same_path, is_front}
use Rattle.odb_tree.specs.Links.{number_and, numbers_along}
use Rattle.std.proofs.lemmas.List.{length-set, take_more_set, drop-set-lt, drop-drop, take-append-drop, length-take-le, drop_more, take_more, drop_all, length_push}
use Rattle.odb_tree.specs.declared.rows.Row.{Row}
use Rattle.odb_tree.specs.declared.refusals.OdbRefusal.{OdbRefusal}
use Rattle.odb_tree.specs.Rows.{row_at}
use Rattle.odb_tree.specs.Lookups.{obstacle_at, obstacle_from}
use Rattle.odb_tree.specs.Making.{Way, no_way, further, go_on, missing_from, missing_at}

pub or_some : {X : Type 0} (o p : Option X) → is_some o ≡ true → option_or o p ≡ o
or_some None p h = absurd (cc)
or_some (Some x) p h = refl

pub or_none : {X : Type 0} (o p : Option X) → is_some o ≡ false → option_or o p ≡ p
or_none None p h = refl
or_none (Some x) p h = absurd (cc)

-- one name more
pub obstacle_more : (missing : Option OdbRefusal) (rows : List Row) (names : List (List ℕ)) (i : ℕ) → i < length names
    → obstacle_from missing rows (take i names) (drop i names)
    ≡ option_or (obstacle_at missing (row_at rows (take (i + 1) names))) (obstacle_from missing rows (take (i + 1) names) (drop (i + 1) names))
obstacle_more missing rows names i h =
    ap (obstacle_from missing rows (take i names)) (drop_more names i [] h)
    ∙ ap (λ (q : List (List ℕ)). option_or (obstacle_at missing (row_at rows q)) (obstacle_from missing rows q (drop (i + 1) names))) (sym (take_more names i [] h))

-- the same of the numbers
pub numbers_more : (rows : List Row) (names : List (List ℕ)) (i : ℕ) → i < length names
    → numbers_along rows (take i names) (drop i names) ≡ number_and (row_at rows (take (i + 1) names)) (numbers_along rows (take (i + 1) names) (drop (i + 1) names))
numbers_more rows names i h =
    ap (numbers_along rows (take i names)) (drop_more names i [] h)
    ∙ ap (λ (q : List (List ℕ)). number_and (row_at rows q) (numbers_along rows q (drop (i + 1) names))) (sym (take_more names i [] h))

pub numbers_end : (rows : List Row) (names : List (List ℕ)) (i : ℕ) → i < length names → row_at rows (take (i + 1) names) ≡ None → numbers_along rows (take i names) (drop i names) ≡ []
numbers_end rows names i h none = numbers_more rows names i h ∙ ap (λ (o : Option Row). number_and o (numbers_along rows (take (i + 1) names) (drop (i + 1) names))) none

pub numbers_done : (rows : List Row) (names : List (List ℕ)) (i : ℕ) → length names ≤ i → numbers_along rows (take i names) (drop i names) ≡ []
numbers_done rows names i h = ap (numbers_along rows (take i names)) (drop_all i names h)

pub obstacle_met : (missing : Option OdbRefusal) (rows : List Row) (names : List (List ℕ)) (i : ℕ) (found : Option OdbRefusal) → i < length names
    → obstacle_from missing rows [] names ≡ obstacle_from missing rows (take i names) (drop i names)
    → found ≡ obstacle_at missing (row_at rows (take (i + 1) names)) → is_some found ≡ true → found ≡ obstacle_from missing rows [] names
obstacle_met missing rows names i found h kept is some =
    sym (kept ∙ (obstacle_more missing rows names i h
    ∙ (ap (λ (o : Option OdbRefusal). option_or o (obstacle_from missing rows (take (i + 1) names) (drop (i + 1) names))) (sym is)
    ∙ or_some found (obstacle_from missing rows (take (i + 1) names) (drop (i + 1) names)) some)))

pub obstacle_passed : (missing : Option OdbRefusal) (rows : List Row) (names : List (List ℕ)) (i : ℕ) (found : Option OdbRefusal) → i < length names
    → obstacle_from missing rows [] names ≡ obstacle_from missing rows (take i names) (drop i names)
    → found ≡ obstacle_at missing (row_at rows (take (i + 1) names)) → is_some found ≡ false
    → obstacle_from missing rows [] names ≡ obstacle_from missing rows (take (i + 1) names) (drop (i + 1) names)
obstacle_passed missing rows names i found h kept is none =
    kept ∙ (obstacle_more missing rows names i h
    ∙ (ap (λ (o : Option OdbRefusal). option_or o (obstacle_from missing rows (take (i + 1) names) (drop (i + 1) names))) (sym is)
    ∙ or_none found (obstacle_from missing rows (take (i + 1) names) (drop (i + 1) names)) none))

-- the same of the way to a new row
pub go_more : (rows : List Row) (next : ℕ) (names : List (List ℕ)) (name : List ℕ) (i : ℕ) (way : Way) → i < length names → name ≡ get_or names i name
    → go_on rows next (take i names) (drop i names) way
    ≡ go_on rows next (take (i + 1) names) (drop (i + 1) names) (further next name way (row_at rows (take (i + 1) names)))
go_more rows next names name i way h is =
    let left : drop i names ≡ name ∷ drop (i + 1) names = drop_more names i name h ∙ ap (λ (n : List ℕ). n ∷ drop (i + 1) names) (sym is) in
    let here : take (i + 1) names ≡ take i names ++ name ∷ [] = take_more names i name h ∙ ap (λ (n : List ℕ). take i names ++ n ∷ []) (sym is) in
    ap (λ (ns : List (List ℕ)). go_on rows next (take i names) ns way) left
    ∙ ap (λ (q : List (List ℕ)). go_on rows next q (drop (i + 1) names) (further next name way (row_at rows q))) (sym here)

-- the same of the directories that are missing
pub missing_more : (rows : List Row) (names : List (List ℕ)) (i : ℕ) → i < length names
    → missing_from rows (take i names) (drop i names) ≡ missing_at (row_at rows (take (i + 1) names)) + missing_from rows (take (i + 1) names) (drop (i + 1) names)
missing_more rows names i h =
    ap (missing_from rows (take i names)) (drop_more names i [] h)
    ∙ ap (λ (q : List (List ℕ)). missing_at (row_at rows q) + missing_from rows q (drop (i + 1) names)) (sym (take_more names i [] h))

further_dirs : (next : ℕ) (name : List ℕ) (way : Way) (row : Option Row) → length (further next name way row).dirs ≡ length way.dirs + missing_at row
further_dirs next name way None = length_push way.dirs (record { number = next + length way.dirs; path = way.path ++ name ∷ []; value = None })
further_dirs next name way (Some r) = omega arith

-- as many directories are made as are missing
pub go_dirs : (rows : List Row) (next : ℕ) (reached names : List (List ℕ)) (way : Way)
    → length (go_on rows next reached names way).dirs ≡ length way.dirs + missing_from rows reached names
go_dirs rows next reached [] way = omega arith
go_dirs rows next reached (name ∷ names) way =
    let row : Option Row = row_at rows (reached ++ name ∷ []) in
    omega (arith, go_dirs rows next (reached ++ name ∷ []) names (further next name way row), further_dirs next name way row)

-- so many of the first names are missing
pub record IsCounted (rows : List Row) (names : List (List ℕ)) (i count : ℕ) : Type 0 where
  pub counted : count + missing_from rows (take i names) (drop i names) ≡ missing_from rows [] names
  pub most : count ≤ i

pub counted_more : (rows : List Row) (names : List (List ℕ)) (i count more : ℕ) → i < length names → IsCounted rows names i count
    → more ≡ missing_at (row_at rows (take (i + 1) names)) → more ≤ 1 → IsCounted rows names (i + 1) (count + more)
counted_more rows names i count more h k is one = record {
  counted = omega (arith, missing_more rows names i h, k.counted, is);
  most = omega (arith, k.most, one);
}

pub missing_all : (rows : List Row) (names : List (List ℕ)) (i : ℕ) → length names ≤ i → missing_from rows (take i names) (drop i names) ≡ 0
missing_all rows names i h = ap (missing_from rows (take i names)) (drop_all i names h)

pub counted_all : (rows : List Row) (names : List (List ℕ)) (i count : ℕ) → length names ≤ i → IsCounted rows names i count → count ≡ missing_from rows [] names
counted_all rows names i count h k = omega (arith, missing_all rows names i h, k.counted)

cond_some_from : {X : Type 0} (t : Bool) (x y : X) (o : Option X) → cond t (Some y) o ≡ Some x → (t ≡ true × (y ≡ x)) ⊎ (o ≡ Some x)
cond_some_from true x y o h = inl (refl, cc)
cond_some_from false x y o h = inr h

-- what is found passes the test
found_passes : {X : Type 0} (test : X → Bool) (xs : List X) (x : X) → find test xs ≡ Some x → test x ≡ true
found_passes test [] x h = absurd (cc)
found_passes {X} test (y ∷ ys) x h =
    elim (cond_some_from (test y) x y (find test ys) h) [ inl w ↦ subst (λ (z : X). test z ≡ true) w.1 w.0 | inr w ↦ found_passes test ys x w ]

and_left : (a b : Bool) → a && b ≡ true → a ≡ true
and_left true b h = refl
and_left false b h = h

-- the way has gone through the first names
pub record IsGone (rows : List Row) (next : ℕ) (names : List (List ℕ)) (i : ℕ) (way : Way) : Type 0 where
  pub gone : go_on rows next [] names no_way ≡ go_on rows next (take i names) (drop i names) way
  pub long : length way.path ≡ i

pub gone_fits : (rows : List Row) (next : ℕ) (names : List (List ℕ)) (i : ℕ) (way : Way) → i < length names → IsGone rows next names i way
    → next + missing_from rows [] names ≤ 2 ^ 32 → next + length way.dirs + missing_at (row_at rows (take (i + 1) names)) ≤ 2 ^ 32
gone_fits rows next names i way h k fits =
    omega (arith, go_dirs rows next [] names no_way, go_dirs rows next (take i names) (drop i names) way, ap (λ (w : Way). length w.dirs) k.gone, missing_more rows names i h)

same_long : (p q : List (List ℕ)) → same_path p q ≡ true → length p ≡ length q
same_long p q h = grind (arith, nat_tests, and_left (length p == length q) (is_front p q) h)

pub row_long : (rows : List Row) (p : List (List ℕ)) (r : Row) → row_at rows p ≡ Some r → length r.path ≡ length p
row_long rows p r h = same_long r.path p (found_passes (λ (x : Row). same_path x.path p) rows r h)

further_long : (next : ℕ) (name : List ℕ) (way : Way) (row : Option Row) (n : ℕ) → length way.path ≡ n → ((r : Row) → row ≡ Some r → length r.path ≡ n + 1)
    → length (further next name way row).path ≡ n + 1
further_long next name way None n h k = omega (arith, length_push way.path name)
further_long next name way (Some r) n h k = k r refl

pub gone_more : (rows : List Row) (next : ℕ) (names : List (List ℕ)) (name : List ℕ) (i : ℕ) (way : Way) (row : Option Row) → i < length names → name ≡ get_or names i name
    → row ≡ row_at rows (take (i + 1) names) → IsGone rows next names i way → IsGone rows next names (i + 1) (further next name way row)
gone_more rows next names name i way row h is at k =
    subst (λ (o : Option Row). IsGone rows next names (i + 1) (further next name way o)) (sym at) (record {
      gone = k.gone ∙ go_more rows next names name i way h is;
      long = further_long next name way (row_at rows (take (i + 1) names)) i k.long (λ r e. row_long rows (take (i + 1) names) r e ∙ length-take-le (i + 1) names (omega arith));
    })

pub gone_all : (rows : List Row) (next : ℕ) (names : List (List ℕ)) (i : ℕ) (way : Way) → length names ≤ i → IsGone rows next names i way → way ≡ go_on rows next [] names no_way
gone_all rows next names i way h k = sym (k.gone ∙ ap (λ (ns : List (List ℕ)). go_on rows next (take i names) ns way) (drop_all i names h))

-- the numbers of the rows at the first of these names are written
pub record IsNumbered (rows : List Row) (names : List (List ℕ)) (i : ℕ) (first now : List ℕ) : Type 0 where
  pub along : numbers_along rows [] names ≡ take i now ++ numbers_along rows (take i names) (drop i names)
  pub rest : drop i now ≡ drop i first
  pub long : length now ≡ length first

-- one row more
pub numbered_more : (rows : List Row) (names : List (List ℕ)) (i : ℕ) (first now : List ℕ) (r : Row) → i < length names → i < length now → IsNumbered rows names i first now
    → row_at rows (take (i + 1) names) ≡ Some r → IsNumbered rows names (i + 1) first (set now i r.number)
numbered_more rows names i first now r h room is there = record {
  along = is.along ∙ (ap (λ (l : List ℕ). take i now ++ l) (numbers_more rows names i h ∙ ap (λ (o : Option Row). number_and o (numbers_along rows (take (i + 1) names) (drop (i + 1) names))) there)
      ∙ (sym (append_assoc (take i now) (r.number ∷ []) (numbers_along rows (take (i + 1) names) (drop (i + 1) names)))
      ∙ ap (λ (l : List ℕ). l ++ numbers_along rows (take (i + 1) names) (drop (i + 1) names)) (sym (take_more_set now i r.number room))));
  rest = drop-set-lt (i + 1) now i r.number (omega arith) ∙ (sym (drop-drop 1 i now) ∙ (ap (λ (l : List ℕ). drop 1 l) is.rest ∙ drop-drop 1 i first));
  long = length-set now i r.number ∙ is.long;
}

-- the last row was passed
pub numbered_all : (rows : List Row) (names : List (List ℕ)) (i : ℕ) (first now : List ℕ) → i ≤ length now → IsNumbered rows names i first now → numbers_along rows (take i names) (drop i names) ≡ []
    → (i ≡ length (numbers_along rows [] names)) × (now ≡ numbers_along rows [] names ++ drop i first)
numbered_all rows names i first now room is none =
    let all : numbers_along rows [] names ≡ take i now = is.along ∙ (ap (λ (l : List ℕ). take i now ++ l) none ∙ append-nil (take i now)) in (
      sym (ap (λ (l : List ℕ). length l) all ∙ length-take-le i now room),
      sym (take-append-drop i now) ∙ (ap (λ (l : List ℕ). l ++ drop i now) (sym all) ∙ ap (λ (l : List ℕ). numbers_along rows [] names ++ l) is.rest),
    )
