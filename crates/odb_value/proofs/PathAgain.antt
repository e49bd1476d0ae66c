-- The text of a path is read as that path.
use Rattle.std.proofs.Common.{◌≡◌, ℕ, suc, ◌+◌, ◌<◌, ◌≤◌, ◌==◌, Bool, true, false, cond, List, [], ◌∷◌, ◌++◌, length, Option, Some, None, Ok, refl, ap, ◌∙◌, arith, append-nil, lt-ltb}
use Rattle.std.specs.Prelude.{slice_index, nat_lt, ◌||◌, ◌&&◌}
use Rattle.std.specs.Option.{option_or}
use Rattle.std.specs.List.{flat_map, slice_split, AllByRecursion}
use Rattle.std.proofs.lemmas.Bool.Decides.{nat_tests}
use Rattle.std.proofs.lemmas.List.Splits.{slice_split_none, slice_split_at}
use Rattle.std.proofs.lemmas.List.Elements.{All-from_recursion, recursion_from_All}
use Rattle.daq_types.specs.Names.{IsName, is_outside, breaks_name}
use Rattle.odb_value.specs.declared.path_refusals.PathRefusal.{PathRefusal}
use Rattle.odb_value.specs.declared.path_refusals.PathRefusal.TheVariants.{TooDeep}
use Rattle.odb_value.specs.Paths.{depth_limit, IsPath}
use Rattle.odb_value.specs.PathText.{names_of, depth_fault, first_fault, names_or, names_start, path_reply, path_text}
use Rattle.odb_value.proofs.NameFaults.{good_name}

-- bytes of names

pub or_false : (a b : Bool) → (a || b) ≡ false → (a ≡ false) × (b ≡ false)
or_false true b h = absurd (cc)
or_false false b h = (refl, h)

-- no byte of a name breaks the rule of names, so none is outside
pub name_inside : (size place b : ℕ) → breaks_name size place b ≡ false → is_outside b ≡ false
name_inside size place b h = (or_false (is_outside b) ((b == 32 && (place == 0 || place + 1 == size)) || (b == 59 && place == 0)) h).0

abbrev pub NoneOutside : List ℕ → Type 0
NoneOutside bs = AllByRecursion (λ b. is_outside b ≡ false) bs

all_inside : (bs : List ℕ) → ((i : ℕ) → i < length bs → is_outside (slice_index bs i) ≡ false) → NoneOutside bs
all_inside [] h = tt
all_inside (b ∷ bs) h = (h 0 (omega arith), all_inside bs (λ (i : ℕ) (k : i < length bs). h (suc i) (omega (arith, k))))

pub name_none_outside : (name : List ℕ) → IsName name → NoneOutside name
name_none_outside name n = all_inside name (λ (i : ℕ) (k : i < length name). name_inside (length name) i (slice_index name i) (n.bytes i k))

-- the tests of `is_outside`, one by one
pub above_blank : (b : ℕ) → is_outside b ≡ false → 32 ≤ b
above_blank b h =
    let low : nat_lt b 32 ≡ false = (or_false (nat_lt b 32) (nat_lt 126 b || (b == 47 || (b == 91 || (b == 93 || (b == 34 || b == 61))))) h).0 in
    grind (arith, nat_tests, low)

pub inside_tests : (b : ℕ) → is_outside b ≡ false → ((b == 47) ≡ false) × ((b == 93) ≡ false) × ((b == 61) ≡ false)
inside_tests b h =
    let a = (or_false (nat_lt b 32) (nat_lt 126 b || (b == 47 || (b == 91 || (b == 93 || (b == 34 || b == 61))))) h).1 in
    let c = (or_false (nat_lt 126 b) (b == 47 || (b == 91 || (b == 93 || (b == 34 || b == 61)))) a).1 in
    let d = or_false (b == 47) (b == 91 || (b == 93 || (b == 34 || b == 61))) c in
    let e = (or_false (b == 91) (b == 93 || (b == 34 || b == 61)) d.1).1 in
    let f = or_false (b == 93) (b == 34 || b == 61) e in
    (d.0, f.0, (or_false (b == 34) (b == 61) f.1).1)

-- no slash is among these bytes
abbrev NoSlash : List ℕ → Type 0
NoSlash bs = AllByRecursion (λ c. (c == 47) ≡ false) bs

no_slash_in : (bs : List ℕ) → NoneOutside bs → NoSlash bs
no_slash_in [] h = tt
no_slash_in (b ∷ bs) h = ((inside_tests b h.0).0, no_slash_in bs h.1)

no_slash : (name : List ℕ) → IsName name → NoSlash name
no_slash name n = no_slash_in name (name_none_outside name n)

-- the names of a path

abbrev slashed : List (List ℕ) → List ℕ
slashed names = flat_map (λ (n : List ℕ). 47 ∷ n) names

pub map_all : (P Q : List ℕ → Type 0) (ns : List (List ℕ)) → ((n : List ℕ) → P n → Q n) → AllByRecursion P ns → AllByRecursion Q ns
map_all P Q [] f h = tt
map_all P Q (n ∷ ns) f h = (f n h.0, map_all P Q ns f h.1)

pieces_are : (n : List ℕ) (ns : List (List ℕ)) → NoSlash n → AllByRecursion (NoSlash) ns → slice_split (λ b. b == 47) (n ++ slashed ns) ≡ n ∷ ns
pieces_are n [] h k =
    ap (λ (l : List ℕ). slice_split (λ b. b == 47) l) (append-nil n) ∙ slice_split_none (λ b. b == 47) n (All-from_recursion (λ b. (b == 47) ≡ false) n h)
pieces_are n (m ∷ ms) h k =
    slice_split_at (λ b. b == 47) n 47 (m ++ slashed ms) (All-from_recursion (λ b. (b == 47) ≡ false) n h) refl
    ∙ ap (λ (l : List (List ℕ)). n ∷ l) (pieces_are m ms k.0 k.1)

names_are : (n : List ℕ) (ns : List (List ℕ)) → 1 ≤ length n → NoSlash n → AllByRecursion (NoSlash) ns → names_of (path_text (n ∷ ns)) ≡ n ∷ ns
names_are [] ns some h k = absurd (omega (arith, some))
names_are (b ∷ bs) ns some h k = pieces_are (b ∷ bs) ns h k

names_fine : (place depth : ℕ) (names : List (List ℕ)) → AllByRecursion IsName names → depth + length names ≤ depth_limit → first_fault place depth names ≡ None
names_fine place depth [] h k = refl
names_fine place depth (n ∷ ns) h k =
    ap (λ (o : Option PathRefusal). option_or (option_or o (depth_fault depth)) (first_fault (place + (length n + 1)) (depth + 1) ns)) (good_name place n h.0)
    ∙ ap (λ (o : Option PathRefusal). option_or o (first_fault (place + (length n + 1)) (depth + 1) ns)) (ap (λ (t : Bool). cond t None (Some TooDeep)) (lt-ltb depth depth_limit (omega (arith, k))))
    ∙ names_fine (place + (length n + 1)) (depth + 1) ns h.1 (omega (arith, k))

path_read : (p : List (List ℕ)) → AllByRecursion IsName p → length p ≤ depth_limit → path_reply (path_text p) ≡ Ok p
path_read [] h k = refl
path_read (n ∷ ns) h k =
    let slashes : AllByRecursion (NoSlash) ns = map_all IsName (NoSlash) ns no_slash h.1 in
    let names : names_of (path_text (n ∷ ns)) ≡ n ∷ ns = names_are n ns h.0.some (no_slash n h.0) slashes in
    ap (λ (l : List (List ℕ)). names_or l (first_fault (names_start (path_text (n ∷ ns))) 0 l)) names
    ∙ ap (λ (o : Option PathRefusal). names_or (n ∷ ns) o) (names_fine (names_start (path_text (n ∷ ns))) 0 (n ∷ ns) h (omega (arith, k)))

pub path_again : (p : List (List ℕ)) → IsPath p → path_reply (path_text p) ≡ Ok p
path_again p h = path_read p (recursion_from_All IsName p h.names) h.short
