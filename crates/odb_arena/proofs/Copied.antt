-- Entries put into a new map one after the other.
use Rattle.std.proofs.Common.{◌≡◌, ℕ, zero, suc, ◌+◌, ◌≤◌, Bool, true, false, cond, eqb, nat_eq, List, [], ◌∷◌, ◌++◌, length, take, Some, None, refl, sym, ap, ◌∙◌, subst, arith, add-one}
use Rattle.std.specs.Prelude.{slice_get}
use Rattle.std.specs.List.{AllByRecursion, IsDistinct}
use Rattle.std.specs.Option.{option_map}
use Rattle.std.specs.Map.{lookup, keys_of}
use Rattle.std.specs.Cmp.Lexicographic.{pointwise}
use Rattle.std.proofs.lemmas.Bool.Decides.{nat_tests, Decides-eqb}
use Rattle.std.proofs.lemmas.List.{take_all}
use Rattle.std.proofs.lemmas.Slice.Eq.{slice_eq-Decides}
use Rattle.indexmap.specs.IndexMap.{insert_entry}
use Rattle.odb_tree.specs.declared.rows.Row.{Row}
use Rattle.odb_tree.specs.declared.children.Child.{Child}
use Rattle.odb_tree.proofs.WalkLaws.{not_true, true_false}
use Rattle.odb_arena.specs.declared.directory.Directory.{Directory}
use Rattle.odb_arena.specs.declared.node.Node.{Node}
use Rattle.odb_arena.specs.Names.{names_in}
use Rattle.odb_arena.specs.Arena.{node_at, row_of, names_at}

-- a new key goes behind
insert_behind : {K X : Type 0} (eq : K → K → Bool) (es : List (K × X)) (k : K) (v : X) → lookup (eq k) es ≡ None → insert_entry eq es k v ≡ es ++ (k, v) ∷ []
insert_behind eq [] k v h = refl
insert_behind {K} {X} eq (e ∷ es) k v h = cases (eq k e.0) h (λ n. insert_behind eq es k v n)
  where
    cases : (t : Bool) → cond t (Some e.1) (lookup (eq k) es) ≡ None → (lookup (eq k) es ≡ None → insert_entry eq es k v ≡ es ++ (k, v) ∷ [])
        → cond t ((e.0, v) ∷ es) (e ∷ insert_entry eq es k v) ≡ e ∷ es ++ (k, v) ∷ []
    cases true n rest = absurd (cc)
    cases false n rest = ap (λ (l : List (K × X)). e ∷ l) (rest n)

-- in a map the key at a place is none of those before it
fresh : {K X : Type 0} (eq : K → K → Bool) (swap : (a b : K) → eq a b ≡ true → eq b a ≡ true) (es : List (K × X)) (i : ℕ) (k : K) (v : X) → IsDistinct eq (keys_of es) → slice_get es i ≡ Some (k, v)
    → lookup (eq k) (take i es) ≡ None
unfolding IsDistinct
fresh eq swap [] i k v h at = absurd (cc)
fresh eq swap (e ∷ es) zero k v h at = refl
fresh {K} {X} eq swap (e ∷ es) (suc i) k v h at =
    ap (λ (t : Bool). cond t (Some e.1) (lookup (eq k) (take i es))) (not_true (eq k e.0) (λ s. true_false (eq e.0 k) (swap k e.0 s) (other es i h.0 at)))
    ∙ fresh eq swap es i k v h.1 at
  where
    other : (xs : List (K × X)) (j : ℕ) → AllByRecursion (λ y. eq e.0 y ≡ false) (keys_of xs) → slice_get xs j ≡ Some (k, v) → eq e.0 k ≡ false
    other [] j a g = absurd (cc)
    other (x ∷ xs) zero a g = let same : x ≡ (k, v) = some_one x (k, v) g in subst (λ (y : K × X). eq e.0 y.0 ≡ false) same a.0
      where
        some_one : (x y : K × X) → Some x ≡ Some y → x ≡ y
        some_one x y s = cc
    other (x ∷ xs) (suc j) a g = other xs j a.1 g

take_next : {X : Type 0} (xs : List X) (i : ℕ) (x : X) → slice_get xs i ≡ Some x → take (suc i) xs ≡ take i xs ++ x ∷ []
take_next [] i x h = absurd (cc)
take_next (y ∷ ys) zero x h = cc
take_next {X} (y ∷ ys) (suc i) x h = ap (λ (l : List X). y ∷ l) (take_next ys i x h)

pub swap_number : (a b : ℕ) → nat_eq a b ≡ true → nat_eq b a ≡ true
swap_number a b h = grind (arith, nat_tests, h)

pub swap_name : (a b : List ℕ) → pointwise nat_eq a b ≡ true → pointwise nat_eq b a ≡ true
swap_name a b h =
    let ab = slice_eq-Decides Decides-eqb a b (pointwise nat_eq a b) refl in
    let ba = slice_eq-Decides Decides-eqb b a (pointwise nat_eq b a) refl in
    ba.1 (sym (ab.0 h))

-- one entry more
pub copied_more : {K X : Type 0} (eq : K → K → Bool) (swap : (a b : K) → eq a b ≡ true → eq b a ≡ true) (es old new : List (K × X)) (i : ℕ) (k : K) (v : X) → IsDistinct eq (keys_of es)
    → Some (k, v) ≡ slice_get es i → old ≡ take i es → new ≡ insert_entry eq old k v → new ≡ take (i + 1) es
copied_more {K} {X} eq swap es old new i k v h at is put =
    put
    ∙ (ap (λ (l : List (K × X)). insert_entry eq l k v) is
    ∙ (insert_behind eq (take i es) k v (fresh eq swap es i k v h (sym at))
    ∙ (sym (take_next es i (k, v) (sym at)) ∙ ap (λ (n : ℕ). take n es) (sym (add-one i)))))

-- nodes that are the same as others

pub record IsNodeCopy (e f : ℕ × Node) : Type 0 where
  number : f.0 ≡ e.0
  row : f.1.row ≡ e.1.row
  names : (keys : Bool) → names_in keys f.1.below ≡ names_in keys e.1.below

abbrev pub AreCopies : (es fs : List (ℕ × Node)) → Type 0
AreCopies [] [] = Unit {0}
AreCopies [] (f ∷ fs) = ⊥
AreCopies (e ∷ es) [] = ⊥
AreCopies (e ∷ es) (f ∷ fs) = IsNodeCopy e f × AreCopies es fs

copies_push : (es fs : List (ℕ × Node)) (e f : ℕ × Node) → AreCopies es fs → IsNodeCopy e f → AreCopies (es ++ e ∷ []) (fs ++ f ∷ [])
copies_push [] [] e f h k = (k, tt)
copies_push [] (y ∷ ys) e f h k = absurd h
copies_push (x ∷ xs) [] e f h k = absurd h
copies_push (x ∷ xs) (y ∷ ys) e f h k = (h.0, copies_push xs ys e f h.1 k)

copies_none : (es fs : List (ℕ × Node)) (k : ℕ) → AreCopies es fs → lookup (nat_eq k) es ≡ None → lookup (nat_eq k) fs ≡ None
copies_none [] [] k h e = refl
copies_none [] (y ∷ ys) k h e = absurd h
copies_none (x ∷ xs) [] k h e = absurd h
copies_none (x ∷ xs) (y ∷ ys) k h e =
    ap (λ (n : ℕ). cond (nat_eq k n) (Some y.1) (lookup (nat_eq k) ys)) h.0.number ∙ cases (nat_eq k x.0) e (λ n. copies_none xs ys k h.1 n)
  where
    cases : (t : Bool) → cond t (Some x.1) (lookup (nat_eq k) xs) ≡ None → (lookup (nat_eq k) xs ≡ None → lookup (nat_eq k) ys ≡ None) → cond t (Some y.1) (lookup (nat_eq k) ys) ≡ None
    cases true n rest = absurd (cc)
    cases false n rest = rest n

-- one node more
pub copies_more : (es old new : List (ℕ × Node)) (i k number : ℕ) (node copy : Node) → IsDistinct nat_eq (keys_of es) → Some (k, node) ≡ slice_get es i → AreCopies (take i es) old
    → number ≡ k → copy.row ≡ node.row → ((keys : Bool) → names_in keys copy.below ≡ names_in keys node.below) → new ≡ insert_entry nat_eq old number copy → AreCopies (take (i + 1) es) new
copies_more es old new i k number node copy h at are number_is row names put =
    subst (λ (l : List (ℕ × Node)). AreCopies l new) (sym (ap (λ (n : ℕ). take n es) (add-one i) ∙ take_next es i (k, node) (sym at)))
    (subst (AreCopies (take i es ++ (k, node) ∷ [])) (sym (put ∙ (ap (λ (n : ℕ). insert_entry nat_eq old n copy) number_is
    ∙ insert_behind nat_eq old k copy (copies_none (take i es) old k are (fresh nat_eq swap_number es i k node h (sym at))))))
    (copies_push (take i es) old (k, node) (k, copy) are (record { number = refl; row = row; names = names })))

pub copies_all : (es copy : List (ℕ × Node)) (i : ℕ) → length es ≤ i → AreCopies (take i es) copy → AreCopies es copy
copies_all es copy i l h = subst (λ (l : List (ℕ × Node)). AreCopies l copy) (take_all i es l) h

pub copies_rows : (es fs : List (ℕ × Node)) → AreCopies es fs → (k : ℕ) → row_of fs k ≡ row_of es k
copies_rows [] [] h k = refl
copies_rows [] (y ∷ ys) h k = absurd h
copies_rows (x ∷ xs) [] h k = absurd h
copies_rows (x ∷ xs) (y ∷ ys) h k =
    ap (λ (n : ℕ). option_map (λ (m : Node). m.row) (cond (nat_eq k n) (Some y.1) (lookup (nat_eq k) ys))) h.0.number ∙ cases (nat_eq k x.0) (copies_rows xs ys h.1 k)
  where
    cases : (t : Bool) → row_of ys k ≡ row_of xs k → option_map (λ (m : Node). m.row) (cond t (Some y.1) (lookup (nat_eq k) ys)) ≡ option_map (λ (m : Node). m.row) (cond t (Some x.1) (lookup (nat_eq k) xs))
    cases true rest = ap (λ (r : Row). Some r) h.0.row
    cases false rest = rest

below_rows : (es fs : List (ℕ × Node)) → AreCopies es fs → (keys : Bool) (k : ℕ) → option_map (λ (n : Node). names_in keys n.below) (node_at fs k) ≡ option_map (λ (n : Node). names_in keys n.below) (node_at es k)
below_rows [] [] h keys k = refl
below_rows [] (y ∷ ys) h keys k = absurd h
below_rows (x ∷ xs) [] h keys k = absurd h
below_rows (x ∷ xs) (y ∷ ys) h keys k =
    ap (λ (n : ℕ). option_map (λ (n : Node). names_in keys n.below) (cond (nat_eq k n) (Some y.1) (lookup (nat_eq k) ys))) h.0.number ∙ cases (nat_eq k x.0) (below_rows xs ys h.1 keys k)
  where
    cases : (t : Bool) → option_map (λ (n : Node). names_in keys n.below) (node_at ys k) ≡ option_map (λ (n : Node). names_in keys n.below) (node_at xs k)
        → option_map (λ (n : Node). names_in keys n.below) (cond t (Some y.1) (lookup (nat_eq k) ys)) ≡ option_map (λ (n : Node). names_in keys n.below) (cond t (Some x.1) (lookup (nat_eq k) xs))
    cases true rest = ap (λ (l : List (List ℕ × Child)). Some l) (h.0.names keys)
    cases false rest = rest

pub copies_names : (es fs : List (ℕ × Node)) → AreCopies es fs → (root : Directory) (keys : Bool) (k : ℕ) → names_at root fs keys k ≡ names_at root es keys k
copies_names es fs h root keys k = ap (cond (eqb k 0) (Some (names_in keys root))) (below_rows es fs h keys k)

-- and another root with the same names
pub root_copied : (root root' : Directory) (es fs : List (ℕ × Node)) → ((keys : Bool) → names_in keys root' ≡ names_in keys root)
    → ((root : Directory) (keys : Bool) (k : ℕ) → names_at root fs keys k ≡ names_at root es keys k) → (keys : Bool) (k : ℕ) → names_at root' fs keys k ≡ names_at root es keys k
root_copied root root' es fs h names keys k =
    names root' keys k ∙ ap (λ (l : List (List ℕ × Child)). cond (eqb k 0) (Some l) (option_map (λ (n : Node). names_in keys n.below) (node_at es k))) (h keys)
