-- What reads of the rows no more than numbers, paths, kinds and bytes is the same where types alone are changed.
use Rattle.std.proofs.Common.{◌≡◌, ℕ, Bool, true, false, cond, not, ◌&&◌, eqb, List, [], ◌∷◌, ◌++◌, length, map, Option, Some, None, Result, Ok, Err, refl, ap, ◌∙◌, arith}
use Rattle.std.specs.Option.{option_map, option_or, is_some}
use Rattle.std.specs.List.{find, filter}
use Rattle.std.proofs.lemmas.List.{length-map}
use Rattle.std.proofs.lemmas.List.Sums.{sum_by-cons}
use Rattle.odb_value.specs.Paths.{same_path, is_front}
use Rattle.odb_tree.specs.declared.rows.Row.{Row}
use Rattle.odb_tree.specs.declared.children.Child.{Child}
use Rattle.odb_tree.specs.declared.refusals.OdbRefusal.{OdbRefusal}
use Rattle.odb_tree.specs.declared.refusals.OdbRefusal.TheVariants.{NotDir, Exists}
use Rattle.odb_tree.specs.declared.refusals.What.{What}
use Rattle.odb_value.specs.Values.{HeldValue}
use Rattle.odb_tree.specs.Rows.{Rows, row_at, row_numbered, is_key, is_child, is_listed, keys_in, dirs_in, rows_outside, change_row, change_at, bytes_of_row, total_of}
use Rattle.odb_tree.specs.Lookups.{obstacle_at, obstacle_from, obstacle_to, found_row, seek, not_dir, dir_fault, not_there, absent_fault}
use Rattle.odb_tree.specs.Making.{Way, further, go_on}
use Rattle.odb_tree.specs.Links.{number_and, numbers_along}
use Rattle.odb_tree.specs.Limits.{limit_fault}
use Rattle.odb_tree.specs.Calls.{exists_fault, number_reply, child_of, children_of, path_with, is_below_path}

-- a change of rows that leaves the number, the path, the kind and the bytes of each as they are
pub record Retypes (f : Row → Row) : Type 0 where
  pub number : (r : Row) → (f r).number ≡ r.number
  pub path : (r : Row) → (f r).path ≡ r.path
  pub kind : (r : Row) → is_key (f r) ≡ is_key r
  pub bytes : (r : Row) → bytes_of_row (f r) ≡ bytes_of_row r

find_mapped : (t : Row → Bool) (f : Row → Row) (rows : List Row) → ((r : Row) → t (f r) ≡ t r) → find t (map f rows) ≡ option_map f (find t rows)
find_mapped t f [] e = refl
find_mapped t f (r ∷ rs) e =
    ap (λ (b : Bool). cond b (Some (f r)) (find t (map f rs))) (e r) ∙ here (t r) (find t (map f rs)) (find t rs) (find_mapped t f rs e)
  where
    here : (b : Bool) (x y : Option Row) → x ≡ option_map f y → cond b (Some (f r)) x ≡ option_map f (cond b (Some r) y)
    here true x y h = refl
    here false x y h = h

pub row_mapped : (f : Row → Row) → Retypes f → (rows : List Row) (p : List (List ℕ)) → row_at (map f rows) p ≡ option_map f (row_at rows p)
row_mapped f h rows p = find_mapped (λ (r : Row). same_path r.path p) f rows (λ r. ap (λ (q : List (List ℕ)). same_path q p) (h.path r))

pub numbered_mapped : (f : Row → Row) → Retypes f → (rows : List Row) (n : ℕ) → row_numbered (map f rows) n ≡ option_map f (row_numbered rows n)
numbered_mapped f h rows n = find_mapped (λ (r : Row). eqb r.number n) f rows (λ r. ap (λ (m : ℕ). eqb m n) (h.number r))

pub there_mapped : (f : Row → Row) (o : Option Row) → is_some (option_map f o) ≡ is_some o
there_mapped f None = refl
there_mapped f (Some r) = refl

obstacle_here : (f : Row → Row) → Retypes f → (missing : Option OdbRefusal) (o : Option Row) → obstacle_at missing (option_map f o) ≡ obstacle_at missing o
obstacle_here f h missing None = refl
obstacle_here f h missing (Some r) = ap (λ (b : Bool). cond b (Some NotDir) None) (h.kind r)

pub obstacle_mapped : (f : Row → Row) → Retypes f → (missing : Option OdbRefusal) (rows : List Row) (reached names : List (List ℕ)) → obstacle_from missing (map f rows) reached names ≡ obstacle_from missing rows reached names
obstacle_mapped f h missing rows reached [] = refl
obstacle_mapped f h missing rows reached (name ∷ names) =
    ap (λ (o : Option Row). option_or (obstacle_at missing o) (obstacle_from missing (map f rows) (reached ++ name ∷ []) names)) (row_mapped f h rows (reached ++ name ∷ []))
    ∙ (ap (λ (o : Option OdbRefusal). option_or o (obstacle_from missing (map f rows) (reached ++ name ∷ []) names)) (obstacle_here f h missing (row_at rows (reached ++ name ∷ [])))
    ∙ ap (λ (o : Option OdbRefusal). option_or (obstacle_at missing (row_at rows (reached ++ name ∷ []))) o) (obstacle_mapped f h missing rows (reached ++ name ∷ []) names))

further_mapped : (f : Row → Row) → Retypes f → (next : ℕ) (name : List ℕ) (way : Way) (o : Option Row) → further next name way (option_map f o) ≡ further next name way o
further_mapped f h next name way None = refl
further_mapped f h next name way (Some r) = ap (λ (q : List (List ℕ)). (let w : Way = record { path = q; dirs = way.dirs } in w)) (h.path r)

pub way_mapped : (f : Row → Row) → Retypes f → (rows : List Row) (next : ℕ) (reached names : List (List ℕ)) (way : Way) → go_on (map f rows) next reached names way ≡ go_on rows next reached names way
way_mapped f h rows next reached [] way = refl
way_mapped f h rows next reached (name ∷ names) way =
    way_mapped f h rows next (reached ++ name ∷ []) names (further next name way (row_at (map f rows) (reached ++ name ∷ [])))
    ∙ ap (go_on rows next (reached ++ name ∷ []) names) (ap (further next name way) (row_mapped f h rows (reached ++ name ∷ [])) ∙ further_mapped f h next name way (row_at rows (reached ++ name ∷ [])))

number_mapped : (f : Row → Row) → Retypes f → (o : Option Row) (numbers : List ℕ) → number_and (option_map f o) numbers ≡ number_and o numbers
number_mapped f h None numbers = refl
number_mapped f h (Some r) numbers = ap (λ (n : ℕ). n ∷ numbers) (h.number r)

pub numbers_mapped : (f : Row → Row) → Retypes f → (rows : List Row) (passed names : List (List ℕ)) → numbers_along (map f rows) passed names ≡ numbers_along rows passed names
numbers_mapped f h rows passed [] = refl
numbers_mapped f h rows passed (name ∷ names) =
    ap (λ (o : Option Row). number_and o (numbers_along (map f rows) (passed ++ name ∷ []) names)) (row_mapped f h rows (passed ++ name ∷ []))
    ∙ (number_mapped f h (row_at rows (passed ++ name ∷ [])) (numbers_along (map f rows) (passed ++ name ∷ []) names)
    ∙ ap (number_and (row_at rows (passed ++ name ∷ []))) (numbers_mapped f h rows (passed ++ name ∷ []) names))

-- a row that is sought
abbrev pub sought : (Row → Row) → Result Row OdbRefusal → Result Row OdbRefusal
sought f (Ok r) = Ok (f r)
sought f (Err refusal) = Err refusal

found_mapped : (f : Row → Row) (obstacle : Option OdbRefusal) (o : Option Row) → found_row obstacle (option_map f o) ≡ sought f (found_row obstacle o)
found_mapped f (Some refusal) o = refl
found_mapped f None None = refl
found_mapped f None (Some r) = refl

pub seek_mapped : (f : Row → Row) → Retypes f → (rows : List Row) (p : List (List ℕ)) → seek (map f rows) p ≡ sought f (seek rows p)
seek_mapped f h rows p =
    ap (λ (o : Option Row). found_row (obstacle_to (map f rows) p) o) (row_mapped f h rows p)
    ∙ (ap (λ (o : Option OdbRefusal). found_row o (option_map f (row_at rows p))) (obstacle_mapped f h _ rows [] _)
    ∙ found_mapped f (obstacle_to rows p) (row_at rows p))

not_dir_mapped : (f : Row → Row) → Retypes f → (r : Result Row OdbRefusal) → not_dir (sought f r) ≡ not_dir r
not_dir_mapped f h (Err refusal) = refl
not_dir_mapped f h (Ok r) = ap (λ (b : Bool). cond b (Some NotDir) None) (h.kind r)

pub dir_fault_mapped : (f : Row → Row) → Retypes f → (rows : List Row) (p : List (List ℕ)) → dir_fault (map f rows) p ≡ dir_fault rows p
dir_fault_mapped f h rows [] = refl
dir_fault_mapped f h rows (name ∷ names) = ap not_dir (seek_mapped f h rows (name ∷ names)) ∙ not_dir_mapped f h (seek rows (name ∷ names))

not_there_mapped : (f : Row → Row) (r : Result Row OdbRefusal) → not_there (sought f r) ≡ not_there r
not_there_mapped f (Err refusal) = refl
not_there_mapped f (Ok r) = refl

pub absent_mapped : (f : Row → Row) → Retypes f → (rows : List Row) (p : List (List ℕ)) → absent_fault (map f rows) p ≡ absent_fault rows p
absent_mapped f h rows [] = refl
absent_mapped f h rows (name ∷ names) = ap not_there (seek_mapped f h rows (name ∷ names)) ∙ not_there_mapped f (seek rows (name ∷ names))

number_of_mapped : (f : Row → Row) → Retypes f → (r : Result Row OdbRefusal) → number_reply (sought f r) ≡ number_reply r
number_of_mapped f h (Err refusal) = refl
number_of_mapped f h (Ok r) = ap (λ (n : ℕ). Ok n) (h.number r)

pub number_found_mapped : (f : Row → Row) → Retypes f → (rows : List Row) (p : List (List ℕ)) → number_reply (seek (map f rows) p) ≡ number_reply (seek rows p)
number_found_mapped f h rows p = ap number_reply (seek_mapped f h rows p) ∙ number_of_mapped f h (seek rows p)

exists_if : (f : Row → Row) → Retypes f → (rows : List Row) (p : List (List ℕ)) → is_some (row_at (map f rows) p) ≡ is_some (row_at rows p)
exists_if f h rows p = ap (λ (o : Option Row). is_some o) (row_mapped f h rows p) ∙ there_mapped f (row_at rows p)

pub exists_mapped : (f : Row → Row) → Retypes f → (rows : List Row) (p : List (List ℕ)) → exists_fault (map f rows) p ≡ exists_fault rows p
exists_mapped f h rows [] = refl
exists_mapped f h rows (name ∷ names) = ap (λ (b : Bool). cond b (Some Exists) None) (exists_if f h rows (name ∷ names))

-- rows that pass a test

pub filter_mapped : (t : Row → Bool) (f : Row → Row) (xs : List Row) → ((r : Row) → t (f r) ≡ t r) → filter t (map f xs) ≡ map f (filter t xs)
filter_mapped t f [] e = refl
filter_mapped t f (x ∷ xs) e =
    ap (λ (b : Bool). cond b (f x ∷ filter t (map f xs)) (filter t (map f xs))) (e x) ∙ here (t x) (filter t (map f xs)) (filter t xs) (filter_mapped t f xs e)
  where
    here : (b : Bool) (us vs : List Row) → us ≡ map f vs → cond b (f x ∷ us) us ≡ map f (cond b (x ∷ vs) vs)
    here true us vs k = ap (λ (l : List Row). f x ∷ l) k
    here false us vs k = k

pub outside_mapped : (f : Row → Row) → Retypes f → (rows : List Row) (p : List (List ℕ)) → rows_outside (map f rows) p ≡ map f (rows_outside rows p)
outside_mapped f h rows p = filter_mapped (λ (r : Row). not (is_front p r.path)) f rows (λ r. ap (λ (q : List (List ℕ)). not (is_front p q)) (h.path r))

listed_same : (f : Row → Row) → Retypes f → (keys : Bool) (p : List (List ℕ)) (r : Row) → is_listed keys p (f r) ≡ is_listed keys p r
listed_same f h true p r = ap (λ (t : Bool). t && is_child p (f r).path) (h.kind r) ∙ ap (λ (q : List (List ℕ)). is_key r && is_child p q) (h.path r)
listed_same f h false p r = ap (λ (t : Bool). not t && is_child p (f r).path) (h.kind r) ∙ ap (λ (q : List (List ℕ)). not (is_key r) && is_child p q) (h.path r)

child_same : (f : Row → Row) → Retypes f → (r : Row) → child_of (f r) ≡ child_of r
child_same f h r = rw (h.number r, h.path r, h.kind r) refl

children_same : (f : Row → Row) → Retypes f → (rows : List Row) → map child_of (map f rows) ≡ map child_of rows
children_same f h [] = refl
children_same f h (r ∷ rs) = ap (λ (c : Child). c ∷ map child_of (map f rs)) (child_same f h r) ∙ ap (λ (l : List Child). child_of r ∷ l) (children_same f h rs)

pub children_mapped : (f : Row → Row) → Retypes f → (rows : List Row) (p : List (List ℕ)) → children_of (map f rows) p ≡ children_of rows p
children_mapped f h rows p =
    ap (λ (l : List Row). map child_of l ++ map child_of (dirs_in (map f rows) p)) (filter_mapped (is_listed true p) f rows (listed_same f h true p))
    ∙ (ap (λ (l : List Row). map child_of (map f (keys_in rows p)) ++ map child_of l) (filter_mapped (is_listed false p) f rows (listed_same f h false p))
    ∙ (ap (λ (l : List Child). l ++ map child_of (map f (dirs_in rows p))) (children_same f h (keys_in rows p))
    ∙ ap (λ (l : List Child). map child_of (keys_in rows p) ++ l) (children_same f h (dirs_in rows p))))

-- numbers

pub total_mapped : (f : Row → Row) → Retypes f → (rows : List Row) → total_of (map f rows) ≡ total_of rows
total_mapped f h [] = refl
total_mapped f h (r ∷ rs) = omega (arith, sum_by-cons bytes_of_row (f r) (map f rs), sum_by-cons bytes_of_row r rs, h.bytes r, total_mapped f h rs)

pub limit_mapped : (f : Row → Row) → Retypes f → (own : Option What) (a b : Rows) → a.rows ≡ map f b.rows → a.next ≡ b.next → limit_fault own a ≡ limit_fault own b
limit_mapped f h own a b e n =
    let long : length a.rows ≡ length b.rows = ap (λ (l : List Row). length l) e ∙ length-map b.rows f in
    let all : total_of a.rows ≡ total_of b.rows = ap total_of e ∙ total_mapped f h b.rows in
    rw (long, all, n) refl

path_of_row : (f : Row → Row) → Retypes f → (o : Option Row) → option_map (λ (r : Row). r.path) (option_map f o) ≡ option_map (λ (r : Row). r.path) o
path_of_row f h None = refl
path_of_row f h (Some r) = ap (λ (q : List (List ℕ)). Some q) (h.path r)

pub path_mapped : (f : Row → Row) → Retypes f → (rows : List Row) (n : ℕ) → path_with (map f rows) n ≡ path_with rows n
path_mapped f h rows n =
    ap (λ (o : Option (List (List ℕ))). cond (eqb n 0) (Some []) o)
    (ap (option_map (λ (r : Row). r.path)) (numbered_mapped f h rows n) ∙ path_of_row f h (row_numbered rows n))

pub below_mapped : (f : Row → Row) → Retypes f → (rows : List Row) (n m : ℕ) → is_below_path (path_with (map f rows) n) (path_with (map f rows) m) ≡ is_below_path (path_with rows n) (path_with rows m)
below_mapped f h rows n m =
    ap (λ (o : Option (List (List ℕ))). is_below_path o (path_with (map f rows) m)) (path_mapped f h rows n)
    ∙ ap (is_below_path (path_with rows n)) (path_mapped f h rows m)

-- another value of the row at a path, where it may be changed before or behind

pub change_mapped : (f : Row → Row) → Retypes f → (g k : HeldValue → HeldValue) (rows : List Row) (p : List (List ℕ)) → ((r : Row) → row_at rows p ≡ Some r → change_row g (f r) ≡ f (change_row k r))
    → change_at (map f rows) p g ≡ map f (change_at rows p k)
change_mapped f h g k [] p e = refl
change_mapped f h g k (r ∷ rs) p e =
    ap (λ (b : Bool). cond b (change_row g (f r) ∷ map f rs) (f r ∷ change_at (map f rs) p g)) (ap (λ (q : List (List ℕ)). same_path q p) (h.path r))
    ∙ here (same_path r.path p) refl (λ t. change_mapped f h g k rs p (λ x there. e x (ap (λ (b : Bool). cond b (Some r) (row_at rs p)) t ∙ there)))
  where
    here : (b : Bool) → same_path r.path p ≡ b → (same_path r.path p ≡ false → change_at (map f rs) p g ≡ map f (change_at rs p k))
        → cond b (change_row g (f r) ∷ map f rs) (f r ∷ change_at (map f rs) p g) ≡ map f (cond b (change_row k r ∷ rs) (r ∷ change_at rs p k))
    here true t ih = ap (λ (x : Row). x ∷ map f rs) (e r (ap (λ (b : Bool). cond b (Some r) (row_at rs p)) t))
    here false t ih = ap (λ (l : List Row). f r ∷ l) (ih t)
