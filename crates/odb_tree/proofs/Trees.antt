-- What keeps the rows of a database those of a tree.
use Rattle.std.proofs.Common.{◌≡◌, ℕ, ◌+◌, ◌≤◌, Bool, true, false, not, cond, ◌==◌, List, [], ◌∷◌, ◌++◌, length, map, Option, Some, None, inl, inr, refl, sym, ap, ◌∙◌, subst, arith, append_assoc, append-nil, length-append}
use Rattle.std.specs.List.{filter}
use Rattle.std.specs.Option.{option_map}
use Rattle.std.proofs.lemmas.Bool.Decides.{nat_tests}
use Rattle.odb_value.specs.Paths.{same_name, is_front, same_path}
use Rattle.odb_value.specs.Values.{HeldValue}
use Rattle.odb_tree.specs.declared.rows.Row.{Row}
use Rattle.odb_tree.specs.Rows.{Rows, row_at, rows_outside, change_at}
use Rattle.odb_tree.specs.Walks.{changed_at}
use Rattle.odb_tree.proofs.WalkLaws.{and_left, and_right, both, names_decide, front_trans, filter_append, not_true, true_false, map_append, KeepsKind, changed_keeps, change_is_map}
use Rattle.odb_tree.specs.WalkLaws.{NoneAt, OneAt}
use Rattle.odb_tree.specs.Trees.{HasDir, IsDir, IsPlaced, ArePlaced, AreApart, AreRising, IsTree, with_rows, IsNewRow, AreNew}

-- paths

pub name_sym : (a b : List ℕ) → same_name a b ≡ true → same_name b a ≡ true
name_sym a b h = let ab = names_decide a b in let ba = names_decide b a in ba.1 (sym (ab.0 h))

name_refl : (a : List ℕ) → same_name a a ≡ true
name_refl a = let aa = names_decide a a in aa.1 refl

pub front_sym : (p q : List (List ℕ)) → length p ≡ length q → is_front p q ≡ true → is_front q p ≡ true
front_sym [] [] long h = refl
front_sym [] (b ∷ q) long h = absurd (omega (arith, long))
front_sym (a ∷ p) [] long h = refl
front_sym (a ∷ p) (b ∷ q) long h =
    both (same_name b a) (is_front q p) (name_sym a b (and_left (same_name a b) (is_front p q) h)) (front_sym p q (omega (arith, long)) (and_right (same_name a b) (is_front p q) h))

-- a path is above what has more names
pub front_more : (p l : List (List ℕ)) → is_front p (p ++ l) ≡ true
front_more [] l = refl
front_more (a ∷ p) l = both (same_name a a) (is_front p (p ++ l)) (name_refl a) (front_more p l)

pub front_short : (p q : List (List ℕ)) → is_front p q ≡ true → length p ≤ length q
front_short [] q h = omega arith
front_short (a ∷ p) [] h = absurd (cc)
front_short (a ∷ p) (b ∷ q) h = omega (arith, front_short p q (and_right (same_name a b) (is_front p q) h))

-- what is above a path and has fewer names is above its directory
pub front_within : (p q l : List (List ℕ)) → is_front p (q ++ l) ≡ true → length p ≤ length q → is_front p q ≡ true
front_within [] q l h long = refl
front_within (a ∷ p) [] l h long = absurd (omega (arith, long))
front_within (a ∷ p) (b ∷ q) l h long =
    both (same_name a b) (is_front p q) (and_left (same_name a b) (is_front p (q ++ l)) h) (front_within p q l (and_right (same_name a b) (is_front p (q ++ l)) h) (omega (arith, long)))

front_add : (p q l : List (List ℕ)) → length p ≡ length q → is_front p q ≡ true → is_front (p ++ l) (q ++ l) ≡ true
front_add [] [] l long h = subst (λ (m : List (List ℕ)). is_front l m ≡ true) (append-nil l) (front_more l [])
front_add [] (b ∷ q) l long h = absurd (omega (arith, long))
front_add (a ∷ p) [] l long h = absurd (omega (arith, long))
front_add (a ∷ p) (b ∷ q) l long h =
    both (same_name a b) (is_front (p ++ l) (q ++ l)) (and_left (same_name a b) (is_front p q) h) (front_add p q l (omega (arith, long)) (and_right (same_name a b) (is_front p q) h))

pub same_long : (p q : List (List ℕ)) → same_path p q ≡ true → length p ≡ length q
same_long p q h = grind (arith, nat_tests, and_left (length p == length q) (is_front p q) h)

pub same_front : (p q : List (List ℕ)) → same_path p q ≡ true → is_front p q ≡ true
same_front p q h = and_right (length p == length q) (is_front p q) h

pub long_same : (p q : List (List ℕ)) → length p ≡ length q → is_front p q ≡ true → same_path p q ≡ true
long_same p q long h = both (length p == length q) (is_front p q) (grind (arith, nat_tests, long)) h

pub same_sym : (p q : List (List ℕ)) → same_path p q ≡ true → same_path q p ≡ true
same_sym p q h = long_same q p (sym (same_long p q h)) (front_sym p q (same_long p q h) (same_front p q h))

pub same_trans : (p q r : List (List ℕ)) → same_path p q ≡ true → same_path q r ≡ true → same_path p r ≡ true
same_trans p q r h k = long_same p r (same_long p q h ∙ same_long q r k) (front_trans p q r (same_front p q h) (same_front q r k))

pub other_sym : (p q : List (List ℕ)) → same_path p q ≡ false → same_path q p ≡ false
other_sym p q h = not_true (same_path q p) (λ e. true_false (same_path p q) (same_sym q p e) h)

pub same_add : (p q l : List (List ℕ)) → same_path p q ≡ true → same_path (p ++ l) (q ++ l) ≡ true
same_add p q l h =
    long_same (p ++ l) (q ++ l) (omega (arith, same_long p q h, length-append p l, length-append q l)) (front_add p q l (same_long p q h) (same_front p q h))

pub same_refl : (p : List (List ℕ)) → same_path p p ≡ true
same_refl p = long_same p p refl (subst (λ (q : List (List ℕ)). is_front p q ≡ true) (append-nil p) (front_more p []))

other_long : (p q : List (List ℕ)) → (length p ≡ length q → ⊥) → same_path p q ≡ false
other_long p q h = not_true (same_path p q) (λ e. h (same_long p q e))

-- rows none of which is at a path

pub none_append : (p : List (List ℕ)) (xs ys : List Row) → NoneAt p xs → NoneAt p ys → NoneAt p (xs ++ ys)
unfolding NoneAt
none_append p [] ys h k = k
none_append p (x ∷ xs) ys h k = (h.0, none_append p xs ys h.1 k)

none_filter : (test : Row → Bool) (p : List (List ℕ)) (xs : List Row) → NoneAt p xs → NoneAt p (filter test xs)
unfolding NoneAt
none_filter test p [] h = tt
none_filter test p (x ∷ xs) h = kept (test x) p x (filter test xs) h.0 (none_filter test p xs h.1)
  where
    kept : (t : Bool) (p : List (List ℕ)) (x : Row) (xs : List Row) → same_path x.path p ≡ false → NoneAt p xs → NoneAt p (cond t (x ∷ xs) xs)
    kept true p x xs h k = (h, k)
    kept false p x xs h k = k

none_mapped : (h : Row → Row) → KeepsKind h → (p : List (List ℕ)) (xs : List Row) → NoneAt p xs → NoneAt p (map h xs)
unfolding NoneAt
none_mapped h keeps p [] k = tt
none_mapped h keeps p (x ∷ xs) k = (subst (λ (q : List (List ℕ)). same_path q p ≡ false) (sym (keeps.path x)) k.0, none_mapped h keeps p xs k.1)

pub none_same : (p q : List (List ℕ)) (xs : List Row) → same_path p q ≡ true → NoneAt p xs → NoneAt q xs
unfolding NoneAt
none_same p q [] e h = tt
none_same p q (x ∷ xs) e h =
    (not_true (same_path x.path q) (λ k. true_false (same_path x.path p) (same_trans x.path q p k (same_sym p q e)) h.0), none_same p q xs e h.1)

pub none_there : (rows : List Row) (p : List (List ℕ)) → row_at rows p ≡ None → NoneAt p rows
unfolding NoneAt
none_there [] p h = tt
none_there (r ∷ rs) p h = let both = passed (same_path r.path p) r (row_at rs p) h in (both.0, none_there rs p both.1)
  where
    passed : (t : Bool) (r : Row) (o : Option Row) → cond t (Some r) o ≡ None → (t ≡ false) × (o ≡ None)
    passed true r o h = absurd (cc)
    passed false r o h = (refl, h)

-- rows apart

pub one_at : (rows : List Row) (p : List (List ℕ)) → AreApart rows → OneAt p rows
unfolding OneAt
one_at [] p h = tt
one_at (r ∷ rs) p h = (λ e. none_same r.path p rs e h.0, one_at rs p h.1)

pub apart_more : (rows : List Row) (new : Row) → AreApart rows → NoneAt new.path rows → AreApart (rows ++ new ∷ [])
unfolding NoneAt
apart_more [] new h free = (tt, tt)
apart_more (r ∷ rs) new h free = (none_append r.path rs (new ∷ []) h.0 (other_sym r.path new.path free.0, tt), apart_more rs new h.1 free.1)

apart_filter : (test : Row → Bool) (rows : List Row) → AreApart rows → AreApart (filter test rows)
apart_filter test [] h = tt
apart_filter test (r ∷ rs) h = kept (test r) r (filter test rs) (none_filter test r.path rs h.0) (apart_filter test rs h.1)
  where
    kept : (t : Bool) (r : Row) (rs : List Row) → NoneAt r.path rs → AreApart rs → AreApart (cond t (r ∷ rs) rs)
    kept true r rs h k = (h, k)
    kept false r rs h k = k

apart_mapped : (h : Row → Row) → KeepsKind h → (rows : List Row) → AreApart rows → AreApart (map h rows)
apart_mapped h keeps [] k = tt
apart_mapped h keeps (r ∷ rs) k =
    (subst (λ (q : List (List ℕ)). NoneAt q (map h rs)) (sym (keeps.path r)) (none_mapped h keeps r.path rs k.0), apart_mapped h keeps rs k.1)

-- numbers

rising_more : (from : ℕ) (rows : List Row) (next : ℕ) (new : Row) → AreRising from rows next → new.number ≡ next → AreRising from (rows ++ new ∷ []) (next + 1)
rising_more from [] next new h is = (omega (arith, h, is), omega (arith, is))
rising_more from (r ∷ rs) next new h is = (h.0, rising_more (r.number + 1) rs next new h.1 is)

rising_lower : (from low : ℕ) (rows : List Row) (next : ℕ) → low ≤ from → AreRising from rows next → AreRising low rows next
rising_lower from low [] next l h = omega (arith, l, h)
rising_lower from low (r ∷ rs) next l h = (omega (arith, l, h.0), h.1)

rising_filter : (test : Row → Bool) (from : ℕ) (rows : List Row) (next : ℕ) → AreRising from rows next → AreRising from (filter test rows) next
rising_filter test from [] next h = h
rising_filter test from (r ∷ rs) next h = kept (test r) from r (filter test rs) next h.0 (rising_filter test (r.number + 1) rs next h.1)
  where
    kept : (t : Bool) (from : ℕ) (r : Row) (rs : List Row) (next : ℕ) → from ≤ r.number → AreRising (r.number + 1) rs next → AreRising from (cond t (r ∷ rs) rs) next
    kept true from r rs next h k = (h, k)
    kept false from r rs next h k = rising_lower (r.number + 1) from rs next (omega (arith, h)) k

-- a change that keeps each number
KeepsNumbers : (Row → Row) → Type 0
KeepsNumbers h = (r : Row) → (h r).number ≡ r.number

rising_mapped : (h : Row → Row) → KeepsNumbers h → (from : ℕ) (rows : List Row) (next : ℕ) → AreRising from rows next → AreRising from (map h rows) next
unfolding KeepsNumbers
rising_mapped h keeps from [] next k = k
rising_mapped h keeps from (r ∷ rs) next k =
    (omega (arith, keeps r, k.0), subst (λ (n : ℕ). AreRising (n + 1) (map h rs) next) (sym (keeps r)) (rising_mapped h keeps (r.number + 1) rs next k.1))

-- places

dir_append : (xs ys : List Row) (p : List (List ℕ)) → HasDir xs p → HasDir (xs ++ ys) p
dir_append xs ys p h = record {
  front = h.front;
  dir = h.dir;
  back = h.back ++ ys;
  there = ap (λ (l : List Row). l ++ ys) h.there ∙ append_assoc h.front (h.dir ∷ h.back) ys;
  path = h.path;
  kind = h.kind;
}

pub is_dir_append : (xs ys : List Row) (p : List (List ℕ)) → IsDir xs p → IsDir (xs ++ ys) p
is_dir_append xs ys p (inl root) = inl root
is_dir_append xs ys p (inr has) = inr (dir_append xs ys p has)

pub placed_more : (before rows : List Row) (new : Row) → ArePlaced before rows → IsPlaced (before ++ rows) new.path → ArePlaced before (rows ++ new ∷ [])
placed_more before [] new h k = (subst (λ (l : List Row). IsPlaced l new.path) (append-nil before) k, tt)
placed_more before (r ∷ rs) new h k =
    (h.0, placed_more (before ++ r ∷ []) rs new h.1 (subst (λ (l : List Row). IsPlaced l new.path) (sym (append_assoc before (r ∷ []) rs)) k))

pub filter_at : (test : Row → Bool) (front : List Row) (d : Row) (back : List Row) → test d ≡ true → filter test (front ++ d ∷ back) ≡ filter test front ++ d ∷ filter test back
filter_at test front d back h =
    filter_append test front (d ∷ back) ∙ ap (λ (t : Bool). filter test front ++ cond t (d ∷ filter test back) (filter test back)) h

-- the directory of a row that stays, stays
dir_stays : (q : List (List ℕ)) (before : List Row) (p : List (List ℕ)) → is_front q p ≡ false → HasDir before p → HasDir (rows_outside before q) p
dir_stays q before p h has = record {
  front = rows_outside has.front q;
  dir = has.dir;
  back = rows_outside has.back q;
  there = ap (λ (l : List Row). rows_outside l q) has.there
      ∙ filter_at (λ (r : Row). not (is_front q r.path)) has.front has.dir has.back (ap (λ (t : List (List ℕ)). not (is_front q t)) has.path ∙ ap not h);
  path = has.path;
  kind = has.kind;
}

is_dir_stays : (q : List (List ℕ)) (before : List Row) (p : List (List ℕ)) → is_front q p ≡ false → IsDir before p → IsDir (rows_outside before q) p
is_dir_stays q before p h (inl root) = inl root
is_dir_stays q before p h (inr has) = inr (dir_stays q before p h has)

is_placed_stays : (q : List (List ℕ)) (before : List Row) (p : List (List ℕ)) → is_front q p ≡ false → IsPlaced before p → IsPlaced (rows_outside before q) p
is_placed_stays q before p h k = record {
  parent = k.parent;
  name = k.name;
  path = k.path;
  there = is_dir_stays q before k.parent (not_true (is_front q k.parent) (λ e. true_false (is_front q p)
      (front_trans q k.parent p e (subst (λ (m : List (List ℕ)). is_front k.parent m ≡ true) (sym k.path) (front_more k.parent (k.name ∷ [])))) h)) k.there;
}

placed_outside : (q : List (List ℕ)) (before rows : List Row) → ArePlaced before rows → ArePlaced (rows_outside before q) (rows_outside rows q)
placed_outside q before [] h = tt
placed_outside q before (r ∷ rs) h =
    kept (is_front q r.path) q before r (rows_outside rs q) refl h.0
    (subst (λ (l : List Row). ArePlaced l (rows_outside rs q)) (filter_append (λ (x : Row). not (is_front q x.path)) before (r ∷ [])) (placed_outside q (before ++ r ∷ []) rs h.1))
  where
    kept : (t : Bool) (q : List (List ℕ)) (before : List Row) (r : Row) (rs : List Row) → is_front q r.path ≡ t → IsPlaced before r.path
        → ArePlaced (rows_outside before q ++ rows_outside (r ∷ []) q) rs → ArePlaced (rows_outside before q) (cond (not t) (r ∷ rs) rs)
    kept true q before r rs e h k =
        subst (λ (l : List Row). ArePlaced l rs) (ap (λ (t : Bool). rows_outside before q ++ cond (not t) (r ∷ []) []) e ∙ append-nil (rows_outside before q)) k
    kept false q before r rs e h k =
        (is_placed_stays q before r.path e h, subst (λ (l : List Row). ArePlaced l rs) (ap (λ (t : Bool). rows_outside before q ++ cond (not t) (r ∷ []) []) e) k)

dir_mapped : (h : Row → Row) → KeepsKind h → (before : List Row) (p : List (List ℕ)) → HasDir before p → HasDir (map h before) p
dir_mapped h keeps before p has = record {
  front = map h has.front;
  dir = h has.dir;
  back = map h has.back;
  there = ap (map h) has.there ∙ map_append h has.front (has.dir ∷ has.back);
  path = keeps.path has.dir ∙ has.path;
  kind = keeps.kind has.dir ∙ has.kind;
}

is_dir_mapped : (h : Row → Row) → KeepsKind h → (before : List Row) (p : List (List ℕ)) → IsDir before p → IsDir (map h before) p
is_dir_mapped h keeps before p (inl root) = inl root
is_dir_mapped h keeps before p (inr has) = inr (dir_mapped h keeps before p has)

is_placed_mapped : (h : Row → Row) → KeepsKind h → (before : List Row) (p : List (List ℕ)) → IsPlaced before p → IsPlaced (map h before) p
is_placed_mapped h keeps before p k = record { parent = k.parent; name = k.name; path = k.path; there = is_dir_mapped h keeps before k.parent k.there }

placed_mapped : (h : Row → Row) → KeepsKind h → (before rows : List Row) → ArePlaced before rows → ArePlaced (map h before) (map h rows)
placed_mapped h keeps before [] k = tt
placed_mapped h keeps before (r ∷ rs) k = (
  subst (λ (q : List (List ℕ)). IsPlaced (map h before) q) (sym (keeps.path r)) (is_placed_mapped h keeps before r.path k.0),
  subst (λ (l : List Row). ArePlaced l (map h rs)) (map_append h before (r ∷ [])) (placed_mapped h keeps (before ++ r ∷ []) rs k.1),
)

-- trees

-- one row more
pub tree_more : (s : Rows) (new : Row) → IsTree s → IsNewRow s new → IsTree (with_rows s (new ∷ []))
tree_more s new h k = record {
  placed = placed_more [] s.rows new h.placed k.placed;
  apart = apart_more s.rows new h.apart k.free;
  numbered = rising_more 1 s.rows s.next new h.numbered k.number;
}

-- other rows in a database, and another next number
abbrev pub rows_as : Rows → List Row → ℕ → Rows
rows_as s rows next = record s { rows = rows; next = next }

pub same_rows : (s : Rows) (xs ys : List Row) (n m : ℕ) → xs ≡ ys → n ≡ m → rows_as s xs n ≡ rows_as s ys m
same_rows s xs ys n m e f = ap (λ (l : List Row). rows_as s l n) e ∙ ap (rows_as s ys) f

-- rows one after the other
pub with_more : (s : Rows) (new : Row) (made : List Row) → with_rows (with_rows s (new ∷ [])) made ≡ with_rows s (new ∷ made)
with_more s new made = same_rows s ((s.rows ++ new ∷ []) ++ made) (s.rows ++ new ∷ made) (s.next + 1 + length made) (s.next + length (new ∷ made)) (append_assoc s.rows (new ∷ []) made) (omega arith)

pub tree_with : (s : Rows) (made : List Row) → IsTree s → AreNew s made → IsTree (with_rows s made)
tree_with s [] h k = subst IsTree (same_rows s s.rows (s.rows ++ []) s.next (s.next + 0) (sym (append-nil s.rows)) (omega arith)) h
tree_with s (new ∷ made) h k = subst IsTree (with_more s new made) (tree_with (with_rows s (new ∷ [])) made (tree_more s new h k.0) k.1)

-- fewer rows
pub tree_outside : (s : Rows) (q : List (List ℕ)) → IsTree s → IsTree (record s { rows = rows_outside s.rows q })
tree_outside s q h = record {
  placed = placed_outside q [] s.rows h.placed;
  apart = apart_filter (λ (r : Row). not (is_front q r.path)) s.rows h.apart;
  numbered = rising_filter (λ (r : Row). not (is_front q r.path)) 1 s.rows s.next h.numbered;
}

numbers_kept : (p : List (List ℕ)) (f : HeldValue → HeldValue) → KeepsNumbers (changed_at p f)
unfolding KeepsNumbers
numbers_kept p f r = kept (same_path r.path p) r
  where
    kept : (t : Bool) (r : Row) → (cond t (record { number = r.number; path = r.path; value = option_map f r.value }) r).number ≡ r.number
    kept true r = refl
    kept false r = refl

-- a row with another value
pub tree_changed : (s : Rows) (p : List (List ℕ)) (f : HeldValue → HeldValue) → IsTree s → IsTree (record s { rows = change_at s.rows p f })
tree_changed s p f h =
    subst IsTree (same_rows s (map (changed_at p f) s.rows) (change_at s.rows p f) s.next s.next (sym (change_is_map p f s.rows (one_at s.rows p h.apart))) refl) (record {
      placed = placed_mapped (changed_at p f) (changed_keeps p f) [] s.rows h.placed;
      apart = apart_mapped (changed_at p f) (changed_keeps p f) s.rows h.apart;
      numbered = rising_mapped (changed_at p f) (numbers_kept p f) 1 s.rows s.next h.numbered;
    })
