-- The walk through the rows of a walk is that walk, and each row of it stands in the root or in a directory before it.
use Rattle.std.proofs.Common.{◌≡◌, ℕ, zero, suc, Bool, true, false, not, cond, ◌&&◌, List, [], ◌∷◌, ◌++◌, map, inl, inr, refl, sym, ap, ◌∙◌, subst, append_assoc, append-nil}
use Rattle.std.specs.Option.{is_some}
use Rattle.std.specs.List.{filter, flat_map}
use Rattle.odb_value.specs.Paths.{depth_limit}
use Rattle.odb_tree.specs.declared.rows.Row.{Row}
use Rattle.odb_tree.specs.Rows.{Rows, is_key, is_kind, is_child, is_listed, keys_in, dirs_in}
use Rattle.odb_tree.specs.Calls.{last_name}
use Rattle.odb_tree.specs.Walks.{walk_below, walk, directly_below}
use Rattle.odb_tree.specs.Trees.{HasDir, IsDir, IsPlaced, ArePlaced, IsTree, AreShort}
use Rattle.odb_tree.proofs.WalkLaws.{filter_append}
use Rattle.odb_tree.proofs.Trees.{is_dir_append}
use Rattle.odb_tree.proofs.Listed.{in_directory}
use Rattle.odb_text.specs.DumpSteps.{RowContent, content_of}
use Rattle.odb_text.proofs.Found.{RowStands}
use Rattle.odb_text.proofs.Parts.{AllStand, AllOfKind, listed_stand, listed_kind, no_key}

-- Rows with the same paths and values, one by one.

abbrev pub AreAlike : List Row → List Row → Type 0
AreAlike [] [] = Unit {0}
AreAlike [] (y ∷ ys) = ⊥
AreAlike (x ∷ xs) [] = ⊥
AreAlike (x ∷ xs) (y ∷ ys) = (content_of x ≡ content_of y) × AreAlike xs ys

alike_append : (xs ys us vs : List Row) → AreAlike xs ys → AreAlike us vs → AreAlike (xs ++ us) (ys ++ vs)
alike_append [] [] us vs h k = k
alike_append [] (y ∷ ys) us vs h k = absurd h
alike_append (x ∷ xs) [] us vs h k = absurd h
alike_append (x ∷ xs) (y ∷ ys) us vs h k = (h.0, alike_append xs ys us vs h.1 k)

pub contents_alike : (xs ys : List Row) → AreAlike xs ys → map content_of xs ≡ map content_of ys
contents_alike [] [] h = refl
contents_alike [] (y ∷ ys) h = absurd h
contents_alike (x ∷ xs) [] h = absurd h
contents_alike (x ∷ xs) (y ∷ ys) h =
    ap (λ (c : RowContent). c ∷ map content_of xs) h.0 ∙ ap (λ (l : List RowContent). content_of y ∷ l) (contents_alike xs ys h.1)

listed_alike : (keys : Bool) (p : List (List ℕ)) (x y : Row) → content_of x ≡ content_of y → is_listed keys p x ≡ is_listed keys p y
listed_alike true p x y h = ap (λ (c : RowContent). is_some c.value && is_child p c.path) h
listed_alike false p x y h = ap (λ (c : RowContent). not (is_some c.value) && is_child p c.path) h

filter_alike : (keys : Bool) (p : List (List ℕ)) (xs ys : List Row) → AreAlike xs ys → AreAlike (filter (is_listed keys p) xs) (filter (is_listed keys p) ys)
filter_alike keys p [] [] h = tt
filter_alike keys p [] (y ∷ ys) h = absurd h
filter_alike keys p (x ∷ xs) [] h = absurd h
filter_alike keys p (x ∷ xs) (y ∷ ys) h = cases (is_listed keys p x) (is_listed keys p y) (listed_alike keys p x y h.0) (filter_alike keys p xs ys h.1)
  where
    cases : (t u : Bool) → t ≡ u → AreAlike (filter (is_listed keys p) xs) (filter (is_listed keys p) ys)
        → AreAlike (cond t (x ∷ filter (is_listed keys p) xs) (filter (is_listed keys p) xs)) (cond u (y ∷ filter (is_listed keys p) ys) (filter (is_listed keys p) ys))
    cases true true e rest = (h.0, rest)
    cases true false e rest = absurd (cc)
    cases false true e rest = absurd (cc)
    cases false false e rest = rest

below_alike : (depth : ℕ) (xs ys : List Row) → ((p : List (List ℕ)) → AreAlike (walk_below depth xs p) (walk_below depth ys p)) → (ds es : List Row) → AreAlike ds es
    → AreAlike (flat_map (λ (d : Row). d ∷ walk_below depth xs d.path) ds) (flat_map (λ (d : Row). d ∷ walk_below depth ys d.path) es)
below_alike depth xs ys below [] [] h = tt
below_alike depth xs ys below [] (e ∷ es) h = absurd h
below_alike depth xs ys below (d ∷ ds) [] h = absurd h
below_alike depth xs ys below (d ∷ ds) (e ∷ es) h =
    let path : d.path ≡ e.path = ap (λ (c : RowContent). c.path) h.0 in (
      h.0,
      alike_append (walk_below depth xs d.path) (walk_below depth ys e.path)
          (flat_map (λ (x : Row). x ∷ walk_below depth xs x.path) ds) (flat_map (λ (x : Row). x ∷ walk_below depth ys x.path) es)
          (subst (λ (q : List (List ℕ)). AreAlike (walk_below depth xs d.path) (walk_below depth ys q)) path (below d.path))
          (below_alike depth xs ys below ds es h.1),
    )

pub walk_alike : (depth : ℕ) (xs ys : List Row) → AreAlike xs ys → (p : List (List ℕ)) → AreAlike (walk_below depth xs p) (walk_below depth ys p)
unfolding walk_below
walk_alike zero xs ys h = λ (p : List (List ℕ)). tt
walk_alike (suc depth) xs ys h = λ (p : List (List ℕ)).
    alike_append (keys_in xs p) (keys_in ys p)
    (flat_map (λ (d : Row). d ∷ walk_below depth xs d.path) (dirs_in xs p)) (flat_map (λ (d : Row). d ∷ walk_below depth ys d.path) (dirs_in ys p))
    (filter_alike true p xs ys h) (below_alike depth xs ys (walk_alike depth xs ys h) (dirs_in xs p) (dirs_in ys p) (filter_alike false p xs ys h))

-- In each directory the walk has the same keys and directories as the rows, in the same order.

kind_below : (keys : Bool) (p : List (List ℕ)) (rows : List Row) → filter (is_listed keys p) rows ≡ filter (is_kind keys) (directly_below p rows)
kind_below keys p [] = refl
kind_below keys p (r ∷ rs) = cases (is_kind keys r) (is_child p r.path) refl (kind_below keys p rs)
  where
    cases : (k c : Bool) → is_kind keys r ≡ k → filter (is_listed keys p) rs ≡ filter (is_kind keys) (directly_below p rs)
        → cond (k && c) (r ∷ filter (is_listed keys p) rs) (filter (is_listed keys p) rs) ≡ filter (is_kind keys) (cond c (r ∷ directly_below p rs) (directly_below p rs))
    cases true true e h =
        ap (λ (l : List Row). r ∷ l) h ∙ sym (ap (λ (t : Bool). cond t (r ∷ filter (is_kind keys) (directly_below p rs)) (filter (is_kind keys) (directly_below p rs))) e)
    cases false true e h = h ∙ sym (ap (λ (t : Bool). cond t (r ∷ filter (is_kind keys) (directly_below p rs)) (filter (is_kind keys) (directly_below p rs))) e)
    cases true false e h = h
    cases false false e h = h

kind_all : (keys : Bool) (rows : List Row) → AllOfKind keys rows → filter (is_kind keys) rows ≡ rows
kind_all keys [] h = refl
kind_all keys (r ∷ rs) h =
    ap (λ (t : Bool). cond t (r ∷ filter (is_kind keys) rs) (filter (is_kind keys) rs)) h.0 ∙ ap (λ (l : List Row). r ∷ l) (kind_all keys rs h.1)

no_keys : (rows : List Row) → AllOfKind false rows → filter (is_kind true) rows ≡ []
no_keys [] h = refl
no_keys (r ∷ rs) h = ap (λ (t : Bool). cond t (r ∷ filter (is_kind true) rs) (filter (is_kind true) rs)) (no_key (is_key r) h.0) ∙ no_keys rs h.1

no_dirs : (rows : List Row) → AllOfKind true rows → filter (is_kind false) rows ≡ []
no_dirs [] h = refl
no_dirs (r ∷ rs) h = ap (λ (t : Bool). cond (not t) (r ∷ filter (is_kind false) rs) (filter (is_kind false) rs)) h.0 ∙ no_dirs rs h.1

keys_again : (s : Rows) (p : List (List ℕ)) → IsTree s → AreShort depth_limit s.rows → IsDir s.rows p → keys_in (walk s) p ≡ keys_in s.rows p
keys_again s p tree short dir =
    kind_below true p (walk s)
    ∙ (ap (filter (is_kind true)) (in_directory s p tree short dir)
    ∙ (filter_append (is_kind true) (keys_in s.rows p) (dirs_in s.rows p)
    ∙ (ap (λ (l : List Row). l ++ filter (is_kind true) (dirs_in s.rows p)) (kind_all true (keys_in s.rows p) (listed_kind true p s.rows))
    ∙ (ap (λ (l : List Row). keys_in s.rows p ++ l) (no_keys (dirs_in s.rows p) (listed_kind false p s.rows))
    ∙ append-nil (keys_in s.rows p)))))

dirs_again : (s : Rows) (p : List (List ℕ)) → IsTree s → AreShort depth_limit s.rows → IsDir s.rows p → dirs_in (walk s) p ≡ dirs_in s.rows p
dirs_again s p tree short dir =
    kind_below false p (walk s)
    ∙ (ap (filter (is_kind false)) (in_directory s p tree short dir)
    ∙ (filter_append (is_kind false) (keys_in s.rows p) (dirs_in s.rows p)
    ∙ (ap (λ (l : List Row). l ++ filter (is_kind false) (dirs_in s.rows p)) (no_dirs (keys_in s.rows p) (listed_kind true p s.rows))
    ∙ kind_all false (dirs_in s.rows p) (listed_kind false p s.rows))))

-- a directory in this directory
dir_in : (s : Rows) (p : List (List ℕ)) (d : Row) → RowStands s p d → is_kind false d ≡ true → IsDir s.rows d.path
dir_in s p d h k = subst (IsDir s.rows) (sym h.path) (h.dir (no_key (is_key d) k))

-- So the walk through it is the same.

each_again : (depth : ℕ) (s : Rows) (p : List (List ℕ)) → ((q : List (List ℕ)) → IsDir s.rows q → walk_below depth (walk s) q ≡ walk_below depth s.rows q) → (ds : List Row) → AllStand s p ds
    → AllOfKind false ds → flat_map (λ (d : Row). d ∷ walk_below depth (walk s) d.path) ds ≡ flat_map (λ (d : Row). d ∷ walk_below depth s.rows d.path) ds
each_again depth s p below [] stand kind = refl
each_again depth s p below (d ∷ ds) stand kind =
    ap (λ (l : List Row). (d ∷ l) ++ flat_map (λ (x : Row). x ∷ walk_below depth (walk s) x.path) ds) (below d.path (dir_in s p d stand.0 kind.0))
    ∙ ap (λ (l : List Row). (d ∷ walk_below depth s.rows d.path) ++ l) (each_again depth s p below ds stand.1 kind.1)

below_again : (depth : ℕ) (s : Rows) → IsTree s → AreShort depth_limit s.rows → (p : List (List ℕ)) → IsDir s.rows p → walk_below depth (walk s) p ≡ walk_below depth s.rows p
unfolding walk_below
below_again zero s tree short = λ (p : List (List ℕ)) (dir : IsDir s.rows p). refl
below_again (suc depth) s tree short = λ (p : List (List ℕ)) (dir : IsDir s.rows p).
    ap (λ (l : List Row). l ++ flat_map (λ (d : Row). d ∷ walk_below depth (walk s) d.path) (dirs_in (walk s) p)) (keys_again s p tree short dir)
    ∙ (ap (λ (ds : List Row). keys_in s.rows p ++ flat_map (λ (d : Row). d ∷ walk_below depth (walk s) d.path) ds) (dirs_again s p tree short dir)
    ∙ ap (λ (l : List Row). keys_in s.rows p ++ l)
    (each_again depth s p (below_again depth s tree short) (dirs_in s.rows p) (listed_stand s p false [] s.rows refl tree short dir) (listed_kind false p s.rows)))

pub walk_again : (s : Rows) → IsTree s → AreShort depth_limit s.rows → walk_below depth_limit (walk s) [] ≡ walk s
unfolding walk
walk_again s tree short = below_again depth_limit s tree short [] (inl refl)

-- Each row of the walk stands in the root or in a directory before it.

placed_append : (before xs ys : List Row) → ArePlaced before xs → ArePlaced (before ++ xs) ys → ArePlaced before (xs ++ ys)
placed_append before [] ys h k = subst (λ (l : List Row). ArePlaced l ys) (append-nil before) k
placed_append before (x ∷ xs) ys h k =
    (h.0, placed_append (before ++ x ∷ []) xs ys h.1 (subst (λ (l : List Row). ArePlaced l ys) (sym (append_assoc before (x ∷ []) xs)) k))

-- a row of this directory is placed behind it
row_placed : (s : Rows) (p : List (List ℕ)) (before : List Row) (r : Row) → RowStands s p r → IsDir before p → IsPlaced before r.path
row_placed s p before r h dir = record { parent = p; name = last_name r.path; path = h.path; there = dir }

keys_placed : (s : Rows) (p : List (List ℕ)) (before rs : List Row) → AllStand s p rs → IsDir before p → ArePlaced before rs
keys_placed s p before [] h dir = tt
keys_placed s p before (r ∷ rs) h dir = (row_placed s p before r h.0 dir, keys_placed s p (before ++ r ∷ []) rs h.1 (is_dir_append before (r ∷ []) p dir))

abbrev PlacedBelow : (depth : ℕ) → Rows → Type 0
PlacedBelow depth s = (p : List (List ℕ)) (before : List Row) → IsDir s.rows p → IsDir before p → ArePlaced before (walk_below depth s.rows p)

dirs_placed : (depth : ℕ) (s : Rows) (p : List (List ℕ)) → PlacedBelow depth s → (before ds : List Row) → AllStand s p ds → AllOfKind false ds → IsDir before p
    → ArePlaced before (flat_map (λ (d : Row). d ∷ walk_below depth s.rows d.path) ds)
dirs_placed depth s p below before [] stand kind dir = tt
dirs_placed depth s p below before (d ∷ ds) stand kind dir =
    let under : List Row = walk_below depth s.rows d.path in
    let more : List Row = before ++ d ∷ [] in
    let here : IsDir more d.path = inr (record { front = before; dir = d; back = []; there = refl; path = refl; kind = no_key (is_key d) kind.0 }) in (
      row_placed s p before d stand.0 dir,
      placed_append more under (flat_map (λ (x : Row). x ∷ walk_below depth s.rows x.path) ds) (below d.path more (dir_in s p d stand.0 kind.0) here)
          (dirs_placed depth s p below (more ++ under) ds stand.1 kind.1 (is_dir_append more under p (is_dir_append before (d ∷ []) p dir))),
    )

below_placed : (depth : ℕ) (s : Rows) → IsTree s → AreShort depth_limit s.rows → PlacedBelow depth s
unfolding walk_below
below_placed zero s tree short = λ (p : List (List ℕ)) (before : List Row) (there : IsDir s.rows p) (dir : IsDir before p). tt
below_placed (suc depth) s tree short = λ (p : List (List ℕ)) (before : List Row) (there : IsDir s.rows p) (dir : IsDir before p).
    placed_append before (keys_in s.rows p) (flat_map (λ (d : Row). d ∷ walk_below depth s.rows d.path) (dirs_in s.rows p))
    (keys_placed s p before (keys_in s.rows p) (listed_stand s p true [] s.rows refl tree short there) dir)
    (dirs_placed depth s p (below_placed depth s tree short) (before ++ keys_in s.rows p) (dirs_in s.rows p) (listed_stand s p false [] s.rows refl tree short there) (listed_kind false p s.rows)
    (is_dir_append before (keys_in s.rows p) p dir))

pub walk_placed : (s : Rows) → IsTree s → AreShort depth_limit s.rows → ArePlaced [] (walk s)
unfolding walk
walk_placed s tree short = below_placed depth_limit s tree short [] [] (inl refl) (inl refl)

-- and so does each of rows like these

dir_alike : (front : List Row) (d : Row) (back ys : List Row) (p : List (List ℕ)) → AreAlike (front ++ d ∷ back) ys → d.path ≡ p → is_key d ≡ false → HasDir ys p
dir_alike [] d back [] p h e k = absurd h
dir_alike [] d back (y ∷ ys) p h e k = record {
  front = [];
  dir = y;
  back = ys;
  there = refl;
  path = sym (ap (λ (c : RowContent). c.path) h.0) ∙ e;
  kind = sym (ap (λ (c : RowContent). is_some c.value) h.0) ∙ k;
}
dir_alike (x ∷ xs) d back [] p h e k = absurd h
dir_alike (x ∷ xs) d back (y ∷ ys) p h e k =
    let r = dir_alike xs d back ys p h.1 e k in
    record { front = y ∷ r.front; dir = r.dir; back = r.back; there = ap (λ (l : List Row). y ∷ l) r.there; path = r.path; kind = r.kind }

is_dir_alike : (xs ys : List Row) (p : List (List ℕ)) → AreAlike xs ys → IsDir xs p → IsDir ys p
is_dir_alike xs ys p h (inl root) = inl root
is_dir_alike xs ys p h (inr has) = inr (dir_alike has.front has.dir has.back ys p (subst (λ (l : List Row). AreAlike l ys) has.there h) has.path has.kind)

pub placed_alike : (before after xs ys : List Row) → AreAlike before after → AreAlike xs ys → ArePlaced before xs → ArePlaced after ys
placed_alike before after [] [] h k placed = tt
placed_alike before after [] (y ∷ ys) h k placed = absurd k
placed_alike before after (x ∷ xs) [] h k placed = absurd k
placed_alike before after (x ∷ xs) (y ∷ ys) h k placed = (
  record {
    parent = placed.0.parent;
    name = placed.0.name;
    path = sym (ap (λ (c : RowContent). c.path) k.0) ∙ placed.0.path;
    there = is_dir_alike before after placed.0.parent h placed.0.there;
  },
  placed_alike (before ++ x ∷ []) (after ++ y ∷ []) xs ys (alike_append before after (x ∷ []) (y ∷ []) h (k.0, tt)) k.1 placed.1,
)
