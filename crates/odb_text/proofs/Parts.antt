-- What stands in a directory, child by child.
use Rattle.std.proofs.Common.{◌≡◌, ℕ, zero, suc, ◌+◌, ◌<◌, Bool, true, false, not, cond, List, [], ◌∷◌, ◌++◌, length, map, get_or, take, All, Option, Some, None, Ok, refl, sym, ap, ◌∙◌, subst, arith, append_assoc, append-nil}
use Rattle.std.specs.List.{filter, flat_map}
use Rattle.std.proofs.lemmas.List.{take_more, flat_map_more}
use Rattle.std.proofs.lemmas.List.Concat.{flat_map-append}
use Rattle.std.proofs.lemmas.List.Elements.{All-get_or}
use Rattle.odb_value.specs.Paths.{depth_limit}
use Rattle.odb_tree.specs.declared.rows.Row.{Row}
use Rattle.odb_tree.specs.declared.children.Child.{Child}
use Rattle.odb_tree.specs.Rows.{Rows, row_at, is_key, is_kind, is_child, is_listed, keys_in, dirs_in}
use Rattle.odb_tree.specs.declared.refusals.OdbRefusal.{OdbRefusal}
use Rattle.odb_tree.specs.Lookups.{dir_fault}
use Rattle.odb_tree.specs.Calls.{last_name, child_of, children_of, children_or}
use Rattle.odb_tree.specs.Trees.{IsDir, IsTree, AreShort}
use Rattle.odb_tree.specs.Databases.{IsDatabase}
use Rattle.odb_tree.proofs.EachRow.{short_rows}
use Rattle.odb_tree.proofs.WalkLaws.{and_left, and_right}
use Rattle.odb_text.specs.Dumps.{row_text, keys_text, section_text, section_with, root_text, dirs_text}
use Rattle.odb_text.specs.Standing.{IsChildIn, row_part, key_part, dir_part, begins_with_key}
use Rattle.odb_text.proofs.Found.{RowStands, row_stands, child_stands}

abbrev pub AllStand : Rows → List (List ℕ) → List Row → Type 0
AllStand s p [] = Unit {0}
AllStand s p (r ∷ rs) = RowStands s p r × AllStand s p rs

abbrev pub AllOfKind : (keys : Bool) → List Row → Type 0
AllOfKind keys [] = Unit {0}
AllOfKind keys (r ∷ rs) = (is_kind keys r ≡ true) × AllOfKind keys rs

pub listed_stand : (s : Rows) (p : List (List ℕ)) (keys : Bool) (front back : List Row) → s.rows ≡ front ++ back → IsTree s → AreShort depth_limit s.rows → IsDir s.rows p
    → AllStand s p (filter (is_listed keys p) back)
listed_stand s p keys front [] e tree short dir = tt
listed_stand s p keys front (r ∷ rs) e tree short dir =
    cases (is_listed keys p r) refl (listed_stand s p keys (front ++ r ∷ []) rs (e ∙ sym (append_assoc front (r ∷ []) rs)) tree short dir)
  where
    cases : (t : Bool) → is_listed keys p r ≡ t → AllStand s p (filter (is_listed keys p) rs) → AllStand s p (cond t (r ∷ filter (is_listed keys p) rs) (filter (is_listed keys p) rs))
    cases true h rest = (row_stands s p front r rs e tree short dir (and_right (is_kind keys r) (is_child p r.path) h), rest)
    cases false h rest = rest

pub listed_kind : (keys : Bool) (p : List (List ℕ)) (rows : List Row) → AllOfKind keys (filter (is_listed keys p) rows)
listed_kind keys p [] = tt
listed_kind keys p (r ∷ rs) = cases (is_listed keys p r) refl (listed_kind keys p rs)
  where
    cases : (t : Bool) → is_listed keys p r ≡ t → AllOfKind keys (filter (is_listed keys p) rs) → AllOfKind keys (cond t (r ∷ filter (is_listed keys p) rs) (filter (is_listed keys p) rs))
    cases true h rest = (and_left (is_kind keys r) (is_child p r.path) h, rest)
    cases false h rest = rest

pub no_key : (t : Bool) → not t ≡ true → t ≡ false
no_key true h = absurd (cc)
no_key false h = refl

-- Keys.

key_one : (s : Rows) (p : List (List ℕ)) (r : Row) → RowStands s p r → is_key r ≡ true → key_part s p (child_of r) ≡ row_text r
key_one s p r h k =
    ap (λ (t : Bool). cond (not t) [] (row_part row_text (row_at s.rows (p ++ last_name r.path ∷ [])))) k ∙ ap (row_part row_text) h.found

keys_parts : (s : Rows) (p : List (List ℕ)) (rs : List Row) → AllStand s p rs → AllOfKind true rs → flat_map (key_part s p) (map child_of rs) ≡ keys_text rs
keys_parts s p [] h k = refl
keys_parts s p (r ∷ rs) h k =
    ap (λ (l : List ℕ). l ++ flat_map (key_part s p) (map child_of rs)) (key_one s p r h.0 k.0) ∙ ap (λ (l : List ℕ). row_text r ++ l) (keys_parts s p rs h.1 k.1)

dirs_no_keys : (s : Rows) (p : List (List ℕ)) (rs : List Row) → AllOfKind false rs → flat_map (key_part s p) (map child_of rs) ≡ []
dirs_no_keys s p [] k = refl
dirs_no_keys s p (r ∷ rs) k =
    ap (λ (t : Bool). cond (not t) [] (row_part row_text (row_at s.rows (p ++ last_name r.path ∷ []))) ++ flat_map (key_part s p) (map child_of rs)) (no_key (is_key r) k.0)
    ∙ dirs_no_keys s p rs k.1

-- Directories.

-- a directory with what is below it
abbrev pub dir_whole : (depth : ℕ) → Rows → Row → List ℕ
dir_whole depth s d = section_text s.rows d.path ++ dirs_text depth s.rows d.path

dir_one : (depth : ℕ) (s : Rows) (p : List (List ℕ)) (r : Row) → RowStands s p r → is_key r ≡ false → dir_part depth s p (child_of r) ≡ dir_whole depth s r
dir_one depth s p r h k =
    ap (λ (t : Bool). cond (not t) (section_text s.rows (p ++ last_name r.path ∷ []) ++ dirs_text depth s.rows (p ++ last_name r.path ∷ [])) []) k
    ∙ ap (λ (q : List (List ℕ)). section_text s.rows q ++ dirs_text depth s.rows q) (sym h.path)

dirs_parts : (depth : ℕ) (s : Rows) (p : List (List ℕ)) (rs : List Row) → AllStand s p rs → AllOfKind false rs → flat_map (dir_part depth s p) (map child_of rs) ≡ flat_map (dir_whole depth s) rs
dirs_parts depth s p [] h k = refl
dirs_parts depth s p (r ∷ rs) h k =
    ap (λ (l : List ℕ). l ++ flat_map (dir_part depth s p) (map child_of rs)) (dir_one depth s p r h.0 (no_key (is_key r) k.0))
    ∙ ap (λ (l : List ℕ). dir_whole depth s r ++ l) (dirs_parts depth s p rs h.1 k.1)

keys_no_dirs : (depth : ℕ) (s : Rows) (p : List (List ℕ)) (rs : List Row) → AllOfKind true rs → flat_map (dir_part depth s p) (map child_of rs) ≡ []
keys_no_dirs depth s p [] k = refl
keys_no_dirs depth s p (r ∷ rs) k =
    ap (λ (t : Bool). cond (not t) (section_text s.rows (p ++ last_name r.path ∷ []) ++ dirs_text depth s.rows (p ++ last_name r.path ∷ [])) [] ++ flat_map (dir_part depth s p) (map child_of rs)) k.0
    ∙ keys_no_dirs depth s p rs k.1

-- All of a directory.

pub keys_whole : (s : Rows) (p : List (List ℕ)) → IsDatabase s → IsDir s.rows p → flat_map (key_part s p) (children_of s.rows p) ≡ keys_text (keys_in s.rows p)
keys_whole s p h dir =
    flat_map-append (key_part s p) (map child_of (keys_in s.rows p)) (map child_of (dirs_in s.rows p))
    ∙ (ap (λ (l : List ℕ). l ++ flat_map (key_part s p) (map child_of (dirs_in s.rows p)))
    (keys_parts s p (keys_in s.rows p) (listed_stand s p true [] s.rows refl h.tree (short_rows s.links s.rows h.rows) dir) (listed_kind true p s.rows))
    ∙ (ap (λ (l : List ℕ). keys_text (keys_in s.rows p) ++ l) (dirs_no_keys s p (dirs_in s.rows p) (listed_kind false p s.rows))
    ∙ append-nil (keys_text (keys_in s.rows p))))

pub dirs_whole : (depth : ℕ) (s : Rows) (p : List (List ℕ)) → IsDatabase s → IsDir s.rows p → flat_map (dir_part depth s p) (children_of s.rows p) ≡ dirs_text (depth + 1) s.rows p
unfolding dirs_text
dirs_whole depth s p h dir =
    flat_map-append (dir_part depth s p) (map child_of (keys_in s.rows p)) (map child_of (dirs_in s.rows p))
    ∙ (ap (λ (l : List ℕ). l ++ flat_map (dir_part depth s p) (map child_of (dirs_in s.rows p))) (keys_no_dirs depth s p (keys_in s.rows p) (listed_kind true p s.rows))
    ∙ (dirs_parts depth s p (dirs_in s.rows p) (listed_stand s p false [] s.rows refl h.tree (short_rows s.links s.rows h.rows) dir) (listed_kind false p s.rows)
    ∙ ap (λ (n : ℕ). dirs_text n s.rows p) {x = suc depth} {y = depth + 1} (omega arith)))

-- Each child stands in the directory.

AllChildren : Rows → List (List ℕ) → List Child → Type 0
AllChildren s p [] = Unit {0}
AllChildren s p (c ∷ cs) = IsChildIn s p c × AllChildren s p cs

all_of : (s : Rows) (p : List (List ℕ)) (cs : List Child) → AllChildren s p cs → All (IsChildIn s p) cs
unfolding AllChildren
all_of s p [] h = λ k d inside. absurd (omega (arith, inside))
all_of s p (c ∷ cs) h = λ k d inside. at k d inside (all_of s p cs h.1)
  where
    at : (k : ℕ) (d : Child) → k < length (c ∷ cs) → All (IsChildIn s p) cs → IsChildIn s p (get_or (c ∷ cs) k d)
    at zero d inside rest = h.0
    at (suc k) d inside rest = rest k d (omega (arith, inside))

children_stand : (s : Rows) (p : List (List ℕ)) (rs : List Row) (more : List Child) → AllStand s p rs → AllChildren s p more → AllChildren s p (map child_of rs ++ more)
unfolding AllChildren
children_stand s p [] more h k = k
children_stand s p (r ∷ rs) more h k = (child_stands s p r h.0, children_stand s p rs more h.1 k)

no_more : (s : Rows) (p : List (List ℕ)) (rs : List Row) → AllStand s p rs → AllChildren s p (map child_of rs)
unfolding AllChildren
no_more s p [] h = tt
no_more s p (r ∷ rs) h = (child_stands s p r h.0, no_more s p rs h.1)

pub all_stand : (s : Rows) (p : List (List ℕ)) → IsDatabase s → IsDir s.rows p → All (IsChildIn s p) (children_of s.rows p)
all_stand s p h dir =
    let short = short_rows s.links s.rows h.rows in
    all_of s p (children_of s.rows p)
    (children_stand s p (keys_in s.rows p) (map child_of (dirs_in s.rows p)) (listed_stand s p true [] s.rows refl h.tree short dir)
    (no_more s p (dirs_in s.rows p) (listed_stand s p false [] s.rows refl h.tree short dir)))

-- what `list` answers of a directory

pub listed_children : (s : Rows) (p : List (List ℕ)) (children : List Child) → children_or s.rows p (dir_fault s.rows p) ≡ Ok children → children ≡ children_of s.rows p
listed_children s p children h = cases (dir_fault s.rows p) h
  where
    cases : (o : Option OdbRefusal) → children_or s.rows p o ≡ Ok children → children ≡ children_of s.rows p
    cases None e = cc
    cases (Some x) e = absurd (cc)

pub listed_stands : (s : Rows) (p : List (List ℕ)) (children : List Child) → IsDatabase s → IsDir s.rows p → children_or s.rows p (dir_fault s.rows p) ≡ Ok children
    → All (IsChildIn s p) children
listed_stands s p children h dir e = subst (All (IsChildIn s p)) (sym (listed_children s p children e)) (all_stand s p h dir)

-- the root has keys exactly where the first that stands in it is one
pub root_is : (rows : List Row) → root_text rows ≡ cond (begins_with_key (children_of rows [])) (section_text rows []) []
root_is rows = cases (keys_in rows []) (dirs_in rows []) (listed_kind true [] rows) (listed_kind false [] rows)
  where
    cases : (ks ds : List Row) → AllOfKind true ks → AllOfKind false ds → section_with rows ks ≡ cond (begins_with_key (map child_of ks ++ map child_of ds)) (section_text rows []) []
    cases [] [] h k = refl
    cases [] (d ∷ ds) h k = ap (λ (t : Bool). cond (not (not t)) (section_text rows []) []) (sym (no_key (is_key d) k.0))
    cases (r ∷ rs) ds h k = ap (λ (t : Bool). cond (not (not t)) (section_text rows []) []) (sym h.0)

pub root_with : (rows : List Row) (t : Bool) (children : List Child) → children ≡ children_of rows [] → begins_with_key children ≡ t → root_text rows ≡ cond t (section_text rows []) []
root_with rows t children e h = root_is rows ∙ ap (λ (b : Bool). cond b (section_text rows []) []) (ap begins_with_key (sym e) ∙ h)

-- without a key in the root it adds nothing
pub root_without : (text : List ℕ) (rows : List Row) (children : List Child) → children ≡ children_of rows [] → begins_with_key children ≡ false → text ≡ text ++ root_text rows
root_without text rows children e h = sym (append-nil text) ∙ ap (λ (l : List ℕ). text ++ l) (sym (root_with rows false children e h))

-- A loop over the children.

-- each of the children stands in the directory
pub child_at : (s : Rows) (p : List (List ℕ)) (children items : List Child) (i : ℕ) (child : Child) → All (IsChildIn s p) children → items ≡ children → i < length items → child ≡ get_or items i child → IsChildIn s p child
child_at s p children items i child all same within is =
    let stand : All (IsChildIn s p) items = subst (All (IsChildIn s p)) (sym same) all in
    subst (IsChildIn s p) (sym is) (All-get_or (IsChildIn s p) items i child within stand)

-- what one child more adds
pub parts_more : (part : Child → List ℕ) (items : List Child) (i : ℕ) (child : Child) (first before after : List ℕ) → i < length items → child ≡ get_or items i child → before ≡ first ++ flat_map part (take i items)
    → after ≡ before ++ part child → after ≡ first ++ flat_map part (take (i + 1) items)
parts_more part items i child first before after within is so_far more =
    let taken : take i items ++ child ∷ [] ≡ take (i + 1) items = ap (λ (c : Child). take i items ++ c ∷ []) is ∙ sym (take_more items i child within) in
    more ∙ (ap (λ (l : List ℕ). l ++ part child) so_far ∙ (flat_map_more part first (take i items) child ∙ ap (λ (cs : List Child). first ++ flat_map part cs) taken))
