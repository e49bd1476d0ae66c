-- Going along names from directory to directory.
use Rattle.std.proofs.Common.{◌≡◌, ℕ, ◌+◌, ◌-◌, ◌<◌, ◌≤◌, Bool, true, false, not, cond, ◌&&◌, eqb, List, [], ◌∷◌, ◌++◌, length, take, drop, get_or, Option, Some, None, Ok, Err, refl, sym, ap, ◌∙◌, subst, arith, length-append, append_assoc, inl, inr, ◌⊎◌}
use Rattle.std.specs.Option.{option_map, option_or}
use Rattle.std.proofs.lemmas.Bool.Decides.{nat_tests}
use Rattle.std.proofs.lemmas.List.{take_more, drop_all, take_all, take-append-drop, length-drop, length-take-le}
use Rattle.odb_value.specs.Paths.{is_front, same_path}
use Rattle.odb_tree.specs.declared.rows.Row.{Row}
use Rattle.odb_tree.specs.declared.children.Child.{Child}
use Rattle.odb_tree.specs.declared.refusals.OdbRefusal.{OdbRefusal}
use Rattle.odb_tree.specs.declared.refusals.OdbRefusal.TheVariants.{NotDir, NoKey}
use Rattle.odb_tree.specs.Rows.{Rows, row_at, row_numbered, is_key}
use Rattle.odb_tree.specs.Lookups.{parent_of, obstacle_at, obstacle_from, obstacle_to, found_row, seek}
use Rattle.odb_tree.specs.Making.{further, go_on, missing_at, missing_from}
use Rattle.odb_tree.specs.Calls.{path_with, child_of}
use Rattle.odb_tree.specs.Trees.{HasDir, IsDir, IsPlaced, ArePlaced, AreApart, AreRising, IsTree}
use Rattle.odb_tree.specs.WalkLaws.{NoneAt}
use Rattle.odb_tree.proofs.WalkLaws.{true_false}
use Rattle.odb_tree.proofs.Trees.{same_long, same_front, long_same, same_sym, same_trans, same_add, none_same, is_dir_append}
use Rattle.odb_tree.proofs.Kept.{found_there}
use Rattle.odb_tree.proofs.Along.{obstacle_more, missing_more, go_more}
use Rattle.odb_tree.proofs.Placed.{none_around}
use Rattle.odb_arena.specs.declared.reaching.Reached.{Reached}
use Rattle.odb_arena.specs.Reaching.{LeadsTo, StopsAtRow, IsReached, obstacle_met}
use Rattle.odb_arena.proofs.Finding.{iff, front_split}

-- rows found

pub row_same : (rows : List Row) (p q : List (List ℕ)) → same_path p q ≡ true → row_at rows p ≡ row_at rows q
row_same [] p q h = refl
row_same (r ∷ rs) p q h =
    ap (λ (t : Bool). cond t (Some r) (row_at rs p)) (iff (same_path r.path p) (same_path r.path q) (λ e. same_trans r.path p q e h) (λ e. same_trans r.path q p e (same_sym p q h)))
    ∙ ap (λ (o : Option Row). cond (same_path r.path q) (Some r) o) (row_same rs p q h)

-- the row that is found is this one, or it is found among the others
pub found_or : (t : Bool) (x r : Row) (o : Option Row) → cond t (Some x) o ≡ Some r → ((t ≡ true) × (x ≡ r)) ⊎ ((t ≡ false) × (o ≡ Some r))
found_or true x r o h = inl (refl, cc)
found_or false x r o h = inr (refl, h)

own_number : (x r : Row) (o : Option Row) → x ≡ r → cond (eqb x.number r.number) (Some x) o ≡ Some r
own_number x r o e = ap (λ (t : Bool). cond t (Some x) o) (same (x.number) (r.number) (ap (λ (y : Row). y.number) e)) ∙ ap (λ (y : Row). Some y) e
  where
    same : (m k : ℕ) → m ≡ k → eqb m k ≡ true
    same m k h = grind (arith, nat_tests, h)

later_number : (m k : ℕ) → m + 1 ≤ k → eqb m k ≡ false
later_number m k h = grind (arith, nat_tests, h)

pub rising_found : (from : ℕ) (rows : List Row) (next : ℕ) (p : List (List ℕ)) (r : Row) → AreRising from rows next → row_at rows p ≡ Some r
    → (row_numbered rows r.number ≡ Some r) × (from ≤ r.number)
rising_found from [] next p r h e = absurd (cc)
rising_found from (x ∷ xs) next p r h e =
    elim (found_or (same_path x.path p) x r (row_at xs p) e) [
      | inl w ↦ (own_number x r (row_numbered xs r.number) w.1, subst (λ (y : Row). from ≤ y.number) w.1 h.0)
      | inr w ↦ later (rising_found (x.number + 1) xs next p r h.1 w.1)
    ]
  where
    later : (row_numbered xs r.number ≡ Some r) × (x.number + 1 ≤ r.number) → (cond (eqb x.number r.number) (Some x) (row_numbered xs r.number) ≡ Some r) × (from ≤ r.number)
    later k = (ap (λ (t : Bool). cond t (Some x) (row_numbered xs r.number)) (later_number x.number r.number k.1) ∙ k.0, omega (arith, k.1, h.0))

not_zero : (k : ℕ) → 1 ≤ k → eqb k 0 ≡ false
not_zero k h = grind (arith, nat_tests, h)

pub path_found : (s : Rows) (p : List (List ℕ)) (r : Row) → IsTree s → row_at s.rows p ≡ Some r → path_with s.rows r.number ≡ Some r.path
path_found s p r h e =
    let k = rising_found 1 s.rows s.next p r h.numbered e in
    ap (λ (t : Bool). cond t (Some []) (option_map (λ (x : Row). x.path) (row_numbered s.rows r.number))) (not_zero r.number k.1)
    ∙ ap (option_map (λ (x : Row). x.path)) k.0

-- one directory further

pub leads_begin : (rows : List Row) (names : List (List ℕ)) → LeadsTo rows names 0 0
leads_begin rows names = record {
  within = omega arith;
  path = [];
  there = refl;
  same = refl;
  dir = inl refl;
  clear = λ missing. refl;
  missing = refl;
  way = λ next. refl;
}

pub next_at : (rows : List Row) (names : List (List ℕ)) (i at : ℕ) (name : List ℕ) (h : LeadsTo rows names i at) → i < length names → name ≡ get_or names i name
    → row_at rows (h.path ++ name ∷ []) ≡ row_at rows (take (i + 1) names)
next_at rows names i at name h l is =
    row_same rows (h.path ++ name ∷ []) (take i names ++ name ∷ []) (same_add h.path (take i names) (name ∷ []) h.same)
    ∙ ap (row_at rows) (ap (λ (n : List ℕ). take i names ++ n ∷ []) is ∙ sym (take_more names i name l))

pub leads_further : (s : Rows) (names : List (List ℕ)) (i at : ℕ) (r : Row) (name : List ℕ) → IsTree s → LeadsTo s.rows names i at → i < length names → name ≡ get_or names i name
    → row_at s.rows (take (i + 1) names) ≡ Some r → is_key r ≡ false → LeadsTo s.rows names (i + 1) r.number
leads_further s names i at r name tree h l is e dir =
    let found = found_there s.rows (take (i + 1) names) r e dir in record {
      within = omega (arith, l);
      path = r.path;
      there = path_found s (take (i + 1) names) r tree e;
      same = found.1;
      dir = inr found.0;
      clear = λ missing. h.clear missing ∙ (obstacle_more missing s.rows names i l
          ∙ (ap (λ (o : Option Row). option_or (obstacle_at missing o) (obstacle_from missing s.rows (take (i + 1) names) (drop (i + 1) names))) e
          ∙ ap (λ (t : Bool). option_or (cond t (Some NotDir) None) (obstacle_from missing s.rows (take (i + 1) names) (drop (i + 1) names))) dir));
      missing = h.missing ∙ (missing_more s.rows names i l
          ∙ (ap (λ (o : Option Row). missing_at o + missing_from s.rows (take (i + 1) names) (drop (i + 1) names)) e ∙ (let z : 0 + missing_from s.rows (take (i + 1) names) (drop (i + 1) names) ≡ missing_from s.rows (take (i + 1) names) (drop (i + 1) names) = omega arith in z)));
      way = λ next. h.way next ∙ (go_more s.rows next names name i (record { path = h.path; dirs = [] }) l is
          ∙ ap (λ (o : Option Row). go_on s.rows next (take (i + 1) names) (drop (i + 1) names) (further next name (record { path = h.path; dirs = [] }) o)) e);
    }

-- nothing stands where no directory is

pub placed_found : (before rows : List Row) (p : List (List ℕ)) (r : Row) → ArePlaced before rows → row_at rows p ≡ Some r → IsPlaced (before ++ rows) r.path
placed_found before [] p r h e = absurd (cc)
placed_found before (x ∷ xs) p r h e =
    elim (found_or (same_path x.path p) x r (row_at xs p) e) [
      | inl w ↦ subst (λ (y : Row). IsPlaced (before ++ x ∷ xs) y.path) w.1 (record { parent = h.0.parent; name = h.0.name; path = h.0.path; there = is_dir_append before (x ∷ xs) h.0.parent h.0.there })
      | inr w ↦ subst (λ (l : List Row). IsPlaced l r.path) (append_assoc before (x ∷ []) xs) (placed_found (before ++ x ∷ []) xs p r h.1 w.1)
    ]

pub found_passes : (rows : List Row) (p : List (List ℕ)) (r : Row) → row_at rows p ≡ Some r → same_path r.path p ≡ true
found_passes [] p r e = absurd (cc)
found_passes (x ∷ xs) p r e =
    elim (found_or (same_path x.path p) x r (row_at xs p) e) [
      | inl w ↦ subst (λ (y : Row). same_path y.path p ≡ true) w.1 w.0
      | inr w ↦ found_passes xs p r w.1
    ]

and_first : (a b : Bool) → a && b ≡ true → a ≡ true
and_first true b h = refl
and_first false b h = h

pub same_parent : (u q : List (List ℕ)) (m n : List ℕ) → same_path (u ++ m ∷ []) (q ++ n ∷ []) ≡ true → same_path u q ≡ true
same_parent u q m n h =
    let long : length u ≡ length q = omega (arith, same_long (u ++ m ∷ []) (q ++ n ∷ []) h, length-append u (m ∷ []), length-append q (n ∷ [])) in
    long_same u q long (and_first (is_front u q) _ (sym (front_split u q m n long) ∙ same_front (u ++ m ∷ []) (q ++ n ∷ []) h))

pub behind_none : (front : List Row) (p : List (List ℕ)) (rest : List Row) → NoneAt p front → row_at (front ++ rest) p ≡ row_at rest p
unfolding NoneAt
behind_none [] p rest h = refl
behind_none (x ∷ xs) p rest h = ap (λ (t : Bool). cond t (Some x) (row_at (xs ++ rest) p)) h.0 ∙ behind_none xs p rest h.1

-- a directory that is among the rows is found at its path
dir_found : (rows : List Row) (u q : List (List ℕ)) (h : HasDir rows u) → AreApart rows → same_path u q ≡ true → row_at rows q ≡ Some h.dir
dir_found rows u q h apart same =
    let around = none_around h.front h.dir h.back (subst AreApart h.there apart) in
    let here : same_path h.dir.path q ≡ true = subst (λ (p : List (List ℕ)). same_path p q ≡ true) (sym h.path) same in
    ap (λ (l : List Row). row_at l q) h.there
    ∙ (behind_none h.front q (h.dir ∷ h.back) (none_same h.dir.path q h.front here around.0)
    ∙ ap (λ (t : Bool). cond t (Some h.dir) (row_at h.back q)) here)

-- no directory stands at the path
abbrev pub NoDir : List Row → List (List ℕ) → Type 0
NoDir rows q = (d : Row) → row_at rows q ≡ Some d → is_key d ≡ true

nothing : (o : Option Row) → ((r : Row) → o ≡ Some r → ⊥) → o ≡ None
nothing None h = refl
nothing (Some r) h = absurd (h r refl)

pub none_under : (s : Rows) (q : List (List ℕ)) (n : List ℕ) → IsTree s → 0 < length q → NoDir s.rows q → row_at s.rows (q ++ n ∷ []) ≡ None
none_under s q n tree some none = nothing (row_at s.rows (q ++ n ∷ [])) (λ r e. misplaced r (placed_found [] s.rows (q ++ n ∷ []) r tree.placed e) (found_passes s.rows (q ++ n ∷ []) r e))
  where
    in_dir : (u : List (List ℕ)) → same_path u q ≡ true → IsDir s.rows u → ⊥
    in_dir u same (inl root) = let e : length u ≡ 0 = ap (λ (l : List (List ℕ)). length l) root in absurd (omega (arith, same_long u q same, e, some))
    in_dir u same (inr has) = absurd (true_false (is_key has.dir) (none has.dir (dir_found s.rows u q has tree.apart same)) has.kind)

    misplaced : (r : Row) → IsPlaced s.rows r.path → same_path r.path (q ++ n ∷ []) ≡ true → ⊥
    misplaced r placed same = in_dir placed.parent (same_parent placed.parent q placed.name n (subst (λ (p : List (List ℕ)). same_path p (q ++ n ∷ []) ≡ true) placed.path same)) placed.there

pub no_dir : (rows : List Row) (q : List (List ℕ)) → row_at rows q ≡ None → NoDir rows q
no_dir rows q h = λ d e. let k : None ≡ Some d = sym h ∙ e in absurd (cc)

pub more_some : (q : List (List ℕ)) (n : List ℕ) → 0 < length (q ++ n ∷ [])
more_some q n = omega (arith, length-append q (n ∷ []))

pub none_deep : (s : Rows) (q more : List (List ℕ)) → IsTree s → 0 < length q → NoDir s.rows q → 0 < length more → row_at s.rows (q ++ more) ≡ None
none_deep s q [] tree some none long = absurd (omega (arith, long))
none_deep s q (n ∷ []) tree some none long = none_under s q n tree some none
none_deep s q (n ∷ m ∷ more) tree some none long =
    ap (row_at s.rows) (sym (append_assoc q (n ∷ []) (m ∷ more)))
    ∙ none_deep s (q ++ n ∷ []) (m ∷ more) tree (more_some q n) (no_dir s.rows (q ++ n ∷ []) (none_under s q n tree some none)) (omega arith)

pub clear_under : (s : Rows) (q names : List (List ℕ)) → IsTree s → 0 < length q → NoDir s.rows q → obstacle_from None s.rows q names ≡ None
clear_under s q [] tree some none = refl
clear_under s q (n ∷ names) tree some none =
    let here : row_at s.rows (q ++ n ∷ []) ≡ None = none_under s q n tree some none in
    ap (λ (o : Option Row). option_or (obstacle_at None o) (obstacle_from None s.rows (q ++ n ∷ []) names)) here
    ∙ clear_under s (q ++ n ∷ []) names tree (more_some q n) (no_dir s.rows (q ++ n ∷ []) here)

pub missing_under : (s : Rows) (q names : List (List ℕ)) → IsTree s → 0 < length q → NoDir s.rows q → missing_from s.rows q names ≡ length names
missing_under s q [] tree some none = refl
missing_under s q (n ∷ names) tree some none =
    let here : row_at s.rows (q ++ n ∷ []) ≡ None = none_under s q n tree some none in
    ap (λ (o : Option Row). missing_at o + missing_from s.rows (q ++ n ∷ []) names) here
    ∙ omega (arith, missing_under s (q ++ n ∷ []) names tree (more_some q n) (no_dir s.rows (q ++ n ∷ []) here))

-- what a child says

pub from_child : (o : Option Row) (x : Child) → Some x ≡ option_map child_of o → (r : Row) × (o ≡ Some r) × (x ≡ child_of r)
from_child None x h = absurd (cc)
from_child (Some r) x h = (r, refl, cc)

no_child : (o : Option Row) → None ≡ option_map child_of o → o ≡ None
no_child None h = refl
no_child (Some r) h = absurd (cc)

pub not_dir : (t : Bool) → false ≡ not t → t ≡ true
not_dir true h = refl
not_dir false h = absurd (cc)

pub is_dir : (t : Bool) → true ≡ not t → t ≡ false
is_dir true h = absurd (cc)
is_dir false h = refl

-- nothing has the next name
pub stops_here : (s : Rows) (names : List (List ℕ)) (i at : ℕ) (name : List ℕ) (child : Option Child) → (h : LeadsTo s.rows names i at) → i < length names → name ≡ get_or names i name
    → child ≡ option_map child_of (row_at s.rows (h.path ++ name ∷ [])) → child ≡ None → IsReached s.rows names (record { at = at; depth = i; blocked = false })
stops_here s names i at name child h l is e none =
    record { leads = h; stops = λ _. sym (next_at s.rows names i at name h l is) ∙ no_child (row_at s.rows (h.path ++ name ∷ [])) (sym none ∙ e) }

-- a key has it
pub blocked_here : (s : Rows) (names : List (List ℕ)) (i at : ℕ) (name : List ℕ) (child : Option Child) (x : Child) → (h : LeadsTo s.rows names i at) → i < length names → name ≡ get_or names i name
    → child ≡ option_map child_of (row_at s.rows (h.path ++ name ∷ [])) → child ≡ Some x → x.is_dir ≡ false → IsReached s.rows names (record { at = at; depth = i; blocked = true })
blocked_here s names i at name child x h l is e some key =
    let found = from_child (row_at s.rows (h.path ++ name ∷ [])) x (sym some ∙ e) in record {
      leads = h;
      stops = λ _. (found.0, sym (next_at s.rows names i at name h l is) ∙ found.1, not_dir (is_key found.0) (sym key ∙ ap (λ (c : Child). c.is_dir) found.2));
    }

-- a directory has it
pub goes_on : (s : Rows) (names : List (List ℕ)) (i at : ℕ) (name : List ℕ) (child : Option Child) (x : Child) → IsTree s → (h : LeadsTo s.rows names i at) → i < length names → name ≡ get_or names i name
    → child ≡ option_map child_of (row_at s.rows (h.path ++ name ∷ [])) → child ≡ Some x → x.is_dir ≡ true → LeadsTo s.rows names (i + 1) x.row
goes_on s names i at name child x tree h l is e some dir =
    let found = from_child (row_at s.rows (h.path ++ name ∷ [])) x (sym some ∙ e) in
    subst (λ (n : ℕ). LeadsTo s.rows names (i + 1) n) (sym (ap (λ (c : Child). c.row) found.2))
    (leads_further s names i at found.0 name tree h l is (sym (next_at s.rows names i at name h l is) ∙ found.1) (is_dir (is_key found.0) (sym dir ∙ ap (λ (c : Child). c.is_dir) found.2)))

pub reached_all : (rows : List Row) (names : List (List ℕ)) (i at : ℕ) → length names ≤ i → i ≤ length names → LeadsTo rows names i at
    → IsReached rows names (record { at = at; depth = length names; blocked = false })
reached_all rows names i at l m h =
    let whole : i ≡ length names = omega arith in
    record { leads = subst (λ (n : ℕ). LeadsTo rows names n at) whole h; stops = λ k. absurd (omega (arith, k)) }

-- what is known of the names from how far directories lead

at_end : (n : ℕ) → eqb n n ≡ true
at_end n = grind (arith, nat_tests)

before_end : (d n : ℕ) → d < n → eqb d n ≡ false
before_end d n h = grind (arith, nat_tests, h)

pub end_or_not : (d n : ℕ) → d ≤ n → (d ≡ n) ⊎ (d < n)
end_or_not d n h = cases (eqb d n) refl
  where
    cases : (t : Bool) → eqb d n ≡ t → (d ≡ n) ⊎ (d < n)
    cases true e = inl (grind (arith, nat_tests, e))
    cases false e = inr (grind (arith, nat_tests, e, h))

pub stop_none : (blocked : Bool) (rows : List Row) (q : List (List ℕ)) → StopsAtRow blocked (row_at rows q) → NoDir rows q
stop_none true rows q h = λ d e. let one : h.0 ≡ d = some_is h.0 d (sym h.1 ∙ e) in subst (λ (r : Row). is_key r ≡ true) one h.2
  where
    some_is : (a b : Row) → Some a ≡ Some b → a ≡ b
    some_is a b k = cc
stop_none false rows q h = no_dir rows q h

pub front_some : (names : List (List ℕ)) (d : ℕ) → d < length names → 0 < length (take (d + 1) names)
front_some names d l = omega (arith, length-take-le (d + 1) names (omega arith))

pub obstacle_is : (s : Rows) (names : List (List ℕ)) (r : Reached) (missing : Option OdbRefusal) → IsTree s → IsReached s.rows names r
    → obstacle_met r (length names) missing ≡ obstacle_from missing s.rows [] names
obstacle_is s names r missing tree h = elim (end_or_not r.depth (length names) h.leads.within) [ inl w ↦ ended w | inr w ↦ stopped w ]
  where
    ended : r.depth ≡ length names → obstacle_met r (length names) missing ≡ obstacle_from missing s.rows [] names
    ended e =
        ap (λ (t : Bool). cond t None (cond r.blocked (Some NotDir) missing)) (ap (λ (n : ℕ). eqb n (length names)) e ∙ at_end (length names))
        ∙ sym (h.leads.clear missing ∙ ap (obstacle_from missing s.rows (take r.depth names)) (drop_all r.depth names (omega (arith, e))))

    met : (blocked : Bool) (missing : Option OdbRefusal) (o : Option Row) → StopsAtRow blocked o → ((e : o ≡ None) → obstacle_from None s.rows (take (r.depth + 1) names) (drop (r.depth + 1) names) ≡ None)
        → cond blocked (Some NotDir) missing ≡ option_or (obstacle_at missing o) (obstacle_from missing s.rows (take (r.depth + 1) names) (drop (r.depth + 1) names))
    met true missing o k under =
        sym (ap (λ (x : Option Row). option_or (obstacle_at missing x) (obstacle_from missing s.rows (take (r.depth + 1) names) (drop (r.depth + 1) names))) k.1
        ∙ ap (λ (t : Bool). option_or (cond t (Some NotDir) None) (obstacle_from missing s.rows (take (r.depth + 1) names) (drop (r.depth + 1) names))) k.2)
    met false None o k under =
        sym (ap (λ (x : Option Row). option_or (obstacle_at None x) (obstacle_from None s.rows (take (r.depth + 1) names) (drop (r.depth + 1) names))) k ∙ under k)
    met false (Some x) o k under =
        sym (ap (λ (y : Option Row). option_or (obstacle_at (Some x) y) (obstacle_from (Some x) s.rows (take (r.depth + 1) names) (drop (r.depth + 1) names))) k)

    stopped : r.depth < length names → obstacle_met r (length names) missing ≡ obstacle_from missing s.rows [] names
    stopped l =
        ap (λ (t : Bool). cond t None (cond r.blocked (Some NotDir) missing)) (before_end r.depth (length names) l)
        ∙ (met r.blocked missing (row_at s.rows (take (r.depth + 1) names)) (h.stops l)
        (λ e. clear_under s (take (r.depth + 1) names) (drop (r.depth + 1) names) tree (front_some names r.depth l) (no_dir s.rows (take (r.depth + 1) names) e))
        ∙ sym (h.leads.clear missing ∙ obstacle_more missing s.rows names r.depth l))

-- so many directories are missing, where no key blocks the way
pub missing_is : (s : Rows) (names : List (List ℕ)) (r : Reached) → IsTree s → IsReached s.rows names r → (r.depth < length names → r.blocked ≡ false) → length names - r.depth ≡ missing_from s.rows [] names
missing_is s names r tree h free = elim (end_or_not r.depth (length names) h.leads.within) [ inl w ↦ ended w | inr w ↦ stopped w ]
  where
    ended : r.depth ≡ length names → length names - r.depth ≡ missing_from s.rows [] names
    ended e =
        let all : missing_from s.rows (take r.depth names) (drop r.depth names) ≡ 0 = ap (missing_from s.rows (take r.depth names)) (drop_all r.depth names (omega (arith, e))) in
        omega (arith, e, h.leads.missing, all)

    stopped : r.depth < length names → length names - r.depth ≡ missing_from s.rows [] names
    stopped l =
        let none : row_at s.rows (take (r.depth + 1) names) ≡ None = subst (λ (b : Bool). StopsAtRow b (row_at s.rows (take (r.depth + 1) names))) (free l) (h.stops l) in
        let one : missing_at (row_at s.rows (take (r.depth + 1) names)) ≡ 1 = ap missing_at none in
        omega (
          arith,
          h.leads.missing,
          missing_more s.rows names r.depth l,
          one,
          length-drop (r.depth + 1) names,
          missing_under s (take (r.depth + 1) names) (drop (r.depth + 1) names) tree (front_some names r.depth l) (no_dir s.rows (take (r.depth + 1) names) none),
        )

-- the row at the path of some names, from how far directories lead along all but the last

pub whole_names : (names : List (List ℕ)) (last : List ℕ) → 0 < length names → last ≡ get_or names (length names - 1) last → names ≡ parent_of names ++ last ∷ []
whole_names names last some is =
    let long : length names - 1 + 1 ≡ length names = omega (arith, some) in
    sym (take_all (length names - 1 + 1) names (omega (arith, long)))
    ∙ (take_more names (length names - 1) last (omega (arith, some)) ∙ ap (λ (n : List ℕ). parent_of names ++ n ∷ []) (sym is))

pub any_last : (names : List (List ℕ)) → 0 < length names → (last : List ℕ) × (names ≡ parent_of names ++ last ∷ [])
any_last names some =
    let long : length names - 1 + 1 ≡ length names = omega (arith, some) in
    (get_or names (length names - 1) [], sym (take_all (length names - 1 + 1) names (omega (arith, long))) ∙ take_more names (length names - 1) [] (omega (arith, some)))

pub not_reached : (s : Rows) (names front : List (List ℕ)) (r : Reached) → IsTree s → 0 < length names → front ≡ parent_of names → IsReached s.rows front r → r.depth < length front
    → row_at s.rows names ≡ None
not_reached s names front r tree some is h l =
    let last = any_last names some in
    let split : names ≡ take (r.depth + 1) front ++ (drop (r.depth + 1) front ++ last.0 ∷ []) =
    last.1 ∙ (ap (λ (f : List (List ℕ)). f ++ last.0 ∷ []) (sym is ∙ sym (take-append-drop (r.depth + 1) front))
    ∙ append_assoc (take (r.depth + 1) front) (drop (r.depth + 1) front) (last.0 ∷ [])) in
    ap (row_at s.rows) split
    ∙ none_deep s (take (r.depth + 1) front) (drop (r.depth + 1) front ++ last.0 ∷ []) tree (front_some front r.depth l)
    (stop_none r.blocked s.rows (take (r.depth + 1) front) (h.stops l)) (more_some (drop (r.depth + 1) front) last.0)

pub reached_row : (s : Rows) (names front : List (List ℕ)) (r : Reached) (last : List ℕ) (o : Option Row) → 0 < length names → front ≡ parent_of names → last ≡ get_or names (length names - 1) last
    → IsReached s.rows front r → length front ≤ r.depth → ((p : List (List ℕ)) → path_with s.rows r.at ≡ Some p → o ≡ row_at s.rows (p ++ last ∷ [])) → o ≡ row_at s.rows names
reached_row s names front r last o some is end h l e =
    let all : take r.depth front ≡ front = take_all r.depth front l in
    e h.leads.path h.leads.there
    ∙ (row_same s.rows (h.leads.path ++ last ∷ []) (take r.depth front ++ last ∷ []) (same_add h.leads.path (take r.depth front) (last ∷ []) h.leads.same)
    ∙ ap (row_at s.rows) (ap (λ (f : List (List ℕ)). f ++ last ∷ []) (all ∙ is) ∙ sym (whole_names names last some end)))

met_none : (d n : ℕ) (blocked : Bool) (x : OdbRefusal) → cond (eqb d n) None (cond blocked (Some NotDir) (Some x)) ≡ None → d ≡ n
met_none d n blocked x h = cases (eqb d n) blocked refl h
  where
    cases : (t b : Bool) → eqb d n ≡ t → cond t None (cond b (Some NotDir) (Some x)) ≡ None → d ≡ n
    cases true b e k = grind (arith, nat_tests, e)
    cases false true e k = absurd (cc)
    cases false false e k = absurd (cc)

pub passed_all : (rows : List Row) (front : List (List ℕ)) (r : Reached) (x : OdbRefusal) → obstacle_met r (length front) (Some x) ≡ None → length front ≤ r.depth
passed_all rows front r x h = omega (arith, met_none r.depth (length front) r.blocked x h)

pub seek_refused : (s : Rows) (names front : List (List ℕ)) (r : Reached) (x : OdbRefusal) → IsTree s → front ≡ parent_of names → IsReached s.rows front r
    → obstacle_met r (length front) (Some NoKey) ≡ Some x → seek s.rows names ≡ Err x
seek_refused s names front r x tree is h e =
    let met : obstacle_to s.rows names ≡ Some x = ap (obstacle_from (Some NoKey) s.rows []) (sym is) ∙ (sym (obstacle_is s front r (Some NoKey) tree h) ∙ e) in
    ap (λ (o : Option OdbRefusal). found_row o (row_at s.rows names)) met

pub seek_found : (s : Rows) (names front : List (List ℕ)) (r : Reached) (last : List ℕ) (o : Option Row) → IsTree s → 0 < length names → front ≡ parent_of names → last ≡ get_or names (length names - 1) last
    → IsReached s.rows front r → obstacle_met r (length front) (Some NoKey) ≡ None → ((p : List (List ℕ)) → path_with s.rows r.at ≡ Some p → o ≡ row_at s.rows (p ++ last ∷ []))
    → seek s.rows names ≡ found_row None o
seek_found s names front r last o tree some is end h e row =
    let met : obstacle_to s.rows names ≡ None = ap (obstacle_from (Some NoKey) s.rows []) (sym is) ∙ (sym (obstacle_is s front r (Some NoKey) tree h) ∙ e) in
    ap (λ (x : Option OdbRefusal). found_row x (row_at s.rows names)) met
    ∙ ap (found_row None) (sym (reached_row s names front r last o some is end h (passed_all s.rows front r NoKey e) row))

-- nothing is in the way of a row that is there

way_clear : (s : Rows) (q names : List (List ℕ)) (last : List ℕ) (r : Row) → IsTree s → row_at s.rows (q ++ (names ++ last ∷ [])) ≡ Some r → obstacle_from (Some NoKey) s.rows q names ≡ None
way_clear s q [] last r tree e = refl
way_clear s q (n ∷ names) last r tree e = at (row_at s.rows (q ++ n ∷ [])) refl (way_clear s (q ++ n ∷ []) names last r tree (ap (row_at s.rows) (append_assoc q (n ∷ []) (names ++ last ∷ [])) ∙ e))
  where
    there : row_at s.rows ((q ++ n ∷ []) ++ (names ++ last ∷ [])) ≡ Some r
    there = ap (row_at s.rows) (append_assoc q (n ∷ []) (names ++ last ∷ [])) ∙ e

    blocked : NoDir s.rows (q ++ n ∷ []) → ⊥
    blocked none = let k : None ≡ Some r = sym (none_deep s (q ++ n ∷ []) (names ++ last ∷ []) tree (more_some q n) none (more_some names last)) ∙ there in absurd (cc)

    same : (x y : Row) → Some x ≡ Some y → is_key x ≡ true → is_key y ≡ true
    same x y h k = cc

    kind : (d : Row) → row_at s.rows (q ++ n ∷ []) ≡ Some d → (t : Bool) → is_key d ≡ t → obstacle_from (Some NoKey) s.rows (q ++ n ∷ []) names ≡ None
        → option_or (obstacle_at (Some NoKey) (Some d)) (obstacle_from (Some NoKey) s.rows (q ++ n ∷ []) names) ≡ None
    kind d h true k rest = absurd (blocked (λ x f. same d x (sym h ∙ f) k))
    kind d h false k rest = ap (λ (t : Bool). option_or (cond t (Some NotDir) None) (obstacle_from (Some NoKey) s.rows (q ++ n ∷ []) names)) k ∙ rest

    at : (o : Option Row) → row_at s.rows (q ++ n ∷ []) ≡ o → obstacle_from (Some NoKey) s.rows (q ++ n ∷ []) names ≡ None
        → option_or (obstacle_at (Some NoKey) o) (obstacle_from (Some NoKey) s.rows (q ++ n ∷ []) names) ≡ None
    at None h rest = absurd (blocked (no_dir s.rows (q ++ n ∷ []) h))
    at (Some d) h rest = kind d h (is_key d) refl rest

pub seek_there : (s : Rows) (names : List (List ℕ)) (r : Row) → IsTree s → 0 < length names → row_at s.rows names ≡ Some r → seek s.rows names ≡ Ok r
seek_there s names r tree some e =
    let last = any_last names some in
    let clear : obstacle_to s.rows names ≡ None = way_clear s [] (parent_of names) last.0 r tree (ap (row_at s.rows) (sym last.1) ∙ e) in
    ap (λ (o : Option OdbRefusal). found_row o (row_at s.rows names)) clear ∙ ap (found_row None) e

pub no_some : {X : Type 0} (o : Option X) → ((x : X) → o ≡ Some x → ⊥) → o ≡ None
no_some None h = refl
no_some (Some x) h = absurd (h x refl)
