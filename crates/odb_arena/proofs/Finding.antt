-- What stands under a name in a directory, found among the names there, is what the rows have at the path.
use Rattle.std.proofs.Common.{◌≡◌, ℕ, ◌+◌, ◌-◌, Bool, true, false, not, cond, ◌&&◌, nat_eq, eqb, List, [], ◌∷◌, ◌++◌, length, map, Option, Some, None, refl, sym, ap, ◌∙◌, subst, arith, length-append, inl, inr, ◌⊎◌, All}
use Rattle.std.specs.Prelude.{slice_index_or}
use Rattle.std.specs.List.{filter}
use Rattle.std.specs.Option.{option_map, option_or}
use Rattle.std.specs.Map.{lookup}
use Rattle.std.specs.Cmp.Lexicographic.{pointwise}
use Rattle.std.proofs.lemmas.Bool.Decides.{nat_tests}
use Rattle.std.proofs.lemmas.List.Elements.{All-head, All-tail}
use Rattle.daq_types.specs.Names.{IsName}
use Rattle.odb_value.specs.Paths.{same_name, is_front, same_path}
use Rattle.odb_tree.specs.declared.rows.Row.{Row}
use Rattle.odb_tree.specs.declared.children.Child.{Child}
use Rattle.odb_tree.specs.Rows.{row_at, is_key, is_child, is_listed}
use Rattle.odb_tree.specs.Calls.{last_name, child_of}
use Rattle.odb_tree.specs.Trees.{ArePlaced, AreApart}
use Rattle.odb_tree.specs.Databases.{IsRow}
use Rattle.odb_tree.specs.WalkLaws.{NoneAt}
use Rattle.odb_tree.proofs.WalkLaws.{and_left, and_right, both}
use Rattle.odb_tree.proofs.Trees.{front_sym, front_within, none_same, name_sym}
use Rattle.odb_arena.specs.Names.{folded, entry_of, child_in}
use Rattle.odb_arena.specs.Arena.{entries_in}
use Rattle.odb_arena.proofs.Padding.{folded_same}

-- a path with a last name
pub record HasLast (p : List (List ℕ)) : Type 0 where
  pub parent : List (List ℕ)
  pub name : List ℕ
  pub whole : p ≡ parent ++ name ∷ []

abbrev pub HaveLasts : List Row → Type 0
HaveLasts [] = Unit {0}
HaveLasts (r ∷ rs) = HasLast r.path × HaveLasts rs

pub lasts : (before rows : List Row) → ArePlaced before rows → HaveLasts rows
lasts before [] h = tt
lasts before (r ∷ rs) h = (record { parent = h.0.parent; name = h.0.name; whole = h.0.path }, lasts (before ++ r ∷ []) rs h.1)

and_assoc : (a b c : Bool) → a && (b && c) ≡ (a && b) && c
and_assoc true b c = refl
and_assoc false b c = refl

and_true : (a : Bool) → a && true ≡ a
and_true true = refl
and_true false = refl

-- two tests that hold together are the same
pub iff : (a b : Bool) → (a ≡ true → b ≡ true) → (b ≡ true → a ≡ true) → a ≡ b
iff true b h k = sym (h refl)
iff false true h k = k refl
iff false false h k = refl

pub name_swap : (a b : List ℕ) → same_name a b ≡ same_name b a
name_swap a b = iff (same_name a b) (same_name b a) (name_sym a b) (name_sym b a)

pub front_split : (u p : List (List ℕ)) (m n : List ℕ) → length u ≡ length p → is_front (u ++ m ∷ []) (p ++ n ∷ []) ≡ is_front u p && same_name m n
front_split [] [] m n l = and_true (same_name m n)
front_split [] (b ∷ p) m n l = absurd (omega (arith, l))
front_split (a ∷ u) [] m n l = absurd (omega (arith, l))
front_split (a ∷ u) (b ∷ p) m n l =
    ap (λ (t : Bool). same_name a b && t) (front_split u p m n (omega (arith, l))) ∙ and_assoc (same_name a b) (is_front u p) (same_name m n)

front_push : (p : List (List ℕ)) (l : List (List ℕ)) (q : List (List ℕ)) → is_front p q ≡ true → is_front p (q ++ l) ≡ true
front_push [] l q h = refl
front_push (a ∷ p) l [] h = absurd (cc)
front_push (a ∷ p) l (b ∷ q) h = both (same_name a b) (is_front p (q ++ l)) (and_left (same_name a b) (is_front p q) h) (front_push p l q (and_right (same_name a b) (is_front p q) h))

front_there : (u p : List (List ℕ)) (m : List ℕ) → length u ≡ length p → is_front p (u ++ m ∷ []) ≡ is_front u p
front_there u p m l =
    iff (is_front p (u ++ m ∷ [])) (is_front u p)
    (λ h. front_sym p u (sym l) (front_within p u (m ∷ []) h (omega (arith, l))))
    (λ h. front_push p (m ∷ []) u (front_sym u p l h))

eq_or_not : (a b : ℕ) → ((a ≡ b) × (eqb a b ≡ true)) ⊎ ((a ≡ b → ⊥) × (eqb a b ≡ false))
eq_or_not a b = cases (eqb a b) refl
  where
    cases : (t : Bool) → eqb a b ≡ t → ((a ≡ b) × (eqb a b ≡ true)) ⊎ ((a ≡ b → ⊥) × (eqb a b ≡ false))
    cases true e = inl (grind (arith, nat_tests, e), e)
    cases false e = inr (λ h. absurd (grind (arith, nat_tests, e, h)), e)

same_by : (a b : ℕ) → a ≡ b → eqb a b ≡ true
same_by a b h = grind (arith, nat_tests, h)

other_by : (a b : ℕ) → (a ≡ b → ⊥) → eqb a b ≡ false
other_by a b h = grind (arith, nat_tests, h)

-- a path is that of a name in a directory where it is that of something there with the same last name
pub at_child : (p u : List (List ℕ)) (m n : List ℕ) → same_path (u ++ m ∷ []) (p ++ n ∷ []) ≡ is_child p (u ++ m ∷ []) && same_name m n
at_child p u m n = elim (eq_or_not (length u) (length p)) [ inl w ↦ long w.0 | inr w ↦ short w.0 ]
  where
    long : length u ≡ length p → same_path (u ++ m ∷ []) (p ++ n ∷ []) ≡ is_child p (u ++ m ∷ []) && same_name m n
    long e =
        ap (λ (t : Bool). t && is_front (u ++ m ∷ []) (p ++ n ∷ [])) (same_by (length (u ++ m ∷ [])) (length (p ++ n ∷ [])) (omega (arith, length-append u (m ∷ []), length-append p (n ∷ []), e)))
        ∙ (front_split u p m n e
        ∙ (ap (λ (t : Bool). t && same_name m n) (sym (front_there u p m e))
        ∙ ap (λ (t : Bool). (t && is_front p (u ++ m ∷ [])) && same_name m n) (sym (same_by (length (u ++ m ∷ [])) (length p + 1) (omega (arith, length-append u (m ∷ []), e))))))

    short : (length u ≡ length p → ⊥) → same_path (u ++ m ∷ []) (p ++ n ∷ []) ≡ is_child p (u ++ m ∷ []) && same_name m n
    short f =
        ap (λ (t : Bool). t && is_front (u ++ m ∷ []) (p ++ n ∷ [])) (other_by (length (u ++ m ∷ [])) (length (p ++ n ∷ [])) (λ e. f (omega (arith, length-append u (m ∷ []), length-append p (n ∷ []), e))))
        ∙ ap (λ (t : Bool). (t && is_front p (u ++ m ∷ [])) && same_name m n) (sym (other_by (length (u ++ m ∷ [])) (length p + 1) (λ e. f (omega (arith, length-append u (m ∷ []), e)))))

pub last_push : (u : List (List ℕ)) (m : List ℕ) → last_name (u ++ m ∷ []) ≡ m
last_push u m =
    ap (λ (k : ℕ). slice_index_or (u ++ m ∷ []) k []) (let e : length (u ++ m ∷ []) - 1 ≡ length u = omega (arith, length-append u (m ∷ [])) in e) ∙ behind u m
  where
    behind : (u : List (List ℕ)) (m : List ℕ) → slice_index_or (u ++ m ∷ []) (length u) [] ≡ m
    behind [] m = refl
    behind (x ∷ u) m = behind u m

pub all_last : {X : Type 0} (P : X → Type 0) (xs : List X) (x : X) → All P (xs ++ x ∷ []) → P x
all_last P [] x h = All-head P x [] h
all_last P (y ∷ ys) x h = all_last P ys x (All-tail P y (ys ++ x ∷ []) h)

pub or_left : {X : Type 0} (a b : Option X) → option_or a b ≡ None → a ≡ None
or_left None b h = refl
or_left (Some x) b h = absurd (cc)

-- one row more in front: it is listed or not (s), it is a key or not (k), and it has the name or not (w)
step : (key : List ℕ) (s k w : Bool) (r : Row) (keys dirs : List Row) (o : Option Row) → pointwise nat_eq key (folded (last_name r.path)) ≡ w
    → child_in key (map (λ (x : Row). entry_of (child_of x)) keys) (map (λ (x : Row). entry_of (child_of x)) dirs) ≡ option_map child_of o
    → (s && w ≡ true → o ≡ None)
    → child_in key (map (λ (x : Row). entry_of (child_of x)) (cond (k && s) (r ∷ keys) keys)) (map (λ (x : Row). entry_of (child_of x)) (cond (not k && s) (r ∷ dirs) dirs))
    ≡ option_map child_of (cond (s && w) (Some r) o)
step key false true w r keys dirs o e ih free = ih
step key false false w r keys dirs o e ih free = ih
step key true true true r keys dirs o e ih free =
    let none : lookup (pointwise nat_eq key) (map (λ (x : Row). entry_of (child_of x)) dirs) ≡ None =
    or_left (lookup (pointwise nat_eq key) (map (λ (x : Row). entry_of (child_of x)) dirs)) (lookup (pointwise nat_eq key) (map (λ (x : Row). entry_of (child_of x)) keys))
    (ih ∙ ap (option_map child_of) (free refl)) in
    ap (λ (t : Bool). option_or (lookup (pointwise nat_eq key) (map (λ (x : Row). entry_of (child_of x)) dirs)) (cond t (Some (child_of r)) (lookup (pointwise nat_eq key) (map (λ (x : Row). entry_of (child_of x)) keys)))) e
    ∙ ap (λ (d : Option Child). option_or d (Some (child_of r))) none
step key true true false r keys dirs o e ih free =
    ap (λ (t : Bool). option_or (lookup (pointwise nat_eq key) (map (λ (x : Row). entry_of (child_of x)) dirs)) (cond t (Some (child_of r)) (lookup (pointwise nat_eq key) (map (λ (x : Row). entry_of (child_of x)) keys)))) e
    ∙ ih
step key true false true r keys dirs o e ih free =
    ap (λ (t : Bool). option_or (cond t (Some (child_of r)) (lookup (pointwise nat_eq key) (map (λ (x : Row). entry_of (child_of x)) dirs))) (lookup (pointwise nat_eq key) (map (λ (x : Row). entry_of (child_of x)) keys))) e
step key true false false r keys dirs o e ih free =
    ap (λ (t : Bool). option_or (cond t (Some (child_of r)) (lookup (pointwise nat_eq key) (map (λ (x : Row). entry_of (child_of x)) dirs))) (lookup (pointwise nat_eq key) (map (λ (x : Row). entry_of (child_of x)) keys))) e
    ∙ ih

pub none_row : (p : List (List ℕ)) (rows : List Row) → NoneAt p rows → row_at rows p ≡ None
unfolding NoneAt
none_row p [] h = refl
none_row p (r ∷ rs) h = ap (λ (t : Bool). cond t (Some r) (row_at rs p)) h.0 ∙ none_row p rs h.1

-- what stands under a name in a directory
pub child_found : (links : Bool) (rows : List Row) (p : List (List ℕ)) (n : List ℕ) → HaveLasts rows → All (IsRow links) rows → AreApart rows → IsName n
    → child_in (folded n) (entries_in true rows p) (entries_in false rows p) ≡ option_map child_of (row_at rows (p ++ n ∷ []))
child_found links [] p n h are apart name = refl
child_found links (r ∷ rs) p n h are apart name =
    let last = h.0 in
    let named : All IsName (last.parent ++ last.name ∷ []) = subst (λ (q : List (List ℕ)). All IsName q) last.whole (All-head (IsRow links) r rs are).path.names in
    let is_name : IsName last.name = all_last IsName last.parent last.name named in
    let last_is : last_name r.path ≡ last.name = ap last_name last.whole ∙ last_push last.parent last.name in
    let w : pointwise nat_eq (folded n) (folded (last_name r.path)) ≡ same_name last.name n =
    ap (λ (m : List ℕ). pointwise nat_eq (folded n) (folded m)) last_is ∙ (folded_same n last.name name is_name ∙ name_swap n last.name) in
    let at : same_path r.path (p ++ n ∷ []) ≡ is_child p r.path && same_name last.name n =
    ap (λ (q : List (List ℕ)). same_path q (p ++ n ∷ [])) last.whole
    ∙ (at_child p last.parent last.name n ∙ ap (λ (q : List (List ℕ)). is_child p q && same_name last.name n) (sym last.whole)) in
    step (folded n) (is_child p r.path) (is_key r) (same_name last.name n) r (filter (is_listed true p) rs) (filter (is_listed false p) rs) (row_at rs (p ++ n ∷ [])) w
    (child_found links rs p n h.1 (All-tail (IsRow links) r rs are) apart.1 name)
    (λ e. none_row (p ++ n ∷ []) rs (none_same r.path (p ++ n ∷ []) rs (at ∙ e) apart.0))
    ∙ ap (λ (t : Bool). option_map child_of (cond t (Some r) (row_at rs (p ++ n ∷ [])))) (sym at)
