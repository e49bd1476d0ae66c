-- A link is written: its text below, and its number and target beside.
use Rattle.std.proofs.Common.{◌≡◌, ◌≢◌, ℕ, ◌+◌, ◌<◌, ◌≤◌, Bool, true, false, cond, eqb, List, [], ◌∷◌, ◌++◌, length, map, Option, Some, None, Ok, inl, inr, refl, sym, ap, ◌∙◌, subst, arith, append_assoc}
use Rattle.std.specs.Prelude.{All, IfSome, IsTrue}
use Rattle.std.specs.Option.{option_or, option_map, is_some}
use Rattle.std.proofs.lemmas.Bool.Decides.{eqb_tells}
use Rattle.std.proofs.lemmas.List.Elements.{All-nil, All-cons, All-head, All-tail, All-push, All-weaker}
use Rattle.daq_types.specs.declared.types.Tid.{Tid}
use Rattle.daq_types.specs.declared.types.Tid.TheVariants as tid
use Rattle.odb_value.specs.Paths.{IsPath, same_path}
use Rattle.odb_value.specs.Values.{HeldValue, IsValue}
use Rattle.odb_value.specs.LinkValues.{IsLink, IsValueOrLink}
use Rattle.odb_value.proofs.LinksKept.{value_of_kept}
use Rattle.odb_tree.specs.declared.rows.Row.{Row}
use Rattle.odb_tree.specs.declared.notes.Watch.{Watch}
use Rattle.odb_tree.specs.declared.refusals.OdbRefusal.{OdbRefusal}
use Rattle.odb_tree.specs.declared.refusals.OdbRefusal.TheVariants.{NotValue}
use Rattle.odb_value.specs.Items.{is_kept}
use Rattle.odb_tree.specs.Rows.{Rows, row_at, change_row, change_at}
use Rattle.odb_tree.specs.Limits.{limit_fault}
use Rattle.odb_tree.specs.Lookups.{parent_of, obstacle_to_new}
use Rattle.odb_tree.specs.Making.{Way, way_to, new_row, new_number, created}
use Rattle.odb_tree.specs.Links.{target_of_items, target_of_value}
use Rattle.odb_tree.specs.Trees.{AreRising, IsTree}
use Rattle.odb_tree.specs.Databases.{IsDatabase, IsHeld}
use Rattle.odb_tree.specs.Calls.{reply_or, value_fault, directory_fault, link_fault, type_fault, replace_fault, there_fault, own_fault, number_at, after_set_all_at, after_set_all, put_fault, put_reply, after_put}
use Rattle.odb_tree.specs.Noting.{all_noted, changes_of_put}
use Rattle.odb_tree.proofs.EachRow.{row_has}
use Rattle.odb_tree.proofs.Sound.{database_put}
use Rattle.odb_links.specs.declared.links.Link.{Link}
use Rattle.odb_links.specs.Seen.{link_numbered, is_linked, typed, as_seen, seen, LinksRise, HoldsLinkText, IsRight, AreLinks, with_link}
use Rattle.odb_links.specs.Writing.{IsForLinks}
use Rattle.odb_links.proofs.Retyped.{row_mapped, obstacle_mapped, limit_mapped, change_mapped}
use Rattle.odb_links.proofs.Above.{found_or}
use Rattle.odb_links.proofs.LinkPlaces.{test_true, test_false}
use Rattle.odb_links.proofs.Marked.{test_same, seen_retypes, seen_linked, seen_same, unlinked_above, right_at, way_seen, created_seen}
use Rattle.odb_links.proofs.Replies.{right_created}
use Rattle.odb_links.proofs.SeenCalls.{notes_seen}

-- another target

pub with_same : (links : List Link) (n : ℕ) (target : List (List ℕ)) → link_numbered (with_link links n target) n ≡ Some (record { row = n; target = target })
with_same [] n target = ap (λ (t : Bool). cond t (Some (let l : Link = record { row = n; target = target } in l)) None) (test_true n n refl)
with_same (x ∷ xs) n target = at (eqb x.row n) refl (with_same xs n target)
  where
    at : (t : Bool) → eqb x.row n ≡ t → link_numbered (with_link xs n target) n ≡ Some (record { row = n; target = target })
        → link_numbered (cond t (record { row = n; target = target } ∷ xs) (x ∷ with_link xs n target)) n ≡ Some (record { row = n; target = target })
    at true e ih = ap (λ (t : Bool). cond t (Some (let l : Link = record { row = n; target = target } in l)) (link_numbered xs n)) (test_true n n refl)
    at false e ih = ap (λ (t : Bool). cond t (Some x) (link_numbered (with_link xs n target) n)) e ∙ ih

pub with_other : (links : List Link) (n m : ℕ) (target : List (List ℕ)) → m ≢ n → link_numbered (with_link links n target) m ≡ link_numbered links m
with_other [] n m target other = ap (λ (t : Bool). cond t (Some (let l : Link = record { row = n; target = target } in l)) None) (test_false n m (λ e. other (sym e)))
with_other (x ∷ xs) n m target other = at (eqb x.row n) refl (with_other xs n m target other)
  where
    at : (t : Bool) → eqb x.row n ≡ t → link_numbered (with_link xs n target) m ≡ link_numbered xs m
        → link_numbered (cond t (record { row = n; target = target } ∷ xs) (x ∷ with_link xs n target)) m ≡ cond (eqb x.row m) (Some x) (link_numbered xs m)
    at true e ih =
        ap (λ (t : Bool). cond t (Some (let l : Link = record { row = n; target = target } in l)) (link_numbered xs m)) (test_false n m (λ k. other (sym k)))
        ∙ sym (ap (λ (t : Bool). cond t (Some x) (link_numbered xs m)) (test_false x.row m (λ k. other (sym k ∙ test_same x.row n e))))
    at false e ih = ap (λ (o : Option Link). cond (eqb x.row m) (Some x) o) ih

-- where the number is a link's already, the same rows are links
same_linked : (links : List Link) (n m : ℕ) (target : List (List ℕ)) → is_linked links n ≡ true → is_linked (with_link links n target) m ≡ is_linked links m
same_linked links n m target linked = elim (eqb_tells m n) [
  | inl w ↦ ap (is_linked (with_link links n target)) w.1 ∙ (ap (λ (o : Option Link). is_some o) (with_same links n target) ∙ (sym linked ∙ ap (is_linked links) (sym w.1)))
  | inr w ↦ ap (λ (o : Option Link). is_some o) (with_other links n m target (λ e. not_both (test_true m n e) w.0))
]
  where
    not_both : {t : Bool} → t ≡ true → t ≡ false → ⊥
    not_both h k = cc

order_replaced : (from : ℕ) (links : List Link) (next n : ℕ) (target : List (List ℕ)) → LinksRise from links next → is_linked links n ≡ true → LinksRise from (with_link links n target) next
order_replaced from [] next n target h linked = absurd (cc)
order_replaced from (x ∷ xs) next n target h linked = at (eqb x.row n) refl linked (λ k. order_replaced (x.row + 1) xs next n target h.1 k)
  where
    at : (t : Bool) → eqb x.row n ≡ t → is_some (cond t (Some x) (link_numbered xs n)) ≡ true → (is_linked xs n ≡ true → LinksRise (x.row + 1) (with_link xs n target) next)
        → LinksRise from (cond t (record { row = n; target = target } ∷ xs) (x ∷ with_link xs n target)) next
    at true e k ih = let same : x.row ≡ n = test_same x.row n e in (subst (λ (m : ℕ). from ≤ m) same h.0, subst (λ (m : ℕ). LinksRise (m + 1) xs next) same h.1)
    at false e k ih = (h.0, ih k)

order_pushed : (from : ℕ) (links : List Link) (next n more : ℕ) (target : List (List ℕ)) → LinksRise from links next → next ≤ n → n < more → LinksRise from (with_link links n target) more
order_pushed from [] next n more target h l k = (omega (arith, h, l), omega (arith, k))
order_pushed from (x ∷ xs) next n more target h l k =
    let rest = unlinked_above (x.row + 1) xs next n h.1 l in
    subst (λ (t : Bool). LinksRise from (cond t (record { row = n; target = target } ∷ xs) (x ∷ with_link xs n target)) more) (sym (test_false x.row n (λ e. absurd (omega (arith, e, rest.1, l)))))
    (h.0, order_pushed (x.row + 1) xs next n more target h.1 l k)

-- numbers of rows

pub rising_below : (from : ℕ) (rows : List Row) (next : ℕ) → AreRising from rows next → All (λ (r : Row). r.number < next) rows × (from ≤ next)
rising_below from [] next h = (All-nil (λ (r : Row). r.number < next), h)
rising_below from (x ∷ xs) next h =
    let rest = rising_below (x.number + 1) xs next h.1 in (All-cons (λ (r : Row). r.number < next) x xs (omega (arith, rest.1)) rest.0, omega (arith, rest.1, h.0))

rising_before : (from : ℕ) (xs : List Row) (x : Row) (next : ℕ) → AreRising from (xs ++ x ∷ []) next → All (λ (r : Row). r.number < x.number) xs × (from ≤ x.number)
rising_before from [] x next h = (All-nil (λ (r : Row). r.number < x.number), h.0)
rising_before from (y ∷ ys) x next h =
    let rest = rising_before (y.number + 1) ys x next h.1 in (All-cons (λ (r : Row). r.number < x.number) y ys (omega (arith, rest.1)) rest.0, omega (arith, rest.1, h.0))

rising_from : (from : ℕ) (rows : List Row) (next : ℕ) (p : List (List ℕ)) (r : Row) → AreRising from rows next → row_at rows p ≡ Some r → from ≤ r.number
rising_from from [] next p r h e = absurd (cc)
rising_from from (x ∷ xs) next p r h e =
    elim (found_or (same_path x.path p) x r (row_at xs p) e) [
      | inl w ↦ subst (λ (y : Row). from ≤ y.number) w.1 h.0
      | inr w ↦ let rest = rising_from (x.number + 1) xs next p r h.1 w.1 in omega (arith, rest, h.0)
    ]

rising_lower : (from low : ℕ) (rows : List Row) (next : ℕ) → low ≤ from → AreRising from rows next → All (λ (r : Row). low ≤ r.number) rows
rising_lower from low [] next l h = All-nil (λ (r : Row). low ≤ r.number)
rising_lower from low (x ∷ xs) next l h = All-cons (λ (r : Row). low ≤ r.number) x xs (omega (arith, l, h.0)) (rising_lower (x.number + 1) low xs next (omega (arith, l, h.0)) h.1)

-- rows with other numbers are right as before
right_other : (links : List Link) (n : ℕ) (target : List (List ℕ)) (r : Row) → r.number ≢ n → IsRight links r → IsRight (with_link links n target) r
right_other links n target r other right = subst (λ (o : Option Link). IfSome o (λ (l : Link). HoldsLinkText l.target r)) (sym (with_other links n r.number target other)) right

right_here : (links : List Link) (n : ℕ) (target : List (List ℕ)) (r : Row) → r.number ≡ n → HoldsLinkText target r → IsRight (with_link links n target) r
right_here links n target r is text =
    subst (λ (o : Option Link). IfSome o (λ (l : Link). HoldsLinkText l.target r)) (sym (ap (link_numbered (with_link links n target)) is ∙ with_same links n target)) text

-- what is written: a text in the database below, which is a link here
pub record IsText (v : HeldValue) (target : List (List ℕ)) : Type 0 where
  pub of_type : v.tid ≡ tid.Text
  pub link : IsLink (typed tid.Link v)
  pub goes : target_of_items v.items ≡ target

has_text : (v : HeldValue) (target : List (List ℕ)) (r : Row) → IsText v target → r.value ≡ Some v → HoldsLinkText target r
has_text v target r h e = record { held = v; value = e; of_type = h.of_type; link = h.link; goes = ap target_of_value e ∙ h.goes }

-- the rows

written_new : (links : List Link) (s : Rows) (p : List (List ℕ)) (v : HeldValue) (target : List (List ℕ)) → AreLinks links s
    → created (seen links s) p (Some (typed tid.Link v)) ≡ seen (with_link links (new_number s p) target) (created s p (Some v))
written_new links s p v target h =
    let n : ℕ = new_number s p in
    let others : List Link = with_link links n target in
    created_seen links others s p (Some (typed tid.Link v)) (Some v)
    (seen_same links others s.rows
    (All-weaker (λ (r : Row). r.number < s.next) (λ (r : Row). is_linked others r.number ≡ is_linked links r.number)
    (λ r l. ap (λ (o : Option Link). is_some o) (with_other links n r.number target (λ e. absurd (omega (arith, l, e))))) s.rows (rising_below 1 s.rows s.next h.database.tree.numbered).0))
    (seen_linked others (new_row s p (Some v)) (ap (λ (o : Option Link). is_some o) (with_same links n target)))

written_over : (links : List Link) (s : Rows) (p : List (List ℕ)) (v : HeldValue) (target : List (List ℕ)) (r : Row) → AreLinks links s → IsForLinks links s p → row_at s.rows p ≡ Some r
    → change_at (seen links s).rows p (λ _. typed tid.Link v) ≡ map (as_seen (with_link links r.number target)) (change_at s.rows p (λ _. v))
written_over links s p v target r h free there =
    let others : List Link = with_link links r.number target in
    change_mapped (as_seen links) (seen_retypes links) (λ _. typed tid.Link v) (λ _. v) s.rows p
    (λ x e. ap (change_row (λ _. typed tid.Link v)) (seen_linked links x (free x e)) ∙ (twice x.number x.path x.value ∙ sym (seen_linked links (change_row (λ _. v) x) (free x e))))
    ∙ sym (seen_same links others (change_at s.rows p (λ _. v)) (all_same (change_at s.rows p (λ _. v))))
  where
    twice : (number : ℕ) (path : List (List ℕ)) (o : Option HeldValue)
        → (let a : Row = record { number = number; path = path; value = option_map (λ _. typed tid.Link v) (option_map (typed tid.Link) o) } in
        let b : Row = record { number = number; path = path; value = option_map (typed tid.Link) (option_map (λ _. v) o) } in a ≡ b)
    twice number path None = refl
    twice number path (Some w) = refl

    all_same : (rows : List Row) → All (λ (x : Row). is_linked (with_link links r.number target) x.number ≡ is_linked links x.number) rows
    all_same [] = All-nil (λ (x : Row). is_linked (with_link links r.number target) x.number ≡ is_linked links x.number)
    all_same (x ∷ xs) =
        All-cons (λ (x : Row). is_linked (with_link links r.number target) x.number ≡ is_linked links x.number) x xs (same_linked links r.number x.number target (free r there)) (all_same xs)

pub written : (links : List Link) (s : Rows) (p : List (List ℕ)) (v : HeldValue) (target : List (List ℕ)) → AreLinks links s → IsForLinks links s p
    → after_set_all (seen links s) p (typed tid.Link v) ≡ seen (with_link links (number_at s p (row_at s.rows p)) target) (after_set_all s p v)
written links s p v target h free =
    ap (after_set_all_at (seen links s) p (typed tid.Link v)) (row_mapped (as_seen links) (seen_retypes links) s.rows p) ∙ at (row_at s.rows p) refl
  where
    at : (o : Option Row) → row_at s.rows p ≡ o → after_set_all_at (seen links s) p (typed tid.Link v) (option_map (as_seen links) o) ≡ seen (with_link links (number_at s p o) target) (after_set_all_at s p v o)
    at None e = written_new links s p v target h
    at (Some r) e = ap (λ (l : List Row). (let a : Rows = record { rows = l; next = s.next; links = true } in a)) (written_over links s p v target r h free e)

-- the reply

dir_mapped : (links : List Link) (o : Option Row) → directory_fault (option_map (as_seen links) o) ≡ directory_fault o
dir_mapped links None = refl
dir_mapped links (Some r) = ap (λ (b : Bool). cond b None (Some NotValue)) ((seen_retypes links).kind r)

value_mapped : (links : List Link) (s : Rows) (p : List (List ℕ)) → value_fault (seen links s).rows p ≡ value_fault s.rows p
value_mapped links s [] = refl
value_mapped links s (name ∷ names) = ap directory_fault (row_mapped (as_seen links) (seen_retypes links) s.rows (name ∷ names)) ∙ dir_mapped links (row_at s.rows (name ∷ names))

number_mapped : (links : List Link) (s : Rows) (p : List (List ℕ)) (o : Option Row) → number_at (seen links s) p (option_map (as_seen links) o) ≡ number_at s p o
number_mapped links s p None = ap (λ (w : Way). s.next + length w.dirs) (way_seen links s p)
number_mapped links s p (Some r) = (seen_retypes links).number r

link_number : (links : List Link) (s : Rows) (p : List (List ℕ)) → number_at (seen links s) p (row_at (seen links s).rows p) ≡ number_at s p (row_at s.rows p)
link_number links s p = ap (number_at (seen links s) p) (row_mapped (as_seen links) (seen_retypes links) s.rows p) ∙ number_mapped links s p (row_at s.rows p)

-- a link there has the text below
linked_text : (links : List Link) (s : Rows) (p : List (List ℕ)) (r : Row) → AreLinks links s → IsForLinks links s p → row_at s.rows p ≡ Some r → (v : HeldValue) × (r.value ≡ Some v) × (v.tid ≡ tid.Text)
linked_text links s p r h free e = at (link_numbered links r.number) refl (free r e)
  where
    at : (o : Option Link) → link_numbered links r.number ≡ o → is_some o ≡ true → (v : HeldValue) × (r.value ≡ Some v) × (v.tid ≡ tid.Text)
    at None k t = absurd (cc)
    at (Some l) k t = let text = right_at links r l (row_has (IsRight links) s.rows p r h.right e) k in (text.held, text.value, text.of_type)

there_text : (s : Rows) (p : List (List ℕ)) (o : Option Row) → ((r : Row) → o ≡ Some r → (v : HeldValue) × (r.value ≡ Some v) × (v.tid ≡ tid.Text)) → there_fault tid.Text o ≡ None
there_text s p None h = refl
there_text s p (Some r) h =
    let text = h r refl in ap (replace_fault tid.Text) text.1 ∙ ap (λ (t : Tid). type_fault t tid.Text) text.2

there_link : (links : List Link) (s : Rows) (p : List (List ℕ)) (o : Option Row) → ((r : Row) → o ≡ Some r → (v : HeldValue) × (r.value ≡ Some v) × (v.tid ≡ tid.Text)) → ((r : Row) → o ≡ Some r → is_linked links r.number ≡ true)
    → there_fault tid.Link (option_map (as_seen links) o) ≡ None
there_link links s p None h k = refl
there_link links s p (Some r) h k =
    let text = h r refl in ap (λ (x : Row). there_fault tid.Link (Some x)) (seen_linked links r (k r refl)) ∙ ap (λ (o : Option HeldValue). replace_fault tid.Link (option_map (typed tid.Link) o)) text.1

pub reply_written : (links : List Link) (s : Rows) (p : List (List ℕ)) (v : HeldValue) (target : List (List ℕ)) → AreLinks links s → IsForLinks links s p → v.tid ≡ tid.Text → put_reply (seen links s) p (typed tid.Link v) ≡ put_reply s p v
reply_written links s p v target h free of_type =
    let others : List Link = with_link links (number_at s p (row_at s.rows p)) target in
    let obstacle : obstacle_to_new (seen links s).rows p ≡ obstacle_to_new s.rows p = obstacle_mapped (as_seen links) (seen_retypes links) None s.rows [] (parent_of p) in
    let here : there_fault tid.Link (row_at (seen links s).rows p) ≡ None =
    ap (there_fault tid.Link) (row_mapped (as_seen links) (seen_retypes links) s.rows p) ∙ there_link links s p (row_at s.rows p) (λ r e. linked_text links s p r h free e) free in
    let below : there_fault v.tid (row_at s.rows p) ≡ None = ap (λ (t : Tid). there_fault t (row_at s.rows p)) of_type ∙ there_text s p (row_at s.rows p) (λ r e. linked_text links s p r h free e) in
    let kept : link_fault s.links v.tid ≡ None = ap (link_fault s.links) of_type ∙ text_kept s.links in
    let after = written links s p v target h free in
    let limit : limit_fault (own_fault v) (after_set_all (seen links s) p (typed tid.Link v)) ≡ limit_fault (own_fault v) (after_set_all s p v) =
    limit_mapped (as_seen others) (seen_retypes others) (own_fault v) (after_set_all (seen links s) p (typed tid.Link v)) (after_set_all s p v) (ap (λ (t : Rows). t.rows) after) (ap (λ (t : Rows). t.next) after) in
    written_as (obstacle_to_new (seen links s).rows p) (obstacle_to_new s.rows p) (value_fault (seen links s).rows p) (value_fault s.rows p) (there_fault tid.Link (row_at (seen links s).rows p)) (there_fault v.tid (row_at s.rows p))
    (link_fault s.links v.tid) _ _ _ _ obstacle (value_mapped links s p) here below kept limit (link_number links s p)
  where
    text_kept : (b : Bool) → link_fault b tid.Text ≡ None
    text_kept true = refl
    text_kept false = refl

    written_as : (a b c d there below kept over under : Option OdbRefusal) (n m : ℕ) → a ≡ b → c ≡ d → there ≡ None → below ≡ None → kept ≡ None → over ≡ under → n ≡ m
        → reply_or (option_or a (option_or c (option_or None (option_or there over)))) n ≡ reply_or (option_or b (option_or d (option_or kept (option_or below under)))) m
    written_as a b c d there below kept over under n m ea ec et eb ek eo en = rw (ea, ec, et, eb, ek, eo, en) refl

-- the links

after_links : (s : Rows) (p : List (List ℕ)) (v : HeldValue) (o : Option Row) → (after_set_all_at s p v o).links ≡ s.links
after_links s p v None = refl
after_links s p v (Some r) = refl

text_value : (v : HeldValue) → v.tid ≡ tid.Text → IsValueOrLink v → IsValue v
text_value v e h = value_of_kept v (subst (λ (t : Tid). IsTrue (is_kept t)) (sym e) refl) h

both_right : (links : List Link) (n : ℕ) (target : List (List ℕ)) (rows : List Row) → All (IsRight links) rows → All (λ (r : Row). r.number < n) rows → All (IsRight (with_link links n target)) rows
both_right links n target [] h l = All-nil (IsRight (with_link links n target))
both_right links n target (x ∷ xs) h l =
    All-cons (IsRight (with_link links n target)) x xs
    (right_other links n target x (λ e. absurd (omega (arith, e, All-head (λ (r : Row). r.number < n) x xs l))) (All-head (IsRight links) x xs h))
    (both_right links n target xs (All-tail (IsRight links) x xs h) (All-tail (λ (r : Row). r.number < n) x xs l))

above_right : (links : List Link) (n : ℕ) (target : List (List ℕ)) (rows : List Row) → All (IsRight links) rows → All (λ (r : Row). n + 1 ≤ r.number) rows → All (IsRight (with_link links n target)) rows
above_right links n target [] h l = All-nil (IsRight (with_link links n target))
above_right links n target (x ∷ xs) h l =
    All-cons (IsRight (with_link links n target)) x xs
    (right_other links n target x (λ e. absurd (omega (arith, e, All-head (λ (r : Row). n + 1 ≤ r.number) x xs l))) (All-head (IsRight links) x xs h))
    (above_right links n target xs (All-tail (IsRight links) x xs h) (All-tail (λ (r : Row). n + 1 ≤ r.number) x xs l))

all_front : (P : Row → Type 0) (xs ys : List Row) → All P (xs ++ ys) → All P xs
all_front P [] ys h = All-nil P
all_front P (x ∷ xs) ys h = All-cons P x xs (All-head P x (xs ++ ys) h) (all_front P xs ys (All-tail P x (xs ++ ys) h))

right_new : (links : List Link) (s : Rows) (p : List (List ℕ)) (v : HeldValue) (target : List (List ℕ)) → AreLinks links s → IsText v target → IsTree (created s p (Some v))
    → All (IsRight (with_link links (new_number s p) target)) (created s p (Some v)).rows
right_new links s p v target h text tree =
    let n : ℕ = new_number s p in
    let front : List Row = s.rows ++ (way_to s p).dirs in
    let new : Row = new_row s p (Some v) in
    let split : s.rows ++ ((way_to s p).dirs ++ new ∷ []) ≡ front ++ new ∷ [] = sym (append_assoc s.rows (way_to s p).dirs (new ∷ [])) in
    let right : All (IsRight links) (front ++ new ∷ []) = subst (λ (l : List Row). All (IsRight links) l) split (right_created links s p (Some v) h.order h.right).1 in
    let rising : AreRising 1 (front ++ new ∷ []) (n + 1) = subst (λ (l : List Row). AreRising 1 l (n + 1)) split tree.numbered in
    subst (λ (l : List Row). All (IsRight (with_link links n target)) l) (sym split)
    (All-push (IsRight (with_link links n target)) front new
    (both_right links n target front (all_front (IsRight links) front (new ∷ []) right) (rising_before 1 front new (n + 1) rising).0)
    (right_here links n target new refl (has_text v target new text refl)))

right_replaced : (links : List Link) (from : ℕ) (rows : List Row) (next : ℕ) (p : List (List ℕ)) (r : Row) (v w : HeldValue) (target : List (List ℕ)) → AreRising from rows next → row_at rows p ≡ Some r → r.value ≡ Some w → IsText v target
    → All (IsRight links) rows → All (IsRight (with_link links r.number target)) (change_at rows p (λ _. v))
right_replaced links from [] next p r v w target h e held text right = absurd (cc)
right_replaced links from (x ∷ xs) next p r v w target h e held text right =
    at (same_path x.path p) refl e (λ k. right_replaced links (x.number + 1) xs next p r v w target h.1 k held text (All-tail (IsRight links) x xs right))
  where
    some_value : (o : Option HeldValue) → o ≡ Some w → option_map (λ (_ : HeldValue). v) o ≡ Some v
    some_value None k = absurd (cc)
    some_value (Some u) k = refl

    at : (t : Bool) → same_path x.path p ≡ t → cond t (Some x) (row_at xs p) ≡ Some r → (row_at xs p ≡ Some r → All (IsRight (with_link links r.number target)) (change_at xs p (λ _. v)))
        → All (IsRight (with_link links r.number target)) (cond t (change_row (λ _. v) x ∷ xs) (x ∷ change_at xs p (λ _. v)))
    at true k there ih =
        let same : x ≡ r = cc in
        let number : x.number ≡ r.number = ap (λ (y : Row). y.number) same in
        All-cons (IsRight (with_link links r.number target)) (change_row (λ _. v) x) xs
        (right_here links r.number target (change_row (λ _. v) x) number (has_text v target (change_row (λ _. v) x) text (some_value x.value (ap (λ (y : Row). y.value) same ∙ held))))
        (above_right links r.number target xs (All-tail (IsRight links) x xs right)
        (subst (λ (m : ℕ). All (λ (y : Row). m + 1 ≤ y.number) xs) number (rising_lower (x.number + 1) (x.number + 1) xs next (omega arith) h.1)))
    at false k there ih =
        let later = rising_from (x.number + 1) xs next p r h.1 there in
        All-cons (IsRight (with_link links r.number target)) x (change_at xs p (λ _. v))
        (right_other links r.number target x (λ e. absurd (omega (arith, e, later))) (All-head (IsRight links) x xs right)) (ih there)

pub links_written : (links : List Link) (s : Rows) (p : List (List ℕ)) (v : HeldValue) (target : List (List ℕ)) (n : ℕ) → AreLinks links s → IsForLinks links s p → IsText v target → IsPath p → IsValueOrLink v
    → put_reply s p v ≡ Ok n → AreLinks (with_link links (number_at s p (row_at s.rows p)) target) (after_set_all s p v)
links_written links s p v target n h free text path held reply =
    at (row_at s.rows p) refl
    (database_put s p v (Ok n) h.database path (subst (λ (b : Bool). IsHeld b v) (sym h.plain) (text_value v text.of_type held)) reply)
  where
    at : (o : Option Row) → row_at s.rows p ≡ o → IsDatabase (after_set_all_at s p v (row_at s.rows p)) → AreLinks (with_link links (number_at s p o) target) (after_set_all_at s p v (row_at s.rows p))
    at None e database =
        let here : IsDatabase (created s p (Some v)) = subst (λ (o : Option Row). IsDatabase (after_set_all_at s p v o)) e database in
        subst (λ (o : Option Row). AreLinks (with_link links (new_number s p) target) (after_set_all_at s p v o)) (sym e) (record {
          plain = h.plain;
          database = here;
          order = order_pushed 1 links s.next (new_number s p) (new_number s p + 1) target h.order (omega arith) (omega arith);
          right = right_new links s p v target h text here.tree;
        })
    at (Some r) e database =
        let old = linked_text links s p r h free e in
        subst (λ (o : Option Row). AreLinks (with_link links r.number target) (after_set_all_at s p v o)) (sym e) (record {
          plain = h.plain;
          database = subst (λ (o : Option Row). IsDatabase (after_set_all_at s p v o)) e database;
          order = order_replaced 1 links s.next r.number target h.order (free r e);
          right = right_replaced links 1 s.rows s.next p r v old.0 target h.database.tree.numbered e old.1 text h.right;
        })

-- all of it, where the database below has answered this number
pub record IsKeptLink (links others : List Link) (s t : Rows) (p : List (List ℕ)) (v : HeldValue) (row : ℕ) : Type 0 where
  pub links_kept : AreLinks others t
  pub after : seen others t ≡ after_set_all (seen links s) p (typed tid.Link v)
  pub notes : (ws : List (Option Watch)) → all_noted (changes_of_put s p v (Ok row)) ws ≡ all_noted (changes_of_put (seen links s) p (typed tid.Link v) (Ok row)) ws

number_told : (o : Option OdbRefusal) (number row : ℕ) → reply_or o number ≡ Ok row → number ≡ row
number_told None number row e = cc
number_told (Some why) number row e = absurd (cc)

pub link_kept : (links given others : List Link) (s t : Rows) (p : List (List ℕ)) (v : HeldValue) (target : List (List ℕ)) (row : ℕ) → AreLinks links s → IsForLinks links s p → IsText v target → IsPath p → IsValueOrLink v
    → put_reply s p v ≡ Ok row → given ≡ links → others ≡ with_link given row target → t ≡ after_put s p v (Ok row) → IsKeptLink links others s t p v row
link_kept links given others s t p v target row h free text path held reply same kept left =
    let number : number_at s p (row_at s.rows p) ≡ row = number_told (put_fault s p v) (number_at s p (row_at s.rows p)) row reply in
    let are : with_link links (number_at s p (row_at s.rows p)) target ≡ others = ap (λ (n : ℕ). with_link links n target) number ∙ (ap (λ (l : List Link). with_link l row target) (sym same) ∙ sym kept) in
    let after = written links s p v target h free in record {
      links_kept = subst (λ (l : List Link). AreLinks l t) are
          (subst (AreLinks (with_link links (number_at s p (row_at s.rows p)) target)) (sym left) (links_written links s p v target row h free text path held reply));
      after = ap (seen others) left ∙ (ap (λ (l : List Link). seen l (after_set_all s p v)) (sym are) ∙ sym after);
      notes = λ ws. notes_seen (with_link links (number_at s p (row_at s.rows p)) target) (after_set_all (seen links s) p (typed tid.Link v)) (after_set_all s p v) after (Ok row) 0 (length v.items) ws;
    }
