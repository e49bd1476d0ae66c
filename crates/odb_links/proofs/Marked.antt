-- The links beside the rows: which rows they mark, and what stays when the rows change.
use Rattle.std.proofs.Common.{◌≡◌, ℕ, ◌+◌, ◌<◌, ◌≤◌, Bool, true, false, cond, eqb, List, [], ◌∷◌, ◌++◌, length, map, Option, Some, None, refl, sym, ap, ◌∙◌, subst, arith}
use Rattle.std.specs.Prelude.{All, IfSome}
use Rattle.std.specs.Option.{is_some, option_map}
use Rattle.std.proofs.lemmas.Bool.Decides.{nat_tests}
use Rattle.std.proofs.lemmas.List.{map-append}
use Rattle.std.proofs.lemmas.List.Elements.{All-nil, All-head, All-tail, All-push, All-weaker}
use Rattle.daq_types.specs.declared.types.Tid.TheVariants as tid
use Rattle.odb_value.specs.Values.{HeldValue}
use Rattle.odb_tree.specs.declared.rows.Row.{Row}
use Rattle.odb_tree.specs.Rows.{Rows, row_at, is_key, change_row, bytes_in, bytes_of_row}
use Rattle.odb_tree.specs.Making.{Way, further, go_on, way_to, no_way, last_of, new_row, new_number, created}
use Rattle.odb_tree.specs.Lookups.{parent_of}
use Rattle.odb_links.specs.declared.links.Link.{Link}
use Rattle.odb_links.specs.Seen.{link_numbered, is_linked, typed, as_seen, seen, LinksRise, HoldsLinkText, IsRight}
use Rattle.odb_links.proofs.Retyped.{Retypes, way_mapped}

-- rows as they are seen

retyped_number : (t : Bool) (r : Row) → (cond t (change_row (typed tid.Link) r) r).number ≡ r.number
retyped_number true r = refl
retyped_number false r = refl

retyped_path : (t : Bool) (r : Row) → (cond t (change_row (typed tid.Link) r) r).path ≡ r.path
retyped_path true r = refl
retyped_path false r = refl

typed_kind : (o : Option HeldValue) → is_some (option_map (typed tid.Link) o) ≡ is_some o
typed_kind None = refl
typed_kind (Some v) = refl

retyped_kind : (t : Bool) (r : Row) → is_key (cond t (change_row (typed tid.Link) r) r) ≡ is_key r
retyped_kind true r = typed_kind r.value
retyped_kind false r = refl

typed_bytes : (o : Option HeldValue) → bytes_in (option_map (typed tid.Link) o) ≡ bytes_in o
typed_bytes None = refl
typed_bytes (Some v) = refl

retyped_bytes : (t : Bool) (r : Row) → bytes_of_row (cond t (change_row (typed tid.Link) r) r) ≡ bytes_of_row r
retyped_bytes true r = typed_bytes r.value
retyped_bytes false r = refl

pub seen_retypes : (links : List Link) → Retypes (as_seen links)
seen_retypes links = record {
  number = λ r. retyped_number (is_linked links r.number) r;
  path = λ r. retyped_path (is_linked links r.number) r;
  kind = λ r. retyped_kind (is_linked links r.number) r;
  bytes = λ r. retyped_bytes (is_linked links r.number) r;
}

-- a row that is no link's is seen as it is, and so is a directory
pub seen_plain : (links : List Link) (r : Row) → is_linked links r.number ≡ false → as_seen links r ≡ r
seen_plain links r h = ap (λ (t : Bool). cond t (change_row (typed tid.Link) r) r) h

pub seen_linked : (links : List Link) (r : Row) → is_linked links r.number ≡ true → as_seen links r ≡ change_row (typed tid.Link) r
seen_linked links r h = ap (λ (t : Bool). cond t (change_row (typed tid.Link) r) r) h

no_value : (t : Bool) (number : ℕ) (path : List (List ℕ)) → (let r : Row = record { number = number; path = path; value = None } in cond t (change_row (typed tid.Link) r) r ≡ r)
no_value true number path = refl
no_value false number path = refl

-- the same rows are seen where the same of them are links
pub seen_same : (links others : List Link) (rows : List Row) → All (λ (r : Row). is_linked others r.number ≡ is_linked links r.number) rows → map (as_seen others) rows ≡ map (as_seen links) rows
seen_same links others [] h = refl
seen_same links others (r ∷ rs) h =
    ap (λ (t : Bool). cond t (change_row (typed tid.Link) r) r ∷ map (as_seen others) rs) (All-head (λ (x : Row). is_linked others x.number ≡ is_linked links x.number) r rs h)
    ∙ ap (λ (l : List Row). as_seen links r ∷ l) (seen_same links others rs (All-tail (λ (x : Row). is_linked others x.number ≡ is_linked links x.number) r rs h))

-- numbers of links

test_false : (a b : ℕ) → a < b → eqb a b ≡ false
test_false a b h = grind (arith, nat_tests, h)

test_above : (a b : ℕ) → b < a → eqb a b ≡ false
test_above a b h = grind (arith, nat_tests, h)

pub test_same : (a b : ℕ) → eqb a b ≡ true → a ≡ b
test_same a b h = grind (arith, nat_tests, h)

-- a number that no row has yet is no link's
pub unlinked_above : (from : ℕ) (links : List Link) (next n : ℕ) → LinksRise from links next → next ≤ n → (link_numbered links n ≡ None) × (from ≤ next)
unlinked_above from [] next n h l = (refl, h)
unlinked_above from (x ∷ xs) next n h l =
    let rest = unlinked_above (x.row + 1) xs next n h.1 l in
    (ap (λ (t : Bool). cond t (Some x) (link_numbered xs n)) (test_false x.row n (omega (arith, rest.1, l))) ∙ rest.0, omega (arith, h.0, rest.1))

pub unlinked_below : (from : ℕ) (links : List Link) (next n : ℕ) → LinksRise from links next → n < from → link_numbered links n ≡ None
unlinked_below from [] next n h l = refl
unlinked_below from (x ∷ xs) next n h l =
    ap (λ (t : Bool). cond t (Some x) (link_numbered xs n)) (test_above x.row n (omega (arith, h.0, l))) ∙ unlinked_below (x.row + 1) xs next n h.1 (omega (arith, h.0, l))

pub order_longer : (from : ℕ) (links : List Link) (next more : ℕ) → LinksRise from links next → next ≤ more → LinksRise from links more
order_longer from [] next more h l = omega (arith, h, l)
order_longer from (x ∷ xs) next more h l = (h.0, order_longer (x.row + 1) xs next more h.1 l)

pub not_linked : (links : List Link) (n : ℕ) → link_numbered links n ≡ None → is_linked links n ≡ false
not_linked links n h = ap (λ (o : Option Link). is_some o) h

pub no_link_at : (links : List Link) (n : ℕ) → is_linked links n ≡ false → link_numbered links n ≡ None
no_link_at links n h = of_test (link_numbered links n) h
  where
    of_test : (o : Option Link) → is_some o ≡ false → o ≡ None
    of_test None e = refl
    of_test (Some l) e = absurd (cc)

-- a row that is no link's is right
pub right_plain : (links : List Link) (r : Row) → link_numbered links r.number ≡ None → IsRight links r
right_plain links r h = subst (λ (o : Option Link). IfSome o (λ (l : Link). HoldsLinkText l.target r)) (sym h) tt

pub right_at : (links : List Link) (r : Row) (l : Link) → IsRight links r → link_numbered links r.number ≡ Some l → HoldsLinkText l.target r
right_at links r l h e = subst (λ (o : Option Link). IfSome o (λ (x : Link). HoldsLinkText x.target r)) e h

-- new rows

-- the directories made for a row are directories, with new numbers
record IsNewDir (from : ℕ) (r : Row) : Type 0 where
  number : from ≤ r.number
  value : r.value ≡ None

further_new : (from next : ℕ) (name : List ℕ) (way : Way) (o : Option Row) → from ≤ next → All (IsNewDir from) way.dirs → All (IsNewDir from) (further next name way o).dirs
further_new from next name way None l h =
    All-push (IsNewDir from) way.dirs (record { number = next + length way.dirs; path = way.path ++ name ∷ []; value = None }) h (record { number = omega (arith, l); value = refl })
further_new from next name way (Some r) l h = h

go_new : (from : ℕ) (rows : List Row) (next : ℕ) (reached names : List (List ℕ)) (way : Way) → from ≤ next → All (IsNewDir from) way.dirs → All (IsNewDir from) (go_on rows next reached names way).dirs
go_new from rows next reached [] way l h = h
go_new from rows next reached (name ∷ names) way l h =
    go_new from rows next (reached ++ name ∷ []) names (further next name way (row_at rows (reached ++ name ∷ []))) l (further_new from next name way (row_at rows (reached ++ name ∷ [])) l h)

new_dirs : (s : Rows) (p : List (List ℕ)) → All (IsNewDir s.next) (way_to s p).dirs
new_dirs s p = go_new s.next s.rows s.next [] (parent_of p) no_way (omega arith) (All-nil (IsNewDir s.next))

dirs_seen : (links : List Link) (from : ℕ) (rows : List Row) → All (IsNewDir from) rows → map (as_seen links) rows ≡ rows
dirs_seen links from [] h = refl
dirs_seen links from (r ∷ rs) h =
    let dir = All-head (IsNewDir from) r rs h in
    ap (λ (x : Row). x ∷ map (as_seen links) rs) (plain r.number r.path r.value dir.value) ∙ ap (λ (l : List Row). r ∷ l) (dirs_seen links from rs (All-tail (IsNewDir from) r rs h))
  where
    plain : (number : ℕ) (path : List (List ℕ)) (value : Option HeldValue) → value ≡ None
        → (let x : Row = record { number = number; path = path; value = value } in as_seen links x ≡ x)
    plain number path None e = no_value (is_linked links number) number path
    plain number path (Some v) e = absurd (cc)

pub way_seen : (links : List Link) (s : Rows) (p : List (List ℕ)) → way_to (seen links s) p ≡ way_to s p
way_seen links s p = way_mapped (as_seen links) (seen_retypes links) s.rows s.next [] (parent_of p) no_way

-- A new row is seen beside the others: with more links, as long as these are seen the same.
pub created_seen : (links others : List Link) (s : Rows) (p : List (List ℕ)) (shown value : Option HeldValue) → map (as_seen others) s.rows ≡ map (as_seen links) s.rows
    → as_seen others (new_row s p value) ≡ new_row s p shown → created (seen links s) p shown ≡ seen others (created s p value)
created_seen links others s p shown value same new =
    let rows : map (as_seen others) (s.rows ++ ((way_to s p).dirs ++ new_row s p value ∷ [])) ≡ map (as_seen links) s.rows ++ ((way_to s p).dirs ++ new_row s p shown ∷ []) =
    map-append (as_seen others) s.rows ((way_to s p).dirs ++ new_row s p value ∷ [])
    ∙ (ap (λ (l : List Row). l ++ map (as_seen others) ((way_to s p).dirs ++ new_row s p value ∷ [])) same
    ∙ (ap (λ (l : List Row). map (as_seen links) s.rows ++ l) (map-append (as_seen others) (way_to s p).dirs (new_row s p value ∷ []))
    ∙ (ap (λ (l : List Row). map (as_seen links) s.rows ++ (l ++ as_seen others (new_row s p value) ∷ [])) (dirs_seen others s.next (way_to s p).dirs (new_dirs s p))
    ∙ ap (λ (r : Row). map (as_seen links) s.rows ++ ((way_to s p).dirs ++ r ∷ [])) new))) in
    ap (λ (w : Way). (let t : Rows = record { rows = map (as_seen links) s.rows ++ (w.dirs ++ record { number = s.next + length w.dirs; path = w.path ++ last_of p; value = shown } ∷ []); next = s.next + length w.dirs + 1; links = true } in t)) (way_seen links s p)
    ∙ ap (λ (l : List Row). (let t : Rows = record { rows = l; next = new_number s p + 1; links = true } in t)) (sym rows)

pub made_above : (s : Rows) (p : List (List ℕ)) → All (λ (r : Row). s.next ≤ r.number) (way_to s p).dirs
made_above s p = All-weaker (IsNewDir s.next) (λ (r : Row). s.next ≤ r.number) (λ r k. k.number) (way_to s p).dirs (new_dirs s p)
