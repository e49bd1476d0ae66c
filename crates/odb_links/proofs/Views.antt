-- The database that is seen is one, from its beginning and after rows went.
use Rattle.std.proofs.Common.{◌≡◌, ℕ, ◌+◌, ◌≤◌, Bool, true, false, cond, eqb, List, [], ◌∷◌, ◌++◌, map, Option, Some, None, Ok, inl, inr, refl, sym, ap, ◌∙◌, subst, arith}
use Rattle.std.specs.Prelude.{All, IfSome}
use Rattle.std.specs.Option.{option_map, is_some}
use Rattle.std.specs.List.{filter}
use Rattle.std.proofs.lemmas.Bool.Decides.{nat_tests}
use Rattle.std.proofs.lemmas.List.{length-map, map-append}
use Rattle.std.proofs.lemmas.List.Elements.{All-nil, All-cons, All-head, All-tail, All-weaker}
use Rattle.daq_types.specs.declared.types.Tid.TheVariants as tid
use Rattle.odb_value.specs.Paths.{IsPath, same_path}
use Rattle.odb_value.specs.Values.{HeldValue, IsValue}
use Rattle.odb_value.specs.LinkValues.{IsLink}
use Rattle.odb_tree.specs.declared.rows.Row.{Row}
use Rattle.odb_tree.specs.declared.entry.DatabaseEntry.TheVariants.{Delete}
use Rattle.odb_tree.specs.Rows.{Rows, row_numbered}
use Rattle.odb_tree.specs.Trees.{HasDir, IsDir, IsPlaced, ArePlaced, AreApart, AreRising}
use Rattle.odb_tree.specs.WalkLaws.{NoneAt}
use Rattle.odb_tree.specs.Databases.{IsHeld, IsRow, IsDatabase}
use Rattle.odb_tree.specs.Calls.{IsRowsReply, after_delete, is_below_path, is_row_below}
use Rattle.odb_tree.proofs.Sound.{database_after}
use Rattle.odb_links.specs.declared.links.Link.{Link}
use Rattle.odb_links.specs.Seen.{link_numbered, is_linked, typed, as_seen, seen, LinksRise, HoldsLinkText, IsRight, AreLinks}
use Rattle.odb_links.proofs.Retyped.{Retypes, total_mapped}
use Rattle.odb_links.proofs.LinkPlaces.{test_true}
use Rattle.odb_links.proofs.Marked.{test_same, seen_retypes, seen_plain, seen_linked, seen_same, right_at, not_linked}
use Rattle.odb_links.proofs.Replies.{delete_leaves, right_outside}
use Rattle.odb_links.proofs.Kept.{rising_below}

-- the tree that is seen

dir_mapped : (f : Row → Row) → Retypes f → (before : List Row) (p : List (List ℕ)) → HasDir before p → HasDir (map f before) p
dir_mapped f h before p has = record {
  front = map f has.front;
  dir = f has.dir;
  back = map f has.back;
  there = ap (map f) has.there ∙ map-append f has.front (has.dir ∷ has.back);
  path = h.path has.dir ∙ has.path;
  kind = h.kind has.dir ∙ has.kind;
}

is_dir_mapped : (f : Row → Row) → Retypes f → (before : List Row) (p : List (List ℕ)) → IsDir before p → IsDir (map f before) p
is_dir_mapped f h before p (inl root) = inl root
is_dir_mapped f h before p (inr has) = inr (dir_mapped f h before p has)

placed_mapped : (f : Row → Row) → Retypes f → (before rows : List Row) → ArePlaced before rows → ArePlaced (map f before) (map f rows)
placed_mapped f h before [] k = tt
placed_mapped f h before (r ∷ rs) k = (
  subst (λ (q : List (List ℕ)). IsPlaced (map f before) q) (sym (h.path r)) (record { parent = k.0.parent; name = k.0.name; path = k.0.path; there = is_dir_mapped f h before k.0.parent k.0.there }),
  subst (λ (l : List Row). ArePlaced l (map f rs)) (map-append f before (r ∷ [])) (placed_mapped f h (before ++ r ∷ []) rs k.1),
)

none_mapped : (f : Row → Row) → Retypes f → (p : List (List ℕ)) (rows : List Row) → NoneAt p rows → NoneAt p (map f rows)
unfolding NoneAt
none_mapped f h p [] k = tt
none_mapped f h p (r ∷ rs) k = (ap (λ (q : List (List ℕ)). same_path q p) (h.path r) ∙ k.0, none_mapped f h p rs k.1)

apart_mapped : (f : Row → Row) → Retypes f → (rows : List Row) → AreApart rows → AreApart (map f rows)
apart_mapped f h [] k = tt
apart_mapped f h (r ∷ rs) k = (subst (λ (q : List (List ℕ)). NoneAt q (map f rs)) (sym (h.path r)) (none_mapped f h r.path rs k.0), apart_mapped f h rs k.1)

rising_mapped : (f : Row → Row) → Retypes f → (from : ℕ) (rows : List Row) (next : ℕ) → AreRising from rows next → AreRising from (map f rows) next
rising_mapped f h from [] next k = k
rising_mapped f h from (r ∷ rs) next k =
    (omega (arith, h.number r, k.0), subst (λ (n : ℕ). AreRising (n + 1) (map f rs) next) (sym (h.number r)) (rising_mapped f h (r.number + 1) rs next k.1))

-- each row is well-formed

row_seen : (links : List Link) (r : Row) → IsRow false r → IsRight links r → IsRow true (as_seen links r)
row_seen links r row right = record { path = subst IsPath (sym ((seen_retypes links).path r)) row.path; value = at (link_numbered links r.number) refl }
  where
    plain : (o : Option HeldValue) → IfSome o IsValue → IfSome o (IsHeld true)
    plain None h = tt
    plain (Some v) h = inl h

    linked : (o : Option HeldValue) (v : HeldValue) → o ≡ Some v → IsLink (typed tid.Link v) → IfSome (option_map (typed tid.Link) o) (IsHeld true)
    linked None v e h = absurd (cc)
    linked (Some w) v e h = let same : v ≡ w = cc in inr (subst (λ (x : HeldValue). IsLink (typed tid.Link x)) same h)

    at : (o : Option Link) → link_numbered links r.number ≡ o → IfSome (as_seen links r).value (IsHeld true)
    at None e = subst (λ (x : Row). IfSome x.value (IsHeld true)) (sym (seen_plain links r (not_linked links r.number e))) (plain r.value row.value)
    at (Some l) e =
        let text = right_at links r l right e in
        subst (λ (x : Row). IfSome x.value (IsHeld true)) (sym (seen_linked links r (ap (λ (o : Option Link). is_some o) e))) (linked r.value text.held text.value text.link)

rows_seen : (links : List Link) (rows : List Row) → All (IsRow false) rows → All (IsRight links) rows → All (IsRow true) (map (as_seen links) rows)
rows_seen links [] h right = All-nil (IsRow true)
rows_seen links (r ∷ rs) h right =
    All-cons (IsRow true) (as_seen links r) (map (as_seen links) rs) (row_seen links r (All-head (IsRow false) r rs h) (All-head (IsRight links) r rs right))
    (rows_seen links rs (All-tail (IsRow false) r rs h) (All-tail (IsRight links) r rs right))

pub database_seen : (links : List Link) (s : Rows) → AreLinks links s → IsDatabase (seen links s)
database_seen links s h =
    let retypes = seen_retypes links in record {
      tree = record {
        placed = placed_mapped (as_seen links) retypes [] s.rows h.database.tree.placed;
        apart = apart_mapped (as_seen links) retypes s.rows h.database.tree.apart;
        numbered = rising_mapped (as_seen links) retypes 1 s.rows s.next h.database.tree.numbered;
      };
      rows = rows_seen links s.rows (subst (λ (b : Bool). All (IsRow b) s.rows) h.plain h.database.rows) h.right;
      within = record {
        rows = omega (arith, length-map s.rows (as_seen links), h.database.within.rows);
        total = omega (arith, total_mapped (as_seen links) retypes s.rows, h.database.within.total);
        next = h.database.within.next;
      };
    }

-- no links yet

none_seen : (rows : List Row) → map (as_seen []) rows ≡ rows
none_seen [] = refl
none_seen (r ∷ rs) = ap (λ (l : List Row). r ∷ l) (none_seen rs)

pub begun_seen : (s : Rows) → seen [] s ≡ record s { links = true }
begun_seen s = ap (λ (l : List Row). (let t : Rows = record { rows = l; next = s.next; links = true } in t)) (none_seen s.rows)

all_right : (rows : List Row) → All (IsRight []) rows
all_right [] = All-nil (IsRight [])
all_right (r ∷ rs) = All-cons (IsRight []) r rs tt (all_right rs)

pub begun_links : (s : Rows) → s.links ≡ false → IsDatabase s → AreLinks [] s
begun_links s plain database = record { plain = plain; database = database; order = (rising_below 1 s.rows s.next database.tree.numbered).1; right = all_right s.rows }

-- links are forgotten

test_zero : (a : ℕ) → 1 ≤ a → eqb a 0 ≡ false
test_zero a h = grind (arith, nat_tests, h)

-- a row that is there, with its number
record IsThere (rows : List Row) (r : Row) : Type 0 where
  some : is_some (row_numbered rows r.number) ≡ true
  number : 1 ≤ r.number

there_more : (rows : List Row) (x r : Row) → IsThere rows r → IsThere (x ∷ rows) r
there_more rows x r h = record { some = at (eqb x.number r.number); number = h.number }
  where
    at : (t : Bool) → is_some (cond t (Some x) (row_numbered rows r.number)) ≡ true
    at true = refl
    at false = h.some

all_there : (from : ℕ) (rows : List Row) (next : ℕ) → 1 ≤ from → AreRising from rows next → All (IsThere rows) rows
all_there from [] next l h = All-nil (IsThere [])
all_there from (x ∷ xs) next l h =
    All-cons (IsThere (x ∷ xs)) x xs
    (record { some = ap (λ (t : Bool). is_some (cond t (Some x) (row_numbered xs x.number))) (test_true x.number x.number refl); number = omega (arith, l, h.0) })
    (All-weaker (IsThere xs) (IsThere (x ∷ xs)) (λ r k. there_more xs x r k) xs (all_there (x.number + 1) xs next (omega arith) h.1))

below_root : (s : Rows) (n : ℕ) → is_some (row_numbered s.rows n) ≡ true → 1 ≤ n → is_row_below s n 0 ≡ true
below_root s n some l = ap (λ (t : Bool). is_below_path (cond t (Some []) (option_map (λ (r : Row). r.path) (row_numbered s.rows n))) (Some [])) (test_zero n l) ∙ at (row_numbered s.rows n) some
  where
    at : (o : Option Row) → is_some o ≡ true → is_below_path (option_map (λ (r : Row). r.path) o) (Some []) ≡ true
    at None e = absurd (cc)
    at (Some r) e = refl

filtered_same : (keep : Link → Bool) (links : List Link) (n : ℕ) → ((l : Link) → l.row ≡ n → keep l ≡ true) → link_numbered (filter keep links) n ≡ link_numbered links n
filtered_same keep [] n h = refl
filtered_same keep (x ∷ xs) n h = at (keep x) refl (eqb x.row n) refl (filtered_same keep xs n h)
  where
    at : (t : Bool) → keep x ≡ t → (b : Bool) → eqb x.row n ≡ b → link_numbered (filter keep xs) n ≡ link_numbered xs n → link_numbered (cond t (x ∷ filter keep xs) (filter keep xs)) n ≡ cond b (Some x) (link_numbered xs n)
    at true e b k ih = ap (λ (c : Bool). cond c (Some x) (link_numbered (filter keep xs) n)) k ∙ ap (λ (o : Option Link). cond b (Some x) o) ih
    at false e true k ih = let z : true ≡ false = sym (h x (test_same x.row n k)) ∙ e in absurd (cc)
    at false e false k ih = ih

order_filter : (keep : Link → Bool) (from : ℕ) (links : List Link) (next : ℕ) → LinksRise from links next → LinksRise from (filter keep links) next
order_filter keep from [] next h = h
order_filter keep from (x ∷ xs) next h = at (keep x) (order_filter keep (x.row + 1) xs next h.1)
  where
    lower : (low high : ℕ) (ls : List Link) → low ≤ high → LinksRise high ls next → LinksRise low ls next
    lower low high [] l k = omega (arith, l, k)
    lower low high (y ∷ ys) l k = (omega (arith, l, k.0), k.1)

    at : (t : Bool) → LinksRise (x.row + 1) (filter keep xs) next → LinksRise from (cond t (x ∷ filter keep xs) (filter keep xs)) next
    at true k = (h.0, k)
    at false k = lower from (x.row + 1) (filter keep xs) (omega (arith, h.0)) k

-- the links whose row is there still
abbrev pub left_links : List Link → Rows → List Link
left_links links t = filter (λ (l : Link). is_row_below t l.row 0) links

left_numbered : (links : List Link) (t : Rows) (r : Row) → IsThere t.rows r → link_numbered (left_links links t) r.number ≡ link_numbered links r.number
left_numbered links t r h =
    filtered_same (λ (l : Link). is_row_below t l.row 0) links r.number (λ l e. ap (λ (n : ℕ). is_row_below t n 0) e ∙ below_root t r.number h.some h.number)

right_left : (links : List Link) (t : Rows) (rows : List Row) → All (IsThere t.rows) rows → All (IsRight links) rows → All (IsRight (left_links links t)) rows
right_left links t [] there right = All-nil (IsRight (left_links links t))
right_left links t (r ∷ rs) there right =
    All-cons (IsRight (left_links links t)) r rs
    (subst (λ (o : Option Link). IfSome o (λ (l : Link). HoldsLinkText l.target r)) (sym (left_numbered links t r (All-head (IsThere t.rows) r rs there))) (All-head (IsRight links) r rs right))
    (right_left links t rs (All-tail (IsThere t.rows) r rs there) (All-tail (IsRight links) r rs right))

pub record AreLeft (links : List Link) (s t : Rows) (p : List (List ℕ)) : Type 0 where
  pub links_kept : AreLinks (left_links links t) t
  pub after : seen (left_links links t) t ≡ after_delete (seen links s) p

pub links_left : (links : List Link) (s t : Rows) (p : List (List ℕ)) (gone : ℕ) → AreLinks links s → IsPath p → IsRowsReply s (Delete p (Ok gone)) → t ≡ after_delete s p → AreLeft links s t p
links_left links s t p gone h path reply left =
    let database : IsDatabase t = subst IsDatabase (sym left) (database_after s (Delete p (Ok gone)) h.database path reply) in
    let there = all_there 1 t.rows t.next (omega arith) database.tree.numbered in
    let right : All (IsRight links) t.rows = subst (λ (x : Rows). All (IsRight links) x.rows) (sym left) (right_outside links s p h.right) in record {
      links_kept = record {
        plain = ap (λ (x : Rows). x.links) left ∙ h.plain;
        database = database;
        order = order_filter (λ (l : Link). is_row_below t l.row 0) 1 links t.next (subst (λ (x : Rows). LinksRise 1 links x.next) (sym left) h.order);
        right = right_left links t t.rows there right;
      };
      after = ap (λ (l : List Row). (let x : Rows = record { rows = l; next = t.next; links = true } in x))
          (seen_same links (left_links links t) t.rows
          (All-weaker (IsThere t.rows) (λ (r : Row). is_linked (left_links links t) r.number ≡ is_linked links r.number) (λ r k. ap (λ (o : Option Link). is_some o) (left_numbered links t r k)) t.rows there))
          ∙ (ap (seen links) left ∙ sym (delete_leaves links s p));
    }
