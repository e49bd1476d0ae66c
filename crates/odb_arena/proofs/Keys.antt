-- A key that was found, and its node.
use Rattle.std.proofs.Common.{◌≡◌, ℕ, ◌≤◌, List, [], ◌∷◌, Option, Some, None, Ok, refl, sym, ap, ◌∙◌, subst, arith}
use Rattle.odb_value.specs.Values.{HeldValue}
use Rattle.odb_value.specs.declared.items.Item.{Item}
use Rattle.odb_tree.specs.declared.rows.Row.{Row}
use Rattle.odb_tree.specs.declared.refusals.OdbRefusal.{OdbRefusal}
use Rattle.odb_tree.specs.Rows.{Rows, row_at, bytes_of, total_of}
use Rattle.odb_tree.specs.Lookups.{obstacle_to, found_row, key_of, key_or_refusal, seek_key}
use Rattle.odb_tree.specs.Changes.{CanPut, RowCanPut, RowCanResize, IsKeyAt}
use Rattle.odb_tree.specs.Databases.{IsDatabase}
use Rattle.odb_tree.proofs.FaultLemmas.{had_some}
use Rattle.odb_tree.proofs.Led.{can_resize}
use Rattle.odb_arena.specs.declared.tree.ArenaTree.TheInside.{Inside}
use Rattle.odb_arena.specs.Arena.{row_of}
use Rattle.odb_arena.specs.Inside.{rows_of, IsWholeArena}
use Rattle.odb_arena.proofs.Below.{number_is}
use Rattle.odb_arena.proofs.Leading.{rising_found}
use Rattle.odb_arena.proofs.Growing.{some_is}

-- the row of a key that was found
pub record IsKeyRow (rows : List Row) (p : List (List ℕ)) (n : ℕ) (v : HeldValue) : Type 0 where
  pub row : Row
  pub there : row_at rows p ≡ Some row
  pub value : row.value ≡ Some v
  pub number : row.number ≡ n

value_from : (number : ℕ) (o : Option HeldValue) (n : ℕ) (v : HeldValue) → key_of number o ≡ Ok (n, v) → (o ≡ Some v) × (number ≡ n)
value_from number None n v h = absurd (cc)
value_from number (Some w) n v h =
    let pair : (number, w) ≡ (n, v) = cc in
    (ap (λ (p : ℕ × HeldValue). Some p.1) pair, ap (λ (p : ℕ × HeldValue). p.0) pair)

pub key_row : (rows : List Row) (p : List (List ℕ)) (n : ℕ) (v : HeldValue) → seek_key rows p ≡ Ok (n, v) → IsKeyRow rows p n v
key_row rows [] n v h = absurd (cc)
key_row rows (name ∷ names) n v h = from (obstacle_to rows (name ∷ names)) (row_at rows (name ∷ names)) refl h
  where
    from : (o : Option OdbRefusal) (r : Option Row) → row_at rows (name ∷ names) ≡ r → key_or_refusal (found_row o r) ≡ Ok (n, v) → IsKeyRow rows (name ∷ names) n v
    from (Some refusal) r e k = absurd (cc)
    from None None e k = absurd (cc)
    from None (Some row) e k =
        let both = value_from row.number row.value n v k in
        record { row = row; there = e; value = both.0; number = both.1 }

-- its node has the row
pub key_node : (t : Inside) (s : Rows) (p : List (List ℕ)) (n : ℕ) (v : HeldValue) → IsWholeArena t → rows_of t ≡ s → (key : IsKeyRow s.rows p n v) → row_of t.nodes.entries n ≡ Some key.row
key_node t s p n v h is key =
    let found : row_at (rows_of t).rows p ≡ Some key.row = ap (λ (x : Rows). row_at x.rows p) is ∙ key.there in
    ap (row_of t.nodes.entries) (sym key.number)
    ∙ (sym (number_is (row_of t.nodes.entries) t.next key.row.number h.numbered) ∙ (rising_found 1 (rows_of t).rows t.next p key.row h.database.tree.numbered found).0)

pub key_at : (rows : List Row) (p : List (List ℕ)) (n : ℕ) (v : HeldValue) → IsKeyRow rows p n v → IsKeyAt rows p v
key_at rows p n v key = record { row = key.row; there = key.there; value = key.value }

-- an item that fits in the value fits in the node's row
pub node_can_put : (t : Inside) (s : Rows) (p : List (List ℕ)) (n : ℕ) (v : HeldValue) (index : ℕ) (item given : Item) → IsWholeArena t → rows_of t ≡ s → IsKeyRow s.rows p n v → CanPut v index item → given ≡ item
    → (row : Row) → row_of t.nodes.entries n ≡ Some row → RowCanPut row index given
node_can_put t s p n v index item given h is key can same row there = λ w e.
    let one : key.row ≡ row = some_is key.row row (sym (key_node t s p n v h is key) ∙ there) in
    let value : v ≡ w = some_is v w (sym key.value ∙ (ap (λ (r : Row). r.value) one ∙ e)) in
    subst (λ (x : HeldValue). CanPut x index given) value (subst (λ (i : Item). CanPut v index i) (sym same) can)

-- it may get more or fewer items, since it is no link
pub node_can_resize : (t : Inside) (s : Rows) (p : List (List ℕ)) (n : ℕ) (v : HeldValue) → IsWholeArena t → rows_of t ≡ s → IsKeyRow s.rows p n v
    → (row : Row) → row_of t.nodes.entries n ≡ Some row → RowCanResize row
node_can_resize t s p n v h is key row there =
    let one : key.row ≡ row = some_is key.row row (sym (key_node t s p n v h is key) ∙ there) in
    subst RowCanResize one (can_resize s p key.row (subst IsDatabase is h.database).rows (sym (ap (λ (x : Rows). x.links) is)) key.there)

-- its bytes are among those of all values
pub key_bytes : (t : Inside) (s : Rows) (p : List (List ℕ)) (n : ℕ) (v : HeldValue) (had : ℕ) → IsWholeArena t → rows_of t ≡ s → IsKeyRow s.rows p n v → had ≡ bytes_of v → had ≤ t.bytes
key_bytes t s p n v had h is key e = omega (arith, e, h.weighed, ap (λ (x : Rows). total_of x.rows) is, had_some s.rows p v (key_at s.rows p n v key))
