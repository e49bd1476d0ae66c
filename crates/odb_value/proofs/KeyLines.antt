-- The lines of items, with one item more.
use Rattle.std.specs.Prelude.{◌≡◌, ℕ, ◌+◌, ◌<◌, List, [], ◌∷◌, ◌++◌, length, take}
use Rattle.std.proofs.Common.{sym, ap, ◌∙◌, append_assoc, arith, get_or}
use Rattle.std.proofs.lemmas.List.{append-nil, take_more, length-take}
use Rattle.odb_value.specs.declared.items.Item.{Item}
use Rattle.odb_value.specs.KeyTexts.{item_line, item_lines}

pub item_lines-more : (size index : ℕ) (items : List Item) (item : Item) → item_lines size index (items ++ item ∷ []) ≡ item_lines size index items ++ item_line size (index + length items) item
item_lines-more size index [] item = append-nil (item_line size index item) ∙ ap (λ (n : ℕ). item_line size n item) (omega arith)
item_lines-more size index (first ∷ items) item =
    ap (λ (text : List ℕ). item_line size index first ++ text) (item_lines-more size (index + 1) items item ∙ ap (λ (n : ℕ). item_lines size (index + 1) items ++ item_line size n item) (omega arith))
    ∙ sym (append_assoc (item_line size index first) (item_lines size (index + 1) items) (item_line size (index + length (first ∷ items)) item))

-- the lines of the first items, with the next
pub item_lines-next : (size : ℕ) (items : List Item) (index : ℕ) (d : Item) → index < length items → item_lines size 0 (take (index + 1) items) ≡ item_lines size 0 (take index items) ++ item_line size index (get_or items index d)
item_lines-next size items index d within =
    ap (item_lines size 0) (take_more items index d within) ∙ item_lines-more size 0 (take index items) (get_or items index d)
    ∙ ap (λ (n : ℕ). item_lines size 0 (take index items) ++ item_line size n (get_or items index d)) (omega (arith, length-take index items))
