-- Laws of bytes that are read from a place on.
use Rattle.std.proofs.Common.{◌≡◌, ℕ, ◌+◌, ◌-◌, ◌≤◌, slice_range, subst, ◌<◌, min, List, [], ◌++◌, length, take, drop, sym, ◌∙◌, ap, arith, take-append-drop, length-drop}
use Rattle.std.proofs.lemmas.List.{nil_from_length, drop-drop, drop-take}

-- the bytes read and those behind them are those that were left
pub read_front : (bytes into : List ℕ) (at count : ℕ) → take count into ≡ take count (drop at bytes) → drop at bytes ≡ take count into ++ drop (at + count) bytes
read_front bytes into at count front = sym (ap (λ got. got ++ drop (at + count) bytes) front ∙ (ap (λ rest. take count (drop at bytes) ++ rest) (sym (drop-drop count at bytes)) ∙ take-append-drop count (drop at bytes)))

-- nothing is read where there is room only at the end
pub read_end : (bytes into : List ℕ) (at count : ℕ) → count ≡ min (length (drop at bytes)) (length into) → count ≡ 0 → 0 < length into → drop (at + count) bytes ≡ []
read_end bytes into at count is none room = nil_from_length _ (omega (arith, length-drop at bytes, length-drop (at + count) bytes))

-- a range of a list is its front without what lies before it
range_is : (xs : List ℕ) (a b : ℕ) → a ≤ b → drop a (take b xs) ≡ slice_range xs a b
range_is xs a b h = let whole : a + (b - a) ≡ b = omega arith in subst (λ m. drop a (take m xs) ≡ take (b - a) (drop a xs)) whole (drop-take a (b - a) xs)

-- the bytes read from a range and those behind them are those of the range
pub read_range : (xs into : List ℕ) (a b count : ℕ) → a ≤ b → a + count ≤ b → take count into ≡ take count (drop a (take b xs)) → slice_range xs a b ≡ take count into ++ slice_range xs (a + count) b
read_range xs into a b count h more front = sym (range_is xs a b h) ∙ (read_front (take b xs) into a count front ∙ ap (λ rest. take count into ++ rest) (range_is xs (a + count) b more))
