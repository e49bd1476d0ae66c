-- A header that was read is the bytes that it was read from.
use Rattle.std.proofs.Common.{◌≡◌, ℕ, zero, suc, ◌<◌, ◌≤◌, List, [], ◌∷◌, ◌++◌, length, take, get_or, refl, arith, lit<}
use Rattle.std.specs.Int.{to_le_bytes, from_le_bytes, w16, w32}
use Rattle.std.proofs.lemmas.Nat.{le_bytes_2, le_bytes_4}
use Rattle.event.specs.Events.{header_bytes}

bytes_2 : (a b : ℕ) → a < 256 → b < 256 → (i : ℕ) → get_or (a ∷ b ∷ []) i 0 < 256
bytes_2 a b ha hb zero = ha
bytes_2 a b ha hb (suc zero) = hb
bytes_2 a b ha hb (suc (suc i)) = lit< tt

bytes_4 : (a b c d : ℕ) → a < 256 → b < 256 → c < 256 → d < 256 → (i : ℕ) → get_or (a ∷ b ∷ c ∷ d ∷ []) i 0 < 256
bytes_4 a b c d ha hb hc hd zero = ha
bytes_4 a b c d ha hb hc hd (suc zero) = hb
bytes_4 a b c d ha hb hc hd (suc (suc zero)) = hc
bytes_4 a b c d ha hb hc hd (suc (suc (suc zero))) = hd
bytes_4 a b c d ha hb hc hd (suc (suc (suc (suc i)))) = lit< tt

pair_back : (a b n : ℕ) → a < 256 → b < 256 → n ≡ from_le_bytes w16 (a ∷ b ∷ []) → to_le_bytes w16 n ≡ a ∷ b ∷ []
pair_back a b n ha hb e = le_bytes_2 (a ∷ b ∷ []) n refl (bytes_2 a b ha hb) e

word_back : (a b c d n : ℕ) → a < 256 → b < 256 → c < 256 → d < 256 → n ≡ from_le_bytes w32 (a ∷ b ∷ c ∷ d ∷ []) → to_le_bytes w32 n ≡ a ∷ b ∷ c ∷ d ∷ []
word_back a b c d n ha hb hc hd e = le_bytes_4 (a ∷ b ∷ c ∷ d ∷ []) n refl (bytes_4 a b c d ha hb hc hd) e

joined : {p p' q q' r r' s s' t t' : List ℕ} → p ≡ p' → q ≡ q' → r ≡ r' → s ≡ s' → t ≡ t' → p ++ (q ++ (r ++ (s ++ t))) ≡ p' ++ (q' ++ (r' ++ (s' ++ t')))
joined p-is q-is r-is s-is t-is = cc

-- the five fields, read from their places, are the first 16 bytes
pub read_back : (xs : List ℕ) (id mask serial time size : ℕ) → 16 ≤ length xs → ((i : ℕ) → get_or xs i 0 < 256)
    → id ≡ from_le_bytes w16 (get_or xs 0 0 ∷ get_or xs 1 0 ∷ [])
    → mask ≡ from_le_bytes w16 (get_or xs 2 0 ∷ get_or xs 3 0 ∷ [])
    → serial ≡ from_le_bytes w32 (get_or xs 4 0 ∷ get_or xs 5 0 ∷ get_or xs 6 0 ∷ get_or xs 7 0 ∷ [])
    → time ≡ from_le_bytes w32 (get_or xs 8 0 ∷ get_or xs 9 0 ∷ get_or xs 10 0 ∷ get_or xs 11 0 ∷ [])
    → size ≡ from_le_bytes w32 (get_or xs 12 0 ∷ get_or xs 13 0 ∷ get_or xs 14 0 ∷ get_or xs 15 0 ∷ [])
    → header_bytes id mask serial time size ≡ take 16 xs
unfolding header_bytes
read_back (a ∷ b ∷ c ∷ d ∷ e ∷ f ∷ g ∷ h ∷ i ∷ j ∷ k ∷ l ∷ m ∷ n ∷ o ∷ p ∷ xs) id mask serial time size long small is_id is_mask is_serial is_time is_size =
    joined (pair_back a b id (small 0) (small 1) is_id) (pair_back c d mask (small 2) (small 3) is_mask)
    (word_back e f g h serial (small 4) (small 5) (small 6) (small 7) is_serial)
    (word_back i j k l time (small 8) (small 9) (small 10) (small 11) is_time)
    (word_back m n o p size (small 12) (small 13) (small 14) (small 15) is_size)
read_back xs id mask serial time size long small is_id is_mask is_serial is_time is_size = absurd (omega arith)
