-- The fields of a bank's header by their places are those that were spelled there, and the other way round.
use Rattle.std.proofs.Common.{◌≡◌, ℕ, zero, suc, ◌<◌, ◌≤◌, List, [], ◌∷◌, ◌++◌, length, drop, get_or, refl, arith, lit<}
use Rattle.std.specs.Int.{to_le_bytes, w16, w32}
use Rattle.std.proofs.lemmas.Nat.{le_bytes_2, le_bytes_4, from_le_bytes-to_le_bytes_2, from_le_bytes-to_le_bytes_4}
use Rattle.bank_format.specs.declared.formats.Format.{Format}
use Rattle.bank_format.specs.declared.formats.Format.TheVariants.{Bank16, Bank32, Bank32A}
use Rattle.bank_format.specs.Formats.{field_limit, reserved_len, header_len}
use Rattle.bank_format.specs.BankAreas.{field}
use Rattle.bank_format.specs.Places.{stated_name, stated_tid, stated_size, number_16, number_32}
use Rattle.bank_format.specs.Spelled.{IsBytes}

-- the fields and what stands behind them, by their places
pub record HeaderIs (f : Format) (bytes name : List ℕ) (tid size : ℕ) (more : List ℕ) : Type 0 where
  pub name_is : stated_name bytes ≡ name
  pub tid_is : stated_tid f bytes ≡ tid
  pub size_is : stated_size f bytes ≡ size
  pub more_is : drop (header_len f) bytes ≡ more
  pub long : header_len f ≤ length bytes

-- what was spelled stands at its place
pub spelled_at : (f : Format) (name : List ℕ) (tid size : ℕ) (reserved more : List ℕ) → length name ≡ 4 → tid < field_limit f → size < field_limit f → length reserved ≡ reserved_len f
    → HeaderIs f ((name ++ (field f tid ++ (field f size ++ reserved))) ++ more) name tid size more
unfolding stated_name stated_tid stated_size
spelled_at Bank16 (a ∷ b ∷ c ∷ d ∷ []) tid size [] more four tid_lt size_lt none =
    record { name_is = refl; tid_is = from_le_bytes-to_le_bytes_2 tid tid_lt; size_is = from_le_bytes-to_le_bytes_2 size size_lt; more_is = refl; long = omega arith }
spelled_at Bank32 (a ∷ b ∷ c ∷ d ∷ []) tid size [] more four tid_lt size_lt none =
    record { name_is = refl; tid_is = from_le_bytes-to_le_bytes_4 tid tid_lt; size_is = from_le_bytes-to_le_bytes_4 size size_lt; more_is = refl; long = omega arith }
spelled_at Bank32A (a ∷ b ∷ c ∷ d ∷ []) tid size (r ∷ s ∷ t ∷ u ∷ []) more four tid_lt size_lt none =
    record { name_is = refl; tid_is = from_le_bytes-to_le_bytes_4 tid tid_lt; size_is = from_le_bytes-to_le_bytes_4 size size_lt; more_is = refl; long = omega arith }
spelled_at f name tid size reserved more four tid_lt size_lt none = absurd (omega arith)

bytes_2 : (a b : ℕ) → a < 256 → b < 256 → (i : ℕ) → get_or (a ∷ b ∷ []) i 0 < 256
bytes_2 a b ha hb zero = ha
bytes_2 a b ha hb (suc zero) = hb
bytes_2 a b ha hb (suc (suc i)) = lit< tt

bytes_4 : (a b c d : ℕ) → a < 256 → b < 256 → c < 256 → d < 256 → (i : ℕ) → get_or (a ∷ b ∷ c ∷ d ∷ []) i 0 < 256
bytes_4 a b c d ha hb hc hd zero = ha
bytes_4 a b c d ha hb hc hd (suc zero) = hb
bytes_4 a b c d ha hb hc hd (suc (suc zero)) = hc
bytes_4 a b c d ha hb hc hd (suc (suc (suc zero))) = hd
bytes_4 a b c d ha hb hc hd (suc (suc (suc (suc i)))) = lit< tt

pub pair_back : (a b : ℕ) → a < 256 → b < 256 → to_le_bytes w16 (number_16 a b) ≡ a ∷ b ∷ []
pair_back a b ha hb = le_bytes_2 (a ∷ b ∷ []) _ refl (bytes_2 a b ha hb) refl

pub word_back : (a b c d : ℕ) → a < 256 → b < 256 → c < 256 → d < 256 → to_le_bytes w32 (number_32 a b c d) ≡ a ∷ b ∷ c ∷ d ∷ []
word_back a b c d ha hb hc hd = le_bytes_4 (a ∷ b ∷ c ∷ d ∷ []) _ refl (bytes_4 a b c d ha hb hc hd) refl

joined : (n r more : List ℕ) {p p' q q' : List ℕ} → p ≡ p' → q ≡ q' → (n ++ (p' ++ (q' ++ r))) ++ more ≡ (n ++ (p ++ (q ++ r))) ++ more
joined n r more p-is q-is = cc

-- bytes are the fields that stand at their places, some reserved bytes, and what stands behind them
pub record Respelled (f : Format) (bytes : List ℕ) : Type 0 where
  pub name : length (stated_name bytes) ≡ 4
  pub tid : stated_tid f bytes < field_limit f
  pub size : stated_size f bytes < field_limit f
  pub reserved : List ℕ
  pub reserved_is : length reserved ≡ reserved_len f
  pub spelled : bytes ≡ (stated_name bytes ++ (field f (stated_tid f bytes) ++ (field f (stated_size f bytes) ++ reserved))) ++ drop (header_len f) bytes

pub respelled : (f : Format) (bytes : List ℕ) → header_len f ≤ length bytes → IsBytes bytes → Respelled f bytes
unfolding stated_name stated_tid stated_size
respelled Bank16 (a ∷ b ∷ c ∷ d ∷ e ∷ g ∷ h ∷ i ∷ xs) long small =
    record {
      name = refl;
      tid = omega (arith, small 4, small 5);
      size = omega (arith, small 6, small 7);
      reserved = [];
      reserved_is = refl;
      spelled = joined (a ∷ b ∷ c ∷ d ∷ []) [] xs (pair_back e g (small 4) (small 5)) (pair_back h i (small 6) (small 7));
    }
respelled Bank32 (a ∷ b ∷ c ∷ d ∷ e ∷ g ∷ h ∷ i ∷ j ∷ k ∷ l ∷ m ∷ xs) long small =
    record {
      name = refl;
      tid = omega (arith, small 4, small 5, small 6, small 7);
      size = omega (arith, small 8, small 9, small 10, small 11);
      reserved = [];
      reserved_is = refl;
      spelled = joined (a ∷ b ∷ c ∷ d ∷ []) [] xs (word_back e g h i (small 4) (small 5) (small 6) (small 7)) (word_back j k l m (small 8) (small 9) (small 10) (small 11));
    }
respelled Bank32A (a ∷ b ∷ c ∷ d ∷ e ∷ g ∷ h ∷ i ∷ j ∷ k ∷ l ∷ m ∷ r ∷ s ∷ t ∷ u ∷ xs) long small =
    record {
      name = refl;
      tid = omega (arith, small 4, small 5, small 6, small 7);
      size = omega (arith, small 8, small 9, small 10, small 11);
      reserved = r ∷ s ∷ t ∷ u ∷ [];
      reserved_is = refl;
      spelled = joined (a ∷ b ∷ c ∷ d ∷ []) (r ∷ s ∷ t ∷ u ∷ []) xs (word_back e g h i (small 4) (small 5) (small 6) (small 7)) (word_back j k l m (small 8) (small 9) (small 10) (small 11));
    }
respelled f bytes long small = absurd (omega arith)
