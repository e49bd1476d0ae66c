-- A bank appended piece by piece, and a refusal read off the tests in their order.
use Rattle.std.proofs.Common.{◌≡◌, ℕ, ◌^◌, ◌<◌, ◌≤◌, true, false, ltb, List, [], ◌++◌, length, take, drop, replicate, Some, None, refl, ap, ◌∙◌, append_assoc}
use Rattle.std.specs.Int.{to_le_bytes, w32}
use Rattle.std.proofs.lemmas.Bool.{leb-false}
use Rattle.std.proofs.lemmas.List.{take-replicate}
use Rattle.bank_format.specs.declared.formats.Format.{Format}
use Rattle.bank_format.specs.declared.formats.Format.TheVariants.{Bank16, Bank32, Bank32A}
use Rattle.bank_format.specs.declared.faults.BankRefusal.TheVariants.{TooLong, BadTid, NoRoom}
use Rattle.bank_format.specs.Formats.{is_past_16_bits, field_limit}
use Rattle.bank_format.specs.BankAreas.{BankValue, plain_banks}
use Rattle.bank_format.specs.Writing.{Written, need_with, refusal_of}

pub pieces : (old head body zeros first second third head' zeros' : List ℕ) → first ≡ old ++ head → second ≡ first ++ body → third ≡ second ++ zeros → head ≡ head' → zeros ≡ zeros'
    → third ≡ old ++ (head' ++ (body ++ zeros'))
pieces old head body zeros first second third head' zeros' e1 e2 e3 eh ez =
    rw (e3, e2, e1, eh, ez) (append_assoc (old ++ head') body zeros' ∙ append_assoc old head' (body ++ zeros'))

pub refused_long : (w : Written) (b : BankValue) → is_past_16_bits w.format (length b.body) ≡ true → refusal_of w b ≡ Some (TooLong (length b.body))
unfolding refusal_of
refused_long w b long = rw long refl

pub refused_tid : (w : Written) (b : BankValue) → is_past_16_bits w.format (length b.body) ≡ false → is_past_16_bits w.format b.tid ≡ true → refusal_of w b ≡ Some (BadTid b.tid)
unfolding refusal_of
refused_tid w b long tid = rw (long, tid) refl

pub refused_room : (w : Written) (b : BankValue) (need : ℕ) → is_past_16_bits w.format (length b.body) ≡ false → is_past_16_bits w.format b.tid ≡ false → need_with w b ≡ need → ltb w.limit need ≡ true
    → refusal_of w b ≡ Some (NoRoom need)
unfolding refusal_of
refused_room w b need long tid is over = rw (long, tid, is, over) refl

pub not_refused : (w : Written) (b : BankValue) (need : ℕ) → is_past_16_bits w.format (length b.body) ≡ false → is_past_16_bits w.format b.tid ≡ false → need_with w b ≡ need → ltb w.limit need ≡ false
    → refusal_of w b ≡ None
unfolding refusal_of
not_refused w b need long tid is over = rw (long, tid, is, over) refl

-- the front of eight zeros
pub zeros_cut : (m n : ℕ) → m ≡ n → n ≤ 8 → take {A = ℕ} m (replicate 8 0) ≡ replicate n 0
zeros_cut m n e le = ap (λ (k : ℕ). take {A = ℕ} k (replicate 8 0)) e ∙ take-replicate n 8 0 le

-- a number that is not past 16 bits fits its field
pub fits_field : (f : Format) (n : ℕ) → is_past_16_bits f n ≡ false → n < 2 ^ 32 → n < field_limit f
fits_field Bank16 n short lt = leb-false _ _ short
fits_field Bank32 n short lt = lt
fits_field Bank32A n short lt = lt

front_alone : (f : Format) (bs : List BankValue) → to_le_bytes w32 0 ++ drop 4 (take 8 (plain_banks f bs)) ≡ plain_banks f []
unfolding plain_banks
front_alone f bs = refl

-- the front of plain bytes, with a length of 0
pub cleared : (f : Format) (bs : List BankValue) (items front new : List ℕ) (n : ℕ) → items ≡ plain_banks f bs → front ≡ take 8 items → n ≡ 0 → new ≡ to_le_bytes w32 n ++ drop 4 front → new ≡ plain_banks f []
cleared f bs items front new n is is_front none is_new =
    is_new ∙ ap (λ (k : ℕ). to_le_bytes w32 k ++ drop 4 front) none ∙ ap (λ (xs : List ℕ). to_le_bytes w32 0 ++ drop 4 xs) (is_front ∙ ap (take 8) is) ∙ front_alone f bs
