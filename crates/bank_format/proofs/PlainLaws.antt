-- Plain areas: how long they are, how they grow, and that they are bank areas of their banks.
use Rattle.std.proofs.Common.{◌≡◌, ℕ, ◌+◌, ◌^◌, ◌<◌, List, [], ◌∷◌, ◌++◌, length, drop, replicate, refl, sym, ap, ◌∙◌, arith, append_assoc, length-append}
use Rattle.std.specs.List.{AllByRecursion}
use Rattle.std.specs.Int.{to_le_bytes, w32}
use Rattle.std.proofs.lemmas.List.{length-replicate, append-nil}
use Rattle.bank_format.specs.declared.formats.Format.{Format}
use Rattle.bank_format.specs.declared.formats.Format.TheVariants.{Bank16, Bank32, Bank32A}
use Rattle.bank_format.specs.Formats.{flags_of, header_len, reserved_len, padded, padding_len}
use Rattle.bank_format.specs.BankAreas.{BankValue, IsBank, IsFirst, BanksBefore, IsBankArea, field, plain_header, plain_bank, plain_area, plain_banks}
use Rattle.bank_format.specs.Places.{banks_in}
use Rattle.bank_format.proofs.AreaLaws.{area_is}

length-plain_header : (f : Format) (name : List ℕ) (tid size : ℕ) → length name ≡ 4 → length (plain_header f name tid size) ≡ header_len f
length-plain_header Bank16 name tid size four = omega (arith, length-append name (field Bank16 tid ++ (field Bank16 size ++ [])))
length-plain_header Bank32 name tid size four = omega (arith, length-append name (field Bank32 tid ++ (field Bank32 size ++ [])))
length-plain_header Bank32A name tid size four = omega (arith, length-append name (field Bank32A tid ++ (field Bank32A size ++ replicate 4 0)))

-- a bank has its header and its data up to a multiple of 8
pub length-plain_bank : (f : Format) (b : BankValue) → length b.name ≡ 4 → length (plain_bank f b) ≡ header_len f + padded (length b.body)
length-plain_bank f b four =
    let head : List ℕ = plain_header f b.name b.tid (length b.body) in
    let zeros : List ℕ = replicate (padding_len (length b.body)) 0 in
    omega (
      arith,
      length-append head (b.body ++ zeros),
      length-append b.body zeros,
      length-replicate {A = ℕ} (padding_len (length b.body)) 0,
      length-plain_header f b.name b.tid (length b.body) four,
    )

pub plain_area-snoc : (f : Format) (bs : List BankValue) (b : BankValue) → plain_area f (bs ++ b ∷ []) ≡ plain_area f bs ++ plain_bank f b
plain_area-snoc f [] b = append-nil (plain_bank f b)
plain_area-snoc f (c ∷ cs) b =
    ap (λ (xs : List ℕ). plain_bank f c ++ xs) (plain_area-snoc f cs b) ∙ sym (append_assoc (plain_bank f c) (plain_area f cs) (plain_bank f b))

pub length-plain_banks : (f : Format) (bs : List BankValue) → length (plain_banks f bs) ≡ 8 + length (plain_area f bs)
unfolding plain_banks
length-plain_banks f bs = omega arith

pub drop-plain_banks : (f : Format) (bs : List BankValue) → drop 8 (plain_banks f bs) ≡ plain_area f bs
unfolding plain_banks
drop-plain_banks f bs = refl

-- one bank more makes the whole so much longer
pub length-plain_banks-snoc : (f : Format) (bs : List BankValue) (b : BankValue) → length b.name ≡ 4
    → length (plain_banks f (bs ++ b ∷ [])) ≡ length (plain_banks f bs) + (header_len f + padded (length b.body))
length-plain_banks-snoc f bs b four =
    omega (
      arith,
      length-plain_banks f bs,
      length-plain_banks f (bs ++ b ∷ []),
      ap length (plain_area-snoc f bs b),
      length-append (plain_area f bs) (plain_bank f b),
      length-plain_bank f b four,
    )

-- a plain bank in front of a rest is a bank and that rest
pub plain_first : (f : Format) (b : BankValue) (rest : List ℕ) → IsBank f b → IsFirst f b rest (plain_bank f b ++ rest)
plain_first f b rest bank =
    let head : List ℕ = plain_header f b.name b.tid (length b.body) in
    let zeros : List ℕ = replicate (padding_len (length b.body)) 0 in
    record {
      bank = bank;
      reserved = replicate (reserved_len f) 0;
      padding = zeros;
      reserved_is = length-replicate {A = ℕ} (reserved_len f) 0;
      padding_is = length-replicate {A = ℕ} (padding_len (length b.body)) 0;
      spelled = append_assoc head (b.body ++ zeros) rest ∙ ap (λ (xs : List ℕ). head ++ xs) (append_assoc b.body zeros rest);
    }

pub plain_before : (f : Format) (bs : List BankValue) → AllByRecursion (IsBank f) bs → BanksBefore f bs [] (plain_area f bs)
plain_before f [] all = refl
plain_before f (b ∷ bs) all = (plain_area f bs, plain_first f b (plain_area f bs) all.0, plain_before f bs all.1)

-- what is written plainly is a bank area of these banks
pub plain_is_area : (f : Format) (bs : List BankValue) → AllByRecursion (IsBank f) bs → length (plain_area f bs) < 2 ^ 32 → IsBankArea f bs (plain_banks f bs)
unfolding plain_banks
plain_is_area f bs all fits = record { area = plain_area f bs; banks = plain_before f bs all; fits = fits; spelled = refl }

-- the banks of plain bytes
pub plain_back : (f : Format) (bs : List BankValue) (bytes : List ℕ) → AllByRecursion (IsBank f) bs → bytes ≡ plain_banks f bs → banks_in f (drop 8 bytes) ≡ bs
plain_back f bs bytes all is =
    ap (λ (xs : List ℕ). banks_in f (drop 8 xs)) is ∙ ap (banks_in f) (drop-plain_banks f bs) ∙ area_is f bs (plain_area f bs) (plain_before f bs all)

drop_front : (f : Format) (bs : List BankValue) (more : List ℕ) → drop 4 (plain_banks f bs ++ more) ≡ to_le_bytes w32 (flags_of f) ++ (plain_area f bs ++ more)
unfolding plain_banks
drop_front f bs more = refl

restated : (f : Format) (bs : List BankValue) (n : ℕ) (area : List ℕ) → area ≡ plain_area f bs → n ≡ length area → to_le_bytes w32 n ++ (to_le_bytes w32 (flags_of f) ++ area) ≡ plain_banks f bs
unfolding plain_banks
restated f bs n area is len =
    ap (λ (k : ℕ). to_le_bytes w32 k ++ (to_le_bytes w32 (flags_of f) ++ area)) len
    ∙ ap (λ (xs : List ℕ). to_le_bytes w32 (length xs) ++ (to_le_bytes w32 (flags_of f) ++ xs)) is

-- a bank behind plain bytes, and the new length in front
pub plain_more : (f : Format) (bs : List BankValue) (b : BankValue) (n : ℕ) → n + 8 ≡ length (plain_banks f bs ++ plain_bank f b)
    → to_le_bytes w32 n ++ drop 4 (plain_banks f bs ++ plain_bank f b) ≡ plain_banks f (bs ++ b ∷ [])
plain_more f bs b n len =
    let area : List ℕ = plain_area f bs ++ plain_bank f b in
    let is : n ≡ length area =
    omega (arith, length-plain_banks f bs, length-append (plain_banks f bs) (plain_bank f b), length-append (plain_area f bs) (plain_bank f b)) in
    ap (λ (xs : List ℕ). to_le_bytes w32 n ++ xs) (drop_front f bs (plain_bank f b)) ∙ restated f (bs ++ b ∷ []) n area (sym (plain_area-snoc f bs b)) is
