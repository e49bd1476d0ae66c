-- The front of an area by its places, and the laws of whole bank areas.
use Rattle.std.proofs.Common.{◌≡◌, ℕ, ◌+◌, ◌^◌, ◌<◌, ◌≤◌, Bool, true, false, cond, eqb, ltb, List, [], ◌∷◌, ◌++◌, length, drop, Option, Some, None, refl, sym, ap, subst, ◌∙◌, arith, length-drop, inl, inr}
use Rattle.std.specs.Prelude.{◌⊎◌, is_none}
use Rattle.std.specs.Int.{to_le_bytes, w32}
use Rattle.std.proofs.lemmas.Bool.{ltb-false, le-ltb, eqb-true}
use Rattle.std.proofs.lemmas.Nat.{from_le_bytes-to_le_bytes_4}
use Rattle.bank_format.specs.declared.formats.Format.{Format}
use Rattle.bank_format.specs.declared.formats.Format.TheVariants.{Bank16, Bank32, Bank32A}
use Rattle.bank_format.specs.declared.faults.BankFault.{BankFault}
use Rattle.bank_format.specs.declared.faults.BankFault.TheVariants.{Short, BadFlags, BadSize}
use Rattle.bank_format.specs.Formats.{flags_of, format_with}
use Rattle.bank_format.specs.BankAreas.{BankValue, BanksBefore, IsBankArea}
use Rattle.bank_format.specs.Places.{stated_length, stated_flags, banks_in}
use Rattle.bank_format.specs.Faults.{front_fault, BreaksOff}
use Rattle.bank_format.specs.Spelled.{IsBytes}
use Rattle.bank_format.proofs.Spelled.{word_back}
use Rattle.bank_format.proofs.AreaLaws.{area_is, broken_is_not_whole}

some_format : Format → Option Format
some_format f = Some f

pub named : (f : Format) → format_with (flags_of f) ≡ Some f
named Bank16 = refl
named Bank32 = refl
named Bank32A = refl

flags_small : (f : Format) → flags_of f < 2 ^ 32
flags_small Bank16 = omega arith
flags_small Bank32 = omega arith
flags_small Bank32A = omega arith

-- which side of a choice was taken
chosen : {A : Type 0} (b : Bool) (x y z : A) → cond b x y ≡ z → ((b ≡ true) × (x ≡ z)) ⊎ ((b ≡ false) × (y ≡ z))
chosen true x y z e = inl (refl, e)
chosen false x y z e = inr (refl, e)

pub one_format : (f g : Format) → Some f ≡ Some g → f ≡ g
one_format f g e = cc

no_format : (f : Format) → None ≡ Some f → ⊥
no_format f e = cc

pub no_fault : (fault : BankFault) → Some fault ≡ None → ⊥
no_fault fault e = cc

-- only its own flags name a format
pub flags_named : (n : ℕ) (f : Format) → format_with n ≡ Some f → n ≡ flags_of f
flags_named n f e =
    elim (chosen (eqb n 1) (Some Bank16) (cond (eqb n 17) (Some Bank32) (cond (eqb n 49) (Some Bank32A) None)) (Some f) e) [
      | inl h ↦ eqb-true n 1 h.0 ∙ ap flags_of (one_format Bank16 f h.1)
      | inr h ↦ elim (chosen (eqb n 17) (Some Bank32) (cond (eqb n 49) (Some Bank32A) None) (Some f) h.1) [
        | inl i ↦ eqb-true n 17 i.0 ∙ ap flags_of (one_format Bank32 f i.1)
        | inr i ↦ elim (chosen (eqb n 49) (Some Bank32A) None (Some f) i.1) [
          | inl j ↦ eqb-true n 49 j.0 ∙ ap flags_of (one_format Bank32A f j.1)
          | inr j ↦ absurd (no_format f j.1)
        ]
      ]
    ]

-- what stands in front of an area, by its places
pub record FrontIs (f : Format) (area bytes : List ℕ) : Type 0 where
  pub length_is : stated_length bytes ≡ length area
  pub flags_is : stated_flags bytes ≡ flags_of f
  pub area_is : drop 8 bytes ≡ area
  pub total : length bytes ≡ 8 + length area

front_spelled : (f : Format) (area : List ℕ) → length area < 2 ^ 32 → FrontIs f area (to_le_bytes w32 (length area) ++ (to_le_bytes w32 (flags_of f) ++ area))
unfolding stated_length stated_flags
front_spelled f area fits =
    record {
      length_is = from_le_bytes-to_le_bytes_4 (length area) fits;
      flags_is = from_le_bytes-to_le_bytes_4 (flags_of f) (flags_small f);
      area_is = refl;
      total = omega arith;
    }

pub front_of : (f : Format) (bs : List BankValue) (bytes : List ℕ) (whole : IsBankArea f bs bytes) → FrontIs f whole.area bytes
front_of f bs bytes whole = subst (λ (xs : List ℕ). FrontIs f whole.area xs) (sym whole.spelled) (front_spelled f whole.area whole.fits)

pub named_by : (f : Format) (bs : List BankValue) (bytes : List ℕ) → IsBankArea f bs bytes → format_with (stated_flags bytes) ≡ Some f
named_by f bs bytes whole = ap format_with (front_of f bs bytes whole).flags_is ∙ named f

-- nothing is wrong in front of a whole bank area
pub front_right : (f : Format) (bs : List BankValue) (bytes : List ℕ) → IsBankArea f bs bytes → front_fault bytes ≡ None
unfolding front_fault
front_right f bs bytes whole =
    let front = front_of f bs bytes whole in
    let some : is_none (format_with (stated_flags bytes)) ≡ false = ap is_none (named_by f bs bytes whole) in
    let long : ltb (length bytes) 8 ≡ false = le-ltb _ _ (omega arith) in
    let enough : ltb (length bytes) (8 + stated_length bytes) ≡ false = le-ltb _ _ (omega arith) in
    let most : ltb (8 + stated_length bytes) (length bytes) ≡ false = le-ltb _ _ (omega arith) in
    rw (long, some, enough, most) refl

-- where nothing is wrong in front, the bytes are as long as they state
pub record FrontFits (bytes : List ℕ) : Type 0 where
  pub long : 8 ≤ length bytes
  pub total : length bytes ≡ 8 + stated_length bytes

pub front_fits : (bytes : List ℕ) → front_fault bytes ≡ None → FrontFits bytes
unfolding front_fault
front_fits bytes right =
    elim (chosen (ltb (length bytes) 8) (Some (Short (length bytes))) _ None right) [
      | inl h ↦ absurd (no_fault _ h.1)
      | inr h ↦ elim (chosen (is_none (format_with (stated_flags bytes))) (Some (BadFlags (stated_flags bytes))) _ None h.1) [
        | inl i ↦ absurd (no_fault _ i.1)
        | inr i ↦ elim (chosen (ltb (length bytes) (8 + stated_length bytes)) (Some (Short (length bytes))) _ None i.1) [
          | inl j ↦ absurd (no_fault _ j.1)
          | inr j ↦ elim (chosen (ltb (8 + stated_length bytes) (length bytes)) (Some (BadSize 0)) None None j.1) [
            | inl k ↦ absurd (no_fault _ k.1)
            | inr k ↦
                let long : 8 ≤ length bytes = ltb-false _ _ h.0 in
                let enough : 8 + stated_length bytes ≤ length bytes = ltb-false _ _ j.0 in
                let most : length bytes ≤ 8 + stated_length bytes = ltb-false _ _ k.0 in
                record { long = long; total = omega arith }
          ]
        ]
      ]
    ]

front_joined : (xs : List ℕ) {p p' q q' : List ℕ} → p ≡ p' → q ≡ q' → p' ++ (q' ++ xs) ≡ p ++ (q ++ xs)
front_joined xs p-is q-is = cc

-- bytes are the two numbers that stand in front, and the area
pub front_again : (bytes : List ℕ) → 8 ≤ length bytes → IsBytes bytes
    → bytes ≡ to_le_bytes w32 (stated_length bytes) ++ (to_le_bytes w32 (stated_flags bytes) ++ drop 8 bytes)
unfolding stated_length stated_flags
front_again (a ∷ b ∷ c ∷ d ∷ e ∷ f ∷ g ∷ h ∷ xs) long small =
    front_joined xs (word_back a b c d (small 0) (small 1) (small 2) (small 3)) (word_back e f g h (small 4) (small 5) (small 6) (small 7))
front_again bytes long small = absurd (omega arith)

stated_below : (bytes : List ℕ) → IsBytes bytes → stated_length bytes < 2 ^ 32
unfolding stated_length
stated_below bytes small = omega (arith, small 0, small 1, small 2, small 3)

-- a right front and an area of whole banks are a bank area
pub is_bank_area : (f : Format) (bs : List BankValue) (bytes : List ℕ) → IsBytes bytes → front_fault bytes ≡ None → format_with (stated_flags bytes) ≡ Some f → BanksBefore f bs [] (drop 8 bytes) → IsBankArea f bs bytes
is_bank_area f bs bytes small right is before =
    let fits = front_fits bytes right in
    let len : stated_length bytes ≡ length (drop 8 bytes) = omega (arith, fits.total, length-drop 8 bytes) in
    record {
      area = drop 8 bytes;
      banks = before;
      fits = omega (arith, len, stated_below bytes small);
      spelled = front_again bytes fits.long small
          ∙ ap (λ (n : ℕ). to_le_bytes w32 n ++ (to_le_bytes w32 (stated_flags bytes) ++ drop 8 bytes)) len
          ∙ ap (λ (n : ℕ). to_le_bytes w32 (length (drop 8 bytes)) ++ (to_le_bytes w32 n ++ drop 8 bytes)) (flags_named (stated_flags bytes) f is);
    }

-- the banks of a bank area are those that stand at their places
pub banks_are : (f : Format) (bs : List BankValue) (bytes : List ℕ) → IsBankArea f bs bytes → banks_in f (drop 8 bytes) ≡ bs
banks_are f bs bytes whole = ap (banks_in f) (front_of f bs bytes whole).area_is ∙ area_is f bs whole.area whole.banks

-- the bytes of one bank area are of no other
pub area_again : (f g : Format) (bs cs : List BankValue) (bytes : List ℕ) → IsBankArea f bs bytes → IsBankArea g cs bytes → (f ≡ g) × (bs ≡ cs)
area_again f g bs cs bytes first second =
    let same : f ≡ g = one_format f g (sym (named_by f bs bytes first) ∙ named_by g cs bytes second) in
    (same, sym (banks_are f bs bytes first) ∙ ap (λ (h : Format). banks_in h (drop 8 bytes)) same ∙ banks_are g cs bytes second)

-- where a bank does not fit, the bytes are no bank area
pub broken_area : (f g : Format) (bs : List BankValue) (bytes : List ℕ) (fault : BankFault) → IsBankArea f bs bytes → format_with (stated_flags bytes) ≡ Some g → BreaksOff g (length bytes) (drop 8 bytes) fault → ⊥
broken_area f g bs bytes fault whole is broken =
    let same : f ≡ g = one_format f g (sym (named_by f bs bytes whole) ∙ is) in
    let banks : BanksBefore f bs [] (drop 8 bytes) = subst (λ (xs : List ℕ). BanksBefore f bs [] xs) (sym (front_of f bs bytes whole).area_is) whole.banks in
    broken_is_not_whole g (length bytes) bs broken.passes.banks broken.left (drop 8 bytes) fault (subst (λ (h : Format). BanksBefore h bs [] (drop 8 bytes)) same banks) broken.passes.before broken.is

-- a fault in front is none of a bank area
pub front_broken : (f : Format) (bs : List BankValue) (bytes : List ℕ) (fault : BankFault) → IsBankArea f bs bytes → front_fault bytes ≡ Some fault → ⊥
front_broken f bs bytes fault whole is = no_fault fault (sym is ∙ front_right f bs bytes whole)
