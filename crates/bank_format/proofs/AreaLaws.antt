-- Areas of whole banks: they grow at the end, they spell one list of banks, and a bank that does not fit ends them.
use Rattle.std.proofs.Common.{◌≡◌, ℕ, zero, suc, ◌+◌, ◌<◌, ◌≤◌, false, eqb, ltb, List, [], ◌∷◌, ◌++◌, length, Some, None, refl, sym, ap, subst, ◌∙◌, arith}
use Rattle.std.proofs.lemmas.Bool.{le-ltb}
use Rattle.std.proofs.lemmas.List.{nil_from_length}
use Rattle.bank_format.specs.declared.formats.Format.{Format}
use Rattle.bank_format.specs.declared.faults.BankFault.{BankFault}
use Rattle.bank_format.specs.Formats.{header_len, padded}
use Rattle.bank_format.specs.BankAreas.{BankValue, IsFirst, BanksBefore}
use Rattle.bank_format.specs.Places.{front_bank, behind_bank, HasBank, banks_within, banks_in, stated_size}
use Rattle.bank_format.specs.Faults.{bank_fault, PassesBanks}
use Rattle.bank_format.specs.Spelled.{IsBytes}
use Rattle.bank_format.proofs.BankLaws.{front_is, front_back, behind_is_shorter, header_is_some}

before-snoc : (f : Format) (bs : List BankValue) (b : BankValue) (rest left area : List ℕ) → BanksBefore f bs left area → IsFirst f b rest left → BanksBefore f (bs ++ b ∷ []) rest area
before-snoc f [] b rest left area here first = (rest, subst (λ (xs : List ℕ). IsFirst f b rest xs) (sym here) first, refl)
before-snoc f (c ∷ cs) b rest left area (middle, head, tail) first = (middle, head, before-snoc f cs b rest left middle tail first)

-- one bank further
pub passes-more : (f : Format) (area left : List ℕ) → PassesBanks f area left → HasBank f left → IsBytes left → PassesBanks f area (behind_bank f left)
passes-more f area left passes has small =
    record {
      banks = passes.banks ++ front_bank f left ∷ [];
      before = before-snoc f passes.banks (front_bank f left) (behind_bank f left) left area passes.before (front_back f left has small);
    }

-- no bank leads from a place to itself
pub passes-none : (f : Format) (area : List ℕ) → PassesBanks f area area
passes-none f area = record { banks = []; before = refl }

-- an area of whole banks has something in it where it has a bank
pub first_has : (f : Format) (b : BankValue) (rest bytes : List ℕ) → IsFirst f b rest bytes → HasBank f bytes
first_has f b rest bytes first = (front_is f b rest bytes first).has

within_nil : (f : Format) (n : ℕ) → banks_within n f [] ≡ []
unfolding banks_within
within_nil f zero = refl
within_nil f (suc n) = refl

within_cons : (f : Format) (n : ℕ) (area : List ℕ) → HasBank f area → banks_within (suc n) f area ≡ front_bank f area ∷ banks_within n f (behind_bank f area)
unfolding banks_within
within_cons f n area has =
    let some : eqb (length area) 0 ≡ false = grind (arith, has.header, header_is_some f) in
    rw some refl

-- an area of whole banks spells these banks, and no others
pub area_read : (f : Format) (bs : List BankValue) (area : List ℕ) (n : ℕ) → BanksBefore f bs [] area → length area ≤ n → banks_within n f area ≡ bs
area_read f [] area n none le = ap (banks_within n f) none ∙ within_nil f n
area_read f (b ∷ bs) area zero (middle, first, tail) le =
    let has = first_has f b middle area first in
    absurd (omega (arith, has.header, header_is_some f))
area_read f (b ∷ bs) area (suc n) (middle, first, tail) le =
    let front = front_is f b middle area first in
    let shorter = behind_is_shorter f area front.has in
    let le' : length middle ≤ n = omega (arith, ap length front.rest_is, shorter, header_is_some f) in
    within_cons f n area front.has
    ∙ ap (λ (c : BankValue). c ∷ banks_within n f (behind_bank f area)) front.bank
    ∙ ap (λ (xs : List ℕ). b ∷ banks_within n f xs) front.rest_is
    ∙ ap (λ (cs : List BankValue). b ∷ cs) (area_read f bs middle n tail le')

pub area_is : (f : Format) (bs : List BankValue) (area : List ℕ) → BanksBefore f bs [] area → banks_in f area ≡ bs
unfolding banks_in
area_is f bs area before = area_read f bs area (length area) before (omega arith)

-- an area of whole banks is what its banks by their places spell
pub area_whole : (f : Format) (area : List ℕ) → PassesBanks f area [] → BanksBefore f (banks_in f area) [] area
area_whole f area passes =
    subst (λ (bs : List BankValue). BanksBefore f bs [] area) (sym (area_is f passes.banks area passes.before)) passes.before

-- how an area of whole banks goes on that is not at its end
pub record GoesOn (f : Format) (area : List ℕ) : Type 0 where
  pub has : HasBank f area
  pub banks : banks_in f area ≡ front_bank f area ∷ banks_in f (behind_bank f area)
  pub whole : BanksBefore f (banks_in f (behind_bank f area)) [] (behind_bank f area)

goes_on_so : (f : Format) (bs : List BankValue) (area : List ℕ) → BanksBefore f bs [] area → 0 < length area → GoesOn f area
goes_on_so f [] area none some = absurd (omega (arith, ap length none))
goes_on_so f (b ∷ bs) area (middle, first, tail) some =
    let front = front_is f b middle area first in
    let behind : BanksBefore f bs [] (behind_bank f area) = subst (λ (xs : List ℕ). BanksBefore f bs [] xs) (sym front.rest_is) tail in
    let rest_is : banks_in f (behind_bank f area) ≡ bs = area_is f bs (behind_bank f area) behind in
    record {
      has = front.has;
      banks = area_is f (b ∷ bs) area (middle, first, tail) ∙ ap (λ (c : BankValue). c ∷ bs) (sym front.bank) ∙ ap (λ (cs : List BankValue). front_bank f area ∷ cs) (sym rest_is);
      whole = subst (λ (cs : List BankValue). BanksBefore f cs [] (behind_bank f area)) (sym rest_is) behind;
    }

pub goes_on : (f : Format) (area : List ℕ) → BanksBefore f (banks_in f area) [] area → 0 < length area → GoesOn f area
goes_on f area whole some = goes_on_so f (banks_in f area) area whole some

-- where nothing is left there is no bank
pub banks_in-nil : (f : Format) (area : List ℕ) → length area ≡ 0 → banks_in f area ≡ []
unfolding banks_in
banks_in-nil f area none = let e : area ≡ [] = nil_from_length area none in ap (banks_in f) e ∙ within_nil f 0

none_is_not_some : (fault : BankFault) → None ≡ Some fault → ⊥
none_is_not_some fault e = cc

-- a bank that fits is no fault
pub fits_no_fault : (f : Format) (total : ℕ) (left : List ℕ) (fault : BankFault) → HasBank f left → bank_fault f total left ≡ Some fault → ⊥
unfolding bank_fault
fits_no_fault f total left fault has is =
    let some : eqb (length left) 0 ≡ false = grind (arith, has.header, header_is_some f) in
    let long : ltb (length left) (header_len f) ≡ false = le-ltb _ _ has.header in
    let whole : ltb (length left) (header_len f + padded (stated_size f left)) ≡ false = le-ltb _ _ has.with_data in
    let none : bank_fault f total left ≡ None = rw (some, long, whole) refl in
    none_is_not_some fault (sym none ∙ is)

-- where a bank does not fit, something is left
fault_some : (f : Format) (total : ℕ) (fault : BankFault) → bank_fault f total [] ≡ Some fault → ⊥
unfolding bank_fault
fault_some f total fault is = cc

-- an area in which a bank does not fit is no area of whole banks
pub broken_is_not_whole : (f : Format) (total : ℕ) (bs cs : List BankValue) (left area : List ℕ) (fault : BankFault) → BanksBefore f bs [] area → BanksBefore f cs left area → bank_fault f total left ≡ Some fault → ⊥
broken_is_not_whole f total [] [] left area fault none here is =
    fault_some f total fault (ap (bank_fault f total) (sym none ∙ here) ∙ is)
broken_is_not_whole f total (b ∷ bs) [] left area fault (middle, first, tail) here is =
    fits_no_fault f total area fault (first_has f b middle area first) (ap (bank_fault f total) here ∙ is)
broken_is_not_whole f total [] (c ∷ cs) left area fault none (middle, first, tail) is =
    let has = first_has f c middle area first in
    absurd (omega (arith, ap length none, has.header, header_is_some f))
broken_is_not_whole f total (b ∷ bs) (c ∷ cs) left area fault (middle, first, tail) (middle', first', tail') is =
    let same : middle ≡ middle' = sym (front_is f b middle area first).rest_is ∙ (front_is f c middle' area first').rest_is in
    broken_is_not_whole f total bs cs left middle' fault (subst (λ (xs : List ℕ). BanksBefore f bs [] xs) same tail) tail' is
