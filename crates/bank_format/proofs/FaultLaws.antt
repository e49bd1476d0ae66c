-- The first fault is one, and no bank area has one.
use Rattle.std.proofs.Common.{◌≡◌, ℕ, List, [], ◌∷◌, length, drop, Some, sym, ap, subst, ◌∙◌, inl, inr}
use Rattle.bank_format.specs.declared.formats.Format.{Format}
use Rattle.bank_format.specs.declared.faults.BankFault.{BankFault}
use Rattle.bank_format.specs.BankAreas.{BankValue, BanksBefore, IsBankArea}
use Rattle.bank_format.specs.Faults.{bank_fault, BreaksOff, AreaBreaksOff, IsFirstFault}
use Rattle.bank_format.proofs.BankLaws.{front_is}
use Rattle.bank_format.proofs.AreaLaws.{first_has, fits_no_fault}
use Rattle.bank_format.proofs.FrontLaws.{one_format, no_fault, front_broken, broken_area}

same_fault : (a b : BankFault) → Some a ≡ Some b → a ≡ b
same_fault a b e = cc

-- two places at which a bank does not fit have the same fault
one_break : (f : Format) (total : ℕ) (bs cs : List BankValue) (left left' area : List ℕ) (a b : BankFault) → BanksBefore f bs left area → BanksBefore f cs left' area
    → bank_fault f total left ≡ Some a → bank_fault f total left' ≡ Some b → a ≡ b
one_break f total [] [] left left' area a b here here' is is' =
    same_fault a b (sym is ∙ ap (bank_fault f total) (sym here ∙ here') ∙ is')
one_break f total (c ∷ bs) [] left left' area a b (middle, first, tail) here' is is' =
    absurd (fits_no_fault f total area b (first_has f c middle area first) (ap (bank_fault f total) here' ∙ is'))
one_break f total [] (c ∷ cs) left left' area a b here (middle, first, tail) is is' =
    absurd (fits_no_fault f total area a (first_has f c middle area first) (ap (bank_fault f total) here ∙ is))
one_break f total (c ∷ bs) (d ∷ cs) left left' area a b (middle, first, tail) (middle', first', tail') is is' =
    let same : middle ≡ middle' = sym (front_is f c middle area first).rest_is ∙ (front_is f d middle' area first').rest_is in
    one_break f total bs cs left left' middle' a b (subst (λ (xs : List ℕ). BanksBefore f bs left xs) same tail) tail' is is'

one_area_break : (bytes : List ℕ) (a b : BankFault) → AreaBreaksOff bytes a → AreaBreaksOff bytes b → a ≡ b
one_area_break bytes a b first second =
    let f : Format = second.format in
    let same : first.format ≡ f = one_format first.format f (sym first.named ∙ second.named) in
    let moved : BreaksOff f (length bytes) (drop 8 bytes) a = subst (λ (g : Format). BreaksOff g (length bytes) (drop 8 bytes) a) same first.bank in
    one_break f (length bytes) moved.passes.banks second.bank.passes.banks moved.left second.bank.left (drop 8 bytes) a b moved.passes.before second.bank.passes.before moved.is second.bank.is

-- bytes have one first fault at most
pub one_fault : (bytes : List ℕ) (a b : BankFault) → IsFirstFault bytes a → IsFirstFault bytes b → a ≡ b
one_fault bytes a b (inl e) (inl e') = same_fault a b (sym e ∙ e')
one_fault bytes a b (inl e) (inr y) = absurd (no_fault a (sym e ∙ y.front))
one_fault bytes a b (inr x) (inl e') = absurd (no_fault b (sym e' ∙ x.front))
one_fault bytes a b (inr x) (inr y) = one_area_break bytes a b x y

-- a bank area has none
pub area_has_no_fault : (f : Format) (bs : List BankValue) (bytes : List ℕ) (a : BankFault) → IsBankArea f bs bytes → IsFirstFault bytes a → ⊥
area_has_no_fault f bs bytes a whole (inl e) = front_broken f bs bytes a whole e
area_has_no_fault f bs bytes a whole (inr x) = broken_area f x.format bs bytes a whole x.named x.bank
