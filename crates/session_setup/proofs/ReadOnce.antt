-- A text is read in one way.
use Rattle.std.specs.Prelude.{◌≡◌, ℕ, ◌<◌, ◌≤◌, Bool, false, true, List, [], length, Option, Some, None, Ok, Err, refl}
use Rattle.std.proofs.Common.{arith, ap, sym, ◌∙◌, inl, inr}
use Rattle.std.proofs.lemmas.Bool.Decides.{eqb_tells, leb_tells}
use Rattle.daq_types.specs.Names.{IsName}
use Rattle.daq_types.specs.NameFaults.{IsNameFault}
use Rattle.daq_types.specs.declared.names.NameRefusal.{NameRefusal}
use Rattle.daq_types.specs.declared.names.NameRefusal.TheVariants.{EmptyName, LongName, BadByte}
use Rattle.mid_logger.specs.Patterns.{NamePattern, IsPattern, pattern_text}
use Rattle.session_setup.specs.Refusals.{NameRead, IsNameRead}
use Rattle.session_setup.specs.SetupLines.{IsPatternRead}

-- a name has no fault
no_fault : (text : List ℕ) (r : NameRefusal) → IsName text → IsNameFault text r → ⊥
no_fault text EmptyName is fault = let none : length text ≡ 0 = ap (λ (t : List ℕ). length t) fault in let some = is.some in omega (arith, none, some)
no_fault text LongName is fault = let short = is.short in omega (arith, short, fault)
no_fault text (BadByte at) is fault = let never : false ≡ true = sym (is.bytes at fault.inside) ∙ fault.breaks in cc (never)

empty_length : (text : List ℕ) → text ≡ [] → length text ≡ 0
empty_length text h = ap (λ (t : List ℕ). length t) h

-- a text has one fault
one_fault : (text : List ℕ) (q r : NameRefusal) → IsNameFault text q → IsNameFault text r → q ≡ r
one_fault text EmptyName EmptyName a b = refl
one_fault text EmptyName LongName a b = absurd (omega (arith, empty_length text a, b))
one_fault text EmptyName (BadByte at) a b = let some = b.some in absurd (omega (arith, empty_length text a, some))
one_fault text LongName EmptyName a b = absurd (omega (arith, empty_length text b, a))
one_fault text LongName LongName a b = refl
one_fault text LongName (BadByte at) a b = let short = b.short in absurd (omega (arith, a, short))
one_fault text (BadByte at) EmptyName a b = let some = a.some in absurd (omega (arith, empty_length text b, some))
one_fault text (BadByte at) LongName a b = let short = a.short in absurd (omega (arith, b, short))
one_fault text (BadByte i) (BadByte j) a b = elim (eqb_tells i j) [
  | inl same ↦ ap BadByte same.1
  | inr other ↦ elim (leb_tells i j) [
    | inl below ↦ let never : false ≡ true = sym (b.first i (omega (arith, below.1, other.1))) ∙ a.breaks in absurd (cc (never))
    | inr above ↦ let never : false ≡ true = sym (a.first j above.1) ∙ b.breaks in absurd (cc (never))
  ]
]

pub name_once : (text : List ℕ) (a b : NameRead) → IsNameRead text a → IsNameRead text b → a ≡ b
name_once text (Ok x) (Ok y) a b = ap Ok (a.1 ∙ sym b.1)
name_once text (Ok x) (Err r) a b = absurd (no_fault text r a.0 b)
name_once text (Err r) (Ok y) a b = absurd (no_fault text r b.0 a)
name_once text (Err q) (Err r) a b = ap Err (one_fault text q r a b)

pub pattern_once : ((p q : NamePattern) → IsPattern p → IsPattern q → pattern_text p ≡ pattern_text q → p ≡ q)
    → (text : List ℕ) (limited : Bool) (a b : Option NamePattern) → IsPatternRead text limited a → IsPatternRead text limited b → a ≡ b
pattern_once one text limited (Some p) (Some q) a b = ap Some (one p q a.is b.is (sym a.whole ∙ b.whole))
pattern_once one text limited (Some p) None a b = absurd (b (p, a))
pattern_once one text limited None (Some q) a b = absurd (a (q, b))
pattern_once one text limited None None a b = refl
