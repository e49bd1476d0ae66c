use Rattle.std.proofs.Common.{◌≡◌, ℕ, ◌+◌, ◌*◌, ◌<◌, List, [], ◌∷◌, length, Some, refl, ap, sym, ◌∙◌, arith}
use Rattle.daq_types.specs.Tids.{tid_code}
use Rattle.bank_format.specs.Spelled.{IsBytes}
use Rattle.event_report.specs.declared.integers.IntegerType.{IntegerType}
use Rattle.event_report.specs.declared.integers.IntegerType.TheVariants.{UInt8, Int8, UInt16, Int16, UInt32, Int32, Int64, UInt64}
use Rattle.event_report.specs.Integers.{integer_tid, integer_type}
use Rattle.event_report.specs.Tallies.{order_number}
use Rattle.event_report.proofs.laws.one_number.Goals as goal

code_small : (kind : IntegerType) → tid_code (integer_tid kind) < 256
code_small UInt8 = omega arith
code_small Int8 = omega arith
code_small UInt16 = omega arith
code_small Int16 = omega arith
code_small UInt32 = omega arith
code_small Int32 = omega arith
code_small Int64 = omega arith
code_small UInt64 = omega arith

type_back : (kind : IntegerType) → integer_type (tid_code (integer_tid kind)) ≡ Some kind
type_back UInt8 = refl
type_back Int8 = refl
type_back UInt16 = refl
type_back Int16 = refl
type_back UInt32 = refl
type_back Int32 = refl
type_back Int64 = refl
type_back UInt64 = refl

same_kind : (kind other : IntegerType) → Some kind ≡ Some other → kind ≡ other
same_kind kind other e = cc

same_name : (a b c d e f g h : ℕ) → a ≡ e → b ≡ f → c ≡ g → d ≡ h → a ∷ b ∷ c ∷ d ∷ [] ≡ e ∷ f ∷ g ∷ h ∷ []
same_name a b c d e f g h p q r s = rw (p, q, r, s) refl

number_of : (a b c d : ℕ) (kind : IntegerType) → order_number (a ∷ b ∷ c ∷ d ∷ []) kind ≡ (a * 16777216 + b * 65536 + c * 256 + d) * 256 + tid_code (integer_tid kind)
number_of a b c d kind = omega arith

tells : (a b : List ℕ) (kind other : IntegerType) → IsBytes a → IsBytes b → length a ≡ 4 → length b ≡ 4 → order_number a kind ≡ order_number b other → (a ≡ b) × (kind ≡ other)
tells (a ∷ b ∷ c ∷ d ∷ []) (e ∷ f ∷ g ∷ h ∷ []) kind other small small' four four' same =
    let k = tid_code (integer_tid kind) in
    let l = tid_code (integer_tid other) in
    let k_small = code_small kind in
    let l_small = code_small other in
    let is : (a * 16777216 + b * 65536 + c * 256 + d) * 256 + k ≡ (e * 16777216 + f * 65536 + g * 256 + h) * 256 + l = sym (number_of a b c d kind) ∙ same ∙ number_of e f g h other in
    let codes_same : k ≡ l = omega arith in (
      same_name a b c d e f g h
          (omega (arith, small 1, small 2, small 3, small' 1, small' 2, small' 3))
          (omega (arith, small 0, small 1, small 2, small 3, small' 0, small' 1, small' 2, small' 3))
          (omega (arith, small 0, small 1, small 2, small 3, small' 0, small' 1, small' 2, small' 3))
          (omega (arith, small 0, small 1, small 2, small 3, small' 0, small' 1, small' 2, small' 3)),
      same_kind kind other (sym (type_back kind) ∙ ap integer_type codes_same ∙ type_back other),
    )
tells a b kind other small small' four four' same = absurd (omega arith)

pub returns : goal.returns
returns c = tells
