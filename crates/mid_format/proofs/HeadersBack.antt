-- The header in front of bytes that begin with a header's.
use Rattle.std.proofs.Common.{◌≡◌, ◌∙◌, ℕ, ◌+◌, ◌≤◌, ◌==◌, nat_lt, if◌then◌else◌, List, ◌++◌, length, Option, Some, None, false, refl, ap, arith, ne_eqb, length-append}
use Rattle.std.proofs.lemmas.Bool.{le-ltb}
use Rattle.std.proofs.lemmas.Nat.{from_le_bytes-to_le_bytes_2, from_le_bytes-to_le_bytes_4}
use Rattle.event.specs.Events.{header_bytes}
use Rattle.event.specs.Headers.{header_encoding}
use Rattle.event.proofs.Headers.{length-header_encoding}
use Rattle.event.specs.declared.head.Header.{Header}
use Rattle.mid_format.specs.Faults.{header_at, header_fault, or_else, fault_at}
use Rattle.mid_format.specs.declared.faults.MidFault.{MidFault}
use Rattle.mid_format.specs.declared.faults.MidFault.TheVariants.{Truncated}
use Rattle.mid_format.specs.Parts.{IsInRange}

make : (id mask serial time size : ℕ) → Header
make id mask serial time size = record { event_id = id; trigger_mask = mask; serial_number = serial; time_stamp = time; data_size = size }

same : {a a' b b' c c' d d' e e' : ℕ} → a ≡ a' → b ≡ b' → c ≡ c' → d ≡ d' → e ≡ e' → make a b c d e ≡ make a' b' c' d' e'
same pa pb pc pd pe = cc

pub header_back : (h : Header) (more : List ℕ) → IsInRange h → header_at (header_encoding h ++ more) ≡ h
unfolding header_bytes make
header_back h more r = same (from_le_bytes-to_le_bytes_2 h.event_id r.event_id) (from_le_bytes-to_le_bytes_2 h.trigger_mask r.trigger_mask)
    (from_le_bytes-to_le_bytes_4 h.serial_number r.serial_number) (from_le_bytes-to_le_bytes_4 h.time_stamp r.time_stamp) (from_le_bytes-to_le_bytes_4 h.data_size r.data_size)

-- what stands behind a whole header
abbrev pub fault_behind : (run : Option ℕ) (at : ℕ) (rest : List ℕ) → Header → Option MidFault
fault_behind run at rest h = or_else (header_fault run at h) (if nat_lt (length rest) (16 + h.data_size) then Some (Truncated (at + length rest)) else None)

whole_head : (run : Option ℕ) (at : ℕ) (rest : List ℕ) → 16 ≤ length rest → fault_at run at rest ≡ fault_behind run at rest (header_at rest)
whole_head run at rest long =
    let n : (length rest == 0) ≡ false = ne_eqb (length rest) 0 (λ e. omega (arith, long, e)) in
    rw (n, le-ltb (length rest) 16 long) refl

pub behind_head : (run : Option ℕ) (at : ℕ) (h : Header) (more : List ℕ) → IsInRange h → fault_at run at (header_encoding h ++ more) ≡ fault_behind run at (header_encoding h ++ more) h
behind_head run at h more r =
    whole_head run at (header_encoding h ++ more) (omega (arith, length-append (header_encoding h) more, length-header_encoding h))
    ∙ ap (fault_behind run at (header_encoding h ++ more)) (header_back h more r)
