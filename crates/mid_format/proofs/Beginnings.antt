-- Data that are cut behind a header are a fault at the header.
use Rattle.std.proofs.Common.{◌≡◌, ◌∙◌, ℕ, ◌+◌, ◌<◌, nat_lt, if◌then◌else◌, List, ◌++◌, length, Option, Some, None, IfSome, ap, sym, subst, arith, length-append}
use Rattle.std.proofs.lemmas.Bool.{lt-ltb}
use Rattle.std.specs.Io.KnownBytes.{Consumes}
use Rattle.event.specs.Headers.{header_encoding}
use Rattle.event.proofs.Headers.{length-header_encoding}
use Rattle.event.specs.declared.head.Header.{Header}
use Rattle.mid_format.specs.Faults.{header_fault, fault_at, or_else, OfBytes}
use Rattle.mid_format.specs.Parts.{IsInRange, LacksBytes}
use Rattle.mid_format.specs.declared.faults.MidFault.{MidFault}
use Rattle.mid_format.specs.declared.faults.MidFault.TheVariants.{Truncated, NoBegin, NoEnd, AfterEnd, TooBig, ReadFault, BadRecord, TooLong}
use Rattle.mid_format.proofs.HeadersBack.{behind_head}

pub map_fault : (f : MidFault) (P Q : Type 0) → (P → Q) → OfBytes f P → OfBytes f Q
map_fault (Truncated at) P Q g p = g p
map_fault (NoBegin at) P Q g p = g p
map_fault (NoEnd at) P Q g p = g p
map_fault (AfterEnd at) P Q g p = g p
map_fault (TooBig at size) P Q g p = g p
map_fault ReadFault P Q g p = tt
map_fault (BadRecord at) P Q g p = g p
map_fault (TooLong at) P Q g p = g p

-- what is true of the bytes behind those that were taken is true of them with those in front
pub told_behind : (before after : Option (List ℕ)) (bytes : List ℕ) (P Q : List ℕ → Type 0) → Consumes before after bytes → ((rest : List ℕ) → P rest → Q (bytes ++ rest)) → IfSome after P → IfSome before Q
told_behind None after bytes P Q c f p = tt
told_behind (Some xs) None bytes P Q c f p = absurd c
told_behind (Some xs) (Some ys) bytes P Q c f p = subst Q (sym c) (f ys p)

cut_data : (run : Option ℕ) (at : ℕ) (h : Header) (rest : List ℕ) (f : MidFault) → header_fault run at h ≡ None → IsInRange h → length rest < h.data_size → f ≡ Truncated (at + 16 + length rest)
    → fault_at run at (header_encoding h ++ rest) ≡ Some f
cut_data run at h rest f fine r short is_cut =
    let long : length (header_encoding h ++ rest) ≡ 16 + length rest = length-append (header_encoding h) rest ∙ ap (λ n. n + length rest) (length-header_encoding h) in
    behind_head run at h rest r
    ∙ ap (λ (first : Option MidFault). or_else first (if nat_lt (length (header_encoding h ++ rest)) (16 + h.data_size) then Some (Truncated (at + length (header_encoding h ++ rest))) else None)) fine
    ∙ ap (λ b. if b then Some (Truncated (at + length (header_encoding h ++ rest))) else None) (lt-ltb (length (header_encoding h ++ rest)) (16 + h.data_size) (omega (arith, long, short)))
    ∙ ap (λ n. Some (Truncated n)) {x = at + length (header_encoding h ++ rest)} {y = at + 16 + length rest} (omega (arith, long)) ∙ ap Some (sym is_cut)

pub cut_behind : (before after : Option (List ℕ)) (run : Option ℕ) (at : ℕ) (h : Header) (f : MidFault) → Consumes before after (header_encoding h) → header_fault run at h ≡ None → IsInRange h
    → LacksBytes after (at + 16) h.data_size f → OfBytes f (IfSome before (λ rest. fault_at run at rest ≡ Some f))
cut_behind before after run at h f c fine r cut =
    map_fault f (IfSome after (λ rest. (length rest < h.data_size) × (f ≡ Truncated (at + 16 + length rest)))) (IfSome before (λ rest. fault_at run at rest ≡ Some f))
    (told_behind before after (header_encoding h) (λ rest. (length rest < h.data_size) × (f ≡ Truncated (at + 16 + length rest))) (λ rest. fault_at run at rest ≡ Some f) c
    (λ rest p. cut_data run at h rest f fine r p.0 p.1)) cut
