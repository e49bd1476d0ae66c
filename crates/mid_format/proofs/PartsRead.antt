-- The faults of parts that were read from a source, over all the bytes that it had.
use Rattle.std.proofs.Common.{◌≡◌, ◌∙◌, ℕ, ◌+◌, ◌-◌, ◌<◌, ◌≤◌, ◌==◌, if◌then◌else◌, ne_eqb, nat_lt, List, [], ◌++◌, length, take, Option, Some, None, false, refl, ap, sym, subst, arith, length-append, length-take, IfSome}
use Rattle.std.proofs.lemmas.List.{append-nil, take_all}
use Rattle.std.proofs.lemmas.Bool.{lt-ltb}
use Rattle.std.specs.Io.KnownBytes.{Consumes, IsAtEnd}
use Rattle.std.proofs.KnownBytes.{Consumes-nil, Consumes-trans}
use Rattle.event.specs.Pieces.{Gathers, FailsBehind}
use Rattle.event.specs.Headers.{header_encoding}
use Rattle.event.specs.declared.head.Header.{Header}
use Rattle.mid_format.specs.Faults.{header_fault, nothing_left, or_else, fault_at, OfBytes}
use Rattle.mid_format.specs.Parts.{IsInRange, PassesOver}
use Rattle.mid_format.specs.declared.faults.MidFault.{MidFault}
use Rattle.mid_format.specs.declared.faults.MidFault.TheVariants.{Truncated, NoBegin, NoEnd, AfterEnd, TooBig, ReadFault, BadRecord, TooLong}
use Rattle.mid_format.proofs.HeadersBack.{behind_head}

pub of_bytes : (f : MidFault) (fact : Type 0) → fact → OfBytes f fact
of_bytes (Truncated at) fact p = p
of_bytes (NoBegin at) fact p = p
of_bytes (NoEnd at) fact p = p
of_bytes (AfterEnd at) fact p = p
of_bytes (TooBig at size) fact p = p
of_bytes ReadFault fact p = tt
of_bytes (BadRecord at) fact p = p
of_bytes (TooLong at) fact p = p

-- what is true of the bytes that were taken and of whatever follows is true of all that were left
pub told : (before after : Option (List ℕ)) (bytes : List ℕ) (P : List ℕ → Type 0) → Consumes before after bytes → ((more : List ℕ) → P (bytes ++ more)) → IfSome before P
told None after bytes P c f = tt
told (Some xs) None bytes P c f = absurd c
told (Some xs) (Some ys) bytes P c f = subst P (sym c) (f ys)

-- and where nothing follows, of the bytes that were taken
pub told_all : (before after : Option (List ℕ)) (bytes : List ℕ) (P : List ℕ → Type 0) → Consumes before after bytes → IsAtEnd after → P bytes → IfSome before P
told_all None after bytes P c e p = tt
told_all (Some xs) None bytes P c e p = absurd c
told_all (Some xs) (Some ys) bytes P c e p = subst P (sym (c ∙ ap (λ zs. bytes ++ zs) e ∙ append-nil bytes)) p

-- a header of which nothing is there
pub head_missing : (before after : Option (List ℕ)) (head : List ℕ) (count : ℕ) (run : Option ℕ) (at : ℕ) → Gathers before after head count → length head ≡ 16 → count ≡ 0
    → IfSome before (λ rest. fault_at run at rest ≡ Some (nothing_left run at))
head_missing before after head count run at g len none =
    let empty : take count head ≡ [] = ap (λ n. take n head) none in
    told_all before after [] (λ rest. fault_at run at rest ≡ Some (nothing_left run at)) (subst (Consumes before after) empty g.consumed) (g.ended (omega (arith, none, len))) refl

-- a header of which a part is there
cut_is : (run : Option ℕ) (at : ℕ) (rest : List ℕ) → 0 < length rest → length rest < 16 → fault_at run at rest ≡ Some (Truncated (at + length rest))
cut_is run at rest some short =
    let n : (length rest == 0) ≡ false = ne_eqb (length rest) 0 (λ e. omega (arith, some, e)) in
    rw (n, lt-ltb (length rest) 16 short) refl

pub head_cut : (before after : Option (List ℕ)) (head : List ℕ) (count : ℕ) (run : Option ℕ) (at : ℕ) → Gathers before after head count → length head ≡ 16 → 0 < count → count < 16
    → IfSome before (λ rest. fault_at run at rest ≡ Some (Truncated (at + count)))
head_cut before after head count run at g len some short =
    let counted : length (take count head) ≡ count = omega (arith, length-take count head, len, short) in
    told_all before after (take count head) (λ rest. fault_at run at rest ≡ Some (Truncated (at + count))) g.consumed (g.ended (omega (arith, short, len)))
    (cut_is run at (take count head) (omega (arith, counted, some)) (omega (arith, counted, short)) ∙ ap (λ n. Some (Truncated (at + n))) counted)

-- a header that may not stand there
pub head_bad : (before after : Option (List ℕ)) (h : Header) (run : Option ℕ) (at : ℕ) (f : MidFault) → Consumes before after (header_encoding h) → IsInRange h → header_fault run at h ≡ Some f
    → IfSome before (λ rest. fault_at run at rest ≡ Some f)
head_bad before after h run at f c r bad =
    told before after (header_encoding h) (λ rest. fault_at run at rest ≡ Some f) c
    (λ more. behind_head run at h more r ∙ ap (λ (first : Option MidFault). or_else first (if nat_lt (length (header_encoding h ++ more)) (16 + h.data_size) then Some (Truncated (at + length (header_encoding h ++ more))) else None)) bad)

-- the header is what was gathered
pub head_whole : (before after : Option (List ℕ)) (head front : List ℕ) (count : ℕ) (h : Header) → Gathers before after head count → length head ≡ 16 → front ≡ take count head
    → 16 ≤ length front → header_encoding h ≡ take 16 front → Consumes before after (header_encoding h)
head_whole before after head front count h g len is_front long e =
    subst (Consumes before after) (sym (e ∙ take_all 16 front (omega (arith, ap (length {A = ℕ}) is_front, length-take count head, len)) ∙ is_front)) g.consumed

-- Data that are passed in blocks: so many are still to come.
pub record Passed (before after : Option (List ℕ)) (size rest : ℕ) : Type 0 where
  pub bytes : List ℕ
  pub length : length bytes + rest ≡ size
  pub consumed : Consumes before after bytes

pub passed_none : (before : Option (List ℕ)) (size : ℕ) → Passed before before size size
passed_none before size = record { bytes = []; length = omega arith; consumed = Consumes-nil before }

pub passed_more : (a b c : Option (List ℕ)) (size rest : ℕ) (block : List ℕ) (count left : ℕ) → Passed a b size rest → Gathers b c block count → count + left ≡ rest → Passed a c size left
passed_more a b c size rest block count left p g e = record {
  bytes = p.bytes ++ take count block;
  length = omega (arith, p.length, length-append p.bytes (take count block), length-take count block, g.within, e);
  consumed = Consumes-trans a b c p.bytes (take count block) p.consumed g.consumed;
}

pub passed_all : (before after : Option (List ℕ)) (size rest : ℕ) → Passed before after size rest → rest ≡ 0 → PassesOver before after size size
passed_all before after size rest p none = record {
  bytes = p.bytes;
  length = omega (arith, p.length, none);
  within = omega arith;
  consumed = p.consumed;
  ended = λ less. absurd (omega (arith, less));
}

pub passed_end : (a b c : Option (List ℕ)) (size rest part : ℕ) (block : List ℕ) (count : ℕ) → Passed a b size rest → Gathers b c block count → length block ≡ part → part ≤ rest → count < part
    → PassesOver a c size (size - (rest - count))
passed_end a b c size rest part block count p g len small short = record {
  bytes = p.bytes ++ take count block;
  length = omega (arith, p.length, length-append p.bytes (take count block), length-take count block, g.within, len, small, short);
  within = omega (arith, p.length, small, short);
  consumed = Consumes-trans a b c p.bytes (take count block) p.consumed g.consumed;
  ended = λ less. g.ended (omega (arith, len, short));
}

pub passed_fails : (a b c : Option (List ℕ)) (at_hand : List ℕ) (size rest part : ℕ) → Passed a b size rest → FailsBehind b c at_hand part → part ≤ rest → FailsBehind a c at_hand size
passed_fails a b c at_hand size rest part p f small = record {
  bytes = p.bytes ++ f.bytes;
  fewer = omega (arith, p.length, length-append p.bytes f.bytes, f.fewer, small);
  consumed = Consumes-trans a b c p.bytes f.bytes p.consumed f.consumed;
  none_at_hand = f.none_at_hand;
}
