-- Where the source fails: what it gave before, and that no record lies whole in it.
use Rattle.std.proofs.Common.{◌≡◌, ℕ, ◌+◌, ◌^◌, ◌<◌, ◌==◌, ◌||◌, not, nat_lt, Bool, true, false, if◌then◌else◌, List, ◌++◌, length, Option, Some, None, Result, Ok, Err, OnErr, ap, sym, subst, arith, length-append}
use Rattle.std.specs.Prelude.{is_some}
use Rattle.std.proofs.lemmas.List.{nil_from_length}
use Rattle.std.specs.Io.KnownBytes.{Consumes}
use Rattle.std.proofs.KnownBytes.{Consumes-trans}
use Rattle.event.specs.Events.{begin_id, end_id, event_limit, record_limit}
use Rattle.event.specs.RunFile.{record_mask}
use Rattle.event.specs.Headers.{header_encoding}
use Rattle.event.specs.Pieces.{FailsBehind}
use Rattle.event.proofs.Headers.{length-header_encoding}
use Rattle.event.specs.declared.head.Header.{Header}
use Rattle.mid_format.specs.Faults.{size_fault, header_fault, OfSource}
use Rattle.mid_format.specs.Parts.{ReadsHead, FailsInside}
use Rattle.mid_format.specs.HasRead.{LacksNext, FailsAfter}
use Rattle.mid_format.specs.declared.faults.MidFault.{MidFault}
use Rattle.mid_format.specs.declared.faults.MidFault.TheVariants.{Truncated, NoBegin, NoEnd, AfterEnd, TooBig, ReadFault, BadRecord, TooLong}
use Rattle.mid_format.proofs.HeadersBack.{header_back}

pub on_err : {T E : Type 0} (r : Result T E) (P : Type 0) → P → OnErr r P
on_err (Ok x) P p = tt
on_err (Err e) P p = p

pub map_source : (f : MidFault) (P Q : Type 0) → (P → Q) → OfSource f P → OfSource f Q
map_source (Truncated at) P Q g p = tt
map_source (NoBegin at) P Q g p = tt
map_source (NoEnd at) P Q g p = tt
map_source (AfterEnd at) P Q g p = tt
map_source (TooBig at size) P Q g p = tt
map_source ReadFault P Q g p = g p
map_source (BadRecord at) P Q g p = tt
map_source (TooLong at) P Q g p = tt

abbrev fault_or : MidFault → Option MidFault → MidFault
fault_or f None = f
fault_or f (Some g) = g

-- what is true at the fault of the source
pub of_source : (f : MidFault) (P : Type 0) → OfSource f P → Some f ≡ Some ReadFault → P
of_source f P p e = let same : f ≡ ReadFault = ap (fault_or f) e in let Q : MidFault → Type 0 = λ g. OfSource g P in subst Q same p

-- A fault of a header is none of the source.

one_of : {P : Type 0} (b : Bool) (x y : Option MidFault) (f : MidFault) → (x ≡ Some f → P) → (y ≡ Some f → P) → (if b then x else y) ≡ Some f → P
one_of true x y f p q e = p e
one_of false x y f p q e = q e

this_one : (g f : MidFault) (P : Type 0) → OfSource g P → Some g ≡ Some f → OfSource f P
this_one g f P p e = let Q : MidFault → Type 0 = λ h. OfSource h P in subst Q (ap (fault_or g) e) p

no_one : (f : MidFault) (P : Type 0) → None ≡ Some f → P
no_one f P e = let clash : false ≡ true = ap is_some e in absurd cc

of_size : (at limit : ℕ) (h : Header) (f : MidFault) (P : Type 0) → size_fault at limit h ≡ Some f → OfSource f P
of_size at limit h f P e =
    one_of (nat_lt limit h.data_size) _ _ f (this_one (TooBig at h.data_size) f P tt) (λ e2. one_of (nat_lt (2 ^ 62) (at + 16 + h.data_size)) _ _ f (this_one (TooLong at) f P tt) (no_one f (OfSource f P)) e2) e

pub of_header : (run : Option ℕ) (at : ℕ) (h : Header) (f : MidFault) (P : Type 0) → header_fault run at h ≡ Some f → OfSource f P
of_header None at h f P e = one_of ((not (h.event_id == begin_id)) || (not (h.trigger_mask == record_mask))) _ _ f (this_one (NoBegin at) f P tt) (of_size at record_limit h f P) e
of_header (Some run) at h f P e =
    one_of (h.event_id == begin_id) _ _ f (this_one (BadRecord at) f P tt) (λ e2.
    one_of (not (h.event_id == end_id)) _ _ f (of_size at event_limit h f P) (λ e3.
    one_of ((not (h.trigger_mask == record_mask)) || (not (h.serial_number == run))) _ _ f (this_one (BadRecord at) f P tt) (of_size at record_limit h f P) e3) e2) e

-- Parts of a record

pub inside_head : (before after : Option (List ℕ)) (at_hand : List ℕ) → FailsBehind before after at_hand 16 → FailsInside before after at_hand
inside_head before after at_hand f = record {
  part = f.bytes;
  lacks = λ long. absurd (let short : length f.bytes < 16 = f.fewer in omega (arith, long, short));
  consumed = f.consumed;
  none_at_hand = f.none_at_hand;
}

pub inside_data : (before middle after : Option (List ℕ)) (at_hand : List ℕ) (run : Option ℕ) (at : ℕ) (h : Header) → ReadsHead before middle run at h → FailsBehind middle after at_hand h.data_size → FailsInside before after at_hand
inside_data before middle after at_hand run at h head f = record {
  part = header_encoding h ++ f.bytes;
  lacks = λ long. subst (λ (g : Header). length (header_encoding h ++ f.bytes) < 16 + g.data_size) (sym (header_back h f.bytes head.in_range))
      (omega (arith, length-append (header_encoding h) f.bytes, length-header_encoding h, f.fewer));
  consumed = Consumes-trans before middle after (header_encoding h) f.bytes head.consumed f.consumed;
  none_at_hand = f.none_at_hand;
}

-- and all that the source gave
pub after_inside : (first before after : Option (List ℕ)) (at_hand done : List ℕ) (last : Option Header) → last ≡ None → Consumes first before done → FailsInside before after at_hand → FailsAfter first after done last
after_inside first before after at_hand done last none c f = record {
  part = f.part;
  lacks = subst (λ (o : Option Header). LacksNext o f.part) (sym none) f.lacks;
  consumed = Consumes-trans first before after done f.part c f.consumed;
}

pub after_end : (first before after : Option (List ℕ)) (at_hand done : List ℕ) (end : Header) → Consumes first before done → FailsBehind before after at_hand 1 → FailsAfter first after done (Some end)
after_end first before after at_hand done end c f = record {
  part = f.bytes;
  lacks = nil_from_length f.bytes (omega (arith, f.fewer));
  consumed = Consumes-trans first before after done f.bytes c f.consumed;
}
