-- Headers as records, their bytes, and the events that they stand in front of.
use Rattle.std.specs.Prelude.{◌≡◌, ℕ, List, ◌++◌, length, drop}
use Rattle.std.proofs.Common.{ap, sym, subst}
use Rattle.std.proofs.Math.Seq.{drop-append_seam}
use Rattle.event.specs.Events.{header_bytes, encoding}
use Rattle.event.proofs.Events.{length-header_bytes}
use Rattle.event.specs.declared.head.Header.{Header}
use Rattle.event.specs.Headers.{header_encoding, event_of, fields_of}

-- a header that states the right length is that of its event
pub header_back : (h : Header) (body : List ℕ) → h.data_size ≡ length body → fields_of (event_of h body) ≡ h
header_back h body e =
    let made : ℕ → Header = λ n. record { event_id = h.event_id; trigger_mask = h.trigger_mask; serial_number = h.serial_number; time_stamp = h.time_stamp; data_size = n } in
    ap made (sym e)

-- an event's bytes are its header's and its data
pub encoding_parts : (h : Header) (body : List ℕ) → h.data_size ≡ length body → encoding (event_of h body) ≡ header_encoding h ++ body
encoding_parts h body e =
    ap (λ (n : ℕ). header_bytes h.event_id h.trigger_mask h.serial_number h.time_stamp n ++ body) (sym e)

pub length-header_encoding : (h : Header) → length (header_encoding h) ≡ 16
length-header_encoding h = length-header_bytes h.event_id h.trigger_mask h.serial_number h.time_stamp h.data_size

-- behind the 16 bytes stands the data
pub drop-header_encoding : (h : Header) (body : List ℕ) → drop 16 (header_encoding h ++ body) ≡ body
drop-header_encoding h body =
    subst (λ (n : ℕ). drop n (header_encoding h ++ body) ≡ body) (length-header_encoding h) (drop-append_seam (header_encoding h) body)
