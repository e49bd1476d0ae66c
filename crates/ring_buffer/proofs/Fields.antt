-- The bytes in front of an event's data, written and read.
use Rattle.std.specs.Prelude.{◌≡◌, ℕ, ◌^◌, ◌<◌, List, [], ◌∷◌, ◌++◌, length, take, drop, refl}
use Rattle.std.specs.Int.{to_le_bytes, from_le_bytes, w16, w32}
use Rattle.std.proofs.Common.{ap, sym, ◌∙◌, get_or, arith, append_assoc}
use Rattle.std.proofs.lemmas.Nat.{from_le_bytes-to_le_bytes_2, from_le_bytes-to_le_bytes_4}
use Rattle.event.specs.Events.{header_bytes}
use Rattle.event.specs.declared.head.Header.{Header}
use Rattle.event.specs.Headers.{header_encoding, fields_of}
use Rattle.buffer_core.specs.Window.{Sent}
use Rattle.ring_buffer.specs.RingHolds.{front_of}
use Rattle.ring_buffer.specs.Stored.{event_in, length_in, FitsSlot, IsHeader}

pub fields_fit : (s : Sent) → FitsSlot s → IsHeader (fields_of s.event)
fields_fit s fits = record { id = fits.id; mask = fits.mask; serial = fits.serial; time = fits.time; size = omega (arith, fits.small) }

-- the fields, read from the bytes of a header
abbrev pub read_fields : List ℕ → Header
read_fields bs = record {
  event_id = from_le_bytes w16 (take 2 bs);
  trigger_mask = from_le_bytes w16 (take 2 (drop 2 bs));
  serial_number = from_le_bytes w32 (take 4 (drop 4 bs));
  time_stamp = from_le_bytes w32 (take 4 (drop 8 bs));
  data_size = from_le_bytes w32 (take 4 (drop 12 bs));
}

same_fields : (id mask serial time size id' mask' serial' time' size' : ℕ) → id ≡ id' → mask ≡ mask' → serial ≡ serial' → time ≡ time' → size ≡ size'
    → (let h : Header = record { event_id = id; trigger_mask = mask; serial_number = serial; time_stamp = time; data_size = size } in h) ≡ record { event_id = id'; trigger_mask = mask'; serial_number = serial'; time_stamp = time'; data_size = size' }
same_fields id mask serial time size id' mask' serial' time' size' a b c d e = cc

fields_back : (h : Header) → IsHeader h → read_fields (header_encoding h) ≡ h
unfolding header_bytes
fields_back h is =
    same_fields _ _ _ _ _ h.event_id h.trigger_mask h.serial_number h.time_stamp h.data_size
    (from_le_bytes-to_le_bytes_2 h.event_id is.id)
    (from_le_bytes-to_le_bytes_2 h.trigger_mask is.mask)
    (from_le_bytes-to_le_bytes_4 h.serial_number is.serial)
    (from_le_bytes-to_le_bytes_4 h.time_stamp is.time)
    (from_le_bytes-to_le_bytes_4 h.data_size is.size)

-- a header is known by its bytes
pub same_header : (h k : Header) → IsHeader h → IsHeader k → header_encoding h ≡ header_encoding k → h ≡ k
same_header h k is is' e = sym (fields_back h is) ∙ (ap read_fields e ∙ fields_back k is')

-- behind the numbers stands the header
pub header_in : (start : ℕ) (h : Header) → take 16 (drop 8 (front_of start h)) ≡ header_encoding h
unfolding front_of header_bytes
header_in start h = refl

pub length-front_of : (start : ℕ) (h : Header) → length (front_of start h) ≡ 24
unfolding front_of header_bytes
length-front_of start h = refl

-- and in front of them the start number
pub start_in : (start : ℕ) (h : Header) → start < 2 ^ 32
    → from_le_bytes w32 (get_or (take 8 (front_of start h)) 0 0 ∷ get_or (take 8 (front_of start h)) 1 0 ∷ get_or (take 8 (front_of start h)) 2 0 ∷ get_or (take 8 (front_of start h)) 3 0 ∷ []) ≡ start
unfolding front_of header_bytes
start_in start h small = from_le_bytes-to_le_bytes_4 start small

pub length_back : (start : ℕ) (h : Header) → h.data_size < 2 ^ 32 → length_in (front_of start h) ≡ h.data_size
unfolding front_of header_bytes length_in
length_back start h small = from_le_bytes-to_le_bytes_4 h.data_size small

same_sent : (id mask serial time start id' mask' serial' time' start' : ℕ) (body : List ℕ) → id ≡ id' → mask ≡ mask' → serial ≡ serial' → time ≡ time' → start ≡ start'
    → (let s : Sent = record { event = record { id = id; mask = mask; serial = serial; time = time; body = body }; start = start } in s) ≡ record { event = record { id = id'; mask = mask'; serial = serial'; time = time'; body = body }; start = start' }
same_sent id mask serial time start id' mask' serial' time' start' body a b c d e = cc

-- an event is read as it was written
pub event_back : (s : Sent) → FitsSlot s → event_in (front_of s.start (fields_of s.event)) s.event.body ≡ s
unfolding front_of header_bytes event_in
event_back s fits =
    same_sent _ _ _ _ _ s.event.id s.event.mask s.event.serial s.event.time s.start s.event.body
    (from_le_bytes-to_le_bytes_2 s.event.id fits.id)
    (from_le_bytes-to_le_bytes_2 s.event.mask fits.mask)
    (from_le_bytes-to_le_bytes_4 s.event.serial fits.serial)
    (from_le_bytes-to_le_bytes_4 s.event.time fits.time)
    (from_le_bytes-to_le_bytes_4 s.start fits.start)

pub front_joined : (start : ℕ) (h : Header) (a b c : List ℕ) → a ≡ to_le_bytes w32 start → b ≡ to_le_bytes w32 h.data_size → c ≡ header_encoding h → a ++ b ++ c ≡ front_of start h
unfolding front_of
front_joined start h a b c is_start is_size is_header =
    ap (λ (x : List ℕ). x ++ b ++ c) is_start
    ∙ (ap (λ (x : List ℕ). to_le_bytes w32 start ++ x ++ c) is_size
    ∙ (ap (λ (x : List ℕ). to_le_bytes w32 start ++ to_le_bytes w32 h.data_size ++ x) is_header
    ∙ append_assoc (to_le_bytes w32 start) (to_le_bytes w32 h.data_size) (header_encoding h)))

-- what is read in front of an event
pub header_read : (ring_bytes bytes rest : List ℕ) (h : Header) (s : Sent) → bytes ≡ ring_bytes → ring_bytes ≡ front_of s.start (fields_of s.event) → rest ≡ drop 8 bytes
    → header_encoding h ≡ take 16 rest → IsHeader h → FitsSlot s → h ≡ fields_of s.event
header_read ring_bytes bytes rest h s read holds is_rest is_header fit fits =
    same_header h (fields_of s.event) fit (fields_fit s fits)
    (is_header ∙ (ap (λ (x : List ℕ). take 16 x) is_rest ∙ (ap (λ (x : List ℕ). take 16 (drop 8 x)) (read ∙ holds) ∙ header_in s.start (fields_of s.event))))

pub start_read : (ring_bytes bytes front : List ℕ) (start : ℕ) (s : Sent) → bytes ≡ ring_bytes → ring_bytes ≡ front_of s.start (fields_of s.event) → front ≡ take 8 bytes
    → start ≡ from_le_bytes w32 (get_or front 0 0 ∷ get_or front 1 0 ∷ get_or front 2 0 ∷ get_or front 3 0 ∷ []) → FitsSlot s → start ≡ s.start
start_read ring_bytes bytes front start s read holds is_front is_start fits =
    let whole : front ≡ take 8 (front_of s.start (fields_of s.event)) = is_front ∙ ap (λ (x : List ℕ). take 8 x) (read ∙ holds) in
    is_start
    ∙ (ap (λ (x : List ℕ). from_le_bytes w32 (get_or x 0 0 ∷ get_or x 1 0 ∷ get_or x 2 0 ∷ get_or x 3 0 ∷ [])) whole
    ∙ start_in s.start (fields_of s.event) fits.start)
