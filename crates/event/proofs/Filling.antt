-- Room that was filled with a header and data.
use Rattle.std.proofs.Common.{◌≡◌, ℕ, ◌+◌, List, [], ◌++◌, length, drop, refl, sym, ap, ◌∙◌, length-append}
use Rattle.daq_types.specs.declared.events.Event.{Event}
use Rattle.event.specs.Held.{HeldEvent}
use Rattle.event.specs.Headers.{event_of, header_encoding}
use Rattle.event.proofs.Headers.{length-header_encoding, drop-header_encoding}
use Rattle.event.specs.declared.head.Header.{Header}

abbrev pub held : Event → ℕ → HeldEvent
held event room = record { event = event; room = room }

pub filled_items : (h : Header) (cleared head middle body items : List ℕ) → cleared ≡ [] → head ≡ header_encoding h → middle ≡ cleared ++ head → items ≡ middle ++ body → items ≡ header_encoding h ++ body
filled_items h cleared head middle body items is_cleared is_head is_middle is_items = rw (is_items, is_middle, is_cleared, is_head) refl

pub filled_body : (h : Header) (body items : List ℕ) → items ≡ header_encoding h ++ body → drop 16 items ≡ body
filled_body h body items e = rw e (drop-header_encoding h body)

pub filled_length : (h : Header) (body items : List ℕ) → items ≡ header_encoding h ++ body → h.data_size ≡ length body → length items ≡ 16 + h.data_size
filled_length h body items e stated = rw (e, length-append, length-header_encoding h, stated) refl

pub filled_bytes : (h : Header) (body items : List ℕ) → items ≡ header_encoding h ++ body → items ≡ header_encoding h ++ drop 16 items
filled_bytes h body items e = e ∙ ap (λ (b : List ℕ). header_encoding h ++ b) (sym (filled_body h body items e))

pub filled_event : (h : Header) (found body : List ℕ) (room stated : ℕ) → found ≡ body → room ≡ stated
    → held (event_of h found) room ≡ held (event_of h body) stated
filled_event h found body room stated is_body is_room = rw (is_body, is_room) refl
