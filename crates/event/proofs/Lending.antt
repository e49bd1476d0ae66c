-- Data that were written behind a header.
use Rattle.std.proofs.Common.{◌≡◌, ◌∙◌, ℕ, List, ◌++◌, length, drop, take, Option, Result, IfOk, Ok, Err, ap, sym}
use Rattle.std.proofs.lemmas.List.{drop_at, take_at}
use Rattle.daq_types.specs.declared.events.Event.{Event}
use Rattle.event.specs.Held.{HeldEvent}
use Rattle.event.specs.Pieces.{Gathers, GathersBody}
use Rattle.event.specs.Headers.{event_of, header_encoding}
use Rattle.event.proofs.Headers.{length-header_encoding}
use Rattle.event.specs.declared.head.Header.{Header}

-- a header in front of whatever bytes
pub written_body : (h : Header) (items head back : List ℕ) → items ≡ head ++ back → head ≡ header_encoding h → drop 16 items ≡ back
written_body h items head back e is_head = ap (drop 16) e ∙ drop_at head back 16 (ap (length {A = ℕ}) is_head ∙ length-header_encoding h)

pub written_front : (h : Header) (items head back : List ℕ) → items ≡ head ++ back → head ≡ header_encoding h → items ≡ header_encoding h ++ drop 16 items
written_front h items head back e is_head =
    e ∙ ap (λ f. f ++ back) is_head ∙ ap (λ b. header_encoding h ++ b) (sym (written_body h items head back e is_head))

-- the header is the first 16 bytes
pub head_of : (h : Header) (items front : List ℕ) → items ≡ header_encoding h ++ drop 16 items → front ≡ take 16 items → front ≡ header_encoding h
head_of h items front e is_front = is_front ∙ ap (take 16) e ∙ take_at (header_encoding h) (drop 16 items) 16 (length-header_encoding h)

-- The header was taken before, with some data, and then these data were gathered.
pub gathered : (before after : Option (List ℕ)) (h own : Header) (held : HeldEvent) (room : ℕ) (old stale body : List ℕ) (count : ℕ)
    → record { event = event_of own old; room = room } ≡ record held { event = event_of h stale } → length stale ≡ h.data_size → length body ≡ length old
    → Gathers before after body count → GathersBody before after h (record { event = event_of own body; room = room }) count
gathered before after h own held room old stale body count e len same p =
    let events : event_of own old ≡ event_of h stale = ap (λ (x : HeldEvent). x.event) e in
    record {
      body = body;
      event = ap (λ (x : Event). record x { body = body }) events;
      stated = same ∙ ap (λ (x : Event). length x.body) events ∙ len;
      gathers = p;
    }

pub map_ok : {T E : Type 0} (P Q : T → Type 0) (r : Result T E) → ((x : T) → P x → Q x) → IfOk r P → IfOk r Q
map_ok P Q (Ok x) f p = f x p
map_ok P Q (Err e) f p = p
