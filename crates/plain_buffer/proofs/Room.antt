-- The reply of a send, over the fields of a plain buffer.
use Rattle.std.proofs.Common.{◌≡◌, ℕ, ◌+◌, ◌^◌, ◌≤◌, false, List, length, take, sum_by, Option, sym, ap, subst, ◌∙◌, arith}
use Rattle.event.specs.Events.{slot_size, slot_of_length, is_reserved, event_limit}
use Rattle.event.specs.Headers.{event_of}
use Rattle.event.specs.declared.head.Header.{Header}
use Rattle.plain_buffer.specs.declared.plain.PlainBuffer.TheInside.{Inside}
use Rattle.plain_buffer.specs.declared.rows.Row.{Row}
use Rattle.buffer_core.specs.Window.{Window, accepted_of}
use Rattle.buffer_core.specs.Calls.{send_reply, full_reply, gone_of, to_drop, owed_in}
use Rattle.plain_buffer.specs.Rows.{slot_of_row, size_of_row, kept_of, bare}
use Rattle.plain_buffer.specs.Plain.{plain_window, IsPlain}
use Rattle.buffer_core.proofs.WindowLaws.{IsSendable, room_reply_is}
use Rattle.plain_buffer.proofs.Kept.{to_drop-kept_of, take-kept_of, owed_in-kept_of}

-- rows and data of the same length
pub whole_is : (b : Inside) → IsPlain b → sum_by size_of_row b.rows.items ≤ length b.bytes.items
whole_is b plain = omega (arith, plain.whole)

-- the event may be sent: its slot fits, and the sum of all slots stays below 2^62
pub record IsTested (b : Inside) (h : Header) (body : List ℕ) (slot size : ℕ) : Type 0 where
  pub stated : h.data_size ≡ length body
  pub small : length body ≤ event_limit
  pub free : is_reserved h.event_id ≡ false
  pub slot_is : slot ≡ slot_size (event_of h body)
  pub size_is : size ≡ b.size
  pub fits : slot_size (event_of h body) ≤ b.size
  pub unspent : b.total + slot_size (event_of h body) ≤ 2 ^ 62

sendable : (b : Inside) (h : Header) (body : List ℕ) (slot size : ℕ) → IsTested b h body slot size → IsSendable (plain_window b) h.data_size (event_of h body)
sendable b h body slot size tested = record { stated_right = tested.stated; small = tested.small; free = tested.free; fits = tested.fits }

-- so many events have to go for this one
pub gone_is : (b : Inside) (h : Header) (body : List ℕ) (gone slot size : ℕ) → IsPlain b → IsTested b h body slot size
    → gone ≡ to_drop slot_of_row size slot b.rows.items → gone ≡ gone_of (plain_window b) (event_of h body)
gone_is b h body gone slot size plain tested counted =
    counted
    ∙ (ap (λ (n : ℕ). to_drop slot_of_row n slot b.rows.items) tested.size_is
    ∙ (ap (λ (n : ℕ). to_drop slot_of_row b.size n b.rows.items) tested.slot_is
    ∙ sym (to_drop-kept_of b.size (slot_of_length (length body)) b.rows.items b.bytes.items (whole_is b plain))))

-- what is owed of the events that would go
owed_is : (b : Inside) (gone : ℕ) (front : List Row) → front ≡ take gone b.rows.items
    → owed_in b.clients b.first (take gone (kept_of b.rows.items b.bytes.items)) ≡ owed_in b.clients b.first (bare front)
owed_is b gone front is_front =
    ap (owed_in b.clients b.first) (take-kept_of gone b.rows.items b.bytes.items)
    ∙ (owed_in-kept_of b.clients b.first (take gone b.rows.items) b.bytes.items
    ∙ ap (λ (rows : List Row). owed_in b.clients b.first (bare rows)) (sym is_front))

-- the reply, where nothing but room is in question
pub room_is : (b : Inside) (w : Window) (h : Header) (body : List ℕ) (gone slot size : ℕ) (front : List Row) (owed : Option (ℕ × ℕ)) → plain_window b ≡ w → IsPlain b
    → IsTested b h body slot size
    → gone ≡ to_drop slot_of_row size slot b.rows.items → front ≡ take gone b.rows.items → owed_in b.clients b.first (bare front) ≡ owed
    → send_reply w h.data_size (event_of h body) ≡ full_reply owed (accepted_of w)
room_is b w h body gone slot size front owed view plain tested counted is_front is_owed =
    let found : Window = plain_window b in
    let goes : gone ≡ gone_of found (event_of h body) = gone_is b h body gone slot size plain tested counted in
    let here : send_reply found h.data_size (event_of h body) ≡ full_reply owed (accepted_of found) =
    room_reply_is found h.data_size (event_of h body) (sendable b h body slot size tested) tested.unspent
    ∙ (ap (λ (n : ℕ). full_reply (owed_in b.clients b.first (take n found.kept)) (accepted_of found)) (sym goes)
    ∙ (ap (λ (o : Option (ℕ × ℕ)). full_reply o (accepted_of found)) (owed_is b gone front is_front)
    ∙ ap (λ (o : Option (ℕ × ℕ)). full_reply o (accepted_of found)) is_owed)) in
    subst (λ (x : Window). send_reply x h.data_size (event_of h body) ≡ full_reply owed (accepted_of x)) view here
