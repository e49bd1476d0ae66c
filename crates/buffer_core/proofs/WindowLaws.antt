-- Laws of windows, by the definitions alone.
use Rattle.std.specs.Prelude.{◌-◌, slice_get, Option, Some, None, unwrap_or, ◌≡◌, ◌+◌, ◌^◌, ◌≤◌, Bool, true, false, ◌&&◌, if◌then◌else◌, nat_le, ◌==◌, ℕ, suc, List, [], ◌∷◌, length, drop, sum_by, Err}
use Rattle.std.specs.Option.{option_map}
use Rattle.std.proofs.Common.{ap, ◌∙◌, refl, arith, eq-eqb, le-leb, le-ltb, leb-true}
use Rattle.daq_types.specs.declared.events.Event.{Event}
use Rattle.event.specs.Events.{slot_size, slot_of_length, is_reserved, event_limit}
use Rattle.buffer_core.specs.declared.replies.SendRefusal.TheVariants.{BadSize, ReservedId, TooLarge, Spent}
use Rattle.buffer_core.specs.declared.client.Client.{Client}
use Rattle.buffer_core.specs.declared.replies.Received.TheVariants.{Got}
use Rattle.buffer_core.proofs.SlotLaws.{split}
use Rattle.buffer_core.specs.Window.{Window, Sent, StandsAt, wants, kept_at}
use Rattle.buffer_core.specs.Calls.{found_in, event_after, to_drop, send_reply, id_reply, size_reply, spent_reply, room_reply}

-- Room for an event.

-- with the rest, an item of this size fits
pub to_drop_fits : {X : Type 0} (f : X → ℕ) (size slot : ℕ) (xs : List X) → slot ≤ size → sum_by f (drop (to_drop f size slot xs) xs) + slot ≤ size
to_drop_fits f size slot [] h = omega arith
to_drop_fits f size slot (x ∷ xs) h =
    split (nat_le (sum_by f (x ∷ xs) + slot) size) (λ b. sum_by f (drop (if b then 0 else suc (to_drop f size slot xs)) (x ∷ xs)) + slot ≤ size)
    (λ e. leb-true (sum_by f (x ∷ xs) + slot) size e) (λ e. to_drop_fits f size slot xs h)

pub to_drop_within : {X : Type 0} (f : X → ℕ) (size slot : ℕ) (xs : List X) → to_drop f size slot xs ≤ length xs
to_drop_within f size slot [] = omega arith
to_drop_within f size slot (x ∷ xs) =
    split (nat_le (sum_by f (x ∷ xs) + slot) size) (λ b. (if b then 0 else suc (to_drop f size slot xs)) ≤ suc (length xs))
    (λ e. omega arith) (λ e. omega (arith, to_drop_within f size slot xs))

-- where there is room for one more, nothing goes
pub to_drop_none : {X : Type 0} (f : X → ℕ) (size slot : ℕ) (xs : List X) → sum_by f xs + slot ≤ size → to_drop f size slot xs ≡ 0
to_drop_none f size slot [] h = refl
to_drop_none f size slot (x ∷ xs) h = ap (λ (b : Bool). if b then 0 else suc (to_drop f size slot xs)) (le-leb (sum_by f (x ∷ xs) + slot) size h)

-- an event takes at least 24 bytes and its data
pub slot_cover : (n : ℕ) → n + 24 ≤ slot_of_length n
unfolding slot_of_length
slot_cover n = omega arith

-- an event that is sent rightly, and is not too large
pub record IsSendable (w : Window) (stated : ℕ) (e : Event) : Type 0 where
  pub stated_right : stated ≡ length e.body
  pub small : length e.body ≤ event_limit
  pub free : is_reserved e.id ≡ false
  pub fits : slot_size e ≤ w.size

-- it is refused only as Spent or as Full
pub spent_reply_is : (w : Window) (stated : ℕ) (e : Event) → IsSendable w stated e → send_reply w stated e ≡ spent_reply w e
spent_reply_is w stated e may =
    let right : (stated == length e.body) ≡ true = eq-eqb stated (length e.body) may.stated_right in
    let small : nat_le stated event_limit ≡ true = le-leb stated event_limit (omega (arith, may.stated_right, may.small)) in
    ap (λ (b : Bool). if b && nat_le stated event_limit then id_reply w e else Err (BadSize stated (length e.body))) right
    ∙ (ap (λ (b : Bool). if b then id_reply w e else Err (BadSize stated (length e.body))) small
    ∙ (ap (λ (b : Bool). if b then Err (ReservedId e.id) else size_reply w e) may.free
    ∙ ap (λ (b : Bool). if b then Err (TooLarge (slot_size e) w.size) else spent_reply w e) (le-ltb w.size (slot_size e) may.fits)))

-- and only as Full where the sum of all slots stays below 2^62
pub room_reply_is : (w : Window) (stated : ℕ) (e : Event) → IsSendable w stated e → w.total + slot_size e ≤ 2 ^ 62 → send_reply w stated e ≡ room_reply w e
room_reply_is w stated e may unspent =
    spent_reply_is w stated e may ∙ ap (λ (b : Bool). if b then Err (Spent w.total) else room_reply w e) (le-ltb (2 ^ 62) (w.total + slot_size e) unspent)

-- What a client finds.

pub found_stands : (c : Client) (first : ℕ) (ss : List Sent) (place : ℕ) (s : Sent) → found_in c first ss ≡ Some (place, s) → StandsAt ss first place s
found_stands c first [] place s e = absurd (cc)
found_stands c first (x ∷ xs) place s e =
    split (wants first x.event c) (λ b. (if b then Some (first, x) else found_in c (suc first) xs) ≡ Some (place, s) → StandsAt (x ∷ xs) first place s)
    (λ h here.
    let place_is : first ≡ place = ap (λ (o : Option (ℕ × Sent)). (unwrap_or o (first, x)).0) here in
    let sent_is : x ≡ s = ap (λ (o : Option (ℕ × Sent)). (unwrap_or o (first, x)).1) here in
    record { index = 0; place_is = omega (arith, place_is); is = ap (λ (y : Sent). Some y) sent_is })
    (λ h later.
    let rest : StandsAt xs (suc first) place s = found_stands c (suc first) xs place s later in
    record { index = suc rest.index; place_is = omega (arith, rest.place_is); is = rest.is })
    e

-- the event that is found is the kept one of its place
pub found_kept : (w : Window) (c : Client) (place : ℕ) (s : Sent) → found_in c w.first w.kept ≡ Some (place, s) → kept_at w place ≡ Some s
found_kept w c place s e =
    let stands : StandsAt w.kept w.first place s = found_stands c w.first w.kept place s e in
    let behind : nat_le w.first place ≡ true = le-leb w.first place (omega (arith, stands.place_is)) in
    let index_is : place - w.first ≡ stands.index = omega (arith, stands.place_is) in
    ap (λ (b : Bool). if b then slice_get w.kept (place - w.first) else None) behind ∙ (ap (slice_get w.kept) index_is ∙ stands.is)

-- what a receiver holds once it got the event
pub event_got : (w : Window) (c : Client) (place start : ℕ) (s : Sent) (held : Event) → found_in c w.first w.kept ≡ Some (place, s) → event_after held w (Got place start) ≡ s.event
event_got w c place start s held e = ap (λ (o : Option Sent). unwrap_or (option_map (λ (x : Sent). x.event) o) held) (found_kept w c place s e)
