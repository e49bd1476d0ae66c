-- Laws of histories of a buffer.
use Rattle.std.specs.Prelude.{◌≡◌, ℕ, zero, suc, ◌<◌, ◌-◌, ◌≤◌, min, if◌then◌else◌, nat_le, List, [], ◌∷◌, ◌++◌, length, sum_by, slice_get, Option, Some, None, refl}
use Rattle.std.proofs.Common.{ap, arith}
use Rattle.std.proofs.lemmas.Bool.{leb-false}
use Rattle.std.proofs.lemmas.List.Sums.{sum_by-cons}
use Rattle.buffer_core.specs.declared.client.Client.{Client}
use Rattle.buffer_core.specs.declared.gate.RunGate.{RunGate}
use Rattle.buffer_core.specs.declared.replies.Received.TheVariants.{Got, SmallBuf}
use Rattle.buffer_core.specs.declared.entry.BufferEntry.{BufferEntry}
use Rattle.buffer_core.specs.declared.entry.BufferEntry.TheVariants.{Receive}
use Rattle.event.specs.Events.{event_limit}
use Rattle.buffer_core.specs.Slots.{slot_at}
use Rattle.buffer_core.specs.Window.{Window, Sent, opening, slot_of_sent, IsWindow, StandsAt}
use Rattle.buffer_core.specs.Calls.{IsReply, window_after, found_in, found_reply, receive_reply_to}
use Rattle.buffer_core.specs.Histories.{replay, IsLegal}
use Rattle.buffer_core.proofs.SlotLaws.{split}
use Rattle.buffer_core.proofs.WindowLaws.{slot_cover, found_stands}
use Rattle.buffer_core.proofs.WindowKept.{window_opens, window_stays}

-- one call more at the end
pub replay-push : (w : Window) (h : List (ℕ × BufferEntry)) (by : ℕ) (e : BufferEntry) → replay w (h ++ (by, e) ∷ []) ≡ window_after (replay w h) e
replay-push w [] by e = refl
replay-push w (x ∷ h) by e = replay-push (window_after w x.1) h by e

pub legal_push : (w : Window) (h : List (ℕ × BufferEntry)) (by : ℕ) (e : BufferEntry) → IsLegal w h → IsReply (replay w h) e → IsLegal w (h ++ (by, e) ∷ [])
legal_push w [] by e legal reply = (reply, tt)
legal_push w (x ∷ h) by e legal reply = (legal.0, legal_push (window_after w x.1) h by e legal.1 reply)

-- each window of a legal history is one
pub window_replays : (w : Window) (h : List (ℕ × BufferEntry)) → IsWindow w → IsLegal w h → IsWindow (replay w h)
window_replays w [] is legal = is
window_replays w (x ∷ h) is legal = window_replays (window_after w x.1) h (window_stays w x.1 is legal.0) legal.1

pub opening_replays : (size : ℕ) (h : List (ℕ × BufferEntry)) → IsLegal (opening size) h → IsWindow (replay (opening size) h)
opening_replays size h legal = window_replays (opening size) h (window_opens size) legal

-- Room that is always enough.

slot_within_sum : (ss : List Sent) (i : ℕ) (s : Sent) → slice_get ss i ≡ Some s → slot_of_sent s ≤ sum_by slot_of_sent ss
slot_within_sum [] i s e = absurd (cc)
slot_within_sum (x ∷ xs) zero s e =
    let same : x ≡ s = cc in
    omega (arith, sum_by-cons slot_of_sent x xs, ap slot_of_sent same)
slot_within_sum (x ∷ xs) (suc i) s e = omega (arith, sum_by-cons slot_of_sent x xs, slot_within_sum xs i s e)

small_found : (gate : RunGate) (last room need : ℕ) (found : Option (ℕ × Sent)) → SmallBuf need ≡ found_reply gate last room found → (place : ℕ) × (s : Sent) × (found ≡ Some (place, s)) × (room < length s.event.body)
small_found gate last room need None e = absurd (cc)
small_found gate last room need (Some f) e =
    split (nat_le (length f.1.event.body) room) (λ b. nat_le (length f.1.event.body) room ≡ b → SmallBuf need ≡ (if b then Got f.0 f.1.start else SmallBuf (length f.1.event.body)) → (place : ℕ) × (s : Sent) × (Some f ≡ Some (place, s)) × (room < length s.event.body))
    (λ h fits got. absurd (cc (got)))
    (λ h long small. (f.0, f.1, refl, leb-false (length f.1.event.body) room long))
    refl e

small_kept : (w : Window) (room need : ℕ) (o : Option Client) → IsWindow w → min event_limit (w.size - 24) ≤ room → SmallBuf need ≡ receive_reply_to w room o → ⊥
small_kept w room need None is enough e = cc
small_kept w room need (Some c) is enough e =
    let found = small_found w.gate w.last room need (found_in c w.first w.kept) e in
    let stands : StandsAt w.kept w.first found.0 found.1 = found_stands c w.first w.kept found.0 found.1 found.2 in
    let small : length found.1.event.body ≤ event_limit = (is.keepable stands.index found.1 stands.is).small in
    let slot : slot_of_sent found.1 ≤ sum_by slot_of_sent w.kept = slot_within_sum w.kept stands.index found.1 stands.is in
    absurd (omega (arith, small, slot, is.fits, slot_cover (length found.1.event.body), enough, found.3))

-- a receive with room for the largest event that the buffer can keep never answers SmallBuf
pub room_enough : (w : Window) (client room need : ℕ) → IsWindow w → min event_limit (w.size - 24) ≤ room → IsReply w (Receive client room (SmallBuf need)) → ⊥
room_enough w client room need is enough reply = small_kept w room need (slot_at w.clients client) is enough reply
