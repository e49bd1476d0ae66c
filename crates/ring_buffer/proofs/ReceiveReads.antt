-- How often a receive reads the ring, and how many bytes.
use Rattle.std.specs.Prelude.{◌≡◌, ℕ, ◌+◌, ◌*◌, ◌-◌, ◌<◌, ◌≤◌, Option, Some, refl}
use Rattle.std.proofs.Common.{ap, sym, ◌∙◌, subst, arith}
use Rattle.ring_buffer.specs.Rings.{CountedBytes, IsRead}
use Rattle.buffer_core.specs.declared.client.Client.{Client}
use Rattle.buffer_core.specs.declared.gate.RunGate.{RunGate}
use Rattle.buffer_core.specs.declared.replies.Received.{Received}
use Rattle.buffer_core.specs.declared.replies.Received.TheVariants.{Got, Empty, SmallBuf}
use Rattle.buffer_core.specs.declared.entry.BufferEntry.TheVariants.{Receive}
use Rattle.buffer_core.specs.Slots.{slot_at}
use Rattle.buffer_core.specs.Window.{kept_at}
use Rattle.buffer_core.proofs.WindowLaws.{found_kept}
use Rattle.ring_buffer.specs.Pointers.{clients_of}
use Rattle.ring_buffer.specs.declared.ring_buffer.RingBuffer.TheInside.{Inside}
use Rattle.ring_buffer.specs.declared.walk.Position.{Position}
use Rattle.ring_buffer.specs.declared.walk.Found.{Found}
use Rattle.ring_buffer.specs.CountedWindows.{CountedWindow}
use Rattle.ring_buffer.specs.RingViews.{window_of, counted_of, IsRingBuffer}
use Rattle.ring_buffer.specs.Stored.{ring_event_at}
use Rattle.ring_buffer.specs.Reads.{ReadsFronts, fronts_of_receive, data_of}
use Rattle.ring_buffer.specs.LifeReads.{bodies_of_call, data_of_call, ReadsFew}
use Rattle.ring_buffer.proofs.CountLaws.{read_on, reads_few}
use Rattle.ring_buffer.proofs.Sending.{accepted_is}
use Rattle.ring_buffer.proofs.GivenEvents.{IsReader, IsGiven, client_is}

-- few reads for the client that is there are few for the call
client_reads : (b : Inside) (v new : CountedWindow) (ring : CountedBytes) (client room fronts : ℕ) (from : Position) (reply : Received) (r : IsReader b client from) → counted_of b ≡ v
    → IsRead b.ring ring (fronts + bodies_of_call (Receive client room reply)) (24 * fronts + data_of_call (window_of b) (Receive client room reply)) → ring.reads ≡ new.reads → ring.bytes_read ≡ new.bytes_read
    → fronts ≤ fronts_of_receive (window_of b) (Some r.pointer.client) reply → ReadsFew v new (Receive client room reply)
client_reads b v new ring client room fronts from reply r view read often much few =
    let lives : slot_at (clients_of b.clients) client ≡ Some r.pointer.client = client_is b client r.pointer r.lives in
    subst (λ (w : CountedWindow). ReadsFew w new (Receive client room reply)) view
    (reads_few (counted_of b) new b.ring ring (Receive client room reply) fronts read refl refl often much
    (subst (λ (o : Option Client). fronts ≤ fronts_of_receive (window_of b) o reply) (sym lives) few))

-- no data were read
no_data : (before after : CountedBytes) (fronts : ℕ) → ReadsFronts before after fronts → IsRead before after (fronts + 0) (24 * fronts + 0)
no_data before after fronts read = record { same = read.same; often = omega (arith, read.often); much = omega (arith, read.much) }

-- nothing was found
pub empty_reads : (b : Inside) (v new : CountedWindow) (ring : CountedBytes) (client room last : ℕ) (gate : RunGate) (from : Position) → counted_of b ≡ v → IsRingBuffer b → IsReader b client from → ReadsFronts b.ring ring (b.count - from.place)
    → ring.reads ≡ new.reads → ring.bytes_read ≡ new.bytes_read → ReadsFew v new (Receive client room (Empty gate last))
empty_reads b v new ring client room last gate from view is r read often much =
    client_reads b v new ring client room (b.count - from.place) from (Empty gate last) r view (no_data b.ring ring (b.count - from.place) read) often much
    (omega (arith, accepted_is b is, r.place))

-- what was found is too long
pub small_reads : (b : Inside) (v new : CountedWindow) (ring : CountedBytes) (client room need : ℕ) (from : Position) (f : Found) → counted_of b ≡ v → IsRingBuffer b → IsReader b client from → f.at.place < b.count → from.place ≤ f.at.place
    → ReadsFronts b.ring ring (f.at.place - from.place + 1) → ring.reads ≡ new.reads → ring.bytes_read ≡ new.bytes_read → ReadsFew v new (Receive client room (SmallBuf need))
small_reads b v new ring client room need from f view is r early later read often much =
    client_reads b v new ring client room (f.at.place - from.place + 1) from (SmallBuf need) r view (no_data b.ring ring (f.at.place - from.place + 1) read) often much
    (omega (arith, accepted_is b is, r.place, early, later))

-- the event is given
pub got_reads : (b : Inside) (v new : CountedWindow) (once ring : CountedBytes) (client room start : ℕ) (from : Position) (f : Found) → counted_of b ≡ v → IsReader b client from → IsGiven b client from f
    → ReadsFronts b.ring once (f.at.place - from.place + 1) → IsRead once ring 1 f.front.header.data_size → ring.reads ≡ new.reads → ring.bytes_read ≡ new.bytes_read → ReadsFew v new (Receive client room (Got f.at.place start))
got_reads b v new once ring client room start from f view r g fronts body often much =
    let kept : kept_at (window_of b) f.at.place ≡ Some (ring_event_at b.ring.bytes f.at.off) =
    found_kept (window_of b) r.pointer.client f.at.place (ring_event_at b.ring.bytes f.at.off) (g.found r.pointer.client (client_is b client r.pointer r.lives)) in
    let size : data_of (kept_at (window_of b) f.at.place) ≡ f.front.header.data_size = ap data_of kept ∙ sym g.size in
    let both : IsRead b.ring ring (f.at.place - from.place + 1 + 1) (24 * (f.at.place - from.place + 1) + f.front.header.data_size) =
    read_on b.ring once ring (f.at.place - from.place + 1) 1 (24 * (f.at.place - from.place + 1)) f.front.header.data_size fronts body in
    client_reads b v new ring client room (f.at.place - from.place + 1) from (Got f.at.place start) r view
    (subst (λ (n : ℕ). IsRead b.ring ring (f.at.place - from.place + 1 + 1) (24 * (f.at.place - from.place + 1) + n)) (sym size) both) often much
    (omega (arith, r.place, g.later))
