use Rattle.std.proofs.Common.{◌≡◌, ◌+◌, ◌≤◌, ℕ, List, length, refl, ap, sym, subst, ◌∙◌, arith}
use Rattle.event.specs.Events.{slot_of_length}
use Rattle.event.specs.Headers.{event_of}
use Rattle.ring_buffer.specs.Rings.{bytes_at}
use Rattle.buffer_core.specs.declared.entry.BufferEntry.TheVariants.{Receive}
use Rattle.buffer_core.specs.declared.replies.Received.TheVariants.{Got, Empty}
use Rattle.buffer_core.specs.Slots.{change_slot}
use Rattle.buffer_core.specs.Window.{Window, Sent, IsWindow, slot_of_sent, accepted_of}
use Rattle.buffer_core.proofs.WindowKept.{window_stays}
use Rattle.buffer_core.proofs.WindowLaws.{event_got, slot_cover}
use Rattle.buffer_core.specs.Calls.{going_on, with_clients, event_after}
use Rattle.ring_buffer.specs.Pointers.{clients_of}
use Rattle.ring_buffer.specs.Stored.{ring_event_at}
use Rattle.ring_buffer.specs.RingViews.{window_of}
use Rattle.ring_buffer.proofs.CountLaws.{read_once}
use Rattle.ring_buffer.proofs.Walking.{at}
use Rattle.ring_buffer.proofs.Sending.{window_seen, accepted_is}
use Rattle.ring_buffer.proofs.GivenEvents.{reader, given, given_room, got_reply, small_reply, empty_reply, advanced, window_moved, ring_moved, at_end, client_is, with_pointers, window_read, ring_read}
use Rattle.ring_buffer.proofs.ReceiveReads.{empty_reads, small_reads, got_reads}
use Rattle.ring_buffer.proofs.calls.RingBufferEventBuffer.receive.Goals as goal

pub find_wanted-requires-clause-walk : goal.find_wanted-requires-clause-walk
find_wanted-requires-clause-walk c = (reader c.self.inside c.args.client c.in-Some.position c.self.invariant c.in-Some.ensures).walk

-- nothing was found

pub invariant_of-self : goal.invariant_of-self
invariant_of-self c =
    let r = reader c.self.inside c.args.client c.in-Some.position c.self.invariant c.in-Some.ensures in
    let reply = empty_reply c.self.inside (window_of c.self.inside) c.args.client c.args.into.now.room (at c.in-Some.position.0 c.in-Some.position.1) refl r c.in_default-find_wanted.ensures.nothing in
    ring_read (with_pointers c.self.inside c.advance.new.self) c.find_wanted.new.ring c.find_wanted.ensures.same
    (ring_moved c.self.inside c.advance.new.self c.args.client c.self.inside.total c.self.inside.count c.self.invariant
    (advanced _ c.advance.result c.self.inside c.args.client (at c.in-Some.position.0 c.in-Some.position.1) r c.advance.ensures.reply c.advance.ensures.ok)
    (at_end c.self.inside c.self.invariant)
    (subst (λ (n : ℕ). IsWindow (with_clients (window_of c.self.inside) (change_slot (going_on n) (clients_of c.self.inside.clients) c.args.client))) (accepted_is c.self.inside c.self.invariant)
    (window_stays (window_of c.self.inside) (Receive c.args.client c.args.into.now.room (Empty c.self.inside.gate c.self.inside.last)) c.self.invariant.window reply)))

pub returns-in_default-find_wanted-clause-reply : goal.returns-in_default-find_wanted-clause-reply
returns-in_default-find_wanted-clause-reply c =
    let r = reader c.self.inside c.args.client c.in-Some.position c.self.invariant c.in-Some.ensures in
    empty_reply c.self.inside c.args.self.now.window c.args.client c.args.into.now.room (at c.in-Some.position.0 c.in-Some.position.1) (window_seen c.self.inside c.args.self.now c.self.view_is) r c.in_default-find_wanted.ensures.nothing

pub returns-in_default-find_wanted-clause-after : goal.returns-in_default-find_wanted-clause-after
returns-in_default-find_wanted-clause-after c =
    let r = reader c.self.inside c.args.client c.in-Some.position c.self.invariant c.in-Some.ensures in
    window_read (with_pointers c.self.inside c.advance.new.self) c.find_wanted.new.ring c.find_wanted.ensures.same
    ∙ (window_moved c.self.inside c.advance.new.self c.args.client c.self.inside.total c.self.inside.count
    (advanced _ c.advance.result c.self.inside c.args.client (at c.in-Some.position.0 c.in-Some.position.1) r c.advance.ensures.reply c.advance.ensures.ok)
    ∙ (ap (λ (n : ℕ). with_clients (window_of c.self.inside) (change_slot (going_on n) (clients_of c.self.inside.clients) c.args.client)) (sym (accepted_is c.self.inside c.self.invariant))
    ∙ ap (λ (w : Window). with_clients w (change_slot (going_on (accepted_of w)) w.clients c.args.client)) (window_seen c.self.inside c.args.self.now c.self.view_is)))

pub returns-in_default-find_wanted-clause-reads : goal.returns-in_default-find_wanted-clause-reads
returns-in_default-find_wanted-clause-reads c =
    let r = reader c.self.inside c.args.client c.in-Some.position c.self.invariant c.in-Some.ensures in
    empty_reads c.self.inside c.args.self.now _ c.find_wanted.new.ring c.args.client c.args.into.now.room c.self.inside.last c.self.inside.gate (at c.in-Some.position.0 c.in-Some.position.1) c.self.view_is c.self.invariant r c.in_default-find_wanted.ensures.all_read refl refl

-- the event has no room

pub returns-then-header-room-clause-reply : goal.returns-then-header-room-clause-reply
returns-then-header-room-clause-reply c =
    let r = reader c.self.inside c.args.client c.in-Some.position c.self.invariant c.in-Some.ensures in
    let v = given c.self.inside c.args.client (at c.in-Some.position.0 c.in-Some.position.1) c.in-Some-find_wanted.found r c.in-Some-find_wanted.ensures.found in
    small_reply c.self.inside c.args.self.now.window c.args.client c.args.into.now.room (at c.in-Some.position.0 c.in-Some.position.1) c.in-Some-find_wanted.found (window_seen c.self.inside c.args.self.now c.self.view_is) r v (omega (arith, c.room.ensures, c.if-header-room.true))

pub returns-then-header-room-clause-reads : goal.returns-then-header-room-clause-reads
returns-then-header-room-clause-reads c =
    let r = reader c.self.inside c.args.client c.in-Some.position c.self.invariant c.in-Some.ensures in
    small_reads c.self.inside c.args.self.now _ c.find_wanted.new.ring c.args.client c.args.into.now.room c.in-Some-find_wanted.found.front.header.data_size (at c.in-Some.position.0 c.in-Some.position.1) c.in-Some-find_wanted.found c.self.view_is c.self.invariant r
    c.in-Some-find_wanted.ensures.found.early c.in-Some-find_wanted.ensures.found.on_way.later c.in-Some-find_wanted.ensures.read refl refl

-- the event is given

pub get_data-requires-clause-fits : goal.get_data-requires-clause-fits
get_data-requires-clause-fits c =
    let r = reader c.self.inside c.args.client c.in-Some.position c.self.invariant c.in-Some.ensures in
    let v = given c.self.inside c.args.client (at c.in-Some.position.0 c.in-Some.position.1) c.in-Some-find_wanted.found r c.in-Some-find_wanted.ensures.found in
    let room = given_room c.self.inside c.args.client (at c.in-Some.position.0 c.in-Some.position.1) c.in-Some-find_wanted.found c.self.invariant r c.in-Some-find_wanted.ensures.found in
    let here : c.in-Some-find_wanted.found.front.header.data_size ≤ length c.self.inside.ring.bytes = omega (arith, room, v.size, slot_cover (length (ring_event_at c.self.inside.ring.bytes c.in-Some-find_wanted.found.at.off).event.body)) in
    subst (λ (bytes : List ℕ). c.in-Some-find_wanted.found.front.header.data_size ≤ length bytes) (sym c.find_wanted.ensures.same) here

pub slot_len-requires : goal.slot_len-requires
slot_len-requires c =
    let r = reader c.self.inside c.args.client c.in-Some.position c.self.invariant c.in-Some.ensures in
    let v = given c.self.inside c.args.client (at c.in-Some.position.0 c.in-Some.position.1) c.in-Some-find_wanted.found r c.in-Some-find_wanted.ensures.found in
    omega (arith, v.size, v.fits.small)

pub invariant_of-self-2 : goal.invariant_of-self-2
invariant_of-self-2 c =
    let r = reader c.self.inside c.args.client c.in-Some.position c.self.invariant c.in-Some.ensures in
    let v = given c.self.inside c.args.client (at c.in-Some.position.0 c.in-Some.position.1) c.in-Some-find_wanted.found r c.in-Some-find_wanted.ensures.found in
    let reply = got_reply c.self.inside (window_of c.self.inside) c.args.client c.args.into.now.room c.in-Some-find_wanted.found.front.start (at c.in-Some.position.0 c.in-Some.position.1) c.in-Some-find_wanted.found refl r v c.in-Some-find_wanted.ensures.found.start (omega (arith, c.room.ensures, c.if-header-room.false)) in
    let slot : c.from.result ≡ slot_of_sent (ring_event_at c.self.inside.ring.bytes c.in-Some-find_wanted.found.at.off) = c.from.ensures ∙ (c.slot_len.ensures ∙ ap slot_of_length v.size) in
    ring_read (with_pointers c.self.inside c.advance-2.new.self) c.get_data.new.self (c.get_data.ensures.same ∙ c.find_wanted.ensures.same)
    (ring_moved c.self.inside c.advance-2.new.self c.args.client (c.in-Some-find_wanted.found.at.off + c.from.result) (c.in-Some-find_wanted.found.at.place + 1) c.self.invariant
    (advanced _ c.advance-2.result c.self.inside c.args.client (at c.in-Some.position.0 c.in-Some.position.1) r c.advance-2.ensures.reply c.advance-2.ensures.ok)
    (omega (arith, slot, v.behind))
    (window_stays (window_of c.self.inside) (Receive c.args.client c.args.into.now.room (Got c.in-Some-find_wanted.found.at.place c.in-Some-find_wanted.found.front.start)) c.self.invariant.window reply))

pub returns-clause-reply : goal.returns-clause-reply
returns-clause-reply c =
    let r = reader c.self.inside c.args.client c.in-Some.position c.self.invariant c.in-Some.ensures in
    let v = given c.self.inside c.args.client (at c.in-Some.position.0 c.in-Some.position.1) c.in-Some-find_wanted.found r c.in-Some-find_wanted.ensures.found in
    got_reply c.self.inside c.args.self.now.window c.args.client c.args.into.now.room c.in-Some-find_wanted.found.front.start (at c.in-Some.position.0 c.in-Some.position.1) c.in-Some-find_wanted.found (window_seen c.self.inside c.args.self.now c.self.view_is) r v c.in-Some-find_wanted.ensures.found.start (omega (arith, c.room.ensures, c.if-header-room.false))

pub returns-clause-after : goal.returns-clause-after
returns-clause-after c =
    let r = reader c.self.inside c.args.client c.in-Some.position c.self.invariant c.in-Some.ensures in
    window_read (with_pointers c.self.inside c.advance-2.new.self) c.get_data.new.self (c.get_data.ensures.same ∙ c.find_wanted.ensures.same)
    ∙ (window_moved c.self.inside c.advance-2.new.self c.args.client (c.in-Some-find_wanted.found.at.off + c.from.result) (c.in-Some-find_wanted.found.at.place + 1)
    (advanced _ c.advance-2.result c.self.inside c.args.client (at c.in-Some.position.0 c.in-Some.position.1) r c.advance-2.ensures.reply c.advance-2.ensures.ok)
    ∙ ap (λ (w : Window). with_clients w (change_slot (going_on (c.in-Some-find_wanted.found.at.place + 1)) w.clients c.args.client)) (window_seen c.self.inside c.args.self.now c.self.view_is))

pub returns-clause-event : goal.returns-clause-event
returns-clause-event c =
    let r = reader c.self.inside c.args.client c.in-Some.position c.self.invariant c.in-Some.ensures in
    let v = given c.self.inside c.args.client (at c.in-Some.position.0 c.in-Some.position.1) c.in-Some-find_wanted.found r c.in-Some-find_wanted.ensures.found in
    let s : Sent = ring_event_at c.self.inside.ring.bytes c.in-Some-find_wanted.found.at.off in
    let got : event_after c.args.into.now.event (window_of c.self.inside) (Got c.in-Some-find_wanted.found.at.place c.in-Some-find_wanted.found.front.start) ≡ s.event =
    event_got (window_of c.self.inside) r.pointer.client c.in-Some-find_wanted.found.at.place c.in-Some-find_wanted.found.front.start s c.args.into.now.event (v.found r.pointer.client (client_is c.self.inside c.args.client r.pointer r.lives)) in
    c.get_data.ensures.event
    ∙ (ap (λ (bytes : List ℕ). event_of c.in-Some-find_wanted.found.front.header (bytes_at bytes (c.in-Some-find_wanted.found.at.off + 24) c.in-Some-find_wanted.found.front.header.data_size)) c.find_wanted.ensures.same
    ∙ (v.whole ∙ subst (λ (w : Window). s.event ≡ event_after c.args.into.now.event w (Got c.in-Some-find_wanted.found.at.place c.in-Some-find_wanted.found.front.start)) (window_seen c.self.inside c.args.self.now c.self.view_is) (sym got)))

pub returns-clause-reads : goal.returns-clause-reads
returns-clause-reads c =
    let r = reader c.self.inside c.args.client c.in-Some.position c.self.invariant c.in-Some.ensures in
    let v = given c.self.inside c.args.client (at c.in-Some.position.0 c.in-Some.position.1) c.in-Some-find_wanted.found r c.in-Some-find_wanted.ensures.found in
    got_reads c.self.inside c.args.self.now _ c.find_wanted.new.ring c.get_data.new.self c.args.client c.args.into.now.room c.in-Some-find_wanted.found.front.start (at c.in-Some.position.0 c.in-Some.position.1) c.in-Some-find_wanted.found c.self.view_is r v c.in-Some-find_wanted.ensures.read
    (read_once c.find_wanted.new.ring c.get_data.new.self c.in-Some-find_wanted.found.front.header.data_size c.get_data.ensures.same c.get_data.ensures.reads c.get_data.ensures.bytes_read) refl refl
