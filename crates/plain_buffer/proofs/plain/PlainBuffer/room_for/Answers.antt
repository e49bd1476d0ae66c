use Rattle.std.proofs.Common.{◌≡◌, take, Some, None, subst, ap, sym, ◌∙◌}
use Rattle.event.specs.Headers.{event_of}
use Rattle.buffer_core.specs.Window.{Window}
use Rattle.buffer_core.specs.Calls.{to_drop, gone_of}
use Rattle.plain_buffer.specs.Rows.{slot_of_row}
use Rattle.plain_buffer.proofs.Room.{IsTested, room_is, gone_is}
use Rattle.plain_buffer.proofs.plain.PlainBuffer.room_for.Goals as goal

pub returns-in-Some-clause-refused : goal.returns-in-Some-clause-refused
returns-in-Some-clause-refused c =
    let tested : IsTested c.self.inside c.args.header.now c.args.body.now c.from.result c.from-2.result =
    record { stated = c.in_ok-slot.ensures.stated; small = c.in_ok-slot.ensures.small; free = c.in_ok-slot.ensures.free; slot_is = c.from.ensures ∙ c.in_ok-slot.ensures.slot; size_is = c.from-2.ensures; fits = c.in_ok-slot.ensures.fits; unspent = c.in_ok-slot.ensures.spent } in
    room_is c.self.inside c.args.self.now c.args.header.now c.args.body.now c.count_to_drop-gone.result c.from.result c.from-2.result c.split_at.result.0.now (Some (c.in-Some.client, c.in-Some.place)) c.self.view_is c.self.invariant tested
    (c.count_to_drop-gone.ensures.value ∙ ap (to_drop slot_of_row c.from-2.result c.from.result) c.as_slice-rows.ensures.value) (c.split_at.ensures.front ∙ ap (take c.count_to_drop-gone.result) c.as_slice-rows.ensures.value) (sym c.first_owed.ensures ∙ c.in-Some.is)

pub returns-in-None-clause-taken : goal.returns-in-None-clause-taken
returns-in-None-clause-taken c =
    let tested : IsTested c.self.inside c.args.header.now c.args.body.now c.from.result c.from-2.result =
    record { stated = c.in_ok-slot.ensures.stated; small = c.in_ok-slot.ensures.small; free = c.in_ok-slot.ensures.free; slot_is = c.from.ensures ∙ c.in_ok-slot.ensures.slot; size_is = c.from-2.ensures; fits = c.in_ok-slot.ensures.fits; unspent = c.in_ok-slot.ensures.spent } in
    room_is c.self.inside c.args.self.now c.args.header.now c.args.body.now c.count_to_drop-gone.result c.from.result c.from-2.result c.split_at.result.0.now None c.self.view_is c.self.invariant tested
    (c.count_to_drop-gone.ensures.value ∙ ap (to_drop slot_of_row c.from-2.result c.from.result) c.as_slice-rows.ensures.value) (c.split_at.ensures.front ∙ ap (take c.count_to_drop-gone.result) c.as_slice-rows.ensures.value) (sym c.first_owed.ensures ∙ c.in-None.is)

pub returns-in-None-clause-gone : goal.returns-in-None-clause-gone
returns-in-None-clause-gone c =
    let tested : IsTested c.self.inside c.args.header.now c.args.body.now c.from.result c.from-2.result =
    record { stated = c.in_ok-slot.ensures.stated; small = c.in_ok-slot.ensures.small; free = c.in_ok-slot.ensures.free; slot_is = c.from.ensures ∙ c.in_ok-slot.ensures.slot; size_is = c.from-2.ensures; fits = c.in_ok-slot.ensures.fits; unspent = c.in_ok-slot.ensures.spent } in
    subst (λ (w : Window). c.count_to_drop-gone.result ≡ gone_of w (event_of c.args.header.now c.args.body.now)) c.self.view_is
    (gone_is c.self.inside c.args.header.now c.args.body.now c.count_to_drop-gone.result c.from.result c.from-2.result c.self.invariant tested
    (c.count_to_drop-gone.ensures.value ∙ ap (to_drop slot_of_row c.from-2.result c.from.result) c.as_slice-rows.ensures.value))
