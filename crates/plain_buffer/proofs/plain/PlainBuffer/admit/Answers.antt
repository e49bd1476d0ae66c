use Rattle.std.proofs.Common.{◌≡◌, ◌+◌, ◌^◌, ◌≤◌, ◌∷◌, [], ◌++◌, ℕ, List, length, refl, take, drop, sum_by, subst, ap, sym, ◌∙◌, arith}
use Rattle.std.proofs.lemmas.List.{length-drop}
use Rattle.std.proofs.lemmas.List.Elements.{All-push, All-drop}
use Rattle.event.specs.Events.{slot_of_length}
use Rattle.plain_buffer.specs.declared.rows.Row.{Row}
use Rattle.buffer_core.specs.Window.{Window, IsWindow}
use Rattle.plain_buffer.specs.Rows.{slot_of_row, size_of_row, AreSmall, IsSmall, kept_of}
use Rattle.event.specs.Headers.{event_of}
use Rattle.buffer_core.specs.Calls.{after_send}
use Rattle.buffer_core.proofs.WindowLaws.{slot_cover}
use Rattle.buffer_core.proofs.WindowKept.{IsTaken, send_kept}
use Rattle.plain_buffer.proofs.Admit.{IsFreed, freed, whole_admitted, counted_admitted, kept_admitted, window_admitted, admitted}
use Rattle.plain_buffer.proofs.plain.PlainBuffer.admit.Goals as goal

pub split_at-requires : goal.split_at-requires
split_at-requires c =
    let room : IsFreed c.self.inside.rows.items c.args.gone c.self.inside.size (slot_of_length (length c.args.body.now)) =
    freed c.self.inside c.args.self.now c.args.header.now c.args.body.now c.args.gone c.self.view_is c.self.invariant c.requires.gone c.requires.fits in
    subst (λ (rows : List Row). c.args.gone ≤ length rows) (sym c.as_slice.ensures.value) room.within

pub push_reserved-requires : goal.push_reserved-requires
push_reserved-requires c =
    let room : IsFreed c.self.inside.rows.items c.args.gone c.self.inside.size (slot_of_length (length c.args.body.now)) =
    freed c.self.inside c.args.self.now c.args.header.now c.args.body.now c.args.gone c.self.view_is c.self.invariant c.requires.gone c.requires.fits in
    let long : length c.drop_front.new.items.items ≡ length (drop c.args.gone c.self.inside.rows.items) = ap (λ (rows : List Row). length rows) c.drop_front.ensures.items in
    omega (arith, long, c.drop_front.new.items.ok.0, c.drop_front.ensures.capacity, room.covered, room.left, c.self.invariant.rows_room)

pub append_within-requires : goal.append_within-requires
append_within-requires c =
    let room : IsFreed c.self.inside.rows.items c.args.gone c.self.inside.size (slot_of_length (length c.args.body.now)) =
    freed c.self.inside c.args.self.now c.args.header.now c.args.body.now c.args.gone c.self.view_is c.self.invariant c.requires.gone c.requires.fits in
    let front_is : c.split_at.result.0.now ≡ take c.args.gone c.self.inside.rows.items = c.split_at.ensures.front ∙ ap (take c.args.gone) c.as_slice.ensures.value in
    let data_is : c.data_len-data.result ≡ sum_by size_of_row (take c.args.gone c.self.inside.rows.items) = c.data_len-data.ensures ∙ ap (sum_by size_of_row) front_is in
    let long : length c.drop_front-2.new.items.items ≡ length (drop c.data_len-data.result c.self.inside.bytes.items) = ap (λ (bs : List ℕ). length bs) c.drop_front-2.ensures.items in
    omega (
      arith,
      long,
      length-drop c.data_len-data.result c.self.inside.bytes.items,
      c.drop_front-2.new.items.ok.0,
      c.drop_front-2.ensures.capacity,
      data_is,
      room.sizes,
      room.covered,
      room.left,
      slot_cover (length c.args.body.now),
      c.self.invariant.whole,
      c.self.invariant.bytes_room,
    )

pub invariant_of-self : goal.invariant_of-self
invariant_of-self c =
    let room : IsFreed c.self.inside.rows.items c.args.gone c.self.inside.size (slot_of_length (length c.args.body.now)) =
    freed c.self.inside c.args.self.now c.args.header.now c.args.body.now c.args.gone c.self.view_is c.self.invariant c.requires.gone c.requires.fits in
    let front_is : c.split_at.result.0.now ≡ take c.args.gone c.self.inside.rows.items = c.split_at.ensures.front ∙ ap (take c.args.gone) c.as_slice.ensures.value in
    let data_is : c.data_len-data.result ≡ sum_by size_of_row (take c.args.gone c.self.inside.rows.items) = c.data_len-data.ensures ∙ ap (sum_by size_of_row) front_is in
    let row : Row = record { header = c.args.header.now; start = c.args.start } in
    let rows_are : c.push_reserved.new.self.items ≡ drop c.args.gone c.self.inside.rows.items ++ row ∷ [] =
    c.push_reserved.ensures.items ∙ ap (λ (rows : List Row). rows ++ row ∷ []) c.drop_front.ensures.items in
    let middle_is : c.drop_front-2.new.items.items ≡ drop (sum_by size_of_row (take c.args.gone c.self.inside.rows.items)) c.self.inside.bytes.items =
    c.drop_front-2.ensures.items ∙ ap (λ (n : ℕ). drop n c.self.inside.bytes.items) data_is in
    let slots_are : c.slots_len-slots.result ≡ sum_by slot_of_row (take c.args.gone c.self.inside.rows.items) = c.slots_len-slots.ensures ∙ ap (sum_by slot_of_row) front_is in
    let slot_is : c.from-slot.result ≡ slot_of_length (length c.args.body.now) = c.from-slot.ensures ∙ (c.slot_len.ensures ∙ ap slot_of_length c.requires.stated) in
    let after : admitted c.self.inside c.args.gone c.from-slot.result (kept_of c.push_reserved.new.self.items c.append_within.new.bytes.items) c.push.new.self ≡ after_send c.args.self.now c.args.start (event_of c.args.header.now c.args.body.now) =
    window_admitted c.self.inside c.args.self.now c.args.header.now c.args.body.now c.args.gone c.from-slot.result c.args.start (kept_of c.push_reserved.new.self.items c.append_within.new.bytes.items) c.push.new.self c.self.view_is
    c.requires.gone slot_is
    (kept_admitted c.self.inside.rows.items c.push_reserved.new.self.items c.self.inside.bytes.items c.drop_front-2.new.items.items c.append_within.new.bytes.items c.args.gone row c.args.body.now
    c.self.invariant.whole c.requires.stated rows_are middle_is c.append_within.ensures.items)
    c.push.ensures in
    let taken : IsTaken c.args.self.now (length c.args.body.now) (event_of c.args.header.now c.args.body.now) =
    record { sendable = record { stated_right = refl; small = c.requires.small; free = c.requires.free; fits = c.requires.fits }; unspent = c.requires.spent } in
    record {
      kept = subst IsWindow (sym after) (send_kept c.args.self.now c.args.start (length c.args.body.now) (event_of c.args.header.now c.args.body.now) (subst IsWindow c.self.view_is c.self.invariant.kept) taken c.requires.early);
      whole = whole_admitted c.self.inside.rows.items c.push_reserved.new.self.items c.self.inside.bytes.items c.append_within.new.bytes.items c.args.gone row c.args.body.now c.drop_front-2.new.items.items
          c.self.invariant.whole c.requires.stated rows_are middle_is c.append_within.ensures.items;
      counted = counted_admitted c.self.inside.rows.items c.push_reserved.new.self.items c.args.gone row c.self.inside.level c.slots_len-slots.result c.from-slot.result
          c.self.invariant.counted slots_are (c.from-slot.ensures ∙ c.slot_len.ensures) rows_are;
      small = subst (λ (rows : List Row). AreSmall rows) (sym rows_are) (All-push IsSmall (drop c.args.gone c.self.inside.rows.items) row (All-drop IsSmall c.args.gone c.self.inside.rows.items c.self.invariant.small) (omega (arith, c.requires.stated, c.requires.small)));
      fits = omega (arith, c.self.invariant.counted, slots_are, room.slots, room.left, slot_is);
      bounded = c.self.invariant.bounded;
      paid = omega (arith, c.self.invariant.paid, c.self.invariant.counted, slots_are, room.slots, room.paid);
      spent = subst (λ (w : Window). w.total + c.from-slot.result ≤ 2 ^ 62) (sym c.self.view_is) (subst (λ (n : ℕ). c.args.self.now.total + n ≤ 2 ^ 62) (sym slot_is) c.requires.spent);
      rows_room = omega (arith, c.self.invariant.rows_room, c.push_reserved.ensures.capacity, c.drop_front.ensures.capacity);
      bytes_room = omega (arith, c.self.invariant.bytes_room, c.append_within.ensures.capacity, c.drop_front-2.ensures.capacity);
    }

pub returns : goal.returns
returns c =
    let front_is : c.split_at.result.0.now ≡ take c.args.gone c.self.inside.rows.items = c.split_at.ensures.front ∙ ap (take c.args.gone) c.as_slice.ensures.value in
    let data_is : c.data_len-data.result ≡ sum_by size_of_row (take c.args.gone c.self.inside.rows.items) = c.data_len-data.ensures ∙ ap (sum_by size_of_row) front_is in
    let row : Row = record { header = c.args.header.now; start = c.args.start } in
    let rows_are : c.push_reserved.new.self.items ≡ drop c.args.gone c.self.inside.rows.items ++ row ∷ [] =
    c.push_reserved.ensures.items ∙ ap (λ (rows : List Row). rows ++ row ∷ []) c.drop_front.ensures.items in
    let middle_is : c.drop_front-2.new.items.items ≡ drop (sum_by size_of_row (take c.args.gone c.self.inside.rows.items)) c.self.inside.bytes.items =
    c.drop_front-2.ensures.items ∙ ap (λ (n : ℕ). drop n c.self.inside.bytes.items) data_is in
    let slot_is : c.from-slot.result ≡ slot_of_length (length c.args.body.now) = c.from-slot.ensures ∙ (c.slot_len.ensures ∙ ap slot_of_length c.requires.stated) in
    window_admitted c.self.inside c.args.self.now c.args.header.now c.args.body.now c.args.gone c.from-slot.result c.args.start (kept_of c.push_reserved.new.self.items c.append_within.new.bytes.items) c.push.new.self c.self.view_is
    c.requires.gone slot_is
    (kept_admitted c.self.inside.rows.items c.push_reserved.new.self.items c.self.inside.bytes.items c.drop_front-2.new.items.items c.append_within.new.bytes.items c.args.gone row c.args.body.now
    c.self.invariant.whole c.requires.stated rows_are middle_is c.append_within.ensures.items)
    c.push.ensures
