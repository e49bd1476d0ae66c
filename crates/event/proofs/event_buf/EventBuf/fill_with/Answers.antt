use Rattle.std.proofs.Common.{◌≡◌, ◌∙◌, ℕ, List, ◌+◌, ◌++◌, drop, take, length, ap, sym, arith, length-append}
use Rattle.std.proofs.lemmas.List.{with_items_is}
use Rattle.std.specs.Vec.{with_items}
use Rattle.event.specs.Headers.{event_of, header_encoding}
use Rattle.event.specs.Held.{HeldEvent}
use Rattle.event.proofs.Lending.{written_front, written_body, head_of}
use Rattle.event.proofs.event_buf.EventBuf.fill_with.Goals as goal

pub invariant_of-self : goal.invariant_of-self
invariant_of-self g c =
    let long : length (c.split_at_mut-data.result.0.now ++ c.write.new.into) ≡ 16 + c.args.header.now.data_size =
    omega (
      arith,
      length-append c.split_at_mut-data.result.0.now c.write.new.into,
      length-append c.split_at_mut-data.result.0.now c.split_at_mut-data.result.1.now,
      ap (length {A = ℕ}) c.write.ensures.written,
      c.requires.whole,
      c.split_at_mut-data.ensures.front_len,
      c.write_head.ensures.length,
    ) in
    let items_are : (with_items c.write_head.new.bytes (c.split_at_mut-data.result.0.now ++ c.write.new.into)).items ≡ c.split_at_mut-data.result.0.now ++ c.write.new.into =
    with_items_is c.write_head.new.bytes _ (omega (arith, long, c.write_head.ensures.length)) in
    let is_head : c.split_at_mut-data.result.0.now ≡ header_encoding c.args.header.now =
    head_of c.args.header.now c.write_head.new.bytes.items _ c.write_head.ensures.front (c.split_at_mut-data.ensures.front ∙ ap (take 16) c.as_mut_slice.ensures.value) in
    let same_room : c.self.inside.room ≡ c.args.self.now.room = ap (λ (h : HeldEvent). h.room) c.self.view_is in
    record {
      bytes = written_front c.args.header.now _ _ _ items_are is_head;
      stated = ap (length {A = ℕ}) items_are ∙ long;
      fits = omega (arith, c.requires.room, same_room);
      capacity = omega (arith, c.write_head.ensures.capacity, c.self.invariant.capacity);
    }

pub returns-clause-event : goal.returns-clause-event
returns-clause-event g c =
    let long : length (c.split_at_mut-data.result.0.now ++ c.write.new.into) ≡ 16 + c.args.header.now.data_size =
    omega (
      arith,
      length-append c.split_at_mut-data.result.0.now c.write.new.into,
      ap (length {A = ℕ}) c.write.ensures.written,
      c.requires.whole,
      c.split_at_mut-data.ensures.front_len,
      c.write_head.ensures.length,
    ) in
    let items_are : (with_items c.write_head.new.bytes (c.split_at_mut-data.result.0.now ++ c.write.new.into)).items ≡ c.split_at_mut-data.result.0.now ++ c.write.new.into =
    with_items_is c.write_head.new.bytes _ (omega (arith, long, c.write_head.ensures.length)) in
    let is_head : c.split_at_mut-data.result.0.now ≡ header_encoding c.args.header.now =
    head_of c.args.header.now c.write_head.new.bytes.items _ c.write_head.ensures.front (c.split_at_mut-data.ensures.front ∙ ap (take 16) c.as_mut_slice.ensures.value) in
    let same_room : c.self.inside.room ≡ c.args.self.now.room = ap (λ (h : HeldEvent). h.room) c.self.view_is in
    let made : List ℕ → ℕ → HeldEvent = λ body room. record { event = event_of c.args.header.now body; room = room } in
    ap (λ (body : List ℕ). made body c.self.inside.room) (written_body c.args.header.now _ _ _ items_are is_head ∙ c.write.ensures.written)
    ∙ ap (λ (room : ℕ). made (g.W.DataWriter.gives c.args.writer.now) room) same_room
