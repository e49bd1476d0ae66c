use Rattle.std.proofs.Common.{◌≡◌, ◌∙◌, ℕ, ◌++◌, drop, take, length, ap, sym, subst, arith, length-append}
use Rattle.std.proofs.lemmas.List.{with_items_is}
use Rattle.std.specs.Vec.{with_items}
use Rattle.event.specs.Headers.{header_encoding}
use Rattle.event.specs.Pieces.{Gathers}
use Rattle.event.proofs.Lending.{written_front, written_body, head_of, gathered, map_ok}
use Rattle.event.proofs.event_buf.EventBuf.fill_from.Goals as goal

pub invariant_of-self : goal.invariant_of-self
invariant_of-self g c =
    let items_are : (with_items c.self.inside.bytes (c.split_at_mut-body.result.0.now ++ c.read_full.new.into)).items ≡ c.split_at_mut-body.result.0.now ++ c.read_full.new.into =
    with_items_is c.self.inside.bytes _ (omega (
      arith,
      length-append c.split_at_mut-body.result.0.now c.read_full.new.into,
      length-append c.split_at_mut-body.result.0.now c.split_at_mut-body.result.1.now,
      c.read_full.ensures.length,
      ap (length {A = ℕ}) c.split_at_mut-body.ensures.value,
      c.as_mut_slice.ensures.len,
    )) in
    let is_head : c.split_at_mut-body.result.0.now ≡ header_encoding c.self.inside.header =
    head_of c.self.inside.header c.self.inside.bytes.items _ c.self.invariant.bytes (c.split_at_mut-body.ensures.front ∙ ap (take 16) c.as_mut_slice.ensures.value) in
    record {
      bytes = written_front c.self.inside.header _ _ _ items_are is_head;
      stated = ap (length {A = ℕ}) items_are ∙ omega (
        arith,
        length-append c.split_at_mut-body.result.0.now c.read_full.new.into,
        length-append c.split_at_mut-body.result.0.now c.split_at_mut-body.result.1.now,
        c.read_full.ensures.length,
        ap (length {A = ℕ}) c.split_at_mut-body.ensures.value,
        ap (length {A = ℕ}) c.as_mut_slice.ensures.value,
        c.self.invariant.stated,
      );
      fits = c.self.invariant.fits;
      capacity = c.self.invariant.capacity;
    }

pub returns-clause-gathers : goal.returns-clause-gathers
returns-clause-gathers g c =
    let items_are : (with_items c.self.inside.bytes (c.split_at_mut-body.result.0.now ++ c.read_full.new.into)).items ≡ c.split_at_mut-body.result.0.now ++ c.read_full.new.into =
    with_items_is c.self.inside.bytes _ (omega (
      arith,
      length-append c.split_at_mut-body.result.0.now c.read_full.new.into,
      length-append c.split_at_mut-body.result.0.now c.split_at_mut-body.result.1.now,
      c.read_full.ensures.length,
      ap (length {A = ℕ}) c.split_at_mut-body.ensures.value,
      c.as_mut_slice.ensures.len,
    )) in
    let is_head : c.split_at_mut-body.result.0.now ≡ header_encoding c.self.inside.header =
    head_of c.self.inside.header c.self.inside.bytes.items _ c.self.invariant.bytes (c.split_at_mut-body.ensures.front ∙ ap (take 16) c.as_mut_slice.ensures.value) in
    let old_is : c.split_at_mut-body.result.1.now ≡ drop 16 c.self.inside.bytes.items = c.split_at_mut-body.ensures.back ∙ ap (drop 16) c.as_mut_slice.ensures.value in
    let new_is : drop 16 (with_items c.self.inside.bytes (c.split_at_mut-body.result.0.now ++ c.read_full.new.into)).items ≡ c.read_full.new.into =
    written_body c.self.inside.header _ _ _ items_are is_head in
    map_ok (Gathers (g.S.Source.told c.args.source.now).left (g.S.Source.told c.read_full.new.source).left c.read_full.new.into) _ c.read_full.result
    (λ count p. gathered (g.S.Source.told c.args.source.now).left (g.S.Source.told c.read_full.new.source).left c.args.header.now c.self.inside.header c.args.self.now c.self.inside.room
    (drop 16 c.self.inside.bytes.items) c.prepare.ensures.0 _ count (c.self.view_is ∙ c.prepare.ensures.2) c.prepare.ensures.1
    (ap (length {A = ℕ}) new_is ∙ c.read_full.ensures.length ∙ ap (length {A = ℕ}) old_is)
    (subst (λ b. Gathers (g.S.Source.told c.args.source.now).left (g.S.Source.told c.read_full.new.source).left b count) (sym new_is) p))
    c.read_full.ensures.gathers
