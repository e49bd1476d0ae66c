use Rattle.std.proofs.Common.{◌≡◌, ◌∙◌, ◌+◌, ◌-◌, ◌<◌, ◌++◌, ◌∷◌, [], ℕ, List, length, drop, length-append, add-one, ap, sym, subst, arith}
use Rattle.std.specs.Prelude.{slice_get, Some}
use Rattle.std.proofs.lemmas.List.{length-drop}
use Rattle.turn_lock.specs.declared.roster.Passes.{Passes}
use Rattle.turn_lock.specs.Passes.{passes_of}
use Rattle.turn_lock.specs.Roster.{items_of}
use Rattle.turn_lock.specs.Closing.{history_of}
use Rattle.buffer_lock.specs.SharedBuffers.{lock_of}
use Rattle.session_objects.specs.declared.objects.SessionBuffer.{SessionBuffer}
use Rattle.session_objects.specs.declared.record.BufferRecord.{BufferRecord}
use Rattle.session_objects.specs.Records.{IsRecordOf, HoldsAllOf}
use Rattle.session_objects.proofs.ChangeLaws.{each_pushed, some_same, drop_next, first_removed}
use Rattle.session_objects.proofs.closing.close_buffers.Goals as goal

pub close_buffer-requires : goal.close_buffer-requires
close_buffer-requires c = let inv = c.loop.invariant in
    let below : c.loop.counter < c.len-end.result = c.loop-test.true in
    let end : c.len-end.result ≡ length c.args.buffers.items = inv.0 in
    let many : length c.args.passes.items ≡ length c.args.buffers.items = c.requires.many in
    let e : length c.loop.buffers.items ≡ length c.args.buffers.items - c.loop.counter = ap length inv.1 ∙ length-drop c.loop.counter c.args.buffers.items in
    let f : length c.loop.passes.items ≡ length c.args.passes.items - c.loop.counter = ap length inv.2 ∙ length-drop c.loop.counter c.args.passes.items in
    c.requires.all c.loop.counter c.remove-buffer.result c.remove-roster.result
    (first_removed c.args.buffers.items c.loop.buffers.items c.loop.counter c.remove-buffer.result inv.1 (omega arith) c.remove-buffer.ensures.value)
    (first_removed c.args.passes.items c.loop.passes.items c.loop.counter c.remove-roster.result inv.2 (omega arith) c.remove-roster.ensures.value)

pub loop-preserved : goal.loop-preserved
loop-preserved c = let inv = c.loop.invariant in
    let n : ℕ = c.loop.counter in
    let below : n < c.len-end.result = c.loop-test.true in
    let end : c.len-end.result ≡ length c.args.buffers.items = inv.0 in
    let many : length c.args.passes.items ≡ length c.args.buffers.items = c.requires.many in
    let e : length c.loop.buffers.items ≡ length c.args.buffers.items - n = ap length inv.1 ∙ length-drop n c.args.buffers.items in
    let f : length c.loop.passes.items ≡ length c.args.passes.items - n = ap length inv.2 ∙ length-drop n c.args.passes.items in
    let b : SessionBuffer = c.remove-buffer.result in
    let r = c.remove-roster.result in
    let closed : BufferRecord = c.close_buffer.result in
    let at_b : slice_get c.args.buffers.items n ≡ Some b = first_removed c.args.buffers.items c.loop.buffers.items n b inv.1 (omega arith) c.remove-buffer.ensures.value in
    let at_r : slice_get c.args.passes.items n ≡ Some r = first_removed c.args.passes.items c.loop.passes.items n r inv.2 (omega arith) c.remove-roster.ensures.value in
    let pushed : c.push.new.self ≡ c.loop.records ++ closed ∷ [] = c.push.ensures in
    let count : length c.loop.records ≡ n = inv.3 in
    let IsOne : ℕ → BufferRecord → Type 0 = λ m z. (buffer : SessionBuffer) → slice_get c.args.buffers.items m ≡ Some buffer → IsRecordOf buffer z in
    let HasAll : ℕ → BufferRecord → Type 0 = λ m z. (buffer : SessionBuffer) → slice_get c.args.buffers.items m ≡ Some buffer →
    (roster : Passes _ _ _ _) → slice_get c.args.passes.items m ≡ Some roster → HoldsAllOf (items_of roster) (passes_of (lock_of buffer.shared)) (history_of z.closed) in
    let At : (ℕ → BufferRecord → Type 0) → List BufferRecord → Type 0 = λ Q zs. (number : ℕ) → (z : BufferRecord) → slice_get zs number ≡ Some z → Q number z in
    let one : IsOne (length c.loop.records) closed = λ buffer there.
    let same : b ≡ buffer = some_same b buffer (sym at_b ∙ ap (λ m. slice_get c.args.buffers.items m) (sym count) ∙ there) in
    let P : SessionBuffer → Type 0 = λ z. IsRecordOf z closed in subst P same c.close_buffer.ensures.record in
    let all : HasAll (length c.loop.records) closed = λ buffer there roster here.
    let same : b ≡ buffer = some_same b buffer (sym at_b ∙ ap (λ m. slice_get c.args.buffers.items m) (sym count) ∙ there) in
    let same_r : r ≡ roster = some_same r roster (sym at_r ∙ ap (λ m. slice_get c.args.passes.items m) (sym count) ∙ here) in
    let P : SessionBuffer → Type 0 = λ z. HoldsAllOf (items_of r) (passes_of (lock_of z.shared)) (history_of closed.closed) in
    let Q : Passes _ _ _ _ → Type 0 = λ z. HoldsAllOf (items_of z) (passes_of (lock_of buffer.shared)) (history_of closed.closed) in
    subst Q same_r (subst P same c.close_buffer.ensures.parts) in (
      inv.0,
      (c.remove-buffer.ensures.by_index.2 ∙ ap (drop 1) inv.1 ∙ drop_next c.args.buffers.items n ∙ ap (λ m. drop m c.args.buffers.items) (sym (add-one n))),
      (c.remove-roster.ensures.by_index.2 ∙ ap (drop 1) inv.2 ∙ drop_next c.args.passes.items n ∙ ap (λ m. drop m c.args.passes.items) (sym (add-one n))),
      (ap length pushed ∙ length-append c.loop.records (closed ∷ []) ∙ (let g : length c.loop.records + 1 ≡ n + 1 = omega arith in g)),
      subst (At IsOne) (sym pushed) (each_pushed IsOne c.loop.records closed inv.4 one),
      subst (At HasAll) (sym pushed) (each_pushed HasAll c.loop.records closed inv.5 all),
    )

pub returns-clause-records : goal.returns-clause-records
returns-clause-records c = λ number buffer closed at there. c.loop.invariant.4 number closed there buffer at

pub returns-clause-parts : goal.returns-clause-parts
returns-clause-parts c = λ number buffer roster closed at kept there. c.loop.invariant.5 number closed there buffer at roster kept
