use Rattle.std.proofs.Common.{◌≡◌, ℕ, length, drop}
use Rattle.std.specs.Prelude.{slice_get, Some}
use Rattle.turn_lock.specs.Passes.{passes_of}
use Rattle.turn_lock.specs.Roster.{items_of}
use Rattle.turn_lock.specs.Closing.{history_of}
use Rattle.buffer_lock.specs.SharedBuffers.{lock_of}
use Rattle.session_objects.specs.declared.objects.SessionBuffer.{SessionBuffer}
use Rattle.session_objects.specs.declared.record.BufferRecord.{BufferRecord}
use Rattle.session_objects.specs.Records.{IsRecordOf, HoldsAllOf}
use Rattle.session_objects.proofs.closing.close_buffers.Given as goal

abbrev pub invariant-loop : goal.invariant-loop
invariant-loop l = (l.end ≡ length l.fn.buffers.items)
    × (l.buffers.items ≡ drop l.counter l.fn.buffers.items)
    × (l.passes.items ≡ drop l.counter l.fn.passes.items)
    × (length l.records ≡ l.counter)
    × ((number : ℕ) → (closed : BufferRecord) → slice_get l.records number ≡ Some closed →
    (buffer : SessionBuffer) → slice_get l.fn.buffers.items number ≡ Some buffer → IsRecordOf buffer closed)
    × ((number : ℕ) → (closed : BufferRecord) → slice_get l.records number ≡ Some closed →
    (buffer : SessionBuffer) → slice_get l.fn.buffers.items number ≡ Some buffer →
    (roster : _) → slice_get l.fn.passes.items number ≡ Some roster →
    HoldsAllOf (items_of roster) (passes_of (lock_of buffer.shared)) (history_of closed.closed))
