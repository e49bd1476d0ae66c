use Rattle.std.proofs.Common.{◌≡◌, ℕ, length}
use Rattle.std.specs.Prelude.{slice_get, Some, []}
use Rattle.buffer_lock.specs.SharedBuffers.{lock_of}
use Rattle.session_setup.specs.declared.declared.BufferDeclared.{BufferDeclared}
use Rattle.session_objects.specs.declared.objects.SessionBuffer.{SessionBuffer}
use Rattle.session_objects.specs.Rosters.{KeepsFresh}
use Rattle.session_objects.specs.Objects.{IsBufferOf}
use Rattle.session_objects.proofs.opening.open_buffers.Given as goal

abbrev pub invariant-loop-wanted : goal.invariant-loop-wanted
invariant-loop-wanted l = (length l.buffers.items ≡ l.wanted-index) × (length l.passes.items ≡ l.wanted-index)
    × ((number : ℕ) → (buffer : SessionBuffer) → slice_get l.buffers.items number ≡ Some buffer →
    (d : BufferDeclared) → slice_get l.declared number ≡ Some d → IsBufferOf d l.callers buffer)
    × ((number : ℕ) → (buffer : SessionBuffer) → slice_get l.buffers.items number ≡ Some buffer →
    (roster : _) → slice_get l.passes.items number ≡ Some roster → KeepsFresh [] (lock_of buffer.shared) roster)
