-- A ring buffer as it opens.
use Rattle.std.specs.Prelude.{◌≡◌, ℕ, ◌≤◌, List, length, Option, Some, refl}
use Rattle.std.proofs.Common.{sym, subst, arith}
use Rattle.ring_buffer.specs.Rings.{CountedBytes}
use Rattle.buffer_core.specs.declared.gate.RunGate.TheVariants.{Shut}
use Rattle.buffer_core.specs.Slots.{slot_at}
use Rattle.buffer_core.proofs.SlotLaws.{slot_free}
use Rattle.buffer_core.specs.Window.{opening, no_clients, IsWindow}
use Rattle.buffer_core.proofs.WindowKept.{window_opens}
use Rattle.ring_buffer.specs.declared.pointer.Pointer.{Pointer}
use Rattle.ring_buffer.specs.Pointers.{no_pointers}
use Rattle.ring_buffer.specs.declared.ring_buffer.RingBuffer.TheInside.{Inside}
use Rattle.ring_buffer.specs.RingViews.{window_of, IsRingBuffer}
use Rattle.ring_buffer.specs.Stored.{ring_events_at}

abbrev pub opened : (ring : CountedBytes) → List (Option Pointer) → Inside
opened ring slots = record { ring = ring; first = 0; off = 0; count = 0; total = 0; clients = slots; gate = Shut; last = 0 }

pub opening_is : (ring : CountedBytes) → window_of (opened ring no_pointers) ≡ opening (length ring.bytes)
unfolding no_pointers no_clients ring_events_at
opening_is ring = refl

nobody : (n : ℕ) (p : Pointer) → slot_at no_pointers n ≡ Some p → ⊥
unfolding no_pointers
nobody n p e = cc (slot_free {X = Pointer} 64 n, e)

pub opened_is : (ring : CountedBytes) → 256 ≤ length ring.bytes → IsRingBuffer (opened ring no_pointers)
unfolding ring_events_at
opened_is ring least =
    record {
      window = subst IsWindow (sym (opening_is ring)) (window_opens (length ring.bytes));
      holds = record { size = refl; events = tt };
      fit = tt;
      least = least;
      order = omega arith;
      level = refl;
      placed = λ n p e. absurd (nobody n p e);
    }
