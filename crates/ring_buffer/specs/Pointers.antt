-- The clients of a buffer that is kept in bytes.
use Rattle.std.specs.Prelude.{◌≡◌, ℕ, ◌+◌, ◌-◌, ◌≤◌, nat_lt, if◌then◌else◌, List, replicate, map, drop, sum_by, Option, Some, None}
use Rattle.std.specs.Option.{option_map}
use Rattle.buffer_core.specs.declared.client.Client.{Client}
use Rattle.buffer_core.specs.Slots.{slot_at}
use Rattle.buffer_core.specs.Window.{Window, slot_of_sent}
use Rattle.buffer_core.specs.Calls.{going_on}
use Rattle.ring_buffer.specs.declared.pointer.Pointer.{Pointer}

-- all 64 numbers are free
unfoldable pub no_pointers : List (Option Pointer)
no_pointers = replicate 64 None

-- this number, and each above it, is free
abbrev pub AreFreeFrom : (given : ℕ) → List (Option Pointer) → Type 0
AreFreeFrom given slots = (n : ℕ) → given ≤ n → slot_at slots n ≡ None

-- the clients, without where they go on in the bytes
abbrev pub clients_of : List (Option Pointer) → List (Option Client)
clients_of slots = map (option_map (λ (p : Pointer). p.client)) slots

-- the client changes, and stays where it is
abbrev pub changed : (Client → Client) → Pointer → Pointer
changed f p = record { client = f p.client; off = p.off }

-- the client goes on from this place, which has this offset
abbrev pub moved : (off place : ℕ) → Pointer → Pointer
moved off place p = record { client = going_on place p.client; off = off }

-- and so it does if it is behind
abbrev pub raised : (off place : ℕ) → Pointer → Pointer
raised off place p = if nat_lt p.client.next place then moved off place p else p

-- the offset and the place that the client goes on from
abbrev pub position_of : Pointer → ℕ × ℕ
position_of p = (p.off, p.client.next)

-- the client is at the offset of its next place: from there on the slots reach to the end
abbrev pub IsAtOffset : Window → Pointer → Type 0
IsAtOffset w p = p.off + sum_by slot_of_sent (drop (p.client.next - w.first) w.kept) ≡ w.total

-- each client is
abbrev pub AreAtOffsets : Window → List (Option Pointer) → Type 0
AreAtOffsets w slots = (n : ℕ) (p : Pointer) → slot_at slots n ≡ Some p → IsAtOffset w p
