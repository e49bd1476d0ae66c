-- How often the calls of a history read the ring, and how many bytes.
use Rattle.std.specs.Prelude.{◌≡◌, ℕ, ◌+◌, ◌*◌, ◌≤◌, ◌==◌, Bool, false, if◌then◌else◌, List, [], ◌∷◌, count_by}
use Rattle.buffer_core.specs.declared.replies.Received.TheVariants.{Got, Empty}
use Rattle.buffer_core.specs.declared.entry.BufferEntry.{BufferEntry}
use Rattle.buffer_core.specs.declared.entry.BufferEntry.TheVariants.{Send, SendInRun, Receive}
use Rattle.buffer_core.specs.Slots.{slot_at}
use Rattle.buffer_core.specs.Window.{Window, kept_at}
use Rattle.buffer_core.specs.Calls.{window_after}
use Rattle.ring_buffer.specs.RingHolds.{front_bytes}
use Rattle.ring_buffer.specs.CountedWindows.{CountedWindow}
use Rattle.ring_buffer.specs.Rings.{Rises}
use Rattle.ring_buffer.specs.Reads.{fronts_of_send, fronts_of_receive, data_of}

-- of how many events a call with this reply reads what is in front of the data, at most: only sends and receives do
abbrev pub fronts_of_call : Window → BufferEntry → ℕ
fronts_of_call w (Send stated e reply) = fronts_of_send w e reply
fronts_of_call w (SendInRun start stated e reply) = fronts_of_send w e reply
fronts_of_call w (Receive client room reply) = fronts_of_receive w (slot_at w.clients client) reply
fronts_of_call w entry = 0

-- of how many events it reads the data: of the one that it gives
abbrev pub bodies_of_call : BufferEntry → ℕ
bodies_of_call (Receive client room (Got place start)) = 1
bodies_of_call entry = 0

-- how many bytes these data are
abbrev pub data_of_call : Window → BufferEntry → ℕ
data_of_call w (Receive client room (Got place start)) = data_of (kept_at w place)
data_of_call w entry = 0

-- between the two the ring counted just as much as reads like these come to: of what is in front of an event's data, of no
-- more events than this call may read it of; and of the data of the event that it gives, once
pub record ReadsFew (old new : CountedWindow) (entry : BufferEntry) : Type 0 where
  pub fronts : ℕ
  pub few : fronts ≤ fronts_of_call old.window entry
  pub often : Rises old.reads new.reads (fronts + bodies_of_call entry)
  pub much : Rises old.bytes_read new.bytes_read (front_bytes * fronts + data_of_call old.window entry)

-- how often the call reads the ring, at most
abbrev pub reads_of_call : Window → BufferEntry → ℕ
reads_of_call w entry = fronts_of_call w entry + bodies_of_call entry

-- and how many bytes
abbrev pub bytes_of_call : Window → BufferEntry → ℕ
bytes_of_call w entry = front_bytes * fronts_of_call w entry + data_of_call w entry

-- how often each of these calls may read the ring, one after the other
abbrev pub reads_by_call : Window → List (ℕ × BufferEntry) → List ℕ
reads_by_call w [] = []
reads_by_call w (e ∷ es) = reads_of_call w e.1 ∷ reads_by_call (window_after w e.1) es

-- and how many bytes
abbrev pub bytes_by_call : Window → List (ℕ × BufferEntry) → List ℕ
bytes_by_call w [] = []
bytes_by_call w (e ∷ es) = bytes_of_call w e.1 ∷ bytes_by_call (window_after w e.1) es

-- the buffer went from the one to the other by these calls, each of which read the ring as it may
abbrev pub AreReadsFew : (old new : CountedWindow) → List (ℕ × BufferEntry) → Type 0
AreReadsFew old new [] = new ≡ old
AreReadsFew old new (e ∷ es) =
    (now : CountedWindow) × ReadsFew old now e.1 × (now.window ≡ window_after old.window e.1)
    × AreReadsFew now new es

-- whether the client received an event by this call
abbrev pub is_got : (client : ℕ) → BufferEntry → Bool
is_got client (Receive c room (Got place start)) = c == client
is_got client entry = false

-- whether it received one, or was told that there is none
abbrev pub is_read : (client : ℕ) → BufferEntry → Bool
is_read client (Receive c room (Got place start)) = c == client
is_read client (Receive c room (Empty gate last)) = c == client
is_read client entry = false

-- how many events the client received by these calls
abbrev pub count_got : (client : ℕ) → List (ℕ × BufferEntry) → ℕ
count_got client es = count_by (λ e. is_got client e.1) es

-- how often the receives of the client that gave it an event or found none may read the ring, all
-- together
abbrev pub reads_of_client : (client : ℕ) → Window → List (ℕ × BufferEntry) → ℕ
reads_of_client client w [] = 0
reads_of_client client w (e ∷ es) =
    (if is_read client e.1 then reads_of_call w e.1 else 0)
    + reads_of_client client (window_after w e.1) es
