-- What a port to a shared buffer tells its caller.
use Rattle.std.specs.Prelude.{ℕ, List, []}
use Rattle.buffer_core.specs.declared.entry.BufferEntry.{BufferEntry}
use Rattle.buffer_core.specs.Window.{Window}
use Rattle.buffer_core.specs.Ports.{Access, BufferIdentity}
use Rattle.buffer_core.specs.CallersView.{access_in}
use Rattle.turn_lock.specs.declared.lock.Pass.{Pass}
use Rattle.turn_lock.specs.Passes.{number_of, seen_by, passes_of, lock_numbers}
use Rattle.buffer_lock.specs.declared.locked.Locked.{Locked}
use Rattle.buffer_lock.specs.declared.shared.SharedBuffer.{SharedBuffer}
use Rattle.buffer_lock.specs.declared.port.SharedPort.{SharedPort}
use Rattle.buffer_lock.specs.SharedBuffers.{lock_of, first_buffer}

-- what a port of this caller tells, whose buffer had that window at first, where the caller has seen this history: as if it
-- were the buffer's one port
abbrev pub ported_by : (caller : ℕ) → Window → List (ℕ × BufferEntry) → Access
ported_by caller first seen = access_in (record { opened = first; ports = 1; numbers = [] }) caller seen

-- what such a port tells, where it leads to this buffer
abbrev pub access_to : BufferIdentity → Access → Access
access_to buffer told = record told { buffer = buffer }

-- which buffer a shared one is: the window that it had as it came to be shared, its passes, and the numbers of its lock
abbrev pub identity_by : {B : Type 0} → (B → Window) → SharedBuffer B → BufferIdentity
identity_by window shared = record { opened = window (first_buffer shared); ports = passes_of (lock_of shared); numbers = lock_numbers (lock_of shared) }

module _ {B : Type 0} {g : _} where
  -- the pass by which the port calls
  abbrev pub pass_of : SharedPort B g → Pass (Locked B) Window BufferEntry g
  pass_of port = port.pass

  -- the shared buffer that it leads to
  abbrev pub buffer_of : SharedPort B g → SharedBuffer B
  buffer_of port = port.shared.now

  abbrev pub caller_of : SharedPort B g → ℕ
  caller_of port = number_of port.pass

  -- what the caller has seen of the one history of the buffer
  abbrev pub history_by : SharedPort B g → List (ℕ × BufferEntry)
  history_by port = seen_by port.pass

  -- The caller is the pass's number, its own calls are the pass's own entries, and the events got are those that these
  -- gave, in the history that the pass has seen.
  abbrev pub access_by : (B → Window) → SharedPort B g → Access
  access_by window port =
      access_in (identity_by window (buffer_of port)) (caller_of port) (history_by port)
