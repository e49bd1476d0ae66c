-- What a port tells that owns its buffer.
use Rattle.buffer_core.specs.Window.{Window}
use Rattle.buffer_core.specs.Ports.{Access}
use Rattle.buffer_core.specs.CallersView.{access_in}
use Rattle.turn_lock.specs.Passes.{number_of, seen_by}
use Rattle.buffer_lock.specs.SharedPorts.{identity_by}
use Rattle.plain_buffer.specs.declared.owning.OwningPort.{OwningPort}

-- The caller is the pass's number, and has seen what the pass has seen of the history of the buffer.
abbrev pub owned_access : {B : Type 0} {g : _} → (B → Window) → OwningPort B g → Access
owned_access window port = access_in (identity_by window port.buffer) (number_of port.pass) (seen_by port.pass)
