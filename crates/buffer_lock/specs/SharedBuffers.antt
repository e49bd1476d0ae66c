-- What contracts see of a shared buffer.
use Rattle.buffer_core.specs.declared.entry.BufferEntry.{BufferEntry}
use Rattle.buffer_core.specs.Window.{Window}
use Rattle.turn_lock.specs.declared.lock.Turns.{Turns}
use Rattle.turn_lock.specs.Passes.{first_value}
use Rattle.buffer_lock.specs.declared.locked.Locked.{Locked}
use Rattle.buffer_lock.specs.declared.shared.SharedBuffer.{SharedBuffer}

module _ {B : Type 0} where
  -- the lock, whose passes the calls take
  abbrev pub lock_of : SharedBuffer B → Turns (Locked B) Window BufferEntry
  lock_of shared = shared.turns

  -- the buffer as it came to be shared
  abbrev pub first_buffer : SharedBuffer B → B
  first_buffer shared = (first_value (lock_of shared)).buffer
