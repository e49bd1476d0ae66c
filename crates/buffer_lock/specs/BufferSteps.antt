-- A call on a buffer as one step of its lock.
use Rattle.std.specs.Prelude.{◌≡◌, ℕ}
use Rattle.buffer_core.specs.declared.entry.BufferEntry.{BufferEntry}
use Rattle.buffer_core.specs.Window.{Window, IsWindow}
use Rattle.buffer_core.specs.Calls.{IsReply, window_after}

-- whoever calls, the reply is the one that the window before gives, and the window after is the one that the call leaves
pub record StepsWindow (before : Window) (caller : ℕ) (entry : BufferEntry) (after : Window) : Type 0 where
  pub window : IsWindow before
  pub reply : IsReply before entry
  pub after_is : after ≡ window_after before entry
