-- Histories of a buffer: its calls with their replies, each with the number of its caller, in order.
use Rattle.std.specs.Prelude.{ℕ, List, [], ◌∷◌, ⊤}
use Rattle.buffer_core.specs.declared.entry.BufferEntry.{BufferEntry}
use Rattle.buffer_core.specs.Window.{Window}
use Rattle.buffer_core.specs.Calls.{IsReply, window_after}

abbrev pub History : Type 0
History = List (ℕ × BufferEntry)

-- the window after all these calls
abbrev pub replay : Window → List (ℕ × BufferEntry) → Window
replay w [] = w
replay w (e ∷ es) = replay (window_after w e.1) es

-- each reply is the one that the window gives at that point
abbrev pub IsLegal : Window → List (ℕ × BufferEntry) → Type 0
IsLegal w [] = ⊤
IsLegal w (e ∷ es) = IsReply w e.1 × IsLegal (window_after w e.1) es
