-- A buffer of one thread, with the journal of all calls on it.
use Rattle.std.specs.Prelude.{◌≡◌, ℕ, ◌+◌, ◌≤◌, List, [], ◌∷◌, ◌++◌}
use Rattle.buffer_core.specs.declared.entry.BufferEntry.{BufferEntry}
use Rattle.buffer_core.specs.Window.{Window, IsWindow}
use Rattle.buffer_core.specs.Calls.{IsReply, window_after}
use Rattle.buffer_core.specs.Histories.{IsLegal, replay}
use Rattle.plain_buffer.specs.Journals.{handed_bytes}

-- the window that the buffer had at first, and the one that it has; the calls since, each with the number of its caller;
-- whose calls come next; and room for so many calls more, which hand over so many bytes of data
pub record Ported : Type 0 where
  pub start : Window
  pub window : Window
  pub history : List (ℕ × BufferEntry)
  pub caller : ℕ
  pub calls : ℕ
  pub bytes : ℕ

-- the history is one of the buffer, and led to its window
pub record IsPorted (p : Ported) : Type 0 where
  pub opens : IsWindow p.start
  pub legal : IsLegal p.start p.history
  pub replayed : p.window ≡ replay p.start p.history

-- one call more, by the caller whose calls come
pub record AppendsCall (p q : Ported) (entry : BufferEntry) : Type 0 where
  pub from : IsPorted p
  pub reply : IsReply p.window entry
  pub window : q.window ≡ window_after p.window entry
  pub history : q.history ≡ p.history ++ (p.caller, entry) ∷ []
  pub start : q.start ≡ p.start
  pub caller : q.caller ≡ p.caller
  pub calls : p.calls ≤ q.calls + 1
  pub bytes : p.bytes ≤ q.bytes + handed_bytes entry

-- the same calls, and no less room
pub record KeepsPort (p q : Ported) : Type 0 where
  pub start : q.start ≡ p.start
  pub window : q.window ≡ p.window
  pub history : q.history ≡ p.history
  pub caller : q.caller ≡ p.caller
  pub calls : p.calls ≤ q.calls
  pub bytes : p.bytes ≤ q.bytes
