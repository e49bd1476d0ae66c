-- A journal of a buffer's calls, kept as lines, with the data of all events that were sent one after the other.
use Rattle.std.specs.Prelude.{◌≡◌, ℕ, ◌+◌, List, [], ◌∷◌, length, take, drop, slice_get, Some, ⊤}
use Rattle.daq_types.specs.declared.events.Event.{Event}
use Rattle.buffer_core.specs.declared.entry.BufferEntry.{BufferEntry}
use Rattle.buffer_core.specs.declared.entry.BufferEntry.TheVariants.{Send, SendInRun}
use Rattle.plain_buffer.specs.declared.journal.Line.{Line}

-- how many bytes of data the call hands over
abbrev pub handed_bytes : BufferEntry → ℕ
handed_bytes (Send stated e reply) = length e.body
handed_bytes (SendInRun start stated e reply) = length e.body
handed_bytes entry = 0

-- the event with these data
abbrev pub event_with : List ℕ → Event → Event
event_with body e = record { id = e.id; mask = e.mask; serial = e.serial; time = e.time; body = body }

-- the call, whose event has these data if it sends one
abbrev pub entry_with : List ℕ → BufferEntry → BufferEntry
entry_with body (Send stated e reply) = Send stated (event_with body e) reply
entry_with body (SendInRun start stated e reply) = SendInRun start stated (event_with body e) reply
entry_with body entry = entry

abbrev pub size_of_line : Line → ℕ
size_of_line l = l.size

-- the calls of the lines, whose data are these bytes
abbrev pub entries_of : List Line → List ℕ → List (ℕ × BufferEntry)
entries_of [] bytes = []
entries_of (l ∷ ls) bytes = (l.caller, entry_with (take l.size bytes) l.entry) ∷ entries_of ls (drop l.size bytes)

-- the call stands without data, and these are the data of the event that it sends; none, if it
-- sends no event
pub record IsApart (entry : BufferEntry) (body : List ℕ) : Type 0 where
  pub bare : handed_bytes entry ≡ 0
  pub whole : length body ≡ handed_bytes (entry_with body entry)

-- the entry of this number, with the number of its caller, is this one with these data
abbrev pub IsEntryAt : List (ℕ × BufferEntry) → (number caller : ℕ) → BufferEntry → (body : List ℕ) → Type 0
IsEntryAt entries number caller entry body = slice_get entries number ≡ Some (caller, entry_with body entry)

-- the call of the line stands without data, and what it handed over are so many bytes
abbrev pub IsSized : Line → Type 0
IsSized l = (body : List ℕ) → length body ≡ l.size → IsApart l.entry body

abbrev pub AreSized : List Line → Type 0
AreSized [] = ⊤
AreSized (l ∷ ls) = IsSized l × AreSized ls

-- the data of each line begin where those of the lines before it end; those of the first begin here
abbrev pub AreBehind : (from : ℕ) → List Line → Type 0
AreBehind from [] = ⊤
AreBehind from (l ∷ ls) = (l.from ≡ from) × AreBehind (from + l.size) ls

-- a journal: its entries, each with the number of its caller; how many more it has room for; and for how many more bytes
-- of data
pub record Journaled : Type 0 where
  pub entries : List (ℕ × BufferEntry)
  pub room : ℕ
  pub bytes : ℕ
