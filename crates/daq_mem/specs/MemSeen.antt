-- What files in memory tell.
use Rattle.std.specs.Prelude.{count_by, is_none, ◌≡◌, ◌≢◌, ℕ, ◌<◌, Bool, true, false, if◌then◌else◌, nat_eq, List, [], ◌∷◌, length, take, drop, slice_get, HoldsAt, All, Option, Some, None}
use Rattle.std.specs.Cmp.Lexicographic.{pointwise}
use Rattle.daq_io.specs.Seen.{FileDone, Seen, Stored, stored_as}
use Rattle.daq_io.specs.Traces.{trace_at}
use Rattle.daq_mem.specs.declared.slots.Slot.{Slot}
use Rattle.daq_io.specs.Uses.{is_writing, is_reading, name_by, use_at}
use Rattle.daq_mem.specs.declared.readers.Reader.{Reader}
use Rattle.daq_io.specs.declared.uses.Usage.{Usage}

-- whether a slot with this name, or none, has the file of the name that is sought
abbrev pub has_name : List ℕ → Option (List ℕ) → Bool
has_name name None = false
has_name name (Some own) = pointwise nat_eq own name

-- the file in a slot
abbrev pub file_in : Slot → Stored
file_in slot = stored_as slot.state slot.bytes.bytes

-- the file of a name: that of the first slot that has the name
abbrev pub stored_in : List Slot → List ℕ → Option Stored
stored_in [] name = None
stored_in (slot ∷ slots) name = if has_name name slot.name then Some (file_in slot) else stored_in slots name

-- how many slots have no file
abbrev pub free_slots : List Slot → ℕ
free_slots slots = count_by (λ slot. is_none slot.name) slots

-- how many slots have this name
abbrev pub named_count : List ℕ → List Slot → ℕ
named_count name slots = count_by (λ slot. has_name name slot.name) slots

-- The first slot that has this name.
pub record IsFirstNamed (slots : List Slot) (name : List ℕ) (place : ℕ) : Type 0 where
  pub inside : place < length slots
  pub named : HoldsAt (λ slot. has_name name slot.name ≡ true) slots place
  pub before : All (λ slot. has_name name slot.name ≡ false) (take place slots)

-- Slots in which at most the file of this name is another.
pub record ChangesOnly (old new : List Slot) (name : List ℕ) : Type 0 where
  pub others : (other : List ℕ) → other ≢ name → stored_in new other ≡ stored_in old other

-- Slots in which no file is another.
pub record ChangesNothing (old new : List Slot) : Type 0 where
  pub all : (name : List ℕ) → stored_in new name ≡ stored_in old name

-- the bytes that a reader has left
abbrev pub left_of_reader : Option Reader → List ℕ
left_of_reader None = []
left_of_reader (Some reader) = drop reader.at reader.bytes.bytes

-- the bytes left under a number
abbrev pub left_at : List Reader → ℕ → List ℕ
left_at readers number = left_of_reader (slice_get readers number)

-- At most one number has other bytes left.
pub record ChangesLeft (old new : List Reader) (number : ℕ) : Type 0 where
  pub others : (other : ℕ) → other ≢ number → left_at new other ≡ left_at old other

-- all that is told
abbrev pub seen_of : List Slot → List Usage → List Reader → (given : List (List ℕ)) → List FileDone → Seen
seen_of slots uses readers given done = record {
  names = true;
  at = stored_in slots;
  writes = λ n. is_writing (use_at uses n);
  reads = λ n. is_reading (use_at uses n);
  name_of = λ n. name_by (use_at uses n);
  left = left_at readers;
  given = trace_at given;
  done = done;
}
