-- The watches of a database by their numbers, and the calls on them.
use Rattle.std.specs.Prelude.{◌≡◌, ℕ, zero, suc, ◌+◌, nat_lt, true, false, List, [], ◌∷◌, ◌≤◌, length, slice_set, slice_index_or, Option, Some, None, Result, Ok, Err, IsErr}
use Rattle.std.specs.Option.{option_map, is_some}
use Rattle.std.specs.List.{AllByRecursion}
use Rattle.odb_tree.specs.Noting.{notes_limit}
use Rattle.odb_tree.specs.declared.notes.Note.{Note}
use Rattle.odb_tree.specs.declared.notes.Watch.{Watch}
use Rattle.odb_watch.specs.declared.notes.NoWatch.{NoWatch}
use Rattle.odb_watch.specs.declared.notes.WatchRefusal.{WatchRefusal}
use Rattle.odb_watch.specs.declared.notes.WatchRefusal.TheVariants.{NoWatchSlot, NoMemory}

-- the watch of this number
abbrev pub slot : List (Option Watch) → (w : ℕ) → Option Watch
slot slots w = slice_index_or slots w None

-- another watch, or none, of this number, which may be the next one
abbrev pub with_slot : List (Option Watch) → (w : ℕ) → Option Watch → List (Option Watch)
with_slot [] w k = k ∷ []
with_slot (x ∷ xs) zero k = k ∷ xs
with_slot (x ∷ xs) (suc w) k = x ∷ with_slot xs w k

-- the least number that no watch has
abbrev pub free_watch : List (Option Watch) → ℕ
free_watch [] = 0
free_watch (None ∷ xs) = 0
free_watch (Some k ∷ xs) = free_watch xs + 1

-- the most watches that live
abbrev pub watches_limit : ℕ
watches_limit = 64

abbrev pub new_watch : (row : ℕ) → Watch
new_watch row = record { row = row; notes = []; lost = 0 }

-- a watch keeps no more notes than it may
abbrev pub HasFewNotes : Option Watch → Type 0
HasFewNotes None = Unit {0}
HasFewNotes (Some k) = length k.notes ≤ notes_limit

-- no more watches than may live, each with no more notes than it may keep
pub record AreFew (slots : List (Option Watch)) : Type 0 where
  pub few : length slots ≤ watches_limit
  pub short : AllByRecursion HasFewNotes slots

-- `watch` answers the least free number, or that all are taken; or memory was wanting, where one is free
abbrev pub GivesWatch : List (Option Watch) → Result ℕ WatchRefusal → Type 0
GivesWatch slots (Ok w) = (w ≡ free_watch slots) × (nat_lt w watches_limit ≡ true)
GivesWatch slots (Err NoWatchSlot) = nat_lt (free_watch slots) watches_limit ≡ false
GivesWatch slots (Err NoMemory) = nat_lt (free_watch slots) watches_limit ≡ true

abbrev pub after_watch : List (Option Watch) → (row : ℕ) → Result ℕ WatchRefusal → List (Option Watch)
after_watch slots row (Ok w) = with_slot slots w (Some (new_watch row))
after_watch slots row (Err refusal) = slots

-- a watch without its notes
abbrev pub emptied : Watch → Watch
emptied k = record { row = k.row; notes = []; lost = 0 }

abbrev pub emptied_slot : Option Watch → Option Watch
emptied_slot k = option_map emptied k

-- the notes of a watch are moved out, and how many were lost is answered; where there is no watch all stays
abbrev pub GivesTaken : Option Watch → (before after : List Note) → Result ℕ NoWatch → Type 0
GivesTaken None before after reply = (IsErr reply) × (after ≡ before)
GivesTaken (Some k) before after reply = (reply ≡ Ok k.lost) × (after ≡ k.notes)

abbrev pub GivesNotes : List (Option Watch) → (w : ℕ) → (before after : List Note) → Result ℕ NoWatch → Type 0
GivesNotes slots w before after reply = GivesTaken (slot slots w) before after reply

abbrev pub after_notes : List (Option Watch) → (w : ℕ) → Result ℕ NoWatch → List (Option Watch)
after_notes slots w (Ok lost) = slice_set slots w (emptied_slot (slot slots w))
after_notes slots w (Err e) = slots

-- `unwatch` is accepted exactly where the watch lives
abbrev pub GivesUnwatch : List (Option Watch) → (w : ℕ) → Result (Unit {0}) NoWatch → Type 0
GivesUnwatch slots w (Ok _) = is_some (slot slots w) ≡ true
GivesUnwatch slots w (Err e) = is_some (slot slots w) ≡ false

abbrev pub after_unwatch : List (Option Watch) → (w : ℕ) → Result (Unit {0}) NoWatch → List (Option Watch)
after_unwatch slots w (Ok _) = slice_set slots w None
after_unwatch slots w (Err e) = slots
