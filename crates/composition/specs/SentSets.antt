-- What a front-end sets in the database: how many events it had sent in a run, at its turns.
use Rattle.std.specs.Prelude.{◌≡◌, ℕ, List, [], ◌∷◌, ◌++◌, length, take, map, None, ◌⊎◌}
use Rattle.daq_types.specs.declared.runs.Transition.{Transition}
use Rattle.daq_types.specs.declared.runs.Transition.TheVariants.{Start, Stop, Pause, Resume, StartAbort}
use Rattle.buffer_core.specs.declared.entry.BufferEntry.{BufferEntry}
use Rattle.odb_tree.specs.declared.entry.DatabaseEntry.{DatabaseEntry}
use Rattle.odb_watch.specs.declared.entry.WatchEntry.{WatchEntry}
use Rattle.odb_watch.specs.declared.entry.WatchEntry.TheVariants.{Call}
use Rattle.odb_watch.specs.DatabasePorts.{row_calls}
use Rattle.odb_runinfo.specs.RunSets.{IsSet, AreSets, sent_set}
use Rattle.member_model.specs.Turns.{MemberTurn}
use Rattle.member_model.specs.SentCalls.{own_sent}

-- how many events were sent in the run with this start number by this moment of the calls on the buffer
abbrev pub sent_by_moment : List BufferEntry → (start moment : ℕ) → ℕ
sent_by_moment own start moment = length (own_sent (take moment own) start)

-- what is set at a turn of this transition: 0 at a start; at a pause and at a stop the number sent; nothing at a resume and
-- at a start-abort
abbrev pub numbers_at : Transition → (sent : ℕ) → List ℕ
numbers_at Start sent = 0 ∷ []
numbers_at Stop sent = sent ∷ []
numbers_at Pause sent = sent ∷ []
numbers_at Resume sent = []
numbers_at StartAbort sent = []

-- what is set at these turns with these moments, the earliest first
abbrev pub numbers_set : List BufferEntry → List MemberTurn → (moments : List ℕ) → List ℕ
numbers_set own [] moments = []
numbers_set own (t ∷ turns) [] = []
numbers_set own (t ∷ turns) (moment ∷ moments) =
    numbers_set own turns moments ++ numbers_at t.transition (sent_by_moment own t.order.start moment)

-- These calls on a database are the sets of these numbers in the own key of the front-end with this name, in order,
-- whatever they were replied; and there is no other call, be it on the rows, a watch, or a text that is saved or loaded.
pub record AreSetsAlone (name : List ℕ) (numbers : List ℕ) (calls : List WatchEntry) : Type 0 where
  pub sets : List DatabaseEntry
  pub are_sets : AreSets (map (sent_set name) numbers) sets
  pub alone : calls ≡ row_calls sets

-- All calls on the database of the front-end with this name are the sets of the numbers of its turns, in its own key,
-- and it makes no other call there; those of a latest turn that has no answer may still be to come.
abbrev pub AreTurnSets : (name : List ℕ) → List BufferEntry → List MemberTurn → (moments : List ℕ) →
    List WatchEntry → Type 0
AreTurnSets name own [] moments calls = calls ≡ []
AreTurnSets name own (t ∷ turns) [] calls = ⊥
AreTurnSets name own (t ∷ turns) (moment ∷ moments) calls =
    AreSetsAlone name (numbers_set own (t ∷ turns) (moment ∷ moments)) calls
    ⊎ ((t.answer ≡ None) × AreSetsAlone name (numbers_set own turns moments) calls)

-- Among these calls on a database stands the set of this number in the own key of the front-end with this name, whatever it was
-- replied; and all calls before it are the sets of those numbers.
pub record IsSetBehind (name : List ℕ) (numbers : List ℕ) (sent : ℕ) (calls : List WatchEntry) : Type 0 where
  pub before : List WatchEntry
  pub entry : DatabaseEntry
  pub after : List WatchEntry
  pub whole : calls ≡ before ++ Call entry ∷ after
  pub set : IsSet (sent_set name sent) entry
  pub sets_before : AreSetsAlone name numbers before

-- The turn stands among these, and this is its moment. And among these calls on the database stands its set, which is of this
-- number: all calls before it are the sets of the turns before this one.
abbrev pub HasTurnSet : (name : List ℕ) → List BufferEntry → List MemberTurn → (moments : List ℕ) → List WatchEntry →
    MemberTurn → (moment sent : ℕ) → Type 0
HasTurnSet name own [] moments calls t moment sent = ⊥
HasTurnSet name own (u ∷ turns) [] calls t moment sent = ⊥
HasTurnSet name own (u ∷ turns) (m ∷ moments) calls t moment sent =
    ((u ≡ t) × (m ≡ moment) × IsSetBehind name (numbers_set own turns moments) sent calls)
    ⊎ HasTurnSet name own turns moments calls t moment sent
