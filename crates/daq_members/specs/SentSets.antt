-- How a front-end says in the database how many events it sent: at each start that is none; at each pause, and at
-- each stop once it answers that, it is how many events it had sent in the run when it answered.
use Rattle.std.specs.Prelude.{◌≡◌, ℕ, Bool, true, false, is_some, List, [], ◌∷◌, ◌++◌, Option, Some, None}
use Rattle.daq_types.specs.declared.runs.Transition.{Transition}
use Rattle.daq_types.specs.declared.runs.Transition.TheVariants.{Start, Stop, Pause, Resume, StartAbort}
use Rattle.odb_tree.specs.declared.entry.DatabaseEntry.{DatabaseEntry}
use Rattle.odb_watch.specs.declared.entry.WatchEntry.{WatchEntry}
use Rattle.odb_watch.specs.declared.entry.WatchEntry.TheVariants.{Call}
use Rattle.odb_runinfo.specs.RunSets.{IsSet, sent_set}
use Rattle.buffer_core.specs.declared.entry.BufferEntry.{BufferEntry}
use Rattle.member_model.specs.Turns.{MemberTurn, NoneOpen}
use Rattle.composition.specs.SentSets.{sent_by_moment}

-- the number that is set at a turn, where so many events were sent in the run
abbrev pub number_set_at : Transition → (answered : Bool) → (sent : ℕ) → Option ℕ
number_set_at Start answered sent = Some 0
number_set_at Stop true sent = Some sent
number_set_at Stop false sent = None
number_set_at Pause answered sent = Some sent
number_set_at Resume answered sent = None
number_set_at StartAbort answered sent = None

-- the number, where it is to be set
abbrev pub number_if : (answered : Bool) → (sent : ℕ) → Option ℕ
number_if true sent = Some sent
number_if false sent = None

-- These calls are the earlier ones and one more, which sets the number in the front-end's key, whatever it was
-- replied.
pub record AddsNumber (name : List ℕ) (sent : ℕ) (earlier calls : List WatchEntry) : Type 0 where
  pub entry : DatabaseEntry
  pub sets : IsSet (sent_set name sent) entry
  pub whole : calls ≡ earlier ++ Call entry ∷ []

-- the same, where there is a number
abbrev pub AddsNumberIf : (name : List ℕ) → Option ℕ → (earlier calls : List WatchEntry) → Type 0
AddsNumberIf name None earlier calls = calls ≡ earlier
AddsNumberIf name (Some sent) earlier calls = AddsNumber name sent earlier calls

-- All of the front-end's calls on the database, of whatever kind, are such sets: one for each of its turns at which a
-- number is set, in the order of the turns. The latest turn stands first, and so does its moment; all turns but the
-- latest were answered.
abbrev pub AreNumbersSet : (name : List ℕ) → List BufferEntry → List MemberTurn → (moments : List ℕ) →
    (calls : List WatchEntry) → Type 0
AreNumbersSet name own [] moments calls = calls ≡ []
AreNumbersSet name own (t ∷ ts) [] calls = ⊥
AreNumbersSet name own (t ∷ ts) (m ∷ ms) calls =
    NoneOpen ts × (earlier : List WatchEntry) × AreNumbersSet name own ts ms earlier ×
    AddsNumberIf name (number_set_at t.transition (is_some t.answer) (sent_by_moment own t.order.start m)) earlier calls
