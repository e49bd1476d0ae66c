-- What the pauses and resumes of a caller that alone makes marks of runs do in a buffer: statements of the laws.
use Rattle.std.specs.Prelude.{◌≡◌, ℕ, true, false, Contains, Result, Ok, List, ◌∷◌, ◌++◌, [], ◌⊎◌}
use Rattle.daq_types.specs.Callers.{entries_by}
use Rattle.daq_types.specs.declared.events.Event.{Event}
use Rattle.buffer_core.specs.declared.replies.MarkRefusal.{MarkRefusal}
use Rattle.buffer_core.specs.declared.entry.BufferEntry.{BufferEntry}
use Rattle.buffer_core.specs.declared.entry.BufferEntry.TheVariants.{SendInRun, Pause, Resume, End}
use Rattle.buffer_core.specs.Window.{opening}
use Rattle.buffer_core.specs.Histories.{History, IsLegal}
use Rattle.buffer_core.specs.Points.{past_of}
use Rattle.buffer_core.specs.Runs.{is_paused_at}
use Rattle.member_model.specs.OwnCalls.{calls_after}
use Rattle.member_model.specs.FairCalls.{is_left_open}
use Rattle.history_laws.specs.OneCaller.{MarksAlone}

-- Behind a pause of a run that the caller left open, whatever the call was replied, the run is paused: a pause of it was accepted,
-- and no resume or end since.
abbrev pub PausesAreSet : Type 0
PausesAreSet = (size : ℕ) → (history : History) → (caller : ℕ) → IsLegal (opening size) history → MarksAlone history caller →
    (before after : History) → (start : ℕ) → (reply : Result ℕ MarkRefusal) →
    history ≡ before ++ (caller, Pause start reply) ∷ after →
    is_left_open (calls_after [] (entries_by caller before)) start ≡ true →
    is_paused_at ((caller, Pause start reply) ∷ past_of before) start ≡ true

-- Behind a resume, whatever the call was replied, the run is not paused.
abbrev pub ResumesAreSet : Type 0
ResumesAreSet = (size : ℕ) → (history : History) → (caller : ℕ) → IsLegal (opening size) history →
    (before after : History) → (start : ℕ) → (reply : Result ℕ MarkRefusal) →
    history ≡ before ++ (caller, Resume start reply) ∷ after →
    is_paused_at ((caller, Resume start reply) ∷ past_of before) start ≡ false

-- one of these calls resumed or ended the run with this start number, and was accepted
abbrev pub HasUnpaused : List BufferEntry → (start : ℕ) → Type 0
HasUnpaused calls start =
    (place : ℕ) × (Contains calls (Resume start (Ok place)) ⊎ Contains calls (End start (Ok place)))

-- And an event of the run is accepted only once the caller resumed or ended the run.
abbrev pub PausesAreKept : Type 0
PausesAreKept = (size : ℕ) → (history : History) → (caller : ℕ) → IsLegal (opening size) history → MarksAlone history caller →
    (before between after : History) → (start : ℕ) → (reply : Result ℕ MarkRefusal) →
    (sender stated place : ℕ) → (event : Event) →
    history ≡ before ++ (caller, Pause start reply) ∷
    (between ++ (sender, SendInRun start stated event (Ok place)) ∷ after) →
    is_left_open (calls_after [] (entries_by caller before)) start ≡ true →
    HasUnpaused (entries_by caller between) start
