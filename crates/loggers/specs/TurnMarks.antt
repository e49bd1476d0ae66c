-- The marks of pause and of resume in the buffers, the turns that ask for them, and the runs that they are of.
use Rattle.std.specs.Prelude.{◌≡◌, ◌==◌, ◌&&◌, ◌||◌, ℕ, Bool, true, false, if◌then◌else◌, List, [], ◌∷◌, ◌++◌, slice_get, Option, Some, ⊤}
use Rattle.daq_types.specs.declared.runs.Transition.{Transition}
use Rattle.daq_types.specs.declared.runs.Transition.TheVariants.{Start, Pause, Resume}
use Rattle.buffer_core.specs.declared.entry.BufferEntry.{BufferEntry}
use Rattle.buffer_core.specs.declared.entry.BufferEntry.TheVariants.{Pause as PausesRun, Resume as ResumesRun}
use Rattle.buffer_core.specs.Ports.{Access}
use Rattle.buffer_core.specs.Runs.{Mark, Paused, Resumed}
use Rattle.member_model.specs.RunEngines.{Answer}
use Rattle.transitions.specs.declared.answers.Answer.TheVariants.{Yes}
use Rattle.transitions.specs.declared.answers.Tally.TheVariants.{Plain}
use Rattle.member_model.specs.Turns.{MemberTurn}
use Rattle.member_model.specs.FairCalls.{is_left_open}

-- the mark of pause or of resume for which this call asks, whatever it was replied
abbrev pub mark_called : BufferEntry → List Mark
mark_called (PausesRun start reply) = Paused start ∷ []
mark_called (ResumesRun start reply) = Resumed start ∷ []
mark_called entry = []

-- those for which these calls ask, in order
abbrev pub marks_called : List BufferEntry → List Mark
marks_called [] = []
marks_called (e ∷ es) = mark_called e ++ marks_called es

-- a turn of this transition with this answer is a start that was accepted
abbrev pub accepts_start : Transition → Option Answer → Bool
accepts_start Start (Some (Yes Plain)) = true
accepts_start transition answer = false

-- the start of the run with this number was accepted in one of these turns
abbrev pub is_accepted : List MemberTurn → (start : ℕ) → Bool
is_accepted [] start = false
is_accepted (t ∷ turns) start = (accepts_start t.transition t.answer && (t.order.start == start)) || is_accepted turns start

-- the mark for which a turn of this transition asks
abbrev pub mark_asked : Transition → (start : ℕ) → List Mark
mark_asked Pause start = Paused start ∷ []
mark_asked Resume start = Resumed start ∷ []
mark_asked transition start = []

-- The marks for which these turns ask, the earliest first: one for each pause and each resume of a run whose start was accepted
-- before. The latest turn stands first.
abbrev pub marks_asked : List MemberTurn → List Mark
marks_asked [] = []
marks_asked (t ∷ turns) =
    marks_asked turns ++ (if is_accepted turns t.order.start then mark_asked t.transition t.order.start else [])

-- in each buffer the logger called for just the marks for which these turns ask, in their order
abbrev pub MarksAsAsked : List Access → List MemberTurn → Type 0
MarksAsAsked ports turns = (buffer : ℕ) → (a : Access) → slice_get ports buffer ≡ Some a →
    marks_called a.own ≡ marks_asked turns

-- where the call is to mark a pause or a resume, whatever it is replied, the calls before it, the latest first, leave its run open
abbrev pub IsMarkInRun : BufferEntry → (before : List BufferEntry) → Type 0
IsMarkInRun (PausesRun start reply) before = is_left_open before start ≡ true
IsMarkInRun (ResumesRun start reply) before = is_left_open before start ≡ true
IsMarkInRun entry before = ⊤

-- each of these calls, the latest first, is so
abbrev pub AreMarksInRuns : List BufferEntry → Type 0
AreMarksInRuns [] = ⊤
AreMarksInRuns (e ∷ es) = IsMarkInRun e es × AreMarksInRuns es
