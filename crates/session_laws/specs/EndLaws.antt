-- What a closed session's histories tell: statements of the laws.
use Rattle.std.specs.Prelude.{◌≡◌, ◌<◌, ℕ, true, false, List, [], ◌∷◌, ◌++◌, length, slice_get, Some, Result, Ok, ⊤}
use Rattle.daq_types.specs.Callers.{entries_by, main_caller}
use Rattle.daq_types.specs.declared.events.Event.{Event}
use Rattle.buffer_core.specs.declared.replies.MarkRefusal.{MarkRefusal}
use Rattle.buffer_core.specs.declared.entry.BufferEntry.{BufferEntry}
use Rattle.buffer_core.specs.declared.entry.BufferEntry.TheVariants.{SendInRun, Pause, Resume}
use Rattle.buffer_core.specs.Histories.{History}
use Rattle.buffer_core.specs.Points.{past_of}
use Rattle.buffer_core.specs.Runs.{is_paused_at}
use Rattle.member_model.specs.RunEngines.{EngineEntry}
use Rattle.member_model.specs.TurnCalls.{member_turns}
use Rattle.history_laws.specs.PausedRuns.{HasUnpaused}
use Rattle.loggers.specs.TurnMarks.{marks_called, marks_asked}
use Rattle.composition.specs.Sessions.{Session, EngineLegal, MembersKeep}
use Rattle.composition.specs.SessionRuns.{SessionRun, IsStoppedRun}
use Rattle.composition.specs.CompositionLaws.{IsComposed}
use Rattle.session_runs.specs.RunsFit.{starts_begun}
use Rattle.session_laws.specs.ClosedSessions.{ClosedBuffer, ClosedSession, ListsMembers, calls_on_database, engine_calls, logger_caller, logger_client, session_of}
use Rattle.session_laws.specs.MembersAtEnd.{MembersAtEnd}
use Rattle.session_laws.specs.MadeRuns.{RunIn, RunHolds}
use Rattle.session_laws.specs.OtherNames.{IsOtherName}

-- What is known of a session when its objects are closed is all that the law of composition asks for: each member keeps its
-- contract, a front-end with the moments of its turns.
abbrev pub EndsKeep : Type 0
EndsKeep = (c : ClosedSession) → (ends : MembersAtEnd c) → MembersKeep (session_of c ends.moments)

-- So all that it says is so.
abbrev pub EndsComposed : Type 0
EndsComposed = (c : ClosedSession) → (ends : MembersAtEnd c) → IsComposed (session_of c ends.moments)

-- The members of a closed session stand under their client numbers, whatever the moments of the front-ends' turns.
abbrev pub MembersListed : Type 0
MembersListed = (c : ClosedSession) → (moments : (client : ℕ) → List ℕ) → ListsMembers c moments

-- A run that the main thread's own calls tell is one of the session that was not refused and was stopped.
abbrev pub MadeAreStopped : Type 0
MadeAreStopped = (s : Session) → EngineLegal s → (r : SessionRun) → RunIn (entries_by main_caller s.engine) r →
    IsStoppedRun s r

-- Of such a run each front-end's sends and each channel's file are as the members told.
abbrev pub StoppedHold : Type 0
StoppedHold = (s : Session) → IsComposed s → (r : SessionRun) → IsStoppedRun s r → RunHolds s r

-- No start number stands at two places among those of the starts that the main thread began, up to any point.
abbrev pub StartsDiffer : Type 0
StartsDiffer = (c : ClosedSession) → MembersAtEnd c → (own more : List EngineEntry) → engine_calls c main_caller ≡ own ++ more →
    (first second start : ℕ) → slice_get (starts_begun own) first ≡ Some start → slice_get (starts_begun own) second ≡ Some start →
    first ≡ second

-- Each file whose name no channel gives in a run that the main thread began is as it was at first.
abbrev pub OtherNamesStay : Type 0
OtherNamesStay = (c : ClosedSession) → MembersAtEnd c → (name : List ℕ) → IsOtherName c name →
    c.files.at name ≡ c.first_files.at name

-- Behind a call that pauses a run the run is paused in the buffer, by the marks that were accepted there; behind one that resumes it
-- it is not.
abbrev pub IsMarkSet : BufferEntry → (past : History) → Type 0
IsMarkSet (Pause start reply) past = is_paused_at past start ≡ true
IsMarkSet (Resume start reply) past = is_paused_at past start ≡ false
IsMarkSet entry past = ⊤

-- In the history of the buffer the logger's own calls ask for just the marks of pause and resume for which its turns ask, in their
-- order: of each pause and each resume of a run whose start it accepted. Each is set, whatever the call was replied: it was refused only
-- where its run was paused, or was not, as it asks, already. And behind a pause an event of the run was accepted only once the logger
-- had resumed or ended the run there.
pub record MarksIn (c : ClosedSession) (b : ClosedBuffer) : Type 0 where
  pub asked : marks_called (entries_by (logger_caller c) b.history)
      ≡ marks_asked (member_turns (logger_client c) (engine_calls c (logger_caller c)))
  pub are_set : (before after : History) → (entry : BufferEntry) → b.history ≡ before ++ (logger_caller c, entry) ∷ after →
      IsMarkSet entry ((logger_caller c, entry) ∷ past_of before)
  pub none_sent : (before between after : History) → (start : ℕ) → (reply : Result ℕ MarkRefusal) →
      (sender stated place : ℕ) → (event : Event) →
      b.history ≡ before ++ (logger_caller c, Pause start reply) ∷
      (between ++ (sender, SendInRun start stated event (Ok place)) ∷ after) →
      HasUnpaused (entries_by (logger_caller c) between) start

-- So it is in each buffer.
abbrev pub MarksMade : ClosedSession → Type 0
MarksMade c = (number : ℕ) → (b : ClosedBuffer) → slice_get c.buffers number ≡ Some b → MarksIn c b

abbrev pub EndsMark : Type 0
EndsMark = (c : ClosedSession) → MembersAtEnd c → MarksMade c

-- A closed session: the law of composition for its histories; all runs that the main thread made; the files of other names,
-- which are as they were at first; the callers of the database, which are the main thread and the front-ends alone; and the marks of
-- pauses and resumes in its buffers.
pub record SessionHolds (c : ClosedSession) : Type 0 where
  pub moments : (client : ℕ) → List ℕ
  pub composed : IsComposed (session_of c moments)
  pub runs : (r : SessionRun) → RunIn (entries_by main_caller c.engine) r → RunHolds (session_of c moments) r
  pub others : (name : List ℕ) → IsOtherName c name → c.files.at name ≡ c.first_files.at name
  pub callers : (by : ℕ) → length c.fronts < by → calls_on_database c by ≡ []
  pub marks : MarksMade c

-- So it is with a session whose objects are closed, with the moments that are known of its front-ends.
abbrev pub EndsHold : Type 0
EndsHold = (c : ClosedSession) → (ends : MembersAtEnd c) → (holds : SessionHolds c) × (holds.moments ≡ ends.moments)
