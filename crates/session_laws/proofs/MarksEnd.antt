-- In each buffer of a closed session the logger called for just the marks for which its turns ask, and each is set.
use Rattle.std.specs.Prelude.{◌≡◌, ℕ, List, [], ◌∷◌, ◌++◌, slice_get, Option, Some, Result, Ok, refl}
use Rattle.std.proofs.Common.{ap, sym, subst, ◌∙◌, eq-eqb}
use Rattle.daq_types.specs.Callers.{entries_by}
use Rattle.daq_types.specs.declared.events.Event.{Event}
use Rattle.daq_types.proofs.CallersLaws.{entries_by-append}
use Rattle.buffer_core.specs.declared.replies.MarkRefusal.{MarkRefusal}
use Rattle.buffer_core.specs.declared.entry.BufferEntry.{BufferEntry}
use Rattle.buffer_core.specs.declared.entry.BufferEntry.TheVariants.{SendInRun, Pause, Resume}
use Rattle.buffer_core.specs.Window.{opening}
use Rattle.buffer_core.specs.Histories.{History, IsLegal}
use Rattle.buffer_core.specs.Points.{past_of}
use Rattle.member_model.specs.OwnCalls.{calls_after}
use Rattle.history_laws.specs.CallerLaws.{AttachesGiveOnce, SenderMakesNoMark}
use Rattle.history_laws.specs.EngineLaws.{GivesEngineTurns}
use Rattle.history_laws.specs.OneCaller.{MarksAlone}
use Rattle.history_laws.specs.PausedRuns.{HasUnpaused, PausesAreSet, ResumesAreSet, PausesAreKept}
use Rattle.loggers.specs.TurnMarks.{marks_called, IsMarkInRun, AreMarksInRuns}
use Rattle.composition.proofs.FilesTogether.{logger_marks_alone}
use Rattle.composition.proofs.SessionTurns.{speaks}
use Rattle.session_laws.specs.ClosedSessions.{ClosedBuffer, ClosedSession, history_in, logger_client, logger_caller, session_of}
use Rattle.session_laws.specs.MembersAtEnd.{IsAccessTo, MembersAtEnd}
use Rattle.session_laws.specs.EndLaws.{EndsKeep, EndsMark, IsMarkSet, MarksIn}
use Rattle.session_laws.proofs.KeptTogether.{names_own}
use Rattle.session_laws.proofs.LoggerEnd.{BothAt, Both, Neither, both_at, given_once}

-- the laws of marks
pub record MarkLaws : Type 0 where
  pub gives : GivesEngineTurns
  pub once : AttachesGiveOnce
  pub senders : SenderMakesNoMark
  pub paused : PausesAreSet
  pub resumed : ResumesAreSet
  pub kept : PausesAreKept
  pub keep : EndsKeep

-- Where one of the logger's calls stands.

marks_before : (past es : List BufferEntry) → AreMarksInRuns (calls_after past es) → AreMarksInRuns past
marks_before past [] are = are
marks_before past (e ∷ es) are = (marks_before (e ∷ past) es are).1

mark_there : (past before : List BufferEntry) (e : BufferEntry) (after : List BufferEntry) → AreMarksInRuns (calls_after past (before ++ e ∷ after)) → IsMarkInRun e (calls_after past before)
mark_there past [] e after are = (marks_before (e ∷ past) after are).0
mark_there past (x ∷ before) e after are = mark_there (x ∷ past) before e after are

own_split : (by : ℕ) (before : History) (e : BufferEntry) (after : History) → entries_by by (before ++ (by, e) ∷ after) ≡ entries_by by before ++ e ∷ entries_by by after
own_split by before e after = entries_by-append by before ((by, e) ∷ after) ∙ rw (eq-eqb by by refl) refl

-- A buffer.

-- what is known of it
record BufferKnown (caller : ℕ) (b : ClosedBuffer) : Type 0 where
  legal : IsLegal (opening b.size) b.history
  alone : MarksAlone b.history caller
  in_runs : AreMarksInRuns (calls_after [] (entries_by caller b.history))

left_there : (caller : ℕ) (b : ClosedBuffer) → BufferKnown caller b → (before after : History) (e : BufferEntry) → b.history ≡ before ++ (caller, e) ∷ after → IsMarkInRun e (calls_after [] (entries_by caller before))
left_there caller b known before after e is =
    let own : entries_by caller b.history ≡ entries_by caller before ++ e ∷ entries_by caller after = ap (λ (h : History). entries_by caller h) is ∙ own_split caller before e after in
    mark_there [] (entries_by caller before) e (entries_by caller after) (subst (λ (es : List BufferEntry). AreMarksInRuns (calls_after [] es)) own known.in_runs)

mark_set : MarkLaws → (caller : ℕ) (b : ClosedBuffer) → BufferKnown caller b → (before after : History) (e : BufferEntry) → b.history ≡ before ++ (caller, e) ∷ after → IsMarkSet e ((caller, e) ∷ past_of before)
mark_set laws caller b known before after (Pause start reply) is = laws.paused b.size b.history caller known.legal known.alone before after start reply is (left_there caller b known before after (Pause start reply) is)
mark_set laws caller b known before after (Resume start reply) is = laws.resumed b.size b.history caller known.legal before after start reply is
mark_set laws caller b known before after e is = tt

none_sent_then : MarkLaws → (caller : ℕ) (b : ClosedBuffer) → BufferKnown caller b → (before between after : History) (start : ℕ) (reply : Result ℕ MarkRefusal) (sender stated place : ℕ) (event : Event)
    → b.history ≡ before ++ (caller, Pause start reply) ∷ (between ++ (sender, SendInRun start stated event (Ok place)) ∷ after) → HasUnpaused (entries_by caller between) start
none_sent_then laws caller b known before between after start reply sender stated place event is =
    laws.kept b.size b.history caller known.legal known.alone before between after start reply sender stated place event is
    (left_there caller b known before (between ++ (sender, SendInRun start stated event (Ok place)) ∷ after) (Pause start reply) is)

marks_in : MarkLaws → (c : ClosedSession) (ends : MembersAtEnd c) (number : ℕ) (b : ClosedBuffer) → slice_get c.buffers number ≡ Some b → BothAt ends.logger.ports c.buffers number → MarksIn c b
marks_in laws c ends number b there (Both a x at here) =
    let caller : ℕ = logger_caller c in
    let are = laws.gives caller (logger_client c) c.engine ends.engine (speaks (logger_client c) c.engine (names_own c ends)) in
    let access : IsAccessTo caller b a = ends.logger.access number a b at there in
    let own : a.own ≡ entries_by caller b.history = access.own ∙ sym access.part.own in
    let stands = ends.logger.stands (given_once laws.once c ends) in
    let alone : MarksAlone (history_in (slice_get c.buffers number)) caller = logger_marks_alone laws.senders (session_of c ends.moments) (laws.keep c ends) number in
    let known : BufferKnown caller b = record {
      legal = ends.buffers number b there;
      alone = subst (λ (o : Option ClosedBuffer). MarksAlone (history_in o) caller) there alone;
      in_runs = subst (λ (es : List BufferEntry). AreMarksInRuns (calls_after [] es)) own (stands.in_runs number a at).marks;
    } in
    record {
      asked = ap marks_called (sym own) ∙ stands.marks are number a at;
      are_set = mark_set laws caller b known;
      none_sent = none_sent_then laws caller b known;
    }
marks_in laws c ends number b there (Neither none nor) = absurd (cc (there, nor))

pub marks_end : MarkLaws → EndsMark
marks_end laws c ends number b there = marks_in laws c ends number b there (both_at ends.logger.ports c.buffers number ends.logger.many)
