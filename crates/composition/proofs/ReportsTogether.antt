-- What analyzers told, by the engine's history and the buffers'.
use Rattle.std.specs.Prelude.{◌≡◌, ℕ, List, [], ◌∷◌, ◌++◌, Some, refl}
use Rattle.std.specs.List.{AllByRecursion}
use Rattle.std.proofs.Common.{ap, sym, ◌∙◌, subst}
use Rattle.daq_types.specs.Callers.{caller_of_client}
use Rattle.daq_types.specs.declared.runs.Transition.TheVariants.{Start, Stop}
use Rattle.buffer_core.specs.declared.entry.BufferEntry.{BufferEntry}
use Rattle.buffer_core.specs.Window.{opening}
use Rattle.buffer_core.specs.Histories.{History, IsLegal}
use Rattle.buffer_core.specs.Runs.{segment}
use Rattle.buffer_core.specs.Readers.{wanted}
use Rattle.buffer_core.specs.Ports.{GotEvent}
use Rattle.event_report.specs.Reports.{Totals}
use Rattle.transitions.specs.declared.answers.Answer.TheVariants.{Yes, No}
use Rattle.transitions.specs.declared.answers.Tally.TheVariants.{Plain, Report}
use Rattle.transitions.specs.EnginePoints.{tally_of}
use Rattle.member_model.specs.RunEngines.{Answer, Tally}
use Rattle.member_model.specs.Turns.{MemberTurn, IsAcceptedStart, AreEngineTurns}
use Rattle.analyzers.specs.CountedRuns.{counted_calls}
use Rattle.analyzers.specs.AnalyzerKept.{IsReportOfRun, KeepsAnalyzer}
use Rattle.history_laws.specs.OneCaller.{WasSentAt, HaveOwnClients, HaveRunSends, events_in}
use Rattle.member_model.specs.GotRuns.{events_of_start}
use Rattle.history_laws.specs.CallerLaws.{SeenEvents, SeenSince, MembersFit}
use Rattle.history_laws.specs.SeenRuns.{SeesRun}
use Rattle.history_laws.specs.BegunTurns.{HasTally}
use Rattle.composition.specs.Sessions.{Session, SessionAnalyzer, HasAnalyzer, MembersKeep, turns_of, buffer_calls}
use Rattle.composition.specs.SessionRuns.{SessionRun, ReportsRun, analyzer_events}
use Rattle.composition.specs.CompositionLaws.{ReportsTold, ReportsSo, ReportsWhole, GotWhole}
use Rattle.composition.proofs.SessionTurns.{EngineFacts, are_turns, StopTally, number_of, stop_tally, HasStartTally, start_tally, last_tally}
use Rattle.composition.proofs.SentTogether.{each_reads_or_sends}
use Rattle.composition.proofs.FilesTogether.{plain_start}
use Rattle.composition.proofs.SeenBy.{SawBy, saw_by, sees_on}

yes_report : (answer : Answer) (report : Totals) → Report report ≡ tally_of answer → answer ≡ Yes (Report report)
yes_report (Yes tally) report e = ap (λ (t : Tally). Yes t) (sym e)
yes_report (No why) report e = absurd (cc (e))

told_as : (tally : Tally) (answer : Answer) (report : Totals) → tally ≡ tally_of answer → answer ≡ Yes (Report report) → tally ≡ Report report
told_as tally answer report is answered = is ∙ ap tally_of answered

pub reports_told : EngineFacts → (s : Session) → MembersKeep s → ReportsTold s
reports_told laws s keep r run a has =
    let turns : List MemberTurn = turns_of s a.client in
    let keeps : KeepsAnalyzer a.wanted (buffer_calls s a.buffer a.client) a.got turns = keep.analyzers_keep a has in
    let are : AreEngineTurns turns = are_turns laws s keep a.client in
    let registered = keep.analyzers_registered a has in
    let first : HasStartTally s r run a.client = start_tally laws s keep r run a.client registered.0 in
    let t0 = first.told in
    let starts : t0.turn.transition ≡ Start = t0.completed refl in
    let plain : t0.answer ≡ Yes Plain = plain_start t0.answer first.tally (t0.accepted starts) (keeps.starts t0.turn t0.answer t0.stands starts t0.answered) in
    let accepted : IsAcceptedStart turns r.start t0.turn = record {
      is_start = record { stands = t0.stands; is = starts; of = number_of Start r.first r.start t0.turn t0.of_begin };
      accepted = t0.answered ∙ ap (λ (x : Answer). Some x) plain;
    } in
    let last : HasTally a.client r.last_tallies = last_tally laws s keep r run a.client registered.1 in
    let t1 : StopTally s r run a.client last.1 = stop_tally laws s keep r run a.client last.0 last.1 last.2 in
    let told = keeps.stops are r.start t0.turn t1.turn t1.answer accepted (record { stands = t1.stands; is = t1.completed refl; of = number_of Stop r.last r.start t1.turn t1.of_begin }) t1.answered in
    (told.0, (last.0, last.2 ∙ ap (λ (x : Tally). Some (record { client = a.client; tally = x })) (told_as last.1 t1.answer told.0 t1.tally_is told.1)))

pub reports_so : EngineFacts → (s : Session) → MembersKeep s → ReportsSo s
reports_so laws s keep r run a has report tells =
    let own : List BufferEntry = buffer_calls s a.buffer a.client in
    let turns : List MemberTurn = turns_of s a.client in
    let keeps : KeepsAnalyzer a.wanted own a.got turns = keep.analyzers_keep a has in
    let t : StopTally s r run a.client (Report report) = stop_tally laws s keep r run a.client tells.0 (Report report) tells.1 in
    let answered : t.turn.answer ≡ Some (Yes (Report report)) = t.answered ∙ ap (λ (x : Answer). Some x) (yes_report t.answer report t.tally_is) in
    subst (λ (n : ℕ). IsReportOfRun a.wanted own a.got turns n report) (number_of Stop r.last r.start t.turn t.of_begin) (keeps.reports t.turn report t.stands answered).1

-- The whole run.

all_first : {X : Type 0} (P : X → Type 0) (xs ys : List X) → AllByRecursion P (xs ++ ys) → AllByRecursion P xs
all_first P [] ys all = tt
all_first P (x ∷ xs) ys all = (all.0, all_first P xs ys all.1)

all_last : {X : Type 0} (P : X → Type 0) (xs ys : List X) → AllByRecursion P (xs ++ ys) → AllByRecursion P ys
all_last P [] ys all = all
all_last P (x ∷ xs) ys all = all_last P xs ys all.1

-- all that it got of the run
pub got_whole : SeenEvents → MembersFit → (s : Session) → MembersKeep s → GotWhole s
got_whole seen fits s keep r a has client ended sees =
    let fit = fits (s.history a.buffer) (each_reads_or_sends s keep a.buffer) in
    let got = keep.analyzers_got a has in
    seen (s.size a.buffer) (s.history a.buffer) (caller_of_client a.client) (buffer_calls s a.buffer a.client) a.got (keep.buffers_legal a.buffer) fit.0 fit.1
    (record { own_is = refl; sent_so = got.0 }) got.1 client a.wanted.id a.wanted.mask r.start ended sees

-- all that it counted
counted_whole : SeenSince → MembersFit → (s : Session) → MembersKeep s → (r : SessionRun) (a : SessionAnalyzer) → HasAnalyzer s a → (report : Totals) (told : ReportsRun s r a report) → SawBy s r a report told → told.events ≡ analyzer_events s r a
counted_whole since fits s keep r a has report told saw =
    let h : History = s.history a.buffer in
    let caller : ℕ = caller_of_client a.client in
    let fit = fits h (each_reads_or_sends s keep a.buffer) in
    let got = keep.analyzers_got a has in
    let w = told.counted in
    let given : List GotEvent = w.counted.given in
    let sent_by : AllByRecursion (WasSentAt h) w.got_by = all_first (WasSentAt h) w.got_by w.got_later (subst (AllByRecursion (WasSentAt h)) w.got_is got.0) in
    let sent_given : AllByRecursion (WasSentAt h) given = all_last (WasSentAt h) w.counted.earlier given (subst (AllByRecursion (WasSentAt h)) w.counted.got_is sent_by) in
    let seen : events_of_start told.client r.start given ≡ events_in (wanted a.wanted.id a.wanted.mask (segment (saw.seen ++ saw.later) r.start)) =
    since (s.size a.buffer) saw.seen saw.later caller given (subst (IsLegal (opening (s.size a.buffer))) saw.whole (keep.buffers_legal a.buffer))
    (subst HaveOwnClients saw.whole fit.0) (subst HaveRunSends saw.whole fit.1)
    told.client a.wanted.id a.wanted.mask r.start saw.ended saw.sees (counted_calls w) saw.since w.counted.gives (subst (λ (x : History). AllByRecursion (WasSentAt x) given) saw.whole sent_given) in
    let whole : events_of_start told.client r.start given ≡ analyzer_events s r a =
    subst (λ (x : History). events_of_start told.client r.start given ≡ events_in (wanted a.wanted.id a.wanted.mask (segment x r.start))) (sym saw.whole) seen in
    w.counted.events_are ∙ whole

pub reports_whole : SeenEvents → SeenSince → MembersFit → (s : Session) → MembersKeep s → ReportsWhole s
reports_whole seen since fits s keep r a has report told through =
    let saw : SawBy s r a report told = saw_by s r a report told through in
    let counted : told.events ≡ analyzer_events s r a = counted_whole since fits s keep r a has report told saw in
    let sees : SeesRun (s.history a.buffer) (caller_of_client a.client) told.client a.wanted.id a.wanted.mask r.start saw.ended =
    sees_on (s.history a.buffer) saw.seen saw.later (caller_of_client a.client) told.client a.wanted.id a.wanted.mask r.start saw.ended saw.whole saw.sees in
    record { counted = counted; ever = got_whole seen fits s keep r a has told.client saw.ended sees ∙ sym counted }
