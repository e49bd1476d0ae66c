-- What analyzers told at the stop of a run, as its record keeps it.
use Rattle.std.specs.Prelude.{◌≡◌, ◌+◌, ◌<◌, ℕ, suc, List, length, slice_get, Some, refl}
use Rattle.std.proofs.Common.{ap, sym, ◌∙◌, arith}
use Rattle.transitions.specs.declared.answers.Tally.TheVariants.{Report}
use Rattle.member_model.specs.RunEngines.{Tally, ClientTally}
use Rattle.session_runs.specs.declared.records.ReportTally.{ReportTally}
use Rattle.session_runs.specs.ToldTallies.{report_from, report_told, reports_told}
use Rattle.composition.specs.Sessions.{SessionAnalyzer}
use Rattle.composition.specs.SessionRuns.{SessionRun, IsStoppedRun, TellsTotals}
use Rattle.std.proofs.lemmas.Option.{slice_get_within}
use Rattle.session_laws.specs.ClosedSessions.{ClosedSession, logger_client, session_analyzer, session_analyzers, session_of}
use Rattle.session_laws.specs.EndLaws.{SessionHolds}
use Rattle.session_laws.specs.RecordedRuns.{ReportRecordHolds}
use Rattle.session_laws.proofs.ListedTold.{AllTold, ListsEach, TellsFirst, ToldBy, listed_at, many_told, told_so, told_there}
use Rattle.session_laws.proofs.MembersListed.{numbered_at, numbered_is}
use Rattle.session_laws.proofs.RunTurns.{there_within}
use Rattle.session_laws.proofs.RunsMade.{report_so}

-- What one client told.

reports_first : TellsFirst report_from report_told
reports_first = record { none = λ client. refl; more = λ client x xs. refl }

report_from_so : (client : ℕ) (tally : Tally) (t : ReportTally) → report_from client tally ≡ Some t → (t.client ≡ client) × (tally ≡ Report t.report)
report_from_so client (Report report) t is =
    let same : record { client = client; report = report } ≡ t = cc (is) in
    (sym (ap (λ (x : ReportTally). x.client) same), ap (λ (x : ReportTally). Report x.report) same)
report_from_so client tally t is = absurd (cc (is))

-- The reports of a record, in the order of the client numbers.

reports_listed : (first : ℕ) (tallies : List ClientTally) → ListsEach (λ k. report_told (first + k) tallies) (λ n. reports_told first n tallies)
reports_listed first tallies = record { none = refl; more = λ n. refl }

all_reported : (c : ClosedSession) (holds : SessionHolds c) (run : SessionRun) → IsStoppedRun (session_of c holds.moments) run → AllTold (λ k. report_told (logger_client c + 1 + k) run.last_tallies) (length c.analyzers)
all_reported c holds run stopped k less =
    let client : ℕ = logger_client c + 1 + k in
    let a = there_within c.analyzers k less in
    let tells = holds.composed.reports_told run stopped (session_analyzer c client a.0) (k, numbered_at (session_analyzer c) (suc (length c.fronts)) k client c.analyzers a.0 (omega arith) a.1) in
    told_there reports_first client run.last_tallies tells.1.0 (Report tells.0) (record { client = client; report = tells.0 }) tells.1.1 refl

-- all of them stand in the record
pub many_reports : (c : ClosedSession) (holds : SessionHolds c) (run : SessionRun) → IsStoppedRun (session_of c holds.moments) run → length (reports_told (logger_client c + 1) (length c.analyzers) run.last_tallies) ≡ length c.analyzers
many_reports c holds run stopped = many_told (reports_listed (logger_client c + 1) run.last_tallies) (length c.analyzers) (all_reported c holds run stopped)

pub report_record : (c : ClosedSession) (holds : SessionHolds c) (run : SessionRun) (stopped : IsStoppedRun (session_of c holds.moments) run) (reports : List ReportTally) → reports ≡ reports_told (logger_client c + 1) (length c.analyzers) run.last_tallies
    → (place : ℕ) (a : SessionAnalyzer) → slice_get (session_analyzers c (suc (length c.fronts)) c.analyzers) place ≡ Some a → (tally : ReportTally) × (slice_get reports place ≡ Some tally) × ReportRecordHolds (session_of c holds.moments) run a tally
report_record c holds run stopped reports is place a at =
    let tallies : List ClientTally = run.last_tallies in
    let first : ℕ = logger_client c + 1 in
    let of = numbered_is (session_analyzer c) (suc (length c.fronts)) place (first + place) c.analyzers a (omega arith) at in
    let less : place < length c.analyzers = slice_get_within c.analyzers place of.0 of.1 in
    let number : first + place ≡ a.client = sym (ap (λ (x : SessionAnalyzer). x.client) of.2) in
    let all : AllTold (λ k. report_told (first + k) tallies) (length c.analyzers) = all_reported c holds run stopped in
    let t = all place less in
    let says : ToldBy report_from (first + place) tallies t.0 = told_so reports_first (first + place) tallies t.0 t.1 in
    let so = report_from_so (first + place) says.tally t.0 says.is in
    let tells : TellsTotals run a.client t.0.report = (says.index, says.at ∙ (λ i. Some (record { client = number i; tally = so.1 i }))) in (
      t.0,
      ap (λ (l : List ReportTally). slice_get l place) is ∙ listed_at (reports_listed first tallies) (length c.analyzers) all place less t.0 t.1,
      record {
        client = so.0 ∙ number;
        tells = tells;
        so = report_so (session_of c holds.moments) holds.composed run stopped a (place, at) t.0.report tells;
      },
    )
