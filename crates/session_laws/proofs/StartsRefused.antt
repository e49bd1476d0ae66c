-- A start of a record was refused by a front-end or by the logger: the sheet had a blank report for each analyzer.
use Rattle.std.specs.Prelude.{◌≡◌, ℕ, zero, suc, ◌<◌, length, List, refl}
use Rattle.std.proofs.Common.{arith, inl, inr}
use Rattle.daq_types.specs.Callers.{main_caller}
use Rattle.daq_types.specs.declared.runs.StartOutcome.TheVariants.{Refused}
use Rattle.daq_types.specs.declared.runs.Transition.TheVariants.{Start}
use Rattle.daq_types.specs.declared.runs.Why.{Why}
use Rattle.member_model.specs.RunEngines.{Sheet}
use Rattle.session_runs.specs.MadeTransitions.{TransitionIn}
use Rattle.session_runs.specs.RunEntries.{blank_reports, start_sheet}
use Rattle.session_laws.specs.ClosedSessions.{ClosedSession, engine_calls}
use Rattle.session_laws.specs.CountedFaults.{IsAnalyzerRefusal}
use Rattle.session_laws.specs.RecordedRuns.{clients_in}
use Rattle.session_laws.specs.RefusedRecords.{IsRefusedRecord, RecordsRefused}
use Rattle.session_laws.proofs.RecordedStarts.{refused_in}

many_blanks : (n : ℕ) → length (blank_reports n) ≡ n
many_blanks zero = refl
many_blanks (suc n) = omega (arith, many_blanks n)

no_analyzer : (c : ClosedSession) (run time quota client : ℕ) (dump : List ℕ) (why : Why) → IsAnalyzerRefusal c (start_sheet (length c.analyzers) run time quota dump) client why → ⊥
no_analyzer c run time quota client dump why of_analyzer =
    let few : length (blank_reports (length c.analyzers)) < length c.analyzers = of_analyzer.few_blanks in
    omega (arith, many_blanks (length c.analyzers))

pub records_refused : RecordsRefused
records_refused c first now counts own more calls r quota client why is fits =
    let start = fits.start in
    let sheet : Sheet = start_sheet (length c.analyzers) r.run r.time0 quota start.dump in
    let made : TransitionIn (engine_calls c main_caller) Start sheet r.start (Refused client why) start.tallies = refused_in (clients_in c) own more (engine_calls c main_caller) calls r quota client why is start in
    elim (counts.refused sheet r.start client why start.tallies made) as (λ w. IsRefusedRecord c first now r quota client why) [
      | inl front ↦ inl front
      | inr other ↦ elim other as (λ w. IsRefusedRecord c first now r quota client why) [
        | inl logger ↦ inr logger
        | inr of_analyzer ↦ absurd (no_analyzer c r.run r.time0 quota client start.dump why of_analyzer)
      ]
    ]
