-- Why the starts of a closed session's records were refused, by the counts of its run files.
use Rattle.std.specs.Prelude.{◌≡◌, ℕ, ◌++◌, List, ◌⊎◌}
use Rattle.daq_types.specs.Callers.{main_caller}
use Rattle.daq_types.specs.declared.runs.Order.{Order}
use Rattle.daq_types.specs.declared.runs.RunState.TheVariants.{Stopped}
use Rattle.daq_types.specs.declared.runs.StartOutcome.TheVariants.{Refused}
use Rattle.daq_types.specs.declared.runs.Why.{Why}
use Rattle.daq_io.specs.Told.{FilesTold}
use Rattle.member_model.specs.RunEngines.{EngineEntry}
use Rattle.session_runs.specs.declared.records.RunRecord.{RunRecord}
use Rattle.session_runs.specs.RunsFit.{MainOwn, FitsRefused, run_of}
use Rattle.session_laws.specs.ClosedSessions.{ClosedSession, logger_client, engine_calls}
use Rattle.session_laws.specs.CountedFaults.{IsFrontRefusal, IsLoggerReason, CountsHold}
use Rattle.session_laws.specs.RecordedRuns.{clients_in}

-- what the members were told at the start of this record, with this quota
abbrev pub start_order : RunRecord → (quota : ℕ) → Order
start_order r quota = record { run = r.run; start = r.start; time = r.time0; from = Stopped; quota = quota }

-- The start of this record was refused by this client for this reason: by a front-end, as NotReady, whose equipment takes no part
-- in the run; or by the logger, for a name only where a clash of names was counted, and for a fault only where one was. No
-- analyzer refused it, and no buffer was the reason.
abbrev pub IsRefusedRecord : ClosedSession → (first now : FilesTold) → RunRecord → (quota client : ℕ) → Why → Type 0
IsRefusedRecord c first now r quota client why =
    IsFrontRefusal c (start_order r quota) client why ⊎ ((client ≡ logger_client c) × IsLoggerReason c why first now)

-- So each was whose record fits the main thread's own calls up to some point, where the counts tell why starts are refused.
abbrev pub RecordsRefused : Type 0
RecordsRefused = (c : ClosedSession) → (first now : FilesTold) → CountsHold c first now →
    (own : MainOwn) → (more : List EngineEntry) → engine_calls c main_caller ≡ own.engine ++ more →
    (r : RunRecord) → (quota client : ℕ) → (why : Why) → r.outcome ≡ Refused client why →
    FitsRefused (clients_in c) own (run_of r quota) r → IsRefusedRecord c first now r quota client why
