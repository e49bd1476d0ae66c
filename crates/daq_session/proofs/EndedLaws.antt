-- Where memory was not wanting, the runs of a session ended.
use Rattle.std.specs.Prelude.{◌≡◌, ℕ, List, [], ◌∷◌, ◌++◌, Option, Some, None, Result, Ok, Err, IsOk, refl}
use Rattle.std.proofs.Common.{ap, subst, ◌∙◌}
use Rattle.daq_types.specs.declared.memory.NoMemory.{NoMemory}
use Rattle.daq_types.specs.declared.runs.ChannelState.TheVariants.{Ended}
use Rattle.daq_types.specs.declared.runs.RunState.{RunState}
use Rattle.frontend_kit.specs.declared.generator.Generator.{Generator}
use Rattle.odb_watch.specs.declared.entry.WatchEntry.{WatchEntry}
use Rattle.odb_watch.specs.declared.entry.WatchEntry.TheVariants.{Save}
use Rattle.odb_watch.specs.DatabasePorts.{row_calls}
use Rattle.session_runs.specs.declared.records.RunRecord.{RunRecord}
use Rattle.daq_members.specs.Members.{MemberTold}
use Rattle.session_objects.specs.declared.record.SessionRecord.{SessionRecord}
use Rattle.session_runs.specs.RunEntries.{StopCalls, dump_saved}
use Rattle.session_runs.specs.RunsFit.{MainOwn, StandCalls}
use Rattle.session_commands.specs.Stages.{SessionStage}
use Rattle.session_laws.specs.ClosedSessions.{ClosedSession}
use Rattle.session_laws.specs.CountedFaults.{state_by_dump}
use Rattle.session_laws.specs.EndedRecords.{RecordSo}
use Rattle.session_commands.specs.Keeping.{AllSaved, SavesDump, StageSaved}
use Rattle.daq_session.specs.Sessions.{KeepsSession, KeptRunsEnded, RunsEnded, SessionKept}
use Rattle.daq_session.proofs.ToldRuns.{all_behind, all_first}

-- calls that stand among some that got the text got it
stand_saved : (entries own : List WatchEntry) → (stand : StandCalls entries own) → AllSaved own → AllSaved entries
stand_saved entries own stand all =
    all_first SavesDump entries stand.after (all_behind SavesDump stand.before (entries ++ stand.after) (subst AllSaved stand.calls all))

-- a stop of which each call got it has its dump
stop_has : (state : RunState) (time : ℕ) (saved : Result (List ℕ) NoMemory) (entries : List WatchEntry) → StopCalls state time saved entries → AllSaved entries → IsOk saved
stop_has state time saved entries s all =
    let first : AllSaved s.first = all_first SavesDump s.first (row_calls s.sets) (subst AllSaved s.are all) in
    (all_behind SavesDump (row_calls s.announces.sets) (Save saved ∷ []) (subst AllSaved s.announces.are first)).0

record_saved : (c : ClosedSession) (moments : (client : ℕ) → List ℕ) (own : MainOwn) (run : RunRecord) (so : RecordSo c moments own run) → AllSaved own.database → IsOk so.fits.stop.saved
record_saved c moments own run so all =
    let stop = so.fits.stop in
    let late : AllSaved so.fits.late.database =
    all_behind SavesDump so.fits.early.database so.fits.late.database (subst AllSaved (ap (λ (o : MainOwn). o.database) so.fits.calls) all) in
    stop_has stop.state run.time1 stop.saved stop.entries stop.are (stand_saved stop.entries so.fits.late.database stop.stand late)

ended_by_dump : (saved : Result (List ℕ) NoMemory) → IsOk saved → state_by_dump (dump_saved saved) ≡ Ended
ended_by_dump (Ok dump) is = refl
ended_by_dump (Err wanting) is = absurd (cc is)

module _ {D F : Type 0} {g : _} (told : MemberTold Generator F) (first_files : F) (final : SessionStage) (run_files : F) (all : StageSaved final) where
  runs_ended : (r : SessionRecord D g) (keeps : KeepsSession told first_files final run_files r) → RunsEnded told first_files final run_files r keeps
  runs_ended r keeps = record {
    saved = λ number run at whole. record_saved _ _ _ run (keeps.tells.runs number run at whole).so all;
    ended = λ none number run at whole place file file_at.
        let tells = keeps.tells.runs number run at whole in
        tells.ended none place file file_at ∙ ended_by_dump tells.so.fits.stop.saved (record_saved _ _ _ run tells.so all);
  }

  pub kept_ended : (kept : Option (SessionRecord D g)) (keeps : SessionKept told first_files final run_files kept) → KeptRunsEnded told first_files final run_files kept keeps
  kept_ended None keeps = tt
  kept_ended (Some r) keeps = runs_ended r keeps
