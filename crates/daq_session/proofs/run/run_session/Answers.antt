use Rattle.std.proofs.Common.{refl, arith}
use Rattle.std.specs.Prelude.{◌≢◌, []}
use Rattle.daq_types.specs.Callers.{main_caller}
use Rattle.odb_lock.specs.SharedAccesses.{odb_identity, shared_access}
use Rattle.session_commands.specs.Stages.{SessionStage}
use Rattle.session_commands.specs.Keeping.{StageSaved}
use Rattle.daq_session.specs.declared.ends.ScriptEnd.TheVariants.{NoMemory}
use Rattle.daq_session.proofs.AskedLaws.{kept_asked}
use Rattle.daq_session.proofs.ClosedLaws.{is_back, memory_found}
use Rattle.daq_session.proofs.EndedLaws.{kept_ended}
use Rattle.daq_session.proofs.LeftLaws.{lines_left}
use Rattle.daq_session.proofs.run.run_session.Goals as goal

pub close_left-record-requires-clause-some : goal.close_left-record-requires-clause-some
close_left-record-requires-clause-some g c = omega (arith, c.requires.database.callers)

pub close_left-record-requires-clause-back : goal.close_left-record-requires-clause-back
close_left-record-requires-clause-back g c =
    let played = c.play_all-lines.ensures in
    is_back _ c.args.session.database.shared c.args.outside.run_files played.final c.play_all-lines.result.0.run_files _ played.ends

pub returns : goal.returns
returns g c =
    let outside = c.args.outside in
    let all = c.play_all-lines in
    let new = c.new_session-setup.ensures.unopened in
    let played = all.ensures in
    let finished = rw (new.files_are, new.clock_is) at played.finishes in
    let lines = all.result.0 in
    let final : SessionStage = played.final in
    let refusals = lines.script.line_loop.refusals in
    let kept = c.scripts_keep.ensures _ final lines.ending lines.closing _ _ _ _ refusals finished in
    let end = c.end_of-end.ensures (g.F.Files.told outside.run_files).faults (g.E.Files.told outside.odb_files).faults in
    let faults = end (λ asks. (played.tells.failed, rw (played.tells.replies_are, played.tells.files_are) at kept.faults refl asks)) in
    let saved : c.end_of-end.result ≢ NoMemory → StageSaved final = λ other. kept.saved (memory_found lines.ending lines.closing faults.0 refusals c.end_of-end.result faults.2 other) tt in
    let keeps = c.close_left-record.ensures.kept outside.run_files final lines.run_files c.requires.database.rows
    (kept.kept tt) kept.over (kept.spares tt) played.ends in
    record {
      ran = lines_left _ outside lines _ _ _ _ c.into_outside-replies.ensures.outside c.into_outside-replies.ensures.replies (record {
        final = final;
        plays = record {
          access = shared_access (odb_identity c.args.session.database.shared) main_caller [];
          opens = c.requires.database.rows;
          caller = refl;
          unseen = refl;
          ending = lines.ending;
          closing = lines.closing;
          refusals = refusals;
          lines = record {
            finished = finished;
            counts = played.tells.counts;
            odb_files = played.tells.files_are;
            clock = played.tells.clock_is;
          };
          faulted = faults.0;
          fault = faults.1;
          end_is = faults.2;
          replies_are = played.tells.replies_are;
          saved = saved;
          quotas = kept.quotas refl;
          dumps = rw played.tells.files_are at kept.dumps;
          saves = rw played.tells.files_are at kept.saves;
          fault_replies = λ asks. rw (played.tells.replies_are, played.tells.files_are) at kept.faults refl asks;
          one_reply = rw (played.tells.replies_are, played.tells.files_are) at kept.one_reply refl;
        };
        keeps = keeps;
        asked = kept_asked _ outside.run_files final lines.run_files _ (kept.quotas refl) c.close_left-record.result keeps;
        ended = λ other. kept_ended _ outside.run_files final lines.run_files (saved other) c.close_left-record.result keeps;
      });
    }
