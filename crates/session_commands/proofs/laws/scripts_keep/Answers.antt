use Rattle.console.proofs.KeepingLaws.{behind_keeps, plays_keep}
use Rattle.session_commands.specs.ScriptLines.{BreaksScriptLine, ClosesScript, DoesScriptLine, GivesUp, WithdrawsLine}
use Rattle.session_commands.specs.Keeping.{StageKept}
use Rattle.session_commands.proofs.CountLaws.{script_counted}
use Rattle.session_commands.proofs.DumpLaws.{script_keeps}
use Rattle.session_commands.proofs.FaultLaws.{script_told}
use Rattle.session_commands.proofs.OverLaws.{script_over}
use Rattle.session_commands.proofs.QuotaLaws.{script_asks}
use Rattle.session_commands.proofs.SpareLaws.{SpareLaws}
use Rattle.session_commands.proofs.SpareLines.{script_saved, script_spares}
use Rattle.session_commands.proofs.StageLaws.{FitLaws, line_breaks, line_keeps, script_closes, script_gives_up, withdraw_keeps}
use Rattle.session_commands.proofs.WholeSaves.{script_saves}
use Rattle.session_commands.proofs.laws.scripts_keep.Goals as goal

pub returns : goal.returns
returns c = λ first final ending closing source left told_first told refusals finished.
    let spares : SpareLaws = record {
      rows = c.calls_spare_runinfo.ensures;
      dumps = c.watch_commands_spare_runinfo.ensures;
      sets = c.own_calls_spare.ensures.sets;
      entries = c.entries_add_up.ensures.own;
      calls = c.calls_add_up.ensures.watched;
    } in
    let fits : FitLaws = record {
      start = c.commands_fit.ensures.start;
      stop = c.commands_fit.ensures.stop;
      unsaved = c.commands_fit.ensures.unsaved;
      pause = c.commands_fit.ensures.pause;
      resume = c.commands_fit.ensures.resume;
      opening = c.runs_fit.ensures.opening;
      registered = c.runs_fit.ensures.registered;
      more = c.runs_fit.ensures.more;
      spares = spares;
    } in
    record {
      kept = λ kept.
          behind_keeps DoesScriptLine BreaksScriptLine WithdrawsLine ClosesScript GivesUp StageKept withdraw_keeps (line_breaks fits) (λ old new reply. script_closes fits old new reply) (script_gives_up fits)
          first final ending closing source left told_first told refusals finished
          (plays_keep DoesScriptLine BreaksScriptLine WithdrawsLine ClosesScript GivesUp StageKept (line_keeps fits) 1 finished.lines finished.replies first finished.between finished.plays kept);
      over = script_over first final ending closing source left told_first told refusals finished;
      spares = script_spares spares first final ending closing source left told_first told refusals finished;
      saved = script_saved spares first final ending closing source left told_first told refusals finished;
      quotas = script_asks first final ending closing source left told_first told refusals finished;
      dumps = script_keeps first final ending closing source left told_first told refusals finished;
      saves = script_saves spares first final ending closing source left told_first told refusals finished;
      faults = script_told first final ending closing source left told_first told refusals finished;
      one_reply = script_counted first final ending closing source left told_first told refusals finished;
    }
