-- The lines of a script up to its first start.
use Rattle.daq_io.specs.Told.{SinkTold, SourceTold}
use Rattle.session_commands.specs.ScriptLines.{BreaksScriptLine, DoesScriptLine, opens_session, WithdrawsLine}
use Rattle.console.specs.declared.play_end.PlayEnd.{PlayEnd}
use Rattle.console.specs.Playing.{PlaysTo}
use Rattle.session_commands.specs.declared.unopened.Unopened.{Unopened}
use Rattle.session_commands.specs.declared.script.Script.{Script}
use Rattle.session_commands.specs.Finishing.{SideTold, stage_unopened}

-- The lines up to the first start were played, or all of them, of a session that is not open: `now` is the session and `before` the
-- script in front of these lines, `later` and `after` are they behind them.
abbrev pub PlaysFirst : {D E C S O : Type 0} {d : _} {e : _} {c : _} (told : SideTold D E C) (source : S → SourceTold)
    (sink : O → SinkTold) (now : Unopened D E C d e c) (before : Script S O) → PlayEnd → (later : Unopened D E C d e c) →
    (after : Script S O) → Type 0
PlaysFirst told source sink now before end later after =
    PlaysTo DoesScriptLine BreaksScriptLine WithdrawsLine opens_session (stage_unopened told now.quota now.declarations now.side)
    (source before.src) (sink before.out).written end (source after.src) (sink after.out).written
    after.line_loop.reader after.line_loop.last (stage_unopened told later.quota later.declarations later.side)
    after.line_loop.refusals after.line_loop.number
