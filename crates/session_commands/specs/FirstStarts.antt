-- What the first start of a script does.
use Rattle.std.specs.Prelude.{Option, None}
use Rattle.console.specs.declared.endings.Ending.{Ending}
use Rattle.console.specs.declared.endings.Ending.TheVariants.{Halted}
use Rattle.console.specs.declared.halts.Halt.{Halt}
use Rattle.console.specs.declared.halts.Halt.TheVariants.{NoMemory as no_memory}
use Rattle.session_commands.specs.Stages.{SessionStage}
use Rattle.session_commands.specs.RunLines.{CutsOpening, OpensSession}
use Rattle.session_commands.specs.Finishing.{FinishesLine, FinishesOpening, ScriptAt}

-- What it does once its session is open it does from where the session was not open.
abbrev pub ReadyFinish : Type 0
ReadyFinish = (at behind : ScriptAt) (now ready final : SessionStage) (ending : Ending) (closing : Option Halt) →
    OpensSession now ready → FinishesLine at behind ready final ending closing →
    FinishesOpening at behind now final ending closing

-- Where there is no memory to open the session, the script ended there.
abbrev pub CutFinish : Type 0
CutFinish = (at : ScriptAt) (now new : SessionStage) → CutsOpening now new →
    FinishesOpening at at now new (Halted no_memory) None
