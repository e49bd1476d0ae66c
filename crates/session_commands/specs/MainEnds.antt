-- What the main thread of an open session comes to.
use Rattle.std.specs.Prelude.{◌≡◌, List, Option, None}
use Rattle.daq_types.specs.Callers.{main_caller}
use Rattle.turn_lock.specs.Passes.{IsOf, held_by, number_of, own_entries}
use Rattle.odb_watch.specs.DatabasePorts.{IsSamePort}
use Rattle.transition_lock.specs.SharedEngines.{engine_lock_of}
use Rattle.member_model.specs.RunEngines.{EngineEntry, EngineState}
use Rattle.turn_lock.specs.declared.lock.Pass.{Pass}
use Rattle.transition_lock.specs.declared.locked.LockedEngine.{LockedEngine}
use Rattle.session_runs.specs.declared.records.RunRecord.{RunRecord}
use Rattle.session_setup.specs.declared.declared.DeclaredLists.{DeclaredLists}
use Rattle.session_runs.specs.KeptRuns.{RunsSeen}
use Rattle.console.specs.declared.endings.Ending.{Ending}
use Rattle.console.specs.declared.halts.Halt.{Halt}
use Rattle.session_commands.specs.declared.side.MainSide.{MainSide}
use Rattle.session_commands.specs.Finishing.{PlaysOpen, ScriptAt, SideTold}

-- An open session was played to the end of its script, and its engine was closed by the main thread's pass of it, which is free;
-- its port to the database is the same.
pub record MainEnds {D E C : Type 0} {d : _} {e : _} {g : _} (told : SideTold D E C) (lists : DeclaredLists) (runs : RunsSeen)
    (before after : MainSide D E C d e) (at behind : ScriptAt) (ending : Ending) (closing : Option Halt)
    (records : List RunRecord) (main : Pass LockedEngine EngineState EngineEntry g) : Type 0 where
  pub played : PlaysOpen told lists runs before after at behind ending closing records (own_entries main)
  pub main_is : number_of main ≡ main_caller
  pub own : IsOf (engine_lock_of runs.main.engine) main
  pub idle : held_by main ≡ None
  pub same : IsSamePort (told.access before.database.access) (told.access after.database.access)
