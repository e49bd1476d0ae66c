-- The keys of the front-ends so far were made.
use Rattle.std.proofs.Common.{◌≡◌, List}
use Rattle.std.specs.Prelude.{take}
use Rattle.daq_types.specs.Callers.{main_caller}
use Rattle.odb_tree.specs.declared.entry.DatabaseEntry.{DatabaseEntry}
use Rattle.odb_watch.specs.DatabasePorts.{AddsCalls, IsSamePort}
use Rattle.session_commands.specs.RunLines.{MakesKeys}
use Rattle.session_commands.proofs.keys.make_keys.Given as goal

abbrev pub invariant-loop-front : goal.invariant-loop-front
invariant-loop-front g l = record {
  made : (keys : List DatabaseEntry) × MakesKeys (take l.front-index l.fronts) keys × AddsCalls (g.D.DatabasePort.access l.fn.access) (g.D.DatabasePort.access l.access) keys;
  main : (g.D.DatabasePort.access l.access).caller ≡ main_caller;
  same : IsSamePort (g.D.DatabasePort.access l.fn.access) (g.D.DatabasePort.access l.access);
}
