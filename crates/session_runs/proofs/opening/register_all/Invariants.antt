-- So far the members before this one are registered.
use Rattle.std.specs.Prelude.{◌≡◌, ◌++◌, None, length, take}
use Rattle.daq_types.specs.Callers.{main_caller}
use Rattle.turn_lock.specs.Passes.{number_of, held_by, own_entries, IsOf}
use Rattle.transition_lock.specs.SharedEngines.{engine_lock_of}
use Rattle.session_runs.specs.MainKnowledge.{known_from}
use Rattle.session_runs.specs.Members.{registrations}
use Rattle.session_runs.proofs.MadeLaws.{OnlyJoined}
use Rattle.session_runs.proofs.opening.register_all.Given as goal

abbrev pub invariant-loop-member : goal.invariant-loop-member
invariant-loop-member g l = record {
  main : number_of l.main ≡ main_caller;
  own : IsOf (engine_lock_of l.engine) l.main;
  idle : held_by l.main ≡ None;
  joined : OnlyJoined l.member-index (own_entries l.fn.main) (own_entries l.main);
  registered : own_entries l.main ≡ own_entries l.fn.main
      ++ registrations (length (known_from (own_entries l.fn.main)).clients) (take l.member-index l.fn.members);
}
