-- So far each check told that the transition is going on, and the members had a round behind it.
use Rattle.std.specs.Prelude.{◌≡◌, [], None}
use Rattle.daq_types.specs.Callers.{main_caller}
use Rattle.turn_lock.specs.Passes.{number_of, held_by, own_entries, IsOf}
use Rattle.transition_lock.specs.SharedEngines.{engine_lock_of}
use Rattle.session_runs.specs.MainKnowledge.{known_from}
use Rattle.session_runs.proofs.MadeLaws.{Waits}
use Rattle.session_runs.proofs.engine_making.wait_for_end.Given as goal

abbrev pub invariant-loop : goal.invariant-loop
invariant-loop g l = record {
  main : number_of l.main ≡ main_caller;
  own : IsOf (engine_lock_of l.engine) l.main;
  idle : held_by l.main ≡ None;
  empty : l.tallies ≡ [];
  known : known_from (own_entries l.main) ≡ known_from (own_entries l.fn.main);
  waits : Waits g.M.Rounds.round (own_entries l.fn.main) (own_entries l.main) l.fn.members l.members;
}
