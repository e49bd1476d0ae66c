-- The runs that a member's turns told it to start.
use Rattle.std.specs.Prelude.{ℕ, List, [], ◌∷◌}
use Rattle.daq_types.specs.declared.runs.Transition.{Transition}
use Rattle.daq_types.specs.declared.runs.Transition.TheVariants.{Start}
use Rattle.member_model.specs.Turns.{MemberTurn}

-- these runs, and this one, where the turn is a start
abbrev pub runs_with : Transition → (run : ℕ) → List ℕ → List ℕ
runs_with Start run runs = run ∷ runs
runs_with transition run runs = runs

-- the numbers of the runs that these turns start, answered or not
abbrev pub started_runs : List MemberTurn → List ℕ
started_runs [] = []
started_runs (t ∷ ts) = runs_with t.transition t.order.run (started_runs ts)
