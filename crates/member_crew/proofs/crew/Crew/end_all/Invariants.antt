-- So far the members below the place had their last turns.
use Rattle.std.specs.Prelude.{◌≡◌}
use Rattle.member_crew.proofs.ListLaws.{ChangedBelow}
use Rattle.member_crew.proofs.CrewLaws.{Ends}
use Rattle.member_crew.proofs.crew.Crew.end_all.Given as goal

abbrev pub invariant-loop-place : goal.invariant-loop-place
invariant-loop-place g l = record {
  ends : ChangedBelow (Ends g.M.TakesTurns.turns) l.place l.initial.self.members l.self.members;
  pick : l.self.pick ≡ l.initial.self.pick;
}
