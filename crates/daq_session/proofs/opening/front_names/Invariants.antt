-- The names of the front-ends so far.
use Rattle.std.proofs.Common.{◌≡◌, map, take}
use Rattle.daq_session.proofs.opening.front_names.Given as goal

abbrev pub invariant-loop-front : goal.invariant-loop-front
invariant-loop-front l = l.names ≡ map (λ front. front.name) (take l.front-index l.fronts)
