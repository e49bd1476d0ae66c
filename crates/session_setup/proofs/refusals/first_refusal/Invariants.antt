use Rattle.std.proofs.Common.{◌≡◌, drop}
use Rattle.session_setup.specs.Refusals.{first_setup_refusal}
use Rattle.session_setup.proofs.refusals.first_refusal.Given as goal

abbrev pub invariant-loop-refusal : goal.invariant-loop-refusal
invariant-loop-refusal l = first_setup_refusal l.refusals ≡ first_setup_refusal (drop l.refusal-index l.refusals)
