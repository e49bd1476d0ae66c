use Rattle.std.proofs.Common.{◌≡◌, ◌<◌, ℕ, false, length, get_or}
use Rattle.daq_types.specs.Names.{breaks_name}
use Rattle.daq_types.proofs.names.Name.new.Given as goal

abbrev pub invariant-loop-place : goal.invariant-loop-place
invariant-loop-place l = (before : ℕ) → before < l.place → breaks_name (length l.text) before (get_or l.text before 0) ≡ false
