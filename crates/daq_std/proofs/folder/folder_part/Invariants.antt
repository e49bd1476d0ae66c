use Rattle.std.proofs.Common.{◌≢◌, ◌<◌, ◌≤◌, ℕ, length, slice_index}
use Rattle.daq_std.specs.Paths.{slash}
use Rattle.daq_std.proofs.folder.folder_part.Given as goal

-- no slash stands behind the first bytes, so many
abbrev pub invariant-loop-count : goal.invariant-loop-count
invariant-loop-count l = (l.count ≤ length l.name) × ((place : ℕ) → l.count ≤ place → place < length l.name → slice_index l.name place ≢ slash)

abbrev pub decreases-loop-count : goal.decreases-loop-count
decreases-loop-count l = l.count
