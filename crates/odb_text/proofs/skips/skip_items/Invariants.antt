use Rattle.std.proofs.Common.{◌+◌, ◌≤◌, length}
use Rattle.std.specs.Str.Lines.{lines}
use Rattle.odb_text.specs.Blocks.{AreSkipped}
use Rattle.odb_text.proofs.skips.skip_items.Given as goal

abbrev pub invariant-loop-index : goal.invariant-loop-index
invariant-loop-index l = AreSkipped (lines l.fn.text) l.index (lines l.rest) × (length l.rest + l.index ≤ length l.fn.text)
