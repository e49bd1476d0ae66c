use Rattle.std.proofs.Common.{◌+◌, ◌≤◌, length}
use Rattle.std.specs.Str.Lines.{lines}
use Rattle.odb_text.specs.Blocks.{AreRead}
use Rattle.odb_text.proofs.arrays.read_items.Given as goal

abbrev pub invariant-loop-index : goal.invariant-loop-index
invariant-loop-index l = AreRead l.tid (lines l.text) l.index l.so_far.items.items l.so_far.size (lines l.so_far.rest.now) × (length l.so_far.rest.now + l.index ≤ length l.text)
