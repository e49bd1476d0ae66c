use Rattle.std.proofs.Common.{◌≡◌, ◌≤◌, ◌*◌, take}
use Rattle.session_setup.specs.Setup.{total_size}
use Rattle.session_setup.proofs.checks.total_size.Given as goal

abbrev pub invariant-loop-buffer : goal.invariant-loop-buffer
invariant-loop-buffer l = (l.total ≡ total_size (take l.buffer-index l.buffers)) × (l.total ≤ l.buffer-index * 4294967295)
