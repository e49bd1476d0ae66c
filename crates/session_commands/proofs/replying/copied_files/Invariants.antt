-- The files so far were copied.
use Rattle.std.proofs.Common.{◌≡◌, take}
use Rattle.session_commands.proofs.replying.copied_files.Given as goal

abbrev pub invariant-loop-channel : goal.invariant-loop-channel
invariant-loop-channel l = l.copied ≡ take l.channel-index l.files
