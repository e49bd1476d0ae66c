-- The files up to here were removed, where that was possible.
use Rattle.std.proofs.Common.{◌≡◌}
use Rattle.sub_files.specs.Patterns.{piece_name_by}
use Rattle.sub_files.proofs.RemoveSteps.{HasRemoved}
use Rattle.sub_files.proofs.open_file.remove_files.Given as goal

abbrev pub invariant-loop-sub : goal.invariant-loop-sub
invariant-loop-sub g l = record {
  removed : HasRemoved (piece_name_by l.pattern l.run) l.sub (g.F.Files.told l.fn.files).seen (g.F.Files.told l.files).seen (g.F.Files.told l.fn.files).faults (g.F.Files.told l.files).faults (g.F.Files.told l.fn.files).first (g.F.Files.told l.files).first l.answer;
  clashes : (g.F.Files.told l.files).clashes ≡ (g.F.Files.told l.fn.files).clashes;
}
