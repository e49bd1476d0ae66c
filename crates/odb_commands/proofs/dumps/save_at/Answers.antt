use Rattle.odb_commands.proofs.WatchMade.{ends_cut}
use Rattle.std.proofs.Common.{rules}
use Rattle.odb_commands.proofs.DumpMade.{file_saved, save_cut}
use Rattle.odb_commands.proofs.dumps.save_at.Goals as goal

pub returns-in_err-dump-clause-ends : goal.returns-in_err-dump-clause-ends
returns-in_err-dump-clause-ends g c = ends_cut _ _ _ _ c.from_residual.ensures.0 (save_cut _ _ _ _ _ _ c.save.ensures.called c.in_err-dump.was)

pub returns-clause-ends : goal.returns-clause-ends
returns-clause-ends g c = file_saved _ _ _ _ _ _ _ _ _ _ _ c.save.ensures.called c.in_ok-dump.was c.as_slice-text.ensures c.write_file-came.ensures.written (search rules) c.saved_or.ensures.answer
