use Rattle.std.proofs.Common.{refl}
use Rattle.odb_commands.specs.WatchCalls.{SavesFile}
use Rattle.odb_commands.proofs.DumpMade.{on_name}
use Rattle.odb_commands.proofs.dumps.save.Goals as goal

pub returns-in-Ok-clause-ends : goal.returns-in-Ok-clause-ends
returns-in-Ok-clause-ends g c = on_name _ _ _ _ (SavesFile (g.E.Files.told c.args.files.now).seen (g.E.Files.told c.save_at.new.files).seen) _ _ _ (c.from_bytes.ensures.exact.0 (rw c.in-Ok.is refl)) c.in-Ok.ensures.bytes c.save_at.ensures.ends
