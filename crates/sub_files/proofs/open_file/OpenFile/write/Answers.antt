use Rattle.sub_files.specs.Pieces.{series_of}
use Rattle.sub_files.proofs.NextEvent.{holds_if, part_if}
use Rattle.sub_files.proofs.open_file.OpenFile.write.Goals as goal

pub returns-clause-holds : goal.returns-clause-holds
returns-clause-holds g c =
    holds_if (g.F.Files.told c.args.files.now).seen (g.F.Files.told c.write_bytes.new.files).seen (series_of c.args.pattern.now c.args.limit c.args.head c.args.dump.now) c.args.self.now c.write_bytes.new.self c.args.event.now c.write_bytes.result c.write_bytes.ensures.wrote

pub returns-clause-part : goal.returns-clause-part
returns-clause-part g c =
    part_if (g.F.Files.told c.args.files.now).seen (g.F.Files.told c.write_bytes.new.files).seen (series_of c.args.pattern.now c.args.limit c.args.head c.args.dump.now) c.args.self.now c.args.event.now c.write_bytes.result c.write_bytes.ensures.fails
