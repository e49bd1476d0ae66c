use Rattle.daq_io.proofs.OneFile.{one_read_on}
use Rattle.daq_io.proofs.file_source.FileSourceSource.read.Goals as goal

pub invariant_of-self : goal.invariant_of-self
invariant_of-self g c =
    one_read_on (g.F.Files.told c.self.inside.first.value).seen (g.F.Files.told c.self.inside.files).seen (g.F.Files.told c.read.new.self).seen c.self.inside.number (g.F.Files.told c.self.inside.first.value).bytes_read (g.F.Files.told c.self.inside.files).bytes_read
    (g.F.Files.told c.read.new.self).bytes_read c.read.new.into c.read.result c.self.invariant c.read.ensures.within c.read.ensures.bytes c.read.ensures.kept c.read.ensures.bytes_read c.read.ensures.none_read

pub invariant_of-self-2 : goal.invariant_of-self-2
invariant_of-self-2 g c =
    one_read_on (g.F.Files.told c.self.inside.first.value).seen (g.F.Files.told c.self.inside.files).seen (g.F.Files.told c.read.new.self).seen c.self.inside.number (g.F.Files.told c.self.inside.first.value).bytes_read (g.F.Files.told c.self.inside.files).bytes_read
    (g.F.Files.told c.read.new.self).bytes_read c.read.new.into c.read.result c.self.invariant c.read.ensures.within c.read.ensures.bytes c.read.ensures.kept c.read.ensures.bytes_read c.read.ensures.none_read
