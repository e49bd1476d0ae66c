use Rattle.std.proofs.Common.{subst}
use Rattle.std.specs.Prelude.{ℕ, List, []}
use Rattle.event.specs.RunFile.{begun_file}
use Rattle.daq_io.specs.Seen.{Creates}
use Rattle.sub_files.proofs.RunEnds.{begun_holds}
use Rattle.sub_files.proofs.open_file.OpenFile.begin.Goals as goal

pub returns-in-Ok-clause-holds : goal.returns-in-Ok-clause-holds
returns-in-Ok-clause-holds g c = λ limit within.
    begun_holds (g.F.Files.told c.args.files.now).seen (g.F.Files.told c.begin_file.new.files).seen c.args.pattern.now limit c.args.head c.args.dump.now c.in-Ok.file within c.requires.small
    (subst (λ (name : List ℕ). Creates (g.F.Files.told c.args.files.now).seen (g.F.Files.told c.begin_file.new.files).seen name c.in-Ok.file (begun_file c.args.head.run c.args.head.time c.args.dump.now [])) c.name-name.ensures c.in-Ok.ensures.begun)
