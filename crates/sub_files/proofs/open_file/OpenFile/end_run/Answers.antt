use Rattle.event.specs.Events.{encoding}
use Rattle.event.specs.RunFile.{end_record}
use Rattle.sub_files.proofs.RunEnds.{closed_run, closed_part}
use Rattle.sub_files.proofs.open_file.OpenFile.end_run.Goals as goal

pub returns-in-Ok-clause-run : goal.returns-in-Ok-clause-run
returns-in-Ok-clause-run g c = λ s events h.
    closed_run (g.F.Files.told c.args.files.now).seen (g.F.Files.told c.end_file.new.files).seen s c.args.self (encoding (end_record c.args.head.run c.args.time c.args.dump.now)) events h c.in-Ok.ensures.whole

pub returns-in-Err-clause-broken : goal.returns-in-Err-clause-broken
returns-in-Err-clause-broken g c = λ s events h.
    closed_part (g.F.Files.told c.args.files.now).seen (g.F.Files.told c.end_file.new.files).seen s c.args.self (encoding (end_record c.args.head.run c.args.time c.args.dump.now)) events h c.in-Err.ensures.part
