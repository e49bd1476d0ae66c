use Rattle.midas_tools.proofs.Gathered.{name_read}
use Rattle.midas_tools.proofs.gathering.gather_name.Goals as goal

pub returns-in-Ok-clause-reads : goal.returns-in-Ok-clause-reads
returns-in-Ok-clause-reads g c = λ events taken few.
    name_read (g.T.EventTaker.has_taken c.gather_source-end.new.gathered.summary) events c.args.gathered.now.extent c.gather_source-end.new.gathered.extent (g.F.Files.told c.args.files).seen c.args.name.now
    (g.F.Files.told c.in-Ok.source.files).seen c.in-Ok.source.number c.in-Ok.ensures.opened _ _ c.gather_source-end.result.0 c.close_file.result.0 (c.gather_source-end.ensures.piece events taken few) c.close_file.ensures.closed
