use Rattle.session_laws.proofs.RecordsMet.{counts_met}
use Rattle.session_laws.proofs.record_laws.counts_end.Goals as goal

pub returns : goal.returns
returns g c = λ lists logger ended. counts_met g.F.Files.told lists logger c.args._kept.now ended c.got_all.ensures c.members_counted.ensures c.counts_tell.ensures
