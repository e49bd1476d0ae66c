use Rattle.session_laws.proofs.RecordsMet.{rises_met}
use Rattle.session_laws.proofs.record_laws.rises_end.Goals as goal

pub returns : goal.returns
returns g c = λ lists logger ended own more calls. rises_met g.F.Files.told lists logger c.args._kept.now ended own more calls c.got_all.ensures c.members_counted.ensures c.channels_agree.ensures c.rises_told.ensures
