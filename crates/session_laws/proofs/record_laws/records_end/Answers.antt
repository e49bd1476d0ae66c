use Rattle.session_laws.proofs.RecordsMet.{record_met}
use Rattle.session_laws.proofs.record_laws.records_end.Goals as goal

pub returns : goal.returns
returns g c = λ lists logger ended holds own more calls. record_met g.F.Files.told lists logger c.args._kept.now ended own more calls c.channels_agree.ensures c.records_hold.ensures holds
