use Rattle.session_laws.proofs.RecordsMet.{one_met}
use Rattle.session_laws.proofs.record_laws.one_answer_end.Goals as goal

pub returns : goal.returns
returns g c = λ lists logger ended own more calls. one_met g.F.Files.told lists logger c.args._kept.now ended own more calls c.got_all.ensures c.members_counted.ensures c.channels_agree.ensures c.one_answer.ensures
