use Rattle.session_laws.proofs.RecordsMet.{refusal_met}
use Rattle.session_laws.proofs.record_laws.refusals_end.Goals as goal

pub returns : goal.returns
returns g c = λ lists logger ended own more calls. refusal_met g.F.Files.told lists logger c.args.kept.now ended own more calls c.channels_agree.ensures c.records_refused.ensures (c.counts_end.ensures lists logger ended)
