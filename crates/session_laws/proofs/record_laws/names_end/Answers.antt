use Rattle.session_laws.proofs.RecordsMet.{names_met}
use Rattle.session_laws.proofs.record_laws.names_end.Goals as goal

pub returns : goal.returns
returns g c = λ lists logger ended own more calls none fits.
    let holds = (c.session_ended.ensures lists logger ended).0 in
    names_met g.F.Files.told lists logger c.args.kept.now ended own more calls none fits holds (c.records_end.ensures lists logger ended holds own more calls fits.runs) (c.counts_end.ensures lists logger ended)
