use Rattle.session_laws.proofs.EndsMet.{ends_met}
use Rattle.session_laws.proofs.record_laws.members_end.Goals as goal

pub returns : goal.returns
returns g c = λ lists logger ended. let met = ends_met g.F.Files.told lists logger c.args._kept.now ended c.got_all.ensures c.members_counted.ensures in (met.ends, met.moments)
