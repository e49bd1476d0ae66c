use Rattle.session_laws.proofs.KeptTogether.{members_keep}
use Rattle.session_laws.proofs.laws.members_keep.Goals as goal

pub returns : goal.returns
returns c = members_keep c.port_tells.ensures c.got_all.ensures c.gives_once.ensures c.logger_keeps.ensures c.front_keeps.ensures c.analyzers_keep.ensures
