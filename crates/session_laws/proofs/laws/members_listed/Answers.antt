use Rattle.session_laws.proofs.MembersListed.{analyzer_listed, front_listed, front_of}
use Rattle.session_laws.proofs.laws.members_listed.Goals as goal

pub returns : goal.returns
returns c m moments = record { fronts = front_listed m moments; front_of = front_of m moments; analyzers = analyzer_listed m }
