use Rattle.member_crew.proofs.CrewLaws.{none_yet}
use Rattle.member_crew.proofs.crew.Crew.new.Goals as goal

pub returns-clause-members : goal.returns-clause-members
returns-clause-members g c = none_yet c.args.parts.members 64
