use Rattle.session_objects.proofs.SuitLaws.{suits}
use Rattle.session_objects.proofs.laws.members_suit.Goals as goal

pub returns : goal.returns
returns g c = suits c.args._lists.now c.args._objects.now c.args._database.now c.requires.sound c.requires.objects c.requires.callers
