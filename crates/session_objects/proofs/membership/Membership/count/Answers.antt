use Rattle.std.proofs.Common.{arith}
use Rattle.session_objects.proofs.ListedLaws.{declared_count}
use Rattle.session_objects.proofs.membership.Membership.count.Goals as goal

pub returns : goal.returns
returns g c = omega (arith, declared_count c.args.self.now.lists.now, c.requires.few, c.requires.few_analyzers, c.member_count.ensures)
