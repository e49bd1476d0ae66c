use Rattle.std.proofs.Common.{◌≡◌, ◌++◌, List, length}
use Rattle.session_objects.specs.Kept.{ports_out}
use Rattle.session_objects.specs.Records.{HasCallsBut}
use Rattle.session_objects.proofs.membership.Membership.take_back_ports.Given as goal

abbrev pub invariant-loop-port : goal.invariant-loop-port
invariant-loop-port g l = ((done : List _) × (l.fn.ports ≡ l.ports ++ done))
    × HasCallsBut (ports_out l.self.lists.now l.client (length l.ports)) g.calls l.self.objects.now l.self.database.now l.passes

abbrev pub decreases-loop-port : goal.decreases-loop-port
decreases-loop-port g l = length l.ports
