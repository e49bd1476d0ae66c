-- So far the client has ports to the first buffers.
use Rattle.std.proofs.Common.{◌≡◌, ◌+◌, length, map, take}
use Rattle.buffer_lock.specs.SharedPorts.{access_by}
use Rattle.session_objects.specs.Kept.{ports_out, HasFreshBut}
use Rattle.session_objects.specs.Members.{ring_window, new_ports}
use Rattle.session_objects.proofs.membership.Membership.take_ports.Given as goal

abbrev pub invariant-loop-number : goal.invariant-loop-number
invariant-loop-number g l = (length l.ports ≡ l.number)
    × HasFreshBut (ports_out l.self.lists.now l.client l.number) l.self.objects.now l.self.database.now l.passes
    × (map (access_by ring_window) l.ports ≡ new_ports (take l.number l.self.objects.now.buffers.items) (l.client + 1))
