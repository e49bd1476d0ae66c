use Rattle.std.proofs.Common.{◌≡◌, ◌≤◌, arith}
use Rattle.event.specs.Events.{slot_of_length}
use Rattle.member_rows.proofs.builder_tests.limit_of.Goals as goal

pub returns-in-SmallLimit-clause-slot : goal.returns-in-SmallLimit-clause-slot
unfolding slot_of_length
returns-in-SmallLimit-clause-slot c = omega arith

pub returns-in_default : goal.returns-in_default
unfolding slot_of_length
returns-in_default c = record { least = omega arith; most = omega arith; slot = omega arith }
