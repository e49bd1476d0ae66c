-- How the send of an equipment's event may be refused.
use Rattle.std.specs.Prelude.{◌≡◌, ℕ, ◌≤◌, ◌==◌, ◌&&◌, nat_le, true, false, length, Result, Ok, Err, IfErr}
use Rattle.std.proofs.Common.{arith}
use Rattle.std.proofs.lemmas.Grind.{common_steps}
use Rattle.daq_types.specs.declared.events.Event.{Event}
use Rattle.event.specs.Events.{slot_size, slot_of_length, is_reserved, event_limit}
use Rattle.buffer_core.specs.declared.replies.SendRefusal.{SendRefusal}
use Rattle.buffer_core.specs.declared.replies.SendRefusal.TheVariants.{NotRunning, BadSize, ReservedId, TooLarge, Full, Spent}
use Rattle.buffer_core.specs.Ports.{IsRunSendFault}
use Rattle.front_ends.specs.Fronts.{HasStep}

small_slot : (e : Event) → length e.body ≤ 80 → slot_size e ≤ 104
unfolding slot_of_length
small_slot e small = omega (arith, small)

right_size : (stated : ℕ) (e : Event) → stated ≡ length e.body → length e.body ≤ 80 → ((stated == length e.body) && nat_le stated event_limit) ≡ true
right_size stated e same small = grind (arith, common_steps)

-- an event that is small, states its length, and has an id that is not reserved, is refused for what the buffer is in
pub has_step : (size stated : ℕ) (e : Event) (reply : Result ℕ SendRefusal) → IfErr reply (IsRunSendFault size stated e) → stated ≡ length e.body → length e.body ≤ 80 → is_reserved e.id ≡ false → 104 ≤ size → HasStep reply
has_step size stated e (Ok place) fault same small free room = tt
has_step size stated e (Err (NotRunning gate)) fault same small free room = tt
has_step size stated e (Err (BadSize s given)) fault same small free room = let right = right_size stated e same small in absurd (cc (right, fault.2))
has_step size stated e (Err (ReservedId id)) fault same small free room = absurd (cc (free, fault.1))
has_step size stated e (Err (TooLarge slot whole)) fault same small free room = absurd (omega (arith, small_slot e small, fault.2, room))
has_step size stated e (Err (Full client place)) fault same small free room = tt
has_step size stated e (Err (Spent total)) fault same small free room = tt
