-- Which replies a send of a built event may have.
use Rattle.std.specs.Prelude.{◌≡◌, ◌≤◌, ◌<◌, ◌==◌, ◌&&◌, ℕ, true, false, length, Result, Ok, Err, IfErr, nat_le}
use Rattle.std.proofs.Common.{arith}
use Rattle.std.proofs.lemmas.Bool.Decides.{nat_tests}
use Rattle.daq_types.specs.declared.events.Event.{Event}
use Rattle.event.specs.Events.{slot_size, slot_of_length, is_reserved, event_limit}
use Rattle.buffer_core.specs.declared.replies.SendRefusal.{SendRefusal}
use Rattle.buffer_core.specs.declared.replies.SendRefusal.TheVariants.{NotRunning, BadSize, ReservedId, TooLarge, Spent, Full}
use Rattle.buffer_core.specs.Ports.{IsRunSendFault}
use Rattle.event_builder.specs.BuilderSends.{IsWaitReply}

-- the id of a front-end is none of the reserved ones
pub free_id : (id : ℕ) → id < 32768 → is_reserved id ≡ false
free_id id below = grind (arith, nat_tests)

size_stated : (stated given limit : ℕ) → stated ≡ given → given ≤ limit → ((stated == given) && nat_le stated limit) ≡ true
size_stated stated given limit is within = grind (arith, nat_tests)

-- a shorter event takes no larger slot
pub slot_within : (n m : ℕ) → n ≤ m → slot_of_length n ≤ slot_of_length m
unfolding slot_of_length
slot_within n m le = omega arith

pub wait_reply : (size stated : ℕ) (e : Event) (reply : Result ℕ SendRefusal) → IfErr reply (IsRunSendFault size stated e) → stated ≡ length e.body → length e.body ≤ event_limit → is_reserved e.id ≡ false → slot_size e ≤ size → IsWaitReply reply
wait_reply size stated e (Ok place) fault is small free fits = tt
wait_reply size stated e (Err (NotRunning gate)) fault is small free fits = tt
wait_reply size stated e (Err (BadSize s given)) fault is small free fits =
    let good : ((stated == length e.body) && nat_le stated event_limit) ≡ true = size_stated stated (length e.body) event_limit is small in
    absurd (cc (good, fault.2))
wait_reply size stated e (Err (ReservedId id)) fault is small free fits = absurd (cc (fault.1, free))
wait_reply size stated e (Err (TooLarge slot whole)) fault is small free fits = absurd (omega (arith, fault.2))
wait_reply size stated e (Err (Spent total)) fault is small free fits = tt
wait_reply size stated e (Err (Full client place)) fault is small free fits = tt
