-- A refusal of a send is one that the event and the size decide, where these decide it.
use Rattle.std.specs.Prelude.{◌≡◌, ℕ, ◌+◌, ◌^◌, ◌==◌, ◌&&◌, nat_le, nat_lt, if◌then◌else◌, length, Option, Some, None, Result, Ok, Err, IfErr, refl}
use Rattle.std.proofs.Common.{sym, subst}
use Rattle.std.proofs.lemmas.Bool.{ltb-true}
use Rattle.daq_types.specs.declared.events.Event.{Event}
use Rattle.event.specs.Events.{slot_size, is_reserved, event_limit}
use Rattle.buffer_core.specs.declared.replies.SendRefusal.{SendRefusal}
use Rattle.buffer_core.specs.declared.replies.SendRefusal.TheVariants.{NotRunning, BadSize, ReservedId, TooLarge, Spent, Full}
use Rattle.buffer_core.proofs.SlotLaws.{split}
use Rattle.buffer_core.specs.Window.{Window}
use Rattle.buffer_core.specs.Calls.{full_reply, room_reply, spent_reply, size_reply, id_reply, send_reply, is_running, send_in_run_reply}
use Rattle.buffer_core.specs.Ports.{IsSendFault, IsRunSendFault}

module _ (w : Window) (stated : ℕ) (e : Event) where
  full_fault : (owed : Option (ℕ × ℕ)) (accepted : ℕ) → IfErr (full_reply owed accepted) (IsSendFault w.size stated e)
  full_fault None accepted = tt
  full_fault (Some o) accepted = tt

  room_fault : IfErr (room_reply w e) (IsSendFault w.size stated e)
  room_fault = full_fault _ _

  spent_fault : IfErr (spent_reply w e) (IsSendFault w.size stated e)
  spent_fault = split (nat_lt (2 ^ 62) (w.total + slot_size e)) (λ b. IfErr (if b then Err (Spent w.total) else room_reply w e) (IsSendFault w.size stated e))
      (λ is. tt)
      (λ is. room_fault)

  size_fault : IfErr (size_reply w e) (IsSendFault w.size stated e)
  size_fault = split (nat_lt w.size (slot_size e)) (λ b. IfErr (if b then Err (TooLarge (slot_size e) w.size) else spent_reply w e) (IsSendFault w.size stated e))
      (λ is. (refl, refl, ltb-true w.size (slot_size e) is))
      (λ is. spent_fault)

  id_fault : IfErr (id_reply w e) (IsSendFault w.size stated e)
  id_fault = split (is_reserved e.id) (λ b. IfErr (if b then Err (ReservedId e.id) else size_reply w e) (IsSendFault w.size stated e))
      (λ is. (refl, is))
      (λ is. size_fault)

  any_fault : IfErr (send_reply w stated e) (IsSendFault w.size stated e)
  any_fault = split ((stated == length e.body) && nat_le stated event_limit) (λ b. IfErr (if b then id_reply w e else Err (BadSize stated (length e.body))) (IsSendFault w.size stated e))
      (λ is. id_fault)
      (λ is. (refl, refl, is))

  pub send_fault : (reply : Result ℕ SendRefusal) → reply ≡ send_reply w stated e → IfErr reply (IsSendFault w.size stated e)
  send_fault reply is = subst (λ (r : Result ℕ SendRefusal). IfErr r (IsSendFault w.size stated e)) (sym is) any_fault

  in_run : (reply : Result ℕ SendRefusal) → IfErr reply (IsSendFault w.size stated e) → IfErr reply (IsRunSendFault w.size stated e)
  in_run (Ok place) fault = tt
  in_run (Err (NotRunning gate)) fault = tt
  in_run (Err (BadSize s given)) fault = fault
  in_run (Err (ReservedId id)) fault = fault
  in_run (Err (TooLarge slot whole)) fault = fault
  in_run (Err (Spent total)) fault = fault
  in_run (Err (Full client place)) fault = fault

pub run_send_fault : (w : Window) (start stated : ℕ) (e : Event) (reply : Result ℕ SendRefusal) → reply ≡ send_in_run_reply w start stated e → IfErr reply (IsRunSendFault w.size stated e)
run_send_fault w start stated e reply is = subst (λ (r : Result ℕ SendRefusal). IfErr r (IsRunSendFault w.size stated e)) (sym is)
    (split (is_running w.gate start) (λ b. IfErr (if b then send_reply w stated e else Err (NotRunning w.gate)) (IsRunSendFault w.size stated e))
    (λ on. in_run w stated e (send_reply w stated e) (any_fault w stated e))
    (λ off. tt))
