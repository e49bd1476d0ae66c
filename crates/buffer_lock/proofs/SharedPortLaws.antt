-- Each call by a port to a shared buffer is one of the port's caller.
use Rattle.std.specs.Prelude.{◌≡◌, ℕ, ◌-◌, ◌^◌, ◌≤◌, List, [], ◌∷◌, ◌++◌, Contains, min, Result, Ok, Err, IfOk, IfErr, refl}
use Rattle.std.proofs.Common.{ap, sym, subst, ◌∙◌, ⊎_elim, inr, append-nil}
use Rattle.daq_types.specs.declared.events.Event.{Event}
use Rattle.event.specs.Events.{event_limit}
use Rattle.daq_types.specs.Callers.{entries_by}
use Rattle.daq_types.proofs.CallersLaws.{entries_by-append}
use Rattle.buffer_core.specs.declared.replies.NoSlot.{NoSlot}
use Rattle.buffer_core.specs.declared.replies.SendRefusal.{SendRefusal}
use Rattle.buffer_core.specs.declared.replies.Received.{Received}
use Rattle.buffer_core.specs.declared.entry.BufferEntry.{BufferEntry}
use Rattle.buffer_core.specs.declared.entry.BufferEntry.TheVariants.{Attach, Send, SendInRun, Receive}
use Rattle.buffer_core.specs.Window.{Window, IsWindow}
use Rattle.buffer_core.specs.Calls.{IsReply, window_after, event_after}
use Rattle.buffer_core.specs.Histories.{IsLegal, replay}
use Rattle.buffer_core.proofs.HistoryLaws.{replay-push}
use Rattle.buffer_core.specs.Ports.{Access, BufferIdentity, GotEvent, PortCalled, Calls, Receives, IsNewNumber, knowing, IsGivenAt, got_after, slots_got, GivesSound, IsSmallBuf, IsSendFault, IsRunSendFault}
use Rattle.buffer_core.specs.CallersView.{given_by, given_in, taken_back_in}
use Rattle.buffer_core.proofs.TakenBack.{CallsNext, new_number}
use Rattle.buffer_core.proofs.PortCalls.{calls, receives, gives, gives_whole, gets_few, size_stays}
use Rattle.turn_lock.specs.History.{Appends}
use Rattle.buffer_lock.specs.SharedPorts.{ported_by, access_to}
use Rattle.buffer_lock.proofs.ForeignLaws.{given_stays, taken_back_stays, newly_taken}
use Rattle.buffer_lock.proofs.SharedLaws.{event_still}
use Rattle.buffer_lock.proofs.SendFaults.{send_fault, run_send_fault}

-- the last call of a legal history, and what came before it
legal_parts : (w : Window) (h : List (ℕ × BufferEntry)) (n : ℕ) (e : BufferEntry) → IsLegal w (h ++ (n, e) ∷ []) → IsLegal w h × IsReply (replay w h) e
legal_parts w [] n e legal = (tt, legal.0)
legal_parts w (x ∷ xs) n e legal = let r = legal_parts (window_after w x.1) xs n e legal.1 in ((legal.0, r.0), r.1)

size_replay : (w : Window) (h : List (ℕ × BufferEntry)) → (replay w h).size ≡ w.size
size_replay w [] = refl
size_replay w (x ∷ xs) = size_replay (window_after w x.1) xs ∙ size_stays w x.1

-- the step itself, once its caller has seen all that came before
at_step : (n : ℕ) (first : Window) (seen after : List (ℕ × BufferEntry)) (e : BufferEntry) → IsWindow first → (a : Appends n e seen after) → IsLegal first after
    → CallsNext first n (seen ++ a.others) after e
at_step n first seen after e opens a legal =
    let earlier : List (ℕ × BufferEntry) = seen ++ a.others in
    let parts : IsLegal first earlier × IsReply (replay first earlier) e = legal_parts first earlier n e (subst (IsLegal first) a.list legal) in
    record { opens = opens; legal = parts.0; reply = parts.1; history = a.list }

abbrev alone : Window → BufferIdentity
alone w = record { opened = w; ports = 1; numbers = [] }

-- what came in between changes nothing for the caller, but that it may be known of more of its clients that they were
-- taken back
called_since : (n : ℕ) (first : Window) (seen others : List (ℕ × BufferEntry)) (b : Access) (e : BufferEntry) (got : List GotEvent) → entries_by n others ≡ []
    → PortCalled (ported_by n first (seen ++ others)) b e got → PortCalled (ported_by n first seen) b e got
called_since n first seen others b e got foreign call =
    let own : entries_by n (seen ++ others) ≡ entries_by n seen =
    entries_by-append n seen others ∙ (ap (λ (l : List BufferEntry). entries_by n seen ++ l) foreign ∙ append-nil (entries_by n seen)) in
    record {
      buffer = call.buffer;
      caller = call.caller;
      size = call.size ∙ (size_replay first (seen ++ others) ∙ sym (size_replay first seen));
      own = call.own ∙ ap (λ (l : List BufferEntry). l ++ e ∷ []) own;
      got_is = call.got_is;
      still_known = λ k had. call.still_known k (taken_back_stays n 0 k seen others had);
      newly_known = λ k has. ⊎_elim (λ before. newly_taken n k seen others foreign before)
          (λ given. inr (given.0, subst (λ (l : List BufferEntry). IsGivenAt l k given.0) own given.1))
          (call.newly_known k has);
    }

-- the same call, told of this buffer
told_of : (buffer : BufferIdentity) (a b : Access) (e : BufferEntry) (got : List GotEvent) → PortCalled a b e got → PortCalled (record a { buffer = buffer }) (record b { buffer = buffer }) e got
told_of buffer a b e got call = record {
  buffer = refl;
  caller = call.caller;
  size = call.size;
  own = call.own;
  got_is = call.got_is;
  still_known = call.still_known;
  newly_known = call.newly_known;
}

module _ (n : ℕ) (first : Window) (seen after : List (ℕ × BufferEntry)) where
  -- the refusals of a send, and of one in a run
  pub shared_refused : (stated : ℕ) (e : Event) (reply : Result ℕ SendRefusal) → IsWindow first → Appends n (Send stated e reply) seen after → IsLegal first after
      → IfErr reply (IsSendFault (ported_by n first seen).size stated e)
  shared_refused stated e reply opens a legal =
      let step = at_step n first seen after (Send stated e reply) opens a legal in
      let earlier : List (ℕ × BufferEntry) = seen ++ a.others in
      let size : (replay first earlier).size ≡ (replay first seen).size = size_replay first earlier ∙ sym (size_replay first seen) in
      subst (λ (s : ℕ). IfErr reply (IsSendFault s stated e)) size (send_fault (replay first earlier) stated e reply step.reply)

  pub shared_refused_in_run : (start stated : ℕ) (e : Event) (reply : Result ℕ SendRefusal) → IsWindow first → Appends n (SendInRun start stated e reply) seen after → IsLegal first after
      → IfErr reply (IsRunSendFault (ported_by n first seen).size stated e)
  shared_refused_in_run start stated e reply opens a legal =
      let step = at_step n first seen after (SendInRun start stated e reply) opens a legal in
      let earlier : List (ℕ × BufferEntry) = seen ++ a.others in
      let size : (replay first earlier).size ≡ (replay first seen).size = size_replay first earlier ∙ sym (size_replay first seen) in
      subst (λ (s : ℕ). IfErr reply (IsRunSendFault s stated e)) size (run_send_fault (replay first earlier) start stated e reply step.reply)

module _ (n n' : ℕ) (first : Window) (seen after : List (ℕ × BufferEntry)) where
  -- a call that gives no event
  pub shared_calls : (buffer : BufferIdentity) (e : BufferEntry) → ((w : Window) → given_by w e ≡ []) → IsWindow first → n' ≡ n → Appends n e seen after → IsLegal first after
      → Calls (access_to buffer (ported_by n first seen)) (access_to buffer (ported_by n' first after)) e
  shared_calls buffer e none opens same a legal =
      let step = at_step n first seen after e opens a legal in
      let earlier : List (ℕ × BufferEntry) = seen ++ a.others in
      let call = called_since n first seen a.others (ported_by n first after) e (given_in n first earlier) a.foreign
      (calls (alone first) n earlier after e step (none (replay first earlier))) in
      subst (λ (m : ℕ). PortCalled (access_to buffer (ported_by n first seen)) (access_to buffer (ported_by m first after)) e (given_in n first seen)) (sym same)
      (told_of buffer (ported_by n first seen) (ported_by n first after) e (given_in n first seen)
      (subst (λ (gs : List GotEvent). PortCalled (ported_by n first seen) (ported_by n first after) e gs) (given_stays n first seen a.others a.foreign) call))

  number_since : (name : List ℕ) (reply : Result ℕ NoSlot) (earlier : List (ℕ × BufferEntry)) → entries_by n earlier ≡ entries_by n seen
      → IfOk reply (λ client. (call : ℕ) → IsGivenAt (entries_by n earlier) call client → Contains (taken_back_in n 0 after) call)
      → IfOk reply (IsNewNumber (knowing (ported_by n first seen) (ported_by n first after)))
  number_since name (Err r) earlier own is = tt
  number_since name (Ok client) earlier own is = λ call given. is call (subst (λ (l : List BufferEntry). IsGivenAt l call client) (sym own) given)

  -- an attach
  pub shared_number : (name : List ℕ) (reply : Result ℕ NoSlot) → IsWindow first → n' ≡ n → Appends n (Attach name reply) seen after → IsLegal first after
      → IfOk reply (IsNewNumber (knowing (ported_by n first seen) (ported_by n' first after)))
  shared_number name reply opens same a legal =
      let step = at_step n first seen after (Attach name reply) opens a legal in
      let earlier : List (ℕ × BufferEntry) = seen ++ a.others in
      let own : entries_by n earlier ≡ entries_by n seen =
      entries_by-append n seen a.others ∙ (ap (λ (l : List BufferEntry). entries_by n seen ++ l) a.foreign ∙ append-nil (entries_by n seen)) in
      subst (λ (m : ℕ). IfOk reply (IsNewNumber (knowing (ported_by n first seen) (ported_by m first after)))) (sym same)
      (number_since name reply earlier own (new_number first n earlier after name reply step))

  -- a receive, after which the receiver holds the event that was kept at the place
  module _ (client room : ℕ) (reply : Received) (held held' : Event) (opens : IsWindow first) (same : n' ≡ n) (a : Appends n (Receive client room reply) seen after) (legal : IsLegal first after) (event : held' ≡ event_after held (replay first after) reply) where
    earlier : List (ℕ × BufferEntry)
    earlier = seen ++ a.others

    step : CallsNext first n (seen ++ a.others) after (Receive client room reply)
    step = at_step n first seen after (Receive client room reply) opens a legal

    event_then : held' ≡ event_after held (replay first (seen ++ a.others)) reply
    event_then = event ∙ (ap (λ (w : Window). event_after held w reply) (ap (replay first) a.list ∙ replay-push first (seen ++ a.others) n (Receive client room reply))
        ∙ sym (event_still held (replay first (seen ++ a.others)) client room reply))

    pub shared_receives : (buffer : BufferIdentity) → Receives (access_to buffer (ported_by n first seen)) (access_to buffer (ported_by n' first after)) client room reply held'
    shared_receives buffer =
        let call = called_since n first seen a.others (ported_by n first after) (Receive client room reply) (got_after (given_in n first (seen ++ a.others)) client reply held') a.foreign
        (receives (alone first) n (seen ++ a.others) after client room reply step held held' event_then) in
        subst (λ (m : ℕ). PortCalled (access_to buffer (ported_by n first seen)) (access_to buffer (ported_by m first after)) (Receive client room reply) (got_after (given_in n first seen) client reply held')) (sym same)
        (told_of buffer (ported_by n first seen) (ported_by n first after) (Receive client room reply) (got_after (given_in n first seen) client reply held')
        (subst (λ (gs : List GotEvent). PortCalled (ported_by n first seen) (ported_by n first after) (Receive client room reply) (got_after gs client reply held')) (given_stays n first seen a.others a.foreign) call))

    pub shared_sound : GivesSound reply held'
    shared_sound = (gives first n (seen ++ a.others) after client room reply step held held' event_then).sound

    pub shared_whole : min event_limit ((replay first seen).size - 24) ≤ room → ¬ (IsSmallBuf reply)
    shared_whole enough = gives_whole first n (seen ++ a.others) after client room reply step
        (let size : (replay first (seen ++ a.others)).size ≡ (replay first seen).size = size_replay first (seen ++ a.others) ∙ sym (size_replay first seen) in
        subst (λ (s : ℕ). min event_limit (s - 24) ≤ room) (sym size) enough)

    pub shared_few : (number : ℕ) → slots_got number (ported_by n' first after).got ≤ 2 ^ 62
    shared_few number = subst (λ (m : ℕ). slots_got number (ported_by m first after).got ≤ 2 ^ 62) (sym same)
        (gets_few first n (seen ++ a.others) after (Receive client room reply) step number)
