-- What a caller's view of a history is once the caller made a call more.
use Rattle.std.specs.Prelude.{◌≡◌, ℕ, ◌+◌, ◌-◌, ◌^◌, ◌≤◌, ◌==◌, Bool, false, if◌then◌else◌, List, [], ◌∷◌, ◌++◌, length, Contains, min, Option, unwrap_or, Ok, Err}
use Rattle.std.specs.Option.{option_map}
use Rattle.std.proofs.Common.{ap, sym, subst, ◌∙◌, inl, refl, eq-eqb, append-nil, append_assoc}
use Rattle.daq_types.specs.declared.events.Event.{Event}
use Rattle.event.specs.Events.{is_reserved, event_limit}
use Rattle.daq_types.specs.Callers.{entries_by}
use Rattle.daq_types.proofs.CallersLaws.{entries_by-own}
use Rattle.buffer_core.specs.declared.replies.Received.{Received}
use Rattle.buffer_core.specs.declared.replies.Received.TheVariants.{Got, Empty, NoClient as NoReader, SmallBuf}
use Rattle.buffer_core.specs.declared.entry.BufferEntry.{BufferEntry}
use Rattle.buffer_core.specs.declared.entry.BufferEntry.TheVariants.{Attach, Detach, Request, Cancel, Send, SendInRun, Receive, Begin, Pause, Resume, End, Level, Accepted}
use Rattle.buffer_core.specs.Slots.{slot_at}
use Rattle.buffer_core.specs.Window.{Window, Sent, IsWindow, IsKeepable}
use Rattle.buffer_core.specs.Calls.{IsReply, window_after, event_after}
use Rattle.buffer_core.specs.Histories.{IsLegal, replay}
use Rattle.buffer_core.specs.Ports.{BufferIdentity, GotEvent, PortCalled, Calls, Receives, got_after, slots_got, GivesSound, IsSmallBuf}
use Rattle.buffer_core.specs.CallersView.{access_in, given_by, given_in, taken_back_in}
use Rattle.buffer_core.proofs.HistoryLaws.{replay-push, legal_push, window_replays, room_enough}
use Rattle.buffer_core.proofs.GotLaws.{IsGot, got_is, given_is, slots_few}
use Rattle.buffer_core.proofs.TakenBack.{CallsNext, taken_back_next}

pub given_in-push : (by : ℕ) (w : Window) (h : List (ℕ × BufferEntry)) (e : BufferEntry) → given_in by w (h ++ (by, e) ∷ []) ≡ given_in by w h ++ given_by (replay w h) e
given_in-push by w [] e = append-nil (if by == by then given_by w e else []) ∙ ap (λ (b : Bool). if b then given_by w e else []) (eq-eqb by by refl)
given_in-push by w (x ∷ xs) e =
    let first : List GotEvent = if x.0 == by then given_by w x.1 else [] in
    let w' : Window = window_after w x.1 in
    ap (λ (gs : List GotEvent). first ++ gs) (given_in-push by w' xs e) ∙ sym (append_assoc first (given_in by w' xs) (given_by (replay w' xs) e))

-- no call changes the size
pub size_stays : (w : Window) (entry : BufferEntry) → (window_after w entry).size ≡ w.size
size_stays w (Attach name (Ok n)) = refl
size_stays w (Attach name (Err r)) = refl
size_stays w (Detach client (Ok u)) = refl
size_stays w (Detach client (Err r)) = refl
size_stays w (Request client id mask kind (Ok n)) = refl
size_stays w (Request client id mask kind (Err r)) = refl
size_stays w (Cancel client request (Ok u)) = refl
size_stays w (Cancel client request (Err r)) = refl
size_stays w (Send stated e (Ok n)) = refl
size_stays w (Send stated e (Err r)) = refl
size_stays w (SendInRun start stated e (Ok n)) = refl
size_stays w (SendInRun start stated e (Err r)) = refl
size_stays w (Receive client room (Got place start)) = refl
size_stays w (Receive client room (Empty gate last)) = refl
size_stays w (Receive client room NoReader) = refl
size_stays w (Receive client room (SmallBuf need)) = refl
size_stays w (Begin start (Ok n)) = refl
size_stays w (Begin start (Err r)) = refl
size_stays w (Pause start (Ok n)) = refl
size_stays w (Pause start (Err r)) = refl
size_stays w (Resume start (Ok n)) = refl
size_stays w (Resume start (Err r)) = refl
size_stays w (End start (Ok n)) = refl
size_stays w (End start (Err r)) = refl
size_stays w (Level reply) = refl
size_stays w (Accepted reply) = refl

-- where a receive gives an event, it is one that is kept
pub record IsGiving (w : Window) (client : ℕ) (reply : Received) (held held' : Event) : Type 0 where
  pub got : (got : List GotEvent) → got ++ given_by w (Receive client 0 reply) ≡ got_after got client reply held'
  pub sound : GivesSound reply held'

giving : (w : Window) (client room : ℕ) (reply : Received) (held held' : Event) → IsWindow w → IsReply w (Receive client room reply) → held' ≡ event_after held w reply → IsGiving w client reply held held'
giving w client room (Got place start) held held' is reply after =
    let got : IsGot w place (slot_at w.clients client) = got_is w room (slot_at w.clients client) place start reply in
    let event : held' ≡ got.sent.event = after ∙ ap (λ (o : Option Sent). unwrap_or (option_map (λ (x : Sent). x.event) o) held) got.kept in
    let keepable : IsKeepable got.sent = is.keepable got.index got.sent got.is in
    record {
      got = λ gs. ap (λ (more : List GotEvent). gs ++ more) (given_is w client 0 place start got.sent got.kept ∙ ap (λ (e : Event). record { client = client; place = place; start = start; event = e } ∷ []) (sym event));
      sound = record {
        small = subst (λ (e : Event). length e.body ≤ event_limit) (sym event) keepable.small;
        free = subst (λ (e : Event). is_reserved e.id ≡ false) (sym event) keepable.free;
      };
    }
giving w client room (Empty gate last) held held' is reply after = record { got = append-nil; sound = tt }
giving w client room NoReader held held' is reply after = record { got = append-nil; sound = tt }
giving w client room (SmallBuf need) held held' is reply after = record { got = append-nil; sound = tt }

-- a receive with room for the largest event that the buffer can keep never answers SmallBuf
small_buf : (w : Window) (client room : ℕ) (reply : Received) → IsWindow w → min event_limit (w.size - 24) ≤ room → IsReply w (Receive client room reply) → ¬ (IsSmallBuf reply)
small_buf w client room (Got place start) is enough reply small = small
small_buf w client room (Empty gate last) is enough reply small = small
small_buf w client room NoReader is enough reply small = small
small_buf w client room (SmallBuf need) is enough reply small = room_enough w client room need is enough reply

module _ (first : Window) (by : ℕ) (h h' : List (ℕ × BufferEntry)) where
  -- each client gets events of at most 2^62 bytes
  pub gets_few : (e : BufferEntry) → CallsNext first by h h' e → (client : ℕ) → slots_got client (given_in by first h') ≤ 2 ^ 62
  gets_few e next client =
      let legal : IsLegal first h' = subst (IsLegal first) (sym next.history) (legal_push first h by e next.legal next.reply) in
      slots_few by client first h' next.opens legal (window_replays first h' next.opens legal)

  module _ (client room : ℕ) (reply : Received) (next : CallsNext first by h h' (Receive client room reply)) where
    window : IsWindow (replay first h)
    window = window_replays first h next.opens next.legal

    pub gives : (held held' : Event) → held' ≡ event_after held (replay first h) reply → IsGiving (replay first h) client reply held held'
    gives held held' after = giving (replay first h) client room reply held held' window next.reply after

    pub gives_whole : min event_limit ((replay first h).size - 24) ≤ room → ¬ (IsSmallBuf reply)
    gives_whole enough = small_buf (replay first h) client room reply window enough next.reply

module _ (buffer : BufferIdentity) (by : ℕ) (h h' : List (ℕ × BufferEntry)) where
  -- each call is one of its caller
  pub called : (e : BufferEntry) → CallsNext buffer.opened by h h' e
      → PortCalled (access_in buffer by h) (access_in buffer by h') e (given_in by buffer.opened h ++ given_by (replay buffer.opened h) e)
  called e next =
      let same : taken_back_in by 0 h' ≡ taken_back_in by 0 h = taken_back_next buffer.opened by h h' e next in
      record {
        buffer = refl;
        caller = refl;
        size = ap (λ (l : List (ℕ × BufferEntry)). (replay buffer.opened l).size) next.history
            ∙ (ap (λ (w : Window). w.size) (replay-push buffer.opened h by e) ∙ size_stays (replay buffer.opened h) e);
        own = ap (entries_by by) next.history ∙ entries_by-own by h e;
        got_is = ap (given_in by buffer.opened) next.history ∙ given_in-push by buffer.opened h e;
        still_known = λ call had. subst (λ (ns : List ℕ). Contains ns call) (sym same) had;
        newly_known = λ call has. inl (subst (λ (ns : List ℕ). Contains ns call) same has);
      }

  -- a call that gives no event
  pub calls : (e : BufferEntry) → CallsNext buffer.opened by h h' e → given_by (replay buffer.opened h) e ≡ []
      → Calls (access_in buffer by h) (access_in buffer by h') e
  calls e next none =
      subst (PortCalled (access_in buffer by h) (access_in buffer by h') e)
      (ap (λ (gs : List GotEvent). given_in by buffer.opened h ++ gs) none ∙ append-nil (given_in by buffer.opened h)) (called e next)

  -- a receive
  pub receives : (client room : ℕ) (reply : Received) → CallsNext buffer.opened by h h' (Receive client room reply)
      → (held held' : Event) → held' ≡ event_after held (replay buffer.opened h) reply
      → Receives (access_in buffer by h) (access_in buffer by h') client room reply held'
  receives client room reply next held held' after =
      let giving' : IsGiving (replay buffer.opened h) client reply held held' = gives buffer.opened by h h' client room reply next held held' after in
      subst (PortCalled (access_in buffer by h) (access_in buffer by h') (Receive client room reply))
      (giving'.got (given_in by buffer.opened h)) (called (Receive client room reply) next)
