-- What a port tells its caller of the buffer's history.
use Rattle.std.specs.Prelude.{◌≡◌, ℕ, ◌==◌, if◌then◌else◌, List, [], ◌∷◌, ◌++◌, slice_get, Some, refl}
use Rattle.std.specs.List.{AllByRecursion}
use Rattle.std.proofs.Common.{ap, sym, ◌∙◌, subst, append_assoc}
use Rattle.daq_types.specs.declared.events.Event.{Event}
use Rattle.event.specs.Held.{blank_event}
use Rattle.buffer_core.specs.declared.replies.Received.TheVariants.{Got, Empty, NoClient as NoReader, SmallBuf}
use Rattle.buffer_core.specs.declared.entry.BufferEntry.{BufferEntry}
use Rattle.buffer_core.specs.declared.entry.BufferEntry.TheVariants.{Attach, Detach, Request, Cancel, Send, SendInRun, Receive, Begin, Pause, Resume, End, Level, Accepted}
use Rattle.buffer_core.proofs.SlotLaws.{split}
use Rattle.buffer_core.specs.Window.{Window, Sent, opening}
use Rattle.buffer_core.specs.Calls.{window_after}
use Rattle.buffer_core.specs.Histories.{IsLegal, replay}
use Rattle.buffer_core.proofs.HistoryLaws.{replay-push}
use Rattle.buffer_core.specs.Points.{sent, past_of}
use Rattle.buffer_core.specs.Continued.{sent_in, GivesSent}
use Rattle.buffer_core.specs.CallersView.{given_by, given_in}
use Rattle.history_laws.specs.BufferLaws.{BufferLaws}
use Rattle.history_laws.specs.OneCaller.{WasSentAt}
use Rattle.history_laws.specs.CallerLaws.{PortTells}
use Rattle.history_laws.proofs.OwnPlaces.{all_join}
use Rattle.history_laws.proofs.GoingOn.{get_front}

given_here : (laws : BufferLaws) (size : ℕ) (before after : List (ℕ × BufferEntry)) (by : ℕ) (e : BufferEntry) → IsLegal (opening size) (before ++ (by, e) ∷ after)
    → AllByRecursion (WasSentAt (before ++ (by, e) ∷ after)) (given_by (replay (opening size) before) e)
given_here laws size before after by (Receive client room (Got place start)) legal =
    let call : ℕ × BufferEntry = (by, Receive client room (Got place start)) in
    let given : GivesSent (replay (opening size) before) (sent (past_of before)) place start = laws.gives size before after by client room place start legal in
    let whole : sent (past_of (before ++ call ∷ after)) ≡ sent (past_of before) ++ sent_in (call ∷ after) = laws.events before (call ∷ after) in
    let there : slice_get (sent (past_of (before ++ call ∷ after))) place ≡ Some given.sent =
    ap (λ (ss : List Sent). slice_get ss place) whole ∙ get_front (sent (past_of before)) (sent_in (call ∷ after)) place given.sent given.is in (
      there
          ∙ (ap (λ (n : ℕ). Some (record { event = given.sent.event; start = n })) given.started
          ∙ ap (λ (e : Event). Some (record { event = e; start = start })) (sym (given.given blank_event))),
      tt,
    )
given_here laws size before after by (Receive client room (Empty gate last)) legal = tt
given_here laws size before after by (Receive client room NoReader) legal = tt
given_here laws size before after by (Receive client room (SmallBuf need)) legal = tt
given_here laws size before after by (Attach name reply) legal = tt
given_here laws size before after by (Detach client reply) legal = tt
given_here laws size before after by (Request client id mask kind reply) legal = tt
given_here laws size before after by (Cancel client number reply) legal = tt
given_here laws size before after by (Send stated e reply) legal = tt
given_here laws size before after by (SendInRun start stated e reply) legal = tt
given_here laws size before after by (Begin start reply) legal = tt
given_here laws size before after by (Pause start reply) legal = tt
given_here laws size before after by (Resume start reply) legal = tt
given_here laws size before after by (End start reply) legal = tt
given_here laws size before after by (Level reply) legal = tt
given_here laws size before after by (Accepted reply) legal = tt

-- what a caller's calls gave was sent in the history
pub given_from : (laws : BufferLaws) (size by : ℕ) (before after : List (ℕ × BufferEntry)) → IsLegal (opening size) (before ++ after)
    → AllByRecursion (WasSentAt (before ++ after)) (given_in by (replay (opening size) before) after)
given_from laws size by before [] legal = tt
given_from laws size by before (x ∷ xs) legal =
    let w : Window = replay (opening size) before in
    let whole : List (ℕ × BufferEntry) = before ++ x ∷ xs in
    let joined : (before ++ x ∷ []) ++ xs ≡ whole = append_assoc before (x ∷ []) xs in
    let rest : AllByRecursion (WasSentAt ((before ++ x ∷ []) ++ xs)) (given_in by (replay (opening size) (before ++ x ∷ [])) xs) =
    given_from laws size by (before ++ x ∷ []) xs (subst (IsLegal (opening size)) (sym joined) legal) in
    let later : AllByRecursion (WasSentAt whole) (given_in by (window_after w x.1) xs) =
    subst (λ (v : Window). AllByRecursion (WasSentAt whole) (given_in by v xs)) (replay-push (opening size) before x.0 x.1)
    (subst (λ (h : List (ℕ × BufferEntry)). AllByRecursion (WasSentAt h) (given_in by (replay (opening size) (before ++ x ∷ [])) xs)) joined rest) in
    all_join (WasSentAt whole) (if x.0 == by then given_by w x.1 else []) (given_in by (window_after w x.1) xs)
    (split (x.0 == by) (λ b. AllByRecursion (WasSentAt whole) (if b then given_by w x.1 else [])) (λ h. given_here laws size before xs x.0 x.1 legal) (λ h. tt))
    later

pub port_tells : BufferLaws → PortTells
port_tells laws size buffer opens history legal caller = record {
  own_is = refl;
  sent_so = subst (λ (w : Window). AllByRecursion (WasSentAt history) (given_in caller w history)) (sym opens) (given_from laws size caller [] history legal);
}
