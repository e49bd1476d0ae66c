-- What the lock tells of a call, in the words of buffers.
use Rattle.std.specs.Prelude.{◌≡◌, ℕ, List, [], ◌∷◌, ◌++◌, refl}
use Rattle.std.proofs.Common.{sym, subst}
use Rattle.daq_types.specs.declared.events.Event.{Event}
use Rattle.buffer_core.specs.declared.replies.Received.{Received}
use Rattle.buffer_core.specs.declared.replies.Received.TheVariants.{Got, Empty, NoClient as NoReader, SmallBuf}
use Rattle.buffer_core.specs.declared.entry.BufferEntry.{BufferEntry}
use Rattle.buffer_core.specs.declared.entry.BufferEntry.TheVariants.{Receive}
use Rattle.buffer_core.specs.Window.{Window, IsWindow}
use Rattle.buffer_core.specs.Calls.{window_after, event_after}
use Rattle.buffer_core.specs.Histories.{IsLegal, replay}
use Rattle.turn_lock.specs.History.{Leads}
use Rattle.buffer_lock.specs.BufferSteps.{StepsWindow}

-- a history of the lock is one of the buffer
pub leads_legal : (w last : Window) (h : List (ℕ × BufferEntry)) → Leads StepsWindow w h last → IsLegal w h
leads_legal w last [] leads = tt
leads_legal w last (x ∷ xs) leads = (leads.1.reply, leads_legal (window_after w x.1) last xs (subst (λ (v : Window). Leads StepsWindow v xs last) leads.1.after_is leads.2))

-- and leads to the window after all its calls
pub leads_replay : (w last : Window) (h : List (ℕ × BufferEntry)) → Leads StepsWindow w h last → last ≡ replay w h
leads_replay w last [] leads = sym leads
leads_replay w last (x ∷ xs) leads = leads_replay (window_after w x.1) last xs (subst (λ (v : Window). Leads StepsWindow v xs last) leads.1.after_is leads.2)

-- where there was a call, the first window is one
first_is : (w last : Window) (h : List (ℕ × BufferEntry)) (n : ℕ) (e : BufferEntry) → Leads StepsWindow w (h ++ (n, e) ∷ []) last → IsWindow w
first_is w last [] n e leads = leads.1.window
first_is w last (x ∷ xs) n e leads = leads.1.window

pub opens_window : (w last : Window) (seen h : List (ℕ × BufferEntry)) (n : ℕ) (e : BufferEntry) → seen ≡ h ++ (n, e) ∷ [] → Leads StepsWindow w seen last → IsWindow w
opens_window w last seen h n e is leads = first_is w last h n e (subst (λ (l : List (ℕ × BufferEntry)). Leads StepsWindow w l last) is leads)

-- a receive leaves the kept events as they were, so the event that it gives is read off the window after it
pub event_still : (held : Event) (w : Window) (client room : ℕ) (reply : Received) → event_after held w reply ≡ event_after held (window_after w (Receive client room reply)) reply
event_still held w client room (Got place start) = refl
event_still held w client room (Empty gate last) = refl
event_still held w client room NoReader = refl
event_still held w client room (SmallBuf need) = refl
