-- The laws of the histories of a buffer, as the laws of one caller's calls take them.
use Rattle.std.specs.Prelude.{◌≡◌, ◌≢◌, ℕ, ◌+◌, List, ◌∷◌, ◌++◌, Some, None, Ok, Err}
use Rattle.daq_types.specs.declared.events.Event.{Event}
use Rattle.buffer_core.specs.declared.gate.RunGate.{RunGate}
use Rattle.buffer_core.specs.declared.replies.Received.TheVariants.{Got, Empty}
use Rattle.buffer_core.specs.declared.replies.RequestRefusal.{RequestRefusal}
use Rattle.buffer_core.specs.declared.entry.BufferEntry.{BufferEntry}
use Rattle.buffer_core.specs.declared.entry.BufferEntry.TheVariants.{Attach, Cancel, SendInRun, Receive}
use Rattle.buffer_core.specs.Window.{opening}
use Rattle.buffer_core.specs.Histories.{History, IsLegal, replay}
use Rattle.buffer_core.specs.Points.{Life, life_at, request_at, sent, count_at, past_of}
use Rattle.buffer_core.specs.Delivered.{Delivers}
use Rattle.buffer_core.specs.Runs.{KeepsRuns, ended_at, segment, events_between}
use Rattle.buffer_core.specs.Continued.{sent_in, RepliesCount, GivesSent}
use Rattle.buffer_core.specs.Readers.{KeepsLife, HasReadBelow, ReadsAll, places_got, places_of, among, wanted}

pub record BufferLaws : Type 0 where
  pub delivers : (size : ℕ) → (h : History) → IsLegal (opening size) h → Delivers size h
  pub ordered : (size : ℕ) → (h : History) → IsLegal (opening size) h → KeepsRuns h
  pub events : (h more : History) → sent (past_of (h ++ more)) ≡ sent (past_of h) ++ sent_in more
  pub run : (size : ℕ) → (h more : History) → (start place : ℕ) → IsLegal (opening size) (h ++ more) → ended_at (past_of h) start ≡ Some place → segment (h ++ more) start ≡ segment h start
  pub numbers : (size : ℕ) → (before after : History) → (caller : ℕ) → (name : List ℕ) → (client : ℕ) → IsLegal (opening size) (before ++ (caller, Attach name (Ok client)) ∷ after) → life_at (past_of before) client ≡ None
  pub cancels : (size : ℕ) → (before after : History) → (caller client number : ℕ) → (refusal : RequestRefusal) → (life : Life) → IsLegal (opening size) (before ++ (caller, Cancel client number (Err refusal)) ∷ after) →
      life_at (past_of before) client ≡ Some life → request_at (past_of before) client number ≡ None
  pub sends : (size : ℕ) → (before after : History) → (caller start stated place : ℕ) → (event : Event) → IsLegal (opening size) (before ++ (caller, SendInRun start stated event (Ok place)) ∷ after) → start ≢ 0
  pub counts : (size : ℕ) → (before after : History) → (caller : ℕ) → (entry : BufferEntry) → IsLegal (opening size) (before ++ (caller, entry) ∷ after) → RepliesCount (count_at (past_of before)) entry
  pub gives : (size : ℕ) → (before after : History) → (caller client room place start : ℕ) → IsLegal (opening size) (before ++ (caller, Receive client room (Got place start)) ∷ after) →
      GivesSent (replay (opening size) before) (sent (past_of before)) place start
  pub read_got : (size : ℕ) → (before after : History) → (caller client room place start : ℕ) → IsLegal (opening size) (before ++ (caller, Receive client room (Got place start)) ∷ after) → KeepsLife client after →
      HasReadBelow (before ++ (caller, Receive client room (Got place start)) ∷ after) client (place + 1)
  pub read_all : (size : ℕ) → (before after : History) → (caller client room : ℕ) → (gate : RunGate) → (last : ℕ) → IsLegal (opening size) (before ++ (caller, Receive client room (Empty gate last)) ∷ after) → KeepsLife client after →
      HasReadBelow (before ++ (caller, Receive client room (Empty gate last)) ∷ after) client (count_at (past_of before))
  pub between : (size : ℕ) → (h : History) → (client id mask from to : ℕ) → IsLegal (opening size) h → ReadsAll h client id mask from to →
      among (events_between (Some from) (Some to) (sent (past_of h))) (places_got h client) ≡ places_of (wanted id mask (events_between (Some from) (Some to) (sent (past_of h))))
