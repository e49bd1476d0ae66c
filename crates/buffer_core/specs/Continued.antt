-- Histories that go on, and the numbers in replies.
use Rattle.std.specs.Prelude.{◌≡◌, ℕ, List, [], ◌∷◌, ◌++◌, slice_get, Some, Ok, ⊤}
use Rattle.daq_types.specs.declared.events.Event.{Event}
use Rattle.buffer_core.specs.declared.replies.Received.TheVariants.{Got}
use Rattle.buffer_core.specs.declared.entry.BufferEntry.{BufferEntry}
use Rattle.buffer_core.specs.declared.entry.BufferEntry.TheVariants.{Send, SendInRun, Begin, Pause, Resume, End, Accepted}
use Rattle.buffer_core.specs.Window.{Sent, Window}
use Rattle.buffer_core.specs.Calls.{event_after}
use Rattle.buffer_core.specs.Points.{News, Taken, news_of}

abbrev pub added_by : News → List Sent
added_by (Taken s) = s ∷ []
added_by news = []

-- the events of the accepted sends among these entries, in order
abbrev pub sent_in : (entries : List (ℕ × BufferEntry)) → List Sent
sent_in [] = []
sent_in (e ∷ es) = added_by (news_of e.1) ++ sent_in es

-- where this entry replies how many events were accepted so far, the number is this one
abbrev pub RepliesCount : (count : ℕ) → BufferEntry → Type 0
RepliesCount count (Send stated e (Ok n)) = n ≡ count
RepliesCount count (SendInRun start stated e (Ok n)) = n ≡ count
RepliesCount count (Begin start (Ok n)) = n ≡ count
RepliesCount count (Pause start (Ok n)) = n ≡ count
RepliesCount count (Resume start (Ok n)) = n ≡ count
RepliesCount count (End start (Ok n)) = n ≡ count
RepliesCount count (Accepted n) = n ≡ count
RepliesCount count entry = ⊤

-- a buffer with this window gives a receiver that gets this place the event that stands there among these, whatever
-- the receiver held
pub record GivesSent (w : Window) (ss : List Sent) (place start : ℕ) : Type 0 where
  pub sent : Sent
  pub is : slice_get ss place ≡ Some sent
  pub started : sent.start ≡ start
  pub given : (held : Event) → event_after held w (Got place start) ≡ sent.event
