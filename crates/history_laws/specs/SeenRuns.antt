-- A run that another caller begins and ends, as a client that reads it sees it: by the start number of the events that it got.
use Rattle.std.specs.Prelude.{◌≡◌, ◌≢◌, ℕ, false, List, [], ◌∷◌, ◌++◌, Ok}
use Rattle.std.specs.List.{AllByRecursion}
use Rattle.daq_types.specs.Callers.{entries_by}
use Rattle.daq_types.specs.declared.runs.Kind.TheVariants.{All}
use Rattle.buffer_core.specs.declared.gate.RunGate.{RunGate}
use Rattle.buffer_core.specs.declared.replies.Received.TheVariants.{Empty}
use Rattle.buffer_core.specs.declared.entry.BufferEntry.{BufferEntry}
use Rattle.buffer_core.specs.declared.entry.BufferEntry.TheVariants.{Request, Receive, End}
use Rattle.buffer_core.specs.Points.{sent, past_of}
use Rattle.member_model.specs.OwnCalls.{calls_after, asks, KeepsAsking}

-- Before the first event with this start number the caller made its client's request for all events of this id and mask, the
-- only one that was not cancelled; the run was ended; and then a receive of the client found nothing, before another request
-- was made or this one cancelled.
pub record SeesRun (history : List (ℕ × BufferEntry)) (caller client id mask start ended : ℕ) : Type 0 where
  pub before : List (ℕ × BufferEntry)
  pub running : List (ℕ × BufferEntry)
  pub draining : List (ℕ × BufferEntry)
  pub after : List (ℕ × BufferEntry)
  pub number : ℕ
  pub by : ℕ
  pub room : ℕ
  pub gate : RunGate
  pub last : ℕ
  pub whole : history ≡ (before ++ (caller, Request client id mask All (Ok number)) ∷ (running ++ (by, End start (Ok ended)) ∷ (draining ++ (caller, Receive client room (Empty gate last)) ∷ []))) ++ after
  pub early : AllByRecursion (λ s. s.start ≢ start) (sent (past_of before))
  pub alone : (n : ℕ) → asks (calls_after [] (entries_by caller before)) client n ≡ false
  pub keeps : KeepsAsking client (entries_by caller (running ++ (by, End start (Ok ended)) ∷ draining))
