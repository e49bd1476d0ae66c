-- What an analyzer does when it pulls.
use Rattle.std.specs.Prelude.{◌≡◌, ℕ, ◌==◌, nat_le, Bool, true, false, if◌then◌else◌, ◌+◌, List, [], ◌∷◌, ◌++◌, length, Option, Some, None}
use Rattle.daq_types.specs.declared.events.Event.{Event}
use Rattle.buffer_core.specs.declared.replies.Received.{Received}
use Rattle.buffer_core.specs.declared.replies.Received.TheVariants.{Got, Empty}
use Rattle.buffer_core.specs.Ports.{Access, Receives, IsSmallBuf}
use Rattle.event_report.specs.Reports.{report_of}
use Rattle.analyzers.specs.declared.analyzer_pull.AnalyzerPull.{AnalyzerPull}
use Rattle.analyzers.specs.declared.analyzer_pull.AnalyzerPull.TheVariants.{Folded, Dropped, Nothing}
use Rattle.analyzers.specs.declared.analyzer_run.AnalyzerRun.{AnalyzerRun}
use Rattle.analyzers.specs.declared.analyzer_run.AnalyzerStage.{AnalyzerStage}
use Rattle.analyzers.specs.declared.analyzer_run.AnalyzerStage.TheVariants.{Counting, Draining, Drained}
use Rattle.analyzers.specs.Analyzers.{AnalyzerAt, run_in_stage, CancelsRun}
use Rattle.analyzers.specs.AnalyzerTurns.{StaysAt}

-- the run's report has one event more, and nothing else of it changes
pub record CountsEvent (r later : AnalyzerRun) (e : Event) : Type 0 where
  pub start : later.start ≡ r.start
  pub client : later.client ≡ r.client
  pub request : later.request ≡ r.request
  pub stage : later.stage ≡ r.stage
  pub report : (events : List Event) → r.report ≡ report_of events → later.report ≡ report_of (events ++ e ∷ [])

abbrev pub CountsOwn : (own : Bool) → (r later : AnalyzerRun) → Event → Type 0
CountsOwn true r later e = CountsEvent r later e
CountsOwn false r later e = later ≡ r

-- an event that was got is counted where it has the start number of the run
abbrev pub CountsReply : Received → (r later : AnalyzerRun) → Event → Type 0
CountsReply (Got place start) r later e = CountsOwn (r.start == start) r later e
CountsReply reply r later e = later ≡ r

-- how long the event that a receive gave is in a run file
abbrev pub got_bytes : Received → Event → ℕ
got_bytes (Got place start) e = 16 + length e.body
got_bytes reply e = 0

abbrev pub ends_reading : (accepted : ℕ) → Received → Bool
ends_reading accepted (Got place start) = nat_le accepted place
ends_reading accepted (Empty gate last) = true
ends_reading accepted reply = false

-- The reply drains the client: the run was stopped, and nothing is left of what the buffer took before that.
abbrev pub drains_by : AnalyzerStage → Received → Bool
drains_by Counting reply = false
drains_by (Draining accepted) reply = ends_reading accepted reply
drains_by Drained reply = false

-- a client that is drained has its request cancelled
abbrev pub EndsReading : (drained : Bool) → AnalyzerRun → Option AnalyzerRun → Access → Access → Type 0
EndsReading true r later a b = (later ≡ Some (run_in_stage Drained r)) × CancelsRun r a b
EndsReading false r later a b = (later ≡ Some r) × (b ≡ a)

-- the answer to a pull, by the start number of the run and the reply of the receive
abbrev pub pull_answer : (start : ℕ) → Received → AnalyzerPull
pull_answer start (Got place s) = if start == s then Folded place else Dropped place
pull_answer start reply = Nothing

-- one receive for the run, of which this was counted; there was room for what it found
pub record ReceivesFor (r counted : AnalyzerRun) (room : ℕ) (a b : Access) (reply : Received) : Type 0 where
  pub event : Event
  pub received : Receives a b r.client room reply event
  pub fits : ¬ (IsSmallBuf reply)
  pub counts : CountsReply reply r counted event

-- One receive: what it got is counted where it is of the run, and the client that it drains has its request cancelled.
pub record CountsOnce (r : AnalyzerRun) (room : ℕ) (a b : AnalyzerAt) (answer : AnalyzerPull) : Type 0 where
  pub reply : Received
  pub middle : Access
  pub counted : AnalyzerRun
  pub receives : ReceivesFor r counted room a.port middle reply
  pub ends : EndsReading (drains_by r.stage reply) counted b.run middle b.port
  pub client : b.client ≡ a.client
  pub answer_is : answer ≡ pull_answer r.start reply

-- the client was drained
abbrev pub was_drained : AnalyzerStage → Bool
was_drained Counting = false
was_drained (Draining accepted) = false
was_drained Drained = true

abbrev pub CountsIn : AnalyzerStage → AnalyzerRun → (room : ℕ) → (a b : AnalyzerAt) → AnalyzerPull → Type 0
CountsIn Drained r room a b answer = (answer ≡ Nothing) × StaysAt a b
CountsIn Counting r room a b answer = CountsOnce r room a b answer
CountsIn (Draining accepted) r room a b answer = CountsOnce r room a b answer

-- a pull: where no run is read, nothing is done
abbrev pub PullsBy : Option AnalyzerRun → (room : ℕ) → (a b : AnalyzerAt) → AnalyzerPull → Type 0
PullsBy None room a b answer = (answer ≡ Nothing) × StaysAt a b
PullsBy (Some r) room a b answer = CountsIn r.stage r room a b answer
