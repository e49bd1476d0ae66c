-- An analyzer as its calls see it.
use Rattle.std.specs.Prelude.{ℕ, ◌≤◌, Option, Some, None, Result, List, ⊤}
use Rattle.buffer_core.specs.declared.replies.RequestRefusal.{RequestRefusal}
use Rattle.buffer_core.specs.declared.entry.BufferEntry.TheVariants.{Cancel}
use Rattle.buffer_core.specs.Ports.{Access, GotEvent, Calls, slots_got}
use Rattle.analyzers.specs.declared.analyzer_run.EventRequest.{EventRequest}
use Rattle.analyzers.specs.declared.analyzer_run.AnalyzerRun.{AnalyzerRun}
use Rattle.analyzers.specs.declared.analyzer_run.AnalyzerStage.{AnalyzerStage}

-- which events it asks for; the room for an event's data; its client at the buffer; and the run that it counts
pub record AnalyzerState : Type 0 where
  pub wanted : EventRequest
  pub room : ℕ
  pub client : Option ℕ
  pub run : Option AnalyzerRun

-- an analyzer's client and run, and its port, where a call finds or leaves them
pub record AnalyzerAt : Type 0 where
  pub client : Option ℕ
  pub run : Option AnalyzerRun
  pub port : Access

-- the run with this stage
abbrev pub run_in_stage : AnalyzerStage → AnalyzerRun → AnalyzerRun
run_in_stage stage r = record { start = r.start; client = r.client; request = r.request; stage = stage; report = r.report }

-- the request of the run was cancelled, with any reply
abbrev pub CancelsRun : AnalyzerRun → Access → Access → Type 0
CancelsRun r a b = (reply : Result ⊤ RequestRefusal) × Calls a b (Cancel r.client r.request reply)

-- the report counts no more than the client got, in bytes
abbrev pub IsWithinGot : Option AnalyzerRun → List GotEvent → Type 0
IsWithinGot None got = ⊤
IsWithinGot (Some r) got = r.report.bytes ≤ slots_got r.client got
