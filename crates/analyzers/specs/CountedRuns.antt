-- A client whose events of one run are counted, by its one request, until it has read all that the buffer told it had taken.
-- What was got is read off the calls and the events that they gave; nothing is asked of the buffer.
use Rattle.std.specs.Prelude.{◌≡◌, ℕ, ◌+◌, false, List, [], ◌∷◌, ◌++◌, Result, Ok, ⊤}
use Rattle.daq_types.specs.declared.events.Event.{Event}
use Rattle.buffer_core.specs.declared.replies.Received.{Received}
use Rattle.buffer_core.specs.declared.replies.RequestRefusal.{RequestRefusal}
use Rattle.buffer_core.specs.declared.entry.BufferEntry.{BufferEntry}
use Rattle.buffer_core.specs.declared.entry.BufferEntry.TheVariants.{Request, Cancel, Receive, Accepted}
use Rattle.buffer_core.specs.Ports.{GotEvent}
use Rattle.member_model.specs.OwnCalls.{calls_after, asks, KeepsAsking, HasDrained, AreGivenBy}
use Rattle.member_model.specs.GotRuns.{events_of_start}
use Rattle.analyzers.specs.declared.analyzer_run.EventRequest.{EventRequest}

-- one, where the call is a request for events that was accepted
abbrev pub requests_by : BufferEntry → ℕ
requests_by (Request client id mask kind (Ok number)) = 1
requests_by entry = 0

-- how many requests for events these calls made
abbrev pub requests_made : List BufferEntry → ℕ
requests_made [] = 0
requests_made (e ∷ es) = requests_by e + requests_made es

-- one, where the call asks how many events the buffer took
abbrev pub accepts_by : BufferEntry → ℕ
accepts_by (Accepted reply) = 1
accepts_by entry = 0

-- how often these calls asked that
abbrev pub accepts_made : List BufferEntry → ℕ
accepts_made [] = 0
accepts_made (e ∷ es) = accepts_by e + accepts_made es

-- the request by which a run is counted: what is wanted, the client, the request's number, the run's start number, how many
-- requests were made before it, and how often it had been asked by then how many events the buffer took
pub record CountRequest : Type 0 where
  pub wanted : EventRequest
  pub client : ℕ
  pub number : ℕ
  pub start : ℕ
  pub earlier : ℕ
  pub asked : ℕ

-- the client's request was made when it had no other, behind so many earlier ones, and these are the calls since
pub record AskedBy (own : List BufferEntry) (q : CountRequest) (calls : List BufferEntry) : Type 0 where
  pub before : List BufferEntry
  pub whole : own ≡ before ++ Request q.client q.wanted.id q.wanted.mask q.wanted.kind (Ok q.number) ∷ calls
  pub alone : (n : ℕ) → asks (calls_after [] before) q.client n ≡ false
  pub requests : requests_made before ≡ q.earlier
  pub accepts : accepts_made before ≡ q.asked

-- The request was made, and none of the client was made or cancelled since; these are the events of the run that the client
-- got by the calls since.
pub record IsCounted (own : List BufferEntry) (got : List GotEvent) (q : CountRequest) (calls : List BufferEntry) (events : List Event) : Type 0 where
  pub asked : AskedBy own q calls
  pub asks_on : KeepsAsking q.client calls
  pub earlier : List GotEvent
  pub given : List GotEvent
  pub got_is : got ≡ earlier ++ given
  pub gives : AreGivenBy calls given
  pub events_are : events ≡ events_of_start q.client q.start given

-- Then the buffer told how many events it had taken, and a receive was replied that the client has read all of them: these
-- are the events of the run that it got from its request on until then. The next call cancelled the request, with any reply;
-- any calls may follow.
pub record IsWhollyCounted (own : List BufferEntry) (got : List GotEvent) (q : CountRequest) (events : List Event) : Type 0 where
  pub accepted : ℕ
  pub reading : List BufferEntry
  pub draining : List BufferEntry
  pub room : ℕ
  pub reply : Received
  pub cancelled : Result ⊤ RequestRefusal
  pub own_by : List BufferEntry
  pub later : List BufferEntry
  pub own_is : own ≡ own_by ++ Cancel q.client q.number cancelled ∷ later
  pub got_by : List GotEvent
  pub got_later : List GotEvent
  pub got_is : got ≡ got_by ++ got_later
  pub counted : IsCounted own_by got_by q (reading ++ Accepted accepted ∷ (draining ++ Receive q.client room reply ∷ [])) events
  pub drains : HasDrained accepted reply

-- the calls by which the run was counted: those since the request, up to the receive that drained the client
abbrev pub counted_calls : {own : List BufferEntry} {got : List GotEvent} {q : CountRequest} {events : List Event} → IsWhollyCounted own got q events → List BufferEntry
counted_calls {own} {got} {q} {events} w = w.reading ++ Accepted w.accepted ∷ (w.draining ++ Receive q.client w.room w.reply ∷ [])
