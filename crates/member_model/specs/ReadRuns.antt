-- A client that reads a run: by its one request, which was made before the run was begun, until it is drained behind the
-- end of the run. What was got is read off the calls and the events that they gave; nothing is asked of the buffer.
use Rattle.std.specs.Prelude.{◌≡◌, ◌≢◌, ℕ, nat_le, false, List, [], ◌∷◌, ◌++◌, Ok, ⊤}
use Rattle.daq_types.specs.declared.events.Event.{Event}
use Rattle.daq_types.specs.declared.runs.Kind.TheVariants.{All}
use Rattle.buffer_core.specs.declared.replies.Received.{Received}
use Rattle.buffer_core.specs.declared.entry.BufferEntry.{BufferEntry}
use Rattle.buffer_core.specs.declared.entry.BufferEntry.TheVariants.{Request, Receive, Begin, End}
use Rattle.buffer_core.specs.Ports.{GotEvent}
use Rattle.member_model.specs.SentCalls.{EachCall}
use Rattle.member_model.specs.OwnCalls.{calls_after, asks, KeepsAsking, HasDrained, AreGivenBy, is_place_within, events_at}

-- the client's request for all events of this id and mask was made when it had no other, and these are the calls since
pub record AskedOnce (own : List BufferEntry) (client id mask number : ℕ) (calls : List BufferEntry) : Type 0 where
  pub before : List BufferEntry
  pub whole : own ≡ before ++ Request client id mask All (Ok number) ∷ calls
  pub alone : (n : ℕ) → asks (calls_after [] before) client n ≡ false

-- the request was made, and is not yet cancelled
pub record IsAsking (own : List BufferEntry) (client id mask number : ℕ) : Type 0 where
  pub calls : List BufferEntry
  pub asked : AskedOnce own client id mask number calls
  pub asks_on : KeepsAsking client calls

-- the call does not end the run with this start number
abbrev pub EndsNot : (start : ℕ) → BufferEntry → Type 0
EndsNot start (End s (Ok place)) = s ≢ start
EndsNot start entry = ⊤

-- the call does not begin the run with this start number
abbrev pub BeginsNot : (start : ℕ) → BufferEntry → Type 0
BeginsNot start (Begin s (Ok place)) = s ≢ start
BeginsNot start entry = ⊤

-- the request was made, and is not yet cancelled; and no call since has begun the run with this start number
pub record IsAskingFor (own : List BufferEntry) (client id mask number start : ℕ) : Type 0 where
  pub calls : List BufferEntry
  pub asked : AskedOnce own client id mask number calls
  pub asks_on : KeepsAsking client calls
  pub no_begin : EachCall (BeginsNot start) calls

-- Then the run with this start number was first begun at this place, and no call has ended it since; these are the events that the
-- client got since, from that place on.
pub record IsReading (own : List BufferEntry) (got : List GotEvent) (client id mask number start begun : ℕ) (events : List Event) : Type 0 where
  pub asking : List BufferEntry
  pub running : List BufferEntry
  pub asked : AskedOnce own client id mask number (asking ++ Begin start (Ok begun) ∷ running)
  pub asks_on : KeepsAsking client asking
  pub no_begin : EachCall (BeginsNot start) asking
  pub reads_on : KeepsAsking client running
  pub no_end : EachCall (EndsNot start) running
  pub earlier : List GotEvent
  pub given : List GotEvent
  pub got_is : got ≡ earlier ++ given
  pub gives : AreGivenBy running given
  pub events_are : events ≡ events_at client (nat_le begun) given

-- Then the run was first ended at this place; of what the client got since, the events below that place are added.
pub record IsDraining (own : List BufferEntry) (got : List GotEvent) (client id mask number start begun ended : ℕ) (events : List Event) : Type 0 where
  pub asking : List BufferEntry
  pub running : List BufferEntry
  pub draining : List BufferEntry
  pub asked : AskedOnce own client id mask number (asking ++ Begin start (Ok begun) ∷ (running ++ End start (Ok ended) ∷ draining))
  pub asks_on : KeepsAsking client asking
  pub no_begin : EachCall (BeginsNot start) asking
  pub reads_on : KeepsAsking client running
  pub no_end : EachCall (EndsNot start) running
  pub drains_on : KeepsAsking client draining
  pub earlier : List GotEvent
  pub given_running : List GotEvent
  pub given_draining : List GotEvent
  pub got_is : got ≡ earlier ++ (given_running ++ given_draining)
  pub gives_running : AreGivenBy running given_running
  pub gives_draining : AreGivenBy draining given_draining
  pub events_are : events ≡ events_at client (nat_le begun) given_running ++ events_at client (is_place_within begun ended) given_draining

-- Then a receive was replied that the client has read all places below the end: these are the events of the run. Any calls
-- may follow.
pub record HasReadRun (own : List BufferEntry) (got : List GotEvent) (client id mask number start begun ended : ℕ) (events : List Event) : Type 0 where
  pub drained : List BufferEntry
  pub room : ℕ
  pub reply : Received
  pub later : List BufferEntry
  pub own_is : own ≡ (drained ++ Receive client room reply ∷ []) ++ later
  pub got_by : List GotEvent
  pub got_later : List GotEvent
  pub got_is : got ≡ got_by ++ got_later
  pub reads : IsDraining (drained ++ Receive client room reply ∷ []) got_by client id mask number start begun ended events
  pub drains : HasDrained ended reply
