-- A session whose objects are closed: the one history of each object, its members, and the run files.
use Rattle.std.specs.Prelude.{◌≡◌, ℕ, suc, ◌+◌, Bool, List, [], ◌∷◌, length, slice_get, Option, Some, None}
use Rattle.daq_types.specs.Callers.{caller_of_client, entries_by}
use Rattle.daq_types.specs.declared.events.Event.{Event}
use Rattle.daq_types.specs.declared.runs.Order.{Order}
use Rattle.daq_io.specs.Seen.{Seen}
use Rattle.buffer_core.specs.declared.entry.BufferEntry.{BufferEntry}
use Rattle.buffer_core.specs.Window.{opening}
use Rattle.buffer_core.specs.Histories.{History}
use Rattle.buffer_core.specs.Ports.{GotEvent}
use Rattle.buffer_core.specs.CallersView.{given_in}
use Rattle.member_model.specs.RunEngines.{EngineEntry, EngineHistory}
use Rattle.odb_tree.specs.Noting.{Watched}
use Rattle.odb_watch.specs.declared.entry.WatchEntry.{WatchEntry}
use Rattle.mid_logger.specs.declared.channel.Channel.{Channel}
use Rattle.loggers.specs.LoggerStands.{logger_channels}
use Rattle.session_runs.specs.declared.opening.MemberName.{MemberName}
use Rattle.analyzers.specs.declared.analyzer_run.EventRequest.{EventRequest}
use Rattle.composition.specs.Sessions.{HasFront, Session, SessionAnalyzer, SessionFront}

-- a buffer: its size, and all calls on it from its opening on
pub record ClosedBuffer : Type 0 where
  pub size : ℕ
  pub history : History

-- a front-end: its name, the number of its buffer, and what its equipment does
pub record ClosedFront : Type 0 where
  pub name : List ℕ
  pub buffer : ℕ
  pub takes : Order → Bool
  pub makes : Order → ℕ → Event

-- an analyzer: its name, the number of its buffer, and which events it asks for there
pub record ClosedAnalyzer : Type 0 where
  pub name : List ℕ
  pub buffer : ℕ
  pub wanted : EventRequest

-- A session: its buffers, each at its number; the history of the engine; what the database opened with, and its history; how its
-- members are registered, by their client numbers; the front-ends, each at its client number; the logger's channels, each at its
-- number; the analyzers, in order; and the run files, as they were at first and as they are. The logger's client number is the one
-- behind those of the front-ends, and behind it come those of the analyzers.
pub record ClosedSession : Type 0 where
  pub buffers : List ClosedBuffer
  pub engine : EngineHistory
  pub opened : Watched
  pub database : List (ℕ × WatchEntry)
  pub registered : List MemberName
  pub fronts : List ClosedFront
  pub slots : List (Option Channel)
  pub analyzers : List ClosedAnalyzer
  pub first_files : Seen
  pub files : Seen

-- the client numbers are those below the logger's, the logger's own, and those behind it
abbrev pub logger_client : ClosedSession → ℕ
logger_client c = length c.fronts

abbrev pub logger_caller : ClosedSession → ℕ
logger_caller c = caller_of_client (logger_client c)

abbrev pub analyzer_client : ClosedSession → (place : ℕ) → ℕ
analyzer_client c place = suc (length c.fronts) + place

-- the last of the members, and its caller
abbrev pub last_client : ClosedSession → ℕ
last_client c = length c.fronts + length c.analyzers

abbrev pub last_caller : ClosedSession → ℕ
last_caller c = caller_of_client (last_client c)

-- a number that no buffer has stands for one that has no room and no calls
abbrev pub size_in : Option ClosedBuffer → ℕ
size_in None = 0
size_in (Some b) = b.size

abbrev pub history_in : Option ClosedBuffer → History
history_in None = []
history_in (Some b) = b.history

-- the size and the history of the buffer of this number
abbrev pub size_of_buffer : ClosedSession → (buffer : ℕ) → ℕ
size_of_buffer c buffer = size_in (slice_get c.buffers buffer)

abbrev pub history_of_buffer : ClosedSession → (buffer : ℕ) → History
history_of_buffer c buffer = history_in (slice_get c.buffers buffer)

-- a caller's own calls on the engine, on the buffer of this number, and on the database
abbrev pub engine_calls : ClosedSession → (by : ℕ) → List EngineEntry
engine_calls c by = entries_by by c.engine

abbrev pub calls_on_buffer : ClosedSession → (by buffer : ℕ) → List BufferEntry
calls_on_buffer c by buffer = entries_by by (history_of_buffer c buffer)

abbrev pub calls_on_database : ClosedSession → (by : ℕ) → List WatchEntry
calls_on_database c by = entries_by by c.database

-- the events that a caller's own calls on a buffer gave
abbrev pub got_from_buffer : ClosedSession → (by buffer : ℕ) → List GotEvent
got_from_buffer c by buffer = given_in by (opening (size_of_buffer c buffer)) (history_of_buffer c buffer)

-- The session as the law of composition sees it.

-- a front-end with its client number and the moments of its turns
abbrev pub session_front : (client : ℕ) → ClosedFront → (moments : List ℕ) → SessionFront
session_front client f moments = record {
  name = f.name;
  client = client;
  buffer = f.buffer;
  takes = f.takes;
  makes = f.makes;
  moments = moments;
}

-- what is made of each of these by its number, where the first has this one
abbrev pub numbered : {X Y : Type 0} → (make : ℕ → X → Y) → (first : ℕ) → List X → List Y
numbered make first [] = []
numbered make first (x ∷ xs) = make first x ∷ numbered make (suc first) xs

-- the front-ends with the client numbers from this one on
abbrev pub session_fronts : (client : ℕ) → List ClosedFront → (moments : (client : ℕ) → List ℕ) → List SessionFront
session_fronts client fronts moments = numbered (λ n f. session_front n f (moments n)) client fronts

-- an analyzer with its client number, and what its calls on its buffer gave
abbrev pub session_analyzer : ClosedSession → (client : ℕ) → ClosedAnalyzer → SessionAnalyzer
session_analyzer c client a = record {
  client = client;
  buffer = a.buffer;
  wanted = a.wanted;
  got = got_from_buffer c (caller_of_client client) a.buffer;
}

-- the analyzers with the client numbers from this one on
abbrev pub session_analyzers : ClosedSession → (client : ℕ) → List ClosedAnalyzer → List SessionAnalyzer
session_analyzers c client analyzers = numbered (session_analyzer c) client analyzers

-- A channel that has no client is listed with number 0 for it.
abbrev pub session_of : ClosedSession → (moments : (client : ℕ) → List ℕ) → Session
session_of c moments = record {
  size = λ buffer. size_of_buffer c buffer;
  history = λ buffer. history_of_buffer c buffer;
  engine = c.engine;
  database = c.database;
  fronts = session_fronts 0 c.fronts moments;
  logger = logger_client c;
  channels = logger_channels (λ number. 0) c.slots;
  got = λ buffer. got_from_buffer c (logger_caller c) buffer;
  analyzers = session_analyzers c (suc (length c.fronts)) c.analyzers;
  files = c.files;
}

-- The members of a closed session stand in that session, each under its client number: the front-ends, and no others, and the
-- analyzers.
pub record ListsMembers (c : ClosedSession) (moments : (client : ℕ) → List ℕ) : Type 0 where
  pub fronts : (client : ℕ) → (f : ClosedFront) → slice_get c.fronts client ≡ Some f →
      slice_get (session_of c moments).fronts client ≡ Some (session_front client f (moments client))
  pub front_of : (f : SessionFront) → HasFront (session_of c moments) f → (client : ℕ) × (front : ClosedFront)
      × (slice_get c.fronts client ≡ Some front) × (f ≡ session_front client front (moments client))
  pub analyzers : (place : ℕ) → (a : ClosedAnalyzer) → slice_get c.analyzers place ≡ Some a →
      slice_get (session_of c moments).analyzers place ≡ Some (session_analyzer c (analyzer_client c place) a)
