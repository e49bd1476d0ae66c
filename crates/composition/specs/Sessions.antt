-- A session's objects and members: the one history of each object, and the contract that each member keeps over its own
-- calls.
use Rattle.std.specs.Prelude.{◌≡◌, ℕ, Bool, List, [], slice_get, Some, Ok, ◌++◌, ◌∷◌, ⊤, ◌⊎◌}
use Rattle.std.specs.List.{AllByRecursion}
use Rattle.daq_types.specs.Callers.{caller_of_client, entries_by}
use Rattle.daq_types.specs.declared.events.Event.{Event}
use Rattle.daq_types.specs.declared.runs.Order.{Order}
use Rattle.daq_types.specs.declared.runs.Transition.{Transition}
use Rattle.daq_types.specs.declared.runs.Transition.TheVariants.{Start, Stop}
use Rattle.daq_io.specs.Seen.{Seen}
use Rattle.buffer_core.specs.declared.entry.BufferEntry.{BufferEntry}
use Rattle.buffer_core.specs.Window.{opening}
use Rattle.buffer_core.specs.Histories.{History, IsLegal}
use Rattle.buffer_core.specs.Ports.{GotEvent}
use Rattle.odb_watch.specs.declared.entry.WatchEntry.{WatchEntry}
use Rattle.transitions.specs.declared.entry.EngineEntry.TheVariants.{Begin, Poll, Answer}
use Rattle.transitions.specs.Engines.{engine_opening}
use Rattle.member_model.specs.RunEngines.{Sheet, EngineEntry, EngineHistory, IsLegalEngine}
use Rattle.member_model.specs.Turns.{MemberTurn, AreEngineTurns}
use Rattle.member_model.specs.TurnCalls.{member_turns}
use Rattle.member_model.specs.OwnCalls.{AreGivenBy}
use Rattle.member_model.specs.LoggerKept.{LoggerChannel, KeepsLogger}
use Rattle.front_ends.specs.FrontKept.{KeepsFront, KeepsMoments}
use Rattle.analyzers.specs.declared.analyzer_run.EventRequest.{EventRequest}
use Rattle.analyzers.specs.AnalyzerKept.{KeepsAnalyzer}
use Rattle.history_laws.specs.OneCaller.{WasSentAt}
use Rattle.history_laws.specs.BegunTurns.{IsRegisteredIn, OneWantsDump}
use Rattle.composition.specs.SentSets.{AreTurnSets}

-- a front-end: its name, its client number, the number of its buffer, what its equipment does, and the moments of its
-- turns
pub record SessionFront : Type 0 where
  pub name : List ℕ
  pub client : ℕ
  pub buffer : ℕ
  pub takes : Order → Bool
  pub makes : Order → ℕ → Event
  pub moments : List ℕ

-- an analyzer: its client number, the number of its buffer, which events it asks for there, and what it got
pub record SessionAnalyzer : Type 0 where
  pub client : ℕ
  pub buffer : ℕ
  pub wanted : EventRequest
  pub got : List GotEvent

-- A session, as the histories of its objects tell it: the size and the history of the buffer of each number, where a number
-- that no buffer has has no calls; the history of the engine, and that of the database; the front-ends; the logger's client
-- number, its channels, and what it got at each buffer; the analyzers; and the run files.
pub record Session : Type 0 where
  pub size : (buffer : ℕ) → ℕ
  pub history : (buffer : ℕ) → History
  pub engine : EngineHistory
  pub database : List (ℕ × WatchEntry)
  pub fronts : List SessionFront
  pub logger : ℕ
  pub channels : List LoggerChannel
  pub got : (buffer : ℕ) → List GotEvent
  pub analyzers : List SessionAnalyzer
  pub files : Seen

-- the turns of a member
abbrev pub turns_of : Session → (client : ℕ) → List MemberTurn
turns_of s client = member_turns client (entries_by (caller_of_client client) s.engine)

-- the calls of a member on a buffer
abbrev pub buffer_calls : Session → (buffer client : ℕ) → List BufferEntry
buffer_calls s buffer client = entries_by (caller_of_client client) (s.history buffer)

-- all its calls on the database: on its rows, on watches, and of its text
abbrev pub database_calls : Session → (client : ℕ) → List WatchEntry
database_calls s client = entries_by (caller_of_client client) s.database

-- the front-end stands in the session
abbrev pub HasFront : Session → SessionFront → Type 0
HasFront s f = (index : ℕ) × (slice_get s.fronts index ≡ Some f)

-- the analyzer stands in the session
abbrev pub HasAnalyzer : Session → SessionAnalyzer → Type 0
HasAnalyzer s a = (index : ℕ) × (slice_get s.analyzers index ≡ Some a)

-- the caller is a front-end of this buffer
pub record IsFrontCaller (s : Session) (buffer caller : ℕ) : Type 0 where
  pub front : SessionFront
  pub stands : HasFront s front
  pub buffer_is : front.buffer ≡ buffer
  pub caller_is : caller_of_client front.client ≡ caller

-- the caller is an analyzer of this buffer
pub record IsAnalyzerCaller (s : Session) (buffer caller : ℕ) : Type 0 where
  pub analyzer : SessionAnalyzer
  pub stands : HasAnalyzer s analyzer
  pub buffer_is : analyzer.buffer ≡ buffer
  pub caller_is : caller_of_client analyzer.client ≡ caller

-- a member that may call on this buffer: the logger, a front-end of the buffer, or an analyzer of it
abbrev pub IsMemberCaller : Session → (buffer caller : ℕ) → Type 0
IsMemberCaller s buffer caller =
    (caller ≡ caller_of_client s.logger) ⊎ (IsFrontCaller s buffer caller ⊎ IsAnalyzerCaller s buffer caller)

-- who polls or answers does so for its own client
abbrev pub NamesOwnClient : ℕ × EngineEntry → Type 0
NamesOwnClient (by, Poll client reply) = by ≡ caller_of_client client
NamesOwnClient (by, Answer client answer reply) = by ≡ caller_of_client client
NamesOwnClient entry = ⊤

-- the client was registered, with a sequence number for the transition, before any transition was begun
abbrev pub IsRegistered : Session → (client : ℕ) → Transition → Type 0
IsRegistered s client transition = (earlier later : EngineHistory) → (caller : ℕ) → (begun : Transition) →
    (sheet : Sheet) → (start : ℕ) →
    s.engine ≡ earlier ++ (caller, Begin begun sheet (Ok start)) ∷ later → IsRegisteredIn earlier client transition

-- What is asked of a session.

-- the history of each buffer is that of one which opened empty
abbrev pub BuffersLegal : Session → Type 0
BuffersLegal s = (buffer : ℕ) → IsLegal (opening (s.size buffer)) (s.history buffer)

-- so is that of the engine
abbrev pub EngineLegal : Session → Type 0
EngineLegal s = IsLegalEngine engine_opening s.engine

-- on the engine each names its own client
abbrev pub NameOwnClients : Session → Type 0
NameOwnClients s = AllByRecursion NamesOwnClient s.engine

-- the callers of a buffer are the logger, and the front-ends and analyzers of that buffer
abbrev pub MembersCall : Session → Type 0
MembersCall s = (buffer caller : ℕ) → (entries_by caller (s.history buffer) ≡ []) ⊎ IsMemberCaller s buffer caller

-- each front-end keeps its contract over its own calls and its turns
abbrev pub FrontsKeep : Session → Type 0
FrontsKeep s = (f : SessionFront) → HasFront s f →
    KeepsFront f.takes f.makes (buffer_calls s f.buffer f.client) (turns_of s f.client)

-- and its turns have these moments
abbrev pub FrontsHaveMoments : Session → Type 0
FrontsHaveMoments s = (f : SessionFront) → HasFront s f →
    KeepsMoments (buffer_calls s f.buffer f.client) (turns_of s f.client) f.moments

-- where its turns are such as an engine gives, it sets in the database at them how many events it had sent, and makes no
-- other call there
abbrev pub FrontsSetNumbers : Session → Type 0
FrontsSetNumbers s = (f : SessionFront) → HasFront s f → AreEngineTurns (turns_of s f.client) →
    AreTurnSets f.name (buffer_calls s f.buffer f.client) (turns_of s f.client) f.moments (database_calls s f.client)

-- the logger keeps its contract
abbrev pub LoggerKeeps : Session → Type 0
LoggerKeeps s = KeepsLogger s.channels
    (λ buffer. record { own = buffer_calls s buffer s.logger; got = s.got buffer }) (turns_of s s.logger) s.files

-- what the logger got are events that were sent
abbrev pub LoggerGotSent : Session → Type 0
LoggerGotSent s = (buffer : ℕ) → AllByRecursion (WasSentAt (s.history buffer)) (s.got buffer)

-- each analyzer keeps its contract
abbrev pub AnalyzersKeep : Session → Type 0
AnalyzersKeep s = (a : SessionAnalyzer) → HasAnalyzer s a →
    KeepsAnalyzer a.wanted (buffer_calls s a.buffer a.client) a.got (turns_of s a.client)

-- and what it got are the events that its calls gave, each of which was sent
abbrev pub AnalyzersGotSent : Session → Type 0
AnalyzersGotSent s = (a : SessionAnalyzer) → HasAnalyzer s a →
    AllByRecursion (WasSentAt (s.history a.buffer)) a.got × AreGivenBy (buffer_calls s a.buffer a.client) a.got

-- each member is registered for starts and stops before the first transition
abbrev pub FrontsRegistered : Session → Type 0
FrontsRegistered s = (f : SessionFront) → HasFront s f →
    IsRegistered s f.client Start × IsRegistered s f.client Stop

abbrev pub AnalyzersRegistered : Session → Type 0
AnalyzersRegistered s = (a : SessionAnalyzer) → HasAnalyzer s a →
    IsRegistered s a.client Start × IsRegistered s a.client Stop

abbrev pub LoggerRegistered : Session → Type 0
LoggerRegistered s = IsRegistered s s.logger Start × IsRegistered s s.logger Stop

-- the logger alone wants the dump
abbrev pub LoggerWantsDump : Session → Type 0
LoggerWantsDump s = OneWantsDump s.logger s.engine

-- All that. The caller of each member is its client number and 1, on every object.
pub record MembersKeep (s : Session) : Type 0 where
  pub buffers_legal : BuffersLegal s
  pub engine_legal : EngineLegal s
  pub own_clients : NameOwnClients s
  pub callers : MembersCall s
  pub fronts_keep : FrontsKeep s
  pub fronts_moments : FrontsHaveMoments s
  pub fronts_set : FrontsSetNumbers s
  pub logger_keeps : LoggerKeeps s
  pub logger_got : LoggerGotSent s
  pub analyzers_keep : AnalyzersKeep s
  pub analyzers_got : AnalyzersGotSent s
  pub fronts_registered : FrontsRegistered s
  pub analyzers_registered : AnalyzersRegistered s
  pub logger_registered : LoggerRegistered s
  pub one_dump : LoggerWantsDump s
