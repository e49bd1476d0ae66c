-- The members of a session, as their seats show them.
use Rattle.std.specs.Prelude.{◌≡◌, ℕ, ◌+◌, ◌-◌, min, Bool, nat_le, nat_lt, if◌then◌else◌, List, [], ◌∷◌, map, slice_get, length, Option, Some, None}
use Rattle.std.specs.List.{AllZip}
use Rattle.daq_types.specs.Callers.{caller_of_client}
use Rattle.daq_types.specs.declared.events.Event.{Event}
use Rattle.daq_types.specs.declared.runs.Order.{Order}
use Rattle.event.specs.Events.{event_limit}
use Rattle.event.specs.Generator.{generated_event}
use Rattle.mid_logger.specs.declared.channel_spec.ChannelSpec.{ChannelSpec}
use Rattle.loggers.specs.NewLoggers.{HasNewChannels}
use Rattle.loggers.specs.Moments.{AreIdleChannels, IsLoggerReady}
use Rattle.loggers.specs.LoggerFaults.{HasFailed}
use Rattle.loggers.specs.OtherFiles.{AreDeclared}
use Rattle.loggers.specs.Turning.{no_dumps}
use Rattle.loggers.specs.Reasons.{GivesReasons}
use Rattle.loggers.specs.declared.logger.Logger.{Logger as LoggerState}
use Rattle.loggers.specs.SlotPulls.{HasEventRoom}
use Rattle.loggers.specs.LoggerStands.{LoggerStands}
use Rattle.daq_io.specs.Seen.{Seen}
use Rattle.daq_io.specs.Told.{FilesTold}
use Rattle.buffer_core.specs.Window.{Window}
use Rattle.buffer_core.specs.Ports.{Access, BufferIdentity}
use Rattle.ring_buffer.specs.CountedWindows.{CountedWindow}
use Rattle.buffer_lock.specs.declared.shared.SharedBuffer.{SharedBuffer}
use Rattle.buffer_lock.specs.SharedBuffers.{first_buffer}
use Rattle.buffer_lock.specs.SharedPorts.{identity_by, access_to, ported_by}
use Rattle.member_model.specs.RunEngines.{EngineEntry}
use Rattle.odb_watch.specs.declared.entry.WatchEntry.{WatchEntry}
use Rattle.odb_watch.specs.DatabasePorts.{DatabaseAccess}
use Rattle.odb_lock.specs.declared.shared.SharedOdb.{SharedOdb}
use Rattle.odb_lock.specs.SharedAccesses.{shared_access, odb_identity}
use Rattle.frontend_kit.specs.declared.generator.Generator.{Generator}
use Rattle.session_setup.specs.declared.declared.AnalyzerDeclared.{AnalyzerDeclared}
use Rattle.session_setup.specs.declared.declared.DeclaredLists.{DeclaredLists}
use Rattle.session_setup.specs.declared.declared.FrontDeclared.{FrontDeclared}
use Rattle.daq_members.specs.FrontSeats.{FrontSeen}
use Rattle.daq_members.specs.LoggerSeats.{LoggerSeen}
use Rattle.analyzers.specs.declared.analyzer_run.EventRequest.{EventRequest}
use Rattle.analyzers.specs.Analyzers.{AnalyzerState}
use Rattle.daq_members.specs.SeatedAnalyzers.{AnalyzerSeen}
use Rattle.daq_members.specs.Members.{MemberSeen, MemberTold, FrontEnd, Logger, Analyzer, IsSameMember, member_told}
use Rattle.session_objects.specs.declared.objects.SessionBuffer.{SessionBuffer}
use Rattle.session_objects.specs.declared.objects.SessionObjects.{SessionObjects}
use Rattle.session_setup.specs.declared.member.MemberDeclared.{MemberDeclared}
use Rattle.session_setup.specs.declared.member.MemberDeclared.TheVariants.{FrontEnd as WantedFront, Logger as WantedLogger, Analyzer as WantedAnalyzer}
use Rattle.session_setup.specs.DeclaredMembers.{calls_buffer, declared_members, logger_number, member_count, own_buffer}
use Rattle.session_objects.specs.Calls.{Account, SessionCalls, account_at, account_or_none}

-- what is seen of a ring buffer tells its window
abbrev pub ring_window : CountedWindow → Window
ring_window buffer = buffer.window

-- which buffer a shared ring is
abbrev pub ring_identity : SharedBuffer CountedWindow → BufferIdentity
ring_identity shared = identity_by ring_window shared

-- the equipment that was declared
abbrev pub generator_of : FrontDeclared → Generator
generator_of front = record { id = front.id; mask = front.mask; limit = front.limit }

-- in which runs it takes part, and which events it makes
abbrev pub generator_takes : Generator → Order → Bool
generator_takes g order = nat_le order.quota g.limit

-- the event of this number of a run that this order began
abbrev pub generator_makes : Generator → Order → ℕ → Event
generator_makes g order number = generated_event order g.id g.mask number

-- what is told of a session's members: what the equipments of its front-ends do, and what is told of its run files
abbrev pub members_told : {F : Type 0} → (read : F → FilesTold) → MemberTold Generator F
members_told read = member_told generator_takes generator_makes read

-- The front-end with this client number is the one that was declared: its equipment does the same; it asks the session's
-- engine, sends into its own buffer and calls the session's database, each as its own caller.
pub record IsFrontOf {D : Type 0} (objects : SessionObjects) (shared : SharedOdb D) (client : ℕ) (declared : FrontDeclared)
    (front : FrontSeen Generator) : Type 0 where
  pub is : front.client ≡ client
  pub name : front.name ≡ declared.name
  pub takes : generator_takes front.equipment ≡ generator_takes (generator_of declared)
  pub makes : generator_makes front.equipment ≡ generator_makes (generator_of declared)
  pub engine : front.engine ≡ objects.engine
  pub buffer : SessionBuffer
  pub has_buffer : slice_get objects.buffers.items declared.buffer ≡ Some buffer
  pub port : front.port.buffer ≡ ring_identity buffer.shared
  pub port_caller : front.port.caller ≡ caller_of_client client
  pub access : front.database.database ≡ odb_identity shared
  pub access_caller : front.database.caller ≡ caller_of_client client

-- These are ports of one caller, each to the buffer of its number.
pub record ArePortsTo (buffers : List SessionBuffer) (caller : ℕ) (ports : List Access) : Type 0 where
  pub many : length ports ≡ length buffers
  pub each : (number : ℕ) → (buffer : SessionBuffer) → (port : Access) → slice_get buffers number ≡ Some buffer →
      slice_get ports number ≡ Some port → (port.buffer ≡ ring_identity buffer.shared) × (port.caller ≡ caller)

-- The logger, which has this client number, has the channels that were declared, each at its number; it asks the session's engine
-- and has a port of its own to each buffer.
pub record IsLoggerOf {F : Type 0} (objects : SessionObjects) (channels : List ChannelSpec) (client : ℕ) (logger : LoggerSeen F) : Type 0 where
  pub is : logger.client ≡ client
  pub channels_are : AreDeclared channels logger.slots
  pub engine : logger.engine ≡ objects.engine
  pub ports : ArePortsTo objects.buffers.items (caller_of_client client) logger.ports

-- the events that were asked for
abbrev pub request_of : AnalyzerDeclared → EventRequest
request_of declared = record { id = declared.id; mask = declared.mask; kind = declared.kind }

-- The analyzer with this client number is the one that was declared: it asks for the same events; it asks the session's
-- engine and reads its own buffer, each as its own caller.
pub record IsAnalyzerOf (objects : SessionObjects) (client : ℕ) (declared : AnalyzerDeclared) (analyzer : AnalyzerSeen) : Type 0 where
  pub is : analyzer.client ≡ client
  pub wanted : analyzer.analyzer.wanted ≡ request_of declared
  pub engine : analyzer.engine ≡ objects.engine
  pub buffer : SessionBuffer
  pub has_buffer : slice_get objects.buffers.items declared.buffer ≡ Some buffer
  pub port : analyzer.port.buffer ≡ ring_identity buffer.shared
  pub port_caller : analyzer.port.caller ≡ caller_of_client client

-- The member with this client number is the one that was declared. The logger has these channels.
pub data IsMemberOf {D F : Type 0} (objects : SessionObjects) (shared : SharedOdb D) (channels : List ChannelSpec) (client : ℕ) :
    MemberDeclared → MemberSeen Generator F → Type 0 where
  FrontIs : {wanted : FrontDeclared} {front : FrontSeen Generator} → IsFrontOf objects shared client wanted front →
      IsMemberOf objects shared channels client (WantedFront wanted) (FrontEnd front)
  LoggerIs : {logger : LoggerSeen F} → IsLoggerOf objects channels client logger →
      IsMemberOf objects shared channels client WantedLogger (Logger logger)
  AnalyzerIs : {wanted : AnalyzerDeclared} {analyzer : AnalyzerSeen} → IsAnalyzerOf objects client wanted analyzer →
      IsMemberOf objects shared channels client (WantedAnalyzer wanted) (Analyzer analyzer)

-- The list has the members of a session of these declarations, by their client numbers.
pub record AreMembersOf {D F : Type 0} (lists : DeclaredLists) (objects : SessionObjects) (shared : SharedOdb D)
    (members : List (MemberSeen Generator F)) : Type 0 where
  pub many : length members ≡ member_count lists
  pub each : (client : ℕ) → (wanted : MemberDeclared) → (member : MemberSeen Generator F) →
      slice_get (declared_members lists) client ≡ Some wanted → slice_get members client ≡ Some member →
      IsMemberOf objects shared lists.channels client wanted member

-- This is the logger among the members, at its client number.
abbrev pub HasLogger : {F : Type 0} → DeclaredLists → List (MemberSeen Generator F) → LoggerSeen F → Type 0
HasLogger lists members logger = slice_get members (logger_number lists) ≡ Some (Logger logger)

-- The members of a session stay those of its declarations and objects, as long as each stays the same one; and one of them is the
-- logger.
pub record KeepsMembers (D : Type 0) {F : Type 0} (told : MemberTold Generator F) : Type 0 where
  pub stay : (lists : DeclaredLists) → (objects : SessionObjects) → (shared : SharedOdb D) →
      (before after : List (MemberSeen Generator F)) → AllZip (IsSameMember told) before after →
      AreMembersOf lists objects shared before → AreMembersOf lists objects shared after
  pub logger : (lists : DeclaredLists) → (objects : SessionObjects) → (shared : SharedOdb D) →
      (members : List (MemberSeen Generator F)) → AreMembersOf lists objects shared members →
      (logger : LoggerSeen F) × HasLogger lists members logger × IsLoggerOf objects lists.channels (logger_number lists) logger

-- the one port of a member, at the buffer that was declared for it
abbrev pub port_at : MemberDeclared → Access → (buffer : ℕ) → Option Access
port_at wanted port buffer = if calls_buffer buffer (Some wanted) then Some port else None

-- what a member shows of its calls: a front-end, the logger, an analyzer
abbrev pub front_account : FrontDeclared → FrontSeen Generator → Account
front_account wanted front =
    record { engine = front.calls; port = port_at (WantedFront wanted) front.port; database = front.database.seen }

abbrev pub logger_account : {F : Type 0} → LoggerSeen F → Account
logger_account logger = record { engine = logger.calls; port = slice_get logger.ports; database = [] }

abbrev pub analyzer_account : AnalyzerDeclared → AnalyzerSeen → Account
analyzer_account wanted analyzer =
    record { engine = analyzer.calls; port = port_at (WantedAnalyzer wanted) analyzer.port; database = [] }

-- of whatever kind it is, if it is of the kind that was declared
abbrev pub account_of : {F : Type 0} → MemberDeclared → MemberSeen Generator F → Account
account_of (WantedFront wanted) (FrontEnd front) = front_account wanted front
account_of WantedLogger (Logger logger) = logger_account logger
account_of (WantedAnalyzer wanted) (Analyzer analyzer) = analyzer_account wanted analyzer
account_of wanted member = account_or_none None

-- so each of these members, which were declared so
abbrev pub accounts_of : {F : Type 0} → List MemberDeclared → List (MemberSeen Generator F) → List Account
accounts_of [] members = []
accounts_of (wanted ∷ more) [] = []
accounts_of (wanted ∷ more) (member ∷ members) = account_of wanted member ∷ accounts_of more members

-- all calls of a session of these declarations, by what the main thread and these members know
abbrev pub session_calls : {F : Type 0} → DeclaredLists → (engine : List EngineEntry) → (database : List (ℕ × WatchEntry)) →
    List (MemberSeen Generator F) → SessionCalls
session_calls lists engine database members = record {
  main_engine = engine;
  main_database = database;
  members = accounts_of (declared_members lists) members;
}

-- What was declared with this client number is this, and these calls have this account of it.
pub record HasAccount (lists : DeclaredLists) (calls : SessionCalls) (client : ℕ) (wanted : MemberDeclared) (account : Account) : Type 0 where
  pub has_wanted : slice_get (declared_members lists) client ≡ Some wanted
  pub told : slice_get calls.members client ≡ Some account

-- The member with this client number calls one buffer alone; this is its port to that, and what these calls have of it.
pub record IsOwnPort (lists : DeclaredLists) (objects : SessionObjects) (calls : SessionCalls) (client : ℕ) (port : Access) : Type 0 where
  pub wanted : MemberDeclared
  pub has_wanted : slice_get (declared_members lists) client ≡ Some wanted
  pub number : ℕ
  pub has_number : own_buffer wanted ≡ Some number
  pub buffer : SessionBuffer
  pub has_buffer : slice_get objects.buffers.items number ≡ Some buffer
  pub leads_to : port.buffer ≡ ring_identity buffer.shared
  pub caller : port.caller ≡ caller_of_client client
  pub told : (account_at calls client).port number ≡ Some port

-- The member is the one with this client number, of a session of these declarations, and made those of these calls that are its own.
pub record CalledAt {D F : Type 0} (lists : DeclaredLists) (objects : SessionObjects) (shared : SharedOdb D) (calls : SessionCalls)
    (client : ℕ) (member : MemberSeen Generator F) : Type 0 where
  pub wanted : MemberDeclared
  pub is : IsMemberOf objects shared lists.channels client wanted member
  pub account : HasAccount lists calls client wanted (account_of wanted member)

-- so each of these is
abbrev pub AreCalledAt : {D F : Type 0} → DeclaredLists → SessionObjects → SharedOdb D → SessionCalls →
    List (MemberSeen Generator F) → Type 0
AreCalledAt {D} {F} lists objects shared calls members = (client : ℕ) → (member : MemberSeen Generator F) →
    slice_get members client ≡ Some member → CalledAt lists objects shared calls client member

-- As they are at first.

-- So many seats are taken, and this holds of each, by its place.
pub record AreSeated {X : Type 0} (Holds : ℕ → X → Type 0) (count : ℕ) (seats : List X) : Type 0 where
  pub many : length seats ≡ count
  pub each : (place : ℕ) → (seat : X) → slice_get seats place ≡ Some seat → Holds place seat

-- what a port to a shared buffer tells before its caller called
abbrev pub new_port : SharedBuffer CountedWindow → (caller : ℕ) → Access
new_port shared caller = access_to (ring_identity shared) (ported_by caller (ring_window (first_buffer shared)) [])

-- what the access to a shared database tells before its caller called
abbrev pub new_access : {D : Type 0} → SharedOdb D → (caller : ℕ) → DatabaseAccess
new_access shared caller = shared_access (odb_identity shared) caller []

-- the ports of a caller that made no call, one to each buffer
abbrev pub new_ports : List SessionBuffer → (caller : ℕ) → List Access
new_ports buffers caller = map (λ buffer. new_port buffer.shared caller) buffers

-- The port is new, and goes to the buffer of this number; its caller has this client number.
pub record IsNewPort (buffers : List SessionBuffer) (number client : ℕ) (port : Access) : Type 0 where
  pub buffer : SessionBuffer
  pub has_buffer : slice_get buffers number ≡ Some buffer
  pub is : port ≡ new_port buffer.shared (caller_of_client client)

-- the room for an event that a channel may get from its buffer
abbrev pub event_room_of : Option SessionBuffer → ℕ
event_room_of None = 0
event_room_of (Some buffer) = min event_limit (buffer.size - 24)

abbrev pub event_rooms : List SessionBuffer → List ChannelSpec → List ℕ
event_rooms buffers channels = map (λ channel. event_room_of (slice_get buffers channel.buffer)) channels

-- the seat of a front-end that made no call
abbrev pub new_front : {D : Type 0} → SessionObjects → SharedOdb D → (client : ℕ) → FrontDeclared → SessionBuffer → FrontSeen Generator
new_front objects shared client declared buffer = record {
  engine = objects.engine;
  client = client;
  name = declared.name;
  equipment = generator_of declared;
  run = None;
  calls = [];
  port = new_port buffer.shared (caller_of_client client);
  moments = [];
  database = new_access shared (caller_of_client client);
  stood = new_access shared (caller_of_client client);
}

-- The front-end with this client number is the one that was declared, with a port to its buffer, and made no call.
pub record IsNewFront {D : Type 0} (objects : SessionObjects) (shared : SharedOdb D) (client : ℕ) (declared : FrontDeclared)
    (front : FrontSeen Generator) : Type 0 where
  pub buffer : SessionBuffer
  pub has_buffer : slice_get objects.buffers.items declared.buffer ≡ Some buffer
  pub is : front ≡ new_front objects shared client declared buffer

-- the analyzer that was declared, with so much room for an event, in no run
abbrev pub idle_analyzer : (room : ℕ) → AnalyzerDeclared → AnalyzerState
idle_analyzer room declared = record { wanted = request_of declared; room = room; client = None; run = None }

-- the seat of an analyzer that made no call, with room for each event of its buffer
abbrev pub new_analyzer : SessionObjects → (client : ℕ) → AnalyzerDeclared → SessionBuffer → AnalyzerSeen
new_analyzer objects client declared buffer = record {
  engine = objects.engine;
  client = client;
  analyzer = idle_analyzer (event_room_of (Some buffer)) declared;
  calls = [];
  port = new_port buffer.shared (caller_of_client client);
  stood = new_port buffer.shared (caller_of_client client);
}

-- The analyzer with this client number is the one that was declared, with a port to its buffer, and made no call.
pub record IsNewAnalyzer (objects : SessionObjects) (client : ℕ) (declared : AnalyzerDeclared) (analyzer : AnalyzerSeen) : Type 0 where
  pub buffer : SessionBuffer
  pub has_buffer : slice_get objects.buffers.items declared.buffer ≡ Some buffer
  pub is : analyzer ≡ new_analyzer objects client declared buffer

-- The logger has this client number, a port to each buffer, and a channel for each that was declared, with room for each
-- event of its buffer; and it made no call.
pub record IsNewLogger {F : Type 0} (objects : SessionObjects) (client : ℕ) (channels : List ChannelSpec) (files : F)
    (logger : LoggerSeen F) : Type 0 where
  pub engine : logger.engine ≡ objects.engine
  pub is : logger.client ≡ client
  pub run : logger.run ≡ None
  pub dumps : logger.dumps ≡ no_dumps
  pub calls : logger.calls ≡ []
  pub slots : HasNewChannels channels (event_rooms objects.buffers.items channels) logger.slots
  pub failed : HasFailed logger.slots → ⊥
  pub ports : logger.ports ≡ new_ports objects.buffers.items (caller_of_client client)
  pub has_files : logger.files ≡ files
  pub had_files : logger.first ≡ files

-- A logger that was made for these channels is ready for its turns at new ports to these buffers, whatever its run files
-- are: it has a channel for each that was declared, with room for each event of its buffer, and no run is on.
pub record IsMadeLogger (buffers : List SessionBuffer) (declared : List ChannelSpec) (logger : LoggerState) : Type 0 where
  pub run : logger.run ≡ None
  pub dumps : logger.dumps ≡ no_dumps
  pub slots : HasNewChannels declared (event_rooms buffers declared) logger.channels
  pub idle : AreIdleChannels logger.channels
  pub failed : HasFailed logger.channels → ⊥
  pub reasons : (ports : List Access) → (files : FilesTold) → GivesReasons logger.channels ports files files []
  pub ready : (caller : ℕ) → (seen : Seen) → IsLoggerReady logger.channels (new_ports buffers caller) seen
  pub stands : (caller : ℕ) → (seen : Seen) →
      LoggerStands None no_dumps logger.channels (new_ports buffers caller) [] seen
  pub room : (caller number : ℕ) → HasEventRoom number logger.channels (new_ports buffers caller)

-- The member with this client number is the one that was declared, and made no call. The logger has these channels and run files.
pub data IsNewMember {D F : Type 0} (objects : SessionObjects) (shared : SharedOdb D) (channels : List ChannelSpec) (files : F)
    (client : ℕ) : MemberDeclared → MemberSeen Generator F → Type 0 where
  NewFront : {wanted : FrontDeclared} {front : FrontSeen Generator} → IsNewFront objects shared client wanted front →
      IsNewMember objects shared channels files client (WantedFront wanted) (FrontEnd front)
  NewLogger : {logger : LoggerSeen F} → IsNewLogger objects client channels files logger →
      IsNewMember objects shared channels files client WantedLogger (Logger logger)
  NewAnalyzer : {wanted : AnalyzerDeclared} {analyzer : AnalyzerSeen} → IsNewAnalyzer objects client wanted analyzer →
      IsNewMember objects shared channels files client (WantedAnalyzer wanted) (Analyzer analyzer)

-- The member is the one that was declared with this client number, and made no call.
pub record IsNewMemberAt {D F : Type 0} (lists : DeclaredLists) (objects : SessionObjects) (shared : SharedOdb D) (files : F)
    (client : ℕ) (member : MemberSeen Generator F) : Type 0 where
  pub wanted : MemberDeclared
  pub has_wanted : slice_get (declared_members lists) client ≡ Some wanted
  pub new : IsNewMember objects shared lists.channels files client wanted member

-- The list has the members of a session of these declarations, by their client numbers, and none made a call. The logger has these
-- run files, and no call on them failed.
pub record HasNewMembers {D F : Type 0} (lists : DeclaredLists) (objects : SessionObjects) (shared : SharedOdb D) (files : F)
    (members : List (MemberSeen Generator F)) : Type 0 where
  pub new : AreSeated (IsNewMemberAt lists objects shared files) (member_count lists) members
  pub are : AreMembersOf lists objects shared members
  pub logger : LoggerSeen F
  pub has_logger : HasLogger lists members logger
  pub first : logger.first ≡ files
  pub has_files : logger.files ≡ files
  pub failed : HasFailed logger.slots → ⊥

-- the run files, once so many members are made: the logger has them once it is made, which has this client number
abbrev pub files_left : {F : Type 0} → (logger clients : ℕ) → F → Option F
files_left logger clients files = if nat_lt logger clients then None else Some files
