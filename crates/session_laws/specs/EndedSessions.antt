-- A session behind its end: the record of its objects, with its members, as the laws of closed sessions see it.
use Rattle.std.specs.Prelude.{◌≡◌, ℕ, ◌≤◌, List, [], ◌++◌, length, map, slice_get, Option, Some}
use Rattle.std.specs.List.{AllByRecursion}
use Rattle.daq_io.specs.Seen.{Seen}
use Rattle.daq_io.specs.Told.{FilesTold}
use Rattle.transitions.specs.Engines.{engine_opening}
use Rattle.member_model.specs.RunEngines.{EngineEntry}
use Rattle.turn_lock.specs.Closing.{history_of}
use Rattle.transition_lock.specs.SharedEngines.{first_engine}
use Rattle.odb_tree.specs.Noting.{Watched}
use Rattle.odb_watch.specs.declared.entry.WatchEntry.{WatchEntry}
use Rattle.odb_lock.specs.declared.shared.SharedOdb.{SharedOdb}
use Rattle.odb_lock.specs.SharedOdbs.{first_database}
use Rattle.mid_logger.specs.declared.channel.Channel.{Channel}
use Rattle.frontend_kit.specs.declared.generator.Generator.{Generator}
use Rattle.session_setup.specs.declared.declared.AnalyzerDeclared.{AnalyzerDeclared}
use Rattle.session_setup.specs.declared.declared.DeclaredLists.{DeclaredLists}
use Rattle.session_setup.specs.declared.declared.FrontDeclared.{FrontDeclared}
use Rattle.session_runs.specs.Members.{registrations}
use Rattle.daq_members.specs.LoggerSeats.{LoggerSeen}
use Rattle.daq_members.specs.Members.{MemberSeen, FrontEnd}
use Rattle.daq_members.specs.Stay.{KeepContracts}
use Rattle.session_runs.specs.RunsFit.{SteersEngine}
use Rattle.session_objects.specs.declared.objects.SessionObjects.{SessionObjects}
use Rattle.session_objects.specs.declared.record.BufferRecord.{BufferRecord}
use Rattle.session_objects.specs.declared.record.SessionRecord.{SessionRecord}
use Rattle.session_objects.specs.Objects.{HaveCallers}
use Rattle.session_objects.specs.Members.{generator_of, generator_takes, generator_makes, request_of, members_told, AreMembersOf, HasLogger, session_calls}
use Rattle.session_objects.specs.Names.{member_names}
use Rattle.session_objects.specs.Records.{HoldsHistories, HoldsCalls}
use Rattle.session_laws.specs.ClosedSessions.{ClosedAnalyzer, ClosedBuffer, ClosedFront, ClosedSession}
use Rattle.session_laws.specs.MembersAtEnd.{MembersAtEnd}
use Rattle.session_laws.specs.EndLaws.{SessionHolds}

-- the buffer of a record
abbrev pub closed_buffer : BufferRecord → ClosedBuffer
closed_buffer r = record { size = r.size; history = history_of r.closed }

-- a front-end as it was declared
abbrev pub closed_front : FrontDeclared → ClosedFront
closed_front d = record {
  name = d.name;
  buffer = d.buffer;
  takes = generator_takes (generator_of d);
  makes = generator_makes (generator_of d);
}

-- an analyzer as it was declared
abbrev pub closed_analyzer : AnalyzerDeclared → ClosedAnalyzer
closed_analyzer d = record { name = d.name; buffer = d.buffer; wanted = request_of d }

-- the session of this record, with what its database opened with, its members as they were declared, the channels of its logger,
-- and the run files at first and now
abbrev pub closed_session : {D : Type 0} {g : _} → Watched → DeclaredLists → List (Option Channel) → (first files : Seen) → SessionRecord D g → ClosedSession
closed_session opened lists slots first files r = record {
  buffers = map closed_buffer r.buffers;
  engine = history_of r.engine;
  opened = opened;
  database = history_of r.database;
  registered = member_names lists;
  fronts = map closed_front lists.fronts;
  slots = slots;
  analyzers = map closed_analyzer lists.analyzers;
  first_files = first;
  files = files;
}

-- the same, with its logger as its seat shows it, and what is told of the run files, as the logger took its seat and now
abbrev pub session_with : {D F : Type 0} {g : _} → (read : F → FilesTold) → Watched → DeclaredLists → LoggerSeen F → SessionRecord D g → ClosedSession
session_with read opened lists logger r =
    closed_session opened lists logger.slots (read logger.first).seen (read logger.files).seen r

-- What is known of a session once its objects are closed: the members are those that were declared, each as its seat shows it
-- at the end, each keeps its contract, and of the analyzers there are few; the histories are legal, and hold the calls of the main
-- thread and of the members alone; and the main thread registered the members on the engine and then made transitions.
pub record SessionEnded {D F : Type 0} {g : _} (read : F → FilesTold) (lists : DeclaredLists) (logger : LoggerSeen F)
    (r : SessionRecord D g) : Type 0 where
  pub objects : SessionObjects
  pub shared : SharedOdb D
  pub own : List EngineEntry
  pub database : List (ℕ × WatchEntry)
  pub members : List (MemberSeen Generator F)
  pub callers : HaveCallers lists objects shared
  pub opening : first_engine objects.engine ≡ engine_opening
  pub are : AreMembersOf lists objects shared members
  pub keep : KeepContracts (members_told read) members
  pub has_logger : HasLogger lists members logger
  pub histories : HoldsHistories objects shared r
  pub calls : HoldsCalls (session_calls lists own database members) objects shared r
  pub few_analyzers : length lists.analyzers ≤ 8
  pub later : List EngineEntry
  pub begins : own ≡ registrations 0 (member_names lists) ++ later
  pub steers : AllByRecursion SteersEngine later

-- the moments of the turns of a member, which a front-end has
abbrev pub moments_of : {E F : Type 0} → Option (MemberSeen E F) → List ℕ
moments_of (Some (FrontEnd front)) = front.moments
moments_of member = []

-- by the client numbers of these members
abbrev pub moments_among : {E F : Type 0} → List (MemberSeen E F) → (client : ℕ) → List ℕ
moments_among members client = moments_of (slice_get members client)

-- That is what the laws of closed sessions ask for, with the moments of its front-ends' turns.
abbrev pub ClosedEndsSo : {D F : Type 0} {g : _} → (read : F → FilesTold) → SessionRecord D g → Type 0
ClosedEndsSo {D} {F} read r = (lists : DeclaredLists) → (logger : LoggerSeen F) →
    (ended : SessionEnded read lists logger r) →
    (ends : MembersAtEnd (session_with read (first_database ended.shared) lists logger r)) × (ends.moments ≡ moments_among ended.members)

-- So all that these laws say of it is so, with these moments.
abbrev pub HoldsSo : {D F : Type 0} {g : _} → (read : F → FilesTold) → SessionRecord D g → Type 0
HoldsSo {D} {F} read r = (lists : DeclaredLists) → (logger : LoggerSeen F) →
    (ended : SessionEnded read lists logger r) →
    (holds : SessionHolds (session_with read (first_database ended.shared) lists logger r)) × (holds.moments ≡ moments_among ended.members)
