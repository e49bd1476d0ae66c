-- What a channel does where a run is started.
use Rattle.std.specs.Prelude.{◌≡◌, ◌≤◌, ◌<◌, ◌^◌, ℕ, codes, Bool, true, Result, Ok, Err, List, [], Option, Some, None, ◌⊎◌, ⊤}
use Rattle.daq_types.specs.declared.runs.Kind.TheVariants.{All}
use Rattle.daq_types.specs.declared.runs.Order.{Order}
use Rattle.daq_types.specs.declared.runs.Why.{Why}
use Rattle.daq_types.specs.declared.runs.Why.TheVariants.{NotReady, Exists, Fault, BufferRefused}
use Rattle.event.specs.RunFile.{begun_file}
use Rattle.daq_io.specs.Counts.{Rose, first_of}
use Rattle.daq_io.specs.declared.folder.NameRefused.{NameRefused}
use Rattle.daq_io.specs.declared.folder.NameRefused.TheVariants.{Exists as NameTaken, Missing, Failed}
use Rattle.daq_io.specs.Seen.{Seen, Same, Creates}
use Rattle.buffer_core.specs.declared.replies.NoSlot.{NoSlot}
use Rattle.buffer_core.specs.declared.replies.RequestRefusal.{RequestRefusal}
use Rattle.buffer_core.specs.declared.entry.BufferEntry.TheVariants.{Attach, Request}
use Rattle.buffer_core.specs.Ports.{Access, Calls, IsNewNumber, knowing}
use Rattle.mid_logger.specs.declared.channel_spec.ChannelSpec.{ChannelSpec}
use Rattle.mid_logger.specs.declared.stage.ChannelRun.{ChannelRun}
use Rattle.mid_logger.specs.declared.stage.BegunRun.{BegunRun}
use Rattle.mid_logger.specs.declared.stage.ChannelStage.{ChannelStage}
use Rattle.mid_logger.specs.declared.stage.ChannelStage.TheVariants.{Idle, Asking, Writing, Draining, Drained, Broken}
use Rattle.sub_files.specs.declared.open_file.OpenFile.{OpenFile}
use Rattle.sub_files.specs.Rolls.{first_file}
use Rattle.mid_logger.specs.Patterns.{file_name_by}
use Rattle.mid_logger.specs.Pulls.{NamesMore}
use Rattle.mid_logger.specs.RecordFiles.{RoseTwice, UndoesFile}

-- the run whose request stands
abbrev pub asking_run : ChannelStage → Option ChannelRun
asking_run Idle = None
asking_run (Asking opened) = Some opened
asking_run (Writing opened begun) = Some opened
asking_run (Draining run) = Some run.opened
asking_run (Drained run) = None
asking_run (Broken run fallen) = None

-- the run that broke off
abbrev pub broken_run : ChannelStage → Option BegunRun
broken_run (Broken run fallen) = Some run
broken_run stage = None

-- the run that the client has read, whose file has no end record yet
abbrev pub drained_run : ChannelStage → Option BegunRun
drained_run (Drained run) = Some run
drained_run stage = None

-- the name under which the logger attaches its clients
abbrev pub logger_name : List ℕ
logger_name = codes "Logger"

-- Where the channel has a client, nothing is called; where it has none, one is attached, or that is refused.
abbrev pub HasClient : (client later : Option ℕ) → Access → Access → Type 0
HasClient (Some client) later a b = (later ≡ Some client) × (b ≡ a)
HasClient None (Some client) a b = Calls a b (Attach logger_name (Ok client)) × IsNewNumber (knowing a b) client
HasClient None None a b = (why : NoSlot) × Calls a b (Attach logger_name (Err why))

-- One request is made for the client, and is given this number, or is refused; without a client none is made.
abbrev pub MakesRequest : ChannelSpec → (client request : Option ℕ) → Access → Access → Type 0
MakesRequest spec (Some client) (Some request) a b = Calls a b (Request client spec.id spec.mask All (Ok request))
MakesRequest spec (Some client) None a b = (why : RequestRefusal) × Calls a b (Request client spec.id spec.mask All (Err why))
MakesRequest spec None (Some request) a b = ⊥
MakesRequest spec None None a b = b ≡ a

-- a channel asks for its events, and its request is given this number, or none
pub record AsksEvents (spec : ChannelSpec) (client later request : Option ℕ) (a b : Access) : Type 0 where
  pub middle : Access
  pub attached : HasClient client later a middle
  pub asked : MakesRequest spec later request middle b

-- what a call of a channel finds and leaves: its client, its stage, its port, the files, and their count of faults
pub record ChannelAt : Type 0 where
  pub client : Option ℕ
  pub stage : ChannelStage
  pub port : Access
  pub files : Seen
  pub faults : ℕ

-- the channel asks for the events of the run of this order, whose first file is this one
pub record StartsAsking (spec : ChannelSpec) (order : Order) (at : OpenFile) (a b : ChannelAt) : Type 0 where
  pub client : ℕ
  pub request : ℕ
  pub stage : b.stage ≡ Asking (record { run = order.run; start = order.start; time = order.time; at = at; client = client; request = request })
  pub client_is : b.client ≡ Some client
  pub asks : AsksEvents spec a.client b.client (Some request) a.port b.port

-- The run is opened: its first file is made and has the begin record, and the channel asks for its events.
pub record OpensRun (spec : ChannelSpec) (order : Order) (dump : List ℕ) (a b : ChannelAt) : Type 0 where
  pub at : OpenFile
  pub within : spec.sub_bytes < 2 ^ 32
  pub first : at ≡ first_file dump at.file
  pub makes : Creates a.files b.files (file_name_by spec.pattern order.run) at.file (begun_file order.run order.time dump [])
  pub asks : StartsAsking spec order at a b

-- nothing is called on the port
pub record LeavesPort (a b : ChannelAt) : Type 0 where
  pub client : b.client ≡ a.client
  pub port : b.port ≡ a.port

-- Why a run is not opened, and what is done then: no file of it is left, but where the removing failed.
abbrev pub RefusesRun : Why → ChannelSpec → (name : List ℕ) → (a b : ChannelAt) → Type 0
RefusesRun NotReady spec name a b = ⊥
RefusesRun (Exists channel) spec name a b = (channel ≡ spec.number) × LeavesPort a b × Same a.files b.files
RefusesRun (Fault channel) spec name a b = (channel ≡ spec.number) × LeavesPort a b × UndoesFile RoseTwice a.files b.files name a.faults b.faults
RefusesRun BufferRefused spec name a b = AsksEvents spec a.client b.client None a.port b.port × UndoesFile Rose a.files b.files name a.faults b.faults

-- a run is opened, or that is refused and leaves the stage as it was
abbrev pub OpensBy : Result ⊤ Why → ChannelSpec → Order → (dump : List ℕ) → (a b : ChannelAt) → Type 0
OpensBy (Ok done) spec order dump a b = OpensRun spec order dump a b
OpensBy (Err why) spec order dump a b = (b.stage ≡ a.stage) × RefusesRun why spec (file_name_by spec.pattern order.run) a b

-- why no run is opened whose file could not be begun
abbrev pub IsRefusalOf : NameRefused → (channel : ℕ) → Why → Type 0
IsRefusalOf NameTaken channel why = why ≡ Exists channel
IsRefusalOf Missing channel why = ⊥
IsRefusalOf Failed channel why = why ≡ Fault channel

-- whether a call on the files ever failed, with this refusal more
abbrev pub failed_at : NameRefused → Bool → Bool
failed_at NameTaken before = before
failed_at Missing before = before
failed_at Failed before = true

-- the count of faults where a run is opened: it rises at a fault
abbrev pub OpenFaults : Result ⊤ Why → (old new : ℕ) → Type 0
OpenFaults (Err (Fault channel)) old new = Rose old new
OpenFaults (Err BufferRefused) old new = old ≤ new
OpenFaults result old new = new ≡ old

-- the count of clashes: it rises where the name was taken
abbrev pub OpenClashes : Result ⊤ Why → (old new : ℕ) → Type 0
OpenClashes (Err (Exists channel)) old new = Rose old new
OpenClashes result old new = new ≡ old

-- the name of the first fault
abbrev pub OpenFirst : Result ⊤ Why → (name : List ℕ) → (old new : Option (List ℕ)) → Type 0
OpenFirst (Err (Fault channel)) name old new = new ≡ first_of old name
OpenFirst (Err BufferRefused) name old new = NamesMore name old new
OpenFirst result name old new = new ≡ old

-- No call on the files failed, or one did, which is kept in mind.
abbrev pub NotesFault : (failed later_failed : Bool) → (faults later_faults : ℕ) → Type 0
NotesFault failed later_failed faults later_faults = ((later_failed ≡ failed) × (later_faults ≡ faults)) ⊎ ((later_failed ≡ true) × Rose faults later_faults)
