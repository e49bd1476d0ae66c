-- A builder as its calls see it, and how it comes to the end of a run.
use Rattle.std.specs.Prelude.{◌≡◌, ◌≤◌, ◌<◌, ℕ, suc, Bool, true, false, List, length, map, slice_get, Option, Some, None, ⊤}
use Rattle.std.specs.List.{list_any, list_all}
use Rattle.daq_types.specs.declared.events.Event.{Event}
use Rattle.event.specs.Events.{event_limit}
use Rattle.buffer_core.specs.Ports.{Access}
use Rattle.bank_format.specs.declared.formats.Format.TheVariants.{Bank32A}
use Rattle.bank_format.specs.BankAreas.{BankValue, plain_banks}
use Rattle.bank_format.specs.Faults.{HoldsBanks}
use Rattle.bank_format.specs.Writing.{Written}
use Rattle.event_builder.specs.declared.build_run.BuildFault.{BuildFault}
use Rattle.event_builder.specs.declared.build_run.BuiltEnd.{BuiltEnd}
use Rattle.event_builder.specs.declared.build_run.BuiltEnd.TheVariants.{All, Fault}
use Rattle.event_builder.specs.declared.build_run.BuildRun.{BuildRun}
use Rattle.event_builder.specs.declared.build_run.BuiltRun.{BuiltRun}
use Rattle.event_builder.specs.declared.inputs.BuilderInput.{BuilderInput}
use Rattle.event_builder.specs.Joined.{JoinsBanks}
use Rattle.event_builder.specs.Inputs.{InputsAt, EachInput, CancelsInput, inputs_at, is_held, is_done, last_events, new_input}

-- the id and the mask of the built events; how many bytes of data they have at most; the inputs, in the order of the
-- front-ends; and the run of which events are built
pub record BuilderState : Type 0 where
  pub id : ℕ
  pub mask : ℕ
  pub limit : ℕ
  pub inputs : List BuilderInput
  pub run : Option BuildRun

-- the run of a builder, its inputs and their ports, where a call finds or leaves them
pub record BuilderAt : Type 0 where
  pub run : Option BuildRun
  pub at : InputsAt

abbrev pub builder_at : Option BuildRun → InputsAt → BuilderAt
builder_at run at = record { run = run; at = at }

-- the run of this builder and its inputs, with what these ports tell
abbrev pub at_call : {P : Type 0} → (access : P → Access) → BuilderState → List P → BuilderAt
at_call access b ports = builder_at b.run (inputs_at b.inputs (map access ports))

-- a builder in no run, which never read anything
abbrev pub new_builder : (id mask limit room : ℕ) → (fronts : List ℕ) → BuilderState
new_builder id mask limit room fronts = record { id = id; mask = mask; limit = limit; inputs = map (new_input room) fronts; run = None }

-- the run that a start with this number begins
abbrev pub begun_run : (start : ℕ) → BuildRun
begun_run start = record { start = start; sent = 0; stopped = false; ended = None }

-- The run has ended so: each input is read no more.
pub record EndsRun (ended : BuiltEnd) (r : BuildRun) (later : Option BuildRun) (a b : InputsAt) : Type 0 where
  pub run : later ≡ Some (record r { ended = Some ended })
  pub cancels : EachInput CancelsInput a b

abbrev pub EndsWhere : (done : Bool) → BuildRun → (later : Option BuildRun) → (a b : InputsAt) → Type 0
EndsWhere true r later a b = EndsRun All r later a b
EndsWhere false r later a b = (later ≡ Some r) × (b ≡ a)

-- Where all of some input was read, and nothing of it is held, the run has ended; else nothing changes.
abbrev pub EndsIfDone : BuildRun → (later : Option BuildRun) → (a b : InputsAt) → Type 0
EndsIfDone r later a b = EndsWhere (list_any is_done a.inputs) r later a b

-- the run has ended with the fault, if there is one, or else where all of some input was read
abbrev pub EndsAfter : Option BuildFault → BuildRun → (later : Option BuildRun) → (a b : InputsAt) → Type 0
EndsAfter (Some fault) r later a b = EndsRun (Fault fault) r later a b
EndsAfter None r later a b = EndsIfDone r later a b

-- What is told.

abbrev pub fault_of_end : Option BuiltEnd → Option BuildFault
fault_of_end (Some (Fault fault)) = Some fault
fault_of_end ended = None

-- the fault that came in this run, if one did
abbrev pub fault_in : Option BuildRun → Option BuildFault
fault_in None = None
fault_in (Some r) = fault_of_end r.ended

abbrev pub answer_in : (stopped : Bool) → (sent : ℕ) → Option BuiltEnd → Option BuiltRun
answer_in true sent (Some ended) = Some (record { sent = sent; ended = ended })
answer_in stopped sent ended = None

-- what is told of the run, once it was stopped and has ended
abbrev pub built_answer : Option BuildRun → Option BuiltRun
built_answer None = None
built_answer (Some r) = answer_in r.stopped r.sent r.ended

-- the run is over once its stop is answered
abbrev pub run_told : Option BuildRun → Option BuiltRun → Option BuildRun
run_told run None = run
run_told run (Some built) = None

-- What is true of every builder.

-- the event has this serial number, and its data are a bank area
abbrev pub IsKthEvent : (k : ℕ) → Event → Type 0
IsKthEvent k e = (e.serial ≡ k) × ((bs : List BankValue) × HoldsBanks bs e.body)

-- the event is the next one of the run, if there is one, and its data are a bank area
abbrev pub IsNextOf : Option BuildRun → Event → Type 0
IsNextOf None e = ⊤
IsNextOf (Some r) e = IsKthEvent (suc r.sent) e

-- the event of each input that holds one is such
abbrev pub HoldNext : Option BuildRun → List BuilderInput → Type 0
HoldNext run inputs = (number : ℕ) → (x : BuilderInput) → slice_get inputs number ≡ Some x → x.held ≡ true → IsNextOf run x.event.event

-- where each input holds an event, their banks were joined, and are not too long
pub record IsJoined (inputs : List BuilderInput) (limit : ℕ) (body : Written) : Type 0 where
  pub joins : JoinsBanks (last_events inputs) body.banks
  pub fits : length (plain_banks Bank32A body.banks) ≤ limit

-- a builder with this writer for the data of a built event
pub record IsBuilderReady (id limit : ℕ) (inputs : List BuilderInput) (run : Option BuildRun) (body : Written) : Type 0 where
  pub some : 0 < length inputs
  pub few : length inputs ≤ 8
  pub id_some : 0 < id
  pub id_free : id < 32768
  pub least : 8 ≤ limit
  pub most : limit ≤ event_limit
  pub format : body.format ≡ Bank32A
  pub room : body.limit ≡ limit
  pub held : HoldNext run inputs
  pub joined : list_all is_held inputs ≡ true → IsJoined inputs limit body
