-- What a builder does when it pulls on one of its inputs, and which fault the event that it gets may give.
use Rattle.std.specs.Prelude.{◌≡◌, ◌≢◌, ◌≤◌, ◌<◌, ℕ, suc, ◌==◌, Bool, true, false, if◌then◌else◌, List, slice_get, Option, Some, None}
use Rattle.std.specs.List.{list_all}
use Rattle.daq_types.specs.declared.events.Event.{Event}
use Rattle.buffer_core.specs.declared.replies.Received.{Received}
use Rattle.buffer_core.specs.Ports.{Access}
use Rattle.buffer_core.specs.declared.replies.Received.TheVariants.{Got, Empty, NoClient, SmallBuf}
use Rattle.bank_format.specs.BankAreas.{BankValue}
use Rattle.bank_format.specs.Faults.{HoldsBanks}
use Rattle.event_builder.specs.declared.answers.BuildPull.{BuildPull}
use Rattle.event_builder.specs.declared.answers.BuildPull.TheVariants.{Took, Dropped, Nothing, Waiting, Failed}
use Rattle.event_builder.specs.declared.build_run.BuildFault.{BuildFault}
use Rattle.event_builder.specs.declared.build_run.BuildFault.TheVariants.{SmallRoom, Serial, NotBanks, TooBig}
use Rattle.event_builder.specs.declared.build_run.BuildRun.{BuildRun}
use Rattle.event_builder.specs.declared.inputs.BuilderInput.{BuilderInput}
use Rattle.event_builder.specs.declared.inputs.InputRequest.{InputRequest}
use Rattle.event_builder.specs.Joined.{IsBuiltSize}
use Rattle.event_builder.specs.Inputs.{InputsAt, StepsInput, ReceivesInput, is_held, last_events}
use Rattle.event_builder.specs.Builders.{BuilderState, BuilderAt, EndsAfter, at_call}
use Rattle.event_builder.specs.BuilderTurns.{StaysBuilder}

-- Faults.

-- The fault that the k-th event of this input gives, if it gives one: its serial number is another; or its data are no bank
-- area; or each input holds an event now, and the event built of them would be too long. They are tested in this order.
abbrev pub IsBuildFaultOf : (number k : ℕ) → Event → (limit : ℕ) → (inputs : List BuilderInput) → Option BuildFault → Type 0
IsBuildFaultOf number k e limit inputs None =
    (e.serial ≡ k) × ((bs : List BankValue) × HoldsBanks bs e.body)
    × (list_all is_held inputs ≡ true → (size : ℕ) × IsBuiltSize (last_events inputs) size × (size ≤ limit))
IsBuildFaultOf number k e limit inputs (Some (Serial input j have)) = (input ≡ number) × (j ≡ k) × (have ≡ e.serial) × (have ≢ k)
IsBuildFaultOf number k e limit inputs (Some (NotBanks input j)) =
    (input ≡ number) × (j ≡ k) × (e.serial ≡ k) × ((bs : List BankValue) → HoldsBanks bs e.body → ⊥)
IsBuildFaultOf number k e limit inputs (Some (TooBig j size)) =
    (j ≡ k) × (e.serial ≡ k) × (list_all is_held inputs ≡ true) × IsBuiltSize (last_events inputs) size × (limit < size)
IsBuildFaultOf number k e limit inputs (Some (SmallRoom input need)) = ⊥

-- this fault the event gives as the k-th one, whatever the other inputs hold
abbrev pub IsFaultAlone : (number k : ℕ) → Event → BuildFault → Type 0
IsFaultAlone number k e fault = (limit : ℕ) → (inputs : List BuilderInput) → IsBuildFaultOf number k e limit inputs (Some fault)

-- each input holds an event, and the k-th built one would be too long
abbrev pub IsTooBig : (k limit : ℕ) → List BuilderInput → BuildFault → Type 0
IsTooBig k limit inputs fault = (size : ℕ) × (fault ≡ TooBig k size) × (list_all is_held inputs ≡ true) × IsBuiltSize (last_events inputs) size × (limit < size)

-- the fault that the event gives which this input holds now
pub record MeetsFault (number k limit : ℕ) (inputs : List BuilderInput) (fault : Option BuildFault) : Type 0 where
  pub input : BuilderInput
  pub there : slice_get inputs number ≡ Some input
  pub fault_is : IsBuildFaultOf number k input.event.event limit inputs fault

-- each other input that holds an event holds one whose data are a bank area
abbrev pub HoldBanksBut : (number : ℕ) → List BuilderInput → Type 0
HoldBanksBut number inputs = (n : ℕ) → (x : BuilderInput) → n ≢ number → slice_get inputs n ≡ Some x → x.held ≡ true →
    (bs : List BankValue) × HoldsBanks bs x.event.event.body

-- the fault that a reply gives: that of the event of the run that was got, or that there was too little room for one
abbrev pub FaultsGot : (own : Bool) → (number k limit : ℕ) → List BuilderInput → Option BuildFault → Type 0
FaultsGot true number k limit inputs fault = MeetsFault number k limit inputs fault
FaultsGot false number k limit inputs fault = fault ≡ None

abbrev pub FaultsReply : Received → (start number k limit : ℕ) → List BuilderInput → Option BuildFault → Type 0
FaultsReply (Got place s) start number k limit inputs fault = FaultsGot (start == s) number k limit inputs fault
FaultsReply (Empty gate last) start number k limit inputs fault = fault ≡ None
FaultsReply NoClient start number k limit inputs fault = fault ≡ None
FaultsReply (SmallBuf need) start number k limit inputs fault = fault ≡ Some (SmallRoom number need)

-- Pulls.

-- the answer to a pull, by the start number of the run, the reply of the receive and the fault
abbrev pub pull_answer : (start : ℕ) → Received → Option BuildFault → BuildPull
pull_answer start reply (Some fault) = Failed
pull_answer start (Got place s) None = if start == s then Took place else Dropped place
pull_answer start reply None = Nothing

-- One receive, and what becomes of its reply: an event of the run is held, a fault ends the run, and so it has ended where all
-- of the input was read.
pub record PullsOneEvent (number limit : ℕ) (r : BuildRun) (q : InputRequest) (later : Option BuildRun) (a b : InputsAt) (answer : BuildPull) : Type 0 where
  pub reply : Received
  pub middle : InputsAt
  pub fault : Option BuildFault
  pub receives : StepsInput (ReceivesInput r.start q reply) number a middle
  pub faults : FaultsReply reply r.start number (suc r.sent) limit middle.inputs fault
  pub ends : EndsAfter fault r later middle b
  pub answer_is : answer ≡ pull_answer r.start reply fault

abbrev pub PullsHeld : (held : Bool) → (number limit : ℕ) → BuildRun → InputRequest → (a b : BuilderAt) → BuildPull → Type 0
PullsHeld true number limit r q a b answer = (answer ≡ Waiting) × StaysBuilder a b
PullsHeld false number limit r q a b answer = PullsOneEvent number limit r q b.run a.at b.at answer

abbrev pub PullsByRequest : Option InputRequest → (held : Bool) → (number limit : ℕ) → BuildRun → (a b : BuilderAt) → BuildPull → Type 0
PullsByRequest None held number limit r a b answer = (answer ≡ Nothing) × StaysBuilder a b
PullsByRequest (Some q) held number limit r a b answer = PullsHeld held number limit r q a b answer

-- A pull on an input: without a run or a request nothing is called, and neither where an event of that input is held.
abbrev pub PullsInput : Option BuildRun → (x : BuilderInput) → (number limit : ℕ) → (a b : BuilderAt) → BuildPull → Type 0
PullsInput None x number limit a b answer = (answer ≡ Nothing) × StaysBuilder a b
PullsInput (Some r) x number limit a b answer = PullsByRequest x.request x.held number limit r a b answer

-- a pull on the input of this number
pub record PullsBuilder (number limit : ℕ) (a b : BuilderAt) (answer : BuildPull) : Type 0 where
  pub input : BuilderInput
  pub there : slice_get a.at.inputs number ≡ Some input
  pub pulls : PullsInput a.run input number limit a b answer

-- the same of this builder, with what these ports tell
abbrev pub PullsOver : {P : Type 0} → (access : P → Access) → (number : ℕ) → BuilderState → List P → (later : BuilderState) → List P → BuildPull → Type 0
PullsOver access number b ports later later_ports answer =
    PullsBuilder number b.limit (at_call access b ports) (at_call access later later_ports) answer
