-- The inputs of a builder with their ports, and what a call does to one of them or to several.
use Rattle.std.specs.Prelude.{◌≡◌, ℕ, ◌==◌, ◌≤◌, ◌<◌, nat_le, Bool, true, false, not, ◌&&◌, if◌then◌else◌, List, length, map, slice_get, slice_set, codes, Option, Some, None, Result, Ok, Err, ⊤}
use Rattle.daq_types.specs.declared.events.Event.{Event}
use Rattle.daq_types.specs.declared.runs.Kind.TheVariants.{All}
use Rattle.event.specs.Events.{any}
use Rattle.event.specs.Held.{HeldEvent, empty_buf}
use Rattle.buffer_core.specs.declared.replies.NoSlot.{NoSlot}
use Rattle.buffer_core.specs.declared.replies.RequestRefusal.{RequestRefusal}
use Rattle.buffer_core.specs.declared.replies.Received.{Received}
use Rattle.buffer_core.specs.declared.replies.Received.TheVariants.{Got, Empty}
use Rattle.buffer_core.specs.declared.entry.BufferEntry.TheVariants.{Attach, Request, Cancel, Accepted}
use Rattle.buffer_core.specs.Ports.{Access, Calls, Receives}
use Rattle.event_builder.specs.declared.inputs.BuilderInput.{BuilderInput}
use Rattle.event_builder.specs.declared.inputs.InputRequest.{InputRequest}
use Rattle.event_builder.specs.declared.inputs.InputStop.{InputStop}
use Rattle.event_builder.specs.declared.inputs.InputStop.TheVariants.{Open, Stopped, Drained}

-- an input and its port, where a call finds or leaves them
pub record InputAt : Type 0 where
  pub input : BuilderInput
  pub port : Access

abbrev pub input_at : BuilderInput → Access → InputAt
input_at input port = record { input = input; port = port }

-- all inputs and their ports, in order
pub record InputsAt : Type 0 where
  pub inputs : List BuilderInput
  pub ports : List Access

abbrev pub inputs_at : List BuilderInput → List Access → InputsAt
inputs_at inputs ports = record { inputs = inputs; ports = ports }

-- such a step of this input, with what its port tells
abbrev pub PortStep : {P : Type 0} → (access : P → Access) → (Step : InputAt → InputAt → Type 0) → BuilderInput → P → (later : BuilderInput) → P → Type 0
PortStep access Step input port later later_port = Step (input_at input (access port)) (input_at later (access later_port))

-- such a step of these inputs, with what their ports tell
abbrev pub InputsStep : {P : Type 0} → (access : P → Access) → (Step : InputsAt → InputsAt → Type 0) → List BuilderInput → List P → (later : List BuilderInput) → List P → Type 0
InputsStep access Step inputs ports later later_ports = Step (inputs_at inputs (map access ports)) (inputs_at later (map access later_ports))

-- the input of this number and its port
pub record IsInputAt (m : InputsAt) (number : ℕ) (x : InputAt) : Type 0 where
  pub input : slice_get m.inputs number ≡ Some x.input
  pub port : slice_get m.ports number ≡ Some x.port

-- The input of this number, with its port, does such a step, and all others stay.
pub record StepsInput (Step : InputAt → InputAt → Type 0) (number : ℕ) (a b : InputsAt) : Type 0 where
  pub before : InputAt
  pub after : InputAt
  pub there : IsInputAt a number before
  pub inputs : b.inputs ≡ slice_set a.inputs number after.input
  pub ports : b.ports ≡ slice_set a.ports number after.port
  pub step : Step before after

-- a step of the input of this number, with what the ports tell
abbrev pub OneStep : {P : Type 0} → (access : P → Access) → (Step : InputAt → InputAt → Type 0) → (number : ℕ) → List BuilderInput → List P → (later : List BuilderInput) → List P → Type 0
OneStep access Step number inputs ports later later_ports = InputsStep access (StepsInput Step number) inputs ports later later_ports

-- Each input with a number below this does such a step, once, with its port; all others stay.
pub record StepsBelow (Step : InputAt → InputAt → Type 0) (count : ℕ) (a b : InputsAt) : Type 0 where
  pub inputs_many : length b.inputs ≡ length a.inputs
  pub ports_many : length b.ports ≡ length a.ports
  pub done : (number : ℕ) → (x : InputAt) → number < count → IsInputAt a number x → (y : InputAt) × IsInputAt b number y × Step x y
  pub left : (number : ℕ) → (x : InputAt) → count ≤ number → IsInputAt a number x → IsInputAt b number x

-- each input does such a step
abbrev pub EachInput : (Step : InputAt → InputAt → Type 0) → (a b : InputsAt) → Type 0
EachInput Step a b = StepsBelow Step (length a.inputs) a b

-- Requests.

-- the name under which a builder attaches its clients
abbrev pub builder_name : List ℕ
builder_name = codes "Builder"

-- where there is a client nothing is called; where there is none, one is attached, or that is refused
abbrev pub GetsInputClient : (client later : Option ℕ) → Access → Access → Type 0
GetsInputClient (Some client) later a b = (later ≡ Some client) × (b ≡ a)
GetsInputClient None (Some client) a b = Calls a b (Attach builder_name (Ok client))
GetsInputClient None None a b = (why : NoSlot) × Calls a b (Attach builder_name (Err why))

-- The input has a client, or gets one, and by its request for all events of the front-end it is read from now on.
pub record AsksInput (x y : InputAt) : Type 0 where
  pub attached : Access
  pub client : ℕ
  pub number : ℕ
  pub gets : GetsInputClient x.input.client (Some client) x.port attached
  pub asks : Calls attached y.port (Request client x.input.front any All (Ok number))
  pub input : y.input ≡ record x.input { client = Some client; request = Some (record { client = client; number = number }); stop = Open }

-- the client, if there is one, was refused its request for all events of this id
abbrev pub RefusesRequest : (client : Option ℕ) → (front : ℕ) → Access → Access → Type 0
RefusesRequest None front a b = b ≡ a
RefusesRequest (Some client) front a b = (why : RequestRefusal) × Calls a b (Request client front any All (Err why))

-- the buffer refuses the input its client or its request
pub record RefusesInput (x y : InputAt) : Type 0 where
  pub attached : Access
  pub gets : GetsInputClient x.input.client y.input.client x.port attached
  pub refuses : RefusesRequest y.input.client x.input.front attached y.port
  pub input : y.input ≡ record x.input { client = y.input.client }

-- the request, if there is one, is cancelled, with any reply
abbrev pub CancelsIfAsked : Option InputRequest → Access → Access → Type 0
CancelsIfAsked None a b = b ≡ a
CancelsIfAsked (Some q) a b = (reply : Result ⊤ RequestRefusal) × Calls a b (Cancel q.client q.number reply)

-- The input is read no more: its request is cancelled, if it lives, and what is held is let go of.
pub record CancelsInput (x y : InputAt) : Type 0 where
  pub input : y.input ≡ record x.input { request = None; held = false }
  pub cancels : CancelsIfAsked x.input.request x.port y.port

-- Reading.

-- it is asked, once, how many events the buffer took so far
abbrev pub StopsReading : (stop later : InputStop) → Access → Access → Type 0
StopsReading Open later a b = (accepted : ℕ) × (later ≡ Stopped accepted) × Calls a b (Accepted accepted)
StopsReading (Stopped accepted) later a b = (later ≡ Stopped accepted) × (b ≡ a)
StopsReading Drained later a b = (later ≡ Drained) × (b ≡ a)

-- the run is stopped for the input
pub record StopsInput (x y : InputAt) : Type 0 where
  pub input : y.input ≡ record x.input { stop = y.input.stop }
  pub stops : StopsReading x.input.stop y.input.stop x.port y.port

-- an event of the run with this start number was got
abbrev pub is_of_run : (start : ℕ) → Received → Bool
is_of_run start (Got place s) = start == s
is_of_run start reply = false

-- nothing is left of what the buffer took before the stop
abbrev pub drains : (accepted : ℕ) → Received → Bool
drains accepted (Got place start) = nat_le accepted place
drains accepted (Empty gate last) = true
drains accepted reply = false

-- how far the run is read behind a receive with this reply
abbrev pub stop_behind : InputStop → Received → InputStop
stop_behind Open reply = Open
stop_behind (Stopped accepted) reply = if drains accepted reply then Drained else Stopped accepted
stop_behind Drained reply = Drained

-- One receive by this request, with this reply: an event of the run is held.
pub record ReceivesInput (start : ℕ) (q : InputRequest) (reply : Received) (x y : InputAt) : Type 0 where
  pub event : HeldEvent
  pub room : event.room ≡ x.input.event.room
  pub receives : Receives x.port y.port q.client x.input.event.room reply event.event
  pub input : y.input ≡ record x.input { held = is_of_run start reply; stop = stop_behind x.input.stop reply; event = event }

-- What is held.

abbrev pub is_held : BuilderInput → Bool
is_held x = x.held

abbrev pub is_drained : InputStop → Bool
is_drained Open = false
is_drained (Stopped accepted) = false
is_drained Drained = true

-- all was read, and nothing of it is held
abbrev pub is_done : BuilderInput → Bool
is_done x = is_drained x.stop && not x.held

-- the events that were got last
abbrev pub last_events : List BuilderInput → List Event
last_events inputs = map (λ (x : BuilderInput). x.event.event) inputs

-- the input, once it holds nothing
abbrev pub let_go : BuilderInput → BuilderInput
let_go x = record x { held = false }

-- an input that was never read
abbrev pub new_input : (room : ℕ) → (front : ℕ) → BuilderInput
new_input room front = record { front = front; client = None; request = None; held = false; stop = Open; event = empty_buf room }
