-- What a builder does at its turns: the calls that it makes on its inputs, its answer, and the run behind it.
use Rattle.std.specs.Prelude.{◌≡◌, ◌<◌, ℕ, ◌==◌, Bool, true, false, List, length, Option, Some, None}
use Rattle.daq_types.specs.declared.runs.Order.{Order}
use Rattle.daq_types.specs.declared.runs.RunState.{RunState}
use Rattle.daq_types.specs.declared.runs.RunState.TheVariants.{Stopped, Paused as FromPaused, Running}
use Rattle.daq_types.specs.declared.runs.Transition.{Transition}
use Rattle.daq_types.specs.declared.runs.Transition.TheVariants.{Start, Stop, Pause, Resume, StartAbort}
use Rattle.daq_types.specs.declared.runs.Why.TheVariants.{BufferRefused}
use Rattle.buffer_core.specs.Ports.{Access}
use Rattle.member_model.specs.RunEngines.{Answer}
use Rattle.transitions.specs.declared.answers.Answer.TheVariants.{Yes, No}
use Rattle.transitions.specs.declared.answers.Tally.TheVariants.{Plain}
use Rattle.event_builder.specs.declared.build_run.BuiltEnd.{BuiltEnd}
use Rattle.event_builder.specs.declared.build_run.BuiltEnd.TheVariants.{Paused}
use Rattle.event_builder.specs.declared.build_run.BuildRun.{BuildRun}
use Rattle.event_builder.specs.declared.inputs.BuilderInput.{BuilderInput}
use Rattle.event_builder.specs.Inputs.{InputsAt, StepsInput, StepsBelow, EachInput, InputsStep, AsksInput, RefusesInput, CancelsInput, StopsInput}
use Rattle.event_builder.specs.Builders.{BuilderState, BuilderAt, EndsRun, at_call, begun_run}

-- nothing is called, and nothing changes
abbrev pub StaysBuilder : BuilderAt → BuilderAt → Type 0
StaysBuilder a b = (b.run ≡ a.run) × (b.at ≡ a.at)

-- Starts.

-- The inputs below this number were granted their requests, and this one was refused its client or its request: then the
-- requests of those below are cancelled.
pub record RefusesAt (number : ℕ) (a b : InputsAt) : Type 0 where
  pub asked : InputsAt
  pub refused : InputsAt
  pub asks : StepsBelow AsksInput number a asked
  pub refuses : StepsInput RefusesInput number asked refused
  pub cancels : StepsBelow CancelsInput number refused b

-- the inputs below this number were granted their requests, and this one was refused its client or its request
abbrev pub RefusesFirst : (number : ℕ) → (a b : InputsAt) → Type 0
RefusesFirst number a b = (asked : InputsAt) × (number < length a.inputs) × StepsBelow AsksInput number a asked × StepsInput RefusesInput number asked b

-- the same, with what the ports tell
abbrev pub FirstRefused : {P : Type 0} → (access : P → Access) → List BuilderInput → List P → (later : List BuilderInput) → List P → (number : ℕ) → Type 0
FirstRefused access inputs ports later later_ports number = InputsStep access (RefusesFirst number) inputs ports later later_ports

-- some input was refused, and those before it are undone
abbrev pub RefusesSome : (a b : InputsAt) → Type 0
RefusesSome a b = (number : ℕ) × RefusesAt number a b

-- every input is granted its request, or the first that is not undoes those before it
abbrev pub AsksAll : Answer → (start : ℕ) → (run : Option BuildRun) → (a b : InputsAt) → Type 0
AsksAll (Yes tally) start run a b = (tally ≡ Plain) × (run ≡ Some (begun_run start)) × EachInput AsksInput a b
AsksAll (No why) start run a b = (why ≡ BufferRefused) × (run ≡ None) × RefusesSome a b

-- A start: a run that is still there is dropped, and the requests for the new one are made.
pub record StartsBuilder (start : ℕ) (a b : BuilderAt) (answer : Answer) : Type 0 where
  pub dropped : InputsAt
  pub drops : EachInput CancelsInput a.at dropped
  pub asks : AsksAll answer start b.run dropped b.at

-- Stops.

-- the run, once it was stopped
abbrev pub stopped_run : BuildRun → BuildRun
stopped_run r = record r { stopped = true }

-- the run goes on, until some input was read so far, unless it was stopped while it was paused
abbrev pub StopsFrom : RunState → BuildRun → (a b : BuilderAt) → Type 0
StopsFrom FromPaused r a b = EndsRun Paused (stopped_run r) b.run a.at b.at
StopsFrom Stopped r a b = (b.run ≡ Some (stopped_run r)) × EachInput StopsInput a.at b.at
StopsFrom Running r a b = (b.run ≡ Some (stopped_run r)) × EachInput StopsInput a.at b.at

-- where the run has ended already, no more is done
abbrev pub StopsRun : Option BuiltEnd → RunState → BuildRun → (a b : BuilderAt) → Type 0
StopsRun (Some ended) from r a b = (b.run ≡ Some (stopped_run r)) × (b.at ≡ a.at)
StopsRun None from r a b = StopsFrom from r a b

abbrev pub StopsOwnRun : (own : Bool) → RunState → BuildRun → (a b : BuilderAt) → Option Answer → Type 0
StopsOwnRun true from r a b answer = (answer ≡ None) × StopsRun r.ended from r a b
StopsOwnRun false from r a b answer = (answer ≡ Some (Yes Plain)) × StaysBuilder a b

-- A stop of the run of which events are built waits for its answer; any other is answered at once.
abbrev pub StopsBuilder : Option BuildRun → Order → (a b : BuilderAt) → Option Answer → Type 0
StopsBuilder None order a b answer = (answer ≡ Some (Yes Plain)) × StaysBuilder a b
StopsBuilder (Some r) order a b answer = StopsOwnRun (r.start == order.start) order.from r a b answer

-- What a turn does. A start-abort drops the run, and a pause or resume does nothing.
abbrev pub TurnsBuilder : Transition → Order → (a b : BuilderAt) → Option Answer → Type 0
TurnsBuilder Start order a b answer = (given : Answer) × (answer ≡ Some given) × StartsBuilder order.start a b given
TurnsBuilder Stop order a b answer = StopsBuilder a.run order a b answer
TurnsBuilder Pause order a b answer = (answer ≡ Some (Yes Plain)) × StaysBuilder a b
TurnsBuilder Resume order a b answer = (answer ≡ Some (Yes Plain)) × StaysBuilder a b
TurnsBuilder StartAbort order a b answer = (answer ≡ Some (Yes Plain)) × (b.run ≡ None) × EachInput CancelsInput a.at b.at

-- the same of this builder, with what these ports tell
abbrev pub TurnsOver : {P : Type 0} → (access : P → Access) → Transition → Order → BuilderState → List P → (later : BuilderState) → List P → Option Answer → Type 0
TurnsOver access transition order b ports later later_ports answer =
    TurnsBuilder transition order (at_call access b ports) (at_call access later later_ports) answer
