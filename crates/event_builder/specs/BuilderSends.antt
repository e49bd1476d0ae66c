-- What a builder does when it sends.
use Rattle.std.specs.Prelude.{◌≡◌, ℕ, suc, Bool, true, false, List, length, map, slice_get, slice_set, Option, Some, None, Result, Ok, Err, ⊤}
use Rattle.std.specs.List.{list_all}
use Rattle.daq_types.specs.declared.events.Event.{Event}
use Rattle.buffer_core.specs.declared.replies.SendRefusal.{SendRefusal}
use Rattle.buffer_core.specs.declared.replies.SendRefusal.TheVariants.{NotRunning, BadSize, ReservedId, TooLarge, Spent, Full}
use Rattle.buffer_core.specs.declared.entry.BufferEntry.TheVariants.{SendInRun}
use Rattle.buffer_core.specs.Ports.{Access, Calls}
use Rattle.event_builder.specs.declared.answers.BuildStep.{BuildStep}
use Rattle.event_builder.specs.declared.answers.BuildStep.TheVariants.{Sent, Held, Shut, Spent as Ends, NoWork}
use Rattle.event_builder.specs.declared.build_run.BuiltEnd.TheVariants.{Spent as EndSpent}
use Rattle.event_builder.specs.declared.build_run.BuildRun.{BuildRun}
use Rattle.event_builder.specs.declared.inputs.BuilderInput.{BuilderInput}
use Rattle.event_builder.specs.Joined.{IsBuilt}
use Rattle.event_builder.specs.Inputs.{InputsAt, inputs_at, is_held, last_events, let_go}
use Rattle.event_builder.specs.Builders.{BuilderState, BuilderAt, EndsRun, EndsIfDone, builder_at, at_call}
use Rattle.event_builder.specs.BuilderTurns.{StaysBuilder}

-- the run, once one built event more was sent
abbrev pub run_sent : BuildRun → BuildRun
run_sent r = record r { sent = suc r.sent }

-- the input of this number holds nothing now
abbrev pub LetsGoAt : (number : ℕ) → List BuilderInput → (later : List BuilderInput) → Type 0
LetsGoAt number inputs later = (x : BuilderInput) × (slice_get inputs number ≡ Some x) × (later ≡ slice_set inputs number (let_go x))

-- each input, once it holds nothing
abbrev pub all_let_go : InputsAt → InputsAt
all_let_go a = inputs_at (map let_go a.inputs) a.ports

-- a reply to a send in a run of an event that may stand in the buffer
abbrev pub IsWaitReply : Result ℕ SendRefusal → Type 0
IsWaitReply (Err (BadSize stated given)) = ⊥
IsWaitReply (Err (ReservedId id)) = ⊥
IsWaitReply (Err (TooLarge slot size)) = ⊥
IsWaitReply reply = ⊤

-- What becomes of the events that are held, by the reply to the send: an accepted one lets go of them; where it has to wait,
-- they stay; and where the buffer is spent, the run has ended. There is no other reply.
abbrev pub SendsBy : Result ℕ SendRefusal → BuildRun → (a b : BuilderAt) → BuildStep → Type 0
SendsBy (Ok place) r a b answer = (answer ≡ Sent place) × EndsIfDone (run_sent r) b.run (all_let_go a.at) b.at
SendsBy (Err (Full client place)) r a b answer = (answer ≡ Held client place) × StaysBuilder a b
SendsBy (Err (NotRunning gate)) r a b answer = (answer ≡ Shut gate) × StaysBuilder a b
SendsBy (Err (Spent total)) r a b answer = (answer ≡ Ends total) × EndsRun (EndSpent total) r b.run a.at b.at
SendsBy (Err (BadSize stated given)) r a b answer = ⊥
SendsBy (Err (ReservedId id)) r a b answer = ⊥
SendsBy (Err (TooLarge slot size)) r a b answer = ⊥

-- the run behind a send with this reply, and what is answered
abbrev pub EndsSend : Result ℕ SendRefusal → BuildRun → (told : BuildRun × BuildStep) → (a b : InputsAt) → Type 0
EndsSend reply r told a b = SendsBy reply r (builder_at (Some r) a) (builder_at (Some told.0) b) told.1

-- One call on the output: the event built of those that are held is sent in the run, as the next one.
pub record SendsBuilt (id mask : ℕ) (r : BuildRun) (output later : Access) (a b : BuilderAt) (answer : BuildStep) : Type 0 where
  pub event : Event
  pub reply : Result ℕ SendRefusal
  pub built : IsBuilt id mask (suc r.sent) (last_events a.at.inputs) event
  pub sends : Calls output later (SendInRun r.start (length event.body) event reply)
  pub then : SendsBy reply r a b answer

abbrev pub StepsHeld : (whole : Bool) → (id mask : ℕ) → BuildRun → (output later : Access) → (a b : BuilderAt) → BuildStep → Type 0
StepsHeld true id mask r output later a b answer = SendsBuilt id mask r output later a b answer
StepsHeld false id mask r output later a b answer = (answer ≡ NoWork) × StaysBuilder a b × (later ≡ output)

-- A step: without a run, or where some input holds no event, nothing is done.
abbrev pub StepsBuilder : Option BuildRun → (id mask : ℕ) → (output later : Access) → (a b : BuilderAt) → BuildStep → Type 0
StepsBuilder None id mask output later a b answer = (answer ≡ NoWork) × StaysBuilder a b × (later ≡ output)
StepsBuilder (Some r) id mask output later a b answer = StepsHeld (list_all is_held a.at.inputs) id mask r output later a b answer

-- a step of this builder, with what the ports of its inputs and that of its output tell
abbrev pub StepsOver : {P Q : Type 0} → (access : P → Access) → (sender : Q → Access) → BuilderState → List P → Q → (later : BuilderState) → List P → Q → BuildStep → Type 0
StepsOver access sender b ports output later later_ports later_output answer =
    StepsBuilder b.run b.id b.mask (sender output) (sender later_output) (at_call access b ports) (at_call access later later_ports) answer
