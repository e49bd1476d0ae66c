-- In each call of a builder there are as many inputs and ports behind it as before, and its output has the same size.
use Rattle.std.specs.Prelude.{◌≡◌, ◌==◌, ℕ, Bool, true, false, List, length, map, Option, Some, None, Result, Ok, Err, refl}
use Rattle.std.specs.List.{list_any, list_all}
use Rattle.std.proofs.Common.{ap, ◌∙◌}
use Rattle.std.proofs.lemmas.List.{length-map}
use Rattle.daq_types.specs.declared.runs.Order.{Order}
use Rattle.daq_types.specs.declared.runs.RunState.{RunState}
use Rattle.daq_types.specs.declared.runs.RunState.TheVariants.{Stopped, Paused, Running}
use Rattle.daq_types.specs.declared.runs.Transition.{Transition}
use Rattle.daq_types.specs.declared.runs.Transition.TheVariants.{Start, Stop, Pause, Resume, StartAbort}
use Rattle.buffer_core.specs.declared.replies.SendRefusal.{SendRefusal}
use Rattle.buffer_core.specs.declared.replies.SendRefusal.TheVariants.{NotRunning, BadSize, ReservedId, TooLarge, Spent, Full}
use Rattle.buffer_core.specs.Ports.{Access}
use Rattle.member_model.specs.RunEngines.{Answer}
use Rattle.transitions.specs.declared.answers.Answer.TheVariants.{Yes, No}
use Rattle.event_builder.specs.declared.answers.BuildPull.{BuildPull}
use Rattle.event_builder.specs.declared.answers.BuildStep.{BuildStep}
use Rattle.event_builder.specs.declared.build_run.BuildFault.{BuildFault}
use Rattle.event_builder.specs.declared.build_run.BuiltEnd.{BuiltEnd}
use Rattle.event_builder.specs.declared.build_run.BuildRun.{BuildRun}
use Rattle.event_builder.specs.declared.inputs.InputRequest.{InputRequest}
use Rattle.event_builder.specs.Inputs.{InputAt, InputsAt, StepsInput, StepsBelow, AsksInput, RefusesInput, ReceivesInput, is_held, is_done, let_go}
use Rattle.event_builder.specs.Builders.{BuilderAt, EndsWhere, EndsAfter}
use Rattle.event_builder.specs.BuilderTurns.{StaysBuilder, RefusesAt, AsksAll, StopsFrom, StopsRun, StopsOwnRun, StopsBuilder, TurnsBuilder}
use Rattle.event_builder.specs.BuilderPulls.{PullsHeld, PullsByRequest, PullsInput, PullsBuilder}
use Rattle.event_builder.specs.BuilderSends.{all_let_go, SendsBy, StepsHeld, StepsBuilder}
use Rattle.event_builder.proofs.Stepped.{as_many, as_many_ports}

-- as many inputs and ports
pub record AsMany (a b : InputsAt) : Type 0 where
  pub inputs : length b.inputs ≡ length a.inputs
  pub ports : length b.ports ≡ length a.ports

is_many : (a b : InputsAt) → b ≡ a → AsMany a b
is_many a b same = record { inputs = ap (λ (m : InputsAt). length m.inputs) same; ports = ap (λ (m : InputsAt). length m.ports) same }

then_many : (a m b : InputsAt) → AsMany a m → AsMany m b → AsMany a b
then_many a m b one two = record { inputs = two.inputs ∙ one.inputs; ports = two.ports ∙ one.ports }

below_many : (Step : InputAt → InputAt → Type 0) (count : ℕ) (a b : InputsAt) → StepsBelow Step count a b → AsMany a b
below_many Step count a b steps = record { inputs = steps.inputs_many; ports = steps.ports_many }

one_many : (Step : InputAt → InputAt → Type 0) (number : ℕ) (a b : InputsAt) → StepsInput Step number a b → AsMany a b
one_many Step number a b step = record { inputs = as_many Step number a b step; ports = as_many_ports Step number a b step }

stays_many : (a b : BuilderAt) → StaysBuilder a b → AsMany a.at b.at
stays_many a b stays = is_many a.at b.at stays.1

-- Turns.

asks_many : (given : Answer) (start : ℕ) (run : Option BuildRun) (a b : InputsAt) → AsksAll given start run a b → AsMany a b
asks_many (Yes tally) start run a b asks = below_many AsksInput (length a.inputs) a b asks.2
asks_many (No why) start run a b asks =
    let undone : RefusesAt asks.2.0 a b = asks.2.1 in
    then_many a undone.asked b (below_many _ _ a undone.asked undone.asks)
    (then_many undone.asked undone.refused b (one_many RefusesInput _ undone.asked undone.refused undone.refuses) (below_many _ _ undone.refused b undone.cancels))

from_many : (from : RunState) (r : BuildRun) (a b : BuilderAt) → StopsFrom from r a b → AsMany a.at b.at
from_many Paused r a b stops = below_many _ _ a.at b.at stops.cancels
from_many Stopped r a b stops = below_many _ _ a.at b.at stops.1
from_many Running r a b stops = below_many _ _ a.at b.at stops.1

stop_many : (ended : Option BuiltEnd) (from : RunState) (r : BuildRun) (a b : BuilderAt) → StopsRun ended from r a b → AsMany a.at b.at
stop_many (Some ended) from r a b stops = is_many a.at b.at stops.1
stop_many None from r a b stops = from_many from r a b stops

own_many : (own : Bool) (from : RunState) (r : BuildRun) (a b : BuilderAt) (answer : Option Answer) → StopsOwnRun own from r a b answer → AsMany a.at b.at
own_many true from r a b answer stops = stop_many r.ended from r a b stops.1
own_many false from r a b answer stops = stays_many a b stops.1

stops_many : (run : Option BuildRun) (order : Order) (a b : BuilderAt) (answer : Option Answer) → StopsBuilder run order a b answer → AsMany a.at b.at
stops_many None order a b answer stops = stays_many a b stops.1
stops_many (Some r) order a b answer stops = own_many (r.start == order.start) order.from r a b answer stops

pub turn_many : (transition : Transition) (order : Order) (a b : BuilderAt) (answer : Option Answer) → TurnsBuilder transition order a b answer → AsMany a.at b.at
turn_many Start order a b answer turns =
    then_many a.at turns.2.dropped b.at (below_many _ _ a.at turns.2.dropped turns.2.drops) (asks_many turns.0 order.start b.run turns.2.dropped b.at turns.2.asks)
turn_many Stop order a b answer turns = stops_many a.run order a b answer turns
turn_many Pause order a b answer turns = stays_many a b turns.1
turn_many Resume order a b answer turns = stays_many a b turns.1
turn_many StartAbort order a b answer turns = below_many _ _ a.at b.at turns.2

-- Ends.

where_many : (done : Bool) (r : BuildRun) (later : Option BuildRun) (a b : InputsAt) → EndsWhere done r later a b → AsMany a b
where_many true r later a b ends = below_many _ _ a b ends.cancels
where_many false r later a b ends = is_many a b ends.1

after_many : (fault : Option BuildFault) (r : BuildRun) (later : Option BuildRun) (a b : InputsAt) → EndsAfter fault r later a b → AsMany a b
after_many (Some fault) r later a b ends = below_many _ _ a b ends.cancels
after_many None r later a b ends = where_many (list_any is_done a.inputs) r later a b ends

-- Pulls.

held_many : (held : Bool) (number limit : ℕ) (r : BuildRun) (q : InputRequest) (a b : BuilderAt) (answer : BuildPull) → PullsHeld held number limit r q a b answer → AsMany a.at b.at
held_many true number limit r q a b answer pulls = stays_many a b pulls.1
held_many false number limit r q a b answer pulls =
    then_many a.at pulls.middle b.at (one_many (ReceivesInput r.start q pulls.reply) number a.at pulls.middle pulls.receives) (after_many pulls.fault r b.run pulls.middle b.at pulls.ends)

asked_many : (request : Option InputRequest) (held : Bool) (number limit : ℕ) (r : BuildRun) (a b : BuilderAt) (answer : BuildPull) → PullsByRequest request held number limit r a b answer → AsMany a.at b.at
asked_many None held number limit r a b answer pulls = stays_many a b pulls.1
asked_many (Some q) held number limit r a b answer pulls = held_many held number limit r q a b answer pulls

pub pull_many : (number limit : ℕ) (a b : BuilderAt) (answer : BuildPull) → PullsBuilder number limit a b answer → AsMany a.at b.at
pull_many number limit a b answer pulls = run_many a.run pulls.pulls
  where
    run_many : (run : Option BuildRun) → PullsInput run pulls.input number limit a b answer → AsMany a.at b.at
    run_many None p = stays_many a b p.1
    run_many (Some r) p = asked_many pulls.input.request pulls.input.held number limit r a b answer p

-- Steps.

gone_many : (a : InputsAt) → AsMany a (all_let_go a)
gone_many a = record { inputs = length-map a.inputs let_go; ports = refl }

sent_many : (reply : Result ℕ SendRefusal) (r : BuildRun) (a b : BuilderAt) (answer : BuildStep) → SendsBy reply r a b answer → AsMany a.at b.at
sent_many (Ok place) r a b answer sends = then_many a.at (all_let_go a.at) b.at (gone_many a.at) (where_many (list_any is_done (all_let_go a.at).inputs) _ b.run (all_let_go a.at) b.at sends.1)
sent_many (Err (Full client place)) r a b answer sends = stays_many a b sends.1
sent_many (Err (NotRunning gate)) r a b answer sends = stays_many a b sends.1
sent_many (Err (Spent total)) r a b answer sends = below_many _ _ a.at b.at sends.1.cancels
sent_many (Err (BadSize stated given)) r a b answer sends = absurd sends
sent_many (Err (ReservedId i)) r a b answer sends = absurd sends
sent_many (Err (TooLarge slot size)) r a b answer sends = absurd sends

whole_many : (whole : Bool) (id mask : ℕ) (r : BuildRun) (output later : Access) (a b : BuilderAt) (answer : BuildStep) → StepsHeld whole id mask r output later a b answer → AsMany a.at b.at
whole_many true id mask r output later a b answer steps = sent_many steps.reply r a b answer steps.then
whole_many false id mask r output later a b answer steps = stays_many a b steps.1

pub step_many : (run : Option BuildRun) (id mask : ℕ) (output later : Access) (a b : BuilderAt) (answer : BuildStep) → StepsBuilder run id mask output later a b answer → AsMany a.at b.at
step_many None id mask output later a b answer steps = stays_many a b steps.1
step_many (Some r) id mask output later a b answer steps = whole_many (list_all is_held a.at.inputs) id mask r output later a b answer steps

whole_size : (whole : Bool) (id mask : ℕ) (r : BuildRun) (output later : Access) (a b : BuilderAt) (answer : BuildStep) → StepsHeld whole id mask r output later a b answer → later.size ≡ output.size
whole_size true id mask r output later a b answer steps = steps.sends.size
whole_size false id mask r output later a b answer steps = ap (λ (p : Access). p.size) steps.2

pub step_size : (run : Option BuildRun) (id mask : ℕ) (output later : Access) (a b : BuilderAt) (answer : BuildStep) → StepsBuilder run id mask output later a b answer → later.size ≡ output.size
step_size None id mask output later a b answer steps = ap (λ (p : Access). p.size) steps.2
step_size (Some r) id mask output later a b answer steps = whole_size (list_all is_held a.at.inputs) id mask r output later a b answer steps
