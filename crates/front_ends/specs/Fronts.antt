-- A front-end as its calls see it: what each turn is answered, what a step sends, and the run after it.
use Rattle.std.specs.Prelude.{◌≡◌, ℕ, suc, ◌==◌, ◌≤◌, Bool, true, false, ◌&&◌, ◌||◌, not, nat_le, is_some, if◌then◌else◌, List, length, Option, Some, None, Result, Ok, Err, ⊤}
use Rattle.std.specs.Option.{option_map}
use Rattle.daq_types.specs.declared.events.Event.{Event}
use Rattle.daq_types.specs.declared.runs.Order.{Order}
use Rattle.daq_types.specs.declared.runs.RunState.{RunState}
use Rattle.daq_types.specs.declared.runs.RunState.TheVariants.{Stopped, Paused, Running}
use Rattle.daq_types.specs.declared.runs.Transition.{Transition}
use Rattle.daq_types.specs.declared.runs.Transition.TheVariants.{Start, Stop, Pause, Resume, StartAbort}
use Rattle.daq_types.specs.declared.runs.FrontEnded.{FrontEnded}
use Rattle.daq_types.specs.declared.runs.FrontEnded.TheVariants.{Quota, Paused as EndedPaused, Spent as EndedSpent}
use Rattle.daq_types.specs.declared.runs.Why.TheVariants.{NotReady}
use Rattle.buffer_core.specs.declared.replies.SendRefusal.{SendRefusal}
use Rattle.buffer_core.specs.declared.replies.SendRefusal.TheVariants.{NotRunning, Full, Spent}
use Rattle.buffer_core.specs.declared.entry.BufferEntry.TheVariants.{SendInRun}
use Rattle.buffer_core.specs.Ports.{Access, Calls}
use Rattle.transitions.specs.declared.answers.Answer.TheVariants.{Yes, No}
use Rattle.member_model.specs.RunEngines.{Answer, Tally}
use Rattle.transitions.specs.declared.answers.Tally.TheVariants.{Plain, Front}
use Rattle.member_model.specs.Turns.{MemberTurn}
use Rattle.front_ends.specs.declared.front_run.FrontRun.{FrontRun}
use Rattle.front_ends.specs.declared.front_step.FrontStep.{FrontStep}
use Rattle.front_ends.specs.declared.front_step.FrontStep.TheVariants.{Sent, Held, Shut, Spent as StepSpent}

-- its equipment, and the run whose start it accepted, until that is over
pub record FrontState (E : Type 0) : Type 0 where
  pub equipment : E
  pub run : Option FrontRun

-- no more events were sent than the run wants
abbrev pub IsWithinQuota : Option FrontRun → Type 0
IsWithinQuota None = ⊤
IsWithinQuota (Some r) = r.sent ≤ r.order.quota

-- nothing more is to be sent in the run: its quota was sent, or the buffer is spent
abbrev pub is_done : FrontRun → Bool
is_done r = nat_le r.order.quota r.sent || is_some r.spent

-- an event is to be sent
abbrev pub is_at_work : Option FrontRun → Bool
is_at_work None = false
is_at_work (Some r) = not r.paused && not (is_done r)

-- how many events were sent in the run with this start number, where it is the front-end's
abbrev pub events_sent : Option FrontRun → (start : ℕ) → ℕ
events_sent None start = 0
events_sent (Some r) start = if r.order.start == start then r.sent else 0

-- Turns.

abbrev pub is_from_pause : RunState → Bool
is_from_pause Stopped = false
is_from_pause Paused = true
is_from_pause Running = false

abbrev pub front_ended : (spent : Option ℕ) → (paused : Bool) → FrontEnded
front_ended (Some total) paused = EndedSpent total
front_ended None true = EndedPaused
front_ended None false = Quota

-- what is told at a stop in this state: the number sent; and that the buffer was spent, else that the run was paused, else
-- that the quota was sent
abbrev pub front_tally : FrontRun → RunState → Tally
front_tally r from = Front r.sent (front_ended r.spent (is_from_pause from))

-- a new run
abbrev pub begun_run : Order → FrontRun
begun_run order = record { order = order; paused = false; sent = 0; spent = None; stop = None }

-- a stop is of this run
abbrev pub is_stop_of : FrontRun → Order → Bool
is_stop_of r order = r.order.start == order.start

-- and it can be answered at once: nothing more is to be sent, or the run is paused
abbrev pub is_over : FrontRun → Order → Bool
is_over r order = is_done r || is_from_pause order.from

abbrev pub stop_answer : Option FrontRun → Order → Option Answer
stop_answer None order = Some (Yes Plain)
stop_answer (Some r) order =
    if is_stop_of r order
    then (if is_over r order then Some (Yes (front_tally r order.from)) else None)
    else Some (Yes Plain)

-- What a turn is answered. A start is refused where the equipment does not take part in it; a stop of the run waits until
-- nothing more is to be sent, but not where the run is paused; any other turn is answered at once.
abbrev pub front_answer : (takes : Bool) → Option FrontRun → Transition → Order → Option Answer
front_answer takes run Start order = Some (if takes then Yes Plain else No NotReady)
front_answer takes run Stop order = stop_answer run order
front_answer takes run Pause order = Some (Yes Plain)
front_answer takes run Resume order = Some (Yes Plain)
front_answer takes run StartAbort order = Some (Yes Plain)

abbrev pub paused_run : Bool → FrontRun → FrontRun
paused_run paused r = record { order = r.order; paused = paused; sent = r.sent; spent = r.spent; stop = r.stop }

abbrev pub stopping_run : Order → FrontRun → FrontRun
stopping_run order r = record { order = r.order; paused = r.paused; sent = r.sent; spent = r.spent; stop = Some order }

abbrev pub stopped_run : Option FrontRun → Order → Option FrontRun
stopped_run None order = None
stopped_run (Some r) order =
    if is_stop_of r order
    then (if is_over r order then None else Some (stopping_run order r))
    else Some r

-- the run after a turn
abbrev pub run_after : (takes : Bool) → Option FrontRun → Transition → Order → Option FrontRun
run_after takes run Start order = if takes then Some (begun_run order) else run
run_after takes run Stop order = stopped_run run order
run_after takes run Pause order = option_map (paused_run true) run
run_after takes run Resume order = option_map (paused_run false) run
run_after takes run StartAbort order = None

abbrev pub finish_with : (stop : Option Order) → FrontRun → Option Answer
finish_with None r = None
finish_with (Some order) r = if is_done r then Some (Yes (front_tally r order.from)) else None

-- what a stop that waits is answered, once nothing more is to be sent
abbrev pub finish_answer : Option FrontRun → Option Answer
finish_answer None = None
finish_answer (Some r) = finish_with r.stop r

-- the run is over once its stop is answered
abbrev pub run_finished : Option FrontRun → Option Answer → Option FrontRun
run_finished run None = run
run_finished run (Some answer) = None

-- the turn that the front-end was given; a dump that came with it is passed over
abbrev pub front_turn : (dump : Option (List ℕ)) → Transition → Order → Option Answer → MemberTurn
front_turn dump transition order answer = record { transition = transition; order = order; dump = dump; answer = answer }

-- Steps.

-- the step tells the reply of its send; the replies that are left never come
abbrev pub IsStepOf : Result ℕ SendRefusal → FrontStep → Type 0
IsStepOf (Ok place) step = step ≡ Sent place
IsStepOf (Err (Full client place)) step = step ≡ Held client place
IsStepOf (Err (NotRunning gate)) step = step ≡ Shut gate
IsStepOf (Err (Spent total)) step = step ≡ StepSpent total
IsStepOf (Err refusal) step = ⊥

-- the reply is one that a send of an equipment's event gets
abbrev pub HasStep : Result ℕ SendRefusal → Type 0
HasStep (Ok place) = ⊤
HasStep (Err (Full client place)) = ⊤
HasStep (Err (NotRunning gate)) = ⊤
HasStep (Err (Spent total)) = ⊤
HasStep (Err refusal) = ⊥

-- the run after a send: one event more, or the buffer is spent, or as it was
abbrev pub run_sent : Result ℕ SendRefusal → FrontRun → FrontRun
run_sent (Ok place) r = record { order = r.order; paused = r.paused; sent = suc r.sent; spent = r.spent; stop = r.stop }
run_sent (Err (Spent total)) r = record { order = r.order; paused = r.paused; sent = r.sent; spent = Some total; stop = r.stop }
run_sent reply r = r

-- One call was made: the next event of the run was sent in it.
pub record SendsNext (makes : Order → ℕ → Event) (before after : Option FrontRun) (a b : Access) (step : FrontStep) : Type 0 where
  pub run : FrontRun
  pub reply : Result ℕ SendRefusal
  pub of : before ≡ Some run
  pub sent : let event : Event = makes run.order (suc run.sent) in Calls a b (SendInRun run.order.start (length event.body) event reply)
  pub step_is : IsStepOf reply step
  pub after_is : after ≡ Some (run_sent reply run)
