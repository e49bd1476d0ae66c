-- What the main thread's own calls allow, and where a run is on.
use Rattle.std.specs.Prelude.{◌≡◌, ◌≢◌, ◌⊎◌, ℕ, ◌+◌, nat_lt, Bool, true, false, is_ok, IsOk, if◌then◌else◌, Option, Some, None, Result, Ok, Err, refl}
use Rattle.std.proofs.Common.{ap, sym, ◌∙◌, inl, inr}
use Rattle.daq_types.specs.declared.runs.RunState.{RunState}
use Rattle.daq_types.specs.declared.runs.RunState.TheVariants.{Stopped, Paused, Running}
use Rattle.daq_types.specs.declared.runs.StartOutcome.{StartOutcome}
use Rattle.daq_types.specs.declared.runs.StartOutcome.TheVariants.{Completed, Refused}
use Rattle.daq_types.specs.declared.runs.Why.{Why}
use Rattle.daq_types.specs.declared.runs.Transition.{Transition}
use Rattle.daq_types.specs.declared.runs.Transition.TheVariants.{Start, Stop, Pause, Resume, StartAbort}
use Rattle.transitions.specs.States.{is_allowed}
use Rattle.transitions.specs.declared.replies.BeginRefusal.{BeginRefusal}
use Rattle.transitions.specs.declared.replies.BeginRefusal.TheVariants.{Closed as BeginClosed, WrongState, LastStart}
use Rattle.transitions.specs.EngineCalls.{start_reply}
use Rattle.transitions.specs.Limits.{last_start_number}
use Rattle.session_runs.specs.MainKnowledge.{MainKnows, begin_known, begin_known_in, known_behind, state_behind}
use Rattle.session_runs.specs.declared.on.CurrentRun.{CurrentRun}
use Rattle.session_runs.specs.KeptRuns.{IsInStep}

abbrev in_state : (state : RunState) → (t : Transition) → (starts : ℕ) → Result ℕ BeginRefusal
in_state state t starts = if is_allowed state t then start_reply t starts else Err (WrongState state)

-- the reply of a begin between two transitions
pub between_reply : (k : MainKnows) (t : Transition) → k.closed ≡ false → k.going ≡ None → begin_known k t ≡ in_state k.state t k.starts
between_reply k t open_yet none =
    ap (λ (b : Bool). if b then Err BeginClosed else begin_known_in k.going k.state k.starts t) open_yet
    ∙ ap (λ (g : Option Transition). begin_known_in g k.state k.starts t) none

chosen_ok : (b : Bool) (state : RunState) (t : Transition) (starts : ℕ) → IsOk (if b then start_reply t starts else Err (WrongState state)) → b ≡ true
chosen_ok true state t starts is = refl
chosen_ok false state t starts is = absurd (cc (is))

-- what would begin is allowed
pub allowed_then : (k : MainKnows) (t : Transition) → k.closed ≡ false → k.going ≡ None → IsOk (begin_known k t) → is_allowed k.state t ≡ true
allowed_then k t open_yet none is =
    chosen_ok (is_allowed k.state t) k.state t k.starts (ap (λ (r : Result ℕ BeginRefusal). is_ok r) (sym (between_reply k t open_yet none)) ∙ is)

limited : (b : Bool) (starts : ℕ) (why : BeginRefusal) → (if b then Ok (starts + 1) else Err LastStart) ≡ Err why → why ≡ LastStart
limited true starts why is = absurd (cc (is))
limited false starts why is = cc (is)

-- a begin that the state allows is refused for the last start number alone
start_refused : (t : Transition) (starts : ℕ) (why : BeginRefusal) → start_reply t starts ≡ Err why → why ≡ LastStart
start_refused Start starts why is = limited (nat_lt starts last_start_number) starts why is
start_refused Stop starts why is = absurd (cc (is))
start_refused Pause starts why is = absurd (cc (is))
start_refused Resume starts why is = absurd (cc (is))
start_refused StartAbort starts why is = absurd (cc (is))

refused_in : (b : Bool) (state : RunState) (t : Transition) (starts : ℕ) (why : BeginRefusal) → (if b then start_reply t starts else Err (WrongState state)) ≡ Err why → (why ≡ LastStart) ⊎ (why ≡ WrongState state)
refused_in true state t starts why is = inl (start_refused t starts why is)
refused_in false state t starts why is = inr (cc (is))

-- what is refused between two transitions is refused for the state or for the start number
pub refused_for : (k : MainKnows) (t : Transition) (why : BeginRefusal) → k.closed ≡ false → k.going ≡ None → begin_known k t ≡ Err why → (why ≡ LastStart) ⊎ (why ≡ WrongState k.state)
refused_for k t why open_yet none is = refused_in (is_allowed k.state t) k.state t k.starts why (sym (between_reply k t open_yet none) ∙ is)

from_stopped : (state : RunState) → is_allowed state Start ≡ true → state ≡ Stopped
from_stopped Stopped is = refl
from_stopped Paused is = absurd (cc (is))
from_stopped Running is = absurd (cc (is))

not_on : (on : Option CurrentRun) (k : MainKnows) → IsInStep on k → k.state ≡ Stopped → on ≡ None
not_on None k step is = refl
not_on (Some r) k step is = absurd (step.0 is)

-- where a start would begin, no run is on
pub none_on : (on : Option CurrentRun) (k : MainKnows) → k.closed ≡ false → k.going ≡ None → IsInStep on k → IsOk (begin_known k Start) → on ≡ None
none_on on k open_yet none step begins = not_on on k step (from_stopped k.state (allowed_then k Start open_yet none begins))

-- Stops.

stop_allowed : (state : RunState) → state ≢ Stopped → is_allowed state Stop ≡ true
stop_allowed Stopped on = absurd (on refl)
stop_allowed Paused on = refl
stop_allowed Running on = refl

chosen : (b : Bool) (state : RunState) (starts : ℕ) → b ≡ true → (if b then Ok starts else Err (WrongState state)) ≡ Ok starts
chosen true state starts is = refl
chosen false state starts is = absurd (cc (is))

-- where a run is on, its stop would begin
pub stop_begins : (r : CurrentRun) (k : MainKnows) → k.closed ≡ false → k.going ≡ None → IsInStep (Some r) k → begin_known k Stop ≡ Ok r.start
stop_begins r k open_yet none step =
    between_reply k Stop open_yet none ∙ (chosen (is_allowed k.state Stop) k.state k.starts (stop_allowed k.state step.0) ∙ ap (λ (n : ℕ). Ok n) step.1)

-- where none is, a stop is refused
pub stop_refused : (k : MainKnows) → k.closed ≡ false → k.going ≡ None → IsInStep None k → begin_known k Stop ≡ Err (WrongState k.state)
stop_refused k open_yet none step =
    between_reply k Stop open_yet none ∙ (ap (λ (state : RunState). in_state state Stop k.starts) step ∙ ap (λ (state : RunState). Err (WrongState state)) (sym step))

-- Starts.

-- behind a start that came about the state is not stopped
pub started_on : (own later : MainKnows) (outcome : StartOutcome) → later ≡ known_behind Start outcome own → outcome ≡ Completed → later.state ≢ Stopped
started_on own later outcome is done stopped =
    let running : later.state ≡ Running =
    ap (λ (k : MainKnows). k.state) is ∙ ap (λ (o : StartOutcome). state_behind o (Some Start) own.state) done in
    absurd (cc (running, stopped))

-- a start that was refused leaves the state
pub refused_same : (own later : MainKnows) (outcome : StartOutcome) (client : ℕ) (why : Why) → later ≡ known_behind Start outcome own → outcome ≡ Refused client why → later.state ≡ own.state
refused_same own later outcome client why is done =
    ap (λ (k : MainKnows). k.state) is ∙ ap (λ (o : StartOutcome). state_behind o (Some Start) own.state) done
