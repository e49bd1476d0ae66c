-- Which transition is allowed in which run state, and the state behind it.
use Rattle.std.specs.Prelude.{Bool, true, false}
use Rattle.daq_types.specs.declared.runs.RunState.{RunState}
use Rattle.daq_types.specs.declared.runs.RunState.TheVariants.{Stopped, Paused, Running}
use Rattle.daq_types.specs.declared.runs.Transition.{Transition}
use Rattle.daq_types.specs.declared.runs.Transition.TheVariants.{Start, Stop, Pause, Resume, StartAbort}

-- a start from stopped, a stop from running or paused, a pause from running, a resume from paused, and nothing else
abbrev pub is_allowed : RunState → Transition → Bool
is_allowed Stopped Start = true
is_allowed Running Stop = true
is_allowed Paused Stop = true
is_allowed Running Pause = true
is_allowed Paused Resume = true
is_allowed state transition = false

-- a start and a resume lead to running, a stop to stopped, a pause to paused; the call-off of a start changes nothing
abbrev pub run_state_after : RunState → Transition → RunState
run_state_after state Start = Running
run_state_after state Stop = Stopped
run_state_after state Pause = Paused
run_state_after state Resume = Running
run_state_after state StartAbort = state
