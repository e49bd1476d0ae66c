-- The bits of the transitions in masks, as MIDAS numbers them.
use Rattle.std.specs.Prelude.{ℕ}
use Rattle.daq_types.specs.declared.runs.Transition.{Transition}
use Rattle.daq_types.specs.declared.runs.Transition.TheVariants.{Start, Stop, Pause, Resume, StartAbort}

abbrev pub transition_bit : Transition → ℕ
transition_bit Start = 1
transition_bit Stop = 2
transition_bit Pause = 4
transition_bit Resume = 8
transition_bit StartAbort = 16
