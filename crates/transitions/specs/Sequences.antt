-- By which numbers the clients of a session are called at a transition, the lower ones first.
use Rattle.std.specs.Prelude.{ℕ, Option, Some, None}
use Rattle.daq_types.specs.declared.runs.Transition.{Transition}
use Rattle.daq_types.specs.declared.runs.Transition.TheVariants.{Start, Stop, Pause, Resume, StartAbort}
use Rattle.transitions.specs.declared.sequences.Sequences.{Sequences}
use Rattle.transitions.specs.declared.sequences.Role.{Role}
use Rattle.transitions.specs.declared.sequences.Role.TheVariants.{FrontEnd, Logger, Analyzer}

-- the number for a transition; a client without one is not called
abbrev pub sequence_for : Sequences → Transition → Option ℕ
sequence_for s Start = s.start
sequence_for s Stop = s.stop
sequence_for s Pause = s.pause
sequence_for s Resume = s.resume
sequence_for s StartAbort = s.start_abort

-- A start reaches the logger first, which opens the files, then the analyzers, then the front-ends; at a stop the
-- front-ends are first, and the others take what is still in the buffers.
abbrev pub sequences_of : Role → Sequences
sequences_of FrontEnd = record { start = Some 500; stop = Some 500; pause = Some 500; resume = Some 500; start_abort = Some 500 }
sequences_of Logger = record { start = Some 200; stop = Some 800; pause = Some 800; resume = Some 200; start_abort = Some 800 }
sequences_of Analyzer = record { start = Some 300; stop = Some 900; pause = None; resume = None; start_abort = Some 900 }
