-- The count of faults of the sink where the lines of a script cannot go on.
use Rattle.std.specs.Prelude.{◌≡◌, ◌≤◌, ℕ, Result, OnOk, IfErr}
use Rattle.daq_io.specs.Counts.{Rose}
use Rattle.console.specs.declared.halts.Halt.{Halt}
use Rattle.console.specs.declared.halts.Halt.TheVariants.{NoMemory, SinkFault}

-- the count after a halt: risen where a call on the sink failed, and else as it was
abbrev pub SinkBy : Halt → ℕ → ℕ → Type 0
SinkBy NoMemory old new = new ≡ old
SinkBy SinkFault old new = Rose old new

-- What a step does to the count.
pub record CountsSink {T : Type 0} (old new : ℕ) (result : Result T Halt) : Type 0 where
  pub later : old ≤ new
  pub done : OnOk result (new ≡ old)
  pub halted : IfErr result (λ halt. SinkBy halt old new)
