-- What `check` prints of the files of a run.
use Rattle.std.specs.Prelude.{ℕ, List, length}
use Rattle.daq_types.specs.declared.events.Event.{Event}
use Rattle.midas_tools.specs.Texts.{ok_line}

-- the number of the run, how many events its files have together, and how many bytes
abbrev pub check_text : (run : ℕ) (events : List Event) (size : ℕ) → List ℕ
check_text run events size = ok_line run (length events) size
