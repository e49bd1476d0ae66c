-- What `analyze` prints of the files of a run.
use Rattle.std.specs.Prelude.{ℕ, List, [], ◌++◌}
use Rattle.daq_types.specs.declared.events.Event.{Event}
use Rattle.event_report.specs.Reports.{report_of}
use Rattle.event_report.specs.Texts.{report_text}
use Rattle.midas_tools.specs.Texts.{run_number_line}

-- the number of the run, and the report over the events of all its files
abbrev pub analysis_text : (run : ℕ) (events : List Event) (size : ℕ) → List ℕ
analysis_text run events size = run_number_line run ++ report_text [] (report_of events)
