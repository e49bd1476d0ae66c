-- What `analyze` prints of the files of a run, read back as they were closed.
use Rattle.std.specs.Prelude.{◌≡◌, ◌<◌, ◌≤◌, ◌^◌, ℕ, zero, suc, IsTrue, List, [], ◌∷◌, ◌++◌, length, slice_get, Some, All, Option}
use Rattle.std.specs.Io.KnownBytes.{Appends}
use Rattle.daq_types.specs.declared.events.Event.{Event}
use Rattle.daq_io.specs.Seen.{Seen, IsStored, stored_closed}
use Rattle.event.specs.Events.{record_limit}
use Rattle.event.specs.RunFile.{run_file, IsFileEvent}
use Rattle.event_report.specs.Reports.{Totals, report_of}
use Rattle.event_report.specs.Texts.{report_text}
use Rattle.midas_tools.specs.Analyses.{analysis_text}
use Rattle.midas_tools.specs.Texts.{run_number_line}
use Rattle.midas_tools.specs.Together.{WritesTogether}
use Rattle.midas_tools.specs.declared.ends.ToolEnd.{ToolEnd}
use Rattle.midas_tools.specs.declared.ends.ToolEnd.TheVariants.{Done}
use Rattle.sub_files.specs.Cuts.{events_of_pieces}
use Rattle.sub_files.specs.Patterns.{NamePattern, piece_name_by}

-- The file that was stored under this name in these files is there in `seen` as it was stored. So it is where both tell the name and
-- its file is the same; and where `seen` tells it to have what was written, whatever else these files tell.
abbrev pub HasAsStored : (files seen : Seen) (name : List ℕ) → Type 0
HasAsStored files seen name = (bytes : List ℕ) → IsStored files name bytes → seen.at name ≡ Some (stored_closed bytes)

-- A call of `analyze` with these names that ends well writes the number of the run and this report, and nothing else: on any
-- files that tell the names' files, each of which is as it was stored in these run files.
abbrev pub PrintsReport : (files : Seen) (names : List (List ℕ)) (run : ℕ) (report : Totals) → Type 0
PrintsReport files names run report = (seen : Seen) → (told_old told_new : Option (List ℕ)) → (end : ToolEnd) →
    IsTrue seen.names → All (HasAsStored files seen) names →
    WritesTogether analysis_text seen names told_old told_new end → end ≡ Done →
    Appends told_old told_new (run_number_line run ++ report_text [] report)

-- the names of so many files of a run, of which the first has this number
abbrev pub piece_names : NamePattern → (run number many : ℕ) → List (List ℕ)
piece_names pattern run number zero = []
piece_names pattern run number (suc many) = piece_name_by pattern run number ∷ piece_names pattern run (suc number) many

-- The file of this name is closed, and holds these events between two records of the run, which may have any times and dumps.
pub record IsClosedFile (files : Seen) (name : List ℕ) (run : ℕ) (events : List Event) : Type 0 where
  pub time0 : ℕ
  pub dump0 : List ℕ
  pub time1 : ℕ
  pub dump1 : List ℕ
  pub begins_small : length dump0 ≤ record_limit
  pub ends_small : length dump1 ≤ record_limit
  pub fine : All IsFileEvent events
  pub stored : IsStored files name (run_file run time0 dump0 events time1 dump1)

-- The file of each of these pieces of a run is closed, under the name of its number.
abbrev pub AreClosedFiles : (files : Seen) → NamePattern → (run : ℕ) → (pieces : List (List Event)) → Type 0
AreClosedFiles files pattern run pieces = (number : ℕ) → (piece : List Event) → slice_get pieces number ≡ Some piece →
    IsClosedFile files (piece_name_by pattern run number) run piece

-- Where the files of a run are closed, one for each piece of its events, `analyze` of all of them, in order, writes the run and the
-- report over all its events.
abbrev pub FilesReadBack : Type 0
FilesReadBack = (files : Seen) → (pattern : NamePattern) → (run : ℕ) → (pieces : List (List Event)) → 1 ≤ length pieces →
    AreClosedFiles files pattern run pieces → run < 2 ^ 32 → All (λ e. e.id < 2 ^ 16) (events_of_pieces pieces) →
    PrintsReport files (piece_names pattern run 0 (length pieces)) run (report_of (events_of_pieces pieces))
