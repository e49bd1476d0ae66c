-- Patterns for the names of run files, each of which is the first file of its run.
use Rattle.std.specs.Prelude.{ℕ, List}
use Rattle.sub_files.specs.Patterns.{piece_name_by}
pub use Rattle.sub_files.specs.Patterns.{NamePattern, IsPattern, IsTextOf, IsPatternText, pattern_text}

-- the name of the first file in the run of this number
abbrev pub file_name_by : NamePattern → (run : ℕ) → List ℕ
file_name_by p run = piece_name_by p run 0
