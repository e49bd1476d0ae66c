-- What is done to a run's file at its two ends.
pub use Rattle.sub_files.specs.RecordFiles.{RoseTwice, DropsFile, IsGone, IsUndone, UndoesFile}
