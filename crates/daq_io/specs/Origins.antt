-- Where a source has its bytes from.
use Rattle.std.specs.Prelude.{ℕ}
use Rattle.daq_io.specs.Seen.{Seen}

-- One of several files: the files as they stood when the source was made, how many bytes they had given by then, and the
-- number under which it is read.
pub record Origin : Type 0 where
  pub files : Seen
  pub bytes_read : ℕ
  pub number : ℕ
