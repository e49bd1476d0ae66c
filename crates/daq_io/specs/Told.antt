-- What the objects of the outside tell: one record for each kind of them.
use Rattle.std.specs.Prelude.{ℕ, Bool, List, Option}
use Rattle.daq_io.specs.Origins.{Origin}
use Rattle.daq_io.specs.Seen.{Seen}

-- What an object with files tells: of names, bytes and numbers; how many calls have failed, and how many names were taken or missing;
-- the name of the file of the first fault; and how many bytes reads have given, where what is read is told. A count stands still at
-- 2^64 - 1.
pub record FilesTold : Type 0 where
  pub seen : Seen
  pub faults : ℕ
  pub clashes : ℕ
  pub first : Option (List ℕ)
  pub bytes_read : ℕ

-- What a source tells: the bytes left, where it tells them; those that its reads gave; how many calls have failed; the bytes at hand, which were read ahead and
-- are the first of those left; and where the bytes come from, for a source that reads one of several files.
pub record SourceTold : Type 0 where
  pub left : Option (List ℕ)
  pub gave : List ℕ
  pub faults : ℕ
  pub at_hand : List ℕ
  pub origin : Option Origin

-- What a sink tells: the bytes written, where it tells them, and how many calls have failed.
pub record SinkTold : Type 0 where
  pub written : Option (List ℕ)
  pub faults : ℕ

-- What a clock and a choice of turns tell: whether they tell their readings, and those that lie ahead, by their place from 0.
pub record AheadTold : Type 0 where
  pub tells : Bool
  pub ahead : ℕ → ℕ
