-- What a source and a sink in memory tell.
use Rattle.std.specs.Prelude.{ℕ, List}
use Rattle.daq_mem.specs.Plans.{Plan}

-- a source: the bytes left, those that it gave, the count of its faults, and which calls fail
pub record SourceSeen : Type 0 where
  pub left : List ℕ
  pub gave : List ℕ
  pub faults : ℕ
  pub plan : Plan

-- a sink: the bytes written, room for how many there is in all, the count of its faults, and which calls fail
pub record SinkSeen : Type 0 where
  pub bytes : List ℕ
  pub room : ℕ
  pub faults : ℕ
  pub plan : Plan
