-- What is seen of an event buffer over a ring that counts its reads.
use Rattle.std.specs.Prelude.{ℕ}
use Rattle.buffer_core.specs.Window.{Window}

-- its window; how often its ring was read; and how many bytes these reads took together. Both numbers begin anew at
-- 2 ^ 64
pub record CountedWindow : Type 0 where
  pub window : Window
  pub reads : ℕ
  pub bytes_read : ℕ
