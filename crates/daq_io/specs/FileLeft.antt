-- What a source over one of several files tells.
use Rattle.std.specs.Prelude.{◌≡◌, ℕ, List, ◌++◌, length, Option, Some, None, IsTrue, if◌then◌else◌}
use Rattle.daq_io.specs.Counts.{RoseJustBy}
use Rattle.daq_io.specs.Seen.{Seen, KeepsFiles, KeepsOthers}

-- the bytes left of the file of a number, where they are told
abbrev pub told_left : Seen → ℕ → Option (List ℕ)
told_left seen number = if seen.names then Some (seen.left number) else None

-- several files, the number under which one of them is read, the files as they stood when that began, and the bytes that were
-- read since
pub record OneFile (F : Type 0) : Type 0 where
  pub files : F
  pub number : ℕ
  pub first : F
  pub gave : List ℕ

-- The first of the bytes left under a number were read, and counted.
pub record ReadsFirst (first now : Seen) (number : ℕ) (bytes_first bytes_now : ℕ) : Type 0 where
  pub bytes : List ℕ
  pub were_left : first.left number ≡ bytes ++ now.left number
  pub counted : RoseJustBy (length bytes) bytes_first bytes_now

-- since then nothing was done but to read under this number
pub record IsOneRead (first now : Seen) (number : ℕ) (bytes_first bytes_now : ℕ) : Type 0 where
  pub reads : IsTrue (now.reads number)
  pub files : KeepsFiles first now
  pub others : KeepsOthers first now number
  pub front : IsTrue first.names → ReadsFirst first now number bytes_first bytes_now
