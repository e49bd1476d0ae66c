-- The lines of a script, and how they are read one at a time.
use Rattle.std.specs.Prelude.{◌≡◌, ◌≢◌, ℕ, ◌+◌, ◌<◌, ◌≤◌, ◌==◌, nat_le, if◌then◌else◌, List, [], ◌∷◌, ◌++◌, length, take, map, All}
use Rattle.std.specs.Str.Lines.{strip_carriage_return}
use Rattle.std.specs.Io.KnownBytes.{Consumes, IsAtEnd}
use Rattle.daq_io.specs.Told.{SourceTold}

-- The lines that have an end, each without it, behind a line so far.
abbrev pub ended_lines : List ℕ → List ℕ → List (List ℕ)
ended_lines so_far [] = []
ended_lines so_far (b ∷ bs) = if b == 10 then so_far ∷ ended_lines [] bs else ended_lines (so_far ++ b ∷ []) bs

-- what follows the last line end, behind a line so far
abbrev pub behind_lines : List ℕ → List ℕ → List ℕ
behind_lines so_far [] = so_far
behind_lines so_far (b ∷ bs) = if b == 10 then behind_lines [] bs else behind_lines (so_far ++ b ∷ []) bs

-- the lines of a text that have an end, which is 0x0A, or 0x0D and 0x0A
abbrev pub whole_lines : List ℕ → List (List ℕ)
whole_lines text = map strip_carriage_return (ended_lines [] text)

-- a last line without an end is one where it is not empty, and keeps its bytes
abbrev pub last_line : List ℕ → List (List ℕ)
last_line [] = []
last_line (b ∷ bs) = (b ∷ bs) ∷ []

-- all lines of a text
abbrev pub script_lines : List ℕ → List (List ℕ)
script_lines text = whole_lines text ++ last_line (behind_lines [] text)

-- the most bytes that a script has
abbrev pub script_limit : ℕ
script_limit = 16777216

-- The lines of a script: all lines of its text, or those that end within the limit where the text is longer.
abbrev pub lines_of : List ℕ → List (List ℕ)
lines_of text = if nat_le (length text) script_limit then script_lines text else whole_lines (take script_limit text)

-- how many bytes of a line are kept: one more than a command has, so that a longer line is known as such
abbrev pub kept_limit : ℕ
kept_limit = 4097

-- a line as it is kept
abbrev pub kept : List ℕ → List ℕ
kept line = take kept_limit line

-- What a reader of lines has: the line just read, as it is kept; the bytes that it took from the source and has not
-- passed yet; and how many it has passed.
pub record Reading : Type 0 where
  pub line : List ℕ
  pub pending : List ℕ
  pub taken : ℕ

-- nothing was read
abbrev pub no_line_read : Reading
no_line_read = record { line = []; pending = []; taken = 0 }

-- The source gave these bytes: behind all that it gave before; and they were the first of those left, where it tells these.
pub record SourceGives (before after : SourceTold) (bytes : List ℕ) : Type 0 where
  pub gave : after.gave ≡ before.gave ++ bytes
  pub consumed : Consumes before.left after.left bytes

-- Some bytes are taken from the source, and those that are there then begin with a part of a line.
pub record Takes (old : Reading) (before after : SourceTold) (part rest : List ℕ) : Type 0 where
  pub more : List ℕ
  pub gives : SourceGives before after more
  pub bytes : old.pending ++ more ≡ part ++ rest
  pub plain : All (λ b. b ≢ 10) part

-- The next line was read, with its end.
pub record ReadsLine (old new : Reading) (before after : SourceTold) (line : List ℕ) : Type 0 where
  pub part : List ℕ
  pub takes : Takes old before after part (10 ∷ new.pending)
  pub stripped : line ≡ strip_carriage_return part
  pub keeps : new.line ≡ kept line
  pub taken : new.taken ≡ old.taken + length part + 1
  pub within : new.taken ≤ script_limit

-- The last line was read, which has no end. Nothing is left.
pub record ReadsLast (old new : Reading) (before after : SourceTold) (line : List ℕ) : Type 0 where
  pub takes : Takes old before after line []
  pub some : 0 < length line
  pub at_end : IsAtEnd after.left
  pub none_pending : new.pending ≡ []
  pub keeps : new.line ≡ kept line
  pub taken : new.taken ≡ old.taken + length line
  pub within : new.taken ≤ script_limit

-- Nothing was left to read.
pub record ReadsNone (old new : Reading) (before after : SourceTold) : Type 0 where
  pub takes : Takes old before after [] []
  pub at_end : IsAtEnd after.left
  pub none_pending : new.pending ≡ []
  pub taken : new.taken ≡ old.taken

-- The limit was reached within a line, and more bytes follow.
pub record ReadsTooMuch (old new : Reading) (before after : SourceTold) : Type 0 where
  pub part : List ℕ
  pub takes : Takes old before after part new.pending
  pub more : 0 < length new.pending
  pub taken : new.taken ≡ old.taken + length part
  pub limit : new.taken ≡ script_limit

-- The source failed within a line: each byte that it gave was passed, and no line ended among those behind the last line.
pub record ReadsPart (old new : Reading) (before after : SourceTold) : Type 0 where
  pub part : List ℕ
  pub takes : Takes old before after part new.pending
  pub none_pending : new.pending ≡ []
  pub taken : new.taken ≡ old.taken + length part
  pub within : new.taken ≤ script_limit
