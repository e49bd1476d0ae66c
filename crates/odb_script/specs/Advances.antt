-- What one step of a reader of lines does, by its answer.
use Rattle.std.specs.Prelude.{◌≡◌, ◌≢◌, ℕ, ◌+◌, ◌<◌, ◌≤◌, List, [], ◌∷◌, ◌++◌, length, take, slice_index, All, Bool, true, false}
use Rattle.std.specs.Io.KnownBytes.{IsAtEnd}
use Rattle.daq_io.specs.Counts.{Rose}
use Rattle.daq_io.specs.Told.{SourceTold}
use Rattle.odb_script.specs.Lines.{SourceGives, Reading, ReadsLine, ReadsLast, ReadsNone, ReadsTooMuch, ReadsPart, script_limit}
use Rattle.odb_script.specs.declared.reading.NextLine.{NextLine}
use Rattle.odb_script.specs.declared.reading.NextLine.TheVariants.{Line, Last, End, TooLong, Fault}

-- the step that this answer tells: for a line, there is a line that was read
abbrev pub Advances : NextLine → Reading → Reading → SourceTold → SourceTold → Type 0
Advances Line old new before after = (line : List ℕ) × ReadsLine old new before after line
Advances Last old new before after = (line : List ℕ) × ReadsLast old new before after line
Advances End old new before after = ReadsNone old new before after
Advances TooLong old new before after = ReadsTooMuch old new before after
Advances Fault old new before after = ReadsPart old new before after

-- the source's count of faults by the answer: it rose exactly where the source failed
abbrev pub IsFaultBy : NextLine → ℕ → ℕ → Type 0
IsFaultBy Line old new = new ≡ old
IsFaultBy Last old new = new ≡ old
IsFaultBy End old new = new ≡ old
IsFaultBy TooLong old new = new ≡ old
IsFaultBy Fault old new = Rose old new

-- bytes were taken from the source where none were pending; no byte only at its end
pub record IsFilledAgain (old new : Reading) (before after : SourceTold) (count : ℕ) : Type 0 where
  pub gives : SourceGives before after new.pending
  pub counted : length new.pending ≡ count
  pub ended : count ≡ 0 → IsAtEnd after.left
  pub line : new.line ≡ old.line
  pub taken : new.taken ≡ old.taken

-- bytes are pending, behind those that were, or none are and the source is at its end
pub record Refills (old new : Reading) (before after : SourceTold) : Type 0 where
  pub more : List ℕ
  pub gives : SourceGives before after more
  pub pending : old.pending ++ more ≡ new.pending
  pub line : new.line ≡ old.line
  pub taken : new.taken ≡ old.taken

abbrev pub IsRefilled : SourceTold → SourceTold → Reading → Reading → Bool → Type 0
IsRefilled before after old new true = Refills old new before after × (0 < length new.pending)
IsRefilled before after old new false = Refills old new before after × (new.pending ≡ []) × IsAtEnd after.left

-- So many bytes stand before the end of a line, which is there or not, and so many with that end.
pub record IsLinePart (bytes : List ℕ) (len passed : ℕ) (ended : Bool) : Type 0 where
  pub inside : passed ≤ length bytes
  pub behind : len ≤ passed
  pub plain : All (λ b. b ≢ 10) (take len bytes)
  pub is_end : ended ≡ true → (passed ≡ len + 1) × (slice_index bytes len ≡ 10)
  pub open_end : ended ≡ false → (passed ≡ len) × (len ≡ length bytes)

-- a part of a line was passed, up to its end or as far as it is there
pub record Scans (old new : Reading) (part rest : List ℕ) (end : ℕ) : Type 0 where
  pub bytes : old.pending ≡ part ++ rest
  pub plain : All (λ b. b ≢ 10) part
  pub line : new.line ≡ take 4098 (old.line ++ part)
  pub taken : new.taken ≡ old.taken + (length part + end)
  pub within : new.taken ≤ script_limit

abbrev pub IsScanned : Bool → Reading → Reading → Type 0
IsScanned true old new = (part : List ℕ) × Scans old new part (10 ∷ new.pending) 1
IsScanned false old new = (part : List ℕ) × (0 < length part) × Scans old new part new.pending 0
