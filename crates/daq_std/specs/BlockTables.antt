-- Files in blocks, each under a number.
use Rattle.std.specs.Prelude.{◌≡◌, ◌≢◌, ℕ, List, length, [], Option, Some, None, Bool, true, is_some, slice_get}
use mathlib.Core.List.{IsPrefix}
use Rattle.std.specs.Io.KnownBytes.{Appends}
use Rattle.daq_io.specs.Seen.{stored_as}
use Rattle.daq_io.specs.declared.folder.FileState.TheVariants.{InVain}
use Rattle.daq_std.specs.Blocks.{bytes_given, given_of, opening_of, left_of}
use Rattle.daq_std.specs.SystemCalls.{OpenedFile, OpenedThenLeft, Opening}
use Rattle.daq_std.specs.declared.blocks.BlockFile.{BlockFile}

-- Blocks that go on with this file: nothing is to be written, and nothing was read ahead.
pub record IsOpened {F : Type 0} (opened : OpenedFile F) (block : BlockFile F) : Type 0 where
  pub file_is : block.file ≡ Some opened
  pub nothing_pending : block.pending.bytes ≡ []
  pub nothing_ahead : block.ahead ≡ []
  pub whole : block.broken ≡ None

-- how the system opened the file in a block, if there is one
abbrev pub opening_by : {F : Type 0} → Option (BlockFile F) → Option Opening
opening_by None = None
opening_by (Some block) = opening_of block.file

-- how the system opened the file of a number
abbrev pub opening_at : {F : Type 0} → List (BlockFile F) → ℕ → Option Opening
opening_at blocks number = opening_by (slice_get blocks number)

-- the bytes that the file in these blocks was given
abbrev pub given_to : {F : Type 0} → (F → Option (List ℕ)) → BlockFile F → Option (List ℕ)
given_to contents block = bytes_given contents block.file block.pending.bytes

-- the bytes that the file in these blocks was given, whether it tells them or not
abbrev pub given_in_blocks : {F : Type 0} → BlockFile F → List ℕ
given_in_blocks block = given_of block.file block.broken block.pending.bytes

-- those that the file in a block, if there is one, was given
abbrev pub given_to_block : {F : Type 0} → Option (BlockFile F) → List ℕ
given_to_block None = []
given_to_block (Some block) = given_in_blocks block

-- those that the file of a number was given
abbrev pub given_at : {F : Type 0} → List (BlockFile F) → ℕ → List ℕ
given_at blocks number = given_to_block (slice_get blocks number)

-- the bytes that are left to read of the file in these blocks
abbrev pub left_in : {F : Type 0} → (F → Option (List ℕ)) → BlockFile F → Option (List ℕ)
left_in remaining block = left_of remaining block.file block.ahead

-- the bytes that the file in a block, if there is one, was given
abbrev pub bytes_given_by : {F : Type 0} → (F → Option (List ℕ)) → Option (BlockFile F) → Option (List ℕ)
bytes_given_by contents None = None
bytes_given_by contents (Some block) = given_to contents block

-- the bytes that the file of a number was given, where it tells them
abbrev pub bytes_given_at : {F : Type 0} → (F → Option (List ℕ)) → List (BlockFile F) → ℕ → Option (List ℕ)
bytes_given_at contents blocks number = bytes_given_by contents (slice_get blocks number)

-- the bytes that are left to read of the file in a block, if there is one
abbrev pub left_to_read : {F : Type 0} → (F → Option (List ℕ)) → Option (BlockFile F) → Option (List ℕ)
left_to_read remaining None = None
left_to_read remaining (Some block) = left_in remaining block

-- the bytes that are left to read of the file of a number, where it tells them
abbrev pub ahead_at : {F : Type 0} → (F → Option (List ℕ)) → List (BlockFile F) → ℕ → Option (List ℕ)
ahead_at remaining blocks number = left_to_read remaining (slice_get blocks number)

-- whether a write of the file in a block failed; where there is no block, no byte is taken
abbrev pub is_broken_by : {F : Type 0} → Option (BlockFile F) → Bool
is_broken_by None = true
is_broken_by (Some block) = is_some block.broken

-- whether a write of the file of a number failed since it was opened
abbrev pub is_broken_at : {F : Type 0} → List (BlockFile F) → ℕ → Bool
is_broken_at blocks number = is_broken_by (slice_get blocks number)

-- A file that the system opened so was let go, and was left in vain with a first part of these bytes.
pub record IsLetGo (opening : Option Opening) (given : List ℕ) (gone : OpenedThenLeft) : Type 0 where
  pub has : List ℕ
  pub part : IsPrefix has given
  pub left : gone.left ≡ stored_as InVain has
  pub opened : Some gone.opening ≡ opening

-- At most the blocks of one number are others.
pub record ChangesBlock {F : Type 0} (old new : List (BlockFile F)) (number : ℕ) : Type 0 where
  pub count : length new ≡ length old
  pub others : (other : ℕ) → other ≢ number → slice_get new other ≡ slice_get old other

-- At most the blocks of one number are others, and its file is the one that it was.
pub record UsesBlock {F : Type 0} (old new : List (BlockFile F)) (number : ℕ) : Type 0 where
  pub changes : ChangesBlock old new number
  pub opening : opening_at new number ≡ opening_at old number

-- The blocks of one number go on with this file.
pub record OpensBlock {F : Type 0} (opened : OpenedFile F) (old new : List (BlockFile F)) (number : ℕ) : Type 0 where
  pub block : BlockFile F
  pub block_is : slice_get new number ≡ Some block
  pub opened_is : IsOpened opened block
  pub changes : ChangesBlock old new number
  pub opening : opening_at new number ≡ Some opened.opening

-- The file of one number is let go.
pub record LeavesBlock {F : Type 0} (old new : List (BlockFile F)) (number : ℕ) : Type 0 where
  pub changes : ChangesBlock old new number
  pub gone : opening_at new number ≡ None

-- The file of a number was given these bytes more.
abbrev pub GrowsBlock : {F : Type 0} → (F → Option (List ℕ)) → (old new : List (BlockFile F)) → ℕ → List ℕ → Type 0
GrowsBlock contents old new number bytes = Appends (bytes_given_at contents old number) (bytes_given_at contents new number) bytes
