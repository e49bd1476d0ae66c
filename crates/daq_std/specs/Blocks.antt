-- A file that is read and written in blocks.
use Rattle.std.specs.Prelude.{ℕ, List, [], ◌++◌, Option, Some, None}
use Rattle.std.specs.Io.KnownBytes.{prepend_known, append_known}
use Rattle.daq_std.specs.SystemCalls.{OpenedFile, Opening}
use Rattle.daq_std.specs.declared.system.Fault.{Fault}

-- how many bytes a block has room for; what is longer goes past it
abbrev pub block_room : ℕ
block_room = 65536

-- the bytes that the file was given, where it tells them: those that were written out, and then those that were not yet
abbrev pub bytes_given : {F : Type 0} → (F → Option (List ℕ)) → Option (OpenedFile F) → List ℕ → Option (List ℕ)
bytes_given contents None pending = None
bytes_given contents (Some opened) pending = append_known (contents opened.file) pending

-- what of a block the system is still asked to take: nothing once a write failed
abbrev pub to_hand : Option Fault → (pending : List ℕ) → List ℕ
to_hand None pending = pending
to_hand (Some fault) pending = []

-- the bytes that a file was given: those that the system took by its writes, and then those of the block
abbrev pub given_of : {F : Type 0} → Option (OpenedFile F) → Option Fault → (pending : List ℕ) → List ℕ
given_of None broken pending = []
given_of (Some opened) broken pending = opened.handed ++ to_hand broken pending

-- the bytes that are left to read, where the file tells them: those that were read ahead, and then those of the file
abbrev pub left_of : {F : Type 0} → (F → Option (List ℕ)) → Option (OpenedFile F) → List ℕ → Option (List ℕ)
left_of remaining None ahead = None
left_of remaining (Some opened) ahead = prepend_known ahead (remaining opened.file)

-- how the system opened the file, where there is one
abbrev pub opening_of : {F : Type 0} → Option (OpenedFile F) → Option Opening
opening_of None = None
opening_of (Some opened) = Some opened.opening
