-- Files of a folder of the system, each read or written in blocks under its number.
use Rattle.std.specs.Prelude.{◌≡◌, ℕ, List, length, Option, Some, Result, IsTrue, ⊤}
use Rattle.std.specs.Io.KnownBytes.{Appends, Keeps, ReadConsumes}
use Rattle.daq_io.specs.Counts.{CountsClash, CountsFault, CountsNamed, NamesFirst, NamesFirstOf}
use Rattle.daq_io.specs.Seen.{FileDone, Seen}
use Rattle.daq_io.specs.Tallies.{Tallied}
use Rattle.daq_io.specs.Uses.{told_numbers, use_at}
use Rattle.daq_io.specs.declared.folder.NameRefused.{NameRefused}
use Rattle.daq_io.specs.declared.uses.Usage.{Usage}
use Rattle.daq_io.specs.declared.uses.Usage.TheVariants.{Free, Writing, Reading}
use Rattle.daq_std.specs.BlockTables.{OpensBlock, UsesBlock, ahead_at, bytes_given_at, given_at, opening_at, is_broken_at}
use Rattle.daq_std.specs.Paths.{KeepsName, path_in}
use Rattle.daq_std.specs.SystemCalls.{KeptName, OpenedFile, Opening, new_to_write, to_read}
use Rattle.daq_std.specs.declared.blocks.BlockFile.{BlockFile}
use Rattle.std.specs.declared.fs.OpenOptions.{OpenOptions}

-- a folder, with the path of the last removal and of the last file whose name was put on the disk; neither once a file was asked to
-- be made since; and what was done with its files
pub record InFolder : Type 0 where
  pub folder : List ℕ
  pub removed : Option (List ℕ)
  pub kept : Option KeptName
  pub done : List FileDone

-- the folder, what each number is in use for, the files of the system with the bytes that they were given, and the counts
pub record InBlocks (F : Type 0) : Type 0 where
  pub inside : InFolder
  pub uses : List Usage
  pub blocks : List (BlockFile F)
  pub tallied : Tallied

-- a number's file is open as its use wants: it was made, or opened to be read, under the path of its name
abbrev pub IsOpenFor : (folder : List ℕ) → Usage → Option Opening → Type 0
IsOpenFor folder Free opening = ⊤
IsOpenFor folder (Writing name) opening = opening ≡ Some (record { how = new_to_write; path = path_in folder name })
IsOpenFor folder (Reading name) opening = opening ≡ Some (record { how = to_read; path = path_in folder name })

-- Each number has blocks, and each number in use has a file open as that wants.
pub record HasFiles {F : Type 0} (folder : List ℕ) (uses : List Usage) (blocks : List (BlockFile F)) : Type 0 where
  pub count : length blocks ≡ length uses
  pub opened : (number : ℕ) → IsOpenFor folder (use_at uses number) (opening_at blocks number)

-- what is told of the numbers, of what was given under them, and of what was done
abbrev pub told_by : {F : Type 0} → InBlocks F → Seen
told_by files = told_numbers files.uses (given_at files.blocks) files.inside.done

-- The file of a number was given these bytes more; it may have them in its block. Other numbers' blocks stay.
pub record GivesBytes {F : Type 0} (contents : F → Option (List ℕ)) (old new : InBlocks F) (number : ℕ) (bytes : List ℕ) : Type 0 where
  pub grown : Appends (bytes_given_at contents old.blocks number) (bytes_given_at contents new.blocks number) bytes
  pub uses : UsesBlock old.blocks new.blocks number

-- A read took the first of the bytes left to read of the file of a number. Other numbers' blocks stay.
pub record TakesBytes {F E : Type 0} (remaining : F → Option (List ℕ)) (old new : InBlocks F) (number : ℕ) (result : Result ℕ E) (into : List ℕ) : Type 0 where
  pub taken : ReadConsumes (ahead_at remaining old.blocks number) (ahead_at remaining new.blocks number) result into
  pub uses : UsesBlock old.blocks new.blocks number

-- A number goes on with a file that the system opened so, under the path of this name.
pub record OpensFile {F : Type 0} (how : OpenOptions) (name : List ℕ) (old new : InBlocks F) (number : ℕ) : Type 0 where
  pub opened : OpenedFile F
  pub opening : opened.opening ≡ record { how = how; path = path_in old.inside.folder name }
  pub opens : OpensBlock opened old.blocks new.blocks number

-- There is a file of the system that has all the bytes that the file of a number was given.
pub record HasAll {F : Type 0} (contents : F → Option (List ℕ)) (files : InBlocks F) (number : ℕ) : Type 0 where
  pub file : F
  pub all : Keeps (bytes_given_at contents files.blocks number) (contents file)

-- a write of the file of a number failed
abbrev pub IsBroken : {F : Type 0} → InBlocks F → ℕ → Type 0
IsBroken files number = IsTrue (is_broken_at files.blocks number)

-- the count of faults by a call's answer
abbrev pub CountsOne : {F T E : Type 0} → InBlocks F → InBlocks F → Result T E → Type 0
CountsOne old new result = CountsFault old.tallied.faults new.tallied.faults result

-- the name of the first fault by a call's answer, where the call is on this number
abbrev pub NamesFirstAt : {F T E : Type 0} → ℕ → InBlocks F → InBlocks F → Result T E → Type 0
NamesFirstAt number old new result = NamesFirst ((told_by old).name_of number) old.tallied.first new.tallied.first result

-- the counts, and the name of the first fault, by the answer of a call that takes a name
pub record CountsOnName {F T : Type 0} (name : List ℕ) (old new : InBlocks F) (result : Result T NameRefused) : Type 0 where
  pub faults : CountsNamed old.tallied.faults new.tallied.faults result
  pub clashes : CountsClash old.tallied.clashes new.tallied.clashes result
  pub first : NamesFirstOf name old.tallied.first new.tallied.first result

-- the system put the file of a number on the disk, and then the folder of its name
abbrev pub NamesOnDisk : {F : Type 0} → InBlocks F → InBlocks F → ℕ → Type 0
NamesOnDisk old new number = let name = (told_by old).name_of number in KeepsName old.inside.folder name (path_in old.inside.folder name) new.inside.kept
