-- Files that are, in order, the pieces of one run, and what is wrong with one behind such pieces.
use Rattle.std.specs.Prelude.{◌≡◌, ◌≢◌, ◌≤◌, ◌+◌, ◌-◌, ◌^◌, ℕ, List, [], ◌∷◌, ◌++◌, length, Some}
use Rattle.daq_types.specs.declared.events.Event.{Event}
use Rattle.event.specs.RunFile.{IsRunFile}
use Rattle.mid_format.specs.Faults.{run_at}
use Rattle.mid_format.specs.HasRead.{IsMidFault}
use Rattle.mid_format.specs.ReadLaws.{IsWholeFile}
use Rattle.mid_format.specs.declared.faults.MidFault.{MidFault}
use Rattle.mid_format.specs.declared.faults.MidFault.TheVariants.{Truncated, NoBegin, NoEnd, AfterEnd, TooBig, ReadFault, BadRecord, TooLong}
use Rattle.midas_tools.specs.declared.ends.InputFault.{InputFault}
use Rattle.midas_tools.specs.declared.ends.InputFault.TheVariants.{Mid, Compressed, Missing, ScriptTooLong, OtherRun}

-- Each file has some events, as `HasEvents` says of its bytes, and these are the events of all, one file behind the other.
abbrev pub AreJoined : (HasEvents : List ℕ → List Event → Type 0) (files : List (List ℕ)) (events : List Event) → Type 0
AreJoined HasEvents [] events = events ≡ []
AreJoined HasEvents (bytes ∷ files) events = (first : List Event) × (later : List Event) × HasEvents bytes first × AreJoined HasEvents files later × (events ≡ first ++ later)

-- The bytes are those of a run file of this run with these events; of a number that is too large for its field in a header they
-- have the lower bytes.
pub record IsRunFileWith (run : ℕ) (bytes : List ℕ) (events : List Event) : Type 0 where
  pub time0 : ℕ
  pub dump0 : List ℕ
  pub time1 : ℕ
  pub dump1 : List ℕ
  pub file : IsRunFile bytes run time0 dump0 events time1 dump1

-- Each file is such a run file, and these are the events of all.
abbrev pub AreRunFilesWith : (run : ℕ) (files : List (List ℕ)) (events : List Event) → Type 0
AreRunFilesWith run = AreJoined (IsRunFileWith run)

-- The bytes are a run file of this run with these events, and each number fits in its field, as in what was read.
pub record IsPiece (run : ℕ) (bytes : List ℕ) (events : List Event) : Type 0 where
  pub time0 : ℕ
  pub dump0 : List ℕ
  pub time1 : ℕ
  pub dump1 : List ℕ
  pub whole : IsWholeFile bytes run time0 dump0 events time1 dump1

-- Each file is a run file of this run, and these are the events of all.
abbrev pub ArePieces : (run : ℕ) (files : List (List ℕ)) (events : List Event) → Type 0
ArePieces run = AreJoined (IsPiece run)

-- how many bytes files have together
abbrev pub total_bytes : List (List ℕ) → ℕ
total_bytes [] = 0
total_bytes (bytes ∷ files) = length bytes + total_bytes files

-- The files are the pieces of one run.
pub record AreOneRun (files : List (List ℕ)) (run : ℕ) (events : List Event) : Type 0 where
  pub pieces : ArePieces run files events
  pub counted : total_bytes files ≤ 2 ^ 62

-- the place of a fault in its file, of one that was counted from the first file on
abbrev pub in_file : (before : ℕ) → MidFault → MidFault
in_file before (Truncated at) = Truncated (at - before)
in_file before (NoBegin at) = NoBegin (at - before)
in_file before (NoEnd at) = NoEnd (at - before)
in_file before (AfterEnd at) = AfterEnd (at - before)
in_file before (TooBig at size) = TooBig (at - before) size
in_file before ReadFault = ReadFault
in_file before (BadRecord at) = BadRecord (at - before)
in_file before (TooLong at) = TooLong (at - before)

-- The bytes behind so many of other files have this fault first, and their begin record, where it stands whole, is of no other
-- run than this.
pub record HasOwnFault (run before : ℕ) (bytes : List ℕ) (fault : MidFault) : Type 0 where
  pub one_run : (other : ℕ) → run_at before bytes ≡ Some other → other ≡ run
  pub placed : MidFault
  pub first : IsMidFault before bytes placed
  pub fault_is : fault ≡ in_file before placed

-- The begin record of the bytes behind so many of other files stands whole, and is of this other run.
pub record IsOfOtherRun (run before : ℕ) (bytes : List ℕ) (other : ℕ) : Type 0 where
  pub begun : run_at before bytes ≡ Some other
  pub differs : other ≢ run

-- what is wrong with the bytes of a file behind others of this run, which have so many bytes together
abbrev pub IsPieceFault : (run before : ℕ) (bytes : List ℕ) → InputFault → Type 0
IsPieceFault run before bytes (Mid fault) = HasOwnFault run before bytes fault
IsPieceFault run before bytes Compressed = ⊥
IsPieceFault run before bytes Missing = ⊥
IsPieceFault run before bytes ScriptTooLong = ⊥
IsPieceFault run before bytes (OtherRun file other) = IsOfOtherRun run before bytes other
