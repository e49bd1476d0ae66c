-- The files of a run, one for each piece of its events: what they hold while the last one is written, once all are closed, and
-- where a call on them failed.
use Rattle.std.specs.Prelude.{◌≡◌, ◌≢◌, ◌⊎◌, ◌<◌, ◌≤◌, ◌+◌, ◌-◌, ◌^◌, ℕ, suc, min, Bool, IsTrue, List, [], ◌∷◌, ◌++◌, length, slice_get, Some, ⊤}
use mathlib.Core.List.{IsPrefix}
use Rattle.daq_types.specs.declared.events.Event.{Event}
use Rattle.event.specs.Events.{encoding, all_encoded, record_limit}
use Rattle.event.specs.RunFile.{begin_record, begun_file, end_record}
use Rattle.daq_io.specs.Seen.{Seen, IsWritten, IsStored, IsPartStored}
use Rattle.sub_files.specs.declared.open_file.Fallen.{Fallen}
use Rattle.sub_files.specs.declared.open_file.OpenFile.{OpenFile}
use Rattle.sub_files.specs.declared.open_file.RunHead.{RunHead}
use Rattle.sub_files.specs.Cuts.{IsCut, last_number}
use Rattle.sub_files.specs.Patterns.{NamePattern, piece_name_by}

-- What all files of a run have in common: the pattern of their names, the most bytes of a file, where 0 is no limit, and the run
-- number, the time and the dump of their begin records.
pub record Series : Type 0 where
  pub pattern : NamePattern
  pub limit : ℕ
  pub head : RunHead
  pub dump : List ℕ

abbrev pub series_of : NamePattern → (limit : ℕ) → RunHead → (dump : List ℕ) → Series
series_of pattern limit head dump = record { pattern = pattern; limit = limit; head = head; dump = dump }

-- the name of the file of this number
abbrev pub piece_name : Series → (sub : ℕ) → List ℕ
piece_name s sub = piece_name_by s.pattern s.head.run sub

-- the record that begins each of them
abbrev pub begin_bytes : RunHead → (dump : List ℕ) → List ℕ
begin_bytes head dump = encoding (begin_record head.run head.time dump)

-- the record that ends each of them but the last: of the time of the begin, with an empty dump
abbrev pub between : RunHead → List ℕ
between head = encoding (end_record head.run head.time [])

-- the bytes of the begin record
abbrev pub head_bytes : (dump : List ℕ) → ℕ
head_bytes dump = 16 + length dump

-- a file that is begun and has these events
abbrev pub begun_piece : Series → List Event → List ℕ
begun_piece s piece = begun_file s.head.run s.head.time s.dump piece

-- The files of these pieces, of which the first has this number, are closed, each between its two records.
abbrev pub ArePiecesStored : Seen → Series → (number : ℕ) → List (List Event) → Type 0
ArePiecesStored seen s number [] = ⊤
ArePiecesStored seen s number (piece ∷ pieces) =
    IsStored seen (piece_name s number) (begun_piece s piece ++ between s.head) × ArePiecesStored seen s (suc number) pieces

-- The same, but the last one ends with these bytes. There is one at least.
abbrev pub AreFilesStored : Seen → Series → (last : List ℕ) → (number : ℕ) → List (List Event) → Type 0
AreFilesStored seen s last number [] = ⊥
AreFilesStored seen s last number (piece ∷ []) = IsStored seen (piece_name s number) (begun_piece s piece ++ last)
AreFilesStored seen s last number (piece ∷ (next ∷ pieces)) =
    IsStored seen (piece_name s number) (begun_piece s piece ++ between s.head) × AreFilesStored seen s last (suc number) (next ∷ pieces)

-- The same of first parts of such files.
abbrev pub ArePartsStored : Seen → Series → (last : List ℕ) → (number : ℕ) → List (List Event) → Type 0
ArePartsStored seen s last number [] = ⊤
ArePartsStored seen s last number (piece ∷ []) = IsPartStored seen (piece_name s number) (begun_piece s piece ++ last)
ArePartsStored seen s last number (piece ∷ (next ∷ pieces)) =
    IsPartStored seen (piece_name s number) (begun_piece s piece ++ between s.head) × ArePartsStored seen s last (suc number) (next ∷ pieces)

-- The open file is being written under its name, and its number is one that a file may have.
pub record IsOpenPiece (seen : Seen) (s : Series) (open_file : OpenFile) : Type 0 where
  pub writes : IsTrue (seen.writes open_file.file)
  pub named : seen.name_of open_file.file ≡ piece_name s open_file.sub
  pub few : open_file.sub ≤ last_number

-- The files hold these events, which are cut into pieces, and the last piece is being written. Without a limit its bytes are
-- not counted.
pub record HoldsRun (seen : Seen) (s : Series) (open_file : OpenFile) (events : List Event) : Type 0 where
  pub within : s.limit < 2 ^ 32
  pub small : length s.dump ≤ record_limit
  pub closed : List (List Event)
  pub piece : List Event
  pub cut : IsCut s.limit (head_bytes s.dump) events open_file.taken (closed ++ piece ∷ [])
  pub number : open_file.sub ≡ length closed
  pub few : open_file.sub ≤ last_number
  pub counted : s.limit ≢ 0 → open_file.bytes ≡ min (head_bytes s.dump + length (all_encoded piece)) (2 ^ 64 - 1)
  pub stored : ArePiecesStored seen s 0 closed
  pub file : IsWritten seen open_file.file (piece_name s open_file.sub) (begun_piece s piece)

-- The files of these events are closed, so many, and the last one ends with these bytes.
pub record HasRun (seen : Seen) (s : Series) (files : ℕ) (taken : Bool) (last : List ℕ) (events : List Event) : Type 0 where
  pub small : length s.dump ≤ record_limit
  pub pieces : List (List Event)
  pub cut : IsCut s.limit (head_bytes s.dump) events taken pieces
  pub many : files ≡ length pieces
  pub few : files ≤ suc last_number
  pub stored : AreFilesStored seen s last 0 pieces

-- The file of this number, which has this piece, is closed, where there are so many files: the last one ends with these bytes, and
-- each other one with the record that stands between two files.
pub record IsFileOf (seen : Seen) (s : Series) (last : List ℕ) (many number : ℕ) (piece : List Event) : Type 0 where
  pub last_file : suc number ≡ many → IsStored seen (piece_name s number) (begun_piece s piece ++ last)
  pub other_file : suc number ≢ many → IsStored seen (piece_name s number) (begun_piece s piece ++ between s.head)

-- each file of a run that is closed, by its number
abbrev pub FilesOfRun : Type 0
FilesOfRun = (seen : Seen) → (s : Series) → (files : ℕ) → (taken : Bool) → (last : List ℕ) → (events : List Event) →
    (h : HasRun seen s files taken last events) → (number : ℕ) → (piece : List Event) → slice_get h.pieces number ≡ Some piece →
    IsFileOf seen s last (length h.pieces) number piece

-- A call on the files of these events failed, and they are closed. They hold a first part of the events, cut into pieces: the
-- first files whole, and of the others, one at least and two at the most, first parts. Some of the bytes at the end of the last one are there only behind all events.
pub record HasPart (seen : Seen) (s : Series) (fallen : Fallen) (last : List ℕ) (events : List Event) : Type 0 where
  pub small : length s.dump ≤ record_limit
  pub first : List Event
  pub front : IsPrefix first events
  pub ends : (last ≡ []) ⊎ (first ≡ events)
  pub taken : Bool
  pub whole : List (List Event)
  pub rest : List (List Event)
  pub some : 1 ≤ length rest
  pub two : length rest ≤ 2
  pub cut : IsCut s.limit (head_bytes s.dump) first taken (whole ++ rest)
  pub framed : fallen.framed ≡ length whole
  pub files : fallen.files ≡ length whole + length rest
  pub few : fallen.files ≤ suc last_number
  pub stored : ArePiecesStored seen s 0 whole
  pub parts : ArePartsStored seen s last fallen.framed rest

-- Behind an event, of which these are the bytes, the files hold what they held before and the event.
abbrev pub HoldsMore : Series → (old later : OpenFile) → (bytes : List ℕ) → (a b : Seen) → Type 0
HoldsMore s old later bytes a b =
    (events : List Event) → (e : Event) → bytes ≡ encoding e → HoldsRun a s old events → HoldsRun b s later (events ++ e ∷ [])

-- Where a call failed at the event, they have a part of these.
abbrev pub HasPartOfMore : Series → (old : OpenFile) → Fallen → (bytes : List ℕ) → (a b : Seen) → Type 0
HasPartOfMore s old fallen bytes a b =
    (events : List Event) → (e : Event) → bytes ≡ encoding e → HoldsRun a s old events → HasPart b s fallen [] (events ++ e ∷ [])
