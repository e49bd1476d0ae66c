-- The events of a run in files of bounded size: a list of events is cut into pieces, one for each file.
use Rattle.std.specs.Prelude.{◌≡◌, ◌≢◌, ◌⊎◌, ◌<◌, ◌≤◌, ℕ, suc, ◌+◌, Bool, IsTrue, List, [], ◌∷◌, ◌++◌, length}
use Rattle.daq_types.specs.declared.events.Event.{Event}
use Rattle.event.specs.Events.{encoding, all_encoded}

-- the greatest number of a file
abbrev pub last_number : ℕ
last_number = 9999

-- the events of all pieces
abbrev pub events_of_pieces : List (List Event) → List Event
events_of_pieces [] = []
events_of_pieces (piece ∷ pieces) = piece ++ events_of_pieces pieces

-- the bytes of a file that begins with so many and holds this piece
abbrev pub bytes_with : (head : ℕ) → (piece : List Event) → ℕ
bytes_with head piece = head + length (all_encoded piece)

-- one event alone fits into any file; more have to keep within the limit
abbrev pub FitsInFile : (limit head : ℕ) → (piece : List Event) → Type 0
FitsInFile limit head piece = (length piece ≤ 1) ⊎ (bytes_with head piece ≤ limit)

-- The piece has no room for the next event.
pub record IsFull (limit head : ℕ) (piece : List Event) (next : Event) : Type 0 where
  pub some : 1 ≤ length piece
  pub fits : FitsInFile limit head piece
  pub full : limit < bytes_with head piece + length (encoding next)

-- The last piece fits too, unless it has the greatest number, or the name of the next file was found taken.
abbrev pub MayBeLast : (limit head : ℕ) → (taken : Bool) → (number : ℕ) → (piece : List Event) → Type 0
MayBeLast limit head taken number piece = FitsInFile limit head piece ⊎ ((number ≡ last_number) ⊎ IsTrue taken)

-- Each piece but the last is full, where the first has this number. No piece behind another one is empty.
abbrev pub AreFull : (limit head : ℕ) → (taken : Bool) → (number : ℕ) → (pieces : List (List Event)) → Type 0
AreFull limit head taken number [] = ⊥
AreFull limit head taken number (piece ∷ []) = MayBeLast limit head taken number piece
AreFull limit head taken number (piece ∷ ([] ∷ pieces)) = ⊥
AreFull limit head taken number (piece ∷ ((next ∷ more) ∷ pieces)) = IsFull limit head piece next × AreFull limit head taken (suc number) ((next ∷ more) ∷ pieces)

-- The events are cut into these pieces, where a file has at most `limit` bytes, of which it begins with `head`. A limit of 0 is
-- none: there is one piece. `taken` says that the name of the file behind the last one was found taken.
pub record IsCut (limit head : ℕ) (events : List Event) (taken : Bool) (pieces : List (List Event)) : Type 0 where
  pub joins : events_of_pieces pieces ≡ events
  pub some : 1 ≤ length pieces
  pub unlimited : limit ≡ 0 → length pieces ≡ 1
  pub limited : limit ≢ 0 → AreFull limit head taken 0 pieces

-- How a cut goes on with one event more.

-- the last piece takes it
abbrev pub StaysIn : (limit head : ℕ) → (taken : Bool) → (number : ℕ) → (piece : List Event) → (next : Event) → Type 0
StaysIn limit head taken number piece next =
    (piece ≡ []) ⊎ ((bytes_with head piece + length (encoding next) ≤ limit) ⊎ ((number ≡ last_number) ⊎ IsTrue taken))

-- a piece is begun with it
pub record BeginsNext (limit head number : ℕ) (piece : List Event) (next : Event) : Type 0 where
  pub some : 1 ≤ length piece
  pub full : limit < bytes_with head piece + length (encoding next)
  pub number_left : number < last_number
