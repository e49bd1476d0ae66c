-- What the files of a run hold stays where these files stay, each file that was made is there, and a first part of events is one of
-- more.
use Rattle.std.specs.Prelude.{◌≡◌, ◌<◌, ◌≤◌, ◌+◌, ◌-◌, ℕ, zero, suc, IsTrue, IsSome, Bool, List, [], ◌∷◌, ◌++◌, length, Option, Some, refl}
use Rattle.std.proofs.Common.{arith, ap, sym, ◌∙◌, inl, inr, append_assoc}
use Rattle.std.proofs.lemmas.Bool.Decides.{leb_tells}
use Rattle.daq_types.specs.declared.events.Event.{Event}
use mathlib.Core.List.{IsPrefix}
use Rattle.daq_io.specs.Seen.{Seen, GoesOn, Stored, InUse, KeepsNumber, IsStored, IsPartStored}
use Rattle.daq_io.proofs.SeenLaws.{done_on}
use Rattle.sub_files.specs.declared.open_file.Fallen.{Fallen}
use Rattle.sub_files.specs.declared.open_file.OpenFile.{OpenFile}
use Rattle.sub_files.specs.Pieces.{Series, piece_name, begun_piece, between, ArePiecesStored, AreFilesStored, ArePartsStored, HoldsRun, HasRun, HasPart}

-- What was done still stands, and the first of these files, so many, stay as they are, where names are told.
pub record Stay (old new : Seen) (s : Series) (many : ℕ) : Type 0 where
  pub told : new.names ≡ old.names
  pub on : GoesOn old new
  pub at : IsTrue old.names → (n : ℕ) → n < many → new.at (piece_name s n) ≡ old.at (piece_name s n)

stored_stay : {old new : Seen} (s : Series) (many n : ℕ) (bytes : List ℕ) → Stay old new s many → n < many → IsStored old (piece_name s n) bytes → IsStored new (piece_name s n) bytes
stored_stay {old} {new} s many n bytes stay below p = record { written = done_on stay.on p.written; holds = λ told. let before : IsTrue old.names = sym stay.told ∙ told in stay.at before n below ∙ p.holds before }

part_stay : {old new : Seen} (s : Series) (many n : ℕ) (whole : List ℕ) → Stay old new s many → n < many → IsPartStored old (piece_name s n) whole → IsPartStored new (piece_name s n) whole
part_stay {old} {new} s many n whole stay below p = record {
  state = p.state;
  closed = p.closed;
  has = p.has;
  part = p.part;
  written = done_on stay.on p.written;
  bytes = p.bytes;
  front = p.front;
  holds = λ told. let before : IsTrue old.names = sym stay.told ∙ told in stay.at before n below ∙ p.holds before;
}

pieces_stay : {old new : Seen} (s : Series) (many number : ℕ) (pieces : List (List Event)) → Stay old new s many → number + length pieces ≤ many → ArePiecesStored old s number pieces → ArePiecesStored new s number pieces
pieces_stay s many number [] stay fits stored = stored
pieces_stay s many number (p ∷ ps) stay fits stored = (
  stored_stay s many number (begun_piece s p ++ between s.head) stay (omega (arith, fits)) stored.0,
  pieces_stay s many (suc number) ps stay (omega (arith, fits)) stored.1,
)

files_stay : {old new : Seen} (s : Series) (last : List ℕ) (many number : ℕ) (pieces : List (List Event)) → Stay old new s many → number + length pieces ≤ many → AreFilesStored old s last number pieces → AreFilesStored new s last number pieces
files_stay s last many number [] stay fits stored = absurd stored
files_stay s last many number (p ∷ []) stay fits stored = stored_stay s many number (begun_piece s p ++ last) stay (omega (arith, fits)) stored
files_stay s last many number (p ∷ (q ∷ ps)) stay fits stored = (
  stored_stay s many number (begun_piece s p ++ between s.head) stay (omega (arith, fits)) stored.0,
  files_stay s last many (suc number) (q ∷ ps) stay (omega (arith, fits)) stored.1,
)

parts_stay : {old new : Seen} (s : Series) (last : List ℕ) (many number : ℕ) (pieces : List (List Event)) → Stay old new s many → number + length pieces ≤ many → ArePartsStored old s last number pieces → ArePartsStored new s last number pieces
parts_stay s last many number [] stay fits stored = stored
parts_stay s last many number (p ∷ []) stay fits stored = part_stay s many number (begun_piece s p ++ last) stay (omega (arith, fits)) stored
parts_stay s last many number (p ∷ (q ∷ ps)) stay fits stored = (
  part_stay s many number (begun_piece s p ++ between s.head) stay (omega (arith, fits)) stored.0,
  parts_stay s last many (suc number) (q ∷ ps) stay (omega (arith, fits)) stored.1,
)

in_use : (s : Seen) (n : ℕ) → IsTrue (s.writes n) → InUse s n
in_use s n h = rw h refl

pub holds_stay : (old new : Seen) (s : Series) (at : OpenFile) (events : List Event) → Stay old new s (at.sub + 1) → KeepsNumber old new at.file → HoldsRun old s at events → HoldsRun new s at events
holds_stay old new s at events stay number h = record {
  within = h.within;
  small = h.small;
  closed = h.closed;
  piece = h.piece;
  cut = h.cut;
  number = h.number;
  few = h.few;
  counted = h.counted;
  stored = pieces_stay s (at.sub + 1) 0 h.closed stay (let is = h.number in omega (arith, is)) h.stored;
  file = record {
    writes = number.writes ∙ h.file.writes;
    named = number.name (in_use old at.file h.file.writes) ∙ h.file.named;
    given = number.given h.file.writes ∙ h.file.given;
    holds = λ told. let before : IsTrue old.names = sym stay.told ∙ told in stay.at before at.sub (omega arith) ∙ h.file.holds before;
  };
}

pub run_stay : (old new : Seen) (s : Series) (files : ℕ) (taken : Bool) (last : List ℕ) (events : List Event) → Stay old new s files → HasRun old s files taken last events → HasRun new s files taken last events
run_stay old new s files taken last events stay h = record {
  small = h.small;
  pieces = h.pieces;
  cut = h.cut;
  many = h.many;
  few = h.few;
  stored = files_stay s last files 0 h.pieces stay (let is = h.many in omega (arith, is)) h.stored;
}

pub fallen_stay : (old new : Seen) (s : Series) (fallen : Fallen) (last : List ℕ) (events : List Event) → Stay old new s fallen.files → HasPart old s fallen last events → HasPart new s fallen last events
fallen_stay old new s fallen last events stay h = record {
  small = h.small;
  first = h.first;
  front = h.front;
  ends = h.ends;
  taken = h.taken;
  whole = h.whole;
  rest = h.rest;
  some = h.some;
  two = h.two;
  cut = h.cut;
  framed = h.framed;
  files = h.files;
  few = h.few;
  stored = pieces_stay s fallen.files 0 h.whole stay (let is = h.files in omega (arith, is)) h.stored;
  parts = parts_stay s last fallen.files fallen.framed h.rest stay (let is = h.files in let framed = h.framed in omega (arith, is, framed)) h.parts;
}

-- Each file that was made is there.

there : (o : Option Stored) (x : Stored) → o ≡ Some x → IsSome o
there o x is = rw is refl

pieces_there : (seen : Seen) (s : Series) (number : ℕ) (pieces : List (List Event)) (n named : ℕ) → IsTrue seen.names → named ≡ number + n → n < length pieces → ArePiecesStored seen s number pieces → IsSome (seen.at (piece_name s named))
pieces_there seen s number [] n named told is below stored = absurd (omega (arith, below))
pieces_there seen s number (p ∷ ps) zero named told is below stored =
    let here : named ≡ number = omega (arith, is) in
    rw here (there (seen.at (piece_name s number)) _ (stored.0.holds told))
pieces_there seen s number (p ∷ ps) (suc n) named told is below stored = pieces_there seen s (suc number) ps n named told (omega (arith, is)) (omega (arith, below)) stored.1

files_there : (seen : Seen) (s : Series) (last : List ℕ) (number : ℕ) (pieces : List (List Event)) (n named : ℕ) → IsTrue seen.names → named ≡ number + n → n < length pieces → AreFilesStored seen s last number pieces → IsSome (seen.at (piece_name s named))
files_there seen s last number [] n named told is below stored = absurd stored
files_there seen s last number (p ∷ []) n named told is below stored =
    let here : named ≡ number = omega (arith, is, below) in
    rw here (there (seen.at (piece_name s number)) _ (stored.holds told))
files_there seen s last number (p ∷ (q ∷ ps)) zero named told is below stored =
    let here : named ≡ number = omega (arith, is) in
    rw here (there (seen.at (piece_name s number)) _ (stored.0.holds told))
files_there seen s last number (p ∷ (q ∷ ps)) (suc n) named told is below stored = files_there seen s last (suc number) (q ∷ ps) n named told (omega (arith, is)) (omega (arith, below)) stored.1

parts_there : (seen : Seen) (s : Series) (last : List ℕ) (number : ℕ) (pieces : List (List Event)) (n named : ℕ) → IsTrue seen.names → named ≡ number + n → n < length pieces → ArePartsStored seen s last number pieces → IsSome (seen.at (piece_name s named))
parts_there seen s last number [] n named told is below stored = absurd (omega (arith, below))
parts_there seen s last number (p ∷ []) n named told is below stored =
    let here : named ≡ number = omega (arith, is, below) in
    rw here (there (seen.at (piece_name s number)) _ (stored.holds told))
parts_there seen s last number (p ∷ (q ∷ ps)) zero named told is below stored =
    let here : named ≡ number = omega (arith, is) in
    rw here (there (seen.at (piece_name s number)) _ (stored.0.holds told))
parts_there seen s last number (p ∷ (q ∷ ps)) (suc n) named told is below stored = parts_there seen s last (suc number) (q ∷ ps) n named told (omega (arith, is)) (omega (arith, below)) stored.1

pub holds_there : (seen : Seen) (s : Series) (at : OpenFile) (events : List Event) (n : ℕ) → HoldsRun seen s at events → IsTrue seen.names → n < at.sub + 1 → IsSome (seen.at (piece_name s n))
holds_there seen s at events n h told below = elim (leb_tells at.sub n) as (λ w. IsSome (seen.at (piece_name s n))) [
  | inl least ↦
      let more : at.sub ≤ n = least.1 in
      let here : n ≡ at.sub = omega (arith, more, below) in
      rw here (there (seen.at (piece_name s at.sub)) _ (h.file.holds told))
  | inr less ↦
      let before = less.1 in
      let number = h.number in
      pieces_there seen s 0 h.closed n n told (omega arith) (omega (arith, before, number)) h.stored
]

pub run_there : (seen : Seen) (s : Series) (files : ℕ) (taken : Bool) (last : List ℕ) (events : List Event) (n : ℕ) → HasRun seen s files taken last events → IsTrue seen.names → n < files → IsSome (seen.at (piece_name s n))
run_there seen s files taken last events n h told below = files_there seen s last 0 h.pieces n n told (omega arith) (let many = h.many in omega (arith, many, below)) h.stored

pub fallen_there : (seen : Seen) (s : Series) (fallen : Fallen) (last : List ℕ) (events : List Event) (n : ℕ) → HasPart seen s fallen last events → IsTrue seen.names → n < fallen.files → IsSome (seen.at (piece_name s n))
fallen_there seen s fallen last events n h told below = elim (leb_tells fallen.framed n) as (λ w. IsSome (seen.at (piece_name s n))) [
  | inl least ↦
      let more : fallen.framed ≤ n = least.1 in
      let framed = h.framed in
      let files = h.files in
      parts_there seen s last fallen.framed h.rest (n - fallen.framed) n told (omega (arith, more)) (omega (arith, more, below, framed, files)) h.parts
  | inr less ↦
      let before = less.1 in
      let framed = h.framed in
      pieces_there seen s 0 h.whole n n told (omega arith) (omega (arith, before, framed)) h.stored
]

-- A first part of events is one of more.

longer : (first events more : List Event) → IsPrefix first events → IsPrefix events more → IsPrefix first more
longer first events more p q = (p.0 ++ q.0, sym (append_assoc first p.0 q.0) ∙ (ap (λ (es : List Event). es ++ q.0) p.1 ∙ q.1))

pub part_of_more : (seen : Seen) (s : Series) (fallen : Fallen) (events more : List Event) → IsPrefix events more → HasPart seen s fallen [] events → HasPart seen s fallen [] more
part_of_more seen s fallen events more part h = record {
  small = h.small;
  first = h.first;
  front = longer h.first events more h.front part;
  ends = inl refl;
  taken = h.taken;
  whole = h.whole;
  rest = h.rest;
  some = h.some;
  two = h.two;
  cut = h.cut;
  framed = h.framed;
  files = h.files;
  few = h.few;
  stored = h.stored;
  parts = h.parts;
}
