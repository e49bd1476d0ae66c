-- The rules for names of clients and keys, and for names of files.
use Rattle.std.specs.Prelude.{◌≡◌, ℕ, ◌+◌, ◌-◌, ◌<◌, ◌≤◌, ◌==◌, Bool, false, ◌||◌, ◌&&◌, nat_lt, nat_le, IsTrue, List, ◌++◌, length, map, take, drop, replicate, slice_index, All, codes, nat_eq}
use Rattle.std.specs.Char.{to_ascii_lowercase}
use Rattle.std.proofs.Common.{arith, take-append-drop}
use Rattle.std.proofs.lemmas.Grind.{common_steps}
use Rattle.std.specs.List.{ends_with}

-- a byte that no name has, wherever it stands: outside printable ASCII, or one of / [ ] " =
abbrev pub is_outside : ℕ → Bool
is_outside b = nat_lt b 32 || (nat_lt 126 b || (b == 47 || (b == 91 || (b == 93 || (b == 34 || b == 61)))))

-- a byte breaks the rule of a name of this length where no name has it, where it is a blank at either end, and
-- where it is a semicolon in front
abbrev pub breaks_name : (size place byte : ℕ) → Bool
breaks_name size place byte = is_outside byte || ((byte == 32 && (place == 0 || place + 1 == size)) || (byte == 59 && place == 0))

-- the byte at this place breaks the rule
abbrev pub BreaksName : List ℕ → ℕ → Type 0
BreaksName text place = IsTrue (breaks_name (length text) place (slice_index text place))

-- a name of a client or of a key: 1 to 31 bytes, none of which breaks the rule
pub record IsName (text : List ℕ) : Type 0 where
  pub some : 1 ≤ length text
  pub short : length text ≤ 31
  pub bytes : (place : ℕ) → place < length text → breaks_name (length text) place (slice_index text place) ≡ false

-- the least place of a byte that breaks the rule, in a text of a length that a name may have
pub record IsFirstBreak (text : List ℕ) (place : ℕ) : Type 0 where
  pub some : 1 ≤ length text
  pub short : length text ≤ 31
  pub inside : place < length text
  pub breaks : BreaksName text place
  pub first : (before : ℕ) → before < place → breaks_name (length text) before (slice_index text before) ≡ false

-- two names that agree but for the case of the letters A to Z
abbrev pub IsSameName : List ℕ → List ℕ → Type 0
IsSameName a b = map to_ascii_lowercase a ≡ map to_ascii_lowercase b

-- a byte that a file's name may have: 0x21 to 0x7E
abbrev pub is_file_byte : ℕ → Bool
is_file_byte b = nat_le 33 b && nat_le b 126

-- a name of a file: 1 to 255 such bytes
pub record IsFileName (name : List ℕ) : Type 0 where
  pub some : 1 ≤ length name
  pub short : length name ≤ 255
  pub bytes : All (λ b. IsTrue (is_file_byte b)) name

-- a name whose last letters say that its file is compressed
abbrev pub is_compressed : List ℕ → Bool
is_compressed name = ends_with nat_eq name (codes ".lz4") || (ends_with nat_eq name (codes ".gz") || ends_with nat_eq name (codes ".bz2"))

-- an array of a fixed size that begins with a text of this length and has zeros behind it
pub record IsPadded (size : ℕ) (bytes : List ℕ) (len : ℕ) : Type 0 where
  pub whole : length bytes ≡ size
  pub fits : len ≤ size
  pub rest : drop len bytes ≡ replicate (size - len) 0

pub length-take-padded : (size : ℕ) (bytes : List ℕ) (len : ℕ) → IsPadded size bytes len → length (take len bytes) ≡ len
length-take-padded size bytes len h = grind (arith, common_steps, h.whole, h.fits)

-- the text and zeros behind it are the array
pub padded_back : (size : ℕ) (bytes : List ℕ) (len : ℕ) → IsPadded size bytes len → take len bytes ++ replicate (size - length (take len bytes)) 0 ≡ bytes
padded_back size bytes len h = rw (length-take-padded size bytes len h, ← h.rest) (take-append-drop len bytes)
