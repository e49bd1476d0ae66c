-- Bytes that come from a source, and bytes that go to a sink in several writes.
use Rattle.std.specs.Prelude.{◌≡◌, ◌≢◌, ℕ, List, ◌++◌, take, Option, Some, None, Result, Ok, Err, ⊤}
use Rattle.std.specs.Io.KnownBytes.{Appends}

-- Bytes that are told grew by the first of these bytes, of whatever number.
pub record AppendsPart (old new : Option (List ℕ)) (bytes : List ℕ) : Type 0 where
  pub count : ℕ
  pub appends : Appends old new (take count bytes)

-- Bytes that are told did not grow by all of these bytes.
abbrev pub LeavesOver : (old new : Option (List ℕ)) → (bytes : List ℕ) → Type 0
LeavesOver None new bytes = ⊤
LeavesOver (Some before) None bytes = ⊤
LeavesOver (Some before) (Some now) bytes = now ≢ before ++ bytes

-- The bytes read were given behind those before; a failure gives none.
abbrev pub GaveRead : {E : Type 0} → (old new : List ℕ) → Result ℕ E → (into : List ℕ) → Type 0
GaveRead old new (Ok count) into = new ≡ old ++ take count into
GaveRead old new (Err why) into = new ≡ old
