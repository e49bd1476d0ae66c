-- Bytes in a ring, by offset.
use Rattle.std.specs.Prelude.{◌≡◌, ℕ, zero, suc, ◌+◌, ◌%◌, ◌^◌, ◌≤◌, List, [], ◌∷◌, length, slice_index}

-- a ring: its bytes; how often they were read; and how many bytes these reads took together. Both numbers begin anew at
-- 2 ^ 64
pub record CountedBytes : Type 0 where
  pub bytes : List ℕ
  pub reads : ℕ
  pub bytes_read : ℕ

-- a ring of these bytes that was never read
abbrev pub never_read : (bytes : List ℕ) → CountedBytes
never_read bytes = record { bytes = bytes; reads = 0; bytes_read = 0 }

-- the most bytes of a ring
abbrev pub most_bytes : ℕ
most_bytes = 268435456

-- the byte of this offset, which lies at the offset modulo the ring's size
abbrev pub byte_at : (ring : List ℕ) (off : ℕ) → ℕ
byte_at ring off = slice_index ring (off % length ring)

-- so many bytes, from this offset on
unfoldable pub bytes_at : (ring : List ℕ) (off count : ℕ) → List ℕ
bytes_at ring off zero = []
bytes_at ring off (suc count) = byte_at ring off ∷ bytes_at ring (suc off) count

-- where so many bytes were written from this offset on, those of the offsets behind them are as before, once round the
-- ring
abbrev pub KeepsOtherOffsets : (old new : List ℕ) (off count : ℕ) → Type 0
KeepsOtherOffsets old new off count = (o n : ℕ) → off + count ≤ o → o + n ≤ off + length old → bytes_at new o n ≡ bytes_at old o n

-- a number that begins anew at 2 ^ 64 rose by so much
abbrev pub Rises : (old new by : ℕ) → Type 0
Rises old new by = new % 2 ^ 64 ≡ (old + by) % 2 ^ 64

-- or by at most so much
pub record RisesAtMost (old new most : ℕ) : Type 0 where
  pub by : ℕ
  pub few : by ≤ most
  pub rises : Rises old new by

-- between the two the ring was read so often, so many bytes together, and its bytes are the same
pub record IsRead (old new : CountedBytes) (reads bytes : ℕ) : Type 0 where
  pub same : new.bytes ≡ old.bytes
  pub often : Rises old.reads new.reads reads
  pub much : Rises old.bytes_read new.bytes_read bytes
