-- What stands in front of the words of a generated event.
use Rattle.std.specs.Prelude.{ℕ, ◌+◌, ◌*◌, ◌/◌, List, ◌++◌, codes}
use Rattle.std.specs.Int.{to_le_bytes, w16, w32}

-- the heads of a bank area with one bank GEN0 of type UINT32 and so many bytes: the length of the area and its flags;
-- the bank's name, type and length
unfoldable pub heads : (size : ℕ) → List ℕ
heads size = to_le_bytes w32 (8 + (size + 7) / 8 * 8) ++ (to_le_bytes w32 1 ++ (codes "GEN0" ++ (to_le_bytes w16 6 ++ to_le_bytes w16 size)))
