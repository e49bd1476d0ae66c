-- Signed numbers that fit in 64 bits, as the code keeps them.
use Rattle.std.specs.Prelude.{◌-◌, ◌^◌, if◌then◌else◌, Option, Some, None, ℤ}
use Rattle.odb_value.specs.ItemTexts.{is_within}

-- the number where 64 bits hold it with a sign
abbrev pub in_signed_64_bits : ℤ → Option ℤ
in_signed_64_bits z = if is_within (2 ^ 63 - 1) z then Some z else None
