-- The numbers in a script's line.
use Rattle.std.specs.Prelude.{ℕ, ◌-◌, ◌^◌}

-- the greatest, where a form says no less
abbrev pub most_number : ℕ
most_number = 2 ^ 32 - 1

-- the greatest mask, and the greatest id of a channel's events
abbrev pub most_small : ℕ
most_small = 2 ^ 16 - 1
