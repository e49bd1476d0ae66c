-- The number of a run in the name of its file.
use Rattle.std.specs.Prelude.{ℕ, ◌-◌, List, ◌++◌, length, replicate}
use Rattle.std.specs.Fmt.{decimal}

-- a number in decimal digits, at least five of them, with zeros in front
abbrev pub five_digits : ℕ → List ℕ
five_digits n = replicate (5 - length (decimal n)) 48 ++ decimal n
