-- The line that tells the forms of the command line.
use Rattle.std.specs.Prelude.{ℕ, List, [], ◌∷◌, ◌++◌, codes}

-- the line that is written where the words have no form: the forms of the finished program, which are those of `IsForm`
abbrev pub usage_line : List ℕ
usage_line = codes "usage: midas run [--cooperative] | check FILE.. | dump FILE | analyze FILE.. | gen N" ++ 10 ∷ []
