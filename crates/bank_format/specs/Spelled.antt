-- The fields of a bank's header by their places are those that were spelled there, and the other way round.
use Rattle.std.proofs.Common.{ℕ, ◌<◌, List, get_or}

abbrev pub IsBytes : List ℕ → Type 0
IsBytes bytes = (i : ℕ) → get_or bytes i 0 < 256
