-- How much an engine has room for.
use Rattle.std.specs.Prelude.{ℕ}

abbrev pub most_clients : ℕ
most_clients = 64

-- a refused start has turns of start and of start-abort
abbrev pub most_tallies : ℕ
most_tallies = 128

-- the start number that no start follows
abbrev pub last_start_number : ℕ
last_start_number = 4294967295
