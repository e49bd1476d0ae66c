-- Who makes a call, and the calls of one caller in a history.
use Rattle.std.specs.Prelude.{ℕ, ◌+◌, ◌==◌, List, map}
use Rattle.std.specs.List.{filter}

-- On every object 0 is the main thread,
abbrev pub main_caller : ℕ
main_caller = 0

-- and a member of the session is its client number and 1.
abbrev pub caller_of_client : (client : ℕ) → ℕ
caller_of_client client = client + 1

-- the entries of one caller in a list of callers with their entries, in order
abbrev pub entries_by : {E : Type 0} → (by : ℕ) → List (ℕ × E) → List E
entries_by by entries = map (λ e. e.1) (filter (λ e. e.0 == by) entries)
