-- Which calls of a caller a buffer may refuse, and what a caller keeps to that gives it no cause: it attaches few clients, makes
-- each request for a client that has none, and calls each run that it began to end before it begins another with a greater
-- number. A point of a caller's own calls is the list of those before it, the latest first.
use Rattle.std.specs.Prelude.{◌≡◌, ℕ, ◌==◌, Bool, true, false, if◌then◌else◌, sum_by, List, [], ◌∷◌, Ok, Err, ⊤}
use Rattle.buffer_core.specs.declared.entry.BufferEntry.{BufferEntry}
use Rattle.buffer_core.specs.declared.entry.BufferEntry.TheVariants.{Attach, Request, Begin, End}
use Rattle.member_model.specs.OwnCalls.{asks}

-- the call was one to attach a client, to make a request or to begin a run, and was refused
abbrev pub IsRefusedAsk : BufferEntry → Type 0
IsRefusedAsk (Attach name (Err why)) = ⊤
IsRefusedAsk (Request client id mask kind (Err why)) = ⊤
IsRefusedAsk (Begin start (Err why)) = ⊤
IsRefusedAsk entry = ⊥

-- one, where the call attached a client
abbrev pub attaches_by : BufferEntry → ℕ
attaches_by (Attach name (Ok client)) = 1
attaches_by entry = 0

-- how many clients these calls attached
abbrev pub attaches_made : List BufferEntry → ℕ
attaches_made calls = sum_by attaches_by calls

-- where the call makes a request, with any reply, its client has none at this point
abbrev pub IsLoneRequest : BufferEntry → (before : List BufferEntry) → Type 0
IsLoneRequest (Request client id mask kind reply) before = (number : ℕ) → asks before client number ≡ false
IsLoneRequest entry before = ⊤

-- all requests up to this point were made so
abbrev pub AreLoneRequests : List BufferEntry → Type 0
AreLoneRequests [] = ⊤
AreLoneRequests (e ∷ es) = IsLoneRequest e es × AreLoneRequests es

-- Runs.

abbrev pub begun_by : BufferEntry → (start : ℕ) → (before : Bool) → Bool
begun_by (Begin s (Ok place)) start before = if s == start then true else before
begun_by entry start before = before

-- the run with this start number was begun up to this point
abbrev pub has_begun : List BufferEntry → (start : ℕ) → Bool
has_begun [] start = false
has_begun (e ∷ es) start = begun_by e start (has_begun es start)

abbrev pub left_open_by : BufferEntry → (start : ℕ) → (before : Bool) → Bool
left_open_by (Begin s (Ok place)) start before = if s == start then true else before
left_open_by (End s reply) start before = if s == start then false else before
left_open_by entry start before = before

-- it was begun, and was not called to end since, with any reply
abbrev pub is_left_open : List BufferEntry → (start : ℕ) → Bool
is_left_open [] start = false
is_left_open (e ∷ es) start = left_open_by e start (is_left_open es start)
