-- What a caller's own calls on a buffer tell of the events that it sent in runs. The calls are in order.
use Rattle.std.specs.Prelude.{◌≡◌, ◌≢◌, ℕ, ◌==◌, if◌then◌else◌, List, [], ◌∷◌, ◌++◌, Ok, Err, ⊤, ◌⊎◌}
use Rattle.daq_types.specs.declared.events.Event.{Event}
use Rattle.buffer_core.specs.declared.replies.SendRefusal.TheVariants.{Spent}
use Rattle.buffer_core.specs.declared.entry.BufferEntry.{BufferEntry}
use Rattle.buffer_core.specs.declared.entry.BufferEntry.TheVariants.{SendInRun}

-- the event of an accepted send in the run with this start number
abbrev pub sent_by_call : BufferEntry → (start : ℕ) → List Event
sent_by_call (SendInRun s stated e (Ok place)) start = if s == start then e ∷ [] else []
sent_by_call entry start = []

-- the events that these calls sent in the run with this start number, in order
abbrev pub own_sent : List BufferEntry → (start : ℕ) → List Event
own_sent [] start = []
own_sent (e ∷ es) start = sent_by_call e start ++ own_sent es start

-- a call that sends in a run
abbrev pub IsSendInRun : BufferEntry → Type 0
IsSendInRun (SendInRun start stated e reply) = ⊤
IsSendInRun entry = ⊥

-- the call is no send in the run with this start number, whatever it was replied
abbrev pub SendsNotIn : (start : ℕ) → BufferEntry → Type 0
SendsNotIn start (SendInRun s stated e reply) = s ≢ start
SendsNotIn start entry = ⊤

-- each of these calls is so
abbrev pub EachCall : (BufferEntry → Type 0) → List BufferEntry → Type 0
EachCall P [] = ⊤
EachCall P (e ∷ es) = P e × EachCall P es

abbrev pub IsSpentCall : BufferEntry → (start total : ℕ) → Type 0
IsSpentCall (SendInRun s stated e (Err (Spent t))) start total = (s ≡ start) × (t ≡ total)
IsSpentCall entry start total = ⊥

-- one of these calls was a send in the run with this start number that was refused since the buffer is spent, and this is
-- the total that it told
abbrev pub WasSpent : List BufferEntry → (start total : ℕ) → Type 0
WasSpent [] start total = ⊥
WasSpent (e ∷ es) start total = IsSpentCall e start total ⊎ WasSpent es start total
