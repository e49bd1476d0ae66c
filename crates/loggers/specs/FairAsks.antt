-- What a logger keeps to so that no buffer has a cause to refuse a call of it: each channel attaches one client at most; and a run
-- is begun in a buffer once those that were begun there before were called to end, unless another buffer refused to begin one
-- of these.
use Rattle.std.specs.Prelude.{◌≡◌, ◌≤◌, ◌==◌, if◌then◌else◌, ℕ, true, Contains, List, [], ◌∷◌, ◌++◌, length, slice_get, sum_by, Option, Some, None, Err, ⊤, ◌⊎◌}
use Rattle.daq_types.specs.declared.runs.Transition.TheVariants.{Start}
use Rattle.buffer_core.specs.declared.entry.BufferEntry.{BufferEntry}
use Rattle.buffer_core.specs.declared.entry.BufferEntry.TheVariants.{Begin}
use Rattle.buffer_core.specs.declared.replies.MarkRefusal.{MarkRefusal}
use Rattle.buffer_core.specs.Ports.{Access}
use Rattle.member_model.specs.Turns.{MemberTurn, HasTurnOf}
use Rattle.member_model.specs.OwnCalls.{calls_after}
use Rattle.member_model.specs.FairCalls.{attaches_made, has_begun, is_left_open}
use Rattle.mid_logger.specs.declared.channel.Channel.{Channel}
use Rattle.loggers.specs.declared.logged_run.LoggedRun.{LoggedRun}
use Rattle.loggers.specs.declared.logged_run.RunPart.TheVariants.{Started}

-- Clients.

-- one, where there is a client
abbrev pub one_client : Option ℕ → ℕ
one_client None = 0
one_client (Some client) = 1

-- how many clients the channel of a slot, if there is one, has in the buffer of this number
abbrev pub channel_clients : (buffer : ℕ) → Option Channel → ℕ
channel_clients buffer None = 0
channel_clients buffer (Some c) = if c.spec.buffer == buffer then one_client c.client else 0

-- in each buffer the logger attached no more clients than its channels have there
abbrev pub AttachesFew : List (Option Channel) → (ports : List Access) → Type 0
AttachesFew slots ports = (buffer : ℕ) → (a : Access) → slice_get ports buffer ≡ Some a →
    attaches_made a.own ≤ sum_by (channel_clients buffer) slots

-- Runs.

-- a start of the run with this number is among these turns
abbrev pub HasStart : List MemberTurn → (start : ℕ) → Type 0
HasStart turns start = (begin : MemberTurn) × HasTurnOf turns Start start begin

-- a buffer refused to begin the run with this start number
pub record HasRefusedBegin (ports : List Access) (start : ℕ) : Type 0 where
  pub buffer : ℕ
  pub port : Access
  pub at : slice_get ports buffer ≡ Some port
  pub why : MarkRefusal
  pub among : Contains port.own (Begin start (Err why))

-- the start of the run with this number stands among these turns, behind these earlier ones
pub record StartsBehind (turns : List MemberTurn) (start : ℕ) (earlier : List MemberTurn) : Type 0 where
  pub later : List MemberTurn
  pub turn : MemberTurn
  pub are : turns ≡ later ++ turn ∷ earlier
  pub starts : turn.transition ≡ Start
  pub of : turn.order.start ≡ start

-- The run with this number is begun at its start: the runs that these calls on the buffer began have earlier starts, and one
-- that they left open was refused by a buffer.
pub record IsFairBegin (ports : List Access) (turns : List MemberTurn) (before : List BufferEntry) (start : ℕ) : Type 0 where
  pub earlier : List MemberTurn
  pub at : StartsBehind turns start earlier
  pub begun : (other : ℕ) → has_begun before other ≡ true → HasStart earlier other
  pub left : (other : ℕ) → is_left_open before other ≡ true → HasRefusedBegin ports other

-- where the call begins a run, with any reply, it is begun so
abbrev pub IsFairCall : List Access → List MemberTurn → BufferEntry → (before : List BufferEntry) → Type 0
IsFairCall ports turns (Begin start reply) before = IsFairBegin ports turns before start
IsFairCall ports turns entry before = ⊤

-- all runs up to this point of the calls on a buffer were begun so
abbrev pub AreFairBegins : List Access → List MemberTurn → (calls : List BufferEntry) → Type 0
AreFairBegins ports turns [] = ⊤
AreFairBegins ports turns (e ∷ es) = IsFairCall ports turns e es × AreFairBegins ports turns es

-- in each buffer runs are begun so
abbrev pub BeginsFairly : List Access → List MemberTurn → Type 0
BeginsFairly ports turns = (buffer : ℕ) → (a : Access) → slice_get ports buffer ≡ Some a →
    AreFairBegins ports turns (calls_after [] a.own)

-- each run that was begun has its start among the turns
abbrev pub HaveStarts : List Access → List MemberTurn → Type 0
HaveStarts ports turns = (buffer : ℕ) → (a : Access) → slice_get ports buffer ≡ Some a → (start : ℕ) →
    has_begun (calls_after [] a.own) start ≡ true → HasStart turns start

-- the run with this number goes on, and was begun in so many buffers
abbrev pub GoesOnIn : Option LoggedRun → (buffers start : ℕ) → Type 0
GoesOnIn None buffers start = ⊥
GoesOnIn (Some r) buffers start = (r.start ≡ start) × (r.part ≡ Started) × (r.begun ≡ buffers)

-- each run that is left open goes on, and was begun in every buffer, or was refused by a buffer
abbrev pub AreLeftOpen : Option LoggedRun → List Access → Type 0
AreLeftOpen run ports = (buffer : ℕ) → (a : Access) → slice_get ports buffer ≡ Some a → (start : ℕ) →
    is_left_open (calls_after [] a.own) start ≡ true →
    GoesOnIn run (length ports) start ⊎ HasRefusedBegin ports start

-- The logger in this run or in none, with these channels, ports and turns, keeps to all that.
pub record AsksFairly (run : Option LoggedRun) (slots : List (Option Channel)) (ports : List Access) (turns : List MemberTurn) : Type 0 where
  pub attaches : AttachesFew slots ports
  pub begins : BeginsFairly ports turns
  pub starts : HaveStarts ports turns
  pub left : AreLeftOpen run ports
