-- The calls of the engine: the reply of each, and the engine after it.
use Rattle.std.specs.Prelude.{◌≡◌, ℕ, ◌+◌, Bool, true, false, ◌&&◌, not, ◌==◌, nat_lt, if◌then◌else◌, List, [], ◌∷◌, ◌++◌, length, drop, filter, slice_get, Option, Some, None, Result, Ok, Err, ⊤}
use Rattle.std.specs.List.{list_any}
use Rattle.std.specs.Option.{option_map}
use Rattle.daq_types.specs.declared.runs.RunState.{RunState}
use Rattle.daq_types.specs.declared.runs.Transition.{Transition}
use Rattle.daq_types.specs.declared.runs.Transition.TheVariants.{Start, StartAbort}
use Rattle.daq_types.specs.declared.runs.Order.{Order}
use Rattle.daq_types.specs.declared.runs.StartOutcome.{StartOutcome}
use Rattle.daq_types.specs.declared.runs.StartOutcome.TheVariants.{Completed, Refused}
use Rattle.daq_types.specs.declared.runs.Why.{Why}
use Rattle.transitions.specs.States.{is_allowed, run_state_after}
use Rattle.transitions.specs.declared.client.Registered.{Registered}
use Rattle.transitions.specs.declared.called.Called.{Called}
use Rattle.transitions.specs.declared.sheet.Sheet.{Sheet}
use Rattle.transitions.specs.declared.answers.Answer.{Answer as ClientAnswer}
use Rattle.transitions.specs.declared.answers.Answer.TheVariants.{Yes, No}
use Rattle.transitions.specs.declared.answers.Tally.{Tally}
use Rattle.transitions.specs.declared.answers.Tally.TheVariants.{Plain}
use Rattle.transitions.specs.declared.answers.ClientTally.{ClientTally}
use Rattle.transitions.specs.declared.engine.Refusal.{Refusal}
use Rattle.transitions.specs.declared.replies.RegisterRefusal.{RegisterRefusal}
use Rattle.transitions.specs.declared.replies.RegisterRefusal.TheVariants.{Closed as RegisterClosed, InProgress as RegisterInProgress, NoSlot}
use Rattle.transitions.specs.declared.replies.BeginRefusal.{BeginRefusal}
use Rattle.transitions.specs.declared.replies.BeginRefusal.TheVariants.{Closed as BeginClosed, InProgress as BeginInProgress, WrongState, LastStart}
use Rattle.transitions.specs.declared.replies.Polled.{Polled}
use Rattle.transitions.specs.declared.replies.Polled.TheVariants.{Turn, Idle, Closed as PollClosed, NoClient}
use Rattle.transitions.specs.declared.replies.NotYourTurn.{NotYourTurn}
use Rattle.transitions.specs.declared.replies.Progress.{Progress}
use Rattle.transitions.specs.declared.replies.Progress.TheVariants.{Going, Done, None as NoneGoing}
use Rattle.transitions.specs.declared.replies.InProgress.{InProgress}
use Rattle.transitions.specs.declared.entry.EngineEntry.{EngineEntry}
use Rattle.transitions.specs.declared.entry.EngineEntry.TheVariants.{Register, Begin, Poll, Answer, Check, Close}
use Rattle.transitions.specs.Limits.{most_clients, last_start_number}
use Rattle.transitions.specs.Called.{called_list}
use Rattle.transitions.specs.Engines.{Underway, EngineState}

-- Turns.

-- the transition whose turns are given: a refused start is called off
abbrev pub turn_kind : Transition → (is_off : Bool) → Transition
turn_kind t false = t
turn_kind t true = StartAbort

module _ {R : Type 0} where
  abbrev pub turn_of : Underway R → Transition
  turn_of u = turn_kind u.transition u.is_off

abbrev pub is_start : Transition → Bool
is_start Start = true
is_start t = false

-- whether this client is one of these
abbrev pub stands_in : List Called → (client : ℕ) → Bool
stands_in cs client = list_any (λ (c : Called). c.client == client) cs

-- whether it is one of these, and in the group of this number
abbrev pub stands_with : (sequence : ℕ) → List Called → (client : ℕ) → Bool
stands_with q cs client = list_any (λ (c : Called). (c.client == client) && (c.sequence == q)) cs

-- these but for this client
abbrev pub without : (client : ℕ) → List Called → List Called
without client cs = filter (λ (c : Called). not (c.client == client)) cs

-- the number of the group whose turn it is: that of the clients whose answers are awaited, else that of the first to be called
abbrev pub group_of : (polled called : List Called) → ℕ
group_of (p ∷ ps) called = p.sequence
group_of [] (c ∷ cs) = c.sequence
group_of [] [] = 0

module _ {R : Type 0} where
  -- whether it was given its turn, and has not answered
  abbrev pub has_polled : Underway R → (client : ℕ) → Bool
  has_polled u client = stands_in u.polled client

-- whether the turn is its, and it was not given it yet
abbrev pub is_next : (polled called : List Called) → (client : ℕ) → Bool
is_next polled called client = stands_with (group_of polled called) called client

module _ {R : Type 0} where
  -- whether turns of a start are given
  abbrev pub is_in_start : Option (Underway R) → Bool
  is_in_start None = false
  is_in_start (Some u) = is_start (turn_of u)

  -- all who have yet to answer
  abbrev pub open_of : Underway R → List Called
  open_of u = u.polled ++ u.called

-- the state with these clients yet to answer: where none is left, and no client refused, the transition is done
abbrev pub state_with : RunState → Transition → Option Refusal → List Called → RunState
state_with state t None [] = run_state_after state t
state_with state t refusal open_clients = state

module _ {R : Type 0} where
  -- the engine with this transition, all of whose clients may have answered
  abbrev pub with_underway : EngineState R → Underway R → EngineState R
  with_underway s u = record {
    closed = s.closed;
    state = state_with s.state u.transition u.refusal (open_of u);
    start = s.start;
    clients = s.clients;
    underway = Some u;
  }

  -- Registering.

  abbrev pub register_reply_in : Option (Underway R) → (count : ℕ) → Result ℕ RegisterRefusal
  register_reply_in (Some u) count = Err (RegisterInProgress u.transition)
  register_reply_in None count = if nat_lt count most_clients then Ok count else Err NoSlot

  -- numbers are given from 0 in order
  abbrev pub register_reply : EngineState R → Result ℕ RegisterRefusal
  register_reply s = if s.closed then Err RegisterClosed else register_reply_in s.underway (length s.clients)

-- Beginning.

-- a start raises the start number
abbrev pub start_reply : Transition → (start : ℕ) → Result ℕ BeginRefusal
start_reply Start start = if nat_lt start last_start_number then Ok (start + 1) else Err LastStart
start_reply t start = Ok start

module _ {R : Type 0} where
  abbrev pub begin_reply_in : Option (Underway R) → RunState → Transition → (start : ℕ) → Result ℕ BeginRefusal
  begin_reply_in (Some u) state t start = Err (BeginInProgress u.transition)
  begin_reply_in None state t start = if is_allowed state t then start_reply t start else Err (WrongState state)

  abbrev pub begin_reply : EngineState R → Transition → Result ℕ BeginRefusal
  begin_reply s t = if s.closed then Err BeginClosed else begin_reply_in s.underway s.state t s.start

  -- what the clients are told, with the state before the transition
  abbrev pub order_for : Sheet R → (start : ℕ) → RunState → Order
  order_for sheet start from = record { run = sheet.run; start = start; time = sheet.time; from = from; quota = sheet.quota }

  -- the transition as it begins
  abbrev pub begun : EngineState R → Transition → Sheet R → (start : ℕ) → Underway R
  begun s t sheet start = record {
    transition = t;
    order = order_for sheet start s.state;
    dump = sheet.dump;
    blanks = sheet.blanks;
    called = called_list t s.clients;
    polled = [];
    refusal = None;
    is_off = false;
    tallies = [];
  }

  abbrev pub with_start : EngineState R → (start : ℕ) → EngineState R
  with_start s start = record { closed = s.closed; state = s.state; start = start; clients = s.clients; underway = s.underway }

  -- Polling.

  -- a client that wants a blank report is given one with its turn of a start
  abbrev pub gets_blank : Registered → Underway R → Bool
  gets_blank c u = c.wants_report && is_start (turn_of u)

  -- the first reply of a turn: the dump, if it is still there, goes to a client that wants it
  abbrev pub first_turn : Registered → Underway R → Polled R
  first_turn c u =
      Turn (turn_of u) u.order (if c.wants_dump then u.dump else None) (if gets_blank c u then slice_get u.blanks 0 else None)

  -- and each further one, until the client answers
  abbrev pub same_turn : Underway R → Polled R
  same_turn u = Turn (turn_of u) u.order None None

  abbrev pub poll_reply_in : RunState → (client : ℕ) → Registered → Option (Underway R) → Polled R
  poll_reply_in state client c None = Idle state
  poll_reply_in state client c (Some u) =
      if has_polled u client then same_turn u else if is_next u.polled u.called client then first_turn c u else Idle state

  abbrev pub poll_reply_to : EngineState R → (client : ℕ) → Option Registered → Polled R
  poll_reply_to s client None = NoClient
  poll_reply_to s client (Some c) = if s.closed then PollClosed else poll_reply_in s.state client c s.underway

  abbrev pub poll_reply : EngineState R → (client : ℕ) → Polled R
  poll_reply s client = poll_reply_to s client (slice_get s.clients client)

  -- the transition after this client was given its turn
  abbrev pub first_polled : (client : ℕ) → Registered → Underway R → Underway R
  first_polled client c u = record {
    transition = u.transition;
    order = u.order;
    dump = if c.wants_dump then None else u.dump;
    blanks = if gets_blank c u then drop 1 u.blanks else u.blanks;
    called = without client u.called;
    polled = u.polled ++ record { client = client; sequence = group_of u.polled u.called } ∷ [];
    refusal = u.refusal;
    is_off = u.is_off;
    tallies = u.tallies;
  }

  -- the transition after a poll that was replied a turn: a further one changes nothing
  abbrev pub polled_by : (client : ℕ) → Registered → Underway R → Underway R
  polled_by client c u = if has_polled u client then u else first_polled client c u

  abbrev pub after_poll_by : EngineState R → (client : ℕ) → Option Registered → EngineState R
  after_poll_by s client None = s
  after_poll_by s client (Some c) = record {
    closed = s.closed;
    state = s.state;
    start = s.start;
    clients = s.clients;
    underway = option_map (polled_by client c) s.underway;
  }

  abbrev pub after_poll : EngineState R → (client : ℕ) → EngineState R
  after_poll s client = after_poll_by s client (slice_get s.clients client)

-- Answering.

abbrev pub not_your_turn : NotYourTurn
not_your_turn = record {}

module _ {R : Type 0} where
  -- whether the client was given a turn that it has not answered
  abbrev pub owes_answer : Option (Underway R) → (client : ℕ) → Bool
  owes_answer None client = false
  owes_answer (Some u) client = has_polled u client

  abbrev pub answer_reply : EngineState R → (client : ℕ) → Result ⊤ NotYourTurn
  answer_reply s client = if owes_answer s.underway client then Ok tt else Err not_your_turn

  -- the transition after an answer with this tally
  abbrev pub told : (client : ℕ) → Tally R → Underway R → Underway R
  told client tally u = record {
    transition = u.transition;
    order = u.order;
    dump = u.dump;
    blanks = u.blanks;
    called = u.called;
    polled = without client u.polled;
    refusal = u.refusal;
    is_off = u.is_off;
    tallies = u.tallies ++ record { client = client; tally = tally } ∷ [];
  }

-- a refusal behind the first one changes nothing
abbrev pub first_refusal : Option Refusal → (client : ℕ) → Why → Refusal
first_refusal None client why = record { client = client; why = why }
first_refusal (Some refusal) client why = refusal

module _ {R : Type 0} where
  -- the start after a No: the clients that were given no turn of it get none
  abbrev pub refused_by : (client : ℕ) → Why → Underway R → Underway R
  refused_by client why u = record {
    transition = u.transition;
    order = u.order;
    dump = u.dump;
    blanks = u.blanks;
    called = [];
    polled = without client u.polled;
    refusal = Some (first_refusal u.refusal client why);
    is_off = u.is_off;
    tallies = u.tallies;
  }

-- whether start-abort is due: a start was refused, and no answer is awaited any more
abbrev pub is_due_off : Option Refusal → (polled : List Called) → (is_off : Bool) → Bool
is_due_off None polled is_off = false
is_due_off (Some refusal) [] is_off = not is_off
is_due_off (Some refusal) (p ∷ ps) is_off = false

module _ {R : Type 0} where
  -- all clients for start-abort are called
  abbrev pub called_off : List Registered → Underway R → Underway R
  called_off clients u = record {
    transition = u.transition;
    order = u.order;
    dump = u.dump;
    blanks = u.blanks;
    called = called_list StartAbort clients;
    polled = u.polled;
    refusal = u.refusal;
    is_off = true;
    tallies = u.tallies;
  }

  abbrev pub settled : List Registered → Underway R → Underway R
  settled clients u = if is_due_off u.refusal u.polled u.is_off then called_off clients u else u

  -- a No to anything but a start is taken as Yes without a tally
  abbrev pub answered_with : (client : ℕ) → ClientAnswer R → Underway R → Underway R
  answered_with client (Yes tally) u = told client tally u
  answered_with client (No why) u = if is_start (turn_of u) then refused_by client why u else told client Plain u

  abbrev pub answered_by : List Registered → (client : ℕ) → ClientAnswer R → Underway R → Underway R
  answered_by clients client answer u = settled clients (answered_with client answer u)

  abbrev pub after_answer_in : EngineState R → (client : ℕ) → ClientAnswer R → Option (Underway R) → EngineState R
  after_answer_in s client answer None = s
  after_answer_in s client answer (Some u) = with_underway s (answered_by s.clients client answer u)

  -- the engine once start-abort is begun, where it is due
  abbrev pub after_settling : EngineState R → Option (Underway R) → EngineState R
  after_settling s None = s
  after_settling s (Some u) = with_underway s (settled s.clients u)

-- Checking.

abbrev pub outcome_of : Option Refusal → StartOutcome
outcome_of None = Completed
outcome_of (Some refusal) = Refused refusal.client refusal.why

abbrev pub progress_of : List Called → Option Refusal → Progress
progress_of [] refusal = Done (outcome_of refusal)
progress_of (c ∷ cs) refusal = Going

module _ {R : Type 0} where
  abbrev pub check_reply_in : Option (Underway R) → Progress
  check_reply_in None = NoneGoing
  check_reply_in (Some u) = progress_of (open_of u) u.refusal

  abbrev pub check_reply : EngineState R → Progress
  check_reply s = check_reply_in s.underway

  -- the tallies of a transition all of whose turns are answered
  abbrev pub tallies_in : Progress → Option (Underway R) → List (ClientTally R)
  tallies_in (Done outcome) (Some u) = u.tallies
  tallies_in progress underway = []

  abbrev pub tallies_given : EngineState R → List (ClientTally R)
  tallies_given s = tallies_in (check_reply s) s.underway

  -- Closing.

  abbrev pub close_reply_in : Option (Underway R) → Result ⊤ InProgress
  close_reply_in None = Ok tt
  close_reply_in (Some u) = Err (record { transition = u.transition })

  abbrev pub close_reply : EngineState R → Result ⊤ InProgress
  close_reply s = close_reply_in s.underway

-- The calls.

-- a reply without what a refusal hands back
abbrev pub without_return : {X E Y : Type 0} → Result X (E × Y) → Result X E
without_return (Ok x) = Ok x
without_return (Err refused) = Err refused.0

module _ {R : Type 0} where
  -- the entry's reply is the one that the engine gives
  abbrev pub IsEngineReply : EngineState R → EngineEntry R → Type 0
  IsEngineReply s (Register name sequences dump report reply) = reply ≡ register_reply s
  IsEngineReply s (Begin t sheet reply) = reply ≡ begin_reply s t
  IsEngineReply s (Poll client reply) = reply ≡ poll_reply s client
  IsEngineReply s (Answer client answer reply) = reply ≡ answer_reply s client
  IsEngineReply s (Check reply tallies) = (reply ≡ check_reply s) × (tallies ≡ tallies_given s)
  IsEngineReply s (Close reply) = reply ≡ close_reply s

  -- the engine after a call with this reply: a refusal leaves it as it was
  abbrev pub engine_after : EngineState R → EngineEntry R → EngineState R
  engine_after s (Register name sequences dump report (Ok n)) = record {
    closed = s.closed;
    state = s.state;
    start = s.start;
    clients = s.clients ++ record { name = name; sequences = sequences; wants_dump = dump; wants_report = report } ∷ [];
    underway = s.underway;
  }
  engine_after s (Begin t sheet (Ok n)) = with_underway (with_start s n) (begun s t sheet n)
  engine_after s (Poll client (Turn t order dump blank)) = after_poll s client
  engine_after s (Answer client answer (Ok u)) = after_answer_in s client answer s.underway
  engine_after s (Check (Done outcome) tallies) = record { closed = s.closed; state = s.state; start = s.start; clients = s.clients; underway = None }
  engine_after s (Close (Ok u)) = record { closed = true; state = s.state; start = s.start; clients = s.clients; underway = s.underway }
  engine_after s entry = s
