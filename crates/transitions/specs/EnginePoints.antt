-- What the calls of an engine and their replies tell, by themselves: nothing here looks into the engine.
-- A point of a history is the list of the entries before it, the latest first.
use Rattle.std.specs.Prelude.{ℕ, suc, ◌==◌, Bool, true, false, ◌||◌, ◌&&◌, not, if◌then◌else◌, List, [], ◌∷◌, ◌++◌, drop, fold, slice_get, Option, Some, None, is_some, Ok}
use Rattle.std.specs.Option.{option_map, option_map_or}
use Rattle.daq_types.specs.declared.runs.RunState.{RunState}
use Rattle.daq_types.specs.declared.runs.RunState.TheVariants.{Stopped}
use Rattle.daq_types.specs.declared.runs.Transition.{Transition}
use Rattle.daq_types.specs.declared.runs.Order.{Order}
use Rattle.daq_types.specs.declared.runs.StartOutcome.{StartOutcome}
use Rattle.daq_types.specs.declared.runs.StartOutcome.TheVariants.{Completed}
use Rattle.transitions.specs.States.{run_state_after}
use Rattle.transitions.specs.declared.client.Registered.{Registered}
use Rattle.transitions.specs.declared.called.Called.{Called}
use Rattle.transitions.specs.declared.sheet.Sheet.{Sheet}
use Rattle.transitions.specs.declared.answers.Answer.{Answer as ClientAnswer}
use Rattle.transitions.specs.declared.answers.Answer.TheVariants.{Yes, No}
use Rattle.transitions.specs.declared.answers.Tally.{Tally}
use Rattle.transitions.specs.declared.answers.Tally.TheVariants.{Plain}
use Rattle.transitions.specs.declared.answers.ClientTally.{ClientTally}
use Rattle.transitions.specs.declared.engine.Refusal.{Refusal}
use Rattle.transitions.specs.declared.replies.Polled.TheVariants.{Turn}
use Rattle.transitions.specs.declared.replies.Progress.TheVariants.{Done}
use Rattle.transitions.specs.declared.entry.EngineEntry.{EngineEntry}
use Rattle.transitions.specs.declared.entry.EngineEntry.TheVariants.{Register, Begin, Poll, Answer, Check}
use Rattle.transitions.specs.Called.{called_list, called_numbers}
use Rattle.transitions.specs.EngineCalls.{turn_kind, is_start, order_for}

module _ {R : Type 0} where
  -- the point behind these entries, which follow this point
  abbrev pub engine_past_after : List (ℕ × EngineEntry R) → (entries : List (ℕ × EngineEntry R)) → List (ℕ × EngineEntry R)
  engine_past_after past [] = past
  engine_past_after past (e ∷ es) = engine_past_after (e ∷ past) es

  -- the end of a history
  abbrev pub engine_past : (history : List (ℕ × EngineEntry R)) → List (ℕ × EngineEntry R)
  engine_past h = engine_past_after [] h

-- what an entry tells of clients, transitions, turns and answers
pub data EngineNews (R : Type 0) : Type 0 where
  Silence : EngineNews R
  Joined : (client : Registered) → EngineNews R
  Begun : (transition : Transition) (sheet : Sheet R) (start : ℕ) → EngineNews R
  GaveTurn : (client : ℕ) (blank : Option R) → EngineNews R
  Answered : (client : ℕ) (answer : ClientAnswer R) → EngineNews R
  Ended : (outcome : StartOutcome) → EngineNews R

module _ {R : Type 0} where
  -- a refusal tells nothing
  abbrev pub engine_news : EngineEntry R → EngineNews R
  engine_news (Register name sequences dump report (Ok n)) = Joined (record { name = name; sequences = sequences; wants_dump = dump; wants_report = report })
  engine_news (Begin t sheet (Ok n)) = Begun t sheet n
  engine_news (Poll client (Turn turn order dump blank)) = GaveTurn client blank
  engine_news (Answer client answer (Ok u)) = Answered client answer
  engine_news (Check (Done outcome) tallies) = Ended outcome
  engine_news entry = Silence

  -- Clients and transitions.

  abbrev pub joined_after : EngineNews R → List Registered → List Registered
  joined_after (Joined c) cs = cs ++ c ∷ []
  joined_after news cs = cs

  -- the registered clients, in order of registration
  abbrev pub clients_at : List (ℕ × EngineEntry R) → List Registered
  clients_at [] = []
  clients_at (e ∷ past) = joined_after (engine_news e.1) (clients_at past)

  abbrev pub starts_after : EngineNews R → ℕ → ℕ
  starts_after (Begun t sheet n) count = if is_start t then suc count else count
  starts_after news count = count

  -- how many starts were accepted
  abbrev pub starts_at : List (ℕ × EngineEntry R) → ℕ
  starts_at [] = 0
  starts_at (e ∷ past) = starts_after (engine_news e.1) (starts_at past)

  abbrev pub transition_after : EngineNews R → Option Transition → Option Transition
  transition_after (Begun t sheet n) before = Some t
  transition_after (Ended outcome) before = None
  transition_after news before = before

  -- the transition in progress: one that was begun, and whose Done was not told
  abbrev pub transition_at : List (ℕ × EngineEntry R) → Option Transition
  transition_at [] = None
  transition_at (e ∷ past) = transition_after (engine_news e.1) (transition_at past)

  abbrev pub callable_after : EngineNews R → List Registered → List Registered → List Registered
  callable_after (Begun t sheet n) clients before = clients
  callable_after news clients before = before

  -- the clients that were registered before the last transition was begun
  abbrev pub callable_at : List (ℕ × EngineEntry R) → List Registered
  callable_at [] = []
  callable_at (e ∷ past) = callable_after (engine_news e.1) (clients_at past) (callable_at past)

-- What is known of the transition in progress, one entry after the other.

-- of a refused start the turns and answers of start-abort are counted by themselves
pub record Calling : Type 0 where
  -- the first refusal of a start
  pub refusal : Option Refusal
  -- whether clients are called for start-abort
  pub off : Bool
  -- the clients that were given a turn, in the order of the first replies that gave it
  pub turned : List ℕ
  -- the clients that answered, in order
  pub answered : List ℕ

-- where a transition was just begun, or none is in progress
abbrev pub uncalled : Calling
uncalled = record { refusal = None; off = false; turned = []; answered = [] }

module _ {R : Type 0} where
  -- a No to a turn of a start refuses it
  abbrev pub refuses : ClientAnswer R → Option Transition → (off : Bool) → Bool
  refuses (Yes tally) transition off = false
  refuses (No why) None off = false
  refuses (No why) (Some t) off = is_start (turn_kind t off)

  -- a No behind the first one changes nothing
  abbrev pub refusal_from : (refused : Bool) → (client : ℕ) → ClientAnswer R → Option Refusal → Option Refusal
  refusal_from true client (No why) None = Some (record { client = client; why = why })
  refusal_from refused client answer before = before

abbrev pub is_among : (client : ℕ) → List ℕ → Bool
is_among client [] = false
is_among client (c ∷ cs) = (c == client) || is_among client cs

-- whether each of these is among the others
abbrev pub are_among : List ℕ → (others : List ℕ) → Bool
are_among [] others = true
are_among (c ∷ cs) others = is_among c others && are_among cs others

-- the answer behind which each client has answered that was given a turn of a refused start opens the turns of start-abort
abbrev pub opens_off : Calling → Bool
opens_off c = not c.off && (is_some c.refusal && are_among c.turned c.answered)

abbrev pub off_opened : Calling → Calling
off_opened c = if opens_off c then record { refusal = c.refusal; off = true; turned = []; answered = [] } else c

abbrev pub turned_more : (client : ℕ) → List ℕ → List ℕ
turned_more client before = if is_among client before then before else before ++ client ∷ []

module _ {R : Type 0} where
  abbrev pub calling_after : EngineNews R → Option Transition → Calling → Calling
  calling_after (Begun t sheet n) transition c = uncalled
  calling_after (GaveTurn client blank) transition c = record { refusal = c.refusal; off = c.off; turned = turned_more client c.turned; answered = c.answered }
  calling_after (Answered client answer) transition c =
      off_opened (record { refusal = refusal_from (refuses answer transition c.off) client answer c.refusal; off = c.off; turned = c.turned; answered = c.answered ++ client ∷ [] })
  calling_after (Ended outcome) transition c = uncalled
  calling_after news transition c = c

  abbrev pub calling_at : List (ℕ × EngineEntry R) → Calling
  calling_at [] = uncalled
  calling_at (e ∷ past) = calling_after (engine_news e.1) (transition_at past) (calling_at past)

  abbrev pub refusal_at : List (ℕ × EngineEntry R) → Option Refusal
  refusal_at past = (calling_at past).refusal

  abbrev pub off_at : List (ℕ × EngineEntry R) → Bool
  off_at past = (calling_at past).off

  abbrev pub turned_at : List (ℕ × EngineEntry R) → List ℕ
  turned_at past = (calling_at past).turned

  abbrev pub answered_at : List (ℕ × EngineEntry R) → List ℕ
  answered_at past = (calling_at past).answered

  -- the transition whose turns are given
  abbrev pub turn_at : List (ℕ × EngineEntry R) → Option Transition
  turn_at past = option_map (λ t. turn_kind t (off_at past)) (transition_at past)

abbrev pub list_for : Option Transition → List Registered → List Called
list_for None clients = []
list_for (Some t) clients = called_list t clients

module _ {R : Type 0} where
  -- the clients that are called; those of equal sequence number are a group
  abbrev pub called_at : List (ℕ × EngineEntry R) → List Called
  called_at past = list_for (turn_at past) (callable_at past)

  -- What is given and told since the transition was begun.

  abbrev pub tally_of : ClientAnswer R → Tally R
  tally_of (Yes tally) = tally
  tally_of (No why) = Plain

  abbrev pub tallies_after : EngineNews R → Option Transition → (off : Bool) → List (ClientTally R) → List (ClientTally R)
  tallies_after (Begun t sheet n) transition off before = []
  tallies_after (Answered client answer) transition off before =
      if refuses answer transition off then before else before ++ record { client = client; tally = tally_of answer } ∷ []
  tallies_after (Ended outcome) transition off before = []
  tallies_after news transition off before = before

  -- the answers, in order, without a No to a start, and with a No to anything else as Yes without a tally
  abbrev pub tallies_at : List (ℕ × EngineEntry R) → List (ClientTally R)
  tallies_at [] = []
  tallies_at (e ∷ past) = tallies_after (engine_news e.1) (transition_at past) (off_at past) (tallies_at past)

abbrev pub wants_dump : List Registered → (client : ℕ) → Bool
wants_dump clients client = option_map_or (λ (c : Registered). c.wants_dump) (slice_get clients client) false

abbrev pub wants_report : List Registered → (client : ℕ) → Bool
wants_report clients client = option_map_or (λ (c : Registered). c.wants_report) (slice_get clients client) false

module _ {R : Type 0} where
  abbrev pub dump_after : EngineNews R → List Registered → Option (List ℕ) → Option (List ℕ)
  dump_after (Begun t sheet n) clients before = sheet.dump
  dump_after (GaveTurn client blank) clients before = if wants_dump clients client then None else before
  dump_after news clients before = before

  -- the dump of the sheet, until a client that wants it was given a turn
  abbrev pub dump_at : List (ℕ × EngineEntry R) → Option (List ℕ)
  dump_at [] = None
  dump_at (e ∷ past) = dump_after (engine_news e.1) (callable_at past) (dump_at past)

  abbrev pub blanks_after : EngineNews R → List R → List R
  blanks_after (Begun t sheet n) before = sheet.blanks
  blanks_after (GaveTurn client (Some blank)) before = drop 1 before
  blanks_after news before = before

  -- the blank reports of the sheet that were in no turn
  abbrev pub blanks_at : List (ℕ × EngineEntry R) → List R
  blanks_at [] = []
  blanks_at (e ∷ past) = blanks_after (engine_news e.1) (blanks_at past)

-- The state.

abbrev pub ended_with : StartOutcome → Option Transition → List Transition → List Transition
ended_with Completed (Some t) ended = ended ++ t ∷ []
ended_with outcome transition ended = ended

module _ {R : Type 0} where
  abbrev pub completed_after : EngineNews R → Option Transition → List Transition → List Transition
  completed_after (Ended outcome) transition ended = ended_with outcome transition ended
  completed_after news transition ended = ended

  -- the transitions that were told to have ended and were not refused, in order
  abbrev pub completed_at : List (ℕ × EngineEntry R) → List Transition
  completed_at [] = []
  completed_at (e ∷ past) = completed_after (engine_news e.1) (transition_at past) (completed_at past)

abbrev pub answered_to_the_end : Option Transition → Option Refusal → (all : Bool) → List Transition
answered_to_the_end (Some t) None all = if all then t ∷ [] else []
answered_to_the_end transition refusal all = []

module _ {R : Type 0} where
  -- the transition in progress, if each client that is called has answered and none refused it
  abbrev pub ending_at : List (ℕ × EngineEntry R) → List Transition
  ending_at past = answered_to_the_end (transition_at past) (refusal_at past) (are_among (called_numbers (called_at past)) (answered_at past))

-- the walk over transitions from stopped
abbrev pub state_by : List Transition → RunState
state_by ts = fold run_state_after Stopped ts

module _ {R : Type 0} where
  -- the state to which the transitions lead that were answered to the end and not refused
  abbrev pub state_at : List (ℕ × EngineEntry R) → RunState
  state_at past = state_by (completed_at past ++ ending_at past)

  abbrev pub order_after : EngineNews R → RunState → Option Order → Option Order
  order_after (Begun t sheet n) state before = Some (order_for sheet n state)
  order_after news state before = before

  -- the order of the last transition that was begun
  abbrev pub order_at : List (ℕ × EngineEntry R) → Option Order
  order_at [] = None
  order_at (e ∷ past) = order_after (engine_news e.1) (state_at past) (order_at past)
