-- How the transitions of an engine go: the law of its histories, read off calls and replies alone.
use Rattle.std.specs.Prelude.{◌≡◌, ℕ, suc, ◌<◌, Bool, true, false, ◌&&◌, not, if◌then◌else◌, List, [], ◌∷◌, ◌++◌, length, slice_get, Option, Some, None, is_some, Ok, Err, ⊤}
use Rattle.daq_types.specs.declared.runs.Transition.{Transition}
use Rattle.daq_types.specs.declared.runs.Order.{Order}
use Rattle.daq_types.specs.declared.runs.StartOutcome.{StartOutcome}
use Rattle.transitions.specs.States.{is_allowed}
use Rattle.transitions.specs.declared.answers.ClientTally.{ClientTally}
use Rattle.transitions.specs.declared.replies.BeginRefusal.TheVariants.{WrongState}
use Rattle.transitions.specs.declared.replies.Polled.TheVariants.{Turn, Idle}
use Rattle.transitions.specs.declared.replies.Progress.TheVariants.{Done}
use Rattle.transitions.specs.declared.entry.EngineEntry.{EngineEntry}
use Rattle.transitions.specs.declared.entry.EngineEntry.TheVariants.{Register, Begin, Poll, Answer, Check}
use Rattle.transitions.specs.declared.called.Called.{Called}
use Rattle.transitions.specs.CalledOrder.{IsCalledIn}
use Rattle.transitions.specs.EngineCalls.{is_start, outcome_of}
use Rattle.transitions.specs.EnginePoints.{engine_past, clients_at, transition_at, turn_at, order_at, callable_at, called_at, turned_at, answered_at, refusal_at, off_at, tallies_at, dump_at, blanks_at, wants_dump, wants_report, is_among, starts_at, state_at}

-- The client is called, and each client of a lower number that is called has answered.
pub record IsGroupReached (called : List Called) (answered : List ℕ) (one : Called) : Type 0 where
  pub among : IsCalledIn one called
  pub front : (other : Called) → IsCalledIn other called → other.sequence < one.sequence → is_among other.client answered ≡ true

-- the client of this number is one of a group that is reached
pub record IsClientReached (called : List Called) (answered : List ℕ) (client : ℕ) : Type 0 where
  pub one : Called
  pub is : one.client ≡ client
  pub group : IsGroupReached called answered one

-- no client twice
abbrev pub AreDistinct : List ℕ → Type 0
AreDistinct [] = ⊤
AreDistinct (c ∷ cs) = (is_among c cs ≡ false) × AreDistinct cs

module _ {R : Type 0} where
  -- Those that were given a turn are in groups that are reached: each client of the groups in front has answered. Those that
  -- answered had been given a turn, and each answered once.
  pub record AreTurnsInGroups (past : List (ℕ × EngineEntry R)) : Type 0 where
    pub turned : (client : ℕ) → is_among client (turned_at past) ≡ true → IsClientReached (called_at past) (answered_at past) client
    pub answered : (client : ℕ) → is_among client (answered_at past) ≡ true → is_among client (turned_at past) ≡ true
    pub once : AreDistinct (answered_at past)

  -- a start was refused, and some client that was given a turn of it has not answered
  abbrev pub is_refused_at : List (ℕ × EngineEntry R) → Bool
  is_refused_at past = not (off_at past) && is_some (refusal_at past)

  -- A turn is one of the transition in progress, or of start-abort once a start was refused and all its turns are answered.
  -- It goes to a client of a group that is reached, until that client answers; behind the first No to a start to none that
  -- had not got it before. The first one to a client that wants the dump has it, and no other; the first one of a start to a
  -- client that wants a blank report has one, as long as there are some, and no other.
  pub record IsRightTurn (past : List (ℕ × EngineEntry R)) (client : ℕ) (turn : Transition) (order : Order) (dump : Option (List ℕ)) (blank : Option R) : Type 0 where
    pub turn_is : turn_at past ≡ Some turn
    pub order_is : order_at past ≡ Some order
    pub reached : IsClientReached (called_at past) (answered_at past) client
    pub owes : is_among client (answered_at past) ≡ false
    pub no_later : is_refused_at past ≡ true → is_among client (turned_at past) ≡ true
    pub dump_is : dump ≡ (if wants_dump (callable_at past) client then dump_at past else None)
    pub blank_is : blank ≡ (if wants_report (callable_at past) client && (not (is_among client (turned_at past)) && is_start turn) then slice_get (blanks_at past) 0 else None)

  -- an answer comes from a client that was given a turn and has not answered
  pub record IsRightAnswer (past : List (ℕ × EngineEntry R)) (client : ℕ) : Type 0 where
    pub turned : is_among client (turned_at past) ≡ true
    pub owes : is_among client (answered_at past) ≡ false

  -- Done is told where all that are called have answered, behind a No to a start those for start-abort. It says whether a
  -- start was refused, by whom first and why, and gives the answers.
  pub record IsRightEnd (past : List (ℕ × EngineEntry R)) (outcome : StartOutcome) (tallies : List (ClientTally R)) : Type 0 where
    pub transition : Transition
    pub in_progress : transition_at past ≡ Some transition
    pub off : is_refused_at past ≡ false
    pub all : (one : Called) → IsCalledIn one (called_at past) → is_among one.client (answered_at past) ≡ true
    pub outcome_is : outcome ≡ outcome_of (refusal_at past)
    pub tallies_is : tallies ≡ tallies_at past

-- a start has the next start number, any other transition that of the last start
abbrev pub number_with : Transition → (starts : ℕ) → ℕ
number_with t starts = if is_start t then suc starts else starts

module _ {R : Type 0} where
  -- a transition begins where none is in progress, and where the state allows it
  pub record IsRightBegin (past : List (ℕ × EngineEntry R)) (transition : Transition) (start : ℕ) : Type 0 where
    pub free : transition_at past ≡ None
    pub allowed : is_allowed (state_at past) transition ≡ true
    pub number : start ≡ number_with transition (starts_at past)

  -- The entry is right at this point. Clients are numbered from 0, in order of registration.
  abbrev pub IsRightCall : List (ℕ × EngineEntry R) → EngineEntry R → Type 0
  IsRightCall past (Register name sequences dump report (Ok n)) = n ≡ length (clients_at past)
  IsRightCall past (Begin t sheet (Ok n)) = IsRightBegin past t n
  IsRightCall past (Begin t sheet (Err (WrongState state))) = state ≡ state_at past
  IsRightCall past (Poll client (Turn turn order dump blank)) = IsRightTurn past client turn order dump blank
  IsRightCall past (Poll client (Idle state)) = state ≡ state_at past
  IsRightCall past (Answer client answer (Ok u)) = IsRightAnswer past client
  IsRightCall past (Check (Done outcome) tallies) = IsRightEnd past outcome tallies
  IsRightCall past entry = ⊤

  -- each point of the history is in order, and each entry is right
  pub record TurnsInOrder (history : List (ℕ × EngineEntry R)) : Type 0 where
    pub in_order : (before after : List (ℕ × EngineEntry R)) → history ≡ before ++ after → AreTurnsInGroups (engine_past before)
    pub right : (before after : List (ℕ × EngineEntry R)) (caller : ℕ) (entry : EngineEntry R) → history ≡ before ++ (caller, entry) ∷ after → IsRightCall (engine_past before) entry
