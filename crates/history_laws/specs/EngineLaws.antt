-- What the history of an engine tells of the turns of one client: statements of the laws.
use Rattle.std.specs.Prelude.{◌≡◌, ◌≢◌, ℕ, List, ◌∷◌, ◌++◌, slice_get, Some, Ok}
use Rattle.daq_types.specs.Callers.{entries_by, main_caller}
use Rattle.daq_types.specs.declared.runs.RunState.TheVariants.{Stopped}
use Rattle.daq_types.specs.declared.runs.Transition.{Transition}
use Rattle.daq_types.specs.declared.runs.Transition.TheVariants.{Start, Stop, StartAbort}
use Rattle.daq_types.specs.declared.runs.StartOutcome.{StartOutcome}
use Rattle.daq_types.specs.declared.runs.Why.{Why}
use Rattle.transitions.specs.declared.answers.Answer.TheVariants.{No}
use Rattle.transitions.specs.declared.replies.Progress.TheVariants.{Done}
use Rattle.transitions.specs.declared.entry.EngineEntry.TheVariants.{Begin, Check}
use Rattle.transitions.specs.Engines.{engine_opening}
use Rattle.transitions.specs.EnginePoints.{engine_past, state_at}
use Rattle.transitions.specs.GivenTurns.{SpeaksFor}
use Rattle.member_model.specs.RunEngines.{Sheet, Tally, ClientTally, EngineEntry, EngineHistory, IsLegalEngine}
use Rattle.member_model.specs.Turns.{MemberTurn, HasTurn, AreEngineTurns}
use Rattle.member_model.specs.TurnCalls.{member_turns}
use Rattle.daq_types.specs.declared.runs.StartOutcome.TheVariants.{Completed, Refused}
use Rattle.history_laws.specs.BegunTurns.{WasBegun, HasTransition, IsRegisteredIn, HasTally, OneHasNumber, IsTallyOfTurn, IsRefusedTurn, IsCalledOff, StartsComeLast, IsAlwaysCalled, AreUnmarked}

-- The turns that the caller of a client reads off its own calls are turns as an engine gives them, where this caller alone
-- polls and answers for the client.
abbrev pub GivesEngineTurns : Type 0
GivesEngineTurns = (by client : ℕ) → (history : EngineHistory) →
    IsLegalEngine engine_opening history → SpeaksFor by client history →
    AreEngineTurns (member_turns client (entries_by by history))

-- Each of these turns is one of a transition that was begun in the history.
abbrev pub TurnsWereBegun : Type 0
TurnsWereBegun = (by client : ℕ) → (history : EngineHistory) →
    IsLegalEngine engine_opening history → SpeaksFor by client history →
    (turn : MemberTurn) → HasTurn (member_turns client (entries_by by history)) turn →
    WasBegun history turn

-- A start is ordered where no run is on, and a stop where one is.
abbrev pub StartsFromStopped : Type 0
StartsFromStopped = (by client : ℕ) → (history : EngineHistory) →
    IsLegalEngine engine_opening history → SpeaksFor by client history →
    (turn : MemberTurn) → HasTurn (member_turns client (entries_by by history)) turn →
    turn.transition ≡ Start → turn.order.from ≡ Stopped

abbrev pub StopsFromRun : Type 0
StopsFromRun = (by client : ℕ) → (history : EngineHistory) →
    IsLegalEngine engine_opening history → SpeaksFor by client history →
    (turn : MemberTurn) → HasTurn (member_turns client (entries_by by history)) turn →
    turn.transition ≡ Stop → turn.order.from ≢ Stopped

-- Each Done belongs to the transition that was begun last before it: this very Done ends it, and the calls before that are
-- those up to the begin, the begin, and those between.
abbrev pub DonesHaveBegins : Type 0
DonesHaveBegins = (before after : EngineHistory) → (caller : ℕ) → (outcome : StartOutcome) → (tallies : List ClientTally) →
    IsLegalEngine engine_opening (before ++ (caller, Check (Done outcome) tallies) ∷ after) →
    (transition : Transition) × (sheet : Sheet) × (start : ℕ) ×
    (has : HasTransition (before ++ (caller, Check (Done outcome) tallies) ∷ after) transition sheet start outcome tallies) ×
    (before ≡ has.earlier ++ (has.opener, Begin transition sheet (Ok start)) ∷ has.between)

-- Only a start is refused: the Done of any other transition says Completed.
abbrev pub OthersComplete : Type 0
OthersComplete = (history : EngineHistory) → IsLegalEngine engine_opening history →
    (transition : Transition) → (sheet : Sheet) → (start : ℕ) → (outcome : StartOutcome) → (tallies : List ClientTally) →
    HasTransition history transition sheet start outcome tallies → transition ≢ Start → outcome ≡ Completed

-- Each tally of a client in a Done is what its caller answered to the client's turn of that transition.
abbrev pub TalliesAreAnswers : Type 0
TalliesAreAnswers = (by client : ℕ) → (history : EngineHistory) →
    IsLegalEngine engine_opening history → SpeaksFor by client history →
    (transition : Transition) → (sheet : Sheet) → (start : ℕ) → (outcome : StartOutcome) → (tallies : List ClientTally) →
    (has : HasTransition history transition sheet start outcome tallies) →
    (index : ℕ) → (tally : Tally) → slice_get tallies index ≡ Some (record { client = client; tally = tally }) →
    IsTallyOfTurn history client (member_turns client (entries_by by history)) (state_at (engine_past has.earlier))
    transition sheet start outcome tally

-- Where the Done of a start says that a client refused it, that is what its caller answered to the client's turn of that
-- start.
abbrev pub RefusalsAreAnswers : Type 0
RefusalsAreAnswers = (by client : ℕ) → (history : EngineHistory) →
    IsLegalEngine engine_opening history → SpeaksFor by client history →
    (sheet : Sheet) → (start : ℕ) → (why : Why) → (tallies : List ClientTally) →
    (has : HasTransition history Start sheet start (Refused client why) tallies) →
    IsRefusedTurn (member_turns client (entries_by by history)) (state_at (engine_past has.earlier)) sheet start why

-- Where the caller of a client answered No to its turn of a start, the Done of that start says that it was refused: by the client
-- whose No came first.
abbrev pub NosAreRefusals : Type 0
NosAreRefusals = (by client : ℕ) → (history : EngineHistory) →
    IsLegalEngine engine_opening history → SpeaksFor by client history →
    (sheet : Sheet) → (start : ℕ) → (outcome : StartOutcome) → (tallies : List ClientTally) →
    HasTransition history Start sheet start outcome tallies →
    (turn : MemberTurn) → HasTurn (member_turns client (entries_by by history)) turn →
    turn.transition ≡ Start → turn.order.start ≡ start → (why : Why) → turn.answer ≡ Some (No why) →
    (refuser : ℕ) × (reason : Why) × (outcome ≡ Refused refuser reason)

-- A client that has its number for a start alone has its turn of it alone: so where its caller answered No, this is the refusal
-- that the Done tells.
abbrev pub LoneNosAreRefusals : Type 0
LoneNosAreRefusals = (by client : ℕ) → (history : EngineHistory) →
    IsLegalEngine engine_opening history → SpeaksFor by client history →
    (sequence : ℕ) → OneHasNumber client Start sequence history →
    (sheet : Sheet) → (start : ℕ) → (outcome : StartOutcome) → (tallies : List ClientTally) →
    HasTransition history Start sheet start outcome tallies →
    (turn : MemberTurn) → HasTurn (member_turns client (entries_by by history)) turn →
    turn.transition ≡ Start → turn.order.start ≡ start → (why : Why) → turn.answer ≡ Some (No why) →
    outcome ≡ Refused client why

-- Where the Done of a start says that it was refused, the caller of each client that is called for a start-abort answered the
-- client's turn of that.
abbrev pub RefusedAreCalledOff : Type 0
RefusedAreCalledOff = (by client : ℕ) → (history : EngineHistory) →
    IsLegalEngine engine_opening history → SpeaksFor by client history →
    (sheet : Sheet) → (start refuser : ℕ) → (why : Why) → (tallies : List ClientTally) →
    (has : HasTransition history Start sheet start (Refused refuser why) tallies) →
    IsRegisteredIn has.earlier client StartAbort →
    IsCalledOff (member_turns client (entries_by by history)) start

-- A client that is called for each stop and each start-abort is given a start only once all runs before it are over, which have
-- lower start numbers.
abbrev pub RunsAreOver : Type 0
RunsAreOver = (by client : ℕ) → (history : EngineHistory) →
    IsLegalEngine engine_opening history → SpeaksFor by client history → IsAlwaysCalled history client →
    StartsComeLast (member_turns client (entries_by by history))

-- Where a transition was not refused, each client that is called for it has a tally in its Done.
abbrev pub CalledAreTold : Type 0
CalledAreTold = (client : ℕ) → (history : EngineHistory) → IsLegalEngine engine_opening history →
    (transition : Transition) → (sheet : Sheet) → (start : ℕ) → (tallies : List ClientTally) →
    (has : HasTransition history transition sheet start Completed tallies) → IsRegisteredIn has.earlier client transition →
    HasTally client tallies

-- Where the main thread's own calls have a begin and behind it a Done, and none between that begins or ends a transition,
-- this transition stands in the history; and its own calls before the begin there are those before it here.
abbrev pub MainHasTransition : Type 0
MainHasTransition = (history : EngineHistory) → (before between after : List EngineEntry) →
    (transition : Transition) → (sheet : Sheet) → (start : ℕ) → (outcome : StartOutcome) → (tallies : List ClientTally) →
    IsLegalEngine engine_opening history →
    entries_by main_caller history
    ≡ before ++ Begin transition sheet (Ok start) ∷ (between ++ Check (Done outcome) tallies ∷ after) →
    AreUnmarked between →
    (has : HasTransition history transition sheet start outcome tallies) × (entries_by main_caller has.earlier ≡ before)
