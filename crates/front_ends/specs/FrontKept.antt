-- What a front-end keeps of its calls on a buffer and of its turns, whatever the buffer replies.
use Rattle.std.specs.Prelude.{◌≡◌, ◌≢◌, ℕ, zero, suc, ◌≤◌, ◌<◌, Bool, false, if◌then◌else◌, List, [], ◌∷◌, ◌++◌, length, take, drop, Option, Some, None, ⊤, ◌⊎◌}
use Rattle.daq_types.specs.declared.events.Event.{Event}
use Rattle.daq_types.specs.declared.runs.Order.{Order}
use Rattle.daq_types.specs.declared.runs.RunState.TheVariants.{Paused}
use Rattle.daq_types.specs.declared.runs.Transition.{Transition}
use Rattle.daq_types.specs.declared.runs.Transition.TheVariants.{Start, Stop, Pause}
use Rattle.daq_types.specs.declared.runs.FrontEnded.{FrontEnded}
use Rattle.daq_types.specs.declared.runs.FrontEnded.TheVariants.{Quota, Paused as EndedPaused, Spent as EndedSpent}
use Rattle.daq_types.specs.declared.runs.Why.TheVariants.{NotReady}
use Rattle.buffer_core.specs.declared.entry.BufferEntry.{BufferEntry}
use Rattle.buffer_core.specs.declared.entry.BufferEntry.TheVariants.{SendInRun}
use Rattle.member_model.specs.RunEngines.{Answer}
use Rattle.transitions.specs.declared.answers.Answer.TheVariants.{Yes, No}
use Rattle.transitions.specs.declared.answers.Tally.TheVariants.{Plain, Front}
use Rattle.member_model.specs.Turns.{MemberTurn, HasTurn, HasTurnOf, IsAcceptedStart, HasAnswer, NoneOpen, current_run, AreEngineTurns}
use Rattle.member_model.specs.Moments.{AreMoments, HasMoment}
use Rattle.member_model.specs.SentCalls.{own_sent, IsSendInRun, SendsNotIn, EachCall, WasSpent}
use Rattle.front_ends.specs.declared.front_run.FrontRun.{FrontRun}
use Rattle.front_ends.specs.Fronts.{front_turn, is_at_work}
use Rattle.front_ends.specs.Spans.{HasSpan}

-- events 1 to n of an equipment in a run of this order
abbrev pub made_events : (Order → ℕ → Event) → Order → (n : ℕ) → List Event
made_events makes order zero = []
made_events makes order (suc n) = made_events makes order n ++ makes order (suc n) ∷ []

-- What was sent with this start number is nothing, or the first events of the order of a start turn with that number.
pub record IsMadeFor (makes : Order → ℕ → Event) (own : List BufferEntry) (turns : List MemberTurn) (start : ℕ) : Type 0 where
  pub turn : MemberTurn
  pub is_start : HasTurnOf turns Start start turn
  pub number : ℕ
  pub sent : own_sent own start ≡ made_events makes turn.order number

abbrev pub IsMade : (Order → ℕ → Event) → List BufferEntry → List MemberTurn → (start : ℕ) → Type 0
IsMade makes own turns start = (own_sent own start ≡ []) ⊎ IsMadeFor makes own turns start

-- each start that was answered was refused exactly where the equipment does not take part in a run of its order
abbrev pub StartsAnswered : (takes : Order → Bool) → List MemberTurn → Type 0
StartsAnswered takes turns = (t : MemberTurn) → (answer : Answer) → HasTurn turns t → t.transition ≡ Start →
    t.answer ≡ Some answer → answer ≡ (if takes t.order then Yes Plain else No NotReady)

-- Behind these calls an event may be sent in the run with this number: the start was accepted, fewer events were sent than it
-- wants, and the event is the next one of the equipment. The size that is stated is that of its data.
pub record IsNextSend (makes : Order → ℕ → Event) (before : List BufferEntry) (turns : List MemberTurn) (start stated : ℕ) (event : Event) : Type 0 where
  pub turn : MemberTurn
  pub of_run : IsAcceptedStart turns start turn
  pub more : length (own_sent before start) < turn.order.quota
  pub next : event ≡ makes turn.order (suc (length (own_sent before start)))
  pub size : stated ≡ length event.body

abbrev pub IsNextCall : (Order → ℕ → Event) → (before : List BufferEntry) → List MemberTurn → BufferEntry → Type 0
IsNextCall makes before turns (SendInRun start stated event reply) = IsNextSend makes before turns start stated event
IsNextCall makes before turns entry = ⊥

-- each of these calls, which follow those before, is such a send, whatever it was replied
abbrev pub AreNextSends : (Order → ℕ → Event) → (before : List BufferEntry) → List MemberTurn → (calls : List BufferEntry) → Type 0
AreNextSends makes before turns [] = ⊤
AreNextSends makes before turns (e ∷ es) = IsNextCall makes before turns e × AreNextSends makes (before ++ e ∷ []) turns es

-- each answered stop of a run whose start was accepted was answered with a tally
abbrev pub StopsTold : List MemberTurn → Type 0
StopsTold turns = (start : ℕ) → (begin stop : MemberTurn) → (answer : Answer) → IsAcceptedStart turns start begin →
    HasTurnOf turns Stop start stop → stop.answer ≡ Some answer →
    (sent : ℕ) × (ended : FrontEnded) × (answer ≡ Yes (Front sent ended))

-- how the front-end ended is so: the number sent is the quota of a start with that number; the stop came from a pause; a
-- send was refused as spent
abbrev pub EndedSo : List BufferEntry → List MemberTurn → (stop : Order) → (sent : ℕ) → FrontEnded → Type 0
EndedSo own turns stop sent Quota = (t : MemberTurn) × HasTurnOf turns Start stop.start t × (sent ≡ t.order.quota)
EndedSo own turns stop sent EndedPaused = stop.from ≡ Paused
EndedSo own turns stop sent (EndedSpent total) = WasSpent own stop.start total

-- The tally of a stop is the number of the events that were sent in the run, and how that ended.
pub record IsFrontTally (own : List BufferEntry) (turns : List MemberTurn) (stop : Order) (sent : ℕ) (ended : FrontEnded) : Type 0 where
  pub number : length (own_sent own stop.start) ≡ sent
  pub ended_so : EndedSo own turns stop sent ended

-- each stop that was answered with a tally was answered rightly, and is so still: nothing was sent in that run since
abbrev pub TalliesHold : List BufferEntry → List MemberTurn → Type 0
TalliesHold own turns = (t : MemberTurn) → (sent : ℕ) → (ended : FrontEnded) → HasTurn turns t → t.transition ≡ Stop →
    t.answer ≡ Some (Yes (Front sent ended)) → IsFrontTally own turns t.order sent ended

-- What holds at every moment. The sentences that need it have the premise that the turns are such as an engine gives.
pub record KeepsFront (takes : Order → Bool) (makes : Order → ℕ → Event) (own : List BufferEntry) (turns : List MemberTurn) : Type 0 where
  pub only_sends : EachCall IsSendInRun own
  pub starts : StartsAnswered takes turns
  pub sends : AreEngineTurns turns → AreNextSends makes [] turns own
  pub made : AreEngineTurns turns → (start : ℕ) → IsMade makes own turns start
  pub stops : AreEngineTurns turns → StopsTold turns
  pub tallies : AreEngineTurns turns → TalliesHold own turns

-- behind the answer to a stop no event is sent in its run, nor is one tried to be
abbrev pub StopsEndSends : List BufferEntry → List MemberTurn → (moments : List ℕ) → Type 0
StopsEndSends own turns moments = (t : MemberTurn) → (moment : ℕ) → HasMoment turns moments t moment →
    t.transition ≡ Stop → HasAnswer t.answer → EachCall (SendsNotIn t.order.start) (drop moment own)

-- behind the answer to a pause no event is sent in its run, nor is one tried to be, until the next turn is answered
abbrev pub PausesHoldSends : List BufferEntry → List MemberTurn → (moments : List ℕ) → Type 0
PausesHoldSends own turns moments = (t : MemberTurn) → (moment until : ℕ) →
    HasSpan turns moments (length own) t moment until → t.transition ≡ Pause → HasAnswer t.answer →
    EachCall (SendsNotIn t.order.start) (drop moment (take until own))

-- What holds at every moment of the moments of its turns.
pub record KeepsMoments (own : List BufferEntry) (turns : List MemberTurn) (moments : List ℕ) : Type 0 where
  pub are : AreMoments turns moments (length own)
  pub ends : AreEngineTurns turns → StopsEndSends own turns moments
  pub holds : PausesHoldSends own turns moments

-- So what it had sent in the run by its answer to a pause is all that it had sent in it when it answered its next turn, or has
-- sent so far, where it answered none since.
abbrev pub SentAtPauses : Type 0
SentAtPauses = (own : List BufferEntry) → (turns : List MemberTurn) → (moments : List ℕ) → KeepsMoments own turns moments →
    (t : MemberTurn) → (moment until : ℕ) → HasSpan turns moments (length own) t moment until →
    t.transition ≡ Pause → HasAnswer t.answer →
    own_sent (take moment own) t.order.start ≡ own_sent (take until own) t.order.start

-- the latest turn is a stop that is not answered, if one waits
abbrev pub IsWaiting : (stop : Option Order) → (start : ℕ) → List MemberTurn → Type 0
IsWaiting None start turns = NoneOpen turns
IsWaiting (Some order) start turns =
    (order.start ≡ start) × (dump : Option (List ℕ)) × (earlier : List MemberTurn) × (turns ≡ front_turn dump Stop order None ∷ earlier)

abbrev pub IsSpentSo : List BufferEntry → (start : ℕ) → (spent : Option ℕ) → Type 0
IsSpentSo own start None = ⊤
IsSpentSo own start (Some total) = WasSpent own start total

-- no stop of this run was answered
abbrev pub NoStopAnswered : List MemberTurn → (start : ℕ) → Type 0
NoStopAnswered turns start = (t : MemberTurn) → HasTurn turns t → t.transition ≡ Stop → HasAnswer t.answer → t.order.start ≢ start

-- The run is on: it was ordered by a start turn, and its events so far are those that were sent.
pub record TakesPart (makes : Order → ℕ → Event) (own : List BufferEntry) (turns : List MemberTurn) (r : FrontRun) : Type 0 where
  pub begin_turn : MemberTurn
  pub is_start : HasTurnOf turns Start r.order.start begin_turn
  pub accepted : begin_turn.answer ≡ Some (Yes Plain)
  pub order_is : begin_turn.order ≡ r.order
  pub within : r.sent ≤ r.order.quota
  pub spent_so : IsSpentSo own r.order.start r.spent
  pub waiting : IsWaiting r.stop r.order.start turns
  pub sent_is : AreEngineTurns turns → own_sent own r.order.start ≡ made_events makes r.order r.sent
  pub fresh : AreEngineTurns turns → NoStopAnswered turns r.order.start

abbrev pub RunStands : (Order → ℕ → Event) → List BufferEntry → List MemberTurn → Option FrontRun → Type 0
RunStands makes own turns None = NoneOpen turns
RunStands makes own turns (Some r) = TakesPart makes own turns r

-- the front-end is in the run with this number
abbrev pub IsInRun : Option FrontRun → (start : ℕ) → Type 0
IsInRun None start = ⊥
IsInRun (Some r) start = r.order.start ≡ start

-- while the run is on whose start it accepted last, it is in that run
abbrev pub IsInCurrent : Option FrontRun → List MemberTurn → Type 0
IsInCurrent run turns = (start : ℕ) → (begin : MemberTurn) → current_run turns ≡ Some start → IsAcceptedStart turns start begin → IsInRun run start

abbrev pub answered_last : Option Answer → Transition → (before : Option Transition) → Option Transition
answered_last None transition before = before
answered_last (Some answer) transition before = Some transition

-- the transition of the latest turn that was answered
abbrev pub last_answered : List MemberTurn → Option Transition
last_answered [] = None
last_answered (t ∷ ts) = answered_last t.answer t.transition (last_answered ts)

-- a front-end in this run, or in none, with its own calls and its turns; since it answered a pause it is to send nothing
pub record FrontStands (takes : Order → Bool) (makes : Order → ℕ → Event) (run : Option FrontRun) (own : List BufferEntry) (turns : List MemberTurn) : Type 0 where
  pub keeps : KeepsFront takes makes own turns
  pub run_stands : RunStands makes own turns run
  pub current : AreEngineTurns turns → IsInCurrent run turns
  pub rests : last_answered turns ≡ Some Pause → is_at_work run ≡ false
