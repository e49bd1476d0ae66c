-- Where the turns of a client come from, and where its answers go.
use Rattle.transitions.specs.declared.sequences.Sequences.{Sequences}
use Rattle.transitions.specs.Sequences.{sequence_for}
use Rattle.std.specs.Prelude.{Bool, slice_get, ◌≡◌, ◌<◌, ℕ, true, false, List, [], ◌∷◌, ◌++◌, ◌⊎◌, ◌↔◌, Some, Ok, ⊤}
use Rattle.std.specs.List.{AllByRecursion}
use Rattle.daq_types.specs.declared.runs.RunState.{RunState}
use Rattle.daq_types.specs.declared.runs.Transition.{Transition}
use Rattle.daq_types.specs.declared.runs.Transition.TheVariants.{Start, Stop, StartAbort}
use Rattle.daq_types.specs.declared.runs.StartOutcome.{StartOutcome}
use Rattle.daq_types.specs.declared.runs.Why.{Why}
use Rattle.daq_types.specs.declared.runs.StartOutcome.TheVariants.{Completed}
use Rattle.transitions.specs.States.{is_allowed}
use Rattle.transitions.specs.declared.client.Registered.{Registered}
use Rattle.transitions.specs.declared.answers.Answer.TheVariants.{Yes, No}
use Rattle.transitions.specs.declared.replies.Progress.TheVariants.{Done}
use Rattle.transitions.specs.declared.entry.EngineEntry.TheVariants.{Register, Begin, Check}
use Rattle.transitions.specs.EngineCalls.{order_for}
use Rattle.transitions.specs.EnginePoints.{engine_past, state_at, tally_of}
use Rattle.transitions.specs.Marks.{is_mark, HasNoMark}
use Rattle.member_model.specs.RunEngines.{Sheet, Answer, Tally, ClientTally, EngineEntry, EngineHistory}
use Rattle.member_model.specs.Turns.{MemberTurn, HasTurn}

-- The turn is one of a transition that was begun from this state with this sheet and this start number: it is of this
-- transition, or of start-abort where this is a start; its order is that of the sheet and the state, which allows the
-- transition; and its dump, if it has one, is that of the sheet.
pub record IsOfBegin (from : RunState) (transition : Transition) (sheet : Sheet) (start : ℕ) (turn : MemberTurn) : Type 0 where
  pub kind : (turn.transition ≡ transition) ⊎ ((transition ≡ Start) × (turn.transition ≡ StartAbort))
  pub order : turn.order ≡ order_for sheet start from
  pub allowed : is_allowed from transition ≡ true
  pub dump : (bytes : List ℕ) → turn.dump ≡ Some bytes → sheet.dump ≡ Some bytes

-- a transition with the turn's start number was begun in the history, from the state that this tells there, and the turn is
-- one of it
pub record WasBegun (history : EngineHistory) (turn : MemberTurn) : Type 0 where
  pub earlier : EngineHistory
  pub later : EngineHistory
  pub caller : ℕ
  pub transition : Transition
  pub sheet : Sheet
  pub stands : history ≡ earlier ++ (caller, Begin transition sheet (Ok turn.order.start)) ∷ later
  pub of_begin : IsOfBegin (state_at (engine_past earlier)) transition sheet turn.order.start turn

-- A transition stands in the history from its begin to its Done: no other begins or ends between the two.
pub record HasTransition (history : EngineHistory) (transition : Transition) (sheet : Sheet) (start : ℕ) (outcome : StartOutcome) (tallies : List ClientTally) : Type 0 where
  pub earlier : EngineHistory
  pub between : EngineHistory
  pub later : EngineHistory
  pub opener : ℕ
  pub closer : ℕ
  pub whole : history ≡ earlier ++ (opener, Begin transition sheet (Ok start)) ∷ (between ++ (closer, Check (Done outcome) tallies) ∷ later)
  pub on : HasNoMark between

-- the client was registered in the history, with a sequence number for the transition: it is called for it
pub record IsRegisteredIn (history : EngineHistory) (client : ℕ) (transition : Transition) : Type 0 where
  pub before : EngineHistory
  pub after : EngineHistory
  pub caller : ℕ
  pub name : List ℕ
  pub sequences : Sequences
  pub wants_dump : Bool
  pub wants_report : Bool
  pub stands : history ≡ before ++ (caller, Register name sequences wants_dump wants_report (Ok client)) ∷ after
  pub sequence : ℕ
  pub called : sequence_for sequences transition ≡ Some sequence

-- a tally of this client is among these
abbrev pub HasTally : (client : ℕ) → List ClientTally → Type 0
HasTally client tallies = (index : ℕ) × (tally : Tally) × (slice_get tallies index ≡ Some (record { client = client; tally = tally }))

-- where the entry registers a client, this is so of it exactly where it is this one
abbrev pub IsAlone : (P : Registered → Type 0) → (client : ℕ) → ℕ × EngineEntry → Type 0
IsAlone P client (caller, Register name sequences dump report (Ok n)) =
    P (record { name = name; sequences = sequences; wants_dump = dump; wants_report = report }) ↔ (n ≡ client)
IsAlone P client entry = ⊤

-- this client wants the dump, and no other
abbrev pub WantsAlone : (client : ℕ) → ℕ × EngineEntry → Type 0
WantsAlone client entry = IsAlone (λ (c : Registered). c.wants_dump ≡ true) client entry

abbrev pub OneWantsDump : (client : ℕ) → EngineHistory → Type 0
OneWantsDump client history = AllByRecursion (WantsAlone client) history

-- this client has this number for the transition, and no other: it is alone in its group
abbrev pub IsNumberedAlone : (client : ℕ) → Transition → (sequence : ℕ) → ℕ × EngineEntry → Type 0
IsNumberedAlone client t q entry = IsAlone (λ (c : Registered). sequence_for c.sequences t ≡ Some q) client entry

abbrev pub OneHasNumber : (client : ℕ) → Transition → (sequence : ℕ) → EngineHistory → Type 0
OneHasNumber client t q history = AllByRecursion (IsNumberedAlone client t q) history

-- One of these turns is of such a transition, and this tally is its answer: a start that was answered No has none, and a
-- No to any other transition is told as Yes without a tally. Where no start was refused, the turn is none of a start-abort.
-- The turn of the one client that wants the dump has it, unless it is one of a start-abort. As a run has one start and one
-- stop, this is the turn of that start or stop; of two pauses of a run with like sheets it may be that of either.
pub record IsTallyOfTurn (history : EngineHistory) (client : ℕ) (turns : List MemberTurn) (from : RunState) (transition : Transition) (sheet : Sheet) (start : ℕ) (outcome : StartOutcome) (tally : Tally) : Type 0 where
  pub turn : MemberTurn
  pub stands : HasTurn turns turn
  pub of_begin : IsOfBegin from transition sheet start turn
  pub answer : Answer
  pub answered : turn.answer ≡ Some answer
  pub tally_is : tally ≡ tally_of answer
  pub accepted : turn.transition ≡ Start → answer ≡ Yes tally
  pub completed : outcome ≡ Completed → turn.transition ≡ transition
  pub dump : OneWantsDump client history → turn.transition ≡ transition → turn.dump ≡ sheet.dump

-- One of these turns is of the start that was begun so, and No for this reason was answered to it.
pub record IsRefusedTurn (turns : List MemberTurn) (from : RunState) (sheet : Sheet) (start : ℕ) (why : Why) : Type 0 where
  pub turn : MemberTurn
  pub stands : HasTurn turns turn
  pub of_begin : IsOfBegin from Start sheet start turn
  pub starts : turn.transition ≡ Start
  pub answered : turn.answer ≡ Some (No why)

-- One of these turns is of the start-abort of the start with this number, and was answered.
pub record IsCalledOff (turns : List MemberTurn) (start : ℕ) : Type 0 where
  pub turn : MemberTurn
  pub stands : HasTurn turns turn
  pub is : turn.transition ≡ StartAbort
  pub of : turn.order.start ≡ start
  pub answer : Answer
  pub answered : turn.answer ≡ Some answer

-- a stop or a start-abort of the run with this start number is among these turns
pub record IsOver (turns : List MemberTurn) (start : ℕ) : Type 0 where
  pub turn : MemberTurn
  pub stands : HasTurn turns turn
  pub ends : (turn.transition ≡ Stop) ⊎ (turn.transition ≡ StartAbort)
  pub of : turn.order.start ≡ start

-- each start among these turns has its stop or its start-abort among them
abbrev pub AreOver : List MemberTurn → Type 0
AreOver turns = (turn : MemberTurn) → HasTurn turns turn → turn.transition ≡ Start → IsOver turns turn.order.start

-- a start comes behind these turns: all their runs are over, and have lower start numbers
pub record ComesLast (ts : List MemberTurn) (start : ℕ) : Type 0 where
  pub over : AreOver ts
  pub above : (turn : MemberTurn) → HasTurn ts turn → turn.order.start < start

-- each start comes so; the latest turn stands first
abbrev pub StartsComeLast : List MemberTurn → Type 0
StartsComeLast [] = ⊤
StartsComeLast (t ∷ ts) = (t.transition ≡ Start → ComesLast ts t.order.start) × StartsComeLast ts

-- wherever a transition was begun, the client was registered, and is called for a stop and for a start-abort
abbrev pub IsAlwaysCalled : EngineHistory → (client : ℕ) → Type 0
IsAlwaysCalled history client = (earlier later : EngineHistory) → (caller : ℕ) → (begun : Transition) → (sheet : Sheet) →
    (start : ℕ) → history ≡ earlier ++ (caller, Begin begun sheet (Ok start)) ∷ later →
    IsRegisteredIn earlier client Stop × IsRegisteredIn earlier client StartAbort

-- none of these calls begins a transition or tells its end
abbrev pub AreUnmarked : List EngineEntry → Type 0
AreUnmarked [] = ⊤
AreUnmarked (e ∷ es) = (is_mark e ≡ false) × AreUnmarked es
