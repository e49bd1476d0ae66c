-- What a front-end does in one turn of its own: its calls on the engine, on its buffer and on the database, and what
-- it came to.
use Rattle.std.specs.Prelude.{◌≡◌, ℕ, Bool, true, false, ◌||◌, is_some, if◌then◌else◌, List, ◌∷◌, length, Option, Some, None}
use Rattle.daq_types.specs.declared.events.Event.{Event}
use Rattle.daq_types.specs.declared.runs.Order.{Order}
use Rattle.daq_types.specs.declared.runs.Transition.{Transition}
use Rattle.buffer_core.specs.declared.entry.BufferEntry.{BufferEntry}
use Rattle.buffer_core.specs.Ports.{Access}
use Rattle.odb_tree.specs.declared.entry.DatabaseEntry.{DatabaseEntry}
use Rattle.odb_watch.specs.declared.entry.WatchEntry.{WatchEntry}
use Rattle.odb_watch.specs.DatabasePorts.{DatabaseAccess, AddsCall}
use Rattle.odb_runinfo.specs.RunSets.{IsSet, sent_set}
use Rattle.transitions.specs.declared.replies.Polled.TheVariants.{Turn, Idle as NoTurn, Closed, NoClient}
use Rattle.member_model.specs.RunEngines.{Answer, Polled, EngineEntry}
use Rattle.member_model.specs.Turns.{MemberTurn, AreEngineTurns}
use Rattle.member_model.specs.TurnCalls.{member_turns}
use Rattle.member_model.specs.Moments.{moments_answered}
use Rattle.front_ends.specs.declared.front_run.FrontRun.{FrontRun}
use Rattle.front_ends.specs.declared.front_step.FrontStep.{FrontStep}
use Rattle.front_ends.specs.declared.front_step.FrontStep.TheVariants.{Sent, NoWork}
use Rattle.front_ends.specs.Fronts.{FrontState, front_answer, run_after, finish_answer, run_finished, is_at_work, SendsNext, events_sent}
use Rattle.front_ends.specs.FrontKept.{FrontStands, KeepsFront, KeepsMoments}
use Rattle.composition.specs.SentSets.{AreTurnSets}
use Rattle.member_crew.specs.declared.turned.Turned.{Turned}
use Rattle.member_crew.specs.declared.turned.Turned.TheVariants.{Worked, Idle, Ended}
use Rattle.daq_members.specs.OwnTurns.{start_owed, asked_so, GivesAnswer, AnswersLast}
use Rattle.daq_members.specs.SentSets.{number_set_at, number_if, AreNumbersSet}

-- A turn of a front-end: its client number, its name, and what its equipment does; its run, its calls on the engine,
-- its access to its buffer, the moments of its turns there, and its access to the database, before and behind; its access to the
-- database as it stood when the front-end answered last; and what it came to.
pub record FrontTaken : Type 0 where
  pub client : ℕ
  pub name : List ℕ
  pub takes : Order → Bool
  pub makes : Order → ℕ → Event
  pub run : Option FrontRun
  pub later_run : Option FrontRun
  pub calls : List EngineEntry
  pub later_calls : List EngineEntry
  pub port : Access
  pub later_port : Access
  pub moments : List ℕ
  pub later_moments : List ℕ
  pub database : DatabaseAccess
  pub later_database : DatabaseAccess
  pub stood : DatabaseAccess
  pub turned : Turned

-- Worked, where something was done
abbrev pub turned_by : Bool → Turned
turned_by worked = if worked then Worked else Idle

abbrev pub is_sent : FrontStep → Bool
is_sent (Sent place) = true
is_sent step = false

-- The number is set in the front-end's key, if there is one.
abbrev pub SetsSent : (name : List ℕ) → Option ℕ → (a b : DatabaseAccess) → Type 0
SetsSent name None a b = b ≡ a
SetsSent name (Some sent) a b = (entry : DatabaseEntry) × IsSet (sent_set name sent) entry × AddsCall a b entry

-- One step: the next event of the run is sent; or nothing is, where nothing is to be sent.
abbrev pub StepsBy : (at_work : Bool) → (makes : Order → ℕ → Event) → (run later : Option FrontRun) → (a b : Access) →
    FrontStep → Type 0
StepsBy false makes run later a b step = (later ≡ run) × (b ≡ a) × (step ≡ NoWork)
StepsBy true makes run later a b step = SendsNext makes run later a b step

abbrev pub StepsFront : (makes : Order → ℕ → Event) → (run later : Option FrontRun) → (a b : Access) →
    FrontStep → Type 0
StepsFront makes run later a b step = StepsBy (is_at_work run) makes run later a b step

-- the same, of a front-end with this equipment
abbrev pub StepsOnce : {E : Type 0} → (makes : E → Order → ℕ → Event) → (before after : FrontState E) → (port later_port : Access) →
    FrontStep → Type 0
StepsOnce makes before after port later_port step =
    StepsFront (makes before.equipment) before.run after.run port later_port step

-- Nothing is done but to ask.
pub record LeavesFront (t : FrontTaken) (reply : Polled) (turned : Turned) : Type 0 where
  pub asks : t.later_calls ≡ asked_so t.client t.calls reply
  pub run : t.later_run ≡ t.run
  pub port : t.later_port ≡ t.port
  pub moments : t.later_moments ≡ t.moments
  pub database : t.later_database ≡ t.database
  pub turned_is : t.turned ≡ turned

-- The front-end has no turn: it makes its step.
pub record WorksFront (t : FrontTaken) (reply : Polled) : Type 0 where
  pub asks : t.later_calls ≡ asked_so t.client t.calls reply
  pub step : FrontStep
  pub steps : StepsFront t.makes t.run t.later_run t.port t.later_port step
  pub moments : t.later_moments ≡ t.moments
  pub database : t.later_database ≡ t.database
  pub turned_is : t.turned ≡ turned_by (is_sent step)

-- The front-end is given a turn: it takes it, sets the number that it has to, and then gives the answer, if there is one
-- yet. The moment of this turn is how many calls it has made on its buffer.
pub record TakesFrontTurn (t : FrontTaken) (transition : Transition) (order : Order) (reply : Polled) : Type 0 where
  pub answer : Option Answer
  pub answer_is : answer ≡ front_answer (t.takes order) t.run transition order
  pub gives : GivesAnswer t.client answer (asked_so t.client t.calls reply) t.later_calls
  pub run : t.later_run ≡ run_after (t.takes order) t.run transition order
  pub port : t.later_port ≡ t.port
  pub moments : t.later_moments ≡ length t.port.own ∷ t.moments
  pub sets : SetsSent t.name (number_set_at transition (is_some answer) (events_sent t.run order.start))
      t.database t.later_database
  pub last : AnswersLast answer t.stood t.later_database
  pub turned_is : t.turned ≡ Worked

-- The front-end has yet to answer its turn in the run with this start number: it makes its step; and where it can
-- answer then, it sets the number that it sent, and then gives the answer. The moment of that turn is then how many calls it
-- has made on its buffer.
pub record FinishesFront (t : FrontTaken) (start : ℕ) (reply : Polled) : Type 0 where
  pub step : FrontStep
  pub stepped : Option FrontRun
  pub steps : StepsFront t.makes t.run stepped t.port t.later_port step
  pub answer : Option Answer
  pub answer_is : answer ≡ finish_answer stepped
  pub gives : GivesAnswer t.client answer (asked_so t.client t.calls reply) t.later_calls
  pub run : t.later_run ≡ run_finished stepped answer
  pub moments : t.later_moments ≡ moments_answered t.moments answer (length t.later_port.own)
  pub sets : SetsSent t.name (number_if (is_some answer) (events_sent stepped start)) t.database t.later_database
  pub last : AnswersLast answer t.stood t.later_database
  pub turned_is : t.turned ≡ turned_by (is_sent step || is_some answer)

-- by what the engine replied, and the start number of the turn that was owed before, if one was
abbrev pub TakesFrontBy : Polled → (owed : Option ℕ) → FrontTaken → Type 0
TakesFrontBy Closed owed t = LeavesFront t Closed Ended
TakesFrontBy NoClient owed t = LeavesFront t NoClient Idle
TakesFrontBy (NoTurn state) owed t = WorksFront t (NoTurn state)
TakesFrontBy (Turn transition order dump blank) None t =
    TakesFrontTurn t transition order (Turn transition order dump blank)
TakesFrontBy (Turn transition order dump blank) (Some start) t =
    FinishesFront t start (Turn transition order dump blank)

-- The front-end asks the engine once, and goes on by the reply.
pub record TakesFront (t : FrontTaken) : Type 0 where
  pub reply : Polled
  pub takes : TakesFrontBy reply (start_owed t.client t.calls) t

-- What is kept at every moment between two turns.

-- A front-end as a member, with its calls on the engine, on its buffer and on the database, and the moments of its turns: it
-- keeps the front-end's contract over the turns that its calls on the engine tell, with these moments; says in the database
-- how many events it had sent by then; and makes no other call there.
pub record FrontMemberStands (client : ℕ) (name : List ℕ) (takes : Order → Bool) (makes : Order → ℕ → Event)
    (run : Option FrontRun) (calls : List EngineEntry) (own : List BufferEntry) (moments : List ℕ) (sets : List WatchEntry) : Type 0 where
  pub stands : FrontStands takes makes run own (member_turns client calls)
  pub kept : KeepsMoments own (member_turns client calls) moments
  pub told : AreEngineTurns (member_turns client calls) →
      AreNumbersSet name own (member_turns client calls) moments sets

-- Where that held before a step, it holds behind it, whatever the moments and the calls on the engine and on the database are.
abbrev pub KeepsAtStep : {E : Type 0} → (takes : E → Order → Bool) → (makes : E → Order → ℕ → Event) →
    (before after : FrontState E) → (port later_port : Access) → Type 0
KeepsAtStep takes makes before after port later_port = (client : ℕ) → (name : List ℕ) → (calls : List EngineEntry) →
    (moments : List ℕ) → (sets : List WatchEntry) →
    FrontMemberStands client name (takes before.equipment) (makes before.equipment) before.run calls port.own moments sets →
    FrontMemberStands client name (takes before.equipment) (makes before.equipment) after.run calls later_port.own moments sets

-- It keeps the front-end's contract, these are moments of its turns, and all its calls on the database are the sets of its
-- turns at these moments.
pub record KeepsFrontMember (name : List ℕ) (takes : Order → Bool) (makes : Order → ℕ → Event) (turns : List MemberTurn)
    (own : List BufferEntry) (moments : List ℕ) (sets : List WatchEntry) : Type 0 where
  pub keeps : KeepsFront takes makes own turns
  pub kept : KeepsMoments own turns moments
  pub told : AreEngineTurns turns → AreTurnSets name own turns moments sets

-- So does each front-end that is a member, with the moments of its turns.
abbrev pub FrontKeeps : Type 0
FrontKeeps = (client : ℕ) → (name : List ℕ) → (takes : Order → Bool) → (makes : Order → ℕ → Event) → (run : Option FrontRun) →
    (calls : List EngineEntry) → (own : List BufferEntry) → (moments : List ℕ) → (sets : List WatchEntry) →
    FrontMemberStands client name takes makes run calls own moments sets →
    KeepsFrontMember name takes makes (member_turns client calls) own moments sets
