-- Why a logger refuses a start, and why a channel breaks off: by the counts of the run files, each of which rose since some
-- moment before by at least what the logger told, and only where it told of it; and by its calls on the buffers that were
-- refused.
use Rattle.std.specs.Prelude.{◌≡◌, ◌≤◌, ◌+◌, ℕ, List, [], ◌∷◌, length, slice_get, Contains, Option, Some, None, ⊤}
use Rattle.daq_types.specs.declared.runs.ChannelEnd.{ChannelEnd}
use Rattle.daq_types.specs.declared.runs.ChannelState.TheVariants.{Broken as IsBroken}
use Rattle.daq_types.specs.declared.runs.Transition.{Transition}
use Rattle.daq_types.specs.declared.runs.Transition.TheVariants.{Start, Stop}
use Rattle.daq_types.specs.declared.runs.Why.{Why}
use Rattle.daq_types.specs.declared.runs.Why.TheVariants.{NotReady, Exists, Fault, BufferRefused}
use Rattle.daq_io.specs.Counts.{Rose, RoseBy}
use Rattle.daq_io.specs.Told.{FilesTold}
use Rattle.member_model.specs.RunEngines.{Answer}
use Rattle.transitions.specs.declared.answers.Answer.TheVariants.{Yes, No}
use Rattle.transitions.specs.declared.answers.Tally.TheVariants.{Plain, Channels}
use Rattle.member_model.specs.Turns.{MemberTurn, HasTurn, latest_answered}
use Rattle.member_model.specs.FairCalls.{IsRefusedAsk}
use Rattle.buffer_core.specs.declared.entry.BufferEntry.{BufferEntry}
use Rattle.buffer_core.specs.Ports.{Access}
use Rattle.buffer_core.specs.Slots.{slot_at}
use Rattle.mid_logger.specs.declared.channel.Channel.{Channel}
use Rattle.mid_logger.specs.declared.channel_spec.ChannelSpec.{ChannelSpec}
use Rattle.mid_logger.specs.declared.pulled.Pulled.{Pulled}
use Rattle.loggers.specs.Moments.{LoggerMoment, channel_limit}
use Rattle.loggers.specs.SlotPulls.{PullsNumbered}
use Rattle.loggers.specs.Turning.{LoggerTurn, TakesTurn}
use Rattle.loggers.specs.Finishing.{LoggerFinish, FinishesLogger}
use Rattle.loggers.specs.LoggerStands.{logger_turn}
use Rattle.loggers.specs.OtherFiles.{specs_in}
use Rattle.loggers.specs.ToldCounts.{clashes_of_answer, count_in_answer, faults_told, clashes_told, starts_undone, broken_off}

-- Between these two moments of the run files a start may be refused so: for a name, where a clash of names was counted; and
-- for a fault, where a fault was. A logger that has a run, or that a buffer refuses, does not look at the files.
abbrev pub IsReasonSo : Why → (old new : FilesTold) → Type 0
IsReasonSo NotReady old new = ⊤
IsReasonSo (Exists channel) old new = Rose old.clashes new.clashes
IsReasonSo (Fault channel) old new = Rose old.faults new.faults
IsReasonSo BufferRefused old new = ⊤

-- where one of these channels is told to have broken off, a fault was counted
abbrev pub AreEndsSo : List ChannelEnd → (old new : FilesTold) → Type 0
AreEndsSo ends old new = (number : ℕ) → (told : ChannelEnd) → slice_get ends number ≡ Some told → told.state ≡ IsBroken →
    Rose old.faults new.faults

-- Between these two moments of the run files a turn may be answered so.
abbrev pub IsAnswerSo : Answer → (old new : FilesTold) → Type 0
IsAnswerSo (No why) old new = IsReasonSo why old new
IsAnswerSo (Yes (Channels ends)) old new = AreEndsSo ends old new
IsAnswerSo (Yes tally) old new = ⊤

-- each of these turns that was answered was answered so
abbrev pub AreAnswersSo : List MemberTurn → (old new : FilesTold) → Type 0
AreAnswersSo turns old new =
    (t : MemberTurn) → (answer : Answer) → HasTurn turns t → t.answer ≡ Some answer → IsAnswerSo answer old new

-- Between these two moments of the run files neither of their counts fell.
pub record NoneFell (old new : FilesTold) : Type 0 where
  pub faults : RoseBy 0 old.faults new.faults
  pub clashes : RoseBy 0 old.clashes new.clashes

-- A start may be answered so in a turn between these two moments of the run files: accepted where no fault and no clash was
-- counted between them, and refused for a fault or for a name where one was.
abbrev pub IsStartSo : Answer → (before behind : FilesTold) → Type 0
IsStartSo (No why) before behind = IsReasonSo why before behind
IsStartSo (Yes Plain) before behind = (behind.faults ≡ before.faults) × (behind.clashes ≡ before.clashes)
IsStartSo (Yes tally) before behind = ⊤

-- none of these channels has a limit for its files
abbrev pub HaveNoLimit : List (Option ChannelSpec) → Type 0
HaveNoLimit specs = (place : ℕ) → (spec : ChannelSpec) → slot_at specs place ≡ Some spec → spec.sub_bytes ≡ 0

-- Between these two moments of the run files neither of their counts fell, and no clash was counted, unless a channel has a limit,
-- which may find the name of its next file taken.
pub record NoneClashed (specs : List (Option ChannelSpec)) (old new : FilesTold) : Type 0 where
  pub fell : NoneFell old new
  pub clashes : HaveNoLimit specs → new.clashes ≡ old.clashes

-- The turn of a logger with these channels may have stood between these two moments of the run files, and this may be a later one: a
-- clash was counted in the turn only where a start was refused for a name, and none behind it, but for a next file's name.
pub record IsTurnSo (specs : List (Option ChannelSpec)) (t : MemberTurn) (before behind now : FilesTold) : Type 0 where
  pub start : t.transition ≡ Start → (answer : Answer) → t.answer ≡ Some answer → IsStartSo answer before behind
  pub within : NoneFell before behind
  pub clashes : count_in_answer clashes_of_answer t.answer ≡ 0 → behind.clashes ≡ before.clashes
  pub since : NoneClashed specs behind now

-- There are moments of the run files, one after another from the first of these to the other, between which the turns may have
-- stood in order. The latest turn stands first.
abbrev pub AreTurnsSo : List (Option ChannelSpec) → List MemberTurn → (first now : FilesTold) → Type 0
AreTurnsSo specs [] first now = NoneClashed specs first now
AreTurnsSo specs (t ∷ ts) first now =
    (before : FilesTold) × ((behind : FilesTold) × (AreTurnsSo specs ts first before × IsTurnSo specs t before behind now))

-- a call to attach a client, to make a request or to begin a run was refused on one of these ports
pub record HasRefusedAsk (ports : List Access) : Type 0 where
  pub buffer : ℕ
  pub port : Access
  pub at : slice_get ports buffer ≡ Some port
  pub entry : BufferEntry
  pub among : Contains port.own entry
  pub refused : IsRefusedAsk entry

-- a channel of this number is among these
pub record IsChannelNumber (specs : List (Option ChannelSpec)) (number : ℕ) : Type 0 where
  pub place : ℕ
  pub spec : ChannelSpec
  pub there : slot_at specs place ≡ Some spec
  pub is : spec.number ≡ number

-- A start alone is refused, and a stop alone is answered with channels, or later.
abbrev pub IsAnswerAt : Transition → Option Answer → Type 0
IsAnswerAt transition None = transition ≡ Stop
IsAnswerAt transition (Some (No why)) = transition ≡ Start
IsAnswerAt transition (Some (Yes (Channels ends))) = transition ≡ Stop
IsAnswerAt transition (Some (Yes tally)) = ⊤

-- a refusal for a file names one of these channels
abbrev pub NamesRefuser : Why → (specs : List (Option ChannelSpec)) → Type 0
NamesRefuser (Exists channel) specs = IsChannelNumber specs channel
NamesRefuser (Fault channel) specs = IsChannelNumber specs channel
NamesRefuser why specs = ⊤

-- A channel that an answer names is one of these, whether a start was refused for its file, or it broke off.
abbrev pub NamesChannels : Option Answer → (specs : List (Option ChannelSpec)) → Type 0
NamesChannels (Some (No why)) specs = NamesRefuser why specs
NamesChannels (Some (Yes (Channels ends))) specs =
    (place : ℕ) → (told : ChannelEnd) → slice_get ends place ≡ Some told → told.state ≡ IsBroken →
    (spec : ChannelSpec) × (slot_at specs place ≡ Some spec)
NamesChannels answer specs = ⊤

-- The answer is one to such a turn, of a logger with these channels.
pub record AnswerFits (specs : List (Option ChannelSpec)) (transition : Transition) (answer : Option Answer) : Type 0 where
  pub kind : IsAnswerAt transition answer
  pub channels : NamesChannels answer specs

-- A logger with these channels, ports and turns, whose run files were so at first, and are so now. There was a fault for each
-- channel that it told to have broken off, for each that broke off and is not told yet, and for each start that it refused for
-- one; and a clash for each start that it refused for a name. And no fault was counted where there is none of these, and no turn
-- undid what was opened; nor was a clash but in turns that were refused for a name, or for the name of a next file. Each answer fits
-- its turn; the channels are no more than are told of. And a start was refused for a buffer only where that refused a call.
pub record GivesReasons (slots : List (Option Channel)) (ports : List Access) (first now : FilesTold) (turns : List MemberTurn) : Type 0 where
  pub faults : RoseBy (faults_told turns + broken_off slots) first.faults now.faults
  pub clashes : RoseBy (clashes_told turns) first.clashes now.clashes
  pub no_fault : faults_told turns + starts_undone turns + broken_off slots ≡ 0 → now.faults ≡ first.faults
  pub in_turns : AreTurnsSo (specs_in slots) turns first now
  pub fits : (t : MemberTurn) → HasTurn turns t → AnswerFits (specs_in slots) t.transition t.answer
  pub few : length slots ≤ channel_limit
  pub buffers : (t : MemberTurn) → HasTurn turns t → t.answer ≡ Some (No BufferRefused) → HasRefusedAsk ports

-- So each answer that it gave was such.
abbrev pub ReasonsTell : Type 0
ReasonsTell = (slots : List (Option Channel)) → (ports : List Access) → (first now : FilesTold) →
    (turns : List MemberTurn) → GivesReasons slots ports first now turns → AreAnswersSo turns first now

-- So no clash was counted where the turns tell of none, and no channel has a limit.
abbrev pub ClashesAreTold : Type 0
ClashesAreTold = (slots : List (Option Channel)) → (ports : List Access) → (first now : FilesTold) →
    (turns : List MemberTurn) → GivesReasons slots ports first now turns → HaveNoLimit (specs_in slots) →
    clashes_told turns ≡ 0 → now.clashes ≡ first.clashes

-- the latest of these turns is not answered
abbrev pub IsLatestOpen : List MemberTurn → Type 0
IsLatestOpen [] = ⊥
IsLatestOpen (t ∷ ts) = t.answer ≡ None

-- A turn keeps that, and so do a pull, and a call to finish while the latest turn is not answered.
abbrev pub TurnsGiveReasons : Type 0
TurnsGiveReasons = (t : LoggerTurn) → (first : FilesTold) → (turns : List MemberTurn) → TakesTurn t →
    GivesReasons t.before.slots t.before.ports first t.before.files turns →
    GivesReasons t.after.slots t.after.ports first t.after.files (logger_turn t.transition t.order t.dump t.answer ∷ turns)

abbrev pub PullsGiveReasons : Type 0
PullsGiveReasons = (dump : List ℕ) → (number : ℕ) → (answer : Pulled) → (a b : LoggerMoment) → (first : FilesTold) →
    (turns : List MemberTurn) → PullsNumbered dump number answer a b →
    GivesReasons a.slots a.ports first a.files turns → GivesReasons b.slots b.ports first b.files turns

abbrev pub FinishesGiveReasons : Type 0
FinishesGiveReasons = (f : LoggerFinish) → (ports : List Access) → (first : FilesTold) → (turns : List MemberTurn) →
    FinishesLogger f → IsLatestOpen turns → GivesReasons f.slots ports first f.files turns →
    GivesReasons f.later_slots ports first f.later_files (latest_answered turns f.answer)
