-- A fault or a clash that is counted is told: what each step of a logger keeps of that.
use Rattle.std.specs.Prelude.{◌≡◌, ◌≤◌, ◌+◌, ◌<◌, nat_lt, ℕ, zero, suc, Bool, true, false, cond, is_some, sum_by, List, [], ◌∷◌, length, map, replicate, slice_get, slice_set, Option, Some, None, Result, Ok, Err, ⊤, refl}
use Rattle.std.specs.Option.{option_map}
use Rattle.std.proofs.Common.{ap, sym, subst, ◌∙◌, arith, inl, inr}
use Rattle.std.proofs.lemmas.List.Sums.{sum_by-cons}
use Rattle.daq_types.specs.declared.events.Event.{Event}
use Rattle.daq_types.specs.declared.runs.ChannelEnd.{ChannelEnd}
use Rattle.daq_types.specs.declared.runs.ChannelState.{ChannelState}
use Rattle.daq_types.specs.declared.runs.ChannelState.TheVariants.{Ended, NoEnd, NoMark, Idle as IsIdle, Writing as IsWriting, Broken as IsBroken}
use Rattle.daq_types.specs.declared.runs.Order.{Order}
use Rattle.daq_types.specs.declared.runs.Transition.{Transition}
use Rattle.daq_types.specs.declared.runs.Transition.TheVariants.{Start, Stop, Pause, Resume, StartAbort}
use Rattle.daq_types.specs.declared.runs.Why.{Why}
use Rattle.daq_types.specs.declared.runs.Why.TheVariants.{NotReady, Exists, Fault, BufferRefused}
use Rattle.daq_io.specs.Seen.{Seen}
use Rattle.daq_io.specs.Told.{FilesTold}
use Rattle.buffer_core.specs.declared.entry.BufferEntry.{BufferEntry}
use Rattle.buffer_core.specs.declared.replies.Received.{Received}
use Rattle.buffer_core.specs.declared.replies.Received.TheVariants.{Got, Empty, NoClient, SmallBuf}
use Rattle.buffer_core.specs.Slots.{slot_at, passes}
use Rattle.member_model.specs.RunEngines.{Answer}
use Rattle.transitions.specs.declared.answers.Answer.TheVariants.{Yes, No}
use Rattle.transitions.specs.declared.answers.Tally.TheVariants.{Plain, Channels}
use Rattle.mid_logger.specs.declared.channel.Channel.{Channel}
use Rattle.mid_logger.specs.declared.channel_spec.ChannelSpec.{ChannelSpec}
use Rattle.mid_logger.specs.declared.pulled.Pulled.{Pulled}
use Rattle.mid_logger.specs.declared.pulled.Pulled.TheVariants.{NoChannel, Nothing, Dropped, Wrote, Broke}
use Rattle.mid_logger.specs.declared.stage.BegunRun.{BegunRun}
use Rattle.mid_logger.specs.declared.stage.ChannelStage.{ChannelStage}
use Rattle.mid_logger.specs.declared.stage.ChannelStage.TheVariants.{Idle, Asking, Writing, Draining, Drained, Broken}
use Rattle.mid_logger.specs.Channels.{stage_begun, stage_ended, place_marked, reading_run, is_behind_end}
use Rattle.mid_logger.specs.ChannelEnds.{ClosesRead, ClosesFile, stage_settled}
use Rattle.mid_logger.specs.ChannelTurns.{OpenClashes, broken_run, drained_run}
use Rattle.mid_logger.specs.Pulls.{PullOf, PullsIn, TakesReply, TakesBy, FindsNone, PullFaults, RisesWith, drains_at_none}
use Rattle.loggers.specs.Moments.{LoggerMoment, ChannelStep, StepsChannel, StepsSlot, StepsAt, CallsBuffer, MarksBuffer, InTurn, noted_channel, AreIdleChannels, channel_limit}
use Rattle.loggers.specs.ChannelSteps.{OpensChannel, AbortsChannel, PullsChannel}
use Rattle.loggers.specs.SlotPulls.{PullsSlot}
use Rattle.loggers.specs.Finishing.{EndingMoment, EndsSlot, EndsSlotAt, EndsFiles, LoggerFinish, ending_of, idle_end, ends_idle}
use Rattle.loggers.specs.Turning.{BeginsBuffer, EndsBuffer, PausesBuffer, ResumesBuffer, LoggerTurn, OpensBelow, BeginsBelow, AbortsAll, StartsAll, UndoesOpens, UndoesBegins, StartsSo, TakesStart, TakesStop, TakesMark, TakesAbort, TakesTurnBy, TakesTurn, is_run_on, is_started, is_of_start, buffers_begun, start_answer}
use Rattle.loggers.specs.OtherFiles.{specs_in}
use Rattle.loggers.specs.ToldCounts.{faults_of_state, faults_of_end, faults_of_answer, clashes_of_answer, undone_by, count_in_answer, broken_off}
use Rattle.loggers.specs.Reasons.{HaveNoLimit, IsChannelNumber, NamesRefuser, NamesChannels, AnswerFits}
use Rattle.loggers.proofs.InTurns.{turns_keep}
use Rattle.loggers.proofs.SlotLists.{same_or_other, got_elsewhere, many_set}
use Rattle.loggers.proofs.FilesLeft.{spec_at, specs_set, specs_noted}
use Rattle.loggers.proofs.ManyRose.{KeepsOff, off_of, set_off, map_off}

-- What was counted where a start came about.

abbrev pub SameCounts : (old new : FilesTold) → Type 0
SameCounts old new = (new.faults ≡ old.faults) × (new.clashes ≡ old.clashes)

pub counts_same : (old new : FilesTold) → new ≡ old → SameCounts old new
counts_same old new same = (ap (λ (f : FilesTold). f.faults) same, ap (λ (f : FilesTold). f.clashes) same)

same_turns : (Step : ℕ → LoggerMoment → LoggerMoment → Type 0) (n : ℕ) (a b : LoggerMoment) → ((k : ℕ) (x y : LoggerMoment) → Step k x y → SameCounts x.files y.files) → InTurn Step n a b → SameCounts a.files b.files
same_turns Step n a b each turns = turns_keep Step (λ (m : LoggerMoment). SameCounts a.files m.files) n a b
    (λ k x y step same. (let now = each k x y step in (now.0 ∙ same.0, now.1 ∙ same.1))) turns (refl, refl)

open_same : (order : Order) (dump : List ℕ) (n : ℕ) (slot : Option Channel) (a b : LoggerMoment) → StepsSlot (OpensChannel order dump (Ok tt)) n slot a b → SameCounts a.files b.files
open_same order dump n None a b same = counts_same a.files b.files (ap (λ (m : LoggerMoment). m.files) same)
open_same order dump n (Some before) a b s = (s.step.faults, s.step.clashes)

pub all_same : (order : Order) (dump : List ℕ) (begun : ℕ) (a b : LoggerMoment) → StartsAll order dump begun a b → SameCounts a.files b.files
all_same order dump begun a b starts =
    let m = starts.opened in
    let first : SameCounts a.files m.files = same_turns (λ k. StepsAt (OpensChannel order dump (Ok tt)) k) (length a.slots) a m (λ k x y step. open_same order dump k (slot_at x.slots k) x y step) starts.opens in
    let last : SameCounts m.files b.files = same_turns (λ k. BeginsBuffer order.start k) (length a.ports) m b (λ k x y step. counts_same x.files y.files step.1.marks.files) starts.begins in
    (last.0 ∙ first.0, last.1 ∙ first.1)

-- Channels that broke off.

abbrev pub slot_off : Option Channel → ℕ
slot_off slot = cond (passes (λ (x : Channel). is_some (broken_run x.stage)) slot) 1 0

-- none of the channels broke off, where all are idle
pub idle_off : (slots : List (Option Channel)) → AreIdleChannels slots → broken_off slots ≡ 0
idle_off [] idle = refl
idle_off (None ∷ os) idle = idle_off os (λ n c there. idle (suc n) c there)
idle_off (Some c ∷ os) idle =
    let none : off_of c.stage ≡ 0 = ap off_of (idle 0 c refl) in
    let rest : broken_off os ≡ 0 = idle_off os (λ n x there. idle (suc n) x there) in
    omega (arith, none, rest, sum_by-cons slot_off (Some c) os)

off_within : (slots : List (Option Channel)) (n : ℕ) (c : Channel) → slot_at slots n ≡ Some c → off_of c.stage ≤ broken_off slots
off_within [] n c there = absurd (cc (there))
off_within (o ∷ os) zero c there =
    let is : slot_off o ≡ off_of c.stage = ap slot_off there in
    omega (arith, is, sum_by-cons slot_off o os)
off_within (o ∷ os) (suc n) c there = omega (arith, off_within os n c there, sum_by-cons slot_off o os)

-- What is told.

-- Between these two moments so much was told of faults and of openings that were undone, and so many clashes. Where none of the
-- first was, and behind them no channel has broken off, none had before, and no fault was counted; where no clash was told, none
-- was counted; and the channels are the same.
pub record RisesKept (told clashes : ℕ) (slots later : List (Option Channel)) (old new : FilesTold) : Type 0 where
  pub clean : told + broken_off later ≡ 0 → (broken_off slots ≡ 0) × (new.faults ≡ old.faults)
  pub names : clashes ≡ 0 → new.clashes ≡ old.clashes
  pub specs : specs_in later ≡ specs_in slots

abbrev pub RisesSo : (told clashes : ℕ) → (a b : LoggerMoment) → Type 0
RisesSo told clashes a b = RisesKept told clashes a.slots b.slots a.files b.files

pub rises_same : (told clashes : ℕ) (slots : List (Option Channel)) (files : FilesTold) → RisesKept told clashes slots slots files files
rises_same told clashes slots files = record { clean = λ none. (omega (arith, none), refl); names = λ none. refl; specs = refl }

rises_moment : (told clashes : ℕ) (a b : LoggerMoment) → b ≡ a → RisesSo told clashes a b
rises_moment told clashes a b same = subst (λ (m : LoggerMoment). RisesSo told clashes a m) (sym same) (rises_same told clashes a.slots a.files)

-- One behind the other, of which more is told than of both, or nothing.
pub rises_then : (t c t1 c1 t2 c2 : ℕ) (x y z : List (Option Channel)) (f g h : FilesTold) → (t ≡ 0 → t1 + t2 ≡ 0) → (c ≡ 0 → c1 + c2 ≡ 0) → RisesKept t1 c1 x y f g → RisesKept t2 c2 y z g h → RisesKept t c x z f h
rises_then t c t1 c1 t2 c2 x y z f g h untold unclashed first second = record {
  clean = λ none.
      let parts : t1 + t2 ≡ 0 = untold (omega (arith, none)) in
      let late = second.clean (omega (arith, none, parts)) in
      let off : broken_off y ≡ 0 = late.0 in
      let early = first.clean (omega (arith, off, parts)) in
      (early.0, late.1 ∙ early.1);
  names = λ none.
      let parts : c1 + c2 ≡ 0 = unclashed none in
      second.names (omega (arith, parts)) ∙ first.names (omega (arith, parts));
  specs = second.specs ∙ first.specs;
}

-- the same of one moment, the next and the last, of which no more is told than of the last
moment_then : (told clashes c1 c2 : ℕ) (a b c : LoggerMoment) → (clashes ≡ 0 → c1 + c2 ≡ 0) → RisesSo told c1 a b → RisesSo told c2 b c → RisesSo told clashes a c
moment_then told clashes c1 c2 a b c unclashed first second = rises_then told clashes told c1 told c2 a.slots b.slots c.slots a.files b.files c.files (λ none. omega (arith, none)) unclashed first second

moment_turns : (told : ℕ) (Step : ℕ → LoggerMoment → LoggerMoment → Type 0) (n : ℕ) (a b : LoggerMoment) → ((k : ℕ) (x y : LoggerMoment) → Step k x y → RisesSo told 0 x y) → InTurn Step n a b → RisesSo told 0 a b
moment_turns told Step n a b each turns = turns_keep Step (λ m. RisesSo told 0 a m) n a b (λ k x y step kept. moment_then told 0 0 0 a x y (λ none. refl) kept (each k x y step)) turns (rises_same told 0 a.slots a.files)

-- one channel changed
pub set_rises : (told clashes : ℕ) (slots : List (Option Channel)) (n : ℕ) (before after : Channel) (old new : FilesTold) → slot_at slots n ≡ Some before → after.spec ≡ before.spec → (told + off_of after.stage ≡ 0 → (off_of before.stage ≡ 0) × (new.faults ≡ old.faults))
    → (clashes ≡ 0 → new.clashes ≡ old.clashes) → RisesKept told clashes slots (slice_set slots n (Some after)) old new
set_rises told clashes slots n before after old new there spec clean names = record {
  clean = λ none.
      let set = set_off slots n before after there in
      let within = off_within slots n before there in
      let its = clean (omega (arith, none, set, within)) in
      let was : off_of before.stage ≡ 0 = its.0 in
      (omega (arith, none, set, was), its.1);
  names = names;
  specs = specs_set slots n before after there spec;
}

step_rises : (told clashes : ℕ) (Step : ChannelStep → Type 0) (n : ℕ) (before : Channel) (a b : LoggerMoment) (s : StepsChannel Step n before a b) → slot_at a.slots n ≡ Some before → s.after.spec ≡ before.spec
    → (told + off_of s.after.stage ≡ 0 → (off_of before.stage ≡ 0) × (b.files.faults ≡ a.files.faults)) → (clashes ≡ 0 → b.files.clashes ≡ a.files.clashes) → RisesSo told clashes a b
step_rises told clashes Step n before a b s there spec clean names =
    subst (λ (l : List (Option Channel)). RisesKept told clashes a.slots l a.files b.files) (sym s.slots) (set_rises told clashes a.slots n before s.after a.files b.files there spec clean names)

-- Marks.

call_rises : (told : ℕ) (entry : BufferEntry) (buffer : ℕ) (a b : LoggerMoment) → CallsBuffer entry buffer a b → RisesSo told 0 a b
call_rises told entry buffer a b calls = subst (λ (l : List (Option Channel)). RisesKept told 0 a.slots l a.files b.files) (sym calls.slots)
    (subst (λ (files : FilesTold). RisesKept told 0 a.slots a.slots a.files files) (sym calls.files) (rises_same told 0 a.slots a.files))

pub begun_off : (place : ℕ) → KeepsOff (λ stage. stage_begun stage place)
begun_off place Idle = refl
begun_off place (Asking opened) = refl
begun_off place (Writing opened begun) = refl
begun_off place (Draining was) = refl
begun_off place (Drained was) = refl
begun_off place (Broken was fallen) = refl

pub ended_off : (ended : Option ℕ) → KeepsOff (λ stage. stage_ended stage ended)
ended_off ended Idle = refl
ended_off ended (Asking opened) = refl
ended_off ended (Writing opened begun) = refl
ended_off ended (Draining was) = refl
ended_off ended (Drained was) = refl
ended_off ended (Broken was fallen) = refl

mark_rises : (told : ℕ) (entry : BufferEntry) (note : ChannelStage → ChannelStage) (buffer : ℕ) (a b : LoggerMoment) → KeepsOff note → MarksBuffer entry note buffer a b → RisesSo told 0 a b
mark_rises told entry note buffer a b keeps marks =
    let same : broken_off (map (option_map (noted_channel note buffer)) a.slots) ≡ broken_off a.slots = map_off note buffer a.slots keeps in
    let kept : RisesKept told 0 a.slots (map (option_map (noted_channel note buffer)) a.slots) a.files a.files = record {
      clean = λ none. (omega (arith, none, same), refl);
      names = λ none. refl;
      specs = specs_noted note buffer a.slots;
    } in
    subst (λ (l : List (Option Channel)). RisesKept told 0 a.slots l a.files b.files) (sym marks.noted)
    (subst (λ (files : FilesTold). RisesKept told 0 a.slots (map (option_map (noted_channel note buffer)) a.slots) a.files files) (sym marks.marks.files) kept)

begins_rise : (told start n : ℕ) (a b : LoggerMoment) → BeginsBelow start n a b → RisesSo told 0 a b
begins_rise told start n a b begins = moment_turns told (λ k. BeginsBuffer start k) n a b (λ k x y step. mark_rises told _ (λ stage. stage_begun stage step.0) k x y (begun_off step.0) step.1) begins

ends_rise : (told start n : ℕ) (a b : LoggerMoment) → InTurn (λ k. EndsBuffer start k) n a b → RisesSo told 0 a b
ends_rise told start n a b ends = moment_turns told (λ k. EndsBuffer start k) n a b (λ k x y step. mark_rises told _ (λ stage. stage_ended stage (place_marked step.0)) k x y (ended_off (place_marked step.0)) step.1) ends

-- Steps of which it is told that they were undone, or that are not asked whether a channel broke off.

module _ (told : ℕ) (some : 1 ≤ told) where
  open_rises : (order : Order) (dump : List ℕ) (n : ℕ) (slot : Option Channel) (a b : LoggerMoment) → slot_at a.slots n ≡ slot → StepsSlot (OpensChannel order dump (Ok tt)) n slot a b → RisesSo told 0 a b
  open_rises order dump n None a b there same = rises_moment told 0 a b same
  open_rises order dump n (Some before) a b there s =
      step_rises told 0 (OpensChannel order dump (Ok tt)) n before a b s there s.step.spec (λ none. absurd (omega (arith, none, some))) (λ none. s.step.clashes)

  opens_rise : (order : Order) (dump : List ℕ) (n : ℕ) (a b : LoggerMoment) → OpensBelow order dump n a b → RisesSo told 0 a b
  opens_rise order dump n a b opens = moment_turns told (λ k. StepsAt (OpensChannel order dump (Ok tt)) k) n a b (λ k x y step. open_rises order dump k (slot_at x.slots k) x y refl step) opens

  abort_rises : (n : ℕ) (slot : Option Channel) (a b : LoggerMoment) → slot_at a.slots n ≡ slot → StepsSlot AbortsChannel n slot a b → RisesSo told 0 a b
  abort_rises n None a b there same = rises_moment told 0 a b same
  abort_rises n (Some before) a b there s =
      step_rises told 0 AbortsChannel n before a b s there (ap (λ (c : Channel). c.spec) s.step.channel) (λ none. absurd (omega (arith, none, some))) (λ none. s.step.clashes)

  aborts_rise : (a b : LoggerMoment) → AbortsAll a b → RisesSo told 0 a b
  aborts_rise a b aborts = moment_turns told (λ k. StepsAt AbortsChannel k) (length a.slots) a b (λ k x y step. abort_rises k (slot_at x.slots k) x y refl step) aborts

  refused_names : (why : Why) (f g : ℕ) → OpenClashes (Err why) f g → clashes_of_answer (No why) ≡ 0 → g ≡ f
  refused_names NotReady f g same none = same
  refused_names (Exists channel) f g rose none = absurd (omega (arith, none))
  refused_names (Fault channel) f g same none = same
  refused_names BufferRefused f g same none = same

  refused_rises : (order : Order) (dump : List ℕ) (why : Why) (n : ℕ) (before : Channel) (a b : LoggerMoment) → slot_at a.slots n ≡ Some before → StepsChannel (OpensChannel order dump (Err why)) n before a b → RisesSo told (clashes_of_answer (No why)) a b
  refused_rises order dump why n before a b there s =
      step_rises told (clashes_of_answer (No why)) (OpensChannel order dump (Err why)) n before a b s there s.step.spec (λ none. absurd (omega (arith, none, some)))
      (refused_names why a.files.clashes b.files.clashes s.step.clashes)

  undone_opens_rise : (order : Order) (dump : List ℕ) (why : Why) (begun : ℕ) (a b : LoggerMoment) → UndoesOpens order dump why begun a b → RisesSo told (clashes_of_answer (No why)) a b
  undone_opens_rise order dump why begun a b undoes =
      let r = undoes.opens in
      let c : ℕ = clashes_of_answer (No why) in
      moment_then told c c 0 a undoes.refused b (λ none. omega (arith, none))
      (moment_then told c 0 c a r.opened undoes.refused (λ none. omega (arith, none)) (opens_rise order dump r.number a r.opened r.opens) (refused_rises order dump why r.number r.channel r.opened undoes.refused r.there r.refuses))
      (aborts_rise undoes.refused b undoes.aborts)

  undone_begins_rise : (order : Order) (dump : List ℕ) (why : Why) (begun clashes : ℕ) (a b : LoggerMoment) → UndoesBegins order dump why begun a b → RisesSo told clashes a b
  undone_begins_rise order dump why begun clashes a b undoes =
      let m = undoes.begins in
      moment_then told clashes 0 0 a undoes.refused b (λ none. refl)
      (moment_then told 0 0 0 a undoes.opened undoes.refused (λ none. refl) (opens_rise order dump (length a.slots) a undoes.opened undoes.opens)
      (moment_then told 0 0 0 undoes.opened m.begun undoes.refused (λ none. refl) (begins_rise told order.start begun undoes.opened m.begun m.begins) (call_rises told _ begun m.begun undoes.refused m.refuses.1)))
      (aborts_rise undoes.refused b undoes.aborts)

  undone_rise : (order : Order) (dump : List ℕ) (why : Why) (begun : ℕ) (a b : LoggerMoment) → StartsSo (Err why) order dump begun a b → RisesSo told (clashes_of_answer (No why)) a b
  undone_rise order dump why begun a b starts = elim starts as (λ w. RisesSo told (clashes_of_answer (No why)) a b) [
    | inl opens ↦ undone_opens_rise order dump why begun a b opens
    | inr begins ↦ undone_begins_rise order dump why begun (clashes_of_answer (No why)) a b begins
  ]

-- Turns.

-- what is told by this answer to a turn, and what the turn kept
abbrev pub told_by : Transition → Option Answer → ℕ
told_by transition answer = count_in_answer faults_of_answer answer + undone_by transition answer

abbrev pub RisesAnswered : Transition → Option Answer → (a b : LoggerMoment) → Type 0
RisesAnswered transition answer a b = RisesSo (told_by transition answer) (count_in_answer clashes_of_answer answer) a b

-- no channel refuses a run as not ready
never_unready : (order : Order) (dump : List ℕ) (begun : ℕ) (a b : LoggerMoment) → StartsSo (Err NotReady) order dump begun a b → ⊥
never_unready order dump begun a b starts = elim starts as (λ w. ⊥) [
  | inl undoes ↦ undoes.opens.refuses.step.opens.1
  | inr undoes ↦ (let is : NotReady ≡ BufferRefused = undoes.why_is in cc (is))
]

refused_start : (why : Why) (order : Order) (dump : List ℕ) (begun : ℕ) (a b : LoggerMoment) → StartsSo (Err why) order dump begun a b → RisesAnswered Start (Some (No why)) a b
refused_start NotReady order dump begun a b starts = absurd (never_unready order dump begun a b starts)
refused_start (Exists channel) order dump begun a b starts = undone_rise 1 (omega arith) order dump (Exists channel) begun a b starts
refused_start (Fault channel) order dump begun a b starts = undone_rise 2 (omega arith) order dump (Fault channel) begun a b starts
refused_start BufferRefused order dump begun a b starts = undone_rise 1 (omega arith) order dump BufferRefused begun a b starts

starts_rise : (result : Result ⊤ Why) (order : Order) (dump : List ℕ) (begun : ℕ) (a b : LoggerMoment) → AreIdleChannels a.slots → StartsSo result order dump begun a b → RisesAnswered Start (Some (start_answer result)) a b
starts_rise (Ok done) order dump begun a b idle starts =
    let same = all_same order dump begun a b starts in
    let shape : RisesSo 1 0 a b = moment_then 1 0 0 0 a starts.opened b (λ none. refl) (opens_rise 1 (omega arith) order dump (length a.slots) a starts.opened starts.opens) (begins_rise 1 order.start (length a.ports) starts.opened b starts.begins) in
    record { clean = λ none. (idle_off a.slots idle, same.0); names = λ none. same.1; specs = shape.specs }
starts_rise (Err why) order dump begun a b idle starts = refused_start why order dump begun a b starts

-- a turn that is answered so
answered_rise : (transition : Transition) (t : LoggerTurn) (known : Option Answer) → t.answer ≡ known → RisesAnswered transition known t.before t.after → RisesAnswered transition t.answer t.before t.after
answered_rise transition t known is kept = subst (λ (answer : Option Answer). RisesAnswered transition answer t.before t.after) (sym is) kept

start_rises : (on : Bool) (t : LoggerTurn) → TakesStart on t → RisesAnswered Start t.answer t.before t.after
start_rises true t takes = answered_rise Start t (Some (No NotReady)) takes.answer_is (rises_moment 0 0 t.before t.after takes.moment)
start_rises false t takes = answered_rise Start t (Some (start_answer takes.result)) takes.answer_is (starts_rise takes.result t.order _ takes.begun t.before t.after takes.idle takes.starts)

stop_rises : (of : Bool) (t : LoggerTurn) → TakesStop of t → RisesAnswered Stop t.answer t.before t.after
stop_rises true t takes = answered_rise Stop t None takes.answer_is (ends_rise 0 t.order.start (length t.before.ports) t.before t.after takes.ends)
stop_rises false t takes = answered_rise Stop t (Some (Yes Plain)) takes.answer_is (rises_moment 0 0 t.before t.after takes.moment)

pause_rises : (of : Bool) (t : LoggerTurn) → TakesMark PausesBuffer of t → RisesAnswered Pause t.answer t.before t.after
pause_rises true t takes = answered_rise Pause t (Some (Yes Plain)) takes.answer_is
    (moment_turns 0 (λ k. PausesBuffer t.order.start k) (length t.before.ports) t.before t.after (λ k x y step. call_rises 0 _ k x y step.1) takes.marks)
pause_rises false t takes = answered_rise Pause t (Some (Yes Plain)) takes.answer_is (rises_moment 0 0 t.before t.after takes.moment)

resume_rises : (of : Bool) (t : LoggerTurn) → TakesMark ResumesBuffer of t → RisesAnswered Resume t.answer t.before t.after
resume_rises true t takes = answered_rise Resume t (Some (Yes Plain)) takes.answer_is
    (moment_turns 0 (λ k. ResumesBuffer t.order.start k) (length t.before.ports) t.before t.after (λ k x y step. call_rises 0 _ k x y step.1) takes.marks)
resume_rises false t takes = answered_rise Resume t (Some (Yes Plain)) takes.answer_is (rises_moment 0 0 t.before t.after takes.moment)

abort_turn_rises : (of : Bool) (t : LoggerTurn) → TakesAbort of t → RisesAnswered StartAbort t.answer t.before t.after
abort_turn_rises true t takes = answered_rise StartAbort t (Some (Yes Plain)) takes.answer_is
    (moment_then 1 0 0 0 t.before takes.ended t.after (λ none. refl) (ends_rise 1 t.order.start (buffers_begun t.run) t.before takes.ended takes.ends) (aborts_rise 1 (omega arith) takes.ended t.after takes.aborts))
abort_turn_rises false t takes = answered_rise StartAbort t (Some (Yes Plain)) takes.answer_is (rises_moment 1 0 t.before t.after takes.moment)

rises_by : (transition : Transition) (t : LoggerTurn) → TakesTurnBy transition t → RisesAnswered transition t.answer t.before t.after
rises_by Start t takes = start_rises (is_run_on t.run) t takes
rises_by Stop t takes = stop_rises (is_started t.run t.order.start) t takes
rises_by Pause t takes = pause_rises (is_started t.run t.order.start) t takes
rises_by Resume t takes = resume_rises (is_started t.run t.order.start) t takes
rises_by StartAbort t takes = abort_turn_rises (is_of_start t.run t.order.start) t takes

pub turn_rises : (t : LoggerTurn) → TakesTurn t → RisesAnswered t.transition t.answer t.before t.after
turn_rises t takes = rises_by t.transition t takes

-- Answers.

-- the channel that refused is one of the logger's
number_named : (order : Order) (dump : List ℕ) (why : Why) (begun : ℕ) (a b : LoggerMoment) (undoes : UndoesOpens order dump why begun a b) (number : ℕ) → number ≡ undoes.opens.channel.spec.number → IsChannelNumber (specs_in a.slots) number
number_named order dump why begun a b undoes number is =
    let r = undoes.opens in
    let same : specs_in r.opened.slots ≡ specs_in a.slots = (opens_rise 1 (omega arith) order dump r.number a r.opened r.opens).specs in
    record {
      place = r.number;
      spec = r.channel.spec;
      there = subst (λ (l : List (Option ChannelSpec)). slot_at l r.number ≡ Some r.channel.spec) same (spec_at r.opened.slots r.number r.channel r.there);
      is = sym is;
    }

refuser_named : (why : Why) (order : Order) (dump : List ℕ) (begun : ℕ) (a b : LoggerMoment) → UndoesOpens order dump why begun a b → NamesRefuser why (specs_in a.slots)
refuser_named NotReady order dump begun a b undoes = tt
refuser_named (Exists channel) order dump begun a b undoes = number_named order dump (Exists channel) begun a b undoes channel undoes.opens.refuses.step.opens.1.0
refuser_named (Fault channel) order dump begun a b undoes = number_named order dump (Fault channel) begun a b undoes channel undoes.opens.refuses.step.opens.1.0
refuser_named BufferRefused order dump begun a b undoes = tt

start_fits : (result : Result ⊤ Why) (order : Order) (dump : List ℕ) (begun : ℕ) (a b : LoggerMoment) → StartsSo result order dump begun a b → AnswerFits (specs_in a.slots) Start (Some (start_answer result))
start_fits (Ok done) order dump begun a b starts = record { kind = tt; channels = tt }
start_fits (Err why) order dump begun a b starts = record {
  kind = refl;
  channels = elim starts as (λ w. NamesRefuser why (specs_in a.slots)) [
    | inl opens ↦ refuser_named why order dump begun a b opens
    | inr begins ↦ subst (λ (w : Why). NamesRefuser w (specs_in a.slots)) (sym begins.why_is) tt
  ];
}

abbrev FitsBefore : Transition → LoggerTurn → Option Answer → Type 0
FitsBefore transition t answer = AnswerFits (specs_in t.before.slots) transition answer

-- a turn that is answered so
answered_fits : (transition : Transition) (t : LoggerTurn) (known : Option Answer) → t.answer ≡ known → FitsBefore transition t known → FitsBefore transition t t.answer
answered_fits transition t known is fits = subst (λ (answer : Option Answer). FitsBefore transition t answer) (sym is) fits

plain_fits : (transition : Transition) (t : LoggerTurn) → t.answer ≡ Some (Yes Plain) → FitsBefore transition t t.answer
plain_fits transition t is = answered_fits transition t (Some (Yes Plain)) is (record { kind = tt; channels = tt })

start_turn_fits : (on : Bool) (t : LoggerTurn) → TakesStart on t → FitsBefore Start t t.answer
start_turn_fits true t takes = answered_fits Start t (Some (No NotReady)) takes.answer_is (record { kind = refl; channels = tt })
start_turn_fits false t takes = answered_fits Start t (Some (start_answer takes.result)) takes.answer_is (start_fits takes.result t.order _ takes.begun t.before t.after takes.starts)

stop_fits : (of : Bool) (t : LoggerTurn) → TakesStop of t → FitsBefore Stop t t.answer
stop_fits true t takes = answered_fits Stop t None takes.answer_is (record { kind = refl; channels = tt })
stop_fits false t takes = plain_fits Stop t takes.answer_is

mark_fits : (transition : Transition) (Mark : (start buffer : ℕ) → (a b : LoggerMoment) → Type 0) (of : Bool) (t : LoggerTurn) → TakesMark Mark of t → FitsBefore transition t t.answer
mark_fits transition Mark true t takes = plain_fits transition t takes.answer_is
mark_fits transition Mark false t takes = plain_fits transition t takes.answer_is

abort_fits : (of : Bool) (t : LoggerTurn) → TakesAbort of t → FitsBefore StartAbort t t.answer
abort_fits true t takes = plain_fits StartAbort t takes.answer_is
abort_fits false t takes = plain_fits StartAbort t takes.answer_is

fits_by : (transition : Transition) (t : LoggerTurn) → TakesTurnBy transition t → FitsBefore transition t t.answer
fits_by Start t takes = start_turn_fits (is_run_on t.run) t takes
fits_by Stop t takes = stop_fits (is_started t.run t.order.start) t takes
fits_by Pause t takes = mark_fits Pause PausesBuffer (is_started t.run t.order.start) t takes
fits_by Resume t takes = mark_fits Resume ResumesBuffer (is_started t.run t.order.start) t takes
fits_by StartAbort t takes = abort_fits (is_of_start t.run t.order.start) t takes

pub turn_fits : (t : LoggerTurn) → TakesTurn t → FitsBefore t.transition t t.answer
turn_fits t takes = fits_by t.transition t takes

-- A pull.

-- a pull mends no channel, and where behind it the channel has not broken off, no fault was counted
record PullClean (p : PullOf) : Type 0 where
  stays : off_of p.later_stage ≡ 0 → off_of p.stage ≡ 0
  broke : p.answer ≡ Broke → off_of p.later_stage ≡ 1

off_same : (p : PullOf) → p.later_stage ≡ p.stage → off_of p.later_stage ≡ 0 → off_of p.stage ≡ 0
off_same p same none = ap off_of (sym same) ∙ none

left_clean : (p : PullOf) (answer : Pulled) → p.later_stage ≡ p.stage → p.answer ≡ answer → (answer ≡ Broke → ⊥) → PullClean p
left_clean p answer same is other = record { stays = off_same p same; broke = λ broke. absurd (other (sym is ∙ broke)) }

-- a channel that reads a run has not broken off
reading_off : (stage : ChannelStage) (run : BegunRun) → reading_run stage ≡ Some run → off_of stage ≡ 0
reading_off Idle run reads = refl
reading_off (Asking opened) run reads = refl
reading_off (Writing opened begun) run reads = refl
reading_off (Draining was) run reads = refl
reading_off (Drained was) run reads = refl
reading_off (Broken was fallen) run reads = absurd (cc (reads))

read_clean : (p : PullOf) (answer : Pulled) → off_of p.stage ≡ 0 → p.answer ≡ answer → (answer ≡ Broke → ⊥) → PullClean p
read_clean p answer off is other = record { stays = λ none. off; broke = λ broke. absurd (other (sym is ∙ broke)) }

takes_clean : (behind early : Bool) (p : PullOf) (run : BegunRun) (place : ℕ) (event : Event) → off_of p.stage ≡ 0 → TakesBy behind early p run place event → PullClean p
takes_clean true early p run place event off drains = read_clean p (Dropped place) off drains.answer_is (λ is. cc (is))
takes_clean false true p run place event off leaves = read_clean p (Dropped place) off leaves.answer_is (λ is. cc (is))
takes_clean false false p run place event off takes = elim takes as (λ w. PullClean p) [
  | inl writes ↦ read_clean p (Wrote place) off writes.answer_is (λ is. cc (is))
  | inr breaks ↦ record { stays = λ none. off; broke = λ broke. ap off_of breaks.stage }
]

finds_clean : (drains : Bool) (p : PullOf) (run : BegunRun) → off_of p.stage ≡ 0 → FindsNone drains p run → PullClean p
finds_clean true p run off drains = read_clean p Nothing off drains.answer_is (λ is. cc (is))
finds_clean false p run off leaves = read_clean p Nothing off leaves.answer_is (λ is. cc (is))

reply_clean : (p : PullOf) (run : BegunRun) (reply : Received) (event : Event) → off_of p.stage ≡ 0 → TakesReply p run reply event → PullClean p
reply_clean p run (Got place start) event off takes = takes_clean (is_behind_end run.ended place) (nat_lt place run.begun) p run place event off takes
reply_clean p run (Empty gate last) event off finds = finds_clean (drains_at_none p.stage) p run off finds
reply_clean p run NoClient event off leaves = read_clean p Nothing off leaves.answer_is (λ is. cc (is))
reply_clean p run (SmallBuf need) event off never = absurd never

pull_clean : (reading : Option BegunRun) (p : PullOf) (room : ℕ) → reading_run p.stage ≡ reading → PullsIn reading p room → PullClean p
pull_clean None p room reads leaves = left_clean p Nothing leaves.stage leaves.answer_is (λ is. cc (is))
pull_clean (Some run) p room reads pulls =
    let clean : PullClean (record p { port = pulls.middle }) = reply_clean (record p { port = pulls.middle }) run pulls.reply pulls.event (reading_off p.stage run reads) pulls.taken in
    record { stays = clean.stays; broke = clean.broke }

pulled_faults : (answer : Pulled) (f g : ℕ) → PullFaults answer f g → (answer ≡ Broke → ⊥) → g ≡ f
pulled_faults NoChannel f g same other = same
pulled_faults Nothing f g same other = same
pulled_faults (Dropped place) f g same other = same
pulled_faults (Wrote place) f g same other = same
pulled_faults Broke f g rose other = absurd (other refl)

-- It may count one clash of names, of which nothing tells, but only where there is a limit.
pub pull_rises : (dump : List ℕ) (n : ℕ) (answer : Pulled) (slot : Option Channel) (a b : LoggerMoment) → slot_at a.slots n ≡ slot → PullsSlot dump slot n answer a b → RisesSo 0 1 a b
pull_rises dump n answer None a b there pulls = rises_moment 0 1 a b pulls.1
pull_rises dump n answer (Some before) a b there s =
    let clean = pull_clean (reading_run before.stage) _ before.event.room refl s.step.pulls in
    step_rises 0 1 (PullsChannel dump answer) n before a b s there s.step.spec
    (λ none. (
      clean.stays (omega (arith, none)),
      pulled_faults answer a.files.faults b.files.faults s.step.faults (λ broke. (let off : off_of s.after.stage ≡ 1 = clean.broke broke in omega (arith, none, off))),
    )) (λ none. absurd (omega (arith, none)))

unlimited : (limit f g : ℕ) → RisesWith limit f g → limit ≡ 0 → g ≡ f
unlimited limit f g rises none = elim rises as (λ w. g ≡ f) [
  | inl same ↦ same
  | inr rose ↦ absurd (let some : 0 < limit = rose.0 in omega (arith, some, none))
]

pub pull_clashes : (dump : List ℕ) (n : ℕ) (answer : Pulled) (slot : Option Channel) (a b : LoggerMoment) → slot_at a.slots n ≡ slot → PullsSlot dump slot n answer a b → HaveNoLimit (specs_in a.slots) → b.files.clashes ≡ a.files.clashes
pull_clashes dump n answer None a b there pulls none = ap (λ (m : LoggerMoment). m.files.clashes) pulls.1
pull_clashes dump n answer (Some before) a b there s none = unlimited before.spec.sub_bytes a.files.clashes b.files.clashes s.step.clashes (none n before.spec (spec_at a.slots n before there))

-- A call to finish.

module _ {X : Type 0} (f : X → ℕ) where
  -- a member counts in the list into which it is put
  put_has : (xs : List X) (n : ℕ) (x : X) → n < length xs → f x ≤ sum_by f (slice_set xs n x)
  put_has [] n x within = absurd (omega (arith, within))
  put_has (y ∷ ys) zero x within = omega (arith, sum_by-cons f x ys)
  put_has (y ∷ ys) (suc n) x within = omega (arith, put_has ys n x (omega (arith, within)), sum_by-cons f y (slice_set ys n x))

  -- a list into which it is put in place of one that does not count counts for no less
  put_keeps : (xs : List X) (n : ℕ) (x : X) → ((y : X) → slice_get xs n ≡ Some y → f y ≡ 0) → sum_by f xs ≤ sum_by f (slice_set xs n x)
  put_keeps [] n x none = omega arith
  put_keeps (y ∷ ys) zero x none = omega (arith, none y refl, sum_by-cons f y ys, sum_by-cons f x ys)
  put_keeps (y ∷ ys) (suc n) x none = omega (arith, put_keeps ys n x none, sum_by-cons f y ys, sum_by-cons f y (slice_set ys n x))

idle_ends : (many k : ℕ) (told : ChannelEnd) → slice_get (replicate many idle_end) k ≡ Some told → faults_of_end told ≡ 0
idle_ends zero k told at = absurd (cc (at))
idle_ends (suc many) zero told at = (let is : idle_end ≡ told = cc (at) in ap faults_of_end (sym is))
idle_ends (suc many) (suc k) told at = idle_ends many k told at

settled_off : (stage : ChannelStage) → off_of (stage_settled stage) ≡ 0
settled_off Idle = refl
settled_off (Asking opened) = refl
settled_off (Writing opened begun) = refl
settled_off (Draining run) = refl
settled_off (Drained run) = refl
settled_off (Broken run fallen) = refl

-- a file that is closed without a word of a fault had none
read_quiet : (state : ChannelState) (run : BegunRun) (time : ℕ) (dump : Option (List ℕ)) (a b : Seen) (f g : ℕ) → ClosesRead state run time dump a b f g → faults_of_state state ≡ 0 → g ≡ f
read_quiet IsIdle run time dump a b f g closes none = closes.2
read_quiet IsWriting run time dump a b f g closes none = closes.2
read_quiet Ended run time dump a b f g closes none = closes.2
read_quiet NoEnd run time dump a b f g closes none = closes.2
read_quiet NoMark run time dump a b f g closes none = closes.2
read_quiet IsBroken run time dump a b f g closes none = absurd (omega (arith, none))

closed_quiet : (stage : ChannelStage) (state : ChannelState) (time : ℕ) (dump : Option (List ℕ)) (a b : Seen) (f g : ℕ) → ClosesFile (drained_run stage) stage state time dump a b f g → faults_of_state state ≡ 0 → (off_of stage ≡ 0) × (g ≡ f)
closed_quiet Idle state time dump a b f g closes none = (refl, closes.2)
closed_quiet (Asking opened) state time dump a b f g closes none = (refl, closes.2)
closed_quiet (Writing opened begun) state time dump a b f g closes none = (refl, closes.2)
closed_quiet (Draining run) state time dump a b f g closes none = (refl, closes.2)
closed_quiet (Drained run) state time dump a b f g closes none = (refl, read_quiet state run time dump a b f g closes none)
closed_quiet (Broken run fallen) state time dump a b f g closes none =
    let one : faults_of_state state ≡ 1 = ap faults_of_state closes.0 in
    absurd (omega (arith, none, one))

-- what is told once the files of the channels with lower numbers are ended
record EndedBelow (slots : List (Option Channel)) (files : FilesTold) (n : ℕ) (m : EndingMoment) : Type 0 where
  many : length m.told ≡ channel_limit
  later : (k : ℕ) (told : ChannelEnd) → n ≤ k → slice_get m.told k ≡ Some told → faults_of_end told ≡ 0
  named : (k : ℕ) (told : ChannelEnd) → slice_get m.told k ≡ Some told → told.state ≡ IsBroken → (spec : ChannelSpec) × (slot_at (specs_in slots) k ≡ Some spec)
  rises : RisesKept (sum_by faults_of_end m.told) 0 slots m.slots files m.files

ended_none : (slots : List (Option Channel)) (files : FilesTold) → EndedBelow slots files 0 (ending_of slots files ends_idle)
ended_none slots files = record {
  many = refl;
  later = λ k told from at. idle_ends channel_limit k told at;
  named = λ k told at broke. absurd (let none : faults_of_end told ≡ 0 = idle_ends channel_limit k told at in let one : faults_of_end told ≡ 1 = ap faults_of_state broke in omega (arith, none, one));
  rises = rises_same _ 0 slots files;
}

ends_slot_rises : (slots : List (Option Channel)) (files : FilesTold) (time : ℕ) (dump : Option (List ℕ)) (n : ℕ) (slot : Option Channel) (a b : EndingMoment) → n < channel_limit → slot_at a.slots n ≡ slot → EndsSlot time dump n slot a b → EndedBelow slots files n a → EndedBelow slots files (suc n) b
ends_slot_rises slots files time dump n None a b within there same ended = subst (λ (m : EndingMoment). EndedBelow slots files (suc n) m) (sym same)
    (record { many = ended.many; later = λ k told from at. ended.later k told (omega (arith, from)) at; named = ended.named; rises = ended.rises })
ends_slot_rises slots files time dump n (Some before) a b within there ends ended =
    let c = ends.after in
    let told : ChannelEnd = ends.told in
    let all : List ChannelEnd = slice_set a.told n told in
    let keeps : sum_by faults_of_end a.told ≤ sum_by faults_of_end all = put_keeps faults_of_end a.told n told (λ old at. ended.later n old (omega arith) at) in
    let has : faults_of_end told ≤ sum_by faults_of_end all = put_has faults_of_end a.told n told (omega (arith, within, ended.many)) in
    let settled : off_of c.stage ≡ 0 = ap (λ (x : Channel). off_of x.stage) ends.ends.channel ∙ settled_off before.stage in
    let one : RisesKept (faults_of_end told) 0 a.slots (slice_set a.slots n (Some c)) a.files b.files =
    set_rises (faults_of_end told) 0 a.slots n before c a.files b.files there (ap (λ (x : Channel). x.spec) ends.ends.channel)
    (λ none. closed_quiet before.stage told.state time dump a.files.seen b.files.seen a.files.faults b.files.faults ends.ends.ends (omega (arith, none))) (λ none. ends.ends.clashes) in
    let both : RisesKept (sum_by faults_of_end all) 0 slots (slice_set a.slots n (Some c)) files b.files =
    rises_then (sum_by faults_of_end all) 0 (sum_by faults_of_end a.told) 0 (faults_of_end told) 0 slots a.slots (slice_set a.slots n (Some c)) files a.files b.files
    (λ none. omega (arith, none, keeps, has)) (λ none. refl) ended.rises one in
    let spec : slot_at (specs_in slots) n ≡ Some before.spec = subst (λ (l : List (Option ChannelSpec)). slot_at l n ≡ Some before.spec) ended.rises.specs (spec_at a.slots n before there) in
    let put : EndedBelow slots files (suc n) (ending_of (slice_set a.slots n (Some c)) b.files all) = record {
      many = many_set a.told n told ∙ ended.many;
      later = λ k old from at. ended.later k old (omega (arith, from)) (got_elsewhere a.told n k told old (λ same. omega (arith, from, same)) at);
      named = λ k old at broke. elim (same_or_other k n) as (λ w. (s : ChannelSpec) × (slot_at (specs_in slots) k ≡ Some s)) [
        | inl same ↦ (before.spec, subst (λ (i : ℕ). slot_at (specs_in slots) i ≡ Some before.spec) (sym same) spec)
        | inr other ↦ ended.named k old (got_elsewhere a.told n k told old other at) broke
      ];
      rises = both;
    } in
    subst (λ (l : List (Option Channel)). EndedBelow slots files (suc n) (ending_of l b.files b.told)) (sym ends.slots)
    (subst (λ (l : List ChannelEnd). EndedBelow slots files (suc n) (ending_of (slice_set a.slots n (Some c)) b.files l)) (sym ends.at) put)

ends_below : (slots : List (Option Channel)) (files : FilesTold) (time : ℕ) (dump : Option (List ℕ)) (n : ℕ) (b : EndingMoment) → n ≤ channel_limit
    → InTurn (λ k. EndsSlotAt time dump k) n (ending_of slots files ends_idle) b → EndedBelow slots files n b
ends_below slots files time dump zero b within same = subst (λ (m : EndingMoment). EndedBelow slots files 0 m) (sym same) (ended_none slots files)
ends_below slots files time dump (suc n) b within turns =
    ends_slot_rises slots files time dump n (slot_at turns.0.slots n) turns.0 b (omega (arith, within)) refl turns.2 (ends_below slots files time dump n turns.0 (omega (arith, within)) turns.1)

-- what a call to finish tells that answers, where the channels are no more than are told of
pub record FinishTold (f : LoggerFinish) (told : List ChannelEnd) : Type 0 where
  pub rises : RisesKept (sum_by faults_of_end told) 0 f.slots f.later_slots f.files f.later_files
  pub named : NamesChannels (Some (Yes (Channels told))) (specs_in f.slots)

pub ends_rise_all : (f : LoggerFinish) (time : ℕ) (ends : EndsFiles f time) → length f.slots ≤ channel_limit → FinishTold f ends.told
ends_rise_all f time ends few =
    let told : EndedBelow f.slots f.files (length f.slots) (ending_of f.later_slots f.later_files ends.told) = ends_below f.slots f.files time f.dumps.stop (length f.slots) _ few ends.ends in
    record { rises = told.rises; named = told.named }
