-- Each call keeps that what a logger answers rests on the counts of the run files.
use Rattle.std.specs.Prelude.{◌≡◌, ◌≤◌, ◌+◌, nat_lt, ℕ, Bool, true, false, cond, is_some, sum_by, List, [], ◌∷◌, length, map, slice_set, Option, Some, None, Result, Ok, Err, ⊤, refl}
use Rattle.std.specs.List.{list_all}
use Rattle.std.specs.Option.{option_map}
use Rattle.std.proofs.Common.{ap, sym, subst, ◌∙◌, arith, inl, inr}
use Rattle.std.proofs.lemmas.List.{length-map}
use Rattle.std.proofs.lemmas.List.Sums.{sum_by-cons}
use Rattle.daq_types.specs.declared.events.Event.{Event}
use Rattle.daq_types.specs.declared.runs.ChannelEnd.{ChannelEnd}
use Rattle.daq_types.specs.declared.runs.ChannelState.{ChannelState}
use Rattle.daq_types.specs.declared.runs.ChannelState.TheVariants.{Ended, NoEnd, NoMark, Idle as IsIdle, Writing as IsWriting, Broken as IsBroken}
use Rattle.daq_types.specs.declared.runs.Order.{Order}
use Rattle.daq_types.specs.declared.runs.Transition.{Transition}
use Rattle.daq_types.specs.declared.runs.Transition.TheVariants.{Start, Stop, Pause, Resume, StartAbort}
use Rattle.daq_types.specs.declared.runs.Why.{Why}
use Rattle.daq_types.specs.declared.runs.Why.TheVariants.{NotReady, Exists, Fault, BufferRefused}
use Rattle.daq_io.specs.Counts.{RoseBy}
use Rattle.daq_io.specs.Seen.{Seen}
use Rattle.daq_io.specs.Told.{FilesTold}
use Rattle.daq_io.proofs.Counts.{RoseBy-fewer, RoseBy-then}
use Rattle.buffer_core.specs.declared.entry.BufferEntry.{BufferEntry}
use Rattle.buffer_core.specs.declared.replies.Received.{Received}
use Rattle.buffer_core.specs.declared.replies.Received.TheVariants.{Got, Empty, NoClient, SmallBuf}
use Rattle.buffer_core.specs.Ports.{Access}
use Rattle.buffer_core.specs.Slots.{slot_at}
use Rattle.sub_files.specs.declared.open_file.OpenFile.{OpenFile}
use Rattle.member_model.specs.RunEngines.{Answer}
use Rattle.transitions.specs.declared.answers.Answer.TheVariants.{Yes, No}
use Rattle.transitions.specs.declared.answers.Tally.TheVariants.{Plain, Channels}
use Rattle.member_model.specs.Turns.{MemberTurn, HasTurn, latest_answered}
use Rattle.mid_logger.specs.declared.channel.Channel.{Channel}
use Rattle.mid_logger.specs.declared.channel_spec.ChannelSpec.{ChannelSpec}
use Rattle.mid_logger.specs.declared.pulled.Pulled.{Pulled}
use Rattle.mid_logger.specs.declared.pulled.Pulled.TheVariants.{NoChannel, Nothing, Dropped, Wrote, Broke}
use Rattle.mid_logger.specs.declared.stage.BegunRun.{BegunRun}
use Rattle.mid_logger.specs.declared.stage.ChannelStage.{ChannelStage}
use Rattle.mid_logger.specs.declared.stage.ChannelStage.TheVariants.{Idle, Asking, Writing, Draining, Drained, Broken}
use Rattle.mid_logger.specs.Channels.{stage_at, stage_begun, stage_ended, place_marked, reading_run, is_behind_end}
use Rattle.mid_logger.specs.ChannelEnds.{ClosesRead, ClosesFile, stage_settled, state_otherwise}
use Rattle.mid_logger.specs.ChannelTurns.{NotesFault, OpenFaults, OpenClashes, broken_run, drained_run}
use Rattle.mid_logger.specs.Pulls.{PullOf, PullsIn, TakesReply, TakesBy, FindsNone, PullFaults, RisesWith, drains_at_none}
use Rattle.loggers.specs.Moments.{LoggerMoment, ChannelStep, StepsChannel, StepsSlot, StepsAt, CallsBuffer, MarksBuffer, InTurn, noted_channel, AreIdleChannels, channel_limit}
use Rattle.loggers.specs.ChannelSteps.{OpensChannel, AbortsChannel, PullsChannel}
use Rattle.loggers.specs.SlotPulls.{PullsSlot, PullsNumbered}
use Rattle.loggers.specs.Finishing.{EndingMoment, EndsSlot, EndsSlotAt, EndsFiles, LoggerFinish, FinishesBy, FinishesLogger, ending_of, ends_idle, is_settled_slot, waiting_stop}
use Rattle.loggers.specs.Turning.{BeginsBuffer, EndsBuffer, PausesBuffer, ResumesBuffer, LoggerTurn, OpensBelow, BeginsBelow, AbortsAll, UndoesOpens, UndoesBegins, StartsSo, TakesStart, TakesStop, TakesMark, TakesAbort, TakesTurnBy, TakesTurn, is_run_on, is_started, is_of_start, buffers_begun, start_answer}
use Rattle.loggers.specs.LoggerStands.{logger_turn}
use Rattle.loggers.specs.NewLoggers.{HasNewChannels}
use Rattle.loggers.specs.ToldCounts.{faults_of_state, faults_of_end, faults_of_refusal, faults_of_answer, clashes_of_answer, undone_by, count_in_answer, faults_told, clashes_told, starts_undone, broken_off}
use Rattle.loggers.specs.OtherFiles.{specs_in}
use Rattle.loggers.specs.Reasons.{HaveNoLimit, IsReasonSo, IsStartSo, NoneFell, NoneClashed, AreTurnsSo, NamesChannels, AnswerFits, IsLatestOpen, HasRefusedAsk, GivesReasons}
use Rattle.loggers.proofs.InTurns.{turns_keep}
use Rattle.loggers.proofs.RefusedAsks.{TurnAsks, turn_asks, pull_asks}
use Rattle.loggers.proofs.FaultsNoted.{rose_then, then_rose}
use Rattle.loggers.proofs.RisesKept.{begun_off, ended_off, RisesKept, FinishTold, told_by, all_same, idle_off, turn_rises, turn_fits, pull_rises, pull_clashes, ends_rise_all}
use Rattle.loggers.proofs.ManyRose.{StaysOrRose, KeepsOff, by_none, by_same, by_stays, fell_same, fell_then, put_counts, off_of, off_at_most, set_off, map_off}

-- What is told and counted, and the channels that broke off.

-- Between these two moments so many faults and clashes were told. Each fault that was told, and each channel that broke off,
-- had a fault of its own that was counted meanwhile, or is one that had broken off before.
pub record CountsKept (told clashes : ℕ) (slots later : List (Option Channel)) (old new : FilesTold) : Type 0 where
  pub more : ℕ
  pub off : told + broken_off later ≤ broken_off slots + more
  pub rose : RoseBy more old.faults new.faults
  pub clashed : RoseBy clashes old.clashes new.clashes

pub kept_faults : (told clashes : ℕ) (slots later : List (Option Channel)) (old new : FilesTold) → CountsKept told clashes slots later old new → StaysOrRose old.faults new.faults
kept_faults told clashes slots later old new kept = by_stays kept.more old.faults new.faults kept.rose

kept_clashes : (told clashes : ℕ) (slots later : List (Option Channel)) (old new : FilesTold) → CountsKept told clashes slots later old new → StaysOrRose old.clashes new.clashes
kept_clashes told clashes slots later old new kept = by_stays clashes old.clashes new.clashes kept.clashed

kept_fell : (told clashes : ℕ) (slots later : List (Option Channel)) (old new : FilesTold) → CountsKept told clashes slots later old new → NoneFell old new
kept_fell told clashes slots later old new kept = record {
  faults = RoseBy-fewer 0 kept.more old.faults new.faults (omega arith) kept.rose;
  clashes = RoseBy-fewer 0 clashes old.clashes new.clashes (omega arith) kept.clashed;
}

kept_same : (slots : List (Option Channel)) (files : FilesTold) → CountsKept 0 0 slots slots files files
kept_same slots files = record { more = 0; off = omega arith; rose = by_same files.faults files.faults refl; clashed = by_same files.clashes files.clashes refl }

off_then : (t t1 t2 x y z m n : ℕ) → t ≤ t1 + t2 → t1 + y ≤ x + m → t2 + z ≤ y + n → t + z ≤ x + (m + n)
off_then t t1 t2 x y z m n many first second = omega arith

-- One behind the other, of which at most what both told is told.
kept_then : (t c t1 c1 t2 c2 : ℕ) (x y z : List (Option Channel)) (f g h : FilesTold) → t ≤ t1 + t2 → c ≤ c1 + c2 → CountsKept t1 c1 x y f g → CountsKept t2 c2 y z g h → CountsKept t c x z f h
kept_then t c t1 c1 t2 c2 x y z f g h told clashed first second = record {
  more = first.more + second.more;
  off = off_then t t1 t2 (broken_off x) (broken_off y) (broken_off z) first.more second.more told first.off second.off;
  rose = RoseBy-then first.more second.more f.faults g.faults h.faults first.rose second.rose;
  clashed = RoseBy-fewer c (c1 + c2) f.clashes h.clashes clashed (RoseBy-then c1 c2 f.clashes g.clashes h.clashes first.clashed second.clashed);
}

-- what a step of one channel tells, and whether it breaks off
abbrev BreaksBy : (told : ℕ) → (before after : ChannelStage) → (more : ℕ) → Type 0
BreaksBy told before after more = told + off_of after ≤ off_of before + more

breaks_same : (before after : ChannelStage) (more : ℕ) → after ≡ before → BreaksBy 0 before after more
breaks_same before after more same = let off : off_of after ≡ off_of before = ap off_of same in omega (arith, off)

breaks_none : (told : ℕ) (before after : ChannelStage) (more : ℕ) → broken_run after ≡ None → told ≤ more → BreaksBy told before after more
breaks_none told before after more none few = let off : off_of after ≡ 0 = ap (λ (run : Option BegunRun). cond (is_some run) 1 0) none in omega (arith, off, few)

set_part : (told more l s b a : ℕ) → l + b ≡ s + a → told + a ≤ b + more → told + l ≤ s + more
set_part told more l s b a set breaks = omega arith

set_kept : (told clashes more : ℕ) (slots : List (Option Channel)) (n : ℕ) (before after : Channel) (old new : FilesTold) → slot_at slots n ≡ Some before → BreaksBy told before.stage after.stage more → RoseBy more old.faults new.faults → RoseBy clashes old.clashes new.clashes
    → CountsKept told clashes slots (slice_set slots n (Some after)) old new
set_kept told clashes more slots n before after old new there breaks rose clashed = record {
  more = more;
  off = set_part told more (broken_off (slice_set slots n (Some after))) (broken_off slots) (off_of before.stage) (off_of after.stage) (set_off slots n before after there) breaks;
  rose = rose;
  clashed = clashed;
}

noted_count : (failed later : Bool) (f g : ℕ) → NotesFault failed later f g → StaysOrRose f g
noted_count failed later f g noted = elim noted as (λ w. StaysOrRose f g) [
  | inl none ↦ inl none.1
  | inr one ↦ inr one.1
]

-- Steps.

abbrev pub KeptSo : (told clashes : ℕ) → (a b : LoggerMoment) → Type 0
KeptSo told clashes a b = CountsKept told clashes a.slots b.slots a.files b.files

abbrev pub Kept : (a b : LoggerMoment) → Type 0
Kept a b = KeptSo 0 0 a b

pub step_stays : (a b : LoggerMoment) → Kept a b → StaysOrRose a.files.faults b.files.faults
step_stays a b kept = kept_faults 0 0 a.slots b.slots a.files b.files kept

moment_same : (a b : LoggerMoment) → b ≡ a → Kept a b
moment_same a b same = subst (λ (m : LoggerMoment). Kept a m) (sym same) (kept_same a.slots a.files)

moment_then : (a b c : LoggerMoment) → Kept a b → Kept b c → Kept a c
moment_then a b c first second = kept_then 0 0 0 0 0 0 a.slots b.slots c.slots a.files b.files c.files (omega arith) (omega arith) first second

-- what was told stays told
told_then : (told clashes : ℕ) (a b c : LoggerMoment) → KeptSo told clashes a b → Kept b c → KeptSo told clashes a c
told_then told clashes a b c first second = kept_then told clashes told clashes 0 0 a.slots b.slots c.slots a.files b.files c.files (omega arith) (omega arith) first second

then_told : (told clashes : ℕ) (a b c : LoggerMoment) → Kept a b → KeptSo told clashes b c → KeptSo told clashes a c
then_told told clashes a b c first second = kept_then told clashes 0 0 told clashes a.slots b.slots c.slots a.files b.files c.files (omega arith) (omega arith) first second

moment_turns : (Step : ℕ → LoggerMoment → LoggerMoment → Type 0) (n : ℕ) (a b : LoggerMoment) → ((k : ℕ) (x y : LoggerMoment) → Step k x y → Kept x y) → InTurn Step n a b → Kept a b
moment_turns Step n a b each turns = turns_keep Step (λ m. Kept a m) n a b (λ k x y step kept. moment_then a x y kept (each k x y step)) turns (moment_same a a refl)

step_kept : (told clashes more : ℕ) (Step : ChannelStep → Type 0) (n : ℕ) (before : Channel) (a b : LoggerMoment) (s : StepsChannel Step n before a b) → slot_at a.slots n ≡ Some before → BreaksBy told before.stage s.after.stage more → RoseBy more a.files.faults b.files.faults → RoseBy clashes a.files.clashes b.files.clashes
    → KeptSo told clashes a b
step_kept told clashes more Step n before a b s there breaks rose clashed =
    subst (λ (l : List (Option Channel)). CountsKept told clashes a.slots l a.files b.files) (sym s.slots) (set_kept told clashes more a.slots n before s.after a.files b.files there breaks rose clashed)

open_kept : (order : Order) (dump : List ℕ) (n : ℕ) (slot : Option Channel) (a b : LoggerMoment) → slot_at a.slots n ≡ slot → StepsSlot (OpensChannel order dump (Ok tt)) n slot a b → Kept a b
open_kept order dump n None a b there same = moment_same a b same
open_kept order dump n (Some before) a b there s = step_kept 0 0 0 (OpensChannel order dump (Ok tt)) n before a b s there
    (breaks_none 0 before.stage s.after.stage 0 (ap broken_run s.step.opens.asks.stage) (omega arith))
    (by_same a.files.faults b.files.faults s.step.faults) (by_same a.files.clashes b.files.clashes s.step.clashes)

-- a refusal, by its cause

refused_faults : (why : Why) (f g : ℕ) → OpenFaults (Err why) f g → StaysOrRose f g → RoseBy (faults_of_refusal why) f g
refused_faults NotReady f g same stays = by_none f g stays
refused_faults (Exists channel) f g same stays = by_none f g stays
refused_faults (Fault channel) f g rose stays = rose
refused_faults BufferRefused f g later stays = by_none f g stays

refused_clashes : (why : Why) (f g : ℕ) → OpenClashes (Err why) f g → RoseBy (clashes_of_answer (No why)) f g
refused_clashes NotReady f g same = by_same f g same
refused_clashes (Exists channel) f g rose = rose
refused_clashes (Fault channel) f g same = by_same f g same
refused_clashes BufferRefused f g same = by_same f g same

abbrev KeptRefused : Why → (a b : LoggerMoment) → Type 0
KeptRefused why a b = KeptSo (faults_of_refusal why) (clashes_of_answer (No why)) a b

pub refused_kept : (order : Order) (dump : List ℕ) (why : Why) (n : ℕ) (before : Channel) (a b : LoggerMoment) → slot_at a.slots n ≡ Some before → StepsChannel (OpensChannel order dump (Err why)) n before a b → KeptRefused why a b
refused_kept order dump why n before a b there s =
    let off : off_of s.after.stage ≡ off_of before.stage = ap off_of s.step.opens.0 in
    step_kept (faults_of_refusal why) (clashes_of_answer (No why)) (faults_of_refusal why) (OpensChannel order dump (Err why)) n before a b s there (omega (arith, off))
    (refused_faults why a.files.faults b.files.faults s.step.faults (noted_count before.failed s.after.failed a.files.faults b.files.faults s.step.failed))
    (refused_clashes why a.files.clashes b.files.clashes s.step.clashes)

-- a refusal that tells of a fault had one
pub refusal_rose : (order : Order) (dump : List ℕ) (why : Why) (n : ℕ) (before : Channel) (a b : LoggerMoment) → StepsChannel (OpensChannel order dump (Err why)) n before a b → RoseBy (faults_of_refusal why) a.files.faults b.files.faults
refusal_rose order dump why n before a b s = refused_faults why a.files.faults b.files.faults s.step.faults (noted_count before.failed s.after.failed a.files.faults b.files.faults s.step.failed)

pub refused_stays : (why : Why) (a b : LoggerMoment) → KeptRefused why a b → StaysOrRose a.files.faults b.files.faults
refused_stays why a b kept = kept_faults (faults_of_refusal why) (clashes_of_answer (No why)) a.slots b.slots a.files b.files kept

pub abort_kept : (n : ℕ) (slot : Option Channel) (a b : LoggerMoment) → slot_at a.slots n ≡ slot → StepsSlot AbortsChannel n slot a b → Kept a b
abort_kept n None a b there same = moment_same a b same
abort_kept n (Some before) a b there s = step_kept 0 0 0 AbortsChannel n before a b s there
    (breaks_none 0 before.stage s.after.stage 0 (ap (λ (c : Channel). broken_run c.stage) s.step.channel) (omega arith))
    (by_none a.files.faults b.files.faults (noted_count before.failed s.after.failed a.files.faults b.files.faults s.step.failed)) (by_same a.files.clashes b.files.clashes s.step.clashes)

-- a pull

-- how many faults it had, by its answer
abbrev faults_of_pull : Pulled → ℕ
faults_of_pull Broke = 1
faults_of_pull answer = 0

abbrev PullBreaks : (p : PullOf) → Type 0
PullBreaks p = BreaksBy 0 p.stage p.later_stage (faults_of_pull p.answer)

pull_rose : (answer : Pulled) (f g : ℕ) → PullFaults answer f g → RoseBy (faults_of_pull answer) f g
pull_rose NoChannel f g same = by_same f g same
pull_rose Nothing f g same = by_same f g same
pull_rose (Dropped place) f g same = by_same f g same
pull_rose (Wrote place) f g same = by_same f g same
pull_rose Broke f g rose = rose

-- a channel that writes to another file has not broken off by that
written_off : (stage : ChannelStage) (at : OpenFile) → off_of (stage_at stage at) ≡ off_of stage
written_off Idle at = refl
written_off (Asking opened) at = refl
written_off (Writing opened begun) at = refl
written_off (Draining run) at = refl
written_off (Drained run) at = refl
written_off (Broken run fallen) at = refl

takes_break : (behind early : Bool) (p : PullOf) (run : BegunRun) (place : ℕ) (event : Event) → TakesBy behind early p run place event → PullBreaks p
takes_break true early p run place event drains = breaks_none 0 p.stage p.later_stage (faults_of_pull p.answer) (ap broken_run drains.stage) (omega arith)
takes_break false true p run place event leaves = breaks_same p.stage p.later_stage (faults_of_pull p.answer) leaves.stage
takes_break false false p run place event takes = elim takes as (λ w. PullBreaks p) [
  | inl writes ↦ (let off : off_of p.later_stage ≡ off_of p.stage = ap off_of writes.stage ∙ written_off p.stage writes.at in omega (arith, off))
  | inr breaks ↦
      let one : faults_of_pull p.answer ≡ 1 = ap faults_of_pull breaks.answer_is in
      omega (arith, one, off_at_most p.later_stage)
]

finds_break : (drains : Bool) (p : PullOf) (run : BegunRun) → FindsNone drains p run → PullBreaks p
finds_break true p run drains = breaks_none 0 p.stage p.later_stage (faults_of_pull p.answer) (ap broken_run drains.stage) (omega arith)
finds_break false p run leaves = breaks_same p.stage p.later_stage (faults_of_pull p.answer) leaves.stage

reply_break : (p : PullOf) (run : BegunRun) (reply : Received) (event : Event) → TakesReply p run reply event → PullBreaks p
reply_break p run (Got place start) event takes = takes_break (is_behind_end run.ended place) (nat_lt place run.begun) p run place event takes
reply_break p run (Empty gate last) event finds = finds_break (drains_at_none p.stage) p run finds
reply_break p run NoClient event leaves = breaks_same p.stage p.later_stage (faults_of_pull p.answer) leaves.stage
reply_break p run (SmallBuf need) event never = absurd never

pull_break : (reading : Option BegunRun) (p : PullOf) (room : ℕ) → PullsIn reading p room → PullBreaks p
pull_break None p room leaves = breaks_same p.stage p.later_stage (faults_of_pull p.answer) leaves.stage
pull_break (Some run) p room pulls = reply_break (record p { port = pulls.middle }) run pulls.reply pulls.event pulls.taken

-- the count of clashes stays, or rises
more_or_same : (limit f g : ℕ) → RisesWith limit f g → StaysOrRose f g
more_or_same limit f g rises = elim rises as (λ w. StaysOrRose f g) [
  | inl same ↦ inl same
  | inr rose ↦ inr rose.1
]

pulled_kept : (dump : List ℕ) (n : ℕ) (answer : Pulled) (slot : Option Channel) (a b : LoggerMoment) → slot_at a.slots n ≡ slot → PullsSlot dump slot n answer a b → Kept a b
pulled_kept dump n answer None a b there pulls = moment_same a b pulls.1
pulled_kept dump n answer (Some before) a b there s = step_kept 0 0 (faults_of_pull answer) (PullsChannel dump answer) n before a b s there
    (pull_break (reading_run before.stage) _ before.event.room s.step.pulls) (pull_rose answer a.files.faults b.files.faults s.step.faults)
    (by_none a.files.clashes b.files.clashes (more_or_same before.spec.sub_bytes a.files.clashes b.files.clashes s.step.clashes))

-- marks

pub call_kept : (entry : BufferEntry) (buffer : ℕ) (a b : LoggerMoment) → CallsBuffer entry buffer a b → Kept a b
call_kept entry buffer a b calls = subst (λ (l : List (Option Channel)). CountsKept 0 0 a.slots l a.files b.files) (sym calls.slots)
    (subst (λ (files : FilesTold). CountsKept 0 0 a.slots a.slots a.files files) (sym calls.files) (kept_same a.slots a.files))

mark_kept : (entry : BufferEntry) (note : ChannelStage → ChannelStage) (buffer : ℕ) (a b : LoggerMoment) → KeepsOff note → MarksBuffer entry note buffer a b → Kept a b
mark_kept entry note buffer a b keeps marks =
    let same : broken_off (map (option_map (noted_channel note buffer)) a.slots) ≡ broken_off a.slots = map_off note buffer a.slots keeps in
    let kept : CountsKept 0 0 a.slots (map (option_map (noted_channel note buffer)) a.slots) a.files a.files = record {
      more = 0;
      off = omega (arith, same);
      rose = by_same a.files.faults a.files.faults refl;
      clashed = by_same a.files.clashes a.files.clashes refl;
    } in
    subst (λ (l : List (Option Channel)). CountsKept 0 0 a.slots l a.files b.files) (sym marks.noted)
    (subst (λ (files : FilesTold). CountsKept 0 0 a.slots (map (option_map (noted_channel note buffer)) a.slots) a.files files) (sym marks.marks.files) kept)

-- Turns.

pub opens_kept : (order : Order) (dump : List ℕ) (n : ℕ) (a b : LoggerMoment) → OpensBelow order dump n a b → Kept a b
opens_kept order dump n a b opens = moment_turns (λ k. StepsAt (OpensChannel order dump (Ok tt)) k) n a b (λ k x y step. open_kept order dump k (slot_at x.slots k) x y refl step) opens

pub begins_kept : (start n : ℕ) (a b : LoggerMoment) → BeginsBelow start n a b → Kept a b
begins_kept start n a b begins = moment_turns (λ k. BeginsBuffer start k) n a b (λ k x y step. mark_kept _ (λ stage. stage_begun stage step.0) k x y (begun_off step.0) step.1) begins

pub ends_kept : (start n : ℕ) (a b : LoggerMoment) → InTurn (λ k. EndsBuffer start k) n a b → Kept a b
ends_kept start n a b ends = moment_turns (λ k. EndsBuffer start k) n a b (λ k x y step. mark_kept _ (λ stage. stage_ended stage (place_marked step.0)) k x y (ended_off (place_marked step.0)) step.1) ends

pub aborts_kept : (a b : LoggerMoment) → AbortsAll a b → Kept a b
aborts_kept a b aborts = moment_turns (λ k. StepsAt AbortsChannel k) (length a.slots) a b (λ k x y step. abort_kept k (slot_at x.slots k) x y refl step) aborts

undone_opens_kept : (order : Order) (dump : List ℕ) (why : Why) (begun : ℕ) (a b : LoggerMoment) → UndoesOpens order dump why begun a b → KeptRefused why a b
undone_opens_kept order dump why begun a b undoes =
    let r = undoes.opens in
    told_then (faults_of_refusal why) (clashes_of_answer (No why)) a undoes.refused b
    (then_told (faults_of_refusal why) (clashes_of_answer (No why)) a r.opened undoes.refused (opens_kept order dump r.number a r.opened r.opens) (refused_kept order dump why r.number r.channel r.opened undoes.refused r.there r.refuses))
    (aborts_kept undoes.refused b undoes.aborts)

undone_begins_kept : (order : Order) (dump : List ℕ) (why : Why) (begun : ℕ) (a b : LoggerMoment) → UndoesBegins order dump why begun a b → KeptRefused why a b
undone_begins_kept order dump why begun a b undoes =
    let m = undoes.begins in
    let kept : KeptRefused BufferRefused a b =
    moment_then a undoes.refused b
    (moment_then a undoes.opened undoes.refused (opens_kept order dump (length a.slots) a undoes.opened undoes.opens)
    (moment_then undoes.opened m.begun undoes.refused (begins_kept order.start begun undoes.opened m.begun m.begins) (call_kept _ begun m.begun undoes.refused m.refuses.1)))
    (aborts_kept undoes.refused b undoes.aborts) in
    subst (λ (w : Why). KeptRefused w a b) (sym undoes.why_is) kept

-- what this answer tells of the faults and the clashes that were counted
abbrev pub KeptAnswered : Option Answer → (a b : LoggerMoment) → Type 0
KeptAnswered answer a b = KeptSo (count_in_answer faults_of_answer answer) (count_in_answer clashes_of_answer answer) a b

starts_kept : (result : Result ⊤ Why) (order : Order) (dump : List ℕ) (begun : ℕ) (a b : LoggerMoment) → StartsSo result order dump begun a b → KeptAnswered (Some (start_answer result)) a b
starts_kept (Ok done) order dump begun a b starts =
    moment_then a starts.opened b (opens_kept order dump (length a.slots) a starts.opened starts.opens) (begins_kept order.start (length a.ports) starts.opened b starts.begins)
starts_kept (Err why) order dump begun a b starts = elim starts as (λ w. KeptRefused why a b) [
  | inl opens ↦ undone_opens_kept order dump why begun a b opens
  | inr begins ↦ undone_begins_kept order dump why begun a b begins
]

-- What was counted in the turn of a start.

opens_reason : (order : Order) (dump : List ℕ) (why : Why) (begun : ℕ) (a b : LoggerMoment) → UndoesOpens order dump why begun a b → IsReasonSo why a.files b.files
opens_reason order dump NotReady begun a b undoes = tt
opens_reason order dump (Exists channel) begun a b undoes =
    let r = undoes.opens in
    let m = undoes.refused in
    let early = opens_kept order dump r.number a r.opened r.opens in
    let late = aborts_kept m b undoes.aborts in
    rose_then a.files.clashes m.files.clashes b.files.clashes
    (then_rose a.files.clashes r.opened.files.clashes m.files.clashes (kept_clashes 0 0 a.slots r.opened.slots a.files r.opened.files early) r.refuses.step.clashes)
    (kept_clashes 0 0 m.slots b.slots m.files b.files late)
opens_reason order dump (Fault channel) begun a b undoes =
    let r = undoes.opens in
    let m = undoes.refused in
    rose_then a.files.faults m.files.faults b.files.faults
    (then_rose a.files.faults r.opened.files.faults m.files.faults (step_stays a r.opened (opens_kept order dump r.number a r.opened r.opens)) r.refuses.step.faults)
    (step_stays m b (aborts_kept m b undoes.aborts))
opens_reason order dump BufferRefused begun a b undoes = tt

starts_reason : (result : Result ⊤ Why) (order : Order) (dump : List ℕ) (begun : ℕ) (a b : LoggerMoment) → StartsSo result order dump begun a b → IsStartSo (start_answer result) a.files b.files
starts_reason (Ok done) order dump begun a b starts = all_same order dump begun a b starts
starts_reason (Err why) order dump begun a b starts = elim starts as (λ w. IsReasonSo why a.files b.files) [
  | inl opens ↦ opens_reason order dump why begun a b opens
  | inr begins ↦ subst (λ (w : Why). IsReasonSo w a.files b.files) (sym begins.why_is) tt
]

-- What a turn keeps; and what was counted in it, if it is a start.
record Turned (transition : Transition) (t : LoggerTurn) : Type 0 where
  kept : KeptAnswered t.answer t.before t.after
  start : transition ≡ Start → (answer : Answer) → t.answer ≡ Some answer → IsStartSo answer t.before.files t.after.files

-- a turn that is answered so
answered_kept : (t : LoggerTurn) (known : Option Answer) → t.answer ≡ known → KeptAnswered known t.before t.after → KeptAnswered t.answer t.before t.after
answered_kept t known is kept = subst (λ (answer : Option Answer). KeptAnswered answer t.before t.after) (sym is) kept

answered_so : (t : LoggerTurn) (known : Answer) → t.answer ≡ Some known → IsStartSo known t.before.files t.after.files → (answer : Answer) → t.answer ≡ Some answer → IsStartSo answer t.before.files t.after.files
answered_so t known is so answer other =
    let same : known ≡ answer = cc (is, other) in
    subst (λ (a : Answer). IsStartSo a t.before.files t.after.files) same so

start_turned : (on : Bool) (t : LoggerTurn) → TakesStart on t → Turned Start t
start_turned true t takes = record {
  kept = answered_kept t (Some (No NotReady)) takes.answer_is (moment_same t.before t.after takes.moment);
  start = λ is. answered_so t (No NotReady) takes.answer_is tt;
}
start_turned false t takes = record {
  kept = answered_kept t (Some (start_answer takes.result)) takes.answer_is (starts_kept takes.result t.order _ takes.begun t.before t.after takes.starts);
  start = λ is. answered_so t (start_answer takes.result) takes.answer_is (starts_reason takes.result t.order _ takes.begun t.before t.after takes.starts);
}

stop_kept : (of : Bool) (t : LoggerTurn) → TakesStop of t → KeptAnswered t.answer t.before t.after
stop_kept true t takes = answered_kept t None takes.answer_is (ends_kept t.order.start (length t.before.ports) t.before t.after takes.ends)
stop_kept false t takes = answered_kept t (Some (Yes Plain)) takes.answer_is (moment_same t.before t.after takes.moment)

pause_kept : (of : Bool) (t : LoggerTurn) → TakesMark PausesBuffer of t → KeptAnswered t.answer t.before t.after
pause_kept true t takes = answered_kept t (Some (Yes Plain)) takes.answer_is
    (moment_turns (λ k. PausesBuffer t.order.start k) (length t.before.ports) t.before t.after (λ k x y step. call_kept _ k x y step.1) takes.marks)
pause_kept false t takes = answered_kept t (Some (Yes Plain)) takes.answer_is (moment_same t.before t.after takes.moment)

resume_kept : (of : Bool) (t : LoggerTurn) → TakesMark ResumesBuffer of t → KeptAnswered t.answer t.before t.after
resume_kept true t takes = answered_kept t (Some (Yes Plain)) takes.answer_is
    (moment_turns (λ k. ResumesBuffer t.order.start k) (length t.before.ports) t.before t.after (λ k x y step. call_kept _ k x y step.1) takes.marks)
resume_kept false t takes = answered_kept t (Some (Yes Plain)) takes.answer_is (moment_same t.before t.after takes.moment)

called_off_kept : (of : Bool) (t : LoggerTurn) → TakesAbort of t → KeptAnswered t.answer t.before t.after
called_off_kept true t takes = answered_kept t (Some (Yes Plain)) takes.answer_is
    (moment_then t.before takes.ended t.after (ends_kept t.order.start (buffers_begun t.run) t.before takes.ended takes.ends) (aborts_kept takes.ended t.after takes.aborts))
called_off_kept false t takes = answered_kept t (Some (Yes Plain)) takes.answer_is (moment_same t.before t.after takes.moment)

turned_by : (transition : Transition) (t : LoggerTurn) → TakesTurnBy transition t → Turned transition t
turned_by Start t takes = start_turned (is_run_on t.run) t takes
turned_by Stop t takes = record { kept = stop_kept (is_started t.run t.order.start) t takes; start = λ is. absurd (cc (is)) }
turned_by Pause t takes = record { kept = pause_kept (is_started t.run t.order.start) t takes; start = λ is. absurd (cc (is)) }
turned_by Resume t takes = record { kept = resume_kept (is_started t.run t.order.start) t takes; start = λ is. absurd (cc (is)) }
turned_by StartAbort t takes = record { kept = called_off_kept (is_of_start t.run t.order.start) t takes; start = λ is. absurd (cc (is)) }

-- Endings.

-- the channels, the files and what is told of the channels, since the first file was ended
abbrev EndedSince : (slots : List (Option Channel)) → (files : FilesTold) → (m : EndingMoment) → Type 0
EndedSince slots files m = CountsKept (sum_by faults_of_end m.told) 0 slots m.slots files m.files

settled_none : (stage : ChannelStage) → broken_run (stage_settled stage) ≡ None
settled_none Idle = refl
settled_none (Asking opened) = refl
settled_none (Writing opened begun) = refl
settled_none (Draining run) = refl
settled_none (Drained run) = refl
settled_none (Broken run fallen) = refl

otherwise_off : (stage : ChannelStage) → faults_of_state (state_otherwise stage) ≡ off_of stage
otherwise_off Idle = refl
otherwise_off (Asking opened) = refl
otherwise_off (Writing opened begun) = refl
otherwise_off (Draining run) = refl
otherwise_off (Drained run) = refl
otherwise_off (Broken run fallen) = refl

-- what is told of a channel whose file is ended had a fault, which was counted now, or for which it had broken off
record ToldBy (stage : ChannelStage) (state : ChannelState) (f g : ℕ) : Type 0 where
  more : ℕ
  few : faults_of_state state ≤ off_of stage + more
  rose : RoseBy more f g

none_more : (stage : ChannelStage) (state : ChannelState) (f g : ℕ) → faults_of_state state ≤ off_of stage → StaysOrRose f g → ToldBy stage state f g
none_more stage state f g few stays = record { more = 0; few = omega (arith, few); rose = by_none f g stays }

read_by : (state : ChannelState) (run : BegunRun) (stage : ChannelStage) (time : ℕ) (dump : Option (List ℕ)) (a b : Seen) (f g : ℕ) → ClosesRead state run time dump a b f g → StaysOrRose f g → ToldBy stage state f g
read_by IsIdle run stage time dump a b f g closes stays = none_more stage IsIdle f g (omega arith) stays
read_by IsWriting run stage time dump a b f g closes stays = none_more stage IsWriting f g (omega arith) stays
read_by Ended run stage time dump a b f g closes stays = none_more stage Ended f g (omega arith) stays
read_by NoEnd run stage time dump a b f g closes stays = none_more stage NoEnd f g (omega arith) stays
read_by NoMark run stage time dump a b f g closes stays = none_more stage NoMark f g (omega arith) stays
read_by IsBroken run stage time dump a b f g closes stays = record { more = 1; few = omega arith; rose = closes.1 }

closed_by : (drained : Option BegunRun) (state : ChannelState) (stage : ChannelStage) (time : ℕ) (dump : Option (List ℕ)) (a b : Seen) (f g : ℕ) → ClosesFile drained stage state time dump a b f g → StaysOrRose f g → ToldBy stage state f g
closed_by (Some run) state stage time dump a b f g closes stays = read_by state run stage time dump a b f g closes stays
closed_by None state stage time dump a b f g closes stays =
    let is : faults_of_state state ≡ off_of stage = ap faults_of_state closes.0 ∙ otherwise_off stage in
    none_more stage state f g (omega (arith, is)) stays

ends_slot : (slots : List (Option Channel)) (files : FilesTold) (time : ℕ) (dump : Option (List ℕ)) (n : ℕ) (slot : Option Channel) (a b : EndingMoment) → slot_at a.slots n ≡ slot → EndsSlot time dump n slot a b → EndedSince slots files a → EndedSince slots files b
ends_slot slots files time dump n None a b there same since = subst (λ (m : EndingMoment). EndedSince slots files m) (sym same) since
ends_slot slots files time dump n (Some before) a b there ends since =
    let c = ends.after in
    let count : StaysOrRose a.files.faults b.files.faults = noted_count before.failed c.failed a.files.faults b.files.faults ends.ends.failed in
    let end : ChannelEnd = ends.told in
    let told = closed_by (drained_run before.stage) end.state before.stage time dump a.files.seen b.files.seen a.files.faults b.files.faults ends.ends.ends count in
    let none : off_of c.stage ≡ 0 = ap (λ (x : Channel). off_of x.stage) ends.ends.channel ∙ ap (λ (run : Option BegunRun). cond (is_some run) 1 0) (settled_none before.stage) in
    let breaks : BreaksBy (faults_of_end end) before.stage c.stage told.more = let few = told.few in omega (arith, none, few) in
    let now : CountsKept (faults_of_end end) 0 a.slots (slice_set a.slots n (Some c)) a.files b.files =
    set_kept (faults_of_end end) 0 told.more a.slots n before c a.files b.files there breaks told.rose (by_same a.files.clashes b.files.clashes ends.ends.clashes) in
    let both : CountsKept (sum_by faults_of_end (slice_set a.told n end)) 0 slots (slice_set a.slots n (Some c)) files b.files =
    kept_then (sum_by faults_of_end (slice_set a.told n end)) 0 (sum_by faults_of_end a.told) 0 (faults_of_end end) 0 slots a.slots (slice_set a.slots n (Some c)) files a.files b.files
    (put_counts faults_of_end a.told n end) (omega arith) since now in
    subst (λ (l : List (Option Channel)). CountsKept (sum_by faults_of_end b.told) 0 slots l files b.files) (sym ends.slots)
    (subst (λ (l : List ChannelEnd). CountsKept (sum_by faults_of_end l) 0 slots (slice_set a.slots n (Some c)) files b.files) (sym ends.at) both)

pub ends_all : (f : LoggerFinish) (time : ℕ) (ends : EndsFiles f time) → EndedSince f.slots f.files (ending_of f.later_slots f.later_files ends.told)
ends_all f time ends = turns_keep (λ k. EndsSlotAt time f.dumps.stop k) (EndedSince f.slots f.files) (length f.slots) (ending_of f.slots f.files ends_idle) (ending_of f.later_slots f.later_files ends.told)
    (λ k x y step since. ends_slot f.slots f.files time f.dumps.stop k (slot_at x.slots k) x y refl step since) ends.ends (kept_same f.slots f.files)

-- From the first moment on.

clashed_then : (specs : List (Option ChannelSpec)) (f g h : FilesTold) → NoneClashed specs f g → NoneClashed specs g h → NoneClashed specs f h
clashed_then specs f g h first second = record { fell = fell_then f g h first.fell second.fell; clashes = λ none. second.clashes none ∙ first.clashes none }

turns_later : (specs : List (Option ChannelSpec)) (turns : List MemberTurn) (first old new : FilesTold) → NoneClashed specs old new → AreTurnsSo specs turns first old → AreTurnsSo specs turns first new
turns_later specs [] first old new quiet so = clashed_then specs first old new so quiet
turns_later specs (t ∷ ts) first old new quiet so =
    let last = so.1.1.1 in
    (so.0, (so.1.0, (so.1.1.0, record { start = last.start; within = last.within; clashes = last.clashes; since = clashed_then specs so.1.0 old new last.since quiet })))

turns_of : (specs later : List (Option ChannelSpec)) (turns : List MemberTurn) (first now : FilesTold) → later ≡ specs → AreTurnsSo specs turns first now → AreTurnsSo later turns first now
turns_of specs later turns first now same so = subst (λ (s : List (Option ChannelSpec)). AreTurnsSo s turns first now) (sym same) so

fits_later : (slots later : List (Option Channel)) (turns : List MemberTurn) → specs_in later ≡ specs_in slots → ((t : MemberTurn) → HasTurn turns t → AnswerFits (specs_in slots) t.transition t.answer) → (t : MemberTurn) → HasTurn turns t → AnswerFits (specs_in later) t.transition t.answer
fits_later slots later turns same fits t stands = subst (λ (specs : List (Option ChannelSpec)). AnswerFits specs t.transition t.answer) (sym same) (fits t stands)

few_later : (slots later : List (Option Channel)) → specs_in later ≡ specs_in slots → length slots ≤ channel_limit → length later ≤ channel_limit
few_later slots later same few =
    let many : length (specs_in later) ≡ length (specs_in slots) = ap (λ (l : List (Option ChannelSpec)). length l) same in
    omega (arith, many, few, length-map later (option_map (λ (c : Channel). c.spec)), length-map slots (option_map (λ (c : Channel). c.spec)))

-- A call in which so much more is told.
pub more_faults : (many told clashes : ℕ) (slots later : List (Option Channel)) (first old new : FilesTold) → CountsKept told clashes slots later old new → RoseBy (many + broken_off slots) first.faults old.faults → RoseBy (told + many + broken_off later) first.faults new.faults
more_faults many told clashes slots later first old new kept rose =
    let off = kept.off in
    RoseBy-fewer (told + many + broken_off later) (many + broken_off slots + kept.more) first.faults new.faults (omega (arith, off))
    (RoseBy-then (many + broken_off slots) kept.more first.faults old.faults new.faults rose kept.rose)

more_clashes : (many clashes told : ℕ) (slots later : List (Option Channel)) (first old new : FilesTold) → CountsKept told clashes slots later old new → RoseBy many first.clashes old.clashes → RoseBy (clashes + many) first.clashes new.clashes
more_clashes many clashes told slots later first old new kept rose =
    RoseBy-fewer (clashes + many) (many + clashes) first.clashes new.clashes (omega arith) (RoseBy-then many clashes first.clashes old.clashes new.clashes rose kept.clashed)

-- a call by which no turn was answered; it may count a clash where there is a limit
later_reasons : (slots later : List (Option Channel)) (ports more : List Access) (first old new : FilesTold) (turns : List MemberTurn) → CountsKept 0 0 slots later old new → RisesKept 0 1 slots later old new → (HaveNoLimit (specs_in slots) → new.clashes ≡ old.clashes) → (HasRefusedAsk ports → HasRefusedAsk more)
    → GivesReasons slots ports first old turns → GivesReasons later more first new turns
later_reasons slots later ports more first old new turns kept rises clashes stay gives = record {
  faults = RoseBy-fewer (faults_told turns + broken_off later) (0 + faults_told turns + broken_off later) first.faults new.faults (omega arith) (more_faults (faults_told turns) 0 0 slots later first old new kept gives.faults);
  clashes = RoseBy-fewer (clashes_told turns) (0 + clashes_told turns) first.clashes new.clashes (omega arith) (more_clashes (clashes_told turns) 0 0 slots later first old new kept gives.clashes);
  no_fault = λ none.
      let now = rises.clean (omega (arith, none)) in
      let off : broken_off slots ≡ 0 = now.0 in
      now.1 ∙ gives.no_fault (omega (arith, none, off));
  in_turns = turns_of (specs_in slots) (specs_in later) turns first new rises.specs (turns_later (specs_in slots) turns first old new (record { fell = kept_fell 0 0 slots later old new kept; clashes = clashes }) gives.in_turns);
  fits = fits_later slots later turns rises.specs gives.fits;
  few = few_later slots later rises.specs gives.few;
  buffers = λ t stands is. stay (gives.buffers t stands is);
}

-- one turn more
turn_more_reasons : (slots later : List (Option Channel)) (ports more : List Access) (first old new : FilesTold) (turns : List MemberTurn) (t : MemberTurn) → CountsKept (count_in_answer faults_of_answer t.answer) (count_in_answer clashes_of_answer t.answer) slots later old new
    → RisesKept (told_by t.transition t.answer) (count_in_answer clashes_of_answer t.answer) slots later old new → AnswerFits (specs_in slots) t.transition t.answer
    → (t.transition ≡ Start → (answer : Answer) → t.answer ≡ Some answer → IsStartSo answer old new) → (t.answer ≡ Some (No BufferRefused) → HasRefusedAsk more) → (HasRefusedAsk ports → HasRefusedAsk more)
    → GivesReasons slots ports first old turns → GivesReasons later more first new (t ∷ turns)
turn_more_reasons slots later ports more first old new turns t kept rises fits start refused stay gives =
    let told : ℕ = count_in_answer faults_of_answer t.answer in
    let clashes : ℕ = count_in_answer clashes_of_answer t.answer in
    let all_told : faults_told (t ∷ turns) ≡ told + faults_told turns = sum_by-cons (λ (u : MemberTurn). count_in_answer faults_of_answer u.answer) t turns in
    let all_clashes : clashes_told (t ∷ turns) ≡ clashes + clashes_told turns = sum_by-cons (λ (u : MemberTurn). count_in_answer clashes_of_answer u.answer) t turns in
    let all_undone : starts_undone (t ∷ turns) ≡ undone_by t.transition t.answer + starts_undone turns = sum_by-cons (λ (u : MemberTurn). undone_by u.transition u.answer) t turns in
    record {
      faults = subst (λ (many : ℕ). RoseBy (many + broken_off later) first.faults new.faults) (sym all_told) (more_faults (faults_told turns) told clashes slots later first old new kept gives.faults);
      clashes = subst (λ (many : ℕ). RoseBy many first.clashes new.clashes) (sym all_clashes) (more_clashes (clashes_told turns) clashes told slots later first old new kept gives.clashes);
      no_fault = λ none.
          let now = rises.clean (omega (arith, none, all_told, all_undone)) in
          let off : broken_off slots ≡ 0 = now.0 in
          now.1 ∙ gives.no_fault (omega (arith, none, off, all_told, all_undone));
      in_turns = turns_of (specs_in slots) (specs_in later) (t ∷ turns) first new rises.specs (
        old,
        (
          new,
          (
            gives.in_turns,
            record {
              start = start;
              within = kept_fell told clashes slots later old new kept;
              clashes = rises.names;
              since = record { fell = fell_same new; clashes = λ none. refl };
            },
          ),
        ),
      );
      fits = λ u stands. subst (λ (specs : List (Option ChannelSpec)). AnswerFits specs u.transition u.answer) (sym rises.specs)
          (elim stands as (λ w. AnswerFits (specs_in slots) u.transition u.answer) [
            | inl same ↦ subst (λ (x : MemberTurn). AnswerFits (specs_in slots) x.transition x.answer) same fits
            | inr before ↦ gives.fits u before
          ]);
      few = few_later slots later rises.specs gives.few;
      buffers = λ u stands is. elim stands as (λ w. HasRefusedAsk more) [
        | inl same ↦ refused (ap (λ (x : MemberTurn). x.answer) same ∙ is)
        | inr before ↦ stay (gives.buffers u before is)
      ];
    }

-- what each call tells of faults was counted
pub turn_counted : (t : LoggerTurn) → TakesTurn t → KeptAnswered t.answer t.before t.after
turn_counted t takes = (let turned : Turned t.transition t = turned_by t.transition t takes in turned.kept)

pub pull_counted : (dump : List ℕ) (n : ℕ) (answer : Pulled) (a b : LoggerMoment) → PullsNumbered dump n answer a b → Kept a b
pull_counted dump n answer a b pulls = pulled_kept dump n answer (slot_at a.slots n) a b refl pulls

pub turn_reasons : (t : LoggerTurn) (first : FilesTold) (turns : List MemberTurn) → TakesTurn t → GivesReasons t.before.slots t.before.ports first t.before.files turns
    → GivesReasons t.after.slots t.after.ports first t.after.files (logger_turn t.transition t.order t.dump t.answer ∷ turns)
turn_reasons t first turns takes gives =
    let turned : Turned t.transition t = turned_by t.transition t takes in
    let asks : TurnAsks t = turn_asks t takes in
    turn_more_reasons t.before.slots t.after.slots t.before.ports t.after.ports first t.before.files t.after.files turns (logger_turn t.transition t.order t.dump t.answer) turned.kept (turn_rises t takes) (turn_fits t takes) turned.start asks.refused asks.stay gives

pub pull_reasons : (dump : List ℕ) (n : ℕ) (answer : Pulled) (a b : LoggerMoment) (first : FilesTold) (turns : List MemberTurn) → PullsNumbered dump n answer a b → GivesReasons a.slots a.ports first a.files turns → GivesReasons b.slots b.ports first b.files turns
pull_reasons dump n answer a b first turns pulls gives =
    later_reasons a.slots b.slots a.ports b.ports first a.files b.files turns (pulled_kept dump n answer (slot_at a.slots n) a b refl pulls) (pull_rises dump n answer (slot_at a.slots n) a b refl pulls)
    (pull_clashes dump n answer (slot_at a.slots n) a b refl pulls) (pull_asks dump n answer a b pulls) gives

-- The latest turn, which is not answered, is a stop, and is answered so.
open_stop : (specs : List (Option ChannelSpec)) (t : MemberTurn) → t.answer ≡ None → AnswerFits specs t.transition t.answer → t.transition ≡ Stop
open_stop specs t waits fits = (subst (λ (answer : Option Answer). AnswerFits specs t.transition answer) waits fits).kind

answered_reasons : (slots later : List (Option Channel)) (ports : List Access) (first old new : FilesTold) (ends : List ChannelEnd) (turns : List MemberTurn) → CountsKept (sum_by faults_of_end ends) 0 slots later old new → RisesKept (sum_by faults_of_end ends) 0 slots later old new
    → NamesChannels (Some (Yes (Channels ends))) (specs_in slots) → IsLatestOpen turns → GivesReasons slots ports first old turns → GivesReasons later ports first new (latest_answered turns (Some (Yes (Channels ends))))
answered_reasons slots later ports first old new ends [] kept rises named waits gives = absurd waits
answered_reasons slots later ports first old new ends (t ∷ ts) kept rises named waits gives =
    let answer : Answer = Yes (Channels ends) in
    let told : ℕ = sum_by faults_of_end ends in
    let stop : t.transition ≡ Stop = open_stop (specs_in slots) t waits (gives.fits t (inl refl)) in
    let before : faults_told (t ∷ ts) ≡ count_in_answer faults_of_answer t.answer + faults_told ts = sum_by-cons (λ (u : MemberTurn). count_in_answer faults_of_answer u.answer) t ts in
    let none_before : count_in_answer faults_of_answer t.answer ≡ 0 = ap (count_in_answer faults_of_answer) waits in
    let behind : faults_told (record t { answer = Some answer } ∷ ts) ≡ told + faults_told ts = sum_by-cons (λ (u : MemberTurn). count_in_answer faults_of_answer u.answer) (record t { answer = Some answer }) ts in
    let clashes_before : clashes_told (t ∷ ts) ≡ count_in_answer clashes_of_answer t.answer + clashes_told ts = sum_by-cons (λ (u : MemberTurn). count_in_answer clashes_of_answer u.answer) t ts in
    let clashes_behind : clashes_told (record t { answer = Some answer } ∷ ts) ≡ 0 + clashes_told ts = sum_by-cons (λ (u : MemberTurn). count_in_answer clashes_of_answer u.answer) (record t { answer = Some answer }) ts in
    let undone_before : starts_undone (t ∷ ts) ≡ undone_by t.transition t.answer + starts_undone ts = sum_by-cons (λ (u : MemberTurn). undone_by u.transition u.answer) t ts in
    let undone_behind : starts_undone (record t { answer = Some answer } ∷ ts) ≡ undone_by t.transition (Some answer) + starts_undone ts = sum_by-cons (λ (u : MemberTurn). undone_by u.transition u.answer) (record t { answer = Some answer }) ts in
    let undone_none : undone_by t.transition t.answer ≡ 0 = ap (λ (k : Transition). undone_by k t.answer) stop in
    let so = gives.in_turns in
    let last = so.1.1.1 in
    record {
      faults = RoseBy-fewer (faults_told (record t { answer = Some answer } ∷ ts) + broken_off later) (told + faults_told (t ∷ ts) + broken_off later) first.faults new.faults (omega (arith, before, behind)) (more_faults (faults_told (t ∷ ts)) told 0 slots later first old new kept gives.faults);
      clashes = RoseBy-fewer (clashes_told (record t { answer = Some answer } ∷ ts)) (0 + clashes_told (t ∷ ts)) first.clashes new.clashes (omega (arith, clashes_before, clashes_behind)) (more_clashes (clashes_told (t ∷ ts)) 0 told slots later first old new kept gives.clashes);
      no_fault = λ none.
          let now = rises.clean (omega (arith, none, behind)) in
          let off : broken_off slots ≡ 0 = now.0 in
          now.1 ∙ gives.no_fault (omega (arith, none, off, before, none_before, behind, undone_before, undone_behind, undone_none));
      in_turns = turns_of (specs_in slots) (specs_in later) (record t { answer = Some answer } ∷ ts) first new rises.specs (
        so.0,
        (
          so.1.0,
          (
            so.1.1.0,
            record {
              start = λ is given told_so. let same : answer ≡ given = cc (told_so) in subst (λ (a : Answer). IsStartSo a so.0 so.1.0) same tt;
              within = last.within;
              clashes = λ none. last.clashes (ap (count_in_answer clashes_of_answer) waits);
              since = clashed_then (specs_in slots) so.1.0 old new last.since (record { fell = kept_fell told 0 slots later old new kept; clashes = λ none. rises.names refl });
            },
          ),
        ),
      );
      fits = λ u stands. subst (λ (specs : List (Option ChannelSpec)). AnswerFits specs u.transition u.answer) (sym rises.specs)
          (elim stands as (λ w. AnswerFits (specs_in slots) u.transition u.answer) [
            | inl same ↦ subst (λ (x : MemberTurn). AnswerFits (specs_in slots) x.transition x.answer) same (record { kind = stop; channels = named })
            | inr earlier ↦ gives.fits u (inr earlier)
          ]);
      few = few_later slots later rises.specs gives.few;
      buffers = λ u stands is. elim stands as (λ w. HasRefusedAsk ports) [
        | inl same ↦ absurd (let other : Some answer ≡ Some (No BufferRefused) = ap (λ (x : MemberTurn). x.answer) same ∙ is in cc (other))
        | inr earlier ↦ gives.buffers u (inr earlier) is
      ];
    }

waiting_reasons : (f : LoggerFinish) (ports : List Access) (first : FilesTold) (turns : List MemberTurn) → f.answer ≡ None → f.later_slots ≡ f.slots → f.later_files ≡ f.files → GivesReasons f.slots ports first f.files turns → GivesReasons f.later_slots ports first f.later_files (latest_answered turns f.answer)
waiting_reasons f ports first turns none slots files gives = rw (none, slots, files) gives

finish_by : (f : LoggerFinish) (ports : List Access) (first : FilesTold) (turns : List MemberTurn) (settled : Bool) (stop : Option ℕ) → FinishesBy settled stop f → IsLatestOpen turns → GivesReasons f.slots ports first f.files turns
    → GivesReasons f.later_slots ports first f.later_files (latest_answered turns f.answer)
finish_by f ports first turns settled None leaves waits gives = waiting_reasons f ports first turns leaves.answer_is leaves.slots leaves.files gives
finish_by f ports first turns false (Some time) leaves waits gives = waiting_reasons f ports first turns leaves.answer_is leaves.slots leaves.files gives
finish_by f ports first turns true (Some time) ends waits gives =
    let told : FinishTold f ends.told = ends_rise_all f time ends gives.few in
    subst (λ (answer : Option Answer). GivesReasons f.later_slots ports first f.later_files (latest_answered turns answer)) (sym ends.answer_is)
    (answered_reasons f.slots f.later_slots ports first f.files f.later_files ends.told turns (ends_all f time ends) told.rises told.named waits gives)

pub finish_reasons : (f : LoggerFinish) (ports : List Access) (first : FilesTold) (turns : List MemberTurn) → FinishesLogger f → IsLatestOpen turns → GivesReasons f.slots ports first f.files turns → GivesReasons f.later_slots ports first f.later_files (latest_answered turns f.answer)
finish_reasons f ports first turns finishes waits gives = finish_by f ports first turns (list_all is_settled_slot f.slots) (waiting_stop f.run) finishes waits gives

-- The clashes of which the turns tell.
pub clashes_are_told : (slots : List (Option Channel)) (ports : List Access) (first now : FilesTold) (turns : List MemberTurn) → GivesReasons slots ports first now turns → HaveNoLimit (specs_in slots) → clashes_told turns ≡ 0 → now.clashes ≡ first.clashes
clashes_are_told slots ports first now turns gives unlimited none = clashes_by turns first now gives.in_turns none
  where
    clashes_by : (ts : List MemberTurn) (f g : FilesTold) → AreTurnsSo (specs_in slots) ts f g → clashes_told ts ≡ 0 → g.clashes ≡ f.clashes
    clashes_by [] f g so untold = so.clashes unlimited
    clashes_by (t ∷ ts) f g so untold =
        let all : clashes_told (t ∷ ts) ≡ count_in_answer clashes_of_answer t.answer + clashes_told ts = sum_by-cons (λ (u : MemberTurn). count_in_answer clashes_of_answer u.answer) t ts in
        let last = so.1.1.1 in
        last.since.clashes unlimited ∙ (last.clashes (omega (arith, all, untold)) ∙ clashes_by ts f so.0 so.1.1.0 (omega (arith, all, untold)))

-- A logger whose channels are all idle, and that gave no answer.
pub idle_reasons : (slots : List (Option Channel)) (ports : List Access) → AreIdleChannels slots → length slots ≤ channel_limit → (files : FilesTold) → GivesReasons slots ports files files []
idle_reasons slots ports idle few files = record {
  faults = subst (λ (off : ℕ). RoseBy (0 + off) files.faults files.faults) (sym (idle_off slots idle)) (by_same files.faults files.faults refl);
  clashes = by_same files.clashes files.clashes refl;
  no_fault = λ none. refl;
  in_turns = record { fell = fell_same files; clashes = λ none. refl };
  fits = λ t stands. absurd stands;
  few = few;
  buffers = λ t stands is. absurd stands;
}

pub new_idle : (specs : List ChannelSpec) (rooms : List ℕ) (slots : List (Option Channel)) → HasNewChannels specs rooms slots → AreIdleChannels slots
new_idle specs rooms slots new n c stood = ap (λ (x : Channel). x.stage) (new.only n c stood).1.1.is
