-- The file of the first fault is that of a channel that broke off, where no turn undid what was opened.
use Rattle.std.specs.Prelude.{◌≡◌, ◌≤◌, ◌<◌, ◌==◌, ◌+◌, nat_lt, ℕ, zero, suc, Bool, true, false, if◌then◌else◌, List, ◌∷◌, length, slice_get, slice_set, Option, Some, None, Result, Ok, Err, ⊤, ◌⊎◌, refl}
use Rattle.std.proofs.Common.{ap, sym, subst, ◌∙◌, arith, inl, inr}
use Rattle.std.proofs.lemmas.List.Sums.{sum_by-cons}
use Rattle.daq_types.specs.declared.events.Event.{Event}
use Rattle.daq_types.specs.declared.runs.ChannelEnd.{ChannelEnd}
use Rattle.daq_types.specs.declared.runs.ChannelState.{ChannelState}
use Rattle.daq_types.specs.declared.runs.ChannelState.TheVariants.{Ended, NoEnd, NoMark, Idle as IsIdle, Writing as IsWriting, Broken as IsBroken}
use Rattle.daq_types.specs.declared.runs.Order.{Order}
use Rattle.daq_types.specs.declared.runs.Transition.{Transition}
use Rattle.daq_types.specs.declared.runs.Transition.TheVariants.{Start, Stop, Pause, Resume, StartAbort}
use Rattle.daq_types.specs.declared.runs.Why.{Why}
use Rattle.daq_types.specs.declared.runs.Why.TheVariants.{NotReady, Exists, Fault, BufferRefused}
use Rattle.daq_io.specs.Counts.{first_of}
use Rattle.daq_io.specs.Seen.{Seen}
use Rattle.daq_io.specs.Told.{FilesTold}
use Rattle.buffer_core.specs.declared.replies.Received.{Received}
use Rattle.buffer_core.specs.declared.replies.Received.TheVariants.{Got, Empty, NoClient, SmallBuf}
use Rattle.buffer_core.specs.Slots.{slot_at}
use Rattle.buffer_core.proofs.SlotLaws.{slot_set_other, slot_within}
use Rattle.sub_files.specs.declared.open_file.Fallen.{Fallen}
use Rattle.sub_files.specs.Patterns.{piece_name_by}
use Rattle.member_model.specs.Turns.{MemberTurn}
use Rattle.mid_logger.specs.declared.channel.Channel.{Channel}
use Rattle.mid_logger.specs.declared.channel_spec.ChannelSpec.{ChannelSpec}
use Rattle.mid_logger.specs.declared.pulled.Pulled.{Pulled}
use Rattle.mid_logger.specs.declared.pulled.Pulled.TheVariants.{NoChannel, Nothing, Dropped, Wrote, Broke}
use Rattle.mid_logger.specs.declared.stage.BegunRun.{BegunRun}
use Rattle.mid_logger.specs.declared.stage.ChannelRun.{ChannelRun}
use Rattle.mid_logger.specs.declared.stage.ChannelStage.{ChannelStage}
use Rattle.mid_logger.specs.declared.stage.ChannelStage.TheVariants.{Idle, Asking, Writing, Draining, Drained, Broken}
use Rattle.mid_logger.specs.Channels.{channel_run, written_run, run_begun, reading_run, is_behind_end, stage_ended, end_marked, place_marked, files_by as files_made}
use Rattle.mid_logger.specs.ChannelEnds.{ClosesFile, EndNames, state_otherwise}
use Rattle.mid_logger.specs.ChannelTurns.{drained_run}
use Rattle.mid_logger.specs.Keeping.{PullsChange}
use Rattle.mid_logger.specs.Pulls.{PullOf, Pulls, PullsIn, TakesReply, TakesBy, FindsNone, PullNames, drains_at_none, open_name, name_behind}
use Rattle.loggers.specs.Moments.{LoggerMoment, StepsChannel, StepsSlot, StepsAt, CallsBuffer, InTurn, noted_channel, AreIdleChannels, HaveFilesOpen, channel_limit}
use Rattle.loggers.specs.ChannelSteps.{OpensChannel, PullsChannel}
use Rattle.loggers.specs.SlotPulls.{PullsSlot, PullsNumbered}
use Rattle.loggers.specs.Finishing.{EndingMoment, EndsSlot, EndsSlotAt, EndsFiles, LoggerFinish, ending_of, ends_idle}
use Rattle.loggers.specs.Turning.{BeginsBuffer, EndsBuffer, PausesBuffer, ResumesBuffer, LoggerTurn, OpensBelow, BeginsBelow, StartsSo, TakesStart, TakesStop, TakesMark, TakesTurnBy, TakesTurn, IsIdleOutside, is_run_on, is_started, start_answer}
use Rattle.loggers.specs.LoggerStands.{logger_turn}
use Rattle.loggers.specs.OtherFiles.{specs_in}
use Rattle.loggers.specs.ToldCounts.{undone_of_answer, undone_by, count_in_answer, starts_undone}
use Rattle.loggers.specs.LeftNames.{IsStoppedRunOf, IsBrokenName, IsBrokenOffName, IsFaultTold}
use Rattle.loggers.proofs.FilesLeft.{spec_at, noted_spec}
use Rattle.loggers.proofs.InTurns.{turns_keep}
use Rattle.loggers.proofs.NamesUndone.{map_at}
use Rattle.loggers.proofs.SlotLists.{same_or_other, put_there, got_there, kept_there, many_set}
use Rattle.loggers.proofs.StoppedRuns.{there_is}

-- The name of a channel that broke off stays its name.

-- one channel changed, and if it had broken off it did not
off_set : (slots : List (Option Channel)) (n : ℕ) (before after : Channel) (name : List ℕ) → slot_at slots n ≡ Some before → after.spec ≡ before.spec → ((run : BegunRun) (fallen : Fallen) → before.stage ≡ Broken run fallen → after.stage ≡ Broken run fallen) → IsBrokenOffName slots name
    → IsBrokenOffName (slice_set slots n (Some after)) name
off_set slots n before after name there spec still o = elim (same_or_other o.number n) as (λ w. IsBrokenOffName (slice_set slots n (Some after)) name) [
  | inl same ↦
      let at_n : slot_at slots n ≡ Some o.channel = subst (λ (i : ℕ). slot_at slots i ≡ Some o.channel) same o.there in
      let is : o.channel ≡ before = cc (at_n, there) in
      let stage : before.stage ≡ Broken o.run o.fallen = ap (λ (x : Channel). x.stage) (sym is) ∙ o.of in
      let specs : after.spec ≡ o.channel.spec = spec ∙ ap (λ (x : Channel). x.spec) (sym is) in
      record {
        number = n;
        channel = after;
        run = o.run;
        fallen = o.fallen;
        there = put_there slots n before after there;
        of = still o.run o.fallen stage;
        sub = o.sub;
        few = o.few;
        is = ap (λ (x : ChannelSpec). piece_name_by x.pattern o.run.opened.run o.sub) specs ∙ o.is;
      }
  | inr other ↦ record {
    number = o.number;
    channel = o.channel;
    run = o.run;
    fallen = o.fallen;
    there = slot_set_other slots n o.number (Some after) other ∙ o.there;
    of = o.of;
    sub = o.sub;
    few = o.few;
    is = o.is;
  }
]

noted_off : (place : Option ℕ) (buffer : ℕ) (c : Channel) (run : BegunRun) (fallen : Fallen) → c.stage ≡ Broken run fallen → (later : BegunRun) × ((noted_channel (λ stage. stage_ended stage place) buffer c).stage ≡ Broken later fallen) × (later.opened ≡ run.opened)
noted_off place buffer c run fallen is = by_hit (c.spec.buffer == buffer)
  where
    by_hit : (hit : Bool) → (later : BegunRun) × ((if hit then record c { stage = stage_ended c.stage place } else c).stage ≡ Broken later fallen) × (later.opened ≡ run.opened)
    by_hit true = (record run { ended = end_marked run.ended place }, ap (λ (s : ChannelStage). stage_ended s place) is, refl)
    by_hit false = (run, is, refl)

-- The first fault is the same, and a channel that broke off has not changed.
pub record Quiet (a b : LoggerMoment) : Type 0 where
  pub first : b.files.first ≡ a.files.first
  pub off : (name : List ℕ) → IsBrokenOffName a.slots name → IsBrokenOffName b.slots name

pub quiet_same : (a b : LoggerMoment) → b ≡ a → Quiet a b
quiet_same a b same = subst (λ (m : LoggerMoment). Quiet a m) (sym same) (record { first = refl; off = λ name o. o })

quiet_then : (a b c : LoggerMoment) → Quiet a b → Quiet b c → Quiet a c
quiet_then a b c one two = record { first = two.first ∙ one.first; off = λ name o. two.off name (one.off name o) }

quiet_turns : (Step : ℕ → LoggerMoment → LoggerMoment → Type 0) (n : ℕ) (a b : LoggerMoment) → ((k : ℕ) (x y : LoggerMoment) → Step k x y → Quiet x y) → InTurn Step n a b → Quiet a b
quiet_turns Step n a b each turns = turns_keep Step (λ m. Quiet a m) n a b (λ k x y step quiet. quiet_then a x y quiet (each k x y step)) turns (quiet_same a a refl)

quiet_call : (entry : _) (buffer : ℕ) (a b : LoggerMoment) → CallsBuffer entry buffer a b → Quiet a b
quiet_call entry buffer a b calls = record {
  first = ap (λ (f : FilesTold). f.first) calls.files;
  off = λ name o. subst (λ (l : List (Option Channel)). IsBrokenOffName l name) (sym calls.slots) o;
}

quiet_end : (start k : ℕ) (a b : LoggerMoment) → EndsBuffer start k a b → Quiet a b
quiet_end start k a b ends =
    let place : Option ℕ = place_marked ends.0 in
    let note : ChannelStage → ChannelStage = λ stage. stage_ended stage place in
    record {
      first = ap (λ (f : FilesTold). f.first) ends.1.marks.files;
      off = λ name o.
          let later = noted_off place k o.channel o.run o.fallen o.of in
          subst (λ (l : List (Option Channel)). IsBrokenOffName l name) (sym ends.1.noted) (record {
            number = o.number;
            channel = noted_channel note k o.channel;
            run = later.0;
            fallen = o.fallen;
            there = map_at note k a.slots o.number o.channel o.there;
            of = later.1;
            sub = o.sub;
            few = o.few;
            is = ap (λ (x : ChannelSpec). piece_name_by x.pattern later.0.opened.run o.sub) (noted_spec note k o.channel) ∙ (ap (λ (r : ChannelRun). piece_name_by o.channel.spec.pattern r.run o.sub) later.2 ∙ o.is);
          });
    }

-- A start that was accepted.

pub none_off : (slots : List (Option Channel)) (name : List ℕ) → AreIdleChannels slots → IsBrokenOffName slots name → ⊥
none_off slots name idle o = (let is : Idle ≡ Broken o.run o.fallen = sym (idle o.number o.channel o.there) ∙ o.of in cc (is))

open_first : (order : Order) (dump : List ℕ) (n : ℕ) (slot : Option Channel) (a b : LoggerMoment) → slot_at a.slots n ≡ slot → StepsSlot (OpensChannel order dump (Ok tt)) n slot a b → b.files.first ≡ a.files.first
open_first order dump n None a b there same = ap (λ (m : LoggerMoment). m.files.first) same
open_first order dump n (Some before) a b there s = s.step.first

pub opens_first : (order : Order) (dump : List ℕ) (n : ℕ) (a b : LoggerMoment) → OpensBelow order dump n a b → b.files.first ≡ a.files.first
opens_first order dump n a b opens = turns_keep (λ k. StepsAt (OpensChannel order dump (Ok tt)) k) (λ m. m.files.first ≡ a.files.first) n a b (λ k x y step same. open_first order dump k (slot_at x.slots k) x y refl step ∙ same) opens refl

begins_first : (start n : ℕ) (a b : LoggerMoment) → BeginsBelow start n a b → b.files.first ≡ a.files.first
begins_first start n a b begins = turns_keep (λ k. BeginsBuffer start k) (λ m. m.files.first ≡ a.files.first) n a b (λ k x y step same. ap (λ (f : FilesTold). f.first) step.1.marks.files ∙ same) begins refl

pub starts_quiet : (result : Result ⊤ Why) (order : Order) (dump : List ℕ) (begun : ℕ) (a b : LoggerMoment) → StartsSo result order dump begun a b → AreIdleChannels a.slots → undone_of_answer (start_answer result) ≡ 0 → Quiet a b
starts_quiet (Ok done) order dump begun a b starts idle undone = record {
  first = begins_first order.start (length a.ports) starts.opened b starts.begins ∙ opens_first order dump (length a.slots) a starts.opened starts.opens;
  off = λ name o. absurd (none_off a.slots name idle o);
}
starts_quiet (Err NotReady) order dump begun a b starts idle undone = elim starts as (λ w. Quiet a b) [
  | inl opens ↦ absurd opens.opens.refuses.step.opens.1
  | inr begins ↦ absurd (let is = begins.why_is in cc (is))
]
starts_quiet (Err (Exists channel)) order dump begun a b starts idle undone = absurd (omega (arith, undone))
starts_quiet (Err (Fault channel)) order dump begun a b starts idle undone = absurd (omega (arith, undone))
starts_quiet (Err BufferRefused) order dump begun a b starts idle undone = absurd (omega (arith, undone))

-- A turn that undoes nothing.

start_quiet : (on : Bool) (t : LoggerTurn) → (on ≡ false → AreIdleChannels t.before.slots) → TakesStart on t → undone_by Start t.answer ≡ 0 → Quiet t.before t.after
start_quiet true t idle takes undone = quiet_same t.before t.after takes.moment
start_quiet false t idle takes undone =
    starts_quiet takes.result t.order _ takes.begun t.before t.after takes.starts (idle refl) (sym (ap (count_in_answer undone_of_answer) takes.answer_is) ∙ undone)

pub stop_quiet : (of : Bool) (t : LoggerTurn) → TakesStop of t → Quiet t.before t.after
stop_quiet true t takes = quiet_turns (λ k. EndsBuffer t.order.start k) (length t.before.ports) t.before t.after (λ k x y step. quiet_end t.order.start k x y step) takes.ends
stop_quiet false t takes = quiet_same t.before t.after takes.moment

pub pause_quiet : (of : Bool) (t : LoggerTurn) → TakesMark PausesBuffer of t → Quiet t.before t.after
pause_quiet true t takes = quiet_turns (λ k. PausesBuffer t.order.start k) (length t.before.ports) t.before t.after (λ k x y step. quiet_call _ k x y step.1) takes.marks
pause_quiet false t takes = quiet_same t.before t.after takes.moment

pub resume_quiet : (of : Bool) (t : LoggerTurn) → TakesMark ResumesBuffer of t → Quiet t.before t.after
resume_quiet true t takes = quiet_turns (λ k. ResumesBuffer t.order.start k) (length t.before.ports) t.before t.after (λ k x y step. quiet_call _ k x y step.1) takes.marks
resume_quiet false t takes = quiet_same t.before t.after takes.moment

turn_quiet : (transition : Transition) (t : LoggerTurn) → IsIdleOutside t.run t.before.slots → TakesTurnBy transition t → undone_by transition t.answer ≡ 0 → Quiet t.before t.after
turn_quiet Start t idle takes undone = start_quiet (is_run_on t.run) t idle takes undone
turn_quiet Stop t idle takes undone = stop_quiet (is_started t.run t.order.start) t takes
turn_quiet Pause t idle takes undone = pause_quiet (is_started t.run t.order.start) t takes
turn_quiet Resume t idle takes undone = resume_quiet (is_started t.run t.order.start) t takes
turn_quiet StartAbort t idle takes undone = absurd (omega (arith, undone))

pub broken_more : (specs : List (Option ChannelSpec)) (turns later : List MemberTurn) (name : List ℕ) → ((run : ℕ) (ends : List ChannelEnd) → IsStoppedRunOf turns run ends → IsStoppedRunOf later run ends) → IsBrokenName specs turns name → IsBrokenName specs later name
broken_more specs turns later name more o =
    record { number = o.number; spec = o.spec; there = o.there; run = o.run; ends = o.ends; stopped = more o.run o.ends o.stopped; told = o.told; at = o.at; broken = o.broken; sub = o.sub; few = o.few; is = o.is }

-- what a turn leaves of it, where the channels stay what they are
pub turn_fault : (t : LoggerTurn) (first : FilesTold) (turns : List MemberTurn) → TakesTurn t → IsIdleOutside t.run t.before.slots → specs_in t.after.slots ≡ specs_in t.before.slots
    → ((run : ℕ) (ends : List ChannelEnd) → IsStoppedRunOf turns run ends → IsStoppedRunOf (logger_turn t.transition t.order t.dump t.answer ∷ turns) run ends) → IsFaultTold t.before.slots turns first t.before.files
    → IsFaultTold t.after.slots (logger_turn t.transition t.order t.dump t.answer ∷ turns) first t.after.files
turn_fault t first turns takes idle specs more told none undone name is =
    let now : MemberTurn = logger_turn t.transition t.order t.dump t.answer in
    let later : List MemberTurn = now ∷ turns in
    let all : starts_undone later ≡ undone_by t.transition t.answer + starts_undone turns = sum_by-cons (λ (u : MemberTurn). undone_by u.transition u.answer) now turns in
    let quiet : Quiet t.before t.after = turn_quiet t.transition t idle takes (omega (arith, all, undone)) in
    elim (told none (omega (arith, all, undone)) name (sym quiet.first ∙ is)) as (λ w. IsBrokenName (specs_in t.after.slots) later name ⊎ IsBrokenOffName t.after.slots name) [
      | inl broken ↦ inl (subst (λ (l : List (Option ChannelSpec)). IsBrokenName l later name) (sym specs) (broken_more (specs_in t.before.slots) turns later name more broken))
      | inr off ↦ inr (quiet.off name off)
    ]

-- A pull.

reading_is : (stage : ChannelStage) (run : BegunRun) → reading_run stage ≡ Some run → (written_run stage ≡ Some run.opened) × (files_made stage ≡ run.opened.at.sub + 1)
reading_is Idle run is = absurd (cc (is))
reading_is (Asking opened) run is = absurd (cc (is))
reading_is (Writing opened begun) run is = (let same : run_begun opened begun ≡ run = cc (is) in (ap (λ (r : BegunRun). Some r.opened) same, ap (λ (r : BegunRun). r.opened.at.sub + 1) same))
reading_is (Draining r) run is = (let same : r ≡ run = cc (is) in (ap (λ (r : BegunRun). Some r.opened) same, ap (λ (r : BegunRun). r.opened.at.sub + 1) same))
reading_is (Drained r) run is = absurd (cc (is))
reading_is (Broken r fallen) run is = absurd (cc (is))

abbrev BreaksOff : PullOf → BegunRun → Type 0
BreaksOff p run = (fallen : Fallen) × (p.later_stage ≡ Broken run fallen)

takes_broke : (behind early : Bool) (p : PullOf) (run : BegunRun) (place : ℕ) (event : Event) → TakesBy behind early p run place event → p.answer ≡ Broke → BreaksOff p run
takes_broke true early p run place event drains is = absurd (let other : Broke ≡ Dropped place = sym is ∙ drains.answer_is in cc (other))
takes_broke false true p run place event leaves is = absurd (let other : Broke ≡ Dropped place = sym is ∙ leaves.answer_is in cc (other))
takes_broke false false p run place event takes is = elim takes as (λ w. BreaksOff p run) [
  | inl writes ↦ absurd (let other : Broke ≡ Wrote place = sym is ∙ writes.answer_is in cc (other))
  | inr breaks ↦ (breaks.fallen, breaks.stage)
]

finds_broke : (drains : Bool) (p : PullOf) (run : BegunRun) → FindsNone drains p run → p.answer ≡ Broke → ⊥
finds_broke true p run drains is = (let other : Broke ≡ Nothing = sym is ∙ drains.answer_is in cc (other))
finds_broke false p run leaves is = (let other : Broke ≡ Nothing = sym is ∙ leaves.answer_is in cc (other))

reply_broke : (p : PullOf) (run : BegunRun) (reply : Received) (event : Event) → TakesReply p run reply event → p.answer ≡ Broke → BreaksOff p run
reply_broke p run (Got place start) event takes is = takes_broke (is_behind_end run.ended place) (nat_lt place run.begun) p run place event takes is
reply_broke p run (Empty gate last) event finds is = absurd (finds_broke (drains_at_none p.stage) p run finds is)
reply_broke p run NoClient event leaves is = absurd (let other : Broke ≡ Nothing = sym is ∙ leaves.answer_is in cc (other))
reply_broke p run (SmallBuf need) event never is = absurd never

broke : (p : PullOf) (room : ℕ) (reading : Option BegunRun) → reading_run p.stage ≡ reading → PullsIn reading p room → p.answer ≡ Broke → (run : BegunRun) × (reading_run p.stage ≡ Some run) × BreaksOff p run
broke p room None at leaves is = absurd (let other : Broke ≡ Nothing = sym is ∙ leaves.answer_is in cc (other))
broke p room (Some run) at pulls is = (run, at, reply_broke (record p { port = pulls.middle }) run pulls.reply pulls.event pulls.taken is)

-- a channel that broke off pulls nothing
pull_still : (p : PullOf) (room : ℕ) (run : BegunRun) (fallen : Fallen) → Pulls p room → p.stage ≡ Broken run fallen → p.later_stage ≡ Broken run fallen
pull_still p room run fallen pulls is = (let leaves : PullsIn None p room = subst (λ (r : Option BegunRun). PullsIn r p room) (ap reading_run is) pulls in leaves.stage ∙ is)

-- what is named now was named before, or is one of the two names, and the channel broke off
one_named : (name next x : List ℕ) (old new : Option (List ℕ)) → (new ≡ first_of old name) ⊎ (new ≡ first_of old next) → new ≡ Some x → (old ≡ Some x) ⊎ ((name ≡ x) ⊎ (next ≡ x))
one_named name next x None new of is = inr (elim of as (λ w. (name ≡ x) ⊎ (next ≡ x)) [
  | inl e ↦ inl (let both : Some name ≡ Some x = sym e ∙ is in cc (both))
  | inr e ↦ inr (let both : Some next ≡ Some x = sym e ∙ is in cc (both))
])
one_named name next x (Some before) new of is = inl (elim of as (λ w. Some before ≡ Some x) [
  | inl e ↦ sym e ∙ is
  | inr e ↦ sym e ∙ is
])

pull_named : (answer : Pulled) (name next x : List ℕ) (old new : Option (List ℕ)) → PullNames answer name next old new → new ≡ Some x → (old ≡ Some x) ⊎ ((answer ≡ Broke) × ((name ≡ x) ⊎ (next ≡ x)))
pull_named NoChannel name next x old new same is = inl (sym same ∙ is)
pull_named Nothing name next x old new same is = inl (sym same ∙ is)
pull_named (Dropped place) name next x old new same is = inl (sym same ∙ is)
pull_named (Wrote place) name next x old new same is = inl (sym same ∙ is)
pull_named Broke name next x old new of is = elim (one_named name next x old new of is) as (λ w. (old ≡ Some x) ⊎ ((Broke ≡ Broke) × ((name ≡ x) ⊎ (next ≡ x)))) [
  | inl was ↦ inl was
  | inr now ↦ inr (refl, now)
]

-- The first fault stays; one that is named now is that of a channel that broke off; and a channel that broke off has not changed.
pub record OffNamed (a b : LoggerMoment) : Type 0 where
  pub stays : (name : List ℕ) → a.files.first ≡ Some name → b.files.first ≡ Some name
  pub named : (name : List ℕ) → b.files.first ≡ Some name → (a.files.first ≡ Some name) ⊎ IsBrokenOffName b.slots name
  pub off : (name : List ℕ) → IsBrokenOffName a.slots name → IsBrokenOffName b.slots name

pub first_stays : (old : Option (List ℕ)) (name x : List ℕ) → old ≡ Some x → first_of old name ≡ Some x
first_stays None name x is = absurd (cc (is))
first_stays (Some before) name x is = is

pull_stays : (answer : Pulled) (name next x : List ℕ) (old new : Option (List ℕ)) → PullNames answer name next old new → old ≡ Some x → new ≡ Some x
pull_stays NoChannel name next x old new same is = same ∙ is
pull_stays Nothing name next x old new same is = same ∙ is
pull_stays (Dropped place) name next x old new same is = same ∙ is
pull_stays (Wrote place) name next x old new same is = same ∙ is
pull_stays Broke name next x old new of is = elim of as (λ w. new ≡ Some x) [
  | inl e ↦ e ∙ first_stays old name x is
  | inr e ↦ e ∙ first_stays old next x is
]

pulled_off : PullsChange → (dump : List ℕ) (number : ℕ) (answer : Pulled) (before : Channel) (a b : LoggerMoment) → slot_at a.slots number ≡ Some before → HaveFilesOpen a.slots a.files.seen → StepsChannel (PullsChannel dump answer) number before a b → OffNamed a b
pulled_off change dump number answer before a b there open_files s = record {
  stays = λ name is. pull_stays answer (open_name before.spec (written_run before.stage)) (name_behind before.spec (written_run before.stage)) name a.files.first b.files.first s.step.first is;
  named = λ name is. elim (pull_named answer (open_name before.spec (written_run before.stage)) (name_behind before.spec (written_run before.stage)) name a.files.first b.files.first s.step.first is) as (λ w. (a.files.first ≡ Some name) ⊎ IsBrokenOffName b.slots name) [
    | inl was ↦ inl was
    | inr now ↦
        let off = broke _ before.event.room (reading_run before.stage) refl s.step.pulls now.0 in
        let run : BegunRun = off.0 in
        let fallen : Fallen = off.2.0 in
        let at : s.after.stage ≡ Broken run fallen = off.2.1 in
        let reads = reading_is before.stage run off.1 in
        let changes = change _ before.event.room s.step.pulls (open_files.files number before there) in
        let made : files_made before.stage ≤ files_made s.after.stage = changes.1.made in
        let files : files_made s.after.stage ≡ fallen.files = ap files_made at in
        let pattern : (sub : ℕ) → piece_name_by s.after.spec.pattern run.opened.run sub ≡ piece_name_by before.spec.pattern run.opened.run sub = λ sub. ap (λ (x : ChannelSpec). piece_name_by x.pattern run.opened.run sub) s.step.spec in
        let so : (sub : ℕ) → sub ≤ fallen.files → piece_name_by before.spec.pattern run.opened.run sub ≡ name → IsBrokenOffName b.slots name = λ sub few named. subst (λ (l : List (Option Channel)). IsBrokenOffName l name) (sym s.slots) (record {
          number = number;
          channel = s.after;
          run = run;
          fallen = fallen;
          there = put_there a.slots number before s.after there;
          of = at;
          sub = sub;
          few = few;
          is = pattern sub ∙ named;
        }) in
        inr (elim now.1 as (λ w. IsBrokenOffName b.slots name) [
          | inl here ↦ so run.opened.at.sub (omega (arith, made, files, reads.1)) (sym (ap (open_name before.spec) reads.0) ∙ here)
          | inr next ↦ so (run.opened.at.sub + 1) (omega (arith, made, files, reads.1)) (sym (ap (name_behind before.spec) reads.0) ∙ next)
        ])
  ];
  off = λ name off. subst (λ (l : List (Option Channel)). IsBrokenOffName l name) (sym s.slots) (off_set a.slots number before s.after name there s.step.spec (λ run fallen at. pull_still _ before.event.room run fallen s.step.pulls at) off);
}

off_same : (a b : LoggerMoment) → b ≡ a → OffNamed a b
off_same a b same = subst (λ (m : LoggerMoment). OffNamed a m) (sym same) (record { stays = λ name is. is; named = λ name is. inl is; off = λ name o. o })

off_by : PullsChange → (dump : List ℕ) (number : ℕ) (answer : Pulled) (slot : Option Channel) (a b : LoggerMoment) → slot_at a.slots number ≡ slot → HaveFilesOpen a.slots a.files.seen → PullsSlot dump slot number answer a b → OffNamed a b
off_by change dump number answer None a b there open_files pulls = off_same a b pulls.1
off_by change dump number answer (Some before) a b there open_files s = pulled_off change dump number answer before a b there open_files s

pub pull_off : PullsChange → (dump : List ℕ) (number : ℕ) (answer : Pulled) (a b : LoggerMoment) → HaveFilesOpen a.slots a.files.seen → PullsNumbered dump number answer a b → OffNamed a b
pull_off change dump number answer a b open_files pulls = off_by change dump number answer (slot_at a.slots number) a b refl open_files pulls

pub pull_fault : PullsChange → (dump : List ℕ) (number : ℕ) (answer : Pulled) (a b : LoggerMoment) (first : FilesTold) (turns : List MemberTurn) → HaveFilesOpen a.slots a.files.seen → specs_in b.slots ≡ specs_in a.slots → PullsNumbered dump number answer a b
    → IsFaultTold a.slots turns first a.files → IsFaultTold b.slots turns first b.files
pull_fault change dump number answer a b first turns open_files specs pulls told none undone name is =
    let moved : OffNamed a b = pull_off change dump number answer a b open_files pulls in
    elim (moved.named name is) as (λ w. IsBrokenName (specs_in b.slots) turns name ⊎ IsBrokenOffName b.slots name) [
      | inl was ↦ elim (told none undone name was) as (λ w. IsBrokenName (specs_in b.slots) turns name ⊎ IsBrokenOffName b.slots name) [
        | inl broken ↦ inl (subst (λ (l : List (Option ChannelSpec)). IsBrokenName l turns name) (sym specs) broken)
        | inr off ↦ inr (moved.off name off)
      ]
      | inr off ↦ inr off
    ]

-- A call to finish.

drained_is : (stage : ChannelStage) (run : BegunRun) → drained_run stage ≡ Some run → files_made stage ≡ run.opened.at.sub + 1
drained_is Idle run is = absurd (cc (is))
drained_is (Asking opened) run is = absurd (cc (is))
drained_is (Writing opened begun) run is = absurd (cc (is))
drained_is (Draining r) run is = absurd (cc (is))
drained_is (Drained r) run is = (let same : r ≡ run = cc (is) in ap (λ (r : BegunRun). r.opened.at.sub + 1) same)
drained_is (Broken r fallen) run is = absurd (cc (is))

drained_has : (stage : ChannelStage) (run : BegunRun) → drained_run stage ≡ Some run → channel_run stage ≡ Some run.opened
drained_has Idle run is = absurd (cc (is))
drained_has (Asking opened) run is = absurd (cc (is))
drained_has (Writing opened begun) run is = absurd (cc (is))
drained_has (Draining r) run is = absurd (cc (is))
drained_has (Drained r) run is = ap (λ (o : Option BegunRun). opened_in o) is
  where
    opened_in : Option BegunRun → Option ChannelRun
    opened_in None = None
    opened_in (Some r) = Some r.opened
drained_has (Broken r fallen) run is = absurd (cc (is))

-- of the file that was ended a fault was named, and it is told
record EndNamed (spec : ChannelSpec) (drained : Option BegunRun) (state : ChannelState) (name : List ℕ) : Type 0 where
  run : BegunRun
  of : drained ≡ Some run
  broken : state ≡ IsBroken
  is : piece_name_by spec.pattern run.opened.run run.opened.at.sub ≡ name

end_named : (spec : ChannelSpec) (drained : Option BegunRun) (state : ChannelState) (old new : Option (List ℕ)) (x : List ℕ) → EndNames spec drained state old new → new ≡ Some x → (old ≡ Some x) ⊎ EndNamed spec drained state x
end_named spec None state old new x same is = inl (sym same ∙ is)
end_named spec (Some run) IsIdle old new x same is = inl (sym same ∙ is)
end_named spec (Some run) IsWriting old new x same is = inl (sym same ∙ is)
end_named spec (Some run) Ended old new x same is = inl (sym same ∙ is)
end_named spec (Some run) NoEnd old new x same is = inl (sym same ∙ is)
end_named spec (Some run) NoMark old new x same is = inl (sym same ∙ is)
end_named spec (Some run) IsBroken None new x of is = inr (record { run = run; of = refl; broken = refl; is = (let both : Some (piece_name_by spec.pattern run.opened.run run.opened.at.sub) ≡ Some x = sym of ∙ is in cc (both)) })
end_named spec (Some run) IsBroken (Some before) new x of is = inl (sym of ∙ is)

-- the file that was named is that of a channel with a number below this, of which it was told
record NamedBelow (slots : List (Option Channel)) (told : List ChannelEnd) (k : ℕ) (name : List ℕ) : Type 0 where
  number : ℕ
  channel : Channel
  below : number < k
  there : slot_at slots number ≡ Some channel
  end : ChannelEnd
  at : slice_get told number ≡ Some end
  named : EndNamed channel.spec (drained_run channel.stage) end.state name

-- what is told of a channel
record IsToldOf (c : Channel) (end : ChannelEnd) : Type 0 where
  files : end.files ≡ files_made c.stage
  off : (run : BegunRun) → (fallen : Fallen) → c.stage ≡ Broken run fallen → end.state ≡ IsBroken

record Telling (slots : List (Option Channel)) (first : Option (List ℕ)) (k : ℕ) (m : EndingMoment) : Type 0 where
  wide : length m.told ≡ channel_limit
  still : (n : ℕ) → k ≤ n → slot_at m.slots n ≡ slot_at slots n
  told : (n : ℕ) → (c : Channel) → n < k → slot_at slots n ≡ Some c → (end : ChannelEnd) × (slice_get m.told n ≡ Some end) × IsToldOf c end
  named : (name : List ℕ) → m.files.first ≡ Some name → (first ≡ Some name) ⊎ NamedBelow slots m.told k name

off_told : (c : Channel) (end : ChannelEnd) (time : ℕ) (dump : Option (List ℕ)) (a b : Seen) (f g : ℕ) → ClosesFile (drained_run c.stage) c.stage end.state time dump a b f g → (run : BegunRun) (fallen : Fallen) → c.stage ≡ Broken run fallen → end.state ≡ IsBroken
off_told c end time dump a b f g closes run fallen is =
    let none : ClosesFile None c.stage end.state time dump a b f g = subst (λ (d : Option BegunRun). ClosesFile d c.stage end.state time dump a b f g) (ap drained_run is) closes in
    none.0 ∙ ap state_otherwise is

telling_one : (slots : List (Option Channel)) (first : Option (List ℕ)) (time : ℕ) (dump : Option (List ℕ)) (k : ℕ) (slot : Option Channel) (a b : EndingMoment) → length slots ≤ channel_limit → slot_at a.slots k ≡ slot → EndsSlot time dump k slot a b → Telling slots first k a → Telling slots first (suc k) b
telling_one slots first time dump k None a b few there same t = subst (λ (m : EndingMoment). Telling slots first (suc k) m) (sym same) (record {
  wide = t.wide;
  still = λ n from. t.still n (omega (arith, from));
  told = λ n c early at. elim (same_or_other n k) as (λ w. (end : ChannelEnd) × (slice_get a.told n ≡ Some end) × IsToldOf c end) [
    | inl is ↦ absurd (let none : slot_at slots k ≡ None = sym (t.still k (omega arith)) ∙ there in let some : slot_at slots k ≡ Some c = subst (λ (i : ℕ). slot_at slots i ≡ Some c) is at in cc (none, some))
    | inr other ↦ t.told n c (omega (arith, early, other)) at
  ];
  named = λ name is. elim (t.named name is) as (λ w. (first ≡ Some name) ⊎ NamedBelow slots a.told (suc k) name) [
    | inl was ↦ inl was
    | inr n ↦ inr (let below = n.below in record { number = n.number; channel = n.channel; below = omega (arith, below); there = n.there; end = n.end; at = n.at; named = n.named })
  ];
})
telling_one slots first time dump k (Some before) a b few there ends t =
    let end : ChannelEnd = ends.told in
    let its : IsToldOf before end = record {
      files = ap (λ (e : ChannelEnd). e.files) ends.ends.told_is;
      off = off_told before end time dump a.files.seen b.files.seen a.files.faults b.files.faults ends.ends.ends;
    } in
    let told : List ChannelEnd = slice_set a.told k end in
    let here : slot_at slots k ≡ Some before = sym (t.still k (omega arith)) ∙ there in
    let old_k = there_is a.told k (omega (arith, t.wide, few, slot_within slots k before here)) in
    let at_k : slice_get told k ≡ Some end = got_there a.told k old_k.0 end old_k.1 in
    let put : Telling slots first (suc k) (ending_of (slice_set a.slots k (Some ends.after)) b.files told) = record {
      wide = many_set a.told k end ∙ t.wide;
      still = λ n from. slot_set_other a.slots k n (Some ends.after) (λ same. omega (arith, from, same)) ∙ t.still n (omega (arith, from));
      told = λ n c early at. elim (same_or_other n k) as (λ w. (end : ChannelEnd) × (slice_get told n ≡ Some end) × IsToldOf c end) [
        | inl is ↦
            let at_here : slot_at slots k ≡ Some c = subst (λ (i : ℕ). slot_at slots i ≡ Some c) is at in
            let same : before ≡ c = cc (here, at_here) in
            (end, subst (λ (i : ℕ). slice_get told i ≡ Some end) (sym is) at_k, subst (λ (x : Channel). IsToldOf x end) same its)
        | inr other ↦
            let old = t.told n c (omega (arith, early, other)) at in
            (old.0, kept_there a.told k n end old.0 other old.1, old.2)
      ];
      named = λ name is. elim (end_named before.spec (drained_run before.stage) end.state a.files.first b.files.first name ends.ends.first is) as (λ w. (first ≡ Some name) ⊎ NamedBelow slots told (suc k) name) [
        | inl was ↦ elim (t.named name was) as (λ w. (first ≡ Some name) ⊎ NamedBelow slots told (suc k) name) [
          | inl old ↦ inl old
          | inr n ↦ inr (let below = n.below in record {
            number = n.number;
            channel = n.channel;
            below = omega (arith, below);
            there = n.there;
            end = n.end;
            at = kept_there a.told k n.number end n.end (λ same. omega (arith, below, same)) n.at;
            named = n.named;
          })
        ]
        | inr now ↦ inr (record { number = k; channel = before; below = omega arith; there = here; end = end; at = at_k; named = now })
      ];
    } in
    subst (λ (l : List (Option Channel)). Telling slots first (suc k) (ending_of l b.files b.told)) (sym ends.slots)
    (subst (λ (l : List ChannelEnd). Telling slots first (suc k) (ending_of (slice_set a.slots k (Some ends.after)) b.files l)) (sym ends.at) put)

telling : (slots : List (Option Channel)) (files : FilesTold) (time : ℕ) (dump : Option (List ℕ)) (k : ℕ) (b : EndingMoment) → length slots ≤ channel_limit → InTurn (λ n. EndsSlotAt time dump n) k (ending_of slots files ends_idle) b → Telling slots files.first k b
telling slots files time dump zero b few same = subst (λ (m : EndingMoment). Telling slots files.first 0 m) (sym same)
    (record { wide = refl; still = λ n from. refl; told = λ n c early at. absurd (omega (arith, early)); named = λ name is. inl is })
telling slots files time dump (suc k) b few turns = telling_one slots files.first time dump k (slot_at turns.0.slots k) turns.0 b few refl turns.2 (telling slots files time dump k turns.0 few turns.1)

-- Where the run of each channel is one that is stopped now.
module _ (f : LoggerFinish) (time : ℕ) (ends : EndsFiles f time) (few : length f.slots ≤ channel_limit) (later : List MemberTurn) (stopped : (n : ℕ) (c : Channel) (opened : ChannelRun) → slot_at f.slots n ≡ Some c → channel_run c.stage ≡ Some opened → IsStoppedRunOf later opened.run ends.told) where
  all : Telling f.slots f.files.first (length f.slots) (ending_of f.later_slots f.later_files ends.told)
  all = telling f.slots f.files time f.dumps.stop (length f.slots) _ few ends.ends

  broken : (name : List ℕ) (n : ℕ) (c : Channel) (opened : ChannelRun) (end : ChannelEnd) (sub : ℕ) → slot_at f.slots n ≡ Some c → channel_run c.stage ≡ Some opened → slice_get ends.told n ≡ Some end → end.state ≡ IsBroken → sub ≤ end.files → piece_name_by c.spec.pattern opened.run sub ≡ name
      → IsBrokenName (specs_in f.slots) later name
  broken name n c opened end sub there of at state below is_name =
      record { number = n; spec = c.spec; there = spec_at f.slots n c there; run = opened.run; ends = ends.told; stopped = stopped n c opened there of; told = end; at = at; broken = state; sub = sub; few = below; is = is_name }

  -- a channel that broke off is told to be broken
  pub finish_off : (name : List ℕ) → IsBrokenOffName f.slots name → IsBrokenName (specs_in f.slots) later name
  finish_off name off =
      let its = all.told off.number off.channel (slot_within f.slots off.number off.channel off.there) off.there in
      let files : its.0.files ≡ off.fallen.files = its.2.files ∙ ap files_made off.of in
      broken name off.number off.channel off.run.opened its.0 off.sub off.there (ap channel_run off.of) its.1 (its.2.off off.run off.fallen off.of) (subst (λ (n : ℕ). off.sub ≤ n) (sym files) off.few) off.is

  -- and so is one whose file has the first fault now
  pub finish_named : (name : List ℕ) → f.later_files.first ≡ Some name → (f.files.first ≡ Some name) ⊎ IsBrokenName (specs_in f.slots) later name
  finish_named name is = elim (all.named name is) as (λ w. (f.files.first ≡ Some name) ⊎ IsBrokenName (specs_in f.slots) later name) [
    | inl was ↦ inl was
    | inr n ↦
        let its = all.told n.number n.channel n.below n.there in
        let same : its.0 ≡ n.end = (let mine = its.1 in let at = n.at in cc (mine, at)) in
        let run : BegunRun = n.named.run in
        let files : n.end.files ≡ run.opened.at.sub + 1 = sym (ap (λ (e : ChannelEnd). e.files) same) ∙ (its.2.files ∙ drained_is n.channel.stage run n.named.of) in
        inr (broken name n.number n.channel run.opened n.end run.opened.at.sub n.there (drained_has n.channel.stage run n.named.of) n.at n.named.broken (omega (arith, files)) n.named.is)
  ]

-- what a call to finish leaves of it, where the run of each channel is one that is stopped now
pub finish_fault : (f : LoggerFinish) (time : ℕ) (ends : EndsFiles f time) → length f.slots ≤ channel_limit → (first : FilesTold) (turns later : List MemberTurn) → starts_undone later ≡ starts_undone turns
    → ((run : ℕ) (told : List ChannelEnd) → IsStoppedRunOf turns run told → IsStoppedRunOf later run told) → ((n : ℕ) (c : Channel) (opened : ChannelRun) → slot_at f.slots n ≡ Some c → channel_run c.stage ≡ Some opened → IsStoppedRunOf later opened.run ends.told)
    → specs_in f.later_slots ≡ specs_in f.slots → IsFaultTold f.slots turns first f.files → IsFaultTold f.later_slots later first f.later_files
finish_fault f time ends few first turns later undone_same more stopped specs told none undone name is =
    inl (subst (λ (l : List (Option ChannelSpec)). IsBrokenName l later name) (sym specs) (elim (finish_named f time ends few later stopped name is) as (λ w. IsBrokenName (specs_in f.slots) later name) [
      | inl was ↦ elim (told none (sym undone_same ∙ undone) name was) as (λ w. IsBrokenName (specs_in f.slots) later name) [
        | inl old ↦ broken_more (specs_in f.slots) turns later name more old
        | inr off ↦ finish_off f time ends few later stopped name off
      ]
      | inr now ↦ now
    ]))

end_stays : (spec : ChannelSpec) (drained : Option BegunRun) (state : ChannelState) (old new : Option (List ℕ)) (x : List ℕ) → EndNames spec drained state old new → old ≡ Some x → new ≡ Some x
end_stays spec None state old new x same is = same ∙ is
end_stays spec (Some run) IsIdle old new x same is = same ∙ is
end_stays spec (Some run) IsWriting old new x same is = same ∙ is
end_stays spec (Some run) Ended old new x same is = same ∙ is
end_stays spec (Some run) NoEnd old new x same is = same ∙ is
end_stays spec (Some run) NoMark old new x same is = same ∙ is
end_stays spec (Some run) IsBroken old new x of is = of ∙ first_stays old (piece_name_by spec.pattern run.opened.run run.opened.at.sub) x is

ends_stay : (time : ℕ) (dump : Option (List ℕ)) (n : ℕ) (slot : Option Channel) (a b : EndingMoment) (x : List ℕ) → EndsSlot time dump n slot a b → a.files.first ≡ Some x → b.files.first ≡ Some x
ends_stay time dump n None a b x same is = ap (λ (m : EndingMoment). m.files.first) same ∙ is
ends_stay time dump n (Some before) a b x ends is = end_stays before.spec (drained_run before.stage) ends.told.state a.files.first b.files.first x ends.ends.first is

-- the first fault stays where files are ended
pub finish_stays : (f : LoggerFinish) (time : ℕ) → EndsFiles f time → (name : List ℕ) → f.files.first ≡ Some name → f.later_files.first ≡ Some name
finish_stays f time ends name is =
    turns_keep (λ n. EndsSlotAt time f.dumps.stop n) (λ (m : EndingMoment). m.files.first ≡ Some name) (length f.slots) (ending_of f.slots f.files ends_idle) (ending_of f.later_slots f.later_files ends.told)
    (λ k a b step kept. ends_stay time f.dumps.stop k (slot_at a.slots k) a b name step kept) ends.ends is
