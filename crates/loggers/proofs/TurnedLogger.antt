-- What a logger keeps behind a turn.
use Rattle.std.specs.Prelude.{◌≡◌, ◌≢◌, ◌≤◌, ◌++◌, ℕ, Bool, true, false, List, [], ◌∷◌, length, unwrap_or, slice_get, Option, Some, None, Result, Ok, Err, ⊤, refl}
use Rattle.std.proofs.Common.{ap, sym, subst, ◌∙◌, arith, inl, inr}
use Rattle.std.proofs.lemmas.Bool.{eqb-true}
use Rattle.std.proofs.lemmas.Option.{slice_get_within}
use Rattle.daq_io.specs.Seen.{Seen}
use Rattle.daq_types.specs.declared.runs.Order.{Order}
use Rattle.daq_types.specs.declared.runs.Transition.{Transition}
use Rattle.daq_types.specs.declared.runs.Transition.TheVariants.{Start, Stop, Pause, Resume, StartAbort}
use Rattle.daq_types.specs.declared.runs.Why.{Why}
use Rattle.daq_types.specs.declared.runs.Why.TheVariants.{NotReady, Exists, Fault, BufferRefused}
use Rattle.event.specs.Events.{record_limit}
use Rattle.buffer_core.specs.declared.entry.BufferEntry.{BufferEntry}
use Rattle.buffer_core.specs.declared.entry.BufferEntry.TheVariants.{Begin, End}
use Rattle.buffer_core.specs.Ports.{Access}
use Rattle.buffer_core.specs.Slots.{slot_at}
use Rattle.buffer_core.proofs.SlotLaws.{slot_within}
use Rattle.member_model.specs.RunEngines.{Answer}
use Rattle.transitions.specs.declared.answers.Answer.TheVariants.{Yes, No}
use Rattle.transitions.specs.declared.answers.Tally.TheVariants.{Plain}
use Rattle.member_model.specs.Turns.{MemberTurn, HasTurnOf, NoneOpen, IsOfRun, AreEngineTurns}
use Rattle.member_model.specs.SentCalls.{EachCall}
use Rattle.member_model.specs.CutRuns.{MarksEnd}
use Rattle.mid_logger.specs.declared.channel.Channel.{Channel}
use Rattle.mid_logger.specs.declared.channel_spec.ChannelSpec.{ChannelSpec}
use Rattle.mid_logger.specs.ChannelTurns.{ChannelAt, RefusesRun}
use Rattle.mid_logger.specs.declared.stage.ChannelRun.{ChannelRun}
use Rattle.mid_logger.specs.declared.stage.ChannelStage.{ChannelStage}
use Rattle.mid_logger.specs.declared.stage.ChannelStage.TheVariants.{Idle, Asking, Writing, Draining, Drained, Broken}
use Rattle.mid_logger.specs.Channels.{FileHead, KnowsTaken, channel_run}
use Rattle.mid_logger.specs.Beside.{CallsBeside, FilesBeside, OpensBeside, AbortsBeside, LeftBeside}
use Rattle.mid_logger.specs.Keeping.{OpensKeep, OpensAlone, OpensChange, FilesThere, AbortsKeep, AbortsChange, BegunKeeps, EndedKeeps, order_head}
use Rattle.loggers.specs.declared.logged_run.LoggedRun.{LoggedRun}
use Rattle.loggers.specs.declared.logged_run.RunDumps.{RunDumps}
use Rattle.loggers.specs.declared.logged_run.RunPart.{RunPart}
use Rattle.loggers.specs.declared.logged_run.RunPart.TheVariants.{Refused, Started, Stopping}
use Rattle.loggers.specs.Moments.{LoggerMoment, InTurn, StepsAt, IsLoggerReady, AreIdleChannels}
use Rattle.loggers.specs.ChannelSteps.{AbortsChannel}
use Rattle.loggers.specs.Turning.{LoggerTurn, LeavesLogger, BeginsBuffer, PausesBuffer, ResumesBuffer, AbortsAll, StartsAll, UndoesOpens, UndoesBegins, StartsSo, TakesStart, TakesStop, TakesMark, TakesAbort, TakesTurnBy, TakesTurn, is_run_on, IsIdleOutside, is_started, is_of_start, buffers_begun, start_answer, start_part, start_dumps, no_dumps, EndsBuffer}
use Rattle.loggers.specs.NewLoggers.{GiveEachOnce}
use Rattle.loggers.specs.FairAsks.{HasStart}
use Rattle.loggers.specs.LoggerStands.{logger_turn, IsStartedStage, IsStoppingStage, IsStagePart, IsStageOf, HasEndTurn, IsEndTold, HasHead, IsHeadTold, SlotsStand, IsInStarted, IsPartTold, IsRunTold, LoggerHolds}
use Rattle.loggers.proofs.InTurns.{turns_keep}
use Rattle.loggers.proofs.StoppedRuns.{there_is}
use Rattle.loggers.proofs.ReadySteps.{aborted_ready, begins_ready, refuses_ready, ends_ready}
use Rattle.loggers.proofs.AbortMoves.{abort_stands}
use Rattle.loggers.proofs.OpenMoves.{IsOrderHead}
use Rattle.loggers.proofs.TurnsKnown.{TurnsKnown, no_end_turn, of_current, started_run, left_refused, start_refused, start_accepted, start_known, stop_known, left_stop, left_pause, left_resume, left_abort, off_known}
use Rattle.loggers.proofs.TurnMore.{TellsNone, heads_as, heads_idle, told_more}
use Rattle.loggers.proofs.MarkMoves.{MayEnd, NoneTold}
use Rattle.loggers.proofs.MarkLoops.{HaveStayed, paused_all, resumed_all, BegunTo, begun_below, begin_refused, EndedTo, ended_below}
use Rattle.loggers.proofs.GivenOnce.{once_called, once_aborted, once_turns}
use Rattle.loggers.proofs.OpenSlots.{OpenedTo, FoundNone, StandsRefused, opened_below, open_refused}

-- what is known of each channel's steps
pub record ChannelLaws : Type 0 where
  pub left : LeftBeside
  pub calls : CallsBeside
  pub files : FilesBeside
  pub opens_beside : OpensBeside
  pub aborts_beside : AbortsBeside
  pub opens_keep : OpensKeep
  pub opens_alone : OpensAlone
  pub opens_change : OpensChange
  pub file_there : FilesThere
  pub aborts_keep : AbortsKeep
  pub aborts_change : AbortsChange
  pub begun : BegunKeeps
  pub ended : EndedKeeps

-- The parts of what a logger keeps.

known_of : (run : Option LoggedRun) (dumps : RunDumps) (m : LoggerMoment) (turns : List MemberTurn) → LoggerHolds run dumps m.slots m.ports turns m.files.seen → TurnsKnown run dumps turns
known_of run dumps m turns stands = record { starts = stands.starts; stops = stands.stops; told = stands.told; current = stands.current; not_off = stands.not_off; going = stands.going; unready = stands.unready }

all_of : (run : Option LoggedRun) (dumps : RunDumps) (m : LoggerMoment) (turns : List MemberTurn) → TurnsKnown run dumps turns → IsLoggerReady m.slots m.ports m.files.seen → SlotsStand (IsHeadTold turns dumps) turns m.slots m.ports m.files.seen
    → ((n : ℕ) (c : Channel) → slot_at m.slots n ≡ Some c → KnowsTaken m.files.seen c.spec c.stage) → ((n : ℕ) (c : Channel) (a : Access) → slot_at m.slots n ≡ Some c → slice_get m.ports c.spec.buffer ≡ Some a → IsStageOf run turns a.own c.stage) → LoggerHolds run dumps m.slots m.ports turns m.files.seen
all_of run dumps m turns known ready standing knows stages = record {
  standing = standing;
  taken = knows;
  served = ready.served;
  stages = stages;
  starts = known.starts;
  stops = known.stops;
  told = known.told;
  current = known.current;
  not_off = known.not_off;
  going = known.going;
  unready = known.unready;
}

-- no channel found a name taken, or none has a run
found_knows : (slots : List (Option Channel)) (seen : Seen) → FoundNone slots → (n : ℕ) (c : Channel) → slot_at slots n ≡ Some c → KnowsTaken seen c.spec c.stage
found_knows slots seen found n c stood o is taken told = absurd (found n c o stood is taken)

idle_found : (slots : List (Option Channel)) → AreIdleChannels slots → FoundNone slots
idle_found slots idle n c o stood is taken = let never : None ≡ Some o = sym (ap (λ (s : ChannelStage). channel_run s) (idle n c stood)) ∙ is in cc (never)

-- the port of a channel's buffer
port_of : (m : LoggerMoment) (n : ℕ) (c : Channel) → IsLoggerReady m.slots m.ports m.files.seen → slot_at m.slots n ≡ Some c → (a : Access) × (slice_get m.ports c.spec.buffer ≡ Some a)
port_of m n c ready stood = there_is m.ports c.spec.buffer (ready.served n c stood)

-- A turn that leaves the logger.

stopping_more : (t : MemberTurn) (turns : List MemberTurn) (own : List BufferEntry) (start : ℕ) (stage : ChannelStage) → IsStoppingStage turns own start stage → IsStoppingStage (t ∷ turns) own start stage
stopping_more t turns own start Idle is = absurd is
stopping_more t turns own start (Asking opened) is = absurd is
stopping_more t turns own start (Writing opened begun) is = absurd is
stopping_more t turns own start (Draining run) is = record { of = is.of; so = λ are. is.so are.1 }
stopping_more t turns own start (Drained run) is = record { of = is.of; so = λ are. is.so are.1 }
stopping_more t turns own start (Broken run fallen) is = record { of = is.of; so = λ are. is.so are.1 }

part_more : (t : MemberTurn) (turns : List MemberTurn) (own : List BufferEntry) (part : RunPart) (start : ℕ) (stage : ChannelStage) → IsStagePart part turns own start stage → IsStagePart part (t ∷ turns) own start stage
part_more t turns own Refused start stage is = is
part_more t turns own Started start stage is = is
part_more t turns own (Stopping time) start stage is = stopping_more t turns own start stage is

stage_more : (run : Option LoggedRun) (t : MemberTurn) (turns : List MemberTurn) (own : List BufferEntry) (stage : ChannelStage) → IsStageOf run turns own stage → IsStageOf run (t ∷ turns) own stage
stage_more None t turns own stage is = is
stage_more (Some r) t turns own stage is = part_more t turns own r.part r.start stage is

-- where nothing is done at a turn that tells none
left_as : (run : Option LoggedRun) (dumps : RunDumps) (m : LoggerMoment) (t : MemberTurn) (turns : List MemberTurn) → TellsNone t → TurnsKnown run dumps (t ∷ turns) → IsLoggerReady m.slots m.ports m.files.seen → LoggerHolds run dumps m.slots m.ports turns m.files.seen
    → LoggerHolds run dumps m.slots m.ports (t ∷ turns) m.files.seen
left_as run dumps m t turns quiet known ready stands =
    all_of run dumps m (t ∷ turns) known ready (told_more t turns dumps dumps m.slots m.ports m.files.seen quiet refl stands.standing) stands.taken (λ n c a stood at. stage_more run t turns a.own c.stage (stands.stages n c a stood at))

left_turn : (t : LoggerTurn) (turns : List MemberTurn) (answer : Answer) → LeavesLogger t answer → TellsNone (logger_turn t.transition t.order t.dump (Some answer)) → TurnsKnown t.run t.dumps (logger_turn t.transition t.order t.dump (Some answer) ∷ turns)
    → IsLoggerReady t.before.slots t.before.ports t.before.files.seen → LoggerHolds t.run t.dumps t.before.slots t.before.ports turns t.before.files.seen
    → LoggerHolds t.later_run t.later_dumps t.after.slots t.after.ports (logger_turn t.transition t.order t.dump t.answer ∷ turns) t.after.files.seen
left_turn t turns answer leaves quiet known ready stands =
    rw (leaves.answer_is, leaves.run, leaves.dumps, leaves.moment) (left_as t.run t.dumps t.before (logger_turn t.transition t.order t.dump (Some answer)) turns quiet known ready stands)

-- Calling off.

aborted_all : ChannelLaws → (H : ChannelRun → FileHead → Type 0) (turns : List MemberTurn) (count : ℕ) (a b : LoggerMoment) → InTurn (λ number. StepsAt AbortsChannel number) count a b → StandsRefused H turns a → SlotsStand H turns b.slots b.ports b.files.seen
aborted_all laws H turns count a b steps stands =
    let done : StandsRefused H turns b = turns_keep (λ number. StepsAt AbortsChannel number) (λ (m : LoggerMoment). StandsRefused H turns m) count a b
    (λ k x y step kept. record {
      standing = abort_stands laws.left laws.aborts_keep laws.aborts_change laws.aborts_beside laws.files H turns k (slot_at x.slots k) x y refl kept.ready.files step kept.standing;
      ready = aborted_ready laws.aborts_change k (slot_at x.slots k) x y refl step kept.ready;
    }) steps stands in
    done.standing

pub once_aborts : (a b : LoggerMoment) → AbortsAll a b → GiveEachOnce b.ports → GiveEachOnce a.ports
once_aborts a b aborts once = once_turns (λ number. StepsAt AbortsChannel number) (length a.slots) a b (λ k x y step. once_aborted k (slot_at x.slots k) x y step) aborts once

-- A start.

opening : (t : MemberTurn) (order : Order) (dump : List ℕ) (turns : List MemberTurn) (a : LoggerMoment) → TellsNone t → AreIdleChannels a.slots → IsLoggerReady a.slots a.ports a.files.seen → (dumps : RunDumps) → SlotsStand (IsHeadTold turns dumps) turns a.slots a.ports a.files.seen
    → OpenedTo order dump (t ∷ turns) (length a.slots) (length a.ports) 0 a
opening t order dump turns a quiet idle ready dumps standing = record {
  standing = heads_idle (IsHeadTold (t ∷ turns) dumps) (IsOrderHead order dump) (t ∷ turns) a.slots a.ports a.files.seen idle (told_more t turns dumps dumps a.slots a.ports a.files.seen quiet refl standing);
  ready = ready;
  long = refl;
  ports = refl;
  done = λ n c stood below. absurd (omega arith);
  idle = λ n c stood above. idle n c stood;
  found = idle_found a.slots idle;
}

-- each channel asks, and no buffer is in the run yet
all_asking : (order : Order) (dump : List ℕ) (turns : List MemberTurn) (many wide : ℕ) (m : LoggerMoment) → OpenedTo order dump turns many wide many m → BegunTo (IsOrderHead order dump) turns order.start wide 0 m
all_asking order dump turns many wide m to = record {
  standing = to.standing;
  ports = to.ports;
  done = λ n c stood below. absurd (omega arith);
  asking = λ n c stood above. to.done n c stood (omega (arith, slot_within m.slots n c stood, to.long));
  found = to.found;
}

record HaveStarted (order : Order) (dump : List ℕ) (turns : List MemberTurn) (m : LoggerMoment) : Type 0 where
  standing : SlotsStand (IsOrderHead order dump) turns m.slots m.ports m.files.seen
  stages : (n : ℕ) → (c : Channel) → slot_at m.slots n ≡ Some c → IsStartedStage order.start c.stage
  found : FoundNone m.slots

started_all : ChannelLaws → (order : Order) (dump : List ℕ) (begun : ℕ) (turns : List MemberTurn) (a b : LoggerMoment) → length dump ≤ record_limit → GiveEachOnce b.ports → IsLoggerReady b.slots b.ports b.files.seen → StartsAll order dump begun a b
    → OpenedTo order dump turns (length a.slots) (length a.ports) 0 a → HaveStarted order dump turns b
started_all laws order dump begun turns a b small once ready starts to =
    let opened : LoggerMoment = starts.opened in
    let once_opened : GiveEachOnce opened.ports = once_turns (λ buffer. BeginsBuffer order.start buffer) (length a.ports) opened b
    (λ k x y step. once_called (Begin order.start (Ok step.0)) k x (record y { slots = x.slots }) step.1.marks) starts.begins once in
    let all : OpenedTo order dump turns (length a.slots) (length a.ports) (length a.slots) opened =
    opened_below laws.left laws.opens_keep laws.opens_alone laws.opens_change laws.file_there laws.opens_beside laws.files order dump turns (length a.slots) (length a.ports) (length a.slots) a opened small once_opened starts.opens to in
    let end : BegunTo (IsOrderHead order dump) turns order.start (length a.ports) (length a.ports) b =
    begun_below laws.left laws.begun (IsOrderHead order dump) turns order.start (length a.ports) (length a.ports) opened b starts.begins (all_asking order dump turns (length a.slots) (length a.ports) opened all) in
    record { standing = end.standing; stages = λ n c stood. end.done n c stood (omega (arith, ready.served n c stood, end.ports)); found = end.found }

undone_opens : ChannelLaws → (order : Order) (dump : List ℕ) (why : Why) (begun : ℕ) (turns : List MemberTurn) (a b : LoggerMoment) → length dump ≤ record_limit → GiveEachOnce b.ports → UndoesOpens order dump why begun a b
    → OpenedTo order dump turns (length a.slots) (length a.ports) 0 a → SlotsStand (IsOrderHead order dump) turns b.slots b.ports b.files.seen
undone_opens laws order dump why begun turns a b small once undoes to =
    aborted_all laws (IsOrderHead order dump) turns (length undoes.refused.slots) undoes.refused b undoes.aborts
    (open_refused laws.left laws.opens_keep laws.opens_alone laws.opens_change laws.file_there laws.opens_beside laws.files order dump why turns (length a.slots) (length a.ports) a undoes.refused small (once_aborts undoes.refused b undoes.aborts once) undoes.opens to)

undone_begins : ChannelLaws → (order : Order) (dump : List ℕ) (why : Why) (begun : ℕ) (turns : List MemberTurn) (a b : LoggerMoment) → length dump ≤ record_limit → GiveEachOnce b.ports → UndoesBegins order dump why begun a b
    → OpenedTo order dump turns (length a.slots) (length a.ports) 0 a → SlotsStand (IsOrderHead order dump) turns b.slots b.ports b.files.seen
undone_begins laws order dump why begun turns a b small once undoes to =
    let opened : LoggerMoment = undoes.opened in
    let refused : LoggerMoment = undoes.refused in
    let once_refused : GiveEachOnce refused.ports = once_aborts refused b undoes.aborts once in
    let once_begun : GiveEachOnce undoes.begins.begun.ports = once_called (Begin order.start (Err undoes.begins.refuses.0)) begun undoes.begins.begun refused undoes.begins.refuses.1 once_refused in
    let once_opened : GiveEachOnce opened.ports = once_turns (λ buffer. BeginsBuffer order.start buffer) begun opened undoes.begins.begun
    (λ k x y step. once_called (Begin order.start (Ok step.0)) k x (record y { slots = x.slots }) step.1.marks) undoes.begins.begins once_begun in
    let all : OpenedTo order dump turns (length a.slots) (length a.ports) (length a.slots) opened =
    opened_below laws.left laws.opens_keep laws.opens_alone laws.opens_change laws.file_there laws.opens_beside laws.files order dump turns (length a.slots) (length a.ports) (length a.slots) a opened small once_opened undoes.opens to in
    let ready_begun : IsLoggerReady undoes.begins.begun.slots undoes.begins.begun.ports undoes.begins.begun.files.seen =
    turns_keep (λ buffer. BeginsBuffer order.start buffer) (λ (m : LoggerMoment). IsLoggerReady m.slots m.ports m.files.seen) begun opened undoes.begins.begun (λ k x y step kept. begins_ready order.start k x y step kept) undoes.begins.begins all.ready in
    aborted_all laws (IsOrderHead order dump) turns (length refused.slots) refused b undoes.aborts
    (record {
      standing = begin_refused laws.left laws.calls laws.begun (IsOrderHead order dump) turns order.start (length a.ports) begun opened refused undoes.begins (all_asking order dump turns (length a.slots) (length a.ports) opened all);
      ready = refuses_ready order.start begun undoes.begins.begun refused undoes.begins.refuses ready_begun;
    })

-- the heads of the files of a start that was accepted
order_told : (order : Order) (dump : Option (List ℕ)) (turns : List MemberTurn) (opened : ChannelRun) (head : FileHead) → IsOrderHead order (unwrap_or dump []) opened head
    → IsHeadTold (logger_turn Start order dump (Some (Yes Plain)) ∷ turns) (record { start = dump; stop = None }) opened head
order_told order dump turns opened head is =
    let t : MemberTurn = logger_turn Start order dump (Some (Yes Plain)) in
    let at_start : HasHead (t ∷ turns) order.start (order_head order (unwrap_or dump [])) = record { turn = t; is_start = start_accepted turns order dump; run = refl; time = refl; dump = refl } in
    record {
      has = subst (λ (n : ℕ). HasHead (t ∷ turns) n head) (sym is.0) (subst (λ (h : FileHead). HasHead (t ∷ turns) order.start h) (sym is.1) at_start);
      kept = ap (λ (h : FileHead). h.dump) is.1;
    }

-- what is given of a turn
record TurnGiven (t : LoggerTurn) (turns : List MemberTurn) : Type 0 where
  open_before : NoneOpen turns
  once : GiveEachOnce t.after.ports
  ready : IsLoggerReady t.before.slots t.before.ports t.before.files.seen
  later_ready : IsLoggerReady t.after.slots t.after.ports t.after.files.seen
  idle : IsIdleOutside t.run t.before.slots
  later_idle : IsIdleOutside t.later_run t.after.slots
  stands : LoggerHolds t.run t.dumps t.before.slots t.before.ports turns t.before.files.seen

-- what stands behind a turn
abbrev TurnStands : LoggerTurn → List MemberTurn → Type 0
TurnStands t turns = LoggerHolds t.later_run t.later_dumps t.after.slots t.after.ports (logger_turn t.transition t.order t.dump t.answer ∷ turns) t.after.files.seen

-- a channel does not refuse a run as not ready
not_unready : (why : Why) (spec : ChannelSpec) (name : List ℕ) (a b : ChannelAt) → RefusesRun why spec name a b → why ≢ NotReady
not_unready NotReady spec name a b refuses is = refuses
not_unready (Exists channel) spec name a b refuses is = cc (is)
not_unready (Fault channel) spec name a b refuses is = cc (is)
not_unready BufferRefused spec name a b refuses is = cc (is)

start_result : ChannelLaws → (t : LoggerTurn) (turns : List MemberTurn) (r : Result ⊤ Why) (begun : ℕ) → length (unwrap_or t.dump []) ≤ record_limit → TurnGiven t turns → AreIdleChannels t.before.slots → StartsSo r t.order (unwrap_or t.dump []) begun t.before t.after
    → t.later_run ≡ Some (record { start = t.order.start; begun = begun; part = start_part r })
    → LoggerHolds (Some (record { start = t.order.start; begun = begun; part = start_part r })) (start_dumps t.dump r) t.after.slots t.after.ports (logger_turn Start t.order t.dump (Some (start_answer r)) ∷ turns) t.after.files.seen
start_result laws t turns (Ok done) begun small given idle starts run =
    let turn : MemberTurn = logger_turn Start t.order t.dump (Some (Yes Plain)) in
    let dump : List ℕ = unwrap_or t.dump [] in
    let have : HaveStarted t.order dump (turn ∷ turns) t.after =
    started_all laws t.order dump begun (turn ∷ turns) t.before t.after small given.once given.later_ready starts (opening turn t.order dump turns t.before (λ ends told. absurd (cc (told))) idle given.ready t.dumps given.stands.standing) in
    all_of (Some (record { start = t.order.start; begun = begun; part = Started })) (record { start = t.dump; stop = None }) t.after (turn ∷ turns) (start_known t.run t.dumps begun turns t.order t.dump (known_of t.run t.dumps t.before turns given.stands)) given.later_ready
    (heads_as (IsOrderHead t.order dump) (IsHeadTold (turn ∷ turns) (record { start = t.dump; stop = None })) (turn ∷ turns) t.after.slots t.after.ports t.after.files.seen (λ n c stood opened head is has. order_told t.order t.dump turns opened head has) have.standing)
    (found_knows t.after.slots t.after.files.seen have.found)
    (λ n c a stood at. have.stages n c stood)
start_result laws t turns (Err why) begun small given idle starts run =
    let turn : MemberTurn = logger_turn Start t.order t.dump (Some (No why)) in
    let dump : List ℕ = unwrap_or t.dump [] in
    let first : OpenedTo t.order dump (turn ∷ turns) (length t.before.slots) (length t.before.ports) 0 t.before = opening turn t.order dump turns t.before (λ ends told. absurd (cc (told))) idle given.ready t.dumps given.stands.standing in
    let idle_now : AreIdleChannels t.after.slots = given.later_idle (ap (λ (r : Option LoggedRun). is_run_on r) run) in
    let ready : why ≢ NotReady = elim starts as (λ w. why ≢ NotReady) [
      | inl opens ↦ not_unready why _ _ _ _ opens.opens.refuses.step.opens.1
      | inr begins ↦ λ is. (let never : BufferRefused ≡ NotReady = sym begins.why_is ∙ is in cc (never))
    ] in
    let standing : SlotsStand (IsOrderHead t.order dump) (turn ∷ turns) t.after.slots t.after.ports t.after.files.seen = elim starts as (λ w. SlotsStand (IsOrderHead t.order dump) (turn ∷ turns) t.after.slots t.after.ports t.after.files.seen) [
      | inl opens ↦ undone_opens laws t.order dump why begun (turn ∷ turns) t.before t.after small given.once opens first
      | inr begins ↦ undone_begins laws t.order dump why begun (turn ∷ turns) t.before t.after small given.once begins first
    ] in
    all_of (Some (record { start = t.order.start; begun = begun; part = Refused })) no_dumps t.after (turn ∷ turns) (start_refused t.run t.dumps begun turns t.order t.dump why ready (known_of t.run t.dumps t.before turns given.stands)) given.later_ready
    (heads_idle (IsOrderHead t.order dump) (IsHeadTold (turn ∷ turns) no_dumps) (turn ∷ turns) t.after.slots t.after.ports t.after.files.seen idle_now standing)
    (found_knows t.after.slots t.after.files.seen (idle_found t.after.slots idle_now))
    (λ n c a stood at. idle_now n c stood)

start_stands : ChannelLaws → (t : LoggerTurn) (turns : List MemberTurn) (on : Bool) → t.transition ≡ Start → is_run_on t.run ≡ on → length (unwrap_or t.dump []) ≤ record_limit → TurnGiven t turns → TakesStart on t → TurnStands t turns
start_stands laws t turns true is on small given takes =
    left_turn t turns (No NotReady) takes (λ ends told. absurd (cc (told)))
    (rw is (left_refused t.run t.dumps turns t.order t.dump NotReady given.open_before on (known_of t.run t.dumps t.before turns given.stands))) given.ready given.stands
start_stands laws t turns false is on small given takes =
    rw (is, takes.answer_is, takes.run, takes.dumps) (start_result laws t turns takes.result takes.begun small given (given.idle on) takes.starts takes.run)

-- The end of a run.

each_at : (P : BufferEntry → Type 0) (before after : List BufferEntry) (e : BufferEntry) → EachCall P (before ++ e ∷ after) → P e
each_at P [] after e each = each.0
each_at P (x ∷ xs) after e each = each_at P xs after e each.1

end_told : (turns : List MemberTurn) (own : List BufferEntry) (start place : ℕ) → EachCall (IsEndTold turns) own → MarksEnd own start place → HasEndTurn turns start
end_told turns own start place told marks = each_at (IsEndTold turns) marks.before marks.after (End start (Ok place)) (subst (λ (l : List BufferEntry). EachCall (IsEndTold turns) l) marks.is told)

none_ended : (turns : List MemberTurn) (start : ℕ) → HasStart turns start → IsOfRun start turns → AreEngineTurns turns → HasEndTurn turns start → ⊥
none_ended turns start begin of_run are has = no_end_turn turns start are (of_current turns start begin of_run) has

-- behind a turn that ends the run, before the first end is called
ending : (Spare : Type 0) (t : MemberTurn) (turns : List MemberTurn) (start : ℕ) (a : LoggerMoment) → TellsNone t → (AreEngineTurns (t ∷ turns) → IsOfRun start turns) → HasStart turns start → (dumps later : RunDumps) → later.start ≡ dumps.start → SlotsStand (IsHeadTold turns dumps) turns a.slots a.ports a.files.seen
    → ((n : ℕ) (c : Channel) → slot_at a.slots n ≡ Some c → KnowsTaken a.files.seen c.spec c.stage) → ((n : ℕ) (c : Channel) → slot_at a.slots n ≡ Some c → MayEnd Spare start c.stage) → EndedTo Spare (IsHeadTold (t ∷ turns) later) (t ∷ turns) start (length a.ports) 0 a
ending Spare t turns start a quiet of_run begin dumps later same standing knows may = record {
  standing = told_more t turns dumps later a.slots a.ports a.files.seen quiet same standing;
  ports = refl;
  done = λ n c x stood at below. absurd (omega arith);
  may = λ n c stood above. may n c stood;
  never = λ are buffer x above at place marks. none_ended turns start begin (of_run are) are.1 (end_told turns x.own start place (standing.calls buffer x at).told marks);
  knows = knows;
}

none_told : (t : MemberTurn) (turns : List MemberTurn) (start : ℕ) → TellsNone t → (AreEngineTurns (t ∷ turns) → IsOfRun start turns) → HasStart turns start → NoneTold (t ∷ turns) start
none_told t turns start quiet of_run begin are stop ends tells same = elim tells.stands as (λ w. ⊥) [
  | inl now ↦ quiet ends (ap (λ (u : MemberTurn). u.answer) now ∙ tells.answered)
  | inr old ↦ none_ended turns start begin (of_run are) are.1 (record { turn = stop; stands = old; ends = inl tells.is; of = same })
]

started_stage : (run : Option LoggedRun) (r : LoggedRun) (start : ℕ) (turns : List MemberTurn) (own : List BufferEntry) (stage : ChannelStage) → run ≡ Some r → IsInStarted (Some r) start → IsStageOf run turns own stage → IsStartedStage start stage
started_stage run r start turns own stage is on at =
    let of_run : IsStageOf (Some r) turns own stage = subst (λ (x : Option LoggedRun). IsStageOf x turns own stage) is at in
    let of_part : IsStagePart Started turns own r.start stage = subst (λ (p : RunPart). IsStagePart p turns own r.start stage) on.1 of_run in
    subst (λ (n : ℕ). IsStartedStage n stage) on.0 of_part

stage_started : (run : Option LoggedRun) (r : LoggedRun) (start : ℕ) (turns : List MemberTurn) (own : List BufferEntry) (stage : ChannelStage) → run ≡ Some r → IsInStarted (Some r) start → IsStartedStage start stage → IsStageOf run turns own stage
stage_started run r start turns own stage is on at =
    let of_part : IsStagePart r.part turns own r.start stage = subst (λ (p : RunPart). IsStagePart p turns own r.start stage) (sym on.1) (subst (λ (n : ℕ). IsStartedStage n stage) (sym on.0) at) in
    subst (λ (x : Option LoggedRun). IsStageOf x turns own stage) (sym is) of_part

-- the accepted start of a run that goes on
going_start : (run : Option LoggedRun) (r : LoggedRun) (start : ℕ) (turns : List MemberTurn) (dumps : RunDumps) → run ≡ Some r → IsInStarted (Some r) start → IsRunTold run turns dumps → HasStart turns start
going_start run r start turns dumps is on told =
    let of_run : IsRunTold (Some r) turns dumps = subst (λ (x : Option LoggedRun). IsRunTold x turns dumps) is told in
    let of_part : IsPartTold Started turns r.start dumps = subst (λ (p : RunPart). IsPartTold p turns r.start dumps) on.1 of_run in
    (of_part.1.0, subst (λ (n : ℕ). HasTurnOf turns Start n of_part.1.0) on.0 of_part.1.1.is_start)

-- each channel of a run that goes on
going_stages : (t : LoggerTurn) (turns : List MemberTurn) (r : LoggedRun) → TurnGiven t turns → t.run ≡ Some r → IsInStarted (Some r) t.order.start → (n : ℕ) (c : Channel) → slot_at t.before.slots n ≡ Some c → IsStartedStage t.order.start c.stage
going_stages t turns r given is on n c stood =
    let port : (a : Access) × (slice_get t.before.ports c.spec.buffer ≡ Some a) = port_of t.before n c given.ready stood in
    started_stage t.run r t.order.start turns port.0.own c.stage is on (given.stands.stages n c port.0 stood port.1)

-- A stop.

stop_stands : ChannelLaws → (t : LoggerTurn) (turns : List MemberTurn) (on : Bool) → t.transition ≡ Stop → is_started t.run t.order.start ≡ on → TurnGiven t turns → TakesStop on t → TurnStands t turns
stop_stands laws t turns false is off given takes =
    left_turn t turns (Yes Plain) takes (λ ends told. absurd (cc (told)))
    (rw is (left_stop t.run t.dumps turns t.order t.dump given.open_before off (known_of t.run t.dumps t.before turns given.stands))) given.ready given.stands
stop_stands laws t turns true is on given takes =
    let going = started_run t.run t.order.start on in
    let r : LoggedRun = going.0 in
    let start : ℕ = t.order.start in
    let turn : MemberTurn = logger_turn Stop t.order t.dump None in
    let quiet : TellsNone turn = λ ends told. absurd (cc (told)) in
    let of_run : AreEngineTurns (turn ∷ turns) → IsOfRun start turns = λ are. are.0 in
    let begin : HasStart turns start = going_start t.run r start turns t.dumps going.1 going.2 given.stands.told in
    let turn_now : HasEndTurn (turn ∷ turns) start = record { turn = turn; stands = inl refl; ends = inl refl; of = refl } in
    let later : RunDumps = record t.dumps { stop = t.dump } in
    let first : EndedTo ⊥ (IsHeadTold (turn ∷ turns) later) (turn ∷ turns) start (length t.before.ports) 0 t.before =
    ending ⊥ turn turns start t.before quiet of_run begin t.dumps later refl given.stands.standing given.stands.taken (λ n c stood. inr (going_stages t turns r given going.1 going.2 n c stood)) in
    let end : EndedTo ⊥ (IsHeadTold (turn ∷ turns) later) (turn ∷ turns) start (length t.before.ports) (length t.before.ports) t.after =
    ended_below laws.left laws.calls laws.ended ⊥ (IsHeadTold (turn ∷ turns) later) (turn ∷ turns) start (length t.before.ports) (length t.before.ports) t.before t.after turn_now (none_told turn turns start quiet of_run begin) takes.ends first in
    let known : TurnsKnown (Some r) t.dumps turns = subst (λ (x : Option LoggedRun). TurnsKnown x t.dumps turns) going.1 (known_of t.run t.dumps t.before turns given.stands) in
    rw (is, takes.answer_is, takes.run, takes.dumps)
    (all_of (Some (record { start = start; begun = 0; part = Stopping t.order.time })) (record t.dumps { stop = t.dump }) t.after (turn ∷ turns) (stop_known r t.dumps turns t.order t.dump going.2 known) given.later_ready end.standing end.knows
    (λ n c a stood at. elim (end.done n c a stood at (omega (arith, slice_get_within t.after.ports c.spec.buffer a at, end.ports))) as (λ w. IsStoppingStage (turn ∷ turns) a.own start c.stage) [
      | inl idle ↦ absurd idle.0
      | inr ended ↦ ended
    ]))

-- A pause and a resume.

stayed : (t : LoggerTurn) (turns : List MemberTurn) (turn : MemberTurn) (r : LoggedRun) → TurnGiven t turns → t.run ≡ Some r → IsInStarted (Some r) t.order.start → TurnsKnown t.run t.dumps (turn ∷ turns) → HaveStayed (IsHeadTold (turn ∷ turns) t.dumps) (turn ∷ turns) t.before t.after
    → LoggerHolds t.run t.dumps t.after.slots t.after.ports (turn ∷ turns) t.after.files.seen
stayed t turns turn r given is on known have = all_of t.run t.dumps t.after (turn ∷ turns) known given.later_ready have.standing
    (λ n c stood. subst (λ (seen : Seen). KnowsTaken seen c.spec c.stage) (sym have.quiet) (given.stands.taken n c (subst (λ (l : List (Option Channel)). slot_at l n ≡ Some c) have.same stood)))
    (λ n c a stood at. stage_started t.run r t.order.start (turn ∷ turns) a.own c.stage is on (going_stages t turns r given is on n c (subst (λ (l : List (Option Channel)). slot_at l n ≡ Some c) have.same stood)))

pause_stands : ChannelLaws → (t : LoggerTurn) (turns : List MemberTurn) (on : Bool) → t.transition ≡ Pause → is_started t.run t.order.start ≡ on → TurnGiven t turns → TakesMark PausesBuffer on t → TurnStands t turns
pause_stands laws t turns false is off given takes =
    left_turn t turns (Yes Plain) takes (λ ends told. absurd (cc (told)))
    (rw is (left_pause t.run t.dumps turns t.order t.dump given.open_before (known_of t.run t.dumps t.before turns given.stands))) given.ready given.stands
pause_stands laws t turns true is on given takes =
    let going = started_run t.run t.order.start on in
    let turn : MemberTurn = logger_turn Pause t.order t.dump (Some (Yes Plain)) in
    rw (is, takes.answer_is, takes.run, takes.dumps)
    (stayed t turns turn going.0 given going.1 going.2 (left_pause t.run t.dumps turns t.order t.dump given.open_before (known_of t.run t.dumps t.before turns given.stands))
    (paused_all laws.left laws.calls (IsHeadTold (turn ∷ turns) t.dumps) (turn ∷ turns) t.order.start (length t.before.ports) t.before t.after takes.marks
    (told_more turn turns t.dumps t.dumps t.before.slots t.before.ports t.before.files.seen (λ ends told. absurd (cc (told))) refl given.stands.standing)))

resume_stands : ChannelLaws → (t : LoggerTurn) (turns : List MemberTurn) (on : Bool) → t.transition ≡ Resume → is_started t.run t.order.start ≡ on → TurnGiven t turns → TakesMark ResumesBuffer on t → TurnStands t turns
resume_stands laws t turns false is off given takes =
    left_turn t turns (Yes Plain) takes (λ ends told. absurd (cc (told)))
    (rw is (left_resume t.run t.dumps turns t.order t.dump given.open_before (known_of t.run t.dumps t.before turns given.stands))) given.ready given.stands
resume_stands laws t turns true is on given takes =
    let going = started_run t.run t.order.start on in
    let turn : MemberTurn = logger_turn Resume t.order t.dump (Some (Yes Plain)) in
    rw (is, takes.answer_is, takes.run, takes.dumps)
    (stayed t turns turn going.0 given going.1 going.2 (left_resume t.run t.dumps turns t.order t.dump given.open_before (known_of t.run t.dumps t.before turns given.stands))
    (resumed_all laws.left laws.calls (IsHeadTold (turn ∷ turns) t.dumps) (turn ∷ turns) t.order.start (length t.before.ports) t.before t.after takes.marks
    (told_more turn turns t.dumps t.dumps t.before.slots t.before.ports t.before.files.seen (λ ends told. absurd (cc (told))) refl given.stands.standing)))

-- A start-abort.

-- the run that is called off: it has a start, and its channels may end
record MayCallOff (turns : List MemberTurn) (start : ℕ) (slots : List (Option Channel)) : Type 0 where
  begin : HasStart turns start
  stages : (n : ℕ) → (c : Channel) → slot_at slots n ≡ Some c → MayEnd ⊤ start c.stage

part_off : (part : RunPart) (turns : List MemberTurn) (start : ℕ) (dumps : RunDumps) (m : LoggerMoment) → NoneOpen turns → IsPartTold part turns start dumps
    → ((n : ℕ) (c : Channel) → slot_at m.slots n ≡ Some c → (own : List BufferEntry) × IsStagePart part turns own start c.stage) → MayCallOff turns start m.slots
part_off Refused turns start dumps m none told stages = record { begin = told.1; stages = λ n c stood. inl (tt, (stages n c stood).1) }
part_off Started turns start dumps m none told stages = record { begin = (told.1.0, told.1.1.is_start); stages = λ n c stood. inr (stages n c stood).1 }
part_off (Stopping time) turns start dumps m none told stages = absurd (subst (λ (l : List MemberTurn). NoneOpen l) told.0.latest none)

run_off : (run : Option LoggedRun) (turns : List MemberTurn) (start : ℕ) (dumps : RunDumps) (m : LoggerMoment) → is_of_start run start ≡ true → NoneOpen turns → IsRunTold run turns dumps
    → ((n : ℕ) (c : Channel) → slot_at m.slots n ≡ Some c → (own : List BufferEntry) × IsStageOf run turns own c.stage) → MayCallOff turns start m.slots
run_off None turns start dumps m of none told stages = absurd (cc (of))
run_off (Some r) turns start dumps m of none told stages =
    subst (λ (k : ℕ). MayCallOff turns k m.slots) (eqb-true r.start start of) (part_off r.part turns r.start dumps m none told stages)

abort_turn : ChannelLaws → (t : LoggerTurn) (turns : List MemberTurn) (on : Bool) → t.transition ≡ StartAbort → is_of_start t.run t.order.start ≡ on → TurnGiven t turns → TakesAbort on t → TurnStands t turns
abort_turn laws t turns false is off given takes =
    left_turn t turns (Yes Plain) takes (λ ends told. absurd (cc (told)))
    (rw is (left_abort t.run t.dumps turns t.order t.dump given.open_before off (known_of t.run t.dumps t.before turns given.stands))) given.ready given.stands
abort_turn laws t turns true is of given takes =
    let start : ℕ = t.order.start in
    let turn : MemberTurn = logger_turn StartAbort t.order t.dump (Some (Yes Plain)) in
    let quiet : TellsNone turn = λ ends told. absurd (cc (told)) in
    let of_run : AreEngineTurns (turn ∷ turns) → IsOfRun start turns = λ are. are.0 in
    let may : MayCallOff turns start t.before.slots = run_off t.run turns start t.dumps t.before of given.open_before given.stands.told
    (λ n c stood. let port : (a : Access) × (slice_get t.before.ports c.spec.buffer ≡ Some a) = port_of t.before n c given.ready stood in (port.0.own, given.stands.stages n c port.0 stood port.1)) in
    let turn_now : HasEndTurn (turn ∷ turns) start = record { turn = turn; stands = inl refl; ends = inr refl; of = refl } in
    let end : EndedTo ⊤ (IsHeadTold (turn ∷ turns) t.dumps) (turn ∷ turns) start (length t.before.ports) (buffers_begun t.run) takes.ended =
    ended_below laws.left laws.calls laws.ended ⊤ (IsHeadTold (turn ∷ turns) t.dumps) (turn ∷ turns) start (length t.before.ports) (buffers_begun t.run) t.before takes.ended turn_now (none_told turn turns start quiet of_run may.begin) takes.ends
    (ending ⊤ turn turns start t.before quiet of_run may.begin t.dumps t.dumps refl given.stands.standing given.stands.taken may.stages) in
    let ready : IsLoggerReady takes.ended.slots takes.ended.ports takes.ended.files.seen =
    turns_keep (λ buffer. EndsBuffer start buffer) (λ (m : LoggerMoment). IsLoggerReady m.slots m.ports m.files.seen) (buffers_begun t.run) t.before takes.ended (λ k x y step kept. ends_ready start k x y step kept) takes.ends given.ready in
    let standing : SlotsStand (IsHeadTold (turn ∷ turns) t.dumps) (turn ∷ turns) t.after.slots t.after.ports t.after.files.seen =
    aborted_all laws (IsHeadTold (turn ∷ turns) t.dumps) (turn ∷ turns) (length takes.ended.slots) takes.ended t.after takes.aborts (record { standing = end.standing; ready = ready }) in
    let idle : AreIdleChannels t.after.slots = given.later_idle (ap (λ (r : Option LoggedRun). is_run_on r) takes.run) in
    rw (is, takes.answer_is, takes.run, takes.dumps)
    (all_of None no_dumps t.after (turn ∷ turns) (off_known t.run t.dumps turns t.order t.dump (known_of t.run t.dumps t.before turns given.stands)) given.later_ready
    (heads_idle (IsHeadTold (turn ∷ turns) t.dumps) (IsHeadTold (turn ∷ turns) no_dumps) (turn ∷ turns) t.after.slots t.after.ports t.after.files.seen idle standing)
    (found_knows t.after.slots t.after.files.seen (idle_found t.after.slots idle)) (λ n c a stood at. idle n c stood))

-- Any turn.

turn_by : ChannelLaws → (transition : Transition) (t : LoggerTurn) (turns : List MemberTurn) → t.transition ≡ transition → length (unwrap_or t.dump []) ≤ record_limit → TurnGiven t turns → TakesTurnBy transition t → TurnStands t turns
turn_by laws Start t turns is small given takes = start_stands laws t turns (is_run_on t.run) is refl small given takes
turn_by laws Stop t turns is small given takes = stop_stands laws t turns (is_started t.run t.order.start) is refl given takes
turn_by laws Pause t turns is small given takes = pause_stands laws t turns (is_started t.run t.order.start) is refl given takes
turn_by laws Resume t turns is small given takes = resume_stands laws t turns (is_started t.run t.order.start) is refl given takes
turn_by laws StartAbort t turns is small given takes = abort_turn laws t turns (is_of_start t.run t.order.start) is refl given takes

-- what a logger keeps before a turn it keeps behind it, with its answer
pub turn_stands : ChannelLaws → (t : LoggerTurn) (turns : List MemberTurn) → TakesTurn t → length (unwrap_or t.dump []) ≤ record_limit → IsLoggerReady t.before.slots t.before.ports t.before.files.seen → IsLoggerReady t.after.slots t.after.ports t.after.files.seen
    → IsIdleOutside t.run t.before.slots → IsIdleOutside t.later_run t.after.slots → NoneOpen turns → GiveEachOnce t.after.ports → LoggerHolds t.run t.dumps t.before.slots t.before.ports turns t.before.files.seen
    → LoggerHolds t.later_run t.later_dumps t.after.slots t.after.ports (logger_turn t.transition t.order t.dump t.answer ∷ turns) t.after.files.seen
turn_stands laws t turns takes small ready later_ready idle later_idle open_before once stands =
    turn_by laws t.transition t turns refl small (record { open_before = open_before; once = once; ready = ready; later_ready = later_ready; idle = idle; later_idle = later_idle; stands = stands }) takes
