-- Each call of a logger keeps which names of run files it leaves.
use Rattle.std.specs.Prelude.{◌≡◌, ◌≢◌, ◌≤◌, ◌<◌, ◌==◌, ◌+◌, sum_by, ℕ, zero, suc, Bool, true, false, IsTrue, IsSome, List, [], ◌∷◌, length, slice_get, slice_set, Option, Some, None, ◌⊎◌, refl}
use Rattle.std.specs.List.{list_all}
use Rattle.std.proofs.lemmas.List.Sums.{sum_by-cons}
use Rattle.std.proofs.lemmas.Bool.{eqb-true}
use Rattle.std.proofs.Common.{ap, sym, subst, ◌∙◌, arith, inl, inr}
use Rattle.daq_types.specs.declared.runs.ChannelEnd.{ChannelEnd}
use Rattle.daq_types.specs.declared.runs.Transition.{Transition}
use Rattle.daq_types.specs.declared.runs.Transition.TheVariants.{Start, Stop, StartAbort}
use Rattle.daq_types.specs.declared.runs.Why.{Why}
use Rattle.daq_types.specs.declared.runs.Order.{Order}
use Rattle.daq_io.specs.Counts.{RoseBy}
use Rattle.daq_io.specs.Seen.{Seen, Stored}
use Rattle.daq_io.proofs.Counts.{RoseBy-fewer, RoseBy-then}
use Rattle.daq_io.specs.Told.{FilesTold}
use Rattle.buffer_core.specs.declared.entry.BufferEntry.{BufferEntry}
use Rattle.buffer_core.specs.Ports.{Access, GotEvent}
use Rattle.buffer_core.specs.Slots.{slot_at}
use Rattle.buffer_core.proofs.SlotLaws.{slot_set_other, slot_within}
use Rattle.transitions.specs.declared.answers.Answer.TheVariants.{Yes, No}
use Rattle.transitions.specs.declared.answers.Tally.TheVariants.{Channels}
use Rattle.member_model.specs.Turns.{MemberTurn, HasTurn, HasTurnOf, IsAcceptedStart, latest_answered, AreEngineTurns}
use Rattle.mid_logger.specs.declared.channel.Channel.{Channel}
use Rattle.mid_logger.specs.declared.channel_spec.ChannelSpec.{ChannelSpec}
use Rattle.mid_logger.specs.declared.pulled.Pulled.{Pulled}
use Rattle.mid_logger.specs.declared.stage.ChannelRun.{ChannelRun}
use Rattle.mid_logger.specs.declared.stage.ChannelStage.{ChannelStage}
use Rattle.mid_logger.specs.declared.stage.ChannelStage.TheVariants.{Idle, Asking, Writing, Draining, Drained, Broken}
use Rattle.mid_logger.specs.Channels.{FileHead, FilesHold, FilesLeft, StageWith, channel_run, files_by as files_made}
use Rattle.mid_logger.specs.Keeping.{PullsChange}
use Rattle.loggers.specs.declared.logged_run.LoggedRun.{LoggedRun}
use Rattle.loggers.specs.declared.logged_run.RunDumps.{RunDumps}
use Rattle.loggers.specs.declared.logged_run.RunPart.{RunPart}
use Rattle.loggers.specs.declared.logged_run.RunPart.TheVariants.{Refused, Started, Stopping}
use Rattle.loggers.specs.Moments.{LoggerMoment, InTurn, AreIdleChannels, HaveFilesOpen, IsLoggerReady, channel_limit}
use Rattle.loggers.specs.Turning.{LoggerTurn, is_of_start}
use Rattle.loggers.specs.ToldCounts.{faults_of_end, faults_of_answer, clashes_of_answer, count_in_answer, undone_by, faults_told, starts_undone, broken_off}
use Rattle.loggers.specs.SlotPulls.{PullsSlot}
use Rattle.loggers.specs.Finishing.{EndingMoment, EndsSlot, EndsSlotAt, LoggerFinish, FinishesLogger, FinishesBy, EndsFiles, ending_of, ends_idle, is_settled_slot, waiting_stop}
use Rattle.loggers.specs.LoggerStands.{LoggerHolds, LoggerStands, logger_turn, ChannelKept, HasHead, IsHeadTold, IsStopWaiting, IsStartedStage, IsStoppingStage, IsStageOf, IsStagePart, IsRunTold, IsPartTold}
use Rattle.loggers.specs.OtherFiles.{specs_in}
use Rattle.loggers.specs.LeftNames.{IsOpenName, NamesLeft, IsStoppedRunOf, IsStoppedName, IsUndoneRun, IsUndoneName, HasUntoldFault, IsNameMade, IsNameLeft, EachFindsNames, KeepsNames, StopsOpenRuns, HaveStoppedRuns, StandingHasStarted, StandingHasStopped, PullsKeepStopped, TurnsKeepNames, PullsKeepNames, FinishesKeepNames}
use Rattle.loggers.proofs.FilesLeft.{FileChanges, spec_at, no_run, same_run, turn_leaves, pull_leaves, finish_leaves}
use Rattle.loggers.proofs.FirstNamed.{turn_fault, pull_off, pull_fault, finish_off, finish_named, finish_stays, finish_fault}
use Rattle.loggers.proofs.FaultsNamed.{OffRuns, turn_faults, pull_faults, finish_faults}
use Rattle.loggers.proofs.FinishedLogger.{Waits, run_waits}
use Rattle.loggers.proofs.NamesTaken.{found_more, free_name, turn_found}
use Rattle.loggers.proofs.SlotLists.{same_or_other, one_changed, got_there, kept_there, many_set}
use Rattle.loggers.proofs.NamesUndone.{Undoes, turn_left, pull_left, ends_left}
use Rattle.loggers.proofs.ReasonsKept.{CountsKept, more_faults, turn_counted, pull_counted, ends_all}
use Rattle.loggers.proofs.RisesKept.{idle_off}
use Rattle.loggers.proofs.StoppedThere.{stopped_there}
use Rattle.loggers.proofs.StoppedRuns.{there_is}
use Rattle.loggers.proofs.TurnsKnown.{across, stop_answered}

-- More is good.

left_more : (Good More : List ℕ → Option Stored → Type 0) (slots : List (Option Channel)) (now : Seen) → ((name : List ℕ) (x : Option Stored) → Good name x → More name x) → NamesLeft Good slots now → NamesLeft More slots now
left_more Good More slots now more left = record {
  each = λ name. elim (left.each name) as (λ w. More name (now.at name) ⊎ IsOpenName slots name) [
    | inl good ↦ inl (more name (now.at name) good)
    | inr open_ ↦ inr open_
  ];
  fresh = λ name open_. more name None (left.fresh name open_);
}

stopped_more : (specs : List (Option ChannelSpec)) (turns later : List MemberTurn) (name : List ℕ) → ((run : ℕ) (ends : List ChannelEnd) → IsStoppedRunOf turns run ends → IsStoppedRunOf later run ends) → IsStoppedName specs turns name → IsStoppedName specs later name
stopped_more specs turns later name more o =
    record { number = o.number; spec = o.spec; there = o.there; run = o.run; ends = o.ends; stopped = more o.run o.ends o.stopped; told = o.told; at = o.at; sub = o.sub; made = o.made; is = o.is }

undone_more : (specs : List (Option ChannelSpec)) (turns later : List MemberTurn) (name : List ℕ) → ((run : ℕ) → IsUndoneRun turns run → IsUndoneRun later run) → IsUndoneName specs turns name → IsUndoneName specs later name
undone_more specs turns later name more o = record { number = o.number; spec = o.spec; there = o.there; run = o.run; undone = more o.run o.undone; sub = o.sub; few = o.few; is = o.is }

-- behind more turns, and more faults
record MoreTurns (One Other : Type 0) (turns later : List MemberTurn) : Type 0 where
  untold : One → Other
  stopped : (run : ℕ) (ends : List ChannelEnd) → IsStoppedRunOf turns run ends → IsStoppedRunOf later run ends
  undone : (run : ℕ) → IsUndoneRun turns run → IsUndoneRun later run

name_more : {One Other : Type 0} (specs : List (Option ChannelSpec)) (turns later : List MemberTurn) (first : Seen) → MoreTurns One Other turns later → (name : List ℕ) (x : Option Stored) → IsNameLeft One specs turns first name x → IsNameLeft Other specs later first name x
name_more {One} {Other} specs turns later first more name x good = elim good as (λ w. IsNameLeft Other specs later first name x) [
  | inl same ↦ inl same
  | inr made ↦ inr (
    made.0,
    elim made.1 as (λ w. IsNameMade Other specs later name) [
      | inl stopped ↦ inl (stopped_more specs turns later name more.stopped stopped)
      | inr undone ↦ inr (more.untold undone.0, undone_more specs turns later name more.undone undone.1)
    ],
  )
]

turn_more : (t : MemberTurn) (turns : List MemberTurn) (run : ℕ) (ends : List ChannelEnd) → IsStoppedRunOf turns run ends → IsStoppedRunOf (t ∷ turns) run ends
turn_more t turns run ends is = record {
  begin = is.begin;
  stop = is.stop;
  is_start = record { is_start = record { stands = inr is.is_start.is_start.stands; is = is.is_start.is_start.is; of = is.is_start.is_start.of }; accepted = is.is_start.accepted };
  number = is.number;
  stands = inr is.stands;
  is = is.is;
  answered = is.answered;
}

turn_undone : (t : MemberTurn) (turns : List MemberTurn) (run : ℕ) → IsUndoneRun turns run → IsUndoneRun (t ∷ turns) run
turn_undone t turns run is = record {
  begin = is.begin;
  stands = inr is.stands;
  is = is.is;
  number = is.number;
  undone = elim is.undone as (λ w. ((why : Why) × (is.begin.answer ≡ Some (No why))) ⊎ ((off : MemberTurn) × HasTurnOf (t ∷ turns) StartAbort is.begin.order.start off)) [
    | inl refused ↦ inl refused
    | inr off ↦ inr (off.0, record { stands = inr off.1.stands; is = off.1.is; of = off.1.of })
  ];
}

-- The run of a channel.

head_run : (spec : ChannelSpec) (client : Option ℕ) (stage : ChannelStage) (head : FileHead) (own : List BufferEntry) (got : List GotEvent) (seen : Seen) (opened : ChannelRun) → StageWith (FilesHold spec head seen) (FilesLeft spec head seen) spec client stage own got → channel_run stage ≡ Some opened
    → head.run ≡ opened.run
head_run spec client Idle head own got seen opened at is = absurd (cc (is))
head_run spec client (Asking o) head own got seen opened at is = (let same : o ≡ opened = cc (is) in at.holds.run ∙ ap (λ (x : ChannelRun). x.run) same)
head_run spec client (Writing o begun) head own got seen opened at is = (let same : o ≡ opened = cc (is) in at.holds.run ∙ ap (λ (x : ChannelRun). x.run) same)
head_run spec client (Draining run) head own got seen opened at is = (let same : run.opened ≡ opened = cc (is) in at.holds.run ∙ ap (λ (x : ChannelRun). x.run) same)
head_run spec client (Drained run) head own got seen opened at is = (let same : run.opened ≡ opened = cc (is) in at.holds.run ∙ ap (λ (x : ChannelRun). x.run) same)
head_run spec client (Broken run fallen) head own got seen opened at is = (let same : run.opened ≡ opened = cc (is) in at.left.run ∙ ap (λ (x : ChannelRun). x.run) same)

stage_start : (stage : ChannelStage) (turns : List MemberTurn) (own : List BufferEntry) (start : ℕ) (opened : ChannelRun) → IsStoppingStage turns own start stage → channel_run stage ≡ Some opened → opened.start ≡ start
stage_start Idle turns own start opened at is = absurd at
stage_start (Asking o) turns own start opened at is = absurd at
stage_start (Writing o begun) turns own start opened at is = absurd at
stage_start (Draining run) turns own start opened at is = (let same : run.opened ≡ opened = cc (is) in ap (λ (x : ChannelRun). x.start) (sym same) ∙ at.of)
stage_start (Drained run) turns own start opened at is = (let same : run.opened ≡ opened = cc (is) in ap (λ (x : ChannelRun). x.start) (sym same) ∙ at.of)
stage_start (Broken run fallen) turns own start opened at is = (let same : run.opened ≡ opened = cc (is) in ap (λ (x : ChannelRun). x.start) (sym same) ∙ at.of)

-- the start of the run that a channel has, where the channel is one of a logger that stands
record HeadStart (turns : List MemberTurn) (opened : ChannelRun) : Type 0 where
  begin : MemberTurn
  is_start : IsAcceptedStart turns opened.start begin
  number : begin.order.run ≡ opened.run

head_start : (run : Option LoggedRun) (dumps : RunDumps) (slots : List (Option Channel)) (ports : List Access) (turns : List MemberTurn) (seen : Seen) → LoggerHolds run dumps slots ports turns seen → (number : ℕ) (c : Channel) (opened : ChannelRun) (a : Access)
    → slot_at slots number ≡ Some c → slice_get ports c.spec.buffer ≡ Some a → channel_run c.stage ≡ Some opened → HeadStart turns opened
head_start run dumps slots ports turns seen stands number c opened a there at of =
    let kept : ChannelKept (IsHeadTold turns dumps) seen c a = stands.standing.channels number c a there at in
    let head : HasHead turns opened.start kept.head = (kept.headed opened of).has in
    let run_is : kept.head.run ≡ opened.run = head_run c.spec c.client c.stage kept.head a.own a.got seen opened kept.stands.at of in
    record { begin = head.turn; is_start = head.is_start; number = sym head.run ∙ run_is }

started_start : (stage : ChannelStage) (start : ℕ) (opened : ChannelRun) → IsStartedStage start stage → channel_run stage ≡ Some opened → opened.start ≡ start
started_start Idle start opened at is = absurd at
started_start (Asking o) start opened at is = absurd at
started_start (Writing o begun) start opened at is = (let same : o ≡ opened = cc (is) in ap (λ (x : ChannelRun). x.start) (sym same) ∙ at)
started_start (Draining run) start opened at is = absurd at
started_start (Drained run) start opened at is = absurd at
started_start (Broken run fallen) start opened at is = (let same : run.opened ≡ opened = cc (is) in ap (λ (x : ChannelRun). x.start) (sym same) ∙ at.of)

part_start : (part : RunPart) (turns : List MemberTurn) (own : List BufferEntry) (start : ℕ) (stage : ChannelStage) (opened : ChannelRun) → IsStagePart part turns own start stage → channel_run stage ≡ Some opened → opened.start ≡ start
part_start Refused turns own start stage opened at is = absurd (no_run stage opened at is)
part_start Started turns own start stage opened at is = started_start stage start opened at is
part_start (Stopping time) turns own start stage opened at is = stage_start stage turns own start opened at is

-- that run is the one that the logger has
its_run : (run : Option LoggedRun) (turns : List MemberTurn) (own : List BufferEntry) (stage : ChannelStage) (opened : ChannelRun) → IsStageOf run turns own stage → channel_run stage ≡ Some opened → (r : LoggedRun) × (run ≡ Some r) × (opened.start ≡ r.start)
its_run None turns own stage opened at is = absurd (no_run stage opened at is)
its_run (Some r) turns own stage opened at is = (r, refl, part_start r.part turns own r.start stage opened at is)

-- A turn.

-- more faults were counted than are told as before
untold_more : (told clashes : ℕ) (slots later : List (Option Channel)) (turns : List MemberTurn) (t : MemberTurn) (first old new : FilesTold) → count_in_answer faults_of_answer t.answer ≡ told → CountsKept told clashes slots later old new → HasUntoldFault slots turns first old → HasUntoldFault later (t ∷ turns) first new
untold_more told clashes slots later turns t first old new is kept untold =
    let all : faults_told (t ∷ turns) ≡ count_in_answer faults_of_answer t.answer + faults_told turns = sum_by-cons (λ (u : MemberTurn). count_in_answer faults_of_answer u.answer) t turns in
    RoseBy-fewer (faults_told (t ∷ turns) + broken_off later + 1) (told + (faults_told turns + 1) + broken_off later) first.faults new.faults (omega (arith, all, is))
    (more_faults (faults_told turns + 1) told clashes slots later first old new kept (RoseBy-fewer (faults_told turns + 1 + broken_off slots) (faults_told turns + broken_off slots + 1) first.faults old.faults (omega arith) untold))

-- in a turn that undid what was opened one fault was counted more than its answer tells
untold_now : (t : LoggerTurn) (first : FilesTold) (turns : List MemberTurn) → AreIdleChannels t.after.slots → RoseBy (faults_told turns + broken_off t.before.slots) first.faults t.before.files.faults → RoseBy (count_in_answer faults_of_answer t.answer + 1) t.before.files.faults t.after.files.faults
    → HasUntoldFault t.after.slots (logger_turn t.transition t.order t.dump t.answer ∷ turns) first t.after.files
untold_now t first turns idle before rose =
    let told : ℕ = count_in_answer faults_of_answer t.answer in
    let later : List MemberTurn = logger_turn t.transition t.order t.dump t.answer ∷ turns in
    let all : faults_told later ≡ told + faults_told turns = sum_by-cons (λ (u : MemberTurn). count_in_answer faults_of_answer u.answer) (logger_turn t.transition t.order t.dump t.answer) turns in
    let off : broken_off t.after.slots ≡ 0 = idle_off t.after.slots idle in
    RoseBy-fewer (faults_told later + broken_off t.after.slots + 1) (faults_told turns + broken_off t.before.slots + (told + 1)) first.faults t.after.files.faults (omega (arith, all, off))
    (RoseBy-then (faults_told turns + broken_off t.before.slots) (told + 1) first.faults t.before.files.faults t.after.files.faults before rose)

-- the run of a channel whose start is called off
off_run : (t : LoggerTurn) (turns : List MemberTurn) → LoggerStands t.run t.dumps t.before.slots t.before.ports turns t.before.files.seen → OffRuns t turns
off_run t turns stands aborts is n c opened there of =
    let now : MemberTurn = logger_turn t.transition t.order t.dump t.answer in
    let port : (a : Access) × (slice_get t.before.ports c.spec.buffer ≡ Some a) = there_is t.before.ports c.spec.buffer (stands.holds.served n c there) in
    let h : HeadStart turns opened = head_start t.run t.dumps t.before.slots t.before.ports turns t.before.files.seen stands.holds n c opened port.0 there port.1 of in
    let its : (r : LoggedRun) × (t.run ≡ Some r) × (opened.start ≡ r.start) = its_run t.run turns port.0.own c.stage opened (stands.holds.stages n c port.0 there port.1) of in
    let same : (its.0.start == t.order.start) ≡ true = subst (λ (r : Option LoggedRun). is_of_start r t.order.start ≡ true) its.1 is in
    record {
      begin = h.begin;
      stands = inr h.is_start.is_start.stands;
      is = h.is_start.is_start.is;
      number = h.number;
      undone = inr (now, record { stands = inl refl; is = aborts; of = sym (h.is_start.is_start.of ∙ (its.2 ∙ eqb-true its.0.start t.order.start same)) });
    }

-- what a turn undoes
turn_undoes : (t : LoggerTurn) (first : FilesTold) (turns : List MemberTurn) → IsLoggerReady t.before.slots t.before.ports t.before.files.seen → LoggerStands t.run t.dumps t.before.slots t.before.ports turns t.before.files.seen → RoseBy (faults_told turns + broken_off t.before.slots) first.faults t.before.files.faults
    → Undoes (IsNameLeft (HasUntoldFault t.after.slots (logger_turn t.transition t.order t.dump t.answer ∷ turns) first t.after.files) (specs_in t.before.slots) (logger_turn t.transition t.order t.dump t.answer ∷ turns) first.seen)
    (IsUndoneName (specs_in t.before.slots) (logger_turn t.transition t.order t.dump t.answer ∷ turns)) t
turn_undoes t first turns ready stands faults =
    let now : MemberTurn = logger_turn t.transition t.order t.dump t.answer in
    let later : List MemberTurn = now ∷ turns in
    let specs : List (Option ChannelSpec) = specs_in t.before.slots in
    let Untold : Type 0 = HasUntoldFault t.after.slots later first t.after.files in
    record {
      refused = λ starts why answered i spec there. record {
        number = i;
        spec = spec;
        there = there;
        run = t.order.run;
        undone = record { begin = now; stands = inl refl; is = starts; number = refl; undone = inl (why, answered) };
        sub = 0;
        few = omega arith;
        is = refl;
      };
      off = λ aborts is name o.
          let few = ready.few o.number o.channel o.there in
          let made = o.made in
          record {
            number = o.number;
            spec = o.channel.spec;
            there = spec_at t.before.slots o.number o.channel o.there;
            run = o.opened.run;
            undone = off_run t turns stands aborts is o.number o.channel o.opened o.there o.of;
            sub = o.sub;
            few = omega (arith, few, made);
            is = o.is;
          };
      loose = λ idle rose name undone none x.
          let untold : Untold = untold_now t first turns idle faults rose in
          inr (free_name Untold specs later first.seen name none, inr (untold, undone));
    }

pub turns_keep_names : FileChanges → TurnsKeepNames
turns_keep_names laws t first turns takes ready idle stands gives keeps =
    let leaves = turn_leaves laws (t.order.run ∷ []) t takes (λ starts. (0, omega arith, refl)) in
    let now : MemberTurn = logger_turn t.transition t.order t.dump t.answer in
    let later : List MemberTurn = now ∷ turns in
    let specs : List (Option ChannelSpec) = specs_in t.before.slots in
    let before : Type 0 = HasUntoldFault t.before.slots turns first t.before.files in
    let behind : Type 0 = HasUntoldFault t.after.slots later first t.after.files in
    let faults = turn_faults t first turns takes idle (off_run t turns stands) leaves.specs (turn_more now turns) (turn_undone now turns) keeps.fault_known keeps.faults_named in
    let more : before → behind = untold_more (count_in_answer faults_of_answer t.answer) (count_in_answer clashes_of_answer t.answer) t.before.slots t.after.slots turns now first t.before.files t.after.files refl (turn_counted t takes) in
    record {
      told = leaves.names ∙ keeps.told;
      names = λ tells.
          let told : IsTrue t.before.files.seen.names = subst (λ (b : Bool). IsTrue b) (sym keeps.told) tells in
          let had : NamesLeft (IsNameLeft behind specs later first.seen) t.before.slots t.before.files.seen =
          left_more (IsNameLeft before specs turns first.seen) (IsNameLeft behind specs later first.seen) t.before.slots t.before.files.seen
          (name_more specs turns later first.seen (record { untold = more; stopped = turn_more now turns; undone = turn_undone now turns })) (keeps.names tells) in
          subst (λ (l : List (Option ChannelSpec)). NamesLeft (IsNameLeft behind l later first.seen) t.after.slots t.after.files.seen) (sym leaves.specs)
          (turn_left laws.aborts (IsNameLeft behind specs later first.seen) (IsUndoneName specs later) t takes idle told (turn_undoes t first turns ready stands gives.faults) had);
      found = λ tells.
          let told : IsTrue t.before.files.seen.names = subst (λ (b : Bool). IsTrue b) (sym keeps.told) tells in
          let made : AreEngineTurns turns → (name : List ℕ) → IsStoppedName specs turns name → IsSome (t.before.files.seen.at name) = λ are name stopped. stopped_there t.run t.dumps t.before.slots t.before.ports turns t.before.files.seen stands told are name stopped in
          subst (λ (l : List (Option ChannelSpec)). EachFindsNames behind l first.seen later) (sym leaves.specs)
          (found_more specs first.seen later more (turn_found before turns first.seen t idle told (keeps.names tells) made takes, keeps.found tells));
      first_fault = turn_fault t first turns takes idle leaves.specs (turn_more now turns) keeps.first_fault;
      fault_known = faults.0;
      faults_named = faults.1;
    }

-- A pull.

same_untold : (clashes : ℕ) (slots later : List (Option Channel)) (turns : List MemberTurn) (first old new : FilesTold) → CountsKept 0 clashes slots later old new → HasUntoldFault slots turns first old → HasUntoldFault later turns first new
same_untold clashes slots later turns first old new kept untold =
    RoseBy-fewer (faults_told turns + broken_off later + 1) (0 + (faults_told turns + 1) + broken_off later) first.faults new.faults (omega arith)
    (more_faults (faults_told turns + 1) 0 clashes slots later first old new kept (RoseBy-fewer (faults_told turns + 1 + broken_off slots) (faults_told turns + broken_off slots + 1) first.faults old.faults (omega arith) untold))

pub pulls_keep_names : FileChanges → PullsKeepNames
pulls_keep_names laws dump number answer a b first turns pulls ready keeps =
    let leaves = pull_leaves laws.pulls [] dump number answer a b pulls ready.files in
    let specs : List (Option ChannelSpec) = specs_in a.slots in
    let before : Type 0 = HasUntoldFault a.slots turns first a.files in
    let behind : Type 0 = HasUntoldFault b.slots turns first b.files in
    let faults = pull_faults a b first turns (pull_off laws.pulls dump number answer a b ready.files pulls) leaves.specs keeps.fault_known keeps.faults_named in
    let more : before → behind = same_untold 0 a.slots b.slots turns first a.files b.files (pull_counted dump number answer a b pulls) in
    record {
      told = leaves.names ∙ keeps.told;
      names = λ tells.
          let told : IsTrue a.files.seen.names = subst (λ (t : Bool). IsTrue t) (sym keeps.told) tells in
          let had : NamesLeft (IsNameLeft behind specs turns first.seen) a.slots a.files.seen =
          left_more (IsNameLeft before specs turns first.seen) (IsNameLeft behind specs turns first.seen) a.slots a.files.seen (name_more specs turns turns first.seen (record { untold = more; stopped = λ run ends is. is; undone = λ run is. is })) (keeps.names tells) in
          subst (λ (l : List (Option ChannelSpec)). NamesLeft (IsNameLeft behind l turns first.seen) b.slots b.files.seen) (sym leaves.specs)
          (pull_left laws.pulls (IsNameLeft behind specs turns first.seen) dump number answer a b pulls ready.files told had);
      found = λ tells. subst (λ (l : List (Option ChannelSpec)). EachFindsNames behind l first.seen turns) (sym leaves.specs) (found_more specs first.seen turns more (keeps.found tells));
      first_fault = pull_fault laws.pulls dump number answer a b first turns ready.files leaves.specs pulls keeps.first_fault;
      fault_known = faults.0;
      faults_named = faults.1;
    }

-- A call to finish.

answered_more : (order : Order) (dump : Option (List ℕ)) (told : List ChannelEnd) (earlier : List MemberTurn) (run : ℕ) (ends : List ChannelEnd) → IsStoppedRunOf (logger_turn Stop order dump None ∷ earlier) run ends → IsStoppedRunOf (stop_answered order dump told earlier) run ends
answered_more order dump told earlier run ends is = record {
  begin = is.begin;
  stop = is.stop;
  is_start = across order dump None (Some (Yes (Channels told))) earlier is.stop.order.start is.begin is.is_start;
  number = is.number;
  stands = elim is.stands as (λ w. HasTurn (stop_answered order dump told earlier) is.stop) [
    | inl same ↦ absurd (let none : None ≡ is.stop.answer = ap (λ (u : MemberTurn). u.answer) same in let some = is.answered in cc (none, some))
    | inr old ↦ inr old
  ];
  is = is.is;
  answered = is.answered;
}

-- The run that is stopped.

pub standing_has_started : StandingHasStarted
standing_has_started run dumps slots ports turns seen stands are number c opened there of =
    let port : (a : Access) × (slice_get ports c.spec.buffer ≡ Some a) = there_is ports c.spec.buffer (stands.holds.served number c there) in
    let h : HeadStart turns opened = head_start run dumps slots ports turns seen stands.holds number c opened port.0 there port.1 of in
    let its : (r : LoggedRun) × (run ≡ Some r) × (opened.start ≡ r.start) = its_run run turns port.0.own c.stage opened (stands.holds.stages number c port.0 there port.1) of in
    record {
      begin = h.begin;
      is_start = h.is_start;
      number = h.number;
      on = λ turn has off same. stands.holds.not_off are its.0 turn its.1 has off (same ∙ its.2);
    }

standing_stops : (run : Option LoggedRun) (dumps : RunDumps) (slots : List (Option Channel)) (ports : List Access) (turns : List MemberTurn) (seen : Seen) (time : ℕ) → LoggerHolds run dumps slots ports turns seen → Waits run time → StopsOpenRuns dumps.stop slots turns
standing_stops run dumps slots ports turns seen time stands w =
    let told_run : IsRunTold (Some w.r) turns dumps = subst (λ (x : Option LoggedRun). IsRunTold x turns dumps) w.is stands.told in
    let told : IsPartTold (Stopping time) turns w.r.start dumps = subst (λ (p : RunPart). IsPartTold p turns w.r.start dumps) w.part told_run in
    let stop : IsStopWaiting turns w.r.start time dumps.stop = told.0 in
    record {
      order = stop.order;
      earlier = stop.earlier;
      latest = stop.latest;
      runs = λ number c opened there of.
          let port : (a : Access) × (slice_get ports c.spec.buffer ≡ Some a) = there_is ports c.spec.buffer (stands.served number c there) in
          let h : HeadStart turns opened = head_start run dumps slots ports turns seen stands number c opened port.0 there port.1 of in
          let stage_0 : IsStageOf (Some w.r) turns port.0.own c.stage = subst (λ (x : Option LoggedRun). IsStageOf x turns port.0.own c.stage) w.is (stands.stages number c port.0 there port.1) in
          let stage : IsStoppingStage turns port.0.own w.r.start c.stage = subst (λ (p : RunPart). IsStagePart p turns port.0.own w.r.start c.stage) w.part stage_0 in
          let start_is : opened.start ≡ stop.order.start = stage_start c.stage turns port.0.own w.r.start opened stage of ∙ sym stop.of in (
            h.begin,
            subst (λ (n : ℕ). IsAcceptedStart turns n h.begin) start_is h.is_start,
            h.number,
          );
    }

pub standing_has_stopped : StandingHasStopped
standing_has_stopped run dumps slots ports turns seen stands time waits = standing_stops run dumps slots ports turns seen time stands.holds (run_waits run time waits)

pull_stops : PullsChange → (begun : List ℕ) (number : ℕ) (answer : Pulled) (slot : Option Channel) (a b : LoggerMoment) (dump : Option (List ℕ)) (turns : List MemberTurn) → slot_at a.slots number ≡ slot → HaveFilesOpen a.slots a.files.seen → PullsSlot begun slot number answer a b → StopsOpenRuns dump a.slots turns
    → StopsOpenRuns dump b.slots turns
pull_stops change begun number answer None a b dump turns there open_files pulls stops = subst (λ (m : LoggerMoment). StopsOpenRuns dump m.slots turns) (sym pulls.1) stops
pull_stops change begun number answer (Some before) a b dump turns there open_files s stops =
    let changes = change _ before.event.room s.step.pulls (open_files.files number before there) in
    record {
      order = stops.order;
      earlier = stops.earlier;
      latest = stops.latest;
      runs = λ n c opened at of.
          one_changed (λ k x. channel_run x.stage ≡ Some opened → (begin : MemberTurn) × IsAcceptedStart turns stops.order.start begin × (begin.order.run ≡ opened.run)) a.slots number s.after
          (λ x here is. (let was = same_run (channel_run s.after.stage) (channel_run before.stage) changes.1.run opened is in
          let found = stops.runs number before was.0 there was.1 in (found.0, found.1, found.2 ∙ ap (λ (r : ChannelRun). r.run) (sym was.2))))
          (λ k x other here is. stops.runs k x opened here is) before there n c
          (subst (λ (l : List (Option Channel)). slot_at l n ≡ Some c) s.slots at) of;
    }

pub pulls_keep_stopped : FileChanges → PullsKeepStopped
pulls_keep_stopped laws dump number answer a b run stop_dump turns pulls ready stopped time waits =
    pull_stops laws.pulls dump number answer (slot_at a.slots number) a b stop_dump turns refl ready.files pulls (stopped time waits)

-- What is told of the channels.

-- Of the channels with numbers below this it is told how many files they had made; the others are as they were.
record ToldBelow (slots : List (Option Channel)) (k : ℕ) (m : EndingMoment) : Type 0 where
  wide : length m.told ≡ channel_limit
  still : (n : ℕ) (c : Channel) → k ≤ n → slot_at slots n ≡ Some c → slot_at m.slots n ≡ Some c
  told : (n : ℕ) (c : Channel) → n < k → slot_at slots n ≡ Some c → (t : ChannelEnd) × (slice_get m.told n ≡ Some t) × (t.files ≡ files_made c.stage)

told_one : (slots : List (Option Channel)) (time : ℕ) (dump : Option (List ℕ)) (k : ℕ) (slot : Option Channel) (a b : EndingMoment) → length slots ≤ channel_limit → slot_at a.slots k ≡ slot → EndsSlot time dump k slot a b → ToldBelow slots k a → ToldBelow slots (suc k) b
told_one slots time dump k None a b few there same below = subst (λ (m : EndingMoment). ToldBelow slots (suc k) m) (sym same) (record {
  wide = below.wide;
  still = λ n c from at. below.still n c (omega (arith, from)) at;
  told = λ n c early at. elim (same_or_other n k) as (λ w. (t : ChannelEnd) × (slice_get a.told n ≡ Some t) × (t.files ≡ files_made c.stage)) [
    | inl is ↦ absurd (let now : slot_at a.slots k ≡ Some c = subst (λ (i : ℕ). slot_at a.slots i ≡ Some c) is (below.still n c (omega (arith, is)) at) in cc (there, now))
    | inr other ↦ below.told n c (omega (arith, early, other)) at
  ];
})
told_one slots time dump k (Some before) a b few there ends below =
    let told : ChannelEnd = ends.told in
    let files : told.files ≡ files_made before.stage = ap (λ (t : ChannelEnd). t.files) ends.ends.told_is in
    let put : ToldBelow slots (suc k) (ending_of (slice_set a.slots k (Some ends.after)) b.files (slice_set a.told k told)) = record {
      wide = many_set a.told k told ∙ below.wide;
      still = λ n c from at. slot_set_other a.slots k n (Some ends.after) (λ same. omega (arith, from, same)) ∙ below.still n c (omega (arith, from)) at;
      told = λ n c early at. elim (same_or_other n k) as (λ w. (t : ChannelEnd) × (slice_get (slice_set a.told k told) n ≡ Some t) × (t.files ≡ files_made c.stage)) [
        | inl is ↦
            let now : slot_at a.slots k ≡ Some c = subst (λ (i : ℕ). slot_at a.slots i ≡ Some c) is (below.still n c (omega (arith, is)) at) in
            let same : before ≡ c = cc (there, now) in
            let old = there_is a.told k (omega (arith, below.wide, few, is, slot_within slots n c at)) in
            (told, subst (λ (i : ℕ). slice_get (slice_set a.told k told) i ≡ Some told) (sym is) (got_there a.told k old.0 told old.1), files ∙ ap (λ (x : Channel). files_made x.stage) same)
        | inr other ↦ (let old = below.told n c (omega (arith, early, other)) at in (old.0, kept_there a.told k n told old.0 other old.1, old.2))
      ];
    } in
    subst (λ (l : List (Option Channel)). ToldBelow slots (suc k) (ending_of l b.files b.told)) (sym ends.slots)
    (subst (λ (l : List ChannelEnd). ToldBelow slots (suc k) (ending_of (slice_set a.slots k (Some ends.after)) b.files l)) (sym ends.at) put)

told_below : (slots : List (Option Channel)) (files : FilesTold) (time : ℕ) (dump : Option (List ℕ)) (k : ℕ) (b : EndingMoment) → length slots ≤ channel_limit → InTurn (λ n. EndsSlotAt time dump n) k (ending_of slots files ends_idle) b → ToldBelow slots k b
told_below slots files time dump zero b few same = subst (λ (m : EndingMoment). ToldBelow slots 0 m) (sym same) (record { wide = refl; still = λ n c from at. at; told = λ n c early at. absurd (omega (arith, early)) })
told_below slots files time dump (suc k) b few turns = told_one slots time dump k (slot_at turns.0.slots k) turns.0 b few refl turns.2 (told_below slots files time dump k turns.0 few turns.1)

-- The names that are stopped.

-- the run of a channel is one that is stopped now
stopped_now : (f : LoggerFinish) (time : ℕ) (ends : EndsFiles f time) → (turns : List MemberTurn) (stops : StopsOpenRuns f.dumps.stop f.slots turns) → (n : ℕ) (c : Channel) (opened : ChannelRun) → slot_at f.slots n ≡ Some c → channel_run c.stage ≡ Some opened
    → IsStoppedRunOf (stop_answered stops.order f.dumps.stop ends.told stops.earlier) opened.run ends.told
stopped_now f time ends turns stops n c opened there of =
    let order : Order = stops.order in
    let dump : Option (List ℕ) = f.dumps.stop in
    let found = stops.runs n c opened there of in
    let begun : IsAcceptedStart (logger_turn Stop order dump None ∷ stops.earlier) order.start found.0 = subst (λ (l : List MemberTurn). IsAcceptedStart l order.start found.0) stops.latest found.1 in
    record {
      begin = found.0;
      stop = logger_turn Stop order dump (Some (Yes (Channels ends.told)));
      is_start = across order dump None (Some (Yes (Channels ends.told))) stops.earlier order.start found.0 begun;
      number = found.2;
      stands = inl refl;
      is = refl;
      answered = refl;
    }

open_stopped : (f : LoggerFinish) (time : ℕ) (ends : EndsFiles f time) → length f.slots ≤ channel_limit → (turns : List MemberTurn) (stops : StopsOpenRuns f.dumps.stop f.slots turns) (name : List ℕ) → IsOpenName f.slots name
    → IsStoppedName (specs_in f.slots) (stop_answered stops.order f.dumps.stop ends.told stops.earlier) name
open_stopped f time ends few turns stops name o =
    let told : ToldBelow f.slots (length f.slots) (ending_of f.later_slots f.later_files ends.told) = told_below f.slots f.files time f.dumps.stop (length f.slots) _ few ends.ends in
    let its = told.told o.number o.channel (slot_within f.slots o.number o.channel o.there) o.there in
    record {
      number = o.number;
      spec = o.channel.spec;
      there = spec_at f.slots o.number o.channel o.there;
      run = o.opened.run;
      ends = ends.told;
      stopped = stopped_now f time ends turns stops o.number o.channel o.opened o.there o.of;
      told = its.0;
      at = its.1;
      sub = o.sub;
      made = subst (λ (k : ℕ). o.sub < k) (sym its.2) o.made;
      is = o.is;
    }

answered_undone : (order : Order) (dump : Option (List ℕ)) (told : List ChannelEnd) (earlier : List MemberTurn) (run : ℕ) → IsUndoneRun (logger_turn Stop order dump None ∷ earlier) run → IsUndoneRun (stop_answered order dump told earlier) run
answered_undone order dump told earlier run is = record {
  begin = is.begin;
  stands = kept is.begin Start (λ e. cc (e)) is.stands is.is;
  is = is.is;
  number = is.number;
  undone = elim is.undone as (λ w. ((why : Why) × (is.begin.answer ≡ Some (No why))) ⊎ ((off : MemberTurn) × HasTurnOf (stop_answered order dump told earlier) StartAbort is.begin.order.start off)) [
    | inl refused ↦ inl refused
    | inr off ↦ inr (off.0, record { stands = kept off.0 StartAbort (λ e. cc (e)) off.1.stands off.1.is; is = off.1.is; of = off.1.of })
  ];
}
  where
    kept : (t : MemberTurn) (kind : Transition) → Stop ≢ kind → HasTurn (logger_turn Stop order dump None ∷ earlier) t → t.transition ≡ kind → HasTurn (stop_answered order dump told earlier) t
    kept t kind other (inl same) is_kind = absurd (other (ap (λ (u : MemberTurn). u.transition) same ∙ is_kind))
    kept t kind other (inr old) is_kind = inr old

finished_names : FileChanges → (f : LoggerFinish) (first : FilesTold) (turns : List MemberTurn) (time : ℕ) → FinishesLogger f → length f.slots ≤ channel_limit → HaveFilesOpen f.slots f.files.seen → EndsFiles f time → StopsOpenRuns f.dumps.stop f.slots turns → KeepsNames f.slots first f.files turns
    → KeepsNames f.later_slots first f.later_files (latest_answered turns f.answer)
finished_names laws f first turns time finishes few open_files ends stops keeps =
    let dump : Option (List ℕ) = f.dumps.stop in
    let earlier : List MemberTurn = stops.earlier in
    let old : List MemberTurn = logger_turn Stop stops.order dump None ∷ earlier in
    let later : List MemberTurn = stop_answered stops.order dump ends.told earlier in
    let kept : KeepsNames f.slots first f.files old = subst (λ (l : List MemberTurn). KeepsNames f.slots first f.files l) stops.latest keeps in
    let leaves = finish_leaves laws [] f finishes open_files in
    let specs : List (Option ChannelSpec) = specs_in f.slots in
    let before : Type 0 = HasUntoldFault f.slots old first f.files in
    let behind : Type 0 = HasUntoldFault f.later_slots later first f.later_files in
    let none_told : faults_told old ≡ 0 + faults_told earlier = sum_by-cons (λ (u : MemberTurn). count_in_answer faults_of_answer u.answer) (logger_turn Stop stops.order dump None) earlier in
    let undone_old : starts_undone old ≡ 0 + starts_undone earlier = sum_by-cons (λ (u : MemberTurn). undone_by u.transition u.answer) (logger_turn Stop stops.order dump None) earlier in
    let undone_later : starts_undone later ≡ 0 + starts_undone earlier = sum_by-cons (λ (u : MemberTurn). undone_by u.transition u.answer) (logger_turn Stop stops.order dump (Some (Yes (Channels ends.told)))) earlier in
    let more : before → behind = λ untold.
    untold_more (sum_by faults_of_end ends.told) 0 f.slots f.later_slots earlier (logger_turn Stop stops.order dump (Some (Yes (Channels ends.told)))) first f.files f.later_files refl (ends_all f time ends)
    (RoseBy-fewer (faults_told earlier + broken_off f.slots + 1) (faults_told old + broken_off f.slots + 1) first.faults f.files.faults (omega (arith, none_told)) untold) in
    let ended : (n : ℕ) (c : Channel) (opened : ChannelRun) → slot_at f.slots n ≡ Some c → channel_run c.stage ≡ Some opened → IsStoppedRunOf later opened.run ends.told = λ n c opened there of. stopped_now f time ends turns stops n c opened there of in
    let faults = finish_faults f first (logger_turn Stop stops.order dump None) (logger_turn Stop stops.order dump (Some (Yes (Channels ends.told)))) earlier (finish_stays f time ends) (finish_named f time ends few later ended) (finish_off f time ends few later ended) leaves.specs
    (answered_more stops.order dump ends.told earlier) (answered_undone stops.order dump ends.told earlier) (λ why e. cc (e)) kept.fault_known kept.faults_named in
    let done : KeepsNames f.later_slots first f.later_files later = record {
      told = leaves.names ∙ keeps.told;
      names = λ tells.
          let left : NamesLeft (IsNameLeft behind specs later first.seen) f.slots f.files.seen =
          left_more (IsNameLeft before specs old first.seen) (IsNameLeft behind specs later first.seen) f.slots f.files.seen
          (name_more specs old later first.seen (record { untold = more; stopped = answered_more stops.order dump ends.told earlier; undone = answered_undone stops.order dump ends.told earlier })) (kept.names tells) in
          subst (λ (s : List (Option ChannelSpec)). NamesLeft (IsNameLeft behind s later first.seen) f.later_slots f.later_files.seen) (sym leaves.specs)
          (ends_left laws.closes (IsNameLeft behind specs later first.seen) f time ends open_files
          (λ name open_ x. inr (free_name behind specs later first.seen name (left.fresh name open_), inl (open_stopped f time ends few turns stops name open_))) left);
      found = λ tells.
          subst (λ (s : List (Option ChannelSpec)). EachFindsNames behind s first.seen later) (sym leaves.specs)
          (found_more specs first.seen later more (record { taken = λ number e. absurd (cc (e)); free = λ starts tally e. absurd (cc (starts)) }, (kept.found tells).1));
      first_fault = finish_fault f time ends few first old later (undone_later ∙ sym undone_old) (answered_more stops.order dump ends.told earlier) (λ n c opened there of. stopped_now f time ends turns stops n c opened there of) leaves.specs kept.first_fault;
      fault_known = faults.0;
      faults_named = faults.1;
    } in
    let answered : KeepsNames f.later_slots first f.later_files (latest_answered old (Some (Yes (Channels ends.told)))) = done in
    rw ends.answer_is (subst (λ (l : List MemberTurn). KeepsNames f.later_slots first f.later_files (latest_answered l (Some (Yes (Channels ends.told))))) (sym stops.latest) answered)

finish_by : FileChanges → (f : LoggerFinish) (first : FilesTold) (turns : List MemberTurn) (settled : Bool) (stop : Option ℕ) → FinishesLogger f → waiting_stop f.run ≡ stop → length f.slots ≤ channel_limit → HaveFilesOpen f.slots f.files.seen → FinishesBy settled stop f
    → HaveStoppedRuns f.run f.dumps.stop f.slots turns → KeepsNames f.slots first f.files turns → KeepsNames f.later_slots first f.later_files (latest_answered turns f.answer)
finish_by laws f first turns settled None finishes waits few open_files leaves stopped keeps = rw (leaves.answer_is, leaves.slots, leaves.files) keeps
finish_by laws f first turns false (Some time) finishes waits few open_files leaves stopped keeps = rw (leaves.answer_is, leaves.slots, leaves.files) keeps
finish_by laws f first turns true (Some time) finishes waits few open_files ends stopped keeps = finished_names laws f first turns time finishes few open_files ends (stopped time waits) keeps

pub finishes_keep_names : FileChanges → FinishesKeepNames
finishes_keep_names laws f first turns finishes few open_files stopped keeps = finish_by laws f first turns (list_all is_settled_slot f.slots) (waiting_stop f.run) finishes refl few open_files finishes stopped keeps
