-- What a logger keeps behind a pull.
use Rattle.std.specs.Prelude.{◌≡◌, ◌<◌, ℕ, Bool, true, false, nat_lt, List, [], unwrap_or, length, slice_get, slice_set, Option, Some, None, ◌⊎◌, refl}
use Rattle.std.proofs.Common.{ap, sym, subst, ◌∙◌, arith, inl, inr}
use Rattle.std.proofs.lemmas.List.{length-set}
use Rattle.daq_types.specs.declared.events.Event.{Event}
use Rattle.buffer_core.specs.declared.entry.BufferEntry.{BufferEntry}
use Rattle.buffer_core.specs.declared.replies.Received.{Received}
use Rattle.buffer_core.specs.declared.replies.Received.TheVariants.{Got, Empty, NoClient, SmallBuf}
use Rattle.buffer_core.specs.Ports.{Access}
use Rattle.buffer_core.specs.Slots.{slot_at}
use Rattle.member_model.specs.Turns.{MemberTurn}
use Rattle.mid_logger.specs.declared.channel.Channel.{Channel}
use Rattle.mid_logger.specs.declared.channel_spec.ChannelSpec.{ChannelSpec}
use Rattle.mid_logger.specs.declared.pulled.Pulled.{Pulled}
use Rattle.mid_logger.specs.declared.stage.BegunRun.{BegunRun}
use Rattle.mid_logger.specs.declared.stage.ChannelRun.{ChannelRun}
use Rattle.sub_files.specs.declared.open_file.Fallen.{Fallen}
use Rattle.sub_files.specs.declared.open_file.OpenFile.{OpenFile}
use Rattle.mid_logger.specs.declared.stage.ChannelStage.{ChannelStage}
use Rattle.mid_logger.specs.declared.stage.ChannelStage.TheVariants.{Idle, Asking, Writing, Draining, Drained, Broken}
use Rattle.mid_logger.specs.Channels.{run_begun, stage_at, reading_run, is_behind_end}
use Rattle.mid_logger.specs.Pulls.{PullOf, TakesBy, FindsNone, TakesReply, PullsOnce, PullsIn, Pulls, drains_at_none}
use Rattle.loggers.specs.declared.logged_run.LoggedRun.{LoggedRun}
use Rattle.loggers.specs.declared.logged_run.RunDumps.{RunDumps}
use Rattle.loggers.specs.declared.logged_run.RunPart.{RunPart}
use Rattle.loggers.specs.declared.logged_run.RunPart.TheVariants.{Refused, Started, Stopping}
use Rattle.loggers.specs.Moments.{LoggerMoment, StepsChannel, IsLoggerReady}
use Rattle.loggers.specs.ChannelSteps.{PullsChannel}
use Rattle.loggers.specs.SlotPulls.{PullsSlot}
use Rattle.loggers.specs.LoggerStands.{IsEndedSo, IsEndedRun, IsStartedStage, IsStoppingStage, IsStagePart, IsStageOf, HasHead, IsHeadTold, LoggerHolds}
use Rattle.loggers.proofs.SlotLists.{one_changed, got_there, got_elsewhere, same_or_other}
use Rattle.loggers.proofs.PullMoves.{GrowsOn, FitsDump, PullLaws, pull_grows, ended_stays, pull_stands, pull_knows}

-- Stages.

-- the stage is that of the run that broke off
abbrev BrokeOff : (run : BegunRun) → (later : ChannelStage) → Type 0
BrokeOff run later = (fallen : Fallen) × (later ≡ Broken run fallen)

-- the stage is the same, or but for the file that is being written
abbrev GoesOn : (stage later : ChannelStage) → Type 0
GoesOn stage later = (later ≡ stage) ⊎ ((at : OpenFile) × (later ≡ stage_at stage at))

-- the stage behind a pull: it goes on, or is that of the run that was read
abbrev StageBehind : (run : BegunRun) → (drains : Bool) → (stage later : ChannelStage) → Type 0
StageBehind run true stage later = GoesOn stage later ⊎ ((later ≡ Drained run) ⊎ BrokeOff run later)
StageBehind run false stage later = GoesOn stage later ⊎ BrokeOff run later

takes_stage : (p : PullOf) (run : BegunRun) (place : ℕ) (e : Event) (early : Bool) → TakesBy false early p run place e → GoesOn p.stage p.later_stage ⊎ BrokeOff run p.later_stage
takes_stage p run place e true takes = inl (inl takes.stage)
takes_stage p run place e false takes = elim takes as (λ w. GoesOn p.stage p.later_stage ⊎ BrokeOff run p.later_stage) [
  | inl writes ↦ inl (inr (writes.at, writes.stage))
  | inr breaks ↦ inr (breaks.fallen, breaks.stage)
]

or_broken : (run : BegunRun) (stage later : ChannelStage) → GoesOn stage later ⊎ BrokeOff run later → StageBehind run true stage later
or_broken run stage later either = elim either as (λ w. GoesOn stage later ⊎ ((later ≡ Drained run) ⊎ BrokeOff run later)) [
  | inl same ↦ inl same
  | inr broken ↦ inr (inr broken)
]

takes_any : (p : PullOf) (run : BegunRun) (place : ℕ) (e : Event) (behind early : Bool) → TakesBy behind early p run place e → StageBehind run true p.stage p.later_stage
takes_any p run place e true early takes = inr (inl takes.stage)
takes_any p run place e false early takes = or_broken run p.stage p.later_stage (takes_stage p run place e early takes)

writing_reply : (p : PullOf) (opened : ChannelRun) (begun : ℕ) (reply : Received) (e : Event) → p.stage ≡ Writing opened begun → TakesReply p (run_begun opened begun) reply e → StageBehind (run_begun opened begun) false p.stage p.later_stage
writing_reply p opened begun (Got place start) e is taken = takes_stage p (run_begun opened begun) place e (nat_lt place begun) taken
writing_reply p opened begun (Empty gate last) e is taken =
    let found : FindsNone false p (run_begun opened begun) = subst (λ (s : ChannelStage). FindsNone (drains_at_none s) p (run_begun opened begun)) is taken in
    inl (inl found.stage)
writing_reply p opened begun NoClient e is taken = inl (inl taken.stage)
writing_reply p opened begun (SmallBuf need) e is taken = absurd taken

draining_reply : (p : PullOf) (run : BegunRun) (reply : Received) (e : Event) → p.stage ≡ Draining run → TakesReply p run reply e → StageBehind run true p.stage p.later_stage
draining_reply p run (Got place start) e is taken = takes_any p run place e (is_behind_end run.ended place) (nat_lt place run.begun) taken
draining_reply p run (Empty gate last) e is taken =
    let found : FindsNone true p run = subst (λ (s : ChannelStage). FindsNone (drains_at_none s) p run) is taken in
    inr (inl found.stage)
draining_reply p run NoClient e is taken = inl (inl taken.stage)
draining_reply p run (SmallBuf need) e is taken = absurd taken

-- The stage of a channel, in the run that the logger has.

ended_grown : (turns : List MemberTurn) (x y : Access) (start : ℕ) (run : BegunRun) → GrowsOn x y → IsEndedRun turns x.own start run → IsEndedRun turns y.own start run
ended_grown turns x y start run grows is = record {
  of = is.of;
  so = λ are. subst (λ (l : List BufferEntry). IsEndedSo l start run.ended) (sym grows.own) (ended_stays x.own grows.more start run.ended grows.quiet (is.so are));
}

stopping_grown : (turns : List MemberTurn) (x y : Access) (start : ℕ) (stage : ChannelStage) → GrowsOn x y → IsStoppingStage turns x.own start stage → IsStoppingStage turns y.own start stage
stopping_grown turns x y start Idle grows is = absurd is
stopping_grown turns x y start (Asking opened) grows is = absurd is
stopping_grown turns x y start (Writing opened begun) grows is = absurd is
stopping_grown turns x y start (Draining run) grows is = ended_grown turns x y start run grows is
stopping_grown turns x y start (Drained run) grows is = ended_grown turns x y start run grows is
stopping_grown turns x y start (Broken run fallen) grows is = ended_grown turns x y start run grows is

part_grown : (turns : List MemberTurn) (x y : Access) (part : RunPart) (start : ℕ) (stage : ChannelStage) → GrowsOn x y → IsStagePart part turns x.own start stage → IsStagePart part turns y.own start stage
part_grown turns x y Refused start stage grows is = is
part_grown turns x y Started start stage grows is = is
part_grown turns x y (Stopping time) start stage grows is = stopping_grown turns x y start stage grows is

-- what another channel's calls on the buffer leave
pub stage_grown : (run : Option LoggedRun) (turns : List MemberTurn) (x y : Access) (stage : ChannelStage) → GrowsOn x y → IsStageOf run turns x.own stage → IsStageOf run turns y.own stage
stage_grown None turns x y stage grows is = is
stage_grown (Some r) turns x y stage grows is = part_grown turns x y r.part r.start stage grows is

-- a pull where the channel reads nothing leaves its stage
unread : (p : PullOf) (room : ℕ) → reading_run p.stage ≡ None → Pulls p room → p.later_stage ≡ p.stage
unread p room none pulls = let leaves = subst (λ (o : Option BegunRun). PullsIn o p room) none pulls in leaves.stage

once_reply : (p : PullOf) (room : ℕ) (run : BegunRun) → reading_run p.stage ≡ Some run → Pulls p room → PullsOnce p run room
once_reply p room run reads pulls = subst (λ (o : Option BegunRun). PullsIn o p room) reads pulls

-- a run that goes on, goes on whichever file is written
started_at : (start : ℕ) (stage : ChannelStage) (at : OpenFile) → IsStartedStage start stage → IsStartedStage start (stage_at stage at)
started_at start Idle at is = is
started_at start (Asking opened) at is = is
started_at start (Writing opened begun) at is = is
started_at start (Draining run) at is = absurd is
started_at start (Drained run) at is = is
started_at start (Broken run fallen) at is = is

stopping_at : (turns : List MemberTurn) (own : List BufferEntry) (start : ℕ) (stage : ChannelStage) (at : OpenFile) → IsStoppingStage turns own start stage → IsStoppingStage turns own start (stage_at stage at)
stopping_at turns own start Idle at is = is
stopping_at turns own start (Asking opened) at is = is
stopping_at turns own start (Writing opened begun) at is = absurd is
stopping_at turns own start (Draining run) at is = record { of = is.of; so = is.so }
stopping_at turns own start (Drained run) at is = is
stopping_at turns own start (Broken run fallen) at is = is

-- so it is with a stage that goes on
goes_on : (P : ChannelStage → Type 0) (stage later : ChannelStage) → P stage → ((at : OpenFile) → P (stage_at stage at)) → GoesOn stage later → P later
goes_on P stage later same moved either = elim either as (λ w. P later) [
  | inl is ↦ subst P (sym is) same
  | inr at ↦ subst P (sym at.1) (moved at.0)
]

started_pulled : (p : PullOf) (room start : ℕ) (stage : ChannelStage) → p.stage ≡ stage → Pulls p room → IsStartedStage start stage → IsStartedStage start p.later_stage
started_pulled p room start Idle is pulls at = absurd at
started_pulled p room start (Asking opened) is pulls at = absurd at
started_pulled p room start (Writing opened begun) is pulls at =
    let once : PullsOnce p (run_begun opened begun) room = once_reply p room (run_begun opened begun) (ap (λ (s : ChannelStage). reading_run s) is) pulls in
    elim (writing_reply (record p { port = once.middle }) opened begun once.reply once.event is once.taken) as (λ w. IsStartedStage start p.later_stage) [
      | inl on ↦ let now : IsStartedStage start p.stage = subst (λ (s : ChannelStage). IsStartedStage start s) (sym is) at in goes_on (λ s. IsStartedStage start s) p.stage p.later_stage now (λ file. started_at start p.stage file now) on
      | inr broken ↦ subst (λ (s : ChannelStage). IsStartedStage start s) (sym broken.1) (record { of = at; on = refl })
    ]
started_pulled p room start (Draining run) is pulls at = absurd at
started_pulled p room start (Drained run) is pulls at = absurd at
started_pulled p room start (Broken run fallen) is pulls at = subst (λ (s : ChannelStage). IsStartedStage start s) (sym (unread p room (ap (λ (s : ChannelStage). reading_run s) is) pulls ∙ is)) at

stopping_pulled : (turns : List MemberTurn) (own : List BufferEntry) (p : PullOf) (room start : ℕ) (stage : ChannelStage) → p.stage ≡ stage → Pulls p room → IsStoppingStage turns own start stage → IsStoppingStage turns own start p.later_stage
stopping_pulled turns own p room start Idle is pulls at = absurd at
stopping_pulled turns own p room start (Asking opened) is pulls at = absurd at
stopping_pulled turns own p room start (Writing opened begun) is pulls at = absurd at
stopping_pulled turns own p room start (Draining run) is pulls at =
    let once : PullsOnce p run room = once_reply p room run (ap (λ (s : ChannelStage). reading_run s) is) pulls in
    elim (draining_reply (record p { port = once.middle }) run once.reply once.event is once.taken) as (λ w. IsStoppingStage turns own start p.later_stage) [
      | inl on ↦
          let now : IsStoppingStage turns own start p.stage = subst (λ (s : ChannelStage). IsStoppingStage turns own start s) (sym is) at in
          goes_on (λ s. IsStoppingStage turns own start s) p.stage p.later_stage now (λ file. stopping_at turns own start p.stage file now) on
      | inr done ↦ elim done as (λ w. IsStoppingStage turns own start p.later_stage) [
        | inl drained ↦ subst (λ (s : ChannelStage). IsStoppingStage turns own start s) (sym drained) at
        | inr broken ↦ subst (λ (s : ChannelStage). IsStoppingStage turns own start s) (sym broken.1) at
      ]
    ]
stopping_pulled turns own p room start (Drained run) is pulls at = subst (λ (s : ChannelStage). IsStoppingStage turns own start s) (sym (unread p room (ap (λ (s : ChannelStage). reading_run s) is) pulls ∙ is)) at
stopping_pulled turns own p room start (Broken run fallen) is pulls at = subst (λ (s : ChannelStage). IsStoppingStage turns own start s) (sym (unread p room (ap (λ (s : ChannelStage). reading_run s) is) pulls ∙ is)) at

part_pulled : (turns : List MemberTurn) (own : List BufferEntry) (p : PullOf) (room : ℕ) (part : RunPart) (start : ℕ) → Pulls p room → IsStagePart part turns own start p.stage → IsStagePart part turns own start p.later_stage
part_pulled turns own p room Refused start pulls at = unread p room (ap (λ (s : ChannelStage). reading_run s) at) pulls ∙ at
part_pulled turns own p room Started start pulls at = started_pulled p room start p.stage refl pulls at
part_pulled turns own p room (Stopping time) start pulls at = stopping_pulled turns own p room start p.stage refl pulls at

pub stage_pulled : (run : Option LoggedRun) (turns : List MemberTurn) (own : List BufferEntry) (p : PullOf) (room : ℕ) → Pulls p room → IsStageOf run turns own p.stage → IsStageOf run turns own p.later_stage
stage_pulled None turns own p room pulls at = unread p room (ap (λ (s : ChannelStage). reading_run s) at) pulls ∙ at
stage_pulled (Some r) turns own p room pulls at = part_pulled turns own p room r.part r.start pulls at

-- The logger.

-- the heads of the runs' files have the dump that is kept
head_fits : (turns : List MemberTurn) (dumps : RunDumps) → FitsDump (IsHeadTold turns dumps) (unwrap_or dumps.start [])
head_fits turns dumps = record {
  of = λ opened head has. has.kept;
  any = λ r s head same has. record { has = subst (λ (n : ℕ). HasHead turns n head) (sym (ap (λ (x : ChannelRun). x.start) same)) has.has; kept = has.kept };
}

pulled_here : PullLaws → (run : Option LoggedRun) (dumps : RunDumps) (turns : List MemberTurn) (answer : Pulled) (n : ℕ) (before : Channel) (a b : LoggerMoment) → slot_at a.slots n ≡ Some before → IsLoggerReady a.slots a.ports a.files.seen
    → StepsChannel (PullsChannel (unwrap_or dumps.start []) answer) n before a b → LoggerHolds run dumps a.slots a.ports turns a.files.seen → LoggerHolds run dumps b.slots b.ports turns b.files.seen
pulled_here laws run dumps turns answer n before a b there ready s stands =
    let dump : List ℕ = unwrap_or dumps.start [] in
    let p : PullOf = record { spec = before.spec; dump = dump; stage = before.stage; later_stage = s.after.stage; port = s.port; later_port = s.later_port; files = a.files.seen; later_files = b.files.seen; answer = answer } in
    let grows : GrowsOn s.port s.later_port = pull_grows p before.event.room s.step.pulls in
    let ports : List Access = slice_set a.ports before.spec.buffer s.later_port in
    let slots : List (Option Channel) = slice_set a.slots n (Some s.after) in
    let put : slice_get ports before.spec.buffer ≡ Some s.later_port = got_there a.ports before.spec.buffer s.port s.later_port s.at_port in
    record {
      standing = pull_stands laws (IsHeadTold turns dumps) turns dump answer n before a b (head_fits turns dumps) there ready s stands.standing;
      taken = pull_knows laws (IsHeadTold turns dumps) turns dump answer n before a b (head_fits turns dumps) there s ready stands.standing stands.taken;
      served = rw (s.slots, s.ports) (λ m c stood. omega (
        arith,
        length-set a.ports before.spec.buffer s.later_port,
        one_changed (λ k x. x.spec.buffer < length a.ports) a.slots n s.after (λ x e. subst (λ (sp : ChannelSpec). sp.buffer < length a.ports) (sym s.step.spec) (stands.served n before there)) (λ k x other e. stands.served k x e) before there m c stood,
      ));
      stages = rw (s.slots, s.ports) (λ m c x stood at.
          one_changed (λ k z. (y : Access) → slice_get ports z.spec.buffer ≡ Some y → IsStageOf run turns y.own z.stage) a.slots n s.after
          (λ z here y at_y.
          let at_buffer : slice_get ports before.spec.buffer ≡ Some y = subst (λ (sp : ChannelSpec). slice_get ports sp.buffer ≡ Some y) s.step.spec at_y in
          let is : s.later_port ≡ y = cc (put, at_buffer) in
          subst (λ (w : Access). IsStageOf run turns w.own s.after.stage) is
          (stage_pulled run turns s.later_port.own p before.event.room s.step.pulls (stage_grown run turns s.port s.later_port before.stage grows (stands.stages n before s.port there s.at_port))))
          (λ k z other here y at_y. elim (same_or_other z.spec.buffer before.spec.buffer) as (λ w. IsStageOf run turns y.own z.stage) [
            | inl same ↦
                let is : s.later_port ≡ y = cc (put, same, at_y) in
                let old_port : slice_get a.ports z.spec.buffer ≡ Some s.port = subst (λ (j : ℕ). slice_get a.ports j ≡ Some s.port) (sym same) s.at_port in
                subst (λ (w : Access). IsStageOf run turns w.own z.stage) is (stage_grown run turns s.port s.later_port z.stage grows (stands.stages k z s.port here old_port))
            | inr miss ↦ stands.stages k z y here (got_elsewhere a.ports before.spec.buffer z.spec.buffer s.later_port y miss at_y)
          ])
          before there m c stood x at);
      starts = stands.starts;
      stops = stands.stops;
      told = stands.told;
      current = stands.current;
      not_off = stands.not_off;
      going = stands.going;
      unready = stands.unready;
    }

pub pulled_stands : PullLaws → (run : Option LoggedRun) (dumps : RunDumps) (turns : List MemberTurn) (dump : List ℕ) (answer : Pulled) (n : ℕ) (slot : Option Channel) (a b : LoggerMoment) → dump ≡ unwrap_or dumps.start [] → slot_at a.slots n ≡ slot → IsLoggerReady a.slots a.ports a.files.seen
    → PullsSlot dump slot n answer a b → LoggerHolds run dumps a.slots a.ports turns a.files.seen → LoggerHolds run dumps b.slots b.ports turns b.files.seen
pulled_stands laws run dumps turns dump answer n None a b kept there ready pulls stands = subst (λ (m : LoggerMoment). LoggerHolds run dumps m.slots m.ports turns m.files.seen) (sym pulls.1) stands
pulled_stands laws run dumps turns dump answer n (Some before) a b kept there ready pulls stands =
    pulled_here laws run dumps turns answer n before a b there ready (subst (λ (d : List ℕ). StepsChannel (PullsChannel d answer) n before a b) kept pulls) stands
