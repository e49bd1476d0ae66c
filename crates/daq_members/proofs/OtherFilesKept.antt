-- A turn of the logger in a session leaves all files but those of its channels in the runs that it was told to start.
use Rattle.std.specs.Prelude.{◌≡◌, ◌<◌, ℕ, zero, suc, Bool, List, [], ◌∷◌, ◌++◌, length, slice_get, Contains, Option, Some, None, refl}
use Rattle.std.proofs.Common.{ap, sym, subst, ◌∙◌, arith, inl, inr}
use Rattle.std.proofs.lemmas.List.Elements.{Contains-append_left, Contains-append_right}
use Rattle.daq_types.specs.declared.runs.Transition.{Transition}
use Rattle.daq_types.specs.declared.runs.Transition.TheVariants.{Start, Stop, Pause, Resume, StartAbort}
use Rattle.daq_io.specs.Seen.{Seen}
use Rattle.daq_io.proofs.SeenLaws.{on_same, on_then}
use Rattle.buffer_core.specs.declared.entry.BufferEntry.{BufferEntry}
use Rattle.buffer_core.specs.Ports.{Access, GotEvent}
use Rattle.member_model.specs.RunEngines.{Answer, Polled}
use Rattle.transitions.specs.declared.replies.Polled.TheVariants.{Turn, Idle as NoTurn, Closed, NoClient}
use Rattle.member_model.specs.Turns.{MemberTurn, HasTurn, latest_answered}
use Rattle.member_model.specs.TurnCalls.{member_turns}
use Rattle.mid_logger.specs.declared.channel.Channel.{Channel}
use Rattle.mid_logger.specs.declared.channel_spec.ChannelSpec.{ChannelSpec}
use Rattle.mid_logger.specs.declared.stage.ChannelRun.{ChannelRun}
use Rattle.mid_logger.specs.declared.stage.ChannelStage.{ChannelStage}
use Rattle.mid_logger.specs.declared.stage.ChannelStage.TheVariants.{Idle, Asking, Writing, Draining, Drained, Broken}
use Rattle.mid_logger.specs.Channels.{FileHead, FilesHold, FilesLeft, StageWith, channel_run}
use Rattle.loggers.specs.declared.logged_run.LoggedRun.{LoggedRun}
use Rattle.loggers.specs.declared.logged_run.RunDumps.{RunDumps}
use Rattle.loggers.specs.Moments.{LoggerMoment, IsLoggerReady, HaveFilesOpen}
use Rattle.loggers.specs.Turning.{LoggerTurn, TakesTurn}
use Rattle.loggers.specs.Finishing.{LoggerFinish, FinishesLogger}
use Rattle.loggers.specs.LoggerStands.{LoggerStands, HasHead, ChannelKept, IsHeadTold}
use Rattle.loggers.specs.OtherFiles.{specs_in, IsRunName, HaveRunsAmong, KeepsOtherFiles, LeavesOtherFiles, TurnsLeaveFiles, PullsLeaveFiles, FinishesLeaveFiles}
use Rattle.daq_members.specs.OwnTurns.{start_owed}
use Rattle.daq_members.specs.StartedRuns.{runs_with, started_runs}
use Rattle.daq_members.specs.LoggerTaken.{LoggerTaken, PullsBelow, TakesLoggerBy, TakesLogger, pulled_channels}
use Rattle.daq_members.proofs.OwnTurnLaws.{taken_turns, finished_turns, idle_turns, closed_turns, unknown_turns}

-- Runs that turns start.

later_run : (t : Transition) (run n : ℕ) (runs : List ℕ) → Contains runs n → Contains (runs_with t run runs) n
later_run Start run n runs has = (suc has.0, omega (arith, has.1), has.2)
later_run Stop run n runs has = has
later_run Pause run n runs has = has
later_run Resume run n runs has = has
later_run StartAbort run n runs has = has

this_run : (t : Transition) (run : ℕ) (runs : List ℕ) → t ≡ Start → Contains (runs_with t run runs) run
this_run t run runs is = subst (λ (k : Transition). Contains (runs_with k run runs) run) (sym is) (0, omega arith, refl)

has_started : (ts : List MemberTurn) (t : MemberTurn) → HasTurn ts t → t.transition ≡ Start → Contains (started_runs ts) t.order.run
has_started [] t has is = absurd has
has_started (u ∷ us) t has is = elim has as (λ w. Contains (started_runs (u ∷ us)) t.order.run) [
  | inl same ↦
      subst (λ (n : ℕ). Contains (started_runs (u ∷ us)) n) (ap (λ (x : MemberTurn). x.order.run) same)
      (this_run u.transition u.order.run (started_runs us) (ap (λ (x : MemberTurn). x.transition) same ∙ is))
  | inr later ↦ later_run u.transition u.order.run t.order.run (started_runs us) (has_started us t later is)
]

answered_runs : (ts : List MemberTurn) (answer : Option Answer) → started_runs (latest_answered ts answer) ≡ started_runs ts
answered_runs ts None = refl
answered_runs [] (Some answer) = refl
answered_runs (t ∷ ts) (Some answer) = refl

-- The runs of the channels of a logger that stands are those of its turns.

head_run : (spec : ChannelSpec) (client : Option ℕ) (stage : ChannelStage) (head : FileHead) (own : List BufferEntry) (got : List GotEvent) (seen : Seen) (opened : ChannelRun) → StageWith (FilesHold spec head seen) (FilesLeft spec head seen) spec client stage own got → channel_run stage ≡ Some opened → head.run ≡ opened.run
head_run spec client Idle head own got seen opened at is = absurd (cc (is))
head_run spec client (Asking o) head own got seen opened at is = (let same : o ≡ opened = cc (is) in at.holds.run ∙ ap (λ (x : ChannelRun). x.run) same)
head_run spec client (Writing o begun) head own got seen opened at is = (let same : o ≡ opened = cc (is) in at.holds.run ∙ ap (λ (x : ChannelRun). x.run) same)
head_run spec client (Draining run) head own got seen opened at is = (let same : run.opened ≡ opened = cc (is) in at.holds.run ∙ ap (λ (x : ChannelRun). x.run) same)
head_run spec client (Drained run) head own got seen opened at is = (let same : run.opened ≡ opened = cc (is) in at.holds.run ∙ ap (λ (x : ChannelRun). x.run) same)
head_run spec client (Broken run fallen) head own got seen opened at is = (let same : run.opened ≡ opened = cc (is) in at.left.run ∙ ap (λ (x : ChannelRun). x.run) same)

port_there : (ports : List Access) (n : ℕ) → n < length ports → (a : Access) × (slice_get ports n ≡ Some a)
port_there [] n within = absurd (omega arith)
port_there (a ∷ as_) zero within = (a, refl)
port_there (a ∷ as_) (suc n) within = port_there as_ n (omega arith)

pub runs_held : (run : Option LoggedRun) (dumps : RunDumps) (slots : List (Option Channel)) (ports : List Access) (turns : List MemberTurn) (seen : Seen) → LoggerStands run dumps slots ports turns seen → HaveRunsAmong (started_runs turns) slots
runs_held run dumps slots ports turns seen stands n c opened at is =
    let port : (a : Access) × (slice_get ports c.spec.buffer ≡ Some a) = port_there ports c.spec.buffer (stands.holds.served n c at) in
    let kept : ChannelKept (IsHeadTold turns dumps) seen c port.0 = stands.holds.standing.channels n c port.0 at port.1 in
    let head : HasHead turns opened.start kept.head = (kept.headed opened is).has in
    let number : kept.head.run ≡ opened.run = head_run c.spec c.client c.stage kept.head port.0.own port.0.got seen opened kept.stands.at is in
    subst (λ (k : ℕ). Contains (started_runs turns) k) (sym head.run ∙ number) (has_started turns head.turn head.is_start.is_start.stands head.is_start.is_start.is)

-- One turn of its own.

-- the laws of a logger on the files that it leaves
pub record LoggerLeaves : Type 0 where
  pub turns : TurnsLeaveFiles
  pub pulls : PullsLeaveFiles
  pub finishes : FinishesLeaveFiles

-- the runs are those of the turns behind the calls, and maybe more
abbrev Covers : (runs : List ℕ) → LoggerTaken → Type 0
Covers runs t = (n : ℕ) → Contains (started_runs (member_turns t.client t.later_calls)) n → Contains runs n

abbrev pub Leaves : (runs : List ℕ) → LoggerMoment → LoggerMoment → Type 0
Leaves runs a b = LeavesOtherFiles runs a.slots b.slots a.files.seen b.files.seen

same_leaves : (runs : List ℕ) (a b : LoggerMoment) → b ≡ a → HaveRunsAmong runs a.slots → Leaves runs a b
same_leaves runs a b same held =
    subst (λ (m : LoggerMoment). Leaves runs a m) (sym same) (record { specs = refl; held = held; files = record { told = refl; on = on_same refl; others = λ name other. refl } })

leaves_then : (runs : List ℕ) (slots between later : List (Option Channel)) (old middle new : Seen) → LeavesOtherFiles runs slots between old middle → LeavesOtherFiles runs between later middle new → LeavesOtherFiles runs slots later old new
leaves_then runs slots between later old middle new first second = record {
  specs = second.specs ∙ first.specs;
  held = second.held;
  files = record {
    told = second.files.told ∙ first.files.told;
    on = on_then first.files.on second.files.on;
    others = λ name other.
        second.files.others name (λ is. other (subst (λ (specs : List (Option ChannelSpec)). IsRunName specs runs name) first.specs is)) ∙ first.files.others name other;
  };
}

-- behind pulls the logger is ready as before
pub record Pulled (runs : List ℕ) (a b : LoggerMoment) : Type 0 where
  pub left : Leaves runs a b
  pub ready : IsLoggerReady b.slots b.ports b.files.seen

pub pulled : PullsLeaveFiles → (runs dump : List ℕ) (n : ℕ) (got : Bool) (a b : LoggerMoment) → PullsBelow dump n got a b → IsLoggerReady a.slots a.ports a.files.seen → HaveRunsAmong runs a.slots → Pulled runs a b
pulled law runs dump zero got a b pulls ready held = record { left = same_leaves runs a b pulls.1 held; ready = subst (λ (m : LoggerMoment). IsLoggerReady m.slots m.ports m.files.seen) (sym pulls.1) ready }
pulled law runs dump (suc n) got a b pulls ready held =
    let m : LoggerMoment = pulls.0 in
    let first : Pulled runs a m = pulled law runs dump n pulls.1 a m pulls.3 ready held in
    let one = law runs dump n pulls.2 m b pulls.4 first.ready first.left.held in
    record { left = leaves_then runs a.slots m.slots b.slots a.files.seen m.files.seen b.files.seen first.left one.0; ready = one.1 }

takes_by : LoggerLeaves → (runs : List ℕ) (t : LoggerTaken) (reply : Polled) (owed : Option ℕ) → start_owed t.client t.calls ≡ owed → TakesLoggerBy reply owed t → IsLoggerReady t.before.slots t.before.ports t.before.files.seen → HaveRunsAmong runs t.before.slots → Covers runs t
    → Leaves runs t.before t.after
takes_by laws runs t Closed owed is leaves ready held covers = same_leaves runs t.before t.after leaves.moment held
takes_by laws runs t NoClient owed is leaves ready held covers = same_leaves runs t.before t.after leaves.moment held
takes_by laws runs t (NoTurn state) owed is works ready held covers = (pulled laws.pulls runs _ pulled_channels works.got t.before t.after works.pulls ready held).left
takes_by laws runs t (Turn transition order dump blank) None is taken ready held covers =
    let turns = taken_turns t.client t.calls _ t.later_calls transition order dump blank taken.answer is refl taken.gives in
    laws.turns runs _ taken.takes ready held
    (λ starts. covers order.run (subst (λ (ts : List MemberTurn). Contains (started_runs ts) order.run) (sym turns) (this_run transition order.run (started_runs (member_turns t.client t.calls)) starts)))
takes_by laws runs t (Turn transition order dump blank) (Some start) is ends ready held covers =
    let first : Pulled runs t.before ends.pulled = pulled laws.pulls runs _ pulled_channels ends.got t.before ends.pulled ends.pulls ready held in
    leaves_then runs t.before.slots ends.pulled.slots t.after.slots t.before.files.seen ends.pulled.files.seen t.after.files.seen first.left
    (laws.finishes runs _ ends.finishes first.ready.files first.left.held)

takes_leave : LoggerLeaves → (runs : List ℕ) (t : LoggerTaken) → TakesLogger t → IsLoggerReady t.before.slots t.before.ports t.before.files.seen → HaveRunsAmong runs t.before.slots → Covers runs t → Leaves runs t.before t.after
takes_leave laws runs t takes ready held covers = takes_by laws runs t takes.reply (start_owed t.client t.calls) refl takes.takes ready held covers

-- The channels stay.

run_list : Option ChannelRun → List ℕ
run_list None = []
run_list (Some opened) = opened.run ∷ []

slot_runs : List (Option Channel) → List ℕ
slot_runs [] = []
slot_runs (None ∷ slots) = slot_runs slots
slot_runs (Some c ∷ slots) = run_list (channel_run c.stage) ++ slot_runs slots

listed_run : (o : Option ChannelRun) (opened : ChannelRun) → o ≡ Some opened → Contains (run_list o) opened.run
unfolding run_list
listed_run None opened is = absurd (cc (is))
listed_run (Some r) opened is = (let same : r ≡ opened = cc (is) in (0, omega arith, ap (λ (x : ChannelRun). x.run) same))

slots_listed : (slots : List (Option Channel)) → HaveRunsAmong (slot_runs slots) slots
unfolding slot_runs
slots_listed [] n c opened at is = absurd (cc (at))
slots_listed (None ∷ slots) zero c opened at is = absurd (cc (at))
slots_listed (None ∷ slots) (suc n) c opened at is = slots_listed slots n c opened at is
slots_listed (Some x ∷ slots) zero c opened at is =
    let same : x ≡ c = cc (at) in
    Contains-append_left (run_list (channel_run x.stage)) (slot_runs slots) opened.run (listed_run (channel_run x.stage) opened (ap (λ (y : Channel). channel_run y.stage) same ∙ is))
slots_listed (Some x ∷ slots) (suc n) c opened at is = Contains-append_right (run_list (channel_run x.stage)) (slot_runs slots) opened.run (slots_listed slots n c opened at is)

pub specs_stay : LoggerLeaves → (t : LoggerTaken) → TakesLogger t → IsLoggerReady t.before.slots t.before.ports t.before.files.seen → specs_in t.after.slots ≡ specs_in t.before.slots
specs_stay laws t takes ready =
    let own : List ℕ = slot_runs t.before.slots in
    let told : List ℕ = started_runs (member_turns t.client t.later_calls) in
    (takes_leave laws (own ++ told) t takes ready (λ n c opened at is. Contains-append_left own told opened.run (slots_listed t.before.slots n c opened at is)) (λ n has. Contains-append_right own told n has)).specs

-- So they do in a turn that the engine gives, and in a call to finish.

pub turn_specs : TurnsLeaveFiles → (t : LoggerTurn) → TakesTurn t → IsLoggerReady t.before.slots t.before.ports t.before.files.seen → specs_in t.after.slots ≡ specs_in t.before.slots
turn_specs law t takes ready =
    let own : List ℕ = slot_runs t.before.slots in
    let told : List ℕ = t.order.run ∷ [] in
    (law (own ++ told) t takes ready (λ n c opened at is. Contains-append_left own told opened.run (slots_listed t.before.slots n c opened at is)) (λ starts. Contains-append_right own told t.order.run (0, omega arith, refl))).specs

pub finish_specs : FinishesLeaveFiles → (f : LoggerFinish) → FinishesLogger f → HaveFilesOpen f.slots f.files.seen → specs_in f.later_slots ≡ specs_in f.slots
finish_specs law f finishes open_ = (law (slot_runs f.slots) f finishes open_ (slots_listed f.slots)).specs

-- Other files stay.

turns_by : (t : LoggerTaken) (reply : Polled) (owed : Option ℕ) → start_owed t.client t.calls ≡ owed → TakesLoggerBy reply owed t → (n : ℕ) → Contains (started_runs (member_turns t.client t.calls)) n → Contains (started_runs (member_turns t.client t.later_calls)) n
turns_by t Closed owed is leaves n has = subst (λ (ts : List MemberTurn). Contains (started_runs ts) n) (sym (ap (member_turns t.client) leaves.asks ∙ closed_turns t.client t.calls)) has
turns_by t NoClient owed is leaves n has = subst (λ (ts : List MemberTurn). Contains (started_runs ts) n) (sym (ap (member_turns t.client) leaves.asks ∙ unknown_turns t.client t.calls)) has
turns_by t (NoTurn state) owed is works n has = subst (λ (ts : List MemberTurn). Contains (started_runs ts) n) (sym (ap (member_turns t.client) works.asks ∙ idle_turns t.client t.calls state)) has
turns_by t (Turn transition order dump blank) None is taken n has =
    subst (λ (ts : List MemberTurn). Contains (started_runs ts) n) (sym (taken_turns t.client t.calls _ t.later_calls transition order dump blank taken.answer is refl taken.gives))
    (later_run transition order.run n (started_runs (member_turns t.client t.calls)) has)
turns_by t (Turn transition order dump blank) (Some start) is ends n has =
    subst (λ (ts : List MemberTurn). Contains (started_runs ts) n) (sym (finished_turns t.client t.calls _ t.later_calls transition order dump blank start ends.answer is refl ends.gives))
    (subst (λ (runs : List ℕ). Contains runs n) (sym (answered_runs (member_turns t.client t.calls) ends.answer)) has)

more_runs : (specs : List (Option ChannelSpec)) (runs more : List ℕ) (name : List ℕ) → ((n : ℕ) → Contains runs n → Contains more n) → IsRunName specs runs name → IsRunName specs more name
more_runs specs runs more name covers is = record { number = is.number; spec = is.spec; there = is.there; run = is.run; among = covers is.run is.among; sub = is.sub; few = is.few; is = is.is }

pub others_kept : LoggerLeaves → (t : LoggerTaken) (first : Seen) → TakesLogger t → IsLoggerReady t.before.slots t.before.ports t.before.files.seen → LoggerStands t.run t.dumps t.before.slots t.before.ports (member_turns t.client t.calls) t.before.files.seen
    → KeepsOtherFiles (specs_in t.before.slots) (started_runs (member_turns t.client t.calls)) first t.before.files.seen → KeepsOtherFiles (specs_in t.after.slots) (started_runs (member_turns t.client t.later_calls)) first t.after.files.seen
others_kept laws t first takes ready stands kept =
    let early : List ℕ = started_runs (member_turns t.client t.calls) in
    let runs : List ℕ = started_runs (member_turns t.client t.later_calls) in
    let covers : (n : ℕ) → Contains early n → Contains runs n = turns_by t takes.reply (start_owed t.client t.calls) refl takes.takes in
    let held : HaveRunsAmong early t.before.slots = runs_held t.run t.dumps t.before.slots t.before.ports (member_turns t.client t.calls) t.before.files.seen stands in
    let left : Leaves runs t.before t.after = takes_leave laws runs t takes ready (λ n c opened at is. covers opened.run (held n c opened at is)) (λ n has. has) in
    record {
      told = left.files.told ∙ kept.told;
      on = on_then kept.on left.files.on;
      others = λ name other.
          let before_name : IsRunName (specs_in t.before.slots) runs name → ⊥ = λ is. other (subst (λ (specs : List (Option ChannelSpec)). IsRunName specs runs name) (sym left.specs) is) in
          left.files.others name before_name ∙ kept.others name (λ is. before_name (more_runs (specs_in t.before.slots) early runs name covers is));
    }
