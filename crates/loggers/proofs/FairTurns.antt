-- Each call of a logger keeps that it gives no buffer a cause to refuse a call.
use Rattle.std.specs.Prelude.{◌≡◌, ◌≤◌, ◌<◌, ◌==◌, nat_lt, ℕ, zero, suc, Bool, true, false, List, [], ◌∷◌, ◌++◌, length, slice_get, slice_set, sum_by, Option, Some, None, Result, Ok, Err, ⊤, ◌⊎◌, refl}
use Rattle.std.specs.List.{list_all}
use Rattle.std.proofs.Common.{ap, sym, subst, ◌∙◌, arith, inl, inr}
use Rattle.std.proofs.lemmas.Bool.{and_parts, eqb-true}
use Rattle.std.proofs.lemmas.Bool.Decides.{eqb_tells}
use Rattle.std.proofs.lemmas.Option.{slice_get_within}
use Rattle.daq_types.specs.declared.events.Event.{Event}
use Rattle.daq_types.specs.declared.runs.Order.{Order}
use Rattle.daq_types.specs.declared.runs.Transition.{Transition}
use Rattle.daq_types.specs.declared.runs.Transition.TheVariants.{Start, Stop, Pause, Resume, StartAbort}
use Rattle.daq_types.specs.declared.runs.Why.{Why}
use Rattle.daq_types.specs.declared.runs.Why.TheVariants.{NotReady, Exists, Fault, BufferRefused}
use Rattle.buffer_core.specs.declared.entry.BufferEntry.{BufferEntry}
use Rattle.buffer_core.specs.declared.entry.BufferEntry.TheVariants.{Begin, End, Pause as PausesRun, Resume as ResumesRun}
use Rattle.buffer_core.specs.declared.replies.MarkRefusal.{MarkRefusal}
use Rattle.buffer_core.specs.declared.replies.Received.{Received}
use Rattle.buffer_core.specs.declared.replies.Received.TheVariants.{Got, Empty, NoClient, SmallBuf}
use Rattle.buffer_core.specs.Ports.{Access}
use Rattle.buffer_core.specs.Slots.{slot_at}
use Rattle.member_model.specs.RunEngines.{Answer}
use Rattle.member_model.specs.Turns.{MemberTurn, latest_answered}
use Rattle.member_model.specs.OwnCalls.{calls_after}
use Rattle.member_model.specs.FairCalls.{has_begun, is_left_open}
use Rattle.member_model.proofs.TurnLaws.{HasTurnOf-more}
use Rattle.mid_logger.specs.declared.channel.Channel.{Channel}
use Rattle.mid_logger.specs.declared.channel_spec.ChannelSpec.{ChannelSpec}
use Rattle.mid_logger.specs.declared.pulled.Pulled.{Pulled}
use Rattle.mid_logger.specs.declared.stage.BegunRun.{BegunRun}
use Rattle.mid_logger.specs.declared.stage.ChannelRun.{ChannelRun}
use Rattle.mid_logger.specs.Channels.{reading_run, is_behind_end, stage_begun, stage_ended, place_marked}
use Rattle.mid_logger.specs.ChannelEnds.{CancelsStanding}
use Rattle.mid_logger.specs.ChannelTurns.{ChannelAt, HasClient, MakesRequest, AsksEvents, OpensBy, RefusesRun, asking_run}
use Rattle.mid_logger.specs.Pulls.{PullOf, PullsIn, TakesReply, TakesBy, FindsNone, drains_at_none}
use Rattle.loggers.specs.declared.logged_run.LoggedRun.{LoggedRun}
use Rattle.loggers.specs.declared.logged_run.RunPart.{RunPart}
use Rattle.loggers.specs.declared.logged_run.RunPart.TheVariants.{Refused, Started}
use Rattle.loggers.specs.Moments.{LoggerMoment, StepsChannel, StepsSlot, StepsAt, CallsBuffer, InTurn}
use Rattle.loggers.specs.ChannelSteps.{OpensChannel, AbortsChannel, PullsChannel}
use Rattle.loggers.specs.SlotPulls.{PullsSlot, PullsNumbered}
use Rattle.loggers.specs.NewLoggers.{AreUnused}
use Rattle.loggers.specs.Finishing.{EndingMoment, EndsSlot, EndsSlotAt, LoggerFinish, FinishesBy, FinishesLogger, is_settled_slot, waiting_stop}
use Rattle.loggers.specs.Turning.{BeginsBuffer, EndsBuffer, PausesBuffer, ResumesBuffer, LoggerTurn, OpensBelow, BeginsBelow, AbortsAll, StartsSo, TakesStart, TakesStop, TakesMark, TakesAbort, TakesTurnBy, TakesTurn, is_run_on, is_started, is_of_start, buffers_begun, start_part}
use Rattle.loggers.specs.LoggerStands.{logger_turn}
use Rattle.loggers.specs.FairAsks.{channel_clients, HasStart, HasRefusedBegin, StartsBehind, IsFairBegin, GoesOnIn, AsksFairly}
use Rattle.loggers.proofs.InTurns.{turns_keep}
use Rattle.loggers.proofs.SlotLists.{many_set}
use Rattle.loggers.proofs.SameShape.{turn_ports}
use Rattle.loggers.proofs.FairPorts.{StartsStay, Fair, fair_as, fair_turns, fair_slots, same_client_put, CallsQuietly, quietly_same, quietly_call, quietly_then, channel_step, call_step, noted_step, refused_there, refused_on}

-- What a channel calls.

client_quietly : (client later : Option ℕ) (a b : Access) → HasClient client later a b → CallsQuietly a b client later
client_quietly (Some n) later a b has = quietly_same a b (Some n) later has.1 has.0
client_quietly None (Some n) a b has = quietly_call a b _ _ None (Some n) has.0 tt (omega arith)
client_quietly None None a b has = quietly_call a b _ _ None None has.1 tt (omega arith)

request_quietly : (spec : ChannelSpec) (client request : Option ℕ) (a b : Access) → MakesRequest spec client request a b → CallsQuietly a b client client
request_quietly spec (Some n) (Some request) a b made = quietly_call a b _ _ (Some n) (Some n) made tt (omega arith)
request_quietly spec (Some n) None a b made = quietly_call a b _ _ (Some n) (Some n) made.1 tt (omega arith)
request_quietly spec None (Some request) a b made = absurd made
request_quietly spec None None a b made = quietly_same a b None None made refl

asks_quietly : (spec : ChannelSpec) (client later request : Option ℕ) (a b : Access) → AsksEvents spec client later request a b → CallsQuietly a b client later
asks_quietly spec client later request a b asks =
    quietly_then a asks.middle b client later later (client_quietly client later a asks.middle asks.attached) (request_quietly spec later request asks.middle b asks.asked)

refusal_quietly : (spec : ChannelSpec) (name : List ℕ) (why : Why) (a b : ChannelAt) → RefusesRun why spec name a b → CallsQuietly a.port b.port a.client b.client
refusal_quietly spec name NotReady a b refuses = absurd refuses
refusal_quietly spec name (Exists channel) a b refuses = quietly_same a.port b.port a.client b.client refuses.1.port refuses.1.client
refusal_quietly spec name (Fault channel) a b refuses = quietly_same a.port b.port a.client b.client refuses.1.port refuses.1.client
refusal_quietly spec name BufferRefused a b refuses = asks_quietly spec a.client b.client None a.port b.port refuses.0

pub opens_quietly : (spec : ChannelSpec) (order : Order) (dump : List ℕ) (r : Result ⊤ Why) (a b : ChannelAt) → OpensBy r spec order dump a b → CallsQuietly a.port b.port a.client b.client
opens_quietly spec order dump (Ok done) a b opens = asks_quietly spec a.client b.client (Some opens.asks.request) a.port b.port opens.asks.asks
opens_quietly spec order dump (Err why) a b opens = refusal_quietly spec _ why a b opens.1

pub cancels_quietly : (client : Option ℕ) (standing : Option ChannelRun) (a b : Access) → CancelsStanding standing a b → CallsQuietly a b client client
cancels_quietly client None a b cancels = quietly_same a b client client cancels refl
cancels_quietly client (Some opened) a b cancels = quietly_call a b _ _ client client cancels.1 tt (omega arith)

takes_quietly : (client : Option ℕ) (p : PullOf) (run : BegunRun) (place : ℕ) (e : Event) (behind early : Bool) → TakesBy behind early p run place e → CallsQuietly p.port p.later_port client client
takes_quietly client p run place e true early takes = quietly_call p.port p.later_port _ _ client client takes.port.1 tt (omega arith)
takes_quietly client p run place e false true takes = quietly_same p.port p.later_port client client takes.port refl
takes_quietly client p run place e false false takes = elim takes as (λ w. CallsQuietly p.port p.later_port client client) [
  | inl writes ↦ quietly_same p.port p.later_port client client writes.port refl
  | inr breaks ↦ quietly_call p.port p.later_port _ _ client client breaks.port.1 tt (omega arith)
]

none_quietly : (client : Option ℕ) (p : PullOf) (run : BegunRun) (drains : Bool) → FindsNone drains p run → CallsQuietly p.port p.later_port client client
none_quietly client p run true found = quietly_call p.port p.later_port _ _ client client found.port.1 tt (omega arith)
none_quietly client p run false found = quietly_same p.port p.later_port client client found.port refl

reply_quietly : (client : Option ℕ) (p : PullOf) (run : BegunRun) (reply : Received) (e : Event) → TakesReply p run reply e → CallsQuietly p.port p.later_port client client
reply_quietly client p run (Got place start) e taken = takes_quietly client p run place e (is_behind_end run.ended place) (nat_lt place run.begun) taken
reply_quietly client p run (Empty gate last) e taken = none_quietly client p run (drains_at_none p.stage) taken
reply_quietly client p run NoClient e taken = quietly_same p.port p.later_port client client taken.port refl
reply_quietly client p run (SmallBuf need) e taken = absurd taken

pub pulls_quietly : (client : Option ℕ) (p : PullOf) (room : ℕ) (reads : Option BegunRun) → PullsIn reads p room → CallsQuietly p.port p.later_port client client
pulls_quietly client p room None pulls = quietly_same p.port p.later_port client client pulls.port refl
pulls_quietly client p room (Some run) pulls =
    quietly_then p.port pulls.middle p.later_port client client client (quietly_call p.port pulls.middle _ _ client client pulls.received tt (omega arith))
    (reply_quietly client (record p { port = pulls.middle }) run pulls.reply pulls.event pulls.taken)

-- Steps of channels.

module _ (B L : (buffer start : ℕ) → Type 0) (turns : List MemberTurn) where
  abbrev FairAt : LoggerMoment → Type 0
  FairAt m = Fair B L turns m.slots m.ports

  same_moment : (a b : LoggerMoment) → b ≡ a → FairAt a → FairAt b
  same_moment a b same f = subst FairAt (sym same) f

  opened_step : (order : Order) (dump : List ℕ) (r : Result ⊤ Why) (n : ℕ) (before : Channel) (a b : LoggerMoment) → slot_at a.slots n ≡ Some before → StepsChannel (OpensChannel order dump r) n before a b → FairAt a → FairAt b
  opened_step order dump r n before a b there s f = channel_step (OpensChannel order dump r) B L turns n before a b s there s.step.spec (opens_quietly before.spec order dump r _ _ s.step.opens) f

  open_step : (order : Order) (dump : List ℕ) (n : ℕ) (slot : Option Channel) (a b : LoggerMoment) → slot_at a.slots n ≡ slot → StepsSlot (OpensChannel order dump (Ok tt)) n slot a b → FairAt a → FairAt b
  open_step order dump n None a b there same f = same_moment a b same f
  open_step order dump n (Some before) a b there s f = opened_step order dump (Ok tt) n before a b there s f

  abort_step : (n : ℕ) (slot : Option Channel) (a b : LoggerMoment) → slot_at a.slots n ≡ slot → StepsSlot AbortsChannel n slot a b → FairAt a → FairAt b
  abort_step n None a b there same f = same_moment a b same f
  abort_step n (Some before) a b there s f =
      let client : s.after.client ≡ before.client = ap (λ (c : Channel). c.client) s.step.channel in
      let calls : CallsQuietly s.port s.later_port before.client before.client = cancels_quietly before.client (asking_run before.stage) s.port s.later_port s.step.cancels in
      channel_step AbortsChannel B L turns n before a b s there (ap (λ (c : Channel). c.spec) s.step.channel) (subst (λ (o : Option ℕ). CallsQuietly s.port s.later_port before.client o) (sym client) calls) f

  pull_step : (dump : List ℕ) (n : ℕ) (answer : Pulled) (slot : Option Channel) (a b : LoggerMoment) → slot_at a.slots n ≡ slot → PullsSlot dump slot n answer a b → FairAt a → FairAt b
  pull_step dump n answer None a b there pulls f = same_moment a b pulls.1 f
  pull_step dump n answer (Some before) a b there s f =
      let calls : CallsQuietly s.port s.later_port before.client before.client = pulls_quietly before.client _ before.event.room (reading_run before.stage) s.step.pulls in
      channel_step (PullsChannel dump answer) B L turns n before a b s there s.step.spec (subst (λ (o : Option ℕ). CallsQuietly s.port s.later_port before.client o) (sym s.step.client) calls) f

  opens_fair : (order : Order) (dump : List ℕ) (n : ℕ) (a b : LoggerMoment) → OpensBelow order dump n a b → FairAt a → FairAt b
  opens_fair order dump n a b opens f = turns_keep (λ k. StepsAt (OpensChannel order dump (Ok tt)) k) FairAt n a b (λ k x y step kept. open_step order dump k (slot_at x.slots k) x y refl step kept) opens f

  aborts_fair : (a b : LoggerMoment) → AbortsAll a b → FairAt a → FairAt b
  aborts_fair a b aborts f = turns_keep (λ k. StepsAt AbortsChannel k) FairAt (length a.slots) a b (λ k x y step kept. abort_step k (slot_at x.slots k) x y refl step kept) aborts f

  left_on : (e : BufferEntry) (buffer k start : ℕ) (a b : LoggerMoment) (c : CallsBuffer e buffer a b) → L k start ⊎ HasRefusedBegin a.ports start → L k start ⊎ HasRefusedBegin (slice_set a.ports buffer c.later_port) start
  left_on e buffer k start a b c known = elim known as (λ w. L k start ⊎ HasRefusedBegin (slice_set a.ports buffer c.later_port) start) [
    | inl is ↦ inl is
    | inr refused ↦ inr (refused_on a.ports buffer c.port c.later_port e _ start c.at_port c.called refused)
  ]

  pause_step : (start buffer : ℕ) (a b : LoggerMoment) → PausesBuffer start buffer a b → FairAt a → FairAt b
  pause_step start buffer a b pauses f =
      call_step B B L L turns (PausesRun start pauses.0) buffer a b pauses.1 refl tt
      (λ s is. f.fair.starts buffer pauses.1.port pauses.1.at_port s is)
      (λ s is. left_on (PausesRun start pauses.0) buffer buffer s a b pauses.1 (f.fair.left buffer pauses.1.port pauses.1.at_port s is))
      (λ k s other was. was) (λ k s other was. was) f

  resume_step : (start buffer : ℕ) (a b : LoggerMoment) → ResumesBuffer start buffer a b → FairAt a → FairAt b
  resume_step start buffer a b resumes f =
      call_step B B L L turns (ResumesRun start resumes.0) buffer a b resumes.1 refl tt
      (λ s is. f.fair.starts buffer resumes.1.port resumes.1.at_port s is)
      (λ s is. left_on (ResumesRun start resumes.0) buffer buffer s a b resumes.1 (f.fair.left buffer resumes.1.port resumes.1.at_port s is))
      (λ k s other was. was) (λ k s other was. was) f

-- The begin of a run in one buffer after another.

-- the runs that were begun have starts among the earlier turns, but for this one in the buffers with numbers below this
abbrev BegunBelow : List MemberTurn → (start count : ℕ) → (buffer other : ℕ) → Type 0
BegunBelow turns start count buffer other = HasStart turns other ⊎ ((buffer < count) × (other ≡ start))

abbrev LeftBelow : (start count : ℕ) → (buffer other : ℕ) → Type 0
LeftBelow start count buffer other = (buffer < count) × (other ≡ start)

abbrev BeginsAt : MemberTurn → List MemberTurn → (start count : ℕ) → LoggerMoment → Type 0
BeginsAt u turns start count m = Fair (BegunBelow turns start count) (LeftBelow start count) (u ∷ turns) m.slots m.ports

-- this call begins the run fairly, whatever it is replied
fair_here : (u : MemberTurn) (turns : List MemberTurn) (start n : ℕ) (reply : Result ℕ MarkRefusal) (a b : LoggerMoment) (c : CallsBuffer (Begin start reply) n a b) → u.transition ≡ Start → u.order.start ≡ start → BeginsAt u turns start n a
    → IsFairBegin (slice_set a.ports n c.later_port) (u ∷ turns) (calls_after [] c.port.own) start
fair_here u turns start n reply a b c starts of f = record {
  earlier = turns;
  at = record { later = []; turn = u; are = refl; starts = starts; of = of };
  begun = λ other is. elim (f.fair.starts n c.port c.at_port other is) as (λ w. HasStart turns other) [
    | inl has ↦ has
    | inr new ↦ absurd (omega (arith, new.0))
  ];
  left = λ other is. elim (f.fair.left n c.port c.at_port other is) as (λ w. HasRefusedBegin (slice_set a.ports n c.later_port) other) [
    | inl new ↦ absurd (omega (arith, new.0))
    | inr refused ↦ refused_on a.ports n c.port c.later_port (Begin start reply) _ other c.at_port c.called refused
  ];
}

begun_one : (u : MemberTurn) (turns : List MemberTurn) (start n : ℕ) (a b : LoggerMoment) → u.transition ≡ Start → u.order.start ≡ start → BeginsBuffer start n a b → BeginsAt u turns start n a → BeginsAt u turns start (suc n) b
begun_one u turns start n a b starts of begins f =
    let e : BufferEntry = Begin start (Ok begins.0) in
    let middle : LoggerMoment = record b { slots = a.slots } in
    let c : CallsBuffer e n a middle = begins.1.marks in
    let called : BeginsAt u turns start (suc n) middle =
    call_step (BegunBelow turns start n) (BegunBelow turns start (suc n)) (LeftBelow start n) (LeftBelow start (suc n)) (u ∷ turns) e n a middle c refl (fair_here u turns start n (Ok begins.0) a middle c starts of f)
    (λ other is. elim (eqb_tells start other) as (λ w. BegunBelow turns start (suc n) n other) [
      | inl same ↦ inr (omega arith, sym same.1)
      | inr differs ↦ begun_still n other (omega arith) (f.fair.starts n c.port c.at_port other (rw differs.0 at is))
    ])
    (λ other is. elim (eqb_tells start other) as (λ w. LeftBelow start (suc n) n other ⊎ HasRefusedBegin (slice_set a.ports n c.later_port) other) [
      | inl same ↦ inl (omega arith, sym same.1)
      | inr differs ↦ elim (f.fair.left n c.port c.at_port other (rw differs.0 at is)) as (λ w. LeftBelow start (suc n) n other ⊎ HasRefusedBegin (slice_set a.ports n c.later_port) other) [
        | inl new ↦ absurd (omega (arith, new.0))
        | inr refused ↦ inr (refused_on a.ports n c.port c.later_port e _ other c.at_port c.called refused)
      ]
    ])
    (λ k other differs was. begun_still k other (omega arith) was) (λ k other differs was. (omega (arith, was.0), was.1)) f in
    noted_step (BegunBelow turns start (suc n)) (LeftBelow start (suc n)) (u ∷ turns) e (λ stage. stage_begun stage begins.0) n a b begins.1 called
  where
    begun_still : (k other : ℕ) → n ≤ suc n → BegunBelow turns start n k other → BegunBelow turns start (suc n) k other
    begun_still k other more was = elim was as (λ w. BegunBelow turns start (suc n) k other) [
      | inl has ↦ inl has
      | inr new ↦ inr (omega (arith, new.0), new.1)
    ]

begun_fair : (u : MemberTurn) (turns : List MemberTurn) (start count : ℕ) (a b : LoggerMoment) → u.transition ≡ Start → u.order.start ≡ start → BeginsBelow start count a b → BeginsAt u turns start 0 a → BeginsAt u turns start count b
begun_fair u turns start zero a b starts of steps f = subst (λ (m : LoggerMoment). BeginsAt u turns start 0 m) (sym steps) f
begun_fair u turns start (suc n) a b starts of steps f = begun_one u turns start n steps.0 b starts of steps.2 (begun_fair u turns start n a steps.0 starts of steps.1 f)

-- a buffer refuses to begin it: then no run is left open that was not refused
abbrev NoneLeft : (buffer start : ℕ) → Type 0
NoneLeft buffer start = ⊥

refused_fair : (u : MemberTurn) (turns : List MemberTurn) (start n : ℕ) (why : MarkRefusal) (a b : LoggerMoment) → u.transition ≡ Start → u.order.start ≡ start → CallsBuffer (Begin start (Err why)) n a b → BeginsAt u turns start n a
    → Fair (BegunBelow turns start n) NoneLeft (u ∷ turns) b.slots b.ports
refused_fair u turns start n why a b starts of c f =
    let e : BufferEntry = Begin start (Err why) in
    let called : BeginsAt u turns start n b =
    call_step (BegunBelow turns start n) (BegunBelow turns start n) (LeftBelow start n) (LeftBelow start n) (u ∷ turns) e n a b c refl (fair_here u turns start n (Err why) a b c starts of f)
    (λ other is. f.fair.starts n c.port c.at_port other is)
    (λ other is. left_on (BegunBelow turns start n) (LeftBelow start n) (u ∷ turns) e n n other a b c (f.fair.left n c.port c.at_port other is))
    (λ k other differs was. was) (λ k other differs was. was) f in
    let refused : HasRefusedBegin b.ports start = subst (λ (l : List Access). HasRefusedBegin l start) (sym c.ports) (refused_there a.ports n c.port c.later_port start why _ c.at_port c.called) in
    fair_as (BegunBelow turns start n) (BegunBelow turns start n) (LeftBelow start n) NoneLeft (u ∷ turns) b.slots b.ports (λ k x other at was. was)
    (λ k x other at was. inr (subst (λ (j : ℕ). HasRefusedBegin b.ports j) (sym was.1) refused)) called

-- The end of a run in one buffer after another.

-- only this run is left open, in the buffers from this number on
abbrev LeftFrom : (Where : Type 0) → (start count : ℕ) → (buffer other : ℕ) → Type 0
LeftFrom Where start count buffer other = (other ≡ start) × (count ≤ buffer) × Where

ended_one : (Where : Type 0) (B : (buffer start : ℕ) → Type 0) (turns : List MemberTurn) (start n : ℕ) (a b : LoggerMoment) → EndsBuffer start n a b → Fair B (LeftFrom Where start n) turns a.slots a.ports → Fair B (LeftFrom Where start (suc n)) turns b.slots b.ports
ended_one Where B turns start n a b ends f =
    let e : BufferEntry = End start ends.0 in
    let middle : LoggerMoment = record b { slots = a.slots } in
    let c : CallsBuffer e n a middle = ends.1.marks in
    let called : Fair B (LeftFrom Where start (suc n)) turns middle.slots middle.ports =
    call_step B B (LeftFrom Where start n) (LeftFrom Where start (suc n)) turns e n a middle c refl tt
    (λ other is. f.fair.starts n c.port c.at_port other is)
    (λ other is. elim (eqb_tells start other) as (λ w. LeftFrom Where start (suc n) n other ⊎ HasRefusedBegin (slice_set a.ports n c.later_port) other) [
      | inl same ↦ absurd (let never : false ≡ true = rw same.0 at is in cc (never))
      | inr differs ↦ elim (f.fair.left n c.port c.at_port other (rw differs.0 at is)) as (λ w. LeftFrom Where start (suc n) n other ⊎ HasRefusedBegin (slice_set a.ports n c.later_port) other) [
        | inl open_there ↦ absurd (differs.1 (sym open_there.0))
        | inr refused ↦ inr (refused_on a.ports n c.port c.later_port e _ other c.at_port c.called refused)
      ]
    ])
    (λ k other differs was. was) (λ k other differs was. (was.0, omega (arith, was.1), was.2)) f in
    noted_step B (LeftFrom Where start (suc n)) turns e (λ stage. stage_ended stage (place_marked ends.0)) n a b ends.1 called

ended_fair : (Where : Type 0) (B : (buffer start : ℕ) → Type 0) (turns : List MemberTurn) (start count : ℕ) (a b : LoggerMoment) → InTurn (λ buffer. EndsBuffer start buffer) count a b → Fair B (LeftFrom Where start 0) turns a.slots a.ports
    → Fair B (LeftFrom Where start count) turns b.slots b.ports
ended_fair Where B turns start zero a b steps f = subst (λ (m : LoggerMoment). Fair B (LeftFrom Where start 0) turns m.slots m.ports) (sym steps) f
ended_fair Where B turns start (suc n) a b steps f = ended_one Where B turns start n steps.0 b steps.2 (ended_fair Where B turns start n a steps.0 steps.1 f)

-- Turns.

abbrev HasOne : List MemberTurn → (buffer start : ℕ) → Type 0
HasOne turns buffer start = HasStart turns start

abbrev GoesOn : Option LoggedRun → (wide : ℕ) → (buffer start : ℕ) → Type 0
GoesOn run wide buffer start = GoesOnIn run wide start

asks_as : (run : Option LoggedRun) (slots : List (Option Channel)) (ports : List Access) (turns : List MemberTurn) → Fair (HasOne turns) (GoesOn run (length ports)) turns slots ports → AsksFairly run slots ports turns
asks_as run slots ports turns f = record { attaches = f.few; begins = f.fair.begins; starts = f.fair.starts; left = f.fair.left }

one_more : (u : MemberTurn) (turns : List MemberTurn) → StartsStay turns (u ∷ turns)
one_more u turns start earlier at = record { later = u ∷ at.later; turn = at.turn; are = ap (λ (l : List MemberTurn). u ∷ l) at.are; starts = at.starts; of = at.of }

start_more : (u : MemberTurn) (turns : List MemberTurn) (start : ℕ) → HasStart turns start → HasStart (u ∷ turns) start
start_more u turns start has = (has.0, HasTurnOf-more u has.1)

-- what is so before a turn, told of the turns with that one
fair_before : (run : Option LoggedRun) (slots : List (Option Channel)) (ports : List Access) (turns : List MemberTurn) (u : MemberTurn) → AsksFairly run slots ports turns → Fair (HasOne turns) (GoesOn run (length ports)) (u ∷ turns) slots ports
fair_before run slots ports turns u asks =
    fair_turns (HasOne turns) (GoesOn run (length ports)) turns (u ∷ turns) slots ports (one_more u turns) (record { few = asks.attaches; fair = record { begins = asks.begins; starts = asks.starts; left = asks.left } })

-- what is so behind a turn
fair_after : (u : MemberTurn) (turns : List MemberTurn) (L : (buffer start : ℕ) → Type 0) (run : Option LoggedRun) (slots : List (Option Channel)) (ports : List Access) → ((k : ℕ) (x : Access) (start : ℕ) → slice_get ports k ≡ Some x → L k start → GoesOnIn run (length ports) start)
    → Fair (HasOne turns) L (u ∷ turns) slots ports → AsksFairly run slots ports (u ∷ turns)
fair_after u turns L run slots ports left f =
    asks_as run slots ports (u ∷ turns)
    (fair_as (HasOne turns) (HasOne (u ∷ turns)) L (GoesOn run (length ports)) (u ∷ turns) slots ports (λ k x start at has. start_more u turns start has) (λ k x start at was. inl (left k x start at was)) f)

abbrev TurnFair : LoggerTurn → List MemberTurn → Type 0
TurnFair t turns = AsksFairly t.later_run t.after.slots t.after.ports (logger_turn t.transition t.order t.dump t.answer ∷ turns)

left_alone : (t : LoggerTurn) (turns : List MemberTurn) → t.later_run ≡ t.run → t.after ≡ t.before → AsksFairly t.run t.before.slots t.before.ports turns → TurnFair t turns
left_alone t turns run moment asks =
    let u : MemberTurn = logger_turn t.transition t.order t.dump t.answer in
    let now : AsksFairly t.run t.before.slots t.before.ports (u ∷ turns) =
    fair_after u turns (GoesOn t.run (length t.before.ports)) t.run t.before.slots t.before.ports (λ k x start at was. was) (fair_before t.run t.before.slots t.before.ports turns u asks) in
    subst (λ (r : Option LoggedRun). AsksFairly r t.after.slots t.after.ports (u ∷ turns)) (sym run) (subst (λ (m : LoggerMoment). AsksFairly t.run m.slots m.ports (u ∷ turns)) (sym moment) now)

-- A start.

not_on : (run : Option LoggedRun) (wide start : ℕ) → is_run_on run ≡ false → GoesOnIn run wide start → ⊥
not_on None wide start off goes = goes
not_on (Some r) wide start off goes =
    let on : is_run_on (Some (record r { part = r.part })) ≡ is_run_on (Some (record r { part = Started })) = ap (λ (p : RunPart). is_run_on (Some (record r { part = p }))) goes.1 in
    let never : false ≡ true = sym off ∙ on in
    cc (never)

-- the runs begun before a start, and none that goes on
fair_idle : (run : Option LoggedRun) (slots : List (Option Channel)) (ports : List Access) (turns : List MemberTurn) (u : MemberTurn) → is_run_on run ≡ false → AsksFairly run slots ports turns → Fair (HasOne turns) NoneLeft (u ∷ turns) slots ports
fair_idle run slots ports turns u off asks =
    fair_as (HasOne turns) (HasOne turns) (GoesOn run (length ports)) NoneLeft (u ∷ turns) slots ports (λ k x start at has. has) (λ k x start at goes. absurd (not_on run (length ports) start off goes)) (fair_before run slots ports turns u asks)

fair_to_begin : (u : MemberTurn) (turns : List MemberTurn) (start : ℕ) (m : LoggerMoment) → Fair (HasOne turns) NoneLeft (u ∷ turns) m.slots m.ports → BeginsAt u turns start 0 m
fair_to_begin u turns start m f = fair_as (HasOne turns) (BegunBelow turns start 0) NoneLeft (LeftBelow start 0) (u ∷ turns) m.slots m.ports (λ k x other at has. inl has) (λ k x other at never. absurd never) f

-- the run that a start leaves, once it is begun in all buffers, or refused
start_left : (u : MemberTurn) (turns : List MemberTurn) (start n : ℕ) (L : (buffer other : ℕ) → Type 0) (run : Option LoggedRun) (m : LoggerMoment) → u.transition ≡ Start → u.order.start ≡ start
    → ((k : ℕ) (x : Access) (other : ℕ) → slice_get m.ports k ≡ Some x → L k other → GoesOnIn run (length m.ports) other) → Fair (BegunBelow turns start n) L (u ∷ turns) m.slots m.ports → AsksFairly run m.slots m.ports (u ∷ turns)
start_left u turns start n L run m starts of left f =
    asks_as run m.slots m.ports (u ∷ turns)
    (fair_as (BegunBelow turns start n) (HasOne (u ∷ turns)) L (GoesOn run (length m.ports)) (u ∷ turns) m.slots m.ports
    (λ k x other at was. elim was as (λ w. HasStart (u ∷ turns) other) [
      | inl has ↦ start_more u turns other has
      | inr new ↦ (u, record { stands = inl refl; is = starts; of = of ∙ sym new.1 })
    ])
    (λ k x other at was. inl (left k x other at was)) f)

start_so : (t : LoggerTurn) (turns : List MemberTurn) (u : MemberTurn) (result : Result ⊤ Why) (dump : List ℕ) (begun : ℕ) → u.transition ≡ Start → u.order.start ≡ t.order.start → length t.after.ports ≡ length t.before.ports → StartsSo result t.order dump begun t.before t.after
    → Fair (HasOne turns) NoneLeft (u ∷ turns) t.before.slots t.before.ports → AsksFairly (Some (record { start = t.order.start; begun = begun; part = start_part result })) t.after.slots t.after.ports (u ∷ turns)
start_so t turns u (Ok done) dump begun starts of wide so f =
    let start : ℕ = t.order.start in
    let n : ℕ = length t.before.ports in
    let opened = opens_fair (HasOne turns) NoneLeft (u ∷ turns) t.order dump (length t.before.slots) t.before so.opened so.opens f in
    let began : BeginsAt u turns start n t.after = begun_fair u turns start n so.opened t.after starts of so.begins (fair_to_begin u turns start so.opened opened) in
    start_left u turns start n (LeftBelow start n) (Some (record { start = start; begun = begun; part = Started })) t.after starts of
    (λ k x other at was. (sym was.1, refl, so.all ∙ sym wide)) began
start_so t turns u (Err why) dump begun starts of wide so f = elim so as (λ w. AsksFairly (Some (record { start = t.order.start; begun = begun; part = Refused })) t.after.slots t.after.ports (u ∷ turns)) [
  | inl undoes ↦
      let r = undoes.opens in
      let opened = opens_fair (HasOne turns) NoneLeft (u ∷ turns) t.order dump r.number t.before r.opened r.opens f in
      let refused = opened_step (HasOne turns) NoneLeft (u ∷ turns) t.order dump (Err why) r.number r.channel r.opened undoes.refused r.there r.refuses opened in
      let aborted = aborts_fair (HasOne turns) NoneLeft (u ∷ turns) undoes.refused t.after undoes.aborts refused in
      fair_after u turns NoneLeft (Some (record { start = t.order.start; begun = begun; part = Refused })) t.after.slots t.after.ports (λ k x other at never. absurd never) aborted
  | inr undoes ↦
      let m = undoes.begins in
      let opened = opens_fair (HasOne turns) NoneLeft (u ∷ turns) t.order dump (length t.before.slots) t.before undoes.opened undoes.opens f in
      let began = begun_fair u turns t.order.start begun undoes.opened m.begun starts of m.begins (fair_to_begin u turns t.order.start undoes.opened opened) in
      let refused = refused_fair u turns t.order.start begun m.refuses.0 m.begun undoes.refused starts of m.refuses.1 began in
      let aborted = aborts_fair (BegunBelow turns t.order.start begun) NoneLeft (u ∷ turns) undoes.refused t.after undoes.aborts refused in
      start_left u turns t.order.start begun NoneLeft (Some (record { start = t.order.start; begun = begun; part = Refused })) t.after starts of (λ k x other at never. absurd never) aborted
]

start_fair : (on : Bool) (t : LoggerTurn) (turns : List MemberTurn) → t.transition ≡ Start → length t.after.ports ≡ length t.before.ports → is_run_on t.run ≡ on → TakesStart on t → AsksFairly t.run t.before.slots t.before.ports turns → TurnFair t turns
start_fair true t turns starts wide on takes asks = left_alone t turns takes.run takes.moment asks
start_fair false t turns starts wide off takes asks =
    let u : MemberTurn = logger_turn t.transition t.order t.dump t.answer in
    subst (λ (r : Option LoggedRun). AsksFairly r t.after.slots t.after.ports (u ∷ turns)) (sym takes.run)
    (start_so t turns u takes.result _ takes.begun starts refl wide takes.starts (fair_idle t.run t.before.slots t.before.ports turns u off asks))

-- A stop.

-- the run that was started has this number
started_is : (run : Option LoggedRun) (wide start other : ℕ) → is_started run start ≡ true → GoesOnIn run wide other → other ≡ start
started_is None wide start other is goes = absurd goes
started_is (Some r) wide start other is goes = sym goes.0 ∙ eqb-true r.start start (and_parts _ (r.start == start) is).1

stop_fair : (of : Bool) (t : LoggerTurn) (turns : List MemberTurn) → length t.after.ports ≡ length t.before.ports → is_started t.run t.order.start ≡ of → TakesStop of t → AsksFairly t.run t.before.slots t.before.ports turns → TurnFair t turns
stop_fair true t turns wide is takes asks =
    let u : MemberTurn = logger_turn t.transition t.order t.dump t.answer in
    let start : ℕ = t.order.start in
    let n : ℕ = length t.before.ports in
    let before : Fair (HasOne turns) (LeftFrom ⊤ start 0) (u ∷ turns) t.before.slots t.before.ports =
    fair_as (HasOne turns) (HasOne turns) (GoesOn t.run n) (LeftFrom ⊤ start 0) (u ∷ turns) t.before.slots t.before.ports (λ k x other at has. has)
    (λ k x other at goes. inl (started_is t.run n start other is goes, omega arith, tt)) (fair_before t.run t.before.slots t.before.ports turns u asks) in
    let ended : Fair (HasOne turns) (LeftFrom ⊤ start n) (u ∷ turns) t.after.slots t.after.ports = ended_fair ⊤ (HasOne turns) (u ∷ turns) start n t.before t.after takes.ends before in
    fair_after u turns (LeftFrom ⊤ start n) t.later_run t.after.slots t.after.ports
    (λ k x other at was. absurd (let within : k < length t.after.ports = slice_get_within t.after.ports k x at in omega (arith, within, wide, was.1))) ended
stop_fair false t turns wide is takes asks = left_alone t turns takes.run takes.moment asks

-- A pause and a resume.

mark_left : (t : LoggerTurn) (turns : List MemberTurn) → length t.after.ports ≡ length t.before.ports → t.later_run ≡ t.run
    → Fair (HasOne turns) (GoesOn t.run (length t.before.ports)) (logger_turn t.transition t.order t.dump t.answer ∷ turns) t.after.slots t.after.ports → TurnFair t turns
mark_left t turns wide run f =
    fair_after (logger_turn t.transition t.order t.dump t.answer) turns (GoesOn t.run (length t.before.ports)) t.later_run t.after.slots t.after.ports
    (λ k x other at goes. subst (λ (r : Option LoggedRun). GoesOnIn r (length t.after.ports) other) (sym run) (subst (λ (n : ℕ). GoesOnIn t.run n other) (sym wide) goes)) f

pause_fair : (of : Bool) (t : LoggerTurn) (turns : List MemberTurn) → length t.after.ports ≡ length t.before.ports → TakesMark PausesBuffer of t → AsksFairly t.run t.before.slots t.before.ports turns → TurnFair t turns
pause_fair true t turns wide takes asks =
    let u : MemberTurn = logger_turn t.transition t.order t.dump t.answer in
    let L : (buffer start : ℕ) → Type 0 = GoesOn t.run (length t.before.ports) in
    mark_left t turns wide takes.run
    (turns_keep (λ k. PausesBuffer t.order.start k) (λ m. Fair (HasOne turns) L (u ∷ turns) m.slots m.ports) (length t.before.ports) t.before t.after (λ k x y step kept. pause_step (HasOne turns) L (u ∷ turns) t.order.start k x y step kept) takes.marks
    (fair_before t.run t.before.slots t.before.ports turns u asks))
pause_fair false t turns wide takes asks = left_alone t turns takes.run takes.moment asks

resume_fair : (of : Bool) (t : LoggerTurn) (turns : List MemberTurn) → length t.after.ports ≡ length t.before.ports → TakesMark ResumesBuffer of t → AsksFairly t.run t.before.slots t.before.ports turns → TurnFair t turns
resume_fair true t turns wide takes asks =
    let u : MemberTurn = logger_turn t.transition t.order t.dump t.answer in
    let L : (buffer start : ℕ) → Type 0 = GoesOn t.run (length t.before.ports) in
    mark_left t turns wide takes.run
    (turns_keep (λ k. ResumesBuffer t.order.start k) (λ m. Fair (HasOne turns) L (u ∷ turns) m.slots m.ports) (length t.before.ports) t.before t.after (λ k x y step kept. resume_step (HasOne turns) L (u ∷ turns) t.order.start k x y step kept) takes.marks
    (fair_before t.run t.before.slots t.before.ports turns u asks))
resume_fair false t turns wide takes asks = left_alone t turns takes.run takes.moment asks

-- A start-abort.

-- the run that is called off has this number, and was begun in so many buffers
called_off : (run : Option LoggedRun) (wide start other : ℕ) → is_of_start run start ≡ true → GoesOnIn run wide other → (other ≡ start) × (buffers_begun run ≡ wide)
called_off None wide start other is goes = absurd goes
called_off (Some r) wide start other is goes = (sym goes.0 ∙ eqb-true r.start start is, goes.2)

off_fair : (of : Bool) (t : LoggerTurn) (turns : List MemberTurn) → length t.after.ports ≡ length t.before.ports → is_of_start t.run t.order.start ≡ of → TakesAbort of t → AsksFairly t.run t.before.slots t.before.ports turns → TurnFair t turns
off_fair true t turns wide is takes asks =
    let u : MemberTurn = logger_turn t.transition t.order t.dump t.answer in
    let start : ℕ = t.order.start in
    let n : ℕ = length t.before.ports in
    let All : Type 0 = buffers_begun t.run ≡ n in
    let before : Fair (HasOne turns) (LeftFrom (buffers_begun t.run ≡ n) start 0) (u ∷ turns) t.before.slots t.before.ports =
    fair_as (HasOne turns) (HasOne turns) (GoesOn t.run n) (LeftFrom (buffers_begun t.run ≡ n) start 0) (u ∷ turns) t.before.slots t.before.ports (λ k x other at has. has)
    (λ k x other at goes. let so = called_off t.run n start other is goes in inl (so.0, omega arith, so.1)) (fair_before t.run t.before.slots t.before.ports turns u asks) in
    let ended = ended_fair (buffers_begun t.run ≡ n) (HasOne turns) (u ∷ turns) start (buffers_begun t.run) t.before takes.ended takes.ends before in
    let aborted = aborts_fair (HasOne turns) (LeftFrom (buffers_begun t.run ≡ n) start (buffers_begun t.run)) (u ∷ turns) takes.ended t.after takes.aborts ended in
    fair_after u turns (LeftFrom (buffers_begun t.run ≡ n) start (buffers_begun t.run)) t.later_run t.after.slots t.after.ports
    (λ k x other at was. absurd (let within : k < length t.after.ports = slice_get_within t.after.ports k x at in omega (arith, within, wide, was.1, was.2))) aborted
off_fair false t turns wide is takes asks = left_alone t turns takes.run takes.moment asks

fair_by : (transition : Transition) (t : LoggerTurn) (turns : List MemberTurn) → t.transition ≡ transition → length t.after.ports ≡ length t.before.ports → TakesTurnBy transition t → AsksFairly t.run t.before.slots t.before.ports turns → TurnFair t turns
fair_by Start t turns is wide takes asks = start_fair (is_run_on t.run) t turns is wide refl takes asks
fair_by Stop t turns is wide takes asks = stop_fair (is_started t.run t.order.start) t turns wide refl takes asks
fair_by Pause t turns is wide takes asks = pause_fair (is_started t.run t.order.start) t turns wide takes asks
fair_by Resume t turns is wide takes asks = resume_fair (is_started t.run t.order.start) t turns wide takes asks
fair_by StartAbort t turns is wide takes asks = off_fair (is_of_start t.run t.order.start) t turns wide refl takes asks

pub turn_fair : (t : LoggerTurn) (turns : List MemberTurn) → TakesTurn t → AsksFairly t.run t.before.slots t.before.ports turns → TurnFair t turns
turn_fair t turns takes asks = fair_by t.transition t turns refl (turn_ports t takes).many takes asks

-- A pull.

wide_after : (dump : List ℕ) (n : ℕ) (answer : Pulled) (slot : Option Channel) (a b : LoggerMoment) → PullsSlot dump slot n answer a b → length b.ports ≡ length a.ports
wide_after dump n answer None a b pulls = ap (λ (m : LoggerMoment). length m.ports) pulls.1
wide_after dump n answer (Some before) a b s = ap (λ (l : List Access). length l) s.ports ∙ many_set a.ports before.spec.buffer s.later_port

pub pull_fair : (run : Option LoggedRun) (dump : List ℕ) (n : ℕ) (answer : Pulled) (a b : LoggerMoment) (turns : List MemberTurn) → PullsNumbered dump n answer a b → AsksFairly run a.slots a.ports turns → AsksFairly run b.slots b.ports turns
pull_fair run dump n answer a b turns pulls asks =
    let wide : length b.ports ≡ length a.ports = wide_after dump n answer (slot_at a.slots n) a b pulls in
    let before : Fair (HasOne turns) (GoesOn run (length a.ports)) turns a.slots a.ports = record { few = asks.attaches; fair = record { begins = asks.begins; starts = asks.starts; left = asks.left } } in
    let after : Fair (HasOne turns) (GoesOn run (length a.ports)) turns b.slots b.ports = pull_step (HasOne turns) (GoesOn run (length a.ports)) turns dump n answer (slot_at a.slots n) a b refl pulls before in
    asks_as run b.slots b.ports turns
    (fair_as (HasOne turns) (HasOne turns) (GoesOn run (length a.ports)) (GoesOn run (length b.ports)) turns b.slots b.ports (λ k x start at has. has)
    (λ k x start at goes. inl (subst (λ (m : ℕ). GoesOnIn run m start) (sym wide) goes)) after)

-- A call to finish.

ended_same : (buffer : ℕ) (time : ℕ) (dump : Option (List ℕ)) (n : ℕ) (slot : Option Channel) (a b : EndingMoment) → slot_at a.slots n ≡ slot → EndsSlot time dump n slot a b → sum_by (channel_clients buffer) b.slots ≡ sum_by (channel_clients buffer) a.slots
ended_same buffer time dump n None a b there same = ap (λ (m : EndingMoment). sum_by (channel_clients buffer) m.slots) same
ended_same buffer time dump n (Some before) a b there s =
    let same : channel_clients buffer (Some s.after) ≡ channel_clients buffer (Some before) = ap (λ (c : Channel). channel_clients buffer (Some c)) s.ends.channel in
    ap (λ (l : List (Option Channel)). sum_by (channel_clients buffer) l) s.slots ∙ same_client_put buffer a.slots n before s.after there same

ended_all_same : (buffer : ℕ) (time : ℕ) (dump : Option (List ℕ)) (count : ℕ) (a b : EndingMoment) → InTurn (λ number. EndsSlotAt time dump number) count a b → sum_by (channel_clients buffer) b.slots ≡ sum_by (channel_clients buffer) a.slots
ended_all_same buffer time dump zero a b steps = ap (λ (m : EndingMoment). sum_by (channel_clients buffer) m.slots) steps
ended_all_same buffer time dump (suc n) a b steps = ended_same buffer time dump n (slot_at steps.0.slots n) steps.0 b refl steps.2 ∙ ended_all_same buffer time dump n a steps.0 steps.1

-- the turns once the latest was answered have the same starts
answered_starts : (turns : List MemberTurn) (answer : Option Answer) → StartsStay turns (latest_answered turns answer)
answered_starts turns None start earlier at = at
answered_starts [] (Some answer) start earlier at = at
answered_starts (t ∷ ts) (Some answer) start earlier at = first_answered t ts answer start earlier at.later at.turn at.are at.starts at.of
  where
    first_answered : (t : MemberTurn) (ts : List MemberTurn) (answer : Answer) (start : ℕ) (earlier later : List MemberTurn) (turn : MemberTurn) → t ∷ ts ≡ later ++ turn ∷ earlier → turn.transition ≡ Start → turn.order.start ≡ start
        → StartsBehind (record t { answer = Some answer } ∷ ts) start earlier
    first_answered t ts answer start earlier [] turn are starts of =
        let same : t ≡ turn = cc (are) in
        let rest : ts ≡ earlier = cc (are) in
        record {
          later = [];
          turn = record t { answer = Some answer };
          are = ap (λ (l : List MemberTurn). record t { answer = Some answer } ∷ l) rest;
          starts = ap (λ (x : MemberTurn). x.transition) same ∙ starts;
          of = ap (λ (x : MemberTurn). x.order.start) same ∙ of;
        }
    first_answered t ts answer start earlier (l ∷ later) turn are starts of =
        let rest : ts ≡ later ++ turn ∷ earlier = cc (are) in
        record { later = record t { answer = Some answer } ∷ later; turn = turn; are = ap (λ (x : List MemberTurn). record t { answer = Some answer } ∷ x) rest; starts = starts; of = of }

answered_start : (turns : List MemberTurn) (answer : Option Answer) (start : ℕ) → HasStart turns start → HasStart (latest_answered turns answer) start
answered_start turns None start has = has
answered_start [] (Some answer) start has = has
answered_start (t ∷ ts) (Some answer) start has = elim has.1.stands as (λ w. HasStart (record t { answer = Some answer } ∷ ts) start) [
  | inl same ↦ (record t { answer = Some answer }, record { stands = inl refl; is = ap (λ (x : MemberTurn). x.transition) same ∙ has.1.is; of = ap (λ (x : MemberTurn). x.order.start) same ∙ has.1.of })
  | inr earlier ↦ (has.0, record { stands = inr earlier; is = has.1.is; of = has.1.of })
]

-- a stop that waits is of no run that goes on
not_waiting : (run : Option LoggedRun) (time wide start : ℕ) → waiting_stop run ≡ Some time → GoesOnIn run wide start → ⊥
not_waiting None time wide start waits goes = goes
not_waiting (Some r) time wide start waits goes =
    let stands : waiting_stop (Some (record r { part = r.part })) ≡ waiting_stop (Some (record r { part = Started })) = ap (λ (p : RunPart). waiting_stop (Some (record r { part = p }))) goes.1 in
    let never : Some time ≡ None = sym waits ∙ stands in
    cc (never)

waiting_fair : (f : LoggerFinish) (ports : List Access) (turns : List MemberTurn) → f.answer ≡ None → f.later_run ≡ f.run → f.later_slots ≡ f.slots → AsksFairly f.run f.slots ports turns → AsksFairly f.later_run f.later_slots ports (latest_answered turns f.answer)
waiting_fair f ports turns none run slots asks = rw (none, run, slots) asks

finish_by : (f : LoggerFinish) (ports : List Access) (turns : List MemberTurn) (settled : Bool) (stop : Option ℕ) → waiting_stop f.run ≡ stop → FinishesBy settled stop f → AsksFairly f.run f.slots ports turns → AsksFairly f.later_run f.later_slots ports (latest_answered turns f.answer)
finish_by f ports turns settled None waits leaves asks = waiting_fair f ports turns leaves.answer_is leaves.run leaves.slots asks
finish_by f ports turns false (Some time) waits leaves asks = waiting_fair f ports turns leaves.answer_is leaves.run leaves.slots asks
finish_by f ports turns true (Some time) waits ends asks =
    let later : List MemberTurn = latest_answered turns f.answer in
    let before : Fair (HasOne turns) (GoesOn f.run (length ports)) turns f.slots ports = record { few = asks.attaches; fair = record { begins = asks.begins; starts = asks.starts; left = asks.left } } in
    let slots : Fair (HasOne turns) (GoesOn f.run (length ports)) turns f.later_slots ports =
    fair_slots (HasOne turns) (GoesOn f.run (length ports)) turns f.slots f.later_slots ports (λ buffer. ended_all_same buffer time f.dumps.stop (length f.slots) _ _ ends.ends) before in
    asks_as f.later_run f.later_slots ports later
    (fair_as (HasOne turns) (HasOne later) (GoesOn f.run (length ports)) (GoesOn f.later_run (length ports)) later f.later_slots ports (λ k x start at has. answered_start turns f.answer start has)
    (λ k x start at goes. absurd (not_waiting f.run time (length ports) start waits goes))
    (fair_turns (HasOne turns) (GoesOn f.run (length ports)) turns later f.later_slots ports (answered_starts turns f.answer) slots))

pub finish_fair : (f : LoggerFinish) (ports : List Access) (turns : List MemberTurn) → FinishesLogger f → AsksFairly f.run f.slots ports turns → AsksFairly f.later_run f.later_slots ports (latest_answered turns f.answer)
finish_fair f ports turns finishes asks = finish_by f ports turns (list_all is_settled_slot f.slots) (waiting_stop f.run) refl finishes asks

-- A new logger.

pub new_fair : (slots : List (Option Channel)) (ports : List Access) → AreUnused ports → AsksFairly None slots ports []
new_fair slots ports unused = record {
  attaches = λ buffer a at. rw (unused buffer a at).0 (omega arith);
  begins = λ buffer a at. rw (unused buffer a at).0 tt;
  starts = λ buffer a at start is. absurd (let none : has_begun (calls_after [] a.own) start ≡ false = ap (λ (l : List BufferEntry). has_begun (calls_after [] l) start) (unused buffer a at).0 in let never : false ≡ true = sym none ∙ is in cc (never));
  left = λ buffer a at start is. absurd (let none : is_left_open (calls_after [] a.own) start ≡ false = ap (λ (l : List BufferEntry). is_left_open (calls_after [] l) start) (unused buffer a at).0 in let never : false ≡ true = sym none ∙ is in cc (never));
}
