-- What a logger's calls on the buffers were refused, behind each call of the logger; and that a start is refused for a buffer only
-- where that refused one.
use Rattle.std.specs.Prelude.{◌≡◌, nat_lt, ℕ, Bool, true, false, List, [], ◌∷◌, length, slice_get, slice_set, Contains, Option, Some, None, Result, Ok, Err, ⊤, refl}
use Rattle.std.proofs.Common.{sym, subst, ◌∙◌, arith, inl, inr}
use Rattle.std.proofs.lemmas.List.Elements.{Contains-append_left, Contains-append_right}
use Rattle.daq_types.specs.declared.events.Event.{Event}
use Rattle.daq_types.specs.declared.runs.Order.{Order}
use Rattle.daq_types.specs.declared.runs.Transition.{Transition}
use Rattle.daq_types.specs.declared.runs.Transition.TheVariants.{Start, Stop, Pause, Resume, StartAbort}
use Rattle.daq_types.specs.declared.runs.Why.{Why}
use Rattle.daq_types.specs.declared.runs.Why.TheVariants.{NotReady, Exists, Fault, BufferRefused}
use Rattle.buffer_core.specs.declared.entry.BufferEntry.{BufferEntry}
use Rattle.buffer_core.specs.declared.replies.Received.{Received}
use Rattle.buffer_core.specs.declared.replies.Received.TheVariants.{Got, Empty, NoClient, SmallBuf}
use Rattle.buffer_core.specs.Ports.{Access, GotEvent, PortCalled}
use Rattle.buffer_core.specs.Slots.{slot_at}
use Rattle.member_model.specs.RunEngines.{Answer}
use Rattle.transitions.specs.declared.answers.Answer.TheVariants.{Yes, No}
use Rattle.transitions.specs.declared.answers.Tally.TheVariants.{Plain}
use Rattle.mid_logger.specs.declared.channel.Channel.{Channel}
use Rattle.mid_logger.specs.declared.channel_spec.ChannelSpec.{ChannelSpec}
use Rattle.mid_logger.specs.declared.pulled.Pulled.{Pulled}
use Rattle.mid_logger.specs.declared.stage.BegunRun.{BegunRun}
use Rattle.mid_logger.specs.declared.stage.ChannelRun.{ChannelRun}
use Rattle.mid_logger.specs.Channels.{reading_run, is_behind_end}
use Rattle.mid_logger.specs.ChannelEnds.{CancelsStanding}
use Rattle.mid_logger.specs.ChannelTurns.{ChannelAt, HasClient, MakesRequest, AsksEvents, OpensBy, RefusesRun, asking_run}
use Rattle.mid_logger.specs.Pulls.{PullOf, PullsIn, TakesReply, TakesBy, FindsNone, drains_at_none}
use Rattle.loggers.specs.Moments.{LoggerMoment, ChannelStep, StepsChannel, StepsSlot, StepsAt, CallsBuffer, InTurn}
use Rattle.loggers.specs.ChannelSteps.{OpensChannel, AbortsChannel, PullsChannel}
use Rattle.loggers.specs.SlotPulls.{PullsSlot, PullsNumbered}
use Rattle.loggers.specs.Turning.{BeginsBuffer, EndsBuffer, PausesBuffer, ResumesBuffer, LoggerTurn, OpensBelow, BeginsBelow, AbortsAll, UndoesOpens, UndoesBegins, StartsSo, TakesStart, TakesStop, TakesMark, TakesAbort, TakesTurnBy, TakesTurn, is_run_on, is_started, is_of_start, buffers_begun, start_answer}
use Rattle.loggers.specs.Reasons.{HasRefusedAsk}
use Rattle.member_model.specs.FairCalls.{IsRefusedAsk}
use Rattle.loggers.proofs.InTurns.{turns_keep}
use Rattle.loggers.proofs.SlotLists.{same_or_other, got_there, kept_there}

-- Ports.

-- each call that was made on the port is still among its calls
abbrev Grown : (p q : Access) → Type 0
Grown p q = (e : BufferEntry) → Contains p.own e → Contains q.own e

grown_same : (p q : Access) → q ≡ p → Grown p q
grown_same p q same e has = subst (λ (x : Access). Contains x.own e) (sym same) has

grown_call : (p q : Access) (entry : BufferEntry) (got : List GotEvent) → PortCalled p q entry got → Grown p q
grown_call p q entry got called e has = subst (λ (l : List BufferEntry). Contains l e) (sym called.own) (Contains-append_left p.own (entry ∷ []) e has)

-- the call itself is among them
called_in : (p q : Access) (entry : BufferEntry) (got : List GotEvent) → PortCalled p q entry got → Contains q.own entry
called_in p q entry got called = subst (λ (l : List BufferEntry). Contains l entry) (sym called.own) (Contains-append_right p.own (entry ∷ []) entry (0, omega arith, refl))

grown_then : (p q r : Access) → Grown p q → Grown q r → Grown p r
grown_then p q r first second e has = second e (first e has)

grown_client : (client later : Option ℕ) (a b : Access) → HasClient client later a b → Grown a b
grown_client (Some n) later a b has = grown_same a b has.1
grown_client None (Some n) a b has = grown_call a b _ _ has.0
grown_client None None a b has = grown_call a b _ _ has.1

grown_request : (spec : ChannelSpec) (client request : Option ℕ) (a b : Access) → MakesRequest spec client request a b → Grown a b
grown_request spec (Some n) (Some request) a b made = grown_call a b _ _ made
grown_request spec (Some n) None a b made = grown_call a b _ _ made.1
grown_request spec None (Some request) a b made = absurd made
grown_request spec None None a b made = grown_same a b made

grown_asks : (spec : ChannelSpec) (client later request : Option ℕ) (a b : Access) → AsksEvents spec client later request a b → Grown a b
grown_asks spec client later request a b asks = grown_then a asks.middle b (grown_client client later a asks.middle asks.attached) (grown_request spec later request asks.middle b asks.asked)

grown_refusal : (spec : ChannelSpec) (name : List ℕ) (why : Why) (a b : ChannelAt) → RefusesRun why spec name a b → Grown a.port b.port
grown_refusal spec name NotReady a b refuses = absurd refuses
grown_refusal spec name (Exists channel) a b refuses = grown_same a.port b.port refuses.1.port
grown_refusal spec name (Fault channel) a b refuses = grown_same a.port b.port refuses.1.port
grown_refusal spec name BufferRefused a b refuses = grown_asks spec a.client b.client None a.port b.port refuses.0

grown_opens : (spec : ChannelSpec) (order : Order) (dump : List ℕ) (r : Result ⊤ Why) (a b : ChannelAt) → OpensBy r spec order dump a b → Grown a.port b.port
grown_opens spec order dump (Ok done) a b opens = grown_asks spec a.client b.client (Some opens.asks.request) a.port b.port opens.asks.asks
grown_opens spec order dump (Err why) a b opens = grown_refusal spec _ why a b opens.1

grown_cancels : (standing : Option ChannelRun) (a b : Access) → CancelsStanding standing a b → Grown a b
grown_cancels None a b cancels = grown_same a b cancels
grown_cancels (Some opened) a b cancels = grown_call a b _ _ cancels.1

grown_takes : (p : PullOf) (run : BegunRun) (place : ℕ) (e : Event) (behind early : Bool) → TakesBy behind early p run place e → Grown p.port p.later_port
grown_takes p run place e true early takes = grown_call p.port p.later_port _ _ takes.port.1
grown_takes p run place e false true takes = grown_same p.port p.later_port takes.port
grown_takes p run place e false false takes = elim takes as (λ w. Grown p.port p.later_port) [
  | inl writes ↦ grown_same p.port p.later_port writes.port
  | inr breaks ↦ grown_call p.port p.later_port _ _ breaks.port.1
]

grown_none : (p : PullOf) (run : BegunRun) (drains : Bool) → FindsNone drains p run → Grown p.port p.later_port
grown_none p run true found = grown_call p.port p.later_port _ _ found.port.1
grown_none p run false found = grown_same p.port p.later_port found.port

grown_reply : (p : PullOf) (run : BegunRun) (reply : Received) (e : Event) → TakesReply p run reply e → Grown p.port p.later_port
grown_reply p run (Got place start) e taken = grown_takes p run place e (is_behind_end run.ended place) (nat_lt place run.begun) taken
grown_reply p run (Empty gate last) e taken = grown_none p run (drains_at_none p.stage) taken
grown_reply p run NoClient e taken = grown_same p.port p.later_port taken.port
grown_reply p run (SmallBuf need) e taken = absurd taken

grown_in : (p : PullOf) (room : ℕ) (reads : Option BegunRun) → PullsIn reads p room → Grown p.port p.later_port
grown_in p room None pulls = grown_same p.port p.later_port pulls.port
grown_in p room (Some run) pulls = grown_then p.port pulls.middle p.later_port (grown_call p.port pulls.middle _ _ pulls.received) (grown_reply (record p { port = pulls.middle }) run pulls.reply pulls.event pulls.taken)

-- All ports.

-- what was refused stays so
abbrev Stay : LoggerMoment → LoggerMoment → Type 0
Stay a b = HasRefusedAsk a.ports → HasRefusedAsk b.ports

stay_same : (a b : LoggerMoment) → b ≡ a → Stay a b
stay_same a b same had = subst (λ (m : LoggerMoment). HasRefusedAsk m.ports) (sym same) had

refused_put : (ports : List Access) (buffer : ℕ) (p q : Access) → slice_get ports buffer ≡ Some p → Grown p q → HasRefusedAsk ports → HasRefusedAsk (slice_set ports buffer q)
refused_put ports buffer p q there grown had = elim (same_or_other had.buffer buffer) as (λ w. HasRefusedAsk (slice_set ports buffer q)) [
  | inl same ↦
      let at : slice_get ports buffer ≡ Some had.port = subst (λ (k : ℕ). slice_get ports k ≡ Some had.port) same had.at in
      let is : had.port ≡ p = cc (at, there) in
      record { buffer = buffer; port = q; at = got_there ports buffer p q there; entry = had.entry; among = grown had.entry (subst (λ (x : Access). Contains x.own had.entry) is had.among); refused = had.refused }
  | inr other ↦ record { buffer = had.buffer; port = had.port; at = kept_there ports buffer had.buffer q had.port other had.at; entry = had.entry; among = had.among; refused = had.refused }
]

stay_step : (Step : ChannelStep → Type 0) (n : ℕ) (before : Channel) (a b : LoggerMoment) (s : StepsChannel Step n before a b) → Grown s.port s.later_port → Stay a b
stay_step Step n before a b s grown had = subst (λ (l : List Access). HasRefusedAsk l) (sym s.ports) (refused_put a.ports before.spec.buffer s.port s.later_port s.at_port grown had)

stay_open : (order : Order) (dump : List ℕ) (n : ℕ) (slot : Option Channel) (a b : LoggerMoment) → StepsSlot (OpensChannel order dump (Ok tt)) n slot a b → Stay a b
stay_open order dump n None a b same = stay_same a b same
stay_open order dump n (Some before) a b s = stay_step (OpensChannel order dump (Ok tt)) n before a b s (grown_opens before.spec order dump (Ok tt) _ _ s.step.opens)

stay_refused : (order : Order) (dump : List ℕ) (why : Why) (n : ℕ) (before : Channel) (a b : LoggerMoment) → StepsChannel (OpensChannel order dump (Err why)) n before a b → Stay a b
stay_refused order dump why n before a b s = stay_step (OpensChannel order dump (Err why)) n before a b s (grown_opens before.spec order dump (Err why) _ _ s.step.opens)

stay_abort : (n : ℕ) (slot : Option Channel) (a b : LoggerMoment) → StepsSlot AbortsChannel n slot a b → Stay a b
stay_abort n None a b same = stay_same a b same
stay_abort n (Some before) a b s = stay_step AbortsChannel n before a b s (grown_cancels (asking_run before.stage) s.port s.later_port s.step.cancels)

stay_pull : (dump : List ℕ) (n : ℕ) (answer : Pulled) (slot : Option Channel) (a b : LoggerMoment) → PullsSlot dump slot n answer a b → Stay a b
stay_pull dump n answer None a b pulls = stay_same a b pulls.1
stay_pull dump n answer (Some before) a b s = stay_step (PullsChannel dump answer) n before a b s (grown_in _ before.event.room (reading_run before.stage) s.step.pulls)

stay_call : (entry : BufferEntry) (buffer : ℕ) (a b : LoggerMoment) → CallsBuffer entry buffer a b → Stay a b
stay_call entry buffer a b calls had =
    subst (λ (l : List Access). HasRefusedAsk l) (sym calls.ports) (refused_put a.ports buffer calls.port calls.later_port calls.at_port (grown_call calls.port calls.later_port _ _ calls.called) had)

stay_opens : (order : Order) (dump : List ℕ) (n : ℕ) (a b : LoggerMoment) → OpensBelow order dump n a b → Stay a b
stay_opens order dump n a b opens had = turns_keep (λ k. StepsAt (OpensChannel order dump (Ok tt)) k) (λ m. HasRefusedAsk m.ports) n a b (λ k x y step kept. stay_open order dump k (slot_at x.slots k) x y step kept) opens had

stay_begins : (start n : ℕ) (a b : LoggerMoment) → BeginsBelow start n a b → Stay a b
stay_begins start n a b begins had = turns_keep (λ k. BeginsBuffer start k) (λ m. HasRefusedAsk m.ports) n a b (λ k x y step kept. stay_call _ k x (record y { slots = x.slots }) step.1.marks kept) begins had

stay_ends : (start n : ℕ) (a b : LoggerMoment) → InTurn (λ k. EndsBuffer start k) n a b → Stay a b
stay_ends start n a b ends had = turns_keep (λ k. EndsBuffer start k) (λ m. HasRefusedAsk m.ports) n a b (λ k x y step kept. stay_call _ k x (record y { slots = x.slots }) step.1.marks kept) ends had

stay_aborts : (a b : LoggerMoment) → AbortsAll a b → Stay a b
stay_aborts a b aborts had = turns_keep (λ k. StepsAt AbortsChannel k) (λ m. HasRefusedAsk m.ports) (length a.slots) a b (λ k x y step kept. stay_abort k (slot_at x.slots k) x y step kept) aborts had

-- What was refused.

-- among the port's calls is one that was refused
record Refused (p : Access) : Type 0 where
  entry : BufferEntry
  among : Contains p.own entry
  refused : IsRefusedAsk entry

refused_client : (client : Option ℕ) (a b : Access) → HasClient client None a b → Refused b
refused_client (Some n) a b has = absurd (let never : None ≡ Some n = has.0 in cc (never))
refused_client None a b has = record { entry = _; among = called_in a b _ _ has.1; refused = tt }

refused_request : (spec : ChannelSpec) (client later : Option ℕ) (a middle b : Access) → HasClient client later a middle → MakesRequest spec later None middle b → Refused b
refused_request spec client (Some n) a middle b attached made = record { entry = _; among = called_in middle b _ _ made.1; refused = tt }
refused_request spec client None a middle b attached made = subst (λ (x : Access). Refused x) (sym made) (refused_client client a middle attached)

refused_at : (ports : List Access) (buffer : ℕ) (p q : Access) → slice_get ports buffer ≡ Some p → Refused q → HasRefusedAsk (slice_set ports buffer q)
refused_at ports buffer p q there r = record { buffer = buffer; port = q; at = got_there ports buffer p q there; entry = r.entry; among = r.among; refused = r.refused }

asked_refused : (order : Order) (dump : List ℕ) (why : Why) (n : ℕ) (before : Channel) (a b : LoggerMoment) → why ≡ BufferRefused → StepsChannel (OpensChannel order dump (Err why)) n before a b → HasRefusedAsk b.ports
asked_refused order dump NotReady n before a b is s = absurd (cc (is))
asked_refused order dump (Exists channel) n before a b is s = absurd (cc (is))
asked_refused order dump (Fault channel) n before a b is s = absurd (cc (is))
asked_refused order dump BufferRefused n before a b is s =
    let asks = s.step.opens.1.0 in
    subst (λ (l : List Access). HasRefusedAsk l) (sym s.ports)
    (refused_at a.ports before.spec.buffer s.port s.later_port s.at_port (refused_request before.spec before.client s.after.client s.port asks.middle s.later_port asks.attached asks.asked))

-- Turns.

-- what a turn leaves of that, and where it answers so
pub record TurnAsks (t : LoggerTurn) : Type 0 where
  pub stay : HasRefusedAsk t.before.ports → HasRefusedAsk t.after.ports
  pub refused : t.answer ≡ Some (No BufferRefused) → HasRefusedAsk t.after.ports

opens_asks : (order : Order) (dump : List ℕ) (why : Why) (begun : ℕ) (a b : LoggerMoment) → UndoesOpens order dump why begun a b → Stay a b × (why ≡ BufferRefused → HasRefusedAsk b.ports)
opens_asks order dump why begun a b undoes =
    let r = undoes.opens in (
      (λ had. stay_aborts undoes.refused b undoes.aborts (stay_refused order dump why r.number r.channel r.opened undoes.refused r.refuses (stay_opens order dump r.number a r.opened r.opens had))),
      (λ is. stay_aborts undoes.refused b undoes.aborts (asked_refused order dump why r.number r.channel r.opened undoes.refused is r.refuses)),
    )

begins_asks : (order : Order) (dump : List ℕ) (why : Why) (begun : ℕ) (a b : LoggerMoment) → UndoesBegins order dump why begun a b → Stay a b × (why ≡ BufferRefused → HasRefusedAsk b.ports)
begins_asks order dump why begun a b undoes =
    let m = undoes.begins in
    let calls = m.refuses.1 in (
      (λ had. stay_aborts undoes.refused b undoes.aborts (stay_call _ begun m.begun undoes.refused calls (stay_begins order.start begun undoes.opened m.begun m.begins (stay_opens order dump (length a.slots) a undoes.opened undoes.opens had)))),
      (λ is. stay_aborts undoes.refused b undoes.aborts
          (subst (λ (l : List Access). HasRefusedAsk l) (sym calls.ports)
          (refused_at m.begun.ports begun calls.port calls.later_port calls.at_port (record { entry = _; among = called_in calls.port calls.later_port _ _ calls.called; refused = tt })))),
    )

starts_asks : (result : Result ⊤ Why) (order : Order) (dump : List ℕ) (begun : ℕ) (a b : LoggerMoment) → StartsSo result order dump begun a b → Stay a b × (start_answer result ≡ No BufferRefused → HasRefusedAsk b.ports)
starts_asks (Ok done) order dump begun a b starts = (
  (λ had. stay_begins order.start (length a.ports) starts.opened b starts.begins (stay_opens order dump (length a.slots) a starts.opened starts.opens had)),
  (λ is. absurd (cc (is))),
)
starts_asks (Err why) order dump begun a b starts = elim starts as (λ w. Stay a b × (◌≡◌ {A = Answer} (No why) (No BufferRefused) → HasRefusedAsk b.ports)) [
  | inl opens ↦ (let asks = opens_asks order dump why begun a b opens in (asks.0, λ is. asks.1 (let same : why ≡ BufferRefused = cc (is) in same)))
  | inr begins ↦ (let asks = begins_asks order dump why begun a b begins in (asks.0, λ is. asks.1 (let same : why ≡ BufferRefused = cc (is) in same)))
]

-- a turn that is answered otherwise
asks_other : (t : LoggerTurn) (known : Option Answer) → t.answer ≡ known → (known ≡ Some (No BufferRefused) → ⊥) → Stay t.before t.after → TurnAsks t
asks_other t known is other stay = record { stay = stay; refused = λ answered. absurd (other (sym is ∙ answered)) }

start_asks : (on : Bool) (t : LoggerTurn) → TakesStart on t → TurnAsks t
start_asks true t takes = asks_other t (Some (No NotReady)) takes.answer_is (λ e. cc (e)) (stay_same t.before t.after takes.moment)
start_asks false t takes =
    let asks = starts_asks takes.result t.order _ takes.begun t.before t.after takes.starts in
    record { stay = asks.0; refused = λ answered. asks.1 (let both : Some (start_answer takes.result) ≡ Some (No BufferRefused) = sym takes.answer_is ∙ answered in let same : start_answer takes.result ≡ No BufferRefused = cc (both) in same) }

stop_asks : (of : Bool) (t : LoggerTurn) → TakesStop of t → TurnAsks t
stop_asks true t takes = asks_other t None takes.answer_is (λ e. cc (e)) (stay_ends t.order.start (length t.before.ports) t.before t.after takes.ends)
stop_asks false t takes = asks_other t (Some (Yes Plain)) takes.answer_is (λ e. cc (e)) (stay_same t.before t.after takes.moment)

pause_asks : (of : Bool) (t : LoggerTurn) → TakesMark PausesBuffer of t → TurnAsks t
pause_asks true t takes = asks_other t (Some (Yes Plain)) takes.answer_is (λ e. cc (e))
    (λ had. turns_keep (λ k. PausesBuffer t.order.start k) (λ m. HasRefusedAsk m.ports) (length t.before.ports) t.before t.after (λ k x y step kept. stay_call _ k x y step.1 kept) takes.marks had)
pause_asks false t takes = asks_other t (Some (Yes Plain)) takes.answer_is (λ e. cc (e)) (stay_same t.before t.after takes.moment)

resume_asks : (of : Bool) (t : LoggerTurn) → TakesMark ResumesBuffer of t → TurnAsks t
resume_asks true t takes = asks_other t (Some (Yes Plain)) takes.answer_is (λ e. cc (e))
    (λ had. turns_keep (λ k. ResumesBuffer t.order.start k) (λ m. HasRefusedAsk m.ports) (length t.before.ports) t.before t.after (λ k x y step kept. stay_call _ k x y step.1 kept) takes.marks had)
resume_asks false t takes = asks_other t (Some (Yes Plain)) takes.answer_is (λ e. cc (e)) (stay_same t.before t.after takes.moment)

off_asks : (of : Bool) (t : LoggerTurn) → TakesAbort of t → TurnAsks t
off_asks true t takes = asks_other t (Some (Yes Plain)) takes.answer_is (λ e. cc (e)) (λ had. stay_aborts takes.ended t.after takes.aborts (stay_ends t.order.start (buffers_begun t.run) t.before takes.ended takes.ends had))
off_asks false t takes = asks_other t (Some (Yes Plain)) takes.answer_is (λ e. cc (e)) (stay_same t.before t.after takes.moment)

asks_by : (transition : Transition) (t : LoggerTurn) → TakesTurnBy transition t → TurnAsks t
asks_by Start t takes = start_asks (is_run_on t.run) t takes
asks_by Stop t takes = stop_asks (is_started t.run t.order.start) t takes
asks_by Pause t takes = pause_asks (is_started t.run t.order.start) t takes
asks_by Resume t takes = resume_asks (is_started t.run t.order.start) t takes
asks_by StartAbort t takes = off_asks (is_of_start t.run t.order.start) t takes

pub turn_asks : (t : LoggerTurn) → TakesTurn t → TurnAsks t
turn_asks t takes = asks_by t.transition t takes

pub pull_asks : (dump : List ℕ) (n : ℕ) (answer : Pulled) (a b : LoggerMoment) → PullsNumbered dump n answer a b → HasRefusedAsk a.ports → HasRefusedAsk b.ports
pull_asks dump n answer a b pulls had = stay_pull dump n answer (slot_at a.slots n) a b pulls had
