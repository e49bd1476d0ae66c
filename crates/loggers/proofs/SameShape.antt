-- Each step leaves which channels there are, with their room for events, and to which buffers the ports lead.
use Rattle.std.specs.Prelude.{◌≡◌, ◌==◌, ℕ, Bool, true, false, if◌then◌else◌, nat_lt, List, length, slice_get, slice_set, Option, Some, None, Result, Ok, Err, ⊤, refl}
use Rattle.std.specs.Option.{option_map}
use Rattle.std.proofs.Common.{ap, sym, subst, ◌∙◌, inl, inr}
use Rattle.std.proofs.lemmas.List.{length-set}
use Rattle.daq_types.specs.declared.events.Event.{Event}
use Rattle.daq_types.specs.declared.runs.Order.{Order}
use Rattle.daq_types.specs.declared.runs.Transition.{Transition}
use Rattle.daq_types.specs.declared.runs.Transition.TheVariants.{Start, Stop, Pause, Resume, StartAbort}
use Rattle.daq_types.specs.declared.runs.Why.{Why}
use Rattle.daq_types.specs.declared.runs.Why.TheVariants.{NotReady, Exists, Fault, BufferRefused}
use Rattle.buffer_core.specs.declared.entry.BufferEntry.{BufferEntry}
use Rattle.buffer_core.specs.declared.replies.Received.{Received}
use Rattle.buffer_core.specs.declared.replies.Received.TheVariants.{Got, Empty, NoClient, SmallBuf}
use Rattle.buffer_core.specs.Ports.{Access, GotEvent, PortCalled}
use Rattle.buffer_core.specs.Slots.{slot_at}
use Rattle.buffer_core.proofs.SlotLaws.{slot_change_all}
use Rattle.mid_logger.specs.declared.channel.Channel.{Channel}
use Rattle.mid_logger.specs.declared.channel_spec.ChannelSpec.{ChannelSpec}
use Rattle.mid_logger.specs.declared.pulled.Pulled.{Pulled}
use Rattle.mid_logger.specs.declared.pulled.Pulled.TheVariants.{Nothing}
use Rattle.mid_logger.specs.declared.stage.BegunRun.{BegunRun}
use Rattle.mid_logger.specs.declared.stage.ChannelRun.{ChannelRun}
use Rattle.mid_logger.specs.declared.stage.ChannelStage.{ChannelStage}
use Rattle.mid_logger.specs.declared.stage.ChannelStage.TheVariants.{Idle}
use Rattle.mid_logger.specs.Channels.{CancelsRequest, reading_run, is_behind_end, stage_begun, stage_ended, place_marked}
use Rattle.mid_logger.specs.Pulls.{PullOf, LeavesAll, TakesBy, FindsNone, TakesReply, PullsIn, drains_at_none}
use Rattle.mid_logger.specs.ChannelTurns.{ChannelAt, HasClient, MakesRequest, AsksEvents, RefusesRun, OpensBy, asking_run}
use Rattle.mid_logger.specs.ChannelEnds.{CancelsStanding}
use Rattle.loggers.specs.declared.logged_run.LoggedRun.{LoggedRun}
use Rattle.loggers.specs.Moments.{LoggerMoment, ChannelStep, StepsChannel, StepsSlot, StepsAt, CallsBuffer, MarksBuffer, InTurn, noted_channel, AreIdleChannels, IsSameAccess, AreSamePorts}
use Rattle.loggers.specs.ChannelSteps.{OpensChannel, AbortsChannel, PullsChannel}
use Rattle.loggers.specs.SlotPulls.{HasEventRoom, PullsSlot, PullsNumbered}
use Rattle.loggers.specs.Turning.{IsIdleOutside, BeginsBuffer, EndsBuffer, PausesBuffer, ResumesBuffer, LoggerTurn, OpensBelow, BeginsBelow, AbortsAll, UndoesOpens, UndoesBegins, StartsSo, TakesStart, TakesStop, TakesMark, TakesAbort, TakesTurnBy, TakesTurn, is_run_on, is_started, is_of_start, buffers_begun}
use Rattle.loggers.proofs.InTurns.{turns_keep}
use Rattle.loggers.proofs.SlotLists.{same_or_other, one_changed, got_there, got_elsewhere}

-- Ports.

same_access : (a : Access) → IsSameAccess a a
same_access a = (refl, refl, refl)

access_then : (a b c : Access) → IsSameAccess a b → IsSameAccess b c → IsSameAccess a c
access_then a b c first second = (second.0 ∙ first.0, second.1 ∙ first.1, second.2 ∙ first.2)

equal_access : (a b : Access) → b ≡ a → IsSameAccess a b
equal_access a b same = (ap (λ (x : Access). x.buffer) same, ap (λ (x : Access). x.caller) same, ap (λ (x : Access). x.size) same)

called_access : (a b : Access) (entry : BufferEntry) (got : List GotEvent) → PortCalled a b entry got → IsSameAccess a b
called_access a b entry got called = (called.buffer, called.caller, called.size)

pub same_ports : (ports : List Access) → AreSamePorts ports ports
same_ports ports = record {
  many = refl;
  there = λ buffer b at. (b, at);
  same = λ buffer a b one other.
      let both : Some a ≡ Some b = sym one ∙ other in
      let is : b ≡ a = cc (both) in
      equal_access a b is;
}

pub ports_then : (ports between later : List Access) → AreSamePorts ports between → AreSamePorts between later → AreSamePorts ports later
ports_then ports between later one two = record {
  many = two.many ∙ one.many;
  there = λ buffer c at. let b : (b : Access) × (slice_get between buffer ≡ Some b) = two.there buffer c at in one.there buffer b.0 b.1;
  same = λ buffer a c first last.
      let b : (b : Access) × (slice_get between buffer ≡ Some b) = two.there buffer c last in
      access_then a b.0 c (one.same buffer a b.0 first b.1) (two.same buffer b.0 c b.1 last);
}

-- one port was called
port_set : (ports : List Access) (buffer : ℕ) (p q : Access) → slice_get ports buffer ≡ Some p → IsSameAccess p q → AreSamePorts ports (slice_set ports buffer q)
port_set ports buffer p q there same = record {
  many = length-set ports buffer q;
  there = λ n b at. elim (same_or_other n buffer) as (λ w. (a : Access) × (slice_get ports n ≡ Some a)) [
    | inl here ↦ (p, subst (λ (k : ℕ). slice_get ports k ≡ Some p) (sym here) there)
    | inr other ↦ (b, got_elsewhere ports buffer n q b other at)
  ];
  same = λ n a b before after. elim (same_or_other n buffer) as (λ w. IsSameAccess a b) [
    | inl here ↦
        let put : slice_get (slice_set ports buffer q) buffer ≡ Some q = got_there ports buffer p q there in
        let a_is : p ≡ a = cc (before, here, there) in
        let b_is : q ≡ b = cc (after, here, put) in
        subst (λ (x : Access). IsSameAccess x b) a_is (subst (λ (x : Access). IsSameAccess p x) b_is same)
    | inr other ↦
        let still : slice_get ports n ≡ Some b = got_elsewhere ports buffer n q b other after in
        let is : b ≡ a = cc (before, still) in
        equal_access a b is
  ];
}

-- What a channel's steps leave of the port.

cancels_access : (a b : Access) (opened : ChannelRun) → CancelsRequest a b opened → IsSameAccess a b
cancels_access a b opened cancels = called_access a b _ _ cancels.1

takes_access : (p : PullOf) (run : BegunRun) (place : ℕ) (e : Event) (behind early : Bool) → TakesBy behind early p run place e → IsSameAccess p.port p.later_port
takes_access p run place e true early takes = cancels_access p.port p.later_port run.opened takes.port
takes_access p run place e false true takes = equal_access p.port p.later_port takes.port
takes_access p run place e false false takes = elim takes as (λ w. IsSameAccess p.port p.later_port) [
  | inl writes ↦ equal_access p.port p.later_port writes.port
  | inr breaks ↦ cancels_access p.port p.later_port run.opened breaks.port
]

none_access : (p : PullOf) (run : BegunRun) (drains : Bool) → FindsNone drains p run → IsSameAccess p.port p.later_port
none_access p run true found = cancels_access p.port p.later_port run.opened found.port
none_access p run false found = equal_access p.port p.later_port found.port

reply_access : (p : PullOf) (run : BegunRun) (reply : Received) (e : Event) → TakesReply p run reply e → IsSameAccess p.port p.later_port
reply_access p run (Got place start) e taken = takes_access p run place e (is_behind_end run.ended place) (nat_lt place run.begun) taken
reply_access p run (Empty gate last) e taken = none_access p run (drains_at_none p.stage) taken
reply_access p run NoClient e taken = equal_access p.port p.later_port taken.port
reply_access p run (SmallBuf need) e taken = absurd taken

pulls_access : (p : PullOf) (room : ℕ) (reads : Option BegunRun) → PullsIn reads p room → IsSameAccess p.port p.later_port
pulls_access p room None pulls = equal_access p.port p.later_port pulls.port
pulls_access p room (Some run) pulls =
    access_then p.port pulls.middle p.later_port (called_access p.port pulls.middle _ _ pulls.received) (reply_access (record p { port = pulls.middle }) run pulls.reply pulls.event pulls.taken)

client_access : (client later : Option ℕ) (a b : Access) → HasClient client later a b → IsSameAccess a b
client_access (Some client) later a b has = equal_access a b has.1
client_access None (Some client) a b has = called_access a b _ _ has.0
client_access None None a b has = called_access a b _ _ has.1

request_access : (spec : ChannelSpec) (client request : Option ℕ) (a b : Access) → MakesRequest spec client request a b → IsSameAccess a b
request_access spec (Some client) (Some request) a b made = called_access a b _ _ made
request_access spec (Some client) None a b made = called_access a b _ _ made.1
request_access spec None (Some request) a b made = absurd made
request_access spec None None a b made = equal_access a b made

asks_access : (spec : ChannelSpec) (client later request : Option ℕ) (a b : Access) → AsksEvents spec client later request a b → IsSameAccess a b
asks_access spec client later request a b asks =
    access_then a asks.middle b (client_access client later a asks.middle asks.attached) (request_access spec later request asks.middle b asks.asked)

refusal_access : (spec : ChannelSpec) (name : List ℕ) (why : Why) (a b : ChannelAt) → RefusesRun why spec name a b → IsSameAccess a.port b.port
refusal_access spec name NotReady a b refuses = absurd refuses
refusal_access spec name (Exists channel) a b refuses = equal_access a.port b.port refuses.1.port
refusal_access spec name (Fault channel) a b refuses = equal_access a.port b.port refuses.1.port
refusal_access spec name BufferRefused a b refuses = asks_access spec a.client b.client None a.port b.port refuses.0

opens_access : (spec : ChannelSpec) (order : Order) (dump : List ℕ) (r : Result ⊤ Why) (a b : ChannelAt) → OpensBy r spec order dump a b → IsSameAccess a.port b.port
opens_access spec order dump (Ok done) a b opens = asks_access spec a.client b.client (Some opens.asks.request) a.port b.port opens.asks.asks
opens_access spec order dump (Err why) a b opens = refusal_access spec _ why a b opens.1

aborts_access : (standing : Option ChannelRun) (a b : Access) → CancelsStanding standing a b → IsSameAccess a b
aborts_access None a b cancels = equal_access a b cancels
aborts_access (Some opened) a b cancels = cancels_access a b opened cancels

-- Channels.

-- a channel of this spec and with this room stood at the number
record WasThere (slots : List (Option Channel)) (n : ℕ) (c : Channel) : Type 0 where
  before : Channel
  there : slot_at slots n ≡ Some before
  spec : c.spec ≡ before.spec
  room : c.event.room ≡ before.event.room

-- What every step leaves.
record KeepsShape (a b : LoggerMoment) : Type 0 where
  rooms : (n : ℕ) → (c : Channel) → slot_at b.slots n ≡ Some c → WasThere a.slots n c
  ports : AreSamePorts a.ports b.ports

shape_same : (a : LoggerMoment) → KeepsShape a a
shape_same a = record { rooms = λ n c there. record { before = c; there = there; spec = refl; room = refl }; ports = same_ports a.ports }

shape_equal : (a b : LoggerMoment) → b ≡ a → KeepsShape a b
shape_equal a b same = subst (λ (m : LoggerMoment). KeepsShape a m) (sym same) (shape_same a)

shape_then : (a b c : LoggerMoment) → KeepsShape a b → KeepsShape b c → KeepsShape a c
shape_then a b c first second = record {
  rooms = λ n x there.
      let late : WasThere b.slots n x = second.rooms n x there in
      let early : WasThere a.slots n late.before = first.rooms n late.before late.there in
      record { before = early.before; there = early.there; spec = late.spec ∙ early.spec; room = late.room ∙ early.room };
  ports = ports_then a.ports b.ports c.ports first.ports second.ports;
}

shape_turns : (Step : ℕ → LoggerMoment → LoggerMoment → Type 0) (n : ℕ) (a b : LoggerMoment) → ((k : ℕ) (x y : LoggerMoment) → Step k x y → KeepsShape x y) → InTurn Step n a b → KeepsShape a b
shape_turns Step n a b each turns = turns_keep Step (λ m. KeepsShape a m) n a b (λ k x y step kept. shape_then a x y kept (each k x y step)) turns (shape_same a)

step_shape : (Step : ChannelStep → Type 0) (n : ℕ) (before : Channel) (a b : LoggerMoment) (s : StepsChannel Step n before a b) → slot_at a.slots n ≡ Some before → s.after.spec ≡ before.spec → s.after.event.room ≡ before.event.room → IsSameAccess s.port s.later_port → KeepsShape a b
step_shape Step n before a b s there spec room same = record {
  rooms = λ m c at.
      one_changed (λ k x. WasThere a.slots k x) a.slots n s.after
      (λ x stood. record { before = before; there = there; spec = spec; room = room })
      (λ k x other stood. record { before = x; there = stood; spec = refl; room = refl }) before there m c
      (subst (λ (l : List (Option Channel)). slot_at l m ≡ Some c) s.slots at);
  ports = subst (λ (l : List Access). AreSamePorts a.ports l) (sym s.ports) (port_set a.ports before.spec.buffer s.port s.later_port s.at_port same);
}

opened_shape : (order : Order) (dump : List ℕ) (r : Result ⊤ Why) (n : ℕ) (before : Channel) (a b : LoggerMoment) → slot_at a.slots n ≡ Some before → StepsChannel (OpensChannel order dump r) n before a b → KeepsShape a b
opened_shape order dump r n before a b there s =
    step_shape (OpensChannel order dump r) n before a b s there s.step.spec (ap (λ (e : _). e.room) s.step.event) (opens_access before.spec order dump r _ _ s.step.opens)

open_shape : (order : Order) (dump : List ℕ) (n : ℕ) (slot : Option Channel) (a b : LoggerMoment) → slot_at a.slots n ≡ slot → StepsSlot (OpensChannel order dump (Ok tt)) n slot a b → KeepsShape a b
open_shape order dump n None a b there same = shape_equal a b same
open_shape order dump n (Some before) a b there s = opened_shape order dump (Ok tt) n before a b there s

abort_shape : (n : ℕ) (slot : Option Channel) (a b : LoggerMoment) → slot_at a.slots n ≡ slot → StepsSlot AbortsChannel n slot a b → KeepsShape a b
abort_shape n None a b there same = shape_equal a b same
abort_shape n (Some before) a b there s =
    step_shape AbortsChannel n before a b s there (ap (λ (c : Channel). c.spec) s.step.channel) (ap (λ (c : Channel). c.event.room) s.step.channel) (aborts_access (asking_run before.stage) s.port s.later_port s.step.cancels)

pull_shape : (dump : List ℕ) (n : ℕ) (answer : Pulled) (slot : Option Channel) (a b : LoggerMoment) → slot_at a.slots n ≡ slot → PullsSlot dump slot n answer a b → KeepsShape a b
pull_shape dump n answer None a b there pulls = shape_equal a b pulls.1
pull_shape dump n answer (Some before) a b there s =
    step_shape (PullsChannel dump answer) n before a b s there s.step.spec s.step.room (pulls_access _ before.event.room (reading_run before.stage) s.step.pulls)

-- Marks.

call_shape : (entry : BufferEntry) (buffer : ℕ) (a b : LoggerMoment) → CallsBuffer entry buffer a b → KeepsShape a b
call_shape entry buffer a b calls = record {
  rooms = λ n c there. record { before = c; there = subst (λ (l : List (Option Channel)). slot_at l n ≡ Some c) calls.slots there; spec = refl; room = refl };
  ports = subst (λ (l : List Access). AreSamePorts a.ports l) (sym calls.ports) (port_set a.ports buffer calls.port calls.later_port calls.at_port (called_access calls.port calls.later_port _ _ calls.called));
}

noted_was : (note : ChannelStage → ChannelStage) (buffer : ℕ) (slots : List (Option Channel)) (n : ℕ) (c : Channel) (slot : Option Channel) → slot_at slots n ≡ slot → option_map (noted_channel note buffer) slot ≡ Some c → WasThere slots n c
noted_was note buffer slots n c None there is = absurd (cc (is))
noted_was note buffer slots n c (Some x) there is =
    let same : noted_channel note buffer x ≡ c = cc (is) in
    subst (λ (y : Channel). WasThere slots n y) same (by_hit (x.spec.buffer == buffer))
  where
    by_hit : (hit : Bool) → WasThere slots n (if hit then record x { stage = note x.stage } else x)
    by_hit true = record { before = x; there = there; spec = refl; room = refl }
    by_hit false = record { before = x; there = there; spec = refl; room = refl }

mark_shape : (entry : BufferEntry) (note : ChannelStage → ChannelStage) (buffer : ℕ) (a b : LoggerMoment) → MarksBuffer entry note buffer a b → KeepsShape a b
mark_shape entry note buffer a b marks = record {
  rooms = λ n c there.
      noted_was note buffer a.slots n c (slot_at a.slots n) refl
      (sym (slot_change_all (noted_channel note buffer) a.slots n) ∙ subst (λ (l : List (Option Channel)). slot_at l n ≡ Some c) marks.noted there);
  ports = (call_shape entry buffer a (record b { slots = a.slots }) marks.marks).ports;
}

-- Turns.

opens_shape : (order : Order) (dump : List ℕ) (n : ℕ) (a b : LoggerMoment) → OpensBelow order dump n a b → KeepsShape a b
opens_shape order dump n a b opens = shape_turns (λ k. StepsAt (OpensChannel order dump (Ok tt)) k) n a b (λ k x y step. open_shape order dump k (slot_at x.slots k) x y refl step) opens

begins_shape : (start n : ℕ) (a b : LoggerMoment) → BeginsBelow start n a b → KeepsShape a b
begins_shape start n a b begins = shape_turns (λ k. BeginsBuffer start k) n a b (λ k x y step. mark_shape _ (λ stage. stage_begun stage step.0) k x y step.1) begins

ends_shape : (start n : ℕ) (a b : LoggerMoment) → InTurn (λ k. EndsBuffer start k) n a b → KeepsShape a b
ends_shape start n a b ends = shape_turns (λ k. EndsBuffer start k) n a b (λ k x y step. mark_shape _ (λ stage. stage_ended stage (place_marked step.0)) k x y step.1) ends

aborts_shape : (a b : LoggerMoment) → AbortsAll a b → KeepsShape a b
aborts_shape a b aborts = shape_turns (λ k. StepsAt AbortsChannel k) (length a.slots) a b (λ k x y step. abort_shape k (slot_at x.slots k) x y refl step) aborts

pauses_shape : (start n : ℕ) (a b : LoggerMoment) → InTurn (λ k. PausesBuffer start k) n a b → KeepsShape a b
pauses_shape start n a b pauses = shape_turns (λ k. PausesBuffer start k) n a b (λ k x y step. call_shape _ k x y step.1) pauses

resumes_shape : (start n : ℕ) (a b : LoggerMoment) → InTurn (λ k. ResumesBuffer start k) n a b → KeepsShape a b
resumes_shape start n a b resumes = shape_turns (λ k. ResumesBuffer start k) n a b (λ k x y step. call_shape _ k x y step.1) resumes

undone_opens_shape : (order : Order) (dump : List ℕ) (why : Why) (begun : ℕ) (a b : LoggerMoment) → UndoesOpens order dump why begun a b → KeepsShape a b
undone_opens_shape order dump why begun a b undoes =
    let r = undoes.opens in
    shape_then a undoes.refused b
    (shape_then a r.opened undoes.refused (opens_shape order dump r.number a r.opened r.opens) (opened_shape order dump (Err why) r.number r.channel r.opened undoes.refused r.there r.refuses))
    (aborts_shape undoes.refused b undoes.aborts)

undone_begins_shape : (order : Order) (dump : List ℕ) (why : Why) (begun : ℕ) (a b : LoggerMoment) → UndoesBegins order dump why begun a b → KeepsShape a b
undone_begins_shape order dump why begun a b undoes =
    let m = undoes.begins in
    shape_then a undoes.refused b
    (shape_then a undoes.opened undoes.refused (opens_shape order dump (length a.slots) a undoes.opened undoes.opens)
    (shape_then undoes.opened m.begun undoes.refused (begins_shape order.start begun undoes.opened m.begun m.begins) (call_shape _ begun m.begun undoes.refused m.refuses.1)))
    (aborts_shape undoes.refused b undoes.aborts)

starts_shape : (result : Result ⊤ Why) (order : Order) (dump : List ℕ) (begun : ℕ) (a b : LoggerMoment) → StartsSo result order dump begun a b → KeepsShape a b
starts_shape (Ok done) order dump begun a b starts =
    shape_then a starts.opened b (opens_shape order dump (length a.slots) a starts.opened starts.opens) (begins_shape order.start (length a.ports) starts.opened b starts.begins)
starts_shape (Err why) order dump begun a b starts = elim starts as (λ w. KeepsShape a b) [
  | inl opens ↦ undone_opens_shape order dump why begun a b opens
  | inr begins ↦ undone_begins_shape order dump why begun a b begins
]

start_shape : (on : Bool) (t : LoggerTurn) → TakesStart on t → KeepsShape t.before t.after
start_shape true t takes = shape_equal t.before t.after takes.moment
start_shape false t takes = starts_shape takes.result t.order _ takes.begun t.before t.after takes.starts

stop_shape : (of : Bool) (t : LoggerTurn) → TakesStop of t → KeepsShape t.before t.after
stop_shape true t takes = ends_shape t.order.start (length t.before.ports) t.before t.after takes.ends
stop_shape false t takes = shape_equal t.before t.after takes.moment

pause_shape : (of : Bool) (t : LoggerTurn) → TakesMark PausesBuffer of t → KeepsShape t.before t.after
pause_shape true t takes = pauses_shape t.order.start (length t.before.ports) t.before t.after takes.marks
pause_shape false t takes = shape_equal t.before t.after takes.moment

resume_shape : (of : Bool) (t : LoggerTurn) → TakesMark ResumesBuffer of t → KeepsShape t.before t.after
resume_shape true t takes = resumes_shape t.order.start (length t.before.ports) t.before t.after takes.marks
resume_shape false t takes = shape_equal t.before t.after takes.moment

called_off_shape : (of : Bool) (t : LoggerTurn) → TakesAbort of t → KeepsShape t.before t.after
called_off_shape true t takes =
    shape_then t.before takes.ended t.after (ends_shape t.order.start (buffers_begun t.run) t.before takes.ended takes.ends) (aborts_shape takes.ended t.after takes.aborts)
called_off_shape false t takes = shape_equal t.before t.after takes.moment

turn_shape : (transition : Transition) (t : LoggerTurn) → TakesTurnBy transition t → KeepsShape t.before t.after
turn_shape Start t takes = start_shape (is_run_on t.run) t takes
turn_shape Stop t takes = stop_shape (is_started t.run t.order.start) t takes
turn_shape Pause t takes = pause_shape (is_started t.run t.order.start) t takes
turn_shape Resume t takes = resume_shape (is_started t.run t.order.start) t takes
turn_shape StartAbort t takes = called_off_shape (is_of_start t.run t.order.start) t takes

-- What the calls say of it.

room_kept : (a b : LoggerMoment) → KeepsShape a b → ((number : ℕ) → HasEventRoom number a.slots a.ports) → (number : ℕ) → HasEventRoom number b.slots b.ports
room_kept a b shape have number c y there at =
    let was : WasThere a.slots number c = shape.rooms number c there in
    let at_old : slice_get b.ports was.before.spec.buffer ≡ Some y = subst (λ (s : ChannelSpec). slice_get b.ports s.buffer ≡ Some y) was.spec at in
    let old : (x : Access) × (slice_get a.ports was.before.spec.buffer ≡ Some x) = shape.ports.there was.before.spec.buffer y at_old in
    let same : IsSameAccess old.0 y = shape.ports.same was.before.spec.buffer old.0 y old.1 at_old in
    rw (was.room, same.2) (have number was.before old.0 was.there old.1)

pub turn_ports : (t : LoggerTurn) → TakesTurn t → AreSamePorts t.before.ports t.after.ports
turn_ports t takes = (turn_shape t.transition t takes).ports

pub turn_room : (t : LoggerTurn) → TakesTurn t → ((number : ℕ) → HasEventRoom number t.before.slots t.before.ports) → (number : ℕ) → HasEventRoom number t.after.slots t.after.ports
turn_room t takes have = room_kept t.before t.after (turn_shape t.transition t takes) have

pub pull_ports : (dump : List ℕ) (n : ℕ) (answer : Pulled) (a b : LoggerMoment) → PullsNumbered dump n answer a b → AreSamePorts a.ports b.ports
pull_ports dump n answer a b pulls = (pull_shape dump n answer (slot_at a.slots n) a b refl pulls).ports

pub pull_room : (dump : List ℕ) (n : ℕ) (answer : Pulled) (a b : LoggerMoment) → PullsNumbered dump n answer a b → ((number : ℕ) → HasEventRoom number a.slots a.ports) → (number : ℕ) → HasEventRoom number b.slots b.ports
pull_room dump n answer a b pulls have = room_kept a b (pull_shape dump n answer (slot_at a.slots n) a b refl pulls) have

-- Outside a run.

idle_pull : (p : PullOf) (room : ℕ) → p.stage ≡ Idle → PullsIn (reading_run p.stage) p room → p.later_stage ≡ Idle
idle_pull p room idle pulls =
    let at : LeavesAll p Nothing = subst (λ (stage : ChannelStage). PullsIn (reading_run stage) p room) idle pulls in
    at.stage ∙ idle

pulled_idle : (dump : List ℕ) (n : ℕ) (answer : Pulled) (slot : Option Channel) (a b : LoggerMoment) → slot_at a.slots n ≡ slot → PullsSlot dump slot n answer a b → AreIdleChannels a.slots → AreIdleChannels b.slots
pulled_idle dump n answer None a b there pulls idle = subst (λ (m : LoggerMoment). AreIdleChannels m.slots) (sym pulls.1) idle
pulled_idle dump n answer (Some before) a b there s idle = λ m c at.
    one_changed (λ k x. x.stage ≡ Idle) a.slots n s.after (λ x stood. idle_pull _ before.event.room (idle n before there) s.step.pulls) (λ k x other stood. idle k x stood) before there m c
    (subst (λ (l : List (Option Channel)). slot_at l m ≡ Some c) s.slots at)

-- what pulls outside a run leaves every channel idle
pub pull_idle : (run : Option LoggedRun) (dump : List ℕ) (n : ℕ) (answer : Pulled) (a b : LoggerMoment) → PullsNumbered dump n answer a b → IsIdleOutside run a.slots → IsIdleOutside run b.slots
pull_idle run dump n answer a b pulls idle off = pulled_idle dump n answer (slot_at a.slots n) a b refl pulls (idle off)
