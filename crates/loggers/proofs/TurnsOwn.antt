-- Each call keeps that the logger sends nothing on its ports, and names only clients that its own attach there gave.
use Rattle.std.specs.Prelude.{◌≡◌, ◌==◌, ℕ, Bool, true, false, if◌then◌else◌, List, length, slice_get, slice_set, Option, Some, None, Result, Ok, Err, ⊤, refl}
use Rattle.std.specs.List.{list_all}
use Rattle.std.specs.Option.{option_map}
use Rattle.std.proofs.Common.{ap, sym, subst, ◌∙◌, inl, inr}
use Rattle.daq_types.specs.declared.runs.Order.{Order}
use Rattle.daq_types.specs.declared.runs.Transition.{Transition}
use Rattle.daq_types.specs.declared.runs.Transition.TheVariants.{Start, Stop, Pause, Resume, StartAbort}
use Rattle.daq_types.specs.declared.runs.Why.{Why}
use Rattle.buffer_core.specs.declared.entry.BufferEntry.{BufferEntry}
use Rattle.buffer_core.specs.Ports.{Access}
use Rattle.buffer_core.specs.Slots.{slot_at}
use Rattle.buffer_core.proofs.SlotLaws.{slot_change_all}
use Rattle.member_model.specs.OwnCalls.{IsOwnCall, SendsNone}
use Rattle.mid_logger.specs.declared.channel.Channel.{Channel}
use Rattle.mid_logger.specs.declared.channel_spec.ChannelSpec.{ChannelSpec}
use Rattle.mid_logger.specs.declared.pulled.Pulled.{Pulled}
use Rattle.mid_logger.specs.declared.stage.ChannelStage.{ChannelStage}
use Rattle.mid_logger.specs.Channels.{KeepsOwnCalls, IsOwnClient, stage_begun, stage_ended, place_marked}
use Rattle.mid_logger.specs.ChannelTurns.{asking_run}
use Rattle.loggers.specs.Moments.{LoggerMoment, ChannelStep, StepsChannel, StepsSlot, StepsAt, CallsBuffer, MarksBuffer, InTurn, noted_channel}
use Rattle.loggers.specs.ChannelSteps.{OpensChannel, AbortsChannel, PullsChannel}
use Rattle.loggers.specs.SlotPulls.{PullsSlot, PullsNumbered}
use Rattle.loggers.specs.LoggerCalls.{KeepsLoggerCalls}
use Rattle.loggers.specs.Finishing.{EndingMoment, EndsSlot, EndsSlotAt, LoggerFinish, FinishesBy, FinishesLogger, is_settled_slot, waiting_stop}
use Rattle.loggers.specs.Turning.{BeginsBuffer, EndsBuffer, PausesBuffer, ResumesBuffer, LoggerTurn, OpensBelow, BeginsBelow, AbortsAll, UndoesOpens, UndoesBegins, StartsSo, TakesStart, TakesStop, TakesMark, TakesAbort, TakesTurnBy, TakesTurn, is_run_on, is_started, is_of_start, buffers_begun}
use Rattle.loggers.proofs.InTurns.{turns_keep}
use Rattle.loggers.proofs.SlotLists.{same_or_other, one_changed, got_there, got_elsewhere}
use Rattle.loggers.proofs.OwnCalls.{PortOwned, AsksFor, own_more, client_still, opens_owned, cancels_owned, pulls_owned, begun_asks, ended_asks, settled_asks}

-- Ports of which one was called.

calls_put : (ports : List Access) (buffer : ℕ) (p q : Access) → slice_get ports buffer ≡ Some p → KeepsOwnCalls q.own → ((k : ℕ) (x : Access) → slice_get ports k ≡ Some x → KeepsOwnCalls x.own)
    → (k : ℕ) (x : Access) → slice_get (slice_set ports buffer q) k ≡ Some x → KeepsOwnCalls x.own
calls_put ports buffer p q there calls kept k x at = elim (same_or_other k buffer) as (λ w. KeepsOwnCalls x.own) [
  | inl here ↦
      let put : slice_get (slice_set ports buffer q) buffer ≡ Some q = got_there ports buffer p q there in
      let is : q ≡ x = cc (at, here, put) in
      subst (λ (y : Access). KeepsOwnCalls y.own) is calls
  | inr other ↦ kept k x (got_elsewhere ports buffer k q x other at)
]

client_put : (ports : List Access) (buffer : ℕ) (p q : Access) (client : Option ℕ) → slice_get ports buffer ≡ Some p → (IsOwnClient client p.own → IsOwnClient client q.own)
    → (k : ℕ) (x : Access) → slice_get (slice_set ports buffer q) k ≡ Some x → ((y : Access) → slice_get ports k ≡ Some y → IsOwnClient client y.own) → IsOwnClient client x.own
client_put ports buffer p q client there still k x at kept = elim (same_or_other k buffer) as (λ w. IsOwnClient client x.own) [
  | inl here ↦
      let put : slice_get (slice_set ports buffer q) buffer ≡ Some q = got_there ports buffer p q there in
      let is : q ≡ x = cc (at, here, put) in
      subst (λ (y : Access). IsOwnClient client y.own) is (still (kept p (subst (λ (j : ℕ). slice_get ports j ≡ Some p) (sym here) there)))
  | inr other ↦ kept x (got_elsewhere ports buffer k q x other at)
]

-- Channels.

abbrev Owned : LoggerMoment → Type 0
Owned m = KeepsLoggerCalls m.slots m.ports

owned_as : (a b : LoggerMoment) → b ≡ a → Owned a → Owned b
owned_as a b same kept = subst (λ (m : LoggerMoment). Owned m) (sym same) kept

step_owned : (Step : ChannelStep → Type 0) (n : ℕ) (before : Channel) (a b : LoggerMoment) (s : StepsChannel Step n before a b) → slot_at a.slots n ≡ Some before → s.after.spec ≡ before.spec
    → PortOwned s.after.client s.port s.later_port → AsksFor s.after.client s.after.stage → Owned a → Owned b
step_owned Step n before a b s there spec port asks kept =
    let ports : List Access = slice_set a.ports before.spec.buffer s.later_port in
    let now : KeepsLoggerCalls (slice_set a.slots n (Some s.after)) ports = record {
      calls = λ k x at. calls_put a.ports before.spec.buffer s.port s.later_port s.at_port port.calls kept.calls k x at;
      clients = λ k c x stood at.
          one_changed (λ j (d : Channel). slice_get ports d.spec.buffer ≡ Some x → IsOwnClient d.client x.own) a.slots n s.after
          (λ was stood_n at_n.
          let at_buffer : slice_get ports before.spec.buffer ≡ Some x = subst (λ (sp : ChannelSpec). slice_get ports sp.buffer ≡ Some x) spec at_n in
          let put : slice_get ports before.spec.buffer ≡ Some s.later_port = got_there a.ports before.spec.buffer s.port s.later_port s.at_port in
          let is : s.later_port ≡ x = cc (at_buffer, put) in
          subst (λ (y : Access). IsOwnClient s.after.client y.own) is port.client)
          (λ j d other stood_j at_j. client_put a.ports before.spec.buffer s.port s.later_port d.client s.at_port (port.others d.client) d.spec.buffer x at_j (λ y at_y. kept.clients j d y stood_j at_y))
          before there k c stood at;
      asking = λ k c opened stood is.
          one_changed (λ j (d : Channel). AsksFor d.client d.stage) a.slots n s.after (λ was stood_n. asks) (λ j d other stood_j. λ o o_is. kept.asking j d o stood_j o_is) before there k c stood opened is;
    } in
    subst (λ (l : List Access). KeepsLoggerCalls b.slots l) (sym s.ports) (subst (λ (l : List (Option Channel)). KeepsLoggerCalls l ports) (sym s.slots) now)

opened_owned : (order : Order) (dump : List ℕ) (r : Result ⊤ Why) (n : ℕ) (before : Channel) (a b : LoggerMoment) → slot_at a.slots n ≡ Some before → StepsChannel (OpensChannel order dump r) n before a b → Owned a → Owned b
opened_owned order dump r n before a b there s kept =
    let own = opens_owned before.spec order dump r _ _ s.step.opens (kept.calls before.spec.buffer s.port s.at_port) (kept.clients n before s.port there s.at_port) (λ opened is. kept.asking n before opened there is) in
    step_owned (OpensChannel order dump r) n before a b s there s.step.spec own.0 own.1 kept

open_owned : (order : Order) (dump : List ℕ) (n : ℕ) (slot : Option Channel) (a b : LoggerMoment) → slot_at a.slots n ≡ slot → StepsSlot (OpensChannel order dump (Ok tt)) n slot a b → Owned a → Owned b
open_owned order dump n None a b there same kept = owned_as a b same kept
open_owned order dump n (Some before) a b there s kept = opened_owned order dump (Ok tt) n before a b there s kept

none_asks : (client : Option ℕ) (stage : ChannelStage) → asking_run stage ≡ None → AsksFor client stage
none_asks client stage none opened is = absurd (let never : None ≡ Some opened = sym none ∙ is in cc (never))

abort_owned : (n : ℕ) (slot : Option Channel) (a b : LoggerMoment) → slot_at a.slots n ≡ slot → StepsSlot AbortsChannel n slot a b → Owned a → Owned b
abort_owned n None a b there same kept = owned_as a b same kept
abort_owned n (Some before) a b there s kept =
    let same : s.after.client ≡ before.client = ap (λ (c : Channel). c.client) s.step.channel in
    let port : PortOwned before.client s.port s.later_port = cancels_owned before.client (asking_run before.stage) s.port s.later_port s.step.cancels (kept.calls before.spec.buffer s.port s.at_port) (kept.clients n before s.port there s.at_port) (λ opened is. kept.asking n before opened there is) in
    step_owned AbortsChannel n before a b s there (ap (λ (c : Channel). c.spec) s.step.channel) (subst (λ (l : Option ℕ). PortOwned l s.port s.later_port) (sym same) port)
    (none_asks s.after.client s.after.stage (ap (λ (c : Channel). asking_run c.stage) s.step.channel)) kept

pull_owned : (dump : List ℕ) (n : ℕ) (answer : Pulled) (slot : Option Channel) (a b : LoggerMoment) → slot_at a.slots n ≡ slot → PullsSlot dump slot n answer a b → Owned a → Owned b
pull_owned dump n answer None a b there pulls kept = owned_as a b pulls.1 kept
pull_owned dump n answer (Some before) a b there s kept =
    let own = pulls_owned _ before.event.room before.client s.step.pulls (kept.calls before.spec.buffer s.port s.at_port) (kept.clients n before s.port there s.at_port) (λ opened is. kept.asking n before opened there is) in
    step_owned (PullsChannel dump answer) n before a b s there s.step.spec (subst (λ (l : Option ℕ). PortOwned l s.port s.later_port) (sym s.step.client) own.0) (subst (λ (l : Option ℕ). AsksFor l s.after.stage) (sym s.step.client) own.1) kept

-- Marks.

call_owned : (entry : BufferEntry) (buffer : ℕ) (a b : LoggerMoment) → CallsBuffer entry buffer a b → SendsNone entry → ((es : List BufferEntry) → IsOwnCall entry es) → Owned a → Owned b
call_owned entry buffer a b calls sends own kept =
    let ports : List Access = slice_set a.ports buffer calls.later_port in
    let now : KeepsLoggerCalls a.slots ports = record {
      calls = λ k x at. calls_put a.ports buffer calls.port calls.later_port calls.at_port (own_more calls.port calls.later_port _ _ calls.called sends (own _) (kept.calls buffer calls.port calls.at_port)) kept.calls k x at;
      clients = λ k c x stood at. client_put a.ports buffer calls.port calls.later_port c.client calls.at_port (λ given. client_still c.client calls.port calls.later_port _ _ calls.called given) c.spec.buffer x at (λ y at_y. kept.clients k c y stood at_y);
      asking = kept.asking;
    } in
    subst (λ (l : List Access). KeepsLoggerCalls b.slots l) (sym calls.ports) (subst (λ (l : List (Option Channel)). KeepsLoggerCalls l ports) (sym calls.slots) now)

-- a channel as it was before its stage was noted
record NotedFrom (slots : List (Option Channel)) (n : ℕ) (c : Channel) : Type 0 where
  before : Channel
  there : slot_at slots n ≡ Some before
  spec : c.spec ≡ before.spec
  client : c.client ≡ before.client
  asking : asking_run c.stage ≡ asking_run before.stage

noted_from : (note : ChannelStage → ChannelStage) → ((stage : ChannelStage) → asking_run (note stage) ≡ asking_run stage) → (buffer : ℕ) (slots : List (Option Channel)) (n : ℕ) (c : Channel) (slot : Option Channel) → slot_at slots n ≡ slot → option_map (noted_channel note buffer) slot ≡ Some c → NotedFrom slots n c
noted_from note same buffer slots n c None there is = absurd (cc (is))
noted_from note same buffer slots n c (Some x) there is =
    let noted : noted_channel note buffer x ≡ c = cc (is) in
    subst (λ (y : Channel). NotedFrom slots n y) noted (by_hit (x.spec.buffer == buffer))
  where
    by_hit : (hit : Bool) → NotedFrom slots n (if hit then record x { stage = note x.stage } else x)
    by_hit true = record { before = x; there = there; spec = refl; client = refl; asking = same x.stage }
    by_hit false = record { before = x; there = there; spec = refl; client = refl; asking = refl }

mark_owned : (entry : BufferEntry) (note : ChannelStage → ChannelStage) (buffer : ℕ) (a b : LoggerMoment) → ((stage : ChannelStage) → asking_run (note stage) ≡ asking_run stage) → MarksBuffer entry note buffer a b
    → SendsNone entry → ((es : List BufferEntry) → IsOwnCall entry es) → Owned a → Owned b
mark_owned entry note buffer a b same marks sends own kept =
    let called : KeepsLoggerCalls a.slots b.ports = call_owned entry buffer a (record b { slots = a.slots }) marks.marks sends own kept in
    let from : (k : ℕ) (c : Channel) → slot_at b.slots k ≡ Some c → NotedFrom a.slots k c = λ k c stood.
    noted_from note same buffer a.slots k c (slot_at a.slots k) refl
    (sym (slot_change_all (noted_channel note buffer) a.slots k) ∙ subst (λ (l : List (Option Channel)). slot_at l k ≡ Some c) marks.noted stood) in
    record {
      calls = called.calls;
      clients = λ k c x stood at.
          let was : NotedFrom a.slots k c = from k c stood in
          subst (λ (l : Option ℕ). IsOwnClient l x.own) (sym was.client) (called.clients k was.before x was.there (subst (λ (sp : ChannelSpec). slice_get b.ports sp.buffer ≡ Some x) was.spec at));
      asking = λ k c opened stood is.
          let was : NotedFrom a.slots k c = from k c stood in
          was.client ∙ called.asking k was.before opened was.there (sym was.asking ∙ is);
    }

-- Turns.

opens_kept : (order : Order) (dump : List ℕ) (n : ℕ) (a b : LoggerMoment) → OpensBelow order dump n a b → Owned a → Owned b
opens_kept order dump n a b opens kept = turns_keep (λ k. StepsAt (OpensChannel order dump (Ok tt)) k) (λ m. Owned m) n a b (λ k x y step own. open_owned order dump k (slot_at x.slots k) x y refl step own) opens kept

begins_kept : (start n : ℕ) (a b : LoggerMoment) → BeginsBelow start n a b → Owned a → Owned b
begins_kept start n a b begins kept = turns_keep (λ k. BeginsBuffer start k) (λ m. Owned m) n a b (λ k x y step own. mark_owned _ (λ stage. stage_begun stage step.0) k x y (begun_asks step.0) step.1 tt (λ es. tt) own) begins kept

ends_kept : (start n : ℕ) (a b : LoggerMoment) → InTurn (λ k. EndsBuffer start k) n a b → Owned a → Owned b
ends_kept start n a b ends kept = turns_keep (λ k. EndsBuffer start k) (λ m. Owned m) n a b (λ k x y step own. mark_owned _ (λ stage. stage_ended stage (place_marked step.0)) k x y (ended_asks (place_marked step.0)) step.1 tt (λ es. tt) own) ends kept

aborts_kept : (a b : LoggerMoment) → AbortsAll a b → Owned a → Owned b
aborts_kept a b aborts kept = turns_keep (λ k. StepsAt AbortsChannel k) (λ m. Owned m) (length a.slots) a b (λ k x y step own. abort_owned k (slot_at x.slots k) x y refl step own) aborts kept

pauses_kept : (start n : ℕ) (a b : LoggerMoment) → InTurn (λ k. PausesBuffer start k) n a b → Owned a → Owned b
pauses_kept start n a b pauses kept = turns_keep (λ k. PausesBuffer start k) (λ m. Owned m) n a b (λ k x y step own. call_owned _ k x y step.1 tt (λ es. tt) own) pauses kept

resumes_kept : (start n : ℕ) (a b : LoggerMoment) → InTurn (λ k. ResumesBuffer start k) n a b → Owned a → Owned b
resumes_kept start n a b resumes kept = turns_keep (λ k. ResumesBuffer start k) (λ m. Owned m) n a b (λ k x y step own. call_owned _ k x y step.1 tt (λ es. tt) own) resumes kept

undone_opens_kept : (order : Order) (dump : List ℕ) (why : Why) (begun : ℕ) (a b : LoggerMoment) → UndoesOpens order dump why begun a b → Owned a → Owned b
undone_opens_kept order dump why begun a b undoes kept =
    let r = undoes.opens in
    aborts_kept undoes.refused b undoes.aborts (opened_owned order dump (Err why) r.number r.channel r.opened undoes.refused r.there r.refuses (opens_kept order dump r.number a r.opened r.opens kept))

undone_begins_kept : (order : Order) (dump : List ℕ) (why : Why) (begun : ℕ) (a b : LoggerMoment) → UndoesBegins order dump why begun a b → Owned a → Owned b
undone_begins_kept order dump why begun a b undoes kept =
    let m = undoes.begins in
    aborts_kept undoes.refused b undoes.aborts
    (call_owned _ begun m.begun undoes.refused m.refuses.1 tt (λ es. tt) (begins_kept order.start begun undoes.opened m.begun m.begins (opens_kept order dump (length a.slots) a undoes.opened undoes.opens kept)))

starts_kept : (result : Result ⊤ Why) (order : Order) (dump : List ℕ) (begun : ℕ) (a b : LoggerMoment) → StartsSo result order dump begun a b → Owned a → Owned b
starts_kept (Ok done) order dump begun a b starts kept = begins_kept order.start (length a.ports) starts.opened b starts.begins (opens_kept order dump (length a.slots) a starts.opened starts.opens kept)
starts_kept (Err why) order dump begun a b starts kept = elim starts as (λ w. Owned b) [
  | inl opens ↦ undone_opens_kept order dump why begun a b opens kept
  | inr begins ↦ undone_begins_kept order dump why begun a b begins kept
]

start_kept : (on : Bool) (t : LoggerTurn) → TakesStart on t → Owned t.before → Owned t.after
start_kept true t takes kept = owned_as t.before t.after takes.moment kept
start_kept false t takes kept = starts_kept takes.result t.order _ takes.begun t.before t.after takes.starts kept

stop_kept : (of : Bool) (t : LoggerTurn) → TakesStop of t → Owned t.before → Owned t.after
stop_kept true t takes kept = ends_kept t.order.start (length t.before.ports) t.before t.after takes.ends kept
stop_kept false t takes kept = owned_as t.before t.after takes.moment kept

pause_kept : (of : Bool) (t : LoggerTurn) → TakesMark PausesBuffer of t → Owned t.before → Owned t.after
pause_kept true t takes kept = pauses_kept t.order.start (length t.before.ports) t.before t.after takes.marks kept
pause_kept false t takes kept = owned_as t.before t.after takes.moment kept

resume_kept : (of : Bool) (t : LoggerTurn) → TakesMark ResumesBuffer of t → Owned t.before → Owned t.after
resume_kept true t takes kept = resumes_kept t.order.start (length t.before.ports) t.before t.after takes.marks kept
resume_kept false t takes kept = owned_as t.before t.after takes.moment kept

called_off_kept : (of : Bool) (t : LoggerTurn) → TakesAbort of t → Owned t.before → Owned t.after
called_off_kept true t takes kept = aborts_kept takes.ended t.after takes.aborts (ends_kept t.order.start (buffers_begun t.run) t.before takes.ended takes.ends kept)
called_off_kept false t takes kept = owned_as t.before t.after takes.moment kept

turn_kept : (transition : Transition) (t : LoggerTurn) → TakesTurnBy transition t → Owned t.before → Owned t.after
turn_kept Start t takes kept = start_kept (is_run_on t.run) t takes kept
turn_kept Stop t takes kept = stop_kept (is_started t.run t.order.start) t takes kept
turn_kept Pause t takes kept = pause_kept (is_started t.run t.order.start) t takes kept
turn_kept Resume t takes kept = resume_kept (is_started t.run t.order.start) t takes kept
turn_kept StartAbort t takes kept = called_off_kept (is_of_start t.run t.order.start) t takes kept

-- What the calls keep.

pub turn_own : (t : LoggerTurn) → TakesTurn t → KeepsLoggerCalls t.before.slots t.before.ports → KeepsLoggerCalls t.after.slots t.after.ports
turn_own t takes kept = turn_kept t.transition t takes kept

pub pull_own : (dump : List ℕ) (n : ℕ) (answer : Pulled) (a b : LoggerMoment) → PullsNumbered dump n answer a b → KeepsLoggerCalls a.slots a.ports → KeepsLoggerCalls b.slots b.ports
pull_own dump n answer a b pulls kept = pull_owned dump n answer (slot_at a.slots n) a b refl pulls kept

-- the end of a file
end_owned : (time : ℕ) (dump : Option (List ℕ)) (ports : List Access) (n : ℕ) (slot : Option Channel) (a b : EndingMoment) → slot_at a.slots n ≡ slot → EndsSlot time dump n slot a b → KeepsLoggerCalls a.slots ports → KeepsLoggerCalls b.slots ports
end_owned time dump ports n None a b there same kept = subst (λ (m : EndingMoment). KeepsLoggerCalls m.slots ports) (sym same) kept
end_owned time dump ports n (Some before) a b there ends kept =
    let spec : ends.after.spec ≡ before.spec = ap (λ (c : Channel). c.spec) ends.ends.channel in
    let client : ends.after.client ≡ before.client = ap (λ (c : Channel). c.client) ends.ends.channel in
    let asking : asking_run ends.after.stage ≡ asking_run before.stage = ap (λ (c : Channel). asking_run c.stage) ends.ends.channel ∙ settled_asks before.stage in
    let now : KeepsLoggerCalls (slice_set a.slots n (Some ends.after)) ports = record {
      calls = kept.calls;
      clients = λ k c x stood at.
          one_changed (λ j (d : Channel). slice_get ports d.spec.buffer ≡ Some x → IsOwnClient d.client x.own) a.slots n ends.after
          (λ was stood_n at_n. subst (λ (l : Option ℕ). IsOwnClient l x.own) (sym client) (kept.clients n before x there (subst (λ (sp : ChannelSpec). slice_get ports sp.buffer ≡ Some x) spec at_n)))
          (λ j d other stood_j at_j. kept.clients j d x stood_j at_j) before there k c stood at;
      asking = λ k c opened stood is.
          one_changed (λ j (d : Channel). AsksFor d.client d.stage) a.slots n ends.after
          (λ was stood_n. λ o o_is. client ∙ kept.asking n before o there (sym asking ∙ o_is))
          (λ j d other stood_j. λ o o_is. kept.asking j d o stood_j o_is) before there k c stood opened is;
    } in
    subst (λ (l : List (Option Channel)). KeepsLoggerCalls l ports) (sym ends.slots) now

finish_by : (f : LoggerFinish) (ports : List Access) (settled : Bool) (stop : Option ℕ) → FinishesBy settled stop f → KeepsLoggerCalls f.slots ports → KeepsLoggerCalls f.later_slots ports
finish_by f ports settled None leaves kept = subst (λ (l : List (Option Channel)). KeepsLoggerCalls l ports) (sym leaves.slots) kept
finish_by f ports false (Some time) leaves kept = subst (λ (l : List (Option Channel)). KeepsLoggerCalls l ports) (sym leaves.slots) kept
finish_by f ports true (Some time) ends kept =
    turns_keep (λ k. EndsSlotAt time f.dumps.stop k) (λ (m : EndingMoment). KeepsLoggerCalls m.slots ports) (length f.slots) _ _
    (λ k x y step own. end_owned time f.dumps.stop ports k (slot_at x.slots k) x y refl step own) ends.ends kept

pub finish_own : (f : LoggerFinish) (ports : List Access) → FinishesLogger f → KeepsLoggerCalls f.slots ports → KeepsLoggerCalls f.later_slots ports
finish_own f ports finishes kept = finish_by f ports (list_all is_settled_slot f.slots) (waiting_stop f.run) finishes kept
