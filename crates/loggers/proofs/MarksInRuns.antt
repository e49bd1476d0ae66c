-- The logger marks pauses and resumes in a buffer only of runs that it left open there.
use Rattle.std.specs.Prelude.{◌≡◌, ◌≢◌, ◌<◌, ℕ, zero, suc, Bool, true, false, List, [], ◌∷◌, ◌++◌, length, slice_get, slice_set, Option, Some, None, Result, Ok, Err, ⊤, refl}
use Rattle.std.specs.List.{list_all}
use Rattle.std.proofs.Common.{ap, sym, subst, ◌∙◌, arith, inl, inr, append_assoc, append-nil, eq-eqb}
use Rattle.std.proofs.lemmas.Option.{slice_get_within}
use Rattle.daq_types.specs.declared.runs.Order.{Order}
use Rattle.daq_types.specs.declared.runs.Transition.{Transition}
use Rattle.daq_types.specs.declared.runs.Transition.TheVariants.{Start, Stop, Pause, Resume, StartAbort}
use Rattle.daq_types.specs.declared.runs.Why.{Why}
use Rattle.buffer_core.specs.declared.entry.BufferEntry.{BufferEntry}
use Rattle.buffer_core.specs.declared.entry.BufferEntry.TheVariants.{Begin, End, Pause as PausesRun, Resume as ResumesRun}
use Rattle.buffer_core.specs.Ports.{Access}
use Rattle.buffer_core.specs.Slots.{slot_at}
use Rattle.member_model.specs.RunEngines.{Answer}
use Rattle.member_model.specs.OwnCalls.{calls_after}
use Rattle.member_model.specs.SentCalls.{EachCall}
use Rattle.member_model.specs.EndedRuns.{MakesNoMark}
use Rattle.member_model.specs.FairCalls.{is_left_open}
use Rattle.member_model.proofs.ReadLaws.{calls_after-push}
use Rattle.mid_logger.specs.declared.pulled.Pulled.{Pulled}
use Rattle.loggers.specs.declared.logged_run.LoggedRun.{LoggedRun}
use Rattle.loggers.specs.Moments.{LoggerMoment, CallsBuffer, InTurn}
use Rattle.loggers.specs.SlotPulls.{PullsNumbered}
use Rattle.loggers.specs.NewLoggers.{AreUnused}
use Rattle.loggers.specs.Finishing.{LoggerFinish, FinishesBy, FinishesLogger, is_settled_slot, waiting_stop}
use Rattle.loggers.specs.Turning.{BeginsBuffer, EndsBuffer, PausesBuffer, ResumesBuffer, LoggerTurn, LeavesLogger, BeginsBelow, StartsSo, TakesStart, TakesStop, TakesMark, TakesAbort, TakesTurnBy, TakesTurn, is_run_on, is_started, is_of_start, buffers_begun, start_part}
use Rattle.loggers.specs.TurnMarks.{IsMarkInRun, AreMarksInRuns}
use Rattle.loggers.specs.LoggerStands.{IsInStarted, MarksOpenRuns}
use Rattle.loggers.proofs.InTurns.{turns_keep}
use Rattle.loggers.proofs.PortSteps.{which_port}
use Rattle.loggers.proofs.SameShape.{turn_ports}
use Rattle.loggers.proofs.TurnsKnown.{started_run}
use Rattle.loggers.proofs.FairPorts.{CallsQuietly, quiet_leaves}
use Rattle.loggers.proofs.QuietSteps.{opened_kept, pull_kept, opens_kept, aborts_kept}

-- Calls on one port.

-- the calls on each buffer, the latest first, are so
abbrev HaveCalls : (Are : (buffer : ℕ) → List BufferEntry → Type 0) → List Access → Type 0
HaveCalls Are ports = (buffer : ℕ) → (a : Access) → slice_get ports buffer ≡ Some a → Are buffer (calls_after [] a.own)

put_calls : (Are Now : (buffer : ℕ) → List BufferEntry → Type 0) (ports : List Access) (buffer : ℕ) (p q : Access) → slice_get ports buffer ≡ Some p → Now buffer (calls_after [] q.own)
    → ((k : ℕ) (es : List BufferEntry) → k ≢ buffer → Are k es → Now k es) → HaveCalls Are ports → HaveCalls Now (slice_set ports buffer q)
put_calls Are Now ports buffer p q there here others have k a at = elim (which_port ports buffer p q k a there at) as (λ w. Now k (calls_after [] a.own)) [
  | inl hit ↦ subst (λ (x : Access). Now k (calls_after [] x.own)) hit.1 (subst (λ (j : ℕ). Now j (calls_after [] q.own)) (sym hit.0) here)
  | inr miss ↦ others k (calls_after [] a.own) miss.0 (have k a miss.1)
]

call_put : (Are Now : (buffer : ℕ) → List BufferEntry → Type 0) (e : BufferEntry) (buffer : ℕ) (a b : LoggerMoment) → CallsBuffer e buffer a b → ((es : List BufferEntry) → Are buffer es → Now buffer (e ∷ es))
    → ((k : ℕ) (es : List BufferEntry) → k ≢ buffer → Are k es → Now k es) → HaveCalls Are a.ports → HaveCalls Now b.ports
call_put Are Now e buffer a b c here others have =
    let own : calls_after [] c.later_port.own ≡ e ∷ calls_after [] c.port.own = ap (λ (es : List BufferEntry). calls_after [] es) c.called.own ∙ calls_after-push [] c.port.own e in
    subst (λ (ports : List Access). HaveCalls Now ports) (sym c.ports)
    (put_calls Are Now a.ports buffer c.port c.later_port c.at_port (subst (λ (es : List BufferEntry). Now buffer es) (sym own) (here (calls_after [] c.port.own) (have buffer c.port c.at_port))) others have)

module _ (Are : (buffer : ℕ) → List BufferEntry → Type 0) (more : (k : ℕ) (e : BufferEntry) (es : List BufferEntry) → MakesNoMark e → Are k es → Are k (e ∷ es)) where
  quiet_calls : (k : ℕ) (own es : List BufferEntry) → EachCall MakesNoMark es → Are k (calls_after [] own) → Are k (calls_after [] (own ++ es))
  quiet_calls k own [] none are = subst (λ (l : List BufferEntry). Are k (calls_after [] l)) (sym (append-nil own)) are
  quiet_calls k own (e ∷ es) none are =
      subst (λ (l : List BufferEntry). Are k (calls_after [] l)) (append_assoc own (e ∷ []) es)
      (quiet_calls k (own ++ e ∷ []) es none.1 (subst (λ (l : List BufferEntry). Are k l) (sym (calls_after-push [] own e)) (more k e (calls_after [] own) none.0 are)))

  quiet_put : (ports : List Access) (buffer : ℕ) (p q : Access) (before after : Option ℕ) → slice_get ports buffer ≡ Some p → CallsQuietly p q before after → HaveCalls Are ports → HaveCalls Are (slice_set ports buffer q)
  quiet_put ports buffer p q before after there calls have =
      put_calls Are Are ports buffer p q there (subst (λ (l : List BufferEntry). Are buffer (calls_after [] l)) (sym calls.own) (quiet_calls buffer p.own calls.more calls.quiet (have buffer p there))) (λ k es other are. are) have

-- Steps in this run.

abbrev InRun : Option LoggedRun → (buffer : ℕ) → List BufferEntry → Type 0
InRun run buffer es = MarksOpenRuns run es

abbrev HaveInRun : Option LoggedRun → List Access → Type 0
HaveInRun run ports = HaveCalls (InRun run) ports

quiet_mark : (e : BufferEntry) (es : List BufferEntry) → MakesNoMark e → IsMarkInRun e es
quiet_mark (PausesRun start reply) es none = absurd none
quiet_mark (ResumesRun start reply) es none = absurd none
quiet_mark e es none = tt

quiet_in_run : (run : Option LoggedRun) (buffer : ℕ) (e : BufferEntry) (es : List BufferEntry) → MakesNoMark e → InRun run buffer es → InRun run buffer (e ∷ es)
quiet_in_run run buffer e es none so = record {
  marks = (quiet_mark e es none, so.marks);
  goes_on = λ start is. (quiet_leaves e none start (is_left_open es start)).1 ∙ so.goes_on start is;
}

pub pull_in_runs : (run : Option LoggedRun) (dump : List ℕ) (n : ℕ) (answer : Pulled) (a b : LoggerMoment) → PullsNumbered dump n answer a b → HaveInRun run a.ports → HaveInRun run b.ports
pull_in_runs run dump n answer a b pulls have = pull_kept (HaveInRun run) (quiet_put (InRun run) (quiet_in_run run)) dump n answer (slot_at a.slots n) a b pulls have

-- a pause and a resume of it
pause_in_run : (run : Option LoggedRun) (start k : ℕ) (a b : LoggerMoment) → IsInStarted run start → PausesBuffer start k a b → HaveInRun run a.ports → HaveInRun run b.ports
pause_in_run run start k a b on pauses have =
    call_put (InRun run) (InRun run) (PausesRun start pauses.0) k a b pauses.1 (λ es so. record { marks = (so.goes_on start on, so.marks); goes_on = so.goes_on }) (λ j es other so. so) have

resume_in_run : (run : Option LoggedRun) (start k : ℕ) (a b : LoggerMoment) → IsInStarted run start → ResumesBuffer start k a b → HaveInRun run a.ports → HaveInRun run b.ports
resume_in_run run start k a b on resumes have =
    call_put (InRun run) (InRun run) (ResumesRun start resumes.0) k a b resumes.1 (λ es so. record { marks = (so.goes_on start on, so.marks); goes_on = so.goes_on }) (λ j es other so. so) have

-- Steps that begin and end a run.

-- the run is left open in the buffers with numbers below this
record OpenBelow (start count buffer : ℕ) (es : List BufferEntry) : Type 0 where
  marks : AreMarksInRuns es
  below : buffer < count → is_left_open es start ≡ true

abbrev HaveOpen : (start count : ℕ) → List Access → Type 0
HaveOpen start count ports = HaveCalls (OpenBelow start count) ports

quiet_open : (start count buffer : ℕ) (e : BufferEntry) (es : List BufferEntry) → MakesNoMark e → OpenBelow start count buffer es → OpenBelow start count buffer (e ∷ es)
quiet_open start count buffer e es none so = record {
  marks = (quiet_mark e es none, so.marks);
  below = λ within. (quiet_leaves e none start (is_left_open es start)).1 ∙ so.below within;
}

none_open : (run : Option LoggedRun) (start : ℕ) (ports : List Access) → HaveInRun run ports → HaveOpen start 0 ports
none_open run start ports have k a at = record { marks = (have k a at).marks; below = λ within. absurd (omega (arith, within)) }

-- where the logger has no run that goes on
off_run : (run : Option LoggedRun) (start : ℕ) (ports : List Access) → ((s : ℕ) → IsInStarted run s → ⊥) → HaveOpen start 0 ports → HaveInRun run ports
off_run run start ports off have k a at = record { marks = (have k a at).marks; goes_on = λ s is. absurd (off s is) }

-- a call that begins or is to end a run
bare_call : (start : ℕ) (e : BufferEntry) (k : ℕ) (a b : LoggerMoment) → ((es : List BufferEntry) → IsMarkInRun e es) → CallsBuffer e k a b → HaveOpen start 0 a.ports → HaveOpen start 0 b.ports
bare_call start e k a b bare c have =
    call_put (OpenBelow start 0) (OpenBelow start 0) e k a b c (λ es so. record { marks = (bare es, so.marks); below = λ within. absurd (omega (arith, within)) }) (λ j es other so. so) have

begin_open : (start n : ℕ) (a b : LoggerMoment) → BeginsBuffer start n a b → HaveOpen start n a.ports → HaveOpen start (suc n) b.ports
begin_open start n a b begins have =
    call_put (OpenBelow start n) (OpenBelow start (suc n)) (Begin start (Ok begins.0)) n a (record b { slots = a.slots }) begins.1.marks
    (λ es so. record { marks = (tt, so.marks); below = λ within. rw (eq-eqb start start refl) refl })
    (λ k es other so. record { marks = so.marks; below = λ within. so.below (omega (arith, within, other)) }) have

begins_open : (start count : ℕ) (a b : LoggerMoment) → BeginsBelow start count a b → HaveOpen start 0 a.ports → HaveOpen start count b.ports
begins_open start zero a b same have = subst (λ (m : LoggerMoment). HaveOpen start 0 m.ports) (sym same) have
begins_open start (suc n) a b begins have = begin_open start n begins.0 b begins.2 (begins_open start n a begins.0 begins.1 have)

closed_again : (start count : ℕ) (ports : List Access) → HaveOpen start count ports → HaveOpen start 0 ports
closed_again start count ports have k a at = record { marks = (have k a at).marks; below = λ within. absurd (omega (arith, within)) }

ends_open : (start other count : ℕ) (a b : LoggerMoment) → InTurn (λ buffer. EndsBuffer start buffer) count a b → HaveOpen other 0 a.ports → HaveOpen other 0 b.ports
ends_open start other count a b ends have =
    turns_keep (λ k. EndsBuffer start k) (λ (m : LoggerMoment). HaveOpen other 0 m.ports) count a b (λ k x y step kept. bare_call other (End start step.0) k x (record y { slots = x.slots }) (λ es. tt) step.1.marks kept) ends have

module _ (start count : ℕ) where
  open_quiet : (ports : List Access) (buffer : ℕ) (p q : Access) (before after : Option ℕ) → slice_get ports buffer ≡ Some p → CallsQuietly p q before after → HaveOpen start count ports → HaveOpen start count (slice_set ports buffer q)
  open_quiet = quiet_put (OpenBelow start count) (quiet_open start count)

-- A start.

abbrev started_at : (start begun : ℕ) → Result ⊤ Why → Option LoggedRun
started_at start begun result = Some (record { start = start; begun = begun; part = start_part result })

refused_off : (start begun : ℕ) (why : Why) (s : ℕ) → IsInStarted (started_at start begun (Err why)) s → ⊥
refused_off start begun why s is = cc (is.1)

starts_open : (result : Result ⊤ Why) (order : Order) (dump : List ℕ) (begun : ℕ) (a b : LoggerMoment) → StartsSo result order dump begun a b → length b.ports ≡ length a.ports → HaveOpen order.start 0 a.ports → HaveInRun (started_at order.start begun result) b.ports
starts_open (Ok done) order dump begun a b starts many have =
    let opened : HaveOpen order.start 0 starts.opened.ports = opens_kept (HaveOpen order.start 0) (open_quiet order.start 0) order dump (length a.slots) a starts.opened starts.opens have in
    let all : HaveOpen order.start (length a.ports) b.ports = begins_open order.start (length a.ports) starts.opened b starts.begins opened in
    λ k x at. record {
      marks = (all k x at).marks;
      goes_on = λ s is. subst (λ (j : ℕ). is_left_open (calls_after [] x.own) j ≡ true) is.0 ((all k x at).below (omega (arith, many, slice_get_within b.ports k x at)));
    }
starts_open (Err why) order dump begun a b starts many have =
    off_run (started_at order.start begun (Err why)) order.start b.ports (refused_off order.start begun why)
    (elim starts as (λ w. HaveOpen order.start 0 b.ports) [
      | inl undoes ↦
          let r = undoes.opens in
          let opened : HaveOpen order.start 0 r.opened.ports = opens_kept (HaveOpen order.start 0) (open_quiet order.start 0) order dump r.number a r.opened r.opens have in
          let refused : HaveOpen order.start 0 undoes.refused.ports = opened_kept (HaveOpen order.start 0) (open_quiet order.start 0) order dump (Err why) r.number r.channel r.opened undoes.refused r.refuses opened in
          aborts_kept (HaveOpen order.start 0) (open_quiet order.start 0) undoes.refused b undoes.aborts refused
      | inr undoes ↦
          let m = undoes.begins in
          let opened : HaveOpen order.start 0 undoes.opened.ports = opens_kept (HaveOpen order.start 0) (open_quiet order.start 0) order dump (length a.slots) a undoes.opened undoes.opens have in
          let some : HaveOpen order.start 0 m.begun.ports = closed_again order.start begun m.begun.ports (begins_open order.start begun undoes.opened m.begun m.begins opened) in
          let refused : HaveOpen order.start 0 undoes.refused.ports = bare_call order.start (Begin order.start (Err m.refuses.0)) begun m.begun undoes.refused (λ es. tt) m.refuses.1 some in
          aborts_kept (HaveOpen order.start 0) (open_quiet order.start 0) undoes.refused b undoes.aborts refused
    ])

-- A turn.

abbrev InRunNow : LoggerTurn → Type 0
InRunNow t = HaveInRun t.later_run t.after.ports

left_in_runs : (t : LoggerTurn) (answer : Answer) → LeavesLogger t answer → HaveInRun t.run t.before.ports → InRunNow t
left_in_runs t answer leaves have =
    subst (λ (run : Option LoggedRun). HaveInRun run t.after.ports) (sym leaves.run) (subst (λ (m : LoggerMoment). HaveInRun t.run m.ports) (sym leaves.moment) have)

start_in_runs : (on : Bool) (t : LoggerTurn) → TakesStart on t → length t.after.ports ≡ length t.before.ports → HaveInRun t.run t.before.ports → InRunNow t
start_in_runs true t takes many have = left_in_runs t _ takes have
start_in_runs false t takes many have =
    subst (λ (run : Option LoggedRun). HaveInRun run t.after.ports) (sym takes.run)
    (starts_open takes.result t.order _ takes.begun t.before t.after takes.starts many (none_open t.run t.order.start t.before.ports have))

stop_in_runs : (of : Bool) (t : LoggerTurn) → TakesStop of t → HaveInRun t.run t.before.ports → InRunNow t
stop_in_runs true t takes have =
    off_run t.later_run t.order.start t.after.ports (λ s is. let now = subst (λ (run : Option LoggedRun). IsInStarted run s) takes.run is in cc (now.1))
    (ends_open t.order.start t.order.start (length t.before.ports) t.before t.after takes.ends (none_open t.run t.order.start t.before.ports have))
stop_in_runs false t takes have = left_in_runs t _ takes have

abort_in_runs : (of : Bool) (t : LoggerTurn) → TakesAbort of t → HaveInRun t.run t.before.ports → InRunNow t
abort_in_runs true t takes have =
    let start : ℕ = t.order.start in
    let ended : HaveOpen start 0 takes.ended.ports = ends_open start start (buffers_begun t.run) t.before takes.ended takes.ends (none_open t.run start t.before.ports have) in
    off_run t.later_run start t.after.ports (λ s is. subst (λ (run : Option LoggedRun). IsInStarted run s) takes.run is) (aborts_kept (HaveOpen start 0) (open_quiet start 0) takes.ended t.after takes.aborts ended)
abort_in_runs false t takes have = left_in_runs t _ takes have

mark_in_runs : (Mark : (start buffer : ℕ) → (a b : LoggerMoment) → Type 0) (on : Bool) (t : LoggerTurn) → ((run : Option LoggedRun) (start k : ℕ) (a b : LoggerMoment) → IsInStarted run start → Mark start k a b → HaveInRun run a.ports → HaveInRun run b.ports)
    → is_started t.run t.order.start ≡ on → TakesMark Mark on t → HaveInRun t.run t.before.ports → InRunNow t
mark_in_runs Mark true t step is takes have =
    let start : ℕ = t.order.start in
    let going = started_run t.run start is in
    let in_run : IsInStarted t.run start = subst (λ (run : Option LoggedRun). IsInStarted run start) (sym going.1) going.2 in
    subst (λ (run : Option LoggedRun). HaveInRun run t.after.ports) (sym takes.run)
    (turns_keep (λ k. Mark start k) (λ (m : LoggerMoment). HaveInRun t.run m.ports) (length t.before.ports) t.before t.after (λ k x y marks kept. step t.run start k x y in_run marks kept) takes.marks have)
mark_in_runs Mark false t step is takes have = left_in_runs t _ takes have

in_runs_by : (transition : Transition) (t : LoggerTurn) → TakesTurnBy transition t → length t.after.ports ≡ length t.before.ports → HaveInRun t.run t.before.ports → InRunNow t
in_runs_by Start t takes many have = start_in_runs (is_run_on t.run) t takes many have
in_runs_by Stop t takes many have = stop_in_runs (is_started t.run t.order.start) t takes have
in_runs_by Pause t takes many have = mark_in_runs PausesBuffer (is_started t.run t.order.start) t pause_in_run refl takes have
in_runs_by Resume t takes many have = mark_in_runs ResumesBuffer (is_started t.run t.order.start) t resume_in_run refl takes have
in_runs_by StartAbort t takes many have = abort_in_runs (is_of_start t.run t.order.start) t takes have

pub turn_in_runs : (t : LoggerTurn) → TakesTurn t → HaveInRun t.run t.before.ports → HaveInRun t.later_run t.after.ports
turn_in_runs t takes have = in_runs_by t.transition t takes (turn_ports t takes).many have

-- A call to finish, and a new logger.

going_before : (settled : Bool) (stop : Option ℕ) (f : LoggerFinish) → FinishesBy settled stop f → (start : ℕ) → IsInStarted f.later_run start → IsInStarted f.run start
going_before settled None f finishes start is = subst (λ (run : Option LoggedRun). IsInStarted run start) finishes.run is
going_before false (Some time) f finishes start is = subst (λ (run : Option LoggedRun). IsInStarted run start) finishes.run is
going_before true (Some time) f finishes start is = absurd (subst (λ (run : Option LoggedRun). IsInStarted run start) finishes.run is)

pub finish_in_runs : (f : LoggerFinish) (ports : List Access) → FinishesLogger f → HaveInRun f.run ports → HaveInRun f.later_run ports
finish_in_runs f ports finishes have k a at = record {
  marks = (have k a at).marks;
  goes_on = λ start is. (have k a at).goes_on start (going_before (list_all is_settled_slot f.slots) (waiting_stop f.run) f finishes start is);
}

pub new_in_runs : (ports : List Access) → AreUnused ports → HaveInRun None ports
new_in_runs ports unused k a at = rw (unused k a at).0 (record { marks = tt; goes_on = λ start is. absurd is })
