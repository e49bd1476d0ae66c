-- Each call notes the faults of the files.
use Rattle.std.specs.Prelude.{◌≡◌, ◌≤◌, ◌<◌, ◌+◌, ◌-◌, ◌^◌, ◌==◌, ◌||◌, min, nat_lt, ℕ, zero, suc, Bool, true, false, if◌then◌else◌, List, [], ◌∷◌, length, map, slice_set, Option, Some, None, Result, Ok, Err, ⊤, ◌⊎◌, refl}
use Rattle.std.specs.List.{list_all}
use Rattle.std.specs.Option.{option_map}
use Rattle.std.proofs.Common.{ap, sym, subst, ◌∙◌, arith, inl, inr}
use Rattle.daq_types.specs.declared.runs.Order.{Order}
use Rattle.daq_types.specs.declared.runs.Transition.{Transition}
use Rattle.daq_types.specs.declared.runs.Transition.TheVariants.{Start, Stop, Pause, Resume, StartAbort}
use Rattle.daq_types.specs.declared.runs.Why.{Why}
use Rattle.daq_io.specs.Counts.{Rose}
use Rattle.buffer_core.specs.declared.entry.BufferEntry.{BufferEntry}
use Rattle.buffer_core.specs.Slots.{slot_at, passes, some_slot}
use Rattle.buffer_core.proofs.SlotLaws.{some_slot_true}
use Rattle.mid_logger.specs.declared.channel.Channel.{Channel}
use Rattle.mid_logger.specs.declared.pulled.Pulled.{Pulled}
use Rattle.mid_logger.specs.declared.pulled.Pulled.TheVariants.{NoChannel, Nothing, Dropped, Wrote, Broke}
use Rattle.mid_logger.specs.declared.stage.ChannelStage.{ChannelStage}
use Rattle.mid_logger.specs.Channels.{stage_begun, stage_ended, place_marked}
use Rattle.mid_logger.specs.Pulls.{PullFaults, failed_by}
use Rattle.mid_logger.specs.ChannelTurns.{NotesFault}
use Rattle.loggers.specs.Moments.{LoggerMoment, ChannelStep, StepsChannel, StepsSlot, StepsAt, CallsBuffer, MarksBuffer, InTurn, noted_channel}
use Rattle.loggers.specs.ChannelSteps.{OpensChannel, AbortsChannel, PullsChannel}
use Rattle.loggers.specs.SlotPulls.{PullsSlot, PullsNumbered}
use Rattle.loggers.specs.LoggerFaults.{HasFailed, NotesFaults}
use Rattle.loggers.specs.Finishing.{EndingMoment, EndsSlot, EndsSlotAt, LoggerFinish, FinishesBy, FinishesLogger, is_settled_slot, waiting_stop}
use Rattle.loggers.specs.Turning.{BeginsBuffer, EndsBuffer, PausesBuffer, ResumesBuffer, LoggerTurn, OpensBelow, BeginsBelow, AbortsAll, UndoesOpens, UndoesBegins, StartsSo, TakesStart, TakesStop, TakesMark, TakesAbort, TakesTurnBy, TakesTurn, is_run_on, is_started, is_of_start, buffers_begun}
use Rattle.loggers.proofs.InTurns.{turns_keep}
use Rattle.loggers.proofs.SlotLists.{put_there}

-- Counts.

lower : (f g m : ℕ) → min (f + 1) m ≤ g → min (f + 1) m ≤ min (g + 1) m
lower f g m first = grind arith

rose_twice : (f g h : ℕ) → Rose f g → Rose g h → Rose f h
rose_twice f g h first second =
    let low : min (f + 1) (2 ^ 64 - 1) ≤ min (g + 1) (2 ^ 64 - 1) = lower f g (2 ^ 64 - 1) first in
    let high : min (g + 1) (2 ^ 64 - 1) ≤ h = second in
    omega (arith, low, high)

pub rose_then : (f g h : ℕ) → Rose f g → (h ≡ g) ⊎ Rose g h → Rose f h
rose_then f g h first second = elim second as (λ w. Rose f h) [
  | inl same ↦ subst (λ (k : ℕ). Rose f k) (sym same) first
  | inr rose ↦ rose_twice f g h first rose
]

pub then_rose : (f g h : ℕ) → (g ≡ f) ⊎ Rose f g → Rose g h → Rose f h
then_rose f g h first second = elim first as (λ w. Rose f h) [
  | inl same ↦ subst (λ (k : ℕ). Rose k h) same second
  | inr rose ↦ rose_twice f g h rose second
]

same_then : (f g h : ℕ) → g ≡ f → (h ≡ g) ⊎ Rose g h → (h ≡ f) ⊎ Rose f h
same_then f g h same second = subst (λ (k : ℕ). (h ≡ k) ⊎ Rose k h) same second

pub counts_then : (f g h : ℕ) → (g ≡ f) ⊎ Rose f g → (h ≡ g) ⊎ Rose g h → (h ≡ f) ⊎ Rose f h
counts_then f g h first second = elim first as (λ w. (h ≡ f) ⊎ Rose f h) [
  | inl same ↦ same_then f g h same second
  | inr rose ↦ inr (rose_then f g h rose second)
]

below_some : (f g h : ℕ) → f < h → (f < g) ⊎ (g < h)
below_some f g h less = by_first (nat_lt f g) refl
  where
    by_first : (b : Bool) → nat_lt f g ≡ b → (f < g) ⊎ (g < h)
    by_first true is = inl (grind arith)
    by_first false is = inr (grind arith)

-- Lists.

notes_same : (slots : List (Option Channel)) (faults : ℕ) → NotesFaults slots slots faults faults
notes_same slots faults = record { count = inl refl; stays = λ h. h; each = λ less. absurd (omega (arith, less)); only = λ h. inl h }

pub notes_then : (x y z : List (Option Channel)) (f g h : ℕ) → NotesFaults x y f g → NotesFaults y z g h → NotesFaults x z f h
notes_then x y z f g h first second = record {
  count = counts_then f g h first.count second.count;
  stays = λ k. second.stays (first.stays k);
  each = λ less. elim (below_some f g h less) as (λ w. HasFailed z) [
    | inl early ↦ second.stays (first.each early)
    | inr late ↦ second.each late
  ];
  only = λ k. elim (second.only k) as (λ w. HasFailed x ⊎ Rose f h) [
    | inl middle ↦ early (first.only middle)
    | inr rose ↦ inr (then_rose f g h first.count rose)
  ];
}
  where
    early : HasFailed x ⊎ Rose f g → HasFailed x ⊎ Rose f h
    early old = elim old as (λ w. HasFailed x ⊎ Rose f h) [
      | inl was ↦ inl was
      | inr rose ↦ inr (rose_then f g h rose second.count)
    ]

set_failed : (slots : List (Option Channel)) (n : ℕ) (before after : Channel) → slot_at slots n ≡ Some before → after.failed ≡ before.failed → some_slot (λ (c : Channel). c.failed) (slice_set slots n (Some after)) ≡ some_slot (λ (c : Channel). c.failed) slots
set_failed [] n before after there same = absurd (cc (there))
set_failed (o ∷ os) zero before after there same = ap (λ (b : Bool). b || some_slot (λ (c : Channel). c.failed) os) (same ∙ sym (ap (passes (λ (c : Channel). c.failed)) there))
set_failed (o ∷ os) (suc n) before after there same = ap (λ (b : Bool). passes (λ (c : Channel). c.failed) o || b) (set_failed os n before after there same)

set_notes : (slots : List (Option Channel)) (n : ℕ) (before after : Channel) (f g : ℕ) → slot_at slots n ≡ Some before → NotesFault before.failed after.failed f g → NotesFaults slots (slice_set slots n (Some after)) f g
set_notes slots n before after f g there noted = elim noted as (λ w. NotesFaults slots (slice_set slots n (Some after)) f g) [
  | inl none ↦
      let is : some_slot (λ (c : Channel). c.failed) (slice_set slots n (Some after)) ≡ some_slot (λ (c : Channel). c.failed) slots = set_failed slots n before after there none.0 in
      let count : g ≡ f = none.1 in
      record { count = inl count; stays = λ h. is ∙ h; each = λ less. absurd (omega (arith, less, count)); only = λ h. inl (sym is ∙ h) }
  | inr one ↦
      let now : HasFailed (slice_set slots n (Some after)) = some_slot_true (λ (c : Channel). c.failed) (slice_set slots n (Some after)) n after (put_there slots n before after there) one.0 in
      record { count = inr one.1; stays = λ h. now; each = λ less. now; only = λ h. inr one.1 }
]

noted_failed : (note : ChannelStage → ChannelStage) (buffer : ℕ) (c : Channel) → (noted_channel note buffer c).failed ≡ c.failed
noted_failed note buffer c = by_hit (c.spec.buffer == buffer)
  where
    by_hit : (hit : Bool) → (if hit then record c { stage = note c.stage } else c).failed ≡ c.failed
    by_hit true = refl
    by_hit false = refl

map_failed : (note : ChannelStage → ChannelStage) (buffer : ℕ) (slots : List (Option Channel)) → some_slot (λ (c : Channel). c.failed) (map (option_map (noted_channel note buffer)) slots) ≡ some_slot (λ (c : Channel). c.failed) slots
map_failed note buffer [] = refl
map_failed note buffer (None ∷ os) = map_failed note buffer os
map_failed note buffer (Some c ∷ os) =
    ap (λ (b : Bool). b || some_slot (λ (x : Channel). x.failed) (map (option_map (noted_channel note buffer)) os)) (noted_failed note buffer c) ∙ ap (λ (b : Bool). c.failed || b) (map_failed note buffer os)

-- Steps.

abbrev pub Notes : (a b : LoggerMoment) → Type 0
Notes a b = NotesFaults a.slots b.slots a.files.faults b.files.faults

noted_same : (a b : LoggerMoment) → b ≡ a → Notes a b
noted_same a b same = subst (λ (m : LoggerMoment). Notes a m) (sym same) (notes_same a.slots a.files.faults)

noted_then : (a b c : LoggerMoment) → Notes a b → Notes b c → Notes a c
noted_then a b c first second = notes_then a.slots b.slots c.slots a.files.faults b.files.faults c.files.faults first second

noted_turns : (Step : ℕ → LoggerMoment → LoggerMoment → Type 0) (n : ℕ) (a b : LoggerMoment) → ((k : ℕ) (x y : LoggerMoment) → Step k x y → Notes x y) → InTurn Step n a b → Notes a b
noted_turns Step n a b each turns = turns_keep Step (λ m. Notes a m) n a b (λ k x y step kept. noted_then a x y kept (each k x y step)) turns (noted_same a a refl)

step_notes : (Step : ChannelStep → Type 0) (n : ℕ) (before : Channel) (a b : LoggerMoment) (s : StepsChannel Step n before a b) → slot_at a.slots n ≡ Some before → NotesFault before.failed s.after.failed a.files.faults b.files.faults → Notes a b
step_notes Step n before a b s there noted =
    subst (λ (l : List (Option Channel)). NotesFaults a.slots l a.files.faults b.files.faults) (sym s.slots) (set_notes a.slots n before s.after a.files.faults b.files.faults there noted)

open_notes : (order : Order) (dump : List ℕ) (n : ℕ) (slot : Option Channel) (a b : LoggerMoment) → slot_at a.slots n ≡ slot → StepsSlot (OpensChannel order dump (Ok tt)) n slot a b → Notes a b
open_notes order dump n None a b there same = noted_same a b same
open_notes order dump n (Some before) a b there s = step_notes (OpensChannel order dump (Ok tt)) n before a b s there s.step.failed

abort_notes : (n : ℕ) (slot : Option Channel) (a b : LoggerMoment) → slot_at a.slots n ≡ slot → StepsSlot AbortsChannel n slot a b → Notes a b
abort_notes n None a b there same = noted_same a b same
abort_notes n (Some before) a b there s = step_notes AbortsChannel n before a b s there s.step.failed

pub pull_fault : (answer : Pulled) (failed later : Bool) (f g : ℕ) → later ≡ failed_by answer failed → PullFaults answer f g → NotesFault failed later f g
pull_fault NoChannel failed later f g is faults = inl (is, faults)
pull_fault Nothing failed later f g is faults = inl (is, faults)
pull_fault (Dropped place) failed later f g is faults = inl (is, faults)
pull_fault (Wrote place) failed later f g is faults = inl (is, faults)
pull_fault Broke failed later f g is faults = inr (is, faults)

pulled_notes : (dump : List ℕ) (n : ℕ) (answer : Pulled) (slot : Option Channel) (a b : LoggerMoment) → slot_at a.slots n ≡ slot → PullsSlot dump slot n answer a b → Notes a b
pulled_notes dump n answer None a b there pulls = noted_same a b pulls.1
pulled_notes dump n answer (Some before) a b there s = step_notes (PullsChannel dump answer) n before a b s there (pull_fault answer before.failed s.after.failed a.files.faults b.files.faults s.step.failed s.step.faults)

call_notes : (entry : BufferEntry) (buffer : ℕ) (a b : LoggerMoment) → CallsBuffer entry buffer a b → Notes a b
call_notes entry buffer a b calls =
    let now : NotesFaults a.slots a.slots a.files.faults a.files.faults = notes_same a.slots a.files.faults in
    let files : b.files.faults ≡ a.files.faults = ap (λ (r : _). r.faults) calls.files in
    subst (λ (l : List (Option Channel)). NotesFaults a.slots l a.files.faults b.files.faults) (sym calls.slots) (subst (λ (k : ℕ). NotesFaults a.slots a.slots a.files.faults k) (sym files) now)

mark_notes : (entry : BufferEntry) (note : ChannelStage → ChannelStage) (buffer : ℕ) (a b : LoggerMoment) → MarksBuffer entry note buffer a b → Notes a b
mark_notes entry note buffer a b marks =
    let files : b.files.faults ≡ a.files.faults = ap (λ (r : _). r.faults) marks.marks.files in
    let is : some_slot (λ (c : Channel). c.failed) b.slots ≡ some_slot (λ (c : Channel). c.failed) a.slots = ap (λ (l : List (Option Channel)). some_slot (λ (c : Channel). c.failed) l) marks.noted ∙ map_failed note buffer a.slots in
    record { count = inl files; stays = λ h. is ∙ h; each = λ less. absurd (omega (arith, less, files)); only = λ h. inl (sym is ∙ h) }

-- Turns.

pub opens_noted : (order : Order) (dump : List ℕ) (n : ℕ) (a b : LoggerMoment) → OpensBelow order dump n a b → Notes a b
opens_noted order dump n a b opens = noted_turns (λ k. StepsAt (OpensChannel order dump (Ok tt)) k) n a b (λ k x y step. open_notes order dump k (slot_at x.slots k) x y refl step) opens

begins_noted : (start n : ℕ) (a b : LoggerMoment) → BeginsBelow start n a b → Notes a b
begins_noted start n a b begins = noted_turns (λ k. BeginsBuffer start k) n a b (λ k x y step. mark_notes _ (λ stage. stage_begun stage step.0) k x y step.1) begins

ends_noted : (start n : ℕ) (a b : LoggerMoment) → InTurn (λ k. EndsBuffer start k) n a b → Notes a b
ends_noted start n a b ends = noted_turns (λ k. EndsBuffer start k) n a b (λ k x y step. mark_notes _ (λ stage. stage_ended stage (place_marked step.0)) k x y step.1) ends

pub aborts_noted : (a b : LoggerMoment) → AbortsAll a b → Notes a b
aborts_noted a b aborts = noted_turns (λ k. StepsAt AbortsChannel k) (length a.slots) a b (λ k x y step. abort_notes k (slot_at x.slots k) x y refl step) aborts

undone_opens_noted : (order : Order) (dump : List ℕ) (why : Why) (begun : ℕ) (a b : LoggerMoment) → UndoesOpens order dump why begun a b → Notes a b
undone_opens_noted order dump why begun a b undoes =
    let r = undoes.opens in
    noted_then a undoes.refused b
    (noted_then a r.opened undoes.refused (opens_noted order dump r.number a r.opened r.opens) (step_notes (OpensChannel order dump (Err why)) r.number r.channel r.opened undoes.refused r.refuses r.there r.refuses.step.failed))
    (aborts_noted undoes.refused b undoes.aborts)

undone_begins_noted : (order : Order) (dump : List ℕ) (why : Why) (begun : ℕ) (a b : LoggerMoment) → UndoesBegins order dump why begun a b → Notes a b
undone_begins_noted order dump why begun a b undoes =
    let m = undoes.begins in
    noted_then a undoes.refused b
    (noted_then a undoes.opened undoes.refused (opens_noted order dump (length a.slots) a undoes.opened undoes.opens)
    (noted_then undoes.opened m.begun undoes.refused (begins_noted order.start begun undoes.opened m.begun m.begins) (call_notes _ begun m.begun undoes.refused m.refuses.1)))
    (aborts_noted undoes.refused b undoes.aborts)

starts_noted : (result : Result ⊤ Why) (order : Order) (dump : List ℕ) (begun : ℕ) (a b : LoggerMoment) → StartsSo result order dump begun a b → Notes a b
starts_noted (Ok done) order dump begun a b starts =
    noted_then a starts.opened b (opens_noted order dump (length a.slots) a starts.opened starts.opens) (begins_noted order.start (length a.ports) starts.opened b starts.begins)
starts_noted (Err why) order dump begun a b starts = elim starts as (λ w. Notes a b) [
  | inl opens ↦ undone_opens_noted order dump why begun a b opens
  | inr begins ↦ undone_begins_noted order dump why begun a b begins
]

start_noted : (on : Bool) (t : LoggerTurn) → TakesStart on t → Notes t.before t.after
start_noted true t takes = noted_same t.before t.after takes.moment
start_noted false t takes = starts_noted takes.result t.order _ takes.begun t.before t.after takes.starts

stop_noted : (of : Bool) (t : LoggerTurn) → TakesStop of t → Notes t.before t.after
stop_noted true t takes = ends_noted t.order.start (length t.before.ports) t.before t.after takes.ends
stop_noted false t takes = noted_same t.before t.after takes.moment

pause_noted : (of : Bool) (t : LoggerTurn) → TakesMark PausesBuffer of t → Notes t.before t.after
pause_noted true t takes = noted_turns (λ k. PausesBuffer t.order.start k) (length t.before.ports) t.before t.after (λ k x y step. call_notes _ k x y step.1) takes.marks
pause_noted false t takes = noted_same t.before t.after takes.moment

resume_noted : (of : Bool) (t : LoggerTurn) → TakesMark ResumesBuffer of t → Notes t.before t.after
resume_noted true t takes = noted_turns (λ k. ResumesBuffer t.order.start k) (length t.before.ports) t.before t.after (λ k x y step. call_notes _ k x y step.1) takes.marks
resume_noted false t takes = noted_same t.before t.after takes.moment

called_off_noted : (of : Bool) (t : LoggerTurn) → TakesAbort of t → Notes t.before t.after
called_off_noted true t takes =
    noted_then t.before takes.ended t.after (ends_noted t.order.start (buffers_begun t.run) t.before takes.ended takes.ends) (aborts_noted takes.ended t.after takes.aborts)
called_off_noted false t takes = noted_same t.before t.after takes.moment

turn_noted : (transition : Transition) (t : LoggerTurn) → TakesTurnBy transition t → Notes t.before t.after
turn_noted Start t takes = start_noted (is_run_on t.run) t takes
turn_noted Stop t takes = stop_noted (is_started t.run t.order.start) t takes
turn_noted Pause t takes = pause_noted (is_started t.run t.order.start) t takes
turn_noted Resume t takes = resume_noted (is_started t.run t.order.start) t takes
turn_noted StartAbort t takes = called_off_noted (is_of_start t.run t.order.start) t takes

-- What the calls note.

pub turn_faults : (t : LoggerTurn) → TakesTurn t → NotesFaults t.before.slots t.after.slots t.before.files.faults t.after.files.faults
turn_faults t takes = turn_noted t.transition t takes

pub pull_faults : (dump : List ℕ) (n : ℕ) (answer : Pulled) (a b : LoggerMoment) → PullsNumbered dump n answer a b → NotesFaults a.slots b.slots a.files.faults b.files.faults
pull_faults dump n answer a b pulls = pulled_notes dump n answer (slot_at a.slots n) a b refl pulls

abbrev NotesEnding : (a b : EndingMoment) → Type 0
NotesEnding a b = NotesFaults a.slots b.slots a.files.faults b.files.faults

end_notes : (time : ℕ) (dump : Option (List ℕ)) (n : ℕ) (slot : Option Channel) (a b : EndingMoment) → slot_at a.slots n ≡ slot → EndsSlot time dump n slot a b → NotesEnding a b
end_notes time dump n None a b there same = subst (λ (m : EndingMoment). NotesEnding a m) (sym same) (notes_same a.slots a.files.faults)
end_notes time dump n (Some before) a b there ends =
    subst (λ (l : List (Option Channel)). NotesFaults a.slots l a.files.faults b.files.faults) (sym ends.slots) (set_notes a.slots n before ends.after a.files.faults b.files.faults there ends.ends.failed)

leaves_notes : (f : LoggerFinish) → f.later_slots ≡ f.slots → f.later_files ≡ f.files → NotesFaults f.slots f.later_slots f.files.faults f.later_files.faults
leaves_notes f slots files =
    let count : f.later_files.faults ≡ f.files.faults = ap (λ (r : _). r.faults) files in
    subst (λ (l : List (Option Channel)). NotesFaults f.slots l f.files.faults f.later_files.faults) (sym slots) (subst (λ (k : ℕ). NotesFaults f.slots f.slots f.files.faults k) (sym count) (notes_same f.slots f.files.faults))

pub finish_noted : (f : LoggerFinish) (settled : Bool) (stop : Option ℕ) → FinishesBy settled stop f → NotesFaults f.slots f.later_slots f.files.faults f.later_files.faults
finish_noted f settled None leaves = leaves_notes f leaves.slots leaves.files
finish_noted f false (Some time) leaves = leaves_notes f leaves.slots leaves.files
finish_noted f true (Some time) ends =
    turns_keep (λ k. EndsSlotAt time f.dumps.stop k) (λ (m : EndingMoment). NotesFaults f.slots m.slots f.files.faults m.files.faults) (length f.slots) _ _
    (λ k x y step kept. notes_then f.slots x.slots y.slots f.files.faults x.files.faults y.files.faults kept (end_notes time f.dumps.stop k (slot_at x.slots k) x y refl step)) ends.ends (notes_same f.slots f.files.faults)

pub finish_faults : (f : LoggerFinish) → FinishesLogger f → NotesFaults f.slots f.later_slots f.files.faults f.later_files.faults
finish_faults f finishes = finish_noted f (list_all is_settled_slot f.slots) (waiting_stop f.run) finishes
