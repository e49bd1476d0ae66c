-- A logger touches the files of its channels in the runs that it was told to start, and no others.
use Rattle.std.specs.Prelude.{◌≡◌, ◌≢◌, ◌≤◌, ◌<◌, ◌==◌, ◌+◌, ℕ, zero, suc, Bool, true, false, if◌then◌else◌, List, [], ◌∷◌, length, map, slice_set, Contains, Option, Some, None, Result, Ok, Err, ⊤, refl}
use Rattle.std.specs.Option.{option_map}
use Rattle.std.specs.List.{list_all}
use Rattle.std.proofs.Common.{ap, sym, subst, ◌∙◌, arith, inl, inr}
use Rattle.daq_types.specs.declared.runs.ChannelState.{ChannelState}
use Rattle.daq_types.specs.declared.runs.Order.{Order}
use Rattle.daq_types.specs.declared.runs.Transition.{Transition}
use Rattle.daq_types.specs.declared.runs.Transition.TheVariants.{Start, Stop, Pause, Resume, StartAbort}
use Rattle.daq_types.specs.declared.runs.Why.{Why}
use Rattle.daq_io.specs.Seen.{GoesOn, Seen, Touches}
use Rattle.daq_io.specs.Told.{FilesTold}
use Rattle.daq_io.proofs.SeenLaws.{on_same, on_then}
use Rattle.buffer_core.specs.declared.entry.BufferEntry.{BufferEntry}
use Rattle.buffer_core.specs.Slots.{slot_at}
use Rattle.mid_logger.specs.declared.channel.Channel.{Channel}
use Rattle.mid_logger.specs.declared.channel_spec.ChannelSpec.{ChannelSpec}
use Rattle.mid_logger.specs.declared.pulled.Pulled.{Pulled}
use Rattle.mid_logger.specs.declared.stage.ChannelRun.{ChannelRun}
use Rattle.mid_logger.specs.declared.stage.ChannelStage.{ChannelStage}
use Rattle.mid_logger.specs.declared.stage.ChannelStage.TheVariants.{Idle, Asking, Writing, Draining, Drained, Broken}
use Rattle.sub_files.specs.Cuts.{last_number}
use Rattle.sub_files.specs.Patterns.{piece_name_by}
use Rattle.sub_files.specs.declared.open_file.OpenFile.{OpenFile}
use Rattle.mid_logger.specs.Channels.{channel_run, written_run, stage_begun, stage_ended, place_marked, IsLastOpen, files_by as files_made}
use Rattle.mid_logger.specs.ChannelTurns.{ChannelAt, OpensBy, drained_run}
use Rattle.mid_logger.specs.ChannelEnds.{ClosesFile, stage_settled}
use Rattle.mid_logger.specs.Keeping.{ChangesRun, KeepsRun, any_file, PullsChange, AbortsChange, ClosesChange, OpensChange}
use Rattle.loggers.specs.Moments.{LoggerMoment, ChannelStep, StepsChannel, StepsSlot, StepsAt, CallsBuffer, MarksBuffer, InTurn, noted_channel, HaveFilesOpen, IsLoggerReady}
use Rattle.loggers.specs.ChannelSteps.{OpensChannel, AbortsChannel, PullsChannel}
use Rattle.loggers.specs.SlotPulls.{PullsSlot, PullsNumbered}
use Rattle.loggers.specs.Turning.{BeginsBuffer, EndsBuffer, PausesBuffer, ResumesBuffer, LoggerTurn, OpensBelow, BeginsBelow, AbortsAll, UndoesOpens, UndoesBegins, StartsSo, TakesStart, TakesStop, TakesMark, TakesAbort, TakesTurnBy, TakesTurn, is_run_on, is_started, is_of_start, buffers_begun}
use Rattle.loggers.specs.Finishing.{EndingMoment, EndsSlot, EndsSlotAt, LoggerFinish, FinishesBy, FinishesLogger, ending_of, ends_idle, is_settled_slot, waiting_stop}
use Rattle.loggers.specs.OtherFiles.{specs_in, IsRunName, HaveRunsAmong, LeavesOtherFiles, TurnsLeaveFiles, PullsLeaveFiles, FinishesLeaveFiles}
use Rattle.loggers.proofs.InTurns.{turns_keep}
use Rattle.loggers.proofs.PullMoves.{goes_on, tells_same}
use Rattle.loggers.proofs.SlotLists.{one_changed}
use Rattle.loggers.proofs.ReadySteps.{begun_made, ended_made, WasNoted, was_noted, pulled_slot, ended_files}

-- The specs.

pub spec_at : (slots : List (Option Channel)) (n : ℕ) (c : Channel) → slot_at slots n ≡ Some c → slot_at (specs_in slots) n ≡ Some c.spec
spec_at [] n c at = absurd (cc (at))
spec_at (o ∷ os) zero c at = ap (option_map (λ (x : Channel). x.spec)) at
spec_at (o ∷ os) (suc n) c at = spec_at os n c at

pub specs_set : (slots : List (Option Channel)) (n : ℕ) (before after : Channel) → slot_at slots n ≡ Some before → after.spec ≡ before.spec → specs_in (slice_set slots n (Some after)) ≡ specs_in slots
specs_set [] n before after at spec = refl
specs_set (o ∷ os) zero before after at spec =
    ap (λ (s : ChannelSpec). Some s ∷ specs_in os) spec ∙ sym (ap (λ (x : Option Channel). option_map (λ (c : Channel). c.spec) x ∷ specs_in os) at)
specs_set (o ∷ os) (suc n) before after at spec = ap (λ (l : List (Option ChannelSpec)). option_map (λ (c : Channel). c.spec) o ∷ l) (specs_set os n before after at spec)

pub noted_spec : (note : ChannelStage → ChannelStage) (buffer : ℕ) (c : Channel) → (noted_channel note buffer c).spec ≡ c.spec
noted_spec note buffer c = by_hit (c.spec.buffer == buffer)
  where
    by_hit : (hit : Bool) → (if hit then record c { stage = note c.stage } else c).spec ≡ c.spec
    by_hit true = refl
    by_hit false = refl

noted_slot : (note : ChannelStage → ChannelStage) (buffer : ℕ) (o : Option Channel) → option_map (λ (c : Channel). c.spec) (option_map (noted_channel note buffer) o) ≡ option_map (λ (c : Channel). c.spec) o
noted_slot note buffer None = refl
noted_slot note buffer (Some c) = ap Some (noted_spec note buffer c)

pub specs_noted : (note : ChannelStage → ChannelStage) (buffer : ℕ) (slots : List (Option Channel)) → specs_in (map (option_map (noted_channel note buffer)) slots) ≡ specs_in slots
specs_noted note buffer [] = refl
specs_noted note buffer (o ∷ os) =
    ap (λ (s : Option ChannelSpec). s ∷ specs_in (map (option_map (noted_channel note buffer)) os)) (noted_slot note buffer o)
    ∙ ap (λ (l : List (Option ChannelSpec)). option_map (λ (c : Channel). c.spec) o ∷ l) (specs_noted note buffer os)

-- What is left as it was.

-- The runs of the channels are among these, and none has made more files of its run than there may be.
pub record IsHeld (runs : List ℕ) (slots : List (Option Channel)) : Type 0 where
  pub among : HaveRunsAmong runs slots
  pub few : (n : ℕ) → (c : Channel) → slot_at slots n ≡ Some c → files_made c.stage ≤ suc last_number

-- The channels are the same. Where they are held so, they are behind it, and at most their files in these runs changed.
pub record LeavesFiles (Held : List (Option Channel) → Type 0) (runs : List ℕ) (slots later : List (Option Channel)) (old new : Seen) : Type 0 where
  pub specs : specs_in later ≡ specs_in slots
  pub names : new.names ≡ old.names
  pub on : GoesOn old new
  pub held : Held slots → Held later
  pub others : Held slots → (name : List ℕ) → (IsRunName (specs_in slots) runs name → ⊥) → new.at name ≡ old.at name

files_same : (Held : List (Option Channel) → Type 0) (runs : List ℕ) (slots : List (Option Channel)) (old new : Seen) → new ≡ old → LeavesFiles Held runs slots slots old new
files_same Held runs slots old new same = record { specs = refl; names = ap (λ (s : Seen). s.names) same; on = on_same (ap (λ (s : Seen). s.done) same); held = λ h. h; others = λ h name other. ap (λ (s : Seen). s.at name) same }

files_then : (Held : List (Option Channel) → Type 0) (runs : List ℕ) (slots between later : List (Option Channel)) (old middle new : Seen) → LeavesFiles Held runs slots between old middle → LeavesFiles Held runs between later middle new
    → LeavesFiles Held runs slots later old new
files_then Held runs slots between later old middle new first second = record {
  specs = second.specs ∙ first.specs;
  names = second.names ∙ first.names;
  on = on_then first.on second.on;
  held = λ h. second.held (first.held h);
  others = λ h name other.
      second.others (first.held h) name (λ is. other (subst (λ (specs : List (Option ChannelSpec)). IsRunName specs runs name) first.specs is)) ∙ first.others h name other;
}

abbrev pub Leaves : (runs : List ℕ) → LoggerMoment → LoggerMoment → Type 0
Leaves runs a b = LeavesFiles (IsHeld runs) runs a.slots b.slots a.files.seen b.files.seen

same_leaves : (runs : List ℕ) (a b : LoggerMoment) → b ≡ a → Leaves runs a b
same_leaves runs a b same = subst (λ (m : LoggerMoment). Leaves runs a m) (sym same) (files_same (IsHeld runs) runs a.slots a.files.seen a.files.seen refl)

moments_then : (runs : List ℕ) (a b c : LoggerMoment) → Leaves runs a b → Leaves runs b c → Leaves runs a c
moments_then runs a b c first second = files_then (IsHeld runs) runs a.slots b.slots c.slots a.files.seen b.files.seen c.files.seen first second

turns_leave : (runs : List ℕ) (Step : ℕ → LoggerMoment → LoggerMoment → Type 0) (n : ℕ) (a b : LoggerMoment) → ((k : ℕ) (x y : LoggerMoment) → Step k x y → Leaves runs x y) → InTurn Step n a b → Leaves runs a b
turns_leave runs Step n a b each turns = turns_keep Step (λ m. Leaves runs a m) n a b (λ k x y step kept. moments_then runs a x y kept (each k x y step)) turns (same_leaves runs a a refl)

-- One channel.

-- what a channel has: its run is among these, and its files are not too many
record HasHeld (runs : List ℕ) (stage : ChannelStage) : Type 0 where
  among : (opened : ChannelRun) → channel_run stage ≡ Some opened → Contains runs opened.run
  few : files_made stage ≤ suc last_number

held_at : (runs : List ℕ) (slots : List (Option Channel)) (n : ℕ) (c : Channel) → slot_at slots n ≡ Some c → IsHeld runs slots → HasHeld runs c.stage
held_at runs slots n c at h = record { among = λ opened is. h.among n c opened at is; few = h.few n c at }

held_set : (runs : List ℕ) (slots : List (Option Channel)) (n : ℕ) (before after : Channel) → slot_at slots n ≡ Some before → HasHeld runs after.stage → IsHeld runs slots → IsHeld runs (slice_set slots n (Some after))
held_set runs slots n before after at mine h = record {
  among = λ m c opened there run. one_changed (λ k x. (o : ChannelRun) → channel_run x.stage ≡ Some o → Contains runs o.run) slots n after (λ x stood. mine.among) (λ k x other stood o is. h.among k x o stood is) before at m c there opened run;
  few = λ m c there. one_changed (λ k x. files_made x.stage ≤ suc last_number) slots n after (λ x stood. mine.few) (λ k x other stood. h.few k x stood) before at m c there;
}

-- a name that none of these channels gives in one of these runs is none of the files that one made there
not_made : (runs : List ℕ) (slots : List (Option Channel)) (n : ℕ) (c : Channel) (run many : ℕ) (name : List ℕ) → slot_at slots n ≡ Some c → Contains runs run → many ≤ suc last_number → (IsRunName (specs_in slots) runs name → ⊥)
    → (k : ℕ) → k < many → name ≢ piece_name_by c.spec.pattern run k
not_made runs slots n c run many name at among few other k made same =
    other (record { number = n; spec = c.spec; there = spec_at slots n c at; run = run; among = among; sub = k; few = omega (arith, made, few); is = sym same })

others_at : (runs : List ℕ) (slots : List (Option Channel)) (n : ℕ) (c : Channel) (run written : Option ChannelRun) (before now : ℕ) (old new : Seen) → slot_at slots n ≡ Some c → ((opened : ChannelRun) → run ≡ Some opened → Contains runs opened.run) → now ≤ suc last_number
    → ChangesRun c.spec run written before now old new → (name : List ℕ) → (IsRunName (specs_in slots) runs name → ⊥) → new.at name ≡ old.at name
others_at runs slots n c None written before now old new at among few changes name other = ap (λ (s : Seen). s.at name) changes
others_at runs slots n c (Some opened) written before now old new at among few changes name other = changes.others name (not_made runs slots n c opened.run now name at (among opened refl) few other)

-- One channel changed at most files of its run.
slot_leaves : (runs : List ℕ) (slots : List (Option Channel)) (n : ℕ) (before after : Channel) (now : ℕ) (old new : Seen) → slot_at slots n ≡ Some before → after.spec ≡ before.spec → (HasHeld runs before.stage → HasHeld runs after.stage × (now ≤ suc last_number))
    → ChangesRun before.spec (channel_run before.stage) (written_run before.stage) (files_made before.stage) now old new → LeavesFiles (IsHeld runs) runs slots (slice_set slots n (Some after)) old new
slot_leaves runs slots n before after now old new at spec held changes = record {
  specs = specs_set slots n before after at spec;
  names = tells_same before.spec (channel_run before.stage) (written_run before.stage) (files_made before.stage) now old new changes;
  on = goes_on before.spec (channel_run before.stage) (written_run before.stage) (files_made before.stage) now old new changes;
  held = λ h. held_set runs slots n before after at (held (held_at runs slots n before at h)).0 h;
  others = λ h name other. others_at runs slots n before (channel_run before.stage) (written_run before.stage) (files_made before.stage) now old new at (held_at runs slots n before at h).among (held (held_at runs slots n before at h)).1 changes name other;
}

-- Steps of channels.

step_leaves : (runs : List ℕ) (Step : ChannelStep → Type 0) (n : ℕ) (before : Channel) (a b : LoggerMoment) (s : StepsChannel Step n before a b) → LeavesFiles (IsHeld runs) runs a.slots (slice_set a.slots n (Some s.after)) a.files.seen b.files.seen → Leaves runs a b
step_leaves runs Step n before a b s files = subst (λ (l : List (Option Channel)). LeavesFiles (IsHeld runs) runs a.slots l a.files.seen b.files.seen) (sym s.slots) files

-- a run that is opened has one file
opened_held : (runs : List ℕ) (spec : ChannelSpec) (order : Order) (dump : List ℕ) (r : Result ⊤ Why) (a b : ChannelAt) → OpensBy r spec order dump a b → Contains runs order.run → HasHeld runs a.stage → HasHeld runs b.stage
opened_held runs spec order dump (Ok done) a b opens among held =
    let stage : b.stage ≡ Asking (record { run = order.run; start = order.start; time = order.time; at = opens.at; client = opens.asks.client; request = opens.asks.request }) = opens.asks.stage in
    let sub : opens.at.sub ≡ 0 = ap (λ (f : OpenFile). f.sub) opens.first in
    let made : files_made b.stage ≡ opens.at.sub + 1 = ap files_made stage in
    record {
      among = λ opened is. (let asked = ap channel_run stage in let same : order.run ≡ opened.run = cc (asked, is) in subst (λ (n : ℕ). Contains runs n) same among);
      few = omega (arith, sub, made);
    }
opened_held runs spec order dump (Err why) a b opens among held = subst (λ (stage : ChannelStage). HasHeld runs stage) (sym opens.0) held

opened_leaves : OpensChange → (runs : List ℕ) (order : Order) (dump : List ℕ) (r : Result ⊤ Why) (n : ℕ) (before : Channel) (a b : LoggerMoment) → slot_at a.slots n ≡ Some before → Contains runs order.run → StepsChannel (OpensChannel order dump r) n before a b → Leaves runs a b
opened_leaves change runs order dump r n before a b there among s =
    let file = (change before.spec order dump r _ _ s.step.opens).0 in
    let touches : Touches a.files.seen b.files.seen (piece_name_by before.spec.pattern order.run 0) = file.touches in
    step_leaves runs (OpensChannel order dump r) n before a b s (record {
      specs = specs_set a.slots n before s.after there s.step.spec;
      names = touches.names;
      on = file.on;
      held = λ h. held_set runs a.slots n before s.after there (opened_held runs before.spec order dump r _ _ s.step.opens among (held_at runs a.slots n before there h)) h;
      others = λ h name other. touches.others name (not_made runs a.slots n before order.run 1 name there among (omega arith) other 0 (omega arith));
    })

open_leaves : OpensChange → (runs : List ℕ) (order : Order) (dump : List ℕ) (n : ℕ) (slot : Option Channel) (a b : LoggerMoment) → slot_at a.slots n ≡ slot → Contains runs order.run → StepsSlot (OpensChannel order dump (Ok tt)) n slot a b → Leaves runs a b
open_leaves change runs order dump n None a b there among same = same_leaves runs a b same
open_leaves change runs order dump n (Some before) a b there among s = opened_leaves change runs order dump (Ok tt) n before a b there among s

pub no_run : (stage : ChannelStage) (opened : ChannelRun) → stage ≡ Idle → channel_run stage ≡ Some opened → ⊥
no_run stage opened idle is = (let none : channel_run stage ≡ None = ap channel_run idle in absurd (cc (none, is)))

idle_held : (runs : List ℕ) (stage : ChannelStage) → stage ≡ Idle → HasHeld runs stage
idle_held runs stage idle = (let made : files_made stage ≡ 0 = ap files_made idle in record { among = λ opened is. absurd (no_run stage opened idle is); few = omega (arith, made) })

abort_leaves : AbortsChange → (runs : List ℕ) (n : ℕ) (slot : Option Channel) (a b : LoggerMoment) → slot_at a.slots n ≡ slot → StepsSlot AbortsChannel n slot a b → Leaves runs a b
abort_leaves change runs n None a b there same = same_leaves runs a b same
abort_leaves change runs n (Some before) a b there s =
    step_leaves runs AbortsChannel n before a b s
    (slot_leaves runs a.slots n before s.after (files_made before.stage) a.files.seen b.files.seen there (ap (λ (c : Channel). c.spec) s.step.channel) (λ h. (idle_held runs s.after.stage (ap (λ (c : Channel). c.stage) s.step.channel), h.few))
    (change before.spec before.stage a.files.seen b.files.seen a.files.faults b.files.faults s.step.removes s.step.last))

-- the run is the same, whichever file is written
pub same_run : (one other : Option ChannelRun) → option_map any_file one ≡ option_map any_file other → (opened : ChannelRun) → one ≡ Some opened → (was : ChannelRun) × (other ≡ Some was) × (any_file opened ≡ any_file was)
same_run None other same opened is = absurd (cc (is))
same_run (Some r) None same opened is = absurd (cc (same))
same_run (Some r) (Some was) same opened is = (let files : any_file r ≡ any_file was = cc (same) in let mine : r ≡ opened = cc (is) in (was, refl, subst (λ (x : ChannelRun). any_file x ≡ any_file was) mine files))

pulled_held : (runs : List ℕ) (old : Seen) (stage later : ChannelStage) → KeepsRun old stage later → HasHeld runs stage → HasHeld runs later
pulled_held runs old stage later keeps held = record {
  among = λ opened is.
      let was = same_run (channel_run later) (channel_run stage) keeps.run opened is in
      subst (λ (k : ℕ). Contains runs k) (sym (ap (λ (r : ChannelRun). r.run) was.2)) (held.among was.0 was.1);
  few = keeps.few held.few;
}

slot_pulls : PullsChange → (runs : List ℕ) (dump : List ℕ) (n : ℕ) (answer : Pulled) (slot : Option Channel) (a b : LoggerMoment) → slot_at a.slots n ≡ slot → PullsSlot dump slot n answer a b → HaveFilesOpen a.slots a.files.seen → Leaves runs a b
slot_pulls change runs dump n answer None a b there pulls open_files = same_leaves runs a b pulls.1
slot_pulls change runs dump n answer (Some before) a b there s open_files =
    let changes = change _ before.event.room s.step.pulls (open_files.files n before there) in
    step_leaves runs (PullsChannel dump answer) n before a b s
    (slot_leaves runs a.slots n before s.after (files_made s.after.stage) a.files.seen b.files.seen there s.step.spec (λ h. (pulled_held runs a.files.seen before.stage s.after.stage changes.1 h, changes.1.few h.few)) changes.0)

-- Marks.

call_leaves : (runs : List ℕ) (entry : BufferEntry) (buffer : ℕ) (a b : LoggerMoment) → CallsBuffer entry buffer a b → Leaves runs a b
call_leaves runs entry buffer a b calls =
    subst (λ (l : List (Option Channel)). LeavesFiles (IsHeld runs) runs a.slots l a.files.seen b.files.seen) (sym calls.slots) (files_same (IsHeld runs) runs a.slots a.files.seen b.files.seen (ap (λ (f : FilesTold). f.seen) calls.files))

-- a note leaves the run, and how many files were made
pub record KeepsFiles (note : ChannelStage → ChannelStage) : Type 0 where
  pub run : (stage : ChannelStage) → channel_run (note stage) ≡ channel_run stage
  pub made : (stage : ChannelStage) → files_made (note stage) ≡ files_made stage

pub noted_run : (note : ChannelStage → ChannelStage) (buffer : ℕ) (before : Channel) → KeepsFiles note → channel_run (noted_channel note buffer before).stage ≡ channel_run before.stage
noted_run note buffer before keeps = by_hit (before.spec.buffer == buffer)
  where
    by_hit : (hit : Bool) → channel_run (if hit then record before { stage = note before.stage } else before).stage ≡ channel_run before.stage
    by_hit true = keeps.run before.stage
    by_hit false = refl

pub noted_made : (note : ChannelStage → ChannelStage) (buffer : ℕ) (before : Channel) → KeepsFiles note → files_made (noted_channel note buffer before).stage ≡ files_made before.stage
noted_made note buffer before keeps = by_hit (before.spec.buffer == buffer)
  where
    by_hit : (hit : Bool) → files_made (if hit then record before { stage = note before.stage } else before).stage ≡ files_made before.stage
    by_hit true = keeps.made before.stage
    by_hit false = refl

mark_leaves : (runs : List ℕ) (entry : BufferEntry) (note : ChannelStage → ChannelStage) (buffer : ℕ) (a b : LoggerMoment) → KeepsFiles note → MarksBuffer entry note buffer a b → Leaves runs a b
mark_leaves runs entry note buffer a b keeps marks =
    let was : (n : ℕ) (c : Channel) → slot_at b.slots n ≡ Some c → WasNoted note buffer a.slots n c = λ n c there. was_noted note buffer a.slots n c (subst (λ (l : List (Option Channel)). slot_at l n ≡ Some c) marks.noted there) in
    record {
      specs = ap specs_in marks.noted ∙ specs_noted note buffer a.slots;
      names = ap (λ (f : FilesTold). f.seen.names) marks.marks.files;
      on = on_same (ap (λ (f : FilesTold). f.seen.done) marks.marks.files);
      held = λ h. record {
        among = λ n c opened there run. h.among n (was n c there).before opened (was n c there).there (sym (noted_run note buffer (was n c there).before keeps) ∙ (sym (ap (λ (x : Channel). channel_run x.stage) (was n c there).is) ∙ run));
        few = λ n c there.
            let same : files_made c.stage ≡ files_made (was n c there).before.stage = ap (λ (x : Channel). files_made x.stage) (was n c there).is ∙ noted_made note buffer (was n c there).before keeps in
            omega (arith, same, h.few n (was n c there).before (was n c there).there);
      };
      others = λ h name other. ap (λ (f : FilesTold). f.seen.at name) marks.marks.files;
    }

begun_run : (place : ℕ) (stage : ChannelStage) → channel_run (stage_begun stage place) ≡ channel_run stage
begun_run place Idle = refl
begun_run place (Asking opened) = refl
begun_run place (Writing opened begun) = refl
begun_run place (Draining run) = refl
begun_run place (Drained run) = refl
begun_run place (Broken run fallen) = refl

pub begun_files : (place : ℕ) → KeepsFiles (λ stage. stage_begun stage place)
begun_files place = record { run = begun_run place; made = begun_made place }

ended_run : (place : Option ℕ) (stage : ChannelStage) → channel_run (stage_ended stage place) ≡ channel_run stage
ended_run place Idle = refl
ended_run place (Asking opened) = refl
ended_run place (Writing opened begun) = refl
ended_run place (Draining run) = refl
ended_run place (Drained run) = refl
ended_run place (Broken run fallen) = refl

pub ended_files_kept : (place : Option ℕ) → KeepsFiles (λ stage. stage_ended stage place)
ended_files_kept place = record { run = ended_run place; made = ended_made place }

-- Turns.

-- the laws of channels on the files that they change
pub record FileChanges : Type 0 where
  pub opens : OpensChange
  pub aborts : AbortsChange
  pub pulls : PullsChange
  pub closes : ClosesChange

opens_leave : FileChanges → (runs : List ℕ) (order : Order) (dump : List ℕ) (n : ℕ) (a b : LoggerMoment) → Contains runs order.run → OpensBelow order dump n a b → Leaves runs a b
opens_leave laws runs order dump n a b among opens = turns_leave runs (λ k. StepsAt (OpensChannel order dump (Ok tt)) k) n a b (λ k x y step. open_leaves laws.opens runs order dump k (slot_at x.slots k) x y refl among step) opens

begins_leave : (runs : List ℕ) (start n : ℕ) (a b : LoggerMoment) → BeginsBelow start n a b → Leaves runs a b
begins_leave runs start n a b begins = turns_leave runs (λ k. BeginsBuffer start k) n a b (λ k x y step. mark_leaves runs _ (λ stage. stage_begun stage step.0) k x y (begun_files step.0) step.1) begins

ends_leave : (runs : List ℕ) (start n : ℕ) (a b : LoggerMoment) → InTurn (λ k. EndsBuffer start k) n a b → Leaves runs a b
ends_leave runs start n a b ends = turns_leave runs (λ k. EndsBuffer start k) n a b (λ k x y step. mark_leaves runs _ (λ stage. stage_ended stage (place_marked step.0)) k x y (ended_files_kept (place_marked step.0)) step.1) ends

aborts_leave : FileChanges → (runs : List ℕ) (a b : LoggerMoment) → AbortsAll a b → Leaves runs a b
aborts_leave laws runs a b aborts = turns_leave runs (λ k. StepsAt AbortsChannel k) (length a.slots) a b (λ k x y step. abort_leaves laws.aborts runs k (slot_at x.slots k) x y refl step) aborts

pauses_leave : (runs : List ℕ) (start n : ℕ) (a b : LoggerMoment) → InTurn (λ k. PausesBuffer start k) n a b → Leaves runs a b
pauses_leave runs start n a b pauses = turns_leave runs (λ k. PausesBuffer start k) n a b (λ k x y step. call_leaves runs _ k x y step.1) pauses

resumes_leave : (runs : List ℕ) (start n : ℕ) (a b : LoggerMoment) → InTurn (λ k. ResumesBuffer start k) n a b → Leaves runs a b
resumes_leave runs start n a b resumes = turns_leave runs (λ k. ResumesBuffer start k) n a b (λ k x y step. call_leaves runs _ k x y step.1) resumes

undone_opens : FileChanges → (runs : List ℕ) (order : Order) (dump : List ℕ) (why : Why) (begun : ℕ) (a b : LoggerMoment) → Contains runs order.run → UndoesOpens order dump why begun a b → Leaves runs a b
undone_opens laws runs order dump why begun a b among undoes =
    let r = undoes.opens in
    let first : Leaves runs a undoes.refused =
    moments_then runs a r.opened undoes.refused (opens_leave laws runs order dump r.number a r.opened among r.opens) (opened_leaves laws.opens runs order dump (Err why) r.number r.channel r.opened undoes.refused r.there among r.refuses) in
    moments_then runs a undoes.refused b first (aborts_leave laws runs undoes.refused b undoes.aborts)

undone_begins : FileChanges → (runs : List ℕ) (order : Order) (dump : List ℕ) (why : Why) (begun : ℕ) (a b : LoggerMoment) → Contains runs order.run → UndoesBegins order dump why begun a b → Leaves runs a b
undone_begins laws runs order dump why begun a b among undoes =
    let m = undoes.begins in
    let first : Leaves runs a m.begun = moments_then runs a undoes.opened m.begun (opens_leave laws runs order dump (length a.slots) a undoes.opened among undoes.opens) (begins_leave runs order.start begun undoes.opened m.begun m.begins) in
    let second : Leaves runs a undoes.refused = moments_then runs a m.begun undoes.refused first (call_leaves runs _ begun m.begun undoes.refused m.refuses.1) in
    moments_then runs a undoes.refused b second (aborts_leave laws runs undoes.refused b undoes.aborts)

starts_leave : FileChanges → (runs : List ℕ) (result : Result ⊤ Why) (order : Order) (dump : List ℕ) (begun : ℕ) (a b : LoggerMoment) → Contains runs order.run → StartsSo result order dump begun a b → Leaves runs a b
starts_leave laws runs (Ok done) order dump begun a b among starts =
    moments_then runs a starts.opened b (opens_leave laws runs order dump (length a.slots) a starts.opened among starts.opens) (begins_leave runs order.start (length a.ports) starts.opened b starts.begins)
starts_leave laws runs (Err why) order dump begun a b among starts = elim starts as (λ w. Leaves runs a b) [
  | inl opens ↦ undone_opens laws runs order dump why begun a b among opens
  | inr begins ↦ undone_begins laws runs order dump why begun a b among begins
]

start_leaves : FileChanges → (runs : List ℕ) (on : Bool) (t : LoggerTurn) → Contains runs t.order.run → TakesStart on t → Leaves runs t.before t.after
start_leaves laws runs true t among takes = same_leaves runs t.before t.after takes.moment
start_leaves laws runs false t among takes = starts_leave laws runs takes.result t.order _ takes.begun t.before t.after among takes.starts

stop_leaves : (runs : List ℕ) (of : Bool) (t : LoggerTurn) → TakesStop of t → Leaves runs t.before t.after
stop_leaves runs true t takes = ends_leave runs t.order.start (length t.before.ports) t.before t.after takes.ends
stop_leaves runs false t takes = same_leaves runs t.before t.after takes.moment

pause_leaves : (runs : List ℕ) (of : Bool) (t : LoggerTurn) → TakesMark PausesBuffer of t → Leaves runs t.before t.after
pause_leaves runs true t takes = pauses_leave runs t.order.start (length t.before.ports) t.before t.after takes.marks
pause_leaves runs false t takes = same_leaves runs t.before t.after takes.moment

resume_leaves : (runs : List ℕ) (of : Bool) (t : LoggerTurn) → TakesMark ResumesBuffer of t → Leaves runs t.before t.after
resume_leaves runs true t takes = resumes_leave runs t.order.start (length t.before.ports) t.before t.after takes.marks
resume_leaves runs false t takes = same_leaves runs t.before t.after takes.moment

called_off_leaves : FileChanges → (runs : List ℕ) (of : Bool) (t : LoggerTurn) → TakesAbort of t → Leaves runs t.before t.after
called_off_leaves laws runs true t takes =
    moments_then runs t.before takes.ended t.after (ends_leave runs t.order.start (buffers_begun t.run) t.before takes.ended takes.ends) (aborts_leave laws runs takes.ended t.after takes.aborts)
called_off_leaves laws runs false t takes = same_leaves runs t.before t.after takes.moment

turn_by : FileChanges → (runs : List ℕ) (transition : Transition) (t : LoggerTurn) → TakesTurnBy transition t → (transition ≡ Start → Contains runs t.order.run) → Leaves runs t.before t.after
turn_by laws runs Start t takes among = start_leaves laws runs (is_run_on t.run) t (among refl) takes
turn_by laws runs Stop t takes among = stop_leaves runs (is_started t.run t.order.start) t takes
turn_by laws runs Pause t takes among = pause_leaves runs (is_started t.run t.order.start) t takes
turn_by laws runs Resume t takes among = resume_leaves runs (is_started t.run t.order.start) t takes
turn_by laws runs StartAbort t takes among = called_off_leaves laws runs (is_of_start t.run t.order.start) t takes

-- what a turn leaves, whatever files there are
pub turn_leaves : FileChanges → (runs : List ℕ) (t : LoggerTurn) → TakesTurn t → (t.transition ≡ Start → Contains runs t.order.run) → Leaves runs t.before t.after
turn_leaves laws runs t takes among = turn_by laws runs t.transition t takes among

leaves_held : (Held : List (Option Channel) → Type 0) (runs : List ℕ) (slots later : List (Option Channel)) (old new : Seen) → ((l : List (Option Channel)) → Held l → HaveRunsAmong runs l) → Held slots → LeavesFiles Held runs slots later old new → LeavesOtherFiles runs slots later old new
leaves_held Held runs slots later old new among h leaves = record { specs = leaves.specs; held = among later (leaves.held h); files = record { told = leaves.names; on = leaves.on; others = leaves.others h } }

leaves_ready : (runs : List ℕ) (a b : LoggerMoment) → IsLoggerReady a.slots a.ports a.files.seen → HaveRunsAmong runs a.slots → Leaves runs a b → LeavesOtherFiles runs a.slots b.slots a.files.seen b.files.seen
leaves_ready runs a b ready held leaves = leaves_held (IsHeld runs) runs a.slots b.slots a.files.seen b.files.seen (λ l h. h.among) (record { among = held; few = ready.few }) leaves

pub turns_leave_files : FileChanges → TurnsLeaveFiles
turns_leave_files laws runs t takes ready held among = leaves_ready runs t.before t.after ready held (turn_leaves laws runs t takes among)

-- what a pull leaves, whatever files there are
pub pull_leaves : PullsChange → (runs : List ℕ) (dump : List ℕ) (number : ℕ) (answer : Pulled) (a b : LoggerMoment) → PullsNumbered dump number answer a b → HaveFilesOpen a.slots a.files.seen → Leaves runs a b
pull_leaves change runs dump number answer a b pulls open_files = slot_pulls change runs dump number answer (slot_at a.slots number) a b refl pulls open_files

pub pulls_leave_files : FileChanges → PullsLeaveFiles
pulls_leave_files laws runs dump number answer a b pulls ready held = (
  leaves_ready runs a b ready held (pull_leaves laws.pulls runs dump number answer a b pulls ready.files),
  pulled_slot laws.pulls dump answer number (slot_at a.slots number) a b refl pulls ready,
)

-- Endings.

pub settled_run : (stage : ChannelStage) (opened : ChannelRun) → channel_run (stage_settled stage) ≡ Some opened → channel_run stage ≡ Some opened
settled_run Idle opened is = is
settled_run (Asking o) opened is = is
settled_run (Writing o begun) opened is = is
settled_run (Draining run) opened is = is
settled_run (Drained run) opened is = absurd (cc (is))
settled_run (Broken run fallen) opened is = absurd (cc (is))

-- behind endings at most files of these runs changed, and those that are written are open
record EndedSo (runs : List ℕ) (a b : EndingMoment) : Type 0 where
  left : LeavesFiles (HaveRunsAmong runs) runs a.slots b.slots a.files.seen b.files.seen
  files : HaveFilesOpen b.slots b.files.seen

-- at most the last file changed, of a number that a file may have
closed_others : ClosesChange → (runs : List ℕ) (slots : List (Option Channel)) (n : ℕ) (c : Channel) (stage : ChannelStage) (state : ChannelState) (time : ℕ) (dump : Option (List ℕ)) (old new : Seen) (f g : ℕ) → slot_at slots n ≡ Some c
    → ((opened : ChannelRun) → channel_run stage ≡ Some opened → Contains runs opened.run) → ClosesFile (drained_run stage) stage state time dump old new f g → IsLastOpen old c.spec (written_run stage) → (name : List ℕ) → (IsRunName (specs_in slots) runs name → ⊥) → new.at name ≡ old.at name
closed_others change runs slots n c Idle state time dump old new f g at among closes open_ name other = ap (λ (s : Seen). s.at name) closes.1
closed_others change runs slots n c (Asking opened) state time dump old new f g at among closes open_ name other = ap (λ (s : Seen). s.at name) closes.1
closed_others change runs slots n c (Writing opened begun) state time dump old new f g at among closes open_ name other = ap (λ (s : Seen). s.at name) closes.1
closed_others change runs slots n c (Draining run) state time dump old new f g at among closes open_ name other = ap (λ (s : Seen). s.at name) closes.1
closed_others change runs slots n c (Broken run fallen) state time dump old new f g at among closes open_ name other = ap (λ (s : Seen). s.at name) closes.1
closed_others change runs slots n c (Drained run) state time dump old new f g at among closes open_ name other =
    let few : run.opened.at.sub ≤ last_number = open_.few in
    (change c.spec (Drained run) state time dump old new f g closes open_).others name (not_made runs slots n c run.opened.run (run.opened.at.sub + 1) name at (among run.opened refl) (omega (arith, few)) other)

ended_slot : FileChanges → (runs : List ℕ) (time : ℕ) (dump : Option (List ℕ)) (n : ℕ) (slot : Option Channel) (x y : EndingMoment) → slot_at x.slots n ≡ slot → EndsSlot time dump n slot x y → HaveFilesOpen x.slots x.files.seen → EndedSo runs x y
ended_slot laws runs time dump n None x y there same open_files =
    subst (λ (m : EndingMoment). EndedSo runs x m) (sym same) (record { left = files_same (HaveRunsAmong runs) runs x.slots x.files.seen x.files.seen refl; files = open_files })
ended_slot laws runs time dump n (Some before) x y there ends open_files =
    let stage : ends.after.stage ≡ stage_settled before.stage = ap (λ (c : Channel). c.stage) ends.ends.channel in
    let last : IsLastOpen x.files.seen before.spec (written_run before.stage) = open_files.files n before there in
    let changes = laws.closes before.spec before.stage ends.told.state time dump x.files.seen y.files.seen x.files.faults y.files.faults ends.ends.ends last in
    let left : LeavesFiles (HaveRunsAmong runs) runs x.slots (slice_set x.slots n (Some ends.after)) x.files.seen y.files.seen = record {
      specs = specs_set x.slots n before ends.after there (ap (λ (c : Channel). c.spec) ends.ends.channel);
      names = tells_same before.spec (channel_run before.stage) (written_run before.stage) (files_made before.stage) (files_made before.stage) x.files.seen y.files.seen changes;
      on = goes_on before.spec (channel_run before.stage) (written_run before.stage) (files_made before.stage) (files_made before.stage) x.files.seen y.files.seen changes;
      held = λ h m c opened at is.
          one_changed (λ k z. (o : ChannelRun) → channel_run z.stage ≡ Some o → Contains runs o.run) x.slots n ends.after (λ z stood o of. h n before o there (settled_run before.stage o (sym (ap channel_run stage) ∙ of))) (λ k z other stood o of. h k z o stood of) before there m c at opened is;
      others = λ h name other. closed_others laws.closes runs x.slots n before before.stage ends.told.state time dump x.files.seen y.files.seen x.files.faults y.files.faults there (λ opened is. h n before opened there is) ends.ends.ends last name other;
    } in
    let files : HaveFilesOpen (slice_set x.slots n (Some ends.after)) y.files.seen = ended_files laws.closes time dump ends.told x.slots n before ends.after x.files y.files there ends.ends open_files in
    record {
      left = subst (λ (l : List (Option Channel)). LeavesFiles (HaveRunsAmong runs) runs x.slots l x.files.seen y.files.seen) (sym ends.slots) left;
      files = subst (λ (l : List (Option Channel)). HaveFilesOpen l y.files.seen) (sym ends.slots) files;
    }

ended_more : FileChanges → (runs : List ℕ) (time : ℕ) (dump : Option (List ℕ)) (k : ℕ) (a x y : EndingMoment) → EndsSlotAt time dump k x y → EndedSo runs a x → EndedSo runs a y
ended_more laws runs time dump k a x y ends so =
    let one : EndedSo runs x y = ended_slot laws runs time dump k (slot_at x.slots k) x y refl ends so.files in
    record { left = files_then (HaveRunsAmong runs) runs a.slots x.slots y.slots a.files.seen x.files.seen y.files.seen so.left one.left; files = one.files }

abbrev pub FinishLeaves : (runs : List ℕ) → LoggerFinish → Type 0
FinishLeaves runs f = LeavesFiles (HaveRunsAmong runs) runs f.slots f.later_slots f.files.seen f.later_files.seen

waiting_leaves : (runs : List ℕ) (f : LoggerFinish) → f.later_slots ≡ f.slots → f.later_files ≡ f.files → FinishLeaves runs f
waiting_leaves runs f slots files = rw (slots, files) (files_same (HaveRunsAmong runs) runs f.slots f.files.seen f.files.seen refl)

finish_by : FileChanges → (runs : List ℕ) (f : LoggerFinish) (settled : Bool) (stop : Option ℕ) → FinishesBy settled stop f → HaveFilesOpen f.slots f.files.seen → FinishLeaves runs f
finish_by laws runs f settled None leaves open_files = waiting_leaves runs f leaves.slots leaves.files
finish_by laws runs f false (Some time) leaves open_files = waiting_leaves runs f leaves.slots leaves.files
finish_by laws runs f true (Some time) ends open_files =
    let first : EndingMoment = ending_of f.slots f.files ends_idle in
    let none : EndedSo runs first first = record { left = files_same (HaveRunsAmong runs) runs f.slots f.files.seen f.files.seen refl; files = open_files } in
    (turns_keep (λ number. EndsSlotAt time f.dumps.stop number) (λ m. EndedSo runs first m) (length f.slots) first (ending_of f.later_slots f.later_files ends.told) (λ k x y step kept. ended_more laws runs time f.dumps.stop k first x y step kept) ends.ends none).left

-- what a call to finish leaves
pub finish_leaves : FileChanges → (runs : List ℕ) (f : LoggerFinish) → FinishesLogger f → HaveFilesOpen f.slots f.files.seen → FinishLeaves runs f
finish_leaves laws runs f finishes open_files = finish_by laws runs f (list_all is_settled_slot f.slots) (waiting_stop f.run) finishes open_files

pub finishes_leave_files : FileChanges → FinishesLeaveFiles
finishes_leave_files laws runs f finishes open_files held = leaves_held (HaveRunsAmong runs) runs f.slots f.later_slots f.files.seen f.later_files.seen (λ l h. h) held (finish_leaves laws runs f finishes open_files)
