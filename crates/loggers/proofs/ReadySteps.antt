-- What the calls need stands behind each step.
use Rattle.std.specs.Prelude.{◌≡◌, ◌≢◌, ◌≤◌, ◌<◌, ◌+◌, ◌||◌, ◌==◌, ℕ, suc, Bool, true, false, if◌then◌else◌, IsTrue, List, length, map, slice_set, Option, Some, None, Result, Ok, Err, OnOk, IfErr, ◌⊎◌, ⊤, refl}
use Rattle.std.specs.Option.{option_map}
use Rattle.std.proofs.Common.{ap, sym, subst, ◌∙◌, arith, inl, inr}
use Rattle.std.proofs.lemmas.List.{length-map}
use Rattle.daq_types.specs.declared.runs.ChannelEnd.{ChannelEnd}
use Rattle.daq_types.specs.declared.runs.ChannelState.{ChannelState}
use Rattle.daq_types.specs.declared.runs.Order.{Order}
use Rattle.daq_types.specs.declared.runs.Why.{Why}
use Rattle.daq_io.specs.Seen.{Seen, KeepsNumber}
use Rattle.daq_io.specs.Told.{FilesTold}
use Rattle.buffer_core.specs.declared.entry.BufferEntry.{BufferEntry}
use Rattle.buffer_core.specs.Ports.{Access}
use Rattle.buffer_core.specs.Slots.{slot_at}
use Rattle.buffer_core.proofs.SlotLaws.{slot_change_all}
use Rattle.sub_files.specs.declared.open_file.OpenFile.{OpenFile}
use Rattle.sub_files.specs.Cuts.{last_number}
use Rattle.sub_files.specs.Patterns.{piece_name_by}
use Rattle.mid_logger.specs.declared.channel.Channel.{Channel}
use Rattle.mid_logger.specs.declared.channel_spec.ChannelSpec.{ChannelSpec}
use Rattle.mid_logger.specs.declared.pulled.Pulled.{Pulled}
use Rattle.mid_logger.specs.declared.stage.ChannelRun.{ChannelRun}
use Rattle.mid_logger.specs.declared.stage.ChannelStage.{ChannelStage}
use Rattle.mid_logger.specs.declared.stage.ChannelStage.TheVariants.{Idle, Asking, Writing, Draining, Drained, Broken}
use Rattle.mid_logger.specs.Channels.{HasLastOpen, IsLastOpen, channel_run, written_run, files_by as files_made, stage_begun, stage_ended, place_marked}
use Rattle.mid_logger.specs.ChannelTurns.{drained_run}
use Rattle.mid_logger.specs.ChannelEnds.{ClosesFile, stage_settled}
use Rattle.mid_logger.specs.Keeping.{ChangesRun, KeepsRun, OpensRunFile, PullsChange, AbortsChange, ClosesChange, OpensChange}
use Rattle.loggers.specs.Moments.{LoggerMoment, ChannelStep, StepsChannel, StepsSlot, CallsBuffer, MarksBuffer, noted_channel, HaveNumbersApart, HaveFilesOpen, IsLoggerReady}
use Rattle.loggers.specs.ChannelSteps.{OpensChannel, AbortsChannel, PullsChannel, EndsChannel}
use Rattle.loggers.specs.SlotPulls.{PullsSlot}
use Rattle.loggers.specs.Finishing.{EndingMoment, EndsSlot}
use Rattle.loggers.specs.Turning.{BeginsBuffer, RefusesBegin, EndsBuffer}
use Rattle.loggers.proofs.StepEntries.{OpensSlot, RefusesSlot}
use Rattle.loggers.proofs.SlotLists.{one_changed, many_set}

-- Files.

in_use : (seen : Seen) (number : ℕ) → IsTrue (seen.writes number) → IsTrue (seen.writes number || seen.reads number)
in_use seen number used = ap (λ (b : Bool). b || seen.reads number) used

-- a file whose number stays is open as it was
pub open_left : (spec : ChannelSpec) (old new : Seen) (written : Option ChannelRun) → ((s : ChannelRun) → written ≡ Some s → IsTrue (old.writes s.at.file) → KeepsNumber old new s.at.file) → IsLastOpen old spec written → IsLastOpen new spec written
open_left spec old new None keeps file = tt
open_left spec old new (Some s) keeps file =
    let kept : KeepsNumber old new s.at.file = keeps s refl file.writes in
    let now : HasLastOpen new spec s = record { writes = kept.writes ∙ file.writes; named = kept.name (in_use old s.at.file file.writes) ∙ file.named; few = file.few } in
    now

-- the number of a file that is open is in use
pub last_used : (spec : ChannelSpec) (seen : Seen) (written : Option ChannelRun) → IsLastOpen seen spec written → (s : ChannelRun) → written ≡ Some s → IsTrue (seen.writes s.at.file)
last_used spec seen written file s is = let here : HasLastOpen seen spec s = subst (λ (w : Option ChannelRun). IsLastOpen seen spec w) is file in here.writes

-- a change of one run's files leaves the numbers of others
pub numbers_left : (spec : ChannelSpec) (run written other : Option ChannelRun) (made now : ℕ) (old new : Seen) → ChangesRun spec run written made now old new → HaveNumbersApart written other → (s : ChannelRun) → other ≡ Some s → IsTrue (old.writes s.at.file) → KeepsNumber old new s.at.file
numbers_left spec None written other made now old new changes apart s is used =
    let same : KeepsNumber old old s.at.file = record { writes = refl; reads = refl; name = λ used. refl; left = λ reads. refl; given = λ writes. refl } in
    subst (λ (n : Seen). KeepsNumber old n s.at.file) (sym changes) same
numbers_left spec (Some opened) written other made now old new changes apart s is used = changes.numbers s.at.file used (λ r writes same. apart r s writes is (sym same))

-- the number that is written stays, or was not in use, or none is written any more
abbrev pub LeavesWritten : (old : Seen) → (before after : Channel) → Type 0
LeavesWritten old before after = (w : ChannelRun) → written_run after.stage ≡ Some w →
    (v : ChannelRun) × (written_run before.stage ≡ Some v) × ((w.at.file ≡ v.at.file) ⊎ (old.writes w.at.file ≡ false))

-- none is written that was not before
pub written_same : (old : Seen) (before after : Channel) → (written_run after.stage ≡ written_run before.stage) ⊎ (written_run after.stage ≡ None) → LeavesWritten old before after
written_same old before after leaves w is = elim leaves as (λ e. (v : ChannelRun) × (written_run before.stage ≡ Some v) × ((w.at.file ≡ v.at.file) ⊎ (old.writes w.at.file ≡ false))) [
  | inl same ↦ (w, sym same ∙ is, inl refl)
  | inr none ↦ absurd (let never : None ≡ Some w = sym none ∙ is in cc (never))
]

-- a number in use is none that was free
pub used_apart : (seen : Seen) (m n : ℕ) → seen.writes m ≡ false → IsTrue (seen.writes n) → m ≢ n
used_apart seen m n free used same = let never : true ≡ false = sym used ∙ (ap (λ (k : ℕ). seen.writes k) (sym same) ∙ free) in cc (never)

pub still_apart : (old : Seen) (before after : Channel) (other : Option ChannelRun) → LeavesWritten old before after → ((s : ChannelRun) → other ≡ Some s → IsTrue (old.writes s.at.file)) → HaveNumbersApart (written_run before.stage) other → HaveNumbersApart (written_run after.stage) other
still_apart old before after other leaves used apart r s is other_is =
    let from = leaves r is in
    elim from.2 as (λ w. r.at.file ≢ s.at.file) [
      | inl same ↦ λ e. apart from.0 s from.1 other_is (sym same ∙ e)
      | inr free ↦ used_apart old r.at.file s.at.file free (used s other_is)
    ]

flipped : (one other : Option ChannelRun) → HaveNumbersApart one other → HaveNumbersApart other one
flipped one other apart r s is other_is same = apart s r other_is is (sym same)

-- One channel changed at most its own files.
pub record ChangesOwn (before after : Channel) (old new : Seen) : Type 0 where
  pub spec : after.spec ≡ before.spec
  pub written : LeavesWritten old before after
  pub now : ℕ
  pub changes : ChangesRun before.spec (channel_run before.stage) (written_run before.stage) (files_made before.stage) now old new
  pub file : IsLastOpen new after.spec (written_run after.stage)

pub files_kept : (slots : List (Option Channel)) (n : ℕ) (before after : Channel) (old new : Seen) → slot_at slots n ≡ Some before → ChangesOwn before after old new → HaveFilesOpen slots old → HaveFilesOpen (slice_set slots n (Some after)) new
files_kept slots n before after old new there own open_before =
    let used : (m : ℕ) (c : Channel) → slot_at slots m ≡ Some c → (s : ChannelRun) → written_run c.stage ≡ Some s → IsTrue (old.writes s.at.file) = λ m c stood s is. last_used c.spec old (written_run c.stage) (open_before.files m c stood) s is in
    let apart : (m : ℕ) (c : Channel) → n ≢ m → slot_at slots m ≡ Some c → HaveNumbersApart (written_run after.stage) (written_run c.stage) =
    λ m c ne stood. still_apart old before after (written_run c.stage) own.written (used m c stood) (open_before.numbers n m before c ne there stood) in
    record {
      files = one_changed (λ m c. IsLastOpen new c.spec (written_run c.stage)) slots n after (λ b stood. own.file)
          (λ m c other stood. open_left c.spec old new (written_run c.stage)
          (λ s is used_now. numbers_left before.spec (channel_run before.stage) (written_run before.stage) (written_run c.stage) (files_made before.stage) own.now old new own.changes (open_before.numbers n m before c (λ same. other (sym same)) there stood) s is used_now)
          (open_before.files m c stood)) before there;
      numbers = λ k m c d differ first second.
          one_changed (λ i x. (j : ℕ) (y : Channel) → i ≢ j → slot_at (slice_set slots n (Some after)) j ≡ Some y → HaveNumbersApart (written_run x.stage) (written_run y.stage)) slots n after
          (λ b stood j y other at_j.
          one_changed (λ i x. n ≢ i → HaveNumbersApart (written_run after.stage) (written_run x.stage)) slots n after (λ b2 stood2 never. absurd (never refl))
          (λ i x other2 stood2 ne. apart i x ne stood2) before there j y at_j other)
          (λ i x other stood j y ne at_j.
          one_changed (λ p z. i ≢ p → HaveNumbersApart (written_run x.stage) (written_run z.stage)) slots n after
          (λ b2 stood2 ne2. flipped (written_run after.stage) (written_run x.stage) (apart i x (λ same. other (sym same)) stood))
          (λ p z other2 stood2 ne2. open_before.numbers i p x z ne2 stood stood2) before there j y at_j ne)
          before there k c first m d differ second;
    }

-- The moments of a step.

pub step_ready : (Step : ChannelStep → Type 0) (n : ℕ) (before : Channel) (a b : LoggerMoment) (s : StepsChannel Step n before a b) → slot_at a.slots n ≡ Some before → s.after.spec ≡ before.spec → files_made s.after.stage ≤ suc last_number → HaveFilesOpen (slice_set a.slots n (Some s.after)) b.files.seen
    → IsLoggerReady a.slots a.ports a.files.seen → IsLoggerReady b.slots b.ports b.files.seen
step_ready Step n before a b s there spec few files ready =
    let now : IsLoggerReady (slice_set a.slots n (Some s.after)) (slice_set a.ports before.spec.buffer s.later_port) b.files.seen = record {
      many = omega (arith, many_set a.slots n (Some s.after), ready.many);
      few = one_changed (λ k x. files_made x.stage ≤ suc last_number) a.slots n s.after (λ x e. few) (λ k x other e. ready.few k x e) before there;
      served = λ m c stood. omega (
        arith,
        many_set a.ports before.spec.buffer s.later_port,
        one_changed (λ k x. x.spec.buffer < length a.ports) a.slots n s.after (λ x e. subst (λ (sp : ChannelSpec). sp.buffer < length a.ports) (sym spec) (ready.served n before there)) (λ k x other e. ready.served k x e) before there m c stood,
      );
      files = files;
    } in
    rw (s.slots, s.ports) now

-- Pulls.

pub pulled_ready : PullsChange → (dump : List ℕ) (answer : Pulled) (n : ℕ) (before : Channel) (a b : LoggerMoment) → slot_at a.slots n ≡ Some before → StepsChannel (PullsChannel dump answer) n before a b → IsLoggerReady a.slots a.ports a.files.seen → IsLoggerReady b.slots b.ports b.files.seen
pulled_ready change dump answer n before a b there s ready =
    let changes = change _ before.event.room s.step.pulls (ready.files.files n before there) in
    let keeps : KeepsRun a.files.seen before.stage s.after.stage = changes.1 in
    step_ready (PullsChannel dump answer) n before a b s there s.step.spec (keeps.few (ready.few n before there))
    (files_kept a.slots n before s.after a.files.seen b.files.seen there
    (record {
      spec = s.step.spec;
      written = keeps.written;
      now = files_made s.after.stage;
      changes = changes.0;
      file = subst (λ (sp : ChannelSpec). IsLastOpen b.files.seen sp (written_run s.after.stage)) (sym s.step.spec) changes.2;
    }) ready.files) ready

pub pulled_slot : PullsChange → (dump : List ℕ) (answer : Pulled) (n : ℕ) (slot : Option Channel) (a b : LoggerMoment) → slot_at a.slots n ≡ slot → PullsSlot dump slot n answer a b → IsLoggerReady a.slots a.ports a.files.seen → IsLoggerReady b.slots b.ports b.files.seen
pulled_slot change dump answer n None a b there pulls ready = subst (λ (m : LoggerMoment). IsLoggerReady m.slots m.ports m.files.seen) (sym pulls.1) ready
pulled_slot change dump answer n (Some before) a b there pulls ready = pulled_ready change dump answer n before a b there pulls ready

-- Calling off.

abort_own : (before after : Channel) (old new : Seen) → after ≡ record before { stage = Idle; failed = after.failed } → ChangesRun before.spec (channel_run before.stage) (written_run before.stage) (files_made before.stage) (files_made before.stage) old new → ChangesOwn before after old new
abort_own before after old new is changes = record {
  spec = ap (λ (c : Channel). c.spec) is;
  written = written_same old before after (inr (ap (λ (c : Channel). written_run c.stage) is));
  now = files_made before.stage;
  changes = changes;
  file = subst (λ (w : Option ChannelRun). IsLastOpen new after.spec w) (sym (ap (λ (c : Channel). written_run c.stage) is)) tt;
}

idle_few : (c : Channel) → c.stage ≡ Idle → files_made c.stage ≤ suc last_number
idle_few c idle = let none : files_made c.stage ≡ 0 = ap (λ (x : ChannelStage). files_made x) idle in omega (arith, none)

pub aborted_ready : AbortsChange → (n : ℕ) (slot : Option Channel) (a b : LoggerMoment) → slot_at a.slots n ≡ slot → StepsSlot AbortsChannel n slot a b → IsLoggerReady a.slots a.ports a.files.seen → IsLoggerReady b.slots b.ports b.files.seen
aborted_ready change n None a b there step ready = subst (λ (m : LoggerMoment). IsLoggerReady m.slots m.ports m.files.seen) (sym step) ready
aborted_ready change n (Some before) a b there s ready =
    step_ready AbortsChannel n before a b s there (ap (λ (c : Channel). c.spec) s.step.channel) (idle_few s.after (ap (λ (c : Channel). c.stage) s.step.channel))
    (files_kept a.slots n before s.after a.files.seen b.files.seen there
    (abort_own before s.after a.files.seen b.files.seen s.step.channel (change before.spec before.stage a.files.seen b.files.seen a.files.faults b.files.faults s.step.removes s.step.last)) ready.files) ready

-- Ending files.

pub settled_written : (stage : ChannelStage) → (written_run (stage_settled stage) ≡ written_run stage) ⊎ (written_run (stage_settled stage) ≡ None)
settled_written Idle = inl refl
settled_written (Asking opened) = inl refl
settled_written (Writing opened begun) = inl refl
settled_written (Draining run) = inl refl
settled_written (Drained run) = inr refl
settled_written (Broken run fallen) = inl refl

-- the file of a stage that is not settled stays in use
settled_file : (spec : ChannelSpec) (stage : ChannelStage) (old new : Seen) → (written_run (stage_settled stage) ≡ None) ⊎ (new ≡ old) → IsLastOpen old spec (written_run stage) → IsLastOpen new spec (written_run (stage_settled stage))
settled_file spec Idle old new either file = tt
settled_file spec (Asking opened) old new either file = elim either as (λ w. IsLastOpen new spec (Some opened)) [ inl none ↦ absurd (cc (none)) | inr same ↦ subst (λ (s : Seen). IsLastOpen s spec (Some opened)) (sym same) file ]
settled_file spec (Writing opened begun) old new either file = elim either as (λ w. IsLastOpen new spec (Some opened)) [ inl none ↦ absurd (cc (none)) | inr same ↦ subst (λ (s : Seen). IsLastOpen s spec (Some opened)) (sym same) file ]
settled_file spec (Draining run) old new either file = elim either as (λ w. IsLastOpen new spec (Some run.opened)) [ inl none ↦ absurd (cc (none)) | inr same ↦ subst (λ (s : Seen). IsLastOpen s spec (Some run.opened)) (sym same) file ]
settled_file spec (Drained run) old new either file = tt
settled_file spec (Broken run fallen) old new either file = tt

-- Opening a run.

-- where a channel with no file opens one, or none, the others' files stay, and the new number is none of theirs
pub opened_files : (slots : List (Option Channel)) (n : ℕ) (before after : Channel) (name : List ℕ) (old new : Seen) → slot_at slots n ≡ Some before → OpensRunFile name old new → IsLastOpen new after.spec (written_run after.stage)
    → ((r : ChannelRun) → written_run after.stage ≡ Some r → old.writes r.at.file ≡ false) → HaveFilesOpen slots old → HaveFilesOpen (slice_set slots n (Some after)) new
opened_files slots n before after name old new there opens file fresh open_before =
    let used : (m : ℕ) (c : Channel) (s : ChannelRun) → slot_at slots m ≡ Some c → written_run c.stage ≡ Some s → IsTrue (old.writes s.at.file) =
    λ m c s stood is. last_used c.spec old (written_run c.stage) (open_before.files m c stood) s is in
    let apart : (m : ℕ) (c : Channel) → slot_at slots m ≡ Some c → HaveNumbersApart (written_run after.stage) (written_run c.stage) =
    λ m c stood r s is other_is. used_apart old r.at.file s.at.file (fresh r is) (used m c s stood other_is) in
    record {
      files = one_changed (λ m c. IsLastOpen new c.spec (written_run c.stage)) slots n after (λ b stood. file)
          (λ m c other stood. open_left c.spec old new (written_run c.stage) (λ s is in_use_before. opens.numbers s.at.file in_use_before) (open_before.files m c stood)) before there;
      numbers = λ k m c d differ first second.
          one_changed (λ i x. (j : ℕ) (y : Channel) → i ≢ j → slot_at (slice_set slots n (Some after)) j ≡ Some y → HaveNumbersApart (written_run x.stage) (written_run y.stage)) slots n after
          (λ b stood j y other at_j. one_changed (λ i x. n ≢ i → HaveNumbersApart (written_run after.stage) (written_run x.stage)) slots n after (λ b2 stood2 never. absurd (never refl)) (λ i x other2 stood2 ne. apart i x stood2) before there j y at_j other)
          (λ i x other stood j y ne at_j.
          one_changed (λ p z. i ≢ p → HaveNumbersApart (written_run x.stage) (written_run z.stage)) slots n after (λ b2 stood2 ne2. flipped (written_run after.stage) (written_run x.stage) (apart i x stood))
          (λ p z other2 stood2 ne2. open_before.numbers i p x z ne2 stood stood2) before there j y at_j ne)
          before there k c first m d differ second;
    }

-- a number that a run is opened under was free; at a refusal the channel stays idle
pub open_fresh : (order : Order) (dump : List ℕ) (r : Result ⊤ Why) (s : ChannelStep) → OpensChannel order dump r s → s.before.stage ≡ Idle → (o : ChannelRun) → written_run s.after.stage ≡ Some o → s.files.seen.writes o.at.file ≡ false
open_fresh order dump (Ok done) s opens idle o is =
    let made : ChannelRun = record { run = order.run; start = order.start; time = order.time; at = opens.opens.at; client = opens.opens.asks.client; request = opens.opens.asks.request } in
    let at_stage : written_run s.after.stage ≡ Some made = ap (λ (x : ChannelStage). written_run x) opens.opens.asks.stage in
    let both : Some made ≡ Some o = sym at_stage ∙ is in
    let same : made ≡ o = cc (both) in
    subst (λ (k : ChannelRun). s.files.seen.writes k.at.file ≡ false) same opens.opens.makes.was_free.writes
open_fresh order dump (Err why) s opens idle o is = absurd (let never : None ≡ Some o = sym (ap (λ (x : ChannelStage). written_run x) (opens.opens.0 ∙ idle)) ∙ is in cc (never))

open_file : (order : Order) (dump : List ℕ) (r : Result ⊤ Why) (s : ChannelStep) → OpensChannel order dump r s → s.before.stage ≡ Idle → IsLastOpen s.later_files.seen s.before.spec (written_run s.after.stage)
open_file order dump (Ok done) s opens idle =
    let at : OpenFile = opens.opens.at in
    let made : ChannelRun = record { run = order.run; start = order.start; time = order.time; at = at; client = opens.opens.asks.client; request = opens.opens.asks.request } in
    let first : at.sub ≡ 0 = ap (λ (x : OpenFile). x.sub) opens.opens.first in
    let now : HasLastOpen s.later_files.seen s.before.spec made = record {
      writes = opens.opens.makes.writes;
      named = opens.opens.makes.named ∙ ap (λ (k : ℕ). piece_name_by s.before.spec.pattern order.run k) (sym first);
      few = omega (arith, first);
    } in
    rw opens.opens.asks.stage now
open_file order dump (Err why) s opens idle = rw (opens.opens.0, idle) tt

open_few : (order : Order) (dump : List ℕ) (r : Result ⊤ Why) (s : ChannelStep) → OpensChannel order dump r s → s.before.stage ≡ Idle → files_made s.after.stage ≤ suc last_number
open_few order dump (Ok done) s opens idle =
    let one : files_made s.after.stage ≡ opens.opens.at.sub + 1 = ap (λ (x : ChannelStage). files_made x) opens.opens.asks.stage in
    let first : opens.opens.at.sub ≡ 0 = ap (λ (x : OpenFile). x.sub) opens.opens.first in
    omega (arith, one, first)
open_few order dump (Err why) s opens idle = idle_few s.after (opens.opens.0 ∙ idle)

pub opened_ready : OpensChange → (order : Order) (dump : List ℕ) (r : Result ⊤ Why) (n : ℕ) (before : Channel) (a b : LoggerMoment) → slot_at a.slots n ≡ Some before → before.stage ≡ Idle → StepsChannel (OpensChannel order dump r) n before a b
    → IsLoggerReady a.slots a.ports a.files.seen → IsLoggerReady b.slots b.ports b.files.seen
opened_ready change order dump r n before a b there idle s ready =
    let opens : OpensRunFile _ a.files.seen b.files.seen = (change before.spec order dump r _ _ s.step.opens).0 in
    step_ready (OpensChannel order dump r) n before a b s there s.step.spec (open_few order dump r _ s.step idle)
    (opened_files a.slots n before s.after _ a.files.seen b.files.seen there opens
    (subst (λ (sp : ChannelSpec). IsLastOpen b.files.seen sp (written_run s.after.stage)) (sym s.step.spec) (open_file order dump r _ s.step idle))
    (open_fresh order dump r _ s.step idle) ready.files) ready

-- Calls and marks.

pub called_ready : (entry : BufferEntry) (buffer : ℕ) (a b : LoggerMoment) → CallsBuffer entry buffer a b → IsLoggerReady a.slots a.ports a.files.seen → IsLoggerReady b.slots b.ports b.files.seen
called_ready entry buffer a b calls ready =
    let now : IsLoggerReady a.slots (slice_set a.ports buffer calls.later_port) a.files.seen = record {
      many = ready.many;
      few = ready.few;
      served = λ n c there. omega (arith, many_set a.ports buffer calls.later_port, ready.served n c there);
      files = ready.files;
    } in
    rw (calls.slots, calls.ports, calls.files) now

noted_spec : (note : ChannelStage → ChannelStage) (buffer : ℕ) (c : Channel) (hit : Bool) → (if hit then record c { stage = note c.stage } else c).spec ≡ c.spec
noted_spec note buffer c true = refl
noted_spec note buffer c false = refl

noted_same : {X : Type 0} (f : ChannelStage → X) (note : ChannelStage → ChannelStage) (c : Channel) (hit : Bool) → ((stage : ChannelStage) → f (note stage) ≡ f stage) → f (if hit then record c { stage = note c.stage } else c).stage ≡ f c.stage
noted_same f note c true keeps = keeps c.stage
noted_same f note c false keeps = refl

-- the channel that was noted is one that stood there
pub record WasNoted (note : ChannelStage → ChannelStage) (buffer : ℕ) (slots : List (Option Channel)) (n : ℕ) (c : Channel) : Type 0 where
  pub before : Channel
  pub there : slot_at slots n ≡ Some before
  pub is : c ≡ noted_channel note buffer before

some_mapped : (f : Channel → Channel) (slot : Option Channel) (c : Channel) → option_map f slot ≡ Some c → (b : Channel) × (slot ≡ Some b) × (c ≡ f b)
some_mapped f None c is = absurd (cc (is))
some_mapped f (Some b) c is = (b, refl, let e : f b ≡ c = cc (is) in sym e)

pub was_noted : (note : ChannelStage → ChannelStage) (buffer : ℕ) (slots : List (Option Channel)) (n : ℕ) (c : Channel) → slot_at (map (option_map (noted_channel note buffer)) slots) n ≡ Some c → WasNoted note buffer slots n c
was_noted note buffer slots n c there =
    let found = some_mapped (noted_channel note buffer) (slot_at slots n) c (sym (slot_change_all (noted_channel note buffer) slots n) ∙ there) in
    record { before = found.0; there = found.1; is = found.2 }

pub marked_ready : (entry : BufferEntry) (note : ChannelStage → ChannelStage) (buffer : ℕ) (a b : LoggerMoment) → ((stage : ChannelStage) → written_run (note stage) ≡ written_run stage) → ((stage : ChannelStage) → files_made (note stage) ≡ files_made stage) → MarksBuffer entry note buffer a b
    → IsLoggerReady a.slots a.ports a.files.seen → IsLoggerReady b.slots b.ports b.files.seen
marked_ready entry note buffer a b keeps as_many marks ready =
    let called : IsLoggerReady a.slots b.ports b.files.seen = called_ready entry buffer a (record b { slots = a.slots }) marks.marks ready in
    let specs : (c : Channel) → (noted_channel note buffer c).spec ≡ c.spec = λ c. noted_spec note buffer c (c.spec.buffer == buffer) in
    let written : (c : Channel) → written_run (noted_channel note buffer c).stage ≡ written_run c.stage = λ c. noted_same written_run note c (c.spec.buffer == buffer) keeps in
    let made : (c : Channel) → files_made (noted_channel note buffer c).stage ≡ files_made c.stage = λ c. noted_same files_made note c (c.spec.buffer == buffer) as_many in
    let now : IsLoggerReady (map (option_map (noted_channel note buffer)) a.slots) b.ports b.files.seen = record {
      many = omega (arith, called.many, length-map a.slots (option_map (noted_channel note buffer)));
      few = λ n c there.
          let was : WasNoted note buffer a.slots n c = was_noted note buffer a.slots n c there in
          let same : files_made c.stage ≡ files_made was.before.stage = ap (λ (x : Channel). files_made x.stage) was.is ∙ made was.before in
          omega (arith, same, called.few n was.before was.there);
      served = λ n c there.
          let was : WasNoted note buffer a.slots n c = was_noted note buffer a.slots n c there in
          subst (λ (x : Channel). x.spec.buffer < length b.ports) (sym was.is) (subst (λ (sp : ChannelSpec). sp.buffer < length b.ports) (sym (specs was.before)) (called.served n was.before was.there));
      files = record {
        files = λ n c there.
            let was : WasNoted note buffer a.slots n c = was_noted note buffer a.slots n c there in
            subst (λ (x : Channel). IsLastOpen b.files.seen x.spec (written_run x.stage)) (sym was.is)
            (subst (λ (sp : ChannelSpec). IsLastOpen b.files.seen sp (written_run (noted_channel note buffer was.before).stage)) (sym (specs was.before))
            (subst (λ (w : Option ChannelRun). IsLastOpen b.files.seen was.before.spec w) (sym (written was.before)) (called.files.files n was.before was.there)));
        numbers = λ n m c d differ first second r s is other_is.
            let one : WasNoted note buffer a.slots n c = was_noted note buffer a.slots n c first in
            let other : WasNoted note buffer a.slots m d = was_noted note buffer a.slots m d second in
            called.files.numbers n m one.before other.before differ one.there other.there r s
            (sym (written one.before) ∙ (ap (λ (x : Channel). written_run x.stage) (sym one.is) ∙ is))
            (sym (written other.before) ∙ (ap (λ (x : Channel). written_run x.stage) (sym other.is) ∙ other_is));
      };
    } in
    rw marks.noted now

-- the run files, of which this is told
abbrev pub files_with : Seen → FilesTold
files_with seen = record { seen = seen; faults = 0; clashes = 0; first = None; bytes_read = 0 }

begun_stays : (place : ℕ) (stage : ChannelStage) → written_run (stage_begun stage place) ≡ written_run stage
begun_stays place (Asking opened) = refl
begun_stays place stage = refl

ended_stays : (ended : Option ℕ) (stage : ChannelStage) → written_run (stage_ended stage ended) ≡ written_run stage
ended_stays ended (Writing opened begun) = refl
ended_stays ended (Broken run fallen) = refl
ended_stays ended stage = refl

pub begun_made : (place : ℕ) (stage : ChannelStage) → files_made (stage_begun stage place) ≡ files_made stage
begun_made place (Asking opened) = refl
begun_made place stage = refl

pub ended_made : (ended : Option ℕ) (stage : ChannelStage) → files_made (stage_ended stage ended) ≡ files_made stage
ended_made ended (Writing opened begun) = refl
ended_made ended (Broken run fallen) = refl
ended_made ended stage = refl

pub begins_ready : (start buffer : ℕ) (a b : LoggerMoment) → BeginsBuffer start buffer a b → IsLoggerReady a.slots a.ports a.files.seen → IsLoggerReady b.slots b.ports b.files.seen
begins_ready start buffer a b begins ready = marked_ready _ (λ stage. stage_begun stage begins.0) buffer a b (begun_stays begins.0) (begun_made begins.0) begins.1 ready

pub refuses_ready : (start buffer : ℕ) (a b : LoggerMoment) → RefusesBegin start buffer a b → IsLoggerReady a.slots a.ports a.files.seen → IsLoggerReady b.slots b.ports b.files.seen
refuses_ready start buffer a b refuses ready = called_ready _ buffer a b refuses.1 ready

pub ends_ready : (start buffer : ℕ) (a b : LoggerMoment) → EndsBuffer start buffer a b → IsLoggerReady a.slots a.ports a.files.seen → IsLoggerReady b.slots b.ports b.files.seen
ends_ready start buffer a b ends ready = marked_ready _ (λ stage. stage_ended stage (place_marked ends.0)) buffer a b (ended_stays (place_marked ends.0)) (ended_made (place_marked ends.0)) ends.1 ready

-- Ending files, by what is called on them.

none_or_same : (stage : ChannelStage) (state : ChannelState) (time : ℕ) (dump : Option (List ℕ)) (old new : Seen) (faults later : ℕ) → ClosesFile (drained_run stage) stage state time dump old new faults later → (written_run (stage_settled stage) ≡ None) ⊎ (new ≡ old)
none_or_same Idle state time dump old new faults later closes = inl refl
none_or_same (Asking opened) state time dump old new faults later closes = inr closes.1
none_or_same (Writing opened begun) state time dump old new faults later closes = inr closes.1
none_or_same (Draining run) state time dump old new faults later closes = inr closes.1
none_or_same (Drained run) state time dump old new faults later closes = inl refl
none_or_same (Broken run fallen) state time dump old new faults later closes = inl refl

-- the files behind the ending of one channel's
pub ended_files : ClosesChange → (time : ℕ) (dump : Option (List ℕ)) (told : ChannelEnd) (slots : List (Option Channel)) (n : ℕ) (before after : Channel) (files later : FilesTold) → slot_at slots n ≡ Some before → EndsChannel time dump told before after files later
    → HaveFilesOpen slots files.seen → HaveFilesOpen (slice_set slots n (Some after)) later.seen
ended_files change time dump told slots n before after files later there ends open_before =
    let file : IsLastOpen files.seen before.spec (written_run before.stage) = open_before.files n before there in
    let spec : after.spec ≡ before.spec = ap (λ (c : Channel). c.spec) ends.channel in
    let stage : after.stage ≡ stage_settled before.stage = ap (λ (c : Channel). c.stage) ends.channel in
    let closed : IsLastOpen later.seen before.spec (written_run (stage_settled before.stage)) =
    settled_file before.spec before.stage files.seen later.seen (none_or_same before.stage told.state time dump files.seen later.seen files.faults later.faults ends.ends) file in
    files_kept slots n before after files.seen later.seen there
    (record {
      spec = spec;
      written = written_same files.seen before after (rw stage (settled_written before.stage));
      now = files_made before.stage;
      changes = change before.spec before.stage told.state time dump files.seen later.seen files.faults later.faults ends.ends file;
      file = rw (spec, stage) closed;
    }) open_before

-- A slot by its number.

pub opened_at : OpensChange → (order : Order) (dump : List ℕ) (r : Result ⊤ Why) (n : ℕ) (slot later : Option Channel) (slots : List (Option Channel)) (ports later_ports : List Access) (files later_files : FilesTold) → slot_at slots n ≡ slot → ((c : Channel) → slot ≡ Some c → c.stage ≡ Idle)
    → OnOk r (OpensSlot order dump slot later ports later_ports files later_files) → IfErr r (RefusesSlot order dump slot later ports later_ports files later_files) → IsLoggerReady slots ports files.seen → IsLoggerReady (slice_set slots n later) later_ports later_files.seen
opened_at change order dump (Ok done) n None later slots ports later_ports files later_files there idle opens refuses ready =
    subst (λ (m : LoggerMoment). IsLoggerReady m.slots m.ports m.files.seen) (sym (opens slots n there)) ready
opened_at change order dump (Ok done) n (Some c) later slots ports later_ports files later_files there idle opens refuses ready =
    opened_ready change order dump (Ok tt) n c _ _ there (idle c refl) (opens slots n there) ready
opened_at change order dump (Err why) n slot later slots ports later_ports files later_files there idle opens refuses ready =
    opened_ready change order dump (Err why) n refuses.0 _ _ (there ∙ refuses.1) (idle refuses.0 refuses.1) (refuses.2 slots n there) ready

pub ended_at : ClosesChange → (time : ℕ) (dump : Option (List ℕ)) (n : ℕ) (slot later : Option Channel) (slots : List (Option Channel)) (files later_files : FilesTold) (told later_told : List ChannelEnd) → slot_at slots n ≡ slot
    → EndsSlot time dump n slot (record { slots = slots; files = files; told = told }) (record { slots = slice_set slots n later; files = later_files; told = later_told })
    → HaveFilesOpen slots files.seen → HaveFilesOpen (slice_set slots n later) later_files.seen
ended_at change time dump n None later slots files later_files told later_told there ends in_use_before = subst (λ (m : EndingMoment). HaveFilesOpen m.slots m.files.seen) (sym ends) in_use_before
ended_at change time dump n (Some before) later slots files later_files told later_told there ends in_use_before =
    subst (λ (l : List (Option Channel)). HaveFilesOpen l later_files.seen) (sym ends.slots) (ended_files change time dump ends.told slots n before ends.after files later_files there ends.ends in_use_before)
