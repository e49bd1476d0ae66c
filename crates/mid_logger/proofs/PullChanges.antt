-- Which files a pull changes, which one is written then, and what the channel knows of the next name.
use Rattle.std.specs.Prelude.{◌≡◌, ◌⊎◌, ◌<◌, ◌≤◌, ◌+◌, ℕ, suc, nat_lt, Bool, true, false, IsTrue, IsSome, List, length, Option, Some, None, refl}
use Rattle.std.specs.Option.{option_map}
use Rattle.std.proofs.Common.{arith, ap, sym, subst, ◌∙◌, inl, inr}
use Rattle.daq_types.specs.declared.events.Event.{Event}
use Rattle.event.specs.Events.{encoding}
use Rattle.daq_io.specs.Seen.{Seen}
use Rattle.daq_io.proofs.SeenLaws.{KeepsNumber-refl, on_same}
use Rattle.buffer_core.specs.declared.replies.Received.{Received}
use Rattle.buffer_core.specs.declared.replies.Received.TheVariants.{Got, Empty, NoClient, SmallBuf}
use Rattle.sub_files.specs.declared.open_file.OpenFile.{OpenFile}
use Rattle.sub_files.specs.declared.open_file.RunHead.{RunHead}
use Rattle.sub_files.specs.Cuts.{last_number}
use Rattle.sub_files.specs.Patterns.{piece_name_by}
use Rattle.sub_files.specs.Pieces.{head_bytes}
use Rattle.sub_files.specs.Rolls.{MovesOn, WritesNext, begins_next}
use Rattle.mid_logger.specs.declared.channel_spec.ChannelSpec.{ChannelSpec}
use Rattle.mid_logger.specs.declared.pulled.Pulled.{Pulled}
use Rattle.mid_logger.specs.declared.stage.BegunRun.{BegunRun}
use Rattle.mid_logger.specs.declared.stage.ChannelRun.{ChannelRun}
use Rattle.mid_logger.specs.declared.stage.ChannelStage.{ChannelStage}
use Rattle.mid_logger.specs.declared.stage.ChannelStage.TheVariants.{Idle, Asking, Writing, Draining, Drained, Broken}
use Rattle.mid_logger.specs.Channels.{HasLastOpen, IsLastOpen, KnowsTaken, channel_run, written_run, files_by, stage_at, run_begun, reading_run, is_behind_end}
use Rattle.mid_logger.specs.Pulls.{PullOf, LeavesAll, DrainsClient, WritesEvent, BreaksChannel, TakesBy, drains_at_none, FindsNone, TakesReply, PullsOnce, PullsIn, Pulls, run_series}
use Rattle.mid_logger.specs.Keeping.{ChangesFiles, ChangesRun, KeepsRun, any_file}
use Rattle.mid_logger.proofs.FileMoves.{Moved, ReadyAt, FellAt, wrote_at, fell_at}

pub reads_open : (stage : ChannelStage) (run : BegunRun) (seen : Seen) (spec : ChannelSpec) → reading_run stage ≡ Some run → HasLastOpen seen spec run.opened → IsLastOpen seen spec (written_run stage)
reads_open Idle run seen spec is file = absurd (cc (is))
reads_open (Asking opened) run seen spec is file = absurd (cc (is))
reads_open (Writing opened begun) run seen spec is file = (let same : run ≡ run_begun opened begun = cc (is) in subst (λ (r : BegunRun). HasLastOpen seen spec r.opened) same file)
reads_open (Draining r) run seen spec is file = (let same : run ≡ r = cc (is) in subst (λ (x : BegunRun). HasLastOpen seen spec x.opened) same file)
reads_open (Drained r) run seen spec is file = absurd (cc (is))
reads_open (Broken r fallen) run seen spec is file = absurd (cc (is))

pub moved_open : (stage : ChannelStage) (run : BegunRun) (at : OpenFile) (seen : Seen) (spec : ChannelSpec) → reading_run stage ≡ Some run → HasLastOpen seen spec (record run.opened { at = at }) → IsLastOpen seen spec (written_run (stage_at stage at))
moved_open Idle run at seen spec is file = absurd (cc (is))
moved_open (Asking opened) run at seen spec is file = absurd (cc (is))
moved_open (Writing opened begun) run at seen spec is file = (let same : run ≡ run_begun opened begun = cc (is) in subst (λ (r : BegunRun). HasLastOpen seen spec (record r.opened { at = at })) same file)
moved_open (Draining r) run at seen spec is file = (let same : run ≡ r = cc (is) in subst (λ (x : BegunRun). HasLastOpen seen spec (record x.opened { at = at })) same file)
moved_open (Drained r) run at seen spec is file = absurd (cc (is))
moved_open (Broken r fallen) run at seen spec is file = absurd (cc (is))

-- The channel has made no more files than it may.

pub moved_few : (stage : ChannelStage) (at : OpenFile) → at.sub ≤ last_number → files_by stage ≤ 10000 → files_by (stage_at stage at) ≤ 10000
moved_few Idle at sub few = few
moved_few (Asking opened) at sub few = few
moved_few (Writing opened begun) at sub few = omega (arith, sub)
moved_few (Draining run) at sub few = omega (arith, sub)
moved_few (Drained run) at sub few = few
moved_few (Broken run fallen) at sub few = few

-- Nothing changes.

pub none_changed : (names : ℕ → List ℕ) (before now : ℕ) (written : Option ChannelRun) (old new : Seen) → now ≤ before → new ≡ old → ChangesFiles names before now written old new
none_changed names before now written old new fits same =
    let here : ChangesFiles names before now written old old = record {
      told = refl;
      on = on_same refl;
      others = λ name apart. refl;
      fresh = λ n least below. absurd (omega (arith, fits, least, below));
      numbers = λ number used other. KeepsNumber-refl old number;
    } in
    rw same here

none_run : (spec : ChannelSpec) (run written : Option ChannelRun) (before now : ℕ) (old new : Seen) → now ≤ before → new ≡ old → ChangesRun spec run written before now old new
none_run spec None written before now old new fits same = same
none_run spec (Some opened) written before now old new fits same = none_changed (piece_name_by spec.pattern opened.run) before now written old new fits same

same_stage : (old : Seen) (stage : ChannelStage) → KeepsRun old stage stage
same_stage old stage = record { run = refl; made = omega arith; one = omega arith; few = λ most. most; written = λ w is. (w, is, inl refl) }

-- what is told of one open run
pub changes_of : (names : ℕ → List ℕ) (first now before after : ℕ) (opened : ChannelRun) (a b : Seen) → before ≡ first → after ≡ now → Moved names first now opened.at.file a b → ChangesFiles names before after (Some opened) a b
changes_of names first now before after opened a b is_first is_now moved =
    rw (is_first, is_now) (record { told = moved.told; on = moved.on; others = moved.others; fresh = moved.fresh; numbers = λ number used other. moved.numbers number used (other opened refl) })

-- A pull. What a reading stage has: its run, and what is written.

record ReadsAs (stage : ChannelStage) (run : BegunRun) : Type 0 where
  has_run : channel_run stage ≡ Some run.opened
  has_written : written_run stage ≡ Some run.opened
  has_files : files_by stage ≡ run.opened.at.sub + 1
  at_run : (at : OpenFile) → channel_run (stage_at stage at) ≡ Some (record run.opened { at = at })
  at_written : (at : OpenFile) → written_run (stage_at stage at) ≡ Some (record run.opened { at = at })
  at_files : (at : OpenFile) → files_by (stage_at stage at) ≡ at.sub + 1

abbrev PullChanges : PullOf → (run written : Option ChannelRun) → Type 0
PullChanges p run written = ChangesRun p.spec run written (files_by p.stage) (files_by p.later_stage) p.files p.later_files × KeepsRun p.files p.stage p.later_stage × IsLastOpen p.later_files p.spec (written_run p.later_stage)

leaves_changed : (p : PullOf) (run written : Option ChannelRun) (answer : Pulled) → IsLastOpen p.files p.spec (written_run p.stage) → LeavesAll p answer → PullChanges p run written
leaves_changed p run written answer file leaves = (
  rw leaves.stage (none_run p.spec run written (files_by p.stage) (files_by p.stage) p.files p.later_files (omega arith) leaves.files),
  rw leaves.stage (same_stage p.files p.stage),
  rw (leaves.stage, leaves.files) file,
)

drains_changed : (p : PullOf) (run : BegunRun) (answer : Pulled) → ReadsAs p.stage run → HasLastOpen p.files p.spec run.opened → DrainsClient p run answer → PullChanges p (Some run.opened) (Some run.opened)
drains_changed p run answer reads file drains =
    let many = reads.has_files in
    let keeps : KeepsRun p.files p.stage (Drained run) = record {
      run = ap (λ (o : Option ChannelRun). option_map any_file o) (sym reads.has_run);
      made = omega (arith, many);
      one = omega (arith, many);
      few = λ most. omega (arith, many, most);
      written = λ w is. (let same : run.opened ≡ w = cc (is) in (run.opened, reads.has_written, inl (ap (λ (r : ChannelRun). r.at.file) (sym same))));
    } in (
      rw drains.stage (none_changed (piece_name_by p.spec.pattern run.opened.run) (files_by p.stage) (run.opened.at.sub + 1) (Some run.opened) p.files p.later_files (omega (arith, many)) drains.files),
      rw drains.stage keeps,
      rw (drains.stage, drains.files) file,
    )

-- the numbers of files, where at most one was made
record Bounds (before now : ℕ) : Type 0 where
  made : before ≤ now
  one : now ≤ before + 1
  few : before ≤ suc last_number → now ≤ suc last_number

step_bounds : (old now : ℕ) → (now ≡ old) ⊎ ((now ≡ old + 1) × (old < last_number)) → Bounds (old + 1) (now + 1)
step_bounds old now steps = elim steps as (λ w. Bounds (old + 1) (now + 1)) [
  | inl same ↦ record { made = omega (arith, same); one = omega (arith, same); few = λ most. omega (arith, same, most) }
  | inr more ↦ (let is = more.0 in let left = more.1 in record { made = omega (arith, is); one = omega (arith, is); few = λ most. omega (arith, is, left) })
]

fall_bounds : (old now : ℕ) → (now ≡ old + 1) ⊎ ((now ≡ old + 2) × (old < last_number)) → Bounds (old + 1) now
fall_bounds old now within = elim within as (λ w. Bounds (old + 1) now) [
  | inl same ↦ record { made = omega (arith, same); one = omega (arith, same); few = λ most. omega (arith, same, most) }
  | inr more ↦ (let is = more.0 in let left = more.1 in record { made = omega (arith, is); one = omega (arith, is); few = λ most. omega (arith, is, left) })
]

step_few : (old now : ℕ) → old ≤ last_number → (now ≡ old) ⊎ ((now ≡ old + 1) × (old < last_number)) → now ≤ last_number
step_few old now few steps = elim steps as (λ w. now ≤ last_number) [ inl same ↦ omega (arith, same, few) | inr more ↦ (let is = more.0 in let left = more.1 in omega (arith, is, left)) ]

writes_changed : (p : PullOf) (run : BegunRun) (place : ℕ) (e : Event) → ReadsAs p.stage run → HasLastOpen p.files p.spec run.opened → WritesEvent p run place e → PullChanges p (Some run.opened) (Some run.opened)
writes_changed p run place e reads file writes =
    let names : ℕ → List ℕ = piece_name_by p.spec.pattern run.opened.run in
    let at : ReadyAt names run.opened.at writes.at p.files p.later_files = wrote_at p.spec run.opened p.dump writes.at (encoding e) p.files p.later_files file writes.files in
    let bounds : Bounds (run.opened.at.sub + 1) (writes.at.sub + 1) = step_bounds run.opened.at.sub writes.at.sub at.steps in
    let many = reads.has_files in
    let now = reads.at_files writes.at in
    let made = bounds.made in
    let one = bounds.one in
    let keeps : KeepsRun p.files p.stage (stage_at p.stage writes.at) = record {
      run = ap (λ (o : Option ChannelRun). option_map any_file o) (reads.at_run writes.at) ∙ ap (λ (o : Option ChannelRun). option_map any_file o) (sym reads.has_run);
      made = omega (arith, many, now, made);
      one = omega (arith, many, now, one);
      few = λ most. (let few = bounds.few (omega (arith, many, most)) in omega (arith, now, few));
      written = λ w is.
          let same : record run.opened { at = writes.at } ≡ w = cc (is, reads.at_written writes.at) in
          (run.opened, reads.has_written, subst (λ (r : ChannelRun). (r.at.file ≡ run.opened.at.file) ⊎ (p.files.writes r.at.file ≡ false)) same at.is_new);
    } in
    let used : HasLastOpen p.later_files p.spec (record run.opened { at = writes.at }) = record { writes = at.writes; named = at.named; few = step_few run.opened.at.sub writes.at.sub file.few at.steps } in (
      rw writes.stage (changes_of names (run.opened.at.sub + 1) (writes.at.sub + 1) (files_by p.stage) (files_by (stage_at p.stage writes.at)) run.opened p.files p.later_files many now at.moved),
      rw writes.stage keeps,
      subst (λ (s : ChannelStage). IsLastOpen p.later_files p.spec (written_run s)) (sym writes.stage) (subst (λ (o : Option ChannelRun). IsLastOpen p.later_files p.spec o) (sym (reads.at_written writes.at)) used),
    )

breaks_changed : (p : PullOf) (run : BegunRun) (e : Event) → ReadsAs p.stage run → HasLastOpen p.files p.spec run.opened → BreaksChannel p run e → PullChanges p (Some run.opened) (Some run.opened)
breaks_changed p run e reads file breaks =
    let names : ℕ → List ℕ = piece_name_by p.spec.pattern run.opened.run in
    let at : FellAt names run.opened.at breaks.fallen.files p.files p.later_files = fell_at p.spec run.opened p.dump breaks.fallen (encoding e) p.files p.later_files file breaks.files in
    let bounds : Bounds (run.opened.at.sub + 1) breaks.fallen.files = fall_bounds run.opened.at.sub breaks.fallen.files at.within in
    let many = reads.has_files in
    let made = bounds.made in
    let one = bounds.one in
    let keeps : KeepsRun p.files p.stage (Broken run breaks.fallen) = record {
      run = ap (λ (o : Option ChannelRun). option_map any_file o) (sym reads.has_run);
      made = omega (arith, many, made);
      one = omega (arith, many, one);
      few = λ most. bounds.few (omega (arith, many, most));
      written = λ w is. absurd (cc (is));
    } in (
      rw breaks.stage (changes_of names (run.opened.at.sub + 1) breaks.fallen.files (files_by p.stage) breaks.fallen.files run.opened p.files p.later_files many refl at.moved),
      rw breaks.stage keeps,
      rw breaks.stage tt,
    )

taken_changed : (p : PullOf) (run : BegunRun) (place : ℕ) (e : Event) (behind early : Bool) → ReadsAs p.stage run → IsLastOpen p.files p.spec (written_run p.stage) → HasLastOpen p.files p.spec run.opened → TakesBy behind early p run place e
    → PullChanges p (Some run.opened) (Some run.opened)
taken_changed p run place e true early reads used file taken = drains_changed p run _ reads file taken
taken_changed p run place e false true reads used file taken = leaves_changed p (Some run.opened) (Some run.opened) _ used taken
taken_changed p run place e false false reads used file taken = elim taken as (λ w. PullChanges p (Some run.opened) (Some run.opened)) [
  | inl writes ↦ writes_changed p run place e reads file writes
  | inr breaks ↦ breaks_changed p run e reads file breaks
]

found_changed : (p : PullOf) (run : BegunRun) (drains : Bool) → ReadsAs p.stage run → IsLastOpen p.files p.spec (written_run p.stage) → HasLastOpen p.files p.spec run.opened → FindsNone drains p run → PullChanges p (Some run.opened) (Some run.opened)
found_changed p run true reads used file found = drains_changed p run _ reads file found
found_changed p run false reads used file found = leaves_changed p (Some run.opened) (Some run.opened) _ used found

reply_changed : (p : PullOf) (run : BegunRun) (reply : Received) (e : Event) → ReadsAs p.stage run → IsLastOpen p.files p.spec (written_run p.stage) → HasLastOpen p.files p.spec run.opened → TakesReply p run reply e → PullChanges p (Some run.opened) (Some run.opened)
reply_changed p run (Got place start) e reads used file taken = taken_changed p run place e (is_behind_end run.ended place) (nat_lt place run.begun) reads used file taken
reply_changed p run (Empty gate last) e reads used file taken = found_changed p run (drains_at_none p.stage) reads used file taken
reply_changed p run NoClient e reads used file taken = leaves_changed p (Some run.opened) (Some run.opened) _ used taken
reply_changed p run (SmallBuf need) e reads used file taken = absurd taken

once_changed : (p : PullOf) (run : BegunRun) (room : ℕ) → ReadsAs p.stage run → IsLastOpen p.files p.spec (written_run p.stage) → PullsOnce p run room → PullChanges p (Some run.opened) (Some run.opened)
once_changed p run room reads used pulls =
    reply_changed (record p { port = pulls.middle }) run pulls.reply pulls.event reads used (subst (λ (o : Option ChannelRun). IsLastOpen p.files p.spec o) reads.has_written used) pulls.taken

writing_reads : (opened : ChannelRun) (begun : ℕ) → ReadsAs (Writing opened begun) (run_begun opened begun)
writing_reads opened begun = record { has_run = refl; has_written = refl; has_files = refl; at_run = λ at. refl; at_written = λ at. refl; at_files = λ at. refl }

draining_reads : (run : BegunRun) → ReadsAs (Draining run) run
draining_reads run = record { has_run = refl; has_written = refl; has_files = refl; at_run = λ at. refl; at_written = λ at. refl; at_files = λ at. refl }

stage_changed : (p : PullOf) (room : ℕ) (stage : ChannelStage) → p.stage ≡ stage → PullsIn (reading_run stage) p room → IsLastOpen p.files p.spec (written_run p.stage) → PullChanges p (channel_run stage) (written_run stage)
stage_changed p room Idle is pulls used = leaves_changed p None None _ used pulls
stage_changed p room (Asking opened) is pulls used = leaves_changed p (Some opened) (Some opened) _ used pulls
stage_changed p room (Writing opened begun) is pulls used = once_changed p (run_begun opened begun) room (rw is (writing_reads opened begun)) used pulls
stage_changed p room (Draining run) is pulls used = once_changed p run room (rw is (draining_reads run)) used pulls
stage_changed p room (Drained run) is pulls used = leaves_changed p (Some run.opened) (Some run.opened) _ used pulls
stage_changed p room (Broken run fallen) is pulls used = leaves_changed p (Some run.opened) None _ used pulls

pub pull_changes : (p : PullOf) (room : ℕ) → Pulls p room → IsLastOpen p.files p.spec (written_run p.stage)
    → ChangesRun p.spec (channel_run p.stage) (written_run p.stage) (files_by p.stage) (files_by p.later_stage) p.files p.later_files × KeepsRun p.files p.stage p.later_stage × IsLastOpen p.later_files p.spec (written_run p.later_stage)
pull_changes p room pulls used = stage_changed p room p.stage refl pulls used

-- What is known of the next name. It is told of the files before the pull.

same_known : (p : PullOf) → p.later_stage ≡ p.stage → KnowsTaken p.files p.spec p.stage → KnowsTaken p.files p.spec p.later_stage
same_known p same known = rw same known

-- the run goes on with its file, in another stage
run_known : (p : PullOf) (run : BegunRun) (later : ChannelStage) → channel_run later ≡ Some run.opened → p.later_stage ≡ later → channel_run p.stage ≡ Some run.opened → KnowsTaken p.files p.spec p.stage → KnowsTaken p.files p.spec p.later_stage
run_known p run later has is has_run known =
    let here : KnowsTaken p.files p.spec later = λ o o_is taken told. known o (has_run ∙ (sym has ∙ o_is)) taken told in
    rw is here

-- the next name was found taken, or that was known before
abbrev IsKnown : ChannelSpec → ChannelRun → OpenFile → Seen → Type 0
IsKnown spec opened at a = IsTrue at.taken → IsTrue a.names → IsSome (a.at (piece_name_by spec.pattern opened.run (at.sub + 1)))

ready_known : (spec : ChannelSpec) (opened : ChannelRun) (head : RunHead) (dump : List ℕ) (ready : OpenFile) (a b : Seen) (begins : Bool) → IsKnown spec opened opened.at a → MovesOn begins (piece_name_by spec.pattern opened.run (opened.at.sub + 1)) head dump opened.at ready a b → IsKnown spec opened ready a
ready_known spec opened head dump ready a b false known moves = rw moves.0 known
ready_known spec opened head dump ready a b true known moves = elim moves as (λ w. IsKnown spec opened ready a) [
  | inl found ↦ rw found.ready_is (λ taken told. found.there told)
  | inr rolls ↦ rw rolls.rolls.ready_is (λ taken told. absurd (let never : false ≡ true = taken in cc (never)))
]

written_known : (spec : ChannelSpec) (opened : ChannelRun) (dump : List ℕ) (at : OpenFile) (event : List ℕ) (a b : Seen) → IsKnown spec opened opened.at a → WritesNext (run_series spec opened dump) opened.at at event a b → IsKnown spec opened at a
written_known spec opened dump at event a b known writes =
    let ready : IsKnown spec opened writes.ready a = ready_known spec opened (run_series spec opened dump).head dump writes.ready a writes.middle (begins_next spec.sub_bytes (head_bytes dump) opened.at (length event)) known writes.moves in
    rw writes.later_is ready

writes_known : (p : PullOf) (run : BegunRun) (place : ℕ) (e : Event) → ReadsAs p.stage run → WritesEvent p run place e → KnowsTaken p.files p.spec p.stage → KnowsTaken p.files p.spec p.later_stage
writes_known p run place e reads writes known =
    let at : IsKnown p.spec run.opened writes.at p.files = written_known p.spec run.opened p.dump writes.at (encoding e) p.files p.later_files (λ taken told. known run.opened reads.has_run taken told) writes.files in
    let here : KnowsTaken p.files p.spec (stage_at p.stage writes.at) = λ o is taken told.
    let same : record run.opened { at = writes.at } ≡ o = cc (is, reads.at_run writes.at) in
    subst (λ (r : ChannelRun). IsTrue r.at.taken → IsSome (p.files.at (piece_name_by p.spec.pattern r.run (r.at.sub + 1)))) same (λ found. at found told) taken in
    rw writes.stage here

taken_known : (p : PullOf) (run : BegunRun) (place : ℕ) (e : Event) (behind early : Bool) → ReadsAs p.stage run → TakesBy behind early p run place e → KnowsTaken p.files p.spec p.stage → KnowsTaken p.files p.spec p.later_stage
taken_known p run place e true early reads taken known = run_known p run (Drained run) refl taken.stage reads.has_run known
taken_known p run place e false true reads taken known = same_known p taken.stage known
taken_known p run place e false false reads taken known = elim taken as (λ w. KnowsTaken p.files p.spec p.later_stage) [
  | inl writes ↦ writes_known p run place e reads writes known
  | inr breaks ↦ run_known p run (Broken run breaks.fallen) refl breaks.stage reads.has_run known
]

found_known : (p : PullOf) (run : BegunRun) (drains : Bool) → ReadsAs p.stage run → FindsNone drains p run → KnowsTaken p.files p.spec p.stage → KnowsTaken p.files p.spec p.later_stage
found_known p run true reads found known = run_known p run (Drained run) refl found.stage reads.has_run known
found_known p run false reads found known = same_known p found.stage known

reply_known : (p : PullOf) (run : BegunRun) (reply : Received) (e : Event) → ReadsAs p.stage run → TakesReply p run reply e → KnowsTaken p.files p.spec p.stage → KnowsTaken p.files p.spec p.later_stage
reply_known p run (Got place start) e reads taken known = taken_known p run place e (is_behind_end run.ended place) (nat_lt place run.begun) reads taken known
reply_known p run (Empty gate last) e reads taken known = found_known p run (drains_at_none p.stage) reads taken known
reply_known p run NoClient e reads taken known = same_known p taken.stage known
reply_known p run (SmallBuf need) e reads taken known = absurd taken

once_known : (p : PullOf) (run : BegunRun) (room : ℕ) → ReadsAs p.stage run → PullsOnce p run room → KnowsTaken p.files p.spec p.stage → KnowsTaken p.files p.spec p.later_stage
once_known p run room reads pulls known = reply_known (record p { port = pulls.middle }) run pulls.reply pulls.event reads pulls.taken known

stage_known : (p : PullOf) (room : ℕ) (stage : ChannelStage) → p.stage ≡ stage → PullsIn (reading_run stage) p room → KnowsTaken p.files p.spec p.stage → KnowsTaken p.files p.spec p.later_stage
stage_known p room (Writing opened begun) is pulls known = once_known p (run_begun opened begun) room (rw is (writing_reads opened begun)) pulls known
stage_known p room (Draining run) is pulls known = once_known p run room (rw is (draining_reads run)) pulls known
stage_known p room Idle is pulls known = same_known p pulls.stage known
stage_known p room (Asking opened) is pulls known = same_known p pulls.stage known
stage_known p room (Drained run) is pulls known = same_known p pulls.stage known
stage_known p room (Broken run fallen) is pulls known = same_known p pulls.stage known

pub pull_known : (p : PullOf) (room : ℕ) → Pulls p room → KnowsTaken p.files p.spec p.stage → KnowsTaken p.files p.spec p.later_stage
pull_known p room pulls known = stage_known p room p.stage refl pulls known
