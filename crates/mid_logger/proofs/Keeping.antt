-- Which files the ends and the begin of a run change, and what stays there.
use Rattle.std.specs.Prelude.{◌≡◌, ◌≢◌, ◌⊎◌, ◌<◌, ◌≤◌, ◌+◌, ℕ, zero, suc, true, false, length, IsTrue, IsSome, List, [], Option, Some, None, Result, Ok, Err, OnOk, OnErr, ⊤, refl}
use Rattle.std.specs.Option.{option_map}
use Rattle.std.proofs.Common.{arith, ap, sym, subst, ◌∙◌, inl, inr}
use Rattle.std.proofs.lemmas.Bool.Decides.{leb_tells}
use Rattle.daq_types.specs.declared.runs.ChannelState.{ChannelState}
use Rattle.daq_types.specs.declared.runs.ChannelState.TheVariants.{Broken as IsBroken}
use Rattle.daq_types.specs.declared.runs.Order.{Order}
use Rattle.daq_types.specs.declared.runs.Why.{Why}
use Rattle.daq_types.specs.declared.runs.Why.TheVariants.{NotReady, Exists, Fault, BufferRefused}
use Rattle.event.specs.Events.{record_limit}
use Rattle.daq_io.specs.declared.folder.FileState.{FileState}
use Rattle.daq_io.specs.Seen.{Seen, Stored, LeavesFile}
use Rattle.daq_io.proofs.SeenLaws.{KeepsNumber-trans, Same-refl, name_tells, on_same, on_then}
use Rattle.buffer_core.specs.declared.entry.BufferEntry.{BufferEntry}
use Rattle.buffer_core.specs.Ports.{GotEvent}
use Rattle.sub_files.specs.Patterns.{piece_name_by}
use Rattle.mid_logger.specs.declared.channel_spec.ChannelSpec.{ChannelSpec}
use Rattle.mid_logger.specs.declared.stage.BegunRun.{BegunRun}
use Rattle.mid_logger.specs.declared.stage.ChannelRun.{ChannelRun}
use Rattle.mid_logger.specs.declared.stage.ChannelStage.{ChannelStage}
use Rattle.mid_logger.specs.declared.stage.ChannelStage.TheVariants.{Idle, Asking, Writing, Draining, Drained, Broken}
use Rattle.mid_logger.specs.Patterns.{file_name_by}
use Rattle.mid_logger.specs.Channels.{FileHead, GivesEachOnce, ChannelStands, HasLastOpen, IsLastOpen, KnowsTaken, channel_run, written_run, files_by, series_at}
use Rattle.mid_logger.specs.Pulls.{PullOf, Pulls}
use Rattle.mid_logger.specs.ChannelTurns.{ChannelAt, OpensBy, RefusesRun, drained_run}
use Rattle.mid_logger.specs.ChannelEnds.{DropsFiles, RemovesRun, ClosesRead, ClosesFile, HasLeft, end_of, last_bytes}
use Rattle.mid_logger.specs.Keeping.{ChangesFiles, ChangesRun, KeepsThere, KeepsRun, OpensRunFile, any_file, order_head}
use Rattle.mid_logger.proofs.FileMoves.{Moved, same_moved, closed_moved}
use Rattle.sub_files.proofs.FilesStay.{run_there, fallen_there}
use Rattle.mid_logger.proofs.PullSteps.{pull_kept}
use Rattle.mid_logger.proofs.PullChanges.{none_changed, changes_of, pull_changes, pull_known}
use Rattle.mid_logger.proofs.StageSteps.{made_there, last_used}
use Rattle.mid_logger.proofs.OpenSteps.{opened_kept, not_opened_kept}
use Rattle.mid_logger.proofs.EndSteps.{left_by}

pub not_gone : (o : Option Stored) → IsSome o → o ≡ None → ⊥
not_gone o some none = let never : false ≡ true = subst (λ (x : Option Stored). IsSome x) none some in cc (never)

-- A file that is written is closed, with these bytes more.
closed_changes : {state : FileState} (spec : ChannelSpec) (opened : ChannelRun) (old new : Seen) (bytes : List ℕ) → HasLastOpen old spec opened → LeavesFile old new opened.at.file state bytes → Moved (piece_name_by spec.pattern opened.run) (opened.at.sub + 1) (opened.at.sub + 1) opened.at.file old new
closed_changes spec opened old new bytes file leaves =
    let names : ℕ → List ℕ = piece_name_by spec.pattern opened.run in
    closed_moved names (opened.at.sub + 1) (opened.at.sub + 1) opened.at.file opened.at.sub opened.at.file old old new bytes (same_moved names (opened.at.sub + 1) opened.at.file old old (Same-refl old)) (omega arith) file.named leaves (inl refl)

-- Calling off.

drop_changes : (spec : ChannelSpec) (opened : ChannelRun) (old new : Seen) (faults later : ℕ) → HasLastOpen old spec opened → DropsFiles spec (Some opened) opened.run (opened.at.sub + 1) old new faults later
    → ChangesFiles (piece_name_by spec.pattern opened.run) (opened.at.sub + 1) (opened.at.sub + 1) (Some opened) old new
drop_changes spec opened old new faults later file drops =
    let moved : Moved (piece_name_by spec.pattern opened.run) (opened.at.sub + 1) (opened.at.sub + 1) opened.at.file old drops.closed = closed_changes spec opened old drops.closed [] file drops.closes.closes.leaves in
    record {
      told = drops.removes.told ∙ moved.told;
      on = on_then moved.on drops.removes.on;
      others = λ name apart. drops.removes.others name apart ∙ moved.others name apart;
      fresh = λ n least below. absurd (omega (arith, least, below));
      numbers = λ number used other. KeepsNumber-trans (moved.numbers number used (other opened refl)) (drops.removes.numbers number);
    }

left_changes : (spec : ChannelSpec) (run many : ℕ) (old new : Seen) (faults later : ℕ) → DropsFiles spec None run many old new faults later → ChangesFiles (piece_name_by spec.pattern run) many many None old new
left_changes spec run many old new faults later drops =
    let here : ChangesFiles (piece_name_by spec.pattern run) many many None drops.closed new = record {
      told = drops.removes.told;
      on = drops.removes.on;
      others = λ name apart. drops.removes.others name apart;
      fresh = λ n least below. absurd (omega (arith, least, below));
      numbers = λ number used other. drops.removes.numbers number;
    } in
    subst (λ (s : Seen). ChangesFiles (piece_name_by spec.pattern run) many many None s new) drops.closes here

pub abort_changes : (spec : ChannelSpec) (stage : ChannelStage) (old new : Seen) (faults later : ℕ) → RemovesRun (channel_run stage) (written_run stage) spec (files_by stage) old new faults later → IsLastOpen old spec (written_run stage)
    → ChangesRun spec (channel_run stage) (written_run stage) (files_by stage) (files_by stage) old new
abort_changes spec Idle old new faults later removes file = removes.0
abort_changes spec (Asking opened) old new faults later removes file = drop_changes spec opened old new faults later file removes
abort_changes spec (Writing opened begun) old new faults later removes file = drop_changes spec opened old new faults later file removes
abort_changes spec (Draining run) old new faults later removes file = drop_changes spec run.opened old new faults later file removes
abort_changes spec (Drained run) old new faults later removes file = drop_changes spec run.opened old new faults later file removes
abort_changes spec (Broken run fallen) old new faults later removes file = left_changes spec run.opened.run fallen.files old new faults later removes

-- Ending the files.

read_changes : (spec : ChannelSpec) (run : BegunRun) (state : ChannelState) (time : ℕ) (dump : Option (List ℕ)) (old new : Seen) (faults later : ℕ) → ClosesRead state run time dump old new faults later → HasLastOpen old spec run.opened
    → Moved (piece_name_by spec.pattern run.opened.run) (run.opened.at.sub + 1) (run.opened.at.sub + 1) run.opened.at.file old new
read_changes spec run IsBroken time dump old new faults later closes file = closed_changes spec run.opened old new _ file closes.0.leaves
read_changes spec run state time dump old new faults later closes file = closed_changes spec run.opened old new _ file closes.1.leaves

pub close_changes : (spec : ChannelSpec) (stage : ChannelStage) (state : ChannelState) (time : ℕ) (dump : Option (List ℕ)) (old new : Seen) (faults later : ℕ) → ClosesFile (drained_run stage) stage state time dump old new faults later
    → IsLastOpen old spec (written_run stage) → ChangesRun spec (channel_run stage) (written_run stage) (files_by stage) (files_by stage) old new
close_changes spec Idle state time dump old new faults later closes file = closes.1
close_changes spec (Asking opened) state time dump old new faults later closes file = none_changed _ _ _ _ old new (omega arith) closes.1
close_changes spec (Writing opened begun) state time dump old new faults later closes file = none_changed _ _ _ _ old new (omega arith) closes.1
close_changes spec (Draining run) state time dump old new faults later closes file = none_changed _ _ _ _ old new (omega arith) closes.1
close_changes spec (Drained run) state time dump old new faults later closes file =
    let many : ℕ = run.opened.at.sub + 1 in
    changes_of (piece_name_by spec.pattern run.opened.run) many many many many run.opened old new refl refl (read_changes spec run state time dump old new faults later closes file)
close_changes spec (Broken run fallen) state time dump old new faults later closes file = none_changed _ _ _ _ old new (omega arith) closes.1

-- What is there stays there.

-- a name is one of the first, or none of them
among : (names : ℕ → List ℕ) (now : ℕ) (name : List ℕ) → ((n : ℕ) × (n < now) × (name ≡ names n)) ⊎ ((n : ℕ) → n < now → name ≢ names n)
among names zero name = inr (λ n below is. absurd (omega (arith, below)))
among names (suc k) name = elim (name_tells name (names k)) as (λ w. ((n : ℕ) × (n < suc k) × (name ≡ names n)) ⊎ ((n : ℕ) → n < suc k → name ≢ names n)) [
  | inl same ↦ inl (k, omega arith, same)
  | inr other ↦ elim (among names k name) as (λ w. ((n : ℕ) × (n < suc k) × (name ≡ names n)) ⊎ ((n : ℕ) → n < suc k → name ≢ names n)) [
    | inl found ↦ inl (found.0, (let below : found.0 < k = found.1 in omega (arith, below)), found.2)
    | inr apart ↦ inr (λ n below is. elim (leb_tells k n) as (λ w. ⊥) [
      | inl least ↦ (let most : k ≤ n = least.1 in let here : n ≡ k = omega (arith, most, below) in other (is ∙ ap names here))
      | inr less ↦ apart n less.1 is
    ])
  ]
]

there_kept : (names : ℕ → List ℕ) (before now : ℕ) (written : Option ChannelRun) (old new : Seen) → ChangesFiles names before now written old new → (IsTrue new.names → (n : ℕ) → n < now → IsSome (new.at (names n))) → KeepsThere old new
there_kept names before now written old new changes made = λ told name here. elim (among names now name) as (λ w. IsSome (new.at name)) [
  | inl found ↦ subst (λ (m : List ℕ). IsSome (new.at m)) (sym found.2) (made (changes.told ∙ told) found.0 found.1)
  | inr apart ↦ subst (λ (o : Option Stored). IsSome o) (sym (changes.others name apart)) here
]

same_there : (old new : Seen) → new ≡ old → KeepsThere old new
same_there old new same = rw same (λ told name here. here)

-- the run of one stage is that of the other, whichever file is written
pub same_run : (x y : Option ChannelRun) → option_map any_file x ≡ option_map any_file y → (r : ChannelRun) → y ≡ Some r → (v : ChannelRun) × (x ≡ Some v) × (v.run ≡ r.run)
same_run None None same r is = absurd (cc (is))
same_run None (Some s) same r is = absurd (cc (same))
same_run (Some v) None same r is = absurd (cc (is))
same_run (Some v) (Some s) same r is =
    let here : any_file v ≡ any_file s = cc (same) in
    let there : s ≡ r = cc (is) in
    (v, refl, ap (λ (x : ChannelRun). x.run) here ∙ ap (λ (x : ChannelRun). x.run) there)

pull_there : (p : PullOf) (client : Option ℕ) (head : FileHead) (run : Option ChannelRun) → channel_run p.stage ≡ run → ChangesRun p.spec run (written_run p.stage) (files_by p.stage) (files_by p.later_stage) p.files p.later_files → KeepsRun p.files p.stage p.later_stage
    → ChannelStands p.spec client p.later_stage head p.later_port.own p.later_port.got p.later_files → KeepsThere p.files p.later_files
pull_there p client head None is changes keeps stands = same_there p.files p.later_files changes
pull_there p client head (Some opened) is changes keeps stands =
    let later : (v : ChannelRun) × (channel_run p.later_stage ≡ Some v) × (v.run ≡ opened.run) = same_run (channel_run p.later_stage) (channel_run p.stage) keeps.run opened is in
    there_kept (piece_name_by p.spec.pattern opened.run) (files_by p.stage) (files_by p.later_stage) (written_run p.stage) p.files p.later_files changes (λ told n below.
    subst (λ (r : ℕ). IsSome (p.later_files.at (piece_name_by p.spec.pattern r n))) later.2 (made_there p.spec client p.later_stage head p.later_port.own p.later_port.got p.later_files stands later.0 later.1 told n below))

last_open : (spec : ChannelSpec) (seen : Seen) (written : Option ChannelRun) → ((r : ChannelRun) → written ≡ Some r → HasLastOpen seen spec r) → IsLastOpen seen spec written
last_open spec seen None used = tt
last_open spec seen (Some r) used = used r refl

known_then : (spec : ChannelSpec) (stage : ChannelStage) (old new : Seen) → new.names ≡ old.names → KeepsThere old new → KnowsTaken old spec stage → KnowsTaken new spec stage
known_then spec stage old new tells there known = λ o is taken told. (let before : IsTrue old.names = sym tells ∙ told in there before _ (known o is taken before))

pub run_tells : (spec : ChannelSpec) (run written : Option ChannelRun) (before now : ℕ) (old new : Seen) → ChangesRun spec run written before now old new → new.names ≡ old.names
run_tells spec None written before now old new changes = ap (λ (s : Seen). s.names) changes
run_tells spec (Some opened) written before now old new changes = changes.told

pub pull_knows : (p : PullOf) (room : ℕ) (client : Option ℕ) (head : FileHead) → Pulls p room → head.dump ≡ p.dump → ChannelStands p.spec client p.stage head p.port.own p.port.got p.files
    → KeepsThere p.files p.later_files × (KnowsTaken p.files p.spec p.stage → KnowsTaken p.later_files p.spec p.later_stage)
pull_knows p room client head pulls is stands =
    let file : IsLastOpen p.files p.spec (written_run p.stage) = last_open p.spec p.files (written_run p.stage) (last_used p.spec client p.stage head p.port.own p.port.got p.files stands) in
    let changes = pull_changes p room pulls file in
    let there : KeepsThere p.files p.later_files = pull_there p client head (channel_run p.stage) refl changes.0 changes.1 (pull_kept p room client head pulls is stands) in
    (there, λ known. known_then p.spec p.later_stage p.files p.later_files (run_tells p.spec (channel_run p.stage) (written_run p.stage) _ _ p.files p.later_files changes.0) there (pull_known p room pulls known))

-- each file of the run that was read is there
read_there : (spec : ChannelSpec) (head : FileHead) (run : BegunRun) (state : ChannelState) (time : ℕ) (dump : Option (List ℕ)) (own : List BufferEntry) (got : List GotEvent) (seen : Seen) → HasLeft (Some run) (end_of (Drained run) state) spec head time dump own got seen → IsTrue seen.names
    → (n : ℕ) → n < run.opened.at.sub + 1 → IsSome (seen.at (piece_name_by spec.pattern run.opened.run n))
read_there spec head run IsBroken time dump own got seen has told n below =
    let there : IsSome (seen.at (piece_name_by spec.pattern head.run n)) = elim has.reads as (λ w. IsSome (seen.at (piece_name_by spec.pattern head.run n))) [
      | inl part ↦ fallen_there seen (series_at spec head) _ [] has.events n part.1 told below
      | inr whole ↦ fallen_there seen (series_at spec head) _ (last_bytes run.opened.run run.ended time dump) has.events n whole.1 told below
    ] in
    subst (λ (r : ℕ). IsSome (seen.at (piece_name_by spec.pattern r n))) has.number there
read_there spec head run state time dump own got seen has told n below =
    subst (λ (r : ℕ). IsSome (seen.at (piece_name_by spec.pattern r n))) has.number (run_there seen (series_at spec head) (run.opened.at.sub + 1) run.opened.at.taken (last_bytes run.opened.run run.ended time dump) has.events n has.stored told below)

pub close_there : (spec : ChannelSpec) (client : Option ℕ) (stage : ChannelStage) (state : ChannelState) (time : ℕ) (dump : Option (List ℕ)) (head : FileHead) (own : List BufferEntry) (got : List GotEvent) (old new : Seen) (faults later : ℕ)
    → ClosesFile (drained_run stage) stage state time dump old new faults later → ChannelStands spec client stage head own got old → KeepsThere old new
close_there spec client (Drained run) state time dump head own got old new faults later closes stands =
    let many : ℕ = run.opened.at.sub + 1 in
    let changes : ChangesFiles (piece_name_by spec.pattern run.opened.run) many many (Some run.opened) old new = close_changes spec (Drained run) state time dump old new faults later closes (last_used spec client (Drained run) head own got old stands run.opened refl) in
    there_kept (piece_name_by spec.pattern run.opened.run) many many (Some run.opened) old new changes
    (read_there spec head run state time dump own got new (left_by spec client (Drained run) state time dump head own got old new faults later closes stands))
close_there spec client stage state time dump head own got old new faults later closes stands = same_there old new closes.1

-- Opening a run.

refused_changes : (spec : ChannelSpec) (name : List ℕ) (why : Why) (a b : ChannelAt) → RefusesRun why spec name a b → OpensRunFile name a.files b.files
refused_changes spec name NotReady a b refuses = absurd refuses
refused_changes spec name (Exists channel) a b refuses = record {
  touches = record { names = refuses.2.files.names; others = λ other ne. refuses.2.files.at other };
  on = on_same refuses.2.files.done;
  fresh = inr refuses.2.files.at;
  numbers = λ number used. refuses.2.numbers number;
}
refused_changes spec name (Fault channel) a b refuses = record { touches = refuses.2.touches; on = refuses.2.on; fresh = inl refuses.2.fresh; numbers = λ number used. refuses.2.numbers number }
refused_changes spec name BufferRefused a b refuses = record { touches = refuses.1.touches; on = refuses.1.on; fresh = inl refuses.1.fresh; numbers = λ number used. refuses.1.numbers number }

open_file_changes : (spec : ChannelSpec) (order : Order) (dump : List ℕ) (r : Result ⊤ Why) (a b : ChannelAt) → OpensBy r spec order dump a b → OpensRunFile (file_name_by spec.pattern order.run) a.files b.files
open_file_changes spec order dump (Ok done) a b opens = record {
  touches = opens.makes.touches;
  on = on_same opens.makes.done;
  fresh = inl opens.makes.fresh;
  numbers = λ number used. opens.makes.others number (λ same.
      let never : true ≡ false = sym used ∙ (subst (λ (k : ℕ). a.files.writes k ≡ false) (sym same) opens.makes.was_free.writes) in cc (never));
}
open_file_changes spec order dump (Err why) a b opens = refused_changes spec (file_name_by spec.pattern order.run) why a b opens.1

opened_there : (name : List ℕ) (old new : Seen) → OpensRunFile name old new → KeepsThere old new
opened_there name old new opens = λ told other here. elim opens.fresh as (λ w. IsSome (new.at other)) [
  | inl gone ↦ elim (name_tells other name) as (λ w. IsSome (new.at other)) [
    | inl same ↦ absurd (not_gone (old.at other) here (subst (λ (m : List ℕ). old.at m ≡ None) (sym same) (gone told)))
    | inr ne ↦ subst (λ (o : Option Stored). IsSome o) (sym (opens.touches.others other ne)) here
  ]
  | inr same ↦ subst (λ (o : Option Stored). IsSome o) (sym (same other)) here
]

pub open_changes : (spec : ChannelSpec) (order : Order) (dump : List ℕ) (r : Result ⊤ Why) (a b : ChannelAt) → OpensBy r spec order dump a b → OpensRunFile (file_name_by spec.pattern order.run) a.files b.files × KeepsThere a.files b.files
open_changes spec order dump r a b opens =
    let changes : OpensRunFile (file_name_by spec.pattern order.run) a.files b.files = open_file_changes spec order dump r a b opens in
    (changes, opened_there (file_name_by spec.pattern order.run) a.files b.files changes)

pub opening_kept : (spec : ChannelSpec) (order : Order) (dump : List ℕ) (r : Result ⊤ Why) (a b : ChannelAt) (head : FileHead) → OpensBy r spec order dump a b → a.stage ≡ Idle → length dump ≤ record_limit → GivesEachOnce b.port.own
    → ChannelStands spec a.client a.stage head a.port.own a.port.got a.files
    → OnOk r (ChannelStands spec b.client b.stage (order_head order dump) b.port.own b.port.got b.files) × OnErr r (ChannelStands spec b.client b.stage head b.port.own b.port.got b.files)
opening_kept spec order dump (Ok done) a b head opens idle small once stands = (opened_kept spec order dump (Ok done) a b opens idle small head once stands, tt)
opening_kept spec order dump (Err why) a b head opens idle small once stands = (tt, not_opened_kept spec order dump (Err why) a b opens idle head once stands)
