-- What one channel of a buffer does leaves what another keeps.
use Rattle.std.specs.Prelude.{◌≡◌, ◌≢◌, ◌⊎◌, ◌<◌, ◌≤◌, ℕ, nat_lt, Bool, true, false, IsTrue, List, [], Option, Some, None, Result, refl, ⊤}
use Rattle.std.proofs.Common.{ap, sym, subst, ◌∙◌, inl, inr}
use Rattle.std.proofs.lemmas.Bool.Decides.{leb_tells}
use Rattle.daq_types.specs.declared.events.Event.{Event}
use Rattle.daq_types.specs.declared.runs.ChannelState.{ChannelState}
use Rattle.daq_io.specs.Seen.{Seen, GoesOn, Touches, KeepsNumber}
use Rattle.daq_io.proofs.SeenLaws.{KeepsNumber-refl, on_same}
use Rattle.buffer_core.specs.declared.replies.Received.{Received}
use Rattle.buffer_core.specs.declared.replies.Received.TheVariants.{Got, Empty, NoClient, SmallBuf}
use Rattle.buffer_core.specs.declared.replies.RequestRefusal.{RequestRefusal}
use Rattle.buffer_core.specs.declared.entry.BufferEntry.{BufferEntry}
use Rattle.buffer_core.specs.declared.entry.BufferEntry.TheVariants.{Receive, Cancel}
use Rattle.buffer_core.specs.Ports.{Access, GotEvent, Receives}
use Rattle.member_model.specs.OwnCalls.{calls_after, gave_number}
use Rattle.sub_files.specs.Patterns.{piece_name_by}
use Rattle.mid_logger.specs.declared.channel_spec.ChannelSpec.{ChannelSpec}
use Rattle.mid_logger.specs.declared.pulled.Pulled.{Pulled}
use Rattle.mid_logger.specs.declared.stage.BegunRun.{BegunRun}
use Rattle.mid_logger.specs.declared.stage.ChannelRun.{ChannelRun}
use Rattle.mid_logger.specs.declared.stage.ChannelStage.{ChannelStage}
use Rattle.mid_logger.specs.declared.stage.ChannelStage.TheVariants.{Idle, Asking, Writing, Draining, Drained, Broken}
use Rattle.mid_logger.specs.Channels.{FileHead, IsOwnClient, ChannelStands, CancelsRequest, IsLastOpen, channel_run, written_run, files_by, run_begun, reading_run, is_behind_end}
use Rattle.mid_logger.specs.Pulls.{PullOf, LeavesAll, TakesBy, drains_at_none, FindsNone, TakesReply, PullsOnce, PullsIn, Pulls}
use Rattle.mid_logger.specs.ChannelTurns.{asking_run, drained_run}
use Rattle.mid_logger.specs.ChannelEnds.{CancelsStanding, RemovesRun, ClosesFile}
use Rattle.mid_logger.specs.Keeping.{ChangesRun, KeepsRun}
use Rattle.mid_logger.specs.Beside.{LeavesClient, LeavesNumber, LeavesRunFiles, LeavesChannelFiles, ChannelsApart}
use Rattle.mid_logger.proofs.OwnSteps.{client_stays_own, given_by_reply, got_after_is, given_named}
use Rattle.mid_logger.proofs.FileMoves.{not_free}
use Rattle.mid_logger.proofs.StageSteps.{leaves_run, calls_beside, call_beside, files_beside, made_there, last_used}
use Rattle.mid_logger.proofs.PullChanges.{pull_changes}
use Rattle.mid_logger.proofs.Keeping.{not_gone, abort_changes, close_changes, same_run, run_tells}

-- the other channel stands at this point
abbrev pub OtherAt : ChannelSpec → Option ℕ → ChannelStage → FileHead → Access → Seen → Type 0
OtherAt spec client stage head a seen = ChannelStands spec client stage head a.own a.got seen

-- Files.

number_left : (old new : Seen) (written : Option ChannelRun) → ((s : ChannelRun) → written ≡ Some s → KeepsNumber old new s.at.file) → LeavesNumber written old new
number_left old new None keeps = tt
number_left old new (Some s) keeps = keeps s refl

pub run_leaves : (spec : ChannelSpec) (old new : Seen) (run written : Option ChannelRun) (many : ℕ) → new.names ≡ old.names → GoesOn old new
    → ((s : ChannelRun) → run ≡ Some s → IsTrue old.names → (n : ℕ) → n < many → new.at (piece_name_by spec.pattern s.run n) ≡ old.at (piece_name_by spec.pattern s.run n))
    → ((s : ChannelRun) → written ≡ Some s → KeepsNumber old new s.at.file) → LeavesRunFiles spec run written many old new
run_leaves spec old new None written many names on at keeps = tt
run_leaves spec old new (Some s) written many names on at keeps = record { told = names; on = on; at = λ told n below. at s refl told n below; number = number_left old new written keeps }

-- at most the file of this name changed, and the number of the other run is kept
pub changed_beside : (other : ChannelSpec) (other_client : Option ℕ) (stage : ChannelStage) (head : FileHead) (own : List BufferEntry) (got : List GotEvent) (old new : Seen) (name : List ℕ) → Touches old new name → GoesOn old new
    → ((s : ChannelRun) → channel_run stage ≡ Some s → IsTrue old.names → (n : ℕ) → n < files_by stage → name ≢ piece_name_by other.pattern s.run n) → ((s : ChannelRun) → written_run stage ≡ Some s → KeepsNumber old new s.at.file)
    → ChannelStands other other_client stage head own got old → ChannelStands other other_client stage head own got new
changed_beside other other_client stage head own got old new name touches on names keeps stands =
    files_beside other other_client stage head own got old new stands
    (run_leaves other old new (channel_run stage) (written_run stage) (files_by stage) touches.names on (λ s is told n below. touches.others (piece_name_by other.pattern s.run n) (λ same. names s is told n below (sym same))) keeps)

-- a name of the one channel is none of the other: it was made by the one before, or is new
names_differ : (spec other : ChannelSpec) (client other_client : Option ℕ) (stage other_stage : ChannelStage) (other_head : FileHead) (own : List BufferEntry) (got : List GotEvent) (old : Seen) (now : ℕ) (r s : ChannelRun)
    → ChannelsApart old spec client stage other other_client other_stage → ChannelStands other other_client other_stage other_head own got old → channel_run stage ≡ Some r → channel_run other_stage ≡ Some s → IsTrue old.names
    → ((n : ℕ) → files_by stage ≤ n → n < now → old.at (piece_name_by spec.pattern r.run n) ≡ None) → (i j : ℕ) → i < now → j < files_by other_stage → piece_name_by spec.pattern r.run i ≢ piece_name_by other.pattern s.run j
names_differ spec other client other_client stage other_stage other_head own got old now r s apart stands is other_is told fresh i j below other_below = elim (leb_tells (files_by stage) i) as (λ w. piece_name_by spec.pattern r.run i ≢ piece_name_by other.pattern s.run j) [
  | inl least ↦ λ same. not_gone (old.at (piece_name_by other.pattern s.run j)) (made_there other other_client other_stage other_head own got old stands s other_is told j other_below)
      (subst (λ (name : List ℕ). old.at name ≡ None) same (fresh i least.1 below))
  | inr less ↦ apart.names r s is other_is told i j less.1 other_below
]

-- A change of the one channel's files leaves those of the other.
changed_leaves : (spec other : ChannelSpec) (client other_client : Option ℕ) (stage other_stage : ChannelStage) (other_head : FileHead) (own : List BufferEntry) (got : List GotEvent) (old new : Seen) (now : ℕ) (run : Option ChannelRun) → channel_run stage ≡ run
    → ChangesRun spec run (written_run stage) (files_by stage) now old new → ChannelsApart old spec client stage other other_client other_stage → ChannelStands other other_client other_stage other_head own got old → LeavesChannelFiles other other_stage old new
changed_leaves spec other client other_client stage other_stage other_head own got old new now None is changes apart stands =
    run_leaves other old new (channel_run other_stage) (written_run other_stage) (files_by other_stage) (ap (λ (x : Seen). x.names) changes) (on_same (ap (λ (x : Seen). x.done) changes))
    (λ s other_is told n below. ap (λ (x : Seen). x.at (piece_name_by other.pattern s.run n)) changes)
    (λ s other_is. rw changes (KeepsNumber-refl old s.at.file))
changed_leaves spec other client other_client stage other_stage other_head own got old new now (Some r) is changes apart stands =
    run_leaves other old new (channel_run other_stage) (written_run other_stage) (files_by other_stage) changes.told changes.on
    (λ s other_is told n below. changes.others (piece_name_by other.pattern s.run n) (λ k lower same.
    names_differ spec other client other_client stage other_stage other_head own got old now r s apart stands is other_is told (λ m least under. changes.fresh m least under told) k n lower below (sym same)))
    (λ s other_is. changes.numbers s.at.file (last_used other other_client other_stage other_head own got old stands s other_is).writes (λ w written same. apart.numbers w s written other_is (sym same)))

-- so the other channel stands
channel_beside : (spec other : ChannelSpec) (client other_client : Option ℕ) (stage other_stage : ChannelStage) (other_head : FileHead) (own : List BufferEntry) (got : List GotEvent) (old new : Seen) (now : ℕ)
    → ChangesRun spec (channel_run stage) (written_run stage) (files_by stage) now old new → ChannelsApart old spec client stage other other_client other_stage → ChannelStands other other_client other_stage other_head own got old
    → ChannelStands other other_client other_stage other_head own got new
channel_beside spec other client other_client stage other_stage other_head own got old new now changes apart stands =
    files_beside other other_client other_stage other_head own got old new stands (changed_leaves spec other client other_client stage other_stage other_head own got old new now (channel_run stage) refl changes apart stands)

-- Calls.

leaves_cancel : (other_client : Option ℕ) (c number : ℕ) (reply : Result ⊤ RequestRefusal) → ((d : ℕ) → other_client ≡ Some d → c ≢ d) → LeavesClient other_client (Cancel c number reply)
leaves_cancel None c number reply apart = tt
leaves_cancel (Some d) c number reply apart = apart d refl

leaves_received : (other_client : Option ℕ) (c room : ℕ) (reply : Received) → ((d : ℕ) → other_client ≡ Some d → c ≢ d) → LeavesClient other_client (Receive c room reply)
leaves_received None c room reply apart = tt
leaves_received (Some d) c room reply apart = apart d refl

cancel_beside : (other : ChannelSpec) (other_client : Option ℕ) (stage : ChannelStage) (head : FileHead) (a b : Access) (seen : Seen) (opened : ChannelRun) → ((d : ℕ) → other_client ≡ Some d → opened.client ≢ d) → gave_number (calls_after [] a.own) opened.client ≡ true
    → CancelsRequest a b opened → OtherAt other other_client stage head a seen → OtherAt other other_client stage head b seen
cancel_beside other other_client stage head a b seen opened apart gave cancels stands =
    rw (cancels.1.own, cancels.1.got_is)
    (call_beside other other_client stage head a.own a.got seen (Cancel opened.client opened.request cancels.0) stands tt gave (leaves_cancel other_client opened.client opened.request cancels.0 apart)
    (leaves_run stage (Cancel opened.client opened.request cancels.0) tt) refl)

receive_beside : (other : ChannelSpec) (other_client : Option ℕ) (stage : ChannelStage) (head : FileHead) (a b : Access) (seen : Seen) (c room : ℕ) (reply : Received) (e : Event) → ((d : ℕ) → other_client ≡ Some d → c ≢ d) → gave_number (calls_after [] a.own) c ≡ true
    → Receives a b c room reply e → OtherAt other other_client stage head a seen → OtherAt other other_client stage head b seen
receive_beside other other_client stage head a b seen c room reply e apart gave receives stands =
    rw (receives.own, receives.got_is, got_after_is a.got c reply e)
    (calls_beside other other_client stage head a.own a.got seen (Receive c room reply) (given_by_reply c reply e) stands tt gave (leaves_received other_client c room reply apart)
    (leaves_run stage (Receive c room reply) tt) (given_named c room reply e))

-- A pull: what it calls on the port.

left_beside : (other : ChannelSpec) (other_client : Option ℕ) (stage : ChannelStage) (head : FileHead) (p : PullOf) (seen : Seen) (answer : Pulled) → LeavesAll p answer → OtherAt other other_client stage head p.port seen → OtherAt other other_client stage head p.later_port seen
left_beside other other_client stage head p seen answer leaves stands = rw leaves.port stands

-- the client of the run is another one, which an attach gave
record BesideRun (own : List BufferEntry) (opened : ChannelRun) (other_client : Option ℕ) : Type 0 where
  client : (d : ℕ) → other_client ≡ Some d → opened.client ≢ d
  gave : gave_number (calls_after [] own) opened.client ≡ true

taken_beside : (other : ChannelSpec) (other_client : Option ℕ) (stage : ChannelStage) (head : FileHead) (p : PullOf) (seen : Seen) (run : BegunRun) (place : ℕ) (e : Event) (behind early : Bool) → BesideRun p.port.own run.opened other_client → TakesBy behind early p run place e
    → OtherAt other other_client stage head p.port seen → OtherAt other other_client stage head p.later_port seen
taken_beside other other_client stage head p seen run place e true early beside taken stands = cancel_beside other other_client stage head p.port p.later_port seen run.opened beside.client beside.gave taken.port stands
taken_beside other other_client stage head p seen run place e false true beside taken stands = left_beside other other_client stage head p seen _ taken stands
taken_beside other other_client stage head p seen run place e false false beside taken stands = elim taken as (λ w. OtherAt other other_client stage head p.later_port seen) [
  | inl writes ↦ rw writes.port stands
  | inr breaks ↦ cancel_beside other other_client stage head p.port p.later_port seen run.opened beside.client beside.gave breaks.port stands
]

none_beside : (other : ChannelSpec) (other_client : Option ℕ) (stage : ChannelStage) (head : FileHead) (p : PullOf) (seen : Seen) (run : BegunRun) (drains : Bool) → BesideRun p.port.own run.opened other_client → FindsNone drains p run
    → OtherAt other other_client stage head p.port seen → OtherAt other other_client stage head p.later_port seen
none_beside other other_client stage head p seen run true beside found stands = cancel_beside other other_client stage head p.port p.later_port seen run.opened beside.client beside.gave found.port stands
none_beside other other_client stage head p seen run false beside found stands = left_beside other other_client stage head p seen _ found stands

reply_beside : (other : ChannelSpec) (other_client : Option ℕ) (stage : ChannelStage) (head : FileHead) (p : PullOf) (seen : Seen) (run : BegunRun) (reply : Received) (e : Event) → BesideRun p.port.own run.opened other_client → TakesReply p run reply e
    → OtherAt other other_client stage head p.port seen → OtherAt other other_client stage head p.later_port seen
reply_beside other other_client stage head p seen run (Got place start) e beside taken stands = taken_beside other other_client stage head p seen run place e (is_behind_end run.ended place) (nat_lt place run.begun) beside taken stands
reply_beside other other_client stage head p seen run (Empty gate last) e beside taken stands = none_beside other other_client stage head p seen run (drains_at_none p.stage) beside taken stands
reply_beside other other_client stage head p seen run NoClient e beside taken stands = left_beside other other_client stage head p seen _ taken stands
reply_beside other other_client stage head p seen run (SmallBuf need) e beside taken stands = absurd taken

run_beside : (other : ChannelSpec) (client other_client : Option ℕ) (stage : ChannelStage) (head : FileHead) (p : PullOf) (seen : Seen) (run : BegunRun) (room : ℕ) → client ≡ Some run.opened.client → IsOwnClient client p.port.own → ((c d : ℕ) → client ≡ Some c → other_client ≡ Some d → c ≢ d)
    → PullsOnce p run room → OtherAt other other_client stage head p.port seen → OtherAt other other_client stage head p.later_port seen
run_beside other client other_client stage head p seen run room of own_client apart pulls stands =
    let differ : (d : ℕ) → other_client ≡ Some d → run.opened.client ≢ d = λ d is. apart run.opened.client d of is in
    let gave : gave_number (calls_after [] p.port.own) run.opened.client ≡ true = subst (λ (c : Option ℕ). IsOwnClient c p.port.own) of own_client in
    let receive : BufferEntry = Receive run.opened.client room pulls.reply in
    let gave_then : gave_number (calls_after [] pulls.middle.own) run.opened.client ≡ true = rw pulls.received.own (client_stays_own p.port.own receive run.opened.client gave) in
    reply_beside other other_client stage head (record p { port = pulls.middle }) seen run pulls.reply pulls.event (record { client = differ; gave = gave_then }) pulls.taken
    (receive_beside other other_client stage head p.port pulls.middle seen run.opened.client room pulls.reply pulls.event differ gave pulls.received stands)

stage_beside : (other : ChannelSpec) (client other_client : Option ℕ) (other_stage : ChannelStage) (head other_head : FileHead) (p : PullOf) (seen : Seen) (room : ℕ) (stage : ChannelStage) → PullsIn (reading_run stage) p room
    → ChannelStands p.spec client stage head p.port.own p.port.got seen → ((c d : ℕ) → client ≡ Some c → other_client ≡ Some d → c ≢ d) → OtherAt other other_client other_stage other_head p.port seen
    → OtherAt other other_client other_stage other_head p.later_port seen
stage_beside other client other_client other_stage head other_head p seen room Idle pulls at apart stands = left_beside other other_client other_stage other_head p seen _ pulls stands
stage_beside other client other_client other_stage head other_head p seen room (Asking opened) pulls at apart stands = left_beside other other_client other_stage other_head p seen _ pulls stands
stage_beside other client other_client other_stage head other_head p seen room (Writing opened begun) pulls at apart stands = run_beside other client other_client other_stage other_head p seen (run_begun opened begun) room at.at.of at.own_client apart pulls stands
stage_beside other client other_client other_stage head other_head p seen room (Draining run) pulls at apart stands = run_beside other client other_client other_stage other_head p seen run room at.at.of at.own_client apart pulls stands
stage_beside other client other_client other_stage head other_head p seen room (Drained run) pulls at apart stands = left_beside other other_client other_stage other_head p seen _ pulls stands
stage_beside other client other_client other_stage head other_head p seen room (Broken run fallen) pulls at apart stands = left_beside other other_client other_stage other_head p seen _ pulls stands

-- Its files, and what is apart behind it.

run_fresh : (spec : ChannelSpec) (run written : Option ChannelRun) (before now : ℕ) (old new : Seen) (v : ChannelRun) → run ≡ Some v → ChangesRun spec run written before now old new → IsTrue old.names → (n : ℕ) → before ≤ n → n < now → old.at (piece_name_by spec.pattern v.run n) ≡ None
run_fresh spec None written before now old new v is changes told n least below = absurd (cc (is))
run_fresh spec (Some r) written before now old new v is changes told n least below =
    let same : r ≡ v = cc (is) in
    subst (λ (x : ChannelRun). old.at (piece_name_by spec.pattern x.run n) ≡ None) same (changes.fresh n least below told)

later_names : (p : PullOf) (other : ChannelSpec) (client other_client : Option ℕ) (other_stage : ChannelStage) (other_head : FileHead) (own : List BufferEntry) (got : List GotEvent) → ChangesRun p.spec (channel_run p.stage) (written_run p.stage) (files_by p.stage) (files_by p.later_stage) p.files p.later_files
    → KeepsRun p.files p.stage p.later_stage → ChannelsApart p.files p.spec client p.stage other other_client other_stage → ChannelStands other other_client other_stage other_head own got p.files
    → (r s : ChannelRun) → channel_run p.later_stage ≡ Some r → channel_run other_stage ≡ Some s → IsTrue p.later_files.names → (i j : ℕ) → i < files_by p.later_stage → j < files_by other_stage → piece_name_by p.spec.pattern r.run i ≢ piece_name_by other.pattern s.run j
later_names p other client other_client other_stage other_head own got changes keeps apart stands r s is other_is told i j below other_below =
    let before : (v : ChannelRun) × (channel_run p.stage ≡ Some v) × (v.run ≡ r.run) = same_run (channel_run p.stage) (channel_run p.later_stage) (sym keeps.run) r is in
    let told_before : IsTrue p.files.names = sym (run_tells p.spec (channel_run p.stage) (written_run p.stage) _ _ p.files p.later_files changes) ∙ told in
    subst (λ (n : ℕ). piece_name_by p.spec.pattern n i ≢ piece_name_by other.pattern s.run j) before.2
    (names_differ p.spec other client other_client p.stage other_stage other_head own got p.files (files_by p.later_stage) before.0 s apart stands before.1 other_is told_before
    (run_fresh p.spec (channel_run p.stage) (written_run p.stage) (files_by p.stage) (files_by p.later_stage) p.files p.later_files before.0 before.1 changes told_before) i j below other_below)

later_numbers : (p : PullOf) (other : ChannelSpec) (client other_client : Option ℕ) (other_stage : ChannelStage) (other_head : FileHead) (own : List BufferEntry) (got : List GotEvent) → KeepsRun p.files p.stage p.later_stage
    → ChannelsApart p.files p.spec client p.stage other other_client other_stage → ChannelStands other other_client other_stage other_head own got p.files
    → (r s : ChannelRun) → written_run p.later_stage ≡ Some r → written_run other_stage ≡ Some s → r.at.file ≢ s.at.file
later_numbers p other client other_client other_stage other_head own got keeps apart stands r s is other_is =
    let before : (v : ChannelRun) × (written_run p.stage ≡ Some v) × ((r.at.file ≡ v.at.file) ⊎ (p.files.writes r.at.file ≡ false)) = keeps.written r is in
    elim before.2 as (λ w. r.at.file ≢ s.at.file) [
      | inl same ↦ λ here. apart.numbers before.0 s before.1 other_is (sym same ∙ here)
      | inr free ↦ λ here. not_free p.files s.at.file r.at.file (last_used other other_client other_stage other_head own got p.files stands s other_is).writes free (sym here)
    ]

pub pulls_beside : (p : PullOf) (room : ℕ) (client : Option ℕ) (head : FileHead) (other : ChannelSpec) (other_client : Option ℕ) (other_stage : ChannelStage) (other_head : FileHead) → Pulls p room → IsLastOpen p.files p.spec (written_run p.stage)
    → ChannelStands p.spec client p.stage head p.port.own p.port.got p.files → ChannelsApart p.files p.spec client p.stage other other_client other_stage → OtherAt other other_client other_stage other_head p.port p.files
    → OtherAt other other_client other_stage other_head p.later_port p.later_files × ChannelsApart p.later_files p.spec client p.later_stage other other_client other_stage
pulls_beside p room client head other other_client other_stage other_head pulls file at apart stands =
    let changes = pull_changes p room pulls file in
    let called : OtherAt other other_client other_stage other_head p.later_port p.files = stage_beside other client other_client other_stage head other_head p p.files room p.stage pulls at apart.clients stands in (
      channel_beside p.spec other client other_client p.stage other_stage other_head p.later_port.own p.later_port.got p.files p.later_files (files_by p.later_stage) changes.0 apart called,
      record {
        clients = apart.clients;
        names = later_names p other client other_client other_stage other_head p.port.own p.port.got changes.0 changes.1 apart stands;
        numbers = later_numbers p other client other_client other_stage other_head p.port.own p.port.got changes.1 apart stands;
      },
    )

-- Calling off.

standing_beside : (spec other : ChannelSpec) (client other_client : Option ℕ) (stage other_stage : ChannelStage) (head other_head : FileHead) (a b : Access) (seen : Seen) → CancelsStanding (asking_run stage) a b → ChannelStands spec client stage head a.own a.got seen
    → ((c d : ℕ) → client ≡ Some c → other_client ≡ Some d → c ≢ d) → OtherAt other other_client other_stage other_head a seen → OtherAt other other_client other_stage other_head b seen
standing_beside spec other client other_client Idle other_stage head other_head a b seen cancels at apart stands = rw cancels stands
standing_beside spec other client other_client (Asking opened) other_stage head other_head a b seen cancels at apart stands =
    cancel_beside other other_client other_stage other_head a b seen opened (λ d is. apart opened.client d at.at.of is) (subst (λ (c : Option ℕ). IsOwnClient c a.own) at.at.of at.own_client) cancels stands
standing_beside spec other client other_client (Writing opened begun) other_stage head other_head a b seen cancels at apart stands =
    cancel_beside other other_client other_stage other_head a b seen opened (λ d is. apart opened.client d at.at.of is) (subst (λ (c : Option ℕ). IsOwnClient c a.own) at.at.of at.own_client) cancels stands
standing_beside spec other client other_client (Draining run) other_stage head other_head a b seen cancels at apart stands =
    cancel_beside other other_client other_stage other_head a b seen run.opened (λ d is. apart run.opened.client d at.at.of is) (subst (λ (c : Option ℕ). IsOwnClient c a.own) at.at.of at.own_client) cancels stands
standing_beside spec other client other_client (Drained run) other_stage head other_head a b seen cancels at apart stands = rw cancels stands
standing_beside spec other client other_client (Broken run fallen) other_stage head other_head a b seen cancels at apart stands = rw cancels stands

pub aborts_beside : (spec : ChannelSpec) (client : Option ℕ) (stage : ChannelStage) (head : FileHead) (other : ChannelSpec) (other_client : Option ℕ) (other_stage : ChannelStage) (other_head : FileHead) (a b : Access) (old new : Seen) (faults later : ℕ)
    → CancelsStanding (asking_run stage) a b → RemovesRun (channel_run stage) (written_run stage) spec (files_by stage) old new faults later → IsLastOpen old spec (written_run stage) → ChannelStands spec client stage head a.own a.got old
    → ChannelsApart old spec client stage other other_client other_stage → OtherAt other other_client other_stage other_head a old → OtherAt other other_client other_stage other_head b new
aborts_beside spec client stage head other other_client other_stage other_head a b old new faults later cancels removes file at apart stands =
    channel_beside spec other client other_client stage other_stage other_head b.own b.got old new (files_by stage) (abort_changes spec stage old new faults later removes file) apart
    (standing_beside spec other client other_client stage other_stage head other_head a b old cancels at apart.clients stands)

-- Ending the files.

pub closes_beside : (spec : ChannelSpec) (client : Option ℕ) (stage : ChannelStage) (state : ChannelState) (other : ChannelSpec) (other_client : Option ℕ) (other_stage : ChannelStage) (other_head : FileHead) (time : ℕ) (dump : Option (List ℕ)) (own : List BufferEntry) (got : List GotEvent)
    (old new : Seen) (faults later : ℕ) → ClosesFile (drained_run stage) stage state time dump old new faults later → IsLastOpen old spec (written_run stage) → ChannelsApart old spec client stage other other_client other_stage
    → ChannelStands other other_client other_stage other_head own got old → ChannelStands other other_client other_stage other_head own got new
closes_beside spec client stage state other other_client other_stage other_head time dump own got old new faults later closes file apart stands =
    channel_beside spec other client other_client stage other_stage other_head own got old new (files_by stage) (close_changes spec stage state time dump old new faults later closes file) apart stands
