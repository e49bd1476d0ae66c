-- What a channel keeps when it pulls.
use Rattle.std.specs.Prelude.{◌≡◌, ◌⊎◌, ℕ, nat_lt, Bool, true, false, List, [], ◌∷◌, ◌++◌, Option, Some, Result, refl, ⊤}
use Rattle.std.proofs.Common.{ap, sym, subst, ◌∙◌, inl, inr}
use Rattle.std.proofs.lemmas.Bool.{leb-true}
use Rattle.std.proofs.lemmas.List.{append-nil}
use Rattle.std.proofs.lemmas.List.Elements.{All-push}
use Rattle.daq_types.specs.declared.events.Event.{Event}
use Rattle.event.specs.Events.{encoding}
use Rattle.event.specs.RunFile.{IsFileEvent}
use Rattle.daq_io.specs.Seen.{Seen}
use Rattle.buffer_core.specs.declared.replies.Received.{Received}
use Rattle.buffer_core.specs.declared.replies.Received.TheVariants.{Got, Empty, NoClient, SmallBuf}
use Rattle.buffer_core.specs.declared.replies.RequestRefusal.{RequestRefusal}
use Rattle.buffer_core.specs.declared.entry.BufferEntry.{BufferEntry}
use Rattle.buffer_core.specs.declared.entry.BufferEntry.TheVariants.{Cancel, Receive}
use Rattle.buffer_core.specs.Ports.{Access, GotEvent, GivesSound, IsGiven}
use Rattle.member_model.specs.OwnCalls.{HasDrained, events_at}
use Rattle.mid_logger.specs.declared.channel_spec.ChannelSpec.{ChannelSpec}
use Rattle.mid_logger.specs.declared.pulled.Pulled.{Pulled}
use Rattle.mid_logger.specs.declared.stage.BegunRun.{BegunRun}
use Rattle.mid_logger.specs.declared.stage.ChannelRun.{ChannelRun}
use Rattle.mid_logger.specs.declared.stage.ChannelStage.{ChannelStage}
use Rattle.mid_logger.specs.declared.stage.ChannelStage.TheVariants.{Idle, Asking, Writing, Draining, Drained, Broken}
use Rattle.sub_files.specs.declared.open_file.Fallen.{Fallen}
use Rattle.sub_files.specs.declared.open_file.OpenFile.{OpenFile}
use Rattle.sub_files.specs.Pieces.{Series, HoldsRun, HasPart}
use Rattle.sub_files.proofs.NextEvent.{holds_next, part_next}
use Rattle.mid_logger.specs.Channels.{FileHead, KeepsOwnCalls, IsOwnClient, AsksNothing, FilesHold, FilesLeft, ReadsUntil, ReadingWith, StageWith, StandsWith, ChannelStands, run_writing, stage_at, is_in_run, is_behind_end, run_begun, reading_run, series_at, CancelsRequest}
use Rattle.mid_logger.specs.Pulls.{PullOf, LeavesAll, WritesEvent, BreaksChannel, TakesBy, drains_at_none, FindsNone, TakesReply, PullsOnce, PullsIn, Pulls, run_series}
use Rattle.mid_logger.proofs.OwnSteps.{own_push, own_client_push, given_by_reply, got_after_is}
use Rattle.mid_logger.proofs.ReadSteps.{received, in_run, before_run, behind_run, event_taken, event_left, asks_still, asks_no_more, drained, part_read, file_event}

-- A receive.

-- the channel behind a receive, whatever becomes of what was got
pub record ReceivedAt (spec : ChannelSpec) (client : Option ℕ) (run : BegunRun) (own : List BufferEntry) (got : List GotEvent) (events : List Event) : Type 0 where
  pub keeps : KeepsOwnCalls own
  pub own_client : IsOwnClient client own
  pub of : client ≡ Some run.opened.client
  pub reads : ReadsUntil run.ended own got run.opened.client spec.id spec.mask run.opened.request run.opened.start run.begun events

receive_kept : (Holds : ChannelRun → List Event → Type 0) (spec : ChannelSpec) (client : Option ℕ) (run : BegunRun) (own : List BufferEntry) (got : List GotEvent) (room : ℕ) (reply : Received) (e : Event) → KeepsOwnCalls own → IsOwnClient client own
    → (reading : ReadingWith Holds spec client run own got)
    → ReceivedAt spec client run (own ++ Receive run.opened.client room reply ∷ []) (got ++ given_by_reply run.opened.client reply e) (reading.events ++ events_at run.opened.client (is_in_run run.begun run.ended) (given_by_reply run.opened.client reply e))
receive_kept Holds spec client run own got room reply e keeps is_own reading = record {
  keeps = own_push own (Receive run.opened.client room reply) keeps tt (subst (λ (c : Option ℕ). IsOwnClient c own) reading.of is_own);
  own_client = own_client_push client own (Receive run.opened.client room reply) is_own;
  of = reading.of;
  reads = received run.ended own got run.opened.client spec.id spec.mask run.opened.request run.opened.start run.begun reading.events room reply e reading.reads;
}

-- A cancel behind it.

pub cancel_kept : (spec : ChannelSpec) (client : Option ℕ) (run : BegunRun) (own : List BufferEntry) (got : List GotEvent) (events : List Event) (reply : Result ⊤ RequestRefusal) → ReceivedAt spec client run own got events
    → KeepsOwnCalls (own ++ Cancel run.opened.client run.opened.request reply ∷ []) × IsOwnClient client (own ++ Cancel run.opened.client run.opened.request reply ∷ []) × AsksNothing client (own ++ Cancel run.opened.client run.opened.request reply ∷ [])
cancel_kept spec client run own got events reply at =
    let cancel : BufferEntry = Cancel run.opened.client run.opened.request reply in (
      own_push own cancel at.keeps tt (subst (λ (c : Option ℕ). IsOwnClient c own) at.of at.own_client),
      own_client_push client own cancel at.own_client,
      subst (λ (c : Option ℕ). AsksNothing c (own ++ cancel ∷ [])) (sym at.of)
          (asks_no_more own run.opened.client spec.id spec.mask run.opened.request reply (asks_still run.ended own got run.opened.client spec.id spec.mask run.opened.request run.opened.start run.begun events at.reads)),
    )

-- the request is cancelled and the files are left so
pub broken_kept : (Holds : ChannelRun → List Event → Type 0) (Left : ChannelRun → Fallen → List Event → Type 0) (spec : ChannelSpec) (client : Option ℕ) (run : BegunRun) (fallen : Fallen) (a b : Access) (events : List Event)
    → ReceivedAt spec client run a.own a.got events → CancelsRequest a b run.opened → Left run.opened fallen events → StandsWith Holds Left spec client (Broken run fallen) b.own b.got
broken_kept Holds Left spec client run fallen a b events now cancels left =
    let kept = cancel_kept spec client run a.own a.got events cancels.0 now in
    let cancel : BufferEntry = Cancel run.opened.client run.opened.request cancels.0 in
    let stands : StandsWith Holds Left spec client (Broken run fallen) (a.own ++ cancel ∷ []) a.got = record {
      port = kept.0;
      own_client = kept.1;
      at = record {
        events = events;
        of = now.of;
        nothing = kept.2;
        reads = part_read run.ended a.own a.got run.opened.client spec.id spec.mask run.opened.request run.opened.start run.begun events cancel now.reads;
        left = left;
      };
    } in
    rw (cancels.1.own, cancels.1.got_is) stands

-- the lists that a call made
abbrev pub StandsIn : (Holds : Seen → ChannelRun → List Event → Type 0) → (Left : Seen → ChannelRun → Fallen → List Event → Type 0) → ChannelSpec → Option ℕ → ChannelStage → Access → Seen → Type 0
StandsIn Holds Left spec client stage a seen = StandsWith (Holds seen) (Left seen) spec client stage a.own a.got

-- the client was drained by this reply
drain_kept : (Holds : ChannelRun → List Event → Type 0) (Left : ChannelRun → Fallen → List Event → Type 0) (spec : ChannelSpec) (client : Option ℕ) (run : BegunRun) (own : List BufferEntry) (got : List GotEvent) (room : ℕ) (reply : Received) (events : List Event) (middle later : Access)
    → middle.own ≡ own ++ Receive run.opened.client room reply ∷ [] → ReceivedAt spec client run (own ++ Receive run.opened.client room reply ∷ []) middle.got events
    → ((end : ℕ) → run.ended ≡ Some end → HasDrained end reply) → Holds run.opened events → CancelsRequest middle later run.opened → StandsWith Holds Left spec client (Drained run) later.own later.got
drain_kept Holds Left spec client run own got room reply events middle later own_is at over holds cancels =
    let receive : BufferEntry = Receive run.opened.client room reply in
    let cancel : BufferEntry = Cancel run.opened.client run.opened.request cancels.0 in
    let kept = cancel_kept spec client run (own ++ receive ∷ []) middle.got events cancels.0 at in
    let whole : later.own ≡ (own ++ receive ∷ []) ++ cancel ∷ [] = cancels.1.own ∙ ap (λ (es : List BufferEntry). es ++ cancel ∷ []) own_is in
    let stands : StandsWith Holds Left spec client (Drained run) ((own ++ receive ∷ []) ++ cancel ∷ []) middle.got = record {
      port = kept.0;
      own_client = kept.1;
      at = record {
        events = events;
        of = at.of;
        nothing = kept.2;
        reads = drained run.ended own middle.got run.opened.client spec.id spec.mask run.opened.request run.opened.start run.begun events room reply cancel over at.reads;
        holds = holds;
      };
    } in
    rw (whole, cancels.1.got_is) stands

-- What is done at the reply.

-- in this stage the channel reads this run, whichever of its files is written
pub record Reads (Holds : Seen → ChannelRun → List Event → Type 0) (Left : Seen → ChannelRun → Fallen → List Event → Type 0) (spec : ChannelSpec) (client : Option ℕ) (run : BegunRun) (stage : ChannelStage) : Type 0 where
  pub same : (own : List BufferEntry) → (got : List GotEvent) → (seen : Seen) → ReadingWith (Holds seen) spec client run own got → StageWith (Holds seen) (Left seen) spec client stage own got
  pub moved : (at : OpenFile) → (own : List BufferEntry) → (got : List GotEvent) → (seen : Seen) → ReadingWith (Holds seen) spec client (run_writing run at) own got → StageWith (Holds seen) (Left seen) spec client (stage_at stage at) own got

-- it is a pull of this channel, in a run of which each file begins with this dump
abbrev pub PullsAs : PullOf → ChannelSpec → (dump : List ℕ) → Type 0
PullsAs p spec dump = (p.spec ≡ spec) × (p.dump ≡ dump)

-- what is done with an event of the run keeps what the channel keeps
abbrev pub TakingKeeps : (Holds : Seen → ChannelRun → List Event → Type 0) → (Left : Seen → ChannelRun → Fallen → List Event → Type 0) → (dump : List ℕ) → ChannelSpec → Option ℕ → Type 0
TakingKeeps Holds Left dump spec client = (run : BegunRun) → (p : PullOf) → (place : ℕ) → (e : Event) → (events : List Event) → PullsAs p spec dump → IsGiven e → Reads Holds Left spec client run p.stage
    → ReceivedAt spec client run p.port.own p.port.got (events ++ e ∷ []) → Holds p.files run.opened events → WritesEvent p run place e ⊎ BreaksChannel p run e → StandsIn Holds Left spec client p.later_stage p.later_port p.later_files

left_kept : (Holds : Seen → ChannelRun → List Event → Type 0) (Left : Seen → ChannelRun → Fallen → List Event → Type 0) (spec : ChannelSpec) (client : Option ℕ) (run : BegunRun) (p : PullOf) (events : List Event) (answer : Pulled) → Reads Holds Left spec client run p.stage
    → ReceivedAt spec client run p.port.own p.port.got events → Holds p.files run.opened events → LeavesAll p answer → StandsIn Holds Left spec client p.later_stage p.later_port p.later_files
left_kept Holds Left spec client run p events answer back at holds leaves =
    let stands : StandsIn Holds Left spec client p.stage p.port p.files = record {
      port = at.keeps;
      own_client = at.own_client;
      at = back.same p.port.own p.port.got p.files (record { events = events; of = at.of; reads = at.reads; holds = holds });
    } in
    rw (leaves.stage, leaves.port, leaves.files) stands

taken_kept : (Holds : Seen → ChannelRun → List Event → Type 0) (Left : Seen → ChannelRun → Fallen → List Event → Type 0) (dump : List ℕ) (spec : ChannelSpec) (client : Option ℕ) (run : BegunRun) (p : PullOf) (own : List BufferEntry) (room place start : ℕ) (e : Event) (events : List Event) (behind early : Bool)
    → TakingKeeps Holds Left dump spec client → PullsAs p spec dump → IsGiven e → is_behind_end run.ended place ≡ behind → nat_lt place run.begun ≡ early → Reads Holds Left spec client run p.stage → p.port.own ≡ own ++ Receive run.opened.client room (Got place start) ∷ []
    → ReceivedAt spec client run p.port.own p.port.got (events ++ events_at run.opened.client (is_in_run run.begun run.ended) (given_by_reply run.opened.client (Got place start) e))
    → Holds p.files run.opened events → TakesBy behind early p run place e → StandsIn Holds Left spec client p.later_stage p.later_port p.later_files
taken_kept Holds Left dump spec client run p own room place start e events true early keeps fits given is_behind is_early back own_is at holds taken =
    let same = event_left run.opened.client place start (is_in_run run.begun run.ended) events e (behind_run run.ended run.begun place is_behind) in
    let later = drain_kept (Holds p.files) (Left p.files) spec client run own p.port.got room (Got place start) events p.port p.later_port own_is
    (subst (λ (es : List BufferEntry). ReceivedAt spec client run es p.port.got events) own_is (subst (λ (l : List Event). ReceivedAt spec client run p.port.own p.port.got l) same at))
    (λ end is. leb-true end place (subst (λ (o : Option ℕ). is_behind_end o place ≡ true) is is_behind)) holds taken.port in
    rw (taken.stage, taken.files) later
taken_kept Holds Left dump spec client run p own room place start e events false true keeps fits given is_behind is_early back own_is at holds taken =
    let same = event_left run.opened.client place start (is_in_run run.begun run.ended) events e (before_run run.ended run.begun place is_early) in
    left_kept Holds Left spec client run p events _ back (subst (λ (l : List Event). ReceivedAt spec client run p.port.own p.port.got l) same at) holds taken
taken_kept Holds Left dump spec client run p own room place start e events false false keeps fits given is_behind is_early back own_is at holds taken =
    let more = event_taken run.opened.client place start (is_in_run run.begun run.ended) events e (in_run run.ended run.begun place is_behind is_early) in
    keeps run p place e events fits given back (subst (λ (l : List Event). ReceivedAt spec client run p.port.own p.port.got l) more at) holds taken

none_kept : (Holds : Seen → ChannelRun → List Event → Type 0) (Left : Seen → ChannelRun → Fallen → List Event → Type 0) (spec : ChannelSpec) (client : Option ℕ) (run : BegunRun) (p : PullOf) (own : List BufferEntry) (room : ℕ) (reply : Received) (events : List Event) (drains : Bool) → Reads Holds Left spec client run p.stage
    → p.port.own ≡ own ++ Receive run.opened.client room reply ∷ [] → ((end : ℕ) → HasDrained end reply) → ReceivedAt spec client run p.port.own p.port.got events
    → Holds p.files run.opened events → FindsNone drains p run → StandsIn Holds Left spec client p.later_stage p.later_port p.later_files
none_kept Holds Left spec client run p own room reply events true back own_is over at holds found =
    let later = drain_kept (Holds p.files) (Left p.files) spec client run own p.port.got room reply events p.port p.later_port own_is
    (subst (λ (es : List BufferEntry). ReceivedAt spec client run es p.port.got events) own_is at) (λ end is. over end) holds found.port in
    rw (found.stage, found.files) later
none_kept Holds Left spec client run p own room reply events false back own_is over at holds found = left_kept Holds Left spec client run p events _ back at holds found

-- p is the pull from behind the receive on
reply_kept : (Holds : Seen → ChannelRun → List Event → Type 0) (Left : Seen → ChannelRun → Fallen → List Event → Type 0) (dump : List ℕ) (spec : ChannelSpec) (client : Option ℕ) (run : BegunRun) (p : PullOf) (own : List BufferEntry) (room : ℕ) (reply : Received) (e : Event) (events : List Event)
    → TakingKeeps Holds Left dump spec client → PullsAs p spec dump → Reads Holds Left spec client run p.stage → GivesSound reply e
    → p.port.own ≡ own ++ Receive run.opened.client room reply ∷ []
    → ReceivedAt spec client run p.port.own p.port.got (events ++ events_at run.opened.client (is_in_run run.begun run.ended) (given_by_reply run.opened.client reply e))
    → Holds p.files run.opened events → TakesReply p run reply e → StandsIn Holds Left spec client p.later_stage p.later_port p.later_files
reply_kept Holds Left dump spec client run p own room (Got place start) e events keeps fits back sound own_is at holds taken =
    taken_kept Holds Left dump spec client run p own room place start e events (is_behind_end run.ended place) (nat_lt place run.begun) keeps fits sound refl refl back own_is at holds taken
reply_kept Holds Left dump spec client run p own room (Empty gate last) e events keeps fits back sound own_is at holds taken =
    none_kept Holds Left spec client run p own room (Empty gate last) events (drains_at_none p.stage) back own_is (λ end. tt) (subst (λ (l : List Event). ReceivedAt spec client run p.port.own p.port.got l) (append-nil events) at) holds taken
reply_kept Holds Left dump spec client run p own room NoClient e events keeps fits back sound own_is at holds taken =
    left_kept Holds Left spec client run p events _ back (subst (λ (l : List Event). ReceivedAt spec client run p.port.own p.port.got l) (append-nil events) at) holds taken
reply_kept Holds Left dump spec client run p own room (SmallBuf need) e events keeps fits back sound own_is at holds taken = absurd taken

-- the pull from behind its receive on
abbrev behind_receive : PullOf → Access → PullOf
behind_receive p middle = record p { port = middle }

run_kept : (Holds : Seen → ChannelRun → List Event → Type 0) (Left : Seen → ChannelRun → Fallen → List Event → Type 0) (dump : List ℕ) (spec : ChannelSpec) (client : Option ℕ) (run : BegunRun) (p : PullOf) (room : ℕ)
    → TakingKeeps Holds Left dump spec client → PullsAs p spec dump → Reads Holds Left spec client run p.stage → KeepsOwnCalls p.port.own → IsOwnClient client p.port.own → ReadingWith (Holds p.files) spec client run p.port.own p.port.got
    → PullsOnce p run room → StandsIn Holds Left spec client p.later_stage p.later_port p.later_files
run_kept Holds Left dump spec client run p room keeps fits back keeps_own is_own reading pulls =
    let at = receive_kept (Holds p.files) spec client run p.port.own p.port.got room pulls.reply pulls.event keeps_own is_own reading in
    reply_kept Holds Left dump spec client run (behind_receive p pulls.middle) p.port.own room pulls.reply pulls.event reading.events keeps fits back pulls.sound pulls.received.own
    (rw (pulls.received.own, pulls.received.got_is, got_after_is p.port.got run.opened.client pulls.reply pulls.event) at) reading.holds pulls.taken

leaves_kept : (Holds : Seen → ChannelRun → List Event → Type 0) (Left : Seen → ChannelRun → Fallen → List Event → Type 0) (spec : ChannelSpec) (client : Option ℕ) (p : PullOf) (answer : Pulled) → StandsIn Holds Left spec client p.stage p.port p.files → LeavesAll p answer → StandsIn Holds Left spec client p.later_stage p.later_port p.later_files
leaves_kept Holds Left spec client p answer stands leaves = rw (leaves.stage, leaves.port, leaves.files) stands

reads_in : (Holds : Seen → ChannelRun → List Event → Type 0) (Left : Seen → ChannelRun → Fallen → List Event → Type 0) (spec : ChannelSpec) (client : Option ℕ) (run : BegunRun) (here stage : ChannelStage) → here ≡ stage → Reads Holds Left spec client run stage → Reads Holds Left spec client run here
reads_in Holds Left spec client run here stage is reads = rw is reads

stage_kept : (Holds : Seen → ChannelRun → List Event → Type 0) (Left : Seen → ChannelRun → Fallen → List Event → Type 0) (dump : List ℕ) (spec : ChannelSpec) (client : Option ℕ) (p : PullOf) (room : ℕ) (stage : ChannelStage)
    → TakingKeeps Holds Left dump spec client → PullsAs p spec dump → p.stage ≡ stage → PullsIn (reading_run stage) p room → StandsIn Holds Left spec client p.stage p.port p.files → StandsIn Holds Left spec client p.later_stage p.later_port p.later_files
stage_kept Holds Left dump spec client p room Idle keeps fits is pulls stands = leaves_kept Holds Left spec client p _ stands pulls
stage_kept Holds Left dump spec client p room (Asking opened) keeps fits is pulls stands = leaves_kept Holds Left spec client p _ stands pulls
stage_kept Holds Left dump spec client p room (Writing opened begun) keeps fits is pulls stands =
    run_kept Holds Left dump spec client (run_begun opened begun) p room keeps fits (reads_in Holds Left spec client (run_begun opened begun) p.stage (Writing opened begun) is (record { same = λ own got seen reading. reading; moved = λ at own got seen reading. reading }))
    stands.port stands.own_client (subst (λ (s : ChannelStage). StageWith (Holds p.files) (Left p.files) spec client s p.port.own p.port.got) is stands.at) pulls
stage_kept Holds Left dump spec client p room (Draining run) keeps fits is pulls stands =
    run_kept Holds Left dump spec client run p room keeps fits (reads_in Holds Left spec client run p.stage (Draining run) is (record { same = λ own got seen reading. reading; moved = λ at own got seen reading. reading }))
    stands.port stands.own_client (subst (λ (s : ChannelStage). StageWith (Holds p.files) (Left p.files) spec client s p.port.own p.port.got) is stands.at) pulls
stage_kept Holds Left dump spec client p room (Drained run) keeps fits is pulls stands = leaves_kept Holds Left spec client p _ stands pulls
stage_kept Holds Left dump spec client p room (Broken run fallen) keeps fits is pulls stands = leaves_kept Holds Left spec client p _ stands pulls

-- what a channel keeps before a pull it keeps behind it
pull_with : (Holds : Seen → ChannelRun → List Event → Type 0) (Left : Seen → ChannelRun → Fallen → List Event → Type 0) (dump : List ℕ) (spec : ChannelSpec) (client : Option ℕ) (p : PullOf) (room : ℕ) → TakingKeeps Holds Left dump spec client → PullsAs p spec dump
    → PullsIn (reading_run p.stage) p room → StandsIn Holds Left spec client p.stage p.port p.files → StandsIn Holds Left spec client p.later_stage p.later_port p.later_files
pull_with Holds Left dump spec client p room keeps fits pulls stands = stage_kept Holds Left dump spec client p room p.stage keeps fits refl pulls stands

-- By what the files hold.

-- the head and the open run name the same files
series_same : (spec : ChannelSpec) (head : FileHead) (opened : ChannelRun) (dump : List ℕ) → head.run ≡ opened.run → head.time ≡ opened.time → head.dump ≡ dump → series_at spec head ≡ run_series spec opened dump
series_same spec head opened dump run time same = rw (run, time, same) refl

event_kept : (spec : ChannelSpec) (client : Option ℕ) (head : FileHead) → TakingKeeps (FilesHold spec head) (FilesLeft spec head) head.dump spec client
event_kept spec client head = λ run p place e events fits given back now holds taken.
    let s : Series = run_series p.spec run.opened p.dump in
    let same : series_at spec head ≡ s =
    subst (λ (x : ChannelSpec). series_at spec head ≡ run_series x run.opened p.dump) (sym fits.0) (series_same spec head run.opened p.dump holds.run holds.time (sym fits.1)) in
    let before : HoldsRun p.files s run.opened.at events = subst (λ (x : Series). HoldsRun p.files x run.opened.at events) same holds.holds in
    elim taken as (λ w. StandsIn (FilesHold spec head) (FilesLeft spec head) spec client p.later_stage p.later_port p.later_files) [
      | inl writes ↦
          let after : HoldsRun p.later_files s writes.at (events ++ e ∷ []) = holds_next p.files p.later_files s run.opened.at writes.at (encoding e) events e refl writes.files before in
          let held : FilesHold spec head p.later_files (record run.opened { at = writes.at }) (events ++ e ∷ []) = record {
            run = holds.run;
            time = holds.time;
            fine = All-push IsFileEvent events e holds.fine (file_event e given);
            holds = subst (λ (x : Series). HoldsRun p.later_files x writes.at (events ++ e ∷ [])) (sym same) after;
          } in
          let stands : StandsIn (FilesHold spec head) (FilesLeft spec head) spec client (stage_at p.stage writes.at) p.port p.later_files = record {
            port = now.keeps;
            own_client = now.own_client;
            at = back.moved writes.at p.port.own p.port.got p.later_files (record { events = events ++ e ∷ []; of = now.of; reads = now.reads; holds = held });
          } in
          rw (writes.stage, writes.port) stands
      | inr breaks ↦
          let part : HasPart p.later_files s breaks.fallen [] (events ++ e ∷ []) = part_next p.files p.later_files s run.opened.at breaks.fallen (encoding e) events e refl breaks.files before in
          let left : FilesLeft spec head p.later_files run.opened breaks.fallen (events ++ e ∷ []) = record {
            run = holds.run;
            time = holds.time;
            fine = All-push IsFileEvent events e holds.fine (file_event e given);
            part = subst (λ (x : Series). HasPart p.later_files x breaks.fallen [] (events ++ e ∷ [])) (sym same) part;
          } in
          rw breaks.stage (broken_kept (FilesHold spec head p.later_files) (FilesLeft spec head p.later_files) spec client run breaks.fallen p.port p.later_port (events ++ e ∷ []) now breaks.port left)
    ]

pub pull_kept : (p : PullOf) (room : ℕ) (client : Option ℕ) (head : FileHead) → Pulls p room → head.dump ≡ p.dump → ChannelStands p.spec client p.stage head p.port.own p.port.got p.files
    → ChannelStands p.spec client p.later_stage head p.later_port.own p.later_port.got p.later_files
pull_kept p room client head pulls is stands = pull_with (FilesHold p.spec head) (FilesLeft p.spec head) head.dump p.spec client p room (event_kept p.spec client head) (refl, sym is) pulls stands
