-- What a pull of one channel is to the others.
use Rattle.std.specs.Prelude.{◌≡◌, ◌≢◌, ◌<◌, ◌+◌, ℕ, Bool, true, false, nat_lt, IsTrue, IsSome, List, [], length, slice_get, ◌∷◌, ◌++◌, Option, Some, None, Ok, Err, ⊤, refl}
use Rattle.std.specs.Option.{option_map}
use Rattle.std.proofs.Common.{ap, sym, subst, ◌∙◌, append_assoc, inl, inr}
use Rattle.std.proofs.lemmas.List.{append-nil}
use Rattle.daq_types.specs.declared.events.Event.{Event}
use Rattle.daq_io.specs.Seen.{GoesOn, Seen, Stored}
use Rattle.daq_io.proofs.SeenLaws.{on_same}
use Rattle.buffer_core.specs.declared.entry.BufferEntry.{BufferEntry}
use Rattle.buffer_core.specs.declared.entry.BufferEntry.TheVariants.{Receive, Cancel, Begin, End}
use Rattle.buffer_core.specs.declared.replies.Received.{Received}
use Rattle.buffer_core.specs.declared.replies.Received.TheVariants.{Got, Empty, NoClient, SmallBuf}
use Rattle.buffer_core.specs.Ports.{Access, GotEvent, got_after}
use Rattle.buffer_core.specs.Slots.{slot_at}
use Rattle.member_model.specs.Turns.{MemberTurn}
use Rattle.member_model.specs.SentCalls.{EachCall}
use Rattle.member_model.specs.CutRuns.{MarksEnd, RefusesEnd}
use Rattle.member_model.specs.EndedRuns.{EndsBegun}
use Rattle.mid_logger.specs.declared.channel.Channel.{Channel}
use Rattle.mid_logger.specs.declared.channel_spec.ChannelSpec.{ChannelSpec}
use Rattle.mid_logger.specs.declared.pulled.Pulled.{Pulled}
use Rattle.mid_logger.specs.declared.stage.BegunRun.{BegunRun}
use Rattle.mid_logger.specs.declared.stage.ChannelRun.{ChannelRun}
use Rattle.mid_logger.specs.declared.stage.ChannelStage.{ChannelStage}
use Rattle.mid_logger.specs.declared.stage.ChannelStage.TheVariants.{Idle, Asking, Writing, Draining, Drained, Broken}
use Rattle.sub_files.specs.Patterns.{piece_name_by}
use Rattle.mid_logger.specs.Channels.{FileHead, KeepsOwnCalls, ChannelStands, IsLastOpen, KnowsTaken, CancelsRequest, channel_run, written_run, files_by as files_made, reading_run, is_behind_end}
use Rattle.mid_logger.specs.Pulls.{PullOf, TakesBy, FindsNone, TakesReply, PullsIn, Pulls, drains_at_none}
use Rattle.mid_logger.specs.Beside.{LeavesNumber, LeavesRunFiles, ChannelsApart, FilesBeside, PullsBeside, LeftBeside}
use Rattle.mid_logger.specs.Keeping.{ChangesRun, KeepsRun, FilesThere, PullsKeep, PullsChange, PullsKnow, any_file}
use Rattle.loggers.specs.Moments.{LoggerMoment, ChannelStep, StepsChannel, HaveNumbersApart, HaveFilesOpen, IsLoggerReady}
use Rattle.loggers.specs.ChannelSteps.{PullsChannel}
use Rattle.loggers.specs.LoggerStands.{IsEndReplied, IsEndedSo, IsEndTold, ChannelKept, PortKept, SlotsApart, SlotsStand}
use Rattle.loggers.proofs.SlotLists.{below_or_not, one_changed}
use Rattle.loggers.proofs.ReadySteps.{numbers_left, last_used, still_apart}
use Rattle.loggers.proofs.LoneCalls.{AreLone, pull_lone}
use Rattle.loggers.proofs.StoppedRuns.{there_is}
use Rattle.loggers.proofs.Moved.{Grows, Moves, moved}

-- Files of others.

pub number_left : (old new : Seen) (written : Option ChannelRun) → ((s : ChannelRun) → written ≡ Some s → LeavesNumber (Some s) old new) → LeavesNumber written old new
number_left old new None keeps = tt
number_left old new (Some s) keeps = keeps s refl

-- what is told of names stays told
pub tells_same : (spec : ChannelSpec) (run written : Option ChannelRun) (made now : ℕ) (old new : Seen) → ChangesRun spec run written made now old new → new.names ≡ old.names
tells_same spec None written made now old new changes = ap (λ (x : Seen). x.names) changes
tells_same spec (Some opened) written made now old new changes = changes.told

-- what was done before still stands
pub goes_on : (spec : ChannelSpec) (run written : Option ChannelRun) (made now : ℕ) (old new : Seen) → ChangesRun spec run written made now old new → GoesOn old new
goes_on spec None written made now old new changes = on_same (ap (λ (x : Seen). x.done) changes)
goes_on spec (Some opened) written made now old new changes = changes.on

-- where names are told, each file that the channel made in its run is there
abbrev pub IsThere : (seen : Seen) → Channel → Type 0
IsThere seen d = (s : ChannelRun) → channel_run d.stage ≡ Some s → IsTrue seen.names → (j : ℕ) → j < files_made d.stage → IsSome (seen.at (piece_name_by d.spec.pattern s.run j))

-- a name that had no file is none that is there
gone_apart : (seen : Seen) (name other : List ℕ) → seen.at name ≡ None → IsSome (seen.at other) → name ≢ other
gone_apart seen name other gone there same = let never : IsSome {T = Stored} None = subst (λ (o : Option Stored). IsSome o) (ap (λ (l : List ℕ). seen.at l) (sym same) ∙ gone) there in absurd (cc (never))

-- A file that is there, and is none of those that were made of this run before, is none of those that are made now.
pub not_changed : (spec : ChannelSpec) (run written : Option ChannelRun) (made now : ℕ) (old new : Seen) → ChangesRun spec run written made now old new → (r : ChannelRun) → run ≡ Some r → (name : List ℕ) → IsTrue old.names → IsSome (old.at name)
    → ((i : ℕ) → i < made → name ≢ piece_name_by spec.pattern r.run i) → (i : ℕ) → i < now → name ≢ piece_name_by spec.pattern r.run i
not_changed spec run written made now old new changes r is name told there apart i low = elim (below_or_not i made) as (λ w. name ≢ piece_name_by spec.pattern r.run i) [
  | inl below ↦ apart i below
  | inr above ↦ λ same.
      let changed : ChangesRun spec (Some r) written made now old new = subst (λ (o : Option ChannelRun). ChangesRun spec o written made now old new) is changes in
      gone_apart old (piece_name_by spec.pattern r.run i) name (changed.fresh i above low told) there (sym same)
]

-- a file stays that is none of those that are made of a run, where at most the files of that changed
pub file_left : (spec : ChannelSpec) (run written : Option ChannelRun) (made now : ℕ) (old new : Seen) → ChangesRun spec run written made now old new → (name : List ℕ) → ((r : ChannelRun) → run ≡ Some r → (i : ℕ) → i < now → name ≢ piece_name_by spec.pattern r.run i) → new.at name ≡ old.at name
file_left spec None written made now old new changes name apart = ap (λ (x : Seen). x.at name) changes
file_left spec (Some r) written made now old new changes name apart = changes.others name (apart r refl)

-- a run's files stay, where at most the files of another run changed
pub run_files_left : (spec : ChannelSpec) (run written : Option ChannelRun) (made now : ℕ) (other : ChannelSpec) (other_run other_written : Option ChannelRun) (many : ℕ) (old new : Seen) → ChangesRun spec run written made now old new
    → ((r s : ChannelRun) → run ≡ Some r → other_run ≡ Some s → IsTrue old.names → (i j : ℕ) → i < now → j < many → piece_name_by spec.pattern r.run i ≢ piece_name_by other.pattern s.run j)
    → ((s : ChannelRun) → other_written ≡ Some s → IsTrue (old.writes s.at.file)) → HaveNumbersApart written other_written → LeavesRunFiles other other_run other_written many old new
run_files_left spec run written made now other None other_written many old new changes names used numbers = tt
run_files_left spec run written made now other (Some s) other_written many old new changes names used numbers = record {
  told = tells_same spec run written made now old new changes;
  on = goes_on spec run written made now old new changes;
  at = λ told n below. file_left spec run written made now old new changes (piece_name_by other.pattern s.run n) (λ r is i low same. names r s is refl told i n low below (sym same));
  number = number_left old new other_written (λ k is. numbers_left spec run written other_written made now old new changes numbers k is (used k is));
}

-- Calls: none of a pull ends a run.

abbrev pub EndsNone : BufferEntry → Type 0
EndsNone (End start reply) = ⊥
EndsNone entry = ⊤

-- a port after more calls, none of which ends a run
pub record GrowsOn (x y : Access) : Type 0 where
  pub more : List BufferEntry
  pub given : List GotEvent
  pub own : y.own ≡ x.own ++ more
  pub got : y.got ≡ x.got ++ given
  pub quiet : EachCall EndsNone more

pub grows_same : (x y : Access) → y ≡ x → GrowsOn x y
grows_same x y same =
    let now : GrowsOn x x = record { more = []; given = []; own = sym (append-nil x.own); got = sym (append-nil x.got); quiet = tt } in
    subst (λ (z : Access). GrowsOn x z) (sym same) now

each_both : (P : BufferEntry → Type 0) (xs ys : List BufferEntry) → EachCall P xs → EachCall P ys → EachCall P (xs ++ ys)
each_both P [] ys first second = second
each_both P (x ∷ xs) ys first second = (first.0, each_both P xs ys first.1 second)

pub grows_both : (x y z : Access) → GrowsOn x y → GrowsOn y z → GrowsOn x z
grows_both x y z first second = record {
  more = first.more ++ second.more;
  given = first.given ++ second.given;
  own = second.own ∙ (ap (λ (l : List BufferEntry). l ++ second.more) first.own ∙ append_assoc x.own first.more second.more);
  got = second.got ∙ (ap (λ (l : List GotEvent). l ++ second.given) first.got ∙ append_assoc x.got first.given second.given);
  quiet = each_both EndsNone first.more second.more first.quiet second.quiet;
}

pub grows_cancel : (x y : Access) (opened : ChannelRun) → CancelsRequest x y opened → GrowsOn x y
grows_cancel x y opened cancels = record { more = Cancel opened.client opened.request cancels.0 ∷ []; given = []; own = cancels.1.own; got = cancels.1.got_is ∙ sym (append-nil x.got); quiet = (tt, tt) }

-- the event that a receive gave, if it gave one
abbrev given_now : (client : ℕ) → Received → Event → List GotEvent
given_now client (Got place start) e = record { client = client; place = place; start = start; event = e } ∷ []
given_now client reply e = []

given_is : (got : List GotEvent) (client : ℕ) (reply : Received) (e : Event) → got_after got client reply e ≡ got ++ given_now client reply e
given_is got client (Got place start) e = refl
given_is got client (Empty gate last) e = sym (append-nil got)
given_is got client NoClient e = sym (append-nil got)
given_is got client (SmallBuf need) e = sym (append-nil got)

takes_grows : (p : PullOf) (run : BegunRun) (place : ℕ) (e : Event) (behind early : Bool) → TakesBy behind early p run place e → GrowsOn p.port p.later_port
takes_grows p run place e true early takes = grows_cancel p.port p.later_port run.opened takes.port
takes_grows p run place e false true takes = grows_same p.port p.later_port takes.port
takes_grows p run place e false false takes = elim takes as (λ w. GrowsOn p.port p.later_port) [
  | inl writes ↦ grows_same p.port p.later_port writes.port
  | inr breaks ↦ grows_cancel p.port p.later_port run.opened breaks.port
]

none_grows : (p : PullOf) (run : BegunRun) (drains : Bool) → FindsNone drains p run → GrowsOn p.port p.later_port
none_grows p run true found = grows_cancel p.port p.later_port run.opened found.port
none_grows p run false found = grows_same p.port p.later_port found.port

reply_grows : (p : PullOf) (run : BegunRun) (reply : Received) (e : Event) → TakesReply p run reply e → GrowsOn p.port p.later_port
reply_grows p run (Got place start) e taken = takes_grows p run place e (is_behind_end run.ended place) (nat_lt place run.begun) taken
reply_grows p run (Empty gate last) e taken = none_grows p run (drains_at_none p.stage) taken
reply_grows p run NoClient e taken = grows_same p.port p.later_port taken.port
reply_grows p run (SmallBuf need) e taken = absurd taken

in_grows : (p : PullOf) (room : ℕ) (reads : Option BegunRun) → PullsIn reads p room → GrowsOn p.port p.later_port
in_grows p room None pulls = grows_same p.port p.later_port pulls.port
in_grows p room (Some run) pulls =
    let received : GrowsOn p.port pulls.middle = record {
      more = Receive run.opened.client room pulls.reply ∷ [];
      given = given_now run.opened.client pulls.reply pulls.event;
      own = pulls.received.own;
      got = pulls.received.got_is ∙ given_is p.port.got run.opened.client pulls.reply pulls.event;
      quiet = (tt, tt);
    } in
    grows_both p.port pulls.middle p.later_port received (reply_grows (record p { port = pulls.middle }) run pulls.reply pulls.event pulls.taken)

pub pull_grows : (p : PullOf) (room : ℕ) → Pulls p room → GrowsOn p.port p.later_port
pull_grows p room pulls = in_grows p room (reading_run p.stage) pulls

-- What such calls keep of the ends of runs.

in_nothing : (before : List BufferEntry) (e : BufferEntry) (after : List BufferEntry) → [] ≡ before ++ e ∷ after → ⊥
in_nothing [] e after is = cc (is)
in_nothing (x ∷ xs) e after is = cc (is)

no_end_in : (more : List BufferEntry) (start place : ℕ) (before after : List BufferEntry) → EachCall EndsNone more → more ≡ before ++ End start (Ok place) ∷ after → ⊥
no_end_in [] start place before after quiet is = in_nothing before (End start (Ok place)) after is
no_end_in (e ∷ es) start place [] after quiet is =
    let here : e ≡ End start (Ok place) = cc (is) in
    subst EndsNone here quiet.0
no_end_in (e ∷ es) start place (x ∷ xs) after quiet is =
    let rest : es ≡ xs ++ End start (Ok place) ∷ after = cc (is) in
    no_end_in es start place xs after quiet.1 rest

mark_in : (own more : List BufferEntry) (start place : ℕ) (before after : List BufferEntry) → EachCall EndsNone more → own ++ more ≡ before ++ End start (Ok place) ∷ after → MarksEnd own start place
mark_in [] more start place before after quiet is = absurd (no_end_in more start place before after quiet is)
mark_in (e ∷ es) more start place [] after quiet is =
    let here : e ≡ End start (Ok place) = cc (is) in
    record { before = []; after = es; is = ap (λ (x : BufferEntry). x ∷ es) here }
mark_in (e ∷ es) more start place (x ∷ xs) after quiet is =
    let rest : es ++ more ≡ xs ++ End start (Ok place) ∷ after = cc (is) in
    let inside : MarksEnd es start place = mark_in es more start place xs after quiet rest in
    record { before = e ∷ inside.before; after = inside.after; is = ap (λ (l : List BufferEntry). e ∷ l) inside.is }

-- a mark among calls that end in quiet ones is one of the former
pub mark_before : (own more : List BufferEntry) (start place : ℕ) → EachCall EndsNone more → MarksEnd (own ++ more) start place → MarksEnd own start place
mark_before own more start place quiet marks = mark_in own more start place marks.before marks.after quiet marks.is

pub mark_stays : (own more : List BufferEntry) (start place : ℕ) → MarksEnd own start place → MarksEnd (own ++ more) start place
mark_stays own more start place marks = record {
  before = marks.before;
  after = marks.after ++ more;
  is = ap (λ (l : List BufferEntry). l ++ more) marks.is ∙ append_assoc marks.before (End start (Ok place) ∷ marks.after) more;
}

pub refusal_stays : (own more : List BufferEntry) (start : ℕ) → RefusesEnd own start → RefusesEnd (own ++ more) start
refusal_stays own more start refuses = record {
  before = refuses.before;
  after = refuses.after ++ more;
  why = refuses.why;
  is = ap (λ (l : List BufferEntry). l ++ more) refuses.is ∙ append_assoc refuses.before (End start (Err refuses.why) ∷ refuses.after) more;
}

-- a run that was begun and called to end stays so when more calls follow
pub ends_begun_stays : (own more : List BufferEntry) (start : ℕ) → EndsBegun own start → EndsBegun (own ++ more) start
ends_begun_stays own more start e = record {
  begun = e.begun;
  reply = e.reply;
  before = e.before;
  running = e.running;
  after = e.after ++ more;
  is = ap (λ (l : List BufferEntry). l ++ more) e.is
      ∙ (append_assoc e.before (Begin start (Ok e.begun) ∷ (e.running ++ End start e.reply ∷ e.after)) more
      ∙ ap (λ (l : List BufferEntry). e.before ++ Begin start (Ok e.begun) ∷ l) (append_assoc e.running (End start e.reply ∷ e.after) more));
}

replied_stays : (own more : List BufferEntry) (start : ℕ) (ended : Option ℕ) → EachCall EndsNone more → IsEndReplied own start ended → IsEndReplied (own ++ more) start ended
replied_stays own more start None quiet so = (refusal_stays own more start so.0, λ place marks. so.1 place (mark_before own more start place quiet marks))
replied_stays own more start (Some place) quiet so = mark_stays own more start place so

pub ended_stays : (own more : List BufferEntry) (start : ℕ) (ended : Option ℕ) → EachCall EndsNone more → IsEndedSo own start ended → IsEndedSo (own ++ more) start ended
ended_stays own more start ended quiet so = (ends_begun_stays own more start so.0, replied_stays own more start ended quiet so.1)

pub grown_on : (x y : Access) → GrowsOn x y → Grows x y
grown_on x y grows = record {
  more = grows.more;
  given = grows.given;
  own = grows.own;
  got = grows.got;
  ended = λ start ended so. subst (λ (l : List BufferEntry). IsEndedSo l start ended) (sym grows.own) (ended_stays x.own grows.more start ended grows.quiet so);
}

told_quiet : (turns : List MemberTurn) (e : BufferEntry) → EndsNone e → IsEndTold turns e
told_quiet turns (End start reply) quiet = absurd quiet
told_quiet turns e quiet = tt

told_all : (turns : List MemberTurn) (es : List BufferEntry) → EachCall EndsNone es → EachCall (IsEndTold turns) es
told_all turns [] quiet = tt
told_all turns (e ∷ es) quiet = (told_quiet turns e quiet.0, told_all turns es quiet.1)

-- what a port keeps stands behind such calls, where they are such as a logger makes
pub port_grown : (turns : List MemberTurn) (x y : Access) → GrowsOn x y → KeepsOwnCalls y.own → (AreLone x → AreLone y) → PortKept turns x.own → PortKept turns y.own
port_grown turns x y grows calls lone kept = record {
  calls = calls;
  alone = lone kept.alone;
  told = subst (λ (l : List BufferEntry). EachCall (IsEndTold turns) l) (sym grows.own) (each_both (IsEndTold turns) x.own grows.more kept.told (told_all turns grows.more grows.quiet));
  once = λ are start m n first second. kept.once are start m n
      (mark_before x.own grows.more start m grows.quiet (subst (λ (l : List BufferEntry). MarksEnd l start m) grows.own first))
      (mark_before x.own grows.more start n grows.quiet (subst (λ (l : List BufferEntry). MarksEnd l start n) grows.own second));
}

-- The step.

-- the run behind a pull is that before it, whichever file is written
pub record RunBefore (before : ChannelStage) (r : ChannelRun) : Type 0 where
  pub v : ChannelRun
  pub is : channel_run before ≡ Some v
  pub same : any_file r ≡ any_file v

run_before : (before : ChannelStage) (found : Option ChannelRun) (later : ChannelStage) (r : ChannelRun) → channel_run before ≡ found → option_map any_file (channel_run later) ≡ option_map any_file found → channel_run later ≡ Some r → RunBefore before r
run_before before None later r found_is same is = absurd (let never : Some (any_file r) ≡ None = sym (ap (λ (o : Option ChannelRun). option_map any_file o) is) ∙ same in cc (never))
run_before before (Some v) later r found_is same is =
    let both : Some (any_file r) ≡ Some (any_file v) = sym (ap (λ (o : Option ChannelRun). option_map any_file o) is) ∙ same in
    record { v = v; is = found_is; same = cc (both) }

pub same_run_before : (old : Seen) (before later : ChannelStage) (r : ChannelRun) → KeepsRun old before later → channel_run later ≡ Some r → RunBefore before r
same_run_before old before later r keeps is = run_before before (channel_run before) later r refl keeps.run is

-- one channel of a buffer beside another, by what the logger keeps
pub apart_on : (seen : Seen) (c d : Channel) → c.spec.buffer ≡ d.spec.buffer → SlotsApart seen c d → ChannelsApart seen c.spec c.client c.stage d.spec d.client d.stage
apart_on seen c d same apart = record { clients = apart.clients same; names = apart.names; numbers = apart.numbers }

-- Behind a pull of another, a channel's files are apart from those that the pull made.
pulled_apart : (old new : Seen) (before after d : Channel) → new.names ≡ old.names → after.spec ≡ before.spec → after.client ≡ before.client → KeepsRun old before.stage after.stage
    → ChangesRun before.spec (channel_run before.stage) (written_run before.stage) (files_made before.stage) (files_made after.stage) old new → IsThere old d → ((s : ChannelRun) → written_run d.stage ≡ Some s → IsTrue (old.writes s.at.file)) → SlotsApart old before d → SlotsApart new after d
pulled_apart old new before after d tells spec client keeps changes there used apart = record {
  clients = λ same m n is other_is. apart.clients (ap (λ (s : ChannelSpec). s.buffer) (sym spec) ∙ same) m n (sym client ∙ is) other_is;
  names = λ r s is other_is told i j low below e.
      let told_before : IsTrue old.names = subst (λ (b : Bool). IsTrue b) tells told in
      let run : RunBefore before.stage r = same_run_before old before.stage after.stage r keeps is in
      let number : r.run ≡ run.v.run = ap (λ (x : ChannelRun). x.run) run.same in
      let name_is : piece_name_by d.spec.pattern s.run j ≡ piece_name_by before.spec.pattern run.v.run i = sym e ∙ (ap (λ (x : ChannelSpec). piece_name_by x.pattern r.run i) spec ∙ ap (λ (k : ℕ). piece_name_by before.spec.pattern k i) number) in
      not_changed before.spec (channel_run before.stage) (written_run before.stage) (files_made before.stage) (files_made after.stage) old new changes run.v run.is (piece_name_by d.spec.pattern s.run j) told_before (there s other_is told_before j below)
      (λ k made same. apart.names run.v s run.is other_is told_before k j made below (sym same)) i low name_is;
  numbers = still_apart old before after (written_run d.stage) keeps.written used apart.numbers;
}

-- The head of a channel's files has the dump of its run, or the channel has none, and any head is one for it.
record KeptWith (H : ChannelRun → FileHead → Type 0) (dump : List ℕ) (seen : Seen) (c : Channel) (port : Access) : Type 0 where
  head : FileHead
  same : head.dump ≡ dump
  stands : ChannelStands c.spec c.client c.stage head port.own port.got seen
  headed : (opened : ChannelRun) → channel_run c.stage ≡ Some opened → H opened head

-- the heads of runs are those of this dump, whichever file is written
pub record FitsDump (H : ChannelRun → FileHead → Type 0) (dump : List ℕ) : Type 0 where
  pub of : (opened : ChannelRun) → (head : FileHead) → H opened head → head.dump ≡ dump
  pub any : (r s : ChannelRun) → (head : FileHead) → any_file r ≡ any_file s → H s head → H r head

kept_with : (H : ChannelRun → FileHead → Type 0) (dump : List ℕ) (seen : Seen) (c : Channel) (port : Access) (stage : ChannelStage) → c.stage ≡ stage → FitsDump H dump → (kept : ChannelKept H seen c port) → KeptWith H dump seen c port
kept_with H dump seen c port Idle is fits kept =
    let head : FileHead = record { run = 0; time = 0; dump = dump } in
    let idle : ChannelStands c.spec c.client Idle kept.head port.own port.got seen = subst (λ (s : ChannelStage). ChannelStands c.spec c.client s kept.head port.own port.got seen) is kept.stands in
    let now : ChannelStands c.spec c.client Idle head port.own port.got seen = record { port = idle.port; own_client = idle.own_client; at = idle.at } in
    record {
      head = head;
      same = refl;
      stands = subst (λ (s : ChannelStage). ChannelStands c.spec c.client s head port.own port.got seen) (sym is) now;
      headed = λ opened run_is. absurd (let never : None ≡ Some opened = sym (ap (λ (s : ChannelStage). channel_run s) is) ∙ run_is in cc (never));
    }
kept_with H dump seen c port (Asking opened) is fits kept = record { head = kept.head; same = fits.of opened kept.head (kept.headed opened (ap (λ (s : ChannelStage). channel_run s) is)); stands = kept.stands; headed = kept.headed }
kept_with H dump seen c port (Writing opened begun) is fits kept = record { head = kept.head; same = fits.of opened kept.head (kept.headed opened (ap (λ (s : ChannelStage). channel_run s) is)); stands = kept.stands; headed = kept.headed }
kept_with H dump seen c port (Draining run) is fits kept = record { head = kept.head; same = fits.of run.opened kept.head (kept.headed run.opened (ap (λ (s : ChannelStage). channel_run s) is)); stands = kept.stands; headed = kept.headed }
kept_with H dump seen c port (Drained run) is fits kept = record { head = kept.head; same = fits.of run.opened kept.head (kept.headed run.opened (ap (λ (s : ChannelStage). channel_run s) is)); stands = kept.stands; headed = kept.headed }
kept_with H dump seen c port (Broken run fallen) is fits kept = record { head = kept.head; same = fits.of run.opened kept.head (kept.headed run.opened (ap (λ (s : ChannelStage). channel_run s) is)); stands = kept.stands; headed = kept.headed }

-- what is known of pulls
pub record PullLaws : Type 0 where
  pub left : LeftBeside
  pub keep : PullsKeep
  pub change : PullsChange
  pub know : PullsKnow
  pub beside : PullsBeside
  pub files : FilesBeside
  pub there : FilesThere

-- a pull, as a step among all channels
pub pull_moves : PullLaws → (H : ChannelRun → FileHead → Type 0) (turns : List MemberTurn) (dump : List ℕ) (answer : Pulled) (slots : List (Option Channel)) (n : ℕ) (s : ChannelStep) → FitsDump H dump → slot_at slots n ≡ Some s.before → HaveFilesOpen slots s.files.seen
    → ((m : ℕ) (d : Channel) → slot_at slots m ≡ Some d → IsThere s.files.seen d) → ((m : ℕ) (d : Channel) → m ≢ n → slot_at slots m ≡ Some d → SlotsApart s.files.seen s.before d) → ChannelKept H s.files.seen s.before s.port
    → PullsChannel dump answer s → Moves H turns slots n s.before s.after s.port s.later_port s.files.seen s.later_files.seen
pull_moves laws H turns dump answer slots n s fits there open_files is_there apart kept pulls =
    let old : Seen = s.files.seen in
    let new : Seen = s.later_files.seen in
    let before : Channel = s.before in
    let room : ℕ = before.event.room in
    let p : PullOf = record { spec = before.spec; dump = dump; stage = before.stage; later_stage = s.after.stage; port = s.port; later_port = s.later_port; files = old; later_files = new; answer = answer } in
    let file : IsLastOpen old before.spec (written_run before.stage) = open_files.files n before there in
    let changes = laws.change p room pulls.pulls file in
    let keeps : KeepsRun old before.stage s.after.stage = changes.1 in
    let tells : new.names ≡ old.names = tells_same before.spec (channel_run before.stage) (written_run before.stage) (files_made before.stage) (files_made s.after.stage) old new changes.0 in
    let grows : GrowsOn s.port s.later_port = pull_grows p room pulls.pulls in
    let used : (m : ℕ) (d : Channel) → slot_at slots m ≡ Some d → (o : ChannelRun) → written_run d.stage ≡ Some o → IsTrue (old.writes o.at.file) = λ m d stood o is. last_used d.spec old (written_run d.stage) (open_files.files m d stood) o is in
    let with : KeptWith H dump old before s.port = kept_with H dump old before s.port before.stage refl fits kept in
    let own_stands : ChannelStands s.after.spec s.after.client s.after.stage with.head s.later_port.own s.later_port.got new =
    rw (pulls.spec, pulls.client) (laws.keep p room before.client with.head pulls.pulls with.same with.stands) in
    record {
      spec = pulls.spec;
      client = λ k is. pulls.client ∙ is;
      names = tells;
      on = goes_on before.spec (channel_run before.stage) (written_run before.stage) (files_made before.stage) (files_made s.after.stage) old new changes.0;
      self = λ b. record { head = with.head; stands = own_stands; headed = λ opened is. let run : RunBefore before.stage opened = same_run_before old before.stage s.after.stage opened keeps is in fits.any opened run.v with.head run.same (with.headed run.v run.is) };
      beside = λ m d other stood same b k. record {
        head = k.head;
        stands = (laws.beside p room before.client b.head d.spec d.client d.stage k.head pulls.pulls file b.stands (apart_on old before d (sym same) (apart m d other stood)) k.stands).0;
        headed = k.headed;
      };
      elsewhere = λ m d a other stood k. record {
        head = k.head;
        stands = laws.files d.spec d.client d.stage k.head a.own a.got old new k.stands
            (run_files_left before.spec (channel_run before.stage) (written_run before.stage) (files_made before.stage) (files_made s.after.stage) d.spec (channel_run d.stage) (written_run d.stage) (files_made d.stage) old new changes.0
            (λ r q is other_is told i j low below same. not_changed before.spec (channel_run before.stage) (written_run before.stage) (files_made before.stage) (files_made s.after.stage) old new changes.0 r is (piece_name_by d.spec.pattern q.run j) told (is_there m d stood q other_is told j below)
            (λ k made e. (apart m d other stood).names r q is other_is told k j made below (sym e)) i low (sym same)) (used m d stood) (apart m d other stood).numbers);
        headed = k.headed;
      };
      apart = λ m d other stood was. pulled_apart old new before s.after d tells pulls.spec pulls.client keeps changes.0 (is_there m d stood) (used m d stood) was;
      calls = λ calls. port_grown turns s.port s.later_port grows own_stands.port (pull_lone p room pulls.pulls) calls;
      grows = grown_on s.port s.later_port grows;
      left = λ name told stays. (
        file_left before.spec (channel_run before.stage) (written_run before.stage) (files_made before.stage) (files_made s.after.stage) old new changes.0 name
            (λ r is. not_changed before.spec (channel_run before.stage) (written_run before.stage) (files_made before.stage) (files_made s.after.stage) old new changes.0 r is name told stays.there (λ i low. stays.apart n before r there is i low)),
        λ opened is j low same.
            let run : RunBefore before.stage opened = same_run_before old before.stage s.after.stage opened keeps is in
            let number : opened.run ≡ run.v.run = ap (λ (x : ChannelRun). x.run) run.same in
            not_changed before.spec (channel_run before.stage) (written_run before.stage) (files_made before.stage) (files_made s.after.stage) old new changes.0 run.v run.is name told stays.there (λ i below. stays.apart n before run.v there run.is i below) j low
            (same ∙ (ap (λ (x : ChannelSpec). piece_name_by x.pattern opened.run j) pulls.spec ∙ ap (λ (k : ℕ). piece_name_by before.spec.pattern k j) number)),
      );
    }

-- the files of each channel that stands are there
pub all_there : FilesThere → (H : ChannelRun → FileHead → Type 0) (turns : List MemberTurn) (slots : List (Option Channel)) (ports : List Access) (seen : Seen) → ((m : ℕ) (d : Channel) → slot_at slots m ≡ Some d → d.spec.buffer < length ports) → SlotsStand H turns slots ports seen
    → (m : ℕ) (d : Channel) → slot_at slots m ≡ Some d → IsThere seen d
all_there law H turns slots ports seen served stands m d stood s is told j below =
    let port : (x : Access) × (slice_get ports d.spec.buffer ≡ Some x) = there_is ports d.spec.buffer (served m d stood) in
    let k : ChannelKept H seen d port.0 = stands.channels m d port.0 stood port.1 in
    law d.spec d.client d.stage k.head port.0.own port.0.got seen k.stands s is told j below

-- what all channels keep before a pull of one of them they keep behind it
pub pull_stands : PullLaws → (H : ChannelRun → FileHead → Type 0) (turns : List MemberTurn) (dump : List ℕ) (answer : Pulled) (n : ℕ) (before : Channel) (a b : LoggerMoment) → FitsDump H dump → slot_at a.slots n ≡ Some before → IsLoggerReady a.slots a.ports a.files.seen
    → StepsChannel (PullsChannel dump answer) n before a b → SlotsStand H turns a.slots a.ports a.files.seen → SlotsStand H turns b.slots b.ports b.files.seen
pull_stands laws H turns dump answer n before a b fits there ready s stands =
    let step : ChannelStep = record { before = before; after = s.after; port = s.port; later_port = s.later_port; files = a.files; later_files = b.files } in
    let moves : Moves H turns a.slots n before s.after s.port s.later_port a.files.seen b.files.seen =
    pull_moves laws H turns dump answer a.slots n step fits there ready.files (all_there laws.there H turns a.slots a.ports a.files.seen ready.served stands)
    (λ m d other stood. stands.apart n m before d (λ same. other (sym same)) there stood) (stands.channels n before s.port there s.at_port) s.step in
    rw (s.slots, s.ports) (moved laws.left H turns a.slots a.ports n before s.after s.port s.later_port a.files.seen b.files.seen there s.at_port moves stands)

-- Behind a pull each channel knows which name it found taken: of another the file is there as before.
pub pull_knows : PullLaws → (H : ChannelRun → FileHead → Type 0) (turns : List MemberTurn) (dump : List ℕ) (answer : Pulled) (n : ℕ) (before : Channel) (a b : LoggerMoment) → FitsDump H dump → slot_at a.slots n ≡ Some before → StepsChannel (PullsChannel dump answer) n before a b
    → IsLoggerReady a.slots a.ports a.files.seen → SlotsStand H turns a.slots a.ports a.files.seen → ((m : ℕ) (c : Channel) → slot_at a.slots m ≡ Some c → KnowsTaken a.files.seen c.spec c.stage) → (m : ℕ) (c : Channel) → slot_at b.slots m ≡ Some c → KnowsTaken b.files.seen c.spec c.stage
pull_knows laws H turns dump answer n before a b fits there s ready stands knows =
    let old : Seen = a.files.seen in
    let new : Seen = b.files.seen in
    let p : PullOf = record { spec = before.spec; dump = dump; stage = before.stage; later_stage = s.after.stage; port = s.port; later_port = s.later_port; files = old; later_files = new; answer = answer } in
    let with : KeptWith H dump old before s.port = kept_with H dump old before s.port before.stage refl fits (stands.channels n before s.port there s.at_port) in
    let known = laws.know p before.event.room before.client with.head s.step.pulls with.same with.stands in
    let changes = laws.change p before.event.room s.step.pulls (ready.files.files n before there) in
    let tells : new.names ≡ old.names = tells_same before.spec (channel_run before.stage) (written_run before.stage) (files_made before.stage) (files_made s.after.stage) old new changes.0 in
    rw s.slots (one_changed (λ k c. KnowsTaken new c.spec c.stage) a.slots n s.after
    (λ x here. subst (λ (sp : ChannelSpec). KnowsTaken new sp s.after.stage) (sym s.step.spec) (known.1 (knows n before there)))
    (λ k c other here opened is taken told. let told_before : IsTrue old.names = subst (λ (t : Bool). IsTrue t) tells told in known.0 told_before (piece_name_by c.spec.pattern opened.run (opened.at.sub + 1)) (knows k c here opened is taken told_before)) before there)
