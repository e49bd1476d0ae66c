-- What a channel keeps at calls on its port that leave its client, and at changes of other files.
use Rattle.std.specs.Prelude.{◌≡◌, ◌≢◌, ◌<◌, ◌+◌, ℕ, nat_le, Bool, IsTrue, IsSome, List, [], ◌∷◌, ◌++◌, map, Option, Some, None, ◌⊎◌, Ok, refl, ⊤}
use Rattle.std.proofs.Common.{ap, sym, subst, ◌∙◌, inl, inr, append_assoc}
use Rattle.std.proofs.lemmas.Bool.Decides.{eqb_tells}
use Rattle.std.proofs.lemmas.List.{append-nil}
use Rattle.daq_types.specs.declared.events.Event.{Event}
use Rattle.daq_io.specs.Seen.{Seen}
use Rattle.buffer_core.specs.declared.replies.Received.TheVariants.{Got}
use Rattle.buffer_core.specs.declared.entry.BufferEntry.{BufferEntry}
use Rattle.buffer_core.specs.declared.entry.BufferEntry.TheVariants.{Receive, Begin, End}
use Rattle.buffer_core.specs.Ports.{GotEvent, name_of, name_given}
use Rattle.member_model.specs.OwnCalls.{calls_after, IsOwnCall, SendsNone, LeavesAsking, is_place_within, events_at}
use Rattle.member_model.specs.ReadRuns.{EndsNot, BeginsNot, IsReading, IsDraining}
use Rattle.member_model.specs.CutRuns.{HasReadOn, MarksEnd, HasCutRun}
use Rattle.member_model.proofs.ReadLaws.{asking_push, reading_push, draining_push, run_push}
use Rattle.mid_logger.specs.declared.channel_spec.ChannelSpec.{ChannelSpec}
use Rattle.mid_logger.specs.declared.stage.BegunRun.{BegunRun}
use Rattle.mid_logger.specs.declared.stage.ChannelRun.{ChannelRun}
use Rattle.mid_logger.specs.declared.stage.ChannelStage.{ChannelStage}
use Rattle.mid_logger.specs.declared.stage.ChannelStage.TheVariants.{Idle, Asking, Writing, Draining, Drained, Broken}
use Rattle.sub_files.specs.declared.open_file.Fallen.{Fallen}
use Rattle.sub_files.specs.Patterns.{piece_name_by}
use Rattle.mid_logger.specs.Channels.{FileHead, AsksNothing, FilesHold, FilesLeft, HasLastOpen, ReadsUntil, ReadingWith, HasReadUntil, HasReadPart, StageWith, StandsWith, ChannelStands, channel_run, written_run, files_by, run_begun, series_at}
use Rattle.mid_logger.specs.Beside.{LeavesClient, LeavesRunOn, LeavesFiles, LeavesChannelFiles}
use Rattle.mid_logger.proofs.OwnSteps.{own_push, own_client_push, nothing_push}
use Rattle.mid_logger.proofs.ReadSteps.{leaves_receive}
use Rattle.sub_files.proofs.FilesStay.{Stay, holds_stay, fallen_stay, holds_there, fallen_there}

-- a call that leaves the client, and gives it none of these events
pub record GoesBeside (client : ℕ) (e : BufferEntry) (gs : List GotEvent) : Type 0 where
  pub leaves : LeavesAsking client e
  pub named : name_given e ≡ map name_of gs
  pub none : (test : ℕ → Bool) → events_at client test gs ≡ []

leaves_asking : (client : ℕ) (e : BufferEntry) → LeavesClient (Some client) e → LeavesAsking client e
leaves_asking client (Receive c room reply) leaves = leaves_receive client room reply c
leaves_asking client e leaves = leaves

none_named : (gs : List GotEvent) → [] ≡ map name_of gs → (client : ℕ) (test : ℕ → Bool) → events_at client test gs ≡ []
none_named [] is client test = refl
none_named (g ∷ gs) is client test = absurd (cc (is))

one_named : (c place start : ℕ) (gs : List GotEvent) → (c, place, start) ∷ [] ≡ map name_of gs → (client : ℕ) → c ≢ client → (test : ℕ → Bool) → events_at client test gs ≡ []
one_named c place start [] is client other test = absurd (cc (is))
one_named c place start (g ∷ []) is client other test =
    let same : (c, place, start) ≡ name_of g = cc (is) in
    let named : c ≡ g.client = ap (λ (n : ℕ × ℕ × ℕ). n.0) same in
    elim (eqb_tells g.client client) as (λ w. events_at client test (g ∷ []) ≡ []) [
      | inl here ↦ absurd (other (named ∙ here.1))
      | inr apart ↦ rw apart.0 refl
    ]
one_named c place start (g ∷ (h ∷ gs)) is client other test = absurd (cc (is))

given_other : (client : ℕ) (e : BufferEntry) (gs : List GotEvent) → LeavesClient (Some client) e → name_given e ≡ map name_of gs → (test : ℕ → Bool) → events_at client test gs ≡ []
given_other client (Receive c room (Got place start)) gs leaves named test = one_named c place start gs named client leaves test
given_other client e gs leaves named test = none_named gs named client test

pub goes_beside : (client : ℕ) (e : BufferEntry) (gs : List GotEvent) → LeavesClient (Some client) e → name_given e ≡ map name_of gs → GoesBeside client e gs
goes_beside client e gs leaves named = record { leaves = leaves_asking client e leaves; named = named; none = given_other client e gs leaves named }

-- a call that neither begins nor ends a run
abbrev pub MarksNoRun : BufferEntry → Type 0
MarksNoRun (Begin start reply) = ⊥
MarksNoRun (End start reply) = ⊥
MarksNoRun e = ⊤

begins_not : (start : ℕ) (e : BufferEntry) → MarksNoRun e → BeginsNot start e
begins_not start (Begin s reply) none = absurd none
begins_not start e none = tt

ends_not : (start : ℕ) (e : BufferEntry) → MarksNoRun e → EndsNot start e
ends_not start (End s reply) none = absurd none
ends_not start e none = tt

pub leaves_run : (stage : ChannelStage) (e : BufferEntry) → MarksNoRun e → LeavesRunOn stage e
leaves_run (Asking opened) e none = begins_not opened.start e none
leaves_run (Writing opened begun) e none = ends_not opened.start e none
leaves_run (Draining run) e none = ends_not run.opened.start e none
leaves_run stage e none = tt

-- Reading goes on.

same_events : (events : List Event) {more : List Event} → more ≡ [] → events ++ more ≡ events
same_events events none = ap (λ (l : List Event). events ++ l) none ∙ append-nil events

pub reads_beside : (ended : Option ℕ) (own : List BufferEntry) (got : List GotEvent) (client id mask request start begun : ℕ) (events : List Event) (e : BufferEntry) (gs : List GotEvent) → GoesBeside client e gs → EndsNot start e
    → ReadsUntil ended own got client id mask request start begun events → ReadsUntil ended (own ++ e ∷ []) (got ++ gs) client id mask request start begun events
reads_beside None own got client id mask request start begun events e gs beside ends reads =
    subst (λ (es : List Event). IsReading (own ++ e ∷ []) (got ++ gs) client id mask request start begun es) (same_events events (beside.none (nat_le begun)))
    (reading_push own got client id mask request start begun events e gs reads beside.leaves ends beside.named)
reads_beside (Some end) own got client id mask request start begun events e gs beside ends reads =
    subst (λ (es : List Event). IsDraining (own ++ e ∷ []) (got ++ gs) client id mask request start begun end es) (same_events events (beside.none (is_place_within begun end)))
    (draining_push own got client id mask request start begun end events e gs reads beside.leaves beside.named)

pub on_push : (own : List BufferEntry) (got : List GotEvent) (client id mask request start begun : ℕ) (events : List Event) (more : List BufferEntry) (gs : List GotEvent) → HasReadOn own got client id mask request start begun events
    → HasReadOn (own ++ more) (got ++ gs) client id mask request start begun events
on_push own got client id mask request start begun events more gs has = record {
  calls = has.calls;
  later = has.later ++ more;
  got_by = has.got_by;
  got_later = has.got_later ++ gs;
  own_is = ap (λ (l : List BufferEntry). l ++ more) has.own_is ∙ append_assoc has.calls has.later more;
  got_is = ap (λ (l : List GotEvent). l ++ gs) has.got_is ∙ append_assoc has.got_by has.got_later gs;
  reads = has.reads;
}

marks_more : (calls more : List BufferEntry) (start ended : ℕ) → MarksEnd calls start ended → MarksEnd (calls ++ more) start ended
marks_more calls more start ended marks = record {
  before = marks.before;
  after = marks.after ++ more;
  is = ap (λ (l : List BufferEntry). l ++ more) marks.is ∙ append_assoc marks.before (End start (Ok ended) ∷ marks.after) more;
}

pub cut_push : (own : List BufferEntry) (got : List GotEvent) (client id mask request start begun ended : ℕ) (events : List Event) (more : List BufferEntry) (gs : List GotEvent) → HasCutRun own got client id mask request start begun ended events
    → HasCutRun (own ++ more) (got ++ gs) client id mask request start begun ended events
cut_push own got client id mask request start begun ended events more gs has = record {
  calls = has.calls;
  later = has.later ++ more;
  got_by = has.got_by;
  got_later = has.got_later ++ gs;
  own_is = ap (λ (l : List BufferEntry). l ++ more) has.own_is ∙ append_assoc has.calls has.later more;
  got_is = ap (λ (l : List GotEvent). l ++ gs) has.got_is ∙ append_assoc has.got_by has.got_later gs;
  stage = elim has.stage as (λ w. (IsReading has.calls has.got_by client id mask request start begun events × MarksEnd (has.later ++ more) start ended) ⊎ IsDraining has.calls has.got_by client id mask request start begun ended events) [
    | inl on ↦ inl (on.0, marks_more has.later more start ended on.1)
    | inr over ↦ inr over
  ];
}

until_push : (ended : Option ℕ) (own : List BufferEntry) (got : List GotEvent) (client id mask request start begun : ℕ) (events : List Event) (e : BufferEntry) (gs : List GotEvent)
    → HasReadUntil ended own got client id mask request start begun events → HasReadUntil ended (own ++ e ∷ []) (got ++ gs) client id mask request start begun events
until_push None own got client id mask request start begun events e gs has = on_push own got client id mask request start begun events (e ∷ []) gs has
until_push (Some end) own got client id mask request start begun events e gs has = run_push own got client id mask request start begun end events (e ∷ []) gs has

part_push : (ended : Option ℕ) (own : List BufferEntry) (got : List GotEvent) (client id mask request start begun : ℕ) (events : List Event) (e : BufferEntry) (gs : List GotEvent)
    → HasReadPart ended own got client id mask request start begun events → HasReadPart ended (own ++ e ∷ []) (got ++ gs) client id mask request start begun events
part_push None own got client id mask request start begun events e gs has = on_push own got client id mask request start begun events (e ∷ []) gs has
part_push (Some end) own got client id mask request start begun events e gs has = cut_push own got client id mask request start begun end events (e ∷ []) gs has

asks_beside : (client : Option ℕ) (own : List BufferEntry) (e : BufferEntry) → AsksNothing client own → LeavesClient client e → AsksNothing client (own ++ e ∷ [])
asks_beside None own e nothing leaves = tt
asks_beside (Some client) own e nothing leaves = nothing_push own client e nothing (leaves_asking client e leaves)

-- What a channel keeps.

beside_of : (client : Option ℕ) (c : ℕ) (e : BufferEntry) (gs : List GotEvent) → client ≡ Some c → LeavesClient client e → name_given e ≡ map name_of gs → GoesBeside c e gs
beside_of client c e gs of leaves named = goes_beside c e gs (subst (λ (o : Option ℕ). LeavesClient o e) of leaves) named

reading_beside : (Holds : ChannelRun → List Event → Type 0) (spec : ChannelSpec) (client : Option ℕ) (run : BegunRun) (own : List BufferEntry) (got : List GotEvent) (e : BufferEntry) (gs : List GotEvent) → LeavesClient client e → EndsNot run.opened.start e → name_given e ≡ map name_of gs
    → ReadingWith Holds spec client run own got → ReadingWith Holds spec client run (own ++ e ∷ []) (got ++ gs)
reading_beside Holds spec client run own got e gs leaves ends named at = record {
  events = at.events;
  of = at.of;
  reads = reads_beside run.ended own got run.opened.client spec.id spec.mask run.opened.request run.opened.start run.begun at.events e gs (beside_of client run.opened.client e gs at.of leaves named) ends at.reads;
  holds = at.holds;
}

stage_beside : (Holds : ChannelRun → List Event → Type 0) (Left : ChannelRun → Fallen → List Event → Type 0) (spec : ChannelSpec) (client : Option ℕ) (stage : ChannelStage) (own : List BufferEntry) (got : List GotEvent) (e : BufferEntry) (gs : List GotEvent) → LeavesClient client e → LeavesRunOn stage e → name_given e ≡ map name_of gs
    → StageWith Holds Left spec client stage own got → StageWith Holds Left spec client stage (own ++ e ∷ []) (got ++ gs)
stage_beside Holds Left spec client Idle own got e gs leaves ends named at = asks_beside client own e at leaves
stage_beside Holds Left spec client (Asking opened) own got e gs leaves ends named at = record {
  of = at.of;
  asking = asking_push own opened.client spec.id spec.mask opened.request opened.start e at.asking (beside_of client opened.client e gs at.of leaves named).leaves ends;
  holds = at.holds;
}
stage_beside Holds Left spec client (Writing opened begun) own got e gs leaves ends named at = reading_beside Holds spec client (run_begun opened begun) own got e gs leaves ends named at
stage_beside Holds Left spec client (Draining run) own got e gs leaves ends named at = reading_beside Holds spec client run own got e gs leaves ends named at
stage_beside Holds Left spec client (Drained run) own got e gs leaves ends named at = record {
  events = at.events;
  of = at.of;
  nothing = asks_beside client own e at.nothing leaves;
  reads = until_push run.ended own got run.opened.client spec.id spec.mask run.opened.request run.opened.start run.begun at.events e gs at.reads;
  holds = at.holds;
}
stage_beside Holds Left spec client (Broken run fallen) own got e gs leaves ends named at = record {
  events = at.events;
  of = at.of;
  nothing = asks_beside client own e at.nothing leaves;
  reads = part_push run.ended own got run.opened.client spec.id spec.mask run.opened.request run.opened.start run.begun at.events e gs at.reads;
  left = at.left;
}

-- whatever is said of the files
calls_with : (Holds : ChannelRun → List Event → Type 0) (Left : ChannelRun → Fallen → List Event → Type 0) (spec : ChannelSpec) (client : Option ℕ) (stage : ChannelStage) (own : List BufferEntry) (got : List GotEvent) (e : BufferEntry) (gs : List GotEvent) → StandsWith Holds Left spec client stage own got
    → SendsNone e → IsOwnCall e (calls_after [] own) → LeavesClient client e → LeavesRunOn stage e → name_given e ≡ map name_of gs → StandsWith Holds Left spec client stage (own ++ e ∷ []) (got ++ gs)
calls_with Holds Left spec client stage own got e gs stands none is_own leaves ends named = record {
  port = own_push own e stands.port none is_own;
  own_client = own_client_push client own e stands.own_client;
  at = stage_beside Holds Left spec client stage own got e gs leaves ends named stands.at;
}

-- The same, where the call gives no event.
pub call_with : (Holds : ChannelRun → List Event → Type 0) (Left : ChannelRun → Fallen → List Event → Type 0) (spec : ChannelSpec) (client : Option ℕ) (stage : ChannelStage) (own : List BufferEntry) (got : List GotEvent) (e : BufferEntry) → StandsWith Holds Left spec client stage own got
    → SendsNone e → IsOwnCall e (calls_after [] own) → LeavesClient client e → LeavesRunOn stage e → name_given e ≡ [] → StandsWith Holds Left spec client stage (own ++ e ∷ []) got
call_with Holds Left spec client stage own got e stands none is_own leaves ends named =
    subst (λ (l : List GotEvent). StandsWith Holds Left spec client stage (own ++ e ∷ []) l) (append-nil got) (calls_with Holds Left spec client stage own got e [] stands none is_own leaves ends named)

pub calls_beside : (spec : ChannelSpec) (client : Option ℕ) (stage : ChannelStage) (head : FileHead) (own : List BufferEntry) (got : List GotEvent) (seen : Seen) (e : BufferEntry) (gs : List GotEvent) → ChannelStands spec client stage head own got seen
    → SendsNone e → IsOwnCall e (calls_after [] own) → LeavesClient client e → LeavesRunOn stage e → name_given e ≡ map name_of gs → ChannelStands spec client stage head (own ++ e ∷ []) (got ++ gs) seen
calls_beside spec client stage head own got seen e gs stands none is_own leaves ends named = calls_with (FilesHold spec head seen) (FilesLeft spec head seen) spec client stage own got e gs stands none is_own leaves ends named

pub call_beside : (spec : ChannelSpec) (client : Option ℕ) (stage : ChannelStage) (head : FileHead) (own : List BufferEntry) (got : List GotEvent) (seen : Seen) (e : BufferEntry) → ChannelStands spec client stage head own got seen
    → SendsNone e → IsOwnCall e (calls_after [] own) → LeavesClient client e → LeavesRunOn stage e → name_given e ≡ [] → ChannelStands spec client stage head (own ++ e ∷ []) got seen
call_beside spec client stage head own got seen e stands none is_own leaves ends named = call_with (FilesHold spec head seen) (FilesLeft spec head seen) spec client stage own got e stands none is_own leaves ends named

-- Files.

-- the run's files by their head
pub stay_by : (spec : ChannelSpec) (head : FileHead) (run many : ℕ) (written : Option ChannelRun) (old new : Seen) → head.run ≡ run → LeavesFiles old new (piece_name_by spec.pattern run) many written → Stay old new (series_at spec head) many
stay_by spec head run many written old new is leaves = record {
  told = leaves.told;
  on = leaves.on;
  at = λ told n below. subst (λ (r : ℕ). new.at (piece_name_by spec.pattern r n) ≡ old.at (piece_name_by spec.pattern r n)) (sym is) (leaves.at told n below);
}

hold_left : (spec : ChannelSpec) (head : FileHead) (old new : Seen) (opened : ChannelRun) (events : List Event) → FilesHold spec head old opened events → LeavesFiles old new (piece_name_by spec.pattern opened.run) (opened.at.sub + 1) (Some opened) → FilesHold spec head new opened events
hold_left spec head old new opened events holds leaves = record {
  run = holds.run;
  time = holds.time;
  fine = holds.fine;
  holds = holds_stay old new (series_at spec head) opened.at events (stay_by spec head opened.run (opened.at.sub + 1) (Some opened) old new holds.run leaves) leaves.number holds.holds;
}

broken_left : (spec : ChannelSpec) (head : FileHead) (old new : Seen) (opened : ChannelRun) (fallen : Fallen) (events : List Event) → FilesLeft spec head old opened fallen events → LeavesFiles old new (piece_name_by spec.pattern opened.run) fallen.files None
    → FilesLeft spec head new opened fallen events
broken_left spec head old new opened fallen events left leaves = record {
  run = left.run;
  time = left.time;
  fine = left.fine;
  part = fallen_stay old new (series_at spec head) fallen [] events (stay_by spec head opened.run fallen.files None old new left.run leaves) left.part;
}

reading_left : (spec : ChannelSpec) (client : Option ℕ) (run : BegunRun) (head : FileHead) (own : List BufferEntry) (got : List GotEvent) (old new : Seen) → ReadingWith (FilesHold spec head old) spec client run own got
    → LeavesFiles old new (piece_name_by spec.pattern run.opened.run) (run.opened.at.sub + 1) (Some run.opened) → ReadingWith (FilesHold spec head new) spec client run own got
reading_left spec client run head own got old new at leaves = record { events = at.events; of = at.of; reads = at.reads; holds = hold_left spec head old new run.opened at.events at.holds leaves }

stage_left : (spec : ChannelSpec) (client : Option ℕ) (stage : ChannelStage) (head : FileHead) (own : List BufferEntry) (got : List GotEvent) (old new : Seen) → StageWith (FilesHold spec head old) (FilesLeft spec head old) spec client stage own got → LeavesChannelFiles spec stage old new
    → StageWith (FilesHold spec head new) (FilesLeft spec head new) spec client stage own got
stage_left spec client Idle head own got old new at leaves = at
stage_left spec client (Asking opened) head own got old new at leaves = record { of = at.of; asking = at.asking; holds = hold_left spec head old new opened [] at.holds leaves }
stage_left spec client (Writing opened begun) head own got old new at leaves = reading_left spec client (run_begun opened begun) head own got old new at leaves
stage_left spec client (Draining run) head own got old new at leaves = reading_left spec client run head own got old new at leaves
stage_left spec client (Drained run) head own got old new at leaves =
    record { events = at.events; of = at.of; nothing = at.nothing; reads = at.reads; holds = hold_left spec head old new run.opened at.events at.holds leaves }
stage_left spec client (Broken run fallen) head own got old new at leaves =
    record { events = at.events; of = at.of; nothing = at.nothing; reads = at.reads; left = broken_left spec head old new run.opened fallen at.events at.left leaves }

pub files_beside : (spec : ChannelSpec) (client : Option ℕ) (stage : ChannelStage) (head : FileHead) (own : List BufferEntry) (got : List GotEvent) (old new : Seen) → ChannelStands spec client stage head own got old
    → LeavesChannelFiles spec stage old new → ChannelStands spec client stage head own got new
files_beside spec client stage head own got old new stands leaves = record { port = stands.port; own_client = stands.own_client; at = stage_left spec client stage head own got old new stands.at leaves }

-- Each file that was made is there.

there_by : (spec : ChannelSpec) (head : FileHead) (run n : ℕ) (seen : Seen) → head.run ≡ run → IsSome (seen.at (piece_name_by spec.pattern head.run n)) → IsSome (seen.at (piece_name_by spec.pattern run n))
there_by spec head run n seen is there = subst (λ (r : ℕ). IsSome (seen.at (piece_name_by spec.pattern r n))) is there

hold_there : (spec : ChannelSpec) (head : FileHead) (seen : Seen) (opened r : ChannelRun) (events : List Event) (n : ℕ) → FilesHold spec head seen opened events → Some opened ≡ Some r → IsTrue seen.names → n < opened.at.sub + 1 → IsSome (seen.at (piece_name_by spec.pattern r.run n))
hold_there spec head seen opened r events n holds is told below =
    let same : opened ≡ r = cc (is) in
    subst (λ (x : ChannelRun). IsSome (seen.at (piece_name_by spec.pattern x.run n))) same (there_by spec head opened.run n seen holds.run (holds_there seen (series_at spec head) opened.at events n holds.holds told below))

left_there : (spec : ChannelSpec) (head : FileHead) (seen : Seen) (opened r : ChannelRun) (fallen : Fallen) (events : List Event) (n : ℕ) → FilesLeft spec head seen opened fallen events → Some opened ≡ Some r → IsTrue seen.names → n < fallen.files
    → IsSome (seen.at (piece_name_by spec.pattern r.run n))
left_there spec head seen opened r fallen events n left is told below =
    let same : opened ≡ r = cc (is) in
    subst (λ (x : ChannelRun). IsSome (seen.at (piece_name_by spec.pattern x.run n))) same (there_by spec head opened.run n seen left.run (fallen_there seen (series_at spec head) fallen [] events n left.part told below))

pub made_there : (spec : ChannelSpec) (client : Option ℕ) (stage : ChannelStage) (head : FileHead) (own : List BufferEntry) (got : List GotEvent) (seen : Seen) → ChannelStands spec client stage head own got seen → (r : ChannelRun) → channel_run stage ≡ Some r
    → IsTrue seen.names → (n : ℕ) → n < files_by stage → IsSome (seen.at (piece_name_by spec.pattern r.run n))
made_there spec client Idle head own got seen stands r is told n below = absurd (cc (is))
made_there spec client (Asking opened) head own got seen stands r is told n below = hold_there spec head seen opened r _ n stands.at.holds is told below
made_there spec client (Writing opened begun) head own got seen stands r is told n below = hold_there spec head seen opened r _ n stands.at.holds is told below
made_there spec client (Draining run) head own got seen stands r is told n below = hold_there spec head seen run.opened r _ n stands.at.holds is told below
made_there spec client (Drained run) head own got seen stands r is told n below = hold_there spec head seen run.opened r _ n stands.at.holds is told below
made_there spec client (Broken run fallen) head own got seen stands r is told n below = left_there spec head seen run.opened r fallen _ n stands.at.left is told below

hold_used : (spec : ChannelSpec) (head : FileHead) (seen : Seen) (opened r : ChannelRun) (events : List Event) → FilesHold spec head seen opened events → Some opened ≡ Some r → HasLastOpen seen spec r
hold_used spec head seen opened r events holds is =
    let same : opened ≡ r = cc (is) in
    let here : HasLastOpen seen spec opened = record {
      writes = holds.holds.file.writes;
      named = subst (λ (n : ℕ). seen.name_of opened.at.file ≡ piece_name_by spec.pattern n opened.at.sub) holds.run holds.holds.file.named;
      few = holds.holds.few;
    } in
    subst (λ (x : ChannelRun). HasLastOpen seen spec x) same here

-- the last file is in use for writing, under its name
pub last_used : (spec : ChannelSpec) (client : Option ℕ) (stage : ChannelStage) (head : FileHead) (own : List BufferEntry) (got : List GotEvent) (seen : Seen) → ChannelStands spec client stage head own got seen → (r : ChannelRun) → written_run stage ≡ Some r → HasLastOpen seen spec r
last_used spec client Idle head own got seen stands r is = absurd (cc (is))
last_used spec client (Asking opened) head own got seen stands r is = hold_used spec head seen opened r _ stands.at.holds is
last_used spec client (Writing opened begun) head own got seen stands r is = hold_used spec head seen opened r _ stands.at.holds is
last_used spec client (Draining run) head own got seen stands r is = hold_used spec head seen run.opened r _ stands.at.holds is
last_used spec client (Drained run) head own got seen stands r is = hold_used spec head seen run.opened r _ stands.at.holds is
last_used spec client (Broken run fallen) head own got seen stands r is = absurd (cc (is))
