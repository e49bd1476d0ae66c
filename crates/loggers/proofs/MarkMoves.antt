-- What a mark in a buffer is to all channels: the begin of a run and its end, and calls that none notes.
use Rattle.std.specs.Prelude.{◌≡◌, ◌≢◌, ◌==◌, ◌++◌, ℕ, Bool, true, false, if◌then◌else◌, List, [], ◌∷◌, length, map, Option, Some, None, Result, Ok, Err, ◌⊎◌, refl}
use Rattle.std.specs.Option.{option_map}
use Rattle.std.proofs.Common.{ap, sym, subst, ◌∙◌, append_assoc, inl, inr, eq-eqb}
use Rattle.std.proofs.lemmas.Bool.{eqb-true}
use Rattle.std.proofs.lemmas.List.{length-map, append-nil}
use Rattle.daq_types.specs.declared.events.Event.{Event}
use Rattle.daq_types.specs.declared.runs.ChannelEnd.{ChannelEnd}
use Rattle.daq_types.specs.declared.runs.Kind.TheVariants.{All}
use Rattle.daq_io.specs.Seen.{Seen}
use Rattle.buffer_core.specs.declared.replies.MarkRefusal.{MarkRefusal}
use Rattle.buffer_core.specs.declared.entry.BufferEntry.{BufferEntry}
use Rattle.buffer_core.specs.declared.entry.BufferEntry.TheVariants.{Request, Begin, Pause, Resume, End}
use Rattle.buffer_core.specs.Ports.{Access, GotEvent, name_given}
use Rattle.buffer_core.specs.Slots.{slot_at}
use Rattle.member_model.specs.Turns.{MemberTurn, AreEngineTurns}
use Rattle.member_model.specs.OwnCalls.{calls_after, AreOwnCalls, IsOwnCall, SendsNone}
use Rattle.member_model.specs.ReadRuns.{IsReading}
use Rattle.member_model.specs.CutRuns.{MarksEnd, HasReadOn}
use Rattle.member_model.specs.EndedRuns.{EndsBegun}
use Rattle.member_model.proofs.FairLaws.{NoRequest, lone-push}
use Rattle.member_model.proofs.ReadLaws.{calls_after-push}
use Rattle.member_model.proofs.SentLaws.{EachCall-push}
use Rattle.mid_logger.specs.declared.channel.Channel.{Channel}
use Rattle.mid_logger.specs.declared.channel_spec.ChannelSpec.{ChannelSpec}
use Rattle.mid_logger.specs.declared.stage.ChannelRun.{ChannelRun}
use Rattle.mid_logger.specs.declared.stage.ChannelStage.{ChannelStage}
use Rattle.mid_logger.specs.declared.stage.ChannelStage.TheVariants.{Idle, Asking, Writing, Draining, Drained, Broken}
use Rattle.mid_logger.specs.Channels.{FileHead, KeepsOwnCalls, FilesHold, FilesLeft, ReadingWith, HasReadPart, BrokenWith, run_begun, ChannelStands, channel_run, written_run, files_by as files_made, stage_begun, stage_ended, place_marked, end_marked}
use Rattle.mid_logger.specs.Beside.{LeavesClient, LeavesRunOn, CallsBeside, LeftBeside}
use Rattle.mid_logger.specs.Keeping.{BegunKeeps, EndedKeeps}
use Rattle.loggers.specs.Moments.{LoggerMoment, CallsBuffer, noted_channel}
use Rattle.loggers.specs.Turning.{BeginsBuffer, EndsBuffer}
use Rattle.loggers.specs.LoggerStands.{IsEndReplied, IsEndedSo, IsStartedStage, IsStoppingStage, HasEndTurn, IsEndTold, TellsEnds, SlotsStand}
use Rattle.loggers.proofs.ReadySteps.{WasNoted, was_noted, begun_made, ended_made}
use Rattle.loggers.proofs.PullMoves.{EndsNone, GrowsOn, mark_stays, refusal_stays, ends_begun_stays, ended_stays, port_grown}
use Rattle.loggers.proofs.PortSteps.{KeepsChannel, IsFrom, StepsPort, port_stepped}

-- Channels that note a mark.

noted_keeps : (note : ChannelStage → ChannelStage) (c : Channel) (hit : Bool) → ((s : ChannelStage) → channel_run (note s) ≡ channel_run s) → ((s : ChannelStage) → written_run (note s) ≡ written_run s) → ((s : ChannelStage) → files_made (note s) ≡ files_made s) → KeepsChannel c (if hit then record c { stage = note c.stage } else c)
noted_keeps note c true run written made = record { spec = refl; client = refl; run = run c.stage; written = written c.stage; made = made c.stage }
noted_keeps note c false run written made = record { spec = refl; client = refl; run = refl; written = refl; made = refl }

noted_hit : (note : ChannelStage → ChannelStage) (c : Channel) (hit : Bool) → hit ≡ true → (if hit then record c { stage = note c.stage } else c).stage ≡ note c.stage
noted_hit note c true is = refl
noted_hit note c false is = absurd (cc (is))

noted_miss : (note : ChannelStage → ChannelStage) (c : Channel) (hit : Bool) → (hit ≡ true → ⊥) → (if hit then record c { stage = note c.stage } else c).stage ≡ c.stage
noted_miss note c true not = absurd (not refl)
noted_miss note c false not = refl

-- each channel behind a mark stood there before
pub noted_from : (note : ChannelStage → ChannelStage) (buffer : ℕ) (slots : List (Option Channel)) → ((s : ChannelStage) → channel_run (note s) ≡ channel_run s) → ((s : ChannelStage) → written_run (note s) ≡ written_run s) → ((s : ChannelStage) → files_made (note s) ≡ files_made s)
    → (n : ℕ) (c : Channel) → slot_at (map (option_map (noted_channel note buffer)) slots) n ≡ Some c → IsFrom note slots buffer n c
noted_from note buffer slots run written made n c stood =
    let was : WasNoted note buffer slots n c = was_noted note buffer slots n c stood in
    let hit : Bool = was.before.spec.buffer == buffer in
    record {
      before = was.before;
      there = was.there;
      keeps = subst (λ (x : Channel). KeepsChannel was.before x) (sym was.is) (noted_keeps note was.before hit run written made);
      hit = λ same. ap (λ (x : Channel). x.stage) was.is ∙ noted_hit note was.before hit (eq-eqb was.before.spec.buffer buffer same);
      miss = λ other. ap (λ (x : Channel). x.stage) was.is ∙ noted_miss note was.before hit (λ same. other (eqb-true was.before.spec.buffer buffer same));
    }

-- each channel behind a call that none notes stood there before
same_from : (slots : List (Option Channel)) (buffer n : ℕ) (c : Channel) → slot_at slots n ≡ Some c → IsFrom (λ s. s) slots buffer n c
same_from slots buffer n c stood = record {
  before = c;
  there = stood;
  keeps = record { spec = refl; client = refl; run = refl; written = refl; made = refl };
  hit = λ same. refl;
  miss = λ other. refl;
}

begun_run : (place : ℕ) (s : ChannelStage) → channel_run (stage_begun s place) ≡ channel_run s
begun_run place (Asking opened) = refl
begun_run place s = refl

begun_written : (place : ℕ) (s : ChannelStage) → written_run (stage_begun s place) ≡ written_run s
begun_written place (Asking opened) = refl
begun_written place s = refl

ended_run : (ended : Option ℕ) (s : ChannelStage) → channel_run (stage_ended s ended) ≡ channel_run s
ended_run ended (Writing opened begun) = refl
ended_run ended (Broken run fallen) = refl
ended_run ended s = refl

ended_written : (ended : Option ℕ) (s : ChannelStage) → written_run (stage_ended s ended) ≡ written_run s
ended_written ended (Writing opened begun) = refl
ended_written ended (Broken run fallen) = refl
ended_written ended s = refl

-- Calls that end no run.

own_more : (own : List BufferEntry) (e : BufferEntry) → KeepsOwnCalls own → SendsNone e → IsOwnCall e (calls_after [] own) → KeepsOwnCalls (own ++ e ∷ [])
own_more own e keeps none is_own = record {
  sends_none = EachCall-push SendsNone own e keeps.sends_none none;
  own_calls = subst (λ (es : List BufferEntry). AreOwnCalls es) (sym (calls_after-push [] own e)) (is_own, keeps.own_calls);
}

-- a call that sends nothing, names no client, ends no run, and is no request
pub record PlainCall (e : BufferEntry) : Type 0 where
  pub asks : NoRequest e
  pub sends : SendsNone e
  pub is_own : (es : List BufferEntry) → IsOwnCall e es
  pub ends : EndsNone e

-- and which also begins no run and gives no event
pub record QuietCall (e : BufferEntry) : Type 0 where
  pub plain : PlainCall e
  pub client : (c : Option ℕ) → LeavesClient c e
  pub run : (s : ChannelStage) → LeavesRunOn s e
  pub gives : name_given e ≡ []

no_client : (e : BufferEntry) → ((n : ℕ) → LeavesClient (Some n) e) → (c : Option ℕ) → LeavesClient c e
no_client e some None = tt
no_client e some (Some n) = some n

refused_run : (start : ℕ) (why : MarkRefusal) (s : ChannelStage) → LeavesRunOn s (Begin start (Err why))
refused_run start why (Asking opened) = tt
refused_run start why (Writing opened begun) = tt
refused_run start why (Draining run) = tt
refused_run start why s = tt

pause_run : (start : ℕ) (reply : Result ℕ MarkRefusal) (s : ChannelStage) → LeavesRunOn s (Pause start reply)
pause_run start reply (Asking opened) = tt
pause_run start reply (Writing opened begun) = tt
pause_run start reply (Draining run) = tt
pause_run start reply s = tt

resume_run : (start : ℕ) (reply : Result ℕ MarkRefusal) (s : ChannelStage) → LeavesRunOn s (Resume start reply)
resume_run start reply (Asking opened) = tt
resume_run start reply (Writing opened begun) = tt
resume_run start reply (Draining run) = tt
resume_run start reply s = tt

begin_plain : (start : ℕ) (reply : Result ℕ MarkRefusal) → PlainCall (Begin start reply)
begin_plain start reply = record { sends = tt; is_own = λ es. tt; ends = tt; asks = λ es. tt }

pub refused_quiet : (start : ℕ) (why : MarkRefusal) → QuietCall (Begin start (Err why))
refused_quiet start why = record { plain = begin_plain start (Err why); client = no_client (Begin start (Err why)) (λ n. tt); run = refused_run start why; gives = refl }

pub pause_quiet : (start : ℕ) (reply : Result ℕ MarkRefusal) → QuietCall (Pause start reply)
pause_quiet start reply = record { plain = record { sends = tt; is_own = λ es. tt; ends = tt; asks = λ es. tt }; client = no_client (Pause start reply) (λ n. tt); run = pause_run start reply; gives = refl }

pub resume_quiet : (start : ℕ) (reply : Result ℕ MarkRefusal) → QuietCall (Resume start reply)
resume_quiet start reply = record { plain = record { sends = tt; is_own = λ es. tt; ends = tt; asks = λ es. tt }; client = no_client (Resume start reply) (λ n. tt); run = resume_run start reply; gives = refl }

grows_quiet : (p q : Access) (e : BufferEntry) → q.own ≡ p.own ++ e ∷ [] → q.got ≡ p.got → EndsNone e → GrowsOn p q
grows_quiet p q e own got ends = record { more = e ∷ []; given = []; own = own; got = got ∙ sym (append-nil p.got); quiet = (ends, tt) }

-- such a call, which the channels of the buffer note so
quiet_steps : (note : ChannelStage → ChannelStage) (turns : List MemberTurn) (slots later : List (Option Channel)) (buffer : ℕ) (p q : Access) (seen : Seen) (e : BufferEntry) → PlainCall e → q.own ≡ p.own ++ e ∷ [] → q.got ≡ p.got → length later ≡ length slots
    → ((n : ℕ) (c : Channel) → slot_at later n ≡ Some c → IsFrom note slots buffer n c)
    → ((n : ℕ) (c : Channel) → slot_at slots n ≡ Some c → c.spec.buffer ≡ buffer → (head : FileHead) → ChannelStands c.spec c.client c.stage head p.own p.got seen → ChannelStands c.spec c.client (note c.stage) head (p.own ++ e ∷ []) p.got seen)
    → StepsPort note turns slots later buffer p q seen
quiet_steps note turns slots later buffer p q seen e quiet own got many from kept = record {
  many = many;
  from = from;
  kept = λ n c stood same head stands. rw (own, got) (kept n c stood same head stands);
  more = e ∷ [];
  given = [];
  own = own;
  got = got ∙ sym (append-nil p.got);
  calls = λ calls. port_grown turns p q (grows_quiet p q e own got quiet.ends) (rw own (own_more p.own e calls.calls quiet.sends (quiet.is_own (calls_after [] p.own)))) (λ are. rw own (lone-push p.own e (quiet.asks (calls_after [] p.own)) are)) calls;
  ended = λ are stop states tells ended so. rw own (ended_stays p.own (e ∷ []) stop.order.start ended (quiet.ends, tt) so);
}

-- a channel behind such a call of another
quiet_beside : CallsBeside → (c : Channel) (stage : ChannelStage) (head : FileHead) (own : List BufferEntry) (got : List GotEvent) (seen : Seen) (e : BufferEntry) → SendsNone e → IsOwnCall e (calls_after [] own) → LeavesClient c.client e → LeavesRunOn stage e → name_given e ≡ []
    → ChannelStands c.spec c.client stage head own got seen → ChannelStands c.spec c.client stage head (own ++ e ∷ []) got seen
quiet_beside law c stage head own got seen e sends is_own client run gives stands =
    let now : ChannelStands c.spec c.client stage head (own ++ e ∷ []) (got ++ []) seen = law c.spec c.client stage head own got seen e [] stands sends is_own client run gives in
    subst (λ (l : List GotEvent). ChannelStands c.spec c.client stage head (own ++ e ∷ []) l seen) (append-nil got) now

-- what stands behind a call that no channel notes
pub called_stands : LeftBeside → CallsBeside → (H : ChannelRun → FileHead → Type 0) (turns : List MemberTurn) (e : BufferEntry) (buffer : ℕ) (a b : LoggerMoment) → QuietCall e → CallsBuffer e buffer a b
    → SlotsStand H turns a.slots a.ports a.files.seen → SlotsStand H turns b.slots b.ports b.files.seen
called_stands law calls H turns e buffer a b quiet called stands =
    let p : Access = called.port in
    let q : Access = called.later_port in
    let steps : StepsPort (λ s. s) turns a.slots a.slots buffer p q a.files.seen = quiet_steps (λ s. s) turns a.slots a.slots buffer p q a.files.seen e quiet.plain called.called.own called.called.got_is refl (same_from a.slots buffer)
    (λ n c stood same head at. quiet_beside calls c c.stage head p.own p.got a.files.seen e quiet.plain.sends (quiet.plain.is_own (calls_after [] p.own)) (quiet.client c.client) (quiet.run c.stage) quiet.gives at) in
    rw (called.slots, called.ports, called.files) (port_stepped law H (λ s. s) turns a.slots a.slots a.ports buffer p q a.files.seen called.at_port steps stands)

-- The begin of a run.

-- the channel asks for the run with this start number
abbrev pub IsAskingStage : (start : ℕ) → ChannelStage → Type 0
IsAskingStage start (Asking opened) = opened.start ≡ start
IsAskingStage start stage = ⊥

begin_stage : BegunKeeps → (spec : ChannelSpec) (client : Option ℕ) (stage : ChannelStage) (start place : ℕ) (head : FileHead) (own : List BufferEntry) (got : List GotEvent) (seen : Seen) → IsAskingStage start stage
    → ChannelStands spec client stage head own got seen → ChannelStands spec client (stage_begun stage place) head (own ++ Begin start (Ok place) ∷ []) got seen
begin_stage law spec client Idle start place head own got seen is stands = absurd is
begin_stage law spec client (Asking opened) start place head own got seen is stands =
    subst (λ (n : ℕ). ChannelStands spec client (Writing opened place) head (own ++ Begin n (Ok place) ∷ []) got seen) is (law spec client opened place head own got seen stands)
begin_stage law spec client (Writing opened begun) start place head own got seen is stands = absurd is
begin_stage law spec client (Draining run) start place head own got seen is stands = absurd is
begin_stage law spec client (Drained run) start place head own got seen is stands = absurd is
begin_stage law spec client (Broken run fallen) start place head own got seen is stands = absurd is

-- the stage of a channel whose run was begun
pub begun_started : (stage : ChannelStage) (start place : ℕ) → IsAskingStage start stage → IsStartedStage start (stage_begun stage place)
begun_started Idle start place is = absurd is
begun_started (Asking opened) start place is = is
begun_started (Writing opened begun) start place is = absurd is
begun_started (Draining run) start place is = absurd is
begun_started (Drained run) start place is = absurd is
begun_started (Broken run fallen) start place is = absurd is

-- each channel behind the begin of a run
pub begins_from : (start buffer : ℕ) (a b : LoggerMoment) (begins : BeginsBuffer start buffer a b) → (n : ℕ) (c : Channel) → slot_at b.slots n ≡ Some c → IsFrom (λ s. stage_begun s begins.0) a.slots buffer n c
begins_from start buffer a b begins n c stood =
    noted_from (λ s. stage_begun s begins.0) buffer a.slots (begun_run begins.0) (begun_written begins.0) (begun_made begins.0) n c (subst (λ (l : List (Option Channel)). slot_at l n ≡ Some c) begins.1.noted stood)

pub begins_stands : LeftBeside → BegunKeeps → (H : ChannelRun → FileHead → Type 0) (turns : List MemberTurn) (start buffer : ℕ) (a b : LoggerMoment) → BeginsBuffer start buffer a b
    → ((n : ℕ) (c : Channel) → slot_at a.slots n ≡ Some c → c.spec.buffer ≡ buffer → IsAskingStage start c.stage) → SlotsStand H turns a.slots a.ports a.files.seen → SlotsStand H turns b.slots b.ports b.files.seen
begins_stands law begun H turns start buffer a b begins asking stands =
    let place : ℕ = begins.0 in
    let called = begins.1.marks in
    let p : Access = called.port in
    let q : Access = called.later_port in
    let steps : StepsPort (λ s. stage_begun s place) turns a.slots b.slots buffer p q a.files.seen = quiet_steps (λ s. stage_begun s place) turns a.slots b.slots buffer p q a.files.seen (Begin start (Ok place)) (begin_plain start (Ok place)) called.called.own called.called.got_is
    (ap (λ (l : List (Option Channel)). length l) begins.1.noted ∙ length-map a.slots (option_map (noted_channel (λ s. stage_begun s place) buffer))) (begins_from start buffer a b begins)
    (λ n c stood same head at. begin_stage begun c.spec c.client c.stage start place head p.own p.got a.files.seen (asking n c stood same) at) in
    rw (called.ports, called.files) (port_stepped law H (λ s. stage_begun s place) turns a.slots b.slots a.ports buffer p q a.files.seen called.at_port steps stands)

-- The end of a run.

-- the end of the run with this start number was never accepted by these calls
abbrev pub NeverEnded : List BufferEntry → (start : ℕ) → Type 0
NeverEnded own start = (place : ℕ) → MarksEnd own start place → ⊥

in_last : (e : BufferEntry) (start place : ℕ) (before after : List BufferEntry) → e ∷ [] ≡ before ++ End start (Ok place) ∷ after → e ≡ End start (Ok place)
in_last e start place [] after is = cc (is)
in_last e start place (x ∷ []) after is = absurd (cc (is))
in_last e start place (x ∷ (y ∷ ys)) after is = absurd (cc (is))

mark_in : (own : List BufferEntry) (e : BufferEntry) (start place : ℕ) (before after : List BufferEntry) → own ++ e ∷ [] ≡ before ++ End start (Ok place) ∷ after → MarksEnd own start place ⊎ (e ≡ End start (Ok place))
mark_in [] e start place before after is = inr (in_last e start place before after is)
mark_in (x ∷ xs) e start place [] after is =
    let here : x ≡ End start (Ok place) = cc (is) in
    inl (record { before = []; after = xs; is = ap (λ (y : BufferEntry). y ∷ xs) here })
mark_in (x ∷ xs) e start place (y ∷ ys) after is =
    let rest : xs ++ e ∷ [] ≡ ys ++ End start (Ok place) ∷ after = cc (is) in
    elim (mark_in xs e start place ys after rest) as (λ w. MarksEnd (x ∷ xs) start place ⊎ (e ≡ End start (Ok place))) [
      | inl inside ↦ inl (record { before = x ∷ inside.before; after = inside.after; is = ap (λ (l : List BufferEntry). x ∷ l) inside.is })
      | inr last ↦ inr last
    ]

-- a mark among calls and one more is one of them, or that
mark_push : (own : List BufferEntry) (e : BufferEntry) (start place : ℕ) → MarksEnd (own ++ e ∷ []) start place → MarksEnd own start place ⊎ (e ≡ End start (Ok place))
mark_push own e start place marks = mark_in own e start place marks.before marks.after marks.is

-- the reply of an end
end_reply : (s t : ℕ) (r q : Result ℕ MarkRefusal) → End s r ≡ End t q → (s ≡ t) × (r ≡ q)
end_reply s t r q same = ((cc (same)), (cc (same)))

once_more : (own : List BufferEntry) (start : ℕ) (reply : Result ℕ MarkRefusal) → NeverEnded own start → ((s m n : ℕ) → MarksEnd own s m → MarksEnd own s n → m ≡ n)
    → (s m n : ℕ) → MarksEnd (own ++ End start reply ∷ []) s m → MarksEnd (own ++ End start reply ∷ []) s n → m ≡ n
once_more own start reply never once s m n first second = elim (mark_push own (End start reply) s m first) as (λ w. m ≡ n) [
  | inl old ↦ elim (mark_push own (End start reply) s n second) as (λ w. m ≡ n) [
    | inl old2 ↦ once s m n old old2
    | inr now2 ↦ absurd (never m (subst (λ (k : ℕ). MarksEnd own k m) (sym (end_reply start s reply (Ok n) now2).0) old))
  ]
  | inr now ↦ elim (mark_push own (End start reply) s n second) as (λ w. m ≡ n) [
    | inl old2 ↦ absurd (never n (subst (λ (k : ℕ). MarksEnd own k n) (sym (end_reply start s reply (Ok m) now).0) old2))
    | inr now2 ↦
        let one : reply ≡ Ok m = (end_reply start s reply (Ok m) now).1 in
        let two : reply ≡ Ok n = (end_reply start s reply (Ok n) now2).1 in
        cc (one, two)
  ]
]

-- what is told of the end of another run stays so
replied_push : (own : List BufferEntry) (start : ℕ) (reply : Result ℕ MarkRefusal) (s : ℕ) (ended : Option ℕ) → s ≢ start → IsEndReplied own s ended → IsEndReplied (own ++ End start reply ∷ []) s ended
replied_push own start reply s (Some place) other so = mark_stays own (End start reply ∷ []) s place so
replied_push own start reply s None other so = (
  refusal_stays own (End start reply ∷ []) s so.0,
  λ place marks. elim (mark_push own (End start reply) s place marks) as (λ w. ⊥) [
    | inl old ↦ so.1 place old
    | inr now ↦ other (sym (end_reply start s reply (Ok place) now).0)
  ],
)

ended_push : (own : List BufferEntry) (start : ℕ) (reply : Result ℕ MarkRefusal) (s : ℕ) (ended : Option ℕ) → s ≢ start → IsEndedSo own s ended → IsEndedSo (own ++ End start reply ∷ []) s ended
ended_push own start reply s ended other so = (ends_begun_stays own (End start reply ∷ []) s so.0, replied_push own start reply s ended other so.1)

-- The begin of a run that goes on.

-- one of these calls began the run with this start number
pub record HasBegunRun (own : List BufferEntry) (start : ℕ) : Type 0 where
  pub begun : ℕ
  pub before : List BufferEntry
  pub after : List BufferEntry
  pub is : own ≡ before ++ Begin start (Ok begun) ∷ after

begins_read : (own : List BufferEntry) (got : List GotEvent) (client id mask number start begun : ℕ) (events : List Event) → IsReading own got client id mask number start begun events → HasBegunRun own start
begins_read own got client id mask number start begun events reads = record {
  begun = begun;
  before = reads.asked.before ++ Request client id mask All (Ok number) ∷ reads.asking;
  after = reads.running;
  is = reads.asked.whole ∙ sym (append_assoc reads.asked.before (Request client id mask All (Ok number) ∷ reads.asking) (Begin start (Ok begun) ∷ reads.running));
}

begins_read_on : (own : List BufferEntry) (got : List GotEvent) (client id mask number start begun : ℕ) (events : List Event) → HasReadOn own got client id mask number start begun events → HasBegunRun own start
begins_read_on own got client id mask number start begun events on =
    let b : HasBegunRun on.calls start = begins_read on.calls on.got_by client id mask number start begun events on.reads in
    record {
      begun = b.begun;
      before = b.before;
      after = b.after ++ on.later;
      is = on.own_is ∙ (ap (λ (l : List BufferEntry). l ++ on.later) b.is ∙ append_assoc b.before (Begin start (Ok b.begun) ∷ b.after) on.later);
    }

-- a channel whose run goes on has it begun in its buffer
pub begins_started : (spec : ChannelSpec) (client : Option ℕ) (stage : ChannelStage) (start : ℕ) (head : FileHead) (own : List BufferEntry) (got : List GotEvent) (seen : Seen) → IsStartedStage start stage
    → ChannelStands spec client stage head own got seen → HasBegunRun own start
begins_started spec client Idle start head own got seen is stands = absurd is
begins_started spec client (Asking opened) start head own got seen is stands = absurd is
begins_started spec client (Writing opened begun) start head own got seen is stands =
    let at : ReadingWith (FilesHold spec head seen) spec client (run_begun opened begun) own got = stands.at in
    subst (λ (n : ℕ). HasBegunRun own n) is (begins_read own got opened.client spec.id spec.mask opened.request opened.start begun at.events at.reads)
begins_started spec client (Draining run) start head own got seen is stands = absurd is
begins_started spec client (Drained run) start head own got seen is stands = absurd is
begins_started spec client (Broken run fallen) start head own got seen is stands =
    let at : BrokenWith (FilesLeft spec head seen) spec client run fallen own got = stands.at in
    let on : HasReadOn own got run.opened.client spec.id spec.mask run.opened.request run.opened.start run.begun at.events =
    subst (λ (e : Option ℕ). HasReadPart e own got run.opened.client spec.id spec.mask run.opened.request run.opened.start run.begun at.events) is.on at.reads in
    subst (λ (n : ℕ). HasBegunRun own n) is.of (begins_read_on own got run.opened.client spec.id spec.mask run.opened.request run.opened.start run.begun at.events on)

ends_begun_now : (own : List BufferEntry) (start : ℕ) (reply : Result ℕ MarkRefusal) → HasBegunRun own start → EndsBegun (own ++ End start reply ∷ []) start
ends_begun_now own start reply b = record {
  begun = b.begun;
  reply = reply;
  before = b.before;
  running = b.after;
  after = [];
  is = ap (λ (l : List BufferEntry). l ++ End start reply ∷ []) b.is ∙ append_assoc b.before (Begin start (Ok b.begun) ∷ b.after) (End start reply ∷ []);
}

-- what is told of the end that was called for now
replied_now : (own : List BufferEntry) (start : ℕ) (reply : Result ℕ MarkRefusal) → NeverEnded own start → IsEndReplied (own ++ End start reply ∷ []) start (place_marked reply)
replied_now own start (Ok place) never = record { before = own; after = []; is = refl }
replied_now own start (Err why) never = (
  record { before = own; after = []; why = why; is = refl },
  λ place marks. elim (mark_push own (End start (Err why)) start place marks) as (λ w. ⊥) [
    | inl old ↦ never place old
    | inr now ↦ let same : Err why ≡ Ok place = (end_reply start start (Err why) (Ok place) now).1 in cc (same)
  ],
)

ended_now : (own : List BufferEntry) (start : ℕ) (reply : Result ℕ MarkRefusal) → HasBegunRun own start → NeverEnded own start → IsEndedSo (own ++ End start reply ∷ []) start (place_marked reply)
ended_now own start reply begun never = (ends_begun_now own start reply begun, replied_now own start reply never)

-- The stages of channels at the end of a run: those that are idle are so only where this holds.
abbrev pub MayEnd : (Spare : Type 0) → (start : ℕ) → ChannelStage → Type 0
MayEnd Spare start stage = (Spare × (stage ≡ Idle)) ⊎ IsStartedStage start stage

abbrev pub HasEnded : (Spare : Type 0) → List MemberTurn → List BufferEntry → (start : ℕ) → ChannelStage → Type 0
HasEnded Spare turns own start stage = (Spare × (stage ≡ Idle)) ⊎ IsStoppingStage turns own start stage

end_started : EndedKeeps → (spec : ChannelSpec) (client : Option ℕ) (stage : ChannelStage) (start : ℕ) (reply : Result ℕ MarkRefusal) (head : FileHead) (own : List BufferEntry) (got : List GotEvent) (seen : Seen) → IsStartedStage start stage
    → ChannelStands spec client stage head own got seen → ChannelStands spec client (stage_ended stage (place_marked reply)) head (own ++ End start reply ∷ []) got seen
end_started law spec client Idle start reply head own got seen is stands = absurd is
end_started law spec client (Asking opened) start reply head own got seen is stands = absurd is
end_started law spec client (Writing opened begun) start reply head own got seen is stands =
    subst (λ (n : ℕ). ChannelStands spec client (stage_ended (Writing opened begun) (place_marked reply)) head (own ++ End n reply ∷ []) got seen) is (law spec client (Writing opened begun) opened reply head own got seen refl tt stands)
end_started law spec client (Draining run) start reply head own got seen is stands = absurd is
end_started law spec client (Drained run) start reply head own got seen is stands = absurd is
end_started law spec client (Broken run fallen) start reply head own got seen is stands =
    subst (λ (n : ℕ). ChannelStands spec client (stage_ended (Broken run fallen) (place_marked reply)) head (own ++ End n reply ∷ []) got seen) is.of (law spec client (Broken run fallen) run.opened reply head own got seen refl tt stands)

end_client : (client : Option ℕ) (start : ℕ) (reply : Result ℕ MarkRefusal) → LeavesClient client (End start reply)
end_client None start reply = tt
end_client (Some n) start reply = tt

end_stage : CallsBeside → EndedKeeps → (Spare : Type 0) (c : Channel) (start : ℕ) (reply : Result ℕ MarkRefusal) (head : FileHead) (own : List BufferEntry) (got : List GotEvent) (seen : Seen) → MayEnd Spare start c.stage
    → ChannelStands c.spec c.client c.stage head own got seen → ChannelStands c.spec c.client (stage_ended c.stage (place_marked reply)) head (own ++ End start reply ∷ []) got seen
end_stage calls law Spare c start reply head own got seen may stands = elim may as (λ w. ChannelStands c.spec c.client (stage_ended c.stage (place_marked reply)) head (own ++ End start reply ∷ []) got seen) [
  | inl idle ↦
      let at_idle : ChannelStands c.spec c.client Idle head own got seen = subst (λ (s : ChannelStage). ChannelStands c.spec c.client s head own got seen) idle.1 stands in
      subst (λ (s : ChannelStage). ChannelStands c.spec c.client (stage_ended s (place_marked reply)) head (own ++ End start reply ∷ []) got seen) (sym idle.1)
      (quiet_beside calls c Idle head own got seen (End start reply) tt tt (end_client c.client start reply) tt refl at_idle)
  | inr started ↦ end_started law c.spec c.client c.stage start reply head own got seen started stands
]

started_ended : (turns : List MemberTurn) (own : List BufferEntry) (stage : ChannelStage) (start : ℕ) (reply : Result ℕ MarkRefusal) → (AreEngineTurns turns → NeverEnded own start) → HasBegunRun own start → IsStartedStage start stage
    → IsStoppingStage turns (own ++ End start reply ∷ []) start (stage_ended stage (place_marked reply))
started_ended turns own Idle start reply never begun is = absurd is
started_ended turns own (Asking opened) start reply never begun is = absurd is
started_ended turns own (Writing opened place) start reply never begun is = record { of = is; so = λ are. ended_now own start reply begun (never are) }
started_ended turns own (Draining run) start reply never begun is = absurd is
started_ended turns own (Drained run) start reply never begun is = absurd is
started_ended turns own (Broken run fallen) start reply never begun is = record {
  of = is.of;
  so = λ are. subst (λ (e : Option ℕ). IsEndedSo (own ++ End start reply ∷ []) start (end_marked e (place_marked reply))) (sym is.on) (ended_now own start reply begun (never are));
}

pub has_ended : (Spare : Type 0) (turns : List MemberTurn) (own : List BufferEntry) (stage : ChannelStage) (start : ℕ) (reply : Result ℕ MarkRefusal) → (AreEngineTurns turns → NeverEnded own start) → (IsStartedStage start stage → HasBegunRun own start) → MayEnd Spare start stage
    → HasEnded Spare turns (own ++ End start reply ∷ []) start (stage_ended stage (place_marked reply))
has_ended Spare turns own stage start reply never begun may = elim may as (λ w. HasEnded Spare turns (own ++ End start reply ∷ []) start (stage_ended stage (place_marked reply))) [
  | inl idle ↦ inl (idle.0, ap (λ (s : ChannelStage). stage_ended s (place_marked reply)) idle.1)
  | inr started ↦ inr (started_ended turns own stage start reply never (begun started) started)
]

-- each channel behind the end of a run
pub ends_from : (start buffer : ℕ) (a b : LoggerMoment) (ends : EndsBuffer start buffer a b) → (n : ℕ) (c : Channel) → slot_at b.slots n ≡ Some c → IsFrom (λ s. stage_ended s (place_marked ends.0)) a.slots buffer n c
ends_from start buffer a b ends n c stood =
    noted_from (λ s. stage_ended s (place_marked ends.0)) buffer a.slots (ended_run (place_marked ends.0)) (ended_written (place_marked ends.0)) (ended_made (place_marked ends.0)) n c (subst (λ (l : List (Option Channel)). slot_at l n ≡ Some c) ends.1.noted stood)

-- no run with this start number was stopped with its channels' ends told
abbrev pub NoneTold : List MemberTurn → (start : ℕ) → Type 0
NoneTold turns start = AreEngineTurns turns → (stop : MemberTurn) → (told : List ChannelEnd) → TellsEnds turns stop told → stop.order.start ≢ start

pub ends_stands : LeftBeside → CallsBeside → EndedKeeps → (Spare : Type 0) (H : ChannelRun → FileHead → Type 0) (turns : List MemberTurn) (start buffer : ℕ) (a b : LoggerMoment) (ends : EndsBuffer start buffer a b) → HasEndTurn turns start → NoneTold turns start
    → (AreEngineTurns turns → NeverEnded ends.1.marks.port.own start) → ((n : ℕ) (c : Channel) → slot_at a.slots n ≡ Some c → c.spec.buffer ≡ buffer → MayEnd Spare start c.stage)
    → SlotsStand H turns a.slots a.ports a.files.seen → SlotsStand H turns b.slots b.ports b.files.seen
ends_stands law calls ended Spare H turns start buffer a b ends turn none never may stands =
    let reply : Result ℕ MarkRefusal = ends.0 in
    let called = ends.1.marks in
    let p : Access = called.port in
    let q : Access = called.later_port in
    let note : ChannelStage → ChannelStage = λ s. stage_ended s (place_marked reply) in
    let steps : StepsPort note turns a.slots b.slots buffer p q a.files.seen = record {
      many = ap (λ (l : List (Option Channel)). length l) ends.1.noted ∙ length-map a.slots (option_map (noted_channel note buffer));
      from = ends_from start buffer a b ends;
      kept = λ n c stood same head at. rw (called.called.own, called.called.got_is) (end_stage calls ended Spare c start reply head p.own p.got a.files.seen (may n c stood same) at);
      more = End start reply ∷ [];
      given = [];
      own = called.called.own;
      got = called.called.got_is ∙ sym (append-nil p.got);
      calls = λ kept. rw called.called.own (record {
        calls = own_more p.own (End start reply) kept.calls tt tt;
        alone = lone-push p.own (End start reply) tt kept.alone;
        told = EachCall-push (IsEndTold turns) p.own (End start reply) kept.told turn;
        once = λ are. once_more p.own start reply (never are) (kept.once are);
      });
      ended = λ are stop states tells e so. rw called.called.own (ended_push p.own start reply stop.order.start e (none are stop states tells) so);
    } in
    rw (called.ports, called.files) (port_stepped law H note turns a.slots b.slots a.ports buffer p q a.files.seen called.at_port steps stands)
