-- What a channel keeps when the run is begun and ended in its buffer.
use Rattle.std.specs.Prelude.{◌≡◌, ℕ, List, [], ◌∷◌, ◌++◌, Option, Some, None, Result, Ok, Err, refl}
use Rattle.std.proofs.Common.{ap, subst, ◌∙◌, inl, append_assoc}
use Rattle.daq_types.specs.declared.events.Event.{Event}
use Rattle.daq_io.specs.Seen.{Seen}
use Rattle.buffer_core.specs.declared.replies.MarkRefusal.{MarkRefusal}
use Rattle.buffer_core.specs.declared.entry.BufferEntry.{BufferEntry}
use Rattle.buffer_core.specs.declared.entry.BufferEntry.TheVariants.{Begin, End}
use Rattle.buffer_core.specs.Ports.{GotEvent}
use Rattle.member_model.specs.CutRuns.{HasReadOn, HasCutRun}
use Rattle.member_model.proofs.ReadLaws.{reading_begun, draining_begun}
use Rattle.mid_logger.specs.declared.channel_spec.ChannelSpec.{ChannelSpec}
use Rattle.mid_logger.specs.declared.stage.ChannelRun.{ChannelRun}
use Rattle.mid_logger.specs.declared.stage.ChannelStage.{ChannelStage}
use Rattle.mid_logger.specs.declared.stage.ChannelStage.TheVariants.{Idle, Asking, Writing, Draining, Drained, Broken}
use Rattle.sub_files.specs.declared.open_file.Fallen.{Fallen}
use Rattle.mid_logger.specs.Channels.{FileHead, FilesHold, FilesLeft, StandsWith, ChannelStands, channel_run, written_run, files_by, stage_begun, stage_ended, place_marked, end_marked, EndsOnce}
use Rattle.mid_logger.specs.Beside.{LeavesClient, LeavesRunOn}
use Rattle.mid_logger.proofs.OwnSteps.{own_push, own_client_push}
use Rattle.mid_logger.proofs.StageSteps.{call_with}

pub begun_with : (Holds : ChannelRun → List Event → Type 0) (Left : ChannelRun → Fallen → List Event → Type 0) (spec : ChannelSpec) (client : Option ℕ) (opened : ChannelRun) (begun : ℕ) (own : List BufferEntry) (got : List GotEvent) → StandsWith Holds Left spec client (Asking opened) own got
    → StandsWith Holds Left spec client (Writing opened begun) (own ++ Begin opened.start (Ok begun) ∷ []) got
begun_with Holds Left spec client opened begun own got stands = record {
  port = own_push own (Begin opened.start (Ok begun)) stands.port tt tt;
  own_client = own_client_push client own (Begin opened.start (Ok begun)) stands.own_client;
  at = record {
    events = [];
    of = stands.at.of;
    reads = reading_begun own got opened.client spec.id spec.mask opened.request opened.start begun stands.at.asking;
    holds = stands.at.holds;
  };
}

leaves_end : (client : Option ℕ) (start : ℕ) (reply : Result ℕ MarkRefusal) → LeavesClient client (End start reply)
leaves_end None start reply = tt
leaves_end (Some client) start reply = tt

end_beside : (Holds : ChannelRun → List Event → Type 0) (Left : ChannelRun → Fallen → List Event → Type 0) (spec : ChannelSpec) (client : Option ℕ) (stage : ChannelStage) (start : ℕ) (reply : Result ℕ MarkRefusal) (own : List BufferEntry) (got : List GotEvent) → LeavesRunOn stage (End start reply) → StandsWith Holds Left spec client stage own got
    → StandsWith Holds Left spec client stage (own ++ End start reply ∷ []) got
end_beside Holds Left spec client stage start reply own got leaves stands = call_with Holds Left spec client stage own got (End start reply) stands tt tt (leaves_end client start reply) leaves refl

-- the run that is on is ended
writing_ended : (Holds : ChannelRun → List Event → Type 0) (Left : ChannelRun → Fallen → List Event → Type 0) (spec : ChannelSpec) (client : Option ℕ) (opened : ChannelRun) (begun : ℕ) (reply : Result ℕ MarkRefusal) (own : List BufferEntry) (got : List GotEvent) → StandsWith Holds Left spec client (Writing opened begun) own got
    → StandsWith Holds Left spec client (Draining (record { opened = opened; begun = begun; ended = place_marked reply })) (own ++ End opened.start reply ∷ []) got
writing_ended Holds Left spec client opened begun (Ok end) own got stands = record {
  port = own_push own (End opened.start (Ok end)) stands.port tt tt;
  own_client = own_client_push client own (End opened.start (Ok end)) stands.own_client;
  at = record {
    events = stands.at.events;
    of = stands.at.of;
    reads = draining_begun own got opened.client spec.id spec.mask opened.request opened.start begun end stands.at.events stands.at.reads;
    holds = stands.at.holds;
  };
}
writing_ended Holds Left spec client opened begun (Err why) own got stands =
    let more = end_beside Holds Left spec client (Writing opened begun) opened.start (Err why) own got tt stands in
    record { port = more.port; own_client = more.own_client; at = more.at }

-- the reading of the run was broken off before
cut_ended : (own : List BufferEntry) (got : List GotEvent) (client id mask request start begun end : ℕ) (events : List Event) → HasReadOn own got client id mask request start begun events
    → HasCutRun (own ++ End start (Ok end) ∷ []) got client id mask request start begun end events
cut_ended own got client id mask request start begun end events has = record {
  calls = has.calls;
  later = has.later ++ End start (Ok end) ∷ [];
  got_by = has.got_by;
  got_later = has.got_later;
  own_is = ap (λ (l : List BufferEntry). l ++ End start (Ok end) ∷ []) has.own_is ∙ append_assoc has.calls has.later (End start (Ok end) ∷ []);
  got_is = has.got_is;
  stage = inl (has.reads, record { before = has.later; after = []; is = refl });
}

broken_ended : (Holds : ChannelRun → List Event → Type 0) (Left : ChannelRun → Fallen → List Event → Type 0) (spec : ChannelSpec) (client : Option ℕ) (opened : ChannelRun) (begun : ℕ) (ended : Option ℕ) (fallen : Fallen) (reply : Result ℕ MarkRefusal) (own : List BufferEntry) (got : List GotEvent)
    → StandsWith Holds Left spec client (Broken (record { opened = opened; begun = begun; ended = ended }) fallen) own got
    → StandsWith Holds Left spec client (Broken (record { opened = opened; begun = begun; ended = end_marked ended (place_marked reply) }) fallen) (own ++ End opened.start reply ∷ []) got
broken_ended Holds Left spec client opened begun None fallen (Ok end) own got stands = record {
  port = own_push own (End opened.start (Ok end)) stands.port tt tt;
  own_client = own_client_push client own (End opened.start (Ok end)) stands.own_client;
  at =
      let more = end_beside Holds Left spec client (Broken (record { opened = opened; begun = begun; ended = None }) fallen) opened.start (Ok end) own got tt stands in
      record {
        events = stands.at.events;
        of = stands.at.of;
        nothing = more.at.nothing;
        reads = cut_ended own got opened.client spec.id spec.mask opened.request opened.start begun end stands.at.events stands.at.reads;
        left = stands.at.left;
      };
}
broken_ended Holds Left spec client opened begun None fallen (Err why) own got stands = end_beside Holds Left spec client (Broken (record { opened = opened; begun = begun; ended = None }) fallen) opened.start (Err why) own got tt stands
broken_ended Holds Left spec client opened begun (Some end) fallen reply own got stands = end_beside Holds Left spec client (Broken (record { opened = opened; begun = begun; ended = Some end }) fallen) opened.start reply own got tt stands

abbrev KeptEnded : (Holds : ChannelRun → List Event → Type 0) → (Left : ChannelRun → Fallen → List Event → Type 0) → ChannelSpec → Option ℕ → ChannelStage → List BufferEntry → List GotEvent → Result ℕ MarkRefusal → (start : ℕ) → Type 0
KeptEnded Holds Left spec client stage own got reply start = StandsWith Holds Left spec client (stage_ended stage (place_marked reply)) (own ++ End start reply ∷ []) got

pub ended_with : (Holds : ChannelRun → List Event → Type 0) (Left : ChannelRun → Fallen → List Event → Type 0) (spec : ChannelSpec) (client : Option ℕ) (stage : ChannelStage) (opened : ChannelRun) (reply : Result ℕ MarkRefusal) (own : List BufferEntry) (got : List GotEvent) → channel_run stage ≡ Some opened → EndsOnce stage reply
    → StandsWith Holds Left spec client stage own got → KeptEnded Holds Left spec client stage own got reply opened.start
ended_with Holds Left spec client Idle opened reply own got is once stands = end_beside Holds Left spec client Idle opened.start reply own got tt stands
ended_with Holds Left spec client (Asking o) opened reply own got is once stands = end_beside Holds Left spec client (Asking o) opened.start reply own got tt stands
ended_with Holds Left spec client (Writing o begun) opened reply own got is once stands =
    let same : o ≡ opened = cc (is) in
    subst (λ (r : ChannelRun). KeptEnded Holds Left spec client (Writing o begun) own got reply r.start) same (writing_ended Holds Left spec client o begun reply own got stands)
ended_with Holds Left spec client (Draining run) opened (Ok end) own got is once stands = absurd once
ended_with Holds Left spec client (Draining run) opened (Err why) own got is once stands = end_beside Holds Left spec client (Draining run) opened.start (Err why) own got tt stands
ended_with Holds Left spec client (Drained run) opened reply own got is once stands = end_beside Holds Left spec client (Drained run) opened.start reply own got tt stands
ended_with Holds Left spec client (Broken run fallen) opened reply own got is once stands =
    let same : run.opened ≡ opened = cc (is) in
    subst (λ (r : ChannelRun). KeptEnded Holds Left spec client (Broken run fallen) own got reply r.start) same (broken_ended Holds Left spec client run.opened run.begun run.ended fallen reply own got stands)

-- By what the files hold.

pub begun_kept : (spec : ChannelSpec) (client : Option ℕ) (opened : ChannelRun) (begun : ℕ) (head : FileHead) (own : List BufferEntry) (got : List GotEvent) (seen : Seen) → ChannelStands spec client (Asking opened) head own got seen
    → ChannelStands spec client (Writing opened begun) head (own ++ Begin opened.start (Ok begun) ∷ []) got seen
begun_kept spec client opened begun head own got seen stands = begun_with (FilesHold spec head seen) (FilesLeft spec head seen) spec client opened begun own got stands

pub ended_kept : (spec : ChannelSpec) (client : Option ℕ) (stage : ChannelStage) (opened : ChannelRun) (reply : Result ℕ MarkRefusal) (head : FileHead) (own : List BufferEntry) (got : List GotEvent) (seen : Seen) → channel_run stage ≡ Some opened → EndsOnce stage reply
    → ChannelStands spec client stage head own got seen → ChannelStands spec client (stage_ended stage (place_marked reply)) head (own ++ End opened.start reply ∷ []) got seen
ended_kept spec client stage opened reply head own got seen is once stands = ended_with (FilesHold spec head seen) (FilesLeft spec head seen) spec client stage opened reply own got is once stands

-- The file of the run stays the one that is written.

pub begun_written : (stage : ChannelStage) (begun : ℕ) → written_run (stage_begun stage begun) ≡ written_run stage
begun_written (Asking opened) begun = refl
begun_written stage begun = refl

pub ended_written : (stage : ChannelStage) (ended : Option ℕ) → written_run (stage_ended stage ended) ≡ written_run stage
ended_written (Writing opened begun) ended = refl
ended_written (Broken run fallen) ended = refl
ended_written stage ended = refl

pub begun_files : (stage : ChannelStage) (begun : ℕ) → files_by (stage_begun stage begun) ≡ files_by stage
begun_files (Asking opened) begun = refl
begun_files stage begun = refl

pub ended_files : (stage : ChannelStage) (ended : Option ℕ) → files_by (stage_ended stage ended) ≡ files_by stage
ended_files (Writing opened begun) ended = refl
ended_files (Broken run fallen) ended = refl
ended_files stage ended = refl
