-- What a channel keeps, and what its files have, where a run is called off or its files are ended.
use Rattle.std.specs.Prelude.{◌≡◌, ◌+◌, ◌-◌, ℕ, List, [], ◌∷◌, ◌++◌, Option, Some, None}
use Rattle.std.proofs.Common.{arith, sym, subst, inl, inr}
use Rattle.daq_types.specs.declared.events.Event.{Event}
use Rattle.daq_types.specs.declared.runs.ChannelState.{ChannelState}
use Rattle.daq_types.specs.declared.runs.ChannelState.TheVariants.{Broken as IsBroken}
use Rattle.daq_io.specs.declared.folder.FileState.TheVariants.{Closed}
use Rattle.daq_io.specs.Seen.{Seen, Closes}
use Rattle.buffer_core.specs.declared.entry.BufferEntry.{BufferEntry}
use Rattle.buffer_core.specs.declared.entry.BufferEntry.TheVariants.{Cancel}
use Rattle.buffer_core.specs.Ports.{Access, GotEvent}
use Rattle.member_model.specs.ReadRuns.{IsAsking}
use Rattle.member_model.proofs.ReadLaws.{asking_for}
use Rattle.mid_logger.specs.declared.channel_spec.ChannelSpec.{ChannelSpec}
use Rattle.mid_logger.specs.declared.stage.BegunRun.{BegunRun}
use Rattle.mid_logger.specs.declared.stage.ChannelRun.{ChannelRun}
use Rattle.mid_logger.specs.declared.stage.ChannelStage.{ChannelStage}
use Rattle.mid_logger.specs.declared.stage.ChannelStage.TheVariants.{Idle, Asking, Writing, Draining, Drained, Broken}
use Rattle.sub_files.specs.declared.open_file.Fallen.{Fallen}
use Rattle.sub_files.specs.Pieces.{HasPart}
use Rattle.sub_files.specs.RecordFiles.{ClosesPart}
use Rattle.sub_files.specs.Rolls.{fallen_at}
use Rattle.sub_files.proofs.RunEnds.{closed_run, closed_part}
use Rattle.mid_logger.specs.Channels.{FileHead, IsOwnClient, AsksNothing, FilesHold, FilesLeft, DrainedWith, BrokenWith, StandsWith, ChannelStands, series_at, CancelsRequest}
use Rattle.mid_logger.specs.ChannelTurns.{asking_run, drained_run}
use Rattle.mid_logger.specs.ChannelEnds.{CancelsStanding, ClosesRead, ClosesFile, HasClosed, HasBroken, HasLeft, left_run, end_of, last_bytes, stage_settled}
use Rattle.mid_logger.proofs.OwnSteps.{own_push, own_client_push}
use Rattle.mid_logger.proofs.ReadSteps.{asks_still, asks_no_more}

-- Calling off.

cancelled : (Holds Other : ChannelRun → List Event → Type 0) (Left More : ChannelRun → Fallen → List Event → Type 0) (spec : ChannelSpec) (client : Option ℕ) (stage : ChannelStage) (opened : ChannelRun) (a b : Access) → client ≡ Some opened.client → IsAsking a.own opened.client spec.id spec.mask opened.request → CancelsRequest a b opened
    → StandsWith Holds Left spec client stage a.own a.got → StandsWith Other More spec client Idle b.own b.got
cancelled Holds Other Left More spec client stage opened a b of asking cancels stands =
    let cancel : BufferEntry = Cancel opened.client opened.request cancels.0 in
    let now : StandsWith Other More spec client Idle (a.own ++ cancel ∷ []) a.got = record {
      port = own_push a.own cancel stands.port tt (subst (λ (c : Option ℕ). IsOwnClient c a.own) of stands.own_client);
      own_client = own_client_push client a.own cancel stands.own_client;
      at = subst (λ (c : Option ℕ). AsksNothing c (a.own ++ cancel ∷ [])) (sym of) (asks_no_more a.own opened.client spec.id spec.mask opened.request cancels.0 asking);
    } in
    rw (cancels.1.own, cancels.1.got_is) now

idle_with : (Holds Other : ChannelRun → List Event → Type 0) (Left More : ChannelRun → Fallen → List Event → Type 0) (spec : ChannelSpec) (client : Option ℕ) (stage : ChannelStage) (a b : Access) → b ≡ a → AsksNothing client a.own → StandsWith Holds Left spec client stage a.own a.got → StandsWith Other More spec client Idle b.own b.got
idle_with Holds Other Left More spec client stage a b same nothing stands =
    let now : StandsWith Other More spec client Idle a.own a.got = record { port = stands.port; own_client = stands.own_client; at = nothing } in
    rw same now

pub off_with : (Holds Other : ChannelRun → List Event → Type 0) (Left More : ChannelRun → Fallen → List Event → Type 0) (spec : ChannelSpec) (client : Option ℕ) (stage : ChannelStage) (a b : Access) → CancelsStanding (asking_run stage) a b → StandsWith Holds Left spec client stage a.own a.got
    → StandsWith Other More spec client Idle b.own b.got
off_with Holds Other Left More spec client Idle a b cancels stands = idle_with Holds Other Left More spec client Idle a b cancels stands.at stands
off_with Holds Other Left More spec client (Asking opened) a b cancels stands = cancelled Holds Other Left More spec client (Asking opened) opened a b stands.at.of (asking_for a.own opened.client spec.id spec.mask opened.request opened.start stands.at.asking) cancels stands
off_with Holds Other Left More spec client (Writing opened begun) a b cancels stands =
    cancelled Holds Other Left More spec client (Writing opened begun) opened a b stands.at.of (asks_still None a.own a.got opened.client spec.id spec.mask opened.request opened.start begun stands.at.events stands.at.reads) cancels stands
off_with Holds Other Left More spec client (Draining run) a b cancels stands =
    cancelled Holds Other Left More spec client (Draining run) run.opened a b stands.at.of (asks_still run.ended a.own a.got run.opened.client spec.id spec.mask run.opened.request run.opened.start run.begun stands.at.events stands.at.reads) cancels stands
off_with Holds Other Left More spec client (Drained run) a b cancels stands = idle_with Holds Other Left More spec client (Drained run) a b cancels stands.at.nothing stands
off_with Holds Other Left More spec client (Broken run fallen) a b cancels stands = idle_with Holds Other Left More spec client (Broken run fallen) a b cancels stands.at.nothing stands

pub called_off : (spec : ChannelSpec) (client : Option ℕ) (stage : ChannelStage) (head : FileHead) (a b : Access) (seen later : Seen) → CancelsStanding (asking_run stage) a b → ChannelStands spec client stage head a.own a.got seen
    → ChannelStands spec client Idle head b.own b.got later
called_off spec client stage head a b seen later cancels stands = off_with (FilesHold spec head seen) (FilesHold spec head later) (FilesLeft spec head seen) (FilesLeft spec head later) spec client stage a b cancels stands

-- Ending the files.

same_files : (spec : ChannelSpec) (client : Option ℕ) (stage : ChannelStage) (head : FileHead) (own : List BufferEntry) (got : List GotEvent) (old new : Seen) → new ≡ old → ChannelStands spec client stage head own got old → ChannelStands spec client stage head own got new
same_files spec client stage head own got old new same stands = rw same stands

pub settled : (spec : ChannelSpec) (client : Option ℕ) (stage : ChannelStage) (state : ChannelState) (time : ℕ) (dump : Option (List ℕ)) (head : FileHead) (own : List BufferEntry) (got : List GotEvent) (old new : Seen) (faults later : ℕ)
    → ClosesFile (drained_run stage) stage state time dump old new faults later → ChannelStands spec client stage head own got old → ChannelStands spec client (stage_settled stage) head own got new
settled spec client Idle state time dump head own got old new faults later closes stands = record { port = stands.port; own_client = stands.own_client; at = stands.at }
settled spec client (Asking opened) state time dump head own got old new faults later closes stands = same_files spec client (Asking opened) head own got old new closes.1 stands
settled spec client (Writing opened begun) state time dump head own got old new faults later closes stands = same_files spec client (Writing opened begun) head own got old new closes.1 stands
settled spec client (Draining run) state time dump head own got old new faults later closes stands = same_files spec client (Draining run) head own got old new closes.1 stands
settled spec client (Drained run) state time dump head own got old new faults later closes stands = record { port = stands.port; own_client = stands.own_client; at = stands.at.nothing }
settled spec client (Broken run fallen) state time dump head own got old new faults later closes stands = record { port = stands.port; own_client = stands.own_client; at = stands.at.nothing }

whole_left : (spec : ChannelSpec) (client : Option ℕ) (run : BegunRun) (head : FileHead) (time : ℕ) (dump : Option (List ℕ)) (own : List BufferEntry) (got : List GotEvent) (old new : Seen) → DrainedWith (FilesHold spec head old) spec client run own got
    → Closes old new run.opened.at.file Closed (last_bytes run.opened.run run.ended time dump) → HasClosed spec head run (run.opened.at.sub + 1) time dump own got new
whole_left spec client run head time dump own got old new at closes = record {
  events = at.events;
  number = at.holds.run;
  began = at.holds.time;
  fine = at.holds.fine;
  reads = at.reads;
  stored = closed_run old new (series_at spec head) run.opened.at (last_bytes run.opened.run run.ended time dump) at.events at.holds.holds closes;
}

part_left : (spec : ChannelSpec) (client : Option ℕ) (run : BegunRun) (head : FileHead) (time : ℕ) (dump : Option (List ℕ)) (own : List BufferEntry) (got : List GotEvent) (old new : Seen) → DrainedWith (FilesHold spec head old) spec client run own got
    → ClosesPart old new run.opened.at.file (last_bytes run.opened.run run.ended time dump) → HasBroken spec head run (fallen_at (run.opened.at.sub + 1) ((run.opened.at.sub + 1) - 1)) time dump own got new
part_left spec client run head time dump own got old new at part =
    let last : List ℕ = last_bytes run.opened.run run.ended time dump in
    let same : run.opened.at.sub ≡ (run.opened.at.sub + 1) - 1 = omega arith in
    record {
      events = at.events;
      number = at.holds.run;
      began = at.holds.time;
      fine = at.holds.fine;
      reads = inr (
        at.reads,
        subst (λ (n : ℕ). HasPart new (series_at spec head) (fallen_at (run.opened.at.sub + 1) n) last at.events) same (closed_part old new (series_at spec head) run.opened.at last at.events at.holds.holds part),
      );
    }

read_left : (spec : ChannelSpec) (client : Option ℕ) (run : BegunRun) (state : ChannelState) (head : FileHead) (time : ℕ) (dump : Option (List ℕ)) (own : List BufferEntry) (got : List GotEvent) (old new : Seen) (faults later : ℕ) → DrainedWith (FilesHold spec head old) spec client run own got
    → ClosesRead state run time dump old new faults later → HasLeft (Some run) (end_of (Drained run) state) spec head time dump own got new
read_left spec client run IsBroken head time dump own got old new faults later at closes = part_left spec client run head time dump own got old new at closes.0
read_left spec client run state head time dump own got old new faults later at closes = whole_left spec client run head time dump own got old new at closes.1

broken_left : (spec : ChannelSpec) (client : Option ℕ) (run : BegunRun) (fallen : Fallen) (head : FileHead) (time : ℕ) (dump : Option (List ℕ)) (own : List BufferEntry) (got : List GotEvent) (seen : Seen) → BrokenWith (FilesLeft spec head seen) spec client run fallen own got
    → HasLeft (Some run) (end_of (Broken run fallen) IsBroken) spec head time dump own got seen
broken_left spec client run fallen head time dump own got seen at =
    record { events = at.events; number = at.left.run; began = at.left.time; fine = at.left.fine; reads = inl (at.reads, at.left.part) }

pub left_by : (spec : ChannelSpec) (client : Option ℕ) (stage : ChannelStage) (state : ChannelState) (time : ℕ) (dump : Option (List ℕ)) (head : FileHead) (own : List BufferEntry) (got : List GotEvent) (old new : Seen) (faults later : ℕ)
    → ClosesFile (drained_run stage) stage state time dump old new faults later → ChannelStands spec client stage head own got old → HasLeft (left_run stage) (end_of stage state) spec head time dump own got new
left_by spec client (Drained run) state time dump head own got old new faults later closes stands = read_left spec client run state head time dump own got old new faults later stands.at closes
left_by spec client (Broken run fallen) state time dump head own got old new faults later closes stands = rw (closes.0, closes.1) (broken_left spec client run fallen head time dump own got old stands.at)
left_by spec client stage state time dump head own got old new faults later closes stands = tt
