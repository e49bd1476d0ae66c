-- What the files of a run hold that were ended, behind more calls and other changes of files.
use Rattle.std.specs.Prelude.{ℕ, List, [], ◌++◌, Option, Some, None, ◌⊎◌}
use Rattle.std.proofs.Common.{inl, inr}
use Rattle.daq_types.specs.declared.events.Event.{Event}
use Rattle.daq_types.specs.declared.runs.ChannelEnd.{ChannelEnd}
use Rattle.daq_types.specs.declared.runs.ChannelState.{ChannelState}
use Rattle.daq_types.specs.declared.runs.ChannelState.TheVariants.{Broken as IsBroken}
use Rattle.daq_io.specs.Seen.{Seen}
use Rattle.buffer_core.specs.declared.entry.BufferEntry.{BufferEntry}
use Rattle.buffer_core.specs.Ports.{GotEvent}
use Rattle.member_model.proofs.ReadLaws.{run_push}
use Rattle.mid_logger.specs.declared.channel_spec.ChannelSpec.{ChannelSpec}
use Rattle.mid_logger.specs.declared.stage.BegunRun.{BegunRun}
use Rattle.sub_files.specs.declared.open_file.Fallen.{Fallen}
use Rattle.sub_files.specs.Patterns.{piece_name_by}
use Rattle.sub_files.specs.Pieces.{HasPart}
use Rattle.sub_files.specs.Rolls.{fallen_at}
use Rattle.mid_logger.specs.Channels.{FileHead, HasReadUntil, HasReadPart, series_at}
use Rattle.mid_logger.specs.ChannelEnds.{HasClosed, HasBroken, HasLeftSo, HasLeftRead, last_bytes}
use Rattle.mid_logger.specs.Beside.{LeavesFiles, LeavesRunFiles}
use Rattle.sub_files.proofs.FilesStay.{Stay, run_stay, fallen_stay}
use Rattle.mid_logger.proofs.StageSteps.{on_push, cut_push, stay_by}

until_more : (ended : Option ℕ) (own : List BufferEntry) (got : List GotEvent) (client id mask request start begun : ℕ) (events : List Event) (more : List BufferEntry) (gs : List GotEvent)
    → HasReadUntil ended own got client id mask request start begun events → HasReadUntil ended (own ++ more) (got ++ gs) client id mask request start begun events
until_more None own got client id mask request start begun events more gs has = on_push own got client id mask request start begun events more gs has
until_more (Some end) own got client id mask request start begun events more gs has = run_push own got client id mask request start begun end events more gs has

part_more : (ended : Option ℕ) (own : List BufferEntry) (got : List GotEvent) (client id mask request start begun : ℕ) (events : List Event) (more : List BufferEntry) (gs : List GotEvent)
    → HasReadPart ended own got client id mask request start begun events → HasReadPart ended (own ++ more) (got ++ gs) client id mask request start begun events
part_more None own got client id mask request start begun events more gs has = on_push own got client id mask request start begun events more gs has
part_more (Some end) own got client id mask request start begun events more gs has = cut_push own got client id mask request start begun end events more gs has

closed_stays : (spec : ChannelSpec) (head : FileHead) (run : BegunRun) (files time : ℕ) (dump : Option (List ℕ)) (own more : List BufferEntry) (got gs : List GotEvent) (old new : Seen) → HasClosed spec head run files time dump own got old
    → LeavesFiles old new (piece_name_by spec.pattern run.opened.run) files None → HasClosed spec head run files time dump (own ++ more) (got ++ gs) new
closed_stays spec head run files time dump own more got gs old new has leaves = record {
  events = has.events;
  number = has.number;
  began = has.began;
  fine = has.fine;
  reads = until_more run.ended own got run.opened.client spec.id spec.mask run.opened.request run.opened.start run.begun has.events more gs has.reads;
  stored = run_stay old new (series_at spec head) files run.opened.at.taken (last_bytes run.opened.run run.ended time dump) has.events (stay_by spec head run.opened.run files None old new has.number leaves) has.stored;
}

broken_stays : (spec : ChannelSpec) (head : FileHead) (run : BegunRun) (fallen : Fallen) (time : ℕ) (dump : Option (List ℕ)) (own more : List BufferEntry) (got gs : List GotEvent) (old new : Seen) → HasBroken spec head run fallen time dump own got old
    → LeavesFiles old new (piece_name_by spec.pattern run.opened.run) fallen.files None → HasBroken spec head run fallen time dump (own ++ more) (got ++ gs) new
broken_stays spec head run fallen time dump own more got gs old new has leaves =
    let stay : Stay old new (series_at spec head) fallen.files = stay_by spec head run.opened.run fallen.files None old new has.number leaves in
    let last : List ℕ = last_bytes run.opened.run run.ended time dump in
    record {
      events = has.events;
      number = has.number;
      began = has.began;
      fine = has.fine;
      reads = elim has.reads as (λ w. (HasReadPart run.ended (own ++ more) (got ++ gs) run.opened.client spec.id spec.mask run.opened.request run.opened.start run.begun has.events × HasPart new (series_at spec head) fallen [] has.events)
          ⊎ (HasReadUntil run.ended (own ++ more) (got ++ gs) run.opened.client spec.id spec.mask run.opened.request run.opened.start run.begun has.events × HasPart new (series_at spec head) fallen last has.events)) [
            | inl part ↦ inl (part_more run.ended own got run.opened.client spec.id spec.mask run.opened.request run.opened.start run.begun has.events more gs part.0, fallen_stay old new (series_at spec head) fallen [] has.events stay part.1)
            | inr whole ↦ inr (until_more run.ended own got run.opened.client spec.id spec.mask run.opened.request run.opened.start run.begun has.events more gs whole.0, fallen_stay old new (series_at spec head) fallen last has.events stay whole.1)
          ];
    }

so_stays : (state : ChannelState) (told : ChannelEnd) (spec : ChannelSpec) (head : FileHead) (run : BegunRun) (time : ℕ) (dump : Option (List ℕ)) (own more : List BufferEntry) (got gs : List GotEvent) (old new : Seen) → HasLeftSo state told spec head run time dump own got old
    → LeavesFiles old new (piece_name_by spec.pattern run.opened.run) told.files None → HasLeftSo state told spec head run time dump (own ++ more) (got ++ gs) new
so_stays IsBroken told spec head run time dump own more got gs old new has leaves = broken_stays spec head run (fallen_at told.files told.framed) time dump own more got gs old new has leaves
so_stays state told spec head run time dump own more got gs old new has leaves = closed_stays spec head run told.files time dump own more got gs old new has leaves

pub left_beside : (told : ChannelEnd) (spec : ChannelSpec) (head : FileHead) (run : BegunRun) (time : ℕ) (dump : Option (List ℕ)) (own more : List BufferEntry) (got gs : List GotEvent) (old new : Seen) → HasLeftRead told spec head run time dump own got old
    → LeavesRunFiles spec (Some run.opened) None told.files old new → HasLeftRead told spec head run time dump (own ++ more) (got ++ gs) new
left_beside told spec head run time dump own more got gs old new has leaves = so_stays told.state told spec head run time dump own more got gs old new has leaves
