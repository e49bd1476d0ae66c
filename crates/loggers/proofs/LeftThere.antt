-- The files of a run that was left are there.
use Rattle.std.specs.Prelude.{◌<◌, ℕ, IsTrue, IsSome, List, [], Option}
use Rattle.std.proofs.Common.{subst, inl, inr}
use Rattle.daq_types.specs.declared.runs.ChannelEnd.{ChannelEnd}
use Rattle.daq_types.specs.declared.runs.ChannelState.{ChannelState}
use Rattle.daq_types.specs.declared.runs.ChannelState.TheVariants.{Broken as IsBroken, Ended, NoEnd, NoMark, Idle as IsIdle, Writing as IsWriting}
use Rattle.daq_io.specs.Seen.{Seen}
use Rattle.buffer_core.specs.declared.entry.BufferEntry.{BufferEntry}
use Rattle.buffer_core.specs.Ports.{GotEvent}
use Rattle.sub_files.specs.declared.open_file.Fallen.{Fallen}
use Rattle.sub_files.specs.Patterns.{piece_name_by}
use Rattle.sub_files.specs.Rolls.{fallen_at}
use Rattle.sub_files.proofs.FilesStay.{run_there, fallen_there}
use Rattle.mid_logger.specs.declared.channel_spec.ChannelSpec.{ChannelSpec}
use Rattle.mid_logger.specs.declared.stage.BegunRun.{BegunRun}
use Rattle.mid_logger.specs.Channels.{FileHead, series_at}
use Rattle.mid_logger.specs.ChannelEnds.{HasClosed, HasBroken, HasLeftSo, HasLeftRead, last_bytes}

closed_there : (spec : ChannelSpec) (head : FileHead) (run : BegunRun) (files time : ℕ) (dump : Option (List ℕ)) (own : List BufferEntry) (got : List GotEvent) (seen : Seen) → HasClosed spec head run files time dump own got seen → IsTrue seen.names → (k : ℕ) → k < files
    → IsSome (seen.at (piece_name_by spec.pattern run.opened.run k))
closed_there spec head run files time dump own got seen closed told k below =
    let there : IsSome (seen.at (piece_name_by spec.pattern head.run k)) = run_there seen (series_at spec head) files run.opened.at.taken (last_bytes run.opened.run run.ended time dump) closed.events k closed.stored told below in
    subst (λ (n : ℕ). IsSome (seen.at (piece_name_by spec.pattern n k))) closed.number there

broken_there : (spec : ChannelSpec) (head : FileHead) (run : BegunRun) (fallen : Fallen) (time : ℕ) (dump : Option (List ℕ)) (own : List BufferEntry) (got : List GotEvent) (seen : Seen) → HasBroken spec head run fallen time dump own got seen → IsTrue seen.names → (k : ℕ) → k < fallen.files
    → IsSome (seen.at (piece_name_by spec.pattern run.opened.run k))
broken_there spec head run fallen time dump own got seen broken told k below =
    let there : IsSome (seen.at (piece_name_by spec.pattern head.run k)) = elim broken.reads as (λ w. IsSome (seen.at (piece_name_by spec.pattern head.run k))) [
      | inl part ↦ fallen_there seen (series_at spec head) fallen [] broken.events k part.1 told below
      | inr whole ↦ fallen_there seen (series_at spec head) fallen (last_bytes run.opened.run run.ended time dump) broken.events k whole.1 told below
    ] in
    subst (λ (n : ℕ). IsSome (seen.at (piece_name_by spec.pattern n k))) broken.number there

so_there : (state : ChannelState) (end : ChannelEnd) (spec : ChannelSpec) (head : FileHead) (run : BegunRun) (time : ℕ) (dump : Option (List ℕ)) (own : List BufferEntry) (got : List GotEvent) (seen : Seen) → HasLeftSo state end spec head run time dump own got seen → IsTrue seen.names
    → (k : ℕ) → k < end.files → IsSome (seen.at (piece_name_by spec.pattern run.opened.run k))
so_there IsBroken end spec head run time dump own got seen left told k below = broken_there spec head run (fallen_at end.files end.framed) time dump own got seen left told k below
so_there IsIdle end spec head run time dump own got seen left told k below = closed_there spec head run end.files time dump own got seen left told k below
so_there IsWriting end spec head run time dump own got seen left told k below = closed_there spec head run end.files time dump own got seen left told k below
so_there Ended end spec head run time dump own got seen left told k below = closed_there spec head run end.files time dump own got seen left told k below
so_there NoEnd end spec head run time dump own got seen left told k below = closed_there spec head run end.files time dump own got seen left told k below
so_there NoMark end spec head run time dump own got seen left told k below = closed_there spec head run end.files time dump own got seen left told k below

-- where names are told, each file of a run that was left is there
pub left_there : (end : ChannelEnd) (spec : ChannelSpec) (head : FileHead) (run : BegunRun) (time : ℕ) (dump : Option (List ℕ)) (own : List BufferEntry) (got : List GotEvent) (seen : Seen) → HasLeftRead end spec head run time dump own got seen → IsTrue seen.names
    → (k : ℕ) → k < end.files → IsSome (seen.at (piece_name_by spec.pattern run.opened.run k))
left_there end spec head run time dump own got seen left told k below = so_there end.state end spec head run time dump own got seen left told k below
