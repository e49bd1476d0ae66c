-- The run files that a session closed: framed pieces that join to all events of front-ends in the run for which the channel asks.
use Rattle.std.specs.Prelude.{◌≡◌, ℕ, List, length, slice_get, Some, Contains}
use Rattle.daq_types.specs.declared.events.Event.{Event}
use Rattle.daq_io.specs.Seen.{Seen}
use Rattle.turn_lock.specs.Closing.{history_of}
use Rattle.buffer_core.specs.Window.{Sent}
use Rattle.buffer_core.specs.Runs.{segment}
use Rattle.sub_files.specs.Cuts.{events_of_pieces}
use Rattle.mid_logger.specs.declared.channel_spec.ChannelSpec.{ChannelSpec}
use Rattle.session_runs.specs.declared.records.ChannelFiles.{ChannelFiles}
use Rattle.session_runs.specs.declared.records.FrontTally.{FrontTally}
use Rattle.session_runs.specs.declared.records.RunRecord.{RunRecord}
use Rattle.session_setup.specs.Setup.{Declared}
use Rattle.session_setup.specs.declared.declared.FrontDeclared.{FrontDeclared}
use Rattle.session_objects.specs.declared.record.BufferRecord.{BufferRecord}
use Rattle.daq_session.specs.ToldRecords.{IsFileOfPiece, IsFrontEvent, IsSentInRun, events_of_run}

-- The files that the record of this run has of a channel are, byte for byte, framed pieces: each is closed, and has the begin record of
-- the run with the dump of its start, the events of a piece, and an end record, which in the last file has the dump of the stop. The
-- pieces join to all events between the run's marks in the channel's buffer for which the channel asks. Each event there was sent in
-- the run by a front-end of the buffer; and all events that a front-end of the buffer sent in the run stand there, each once, in its
-- order.
pub record AreFramedPieces (declared : Declared) (buffers : List BufferRecord) (files : Seen) (run : RunRecord) (quota : ℕ)
    (first_dump last_dump : List ℕ) (written : ChannelFiles) : Type 0 where
  pub channel : ChannelSpec
  pub is_declared : Contains declared.channels channel
  pub number : written.channel ≡ channel.number
  pub pattern : written.pattern ≡ channel.pattern
  pub buffer : BufferRecord
  pub there : slice_get buffers channel.buffer ≡ Some buffer
  pub pieces : List (List Event)
  pub each : length pieces ≡ written.told.files
  pub framed : (number : ℕ) → (piece : List Event) → slice_get pieces number ≡ Some piece →
      IsFileOfPiece files run first_dump last_dump written number piece
  pub join : events_of_pieces pieces ≡ events_of_run channel buffer run.start
  pub sent : (index place : ℕ) → (x : Sent) → slice_get (segment (history_of buffer.closed) run.start) index ≡ Some (place, x) →
      IsFrontEvent declared run quota first_dump channel.buffer x.event
  pub fronts : (client : ℕ) → (d : FrontDeclared) → slice_get declared.fronts client ≡ Some d →
      (tally : FrontTally) × (slice_get run.fronts client ≡ Some tally) × IsSentInRun client d buffers run quota first_dump tally
