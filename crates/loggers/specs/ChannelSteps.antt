-- What one channel of a logger does where a run is opened, called off, pulled, or ended.
use Rattle.std.specs.Prelude.{◌≡◌, ◌↔◌, ℕ, IsTrue, IsSome, IsErrOf, List, Option, Result, ⊤}
use Rattle.daq_types.specs.declared.runs.ChannelEnd.{ChannelEnd}
use Rattle.daq_types.specs.declared.runs.Order.{Order}
use Rattle.daq_types.specs.declared.runs.Why.{Why}
use Rattle.daq_types.specs.declared.runs.Why.TheVariants.{Exists}
use Rattle.daq_io.specs.Told.{FilesTold}
use Rattle.mid_logger.specs.declared.channel.Channel.{Channel}
use Rattle.mid_logger.specs.declared.pulled.Pulled.{Pulled}
use Rattle.mid_logger.specs.declared.stage.ChannelStage.TheVariants.{Idle}
use Rattle.mid_logger.specs.Patterns.{file_name_by}
use Rattle.mid_logger.specs.Channels.{IsLastOpen, channel_run, written_run, files_by as files_made}
use Rattle.mid_logger.specs.Pulls.{Pulls, PullFaults, PullNames, RisesWith, open_name, name_behind, failed_by}
use Rattle.mid_logger.specs.ChannelTurns.{OpensBy, OpenFaults, OpenClashes, OpenFirst, NotesFault, asking_run, drained_run}
use Rattle.mid_logger.specs.ChannelEnds.{CancelsStanding, RemovesRun, NamesRun, ClosesFile, EndNames, end_of, stage_settled}
use Rattle.loggers.specs.Moments.{ChannelStep}

-- The run of this order is opened, or that is refused. Where names are told, it is refused as taken exactly where there
-- was a file of its name.
pub record OpensChannel (order : Order) (dump : List ℕ) (result : Result ⊤ Why) (s : ChannelStep) : Type 0 where
  pub spec : s.after.spec ≡ s.before.spec
  pub event : s.after.event ≡ s.before.event
  pub opens : OpensBy result s.before.spec order dump
      (record {
        client = s.before.client;
        stage = s.before.stage;
        port = s.port;
        files = s.files.seen;
        faults = s.files.faults;
      })
      (record {
        client = s.after.client;
        stage = s.after.stage;
        port = s.later_port;
        files = s.later_files.seen;
        faults = s.later_files.faults;
      })
  pub exists : IsTrue s.files.seen.names →
      (IsErrOf result (Exists s.before.spec.number)
      ↔ IsSome (s.files.seen.at (file_name_by s.before.spec.pattern order.run)))
  pub failed : NotesFault s.before.failed s.after.failed s.files.faults s.later_files.faults
  pub faults : OpenFaults result s.files.faults s.later_files.faults
  pub clashes : OpenClashes result s.files.clashes s.later_files.clashes
  pub first : OpenFirst result (file_name_by s.before.spec.pattern order.run) s.files.first s.later_files.first

-- The run, if there is one, is called off: its request is cancelled, and all its files are removed. The last one was open under its
-- name, if it was being written.
pub record AbortsChannel (s : ChannelStep) : Type 0 where
  pub channel : s.after ≡ record s.before { stage = Idle; failed = s.after.failed }
  pub cancels : CancelsStanding (asking_run s.before.stage) s.port s.later_port
  pub last : IsLastOpen s.files.seen s.before.spec (written_run s.before.stage)
  pub removes : RemovesRun (channel_run s.before.stage) (written_run s.before.stage) s.before.spec (files_made s.before.stage)
      s.files.seen s.later_files.seen s.files.faults s.later_files.faults
  pub failed : NotesFault s.before.failed s.after.failed s.files.faults s.later_files.faults
  pub clashes : s.later_files.clashes ≡ s.files.clashes
  pub first : NamesRun s.before.spec (channel_run s.before.stage) (written_run s.before.stage) (files_made s.before.stage)
      s.files.first s.later_files.first

-- The channel pulls once, with this answer, where the files of its run begin with this dump.
pub record PullsChannel (dump : List ℕ) (answer : Pulled) (s : ChannelStep) : Type 0 where
  pub spec : s.after.spec ≡ s.before.spec
  pub client : s.after.client ≡ s.before.client
  pub room : s.after.event.room ≡ s.before.event.room
  pub failed : s.after.failed ≡ failed_by answer s.before.failed
  pub pulls : Pulls (record {
    spec = s.before.spec;
    dump = dump;
    stage = s.before.stage;
    later_stage = s.after.stage;
    port = s.port;
    later_port = s.later_port;
    files = s.files.seen;
    later_files = s.later_files.seen;
    answer = answer;
  }) s.before.event.room
  pub faults : PullFaults answer s.files.faults s.later_files.faults
  pub clashes : RisesWith s.before.spec.sub_bytes s.files.clashes s.later_files.clashes
  pub first : PullNames answer (open_name s.before.spec (written_run s.before.stage))
      (name_behind s.before.spec (written_run s.before.stage)) s.files.first s.later_files.first

-- The files of a channel are ended, and this is told of it. Nothing is called on a port.
pub record EndsChannel (time : ℕ) (dump : Option (List ℕ)) (told : ChannelEnd) (before after : Channel) (files later_files : FilesTold) : Type 0 where
  pub channel : after ≡ record before { stage = stage_settled before.stage; failed = after.failed }
  pub told_is : told ≡ end_of before.stage told.state
  pub ends : ClosesFile (drained_run before.stage) before.stage told.state time dump files.seen later_files.seen
      files.faults later_files.faults
  pub failed : NotesFault before.failed after.failed files.faults later_files.faults
  pub clashes : later_files.clashes ≡ files.clashes
  pub first : EndNames before.spec (drained_run before.stage) told.state files.first later_files.first
