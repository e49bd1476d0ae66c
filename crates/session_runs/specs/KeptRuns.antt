-- What the main thread keeps of a session's runs.
use Rattle.std.specs.Prelude.{◌≡◌, ◌≢◌, ℕ, zero, suc, ◌+◌, ◌==◌, if◌then◌else◌, List, [], ◌∷◌, ◌++◌, Option, Some, None}
use Rattle.std.specs.Option.{option_or, option_to_list}
use Rattle.daq_types.specs.declared.runs.RunState.TheVariants.{Stopped}
use Rattle.daq_types.specs.declared.runs.StartOutcome.{StartOutcome}
use Rattle.daq_types.specs.declared.runs.StartOutcome.TheVariants.{Completed, Refused}
use Rattle.member_model.specs.RunEngines.{ClientTally, EngineEntry}
use Rattle.mid_logger.specs.declared.channel_spec.ChannelSpec.{ChannelSpec}
use Rattle.session_runs.specs.declared.records.RunRecord.{RunRecord}
use Rattle.session_runs.specs.MainKnowledge.{MainKnows}
use Rattle.session_runs.specs.MainSeats.{MainSeen}
use Rattle.session_runs.specs.declared.channels.RunChannel.{RunChannel}
use Rattle.session_runs.specs.declared.on.CurrentRun.{CurrentRun}
use Rattle.session_runs.specs.declared.opening.MemberName.{MemberName}
use Rattle.session_runs.specs.Members.{reporter_count, sender_count}
use Rattle.session_runs.specs.ToldTallies.{fronts_told, ends_told, files_of, reports_told}

-- What the main thread keeps: how many events each front-end has to send in the runs that are started from here on; the
-- records of the runs so far, but for that of the run that is on; the members as it registered them, in the order of their
-- client numbers; the channels of the logger; the run that is on; and its calls on the engine.
pub record RunsSeen : Type 0 where
  pub quota : ℕ
  pub runs : List RunRecord
  pub members : List MemberName
  pub channels : List RunChannel
  pub on : Option CurrentRun
  pub main : MainSeen

-- A run is on exactly where the engine's state is not stopped, and its start is the last.
abbrev pub IsInStep : Option CurrentRun → MainKnows → Type 0
IsInStep None k = k.state ≡ Stopped
IsInStep (Some r) k = (k.state ≢ Stopped) × (k.starts ≡ r.start)

-- Channels.

abbrev pub run_channel : ChannelSpec → RunChannel
run_channel spec = record { number = spec.number; pattern = spec.pattern }

abbrev pub channel_by : (number : ℕ) → ChannelSpec → Option RunChannel
channel_by number spec = if spec.number == number then Some (run_channel spec) else None

-- the first of these channels that has this number
abbrev pub channel_numbered : (number : ℕ) → List ChannelSpec → Option RunChannel
channel_numbered number [] = None
channel_numbered number (spec ∷ specs) = option_or (channel_by number spec) (channel_numbered number specs)

-- those of them that have the first numbers, in the order of their numbers
abbrev pub channels_below : (count : ℕ) → List ChannelSpec → List RunChannel
channels_below zero specs = []
channels_below (suc n) specs = channels_below n specs ++ option_to_list (channel_numbered n specs)

-- the channels in the order of their numbers, which are below 16
abbrev pub channels_of : List ChannelSpec → List RunChannel
channels_of specs = channels_below 16 specs

-- Records.

-- the record of a start that this client refused
abbrev pub refused_start : CurrentRun → StartOutcome → RunRecord
refused_start r outcome = record {
  run = r.run;
  start = r.start;
  time0 = r.time;
  time1 = 0;
  outcome = outcome;
  fronts = [];
  files = [];
  reports = [];
}

-- the record of a run that was stopped at this time, by what the clients told in the end of the stop: so many front-ends,
-- the logger, which is the client behind them, and so many analyzers behind that
abbrev pub record_of : (fronts : ℕ) → List RunChannel → (analyzers : ℕ) → CurrentRun → (time : ℕ) → List ClientTally → RunRecord
record_of fronts channels analyzers r time tallies = record {
  run = r.run;
  start = r.start;
  time0 = r.time;
  time1 = time;
  outcome = Completed;
  fronts = fronts_told fronts tallies;
  files = files_of (ends_told fronts tallies) channels;
  reports = reports_told (fronts + 1) analyzers tallies;
}

-- with these calls on the same engine
abbrev pub with_calls : RunsSeen → List EngineEntry → RunsSeen
with_calls s own = record s { main = record { engine = s.main.engine; own = own } }

-- behind a start that ended so: the run is on, or its record is kept
abbrev pub behind_start : RunsSeen → CurrentRun → StartOutcome → RunsSeen
behind_start s r Completed = record s { on = Some r }
behind_start s r (Refused client why) = record s { runs = s.runs ++ refused_start r (Refused client why) ∷ [] }

-- behind a stop: no run is on, and its record is kept
abbrev pub behind_stop : RunsSeen → CurrentRun → (time : ℕ) → List ClientTally → RunsSeen
behind_stop s r time tallies = record s {
  on = None;
  runs = s.runs ++ record_of (sender_count s.members) s.channels (reporter_count s.members) r time tallies ∷ [];
}
