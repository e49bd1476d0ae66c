-- What clients told in the end of a transition, as the record of a run keeps it.
use Rattle.std.specs.Prelude.{ℕ, zero, suc, ◌+◌, ◌==◌, if◌then◌else◌, List, [], ◌∷◌, ◌++◌, slice_get, Option, Some, None}
use Rattle.std.specs.Option.{option_map, option_or, option_to_list}
use Rattle.daq_types.specs.declared.runs.ChannelEnd.{ChannelEnd}
use Rattle.transitions.specs.declared.answers.Tally.TheVariants.{Front, Channels, Report}
use Rattle.member_model.specs.RunEngines.{Tally, ClientTally}
use Rattle.session_runs.specs.declared.records.FrontTally.{FrontTally}
use Rattle.session_runs.specs.declared.records.ChannelFiles.{ChannelFiles}
use Rattle.session_runs.specs.declared.records.ReportTally.{ReportTally}
use Rattle.session_runs.specs.declared.channels.RunChannel.{RunChannel}

-- what a front-end's tally tells
abbrev pub front_in : (client : ℕ) → Tally → Option FrontTally
front_in client (Front sent ended) = Some (record { client = client; sent = sent; ended = ended })
front_in client tally = None

-- what one told, where it is this client
abbrev pub front_by : (client : ℕ) → ClientTally → Option FrontTally
front_by client told = if told.client == client then front_in client told.tally else None

-- what this client told that it sent: its first such tally
abbrev pub front_told : (client : ℕ) → List ClientTally → Option FrontTally
front_told client [] = None
front_told client (told ∷ tallies) = option_or (front_by client told) (front_told client tallies)

-- what the front-ends told, of which there are so many: they are the first clients
abbrev pub fronts_told : (count : ℕ) → List ClientTally → List FrontTally
fronts_told zero tallies = []
fronts_told (suc n) tallies = fronts_told n tallies ++ option_to_list (front_told n tallies)

-- what an analyzer's tally tells
abbrev pub report_from : (client : ℕ) → Tally → Option ReportTally
report_from client (Report report) = Some (record { client = client; report = report })
report_from client tally = None

-- what one told, where it is this client
abbrev pub report_by : (client : ℕ) → ClientTally → Option ReportTally
report_by client told = if told.client == client then report_from client told.tally else None

-- what this client told that it counted: its first such tally
abbrev pub report_told : (client : ℕ) → List ClientTally → Option ReportTally
report_told client [] = None
report_told client (told ∷ tallies) = option_or (report_by client told) (report_told client tallies)

-- what the analyzers told, of which there are so many: they are the clients from this number on
abbrev pub reports_told : (first count : ℕ) → List ClientTally → List ReportTally
reports_told first zero tallies = []
reports_told first (suc n) tallies = reports_told first n tallies ++ option_to_list (report_told (first + n) tallies)

-- what a logger's tally tells of its channels, by their numbers
abbrev pub ends_in : Tally → Option (List ChannelEnd)
ends_in (Channels ends) = Some ends
ends_in tally = None

abbrev pub ends_by : (client : ℕ) → ClientTally → Option (List ChannelEnd)
ends_by client told = if told.client == client then ends_in told.tally else None

-- what the logger told of its channels: its first such tally
abbrev pub ends_told : (logger : ℕ) → List ClientTally → Option (List ChannelEnd)
ends_told logger [] = None
ends_told logger (told ∷ tallies) = option_or (ends_by logger told) (ends_told logger tallies)

-- a channel's files, of which this was told
abbrev pub ended_files : RunChannel → ChannelEnd → ChannelFiles
ended_files channel told = record { channel = channel.number; pattern = channel.pattern; told = told }

-- the channel's files, where the logger told of it
abbrev pub channel_told : List ChannelEnd → RunChannel → Option ChannelFiles
channel_told ends channel = option_map (ended_files channel) (slice_get ends channel.number)

-- the files of these channels
abbrev pub files_told : List ChannelEnd → List RunChannel → List ChannelFiles
files_told ends [] = []
files_told ends (channel ∷ channels) = option_to_list (channel_told ends channel) ++ files_told ends channels

-- none, where the logger told nothing
abbrev pub files_of : Option (List ChannelEnd) → List RunChannel → List ChannelFiles
files_of None channels = []
files_of (Some ends) channels = files_told ends channels
