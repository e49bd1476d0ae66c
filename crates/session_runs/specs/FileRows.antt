-- The run files of a record: a row for each file, by the numbers of the channels and then by those of the files.
use Rattle.std.specs.Prelude.{◌≡◌, ◌<◌, ◌↔◌, ℕ, zero, suc, nat_lt, if◌then◌else◌, min, flat_map, List, [], ◌∷◌, ◌++◌, slice_get, Some}
use Rattle.daq_types.specs.declared.runs.ChannelEnd.{ChannelEnd}
use Rattle.daq_types.specs.declared.runs.ChannelState.{ChannelState}
use Rattle.daq_types.specs.declared.runs.ChannelState.TheVariants.{Ended}
use Rattle.member_model.specs.LoggerKept.{AreFramedSo}
use Rattle.sub_files.specs.Cuts.{last_number}
use Rattle.sub_files.specs.Patterns.{piece_name_by}
use Rattle.session_runs.specs.declared.records.ChannelFiles.{ChannelFiles}

-- a run file: the number of its channel, its name, and what became of it
pub record FileRow : Type 0 where
  pub channel : ℕ
  pub name : List ℕ
  pub state : ChannelState

-- what became of the file of this number, where this was told of its channel: those that have both records ended well, and what
-- became of the others is what became of the channel
abbrev pub state_of_file : ChannelEnd → (number : ℕ) → ChannelState
state_of_file told number = if nat_lt number told.framed then Ended else told.state

-- the row of the channel's file of this number in the run of this number
abbrev pub file_row : (run : ℕ) → ChannelFiles → (number : ℕ) → FileRow
file_row run files number = record {
  channel = files.channel;
  name = piece_name_by files.pattern run number;
  state = state_of_file files.told number;
}

-- the rows of the channel's first files, so many
abbrev pub rows_below : (run : ℕ) → ChannelFiles → (count : ℕ) → List FileRow
rows_below run files zero = []
rows_below run files (suc n) = rows_below run files n ++ file_row run files n ∷ []

-- how many rows a channel has: one for each of its files, of which there are 10,000 numbers
abbrev pub row_count : ChannelFiles → ℕ
row_count files = min files.told.files (suc last_number)

-- the rows of all files of a channel
abbrev pub channel_rows : (run : ℕ) → ChannelFiles → List FileRow
channel_rows run files = rows_below run files (row_count files)

-- the rows of all files of the run
abbrev pub file_rows : (run : ℕ) → List ChannelFiles → List FileRow
file_rows run files = flat_map (channel_rows run) files

-- the name is that of one of these files of the run
pub record HasFileNamed (run : ℕ) (files : List ChannelFiles) (name : List ℕ) : Type 0 where
  pub place : ℕ
  pub of : ChannelFiles
  pub at : slice_get files place ≡ Some of
  pub number : ℕ
  pub made : number < of.told.files
  pub is : piece_name_by of.pattern run number ≡ name

-- A channel of which so many files are told to be framed as it is due ended exactly where each of its files did.
abbrev pub ChannelsEnd : Type 0
ChannelsEnd = (files : ChannelFiles) → AreFramedSo files.told.state files.told.files files.told.framed →
    (files.told.state ≡ Ended) ↔ ((number : ℕ) → number < files.told.files → state_of_file files.told number ≡ Ended)
