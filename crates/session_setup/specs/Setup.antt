-- What a session has before it opens: its buffers, its front-ends, the channels of its logger, and its analyzers.
use Rattle.std.specs.Prelude.{◌≡◌, ℕ, ◌%◌, ◌<◌, ◌≤◌, ◌==◌, ◌&&◌, ◌||◌, Bool, true, false, nat_le, nat_eq, IsTrue, List, [], ◌∷◌, length, map, take, sum_by, position, All, Option, codes}
use Rattle.std.specs.List.{list_any, IsDistinct}
use Rattle.odb_value.specs.Paths.{same_name}
use Rattle.mid_logger.specs.declared.channel_spec.ChannelSpec.{ChannelSpec}
use Rattle.session_setup.specs.declared.declared.AnalyzerDeclared.{AnalyzerDeclared}
use Rattle.session_setup.specs.declared.declared.BufferDeclared.{BufferDeclared}
use Rattle.session_setup.specs.declared.declared.DeclaredLists.{DeclaredLists}
use Rattle.session_setup.specs.declared.declared.FrontDeclared.{FrontDeclared}

-- The declarations of a session, each list in their order, and whether the session was opened. A buffer's number is
-- its place in the list.
pub record Declared : Type 0 where
  pub opened : Bool
  pub buffers : List BufferDeclared
  pub fronts : List FrontDeclared
  pub channels : List ChannelSpec
  pub analyzers : List AnalyzerDeclared

-- the name of the buffer that is there from the beginning, and its size then
abbrev pub system_name : List ℕ
system_name = codes "SYSTEM"

abbrev pub system_size : ℕ
system_size = 1048576

-- the most bytes that all buffers have together
abbrev pub most_in_all : ℕ
most_in_all = 1073741824

-- a session for which nothing is declared yet
abbrev pub nothing_declared : Declared
nothing_declared = record {
  opened = false;
  buffers = record { name = system_name; size = system_size } ∷ [];
  fronts = [];
  channels = [];
  analyzers = [];
}

-- the declarations of these lists, with which a session opens
abbrev pub declared_by : DeclaredLists → Declared
declared_by lists = record {
  opened = true;
  buffers = lists.buffers;
  fronts = lists.fronts;
  channels = lists.channels;
  analyzers = lists.analyzers;
}

-- these declarations, in lists for themselves
abbrev pub lists_declared : Declared → DeclaredLists
lists_declared declared = record {
  buffers = declared.buffers;
  fronts = declared.fronts;
  channels = declared.channels;
  analyzers = declared.analyzers;
}

-- a size that a buffer may have, in bytes
abbrev pub is_buffer_size : ℕ → Bool
is_buffer_size size = (size % 8 == 0) && (nat_le 256 size && nat_le size 268435456)

-- an id that a front-end's events may have
abbrev pub is_front_id : ℕ → Bool
is_front_id id = nat_le 1 id && nat_le id 32767

-- how many bytes the buffers have together
abbrev pub total_size : List BufferDeclared → ℕ
total_size = sum_by (λ buffer. buffer.size)

-- the number of the buffer of this name; none where there is none
abbrev pub buffer_named : List BufferDeclared → List ℕ → Option ℕ
buffer_named buffers name = position (λ buffer. same_name buffer.name name) buffers

-- a buffer has this name
abbrev pub has_buffer : List BufferDeclared → List ℕ → Bool
has_buffer buffers name = list_any (λ buffer. same_name buffer.name name) buffers

-- a front-end has this name; an analyzer has it; a front-end sends events of this id; a channel has this number
abbrev pub front_named : List FrontDeclared → List ℕ → Bool
front_named fronts name = list_any (λ front. same_name front.name name) fronts

abbrev pub analyzer_named : List AnalyzerDeclared → List ℕ → Bool
analyzer_named analyzers name = list_any (λ analyzer. same_name analyzer.name name) analyzers

abbrev pub has_front_id : List FrontDeclared → ℕ → Bool
has_front_id fronts id = list_any (λ front. front.id == id) fronts

abbrev pub has_channel : List ChannelSpec → ℕ → Bool
has_channel channels number = list_any (λ channel. channel.number == number) channels

-- a front-end or an analyzer has this name
abbrev pub is_declared_name : Declared → List ℕ → Bool
is_declared_name d name = front_named d.fronts name || analyzer_named d.analyzers name

-- a member of the session has it: one of them, or the logger
abbrev pub is_member_name : Declared → List ℕ → Bool
is_member_name d name = same_name (codes "Logger") name || is_declared_name d name

-- What all declarations keep: SYSTEM is the first buffer; sizes, ids and numbers are in their ranges, and their lists
-- within the limits; no two buffers, front-ends, channels or analyzers are called the same; and each front-end,
-- channel and analyzer has a buffer that is there.
pub record AreSound (d : Declared) : Type 0 where
  pub system : map (λ buffer. buffer.name) (take 1 d.buffers) ≡ system_name ∷ []
  pub few_buffers : length d.buffers ≤ 8
  pub sizes : All (λ buffer. IsTrue (is_buffer_size buffer.size)) d.buffers
  pub total : total_size d.buffers ≤ most_in_all
  pub buffer_names : IsDistinct same_name (map (λ buffer. buffer.name) d.buffers)
  pub few_fronts : length d.fronts ≤ 32
  pub front_ids : All (λ front. IsTrue (is_front_id front.id)) d.fronts
  pub front_names : IsDistinct same_name (map (λ front. front.name) d.fronts)
  pub ids_differ : IsDistinct nat_eq (map (λ front. front.id) d.fronts)
  pub front_buffers : All (λ front. front.buffer < length d.buffers) d.fronts
  pub channel_numbers : All (λ channel. channel.number < 16) d.channels
  pub numbers_differ : IsDistinct nat_eq (map (λ channel. channel.number) d.channels)
  pub channel_buffers : All (λ channel. channel.buffer < length d.buffers) d.channels
  pub few_analyzers : length d.analyzers ≤ 8
  pub analyzer_names : IsDistinct same_name (map (λ analyzer. analyzer.name) d.analyzers)
  pub analyzer_buffers : All (λ analyzer. analyzer.buffer < length d.buffers) d.analyzers
