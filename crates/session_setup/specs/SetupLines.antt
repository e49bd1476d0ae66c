-- What the lines `buffer`, `equip`, `channel` and `analyzer` refuse, and what they leave where they are taken.
use Rattle.std.specs.Prelude.{◌≡◌, ℕ, ◌&&◌, Bool, true, not, if◌then◌else◌, nat_le, nat_lt, List, [], ◌∷◌, ◌++◌, length, Option, Some, None, is_none, unwrap_or, codes}
use Rattle.odb_value.specs.Paths.{same_name}
use Rattle.daq_types.specs.Names.{is_compressed}
use Rattle.event.specs.Events.{any}
use Rattle.mid_logger.specs.Patterns.{NamePattern, IsTextOf, IsPatternText}
use Rattle.mid_logger.specs.declared.channel_spec.ChannelSpec.{ChannelSpec}
use Rattle.daq_types.specs.declared.runs.Kind.{Kind}
use Rattle.session_setup.specs.declared.declared.AnalyzerDeclared.{AnalyzerDeclared}
use Rattle.session_setup.specs.declared.declared.BufferDeclared.{BufferDeclared}
use Rattle.session_setup.specs.declared.declared.FrontDeclared.{FrontDeclared}
use Rattle.session_setup.specs.declared.refusals.SetupRefusal.{SetupRefusal}
use Rattle.session_setup.specs.declared.refusals.SetupRefusal.TheVariants.{Opened, Exists, BadBufferSize, TooMany, SameName, BadId, SameId, NoBuffer, BadChannel, SameChannel, BadPattern, Compressed}
use Rattle.session_setup.specs.Setup.{Declared, system_name, most_in_all, is_buffer_size, is_front_id, total_size, buffer_named, has_buffer, has_front_id, has_channel, is_member_name}
use Rattle.session_setup.specs.Refusals.{LineTests, first_setup_refusal, refused_if, NameRead, name_refusal}

-- the buffers where the first has this size
abbrev pub first_resized : ℕ → List BufferDeclared → List BufferDeclared
first_resized size [] = []
first_resized size (system ∷ others) = record system { size = size } ∷ others

-- the buffers behind `buffer NAME SIZE`: SYSTEM has this size, or there is one more, behind the others
abbrev pub buffers_with : List BufferDeclared → (name : List ℕ) (size : ℕ) → List BufferDeclared
buffers_with buffers name size =
    if same_name system_name name then first_resized size buffers
    else (buffers ++ record { name = name; size = size } ∷ [])

-- a buffer of this name is there, and it is not SYSTEM, whose size may be set
abbrev pub is_taken_name : List BufferDeclared → List ℕ → Bool
is_taken_name buffers name = not (same_name system_name name) && has_buffer buffers name

-- the tests of `buffer NAME SIZE` in their order, each with what it refuses
abbrev pub buffer_tests : Declared → NameRead → (name : List ℕ) (size : ℕ) → LineTests
buffer_tests d read name size =
    refused_if d.opened Opened
    ∷ name_refusal read
    ∷ refused_if (is_taken_name d.buffers name) Exists
    ∷ refused_if (not (is_buffer_size size)) BadBufferSize
    ∷ refused_if (nat_lt 8 (length (buffers_with d.buffers name size))) (TooMany 8)
    ∷ refused_if (nat_lt most_in_all (total_size (buffers_with d.buffers name size))) (TooMany most_in_all)
    ∷ []

-- why it is refused
abbrev pub buffer_refusal : Declared → NameRead → (name : List ℕ) (size : ℕ) → Option SetupRefusal
buffer_refusal d read name size = first_setup_refusal (buffer_tests d read name size)

-- the declarations behind it
abbrev pub with_buffer : Declared → (name : List ℕ) (size : ℕ) → Declared
with_buffer d name size = record d { buffers = buffers_with d.buffers name size }

-- the number of the buffer of this name, which is there
abbrev pub number_of_buffer : Declared → List ℕ → ℕ
number_of_buffer d name = unwrap_or (buffer_named d.buffers name) 0

-- the tests of `equip NAME ID MASK BUFFER LIMIT`
abbrev pub equip_tests : Declared → NameRead → (name : List ℕ) (id : ℕ) (buffer : List ℕ) → LineTests
equip_tests d read name id buffer =
    refused_if d.opened Opened
    ∷ name_refusal read
    ∷ refused_if (is_member_name d name) SameName
    ∷ refused_if (not (is_front_id id)) BadId
    ∷ refused_if (has_front_id d.fronts id) SameId
    ∷ refused_if (not (has_buffer d.buffers buffer)) NoBuffer
    ∷ refused_if (nat_le 32 (length d.fronts)) (TooMany 32)
    ∷ []

abbrev pub equip_refusal : Declared → NameRead → (name : List ℕ) (id : ℕ) (buffer : List ℕ) → Option SetupRefusal
equip_refusal d read name id buffer = first_setup_refusal (equip_tests d read name id buffer)

abbrev pub front_declared : (name : List ℕ) → (id mask buffer limit : ℕ) → FrontDeclared
front_declared name id mask buffer limit = record { name = name; id = id; mask = mask; buffer = buffer; limit = limit }

-- the declarations behind it: one front-end more, behind the others
abbrev pub with_front : Declared → (name : List ℕ) → (id mask : ℕ) → (buffer : List ℕ) → (limit : ℕ) → Declared
with_front d name id mask buffer limit = record d {
  fronts = d.fronts ++ front_declared name id mask (number_of_buffer d buffer) limit ∷ [];
}

-- a channel has a limit for the bytes of a file
abbrev pub is_limited : (sub_bytes : ℕ) → Bool
is_limited sub_bytes = nat_lt 0 sub_bytes

-- what a text is as a pattern of a channel, which has a place for the file's number exactly where that has a limit; or that it is none
abbrev pub IsPatternRead : List ℕ → (limited : Bool) → Option NamePattern → Type 0
IsPatternRead text limited (Some pattern) = IsTextOf text limited pattern
IsPatternRead text limited None = ¬ IsPatternText text limited

-- the tests of `channel N PATTERN BUFFER ID MASK SUBBYTES`
abbrev pub channel_tests : Declared → (number : ℕ) → Option NamePattern → (text buffer : List ℕ) → LineTests
channel_tests d number read text buffer =
    refused_if d.opened Opened
    ∷ refused_if (nat_lt 15 number) BadChannel
    ∷ refused_if (has_channel d.channels number) SameChannel
    ∷ refused_if (is_none read) BadPattern
    ∷ refused_if (is_compressed text) Compressed
    ∷ refused_if (not (has_buffer d.buffers buffer)) NoBuffer
    ∷ []

abbrev pub channel_refusal : Declared → ℕ → Option NamePattern → (text buffer : List ℕ) → Option SetupRefusal
channel_refusal d number read text buffer = first_setup_refusal (channel_tests d number read text buffer)

abbrev pub channel_declared : (number : ℕ) → NamePattern → (buffer id mask sub_bytes : ℕ) → ChannelSpec
channel_declared number pattern buffer id mask sub_bytes =
    record { number = number; pattern = pattern; buffer = buffer; id = id; mask = mask; sub_bytes = sub_bytes }

-- the declarations behind it: one channel more, behind the others
abbrev pub with_channel : Declared → (number : ℕ) → NamePattern → (buffer : List ℕ) → (id mask sub_bytes : ℕ) → Declared
with_channel d number pattern buffer id mask sub_bytes = record d {
  channels = d.channels ++ channel_declared number pattern (number_of_buffer d buffer) id mask sub_bytes ∷ [];
}

-- the tests of `analyzer NAME BUFFER ID MASK KIND`
abbrev pub analyzer_tests : Declared → NameRead → (name buffer : List ℕ) → LineTests
analyzer_tests d read name buffer =
    refused_if d.opened Opened
    ∷ name_refusal read
    ∷ refused_if (is_member_name d name) SameName
    ∷ refused_if (not (has_buffer d.buffers buffer)) NoBuffer
    ∷ refused_if (nat_le 8 (length d.analyzers)) (TooMany 8)
    ∷ []

abbrev pub analyzer_refusal : Declared → NameRead → (name buffer : List ℕ) → Option SetupRefusal
analyzer_refusal d read name buffer = first_setup_refusal (analyzer_tests d read name buffer)

abbrev pub analyzer_declared : (name : List ℕ) → (buffer id mask : ℕ) → Kind → AnalyzerDeclared
analyzer_declared name buffer id mask kind =
    record { name = name; buffer = buffer; id = id; mask = mask; kind = kind }

-- the declarations behind it: one analyzer more, behind the others
abbrev pub with_analyzer : Declared → (name buffer : List ℕ) → (id mask : ℕ) → Kind → Declared
with_analyzer d name buffer id mask kind = record d {
  analyzers = d.analyzers ++ analyzer_declared name (number_of_buffer d buffer) id mask kind ∷ [];
}

-- the front-end of a session that declares none: `equip FE 1 0 SYSTEM`
abbrev pub default_front : FrontDeclared
default_front = record { name = codes "FE"; id = 1; mask = 0; buffer = 0; limit = 4294967295 }

-- the channel of a session that declares none: `channel 0 run%05d.mid SYSTEM 65535 65535`
abbrev pub default_channel : ChannelSpec
default_channel = record {
  number = 0;
  pattern = record { front = codes "run"; middle = codes ".mid"; back = None };
  buffer = 0;
  id = any;
  mask = any;
  sub_bytes = 0;
}

-- a list, or this one item where it is empty
abbrev pub or_default : {X : Type 0} → X → List X → List X
or_default item [] = item ∷ []
or_default item (first ∷ rest) = first ∷ rest

-- the declarations with which a session opens
abbrev pub opened_with_defaults : Declared → Declared
opened_with_defaults d = record d {
  opened = true;
  fronts = or_default default_front d.fronts;
  channels = or_default default_channel d.channels;
}
