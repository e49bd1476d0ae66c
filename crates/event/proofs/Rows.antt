-- Worked rows: bytes that the definitions give, as they were worked out by hand from the formats.
use Rattle.std.specs.Prelude.{◌≡◌, ℕ, List, [], ◌∷◌, ◌++◌, length, refl, true, false}
use Rattle.daq_types.specs.declared.events.Event.{Event}
use Rattle.daq_types.specs.declared.runs.Order.{Order}
use Rattle.daq_types.specs.declared.runs.RunState.TheVariants.{Stopped}
use Rattle.event.specs.Events.{header_bytes, encoding, matches, slot_of_length, is_reserved}
use Rattle.event.specs.RunFile.{run_file}
use Rattle.event.specs.Generator.{next_state, generated_body, generated_event, generated_events, generated_words, first_state}

-- the order of the first run, begun at time 1000
abbrev pub first_order : Order
first_order = record { run = 1; start = 1; time = 1000; from = Stopped; quota = 3 }

-- id 1, mask 0, serial 1, time 0 and 8 bytes of data
pub header_row : header_bytes 1 0 1 0 8 ≡ 1 ∷ 0 ∷ 0 ∷ 0 ∷ 1 ∷ 0 ∷ 0 ∷ 0 ∷ 0 ∷ 0 ∷ 0 ∷ 0 ∷ 8 ∷ 0 ∷ 0 ∷ 0 ∷ []
unfolding header_bytes
header_row = refl

-- the first event of front-end 1
abbrev pub first_event_bytes : List ℕ
first_event_bytes =
    1 ∷ 0 ∷ 0 ∷ 0 ∷ 1 ∷ 0 ∷ 0 ∷ 0 ∷ 0xE8 ∷ 3 ∷ 0 ∷ 0 ∷ 0x18 ∷ 0 ∷ 0 ∷ 0
    ∷ 0x10 ∷ 0 ∷ 0 ∷ 0 ∷ 1 ∷ 0 ∷ 0 ∷ 0 ∷ 0x47 ∷ 0x45 ∷ 0x4E ∷ 0x30 ∷ 6 ∷ 0 ∷ 4 ∷ 0 ∷ 0xAC ∷ 0x6F ∷ 0x57 ∷ 0x6C ∷ 0 ∷ 0 ∷ 0 ∷ 0 ∷ []

pub first_event_row : encoding (generated_event first_order 1 0 1) ≡ first_event_bytes
unfolding header_bytes generated_body next_state
first_event_row = refl

-- the first words of front-ends 1 and 2
pub first_words_row : generated_words 1 (first_state 1 1 1) ++ generated_words 1 (first_state 2 1 1) ≡ 1817669548 ∷ 3102535385 ∷ []
unfolding next_state
first_words_row = refl

-- a run without events, from time 1000 to time 1010
pub empty_run_row : run_file 1 1000 [] [] 1010 [] ≡
    0 ∷ 0x80 ∷ 0x4D ∷ 0x49 ∷ 1 ∷ 0 ∷ 0 ∷ 0 ∷ 0xE8 ∷ 3 ∷ 0 ∷ 0 ∷ 0 ∷ 0 ∷ 0 ∷ 0
    ∷ 1 ∷ 0x80 ∷ 0x4D ∷ 0x49 ∷ 1 ∷ 0 ∷ 0 ∷ 0 ∷ 0xF2 ∷ 3 ∷ 0 ∷ 0 ∷ 0 ∷ 0 ∷ 0 ∷ 0 ∷ []
unfolding header_bytes
empty_run_row = refl

-- runs of one event and of three
pub lengths_row : length (run_file 1 1000 [] (generated_events first_order 1 0 1) 1010 []) ∷ length (run_file 1 1000 [] (generated_events first_order 1 0 3) 1010 []) ∷ [] ≡ 72 ∷ 160 ∷ []
unfolding header_bytes generated_body next_state
lengths_row = refl

-- the widest request matches an event without a mask; mask 1 does not match mask 2; mask 0 matches nothing
abbrev pub bare_event : ℕ → Event
bare_event mask = record { id = 1; mask = mask; serial = 0; time = 0; body = [] }

pub matches_row : matches 65535 65535 (bare_event 0) ∷ matches 1 1 (bare_event 2) ∷ matches 1 0 (bare_event 65535) ∷ matches 1 3 (bare_event 2) ∷ matches 2 65535 (bare_event 2) ∷ []
    ≡ true ∷ false ∷ false ∷ true ∷ false ∷ []
unfolding matches
matches_row = refl

-- slots of 0, 8, 72, 232 and 233 bytes of data
pub slots_row : slot_of_length 0 ∷ slot_of_length 8 ∷ slot_of_length 72 ∷ slot_of_length 232 ∷ slot_of_length 233 ∷ [] ≡ 24 ∷ 32 ∷ 96 ∷ 256 ∷ 264 ∷ []
unfolding slot_of_length
slots_row = refl

-- the ids of the records and of fragments are reserved, a message's is not
pub reserved_row : is_reserved 0x8000 ∷ is_reserved 0x8001 ∷ is_reserved 0x8002 ∷ is_reserved 0xC000 ∷ is_reserved 0xDFFF ∷ is_reserved 0xE000 ∷ []
    ≡ true ∷ true ∷ false ∷ true ∷ true ∷ false ∷ []
reserved_row = refl
