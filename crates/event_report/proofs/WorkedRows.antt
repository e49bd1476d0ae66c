-- Worked rows: reports that the definitions give, as they were worked out by hand.
use Rattle.std.specs.Prelude.{◌≡◌, List, [], ◌∷◌, ◌++◌, codes, refl, pos, negsuc}
use Rattle.std.specs.Fmt.{digits}
use Rattle.daq_types.specs.declared.events.Event.{Event}
use Rattle.daq_types.specs.declared.runs.Order.{Order}
use Rattle.daq_types.specs.declared.runs.RunState.TheVariants.{Stopped}
use Rattle.event.specs.Generator.{next_state, generated_body, generated_event}
use Rattle.bank_format.specs.Places.{stated_length, stated_flags, stated_name, stated_tid, stated_size, banks_within, banks_in}
use Rattle.bank_format.specs.Faults.{front_fault}
use Rattle.event_report.specs.EventBanks.{are_banks, banks_of}
use Rattle.event_report.specs.Integers.{whole_items}
use Rattle.event_report.specs.declared.integers.IntegerType.TheVariants.{Int8, UInt16, Int64}
use Rattle.event_report.specs.Reports.{report_of}
use Rattle.event_report.specs.Texts.{line, report_text}

abbrev pub order : Order
order = record { run = 1; start = 1; time = 1000; from = Stopped; quota = 1 }

abbrev pub both : List Event
both = generated_event order 1 0 1 ∷ generated_event order 2 0 1 ∷ []

-- the two generated events of ids 1 and 2
pub report_row : (report_of both).banks.rest ≡ 0
unfolding report_of banks_of are_banks front_fault stated_length stated_flags stated_name stated_tid stated_size banks_within banks_in generated_body next_state
report_row = refl

pub text_row : report_text (codes "ANA ") (report_of both) ≡
    line (codes "ANA ") (codes "events 2")
    ++ (line (codes "ANA ") (codes "id 1 count 1") ++ (line (codes "ANA ") (codes "id 2 count 1")
    ++ (line (codes "ANA ") (codes "bank GEN0 UINT32 count 2 sum 4920204933 least 1817669548 greatest 3102535385")
    ++ line (codes "ANA ") (codes "rest ids 0 banks 0 bad 0"))))
unfolding report_of report_text banks_of are_banks front_fault stated_length stated_flags stated_name stated_tid stated_size banks_within banks_in generated_body next_state digits
text_row = refl

-- items with sign, and bytes behind the last whole item
pub items_row : whole_items Int8 (255 ∷ 1 ∷ []) ≡ negsuc 0 ∷ pos 1 ∷ []
items_row = refl

pub odd_row : whole_items UInt16 (1 ∷ 2 ∷ 3 ∷ []) ≡ pos 513 ∷ []
odd_row = refl

pub low_row : whole_items Int64 (0 ∷ 0 ∷ 0 ∷ 0 ∷ 0 ∷ 0 ∷ 0 ∷ 128 ∷ []) ≡ negsuc 9223372036854775807 ∷ []
low_row = refl
