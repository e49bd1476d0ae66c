-- The report over a list of events.
use Rattle.std.specs.Prelude.{◌≡◌, ℕ, List, [], length, map, count_by, is_none}
use Rattle.daq_types.specs.declared.events.Event.{Event}
use Rattle.event.specs.Events.{all_encoded}
use Rattle.event_report.specs.EventBanks.{banks_of, integer_banks}
use Rattle.event_report.specs.Tallies.{IdTally, id_tally, BankTally, bank_tally}

-- what a report says
pub record Totals : Type 0 where
  -- how long the events are in a run file, headers and data: not printed, but what may still be added depends on it
  pub bytes : ℕ
  pub events : ℕ
  pub ids : IdTally
  pub banks : BankTally
  -- events whose data are no bank area
  pub bad : ℕ

-- the report over these events, in this order
unfoldable pub report_of : List Event → Totals
report_of events =
    record {
      bytes = length (all_encoded events);
      events = length events;
      ids = id_tally (map (λ e. e.id) events);
      banks = bank_tally (integer_banks events);
      bad = count_by (λ e. is_none (banks_of e.body)) events;
    }

-- a report of no events
abbrev pub IsBlank : Totals → Type 0
IsBlank report = report ≡ report_of []
