-- The bytes of a whole run file.
use Rattle.std.specs.Prelude.{◌≡◌, ◌≢◌, ℕ, ◌^◌, ◌≤◌, List, ◌++◌, length, All}
use Rattle.daq_types.specs.declared.events.Event.{Event}
use Rattle.event.specs.Events.{encoding, all_encoded, begin_id, end_id, event_limit, record_limit}

-- the mask of both records, "MI"
abbrev pub record_mask : ℕ
record_mask = 18765

-- the record that begins a run's file: the run number as serial number, and a dump of the database as data
abbrev pub begin_record : (run time : ℕ) (dump : List ℕ) → Event
begin_record run time dump = record { id = begin_id; mask = record_mask; serial = run; time = time; body = dump }

-- the record that ends it
abbrev pub end_record : (run time : ℕ) (dump : List ℕ) → Event
end_record run time dump = record { id = end_id; mask = record_mask; serial = run; time = time; body = dump }

-- what a run file begins with: the begin record and some events
abbrev pub begun_file : (run time : ℕ) (dump : List ℕ) → List Event → List ℕ
begun_file run time dump events = encoding (begin_record run time dump) ++ all_encoded events

-- a run file: the begin record, the events, the end record, and nothing more
abbrev pub run_file : (run time0 : ℕ) (dump0 : List ℕ) → List Event → (time1 : ℕ) (dump1 : List ℕ) → List ℕ
run_file run time0 dump0 events time1 dump1 = begun_file run time0 dump0 events ++ encoding (end_record run time1 dump1)

-- an event that may stand between the two records
pub record IsFileEvent (e : Event) : Type 0 where
  pub begins_none : e.id ≢ begin_id
  pub ends_none : e.id ≢ end_id
  pub small : length e.body ≤ event_limit

-- the bytes are a run file with these events between these records
pub record IsRunFile (bytes : List ℕ) (run time0 : ℕ) (dump0 : List ℕ) (events : List Event) (time1 : ℕ) (dump1 : List ℕ) : Type 0 where
  pub is_file : bytes ≡ run_file run time0 dump0 events time1 dump1
  pub begins_small : length dump0 ≤ record_limit
  pub ends_small : length dump1 ≤ record_limit
  pub fine : All IsFileEvent events
  pub counted : length bytes ≤ 2 ^ 62
