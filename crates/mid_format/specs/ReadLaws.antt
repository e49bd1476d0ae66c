-- What follows from what a reader of a run file has given: the bytes of its source are a run file with these events, or
-- they have this fault first.
use Rattle.std.proofs.Common.{◌≡◌, ℕ, List, All, Some}
use Rattle.daq_types.specs.declared.events.Event.{Event}
use Rattle.event.specs.RunFile.{begin_record, end_record, IsRunFile}
use Rattle.event.specs.declared.head.Header.{Header}
use Rattle.mid_format.specs.HasRead.{IsStorable}
use Rattle.mid_format.specs.declared.progress.Progress.{Progress}

-- A run file whose headers can describe it.
pub record IsWholeFile (text : List ℕ) (run time0 : ℕ) (dump0 : List ℕ) (events : List Event) (time1 : ℕ) (dump1 : List ℕ) : Type 0 where
  pub file : IsRunFile text run time0 dump0 events time1 dump1
  pub begin_storable : IsStorable (begin_record run time0 dump0)
  pub end_storable : IsStorable (end_record run time1 dump1)
  pub all_storable : All IsStorable events

-- What was read whole.

-- An end record was read, and there is no fault: the bytes are a run file with these events.
pub record ReadsWhole (text : List ℕ) (progress : Progress) (end : Header) (events : List Event) : Type 0 where
  pub begin : Header
  pub begin_is : progress.begin ≡ Some begin
  pub dump0 : List ℕ
  pub dump1 : List ℕ
  pub whole : IsWholeFile text begin.serial_number begin.time_stamp dump0 events end.time_stamp dump1

-- Bytes are a run file of one run, with one list of events.
pub record AreSameRun (run run' : ℕ) (events events' : List Event) : Type 0 where
  pub run_is : run ≡ run'
  pub events_are : events ≡ events'
