-- Samples of cuts: three events of 40, 40 and 48 bytes in files that begin with 189 bytes and have at most 300.
use Rattle.std.specs.Prelude.{ℕ, Bool, true, false, List, [], ◌∷◌, replicate}
use Rattle.daq_types.specs.declared.events.Event.{Event}
use Rattle.sub_files.specs.Cuts.{IsCut}

-- an event with so many bytes behind its header of 16
abbrev pub event_of_size : (size : ℕ) → Event
event_of_size size = record { id = 1; mask = 0; serial = 1; time = 1000; body = replicate size 0 }

abbrev pub first_event : Event
first_event = event_of_size 24

abbrev pub third_event : Event
third_event = event_of_size 32

abbrev pub IsSampleCut : (taken : Bool) → (pieces : List (List Event)) → Type 0
IsSampleCut taken pieces = IsCut 300 189 (first_event ∷ first_event ∷ third_event ∷ []) taken pieces

-- two events and one
abbrev pub two_and_one : List (List Event)
two_and_one = (first_event ∷ first_event ∷ []) ∷ (third_event ∷ []) ∷ []

-- one and two
abbrev pub one_and_two : List (List Event)
one_and_two = (first_event ∷ []) ∷ (first_event ∷ third_event ∷ []) ∷ []

abbrev pub all_in_one : List (List Event)
all_in_one = (first_event ∷ first_event ∷ third_event ∷ []) ∷ []

-- The events are cut where the third has no room; all in one piece only where the next name was found taken. They are in no
-- other way cut: not earlier, and into no empty piece.
pub record CutsSamples : Type 0 where
  pub at_limit : IsSampleCut false two_and_one
  pub where_taken : IsSampleCut true all_in_one
  pub not_past : ¬ IsSampleCut false all_in_one
  pub not_early : (taken : Bool) → ¬ IsSampleCut taken one_and_two
  pub none_empty_first : (taken : Bool) → ¬ IsSampleCut taken ([] ∷ two_and_one)
  pub none_empty_last : (taken : Bool) → ¬ IsSampleCut taken ((first_event ∷ first_event ∷ []) ∷ (third_event ∷ []) ∷ [] ∷ [])
  pub some : (taken : Bool) → ¬ IsSampleCut taken []
