-- The keys of the run's parameters, and the database with which a session opens.
use Rattle.std.specs.Prelude.{ℕ, Bool, List, [], ◌∷◌, Some, None, codes, pos}
use Rattle.odb_value.specs.declared.items.Item.{Item}
use Rattle.odb_value.specs.declared.items.Item.TheVariants.{Int32, UInt32}
use Rattle.odb_value.specs.Items.{tid_of}
use Rattle.odb_value.specs.Values.{HeldValue}
use Rattle.odb_value.specs.ValueChanges.{new_held, put_in}
use Rattle.odb_tree.specs.declared.rows.Row.{Row}
use Rattle.odb_tree.specs.Rows.{no_rows, Rows}
use Rattle.odb_tree.specs.Calls.{after_set_all}
use Rattle.odb_runinfo.specs.declared.keys.RunKey.{RunKey}
use Rattle.odb_runinfo.specs.declared.keys.RunKey.TheVariants.{State, RunNumber, StartTime, StopTime}

-- the name of a key
abbrev pub key_name : RunKey → List ℕ
key_name State = codes "State"
key_name RunNumber = codes "Run number"
key_name StartTime = codes "Start time binary"
key_name StopTime = codes "Stop time binary"

-- its path
abbrev pub key_path : RunKey → List (List ℕ)
key_path key = codes "Runinfo" ∷ key_name key ∷ []

-- the path of the key in which a front-end says how many events it sent
abbrev pub sent_path : (front : List ℕ) → List (List ℕ)
sent_path front = codes "Equipment" ∷ front ∷ codes "Events sent" ∷ []

-- the value of a new key of one item, with this item in it
abbrev pub value_of_one : Item → HeldValue
value_of_one item = put_in (new_held (tid_of item) 1) 0 item

-- the database with one key more
abbrev pub with_key : Rows → RunKey → Item → Rows
with_key s key item = after_set_all s (key_path key) (value_of_one item)

-- the row of a key with one number of 4 bytes
abbrev pub key_row : (number : ℕ) → RunKey → Item → Row
key_row number key item = record { number = number; path = key_path key; value = Some (record { tid = tid_of item; size = 4; items = item ∷ [] }) }

-- A database with the run's parameters and nothing else: the directory, and in it the state, 1, and 0 for the run number and
-- for the times of the start and the stop. It keeps links or not.
abbrev pub opened_rows : (links : Bool) → Rows
opened_rows links = record no_rows {
  rows =
      record { number = 1; path = codes "Runinfo" ∷ []; value = None }
      ∷ key_row 2 State (Int32 (pos 1))
      ∷ key_row 3 RunNumber (Int32 (pos 0))
      ∷ key_row 4 StartTime (UInt32 0)
      ∷ key_row 5 StopTime (UInt32 0)
      ∷ [];
  next = 6;
  links = links;
}
