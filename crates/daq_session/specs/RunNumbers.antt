-- The run number of a session's database, whenever the main thread got it.
use Rattle.std.specs.Prelude.{◌≡◌, ◌-◌, ℕ, pos, List, ◌∷◌, Result, Ok}
use Rattle.odb_value.specs.Values.{HeldValue}
use Rattle.odb_value.specs.declared.items.Item.{Item}
use Rattle.odb_value.specs.declared.items.Item.TheVariants.{Int32}
use Rattle.odb_tree.specs.declared.refusals.OdbRefusal.{OdbRefusal}
use Rattle.odb_watch.specs.declared.entry.WatchEntry.{WatchEntry}
use Rattle.odb_watch.specs.declared.entry.WatchEntry.TheVariants.{Call}
use Rattle.odb_watch.specs.DatabasePorts.{IsSettled}
use Rattle.odb_runinfo.specs.RunNumberKept.{HoldsNumber}
use Rattle.odb_runinfo.specs.RunSets.{number_asked}

-- Where the call gets the run number and memory was not wanting, it was given an INT32 with an item 0.
abbrev pub GivesNumber : WatchEntry → Type 0
GivesNumber entry = (got : Result HeldValue OdbRefusal) → entry ≡ Call (number_asked got) → IsSettled got →
    (held : HeldValue) × (got ≡ Ok held) × HoldsNumber held

-- The number that a start got for its run: item 0 is one less than the run's number.
pub record IsNumberBefore (run : ℕ) (got : Result HeldValue OdbRefusal) : Type 0 where
  pub held : HeldValue
  pub is : got ≡ Ok held
  pub more : List Item
  pub items : held.items ≡ Int32 (pos (run - 1)) ∷ more
