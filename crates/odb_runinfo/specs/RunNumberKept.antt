-- The run number is always there: what a session's calls keep of it.
use Rattle.std.specs.Prelude.{◌≡◌, ℕ, ℤ, false, List, [], ◌∷◌, Some, None, codes}
use Rattle.daq_types.specs.declared.types.Tid.TheVariants as tid
use Rattle.odb_value.specs.Paths.{same_name}
use Rattle.odb_value.specs.declared.items.Item.{Item}
use Rattle.odb_value.specs.declared.items.Item.TheVariants.{Int32}
use Rattle.odb_value.specs.Values.{HeldValue}
use Rattle.odb_tree.specs.declared.rows.Row.{Row}
use Rattle.odb_tree.specs.declared.entry.DatabaseEntry.{DatabaseEntry}
use Rattle.odb_tree.specs.declared.entry.DatabaseEntry.TheVariants.{Delete}
use Rattle.odb_tree.specs.Rows.{row_at}
use Rattle.odb_runinfo.specs.declared.keys.RunKey.TheVariants.{RunNumber}
use Rattle.odb_runinfo.specs.RunKeys.{key_path}

abbrev pub run_directory : List (List ℕ)
run_directory = codes "Runinfo" ∷ []

-- the value is of the type INT32, and has an item 0
pub record HoldsNumber (v : HeldValue) : Type 0 where
  pub type : v.tid ≡ tid.Int32
  pub first : ℤ
  pub more : List Item
  pub items : v.items ≡ Int32 first ∷ more

-- the directory is there, and in it the run number
pub record HasRunNumber (rows : List Row) : Type 0 where
  pub dir : Row
  pub dir_at : row_at rows run_directory ≡ Some dir
  pub no_value : dir.value ≡ None
  pub key : Row
  pub key_at : row_at rows (key_path RunNumber) ≡ Some key
  pub held : HeldValue
  pub value : key.value ≡ Some held
  pub number : HoldsNumber held

-- a path whose first name is another
abbrev pub StandsApart : List (List ℕ) → Type 0
StandsApart [] = ⊥
StandsApart (name ∷ names) = same_name name (codes "Runinfo") ≡ false

-- a call as a session makes it: it removes nothing below `/Runinfo`
abbrev pub SparesRuninfo : DatabaseEntry → Type 0
SparesRuninfo (Delete p reply) = StandsApart p
SparesRuninfo entry = Unit {0}

-- all calls are such
abbrev pub AllSpareRuninfo : List (ℕ × DatabaseEntry) → Type 0
AllSpareRuninfo [] = Unit {0}
AllSpareRuninfo (e ∷ es) = SparesRuninfo e.1 × AllSpareRuninfo es
