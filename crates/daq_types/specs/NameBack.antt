-- The fields of a name, from its text.
use Rattle.std.specs.Prelude.{◌≡◌, ℕ, ◌-◌, List, ◌++◌, length, take, replicate, refl}
use Rattle.daq_types.specs.Names.{IsPadded, IsName, padded_back, length-take-padded}
use Rattle.daq_types.specs.declared.names.Name.TheInside.{Inside}

-- what every name keeps
pub record IsStoredName (n : Inside) : Type 0 where
  pub padded : IsPadded 31 n.bytes n.len
  pub name : IsName (take n.len n.bytes)

abbrev pub stored_name : List ℕ → Inside
stored_name text = record { bytes = text ++ replicate (31 - length text) 0; len = length text }

pub stored_name_back : (n : Inside) → IsStoredName n → stored_name (take n.len n.bytes) ≡ n
stored_name_back n h = rw (padded_back 31 n.bytes n.len h.padded, length-take-padded 31 n.bytes n.len h.padded) refl
