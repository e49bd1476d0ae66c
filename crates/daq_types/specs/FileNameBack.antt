-- The fields of a file's name, from its text.
use Rattle.std.specs.Prelude.{◌≡◌, ℕ, ◌-◌, List, ◌++◌, length, take, replicate, refl}
use Rattle.daq_types.specs.Names.{IsPadded, IsFileName, padded_back, length-take-padded}
use Rattle.daq_types.specs.declared.file_names.FileName.TheInside.{Inside}

-- what every name of a file keeps
pub record IsStoredFileName (n : Inside) : Type 0 where
  pub padded : IsPadded 255 n.bytes n.len
  pub name : IsFileName (take n.len n.bytes)

abbrev pub stored_file_name : List ℕ → Inside
stored_file_name text = record { bytes = text ++ replicate (255 - length text) 0; len = length text }

pub stored_file_name_back : (n : Inside) → IsStoredFileName n → stored_file_name (take n.len n.bytes) ≡ n
stored_file_name_back n h = rw (padded_back 255 n.bytes n.len h.padded, length-take-padded 255 n.bytes n.len h.padded) refl
