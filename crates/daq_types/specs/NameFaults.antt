-- Why a text is no name.
use Rattle.std.specs.Prelude.{◌≡◌, ℕ, ◌<◌, List, [], length}
use Rattle.daq_types.specs.Names.{IsFirstBreak}
use Rattle.daq_types.specs.declared.names.NameRefusal.{NameRefusal}
use Rattle.daq_types.specs.declared.names.NameRefusal.TheVariants.{EmptyName, LongName, BadByte}

-- the refusal is the right one for this text
abbrev pub IsNameFault : List ℕ → NameRefusal → Type 0
IsNameFault text EmptyName = text ≡ []
IsNameFault text LongName = 31 < length text
IsNameFault text (BadByte at) = IsFirstBreak text at
