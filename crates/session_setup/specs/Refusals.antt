-- The refusals of a line that declares something, in their order.
use Rattle.std.specs.Prelude.{◌≡◌, ℕ, Bool, true, false, List, [], ◌∷◌, Option, Some, None, Result, Ok, Err}
use Rattle.daq_types.specs.Names.{IsName}
use Rattle.daq_types.specs.NameFaults.{IsNameFault}
use Rattle.daq_types.specs.declared.names.NameRefusal.{NameRefusal}
use Rattle.session_setup.specs.declared.refusals.SetupRefusal.{SetupRefusal}
use Rattle.session_setup.specs.declared.refusals.SetupRefusal.TheVariants.{BadName}

-- what each test of a line refuses, in their order
abbrev pub LineTests : Type 0
LineTests = List (Option SetupRefusal)

-- the first refusal of a list
abbrev pub first_setup_refusal : LineTests → Option SetupRefusal
first_setup_refusal [] = None
first_setup_refusal (None ∷ rest) = first_setup_refusal rest
first_setup_refusal (Some refusal ∷ rest) = Some refusal

-- the refusal where the test holds
abbrev pub refused_if : Bool → SetupRefusal → Option SetupRefusal
refused_if true refusal = Some refusal
refused_if false refusal = None

-- the answer that is this refusal, if there is one
abbrev pub ok_unless : Option SetupRefusal → Result (Unit {0}) SetupRefusal
ok_unless None = Ok tt
ok_unless (Some refusal) = Err refusal

-- a name, or why a text is none
abbrev pub NameRead : Type 0
NameRead = Result (List ℕ) NameRefusal

-- what a text is as a name
abbrev pub IsNameRead : List ℕ → NameRead → Type 0
IsNameRead text (Ok name) = IsName text × (name ≡ text)
IsNameRead text (Err refusal) = IsNameFault text refusal

-- the refusal of a text that is no name
abbrev pub name_refusal : NameRead → Option SetupRefusal
name_refusal (Ok name) = None
name_refusal (Err refusal) = Some (BadName refusal)
