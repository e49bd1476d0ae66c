-- Built events: what one of them is made of.
use Rattle.std.specs.Prelude.{◌≡◌, ◌≤◌, ℕ, List, [], ◌∷◌, ◌++◌, slice_get, length, Some}
use Rattle.daq_types.specs.declared.events.Event.{Event}
use Rattle.bank_format.specs.declared.formats.Format.TheVariants.{Bank32A}
use Rattle.bank_format.specs.BankAreas.{BankValue, plain_area, plain_banks}
use Rattle.bank_format.specs.Faults.{HoldsBanks}

-- The data of each of these events are a bank area, in some format, and these are the banks of all, those of one event behind
-- those of the events before it.
abbrev pub JoinsBanks : List Event → List BankValue → Type 0
JoinsBanks [] banks = banks ≡ []
JoinsBanks (e ∷ es) banks = (bs : List BankValue) × (rest : List BankValue) × HoldsBanks bs e.body × JoinsBanks es rest × (banks ≡ bs ++ rest)

-- the data of each are a bank area
abbrev pub CanJoin : List Event → Type 0
CanJoin parts = (banks : List BankValue) × JoinsBanks parts banks

-- their banks, and those are written plainly within so many bytes
abbrev pub JoinsWithin : List Event → (limit : ℕ) → Type 0
JoinsWithin parts limit = (banks : List BankValue) × JoinsBanks parts banks × (length (plain_banks Bank32A banks) ≤ limit)

-- One event of all these: with this id and mask, this serial number, the time of the first of them, and as data the banks of
-- all, in order, written plainly.
pub record IsBuilt (id mask k : ℕ) (parts : List Event) (e : Event) : Type 0 where
  pub banks : List BankValue
  pub joins : JoinsBanks parts banks
  pub first : Event
  pub first_is : slice_get parts 0 ≡ Some first
  pub built : e ≡ record { id = id; mask = mask; serial = k; time = first.time; body = plain_banks Bank32A banks }

-- so many bytes the banks make that these data hold, written plainly
abbrev pub IsBanksLen : (body : List ℕ) → (len : ℕ) → Type 0
IsBanksLen body len = (bs : List BankValue) → HoldsBanks bs body → len ≡ length (plain_area Bank32A bs)

-- so many bytes of data the event built of all these would have
abbrev pub IsBuiltSize : List Event → (size : ℕ) → Type 0
IsBuiltSize parts size = (banks : List BankValue) × JoinsBanks parts banks × (size ≡ length (plain_banks Bank32A banks))
