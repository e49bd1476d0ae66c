-- Counts of faults and of clashes, by the answer of a call.
use Rattle.std.specs.Prelude.{◌≡◌, ◌⊎◌, ℕ, ◌+◌, ◌-◌, ◌^◌, ◌≤◌, min, List, Option, Some, None, Result, OnOk, OnErr, IfErr}
use Rattle.daq_io.specs.declared.folder.NameRefused.{NameRefused}
use Rattle.daq_io.specs.declared.folder.NameRefused.TheVariants.{Exists, Missing, Failed}

-- The count rose. A count that stands at its type's end is also said to have risen.
abbrev pub Rose : ℕ → ℕ → Type 0
Rose old new = min (old + 1) (2 ^ 64 - 1) ≤ new

-- The count rose by so many, or by more; by none it did not fall. One that stands at its type's end is said to have risen by
-- any number.
abbrev pub RoseBy : (many old new : ℕ) → Type 0
RoseBy many old new = min (old + many) (2 ^ 64 - 1) ≤ new

-- The count rose by just so many; or it stands at its type's end, which that many would reach or pass.
abbrev pub RoseJustBy : (many old new : ℕ) → Type 0
RoseJustBy many old new = (new ≡ old + many) ⊎ ((2 ^ 64 - 1 ≤ old + many) × (2 ^ 64 - 1 ≤ new))

-- What a call whose only error is a fault does to the count of faults: it rose exactly where the call failed.
pub record CountsFault {T E : Type 0} (old new : ℕ) (result : Result T E) : Type 0 where
  pub later : old ≤ new
  pub done : OnOk result (new ≡ old)
  pub failed : OnErr result (Rose old new)

-- the count of faults after a refusal: risen at a failure, and as it was at a clash of names
abbrev pub FaultBy : NameRefused → ℕ → ℕ → Type 0
FaultBy Exists old new = new ≡ old
FaultBy Missing old new = new ≡ old
FaultBy Failed old new = Rose old new

-- the count of clashes after a refusal: risen at a clash of names, and as it was at a failure
abbrev pub ClashBy : NameRefused → ℕ → ℕ → Type 0
ClashBy Exists old new = Rose old new
ClashBy Missing old new = Rose old new
ClashBy Failed old new = new ≡ old

-- What a call that takes a name does to the count of faults.
pub record CountsNamed {T : Type 0} (old new : ℕ) (result : Result T NameRefused) : Type 0 where
  pub later : old ≤ new
  pub done : OnOk result (new ≡ old)
  pub refused : IfErr result (λ why. FaultBy why old new)

-- What a call that takes a name does to the count of clashes.
pub record CountsClash {T : Type 0} (old new : ℕ) (result : Result T NameRefused) : Type 0 where
  pub later : old ≤ new
  pub done : OnOk result (new ≡ old)
  pub refused : IfErr result (λ why. ClashBy why old new)

-- the name of the first fault, after one more at this name
abbrev pub first_of : Option (List ℕ) → List ℕ → Option (List ℕ)
first_of None name = Some name
first_of (Some before) name = Some before

-- The name of the first fault stays where there is one, and is this name at a failure where there was none.
pub record NamesFirst {T E : Type 0} (name : List ℕ) (old new : Option (List ℕ)) (result : Result T E) : Type 0 where
  pub done : OnOk result (new ≡ old)
  pub failed : OnErr result (new ≡ first_of old name)

-- the name of the first fault after a refusal
abbrev pub FirstBy : NameRefused → List ℕ → Option (List ℕ) → Option (List ℕ) → Type 0
FirstBy Exists name old new = new ≡ old
FirstBy Missing name old new = new ≡ old
FirstBy Failed name old new = new ≡ first_of old name

-- The same of a call that takes a name, of whose refusals only `Failed` is a fault.
pub record NamesFirstOf {T : Type 0} (name : List ℕ) (old new : Option (List ℕ)) (result : Result T NameRefused) : Type 0 where
  pub done : OnOk result (new ≡ old)
  pub refused : IfErr result (λ why. FirstBy why name old new)
