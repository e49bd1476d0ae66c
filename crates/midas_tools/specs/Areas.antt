-- The lines of events with their banks.
use Rattle.std.specs.Prelude.{◌≡◌, ℕ, ◌⊎◌, List, [], ◌∷◌, ◌++◌, Option, Result}
use Rattle.daq_types.specs.declared.events.Event.{Event}
use Rattle.daq_io.specs.declared.faults.Failed.{Failed}
use Rattle.bank_format.specs.BankAreas.{BankValue}
use Rattle.bank_format.specs.Faults.{HoldsBanks, IsFirstFault}
use Rattle.bank_format.specs.declared.faults.BankFault.{BankFault}
use Rattle.midas_tools.specs.Printing.{PassesText}
use Rattle.midas_tools.specs.Texts.{event_line, bank_line, no_banks_line}

-- banks, a line each
abbrev pub bank_lines : List BankValue → List ℕ
bank_lines [] = []
bank_lines (b ∷ bs) = bank_line b ++ bank_lines bs

-- the data are these banks, whose lines the text is
pub record ListsBanks (body text : List ℕ) : Type 0 where
  pub banks : List BankValue
  pub held : HoldsBanks banks body
  pub text_is : text ≡ bank_lines banks

-- the data are no bank area, as the text says
pub record HasNoBanks (body text : List ℕ) : Type 0 where
  pub fault : BankFault
  pub first : IsFirstFault body fault
  pub text_is : text ≡ no_banks_line fault

-- the lines of the banks of these data
abbrev pub AreBankLines : (body text : List ℕ) → Type 0
AreBankLines body text = ListsBanks body text ⊎ HasNoBanks body text

-- the lines of an event: its own, and below it those of its banks
pub record AreEventLines (e : Event) (text : List ℕ) : Type 0 where
  pub below : List ℕ
  pub banks : AreBankLines e.body below
  pub text_is : text ≡ event_line e ++ below

-- Such lines went to the page and to the sink.
pub record PassesLines (Are : List ℕ → Type 0) (now new : Option (List ℕ)) (page_old page_new : List ℕ) (result : Result (Unit {0}) Failed) : Type 0 where
  pub lines : List ℕ
  pub are : Are lines
  pub passes : PassesText now new page_old page_new lines result

-- the lines of events, one behind the other
abbrev pub AreLinesOf : List Event → List ℕ → Type 0
AreLinesOf [] text = text ≡ []
AreLinesOf (e ∷ es) text = (first : List ℕ) × (rest : List ℕ) × AreEventLines e first × AreLinesOf es rest × (text ≡ first ++ rest)
