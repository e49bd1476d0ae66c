use Rattle.std.proofs.Common.{◌≡◌, ℕ, List, Option, Some, None, refl}
use Rattle.bank_format.specs.BankAreas.{BankValue}
use Rattle.bank_format.specs.Faults.{HoldsBanks}
use Rattle.bank_format.specs.Spelled.{IsBytes}
use Rattle.event_report.specs.EventBanks.{banks_of}
use Rattle.event_report.proofs.BankAreaLaws.{banks_of_area, area_of_banks}
use Rattle.event_report.proofs.laws.banks_of_an_event.Goals as goal

none_or : (bytes : List ℕ) (o : Option (List BankValue)) → IsBytes bytes → ((bs : List BankValue) → HoldsBanks bs bytes → ⊥) → banks_of bytes ≡ o → o ≡ None
none_or bytes None small never is = refl
none_or bytes (Some bs) small never is = absurd (never bs (area_of_banks bs bytes small is))

pub returns : goal.returns
returns c =
    record {
      read = banks_of_area;
      stand = area_of_banks;
      none = λ bytes small never. none_or bytes (banks_of bytes) small never refl;
    }
