-- How a writer of banks holds them.
use Rattle.std.specs.Prelude.{◌≡◌, ℕ, ◌≤◌, length, drop, vec_len, vec_capacity}
use Rattle.std.specs.Global.{Vec}
use Rattle.std.specs.List.{AllByRecursion}
use Rattle.event.specs.Events.{event_limit}
use Rattle.bank_format.specs.declared.formats.Format.{Format}
use Rattle.bank_format.specs.BankAreas.{IsBank, plain_banks}
use Rattle.bank_format.specs.Places.{banks_in}

-- the bytes are the plain bytes of the banks in them, within the limit, and there is room up to the limit
pub record HasBankRoom (f : Format) (limit : ℕ) (v : Vec ℕ) : Type 0 where
  pub banks : AllByRecursion (IsBank f) (banks_in f (drop 8 v.items))
  pub spelled : v.items ≡ plain_banks f (banks_in f (drop 8 v.items))
  pub counted : vec_len v ≡ length v.items
  pub within : vec_len v ≤ limit
  pub front : 8 ≤ limit
  pub most : limit ≤ event_limit
  pub room : limit ≤ vec_capacity v
