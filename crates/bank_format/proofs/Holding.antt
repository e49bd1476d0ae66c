-- Bytes that are the plain bytes of some banks are held as these.
use Rattle.std.proofs.Common.{◌≡◌, ℕ, ◌≤◌, List, [], ◌∷◌, ◌++◌, length, drop, sym, ap, subst, ◌∙◌, vec_len, vec_capacity}
use Rattle.std.specs.Global.{Vec}
use Rattle.std.specs.List.{AllByRecursion}
use Rattle.event.specs.Events.{event_limit}
use Rattle.bank_format.specs.declared.formats.Format.{Format}
use Rattle.bank_format.specs.BankAreas.{BankValue, IsBank, plain_banks}
use Rattle.bank_format.specs.Places.{banks_in}
use Rattle.bank_format.specs.Held.{HasBankRoom}
use Rattle.bank_format.proofs.PlainLaws.{plain_back}
use Rattle.bank_format.specs.Writing.{Written}

pub all-snoc : (f : Format) (bs : List BankValue) (b : BankValue) → AllByRecursion (IsBank f) bs → IsBank f b → AllByRecursion (IsBank f) (bs ++ b ∷ [])
all-snoc f [] b all one = (one, tt)
all-snoc f (c ∷ cs) b all one = (all.0, all-snoc f cs b all.1 one)

pub held : (f : Format) (limit : ℕ) (v : Vec ℕ) (bs : List BankValue) → AllByRecursion (IsBank f) bs → v.items ≡ plain_banks f bs → vec_len v ≡ length v.items
    → vec_len v ≤ limit → 8 ≤ limit → limit ≤ event_limit → limit ≤ vec_capacity v → HasBankRoom f limit v
held f limit v bs all is counted within front most room =
    let back : banks_in f (drop 8 v.items) ≡ bs = plain_back f bs v.items all is in
    record {
      banks = subst (λ (cs : List BankValue). AllByRecursion (IsBank f) cs) (sym back) all;
      spelled = is ∙ ap (plain_banks f) (sym back);
      counted = counted;
      within = within;
      front = front;
      most = most;
      room = room;
    }

abbrev pub written : Format → ℕ → List BankValue → Written
written format limit banks = record { format = format; limit = limit; banks = banks }
