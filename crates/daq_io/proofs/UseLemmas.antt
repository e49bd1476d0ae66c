-- Numbers of files, of which one gets another use.
use Rattle.std.proofs.Common.{◌≡◌, ℕ, ◌<◌, suc, zero, cond, List, [], ◌∷◌, length, set, get_or, refl, arith, All}
use Rattle.std.proofs.lemmas.List.{length-set}
use Rattle.std.proofs.lemmas.List.Sums.{sum_by-set}
use Rattle.daq_io.specs.Uses.{CountsUse, is_unused, use_at}
use Rattle.daq_io.specs.declared.uses.Usage.{Usage}
use Rattle.daq_io.specs.declared.uses.Usage.TheVariants.{Free}

use_read : (uses : List Usage) (i : ℕ) → use_at uses i ≡ get_or uses i Free
use_read [] zero = refl
use_read [] (suc i) = refl
use_read (usage ∷ uses) zero = refl
use_read (usage ∷ uses) (suc i) = use_read uses i

pub use_counted : (uses : List Usage) (i : ℕ) (usage : Usage) → i < length uses → CountsUse uses (set uses i usage) i usage
use_counted uses i usage h = record {
  count = length-set uses i usage;
  free = rw (use_read uses i) (sum_by-set (λ u. cond (is_unused u) 1 0) uses i usage Free h);
}

-- Where each number is in no use, so is any other.
pub use_free : (uses : List Usage) → All (λ usage. usage ≡ Free) uses → (number : ℕ) → use_at uses number ≡ Free
use_free [] _ zero = refl
use_free [] _ (suc i) = refl
use_free (usage ∷ uses) all_free zero = all_free 0 Free (omega arith)
use_free (usage ∷ uses) all_free (suc i) = use_free uses (λ k d inside. all_free (suc k) d (omega arith)) i
