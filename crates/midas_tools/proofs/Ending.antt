-- What is told of a file that was opened.
use Rattle.std.proofs.Common.{◌≡◌, ◌∙◌, ℕ, List, Option, Some, None, IfSome, IsTrue, Bool, true, false, if◌then◌else◌, refl, sym, subst}
use Rattle.std.specs.Prelude.{IsSome}
use Rattle.daq_io.specs.Seen.{Stored, Seen}
use Rattle.daq_io.specs.FileLeft.{told_left}
use Rattle.midas_tools.specs.Findings.{IsThere, IsFileOpened}

pub file_at : (o : Option Stored) → IsSome o → (file : Stored) × (o ≡ Some file)
file_at None h = let e : false ≡ true = h in absurd cc
file_at (Some file) h = (file, refl)

pub told_if : (b : Bool) (left : List ℕ) (P : List ℕ → Type 0) → IsTrue b → IfSome (if b then Some left else None) P → P left
told_if true left P h p = p
told_if false left P h p = let e : false ≡ true = h in absurd cc

-- what is true of the bytes that are left of a file when it is opened is true of the file
pub there : (seen opened : Seen) (name : List ℕ) (number : ℕ) (P : List ℕ → Type 0) → IsFileOpened seen opened name number → IfSome (told_left opened number) P → IsTrue seen.names → IsThere seen name P
there seen opened name number P o p told =
    let found : (file : Stored) × (seen.at name ≡ Some file) = file_at (seen.at name) (o.opens.there told) in
    record {
      file = found.0;
      at_is = found.1;
      fact = subst P (sym (o.opens.holds told found.0 found.1)) (told_if opened.names (opened.left number) P (o.opens.files.names ∙ told) p);
    }
