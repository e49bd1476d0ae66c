-- Bytes that were gathered in pieces.
use Rattle.std.proofs.Common.{◌≡◌, ◌∙◌, ℕ, ◌+◌, List, ◌++◌, length, take, Option, ap, sym, subst}
use Rattle.std.proofs.Math.Seq.{take-append-add}
use Rattle.std.proofs.KnownBytes.{Consumes-trans}
use Rattle.std.specs.Io.KnownBytes.{Consumes}

pub more_gathered : (a b c : Option (List ℕ)) (into front rest : List ℕ) (done count : ℕ) → front ≡ take done into → length front ≡ done
    → Consumes a b (take done into) → Consumes b c (take count rest) → Consumes a c (take (done + count) (front ++ rest))
more_gathered a b c into front rest done count is_front len p q =
    let joined : take (done + count) (front ++ rest) ≡ take done into ++ take count rest =
    ap (λ n. take (n + count) (front ++ rest)) (sym len) ∙ take-append-add front rest count ∙ ap (λ xs. xs ++ take count rest) is_front in
    subst (Consumes a c) (sym joined) (Consumes-trans a b c (take done into) (take count rest) p q)
