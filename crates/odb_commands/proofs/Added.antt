-- Texts added one after the other.
use Rattle.std.proofs.Common.{◌≡◌, ℕ, List, ◌++◌, ap, ◌∙◌, append_assoc}

pub four_added : (s0 s1 s2 s3 p q r t : List ℕ) → s1 ≡ s0 ++ p → s2 ≡ s1 ++ q → s3 ≡ s2 ++ r → s3 ++ t ≡ s0 ++ (p ++ (q ++ (r ++ t)))
four_added s0 s1 s2 s3 p q r t e f g =
    ap (λ (s : List ℕ). s ++ t) (g ∙ ap (λ (s : List ℕ). s ++ r) (f ∙ ap (λ (s : List ℕ). s ++ q) e))
    ∙ (append_assoc ((s0 ++ p) ++ q) r t ∙ (append_assoc (s0 ++ p) q (r ++ t) ∙ append_assoc s0 p (q ++ (r ++ t))))
