-- Bytes that go to a sink in several writes.
use Rattle.std.specs.Prelude.{ℕ, List, [], ◌++◌, Option, Some, None}
use Rattle.std.proofs.Common.{sym, ◌∙◌, ap, append_assoc}
use Rattle.std.proofs.lemmas.List.{append-nil}
use Rattle.std.specs.Io.KnownBytes.{Appends, Keeps}

pub Appends-nil : (a : Option (List ℕ)) → Appends a a []
Appends-nil None = tt
Appends-nil (Some xs) = sym (append-nil xs)

-- two writes, one after the other
pub Appends-trans : (a b c : Option (List ℕ)) (xs ys : List ℕ) → Appends a b xs → Appends b c ys → Appends a c (xs ++ ys)
Appends-trans None b c xs ys p q = tt
Appends-trans (Some x) None c xs ys p q = absurd p
Appends-trans (Some x) (Some y) None xs ys p q = absurd q
Appends-trans (Some x) (Some y) (Some z) xs ys p q = q ∙ (ap (λ front. front ++ ys) p ∙ append_assoc x xs ys)

-- a failed write behind one that succeeded
pub Appends-kept : (a b c : Option (List ℕ)) (xs : List ℕ) → Appends a b xs → Keeps b c → Appends a c xs
Appends-kept None b c xs p q = tt
Appends-kept (Some x) None c xs p q = absurd p
Appends-kept (Some x) (Some y) None xs p q = absurd q
Appends-kept (Some x) (Some y) (Some z) xs p q = q ∙ p
