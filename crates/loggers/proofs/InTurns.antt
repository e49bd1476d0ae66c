-- Steps one after another.
use Rattle.std.specs.Prelude.{◌≡◌, ◌+◌, ℕ, zero, suc}
use Rattle.std.proofs.Common.{sym, subst, add-one}
use Rattle.loggers.specs.Moments.{InTurn}

-- one step more
pub turn_more : {M : Type 0} (Step : ℕ → M → M → Type 0) (n : ℕ) (a m b : M) → InTurn Step n a m → Step n m b → InTurn Step (n + 1) a b
turn_more {M} Step n a m b before step = subst (λ (k : ℕ). InTurn Step k a b) (sym (add-one n)) (m, before, step)

-- the same steps, by another count of them
pub turns_as_many : {M : Type 0} (Step : ℕ → M → M → Type 0) (n k : ℕ) (a b : M) → n ≡ k → InTurn Step n a b → InTurn Step k a b
turns_as_many {M} Step n k a b same turns = subst (λ (i : ℕ). InTurn Step i a b) same turns

-- what each step keeps all of them keep
pub turns_keep : {M : Type 0} (Step : ℕ → M → M → Type 0) (Kept : M → Type 0) (n : ℕ) (a b : M) → ((k : ℕ) (x y : M) → Step k x y → Kept x → Kept y) → InTurn Step n a b → Kept a → Kept b
turns_keep {M} Step Kept zero a b keeps turns kept = subst Kept (sym turns) kept
turns_keep {M} Step Kept (suc n) a b keeps turns kept = keeps n turns.0 b turns.2 (turns_keep Step Kept n a turns.0 keeps turns.1 kept)
