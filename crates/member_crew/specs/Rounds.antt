-- Rounds of members, one behind the other.
use Rattle.std.specs.Prelude.{◌≡◌, ℕ, zero, suc}

-- By what one round does: the members had so many rounds.
abbrev pub HadRounds : {M : Type 0} → (round : M → M → Type 0) → (count : ℕ) → (before after : M) → Type 0
HadRounds round zero before after = after ≡ before
HadRounds {M} round (suc n) before after = (between : M) × HadRounds round n before between × round between after
