-- How long a turn of a member was the last that it had answered, told by its calls on a buffer. The latest turn stands first, and so
-- does its moment.
use Rattle.std.specs.Prelude.{◌≡◌, ℕ, List, [], ◌∷◌, Option, Some, None, ◌⊎◌}
use Rattle.member_model.specs.RunEngines.{Answer}
use Rattle.member_model.specs.Turns.{MemberTurn}

-- the moment of a turn with this answer; how many calls were made so far, while it has none
abbrev pub moment_or_now : Option Answer → (moment calls : ℕ) → ℕ
moment_or_now None moment calls = calls
moment_or_now (Some answer) moment calls = moment

-- The turn stands among these, and this is its moment. No turn was answered since until there were `until` calls: this is the
-- moment of the next turn; or how many calls were made so far, where there is none, or it has no answer.
abbrev pub HasSpan : List MemberTurn → (moments : List ℕ) → (calls : ℕ) → MemberTurn → (moment until : ℕ) → Type 0
HasSpan [] moments calls t moment until = ⊥
HasSpan (u ∷ turns) [] calls t moment until = ⊥
HasSpan (u ∷ turns) (m ∷ moments) calls t moment until =
    ((u ≡ t) × (m ≡ moment) × (calls ≡ until)) ⊎ HasSpan turns moments (moment_or_now u.answer m calls) t moment until
