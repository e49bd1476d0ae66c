-- When a member answered its turns, told by its calls on a buffer: the moment of a turn is how many of these calls the member
-- had made when it answered the turn, or so far, where the turn has no answer. The latest turn stands first, and so does its
-- moment.
use Rattle.std.specs.Prelude.{◌≡◌, ℕ, ◌≤◌, List, [], ◌∷◌, Option, Some, None, ⊤, ◌⊎◌}
use Rattle.member_model.specs.RunEngines.{Answer}
use Rattle.member_model.specs.Turns.{MemberTurn}

-- The turns have these moments, one each: no turn has one behind that of a later turn, and none lies behind all calls.
abbrev pub AreMoments : List MemberTurn → (moments : List ℕ) → (calls : ℕ) → Type 0
AreMoments [] [] calls = ⊤
AreMoments [] (moment ∷ moments) calls = ⊥
AreMoments (t ∷ turns) [] calls = ⊥
AreMoments (t ∷ turns) (moment ∷ moments) calls = (moment ≤ calls) × AreMoments turns moments moment

-- the turn stands among these, and this is its moment
abbrev pub HasMoment : List MemberTurn → (moments : List ℕ) → MemberTurn → (moment : ℕ) → Type 0
HasMoment [] moments t moment = ⊥
HasMoment (u ∷ turns) [] t moment = ⊥
HasMoment (u ∷ turns) (m ∷ moments) t moment = ((u ≡ t) × (m ≡ moment)) ⊎ HasMoment turns moments t moment

-- the moments, once the latest turn got this answer, if it is one, behind so many calls
abbrev pub moments_answered : (moments : List ℕ) → Option Answer → (calls : ℕ) → List ℕ
moments_answered moments None calls = moments
moments_answered [] (Some answer) calls = []
moments_answered (moment ∷ moments) (Some answer) calls = calls ∷ moments
