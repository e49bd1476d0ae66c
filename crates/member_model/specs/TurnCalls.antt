-- The turns of a member, read off its own calls on the engine, whatever the engine replies. The calls are in order; the latest
-- turn stands first.
use Rattle.std.specs.Prelude.{ℕ, ◌==◌, is_some, if◌then◌else◌, List, [], ◌∷◌, fold, Some, None}
use Rattle.transitions.specs.declared.replies.Polled.TheVariants.{Turn}
use Rattle.member_model.specs.RunEngines.{Answer, EngineEntry}
use Rattle.transitions.specs.declared.entry.EngineEntry.TheVariants.{Poll, Answer as Answers}
use Rattle.member_model.specs.Turns.{MemberTurn}

-- a turn that is told is a new one, unless the latest is not answered: then it is that one again
abbrev pub turn_told : List MemberTurn → MemberTurn → List MemberTurn
turn_told [] t = t ∷ []
turn_told (u ∷ us) t = if is_some u.answer then t ∷ (u ∷ us) else u ∷ us

-- an answer is that to the latest turn, if that has none
abbrev pub turn_answered : List MemberTurn → Answer → List MemberTurn
turn_answered [] answer = []
turn_answered (u ∷ us) answer = if is_some u.answer then u ∷ us else record u { answer = Some answer } ∷ us

-- the turns behind one call more: a poll of this client that was replied a turn, or an answer for it
abbrev pub turns_with : (client : ℕ) → List MemberTurn → EngineEntry → List MemberTurn
turns_with client ts (Poll c (Turn turn order dump blank)) =
    if c == client then turn_told ts (record { transition = turn; order = order; dump = dump; answer = None }) else ts
turns_with client ts (Answers c answer reply) = if c == client then turn_answered ts answer else ts
turns_with client ts entry = ts

-- the turns of this client that these calls tell, each with its answer
abbrev pub member_turns : (client : ℕ) → List EngineEntry → List MemberTurn
member_turns client calls = fold (turns_with client) [] calls
