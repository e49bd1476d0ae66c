-- What a member's own calls on the engine tell of its turns.
use Rattle.std.specs.Prelude.{◌≡◌, ℕ, ◌==◌, Bool, false, List, [], ◌∷◌, ◌++◌, Option, Some, None, Result, ⊤}
use Rattle.std.specs.List.{list_all}
use Rattle.transitions.specs.declared.replies.NotYourTurn.{NotYourTurn}
use Rattle.transitions.specs.declared.replies.Polled.TheVariants.{Turn}
use Rattle.member_model.specs.RunEngines.{Answer, Polled, EngineEntry}
use Rattle.transitions.specs.declared.entry.EngineEntry.TheVariants.{Poll, Answer as Answers}
use Rattle.member_model.specs.Turns.{MemberTurn}
use Rattle.member_model.specs.TurnCalls.{member_turns}

-- the start number of a turn that has no answer
abbrev pub start_unanswered : Option Answer → (start : ℕ) → Option ℕ
start_unanswered None start = Some start
start_unanswered (Some answer) start = None

-- the start number of the latest of these turns, where that is not answered
abbrev pub open_start : List MemberTurn → Option ℕ
open_start [] = None
open_start (t ∷ ts) = start_unanswered t.answer t.order.start

-- the start number of the turn that the client was given and has not answered, by these calls
abbrev pub start_owed : (client : ℕ) → List EngineEntry → Option ℕ
start_owed client calls = open_start (member_turns client calls)

-- the start number of the turn that is owed, once a poll was replied so: a turn that is owed already is told again
abbrev pub owed_by : (owed : Option ℕ) → Polled → Option ℕ
owed_by None (Turn transition order dump blank) = Some order.start
owed_by None reply = None
owed_by (Some start) reply = Some start

-- a poll of this client, or an answer for it
abbrev pub is_call_for : (client : ℕ) → EngineEntry → Bool
is_call_for client (Poll c reply) = c == client
is_call_for client (Answers c answer reply) = c == client
is_call_for client entry = false

-- each of these calls is one
abbrev pub are_calls_for : (client : ℕ) → List EngineEntry → Bool
are_calls_for client calls = list_all (is_call_for client) calls

-- the calls on the engine, once the client asked it and it replied so
abbrev pub asked_so : (client : ℕ) → List EngineEntry → Polled → List EngineEntry
asked_so client calls reply = calls ++ Poll client reply ∷ []

-- The answer was given for the client, if there is one, and no other call was made.
abbrev pub GivesAnswer : (client : ℕ) → Option Answer → (calls later : List EngineEntry) → Type 0
GivesAnswer client None calls later = later ≡ calls
GivesAnswer client (Some answer) calls later =
    (reply : Result ⊤ NotYourTurn) × (later ≡ calls ++ Answers client answer reply ∷ [])

-- Where there is an answer, it is the last thing that the member does in its turn: what the member calls by besides the engine is
-- now as it stood when the answer was given, so none of its calls there is behind the answer.
abbrev pub AnswersLast : {X : Type 0} → Option Answer → (stood now : X) → Type 0
AnswersLast None stood now = ⊤
AnswersLast (Some answer) stood now = stood ≡ now
