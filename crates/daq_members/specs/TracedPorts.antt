-- A member's port to its buffer, with the moments of the member's turns. The member traces its acts in the order in which it does
-- them, each by a number, so that its calls on the buffer and its turns stand in one order.
use Rattle.std.specs.Prelude.{ℕ, zero, suc, List, [], ◌∷◌, length}
use Rattle.buffer_core.specs.Ports.{Access}

-- What is seen of such a port: what it told the member, and the moments of the turns that the member took, the latest first.
pub record TracedPortSeen : Type 0 where
  pub access : Access
  pub moments : List ℕ

-- the port of a member that took no turn
abbrev pub untraced : Access → TracedPortSeen
untraced access = record { access = access; moments = [] }

-- So many calls on the buffer were made, and these are the moments of the turns.
pub record ActsDone : Type 0 where
  pub calls : ℕ
  pub moments : List ℕ

-- the moments, once the latest turn is answered behind so many calls
abbrev pub answered_now : (moments : List ℕ) → (calls : ℕ) → List ℕ
answered_now [] calls = []
answered_now (moment ∷ moments) calls = calls ∷ moments

-- behind one act more: 0 is a call on the buffer, 1 a new turn, and each other number the answer to the latest turn
abbrev pub act_done : (act : ℕ) → ActsDone → ActsDone
act_done zero done = record { calls = suc done.calls; moments = done.moments }
act_done (suc zero) done = record { calls = done.calls; moments = done.calls ∷ done.moments }
act_done (suc (suc act)) done = record { calls = done.calls; moments = answered_now done.moments done.calls }

-- behind these acts, the earliest first
abbrev pub acts_done : ActsDone → (acts : List ℕ) → ActsDone
acts_done done [] = done
acts_done done (act ∷ acts) = acts_done (act_done act done) acts

-- behind the acts since the port was so, when the member had taken no turn
abbrev pub acts_since : (first : Access) → (acts : List ℕ) → ActsDone
acts_since first acts = acts_done (record { calls = length first.own; moments = [] }) acts

-- what is seen of the port, by what it tells, what it told at first, and the acts since
abbrev pub traced_port : (access first : Access) → (acts : List ℕ) → TracedPortSeen
traced_port access first acts = record { access = access; moments = (acts_since first acts).moments }
