-- Turns among more turns, and the latest turn once it is answered.
use Rattle.std.specs.Prelude.{◌≡◌, ◌≢◌, ℕ, List, ◌∷◌}
use Rattle.std.proofs.Common.{inl, inr}
use Rattle.daq_types.specs.declared.runs.Transition.{Transition}
use Rattle.member_model.specs.Turns.{MemberTurn, HasTurnOf}

pub HasTurnOf-more : (u : MemberTurn) {ts : List MemberTurn} {transition : Transition} {start : ℕ} {t : MemberTurn} → HasTurnOf ts transition start t → HasTurnOf (u ∷ ts) transition start t
HasTurnOf-more u p = record { stands = inr p.stands; is = p.is; of = p.of }

-- a turn of another transition is not the latest one
pub HasTurnOf-earlier : {u : MemberTurn} {ts : List MemberTurn} {transition : Transition} {start : ℕ} {t : MemberTurn} → HasTurnOf (u ∷ ts) transition start t → u.transition ≢ transition → HasTurnOf ts transition start t
HasTurnOf-earlier {u} {ts} {transition} {start} {t} p other = elim p.stands as (λ w. HasTurnOf ts transition start t) [
  | inl same ↦ absurd (other (let e : u.transition ≡ t.transition = cc in cc (p.is)))
  | inr before ↦ record { stands = before; is = p.is; of = p.of }
]
