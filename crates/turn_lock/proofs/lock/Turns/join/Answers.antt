use Rattle.std.proofs.Common.{rules, ℕ, ◌≡◌, ◌∙◌, ap, subst, inl, inr, ⊎_elim, Some, None}
use Rattle.turn_lock.specs.Views.{Agrees}
use Rattle.turn_lock.proofs.Keeps.{joins_kept, looks_kept, joined_tells}
use Rattle.turn_lock.proofs.lock.Turns.join.Goals as goal

pub join_seat-requires : goal.join_seat-requires
join_seat-requires g c = let pass = c.args.pass.now in (
  search rules,
  search rules,
  c.requires.idle.1,
  search rules,
  joins_kept _ _ _ _ _ _ _ _
      (⊎_elim (λ (none : c.args.other.me.0.number ≡ None). inl none) (λ (zero_is : pass.number ≡ 0). inr (pass.is ∙ ap (λ (n : ℕ). Some n) zero_is)) c.requires.asked)
      c.requires.idle.0,
)

pub load-requires : goal.load-requires
load-requires g c = (search rules, search rules, looks_kept _ _ _ _ _ _ _)

pub returns-clause-seen : goal.returns-clause-seen
returns-clause-seen g c = let joined = c.join_seat.ensures.2 in let agrees = subst (λ m. Agrees m.0) joined c.load.ensures.2.1 in
    rw (c.load.ensures.2.0, joined) (joined_tells c.args.pass.now.seat.me.0 c.args.other.me.0 c.args.pass.now.number c.args.pass.now.is agrees).0

pub returns-clause-met : goal.returns-clause-met
returns-clause-met g c = let joined = c.join_seat.ensures.2 in let agrees = subst (λ m. Agrees m.0) joined c.load.ensures.2.1 in
    rw (c.load.ensures.2.0, joined) (joined_tells c.args.pass.now.seat.me.0 c.args.other.me.0 c.args.pass.now.number c.args.pass.now.is agrees).1.0
