use Rattle.std.proofs.Common.{rules, ◌∙◌, sym, ap, refl, Some}
use Rattle.turn_lock.proofs.Keeps.{takes_kept}
use Rattle.turn_lock.proofs.lock.Turns.try_take.Goals as goal

pub compare_exchange-found-requires : goal.compare_exchange-found-requires
compare_exchange-found-requires g c = (
  search rules,
  search rules,
  takes_kept _ _ _ _ _ _ _ c.from-number.result (c.args.pass.now.is ∙ ap (λ n. Some n) (sym c.from-number.ensures)) c.requires.idle,
)

pub exchange-requires : goal.exchange-requires
exchange-requires g c = let e = c.compare_exchange-found.ensures in let t = e.2.0 c.if-found-eq-FREE.true in (
  search rules,
  (Some t.0, rw t.1 refl),
)
