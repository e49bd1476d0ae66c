use Rattle.std.proofs.Common.{rules, ◌≡◌, ◌∙◌, sym, true}
use Rattle.turn_lock.proofs.Endings.{contains_any, any_contains}
use Rattle.turn_lock.proofs.roster.Passes.contains.Goals as goal

pub returns : goal.returns
returns g c = (
  (λ h. let e : c.any_numbered.result ≡ true = search rules in contains_any _ _ _ (sym c.any_numbered.ensures ∙ e)),
  λ h. let e : c.any_numbered.result ≡ true = c.any_numbered.ensures ∙ any_contains _ _ _ h in search rules,
)
