use Rattle.std.proofs.Common.{◌≡◌, ◌∙◌, ap, sym, subst, Some, ℕ}
use Rattle.std.proofs.lemmas.Option.{none-some, same_Some}
use mathlib.Core.Option.{some-injective}
use Rattle.turn_lock.specs.Views.{Settles}
use Rattle.turn_lock.specs.Passes.{first_value}
use Rattle.turn_lock.proofs.Keeps.{closes}
use Rattle.turn_lock.proofs.lock.Turns.finish.Goals as goal

pub unreachable-requires : goal.unreachable-requires
unreachable-requires g c = let final = c.close_with-closed.ensures.values.2 in let zero = c.args.zero in
    let end = closes (λ b. g.M.Machine.state b.value) g.M.Machine.step _ _ final.0 final.1.0 zero.seat.id zero.seat.me.0 c.args.self.count final.1.1 (zero.is ∙ ap (λ (n : ℕ). Some n) c.requires.zero) c.requires.idle (zero.next c.requires.zero ∙ c.requires.own.count) c.requires.paired in
    none-some end.0 (sym c.in_default.is ∙ some-injective _ _ (sym c.take-value.ensures.value ∙ final.4 0 (Some end.0) end.1))

pub returns : goal.returns
returns g c = let final = c.close_with-closed.ensures.values.2 in let zero = c.args.zero in
    let end = closes (λ b. g.M.Machine.state b.value) g.M.Machine.step _ _ final.0 final.1.0 zero.seat.id zero.seat.me.0 c.args.self.count final.1.1 (zero.is ∙ ap (λ (n : ℕ). Some n) c.requires.zero) c.requires.idle (zero.next c.requires.zero ∙ c.requires.own.count) c.requires.paired in
    let boxed : end.0 ≡ c.in-Some.value = same_Some _ _ (some-injective _ _ (sym (final.4 0 (Some end.0) end.1) ∙ c.take-value.ensures.value) ∙ c.in-Some.is) in
    subst (λ x. Settles g.M.Machine.step (g.M.Machine.state (first_value c.args.self)) (g.M.Machine.state x) c.args.self.count zero.seat.me.0) (ap (λ b. b.value) boxed ∙ sym c.into_inner.ensures) end.2
