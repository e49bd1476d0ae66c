use Rattle.std.proofs.Common.{rules, ◌≡◌, ◌∷◌, ◌∙◌, [], sym, ap, Some}
use Rattle.turn_lock.proofs.Keeps.{opens}
use Rattle.turn_lock.proofs.lock.Turns.new.Goals as goal

pub new-requires-2 : goal.new-requires-2
new-requires-2 g c = let boxed = c.in_ok-boxed.boxed in let items : c.push.new.self.items ≡ Some boxed ∷ [] = search rules in
    rw items (opens (λ b. g.M.Machine.state b.value) g.M.Machine.step _ _ boxed (ap g.M.Machine.state (c.in_ok-boxed.ensures.ok ∙ sym c.of.ensures)) c.requires.some)
