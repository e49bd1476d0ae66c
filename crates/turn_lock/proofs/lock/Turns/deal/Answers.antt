use Rattle.std.proofs.Common.{rules, ◌≡◌, ◌∷◌, [], ◌++◌}
use Rattle.turn_lock.proofs.Dealing.{Deals-push}
use Rattle.turn_lock.proofs.lock.Turns.deal.Goals as goal

pub loop-number-preserved : goal.loop-number-preserved
loop-number-preserved g c = let dealt = c.loop-number.invariant.0 in let split = c.split-pass.ensures in
    let items : c.push.new.self.items ≡ c.loop-number.items.items ++ c.split-pass.result ∷ [] = search rules in (
      rw items (Deals-push c.args.self.now c.loop-number.zero c.split-pass.new.zero c.loop-number.items.items c.split-pass.result c.loop-number.number dealt split.seat split.view split.own split.number split.fresh),
      search rules,
    )
