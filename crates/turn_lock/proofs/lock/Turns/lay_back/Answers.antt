use Rattle.std.proofs.Common.{rules, refl, ap, sym}
use Rattle.turn_lock.proofs.Keeps.{frees_kept}
use Rattle.turn_lock.proofs.lock.Turns.lay_back.Goals as goal

pub swap-requires : goal.swap-requires
swap-requires g c = let counted = c.count.new.pass in let laid = c.exchange-empty.ensures.3 in (
  search rules,
  search rules,
  frees_kept _ _ _ _ _ _ _ (g.M.Machine.state c.as_ref.result.now) c.args.held.value c.args.self.now.one_slot (rw laid c.count.ensures.held) (rw laid c.count.ensures.counted) (ap g.M.Machine.state (sym c.as_ref.ensures)) (rw (laid, counted.carries, c.count.ensures.held) refl),
)
