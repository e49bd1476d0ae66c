use Rattle.std.proofs.Common.{rules, refl, ap, sym, Some}
use Rattle.turn_lock.proofs.Keeps.{splits_pass}
use Rattle.turn_lock.proofs.lock.Turns.split.Goals as goal

pub split_seat-requires : goal.split_seat-requires
split_seat-requires g c = let view = c.requires.view in (
  search rules,
  search rules,
  splits_pass _ _ _ _ _ _ (rw view refl) (rw view (ap (λ n. Some n) (sym c.args.self.now.told))) (rw (view, c.args.self.now.told) c.requires.room) (rw c.args.self.now.told c.args.self.now.few),
)
