use Rattle.session_objects.proofs.RosterLaws.{takes_keep}
use Rattle.session_objects.proofs.passes.take_fresh.Goals as goal

pub returns : goal.returns
returns g c = let t = c.take.ensures in record {
  is = t.number;
  own = t.taken_own;
  fresh = t.taken_fresh;
  left = λ lock out k. takes_keep lock _ _ _ _ out t.number t.out (t.own lock k.keeps.own) (t.idle k.keeps.idle) (t.fresh k.fresh) k;
}
