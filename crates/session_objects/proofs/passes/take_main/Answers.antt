use Rattle.session_objects.proofs.RosterLaws.{new_keeps, takes_keep}
use Rattle.session_objects.proofs.passes.take_main.Goals as goal

pub returns-clause-left : goal.returns-clause-left
returns-clause-left g c = λ lock own fresh numbers. let t = c.take.ensures in let k = new_keeps lock _ own fresh numbers in
    takes_keep lock _ _ _ _ _ t.number t.out (t.own lock own) (t.idle k.keeps.idle) (t.fresh fresh) k
