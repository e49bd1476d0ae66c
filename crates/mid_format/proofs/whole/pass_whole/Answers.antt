use Rattle.std.proofs.Common.{ℕ, ap, arith}
use Rattle.mid_format.proofs.AtHand.{one_whole}
use Rattle.mid_format.proofs.whole.pass_whole.Goals as goal

pub returns-clause-reads : goal.returns-clause-reads
returns-clause-reads g c = λ start first events r.
    one_whole c.args.progress.now _ c.args.header.now c.requires start first _ _ _ events r c.pass.ensures.taken (ap (λ (n : ℕ). record c.args.progress.now { at = n }) (omega arith))
