use Rattle.std.proofs.Common.{refl}
use Rattle.event_builder.proofs.Stepped.{lent_at}
use Rattle.event_builder.proofs.ending.let_go_at.Goals as goal

pub returns : goal.returns
returns c = (c.in-Some.input.now, lent_at c.args.inputs.now c.args.number c.in-Some.input.now c.requires c.in-Some.ensures.entry.1, refl)
