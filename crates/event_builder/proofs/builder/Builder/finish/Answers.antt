use Rattle.event_builder.proofs.Readiness.{ready_told}
use Rattle.event_builder.proofs.builder.Builder.finish.Goals as goal

pub invariant_of-self : goal.invariant_of-self
invariant_of-self c = ready_told c.self.inside.id c.self.inside.limit c.self.inside.inputs c.self.inside.run c.self.inside.body c.self.invariant
