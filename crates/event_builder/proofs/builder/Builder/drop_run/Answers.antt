use Rattle.std.proofs.Common.{length, map, ap, arith}
use Rattle.std.proofs.lemmas.List.{length-map}
use Rattle.event_builder.specs.Inputs.{inputs_at}
use Rattle.event_builder.specs.Builders.{BuilderState}
use Rattle.event_builder.proofs.Readiness.{ready_cancelled}
use Rattle.event_builder.proofs.builder.Builder.drop_run.Goals as goal

pub cancel_all-requires : goal.cancel_all-requires
cancel_all-requires g c = record { ports = omega (arith, c.requires.ports, ap (λ (s : BuilderState). length s.inputs) c.self.view_is) }

pub invariant_of-self : goal.invariant_of-self
invariant_of-self g c =
    ready_cancelled c.self.inside.id c.self.inside.limit (inputs_at c.self.inside.inputs (map g.P.BufferPort.access c.args.ports.now)) _ c.self.inside.run _ c.self.inside.body c.self.invariant
    (omega (arith, c.requires.ports, ap (λ (s : BuilderState). length s.inputs) c.self.view_is, length-map c.args.ports.now g.P.BufferPort.access)) c.cancel_all.ensures

pub returns-clause-cancels : goal.returns-clause-cancels
returns-clause-cancels g c = rw (← c.self.view_is) c.cancel_all.ensures
