use Rattle.std.proofs.Common.{length, map, ap, refl, arith}
use Rattle.std.proofs.lemmas.List.{length-map}
use Rattle.event_builder.specs.Inputs.{inputs_at}
use Rattle.event_builder.specs.Builders.{BuilderState}
use Rattle.event_builder.proofs.Readiness.{ready_started, ready_not_started}
use Rattle.event_builder.proofs.builder.Builder.take_start.Goals as goal

pub cancel_all-requires : goal.cancel_all-requires
cancel_all-requires g c = record { ports = omega (arith, c.requires.ports, ap (λ (s : BuilderState). length s.inputs) c.self.view_is) }

pub ask_all-requires : goal.ask_all-requires
ask_all-requires g c = record {
  ports = omega (
    arith,
    c.requires.ports,
    ap (λ (s : BuilderState). length s.inputs) c.self.view_is,
    c.cancel_all.ensures.inputs_many,
    c.cancel_all.ensures.ports_many,
    length-map c.args.ports.now g.P.BufferPort.access,
    length-map c.cancel_all.new.ports g.P.BufferPort.access,
  );
}

pub invariant_of-self : goal.invariant_of-self
invariant_of-self g c =
    ready_started c.self.inside.id c.self.inside.limit (inputs_at c.self.inside.inputs (map g.P.BufferPort.access c.args.ports.now)) (inputs_at c.cancel_all.new.inputs (map g.P.BufferPort.access c.cancel_all.new.ports)) _ c.self.inside.run _ c.self.inside.body c.self.invariant
    (omega (arith, c.requires.ports, ap (λ (s : BuilderState). length s.inputs) c.self.view_is, length-map c.args.ports.now g.P.BufferPort.access)) c.cancel_all.ensures c.in-Ok.ensures.asks

pub invariant_of-self-in-Err : goal.invariant_of-self-in-Err
invariant_of-self-in-Err g c =
    ready_not_started c.self.inside.id c.self.inside.limit (inputs_at c.self.inside.inputs (map g.P.BufferPort.access c.args.ports.now)) (inputs_at c.cancel_all.new.inputs (map g.P.BufferPort.access c.cancel_all.new.ports)) _ c.self.inside.run _ c.self.inside.body c.self.invariant
    (omega (arith, c.requires.ports, ap (λ (s : BuilderState). length s.inputs) c.self.view_is, length-map c.args.ports.now g.P.BufferPort.access)) c.cancel_all.ensures c.in-Err.ensures.refuses

pub returns-in-Ok-clause-asks : goal.returns-in-Ok-clause-asks
returns-in-Ok-clause-asks g c = rw (c.plain.ensures, ← c.self.view_is) (record {
  dropped = inputs_at c.cancel_all.new.inputs (map g.P.BufferPort.access c.cancel_all.new.ports);
  drops = c.cancel_all.ensures;
  asks = (refl, refl, c.in-Ok.ensures.asks);
})

pub returns-in-Err-clause-asks : goal.returns-in-Err-clause-asks
returns-in-Err-clause-asks g c = rw (← c.self.view_is) (record {
  dropped = inputs_at c.cancel_all.new.inputs (map g.P.BufferPort.access c.cancel_all.new.ports);
  drops = c.cancel_all.ensures;
  asks = (refl, refl, c.in-Err.ensures.refuses);
})
