use Rattle.std.proofs.Common.{◌≡◌, ◌∙◌, length, map, ap, Some, arith}
use Rattle.std.proofs.lemmas.List.{length-map}
use Rattle.event_builder.specs.Inputs.{inputs_at}
use Rattle.event_builder.specs.Builders.{BuilderState}
use Rattle.event_builder.proofs.Readiness.{ready_of, ready_noted, ready_cancelled, ready_stopped}
use Rattle.event_builder.proofs.builder.Builder.stop_run.Goals as goal

pub invariant_of-self : goal.invariant_of-self
invariant_of-self g c =
    let run : c.self.inside.run ≡ Some c.args.run = ap (λ (s : BuilderState). s.run) c.self.view_is ∙ c.requires.run in
    ready_noted c.self.inside.id c.self.inside.limit c.self.inside.inputs c.args.run c.self.inside.body (ready_of c.self.inside.id c.self.inside.limit c.self.inside.inputs c.self.inside.run c.args.run c.self.inside.body run c.self.invariant)

pub invariant_of-self-in-Paused : goal.invariant_of-self-in-Paused
invariant_of-self-in-Paused g c =
    ready_cancelled c.self.inside.id c.self.inside.limit (inputs_at c.self.inside.inputs (map g.P.BufferPort.access c.args.ports.now)) (inputs_at c.end_run-ended.new.inputs (map g.P.BufferPort.access c.end_run-ended.new.ports)) c.self.inside.run _ c.self.inside.body c.self.invariant
    (omega (arith, c.requires.ports, ap (λ (s : BuilderState). length s.inputs) c.self.view_is, length-map c.args.ports.now g.P.BufferPort.access)) c.end_run-ended.ensures.cancels

pub invariant_of-self-in-Stopped : goal.invariant_of-self-in-Stopped
invariant_of-self-in-Stopped g c =
    let run : c.self.inside.run ≡ Some c.args.run = ap (λ (s : BuilderState). s.run) c.self.view_is ∙ c.requires.run in
    ready_stopped c.self.inside.id c.self.inside.limit (inputs_at c.self.inside.inputs (map g.P.BufferPort.access c.args.ports.now)) (inputs_at c.stop_all.new.inputs (map g.P.BufferPort.access c.stop_all.new.ports)) c.args.run c.self.inside.body
    (ready_of c.self.inside.id c.self.inside.limit c.self.inside.inputs c.self.inside.run c.args.run c.self.inside.body run c.self.invariant)
    (omega (arith, c.requires.ports, ap (λ (s : BuilderState). length s.inputs) c.self.view_is, length-map c.args.ports.now g.P.BufferPort.access)) c.stop_all.ensures
