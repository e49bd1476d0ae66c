use Rattle.std.proofs.Common.{ℕ, ◌+◌, List, length, ap, sym, ◌∙◌, arith}
use Rattle.daq_types.specs.declared.events.Event.{Event}
use Rattle.event.specs.Events.{is_reserved}
use Rattle.event.specs.declared.head.Header.{Header}
use Rattle.event.specs.Headers.{event_of}
use Rattle.front_ends.proofs.FrontSends.{has_step}
use Rattle.front_ends.proofs.front_end.FrontEnd.send_next.Goals as goal

pub returns-clause-step : goal.returns-clause-step
returns-clause-step g c =
    has_step (g.P.BufferPort.access c.args.port.now).size c.header-header.result.data_size (event_of c.header-header.result c.body.result.now) c.send_in_run.result c.send_in_run.ensures.refused
    (ap (λ (h : Header). h.data_size) c.header-header.ensures ∙ ap (λ (l : List ℕ). length l) (sym c.body.ensures))
    (omega (
      arith,
      ap (λ (l : List ℕ). length l) c.body.ensures,
      ap (λ (e : Event). length e.body) c.event.ensures.event,
      g.met.X.Equipment.small c.self.inside.equipment c.self.invariant.0 c.args.run.order (c.args.run.sent + 1),
    ))
    (ap (λ (h : Header). is_reserved h.event_id) c.header-header.ensures
    ∙ (ap (λ (e : Event). is_reserved e.id) c.event.ensures.event
    ∙ g.met.X.Equipment.free c.self.inside.equipment c.self.invariant.0 c.args.run.order (c.args.run.sent + 1)))
    c.requires.size
