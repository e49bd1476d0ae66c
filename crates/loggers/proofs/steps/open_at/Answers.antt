use Rattle.std.proofs.Common.{◌≡◌, None, map, sym, ◌∙◌, arith}
use Rattle.buffer_core.specs.Slots.{slot_at}
use Rattle.loggers.proofs.ReadySteps.{opened_at}
use Rattle.loggers.proofs.steps.open_at.Goals as goal

pub returns-in-Some-clause-ready : goal.returns-in-Some-clause-ready
returns-in-Some-clause-ready g c =
    let there : slot_at c.args.slots.now c.args.number ≡ c.in-Some.slot.now = sym (c.in-Some.ensures.entry.4 (omega arith) None) in
    opened_at c.opens_kept.ensures.change c.args.order.now c.args.dump.now c.open_slot.result c.args.number c.in-Some.slot.now c.open_slot.new.slot c.args.slots.now
    (map g.P.BufferPort.access c.args.ports.now) (map g.P.BufferPort.access c.open_slot.new.ports)
    (g.F.Files.told c.args.files.now)
    (g.F.Files.told c.open_slot.new.files)
    there (λ d is. c.requires.idle d (there ∙ is)) c.open_slot.ensures.opens c.open_slot.ensures.refuses c.requires.ready
