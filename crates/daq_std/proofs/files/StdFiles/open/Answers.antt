use Rattle.std.proofs.Common.{Some, ap, sym, subst}
use Rattle.daq_std.specs.InBlocks.{HasFiles}
use Rattle.daq_std.proofs.InUse.{opens_told, opens_keeps}
use Rattle.daq_std.proofs.files.StdFiles.open.Goals as goal

pub invariant_of-self-2 : goal.invariant_of-self-2
invariant_of-self-2 g c = subst (λ f. HasFiles f c.assign.new.self.uses.items c.open-2.new.self.blocks.items) (sym (ap (λ i. i.folder) c.open.ensures.folder))
    (opens_keeps c.in_ok-number.number c.self.invariant c.open-2.ensures c.assign.ensures.changed c.assign.ensures.counted.count (ap Some c.in_ok-file.ensures.opened))

pub returns-clause-opens : goal.returns-clause-opens
returns-clause-opens g c = rw (sym c.self.view_is) (opens_told _ _ _ _ _ _ c.open-2.ensures.changes _ _ (ap (λ i. i.done) c.open.ensures.folder) c.in_ok-number.ensures.free c.assign.ensures.changed)

pub returns-clause-opened : goal.returns-clause-opened
returns-clause-opened g c = rw (sym c.self.view_is) (record { opened = c.in_ok-file.file; opening = c.in_ok-file.ensures.opened; opens = c.open-2.ensures })
