use Rattle.std.proofs.Common.{Some, ap, sym, subst}
use Rattle.daq_std.specs.InBlocks.{HasFiles}
use Rattle.daq_std.proofs.InUse.{makes_told, opens_keeps, opens_nothing}
use Rattle.daq_std.proofs.files.StdFiles.make.Goals as goal

pub invariant_of-self-2 : goal.invariant_of-self-2
invariant_of-self-2 g c = subst (λ f. HasFiles f c.assign.new.self.uses.items c.open.new.self.blocks.items) (sym (ap (λ i. i.folder) c.create.ensures.folder))
    (opens_keeps c.in_ok-number.number c.self.invariant c.open.ensures c.assign.ensures.changed c.assign.ensures.counted.count (ap Some c.in_ok-file.ensures.made))

pub returns-clause-made : goal.returns-clause-made
returns-clause-made g c = rw (sym c.self.view_is) (makes_told _ _ _ _ _ _ c.open.ensures.changes _ _ (ap (λ i. i.done) c.create.ensures.folder) c.in_ok-number.ensures.free c.assign.ensures.changed (opens_nothing c.open.ensures c.in_ok-file.ensures.nothing))

pub returns-clause-opened : goal.returns-clause-opened
returns-clause-opened g c = rw (sym c.self.view_is) (record { opened = c.in_ok-file.file; opening = c.in_ok-file.ensures.made; opens = c.open.ensures })
