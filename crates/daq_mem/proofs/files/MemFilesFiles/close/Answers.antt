use Rattle.std.proofs.Common.{◌≡◌, [], cond, ap, sym, ◌∙◌, subst, refl}
use Rattle.daq_io.specs.Seen.{Closes}
use Rattle.daq_io.specs.declared.folder.FileState.{FileState}
use Rattle.daq_io.specs.declared.folder.FileState.TheVariants.{Closed, InVain}
use Rattle.daq_mem.specs.MemSeen.{seen_of}
use Rattle.daq_mem.proofs.FileSteps.{left_so}
use Rattle.daq_mem.proofs.files.MemFilesFiles.close.Goals as goal

pub returns-else-fails-clause-written : goal.returns-else-fails-clause-written
returns-else-fails-clause-written c = λ written.
    let self = c.args.self.now in
    let state : c.state_left-state.result ≡ Closed = c.state_left-state.ensures ∙ ap (λ fails. cond fails InVain Closed) c.if-fails.false in
    subst (λ (state : FileState). Closes (seen_of self.slots.slots.items self.numbers.uses.items self.readers.readers.items self.given self.done)
    (seen_of c.leave.new.self.slots.items c.assign.new.self.uses.items self.readers.readers.items c.take.new.self c.left.new.self) c.args.file state []) state
    (left_so self.slots.slots.items c.leave.new.self.slots.items self.numbers.uses.items c.assign.new.self.uses.items self.readers.readers.items self.given c.take.new.self self.done c.left.new.self c.args.file c.in-Writing.name c.take.result c.state_left-state.result
    (sym c.usage.ensures ∙ c.in-Writing.is) c.assign.ensures.changed c.leave.ensures.others c.leave.ensures.left (rw state refl) c.take.ensures.taken c.take.ensures.changed c.left.ensures)
