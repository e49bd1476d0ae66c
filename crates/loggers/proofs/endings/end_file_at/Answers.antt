use Rattle.std.proofs.Common.{◌≡◌, None, sym, arith}
use Rattle.buffer_core.specs.Slots.{slot_at}
use Rattle.loggers.proofs.ReadySteps.{ended_at}
use Rattle.loggers.proofs.endings.end_file_at.Goals as goal

pub returns-in-Some-clause-files : goal.returns-in-Some-clause-files
returns-in-Some-clause-files g c =
    let there : slot_at c.args.slots.now c.args.number ≡ c.in-Some.slot.now = sym (c.in-Some.ensures.entry.4 (omega arith) None) in
    ended_at c.closes_kept.ensures.change c.args.time c.args.dump.now c.args.number c.in-Some.slot.now c.end_slot.new.slot c.args.slots.now
    (g.F.Files.told c.args.files.now)
    (g.F.Files.told c.end_slot.new.files)
    c.args.ends.now c.end_slot.new.ends there (c.end_slot.ensures.ends c.args.slots.now there) c.requires.files
