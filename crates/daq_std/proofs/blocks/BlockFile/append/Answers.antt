use Rattle.std.proofs.Common.{subst}
use mathlib.Core.List.{IsPrefix}
use Rattle.daq_io.specs.Rooms.{Roomed}
use Rattle.daq_std.specs.Blocks.{given_of}
use Rattle.daq_std.specs.BlockTables.{given_in_blocks}
use Rattle.daq_std.proofs.BlockBytes.{part_more}
use Rattle.daq_std.proofs.ByteSteps.{on_err}
use Rattle.daq_std.proofs.blocks.BlockFile.append.Goals as goal

pub returns-in_err-flush-clause-part : goal.returns-in_err-flush-clause-part
returns-in_err-flush-clause-part g c = on_err c.from_residual.result
    (part_more (given_in_blocks c.flush.new.self) (given_in_blocks c.args.self.now) c.args.bytes.now
    (subst (λ (pending : Roomed). IsPrefix (given_in_blocks c.flush.new.self) (given_of c.args.self.now.file c.args.self.now.broken pending.bytes)) c.if-put.ensures.kept c.in_err-flush.ensures.part))
