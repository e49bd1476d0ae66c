use Rattle.std.proofs.Common.{◌≡◌, List, [], sym, subst, rules, arith}
use Rattle.daq_std.specs.BlockTables.{given_at}
use Rattle.daq_std.specs.declared.blocks.BlockFile.{BlockFile}
use Rattle.daq_std.proofs.BlockBytes.{nothing_pushed}
use Rattle.daq_std.proofs.table.BlockTable.new.Goals as goal

pub loop-preserved : goal.loop-preserved
loop-preserved g c =
    (search (arith, rules), λ number. subst (λ (blocks : List (BlockFile _)). given_at blocks number ≡ []) (sym c.in_ok-push.ensures.items) (nothing_pushed c.loop.blocks.items c.in_ok-new.field-0 c.in_ok-new.ensures c.loop.invariant.1 number))
