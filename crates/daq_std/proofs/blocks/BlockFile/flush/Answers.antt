use Rattle.std.proofs.Common.{◌++◌, ℕ, List, [], sym, subst}
use mathlib.Core.List.{IsPrefix}
use Rattle.daq_std.proofs.BlockBytes.{given_whole, no_fault, part_first}
use Rattle.daq_std.proofs.blocks.BlockFile.flush.Goals as goal

pub returns-in-Err-clause-part : goal.returns-in-Err-clause-part
returns-in-Err-clause-part g c =
    subst (λ (given : List ℕ). IsPrefix (c.write_all.new.self.handed ++ []) given)
    (sym (given_whole {opened = c.in-Some-file.file} c.args.self.now.file c.args.self.now.broken c.args.self.now.pending.bytes c.in-Some-file.is (no_fault c.args.self.now.broken c.in_default.not-Some)))
    (subst (λ (pending : List ℕ). IsPrefix (c.write_all.new.self.handed ++ []) (c.in-Some-file.file.handed ++ pending)) c.as_slice.ensures.value (part_first c.in-Err.ensures.part))
