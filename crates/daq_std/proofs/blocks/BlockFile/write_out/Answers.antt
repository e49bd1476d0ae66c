use Rattle.std.proofs.Common.{◌++◌, ◌∙◌, ℕ, List, [], ap, sym, subst}
use Rattle.std.proofs.lemmas.List.{append-nil}
use mathlib.Core.List.{IsPrefix}
use Rattle.daq_std.proofs.BlockBytes.{given_whole, part_first}
use Rattle.daq_std.proofs.blocks.BlockFile.write_out.Goals as goal

pub returns-in-Err-clause-part : goal.returns-in-Err-clause-part
returns-in-Err-clause-part g c =
    subst (λ (front : List ℕ). IsPrefix (c.write_all.new.self.handed ++ []) (front ++ c.args.bytes.now))
    (sym (given_whole {opened = c.in-Some.file} c.args.self.now.file c.args.self.now.broken c.args.self.now.pending.bytes c.in-Some.is c.requires.whole
    ∙ (ap (λ (pending : List ℕ). c.in-Some.file.handed ++ pending) c.requires.empty ∙ append-nil c.in-Some.file.handed)))
    (part_first c.in-Err.ensures.part)
