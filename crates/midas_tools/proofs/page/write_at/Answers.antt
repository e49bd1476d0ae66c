use Rattle.midas_tools.proofs.Printing.{written_at}
use Rattle.midas_tools.proofs.page.write_at.Goals as goal

pub returns-clause-written : goal.returns-clause-written
returns-clause-written c =
    written_at c.split_at_mut-free.result.0.now c.copy_from_slice.new.self c.split_at_mut-place.result.1.now c.args.bytes.now c.args.text.now c.args.at c.split_at_mut-free.ensures.front c.split_at_mut-free.ensures.front_len
    c.copy_from_slice.ensures.after
