use Rattle.std.proofs.Common.{refl, ap, ◌∙◌, take, drop, length, ◌<◌, arith}
use Rattle.daq_mem.proofs.ReaderLemmas.{reads_on}
use Rattle.daq_mem.proofs.readers.Readers.read.Goals as goal

pub returns-clause-moved : goal.returns-clause-moved
returns-clause-moved c =
    let inside : c.args.number < length c.args.self.now.readers.items = omega arith in
    reads_on _ c.args.number c.index_mut-reader.result.now _ c.copy_front-count.new.into c.copy_front-count.result inside c.index_mut-reader.ensures.value refl refl
    (c.copy_front-count.ensures.front ∙ ap (take c.copy_front-count.result) (c.split_at.ensures.back ∙ ap (drop c.index_mut-reader.result.now.at) c.as_slice-2.ensures.value))
