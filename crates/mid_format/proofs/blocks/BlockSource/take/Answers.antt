use Rattle.std.proofs.Common.{◌≡◌, ◌+◌, ◌≤◌, length, take, drop, ap, sym, ◌∙◌, arith}
use Rattle.daq_io.proofs.ReadingLaws.{read_range}
use Rattle.mid_format.proofs.blocks.BlockSource.take.Goals as goal

pub returns-clause-moved : goal.returns-clause-moved
returns-clause-moved g c =
    let ordered : c.self.inside.start ≤ c.self.inside.end = c.self.invariant.0 in
    let inside : c.self.inside.end ≤ length c.self.inside.block.items = c.self.invariant.1 in
    let within : c.self.inside.start + c.copy_front-count.result ≤ c.self.inside.end = omega arith in
    let filled : c.split_at.result.0.now ≡ take c.self.inside.end c.self.inside.block.items = ◌∙◌ {b = take c.self.inside.end c.as_slice.result.now} c.split_at.ensures.front (ap (take c.self.inside.end) c.as_slice.ensures.value) in
    let rest : c.split_at-2.result.1.now ≡ drop c.self.inside.start (take c.self.inside.end c.self.inside.block.items) = c.split_at-2.ensures.back ∙ ap (drop c.self.inside.start) filled in
    sym (ap (λ v. v.at_hand) c.self.view_is) ∙ read_range c.self.inside.block.items c.copy_front-count.new.into c.self.inside.start c.self.inside.end c.copy_front-count.result ordered within
    (c.copy_front-count.ensures.front ∙ ap (take c.copy_front-count.result) rest)
