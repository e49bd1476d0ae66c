use Rattle.std.proofs.Common.{◌≡◌, ℕ, List, ◌++◌, length, min, take, drop, ap, sym, ◌∙◌, subst, arith}
use Rattle.std.proofs.Math.Seq.{take-add}
use Rattle.daq_io.proofs.ReadingLaws.{read_front, read_end}
use Rattle.daq_mem.proofs.streams.MemSourceSource.read.Goals as goal

pub returns-clause-bytes : goal.returns-clause-bytes
returns-clause-bytes c =
    let bytes : List ℕ = c.self.inside.bytes.items in
    let into : List ℕ = c.copy_front-count.new.into in
    let count : ℕ = c.copy_front-count.result in
    let left : drop c.self.inside.at bytes ≡ c.args.self.now.left = ap (λ source. source.left) c.self.view_is in
    let rest : c.split_at.result.1.now ≡ drop c.self.inside.at bytes = c.split_at.ensures.back ∙ ap (drop c.self.inside.at) c.as_slice.ensures.value in (
      sym left ∙ read_front bytes into c.self.inside.at count (c.copy_front-count.ensures.front ∙ ap (take count) rest),
      read_end bytes into c.self.inside.at count (subst (λ left. count ≡ min (length left) (length into)) rest (omega arith)),
    )

pub returns-clause-gave : goal.returns-clause-gave
returns-clause-gave c =
    let bytes : List ℕ = c.self.inside.bytes.items in
    let count : ℕ = c.copy_front-count.result in
    let gave : take c.self.inside.at bytes ≡ c.args.self.now.gave = ap (λ source. source.gave) c.self.view_is in
    let rest : c.split_at.result.1.now ≡ drop c.self.inside.at bytes = c.split_at.ensures.back ∙ ap (drop c.self.inside.at) c.as_slice.ensures.value in
    let front : take count (drop c.self.inside.at bytes) ≡ take count c.copy_front-count.new.into = sym (c.copy_front-count.ensures.front ∙ ap (take count) rest) in
    take-add c.self.inside.at count bytes ∙ (ap (λ (l : List ℕ). l ++ take count (drop c.self.inside.at bytes)) gave ∙ ap (λ (l : List ℕ). c.args.self.now.gave ++ l) front)
