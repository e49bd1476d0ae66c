use Rattle.std.proofs.Common.{◌≡◌, ◌∙◌, ◌++◌, ◌-◌, List, ℕ, length, take, min, ap, arith, is_ok, length-take}
use Rattle.odb_script.proofs.KeptLines.{keeps_front, chosen}
use Rattle.odb_script.proofs.reading.keep.Goals as goal

pub returns-clause-line : goal.returns-clause-line
returns-clause-line c =
    let line : List ℕ = c.args.line.now.items in
    let part : List ℕ = c.args.part.now in
    let front : List ℕ = c.split_at.result.0.now in
    let is_front : front ≡ take (min (length part) (4098 - length line)) part =
    c.split_at.ensures.front ∙ ap (λ n. take n part) (c.min.ensures ∙ ap (λ xs. min (length part) (4098 - length xs)) c.as_slice.ensures.value) in
    chosen (is_ok c.extend_from_slice.result) (line ++ front) line c.extend_from_slice.new.self.items (c.extend_from_slice.ensures.succeeds (omega (arith, c.requires.short, c.requires.room, ap (length {A = ℕ}) is_front, length-take (min (length part) (4098 - length line)) part))) c.extend_from_slice.ensures.items
    ∙ ap (λ xs. line ++ xs) is_front
    ∙ keeps_front 4098 line part c.requires.short
