use Rattle.std.proofs.Common.{◌≡◌, ◌∙◌, ℕ, ◌+◌, ◌-◌, ◌<◌, ◌≤◌, ◌++◌, length, take, min, ap, sym, subst, arith, length-take}
use Rattle.odb_script.specs.Lines.{Reading, script_limit}
use Rattle.odb_script.specs.Advances.{IsLinePart, IsScanned}
use Rattle.odb_script.specs.Inside.{reading_of}
use Rattle.odb_script.proofs.Scanning.{visible_of, visible_is, is_small, scanned}
use Rattle.odb_script.proofs.reading.LineReader.scan.Goals as goal

-- the bytes that are seen, and the part of a line in them
seen : (c : goal.After-self-2-1) → c.split_at-2.result.0.now ≡ visible_of c.self.inside.block.items c.self.inside.at c.self.inside.filled c.self.inside.taken
seen c = visible_is c.self.inside.block.items c.as_slice.result.now c.split_at.result.1.now c.split_at-2.result.0.now c.self.inside.at c.self.inside.filled c.self.inside.taken
    c.min.result c.as_slice.ensures.value c.split_at.ensures.back c.min.ensures c.split_at-2.ensures.front

part : (c : goal.After-self-2-1) → IsLinePart (visible_of c.self.inside.block.items c.self.inside.at c.self.inside.filled c.self.inside.taken) c.line_part-len.result.0 c.line_part-len.result.1 c.line_part-len.result.2
part c = subst (λ v. IsLinePart v c.line_part-len.result.0 c.line_part-len.result.1 c.line_part-len.result.2) (seen c) c.line_part-len.ensures

kept : (c : goal.After-self-2-1) → c.keep.new.line.items ≡ take 4098 (c.self.inside.line.items ++ take c.line_part-len.result.0 (visible_of c.self.inside.block.items c.self.inside.at c.self.inside.filled c.self.inside.taken))
kept c = c.keep.ensures.line ∙ ap (λ xs. take 4098 (c.self.inside.line.items ++ xs)) (c.split_at-3.ensures.front ∙ ap (take c.line_part-len.result.0) (seen c))

small : (c : goal.After-self-2-1) → c.line_part-len.result.1 ≤ min (c.self.inside.filled - c.self.inside.at) (script_limit - c.self.inside.taken)
small c = is_small c.self.inside.block.items c.self.inside.at c.self.inside.filled c.self.inside.taken c.line_part-len.result.0 c.line_part-len.result.1 c.line_part-len.result.2 (part c)

pub invariant_of-self : goal.invariant_of-self
invariant_of-self c = record {
  passed = omega (arith, small c, c.self.invariant.passed);
  filled = c.self.invariant.filled;
  block = c.self.invariant.block;
  short = omega (arith, ap (length {A = ℕ}) c.keep.ensures.line, length-take 4098 (c.self.inside.line.items ++ c.split_at-3.result.0.now));
  room = c.keep.ensures.room;
  taken = omega (arith, small c, c.self.invariant.taken);
}

pub returns : goal.returns
returns c =
    let within : c.self.inside.taken < script_limit = subst (λ (r : Reading). r.taken < script_limit) (sym c.self.view_is) c.requires.within in
    let some : 0 < length (reading_of c.self.inside).pending = subst (λ (r : Reading). 0 < length r.pending) (sym c.self.view_is) c.requires.some in
    subst (λ (r : Reading). IsScanned c.line_part-len.result.2 r (reading_of (record { block = c.self.inside.block; at = c.self.inside.at + c.line_part-len.result.1; filled = c.self.inside.filled; line = c.keep.new.line; taken = c.self.inside.taken + c.line_part-len.result.1 })))
    c.self.view_is
    (scanned c.self.inside.block.items c.self.inside.at c.self.inside.filled c.self.inside.taken c.self.inside.line.items c.keep.new.line.items c.line_part-len.result.0 c.line_part-len.result.1
    c.self.invariant.filled within (kept c) c.line_part-len.result.2 some (part c))
