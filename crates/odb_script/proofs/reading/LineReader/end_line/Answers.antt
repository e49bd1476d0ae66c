use Rattle.std.proofs.Common.{ℕ, length, ap, arith, length-take}
use Rattle.std.specs.Str.Lines.{strip_carriage_return}
use Rattle.odb_script.proofs.reading.LineReader.end_line.Goals as goal

pub invariant_of-self : goal.invariant_of-self
invariant_of-self c = record {
  passed = c.self.invariant.passed;
  filled = c.self.invariant.filled;
  block = c.self.invariant.block;
  short = omega (arith, ap (length {A = ℕ}) c.finish.ensures.line, length-take 4097 (strip_carriage_return c.self.inside.line.items));
  room = c.finish.ensures.room;
  taken = c.self.invariant.taken;
}
