-- A line was read behind those that were answered, wherever the script began, and no call failed.
use Rattle.std.proofs.Common.{◌≡◌, ◌≤◌, ◌+◌, ℕ, List, Option}
use Rattle.daq_io.specs.Told.{SourceTold}
use Rattle.console.specs.Playing.{HasLine}
use Rattle.console.proofs.playing.play_on.Given as goal

abbrev pub invariant-loop-line : goal.invariant-loop-line
invariant-loop-line g l = record {
  has : (first : g.A.Answerer.Stage) (source_first : SourceTold) (told_first : Option (List ℕ))
      → HasLine g.A.Answerer.does g.A.Answerer.breaks first source_first (g.S.Source.told l.fn.source) told_first (g.O.Sink.told l.fn.out).written l.fn.line_loop.reader l.fn.line_loop.last (g.A.Answerer.stage l.fn.answerer) l.fn.line_loop.refusals l.fn.line_loop.number
      → HasLine g.A.Answerer.does g.A.Answerer.breaks first source_first (g.S.Source.told l.source) told_first (g.O.Sink.told l.out).written l.line_loop.reader l.line_loop.last (g.A.Answerer.stage l.answerer) l.line_loop.refusals l.line_loop.number;
  fits : l.line_loop.number + 1 ≤ l.line_loop.reader.taken;
  count : l.line ≤ l.line_loop.number;
  source : (g.S.Source.told l.source).faults ≡ (g.S.Source.told l.fn.source).faults;
  stays : g.A.Answerer.stays l.fn.answerer l.answerer;
  sink : (g.O.Sink.told l.out).faults ≡ (g.O.Sink.told l.fn.out).faults;
}
