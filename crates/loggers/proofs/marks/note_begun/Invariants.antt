use Rattle.std.proofs.Common.{◌≡◌, ◌++◌, length, map, take, drop}
use Rattle.std.specs.Option.{option_map}
use Rattle.mid_logger.specs.Channels.{stage_begun}
use Rattle.loggers.specs.Moments.{noted_channel}
use Rattle.loggers.proofs.marks.note_begun.Given as goal

abbrev pub invariant-loop-number : goal.invariant-loop-number
invariant-loop-number l = record {
  so_far : l.slots ≡ map (option_map (noted_channel (λ stage. stage_begun stage l.place) l.buffer)) (take l.number l.fn.slots) ++ drop l.number l.fn.slots;
  many : length l.slots ≡ length l.fn.slots;
}
