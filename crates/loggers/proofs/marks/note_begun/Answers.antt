use Rattle.std.proofs.Common.{◌<◌, length, ap, ◌∙◌, arith}
use Rattle.std.specs.Prelude.{List, Option}
use Rattle.mid_logger.specs.declared.channel.Channel.{Channel}
use Rattle.mid_logger.specs.Channels.{stage_begun}
use Rattle.loggers.specs.Moments.{noted_channel}
use Rattle.loggers.proofs.SlotLists.{change_more, many_set}
use Rattle.loggers.proofs.marks.note_begun.Goals as goal

pub loop-number-preserved : goal.loop-number-preserved
loop-number-preserved c =
    let within : c.loop-number.number < length c.args.slots.now = omega (arith, c.loop-number-test.true, c.len-number-end.ensures) in
    record {
      so_far = c.note_begun_at.ensures ∙ change_more (noted_channel (λ stage. stage_begun stage c.args.place) c.args.buffer) c.args.slots.now c.loop-number.slots c.loop-number.number within c.loop-number.invariant.many c.loop-number.invariant.so_far;
      many = ap (λ (l : List (Option Channel)). length l) c.note_begun_at.ensures ∙ (many_set c.loop-number.slots c.loop-number.number _ ∙ c.loop-number.invariant.many);
    }
