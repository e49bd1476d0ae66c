use Rattle.std.proofs.Common.{arith}
use Rattle.daq_members.proofs.ChannelBounds.{bound_few, looked_more, looked_all}
use Rattle.daq_members.proofs.connected_logger.channel_bound.Goals as goal

pub loop-number-init : goal.loop-number-init
loop-number-init c = record { few = omega arith; within = omega arith; none = λ n from until. absurd (omega (arith, until)) }

pub loop-number-preserved : goal.loop-number-preserved
loop-number-preserved c =
    let at = c.loop-number in
    let next = c.bound_past-bound in
    record {
      few = bound_few at.number at.bound next.result c.has_channel.result next.ensures at.invariant.few;
      within = omega arith;
      none = looked_more c.args.logger.now.channels at.number at.bound next.result c.has_channel.result next.ensures c.has_channel.ensures at.invariant.none;
    }

pub returns-clause-few : goal.returns-clause-few
returns-clause-few c = omega (arith, c.loop-number.invariant.few, c.loop-number.invariant.within)

pub returns-clause-none : goal.returns-clause-none
returns-clause-none c = looked_all c.args.logger.now.channels c.loop-number.bound c.loop-number.number (omega (arith, c.requires, c.loop-number-test.false)) c.loop-number.invariant.none
