use Rattle.std.specs.Prelude.{[], unwrap_or}
use Rattle.std.proofs.Common.{refl, arith}
use Rattle.daq_members.specs.ConnectedLoggers.{moment_at}
use Rattle.daq_members.proofs.LoggerLaws.{pulls_more, stays_at_none, stays_then}
use Rattle.daq_members.proofs.ChannelBounds.{pulls_all}
use Rattle.daq_members.proofs.connected_logger.ConnectedLogger.pull_all.Goals as goal

pub loop-channel-init : goal.loop-channel-init
loop-channel-init g c = record { pulls = (refl, refl); within = omega arith; stays = stays_at_none g.F.Files.told c.args.self.now }

pub loop-channel-preserved : goal.loop-channel-preserved
loop-channel-preserved g c =
    let read = g.F.Files.told in
    let dump = unwrap_or c.args.self.now.dumps.start [] in
    let so = c.loop-channel in
    let did = c.pull_one-pulled in
    let pulled = rw so.invariant.stays.dumps at did.ensures.pulls in
    record {
      pulls = pulls_more dump so.channel so.got c.or_pulled-got.result did.result (moment_at read c.args.self.now) (moment_at read so.self) (moment_at read did.new.self) so.invariant.pulls pulled c.or_pulled-got.ensures;
      within = omega arith;
      stays = stays_then g.F.Files.told c.args.self.now so.self did.new.self so.invariant.stays did.ensures.stays;
    }

pub returns-clause-pulls : goal.returns-clause-pulls
returns-clause-pulls g c =
    let read = g.F.Files.told in
    let dump = unwrap_or c.args.self.now.dumps.start [] in
    let so = c.loop-channel in
    let bound = c.bound-bound in
    pulls_all dump bound.result so.channel so.got (moment_at read c.args.self.now) (moment_at read so.self) (omega (arith, c.loop-channel-test.false)) so.invariant.within bound.ensures.few so.invariant.pulls bound.ensures.none
