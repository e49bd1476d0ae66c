use Rattle.std.proofs.Common.{refl}
use Rattle.loggers.proofs.PullMoves.{PullLaws}
use Rattle.loggers.proofs.PulledLogger.{pulled_stands}
use Rattle.loggers.proofs.SameShape.{pull_ports, pull_room, pull_idle}
use Rattle.loggers.proofs.TurnsOwn.{pull_own}
use Rattle.loggers.proofs.FairTurns.{pull_fair}
use Rattle.loggers.proofs.MarksMade.{pull_marks}
use Rattle.loggers.proofs.MarksInRuns.{pull_in_runs}
use Rattle.loggers.proofs.FaultsNoted.{pull_faults}
use Rattle.loggers.proofs.logger.Logger.pull.Goals as goal

pub returns-clause-same : goal.returns-clause-same
returns-clause-same g c = pull_ports _ c.args.channel c.pull_at.result _ _ c.pull_at.ensures.pulls

pub returns-clause-room : goal.returns-clause-room
returns-clause-room g c = pull_room _ c.args.channel c.pull_at.result _ _ c.pull_at.ensures.pulls

pub returns-clause-idle : goal.returns-clause-idle
returns-clause-idle g c = pull_idle c.args.self.now.run _ c.args.channel c.pull_at.result _ _ c.pull_at.ensures.pulls c.requires.idle

pub returns-clause-keeps : goal.returns-clause-keeps
returns-clause-keeps g c =
    let laws : PullLaws = record {
      left = c.left_beside.ensures;
      keep = c.pulls_kept.ensures.keep;
      change = c.pulls_kept.ensures.change;
      know = c.pulls_kept.ensures.know;
      beside = c.pulls_beside.ensures;
      files = c.files_beside.ensures;
      there = c.opens_kept.ensures.there;
    } in
    λ turns stands. record {
      holds = pulled_stands laws c.args.self.now.run c.args.self.now.dumps turns c.bytes_of-dump.result.now c.pull_at.result c.args.channel _ _ _ c.bytes_of-dump.ensures refl c.requires.ready c.pull_at.ensures.pulls stands.holds;
      asks = pull_fair c.args.self.now.run _ c.args.channel c.pull_at.result _ _ turns c.pull_at.ensures.pulls stands.asks;
      marks = pull_marks _ c.args.channel c.pull_at.result _ _ turns c.pull_at.ensures.pulls stands.marks;
      in_runs = pull_in_runs c.args.self.now.run _ c.args.channel c.pull_at.result _ _ c.pull_at.ensures.pulls stands.in_runs;
    }

pub returns-clause-own : goal.returns-clause-own
returns-clause-own g c = pull_own _ c.args.channel c.pull_at.result _ _ c.pull_at.ensures.pulls

pub returns-clause-failed : goal.returns-clause-failed
returns-clause-failed g c = pull_faults _ c.args.channel c.pull_at.result _ _ c.pull_at.ensures.pulls
