use Rattle.loggers.proofs.TurnedLogger.{ChannelLaws, turn_stands}
use Rattle.loggers.proofs.FairTurns.{turn_fair}
use Rattle.loggers.proofs.MarksMade.{turn_marks}
use Rattle.loggers.proofs.MarksInRuns.{turn_in_runs}
use Rattle.loggers.proofs.laws.turns_keep.Goals as goal

pub returns : goal.returns
returns c =
    let laws : ChannelLaws = record {
      left = c.left_beside.ensures;
      calls = c.calls_beside.ensures;
      files = c.files_beside.ensures;
      opens_beside = c.opens_beside.ensures;
      aborts_beside = c.aborts_beside.ensures;
      opens_keep = c.opens_kept.ensures.keep;
      opens_alone = c.opens_kept.ensures.alone;
      opens_change = c.opens_kept.ensures.change;
      file_there = c.opens_kept.ensures.there;
      aborts_keep = c.aborts_kept.ensures.keep;
      aborts_change = c.aborts_kept.ensures.change;
      begun = c.marks_kept.ensures.begun;
      ended = c.marks_kept.ensures.ended;
    } in
    λ t turns takes small ready later_ready idle later_idle answered none stands. record {
      holds = turn_stands laws t turns takes small ready later_ready idle later_idle answered none stands.holds;
      asks = turn_fair t turns takes stands.asks;
      marks = turn_marks t turns takes stands.holds.told stands.holds.current stands.marks;
      in_runs = turn_in_runs t takes stands.in_runs;
    }
