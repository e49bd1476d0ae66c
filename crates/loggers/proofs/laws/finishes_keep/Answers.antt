use Rattle.loggers.proofs.FinishedLogger.{EndingLaws, finish_stands}
use Rattle.loggers.proofs.FairTurns.{finish_fair}
use Rattle.loggers.proofs.MarksMade.{finish_marks}
use Rattle.loggers.proofs.MarksInRuns.{finish_in_runs}
use Rattle.loggers.proofs.laws.finishes_keep.Goals as goal

pub returns : goal.returns
returns c =
    let laws : EndingLaws = record {
      left = c.left_beside.ensures;
      keep = c.closes_kept.ensures.keep;
      change = c.closes_kept.ensures.change;
      know = c.closes_kept.ensures.know;
      beside = c.closes_beside.ensures;
      files = c.files_beside.ensures;
    } in
    λ f ports turns finishes in_use stands. record {
      holds = finish_stands laws f ports turns finishes in_use stands.holds;
      asks = finish_fair f ports turns finishes stands.asks;
      marks = finish_marks turns f.answer ports stands.marks;
      in_runs = finish_in_runs f ports finishes stands.in_runs;
    }
