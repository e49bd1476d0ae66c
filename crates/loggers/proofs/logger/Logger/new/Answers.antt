use Rattle.std.proofs.Common.{[], None, sym, subst, arith}
use Rattle.loggers.specs.declared.logged_run.RunDumps.{RunDumps}
use Rattle.loggers.specs.LoggerStands.{LoggerStands}
use Rattle.loggers.specs.Turning.{no_dumps}
use Rattle.loggers.proofs.NewStands.{new_stands, new_room, new_own, new_failed}
use Rattle.loggers.proofs.FairTurns.{new_fair}
use Rattle.loggers.proofs.MarksMade.{new_marks}
use Rattle.loggers.proofs.MarksInRuns.{new_in_runs}
use Rattle.loggers.proofs.ReasonsKept.{idle_reasons, new_idle}
use Rattle.loggers.proofs.logger.Logger.new.Goals as goal

pub returns-clause-stands : goal.returns-clause-stands
returns-clause-stands c = λ ports seen served unused.
    let stands : LoggerStands None no_dumps c.in_ok-channels.channels ports [] seen = record {
      holds = new_stands c.args.specs c.args.rooms.now c.in_ok-channels.channels ports seen c.in_ok-channels.ensures served unused;
      asks = new_fair c.in_ok-channels.channels ports unused;
      marks = λ are. new_marks ports unused;
      in_runs = new_in_runs ports unused;
    } in
    subst (λ (dumps : RunDumps). LoggerStands None dumps c.in_ok-channels.channels ports [] seen) (sym c.without_dumps.ensures) stands

pub returns-clause-room : goal.returns-clause-room
returns-clause-room c = λ ports rooms number d a stood at. new_room c.args.specs c.args.rooms.now c.in_ok-channels.channels ports c.in_ok-channels.ensures rooms number d a stood at

pub returns-clause-own : goal.returns-clause-own
returns-clause-own c = λ ports unused. new_own c.args.specs c.args.rooms.now c.in_ok-channels.channels ports c.in_ok-channels.ensures unused

pub returns-clause-failed : goal.returns-clause-failed
returns-clause-failed c = λ failed. new_failed c.args.specs c.args.rooms.now c.in_ok-channels.channels c.in_ok-channels.ensures failed

pub returns-clause-reasons : goal.returns-clause-reasons
returns-clause-reasons c = λ ports files. idle_reasons c.in_ok-channels.channels ports (new_idle c.args.specs c.args.rooms.now c.in_ok-channels.channels c.in_ok-channels.ensures) (omega (arith, c.in_ok-channels.ensures.many)) files
