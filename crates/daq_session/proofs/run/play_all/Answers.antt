use Rattle.std.proofs.Common.{refl, arith, ap, ◌∙◌}
use Rattle.odb_watch.specs.DatabasePorts.{DatabaseAccess}
use Rattle.odb_lock.specs.SharedAccesses.{access_by_pass}
use Rattle.session_commands.specs.Finishing.{side_told, stage_unopened}
use Rattle.daq_session.proofs.run.play_all.Goals as goal

pub returns-in-Ended : goal.returns-in-Ended
returns-in-Ended g c =
    let first = c.play_first.new.unopened in
    let left = c.leave_unopened-lines.ensures in
    let new = c.requires.session.unopened in
    rw left.lines (record {
      final = stage_unopened (side_told access_by_pass g.E.Files.told g.C.Clock.told) first.quota first.declarations first.side;
      tells = record {
        counts = record {
          may = tt;
          source_counts = rw c.in-Ended.is at c.play_first.ensures.ends.source_counts;
          lines = (g.O.Sink.told c.play_first.new.script.out).faults;
          sink_counts = rw c.in-Ended.is at c.play_first.ensures.ends.sink_counts;
          behind = refl;
        };
        failed = omega arith;
        files_are = refl;
        replies_are = refl;
        clock_is = refl;
      };
      ends = record { closed = refl; files = refl; alone = left.alone };
      finishes = c.first_start_opens.ensures.unopened _ _ _ _ _ _ _ _ (rw (new.quota, new.nothing, new.access, new.replies, c.in-Ended.is) at c.play_first.ensures.played) refl;
    })

pub returns-in-Opens : goal.returns-in-Opens
returns-in-Opens g c =
    let played = c.open_and_play.ensures in
    let new = c.requires.session.unopened in
    let source = rw c.in-Opens.is at c.play_first.ensures.ends.source_counts in
    let sink = rw c.in-Opens.is at c.play_first.ensures.ends.sink_counts in
    record {
      final = played.final;
      tells = record {
        counts = rw (source, sink) at played.tells.counts;
        failed = played.tells.failed;
        files_are = played.tells.files_are;
        replies_are = played.tells.replies_are;
        clock_is = played.tells.clock_is;
      };
      ends = played.ends;
      finishes = played.finishes _ _ _ (rw (new.quota, new.nothing, new.access, new.replies, c.in-Opens.is) at c.play_first.ensures.played);
    }

pub open_and_play-requires-clause-database : goal.open_and_play-requires-clause-database
open_and_play-requires-clause-database g c = λ κs lives. c.play_first.ensures.same.database ∙ ap (λ (a : DatabaseAccess). a.database) c.requires.session.unopened.access

pub leave_unopened-lines-requires-clause-others : goal.leave_unopened-lines-requires-clause-others
leave_unopened-lines-requires-clause-others g c = c.requires.session.others.keeps

pub open_and_play-requires-clause-callers : goal.open_and_play-requires-clause-callers
open_and_play-requires-clause-callers g c = λ κs lives. c.requires.session.callers

pub open_and_play-requires-clause-others : goal.open_and_play-requires-clause-others
open_and_play-requires-clause-others g c = λ κs lives. c.requires.session.others
