use Rattle.std.proofs.Common.{refl}
use Rattle.odb_lock.specs.SharedAccesses.{access_by_pass}
use Rattle.session_commands.specs.Finishing.{database_at, side_told}
use Rattle.daq_session.proofs.PlayedLaws.{cut_tells}
use Rattle.daq_session.proofs.ScriptLaws.{few_fronts, none_ended, nothing_opened, some_ended}
use Rattle.daq_session.proofs.run.open_and_play.Goals as goal

pub members_suit-requires-clause-callers : goal.members_suit-requires-clause-callers
members_suit-requires-clause-callers g c = few_fronts c.args.shared.now c.open_lists-lists.result c.requires.callers c.open_lists-lists.ensures.sound

pub play_objects-lines-requires-clause-open : goal.play_objects-lines-requires-clause-open
play_objects-lines-requires-clause-open g c = λ κs lives.
    let opened = c.in-Ok.ensures in record {
      suit = c.members_suit.ensures;
      opening = opened.objects.engine;
      main_is = opened.main;
      own = opened.own;
      fresh = opened.fresh;
      out = opened.passes c.args.shared.now c.requires.others;
    }

pub leave_unopened-lines-requires-clause-others : goal.leave_unopened-lines-requires-clause-others
leave_unopened-lines-requires-clause-others g c = rw c.in-Err.ensures.back c.requires.others.keeps

pub returns-in-Err : goal.returns-in-Err
returns-in-Err g c =
    let setup = c.args.setup in
    let told = side_told access_by_pass g.E.Files.told g.C.Clock.told in
    let left = c.leave_unopened-lines.ensures in
    rw left.lines (record {
      final = _;
      tells = cut_tells _ setup.side c.args.scene _ refl refl refl;
      ends = record { closed = refl; files = refl; alone = left.alone };
      finishes = c.first_start_opens.ensures.cut _ _ _ (nothing_opened setup.quota setup.declarations (database_at told setup.side) (g.C.Clock.told setup.side.clock));
    })

pub returns-in-Err-session : goal.returns-in-Err-session
returns-in-Err-session g c =
    let played = c.play_objects-lines.ensures c.args.setup.declarations c.open_lists-lists.ensures.are in
    record {
      final = played.final;
      tells = played.tells;
      ends = none_ended _ c.open_lists-lists.result _ c.args.shared.now c.args.scene.members.run_files played.final _ _ _ c.in-Err-session.is played.ends;
      finishes = played.finishes;
    }

pub returns : goal.returns
returns g c =
    let lists = c.open_lists-lists in
    let played = c.play_objects-lines.ensures c.args.setup.declarations lists.ensures.are in
    record {
      final = played.final;
      tells = played.tells;
      ends = some_ended _ lists.result _ c.args.shared.now c.args.scene.members.run_files played.final _ _ _ _ c.in-Ok-session.is lists.ensures.sound
          c.in-Ok.ensures.objects c.members_suit.ensures.callers played.ends;
      finishes = played.finishes;
    }
