use Rattle.std.proofs.Common.{◌∙◌, refl, ap}
use Rattle.odb_lock.specs.SharedAccesses.{access_by_pass}
use Rattle.session_runs.specs.KeptRuns.{RunsSeen}
use Rattle.session_commands.specs.Finishing.{database_at, script_point, side_told}
use Rattle.daq_session.proofs.PlayedLaws.{cut_plays, keys_cut, opens_so}
use Rattle.daq_session.proofs.played.play_objects.Goals as goal

pub open_keys-requires : goal.open_keys-requires
open_keys-requires g c = record { main = c.args.side.database.main }

pub leave_unopened-lines-requires-clause-others : goal.leave_unopened-lines-requires-clause-others
leave_unopened-lines-requires-clause-others g c = c.requires.«open».out.database.keeps

pub returns-in_default : goal.returns-in_default
returns-in_default g c =
    let left = c.leave_unopened-lines.ensures in
    rw left.lines (cut_plays _ c.args.places.now c.args.side (access_by_pass c.open_keys.new.access) c.args.scene _ c.first_start_opens.ensures.cut c.in_default.ensures.cut left.alone)

pub play_opened-requires-clause-main : goal.play_opened-requires-clause-main
play_opened-requires-clause-main g c = λ κs lives. record {
  lists = refl;
  engine = ap (λ (runs : RunsSeen). runs.main.engine) c.in-Ok-open_members.ensures.opened.runs;
  database = c.open_keys.ensures.same.database ∙ c.requires.database;
}

pub play_opened-requires-clause-members : goal.play_opened-requires-clause-members
play_opened-requires-clause-members g c = λ κs lives.
    let opened = c.in-Ok-open_members.ensures.opened in
    (c.args.scene.members.run_files, record { suit = c.requires.«open».suit; new = opened.new; out = opened.out })

pub returns-in-Ok-open_members : goal.returns-in-Ok-open_members
returns-in-Ok-open_members g c = λ declared opened.
    let places = c.args.places.now in
    let side = c.args.side in
    let told = side_told access_by_pass g.E.Files.told g.C.Clock.told in
    let members = c.in-Ok-open_members.ensures.opened in
    let played = c.play_opened.ensures c.args.scene.members.run_files members.new in
    let later = c.play_opened.result.lines.script in
    record {
      final = played.final;
      tells = played.tells;
      ends = played.ends;
      finishes = c.first_start_opens.ensures.ready _ (script_point g.S.Source.told g.O.Sink.told later) _ _ _ _ _
          (opens_so places.quota declared places.lists.now (database_at told side) (access_by_pass c.open_keys.new.access) (g.C.Clock.told side.clock) opened
          places.objects.now.engine _ c.requires.«open».opening c.in-Ok.ensures.made members.runs) played.finishes;
    }

pub returns-in-Err : goal.returns-in-Err
returns-in-Err g c =
    let keys = keys_cut _ (access_by_pass c.args.side.database.access) (access_by_pass c.open_keys.new.access) c.in-Ok.ensures.made in
    let left = c.leave_unopened-lines-in-Err.ensures in
    rw (left.lines, c.in-Err.ensures.files, c.in-Err.ensures.pick)
    (cut_plays _ c.args.places.now c.args.side (access_by_pass c.open_keys.new.access) c.args.scene _ c.first_start_opens.ensures.cut keys left.alone)
