use Rattle.std.proofs.Common.{◌≡◌, ◌∙◌, refl, sym, ap, subst, arith}
use Rattle.turn_lock.specs.Passes.{IsOf, number_of, seen_by}
use Rattle.transition_lock.specs.SharedEngines.{engine_lock_of}
use Rattle.transition_lock.specs.declared.shared.SharedEngine.{SharedEngine}
use Rattle.odb_lock.specs.SharedAccesses.{access_by_pass}
use Rattle.loggers.specs.OtherFiles.{AreDeclared}
use Rattle.daq_members.specs.LoggerSeats.{LoggerSeen}
use Rattle.session_objects.specs.Returns.{logger_end}
use Rattle.session_commands.specs.Endings.{NotesFailed}
use Rattle.session_commands.specs.Finishing.{side_told, stage_open}
use Rattle.daq_session.proofs.FailedLaws.{noted_failed}
use Rattle.daq_session.proofs.MembersLaws.{many_members}
use Rattle.daq_session.proofs.played.play_opened.Goals as goal

pub play_main-end-requires-clause-some : goal.play_main-end-requires-clause-some
play_main-end-requires-clause-some g c = omega (arith, c.requires.members.1.new.are.many, many_members c.args.places.now.lists.now)

pub play_main-end-requires-clause-few : goal.play_main-end-requires-clause-few
play_main-end-requires-clause-few g c =
    let has = c.requires.members.1 in
    omega (arith, has.suit.few, has.suit.few_analyzers, has.new.are.many, many_members c.args.places.now.lists.now)

pub take_back-passes-requires-clause-out : goal.take_back-passes-requires-clause-out
take_back-passes-requires-clause-out g c = c.requires.members.1.out

pub take_back-passes-requires-clause-members : goal.take_back-passes-requires-clause-members
take_back-passes-requires-clause-members g c =
    let places = c.args.places.now in
    c.members_stay.ensures.stay places.lists.now places.objects.now places.shared.now c.args.members _ c.play_main-end.ensures.stay.same c.requires.members.1.new.are

pub take_back-passes-requires-clause-engine : goal.take_back-passes-requires-clause-engine
take_back-passes-requires-clause-engine g c =
    let main = c.play_main-end.ensures.played.ends in
    let P : SharedEngine → Type 0 = λ engine. IsOf (engine_lock_of engine) c.play_main-end.result.0.main in record {
      is = main.main_is;
      own = subst P c.requires.main.engine main.own;
      idle = main.idle;
    }

pub take_back-passes-requires-clause-database : goal.take_back-passes-requires-clause-database
take_back-passes-requires-clause-database g c =
    let same = c.play_main-end.ensures.played.ends.same in record {
      is = ap number_of c.into_pass-pass.ensures.pass ∙ (same.caller ∙ c.args.main.side.database.main);
      own = c.into_pass-pass.ensures.told c.args.places.now.shared.now (same.database ∙ c.requires.main.database);
      idle = c.into_pass-pass.ensures.idle;
    }

pub returns : goal.returns
returns g c = λ files given.
    let places = c.args.places.now in
    let end = c.play_main-end.result.0 in
    let main = c.play_main-end.ensures.played.ends in
    let stay = c.play_main-end.ensures.stay in
    let are = c.members_stay.ensures.stay places.lists.now places.objects.now places.shared.now c.args.members c.play_main-end.result.1 stay.same given.are in
    let its = c.members_stay.ensures.logger places.lists.now places.objects.now places.shared.now c.play_main-end.result.1 are in
    let logger = stay.logger _ given.logger given.has_logger in
    let same : its.0 ≡ logger.0 = cc (its.1, logger.1) in
    let left = c.take_back-passes.result.logger in
    let leaves : left ≡ logger_end logger.0 = c.take_back-passes.ensures.logger logger.0 logger.1 in
    let noted : NotesFailed left.failed (g.F.Files.told given.logger.files).faults (g.F.Files.told logger.0.files).faults =
    noted_failed _ _ _ _ _ (ap (λ l. l.failed) leaves) given.failed logger.2.faults in
    record {
      final = stage_open (side_told access_by_pass g.E.Files.told g.C.Clock.told) places.lists.now main.played.last end.side;
      tells = record {
        counts = c.play_main-end.ensures.played.counts;
        failed = subst (λ (f : _). NotesFailed left.failed (g.F.Files.told f).faults (g.F.Files.told left.files).faults) given.has_files
            (subst (λ (f : _). NotesFailed left.failed (g.F.Files.told given.logger.files).faults (g.F.Files.told f).faults) (sym (ap (λ l. l.files) leaves)) noted);
        files_are = refl;
        replies_are = refl;
        clock_is = refl;
      };
      ends = (
        refl,
        (
          main.played.last,
          refl,
          record {
            kept = main.played.records_are;
            knows = main.played.knows;
            caller = main.same.caller ∙ c.args.main.side.database.main;
            members = c.play_main-end.result.1;
            are = are;
            keep = stay.keep;
            calls = rw (main.played.own_are, ap seen_by c.into_pass-pass.ensures.pass) at c.take_back-passes.ensures.calls;
            logger = logger.0;
            has_logger = logger.1;
            channels = subst (λ (l : LoggerSeen _). AreDeclared places.lists.now.channels l.slots) same its.2.channels_are;
            first = logger.2.same.first ∙ given.first;
            files = sym (ap (λ l. l.files) leaves);
          },
        ),
      );
      finishes = rw c.requires.main.lists at main.played.finishes;
    }
