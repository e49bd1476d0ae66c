use Rattle.std.specs.Prelude.{◌≡◌, refl}
use Rattle.std.proofs.Common.{subst}
use Rattle.loggers.specs.OtherFiles.{specs_in}
use Rattle.daq_members.specs.LoggerSeats.{LoggerSeen, IsSameLogger, logger_by}
use Rattle.daq_members.proofs.LoggerSeatLaws.{once_before, caller_kept}
use Rattle.daq_members.proofs.OtherFilesKept.{LoggerLeaves, specs_stay, others_kept}
use Rattle.daq_members.proofs.LoggerReasons.{ReasonLaws, reasons_kept}
use Rattle.daq_members.proofs.LoggerNames.{NameLaws, names_stay}
use Rattle.daq_members.proofs.logger_member.LoggerMember.turn.Goals as goal

pub returns-clause-same : goal.returns-clause-same
returns-clause-same g c =
    let laws : LoggerLeaves = record { turns = c.other_files.ensures.turns; pulls = c.other_files.ensures.pulls; finishes = c.other_files.ensures.finishes } in
    let stay : specs_in c.take_turn-turned.new.logger.slots ≡ specs_in c.self.inside.logger.slots = specs_stay laws _ c.take_turn-turned.ensures.takes c.self.invariant.seated.ready in
    let later : LoggerSeen _ = logger_by c.take_turn-turned.new.engine c.take_turn-turned.new.logger c.self.inside.first.value in
    subst (λ (before : LoggerSeen _). IsSameLogger before later) c.self.view_is
    (record {
      engine = c.take_turn-turned.ensures.engine;
      client = c.take_turn-turned.ensures.client;
      ports = c.take_turn-turned.ensures.same;
      specs = stay;
      first = refl;
    })

pub invariant_of-self : goal.invariant_of-self
invariant_of-self g c =
    let before = c.self.invariant.seated in
    let did = c.take_turn-turned.ensures in
    let now = c.is_ready.ensures in
    let laws : LoggerLeaves = record { turns = c.other_files.ensures.turns; pulls = c.other_files.ensures.pulls; finishes = c.other_files.ensures.finishes } in
    let names : NameLaws = record {
      turns = c.names_kept.ensures.turns;
      pulls = c.names_kept.ensures.pulls;
      finishes = c.names_kept.ensures.finishes;
      stopped = c.names_kept.ensures.stopped;
      still_stopped = c.names_kept.ensures.still_stopped;
      leave = c.other_files.ensures.pulls;
    } in
    let reasons : ReasonLaws = record { turns = c.reasons_given.ensures.turns; pulls = c.reasons_given.ensures.pulls; finishes = c.reasons_given.ensures.finishes } in
    record {
      seated = record {
        speaks = did.speaks;
        caller = rw did.client (caller_kept _ _ _ did.same before.caller);
        ready = now.ready;
        room = now.room;
        idle = now.idle;
        begun = now.begun;
        small = now.small;
        stands = λ once. rw did.client (did.keeps once (before.stands (once_before c.given_once.ensures.turns c.given_once.ensures.pulls _ did.takes once)));
        others = λ once.
            let earlier = once_before c.given_once.ensures.turns c.given_once.ensures.pulls _ did.takes once in
            rw did.client (others_kept laws _ _ did.takes before.ready (before.stands earlier) (before.others earlier));
      };
      reasons = rw did.client (reasons_kept reasons _ _ did.takes c.self.invariant.reasons);
      names = λ once.
          let earlier = once_before c.given_once.ensures.turns c.given_once.ensures.pulls _ did.takes once in
          rw did.client (names_stay names _ _ did.takes before.ready before.idle (before.stands earlier) c.self.invariant.reasons (c.self.invariant.names earlier));
    }

pub returns-clause-keeps : goal.returns-clause-keeps
returns-clause-keeps g c = invariant_of-self g c
