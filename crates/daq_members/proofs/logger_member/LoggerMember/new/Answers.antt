use Rattle.std.specs.Prelude.{refl, List}
use Rattle.std.proofs.Common.{ap}
use Rattle.daq_io.proofs.SeenLaws.{on_same}
use Rattle.member_model.specs.RunEngines.{EngineEntry}
use Rattle.member_model.specs.TurnCalls.{member_turns}
use Rattle.daq_members.specs.OwnTurns.{are_calls_for}
use Rattle.daq_members.proofs.LoggerNames.{idle_names}
use Rattle.daq_members.proofs.logger_member.LoggerMember.new.Goals as goal

pub new-logger-requires : goal.new-logger-requires
new-logger-requires g c = record {
  ready = c.requires.ready;
  room = c.requires.room;
  idle = λ off. c.requires.idle;
  begun = c.requires.begun;
  small = c.requires.small;
}

pub invariant_of-result : goal.invariant_of-result
invariant_of-result g c =
    let client = c.args.engine.client in rw (c.new-engine.ensures, c.new-logger.ensures) (record {
      seated = record {
        speaks = ap (are_calls_for client) c.requires.fresh;
        caller = c.requires.caller;
        ready = c.requires.ready;
        room = c.requires.room;
        idle = λ off. c.requires.idle;
        begun = c.requires.begun;
        small = c.requires.small;
        stands = c.requires.stands;
        others = λ none. rw c.of-first.ensures (record { told = refl; on = on_same refl; others = λ name other. refl });
      };
      reasons = rw c.of-first.ensures (c.requires.reasons _);
      names = λ none. rw c.of-first.ensures (idle_names _ _ _ c.requires.idle (ap (λ (es : List EngineEntry). member_turns client es) c.requires.fresh));
    })
