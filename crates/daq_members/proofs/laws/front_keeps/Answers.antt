use Rattle.member_model.specs.TurnCalls.{member_turns}
use Rattle.daq_members.proofs.TurnSets.{turn_sets}
use Rattle.daq_members.proofs.laws.front_keeps.Goals as goal

pub returns : goal.returns
returns c = λ client name takes makes run calls own moments sets member. record {
  keeps = member.stands.keeps;
  kept = member.kept;
  told = λ are. turn_sets name own (member_turns client calls) moments sets (member.told are);
}
