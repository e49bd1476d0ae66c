use Rattle.session_commands.proofs.DeclaringLaws.{unless_closed}
use Rattle.session_commands.proofs.declaring.declare.Goals as goal

pub returns-in-Buffer-clause-did : goal.returns-in-Buffer-clause-did
returns-in-Buffer-clause-did c = rw c.in-Buffer.is (unless_closed _ _ _ _ _ c.requires c.declare_buffer.ensures.did)

pub returns-in-Equip-clause-did : goal.returns-in-Equip-clause-did
returns-in-Equip-clause-did c = rw c.in-Equip.is (unless_closed _ _ _ _ _ c.requires c.declare_front.ensures.did)

pub returns-in-Channel-clause-did : goal.returns-in-Channel-clause-did
returns-in-Channel-clause-did c = rw c.in-Channel.is (unless_closed _ _ _ _ _ c.requires c.declare_channel.ensures.did)

pub returns-in-Analyzer-clause-did : goal.returns-in-Analyzer-clause-did
returns-in-Analyzer-clause-did c = rw c.in-Analyzer.is (unless_closed _ _ _ _ _ c.requires c.declare_analyzer.ensures.did)
