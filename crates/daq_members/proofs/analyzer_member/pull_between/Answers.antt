use Rattle.daq_members.specs.AnalyzerTaken.{analyzer_at}
use Rattle.daq_members.proofs.AnalyzerLaws.{pull_same}
use Rattle.daq_members.proofs.analyzer_member.pull_between.Goals as goal

-- `c.pull-pulled` is the analyzer's own pull.
pub returns-clause-same_port : goal.returns-clause-same_port
returns-clause-same_port g c =
    let analyzer = c.args.analyzer.now in
    pull_same analyzer.run analyzer.room (analyzer_at analyzer (g.P.BufferPort.access c.args.port.now)) (analyzer_at c.pull-pulled.new.self (g.P.BufferPort.access c.pull-pulled.new.port)) c.pull-pulled.result
    c.pull-pulled.ensures.pulls

pub returns-clause-keeps : goal.returns-clause-keeps
returns-clause-keeps g c = λ client calls member. record {
  stands = c.pull-pulled.ensures.keeps _ member.stands;
  tells = c.pull-pulled.ensures.tells _ member.tells;
  blanks = member.blanks;
}
