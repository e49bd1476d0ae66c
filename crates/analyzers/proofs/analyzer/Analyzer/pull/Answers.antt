use Rattle.analyzers.proofs.AskSteps.{pull_stands}
use Rattle.analyzers.proofs.TellSteps.{pull_tells}
use Rattle.analyzers.proofs.analyzer.Analyzer.pull.Goals as goal

pub returns-clause-keeps : goal.returns-clause-keeps
returns-clause-keeps g c = λ turns stands.
    rw c.pull_once.ensures.wanted
    (pull_stands c.args.self.now.wanted c.args.self.now.client c.args.self.now.run c.args.self.now.room (g.P.BufferPort.access c.args.port.now)
    (record { client = c.pull_once.new.self.client; run = c.pull_once.new.self.run; port = g.P.BufferPort.access c.pull_once.new.port }) c.pull_once.result turns c.pull_once.ensures.pulls stands)

pub returns-clause-tells : goal.returns-clause-tells
returns-clause-tells g c = λ turns tells.
    pull_tells c.args.self.now.client c.args.self.now.run c.args.self.now.room (g.P.BufferPort.access c.args.port.now)
    (record { client = c.pull_once.new.self.client; run = c.pull_once.new.self.run; port = g.P.BufferPort.access c.pull_once.new.port }) c.pull_once.result turns c.pull_once.ensures.pulls tells
