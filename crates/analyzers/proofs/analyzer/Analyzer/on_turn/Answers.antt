use Rattle.analyzers.proofs.CountBytes.{turn_within}
use Rattle.analyzers.proofs.AskSteps.{turn_stands}
use Rattle.analyzers.proofs.TellSteps.{turn_tells}
use Rattle.analyzers.proofs.analyzer.Analyzer.on_turn.Goals as goal

pub returns-clause-keeps : goal.returns-clause-keeps
returns-clause-keeps g c = λ dump earlier none stands.
    rw c.take_turn.ensures.wanted
    (turn_stands dump c.args.transition c.args.self.now.wanted c.args.order.now c.args.blank c.args.self.now.client c.args.self.now.run (g.P.BufferPort.access c.args.port.now)
    (record { client = c.take_turn.new.self.client; run = c.take_turn.new.self.run; port = g.P.BufferPort.access c.take_turn.new.port }) c.take_turn.result earlier c.requires.blank none c.take_turn.ensures.turns stands)

pub returns-clause-counted : goal.returns-clause-counted
returns-clause-counted g c = λ within.
    turn_within c.args.transition c.args.self.now.wanted c.args.order.now c.args.blank c.args.self.now.client c.args.self.now.run (g.P.BufferPort.access c.args.port.now)
    (record { client = c.take_turn.new.self.client; run = c.take_turn.new.self.run; port = g.P.BufferPort.access c.take_turn.new.port }) c.take_turn.result c.requires.blank c.take_turn.ensures.turns within

pub returns-clause-tells : goal.returns-clause-tells
returns-clause-tells g c = λ dump earlier tells.
    turn_tells dump c.args.transition c.args.self.now.wanted c.args.order.now c.args.blank c.args.self.now.client c.args.self.now.run (g.P.BufferPort.access c.args.port.now)
    (record { client = c.take_turn.new.self.client; run = c.take_turn.new.self.run; port = g.P.BufferPort.access c.take_turn.new.port }) c.take_turn.result earlier c.take_turn.ensures.turns tells
