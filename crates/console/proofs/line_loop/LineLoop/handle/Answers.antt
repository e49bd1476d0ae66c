use Rattle.std.proofs.Common.{◌≡◌, ◌+◌, ap, subst, ◌∙◌}
use Rattle.odb_script.specs.declared.commands.Command.{Command}
use Rattle.odb_script.specs.Forms.{Read, command_of}
use Rattle.console.specs.Playing.{GoesBehind}
use Rattle.console.proofs.PlayingLaws.{goes_line}
use Rattle.console.proofs.line_loop.LineLoop.handle.Goals as goal

pub returns-then-is_left-clause-stays : goal.returns-then-is_left-clause-stays
returns-then-is_left-clause-stays g c = g.met.A.Answerer.stays_so c.args.answerer.now

pub returns-in-Ok-clause-did : goal.returns-in-Ok-clause-did
returns-in-Ok-clause-did g c =
    let same : c.read-command.result ≡ command_of c.args.self.now.reader.line = c.read-command.ensures ∙ ap command_of c.line.ensures in
    goes_line g.A.Answerer.does g.A.Answerer.breaks g.A.Answerer.withdraws g.A.Answerer.leaves c.args.self.now.reader.line (c.args.self.now.number + 1) c.args.self.now.last _ _ _ _ _ _ c.in_ok-reply.reply c.going_behind-going.result
    (record {
      answers = subst (λ (command : Read Command). g.A.Answerer.does (c.args.self.now.number + 1) command (g.A.Answerer.stage c.args.answerer.now) c.in_ok-reply.reply (g.A.Answerer.stage c.answer.new.self)) same c.in_ok-reply.ensures.did;
      is_noted = c.note.ensures;
    })
    c.in-Ok.ensures.wrote
    (subst (λ (command : Read Command). GoesBehind c.going_behind-going.result c.args.self.now.last command) same c.going_behind-going.ensures)
