use Rattle.std.specs.Prelude.{codes, ◌++◌}
use Rattle.midas_tools.specs.Scripts.{line_of}
use Rattle.midas_tools.proofs.Joined.{behind}
use Rattle.midas_tools.proofs.script.add_runs.Goals as goal

pub returns : goal.returns
returns c =
    behind c.add_line-7.result (c.args.script.now) (c.add_line.new.script) (c.add_line-7.new.script) (line_of (codes "start"))
    (line_of (codes "stop") ++ (line_of (codes "start") ++ (line_of (codes "pause") ++ (line_of (codes "resume") ++ (line_of (codes "stop") ++ (line_of (codes "exit"))))))) c.in_ok-add_line.ensures
    (behind c.add_line-7.result (c.add_line.new.script) (c.add_line-2.new.script) (c.add_line-7.new.script) (line_of (codes "stop"))
    (line_of (codes "start") ++ (line_of (codes "pause") ++ (line_of (codes "resume") ++ (line_of (codes "stop") ++ (line_of (codes "exit")))))) c.in_ok-add_line-2.ensures
    (behind c.add_line-7.result (c.add_line-2.new.script) (c.add_line-3.new.script) (c.add_line-7.new.script) (line_of (codes "start"))
    (line_of (codes "pause") ++ (line_of (codes "resume") ++ (line_of (codes "stop") ++ (line_of (codes "exit"))))) c.in_ok-add_line-3.ensures
    (behind c.add_line-7.result (c.add_line-3.new.script) (c.add_line-4.new.script) (c.add_line-7.new.script) (line_of (codes "pause"))
    (line_of (codes "resume") ++ (line_of (codes "stop") ++ (line_of (codes "exit")))) c.in_ok-add_line-4.ensures
    (behind c.add_line-7.result (c.add_line-4.new.script) (c.add_line-5.new.script) (c.add_line-7.new.script) (line_of (codes "resume"))
    (line_of (codes "stop") ++ (line_of (codes "exit"))) c.in_ok-add_line-5.ensures
    (behind c.add_line-7.result (c.add_line-5.new.script) (c.add_line-6.new.script) (c.add_line-7.new.script) (line_of (codes "stop"))
    (line_of (codes "exit")) c.in_ok-add_line-6.ensures
    (c.add_line-7.ensures))))))
