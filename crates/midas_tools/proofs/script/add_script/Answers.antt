use Rattle.std.specs.Prelude.{codes, ◌++◌}
use Rattle.std.specs.Fmt.{decimal}
use Rattle.midas_tools.specs.Scripts.{equip_lines, line_of, run_lines, front_count, event_count}
use Rattle.midas_tools.proofs.Joined.{behind}
use Rattle.midas_tools.proofs.script.add_script.Goals as goal

pub returns : goal.returns
returns c =
    behind c.add_runs.result (c.args.script.now) (c.add_line.new.script) (c.add_runs.new.script) (line_of (codes "buffer SYSTEM 65536"))
    (equip_lines (front_count c.args.number) ++ (line_of (codes "analyzer ANA SYSTEM 65535 65535 all") ++ (line_of (codes "events " ++ decimal (event_count c.args.number)) ++ (run_lines)))) c.in_ok-add_line.ensures
    (behind c.add_runs.result (c.add_line.new.script) (c.add_equips.new.script) (c.add_runs.new.script) (equip_lines (front_count c.args.number))
    (line_of (codes "analyzer ANA SYSTEM 65535 65535 all") ++ (line_of (codes "events " ++ decimal (event_count c.args.number)) ++ (run_lines))) c.in_ok-add_equips.ensures
    (behind c.add_runs.result (c.add_equips.new.script) (c.add_line-2.new.script) (c.add_runs.new.script) (line_of (codes "analyzer ANA SYSTEM 65535 65535 all"))
    (line_of (codes "events " ++ decimal (event_count c.args.number)) ++ (run_lines)) c.in_ok-add_line-2.ensures
    (behind c.add_runs.result (c.add_line-2.new.script) (c.add_events.new.script) (c.add_runs.new.script) (line_of (codes "events " ++ decimal (event_count c.args.number)))
    (run_lines) c.in_ok-add_events.ensures
    (c.add_runs.ensures))))
