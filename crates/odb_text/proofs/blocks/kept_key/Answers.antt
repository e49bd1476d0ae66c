use Rattle.std.proofs.Common.{sym, ◌∙◌}
use Rattle.std.specs.Str.Lines.{lines}
use Rattle.odb_value.specs.Values.{items_limit}
use Rattle.odb_text.proofs.Beginnings.{begins_nothing}
use Rattle.odb_text.proofs.Written.{too_many, bad_line, nowhere_kept, count_none}
use Rattle.odb_text.proofs.blocks.kept_key.Goals as goal

pub returns-in-None-array-clause-fault : goal.returns-in-None-array-clause-fault
returns-in-None-array-clause-fault c =
    bad_line c.args.head.now.links c.args.dir.now c.args.head.now.line.now (lines c.args.head.now.behind.now)
    (begins_nothing c.args.head.now.links c.args.dir.now c.args.head.now.line.now c.args.head.now.name c.args.head.now.tid c.args.head.now.rest.now c.requires.key.key c.requires.no_pass c.requires.no_dir
    (nowhere_kept c.args.head.now.links c.args.dir.now c.args.head.now.tid c.args.head.now.rest.now c.requires.kept c.in-None.ensures.none c.in-None-array.ensures.none))

pub returns-in-Some-None-clause-fault : goal.returns-in-Some-None-clause-fault
returns-in-Some-None-clause-fault c =
    let h = c.in-Some-None.ensures.some in
    too_many c.args.head.now.links c.args.dir.now c.args.head.now.line.now c.args.head.now.name c.args.head.now.tid c.args.head.now.rest.now h.0 (lines c.args.head.now.behind.now)
    c.requires.key c.requires.kept h.1.0 (count_none items_limit h.0 (sym c.in-Some-None.field-0-is ∙ h.1.1))
