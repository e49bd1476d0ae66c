use Rattle.std.proofs.Common.{sym, ◌∙◌}
use Rattle.odb_script.proofs.WordLaws.{part_more}
use Rattle.odb_script.proofs.words.split_part.Goals as goal

pub loop-place-preserved : goal.loop-place-preserved
loop-place-preserved c =
    part_more c.args.part c.args.bytes.now c.loop-place.place c.loop-place.invariant c.loop-place-test.true (sym c.belongs_to.ensures ∙ c.if-not-belongs_to.false)
