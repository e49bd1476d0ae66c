use Rattle.std.proofs.Common.{refl}
use Rattle.odb_text.specs.Standing.{key_part}
use Rattle.odb_text.proofs.Parts.{child_at, parts_more}
use Rattle.odb_text.proofs.dump.add_children.Goals as goal

pub add_key-requires : goal.add_key-requires
add_key-requires g c =
    child_at (g.D.Database.rows c.args.database.now) c.args.path.now c.args.children.now c.args.children.now c.loop-child.child-index c.child-item.result c.requires refl c.loop-child-test.true c.child-item.is

pub loop-child-preserved : goal.loop-child-preserved
loop-child-preserved g c =
    parts_more (key_part (g.D.Database.rows c.args.database.now) c.args.path.now) c.args.children.now c.loop-child.child-index c.child-item.result c.args.text.now c.loop-child.text c.add_key.new.text
    c.loop-child-test.true c.child-item.is c.loop-child.invariant c.in_ok-add_key.ensures
