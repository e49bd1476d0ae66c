use Rattle.std.proofs.Common.{refl, sym, ap, ◌∙◌, arith}
use Rattle.std.specs.Option.{option_map}
use Rattle.std.specs.Map.Iter.{deref_pair}
use Rattle.odb_arena.proofs.Copied.{copies_more, copies_all, copies_rows, copies_names}
use Rattle.odb_arena.proofs.node.copy_nodes.Goals as goal

pub loop-i-preserved : goal.loop-i-preserved
loop-i-preserved c =
    copies_more c.args.nodes.now.entries c.loop-i.copy.entries c.insert.new.self.entries c.loop-i.i c.unwrap.result.0.now c.unwrap.result.0.now c.unwrap.result.1.now c.in_ok-copy.field-0 c.len-i-end.ensures.unique
    (ap (option_map deref_pair) (sym c.unwrap.ensures) ∙ c.get_index.ensures.entry) c.loop-i.invariant refl c.in_ok-copy.ensures.row c.in_ok-copy.ensures.names c.in_ok-insert.ensures.entries

pub returns-clause-rows : goal.returns-clause-rows
returns-clause-rows c =
    copies_rows c.args.nodes.now.entries c.loop-i.copy.entries (copies_all c.args.nodes.now.entries c.loop-i.copy.entries c.loop-i.i (omega (arith, c.loop-i-test.false, c.len-i-end.ensures.len)) c.loop-i.invariant)

pub returns-clause-names : goal.returns-clause-names
returns-clause-names c =
    copies_names c.args.nodes.now.entries c.loop-i.copy.entries (copies_all c.args.nodes.now.entries c.loop-i.copy.entries c.loop-i.i (omega (arith, c.loop-i-test.false, c.len-i-end.ensures.len)) c.loop-i.invariant)
