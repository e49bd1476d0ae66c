use Rattle.std.proofs.Common.{◌≤◌, ◌+◌, ◌-◌, ℕ, Option, length, sym, subst, ap, ◌∙◌}
use Rattle.std.specs.Option.{option_map}
use Rattle.odb_tree.specs.declared.refusals.What.{What}
use Rattle.odb_tree.specs.declared.refusals.OdbRefusal.TheVariants.{Limit}
use Rattle.odb_tree.specs.Rows.{total_of}
use Rattle.odb_tree.specs.Limits.{passed}
use Rattle.odb_tree.proofs.FaultLemmas.{had_some, resize_is}
use Rattle.odb_arena.proofs.tree.ArenaTree.resize_fault.Goals as goal

pub change_fault-requires-clause-had : goal.change_fault-requires-clause-had
change_fault-requires-clause-had c = subst (λ (n : ℕ). n ≤ total_of c.args.self.now.rows) (sym c.bytes_of.ensures.value) (had_some c.args.self.now.rows c.args.names.now c.args.value.now c.requires)

pub returns : goal.returns
returns c =
    c.change_fault.ensures
    ∙ (ap (λ (own : Option What). option_map Limit (passed own (length c.args.self.now.rows) (total_of c.args.self.now.rows - c.bytes_of.result + c.bytes_with-bytes.result) c.args.self.now.next)) c.len_fault.ensures
    ∙ resize_is c.args.self.now c.args.names.now c.args.value.now c.args.len c.bytes_of.result c.bytes_with-bytes.result c.size.result c.requires c.bytes_of.ensures.value c.size.ensures c.bytes_with-bytes.ensures.bytes)
