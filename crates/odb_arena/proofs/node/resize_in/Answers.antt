use Rattle.std.proofs.Common.{sym, ap}
use Rattle.std.specs.Option.{option_map}
use Rattle.odb_arena.specs.declared.node.Node.{Node}
use Rattle.odb_arena.proofs.node.resize_in.Goals as goal

pub resize_row-requires-clause-kept : goal.resize_row-requires-clause-kept
resize_row-requires-clause-kept c = λ v e. c.requires.kept c.in-Some.node.now.row (sym (ap (option_map (λ (n : Node). n.row)) c.in-Some.ensures.value)) v e
