use Rattle.std.proofs.Common.{sym, ap}
use Rattle.std.specs.Option.{option_map}
use Rattle.odb_arena.specs.declared.node.Node.{Node}
use Rattle.odb_arena.proofs.node.put_in.Goals as goal

pub put_row-requires : goal.put_row-requires
put_row-requires c = λ v e. c.requires c.in-Some.node.now.row (sym (ap (option_map (λ (n : Node). n.row)) c.in-Some.ensures.value)) v e
