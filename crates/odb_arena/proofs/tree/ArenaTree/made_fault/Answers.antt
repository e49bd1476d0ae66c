use Rattle.std.proofs.Common.{Option, Some, None, sym, ap, ◌∙◌}
use Rattle.std.specs.Option.{option_or}
use Rattle.odb_tree.specs.declared.refusals.OdbRefusal.{OdbRefusal}
use Rattle.odb_tree.specs.Limits.{limit_fault}
use Rattle.odb_tree.specs.Making.{created}
use Rattle.odb_tree.specs.Calls.{tid_fault}
use Rattle.odb_tree.proofs.FaultLemmas.{or_next}
use Rattle.odb_arena.proofs.tree.ArenaTree.made_fault.Goals as goal

pub returns : goal.returns
returns c =
    let limits : Option OdbRefusal = limit_fault None (created c.args.self.now c.args.names.now (Some c.args.value.now)) in
    or_next c.tid_fault.result limits c.new_fault.result c.in_default.not-Some (c.new_fault.ensures (Some c.args.value.now) (λ none. sym c.bytes_of.ensures.value))
    ∙ ap (λ (o : Option OdbRefusal). option_or o limits) (c.tid_fault.ensures ∙ ap tid_fault c.tid.ensures.tid)
