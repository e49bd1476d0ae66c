use Rattle.std.proofs.Common.{◌+◌, ℕ, refl, ap, ◌∙◌, length}
use Rattle.std.specs.Option.{option_map}
use Rattle.odb_tree.specs.declared.refusals.OdbRefusal.TheVariants.{Limit}
use Rattle.odb_tree.specs.Rows.{Rows, total_of}
use Rattle.odb_tree.specs.Limits.{passed}
use Rattle.odb_tree.specs.Lookups.{parent_of}
use Rattle.odb_tree.proofs.FaultLemmas.{new_fault_is}
use Rattle.odb_arena.proofs.tree.ArenaTree.new_fault.Goals as goal

pub returns : goal.returns
returns c = λ value same.
    c.limit_fault.ensures
    ∙ (ap (λ (n : ℕ). option_map Limit (passed c.args.own (c.self.inside.count + c.count_missing-missing.result + 1) (c.self.inside.bytes + c.args.bytes) (n + c.count_missing-missing.result + 1))) (ap (λ (s : Rows). s.next) c.self.view_is)
    ∙ new_fault_is c.args.self.now c.args.names.now c.args.own c.args.bytes c.self.inside.count c.count_missing-missing.result c.self.inside.bytes value c.args.self.now.rows (parent_of c.args.names.now)
    refl refl c.count_missing-missing.ensures.count (c.self.invariant.counted ∙ ap (λ (s : Rows). length s.rows) c.self.view_is) (c.self.invariant.weighed ∙ ap (λ (s : Rows). total_of s.rows) c.self.view_is) same)
