use Rattle.std.proofs.Common.{◌+◌, ◌-◌, ℕ, ap, ◌∙◌, length}
use Rattle.std.specs.Option.{option_map}
use Rattle.odb_tree.specs.declared.refusals.OdbRefusal.TheVariants.{Limit}
use Rattle.odb_tree.specs.Rows.{Rows, total_of}
use Rattle.odb_tree.specs.Limits.{passed}
use Rattle.odb_arena.proofs.tree.ArenaTree.change_fault.Goals as goal

pub returns : goal.returns
returns c =
    c.limit_fault.ensures
    ∙ (ap (λ (n : ℕ). option_map Limit (passed c.args.own n (c.self.inside.bytes - c.args.had + c.args.bytes) c.self.inside.next)) (c.self.invariant.counted ∙ ap (λ (s : Rows). length s.rows) c.self.view_is)
    ∙ (ap (λ (n : ℕ). option_map Limit (passed c.args.own (length c.args.self.now.rows) (n - c.args.had + c.args.bytes) c.self.inside.next)) (c.self.invariant.weighed ∙ ap (λ (s : Rows). total_of s.rows) c.self.view_is)
    ∙ ap (λ (n : ℕ). option_map Limit (passed c.args.own (length c.args.self.now.rows) (total_of c.args.self.now.rows - c.args.had + c.args.bytes) n)) (ap (λ (s : Rows). s.next) c.self.view_is)))
