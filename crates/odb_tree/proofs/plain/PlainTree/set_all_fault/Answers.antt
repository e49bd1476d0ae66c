use Rattle.std.proofs.Common.{◌≡◌, ◌≤◌, ℕ, List, [], Option, Some, None, sym, subst, ap, ◌∙◌}
use Rattle.std.specs.Option.{option_copied, option_or}
use Rattle.odb_value.specs.Values.{HeldValue}
use Rattle.odb_tree.specs.declared.rows.Row.{Row}
use Rattle.odb_tree.specs.Rows.{Rows, row_at, change_at, total_of}
use Rattle.odb_tree.specs.Limits.{limit_fault}
use Rattle.odb_tree.specs.declared.refusals.OdbRefusal.{OdbRefusal}
use Rattle.odb_tree.specs.Lookups.{obstacle_from}
use Rattle.odb_tree.specs.Calls.{tid_fault, type_fault}
use Rattle.odb_tree.proofs.FaultLemmas.{had_some, change_is, key_at, or_next, set_all_new, set_all_there}
use Rattle.odb_tree.proofs.plain.PlainTree.set_all_fault.Goals as goal

pub change_fault-requires-clause-had : goal.change_fault-requires-clause-had
change_fault-requires-clause-had c =
    let seen : c.as_slice-rows.result.now ≡ c.args.self.now.rows = c.as_slice-rows.ensures.value ∙ ap (λ (s : Rows). s.rows) c.self.view_is in
    subst (λ (n : ℕ). n ≤ total_of c.args.self.now.rows) (sym c.bytes_of.ensures.value)
    (had_some c.args.self.now.rows c.args.names.now c.in-Some-value.had (key_at c.args.self.now c.as_slice-rows.result.now c.args.names.now c.in-Some-row_at.row.now c.in-Some-value.had seen (sym c.row_at.ensures ∙ ap option_copied c.in-Some-row_at.is) c.in-Some-value.is))

pub returns : goal.returns
returns c =
    let seen : c.as_slice-rows.result.now ≡ c.args.self.now.rows = c.as_slice-rows.ensures.value ∙ ap (λ (s : Rows). s.rows) c.self.view_is in
    let there : row_at c.as_slice-rows.result.now c.args.names.now ≡ Some c.in-Some-row_at.row.now = sym c.row_at.ensures ∙ ap option_copied c.in-Some-row_at.is in
    let obstacle_is = c.obstacle.ensures
    ∙ (ap (λ (rows : List Row). obstacle_from None rows [] c.parent.result.now) seen ∙ ap (obstacle_from None c.args.self.now.rows []) c.parent.ensures) in
    set_all_there c.args.self.now c.args.names.now c.args.value.now c.in-Some-value.had c.in-Some-row_at.row.now c.obstacle.result c.replace_fault.result c.change_fault.result
    (sym c.is_empty.ensures ∙ c.if-is_empty.false) (subst (λ (rows : List Row). row_at rows c.args.names.now ≡ Some c.in-Some-row_at.row.now) seen there) c.in-Some-value.is
    c.tid-given.ensures.held obstacle_is c.in_default.not-Some
    (c.replace_fault.ensures ∙ (ap (λ t. option_or (tid_fault c.tid-given.result) (type_fault t c.tid-given.result)) c.tid.ensures.tid ∙ ap (λ t. option_or (tid_fault t) (type_fault c.in-Some-value.had.tid t)) c.tid-given.ensures.tid))
    (or_next c.replace_fault.result _ c.change_fault.result c.in_default-replace_fault.not-Some
    (c.change_fault.ensures
    ∙ change_is c.args.self.now c.args.names.now c.in-Some-value.had (λ (_ : HeldValue). c.args.value.now) None c.bytes_of.result c.bytes_of-2.result
    (key_at c.args.self.now c.as_slice-rows.result.now c.args.names.now c.in-Some-row_at.row.now c.in-Some-value.had seen there c.in-Some-value.is) c.bytes_of.ensures.value (λ none. c.bytes_of-2.ensures.value)))

pub returns-in_default-row_at : goal.returns-in_default-row_at
returns-in_default-row_at c =
    let seen : c.as_slice-rows.result.now ≡ c.args.self.now.rows = c.as_slice-rows.ensures.value ∙ ap (λ (s : Rows). s.rows) c.self.view_is in
    set_all_new c.args.self.now c.args.names.now c.args.value.now c.obstacle.result c.made_fault.result (sym c.is_empty.ensures ∙ c.if-is_empty.false)
    (subst (λ (rows : List Row). row_at rows c.args.names.now ≡ None) seen (sym c.row_at.ensures ∙ ap option_copied c.in_default-row_at.is)) c.tid-given.ensures.held
    (c.obstacle.ensures ∙ (ap (λ (rows : List Row). obstacle_from None rows [] c.parent.result.now) seen ∙ ap (obstacle_from None c.args.self.now.rows []) c.parent.ensures)) c.in_default.not-Some
    c.made_fault.ensures

pub returns-in-Some-replace_fault : goal.returns-in-Some-replace_fault
returns-in-Some-replace_fault c =
    let seen : c.as_slice-rows.result.now ≡ c.args.self.now.rows = c.as_slice-rows.ensures.value ∙ ap (λ (s : Rows). s.rows) c.self.view_is in
    set_all_there c.args.self.now c.args.names.now c.args.value.now c.in-Some-value.had c.in-Some-row_at.row.now c.obstacle.result c.replace_fault.result (Some c.in-Some-replace_fault.refusal)
    (sym c.is_empty.ensures ∙ c.if-is_empty.false)
    (subst (λ (rows : List Row). row_at rows c.args.names.now ≡ Some c.in-Some-row_at.row.now) seen (sym c.row_at.ensures ∙ ap option_copied c.in-Some-row_at.is)) c.in-Some-value.is
    c.tid-given.ensures.held
    (c.obstacle.ensures ∙ (ap (λ (rows : List Row). obstacle_from None rows [] c.parent.result.now) seen ∙ ap (obstacle_from None c.args.self.now.rows []) c.parent.ensures)) c.in_default.not-Some
    (c.replace_fault.ensures ∙ (ap (λ t. option_or (tid_fault c.tid-given.result) (type_fault t c.tid-given.result)) c.tid.ensures.tid ∙ ap (λ t. option_or (tid_fault t) (type_fault c.in-Some-value.had.tid t)) c.tid-given.ensures.tid))
    (sym (ap (λ (o : Option OdbRefusal). option_or o (limit_fault None (record c.args.self.now { rows = change_at c.args.self.now.rows c.args.names.now (λ _. c.args.value.now) }))) c.in-Some-replace_fault.is))
