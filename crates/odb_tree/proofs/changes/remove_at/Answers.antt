use Rattle.std.proofs.Common.{◌≡◌, List, length, ap, not, arith, rules, tests}
use Rattle.std.proofs.lemmas.Fn.{filter_same}
use Rattle.odb_value.specs.Paths.{is_front}
use Rattle.odb_tree.specs.declared.rows.Row.{Row}
use Rattle.odb_tree.specs.Rows.{rows_outside}
use Rattle.odb_tree.proofs.changes.remove_at.Goals as goal

pub returns-clause-rows : goal.returns-clause-rows
returns-clause-rows c =
    filter_same _ (λ (r : Row). not (is_front c.args.names.now r.path)) _ (λ x b q k. search (rules, tests)) c.args.rows.now.items c.retain.new.self.items c.retain.ensures.filtered

pub returns-clause-gone : goal.returns-clause-gone
returns-clause-gone c =
    let rows_are : c.retain.new.self.items ≡ rows_outside c.args.rows.now.items c.args.names.now =
    filter_same _ (λ (r : Row). not (is_front c.args.names.now r.path)) _ (λ x b q k. search (rules, tests)) c.args.rows.now.items c.retain.new.self.items c.retain.ensures.filtered in
    omega (arith, c.len.ensures, c.len-before.ensures, ap (λ (xs : List Row). length xs) rows_are, c.args.rows.now.ok.0, c.retain.new.self.ok.0)
