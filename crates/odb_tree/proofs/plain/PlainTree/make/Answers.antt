use Rattle.std.proofs.Common.{◌≡◌, ◌+◌, List, sym, subst, ap, ◌∙◌, arith}
use Rattle.odb_tree.specs.declared.rows.Row.{Row}
use Rattle.odb_tree.specs.Rows.{Rows, no_rows}
use Rattle.odb_tree.specs.Limits.{IsWithin}
use Rattle.odb_tree.specs.Making.{new_number, created}
use Rattle.odb_tree.specs.Databases.{IsDatabase}
use Rattle.odb_tree.specs.PlainInside.{plain_rows}
use Rattle.odb_tree.proofs.Made.{made_of, number_made, rows_created}
use Rattle.odb_tree.proofs.plain.PlainTree.make.Goals as goal

pub new_rows-requires-clause-within : goal.new_rows-requires-clause-within
new_rows-requires-clause-within c =
    subst (λ (rows : List Row). IsWithin (created (record no_rows { rows = rows; next = c.self.inside.next }) c.args.names.now c.args.value)) (sym c.as_slice.ensures.value)
    (subst (λ (s : Rows). IsWithin (created s c.args.names.now c.args.value)) (sym c.self.view_is) c.requires.database.within)

pub invariant_of-self-2 : goal.invariant_of-self-2
invariant_of-self-2 c =
    let made : c.in_ok-made.made.items ≡ made_of (plain_rows c.self.inside) c.args.names.now c.args.value =
    c.in_ok-made.ensures ∙ ap (λ (rows : List Row). made_of (record no_rows { rows = rows; next = c.self.inside.next }) c.args.names.now c.args.value) c.as_slice.ensures.value in
    subst IsDatabase
    (ap (λ (s : Rows). created s c.args.names.now c.args.value) (sym c.self.view_is)
    ∙ sym (rows_created (plain_rows c.self.inside) c.args.names.now c.args.value c.in_ok-made.made.items c.append.new.self.items c.len-count.result made c.in_ok-append.ensures.items (omega (arith, c.len-count.ensures, c.in_ok-made.made.ok.0))))
    c.requires.database

pub returns-clause-number : goal.returns-clause-number
returns-clause-number c =
    let made : c.in_ok-made.made.items ≡ made_of (plain_rows c.self.inside) c.args.names.now c.args.value =
    c.in_ok-made.ensures ∙ ap (λ (rows : List Row). made_of (record no_rows { rows = rows; next = c.self.inside.next }) c.args.names.now c.args.value) c.as_slice.ensures.value in
    let counted : c.self.inside.next + c.len-count.result ≡ new_number (plain_rows c.self.inside) c.args.names.now + 1 =
    number_made (plain_rows c.self.inside) c.args.names.now c.args.value c.in_ok-made.made.items c.len-count.result made (omega (arith, c.len-count.ensures, c.in_ok-made.made.ok.0)) in
    let same : new_number (plain_rows c.self.inside) c.args.names.now ≡ new_number c.args.self.now c.args.names.now = ap (λ (s : Rows). new_number s c.args.names.now) c.self.view_is in
    omega (arith, counted, same)

pub returns-clause-ok : goal.returns-clause-ok
returns-clause-ok c =
    let made : c.in_ok-made.made.items ≡ made_of (plain_rows c.self.inside) c.args.names.now c.args.value =
    c.in_ok-made.ensures ∙ ap (λ (rows : List Row). made_of (record no_rows { rows = rows; next = c.self.inside.next }) c.args.names.now c.args.value) c.as_slice.ensures.value in
    rows_created (plain_rows c.self.inside) c.args.names.now c.args.value c.in_ok-made.made.items c.append.new.self.items c.len-count.result made c.in_ok-append.ensures.items (omega (arith, c.len-count.ensures, c.in_ok-made.made.ok.0))
    ∙ ap (λ (s : Rows). created s c.args.names.now c.args.value) c.self.view_is
