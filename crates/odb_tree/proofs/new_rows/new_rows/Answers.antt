use Rattle.std.proofs.Common.{refl}
use Rattle.std.proofs.lemmas.Result.{IfOk-weaker}
use Rattle.odb_tree.specs.Rows.{no_rows}
use Rattle.odb_tree.proofs.FaultLemmas.{new_fits}
use Rattle.odb_tree.proofs.Made.{way_is, row_fits, rows_made}
use Rattle.odb_tree.proofs.new_rows.new_rows.Goals as goal

pub to-requires-clause-fits : goal.to-requires-clause-fits
to-requires-clause-fits c =
    new_fits (record no_rows { rows = c.args.rows.now; next = c.args.next }) c.args.names.now c.args.value c.args.rows.now c.parent.result.now refl c.parent.ensures c.requires.within

pub into_rows-requires-clause-fits : goal.into_rows-requires-clause-fits
into_rows-requires-clause-fits c =
    row_fits (record no_rows { rows = c.args.rows.now; next = c.args.next }) c.args.names.now c.args.value c.in_ok-way.way
    (way_is (record no_rows { rows = c.args.rows.now; next = c.args.next }) c.args.names.now c.parent.result.now c.in_ok-way.way c.in_ok-way.ensures.way c.parent.ensures) c.requires.within

pub returns : goal.returns
returns c =
    IfOk-weaker c.into_rows.result _ _ (λ made h.
    rows_made (record no_rows { rows = c.args.rows.now; next = c.args.next }) c.args.names.now c.args.value c.in_ok-way.way c.index-names-names.result made.items
    (way_is (record no_rows { rows = c.args.rows.now; next = c.args.next }) c.args.names.now c.parent.result.now c.in_ok-way.way c.in_ok-way.ensures.way c.parent.ensures) c.requires.named c.index-names-names.is h) c.into_rows.ensures
