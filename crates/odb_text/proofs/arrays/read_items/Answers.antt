use Rattle.std.proofs.Common.{List, sym, subst, arith}
use Rattle.std.proofs.lemmas.Result.{err_from_is_err_and}
use Rattle.std.specs.Str.Lines.{lines}
use Rattle.odb_value.specs.declared.items.Item.{Item}
use Rattle.odb_text.specs.Blocks.{AreRead}
use Rattle.odb_text.proofs.DumpItems.{none_read, more_read}
use Rattle.odb_text.proofs.arrays.read_items.Goals as goal

pub loop-index-init : goal.loop-index-init
loop-index-init c =
    (subst (λ (l : List Item). AreRead c.args.tid (lines c.args.text.now) 0 l 0 (lines c.args.text.now)) (sym c.new.ensures.items) (none_read c.args.tid (lines c.args.text.now)), omega arith)

pub returns-in_err-read_next-clause-fault : goal.returns-in_err-read_next-clause-fault
returns-in_err-read_next-clause-fault c =
    let p = err_from_is_err_and c.from_residual.result c.from_residual.ensures.1 in
    rw (p.1, p.2) (record {
      index = c.loop-index.index;
      items = c.loop-index.so_far.items.items;
      size = c.loop-index.so_far.size;
      rest = lines c.loop-index.so_far.rest.now;
      read = c.loop-index.invariant.0;
      inside = c.loop-index-test.true;
      fault_is = c.in_err-read_next.ensures.fault;
    })

pub loop-index-preserved : goal.loop-index-preserved
loop-index-preserved c = (
  more_read c.args.tid (lines c.args.text.now) c.loop-index.index c.loop-index.so_far.items.items c.loop-index.so_far.size (lines c.loop-index.so_far.rest.now)
      c.read_next.new.so_far.items.items c.read_next.new.so_far.size (lines c.read_next.new.so_far.rest.now) c.loop-index.invariant.0 c.in_ok-read_next.ensures.read,
  omega (arith, c.in_ok-read_next.ensures.shorter, c.loop-index.invariant.1),
)
