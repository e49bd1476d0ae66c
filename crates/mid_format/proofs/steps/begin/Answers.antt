use Rattle.std.proofs.Common.{◌∙◌, Err, None, inl, inr, refl, ap}
use Rattle.std.proofs.lemmas.Result.{err_from_is_err_and, IfOk-from_err}
use Rattle.std.proofs.KnownBytes.{Consumes-trans}
use Rattle.event.specs.Headers.{header_encoding}
use Rattle.mid_format.specs.declared.faults.MidFault.{MidFault}
use Rattle.mid_format.proofs.Allowed.{begin_allowed}
use Rattle.mid_format.proofs.Ends.{counted_err, counted_ok}
use Rattle.mid_format.proofs.Beginnings.{cut_behind}
use Rattle.mid_format.proofs.Failing.{map_source, inside_head, inside_data}
use Rattle.mid_format.proofs.steps.begin.Goals as goal

pub returns-in_err-pass_data-clause-stops : goal.returns-in_err-pass_data-clause-stops
returns-in_err-pass_data-clause-stops g c =
    let p = err_from_is_err_and c.from_residual-in_err-pass_data.result c.from_residual-in_err-pass_data.ensures.1 in
    rw (p.1, p.2) (record {
      none = c.in_default.is;
      progress = refl;
      fault_is = cut_behind _ _ None c.args.progress.now.at c.in_ok-header.header c.in_err-pass_data.field-0.0 c.in_ok-header.ensures.head.consumed c.in_ok-header.ensures.head.fine
          c.in_ok-header.ensures.head.in_range c.in_err-pass_data.ensures.cut;
    })

pub returns-in_err-pass_data-clause-fails : goal.returns-in_err-pass_data-clause-fails
returns-in_err-pass_data-clause-fails g c =
    let p = err_from_is_err_and c.from_residual-in_err-pass_data.result c.from_residual-in_err-pass_data.ensures.1 in
    rw (p.1, p.2) (map_source c.in_err-pass_data.field-0.0 _ _ (inside_data _ (g.S.Source.told c.read_head.new.source).left _ _ None c.args.progress.now.at c.in_ok-header.header c.in_ok-header.ensures.head) c.in_err-pass_data.ensures.fails)

pub returns-in_err-pass_data-clause-begins : goal.returns-in_err-pass_data-clause-begins
returns-in_err-pass_data-clause-begins g c = IfOk-from_err c.from_residual-in_err-pass_data.result _ c.from_residual-in_err-pass_data.ensures.0

pub returns-in_err-pass_data-clause-counted : goal.returns-in_err-pass_data-clause-counted
returns-in_err-pass_data-clause-counted g c =
    let p = err_from_is_err_and c.from_residual-in_err-pass_data.result c.from_residual-in_err-pass_data.ensures.1 in
    counted_err (g.S.Source.told c.args.source.now).faults (g.S.Source.told c.read_head.new.source).faults (g.S.Source.told c.pass_data.new.source).faults c.from_residual-in_err-pass_data.result c.in_err-pass_data.field-0.0 (p.1 ∙ ap (λ (x : MidFault). Err x) p.2) c.in_ok-header.ensures.counted.done
    c.in_err-pass_data.ensures.counted.fault

pub pass_data-requires : goal.pass_data-requires
pass_data-requires g c = (begin_allowed c.args.progress.now.at c.in_ok-header.header c.in_ok-header.ensures.head.fine).sized.within

pub returns-in-Some-clause-begins : goal.returns-in-Some-clause-begins
returns-in-Some-clause-begins g c = inr (record { begin = c.in-Some.is; same = refl; progress = refl })

pub returns-in-Some-clause-counted : goal.returns-in-Some-clause-counted
returns-in-Some-clause-counted g c = counted_ok (g.S.Source.told c.args.source.now).faults (g.S.Source.told c.args.source.now).faults _ refl

pub returns-in_err-header-clause-begins : goal.returns-in_err-header-clause-begins
returns-in_err-header-clause-begins g c = IfOk-from_err c.from_residual.result _ c.from_residual.ensures.0

pub returns-in_err-header-clause-stops : goal.returns-in_err-header-clause-stops
returns-in_err-header-clause-stops g c =
    let p = err_from_is_err_and c.from_residual.result c.from_residual.ensures.1 in
    rw (p.1, p.2) (record { none = c.in_default.is; progress = refl; fault_is = c.in_err-header.ensures.fault })

pub returns-in_err-header-clause-fails : goal.returns-in_err-header-clause-fails
returns-in_err-header-clause-fails g c =
    let p = err_from_is_err_and c.from_residual.result c.from_residual.ensures.1 in
    rw (p.1, p.2) (map_source c.in_err-header.field-0.0 _ _ (inside_head _ _ _) c.in_err-header.ensures.fails)

pub returns-in_err-header-clause-counted : goal.returns-in_err-header-clause-counted
returns-in_err-header-clause-counted g c =
    let p = err_from_is_err_and c.from_residual.result c.from_residual.ensures.1 in
    counted_err (g.S.Source.told c.args.source.now).faults (g.S.Source.told c.args.source.now).faults (g.S.Source.told c.read_head.new.source).faults c.from_residual.result c.in_err-header.field-0.0 (p.1 ∙ ap (λ (x : MidFault). Err x) p.2) refl c.in_err-header.ensures.counted.fault

pub returns-clause-begins : goal.returns-clause-begins
returns-clause-begins g c = inl (record {
  none = c.in_default.is;
  dump = c.in_ok-pass_data.ensures.passed.bytes;
  length = c.in_ok-pass_data.ensures.passed.length;
  consumed = Consumes-trans (g.S.Source.told c.args.source.now).left (g.S.Source.told c.read_head.new.source).left (g.S.Source.told c.pass_data.new.source).left (header_encoding c.in_ok-header.header) c.in_ok-pass_data.ensures.passed.bytes
      c.in_ok-header.ensures.head.consumed c.in_ok-pass_data.ensures.passed.consumed;
  fine = c.in_ok-header.ensures.head.fine;
  in_range = c.in_ok-header.ensures.head.in_range;
  progress = refl;
})

pub returns-clause-counted : goal.returns-clause-counted
returns-clause-counted g c = counted_ok (g.S.Source.told c.args.source.now).faults (g.S.Source.told c.pass_data.new.source).faults _ (c.in_ok-pass_data.ensures.counted.done ∙ c.in_ok-header.ensures.counted.done)
