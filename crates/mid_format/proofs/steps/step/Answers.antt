use Rattle.std.proofs.Common.{◌∙◌, ◌≤◌, ◌^◌, Err, refl, ap, sym, subst, arith}
use Rattle.std.proofs.lemmas.Result.{err_from_is_err_and, IfOk-from_err}
use Rattle.mid_format.specs.declared.faults.MidFault.{MidFault}
use Rattle.mid_format.specs.declared.progress.Progress.{Progress}
use Rattle.mid_format.proofs.Allowed.{event_allowed, end_allowed}
use Rattle.mid_format.proofs.Ends.{begun_within, finished_within, stopped_within, inside_at_hand, behind_at_hand, stopped_at_hand, counted_err, counted_ok}
use Rattle.mid_format.proofs.Going.{begin_stopped, after_begin, stopped, data_stopped, one_more, last_read, last_stopped}
use Rattle.mid_format.proofs.Failing.{map_source, inside_head}
use Rattle.mid_format.proofs.steps.step.Goals as goal

pub returns-in_err-begin-clause-stops : goal.returns-in_err-begin-clause-stops
returns-in_err-begin-clause-stops g c =
    let p = err_from_is_err_and c.from_residual.result c.from_residual.ensures.1 in
    rw (p.1, p.2) (λ start first events r. begin_stopped start first _ c.args.progress.now events r c.requires.going c.in_err-begin.ensures.stops.none _ (g.S.Source.told c.begin.new.source).at_hand c.begin.new.progress c.in_err-begin.field-0.0 c.in_err-begin.ensures.stops
    c.in_err-begin.ensures.fails)

pub returns-in_err-header-clause-stops : goal.returns-in_err-header-clause-stops
returns-in_err-header-clause-stops g c =
    let p = err_from_is_err_and c.from_residual-in_err-header.result c.from_residual-in_err-header.ensures.1 in
    rw (p.1, p.2) (λ start first events r.
    let a = after_begin start first _ (g.S.Source.told c.begin.new.source).left c.args.progress.now c.begin.new.progress events c.in_ok-begin.begin r c.requires.going c.in_ok-begin.ensures.begins in
    stopped start first (g.S.Source.told c.begin.new.source).left c.begin.new.progress events a.read a.going c.in_ok-begin.begin a.begin _ (g.S.Source.told c.read_head.new.source).at_hand c.in_err-header.field-0.0 c.in_err-header.ensures.fault
    (map_source c.in_err-header.field-0.0 _ _ (inside_head _ _ _) c.in_err-header.ensures.fails))

pub returns-in_err-finish-clause-stops : goal.returns-in_err-finish-clause-stops
returns-in_err-finish-clause-stops g c =
    let p = err_from_is_err_and c.from_residual-in_err-finish.result c.from_residual-in_err-finish.ensures.1 in
    rw (p.1, p.2) (λ start first events r.
    let a = after_begin start first _ (g.S.Source.told c.begin.new.source).left c.args.progress.now c.begin.new.progress events c.in_ok-begin.begin r c.requires.going c.in_ok-begin.ensures.begins in
    last_stopped start first (g.S.Source.told c.begin.new.source).left (g.S.Source.told c.read_head.new.source).left _ (g.S.Source.told c.finish.new.source).at_hand c.begin.new.progress c.finish.new.progress events c.in_ok-begin.begin c.in_ok-header.header c.in_err-finish.field-0.0 a
    c.in_ok-header.ensures.head c.if-header.true c.in_err-finish.ensures.stops)

pub returns-then-header-clause-reads : goal.returns-then-header-clause-reads
returns-then-header-clause-reads g c = λ start first events r.
    let a = after_begin start first _ (g.S.Source.told c.begin.new.source).left c.args.progress.now c.begin.new.progress events c.in_ok-begin.begin r c.requires.going c.in_ok-begin.ensures.begins in
    last_read start first (g.S.Source.told c.begin.new.source).left (g.S.Source.told c.read_head.new.source).left _ c.begin.new.progress c.finish.new.progress events c.in_ok-begin.begin c.in_ok-header.header a
    c.in_ok-header.ensures.head c.if-header.true c.in_ok-finish.ensures.finishes

pub returns-in_err-read_data-clause-stops : goal.returns-in_err-read_data-clause-stops
returns-in_err-read_data-clause-stops g c =
    let p = err_from_is_err_and c.from_residual-in_err-read_data.result c.from_residual-in_err-read_data.ensures.1 in
    rw (p.1, p.2) (λ start first events r.
    let a = after_begin start first _ (g.S.Source.told c.begin.new.source).left c.args.progress.now c.begin.new.progress events c.in_ok-begin.begin r c.requires.going c.in_ok-begin.ensures.begins in
    data_stopped start first (g.S.Source.told c.begin.new.source).left c.begin.new.progress events a.read a.going c.in_ok-begin.begin a.begin (g.S.Source.told c.read_head.new.source).left c.in_ok-header.header
    c.in_ok-header.ensures.head _ (g.S.Source.told c.read_data.new.source).at_hand c.in_err-read_data.field-0.0 c.in_err-read_data.ensures.cut c.in_err-read_data.ensures.fails)

pub returns-clause-reads : goal.returns-clause-reads
returns-clause-reads g c = λ start first events r.
    let a = after_begin start first _ (g.S.Source.told c.begin.new.source).left c.args.progress.now c.begin.new.progress events c.in_ok-begin.begin r c.requires.going c.in_ok-begin.ensures.begins in
    one_more start first (g.S.Source.told c.begin.new.source).left c.begin.new.progress events a.read a.going c.in_ok-begin.begin a.begin (g.S.Source.told c.read_head.new.source).left c.in_ok-header.header
    c.in_ok-header.ensures.head _ c.read_data.new.into c.if-header.false c.in_ok-read_data.ensures.read

pub returns-in_err-begin-clause-reads : goal.returns-in_err-begin-clause-reads
returns-in_err-begin-clause-reads g c =
    IfOk-from_err c.from_residual.result _ c.from_residual.ensures.0

pub returns-in_err-begin-clause-onward : goal.returns-in_err-begin-clause-onward
returns-in_err-begin-clause-onward g c =
    IfOk-from_err c.from_residual.result _ c.from_residual.ensures.0

pub returns-in_err-begin-clause-last : goal.returns-in_err-begin-clause-last
returns-in_err-begin-clause-last g c =
    IfOk-from_err c.from_residual.result _ c.from_residual.ensures.0

pub returns-in_err-begin-clause-kept : goal.returns-in_err-begin-clause-kept
returns-in_err-begin-clause-kept g c =
    IfOk-from_err c.from_residual.result _ c.from_residual.ensures.0

pub returns-in_err-begin-clause-counted : goal.returns-in_err-begin-clause-counted
returns-in_err-begin-clause-counted g c =
    let p = err_from_is_err_and c.from_residual.result c.from_residual.ensures.1 in
    counted_err (g.S.Source.told c.args.source.now).faults (g.S.Source.told c.args.source.now).faults (g.S.Source.told c.begin.new.source).faults c.from_residual.result c.in_err-begin.field-0.0 (p.1 ∙ ap (λ (x : MidFault). Err x) p.2) refl c.in_err-begin.ensures.counted.fault

pub returns-in_err-begin-clause-at_hand : goal.returns-in_err-begin-clause-at_hand
returns-in_err-begin-clause-at_hand g c =
    let p = err_from_is_err_and c.from_residual.result c.from_residual.ensures.1 in
    inside_at_hand (g.S.Source.told c.args.source.now).left (g.S.Source.told c.begin.new.source).left (g.S.Source.told c.begin.new.source).at_hand c.from_residual.result c.in_err-begin.field-0.0 (p.1 ∙ ap (λ (x : MidFault). Err x) p.2) c.in_err-begin.ensures.fails

pub returns-in_err-begin-clause-place : goal.returns-in_err-begin-clause-place
returns-in_err-begin-clause-place g c =
    subst (λ (p : Progress). p.at ≤ 2 ^ 62) (sym c.in_err-begin.ensures.stops.progress) c.requires.place

pub returns-in_err-header-clause-reads : goal.returns-in_err-header-clause-reads
returns-in_err-header-clause-reads g c =
    IfOk-from_err c.from_residual-in_err-header.result _ c.from_residual-in_err-header.ensures.0

pub returns-in_err-header-clause-onward : goal.returns-in_err-header-clause-onward
returns-in_err-header-clause-onward g c =
    IfOk-from_err c.from_residual-in_err-header.result _ c.from_residual-in_err-header.ensures.0

pub returns-in_err-header-clause-last : goal.returns-in_err-header-clause-last
returns-in_err-header-clause-last g c =
    IfOk-from_err c.from_residual-in_err-header.result _ c.from_residual-in_err-header.ensures.0

pub returns-in_err-header-clause-kept : goal.returns-in_err-header-clause-kept
returns-in_err-header-clause-kept g c =
    IfOk-from_err c.from_residual-in_err-header.result _ c.from_residual-in_err-header.ensures.0

pub returns-in_err-header-clause-counted : goal.returns-in_err-header-clause-counted
returns-in_err-header-clause-counted g c =
    let p = err_from_is_err_and c.from_residual-in_err-header.result c.from_residual-in_err-header.ensures.1 in
    counted_err (g.S.Source.told c.args.source.now).faults (g.S.Source.told c.begin.new.source).faults (g.S.Source.told c.read_head.new.source).faults c.from_residual-in_err-header.result c.in_err-header.field-0.0 (p.1 ∙ ap (λ (x : MidFault). Err x) p.2) c.in_ok-begin.ensures.counted.done c.in_err-header.ensures.counted.fault

pub returns-in_err-header-clause-at_hand : goal.returns-in_err-header-clause-at_hand
returns-in_err-header-clause-at_hand g c =
    let p = err_from_is_err_and c.from_residual-in_err-header.result c.from_residual-in_err-header.ensures.1 in
    behind_at_hand (g.S.Source.told c.begin.new.source).left (g.S.Source.told c.read_head.new.source).left (g.S.Source.told c.read_head.new.source).at_hand 16 c.from_residual-in_err-header.result c.in_err-header.field-0.0 (p.1 ∙ ap (λ (x : MidFault). Err x) p.2) c.in_err-header.ensures.fails

pub returns-in_err-header-clause-place : goal.returns-in_err-header-clause-place
returns-in_err-header-clause-place g c =
    begun_within (g.S.Source.told c.args.source.now).left (g.S.Source.told c.begin.new.source).left c.args.progress.now c.begin.new.progress c.in_ok-begin.begin c.requires.place c.in_ok-begin.ensures.begins

pub returns-in_err-finish-clause-reads : goal.returns-in_err-finish-clause-reads
returns-in_err-finish-clause-reads g c =
    IfOk-from_err c.from_residual-in_err-finish.result _ c.from_residual-in_err-finish.ensures.0

pub returns-in_err-finish-clause-onward : goal.returns-in_err-finish-clause-onward
returns-in_err-finish-clause-onward g c =
    IfOk-from_err c.from_residual-in_err-finish.result _ c.from_residual-in_err-finish.ensures.0

pub returns-in_err-finish-clause-last : goal.returns-in_err-finish-clause-last
returns-in_err-finish-clause-last g c =
    IfOk-from_err c.from_residual-in_err-finish.result _ c.from_residual-in_err-finish.ensures.0

pub returns-in_err-finish-clause-kept : goal.returns-in_err-finish-clause-kept
returns-in_err-finish-clause-kept g c =
    IfOk-from_err c.from_residual-in_err-finish.result _ c.from_residual-in_err-finish.ensures.0

pub returns-in_err-finish-clause-counted : goal.returns-in_err-finish-clause-counted
returns-in_err-finish-clause-counted g c =
    let p = err_from_is_err_and c.from_residual-in_err-finish.result c.from_residual-in_err-finish.ensures.1 in
    counted_err (g.S.Source.told c.args.source.now).faults (g.S.Source.told c.read_head.new.source).faults (g.S.Source.told c.finish.new.source).faults c.from_residual-in_err-finish.result c.in_err-finish.field-0.0 (p.1 ∙ ap (λ (x : MidFault). Err x) p.2) (c.in_ok-header.ensures.counted.done ∙ c.in_ok-begin.ensures.counted.done) c.in_err-finish.ensures.counted.fault

pub returns-in_err-finish-clause-at_hand : goal.returns-in_err-finish-clause-at_hand
returns-in_err-finish-clause-at_hand g c =
    let p = err_from_is_err_and c.from_residual-in_err-finish.result c.from_residual-in_err-finish.ensures.1 in
    stopped_at_hand (g.S.Source.told c.read_head.new.source).left (g.S.Source.told c.finish.new.source).left (g.S.Source.told c.finish.new.source).at_hand c.begin.new.progress c.finish.new.progress c.in_ok-header.header c.from_residual-in_err-finish.result c.in_err-finish.field-0.0 (p.1 ∙ ap (λ (x : MidFault). Err x) p.2) c.in_err-finish.ensures.stops

pub returns-in_err-finish-clause-place : goal.returns-in_err-finish-clause-place
returns-in_err-finish-clause-place g c =
    stopped_within (g.S.Source.told c.read_head.new.source).left (g.S.Source.told c.finish.new.source).left (g.S.Source.told c.finish.new.source).at_hand c.in_ok-begin.begin.serial_number c.begin.new.progress c.finish.new.progress c.in_ok-header.header c.in_err-finish.field-0.0
    (begun_within (g.S.Source.told c.args.source.now).left (g.S.Source.told c.begin.new.source).left c.args.progress.now c.begin.new.progress c.in_ok-begin.begin c.requires.place c.in_ok-begin.ensures.begins) c.in_ok-header.ensures.head.fine c.if-header.true c.in_err-finish.ensures.stops

pub returns-in_err-read_data-clause-reads : goal.returns-in_err-read_data-clause-reads
returns-in_err-read_data-clause-reads g c =
    IfOk-from_err c.from_residual-in_err-read_data.result _ c.from_residual-in_err-read_data.ensures.0

pub returns-in_err-read_data-clause-onward : goal.returns-in_err-read_data-clause-onward
returns-in_err-read_data-clause-onward g c =
    IfOk-from_err c.from_residual-in_err-read_data.result _ c.from_residual-in_err-read_data.ensures.0

pub returns-in_err-read_data-clause-last : goal.returns-in_err-read_data-clause-last
returns-in_err-read_data-clause-last g c =
    IfOk-from_err c.from_residual-in_err-read_data.result _ c.from_residual-in_err-read_data.ensures.0

pub returns-in_err-read_data-clause-kept : goal.returns-in_err-read_data-clause-kept
returns-in_err-read_data-clause-kept g c =
    IfOk-from_err c.from_residual-in_err-read_data.result _ c.from_residual-in_err-read_data.ensures.0

pub returns-in_err-read_data-clause-counted : goal.returns-in_err-read_data-clause-counted
returns-in_err-read_data-clause-counted g c =
    let p = err_from_is_err_and c.from_residual-in_err-read_data.result c.from_residual-in_err-read_data.ensures.1 in
    counted_err (g.S.Source.told c.args.source.now).faults (g.S.Source.told c.read_head.new.source).faults (g.S.Source.told c.read_data.new.source).faults c.from_residual-in_err-read_data.result c.in_err-read_data.field-0.0 (p.1 ∙ ap (λ (x : MidFault). Err x) p.2) (c.in_ok-header.ensures.counted.done ∙ c.in_ok-begin.ensures.counted.done) c.in_err-read_data.ensures.counted.fault

pub returns-in_err-read_data-clause-at_hand : goal.returns-in_err-read_data-clause-at_hand
returns-in_err-read_data-clause-at_hand g c =
    let p = err_from_is_err_and c.from_residual-in_err-read_data.result c.from_residual-in_err-read_data.ensures.1 in
    behind_at_hand (g.S.Source.told c.read_head.new.source).left (g.S.Source.told c.read_data.new.source).left (g.S.Source.told c.read_data.new.source).at_hand c.in_ok-header.header.data_size c.from_residual-in_err-read_data.result c.in_err-read_data.field-0.0 (p.1 ∙ ap (λ (x : MidFault). Err x) p.2) c.in_err-read_data.ensures.fails

pub returns-in_err-read_data-clause-place : goal.returns-in_err-read_data-clause-place
returns-in_err-read_data-clause-place g c =
    begun_within (g.S.Source.told c.args.source.now).left (g.S.Source.told c.begin.new.source).left c.args.progress.now c.begin.new.progress c.in_ok-begin.begin c.requires.place c.in_ok-begin.ensures.begins

pub returns-then-header-clause-place : goal.returns-then-header-clause-place
returns-then-header-clause-place g c =
    finished_within (g.S.Source.told c.read_head.new.source).left (g.S.Source.told c.finish.new.source).left c.in_ok-begin.begin.serial_number c.begin.new.progress c.finish.new.progress c.in_ok-header.header c.in_ok-header.ensures.head.fine c.if-header.true c.in_ok-finish.ensures.finishes

pub returns-then-header-clause-counted : goal.returns-then-header-clause-counted
returns-then-header-clause-counted g c =
    counted_ok (g.S.Source.told c.args.source.now).faults (g.S.Source.told c.finish.new.source).faults _ (c.in_ok-finish.ensures.counted.done ∙ c.in_ok-header.ensures.counted.done ∙ c.in_ok-begin.ensures.counted.done)

pub returns-clause-counted : goal.returns-clause-counted
returns-clause-counted g c =
    counted_ok (g.S.Source.told c.args.source.now).faults (g.S.Source.told c.read_data.new.source).faults _ (c.in_ok-read_data.ensures.counted.done ∙ c.in_ok-header.ensures.counted.done ∙ c.in_ok-begin.ensures.counted.done)

pub returns-clause-place : goal.returns-clause-place
returns-clause-place g c =
    (event_allowed c.in_ok-begin.begin.serial_number c.begin.new.progress.at c.in_ok-header.header c.in_ok-header.ensures.head.fine c.if-header.false).sized.within

pub read_head-requires : goal.read_head-requires
read_head-requires g c =
    begun_within (g.S.Source.told c.args.source.now).left (g.S.Source.told c.begin.new.source).left c.args.progress.now c.begin.new.progress c.in_ok-begin.begin c.requires.place c.in_ok-begin.ensures.begins

pub finish-requires : goal.finish-requires
finish-requires g c =
    (end_allowed c.in_ok-begin.begin.serial_number c.begin.new.progress.at c.in_ok-header.header c.in_ok-header.ensures.head.fine c.if-header.true).sized.within

pub read_data-requires-clause-place : goal.read_data-requires-clause-place
read_data-requires-clause-place g c =
    (event_allowed c.in_ok-begin.begin.serial_number c.begin.new.progress.at c.in_ok-header.header c.in_ok-header.ensures.head.fine c.if-header.false).sized.within

pub read_data-requires-clause-room : goal.read_data-requires-clause-room
read_data-requires-clause-room g c =
    omega (arith, (event_allowed c.in_ok-begin.begin.serial_number c.begin.new.progress.at c.in_ok-header.header c.in_ok-header.ensures.head.fine c.if-header.false).sized.small, c.requires.room)
