use Rattle.std.proofs.Common.{sym, ◌∙◌}
use Rattle.std.proofs.lemmas.Result.{err_from_is_err_and}
use Rattle.odb_value.proofs.Reading.{read_next, replies_path, replies_fault, replies_last_fault, not_empty, no_slash}
use Rattle.odb_value.proofs.paths.Path.read_names.Goals as goal

pub returns-in_err-add-clause-refused : goal.returns-in_err-add-clause-refused
returns-in_err-add-clause-refused c =
    let p = err_from_is_err_and c.from_residual.result c.from_residual.ensures.1 in
    rw (p.1, p.2) (λ free. replies_fault c.args.text.now c.loop-at.path c.loop-at.rest.now c.cut.result.0.now c.loop-at.place c.in-Some.at c.in_err-add.field-0.0
    (not_empty c.args.text.now _ _ c.behind_slash-body.ensures c.is_empty.ensures c.if-is_empty.false) c.loop-at.invariant (sym c.slash_in.ensures.first ∙ c.in-Some.is) c.cut.ensures.before (c.in_err-add.ensures.refused free))

pub loop-at-preserved : goal.loop-at-preserved
loop-at-preserved c =
    read_next _ _ c.loop-at.path c.add.new.self c.loop-at.rest.now c.cut.result.0.now c.cut.result.1.now c.loop-at.place c.in-Some.at c.loop-at.invariant
    (sym c.slash_in.ensures.first ∙ c.in-Some.is) c.in-Some.ensures.within c.cut.ensures.before c.cut.ensures.behind c.in_ok-add.ensures.added c.in_ok-add.ensures.right c.in_ok-add.ensures.short c.in_ok-add.ensures.room

pub returns-in_err-add-2-clause-refused : goal.returns-in_err-add-2-clause-refused
returns-in_err-add-2-clause-refused c =
    let p = err_from_is_err_and c.from_residual-in_err-add-2.result c.from_residual-in_err-add-2.ensures.1 in
    rw (p.1, p.2) (λ free. replies_last_fault c.args.text.now c.loop-at.path c.loop-at.rest.now c.loop-at.place c.in_err-add-2.field-0.0
    (not_empty c.args.text.now _ _ c.behind_slash-body.ensures c.is_empty.ensures c.if-is_empty.false) c.loop-at.invariant (no_slash _ c.loop-at.rest.now c.slash_in.ensures.first c.in_default.not-Some) (c.in_err-add-2.ensures.refused free))

pub returns-clause-path : goal.returns-clause-path
returns-clause-path c =
    rw c.in_ok-add-2.ensures.added (replies_path c.args.text.now c.loop-at.path c.loop-at.rest.now c.loop-at.place
    (not_empty c.args.text.now _ _ c.behind_slash-body.ensures c.is_empty.ensures c.if-is_empty.false) c.loop-at.invariant (no_slash _ c.loop-at.rest.now c.slash_in.ensures.first c.in_default.not-Some) c.in_ok-add-2.ensures.right)
