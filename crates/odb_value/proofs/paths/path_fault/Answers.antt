use Rattle.std.proofs.Common.{sym, ◌∙◌, ℕ, List, ◌-◌, length, subst, arith}
use Rattle.odb_value.specs.PathText.{behind_slash, names_start}
use Rattle.odb_value.proofs.Reading.{IsReadTo, none_read, start_small, reads_on, faults_at, ends_read, not_empty, no_slash}
use Rattle.odb_value.proofs.paths.path_fault.Goals as goal

pub loop-at-init : goal.loop-at-init
loop-at-init c =
    subst (λ (body : List ℕ). IsReadTo (behind_slash c.args.text.now) (names_start c.args.text.now) 0 body (length c.args.text.now - length body)) (sym c.behind_slash-body.ensures)
    (none_read (behind_slash c.args.text.now) (names_start c.args.text.now) (start_small c.args.text.now))

pub add_fault-requires : goal.add_fault-requires
add_fault-requires c = omega (arith, c.loop-at.invariant.read.bound, c.loop-at.invariant.read.few)

pub loop-at-preserved : goal.loop-at-preserved
loop-at-preserved c =
    reads_on _ _ c.loop-at.depth c.loop-at.rest.now c.cut.result.0.now c.cut.result.1.now c.loop-at.place c.in-Some.at c.add_fault.result c.loop-at.invariant
    (sym c.slash_in.ensures.first ∙ c.in-Some.is) c.in-Some.ensures.within c.cut.ensures.before c.cut.ensures.behind c.add_fault.ensures.fault c.in_default-add_fault.is
    c.in_default-add_fault.ensures.short c.in_default-add_fault.ensures.room

pub returns-in-Some-add_fault-clause-fault : goal.returns-in-Some-add_fault-clause-fault
returns-in-Some-add_fault-clause-fault c =
    faults_at c.args.text.now c.loop-at.depth c.loop-at.rest.now c.cut.result.0.now c.loop-at.place c.in-Some.at c.add_fault.result c.in-Some-add_fault.refusal
    (not_empty c.args.text.now _ _ c.behind_slash-body.ensures c.is_empty.ensures c.if-is_empty.false) c.loop-at.invariant
    (sym c.slash_in.ensures.first ∙ c.in-Some.is) c.cut.ensures.before c.add_fault.ensures.fault c.in-Some-add_fault.is

pub returns-clause-fault : goal.returns-clause-fault
returns-clause-fault c =
    let both = ends_read c.args.text.now c.loop-at.depth c.loop-at.rest.now c.loop-at.place c.add_fault-2.result
    (not_empty c.args.text.now _ _ c.behind_slash-body.ensures c.is_empty.ensures c.if-is_empty.false) c.loop-at.invariant
    (no_slash _ c.loop-at.rest.now c.slash_in.ensures.first c.in_default.not-Some) c.add_fault-2.ensures.fault in
    both.0

pub returns-clause-none : goal.returns-clause-none
returns-clause-none c =
    let both = ends_read c.args.text.now c.loop-at.depth c.loop-at.rest.now c.loop-at.place c.add_fault-2.result
    (not_empty c.args.text.now _ _ c.behind_slash-body.ensures c.is_empty.ensures c.if-is_empty.false) c.loop-at.invariant
    (no_slash _ c.loop-at.rest.now c.slash_in.ensures.first c.in_default.not-Some) c.add_fault-2.ensures.fault in
    both.1
