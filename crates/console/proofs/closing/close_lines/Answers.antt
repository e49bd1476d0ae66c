use Rattle.std.proofs.Common.{◌≡◌, [], ◌∷◌, Some, None, refl, ap, sym, ◌∙◌, inl, inr}
use Rattle.console.specs.declared.halts.Halt.TheVariants.{NoMemory}
use Rattle.console.specs.Closing.{reply_list}
use Rattle.console.proofs.ClosingLaws.{finished, nothing_behind, silent_behind, printed_behind, cut_behind}
use Rattle.console.proofs.closing.close_lines.Goals as goal

pub returns-in-Err-clause-finishes : goal.returns-in-Err-clause-finishes
returns-in-Err-clause-finishes g c = λ first source left told_first played.
    finished _ _ _ _ _ first c.args.ending (Some NoMemory) source left told_first _ _ _ _ _ [] played
    (inr (record { closing_is = refl; gave_up = c.in-Err.ensures.gave_up; is = refl })) (nothing_behind c.args.ending (Some NoMemory) _ (λ fails. cc (fails)))

pub returns-in-Ok-None-clause-finishes : goal.returns-in-Ok-None-clause-finishes
returns-in-Ok-None-clause-finishes g c = λ first source left told_first played.
    let none : c.in-Ok-None.field-0 ≡ None = c.in-Ok-None.field-0-is in
    finished _ _ _ _ _ first c.args.ending None source left told_first _ _ _ _ _ [] played
    (inl (record { reply = c.in-Ok-None.field-0; closed = c.in-Ok-None.ensures.closed; is = sym (ap reply_list none) })) (nothing_behind c.args.ending None _ (λ fails. cc (fails)))

pub returns-then-not-prints-clause-finishes : goal.returns-then-not-prints-clause-finishes
returns-then-not-prints-clause-finishes g c = λ first source left told_first played.
    let some : c.in-Ok-Some.field-0 ≡ Some c.in-Ok-Some.reply = c.in-Ok-Some.field-0-is in
    finished _ _ _ _ _ first c.args.ending None source left told_first _ _ _ _ _ (c.in-Ok-Some.reply ∷ []) played
    (inl (record { reply = c.in-Ok-Some.field-0; closed = c.in-Ok-Some.ensures.closed; is = sym (ap reply_list some) }))
    (silent_behind c.args.ending _ c.in-Ok-Some.reply (sym c.prints.ensures ∙ c.if-not-prints.true))

pub returns-in-Ok-clause-finishes : goal.returns-in-Ok-clause-finishes
returns-in-Ok-clause-finishes g c = λ first source left told_first played.
    let some : c.in-Ok-Some.field-0 ≡ Some c.in-Ok-Some.reply = c.in-Ok-Some.field-0-is in
    finished _ _ _ _ _ first c.args.ending None source left told_first _ _ _ _ _ (c.in-Ok-Some.reply ∷ []) played
    (inl (record { reply = c.in-Ok-Some.field-0; closed = c.in-Ok-Some.ensures.closed; is = sym (ap reply_list some) }))
    (printed_behind c.args.ending _ _ c.in-Ok-Some.reply (sym c.prints.ensures ∙ c.if-not-prints.false) c.in-Ok.ensures.wrote)

pub returns-clause-finishes : goal.returns-clause-finishes
returns-clause-finishes g c = λ first source left told_first played.
    let some : c.in-Ok-Some.field-0 ≡ Some c.in-Ok-Some.reply = c.in-Ok-Some.field-0-is in
    finished _ _ _ _ _ first c.args.ending (Some c.in-Err-print_reply.halt) source left told_first _ _ _ _ _ (c.in-Ok-Some.reply ∷ []) played
    (inl (record { reply = c.in-Ok-Some.field-0; closed = c.in-Ok-Some.ensures.closed; is = sym (ap reply_list some) }))
    (cut_behind c.args.ending c.in-Err-print_reply.halt _ _ c.in-Ok-Some.reply (sym c.prints.ensures ∙ c.if-not-prints.false) c.in-Err-print_reply.ensures.wrote)
