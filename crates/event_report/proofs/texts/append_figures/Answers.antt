use Rattle.std.proofs.Common.{◌≡◌, ◌++◌, List, ℕ, ap, ◌∙◌, rules}
use Rattle.std.specs.Prelude.{codes}
use Rattle.std.specs.Fmt.{decimal, signed_decimal}
use Rattle.std.proofs.lemmas.Result.{on_ok_weaker, on_err_weaker}
use Rattle.std.proofs.lemmas.Int.{to_z-of_z}
use mir.Syntax.{w128}
use mir.Val.{to_z, of_z}
use Rattle.event_report.proofs.Printed.{behind, begun, on_error}
use Rattle.event_report.proofs.texts.append_figures.Goals as goal

pub returns-in_err-append_signed-clause-begins : goal.returns-in_err-append_signed-clause-begins
returns-in_err-append_signed-clause-begins c =
    on_error c.from_residual-in_err-append_signed.result
    (begun c.args.text.now c.append_named.new.text c.append_signed.new.text _ c.in_ok-append_named.ensures.added c.in_err-append_signed.ensures.begins)

pub returns-in_err-append_signed-2-clause-begins : goal.returns-in_err-append_signed-2-clause-begins
returns-in_err-append_signed-2-clause-begins c =
    on_error c.from_residual-in_err-append_signed-2.result
    (begun c.args.text.now c.append_named.new.text c.append_signed-2.new.text _ c.in_ok-append_named.ensures.added
    (begun c.append_named.new.text c.append_signed.new.text c.append_signed-2.new.text _ c.in_ok-append_signed.ensures.added c.in_err-append_signed-2.ensures.begins))

pub returns-clause-added : goal.returns-clause-added
returns-clause-added c = let figures = c.args.figures.now in let end = c.append_signed-3.new.text in
    let count : List ℕ = codes " count " ++ decimal figures.count in
    let sum : List ℕ = codes " sum " ++ signed_decimal figures.sum in
    let least : List ℕ = codes " least " ++ signed_decimal figures.least in
    let greatest : List ℕ = codes " greatest " ++ signed_decimal figures.greatest in
    let sum_same : to_z w128 (of_z w128 figures.sum) ≡ figures.sum = to_z-of_z w128 figures.sum (search rules) in
    let least_same : to_z w128 (of_z w128 figures.least) ≡ figures.least = to_z-of_z w128 figures.least (search rules) in
    let greatest_same : to_z w128 (of_z w128 figures.greatest) ≡ figures.greatest = to_z-of_z w128 figures.greatest (search rules) in
    on_ok_weaker c.append_signed-3.result
    (λ e. behind c.args.text.now c.append_named.new.text end count (sum ++ (least ++ greatest)) c.in_ok-append_named.ensures.added
    (behind c.append_named.new.text c.append_signed.new.text end sum (least ++ greatest) (c.in_ok-append_signed.ensures.added ∙ ap (λ z. c.append_named.new.text ++ (codes " sum " ++ signed_decimal z)) sum_same)
    (behind c.append_signed.new.text c.append_signed-2.new.text end least greatest (c.in_ok-append_signed-2.ensures.added ∙ ap (λ z. c.append_signed.new.text ++ (codes " least " ++ signed_decimal z)) least_same)
    (e ∙ ap (λ z. c.append_signed-2.new.text ++ (codes " greatest " ++ signed_decimal z)) greatest_same))))
    c.append_signed-3.ensures.added

pub returns-clause-begins : goal.returns-clause-begins
returns-clause-begins c = let end = c.append_signed-3.new.text in
    on_err_weaker c.append_signed-3.result
    (λ h. begun c.args.text.now c.append_named.new.text end _ c.in_ok-append_named.ensures.added
    (begun c.append_named.new.text c.append_signed.new.text end _ c.in_ok-append_signed.ensures.added
    (begun c.append_signed.new.text c.append_signed-2.new.text end _ c.in_ok-append_signed-2.ensures.added h)))
    c.append_signed-3.ensures.begins
