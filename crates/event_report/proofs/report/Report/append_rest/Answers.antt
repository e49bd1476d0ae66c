use Rattle.std.proofs.Common.{◌≡◌, ◌++◌, ◌∷◌, [], List, ℕ, ap, ◌∙◌}
use Rattle.std.specs.Prelude.{codes}
use Rattle.std.specs.Fmt.{decimal}
use Rattle.std.proofs.lemmas.Result.{on_ok_weaker, on_err_weaker}
use Rattle.event_report.specs.Reports.{Totals}
use Rattle.event_report.proofs.Printed.{behind, begun, begun_still, line_of_three, on_error}
use Rattle.event_report.proofs.report.Report.append_rest.Goals as goal

pub returns-in_err-append_named-clause-begins : goal.returns-in_err-append_named-clause-begins
returns-in_err-append_named-clause-begins c = on_error c.from_residual-in_err-append_named.result
    (begun c.args.out.now c.text.new.self c.append_named.new.text c.args.start.now c.in_ok-text.ensures.added c.in_err-append_named.ensures.begins)

pub returns-in_err-append_named-2-clause-begins : goal.returns-in_err-append_named-2-clause-begins
returns-in_err-append_named-2-clause-begins c = let end = c.append_named-2.new.text in on_error c.from_residual-in_err-append_named-2.result
    (begun c.args.out.now c.text.new.self end c.args.start.now c.in_ok-text.ensures.added
    (begun c.text.new.self c.append_named.new.text end _ c.in_ok-append_named.ensures.added c.in_err-append_named-2.ensures.begins))

pub returns-in_err-append_named-3-clause-begins : goal.returns-in_err-append_named-3-clause-begins
returns-in_err-append_named-3-clause-begins c = let end = c.append_named-3.new.text in on_error c.from_residual-in_err-append_named-3.result
    (begun c.args.out.now c.text.new.self end c.args.start.now c.in_ok-text.ensures.added
    (begun c.text.new.self c.append_named.new.text end _ c.in_ok-append_named.ensures.added
    (begun c.append_named.new.text c.append_named-2.new.text end _ c.in_ok-append_named-2.ensures.added c.in_err-append_named-3.ensures.begins)))

pub returns-clause-added : goal.returns-clause-added
returns-clause-added c = let totals = c.args.self.now in let start : List ℕ = c.args.start.now in let end = c.end_line.new.self in
    let ids : List ℕ = codes "rest ids " ++ decimal totals.ids.rest in
    let banks : List ℕ = codes " banks " ++ decimal totals.banks.rest in
    let bad : List ℕ = codes " bad " ++ decimal totals.bad in
    let ids_same : c.rest.result ≡ totals.ids.rest = c.rest.ensures ∙ ap (λ (t : Totals). t.ids.rest) c.self.view_is in
    let banks_same : c.rest-2.result ≡ totals.banks.rest = c.rest-2.ensures ∙ ap (λ (t : Totals). t.banks.rest) c.self.view_is in
    let bad_same : c.self.inside.bad ≡ totals.bad = ap (λ (t : Totals). t.bad) c.self.view_is in
    let ids_added : c.append_named.new.text ≡ c.text.new.self ++ ids = c.in_ok-append_named.ensures.added ∙ ap (λ n. c.text.new.self ++ (codes "rest ids " ++ decimal n)) ids_same in
    let banks_added : c.append_named-2.new.text ≡ c.append_named.new.text ++ banks = c.in_ok-append_named-2.ensures.added ∙ ap (λ n. c.append_named.new.text ++ (codes " banks " ++ decimal n)) banks_same in
    let bad_added : c.append_named-3.new.text ≡ c.append_named-2.new.text ++ bad = c.in_ok-append_named-3.ensures.added ∙ ap (λ n. c.append_named-2.new.text ++ (codes " bad " ++ decimal n)) bad_same in
    on_ok_weaker c.end_line.result
    (λ e. behind c.args.out.now c.text.new.self end start (ids ++ (banks ++ (bad ++ 10 ∷ []))) c.in_ok-text.ensures.added
    (behind c.text.new.self c.append_named.new.text end ids (banks ++ (bad ++ 10 ∷ [])) ids_added
    (behind c.append_named.new.text c.append_named-2.new.text end banks (bad ++ 10 ∷ []) banks_added
    (behind c.append_named-2.new.text c.append_named-3.new.text end bad (10 ∷ []) bad_added e)))
    ∙ ap (λ t. c.args.out.now ++ (start ++ t)) (line_of_three ids banks bad (10 ∷ [])))
    c.end_line.ensures.added

pub returns-clause-begins : goal.returns-clause-begins
returns-clause-begins c = let end = c.end_line.new.self in on_err_weaker c.end_line.result
    (λ e. begun c.args.out.now c.text.new.self end c.args.start.now c.in_ok-text.ensures.added
    (begun c.text.new.self c.append_named.new.text end _ c.in_ok-append_named.ensures.added
    (begun c.append_named.new.text c.append_named-2.new.text end _ c.in_ok-append_named-2.ensures.added
    (begun_still c.append_named-2.new.text c.append_named-3.new.text end _ c.in_ok-append_named-3.ensures.added e))))
    c.end_line.ensures.kept
