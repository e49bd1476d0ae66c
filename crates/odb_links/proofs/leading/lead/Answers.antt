use Rattle.std.proofs.Common.{◌≡◌, ◌≢◌, ℕ, List, Option, Some, Result, Ok, Err, IfErr, ◌∙◌, sym, ap, subst, arith}
use Rattle.std.proofs.lemmas.Result.{err_from_is_err_and}
use Rattle.odb_tree.specs.declared.refusals.OdbRefusal.{OdbRefusal}
use Rattle.odb_tree.specs.declared.refusals.OdbRefusal.TheVariants.{NoMemory}
use Rattle.odb_tree.specs.declared.rows.Row.{Row}
use Rattle.odb_tree.specs.Links.{follow, resolved}
use Rattle.odb_links.specs.Seen.{seen}
use Rattle.odb_links.specs.Places.{met_by}
use Rattle.odb_links.proofs.Following.{way_goes_on, way_refused, way_too_long}
use Rattle.odb_links.proofs.leading.lead.Goals as goal

pub loop-steps-preserved : goal.loop-steps-preserved
loop-steps-preserved g c =
    let rows : List Row = (seen c.args.links.now (g.D.Database.rows c.args.tree.now)).rows in
    let here : List (List ℕ) = c.goal-here.result.now in
    way_goes_on rows c.args.last c.args.path.now here c.in_ok-onward.field-0 c.loop-steps.steps c.loop-steps.led (met_by here c.in-Some.hit) c.loop-steps.invariant c.goal-here.ensures.path c.loop-steps-test.true c.in-Some.ensures.first
    (subst (λ (names : List (List ℕ)). follow Ok c.loop-steps.steps names (Some (met_by names c.in-Some.hit)) ≡ Ok c.in_ok-onward.field-0) c.names.ensures.names c.in_ok-onward.ensures)

pub returns-in_err-onward-clause-refused : goal.returns-in_err-onward-clause-refused
returns-in_err-onward-clause-refused g c =
    let rows : List Row = (seen c.args.links.now (g.D.Database.rows c.args.tree.now)).rows in
    let here : List (List ℕ) = c.goal-here.result.now in
    let why : OdbRefusal = c.in_err-onward.field-0.0 in
    let p = err_from_is_err_and c.from_residual.result c.from_residual.ensures.1 in
    subst (λ (r : Result (Option (List (List ℕ))) OdbRefusal). IfErr r (λ refusal. refusal ≢ NoMemory → resolved (seen c.args.links.now (g.D.Database.rows c.args.tree.now)) c.args.path.now c.args.last ≡ Err refusal)) (sym (p.1 ∙ ap (λ (x : OdbRefusal). Err x) p.2))
    (way_refused rows c.args.last c.args.path.now here c.loop-steps.steps c.loop-steps.led (met_by here c.in-Some.hit) why c.loop-steps.invariant c.goal-here.ensures.path c.loop-steps-test.true c.in-Some.ensures.first
    (subst (λ (names : List (List ℕ)). why ≢ NoMemory → follow Ok c.loop-steps.steps names (Some (met_by names c.in-Some.hit)) ≡ Err why) c.names.ensures.names c.in_err-onward.ensures.0))

pub returns-in-Some-first_hit-clause-refused : goal.returns-in-Some-first_hit-clause-refused
returns-in-Some-first_hit-clause-refused g c = λ _.
    let rows : List Row = (seen c.args.links.now (g.D.Database.rows c.args.tree.now)).rows in
    way_too_long rows c.args.last c.args.path.now c.goal.result.now c.loop-steps.steps c.loop-steps.led (met_by c.goal.result.now c.in-Some-first_hit.field-0) c.loop-steps.invariant c.goal.ensures.path
    (omega (arith, c.loop-steps-test.false, c.loop-steps.auto.steps-end)) c.in-Some-first_hit.ensures.first
