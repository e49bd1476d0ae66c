use Rattle.std.proofs.Common.{◌≡◌, ℕ, List, ◌++◌, ◌∷◌, [], sym, ap, ◌∙◌, subst}
use Rattle.std.proofs.lemmas.Result.{on_ok_weaker}
use Rattle.odb_text.specs.Standing.{IsPlaceOf}
use Rattle.odb_text.proofs.LedThere.{key_there, no_key_there}
use Rattle.odb_text.proofs.loading.is_dir_there.Goals as goal

-- the path is that of the directory and the last name
pub returns-in_default-raw-clause-key : goal.returns-in_default-raw-clause-key
returns-in_default-raw-clause-key g c = λ other.
    let s = g.D.Database.rows c.args.database.now in
    let whole : c.args.path.now ≡ c.in_ok-above.above ++ c.in-Some.name.now ∷ [] =
    sym c.names.ensures.names ∙ (c.in-Some.ensures.cases.0 ∙ ap (λ (l : List (List ℕ)). l ++ c.in-Some.name.now ∷ []) (sym c.in_ok-above.ensures)) in
    key_there s c.args.path.now c.in_ok-there.there c.in_default-raw.field-0 (subst (λ (p : List (List ℕ)). IsPlaceOf s p c.in_ok-there.there) (sym whole) c.in_ok-there.ensures) c.in_default-raw.ensures

pub returns-clause-dir : goal.returns-clause-dir
returns-clause-dir g c =
    let s = g.D.Database.rows c.args.database.now in
    let whole : c.args.path.now ≡ c.in_ok-above.above ++ c.in-Some.name.now ∷ [] =
    sym c.names.ensures.names ∙ (c.in-Some.ensures.cases.0 ∙ ap (λ (l : List (List ℕ)). l ++ c.in-Some.name.now ∷ []) (sym c.in_ok-above.ensures)) in
    on_ok_weaker c.has_reason.result
    (λ h. no_key_there s c.args.path.now c.in_ok-there.there c.in-Err.refusal (subst (λ (p : List (List ℕ)). IsPlaceOf s p c.in_ok-there.there) (sym whole) c.in_ok-there.ensures) (c.in-Err.ensures.0 h)) c.has_reason.ensures.reason
