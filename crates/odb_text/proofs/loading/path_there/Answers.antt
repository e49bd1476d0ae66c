use Rattle.std.proofs.Common.{true, ◌++◌, ◌∷◌, [], sym, ◌∙◌, subst}
use Rattle.odb_tree.specs.Links.{meets_link}
use Rattle.odb_text.specs.Standing.{IsPlaceOf}
use Rattle.odb_text.proofs.LedThere.{place_found}
use Rattle.odb_text.proofs.loading.path_there.Goals as goal

pub push-requires : goal.push-requires
push-requires g c =
    let s = g.D.Database.rows c.args.database.now in
    (place_found s c.args.above.now c.args.name (meets_link s c.args.above.now true) c.in-Ok.number c.in-Some.there c.in-Ok.ensures.database.tree c.requires.short c.requires.led c.in-Ok.ensures.reply
    (c.in_ok-there.ensures ∙ c.in-Some.is)).short

pub returns : goal.returns
returns g c =
    let s = g.D.Database.rows c.args.database.now in
    subst (IsPlaceOf s (c.args.above.now ++ c.args.name ∷ [])) (sym c.in_ok-push.ensures.ok)
    (place_found s c.args.above.now c.args.name (meets_link s c.args.above.now true) c.in-Ok.number c.in-Some.there c.in-Ok.ensures.database.tree c.requires.short c.requires.led c.in-Ok.ensures.reply
    (c.in_ok-there.ensures ∙ c.in-Some.is)).place
