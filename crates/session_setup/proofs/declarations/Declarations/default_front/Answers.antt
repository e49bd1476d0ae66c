use Rattle.std.proofs.Common.{◌≡◌, ◌∙◌, [], sym, ap, subst}
use Rattle.session_setup.specs.Setup.{Declared, AreSound}
use Rattle.session_setup.proofs.Sounds.{default_front_sound, no_items}
use Rattle.session_setup.proofs.declarations.Declarations.default_front.Goals as goal

pub add_front-requires : goal.add_front-requires
add_front-requires c = let sound : AreSound c.args.self.now = subst AreSound c.self.view_is c.self.invariant in
    let empty : c.args.self.now.fronts ≡ [] = sym (ap (λ (d : Declared). d.fronts) c.self.view_is) ∙ (sym c.as_slice.ensures ∙ no_items c.as_slice.result.now c.if-is_empty.ensures) in
    rw c.default_name.ensures (default_front_sound c.args.self.now sound empty)
