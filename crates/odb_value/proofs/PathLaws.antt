-- Laws of paths.
use Rattle.std.specs.Prelude.{◌≡◌, ℕ, ◌<◌, Bool, true, false, ◌&&◌, List, [], ◌∷◌, ◌++◌, length}
use Rattle.std.proofs.Common.{arith, refl, ap, ◌∙◌, length-append}
use Rattle.std.proofs.lemmas.List.Elements.{All-push}
use Rattle.daq_types.specs.Names.{IsName}
use Rattle.odb_value.specs.Paths.{depth_limit, same_name, is_front, IsPath}

and_false : (b : Bool) → b && false ≡ false
and_false true = refl
and_false false = refl

-- more names than a path has are not in front of it
pub is_front-longer : (p q : List (List ℕ)) → length q < length p → is_front p q ≡ false
is_front-longer [] q h = absurd (omega arith)
is_front-longer (a ∷ p) [] h = refl
is_front-longer (a ∷ p) (b ∷ q) h = ap (λ (r : Bool). same_name a b && r) (is_front-longer p q (omega arith)) ∙ and_false (same_name a b)

-- a path with one name more is one, where there is room
pub is_path_push : (p : List (List ℕ)) (name : List ℕ) → IsPath p → length p < depth_limit → IsName name → IsPath (p ++ name ∷ [])
is_path_push p name h room is = record {
  short = omega (arith, length-append p (name ∷ []), room);
  names = All-push IsName p name h.names is;
}
