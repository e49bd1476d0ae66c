-- The replies of the database's calls at the path after its links.
use Rattle.std.specs.Prelude.{ℕ, Bool, true, false, List, Result}
use Rattle.odb_value.specs.declared.items.Item.{Item}
use Rattle.odb_value.specs.Values.{HeldValue}
use Rattle.odb_tree.specs.declared.children.Child.{Child}
use Rattle.odb_tree.specs.declared.refusals.OdbRefusal.{OdbRefusal}
use Rattle.odb_tree.specs.declared.rows.NewKey.{NewKey}
use Rattle.odb_tree.specs.Rows.{Rows}
use Rattle.odb_tree.specs.Links.{resolved, through}
use Rattle.odb_tree.specs.Calls.{create_reply, set_reply, get_reply, find_reply, list_reply}

abbrev pub create_led : Rows → List (List ℕ) → NewKey → Result ℕ OdbRefusal
create_led s p kind = through (resolved s p false) (λ q. create_reply s q kind)

abbrev pub set_led : Rows → List (List ℕ) → (index : ℕ) → Item → Result ℕ OdbRefusal
set_led s p index item = through (resolved s p true) (λ q. set_reply s q index item)

abbrev pub get_led : Rows → List (List ℕ) → Result HeldValue OdbRefusal
get_led s p = through (resolved s p true) (λ q. get_reply s q)

abbrev pub find_led : Rows → List (List ℕ) → Result ℕ OdbRefusal
find_led s p = through (resolved s p true) (λ q. find_reply s q)

abbrev pub list_led : Rows → List (List ℕ) → Result (List Child) OdbRefusal
list_led s p = through (resolved s p true) (λ q. list_reply s q)
