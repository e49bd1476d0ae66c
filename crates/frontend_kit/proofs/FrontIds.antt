-- The ids of front-ends' events.
use Rattle.std.specs.Prelude.{◌≡◌, ℕ, ◌≤◌, false}
use Rattle.std.proofs.Common.{arith}
use Rattle.std.proofs.lemmas.Grind.{common_steps}
use Rattle.event.specs.Events.{is_reserved}

-- an id of at most 32,767 is not that of a run record or of a fragment
pub front_id_is_free : (id : ℕ) → id ≤ 32767 → is_reserved id ≡ false
front_id_is_free id most = grind (arith, common_steps, most)
