-- What the passes of a lock tell of its closed history.
use Rattle.std.proofs.Common.{ℕ, List, [], subst}
use Rattle.std.proofs.lemmas.List.Elements.{All-contains}
use Rattle.turn_lock.specs.declared.lock.Turns.{Turns}
use Rattle.turn_lock.specs.declared.lock.Pass.{Pass}
use Rattle.turn_lock.specs.declared.roster.Passes.{Passes}
use Rattle.turn_lock.specs.History.{IsPartOf}
use Rattle.turn_lock.specs.Passes.{number_of, seen_by, passes_of}
use Rattle.turn_lock.specs.Roster.{items_of}
use Rattle.session_objects.specs.Rosters.{HasPass, KeepsPasses}
use Rattle.session_objects.specs.Calls.{HoldsParts}
use Rattle.session_objects.specs.Records.{AreAllPasses, HoldsAllOf}
use Rattle.session_objects.proofs.RosterLaws.{none_in, is_kept}

module _ {M D E : Type 0} {g : _} where
  -- where none is out, all are there
  pub all_kept : (told : ℕ → List (ℕ × E) → Type 0) (lock : Turns M D E) (passes : Passes M D E g) → KeepsPasses told [] lock passes →
      AreAllPasses lock passes
  all_kept told lock passes k = record {
    own = k.own;
    idle = k.idle;
    complete = λ n below. is_kept told [] lock passes n k below (none_in n);
  }

  -- and each caller's calls stand in the history
  pub parts_held : (told : ℕ → List (ℕ × E) → Type 0) (lock : Turns M D E) (passes : Passes M D E g) (history : List (ℕ × E)) →
      KeepsPasses told [] lock passes → HoldsAllOf (items_of passes) (passes_of lock) history → HoldsParts told (passes_of lock) history
  parts_held told lock passes history k h = record {
    parts = λ n below. part n (k.rest n below (none_in n));
    others = h.others;
  }
    where
      part : (n : ℕ) → HasPass passes n (told n) → (seen : List (ℕ × E)) × IsPartOf history n seen × told n seen
      part n had =
          let P : Pass M D E g → Type 0 = λ p. IsPartOf history (number_of p) (seen_by p) in
          let Q : ℕ → Type 0 = λ m. IsPartOf history m (seen_by had.pass) in
          (seen_by had.pass, subst Q had.is (All-contains P (items_of passes) had.pass h.parts had.among), had.seen)
