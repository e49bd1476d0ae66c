use Rattle.std.proofs.Common.{ℕ, zero, suc, List, [], ◌∷◌, ◌∙◌, refl, sym, ap, subst, arith, rules}
use Rattle.std.specs.Prelude.{Contains}
use Rattle.std.proofs.lemmas.List.Elements.{Contains-append_left}
use Rattle.turn_lock.specs.Roster.{numbers_below}
use Rattle.daq_session.proofs.opening.open_database.Goals as goal

-- the main thread's number is among the first so many
first_below : (n : ℕ) → Contains (numbers_below (suc n)) 0
first_below zero = (0, omega arith, refl)
first_below (suc n) = Contains-append_left (numbers_below (suc n)) (suc n ∷ []) 0 (first_below n)

pub take_main-main-requires : goal.take_main-main-requires
take_main-main-requires c = let P : List ℕ → Type 0 = λ ns. Contains ns 0 in
    subst P (sym c.in_ok-shared.ensures.numbers) (first_below 32)

pub returns : goal.returns
returns c =
    let made = c.in_ok-shared.ensures in
    let main = c.take_main-main.ensures in
    record {
      rows = search rules;
      callers = made.count;
      main_is = main.number;
      own = main.own _ made.own;
      fresh = main.fresh made.fresh;
      others = main.left _ made.own made.fresh (made.numbers ∙ ap numbers_below (sym made.count));
    }
