-- What holds while the passes of a new lock are dealt.
use Rattle.std.proofs.Common.{◌≡◌, ℕ, ◌+◌, List, [], ◌∷◌, ◌++◌, length, map, length-append, sym, ap, ◌∙◌, arith, add-one, Option, Box, Global}
use Rattle.std.specs.Prelude.{All}
use Rattle.std.proofs.lemmas.List.{map-append}
use Rattle.std.proofs.lemmas.List.Elements.{All-push}
use Rattle.atomic_table.specs.declared.shared.Seat.{Seat}
use Rattle.turn_lock.specs.declared.lock.Turns.{Turns}
use Rattle.turn_lock.specs.declared.lock.Pass.{Pass}
use Rattle.turn_lock.specs.declared.rule.View.{View}
use Rattle.turn_lock.specs.Views.{dealt_view}
use Rattle.turn_lock.specs.Passes.{first_value, passes_of, number_of, IsOf}
use Rattle.turn_lock.specs.Roster.{numbers_below, IsFresh}

module _ {M D E : Type 0} {g : _} where
  -- the passes below this number are dealt; those but 0 stand in the list
  pub record Deals (lock : Turns M D E) (zero_seat : Seat (Option (Box M Global)) (View D E)) (items : List (Pass M D E g)) (number : ℕ) : Type 0 where
    pub seat : zero_seat.table_id ≡ lock.table.shared.table_id
    pub view : zero_seat.me ≡ (dealt_view (g.state (first_value lock)) (passes_of lock) number, [])
    pub own : All (IsOf lock) items
    pub fresh : All IsFresh items
    pub count : length items + 1 ≡ number
    pub numbers : 0 ∷ map number_of items ≡ numbers_below number

  pub Deals-push : (lock : Turns M D E) (zero_seat next_seat : Seat (Option (Box M Global)) (View D E)) (items : List (Pass M D E g)) (pass : Pass M D E g) (n : ℕ) → Deals lock zero_seat items n
      → next_seat.table_id ≡ zero_seat.table_id → next_seat.me ≡ (dealt_view (g.state (first_value lock)) (passes_of lock) (n + 1), []) → IsOf lock pass → number_of pass ≡ n → IsFresh pass → Deals lock next_seat (items ++ pass ∷ []) (n + 1)
  Deals-push lock zero_seat next_seat items pass n d table view own number fresh = record {
    seat = table ∙ d.seat;
    view = view;
    own = All-push (IsOf lock) items pass d.own own;
    fresh = All-push IsFresh items pass d.fresh fresh;
    count = let c = d.count in let l = length-append items (pass ∷ []) in omega arith;
    numbers = ap (λ z. 0 ∷ z) (map-append number_of items (pass ∷ [])) ∙ (ap (λ z. z ++ pass.number ∷ []) d.numbers ∙ (ap (λ z. numbers_below n ++ z ∷ []) number ∙ ap numbers_below (sym (add-one n))));
  }
