-- Lists of passes, as a lock ends.
use Rattle.std.proofs.Common.{◌≡◌, ℕ, zero, suc, ◌<◌, Bool, true, false, ◌||◌, List, [], ◌∷◌, ◌++◌, length, map, get_or, take, drop, sym, refl, ap, ◌∙◌, arith, eq-eqb, ne_eqb, None}
use Rattle.std.specs.Prelude.{All, Contains, ◌==◌}
use Rattle.std.specs.List.{list_any}
use Rattle.std.proofs.lemmas.List.Elements.{All-cons, All-head, All-tail, All-weaker}
use Rattle.std.proofs.lemmas.List.{append-nil, append_assoc}
use mathlib.Core.List.{IsPrefix}
use mathlib.Core.Logic.{dite}
use native.Mathlib.Decide.{ℕ_discrete}
use Rattle.atomic_table.proofs.Lists.{at_longer}
use Rattle.turn_lock.specs.declared.lock.Turns.{Turns}
use Rattle.turn_lock.specs.declared.lock.Pass.{Pass}
use Rattle.turn_lock.specs.Views.{pair_of}
use Rattle.turn_lock.specs.Passes.{number_of, seen_by, own_entries, found_by, held_by, IsOf}
use Rattle.turn_lock.specs.Closing.{Absorbs}
use Rattle.turn_lock.proofs.LockLaws.{All_first, prefix_through, pair_stands}

module _ {X : Type 0} (P : X → Type 0) where
  -- what holds of each holds of one, and of the others
  pub All_without : (front : List X) (x : X) (back : List X) → All P (front ++ x ∷ back) → P x × All P (front ++ back)
  All_without [] x back a = (All-head P x back a, All-tail P x back a)
  All_without (y ∷ front) x back a = let rest = All_without front x back (All-tail P y (front ++ x ∷ back) a) in
      (rest.0, All-cons P y (front ++ back) (All-head P y (front ++ x ∷ back) a) rest.1)

  pub All_with : (front : List X) (x : X) (back : List X) → P x → All P (front ++ back) → All P (front ++ x ∷ back)
  All_with [] x back p a = All-cons P x back p a
  All_with (y ∷ front) x back p a = All-cons P y (front ++ x ∷ back) (All-head P y (front ++ back) a) (All_with front x back p (All-tail P y (front ++ back) a))

module _ {X : Type 0} (f : X → ℕ) (n : ℕ) where
  abbrev is_n : X → Bool
  is_n x = f x == n

  pub contains_any : (xs : List X) → list_any is_n xs ≡ true → Contains (map f xs) n
  contains_any [] h = absurd (let e : false ≡ true = h in grind arith)
  contains_any (x ∷ xs) h = dite (ℕ_discrete (f x) n) (λ e. (0, omega arith, e))
      (λ other. let rest = contains_any xs (rw (ne_eqb (f x) n other) at h) in (suc rest.0, (let l = rest.1 in omega arith), rest.2))

  or_true : (b : Bool) → (b || true) ≡ true
  or_true true = refl
  or_true false = refl

  any_at : (xs : List X) (k : ℕ) → k < length (map f xs) → get_or (map f xs) k n ≡ n → list_any is_n xs ≡ true
  any_at [] k l e = absurd (omega arith)
  any_at (x ∷ xs) zero l e = rw (eq-eqb (f x) n e) refl
  any_at (x ∷ xs) (suc k) l e = rw (any_at xs k (omega arith) e) (or_true (is_n x))

  pub any_contains : (xs : List X) → Contains (map f xs) n → list_any is_n xs ≡ true
  any_contains xs c = any_at xs c.0 c.1 c.2

module _ {X : Type 0} where
  -- a list in two parts round one of its elements
  pub parts_round : (xs : List X) (i : ℕ) (x : X) → i < length xs → x ≡ get_or xs i x → xs ≡ take i xs ++ x ∷ drop (suc i) xs
  parts_round [] i x l e = absurd (omega arith)
  parts_round (y ∷ xs) zero x l e = λ j. sym e j ∷ xs
  parts_round (y ∷ xs) (suc i) x l e = λ j. y ∷ parts_round xs i x (omega arith) e j

module _ {M D E : Type 0} {g : _} where
  -- What holds while passes are joined into number 0: those that are left are idle, and the others are absorbed.
  pub record Absorbing (lock : Turns M D E) (start zero_pass : Pass M D E g) (all left : List (Pass M D E g)) : Type 0 where
    pub own : IsOf lock zero_pass
    pub number : number_of zero_pass ≡ 0
    pub idle : held_by zero_pass ≡ None
    pub seen : IsPrefix (seen_by start) (seen_by zero_pass)
    pub mine : own_entries zero_pass ≡ own_entries start
    pub found : IsPrefix (found_by start) (found_by zero_pass)
    pub left_own : All (IsOf lock) left
    pub left_idle : All (λ pass. held_by pass ≡ None) left
    pub done : List (Pass M D E g)
    pub items : all ≡ left ++ done
    pub absorbed : All (Absorbs zero_pass) done

  Absorbs-later : (before after : Pass M D E g) (more : List (ℕ × List E)) (found : List (ℕ × List (ℕ × E))) → IsPrefix (seen_by before) (seen_by after) → after.seat.me.0.pairs ≡ before.seat.me.0.pairs ++ more → found_by after ≡ found_by before ++ found
      → (pass : Pass M D E g) → Absorbs before pass → Absorbs after pass
  Absorbs-later before after more found seen pairs founds pass a = record {
    begins = prefix_through (seen_by pass) (seen_by before) (seen_by after) a.begins seen;
    pair = (a.pair.0, rw pairs (at_longer before.seat.me.0.pairs more a.pair.0 (number_of pass, own_entries pass) a.pair.1));
    found = (a.found.0, a.found.1 ++ found, founds ∙ (ap (λ z. z ++ found) a.found.2 ∙ (append_assoc a.found.0 (found_by pass ++ a.found.1) found ∙ ap (λ z. a.found.0 ++ z) (append_assoc (found_by pass) a.found.1 found))));
  }

  pub Absorbing-join : (lock : Turns M D E) (start before after pass : Pass M D E g) (all left : List (Pass M D E g)) → Absorbing lock start before all (left ++ pass ∷ [])
      → IsOf lock after → number_of after ≡ number_of before → held_by after ≡ held_by before → IsPrefix (seen_by before) (seen_by after) → IsPrefix (seen_by pass) (seen_by after) → own_entries after ≡ own_entries before
      → after.seat.me.0.pairs ≡ before.seat.me.0.pairs ++ pair_of pass.seat.me.0.number pass.seat.me.0.seen → found_by after ≡ found_by before ++ found_by pass → Absorbing lock start after all left
  Absorbing-join lock start before after pass all left a own number held seen met mine pairs founds =
      let more : List (ℕ × List E) = pair_of pass.seat.me.0.number pass.seat.me.0.seen in
      let mine_pass : Absorbs after pass = record { begins = met; pair = (length before.seat.me.0.pairs, rw pairs (pair_stands before.seat.me.0.pairs pass.seat.me.0.number pass.seat.me.0.seen pass.number pass.is)); found = (found_by before, [], founds ∙ ap (λ z. found_by before ++ z) (sym (append-nil (found_by pass)))) } in record {
        own = own;
        number = number ∙ a.number;
        idle = held ∙ a.idle;
        seen = prefix_through (seen_by start) (seen_by before) (seen_by after) a.seen seen;
        mine = mine ∙ a.mine;
        found = prefix_through (found_by start) (found_by before) (found_by after) a.found (found_by pass, sym founds);
        left_own = All_first (IsOf lock) left (pass ∷ []) a.left_own;
        left_idle = All_first (λ p. held_by p ≡ None) left (pass ∷ []) a.left_idle;
        done = pass ∷ a.done;
        items = a.items ∙ append_assoc left (pass ∷ []) a.done;
        absorbed = All-cons (Absorbs after) pass a.done mine_pass (All-weaker (Absorbs before) (Absorbs after) (Absorbs-later before after more (found_by pass) seen pairs founds) a.done a.absorbed);
      }
