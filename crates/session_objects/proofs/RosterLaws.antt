-- Passes that are taken out of a lock's, and put back.
use Rattle.std.proofs.Common.{◌≡◌, ◌⊎◌, ℕ, zero, suc, ◌+◌, ◌<◌, List, [], ◌∷◌, ◌++◌, length, map, sym, ap, ◌∙◌, refl, subst, inl, inr, ⊎_elim, arith, length-append, get_or, None}
use Rattle.std.specs.Prelude.{Contains}
use Rattle.std.proofs.lemmas.List.Elements.{All-contains, All-weaker, Contains-append_left, Contains-append_right, Contains-append_cases, Contains-push}
use mathlib.Core.Logic.{dite}
use native.Mathlib.Decide.{ℕ_discrete}
use Rattle.turn_lock.specs.declared.lock.Turns.{Turns}
use Rattle.turn_lock.specs.declared.lock.Pass.{Pass}
use Rattle.turn_lock.specs.declared.roster.Passes.{Passes}
use Rattle.turn_lock.specs.Passes.{number_of, seen_by, held_by, passes_of, IsOf}
use Rattle.turn_lock.specs.Roster.{items_of, numbers_of, numbers_below, room_of, ArePassesOf, AreIdle, AreFresh, IsFresh}
use Rattle.turn_lock.specs.Closing.{TakesOut}
use Rattle.session_objects.specs.Rosters.{HasPass, KeepsPasses, KeepsFresh, PutsBack, nothing_seen}

module _ {X : Type 0} where
  -- the first of a list, or one of the others
  pub in_list : (y : X) (ys : List X) (x : X) → Contains (y ∷ ys) x → (y ≡ x) ⊎ Contains ys x
  in_list y ys x has = at has.0 has.1 has.2
    where
      at : (k : ℕ) → k < length (y ∷ ys) → get_or (y ∷ ys) k x ≡ x → (y ≡ x) ⊎ Contains ys x
      at zero l e = inl e
      at (suc k) l e = inr (k, omega arith, e)

  pub in_rest : (y : X) (ys : List X) (x : X) → Contains ys x → Contains (y ∷ ys) x
  in_rest y ys x has = let l : has.0 < length ys = has.1 in (suc has.0, omega arith, has.2)

  pub at_first : (y : X) (ys : List X) (x : X) → y ≡ x → Contains (y ∷ ys) x
  at_first y ys x e = (zero, omega arith, e)

  pub none_in : (x : X) → Contains (let nil : List X = [] in nil) x → ⊥
  none_in x has = let l : has.0 < 0 = has.1 in omega arith

  -- an element of a list is the one that is taken out, or one of those that are left
  pub left_or_out : (xs ys : List X) (x y : X) → TakesOut xs x ys → Contains xs y → (x ≡ y) ⊎ Contains ys y
  left_or_out xs ys x y out has =
      let P : List X → Type 0 = λ zs. Contains zs y in
      let split : Contains (out.0 ++ x ∷ out.1) y = subst P out.2 has in
      ⊎_elim (λ h. inr (subst P (sym out.3) (Contains-append_left out.0 out.1 y h)))
      (λ h. ⊎_elim (λ e. inl e) (λ b. inr (subst P (sym out.3) (Contains-append_right out.0 out.1 y b))) (in_list x out.1 y h))
      (Contains-append_cases out.0 (x ∷ out.1) y split)

  pub one_less : (xs ys : List X) (x : X) → TakesOut xs x ys → length xs ≡ suc (length ys)
  one_less xs ys x out =
      let a : length xs ≡ length out.0 + length (x ∷ out.1) = ap length out.2 ∙ length-append out.0 (x ∷ out.1) in
      let b : length ys ≡ length out.0 + length out.1 = ap length out.3 ∙ length-append out.0 out.1 in omega arith

module _ {X : Type 0} (f : X → ℕ) where
  -- the number of an element stands among the numbers
  pub in_numbers : (xs : List X) (x : X) → Contains xs x → Contains (map f xs) (f x)
  in_numbers [] x has = absurd (none_in x has)
  in_numbers (y ∷ ys) x has = ⊎_elim (λ e. at_first (f y) (map f ys) (f x) (ap f e))
      (λ h. in_rest (f y) (map f ys) (f x) (in_numbers ys x h)) (in_list y ys x has)

  -- each number among the numbers is one of an element
  pub with_number : (xs : List X) (n : ℕ) → Contains (map f xs) n → (x : X) × Contains xs x × (f x ≡ n)
  with_number [] n has = absurd (none_in n has)
  with_number (y ∷ ys) n has = ⊎_elim (λ e. (y, at_first y ys y refl, e))
      (λ h. let found = with_number ys n h in (found.0, in_rest y ys found.0 found.1, found.2)) (in_list (f y) (map f ys) n has)

  length_map : (xs : List X) → length (map f xs) ≡ length xs
  length_map [] = refl
  length_map (x ∷ xs) = ap suc (length_map xs)

pub below_all : (n k : ℕ) → k < n → Contains (numbers_below n) k
below_all zero k l = absurd (omega arith)
below_all (suc n) k l = dite (ℕ_discrete k n)
    (λ e. let P : ℕ → Type 0 = λ m. Contains (numbers_below n ++ n ∷ []) m in subst P (sym e) (Contains-push (numbers_below n) n))
    (λ other. Contains-append_left (numbers_below n) (n ∷ []) k (below_all n k (omega arith)))

length_below : (n : ℕ) → length (numbers_below n) ≡ n
length_below zero = refl
length_below (suc n) = let a : length (numbers_below n ++ n ∷ []) ≡ length (numbers_below n) + 1 = length-append (numbers_below n) (n ∷ []) in
    let e : length (numbers_below n) ≡ n = length_below n in omega arith

module _ {M D E : Type 0} {g : _} where
  -- the passes with which a lock is made
  pub new_keeps : (lock : Turns M D E) (passes : Passes M D E g) → ArePassesOf lock passes → AreFresh passes →
      numbers_of passes ≡ numbers_below (passes_of lock) → KeepsFresh [] lock passes
  new_keeps lock passes own fresh numbers = record {
    keeps = record {
      own = own;
      idle = (let Q : Pass M D E g → Type 0 = λ p. held_by p ≡ None in All-weaker IsFresh Q (λ p f. f.idle) (items_of passes) fresh);
      count = (let a : length (numbers_of passes) ≡ length (items_of passes) = length_map number_of (items_of passes) in
          let b : length (numbers_of passes) ≡ passes_of lock = ap length numbers ∙ length_below (passes_of lock) in omega arith);
      rest = λ n below out. is_there n below;
    };
    fresh = fresh;
  }
    where
      is_there : (n : ℕ) → n < passes_of lock → HasPass passes n (nothing_seen n)
      is_there n below =
          let P : List ℕ → Type 0 = λ ns. Contains ns n in
          let found = with_number number_of (items_of passes) n (subst P (sym numbers) (below_all (passes_of lock) n below)) in record {
            pass = found.0;
            among = found.1;
            is = found.2;
            seen = (All-contains IsFresh (items_of passes) found.0 fresh found.1).seen;
          }

  -- A pass is taken out.
  pub takes_keep : (lock : Turns M D E) (before after : Passes M D E g) (pass : Pass M D E g) (number : ℕ) (out : List ℕ) →
      number_of pass ≡ number → TakesOut (items_of before) pass (items_of after) → ArePassesOf lock after → AreIdle after →
      AreFresh after → KeepsFresh out lock before → KeepsFresh (number ∷ out) lock after
  takes_keep lock before after pass number out is taken own idle fresh k = record {
    keeps = record {
      own = own;
      idle = idle;
      count = (let a : length (items_of before) ≡ suc (length (items_of after)) = one_less (items_of before) (items_of after) pass taken in
          let b : length (items_of before) + length out ≡ passes_of lock = k.keeps.count in omega arith);
      rest = λ n below absent. still n below absent (k.keeps.rest n below (λ has. absent (in_rest number out n has)));
    };
    fresh = fresh;
  }
    where
      still : (n : ℕ) → n < passes_of lock → ¬ Contains (number ∷ out) n → HasPass before n (nothing_seen n) → HasPass after n (nothing_seen n)
      still n below absent had = record {
        pass = had.pass;
        among = ⊎_elim (λ e. absurd (absent (at_first number out n (sym is ∙ ap number_of e ∙ had.is)))) (λ h. h)
            (left_or_out (items_of before) (items_of after) pass had.pass taken had.among);
        is = had.is;
        seen = had.seen;
      }

  -- there is room for a pass that is out
  pub room_for : (told : ℕ → List (ℕ × E) → Type 0) (lock : Turns M D E) (passes : Passes M D E g) (number : ℕ) (out : List ℕ) →
      KeepsPasses told (number ∷ out) lock passes → length (items_of passes) < room_of passes
  room_for told lock passes number out k =
      let a : room_of passes ≡ passes_of lock = k.own.room in
      let b : length (items_of passes) + suc (length out) ≡ passes_of lock = k.count in omega arith

  -- A pass is put back.
  pub puts_keep : (told : ℕ → List (ℕ × E) → Type 0) (lock : Turns M D E) (before after : Passes M D E g) (pass : Pass M D E g) (number : ℕ) (out : List ℕ) →
      PutsBack before pass after → number_of pass ≡ number → IsOf lock pass → held_by pass ≡ None → told number (seen_by pass) →
      KeepsPasses told (number ∷ out) lock before → KeepsPasses told out lock after
  puts_keep told lock before after pass number out put is own idle seen k = record {
    own = put.own lock k.own own;
    idle = put.idle k.idle idle;
    count = (let a : length (items_of after) ≡ length (items_of before) + 1 = ap length put.items ∙ length-append (items_of before) (pass ∷ []) in
        let b : length (items_of before) + suc (length out) ≡ passes_of lock = k.count in omega arith);
    rest = λ n below absent. dite (ℕ_discrete n number) (λ e. here n e)
        (λ other. still n (k.rest n below (λ has. ⊎_elim (λ e. other (sym e)) absent (in_list number out n has))));
  }
    where
      here : (n : ℕ) → n ≡ number → HasPass after n (told n)
      here n e = record {
        pass = pass;
        among = (let Q : List (Pass M D E g) → Type 0 = λ ps. Contains ps pass in subst Q (sym put.items) (Contains-push (items_of before) pass));
        is = is ∙ sym e;
        seen = (let R : ℕ → Type 0 = λ m. told m (seen_by pass) in subst R (sym e) seen);
      }

      still : (n : ℕ) → HasPass before n (told n) → HasPass after n (told n)
      still n had = record {
        pass = had.pass;
        among = (let Q : List (Pass M D E g) → Type 0 = λ ps. Contains ps had.pass in subst Q (sym put.items) (Contains-append_left (items_of before) (pass ∷ []) had.pass had.among));
        is = had.is;
        seen = had.seen;
      }

  -- what is told of each pass may be said in another way
  pub tells_so : (told said : ℕ → List (ℕ × E) → Type 0) (out : List ℕ) (lock : Turns M D E) (passes : Passes M D E g) →
      ((number : ℕ) → ¬ Contains out number → (seen : List (ℕ × E)) → told number seen → said number seen) → KeepsPasses told out lock passes →
      KeepsPasses said out lock passes
  tells_so told said out lock passes so k = record {
    own = k.own;
    idle = k.idle;
    count = k.count;
    rest = λ n below absent. let had = k.rest n below absent in record {
      pass = had.pass;
      among = had.among;
      is = had.is;
      seen = so n absent (seen_by had.pass) had.seen;
    };
  }

  -- so it is of passes by which nothing was seen
  pub unseen_tells : (told : ℕ → List (ℕ × E) → Type 0) (out : List ℕ) (lock : Turns M D E) (passes : Passes M D E g) →
      ((number : ℕ) → ¬ Contains out number → told number []) → KeepsPasses nothing_seen out lock passes →
      KeepsPasses told out lock passes
  unseen_tells told out lock passes untold k = tells_so nothing_seen told out lock passes
      (λ n absent seen none. let R : List (ℕ × E) → Type 0 = told n in subst R (sym none) (untold n absent)) k

  -- a pass that is not out is among the numbers
  pub is_kept : (told : ℕ → List (ℕ × E) → Type 0) (out : List ℕ) (lock : Turns M D E) (passes : Passes M D E g) (n : ℕ) →
      KeepsPasses told out lock passes → n < passes_of lock → ¬ Contains out n → Contains (numbers_of passes) n
  is_kept told out lock passes n k below absent = let had = k.rest n below absent in
      let P : ℕ → Type 0 = λ m. Contains (numbers_of passes) m in
      subst P had.is (in_numbers number_of (items_of passes) had.pass had.among)
