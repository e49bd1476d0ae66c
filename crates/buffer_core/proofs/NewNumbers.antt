-- Which numbers a port may give.
use Rattle.std.specs.Prelude.{◌≡◌, ℕ, zero, suc, ◌<◌, List, [], ◌∷◌, slice_get, Contains, Some, Ok, refl}
use Rattle.std.specs.List.{slice_index_or}
use Rattle.std.proofs.Common.{arith}
use Rattle.buffer_core.specs.declared.entry.BufferEntry.TheVariants.{Attach, Detach}
use Rattle.buffer_core.specs.Ports.{IsNewNumber}
use Rattle.buffer_core.specs.Samples.{access_after, given_once, given_and_detached, given_twice}

none_behind_one : (later : ℕ) → 0 < later → slice_get given_once later ≡ Some (Detach 0 (Ok tt)) → ⊥
none_behind_one zero behind is = absurd (omega (arith, behind))
none_behind_one (suc later) behind is = cc (is)

none_behind_two : (later : ℕ) → 1 < later → slice_get given_twice later ≡ Some (Detach 0 (Ok tt)) → ⊥
none_behind_two zero behind is = absurd (omega (arith, behind))
none_behind_two (suc zero) behind is = absurd (omega (arith, behind))
none_behind_two (suc (suc later)) behind is = cc (is)

pub not_again : IsNewNumber (access_after given_once []) 0 → ⊥
not_again new =
    let known : Contains [] 0 = new 0 (record { name = []; given = refl; stays = none_behind_one }) in
    omega (arith, known.1)

abbrev first_call : List ℕ
first_call = 0 ∷ []

only_first : (k : ℕ) → k < 1 → slice_index_or first_call k 1 ≡ 1 → ⊥
only_first zero within is = omega (arith, is)
only_first (suc k) within is = omega (arith, within)

pub not_third : IsNewNumber (access_after given_twice (0 ∷ [])) 0 → ⊥
not_third new =
    let known : Contains first_call 1 = new 1 (record { name = []; given = refl; stays = none_behind_two }) in
    only_first known.0 known.1 known.2

given_other : (name name' : List ℕ) (n m : ℕ) → Some (Attach name (Ok n)) ≡ Some (Attach name' (Ok m)) → n < m → ⊥
given_other name name' n m e less = let same : n ≡ m = cc in omega (arith, same)

pub another : IsNewNumber (access_after given_once []) 1
another zero given = absurd (given_other [] given.name 0 1 given.given (omega arith))
another (suc call) given = absurd (cc (given.given))

pub once_detached : IsNewNumber (access_after given_and_detached []) 0
once_detached zero given = absurd (given.stays 1 (omega arith) refl)
once_detached (suc zero) given = absurd (cc (given.given))
once_detached (suc (suc call)) given = absurd (cc (given.given))

pub once_taken_back : IsNewNumber (access_after given_once (0 ∷ [])) 0
once_taken_back zero given = (0, omega arith, refl)
once_taken_back (suc call) given = absurd (cc (given.given))
