-- The clients that a caller was given, as its calls go on.
use Rattle.std.specs.Prelude.{◌≡◌, ◌≢◌, ℕ, zero, suc, ◌<◌, List, [], ◌∷◌, ◌++◌, length, slice_get, Contains, Some, Ok, refl, ◌⊎◌}
use Rattle.std.proofs.Common.{sym, subst, arith, inl, inr}
use Rattle.buffer_core.specs.declared.entry.BufferEntry.{BufferEntry}
use Rattle.buffer_core.specs.declared.entry.BufferEntry.TheVariants.{Attach, Detach}
use Rattle.buffer_core.specs.Ports.{Access, GotEvent, PortCalled, IsGivenAt, IsNewNumber, knowing}

get_end : (xs : List BufferEntry) (x : BufferEntry) → slice_get (xs ++ x ∷ []) (length xs) ≡ Some x
get_end [] x = refl
get_end (y ∷ ys) x = get_end ys x

get_before : (xs : List BufferEntry) (x y : BufferEntry) (i : ℕ) → slice_get xs i ≡ Some y → slice_get (xs ++ x ∷ []) i ≡ Some y
get_before [] x y i is = absurd (cc (is))
get_before (z ∷ zs) x y zero is = is
get_before (z ∷ zs) x y (suc i) is = get_before zs x y i is

get_either : (xs : List BufferEntry) (x y : BufferEntry) (i : ℕ) → slice_get (xs ++ x ∷ []) i ≡ Some y → (slice_get xs i ≡ Some y) ⊎ (x ≡ y)
get_either [] x y zero is = inr (cc (is))
get_either [] x y (suc i) is = absurd (cc (is))
get_either (z ∷ zs) x y zero is = inl is
get_either (z ∷ zs) x y (suc i) is = get_either zs x y i is

none_behind : (xs : List BufferEntry) (x y : BufferEntry) (i : ℕ) → length xs < i → slice_get (xs ++ x ∷ []) i ≡ Some y → ⊥
none_behind [] x y zero behind is = omega (arith, behind)
none_behind [] x y (suc i) behind is = cc (is)
none_behind (z ∷ zs) x y zero behind is = omega (arith, behind)
none_behind (z ∷ zs) x y (suc i) behind is = none_behind zs x y i (omega (arith, behind)) is

pub client_given : (before after : Access) (name : List ℕ) (client : ℕ) (got : List GotEvent) → PortCalled before after (Attach name (Ok client)) got
    → IsGivenAt after.own (length before.own) client
client_given before after name client got called =
    subst (λ (own : List BufferEntry). IsGivenAt own (length before.own) client) (sym called.own)
    (record {
      name = name;
      given = get_end before.own (Attach name (Ok client));
      stays = λ later behind is. none_behind before.own (Attach name (Ok client)) (Detach client (Ok tt)) later behind is;
    })

pub client_stays : (before after : Access) (entry : BufferEntry) (got : List GotEvent) (call client : ℕ) → PortCalled before after entry got
    → (entry ≡ Detach client (Ok tt) → ⊥) → IsGivenAt before.own call client → IsGivenAt after.own call client
client_stays before after entry got call client called kept given =
    subst (λ (own : List BufferEntry). IsGivenAt own call client) (sym called.own)
    (record {
      name = given.name;
      given = get_before before.own entry (Attach given.name (Ok client)) call given.given;
      stays = λ later behind is. elim (get_either before.own entry (Detach client (Ok tt)) later is) [
        | inl earlier ↦ given.stays later behind earlier
        | inr same ↦ kept same
      ];
    })

pub numbers_differ : (before after : Access) (number call client : ℕ) → IsNewNumber (knowing before after) number → after.taken_back ≡ []
    → IsGivenAt before.own call client → client ≢ number
numbers_differ before after number call client new none given same =
    let known : Contains after.taken_back call = new call (subst (λ (n : ℕ). IsGivenAt before.own call n) same given) in
    let never : Contains [] call = subst (λ (calls : List ℕ). Contains calls call) none known in
    omega (arith, never.1)
