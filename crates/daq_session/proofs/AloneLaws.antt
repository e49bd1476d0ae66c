-- A database that only the main thread called.
use Rattle.std.proofs.Common.{◌≡◌, ◌≢◌, ◌<◌, ◌≤◌, ℕ, zero, suc, List, [], ◌∷◌, ◌++◌, map, true, false, refl, ap, sym, ◌∙◌, inl, inr, arith, None}
use Rattle.std.specs.Prelude.{Bool, cond, ◌==◌, ◌⊎◌, nat_lt}
use Rattle.std.specs.List.{AllByRecursion, filter}
use Rattle.std.proofs.lemmas.Bool.{ltb-true, ltb-false}
use Rattle.std.proofs.lemmas.Bool.Decides.{eqb_tells}
use Rattle.std.proofs.Math.Logic.{⊎_elim}
use Rattle.buffer_core.proofs.SlotLaws.{split}
use Rattle.daq_types.specs.Callers.{entries_by, main_caller}
use Rattle.odb_watch.specs.declared.entry.WatchEntry.{WatchEntry}
use Rattle.session_objects.specs.Calls.{HoldsParts}
use Rattle.daq_session.specs.Played.{seen_by_main}

itself : (n : ℕ) → (n == n) ≡ true
itself n = elim (eqb_tells n n) as (λ w. (n == n) ≡ true) [ inl hit ↦ hit.0 | inr never ↦ absurd (never.1 refl) ]

head_none : (hit : Bool) (e : ℕ × WatchEntry) (es : List (ℕ × WatchEntry)) → hit ≡ true → map (λ (x : ℕ × WatchEntry). x.1) (cond hit (e ∷ es) es) ≡ [] → ⊥
head_none true e es is none = cc none
head_none false e es is none = cc is

tail_none : (hit : Bool) (e : ℕ × WatchEntry) (es : List (ℕ × WatchEntry)) → map (λ (x : ℕ × WatchEntry). x.1) (cond hit (e ∷ es) es) ≡ [] → map (λ (x : ℕ × WatchEntry). x.1) es ≡ []
tail_none true e es none = absurd (cc none)
tail_none false e es none = none

is_zero : (n : ℕ) → (n ≢ 0 → ⊥) → n ≡ 0
is_zero zero other = refl
is_zero (suc n) other = absurd (other (λ (is : suc n ≡ 0). omega (arith, is)))

all_main : (calls rest : List (ℕ × WatchEntry)) → ((by : ℕ) → by ≢ 0 → entries_by by (calls ++ rest) ≡ []) → AllByRecursion (λ call. call.0 ≡ main_caller) calls
all_main [] rest none = tt
all_main (e ∷ calls) rest none = (
  is_zero e.0 (λ other. head_none (e.0 == e.0) e (filter (λ (x : ℕ × WatchEntry). x.0 == e.0) (calls ++ rest)) (itself e.0) (none e.0 other)),
  all_main calls rest (λ by other. tail_none (e.0 == by) e (filter (λ (x : ℕ × WatchEntry). x.0 == by) (calls ++ rest)) (none by other)),
)

less_or_past : (n m : ℕ) → (n < m) ⊎ (m ≤ n)
less_or_past n m = split (nat_lt n m) (λ b. (n < m) ⊎ (m ≤ n)) (λ less. inl (ltb-true n m less)) (λ more. inr (ltb-false n m more))

others_none : (callers : ℕ) (seen history : List (ℕ × WatchEntry)) → HoldsParts (seen_by_main seen) callers history → (by : ℕ) → by ≢ 0 → entries_by by history ≡ []
others_none callers seen history holds zero other = absurd (other refl)
others_none callers seen history holds (suc n) other = ⊎_elim
    (λ (less : suc n < callers). (let part = holds.parts (suc n) less in part.1.own ∙ ap (entries_by (suc n)) part.2))
    (λ (past : callers ≤ suc n). holds.others (suc n) past)
    (less_or_past (suc n) callers)

-- All that the main thread has seen it called itself.
pub main_alone : (callers : ℕ) (seen history : List (ℕ × WatchEntry)) → 0 < callers → HoldsParts (seen_by_main seen) callers history → AllByRecursion (λ call. call.0 ≡ main_caller) seen
main_alone callers seen history some holds =
    let first = holds.parts 0 some in
    let begins = first.1.begins in
    let whole : seen ++ begins.0 ≡ history = ap (λ (s : List (ℕ × WatchEntry)). s ++ begins.0) (sym first.2) ∙ begins.1 in
    all_main seen begins.0 (λ by other. ap (entries_by by) whole ∙ others_none callers seen history holds by other)
