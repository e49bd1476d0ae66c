-- Sets of numbers, one after the other; and calls that memory cut short.
use Rattle.std.specs.Prelude.{◌≡◌, OnErr, ℕ, List, [], ◌∷◌, ◌++◌, Result, Ok, Err, refl}
use Rattle.std.proofs.Common.{ap, subst, ◌∙◌, inl, inr}
use Rattle.daq_types.specs.declared.types.Tid.TheVariants.{UInt64}
use Rattle.odb_value.specs.declared.items.Item.{Item}
use Rattle.odb_value.specs.Values.{HeldValue}
use Rattle.odb_tree.specs.declared.entry.DatabaseEntry.{DatabaseEntry}
use Rattle.odb_tree.specs.declared.entry.DatabaseEntry.TheVariants.{Create, Get, Set}
use Rattle.odb_tree.specs.declared.refusals.OdbRefusal.{OdbRefusal}
use Rattle.odb_tree.specs.declared.refusals.OdbRefusal.TheVariants.{NoMemory as no_memory}
use Rattle.odb_tree.specs.declared.rows.NewKey.TheVariants.{Keys}
use Rattle.odb_watch.specs.DatabasePorts.{DatabaseAccess, AddsCall, AddsCalls, MayAdd}
use Rattle.odb_runinfo.specs.declared.keys.RunKey.TheVariants.{RunNumber}
use Rattle.odb_runinfo.specs.RunKeys.{key_path, sent_path}
use Rattle.odb_runinfo.specs.RunSets.{Assignment, AreSets, SetsNumbers, number_asked, sent_key_made}

calls_behind : (a b c : DatabaseAccess) (some more : List DatabaseEntry) → AddsCalls a b some → AddsCalls b c more → AddsCalls a c (some ++ more)
calls_behind a b c [] more same then = subst (λ (d : DatabaseAccess). AddsCalls d c more) same then
calls_behind a b c (entry ∷ some) more first then = (first.0, first.1, calls_behind first.0 b c some more first.2 then)

pub sets_behind : (some more : List Assignment) (calls later : List DatabaseEntry) → AreSets some calls → AreSets more later → AreSets (some ++ more) (calls ++ later)
sets_behind [] more [] later first then = then
sets_behind [] more (entry ∷ calls) later first then = absurd first
sets_behind (a ∷ some) more [] later first then = absurd first
sets_behind (a ∷ some) more (entry ∷ calls) later first then = (first.0, sets_behind some more calls later first.1 then)

-- one set
pub sets_one : (a b : DatabaseAccess) (path : List (List ℕ)) (item : Item) (reply : Result ℕ OdbRefusal) → AddsCall a b (Set path 0 item reply) → SetsNumbers a b (record { path = path; item = item } ∷ [])
sets_one a b path item reply called = record { calls = Set path 0 item reply ∷ []; made = (b, called, refl); are_sets = (record { reply = reply; is = refl }, tt) }

-- some sets, and then some more
pub sets_on : (a b c : DatabaseAccess) (some more : List Assignment) → SetsNumbers a b some → SetsNumbers b c more → SetsNumbers a c (some ++ more)
sets_on a b c some more first then = record {
  calls = first.calls ++ then.calls;
  made = calls_behind a b c first.calls then.calls first.made then.made;
  are_sets = sets_behind some more first.calls then.calls first.are_sets then.are_sets;
}

-- a set at the path that this one is
pub sets_at : (a b : DatabaseAccess) (path at : List (List ℕ)) (item : Item) → path ≡ at → SetsNumbers a b (record { path = path; item = item } ∷ []) → SetsNumbers a b (record { path = at; item = item } ∷ [])
sets_at a b path at item is sets = subst (λ (p : List (List ℕ)). SetsNumbers a b (record { path = p; item = item } ∷ [])) is sets

-- a set of the item that this one is, at the path that this one is
pub sets_as : (a b : DatabaseAccess) (path at : List (List ℕ)) (item held : Item) → path ≡ at → item ≡ held → SetsNumbers a b (record { path = path; item = item } ∷ []) → SetsNumbers a b (record { path = at; item = held } ∷ [])
sets_as a b path at item held is same sets = subst (λ (i : Item). SetsNumbers a b (record { path = at; item = i } ∷ [])) same (sets_at a b path at item is sets)

on_err : {T E : Type 0} (P : Type 0) (result : Result T E) → P → OnErr result P
on_err P (Ok x) holds = tt
on_err P (Err why) holds = holds

-- Memory was wanting before the one call, or for it.

pub not_called : {T E : Type 0} (a : DatabaseAccess) (entry : DatabaseEntry) (result : Result T E) → OnErr result (MayAdd a a entry)
not_called a entry result = on_err (MayAdd a a entry) result (inl refl)

pub number_wanting : (a b : DatabaseAccess) (path : List (List ℕ)) (got : Result HeldValue OdbRefusal) → path ≡ key_path RunNumber → got ≡ Err no_memory → AddsCall a b (Get path got) → MayAdd a b (number_asked (Err no_memory))
number_wanting a b path got is wanting called = inr (subst (AddsCall a b) (ap (λ (p : List (List ℕ)). Get p got) is ∙ ap (λ (r : Result HeldValue OdbRefusal). Get (key_path RunNumber) r) wanting) called)

pub key_wanting : (a b : DatabaseAccess) (front : List ℕ) (path : List (List ℕ)) (got : Result ℕ OdbRefusal) → path ≡ sent_path front → got ≡ Err no_memory → AddsCall a b (Create path (Keys UInt64 1) got)
    → MayAdd a b (sent_key_made front (Err no_memory))
key_wanting a b front path got is wanting called =
    inr (subst (AddsCall a b) (ap (λ (p : List (List ℕ)). Create p (Keys UInt64 1) got) is ∙ ap (λ (r : Result ℕ OdbRefusal). Create (sent_path front) (Keys UInt64 1) r) wanting) called)
