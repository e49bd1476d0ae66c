-- What calls of a port tell together.
use Rattle.std.specs.Prelude.{◌≡◌, ℕ, List, [], ◌∷◌, ◌++◌, refl}
use Rattle.std.proofs.Common.{ap, sym, subst, ◌∙◌, append_assoc}
use Rattle.std.proofs.lemmas.List.{append-nil}
use Rattle.daq_types.specs.Callers.{entries_by}
use Rattle.daq_types.proofs.CallersLaws.{entries_by-append, entries_by-own}
use Rattle.odb_tree.specs.declared.entry.DatabaseEntry.{DatabaseEntry}
use Rattle.odb_watch.specs.declared.entry.WatchEntry.{WatchEntry}
use Rattle.odb_watch.specs.Steps.{IsLegalDatabase}
use Rattle.odb_watch.specs.DatabasePorts.{DatabaseAccess, AddsEntry, AddsEntries, AddsCalls, IsSamePort, own_calls, own_watched, rows_call, rows_calls, row_calls}

-- the database and the caller stay
pub adds_same : (a b : DatabaseAccess) (entries : List WatchEntry) → AddsEntries a b entries → IsSamePort a b
adds_same a b [] same = record { database = ap (λ (d : DatabaseAccess). d.database) same; caller = ap (λ (d : DatabaseAccess). d.caller) same }
adds_same a b (entry ∷ entries) adds = let rest = adds_same adds.0 b entries adds.2 in record {
  database = rest.database ∙ adds.1.same.database;
  caller = rest.caller ∙ adds.1.same.caller;
}

own_one : (a b : DatabaseAccess) (entry : WatchEntry) → AddsEntry a b entry → own_watched b ≡ own_watched a ++ entry ∷ []
own_one a b entry add =
    ap (λ (by : ℕ). entries_by by b.seen) add.same.caller
    ∙ ap (λ (h : List (ℕ × WatchEntry)). entries_by a.caller h) add.seen
    ∙ entries_by-own a.caller (a.seen ++ add.between) entry
    ∙ ap (λ (own : List WatchEntry). own ++ entry ∷ []) (entries_by-append a.caller a.seen add.between ∙ ap (λ (own : List WatchEntry). own_watched a ++ own) add.foreign ∙ append-nil (own_watched a))

-- the caller's own calls are these more
pub adds_own_calls : (a b : DatabaseAccess) (entries : List WatchEntry) → AddsEntries a b entries → own_watched b ≡ own_watched a ++ entries
adds_own_calls a b [] same = ap own_watched same ∙ sym (append-nil (own_watched a))
adds_own_calls a b (entry ∷ entries) adds =
    adds_own_calls adds.0 b entries adds.2
    ∙ ap (λ (own : List WatchEntry). own ++ entries) (own_one a adds.0 entry adds.1)
    ∙ append_assoc (own_watched a) (entry ∷ []) entries

-- what was seen begins what is seen now
pub adds_seen : (a b : DatabaseAccess) (entries : List WatchEntry) → AddsEntries a b entries → (more : List (ℕ × WatchEntry)) × (b.seen ≡ a.seen ++ more)
adds_seen a b [] same = ([], ap (λ (d : DatabaseAccess). d.seen) same ∙ sym (append-nil a.seen))
adds_seen a b (entry ∷ entries) adds =
    let rest = adds_seen adds.0 b entries adds.2 in
    let here : List (ℕ × WatchEntry) = adds.1.between ++ (a.caller, entry) ∷ [] in (
      here ++ rest.0,
      rest.1
          ∙ ap (λ (h : List (ℕ × WatchEntry)). h ++ rest.0) (adds.1.seen ∙ append_assoc a.seen adds.1.between ((a.caller, entry) ∷ []))
          ∙ append_assoc a.seen here rest.0,
    )

-- what is seen stays legal
pub adds_legal : (a b : DatabaseAccess) (entries : List WatchEntry) → AddsEntries a b entries → IsLegalDatabase a.database.opened a.seen → IsLegalDatabase b.database.opened b.seen
adds_legal a b [] same legal = subst (λ (d : DatabaseAccess). IsLegalDatabase d.database.opened d.seen) (sym same) legal
adds_legal a b (entry ∷ entries) adds legal = adds_legal adds.0 b entries adds.2 adds.1.legal

-- Calls on the rows.

pub adds_are : (a b : DatabaseAccess) (calls : List DatabaseEntry) → AddsCalls a b calls → AddsEntries a b (row_calls calls)
adds_are a b [] same = same
adds_are a b (entry ∷ calls) adds = (adds.0, adds.1, adds_are adds.0 b calls adds.2)

pub calls_same : (a b : DatabaseAccess) (calls : List DatabaseEntry) → AddsCalls a b calls → IsSamePort a b
calls_same a b calls adds = adds_same a b (row_calls calls) (adds_are a b calls adds)

pub calls_watched : (a b : DatabaseAccess) (calls : List DatabaseEntry) → AddsCalls a b calls → own_watched b ≡ own_watched a ++ row_calls calls
calls_watched a b calls adds = adds_own_calls a b (row_calls calls) (adds_are a b calls adds)

rows_append : (some more : List WatchEntry) → rows_calls (some ++ more) ≡ rows_calls some ++ rows_calls more
rows_append [] more = refl
rows_append (entry ∷ some) more =
    ap (λ (l : List DatabaseEntry). rows_call entry ++ l) (rows_append some more)
    ∙ sym (append_assoc (rows_call entry) (rows_calls some) (rows_calls more))

rows_back : (calls : List DatabaseEntry) → rows_calls (row_calls calls) ≡ calls
rows_back [] = refl
rows_back (entry ∷ calls) = ap (λ (l : List DatabaseEntry). entry ∷ l) (rows_back calls)

pub calls_own : (a b : DatabaseAccess) (calls : List DatabaseEntry) → AddsCalls a b calls → own_calls b ≡ own_calls a ++ calls
calls_own a b calls adds =
    ap rows_calls (calls_watched a b calls adds)
    ∙ rows_append (own_watched a) (row_calls calls)
    ∙ ap (λ (l : List DatabaseEntry). own_calls a ++ l) (rows_back calls)
