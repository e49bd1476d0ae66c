-- What a port to a database tells its caller.
use Rattle.std.specs.Prelude.{◌≡◌, ◌≢◌, ◌⊎◌, ℕ, List, [], ◌∷◌, ◌++◌, map, Result, Ok, Err}
use Rattle.daq_types.specs.Callers.{entries_by}
use Rattle.odb_tree.specs.declared.entry.DatabaseEntry.{DatabaseEntry}
use Rattle.odb_tree.specs.declared.entry.DatabaseEntry.TheVariants.{Create, Set, SetAll, Get, Find, ListDir, Resize, PathOf}
use Rattle.odb_tree.specs.declared.refusals.OdbRefusal.{OdbRefusal}
use Rattle.odb_tree.specs.declared.refusals.OdbRefusal.TheVariants.{NoMemory as no_memory}
use Rattle.odb_tree.specs.Noting.{Watched}
use Rattle.odb_watch.specs.declared.entry.WatchEntry.{WatchEntry}
use Rattle.odb_watch.specs.declared.entry.WatchEntry.TheVariants.{Call, Watch, Notes, Unwatch, Save, Load}
use Rattle.odb_watch.specs.Steps.{IsLegalDatabase}

-- Which database a port leads to: the rows and the watches with which it opened to its ports, how many ports it may have, and
-- numbers by which it is told from other databases; none where it has one port.
pub record DatabaseIdentity : Type 0 where
  pub opened : Watched
  pub ports : ℕ
  pub numbers : List ℕ

-- One caller's access to a database: which database it is; the caller's number; and the calls since the database opened, as
-- far as this caller has seen them, each with its caller and its reply, in order.
pub record DatabaseAccess : Type 0 where
  pub database : DatabaseIdentity
  pub caller : ℕ
  pub seen : List (ℕ × WatchEntry)

-- the calls on the rows among these calls, which are those of `Database`
abbrev pub rows_call : WatchEntry → List DatabaseEntry
rows_call (Call entry) = entry ∷ []
rows_call (Watch row reply) = []
rows_call (Notes watch reply) = []
rows_call (Unwatch watch reply) = []
rows_call (Save reply) = []
rows_call (Load text reply) = []

abbrev pub rows_calls : List WatchEntry → List DatabaseEntry
rows_calls [] = []
rows_calls (entry ∷ entries) = rows_call entry ++ rows_calls entries

-- all of the caller's own calls with their replies, in order
abbrev pub own_watched : DatabaseAccess → List WatchEntry
own_watched a = entries_by a.caller a.seen

-- and those on the rows
abbrev pub own_calls : DatabaseAccess → List DatabaseEntry
own_calls a = rows_calls (own_watched a)

-- The same caller's access to the same database.
pub record IsSamePort (a b : DatabaseAccess) : Type 0 where
  pub database : b.database ≡ a.database
  pub caller : b.caller ≡ a.caller

-- One call more of the caller. What it has seen now begins with what it had seen, goes on with calls of others alone, and
-- ends with this call; and all that is a legal history of the database.
pub record AddsEntry (a b : DatabaseAccess) (entry : WatchEntry) : Type 0 where
  pub same : IsSamePort a b
  pub between : List (ℕ × WatchEntry)
  pub seen : b.seen ≡ (a.seen ++ between) ++ (a.caller, entry) ∷ []
  pub foreign : entries_by a.caller between ≡ []
  pub legal : IsLegalDatabase b.database.opened b.seen

-- These calls more of the caller, one after the other; where there are none, nothing changed.
abbrev pub AddsEntries : (a b : DatabaseAccess) → List WatchEntry → Type 0
AddsEntries a b [] = b ≡ a
AddsEntries a b (entry ∷ entries) = (between : DatabaseAccess) × AddsEntry a between entry × AddsEntries between b entries

-- The same of calls on the rows, which are those of `Database`.

abbrev pub AddsCall : (a b : DatabaseAccess) → DatabaseEntry → Type 0
AddsCall a b entry = AddsEntry a b (Call entry)

abbrev pub AddsCalls : (a b : DatabaseAccess) → List DatabaseEntry → Type 0
AddsCalls a b [] = b ≡ a
AddsCalls a b (entry ∷ calls) = (between : DatabaseAccess) × AddsCall a between entry × AddsCalls between b calls

-- these calls as calls on a watched database
abbrev pub row_calls : List DatabaseEntry → List WatchEntry
row_calls calls = map (λ (entry : DatabaseEntry). Call entry) calls

abbrev pub as_watched : List (ℕ × DatabaseEntry) → List (ℕ × WatchEntry)
as_watched history = map (λ (e : ℕ × DatabaseEntry). (e.0, Call e.1)) history

-- these calls, each with this caller
abbrev pub calls_by : (caller : ℕ) → List DatabaseEntry → List (ℕ × DatabaseEntry)
calls_by caller calls = map (λ (entry : DatabaseEntry). (caller, entry)) calls

-- this call was made, or none was
abbrev pub MayAdd : (a b : DatabaseAccess) → DatabaseEntry → Type 0
MayAdd a b entry = (b ≡ a) ⊎ AddsCall a b entry

-- memory was not wanting for a call
abbrev pub IsSettled : {X : Type 0} → Result X OdbRefusal → Type 0
IsSettled (Ok x) = Unit {0}
IsSettled (Err refusal) = refusal ≢ no_memory

-- the call where memory was wanting for it; a removal takes none
abbrev pub unanswered : DatabaseEntry → DatabaseEntry
unanswered (Create p kind reply) = Create p kind (Err no_memory)
unanswered (Set p index item reply) = Set p index item (Err no_memory)
unanswered (SetAll p v reply) = SetAll p v (Err no_memory)
unanswered (Get p reply) = Get p (Err no_memory)
unanswered (Find p reply) = Find p (Err no_memory)
unanswered (ListDir p reply) = ListDir p (Err no_memory)
unanswered (Resize p len reply) = Resize p len (Err no_memory)
unanswered (PathOf row reply) = PathOf row (Err (record {}))
unanswered entry = entry

-- Of these calls the first were made, and the last of them may be the one for which memory was wanting.
abbrev pub IsCutShort : (calls made : List DatabaseEntry) → Type 0
IsCutShort calls [] = Unit {0}
IsCutShort [] (e ∷ made) = ⊥
IsCutShort (c ∷ calls) (e ∷ made) = ((e ≡ c) × IsCutShort calls made) ⊎ ((e ≡ unanswered c) × (made ≡ []))
