-- What the lock and the database tell of a call, in the words of watched databases.
use Rattle.std.specs.Prelude.{◌≡◌, ℕ, List, [], ◌∷◌, Option, Result, Ok, Err, IfOk, IfErr, OnErr}
use Rattle.std.specs.Str.Lines.{lines}
use Rattle.std.proofs.Common.{refl, sym, ap, ◌∙◌}
use Rattle.daq_types.specs.declared.memory.NoMemory.{NoMemory}
use Rattle.odb_tree.specs.declared.notes.Watch.{Watch as a_watch}
use Rattle.odb_tree.specs.declared.entry.DatabaseEntry.{DatabaseEntry}
use Rattle.odb_tree.specs.Rows.{Rows}
use Rattle.odb_tree.specs.Calls.{IsRowsReply, rows_after}
use Rattle.odb_tree.specs.Noting.{Change, Watched, changes_of, all_noted, watched_call}
use Rattle.odb_tree.proofs.Noted.{none_noted}
use Rattle.odb_text.specs.declared.acts.LoadRefusal.{LoadRefusal}
use Rattle.odb_text.specs.declared.acts.Loaded.{Loaded}
use Rattle.odb_text.specs.Dumps.{dump_text}
use Rattle.odb_text.specs.TextFaults.{IsTextFault}
use Rattle.odb_text.specs.Loads.{IsLoaded, watched_as}
use Rattle.odb_watch.specs.declared.entry.WatchEntry.{WatchEntry}
use Rattle.odb_watch.specs.declared.entry.WatchEntry.TheVariants.{Call, Save, Load}
use Rattle.odb_watch.specs.Steps.{StepsWatched, StepsDatabase, LeadsDatabase, IsLegalDatabase, unwatched}
use Rattle.turn_lock.specs.History.{Leads}

-- a history of the lock is one of the database
pub leads_database : (s last : Watched) (h : List (ℕ × WatchEntry)) → Leads StepsDatabase s h last → LeadsDatabase s h last
leads_database s last [] leads = leads
leads_database s last (x ∷ xs) leads = (leads.0, leads.1, leads_database leads.0 last xs leads.2)

pub leads_legal : (s last : Watched) (h : List (ℕ × WatchEntry)) → Leads StepsDatabase s h last → IsLegalDatabase s h
leads_legal s last h leads = (last, leads_database s last h leads)

-- a state is known by its rows and its watches
same_watched : (a b : Watched) → a.rows ≡ b.rows → a.slots ≡ b.slots → a ≡ b
same_watched a b rows slots =
    ap (λ (r : Rows). watched_as r a.slots) rows ∙ ap (λ (l : List (Option a_watch)). watched_as b.rows l) slots

pub opens_unwatched : (s : Watched) (rows : Rows) → s.rows ≡ rows → s.slots ≡ [] → s ≡ unwatched rows
opens_unwatched s rows same none = same_watched s (unwatched rows) same none

-- a call that may write
pub call_step : (before after : Watched) (entry : DatabaseEntry) → IsRowsReply before.rows entry → after.rows ≡ rows_after before.rows entry
    → after.slots ≡ all_noted (changes_of before.rows entry) before.slots → StepsWatched before (Call entry) after
call_step before after entry reply rows notes = (reply, same_watched after (watched_call before entry) rows notes)

-- a look-up
pub look_step : (before : Watched) (entry : DatabaseEntry) → IsRowsReply before.rows entry → rows_after before.rows entry ≡ before.rows → changes_of before.rows entry ≡ []
    → StepsWatched before (Call entry) before
look_step before entry reply rows none = (
  reply,
  same_watched before (watched_call before entry) (sym rows)
      (sym (none_noted before.slots) ∙ ap (λ (cs : List Change). all_noted cs before.slots) (sym none)),
)

-- a removal
pub removal_step : (before after : Watched) (entry : DatabaseEntry) → IsRowsReply before.rows entry → after.rows ≡ rows_after before.rows entry → after.slots ≡ before.slots
    → changes_of before.rows entry ≡ [] → StepsWatched before (Call entry) after
removal_step before after entry reply rows slots none =
    call_step before after entry reply rows (slots ∙ sym (none_noted before.slots) ∙ ap (λ (cs : List Change). all_noted cs before.slots) (sym none))

pub save_step : (before : Watched) (reply : Result (List ℕ) NoMemory) → IfOk reply (λ text. text ≡ dump_text before.rows) → StepsWatched before (Save reply) before
save_step before (Ok text) h = (h, refl)
save_step before (Err e) h = (tt, refl)

pub load_step : (before after : Watched) (text : List ℕ) (reply : Result Loaded LoadRefusal)
    → IfOk reply (λ loaded. IsLoaded (watched_as before.rows before.slots) (lines text) loaded (watched_as after.rows after.slots)) → IfErr reply (IsTextFault before.rows (lines text))
    → OnErr reply (after.rows ≡ before.rows) → OnErr reply (after.slots ≡ before.slots) → StepsWatched before (Load text reply) after
load_step before after text (Ok loaded) h f rows slots = h
load_step before after text (Err why) h f rows slots = (f, same_watched after before rows slots)
