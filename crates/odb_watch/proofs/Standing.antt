-- In a legal history of a watched database the rows are those of a database throughout.
use Rattle.std.proofs.Common.{◌≡◌, ℕ, ◌≤◌, List, [], ◌∷◌, ◌++◌, length, Ok, Err, refl, sym, subst}
use Rattle.std.specs.Str.Lines.{lines}
use Rattle.odb_tree.specs.declared.entry.DatabaseEntry.{DatabaseEntry}
use Rattle.odb_tree.specs.Rows.{Rows}
use Rattle.odb_tree.specs.Calls.{IsRowsReply}
use Rattle.odb_tree.specs.Noting.{Watched}
use Rattle.odb_tree.specs.Databases.{IsDatabase}
use Rattle.odb_tree.proofs.Sound.{database_after}
use Rattle.odb_text.specs.Dumps.{dump_text, dump_limit}
use Rattle.odb_text.proofs.Sizes.{dump_small}
use Rattle.odb_text.proofs.LoadKeeps.{load_keeps}
use Rattle.odb_watch.specs.declared.entry.WatchEntry.{WatchEntry}
use Rattle.odb_watch.specs.declared.entry.WatchEntry.TheVariants.{Call, Watch, Notes, Unwatch, Save, Load}
use Rattle.odb_watch.specs.Steps.{IsSoundEntry, StepsWatched, LeadsDatabase}

abbrev Stands : Watched → Type 0
Stands s = IsDatabase s.rows

step_stands : (before : Watched) (entry : WatchEntry) (after : Watched) → Stands before → IsSoundEntry entry → StepsWatched before entry after → Stands after
step_stands before (Call entry) after h sound step = subst Stands (sym step.1) (database_after before.rows entry h sound step.0)
step_stands before (Watch row reply) after h sound step = subst Stands (sym step.1) h
step_stands before (Notes w reply) after h sound step = subst Stands (sym step.1) h
step_stands before (Unwatch w reply) after h sound step = subst Stands (sym step.1) h
step_stands before (Save reply) after h sound step = subst Stands (sym step.1) h
step_stands before (Load text (Ok loaded)) after h sound step = load_keeps before.rows after.rows (lines text) step.steps h step.reads step.ran
step_stands before (Load text (Err why)) after h sound step = subst Stands (sym step.1) h

pub leads_stand : (first : Watched) (h : List (ℕ × WatchEntry)) (last : Watched) → IsDatabase first.rows → LeadsDatabase first h last → IsDatabase last.rows
leads_stand first [] last stands leads = subst Stands leads stands
leads_stand first (e ∷ es) last stands leads =
    leads_stand leads.0 es last (step_stands first e.1 leads.0 stands leads.1.sound leads.1.step) leads.2

-- a dump that was saved somewhere in a history
pub saved_text : (first : Watched) (h : List (ℕ × WatchEntry)) (caller : ℕ) (text : List ℕ) (more : List (ℕ × WatchEntry)) (last : Watched)
    → LeadsDatabase first (h ++ (caller, Save (Ok text)) ∷ more) last → (at : Watched) × LeadsDatabase first h at × (text ≡ dump_text at.rows)
saved_text first [] caller text more last leads = (first, refl, leads.1.step.0)
saved_text first (e ∷ es) caller text more last leads =
    let rest : (at : Watched) × LeadsDatabase leads.0 es at × (text ≡ dump_text at.rows) = saved_text leads.0 es caller text more last leads.2 in
    (rest.0, (leads.0, leads.1, rest.1), rest.2)

pub saved_small : (first : Watched) (h : List (ℕ × WatchEntry)) (caller : ℕ) (text : List ℕ) (more : List (ℕ × WatchEntry)) (last : Watched) → IsDatabase first.rows
    → LeadsDatabase first (h ++ (caller, Save (Ok text)) ∷ more) last → length text ≤ dump_limit
saved_small first h caller text more last stands leads =
    let point : (at : Watched) × LeadsDatabase first h at × (text ≡ dump_text at.rows) = saved_text first h caller text more last leads in
    subst (λ (t : List ℕ). length t ≤ dump_limit) (sym point.2) (dump_small point.0.rows (leads_stand first h point.0 stands point.1))

-- a call somewhere in a history, with the rows at its point
pub called_at : (P : Rows → Type 0) (first : Watched) (h : List (ℕ × WatchEntry)) (caller : ℕ) (entry : DatabaseEntry) (more : List (ℕ × WatchEntry)) (last : Watched)
    → ((s : Rows) → IsRowsReply s entry → P s) → LeadsDatabase first (h ++ (caller, Call entry) ∷ more) last → (at : Watched) × LeadsDatabase first h at × P at.rows
called_at P first [] caller entry more last tells leads = (first, refl, tells first.rows leads.1.step.0)
called_at P first (e ∷ es) caller entry more last tells leads =
    let rest : (at : Watched) × LeadsDatabase leads.0 es at × P at.rows = called_at P leads.0 es caller entry more last tells leads.2 in
    (rest.0, (leads.0, leads.1, rest.1), rest.2)
