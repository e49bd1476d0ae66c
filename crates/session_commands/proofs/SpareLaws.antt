-- Calls that remove nothing of `/Runinfo`, so that the run number is always there.
use Rattle.daq_io.specs.Told.{AheadTold}
use Rattle.std.proofs.Common.{◌≡◌, ℕ, List, [], ◌∷◌, ◌++◌, refl, ap, sym, subst}
use Rattle.std.specs.Prelude.{Result, Ok, Err}
use Rattle.std.proofs.Math.Logic.{⊎_elim}
use Rattle.daq_io.specs.Seen.{Seen}
use Rattle.daq_types.specs.declared.memory.NoMemory.{NoMemory}
use Rattle.daq_types.specs.declared.runs.RunState.{RunState}
use Rattle.daq_types.specs.declared.runs.RunState.TheVariants.{Stopped}
use Rattle.daq_types.specs.declared.runs.StartOutcome.{StartOutcome}
use Rattle.odb_script.specs.declared.commands.DatabaseCommand.{DatabaseCommand}
use Rattle.odb_script.specs.declared.commands.DatabaseCommand.TheVariants.{Rows, Watches}
use Rattle.odb_script.specs.declared.commands.RowCommand.{RowCommand}
use Rattle.odb_script.specs.declared.commands.WatchCommand.{WatchCommand}
use Rattle.odb_tree.specs.declared.entry.DatabaseEntry.{DatabaseEntry}
use Rattle.odb_tree.specs.declared.entry.DatabaseEntry.TheVariants as row
use Rattle.odb_watch.specs.declared.entry.WatchEntry.{WatchEntry}
use Rattle.odb_watch.specs.declared.entry.WatchEntry.TheVariants as call
use Rattle.odb_watch.specs.DatabasePorts.{AddsCall, AddsCalls, AddsEntries, DatabaseAccess, IsCutShort, MayAdd, calls_by, own_watched, row_calls, unanswered}
use Rattle.odb_runinfo.specs.RunNumberKept.{AllSpareRuninfo, SparesRuninfo}
use Rattle.odb_runinfo.specs.RunSets.{AreSets, Assignment, start_sets, state_set, stop_sets}
use Rattle.odb_commands.specs.declared.replies.CommandReply.{CommandReply}
use Rattle.odb_commands.specs.CommandCalls.{Performs}
use Rattle.odb_commands.specs.CommandCallLaws.{Spares}
use Rattle.odb_commands.specs.declared.watch_replies.WatchAnswer.{WatchAnswer}
use Rattle.odb_commands.specs.WatchCalls.{BreaksOffCalls, without_memory}
use Rattle.odb_commands.specs.WatchPerforms.{PerformsWatch}
use Rattle.odb_commands.specs.WatchSpares.{SparesWatched}
use Rattle.console.specs.declared.replies.Reply.{Reply}
use Rattle.session_runs.specs.RunAnswers.{CommandPoint, CutsBegin, CutsStart}
use Rattle.session_runs.specs.RunEntries.{BeginCalls, StopCalls, outcome_sets}
use Rattle.console.specs.DatabaseStages.{DatabaseStage}
use Rattle.console.specs.DatabaseLines.{BreaksDatabase, CutsDump, DoesDatabase}
use Rattle.session_commands.specs.declared.passed_over.PassedOver.{PassedOver}
use Rattle.session_commands.specs.RunLines.{CutsKeys, KeysMade, MakesKeys}
use Rattle.session_commands.specs.Keeping.{AllSpare}
use Rattle.session_commands.proofs.CallsOn.{CallsOn, all_both, both_on, none_on}

-- What is known of the calls of commands, and of a port's calls.
pub record SpareLaws : Type 0 where
  pub rows : (command : RowCommand) (calls : List DatabaseEntry) (reply : CommandReply) → Performs command calls reply → Spares calls
  pub dumps : (command : WatchCommand) (old new : Seen) (calls : List WatchEntry) (answer : WatchAnswer) → PerformsWatch command old new calls answer → AllSpare calls
  pub sets : (caller : ℕ) (sets : List Assignment) (calls : List DatabaseEntry) → AreSets sets calls → AllSpareRuninfo (calls_by caller calls)
  pub entries : (a b : DatabaseAccess) → (entries : List WatchEntry) → AddsEntries a b entries → own_watched b ≡ own_watched a ++ entries
  pub calls : (a b : DatabaseAccess) → (calls : List DatabaseEntry) → AddsCalls a b calls → own_watched b ≡ own_watched a ++ row_calls calls

-- Calls on the rows.

pub rows_spare : (caller : ℕ) (calls : List DatabaseEntry) → AllSpareRuninfo (calls_by caller calls) → AllSpare (row_calls calls)
rows_spare caller [] spare = tt
rows_spare caller (c ∷ calls) spare = (spare.0, rows_spare caller calls spare.1)

pub sets_spare : SpareLaws → (sets : List Assignment) (calls : List DatabaseEntry) → AreSets sets calls → AllSpare (row_calls calls)
sets_spare laws sets calls are = rows_spare 0 calls (laws.sets 0 sets calls are)

unanswered_spares : (entry : DatabaseEntry) → SparesRuninfo entry → SparesRuninfo (unanswered entry)
unanswered_spares (row.Create p kind reply) spare = tt
unanswered_spares (row.Set p index item reply) spare = tt
unanswered_spares (row.SetAll p v reply) spare = tt
unanswered_spares (row.Get p reply) spare = tt
unanswered_spares (row.Find p reply) spare = tt
unanswered_spares (row.ListDir p reply) spare = tt
unanswered_spares (row.Delete p reply) spare = spare
unanswered_spares (row.Resize p len reply) spare = tt
unanswered_spares (row.PathOf number reply) spare = tt

short_spare : (calls made : List DatabaseEntry) → AllSpareRuninfo (calls_by 0 calls) → IsCutShort calls made → AllSpare (row_calls made)
short_spare calls [] spare short = tt
short_spare [] (e ∷ made) spare short = absurd short
short_spare (c ∷ calls) (e ∷ made) spare short = ⊎_elim
    (λ whole. (subst SparesRuninfo (sym whole.0) spare.0, short_spare calls made spare.1 whole.1))
    (λ last. (subst SparesRuninfo (sym last.0) (unanswered_spares c spare.0), subst (λ (m : List DatabaseEntry). AllSpare (row_calls m)) (sym last.1) tt))
    short

without_spares : (entry : WatchEntry) → SparesWatched entry → SparesWatched (without_memory entry)
without_spares (call.Call entry) spare = unanswered_spares entry spare
without_spares (call.Watch number reply) spare = tt
without_spares (call.Notes w reply) spare = tt
without_spares (call.Unwatch w reply) spare = tt
without_spares (call.Save reply) spare = tt
without_spares (call.Load text reply) spare = tt

broken_spare : (calls made : List WatchEntry) → AllSpare calls → BreaksOffCalls calls made → AllSpare made
broken_spare calls [] spare short = tt
broken_spare [] (e ∷ made) spare short = absurd short
broken_spare (c ∷ calls) (e ∷ made) spare short = ⊎_elim
    (λ whole. (subst SparesWatched (sym whole.0) spare.0, broken_spare calls made spare.1 whole.1))
    (λ last. (subst SparesWatched (sym last.0) (without_spares c spare.0), subst AllSpare (sym last.1) tt))
    short

-- The caller's own calls are more, and those spare.
abbrev pub SparesOn : (a b : DatabaseAccess) → Type 0
SparesOn a b = CallsOn SparesWatched a b

pub same_on : (a b : DatabaseAccess) → b ≡ a → SparesOn a b
same_on a b same = none_on SparesWatched a b same

pub later_on : (a b c : DatabaseAccess) → SparesOn a b → SparesOn b c → SparesOn a c
later_on a b c ab bc = both_on SparesWatched a b c ab bc

pub entries_on : SpareLaws → (a b : DatabaseAccess) (entries : List WatchEntry) → AddsEntries a b entries → AllSpare entries → SparesOn a b
entries_on laws a b entries adds spare = (entries, laws.entries a b entries adds, spare)

rows_on : SpareLaws → (a b : DatabaseAccess) (calls : List DatabaseEntry) → AddsCalls a b calls → AllSpare (row_calls calls) → SparesOn a b
rows_on laws a b calls adds spare = (row_calls calls, laws.calls a b calls adds, spare)

pub one_on : SpareLaws → (a b : DatabaseAccess) (entry : DatabaseEntry) → AddsCall a b entry → SparesRuninfo entry → SparesOn a b
one_on laws a b entry adds spare = entries_on laws a b (call.Call entry ∷ []) (b, adds, refl) (spare, tt)

may_on : SpareLaws → (a b : DatabaseAccess) (entry : DatabaseEntry) → MayAdd a b entry → SparesRuninfo entry → SparesOn a b
may_on laws a b entry may spare = ⊎_elim
    (λ (same : b ≡ a). same_on a b same)
    (λ (adds : AddsCall a b entry). one_on laws a b entry adds spare)
    may

-- The commands of the online database.

pub database_on : SpareLaws → (number : ℕ) (command : DatabaseCommand) (old : DatabaseStage) (reply : Reply) (new : DatabaseStage) → DoesDatabase number command old reply new → SparesOn old.access new.access
database_on laws number (Rows command) old reply new does = rows_on laws old.access new.access does.answers.calls does.answers.made
    (rows_spare 0 does.answers.calls (laws.rows command does.answers.calls does.answer does.answers.does))
database_on laws number (Watches command) old reply new does = entries_on laws old.access new.access does.answers.calls does.answers.made
    (laws.dumps command old.files.seen new.files.seen does.answers.calls does.answer does.answers.does)

pub broken_on : SpareLaws → (command : DatabaseCommand) (old new : DatabaseStage) → BreaksDatabase command old new → SparesOn old.access new.access
broken_on laws (Rows command) old new broke = rows_on laws old.access new.access broke.cut.made broke.cut.adds
    (short_spare broke.cut.calls broke.cut.made (laws.rows command broke.cut.calls broke.cut.reply broke.cut.does) broke.cut.short)
broken_on laws (Watches command) old new broke = ⊎_elim
    (λ (same : new ≡ old). same_on old.access new.access (ap (λ (d : DatabaseStage). d.access) same))
    (λ (dump : CutsDump command old new). entries_on laws old.access new.access dump.cut.made dump.cut.adds
    (broken_spare dump.cut.calls dump.cut.made (laws.dumps command old.files.seen new.files.seen dump.cut.calls dump.cut.answer dump.cut.does) dump.cut.short))
    broke

-- The calls of the commands of runs.

saved_behind : SpareLaws → (sets : List Assignment) (calls : List DatabaseEntry) (saved : Result (List ℕ) NoMemory) (entries : List WatchEntry) → AreSets sets calls → entries ≡ row_calls calls ++ call.Save saved ∷ [] → AllSpare entries
saved_behind laws sets calls saved entries are is = subst AllSpare (sym is) (all_both SparesWatched (row_calls calls) (call.Save saved ∷ []) (sets_spare laws sets calls are) (tt, tt))

pub begin_spares : SpareLaws → (run time : ℕ) (outcome : StartOutcome) (dump : List ℕ) (entries : List WatchEntry) → BeginCalls run time outcome dump entries → AllSpare entries
begin_spares laws run time outcome dump entries b = subst AllSpare (sym b.are)
    (all_both SparesWatched b.first (row_calls b.sets) (saved_behind laws (start_sets run time) b.announces.sets (Ok dump) b.first b.announces.are_sets b.announces.are)
    (sets_spare laws (outcome_sets run outcome) b.sets b.are_sets))

pub stop_spares : SpareLaws → (state : RunState) (time : ℕ) (saved : Result (List ℕ) NoMemory) (entries : List WatchEntry) → StopCalls state time saved entries → AllSpare entries
stop_spares laws state time saved entries s = subst AllSpare (sym s.are)
    (all_both SparesWatched s.first (row_calls s.sets) (saved_behind laws (stop_sets state time) s.announces.sets saved s.first s.announces.are_sets s.announces.are)
    (sets_spare laws (state_set Stopped) s.sets s.are_sets))

begun_on : SpareLaws → (run : ℕ) (before after : AheadTold) (old new : CommandPoint PassedOver) → CutsBegin run before after old new → SparesOn old.database new.database
begun_on laws run before after old new cut = ⊎_elim
    (λ same. same_on old.database new.database same.1)
    (λ made. entries_on laws old.database new.database made.1 made.4 (saved_behind laws (start_sets run made.0) made.3.sets (Err (record {})) made.1 made.3.are_sets made.3.are))
    cut.calls

pub cut_on : SpareLaws → (before after : AheadTold) (old new : CommandPoint PassedOver) → CutsStart before after old new → SparesOn old.database new.database
cut_on laws before after old new c = ⊎_elim
    (λ cut. may_on laws old.database new.database _ cut.1.called tt)
    (λ cut. later_on old.database cut.1.database new.database
    (one_on laws old.database cut.1.database _ cut.2.number.called tt)
    (begun_on laws cut.0 before after cut.1 new cut.3))
    c.cut

-- The keys of the front-ends.

keys_spare : (fronts : List (List ℕ)) (keys : List DatabaseEntry) → MakesKeys fronts keys → AllSpare (row_calls keys)
keys_spare [] keys makes = subst (λ (calls : List DatabaseEntry). AllSpare (row_calls calls)) (sym makes) tt
keys_spare (name ∷ fronts) keys makes =
    subst (λ (calls : List DatabaseEntry). AllSpare (row_calls calls)) (sym makes.3) (tt, keys_spare fronts makes.1 makes.4)

pub keys_on : SpareLaws → (fronts : List (List ℕ)) (a b : DatabaseAccess) → KeysMade fronts a b → SparesOn a b
keys_on laws fronts a b made = rows_on laws a b made.0 made.2 (keys_spare fronts made.0 made.1)

pub cut_keys_on : SpareLaws → (fronts : List (List ℕ)) (a b : DatabaseAccess) → CutsKeys fronts a b → SparesOn a b
cut_keys_on laws fronts a b cut = later_on a cut.between b
    (rows_on laws a cut.between cut.keys cut.adds (keys_spare _ cut.keys cut.makes))
    (⊎_elim
    (λ (same : b ≡ cut.between). same_on cut.between b same)
    (λ next. one_on laws cut.between b _ next.2 tt)
    cut.next)
