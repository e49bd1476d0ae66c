-- The run number of a closed session's database: no call of the session removes anything of `/Runinfo`, so that it is always there,
-- and each call that gets it is given it.
use Rattle.std.proofs.Common.{◌≡◌, ◌<◌, ◌≤◌, ℕ, zero, suc, List, [], ◌∷◌, length, map, true, false, refl, sym, ap, ◌∙◌, inl, inr, subst, arith, add-one}
use Rattle.std.specs.Prelude.{Bool, cond, ◌==◌, Result, Ok, Err, ◌⊎◌, nat_lt}
use Rattle.std.specs.List.{AllByRecursion, filter}
use Rattle.std.proofs.lemmas.Bool.{ltb-true, ltb-false}
use Rattle.std.proofs.lemmas.Bool.Decides.{eqb_tells}
use Rattle.std.proofs.Math.Logic.{⊎_elim}
use Rattle.buffer_core.specs.declared.entry.BufferEntry.{BufferEntry}
use Rattle.buffer_core.proofs.SlotLaws.{split}
use Rattle.daq_types.specs.Callers.{entries_by, main_caller}
use Rattle.odb_value.specs.Values.{HeldValue}
use Rattle.odb_tree.specs.Links.{resolved, meets_link, through}
use Rattle.odb_tree.specs.Calls.{GivesTaking, get_reply}
use Rattle.odb_tree.proofs.Led.{told_due}
use Rattle.odb_tree.specs.Noting.{Watched}
use Rattle.odb_tree.specs.Rows.{Rows}
use Rattle.odb_tree.specs.declared.entry.DatabaseEntry.{DatabaseEntry}
use Rattle.odb_tree.specs.declared.refusals.OdbRefusal.{OdbRefusal}
use Rattle.odb_watch.specs.Steps.{LeadsDatabase, StepsDatabase}
use Rattle.odb_watch.specs.declared.entry.WatchEntry.{WatchEntry}
use Rattle.odb_watch.specs.declared.entry.WatchEntry.TheVariants as call
use Rattle.odb_watch.specs.DatabasePorts.{IsSettled, calls_by, row_calls}
use Rattle.odb_runinfo.specs.RunKeys.{key_path}
use Rattle.daq_session.specs.SessionRows.{session_rows}
use Rattle.odb_runinfo.specs.declared.keys.RunKey.TheVariants.{RunNumber}
use Rattle.odb_runinfo.specs.RunNumberKept.{AllSpareRuninfo, HasRunNumber}
use Rattle.odb_runinfo.specs.RunSets.{AreSets, Assignment, number_asked}
use Rattle.odb_commands.specs.WatchSpares.{AllSpareWatched, SparesWatched}
use Rattle.member_model.specs.Turns.{MemberTurn}
use Rattle.history_laws.specs.CallerLaws.{SendIsAmong}
use Rattle.composition.specs.SentSets.{AreSetsAlone, AreTurnSets}
use Rattle.composition.specs.Sessions.{SessionFront}
use Rattle.session_laws.specs.ClosedSessions.{ClosedSession, session_front}
use Rattle.session_laws.specs.EndLaws.{MembersListed, SessionHolds, StartsDiffer}
use Rattle.session_runs.specs.RunsFit.{MainOwn}
use Rattle.session_commands.specs.Keeping.{AllSpare}
use Rattle.daq_session.specs.RunNumbers.{GivesNumber}
use Rattle.daq_session.proofs.ToldRuns.{there}

-- The one history.

head_spares : (hit : Bool) (e : ℕ × WatchEntry) (es : List (ℕ × WatchEntry)) → hit ≡ true → AllSpare (map (λ (x : ℕ × WatchEntry). x.1) (cond hit (e ∷ es) es)) → SparesWatched e.1
head_spares true e es is spare = spare.0
head_spares false e es is spare = absurd (cc is)

tail_spares : (hit : Bool) (e : ℕ × WatchEntry) (es : List (ℕ × WatchEntry)) → AllSpare (map (λ (x : ℕ × WatchEntry). x.1) (cond hit (e ∷ es) es)) → AllSpare (map (λ (x : ℕ × WatchEntry). x.1) es)
tail_spares true e es spare = spare.1
tail_spares false e es spare = spare

itself : (n : ℕ) → (n == n) ≡ true
itself n = elim (eqb_tells n n) as (λ w. (n == n) ≡ true) [ inl hit ↦ hit.0 | inr never ↦ absurd (never.1 refl) ]

-- where the calls of each caller spare, all do
pub history_spares : (h : List (ℕ × WatchEntry)) → ((by : ℕ) → AllSpare (entries_by by h)) → AllSpareWatched h
history_spares [] each = tt
history_spares (e ∷ es) each = (
  head_spares (e.0 == e.0) e (filter (λ (x : ℕ × WatchEntry). x.0 == e.0) es) (itself e.0) (each e.0),
  history_spares es (λ by. tail_spares (e.0 == by) e (filter (λ (x : ℕ × WatchEntry). x.0 == by) es) (each by)),
)

-- The main thread's gets of the run number.

abbrev Stays : Type 0
Stays = (first : Watched) (h : List (ℕ × WatchEntry)) (last : Watched) → LeadsDatabase first h last → AllSpareWatched h → HasRunNumber first.rows.rows → HasRunNumber last.rows.rows

abbrev Given : Type 0
Given = (s : Rows) (has : HasRunNumber s.rows) → through (resolved s (key_path RunNumber) true) (λ q. get_reply s q) ≡ Ok has.held

given_by : (early : Bool) (got reply : Result HeldValue OdbRefusal) (held : HeldValue) → IsSettled got → reply ≡ Ok held → GivesTaking early got reply → got ≡ Ok held
given_by early (Ok x) reply held settled is gives = sym gives ∙ is
given_by early (Err refusal) reply held settled is gives = absurd (cc (sym is ∙ told_due early refusal reply gives settled))

gives_number : Given → (before : Watched) (caller : ℕ) (entry : WatchEntry) (after : Watched) → StepsDatabase before caller entry after → HasRunNumber before.rows.rows → GivesNumber entry
gives_number given before caller entry after step has = λ got is settled.
    let this : StepsDatabase before caller (call.Call (number_asked got)) after = subst (λ (x : WatchEntry). StepsDatabase before caller x after) is step in
    let reply : Result HeldValue OdbRefusal = through (resolved before.rows (key_path RunNumber) true) (λ q. get_reply before.rows q) in
    (has.held, given_by (meets_link before.rows (key_path RunNumber) true) got reply has.held settled (given before.rows has) this.step.0, has.number)

put_first : (hit : Bool) (e : ℕ × WatchEntry) (es : List (ℕ × WatchEntry)) → GivesNumber e.1 → AllByRecursion GivesNumber (map (λ (x : ℕ × WatchEntry). x.1) es)
    → AllByRecursion GivesNumber (map (λ (x : ℕ × WatchEntry). x.1) (cond hit (e ∷ es) es))
put_first true e es first later = (first, later)
put_first false e es first later = later

pub calls_give : Stays → Given → (by : ℕ) (first : Watched) (h : List (ℕ × WatchEntry)) (last : Watched) → LeadsDatabase first h last → AllSpareWatched h → HasRunNumber first.rows.rows → AllByRecursion GivesNumber (entries_by by h)
calls_give stays given by first [] last leads spares has = tt
calls_give stays given by first (e ∷ es) last leads spares has =
    put_first (e.0 == by) e (filter (λ (x : ℕ × WatchEntry). x.0 == by) es)
    (gives_number given first e.0 e.1 leads.0 leads.1 has)
    (calls_give stays given by leads.0 es last leads.2 spares.1 (stays first (e ∷ []) leads.0 (leads.0, leads.1, refl) (spares.0, tt) has))

-- The front-ends' calls.

abbrev SetsSpare : Type 0
SetsSpare = (caller : ℕ) (sets : List Assignment) (calls : List DatabaseEntry) → AreSets sets calls → AllSpareRuninfo (calls_by caller calls)

rows_spare : (caller : ℕ) (calls : List DatabaseEntry) → AllSpareRuninfo (calls_by caller calls) → AllSpare (row_calls calls)
rows_spare caller [] spare = tt
rows_spare caller (c ∷ calls) spare = (spare.0, rows_spare caller calls spare.1)

sets_alone : SetsSpare → (name : List ℕ) (numbers : List ℕ) (calls : List WatchEntry) → AreSetsAlone name numbers calls → AllSpare calls
sets_alone sets name numbers calls s = subst AllSpare (sym s.alone) (rows_spare 0 s.sets (sets 0 _ s.sets s.are_sets))

pub turn_sets_spare : SetsSpare → (name : List ℕ) (own : List BufferEntry) (turns : List MemberTurn) (moments : List ℕ) (calls : List WatchEntry) → AreTurnSets name own turns moments calls → AllSpare calls
turn_sets_spare sets name own [] moments calls are = subst AllSpare (sym are) tt
turn_sets_spare sets name own (t ∷ turns) [] calls are = absurd are
turn_sets_spare sets name own (t ∷ turns) (moment ∷ moments) calls are = ⊎_elim
    (λ all. sets_alone sets name _ calls all)
    (λ before. sets_alone sets name _ calls before.1)
    are

-- What is known of the run number in legal histories, of the calls of front-ends, and of start numbers.
pub record RunLaws : Type 0 where
  pub stays : Stays
  pub given : Given
  pub opens : HasRunNumber session_rows.rows
  pub sets : SetsSpare
  pub listed : MembersListed
  pub among : SendIsAmong
  pub differ : StartsDiffer

less_or_past : (n m : ℕ) → (n < m) ⊎ (m ≤ n)
less_or_past n m = split (nat_lt n m) (λ b. (n < m) ⊎ (m ≤ n)) (λ less. inl (ltb-true n m less)) (λ more. inr (ltb-false n m more))

-- No call of a closed session's history of the database removes anything of `/Runinfo`, where none of the main thread does.
pub session_spares : SetsSpare → MembersListed → (c : ClosedSession) (holds : SessionHolds c) (own : MainOwn) → entries_by main_caller c.database ≡ own.database → AllSpare own.database → AllSpareWatched c.database
session_spares sets listed c holds own main spare = history_spares c.database each
  where
    each : (by : ℕ) → AllSpare (entries_by by c.database)
    each zero = subst AllSpare (sym main) spare
    each (suc client) = ⊎_elim
        (λ (less : client < length c.fronts).
        let found = there c.fronts client less in
        let f : SessionFront = session_front client found.0 (holds.moments client) in
        let set = holds.composed.fronts_set f (client, (listed c holds.moments).fronts client found.0 found.1) in
        subst (λ (n : ℕ). AllSpare (entries_by n c.database)) (add-one client) (turn_sets_spare sets f.name _ _ f.moments _ set))
        (λ (past : length c.fronts ≤ client). subst AllSpare (sym (holds.callers (suc client) (omega (arith, past)))) tt)
        (less_or_past client (length c.fronts))
