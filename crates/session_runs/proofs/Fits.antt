-- Records of runs go on fitting where calls come behind, and a run command's calls fit its record.
use Rattle.daq_io.specs.Told.{AheadTold}
use Rattle.std.specs.Prelude.{◌≡◌, ℕ, zero, suc, List, [], ◌∷◌, ◌++◌, map, Option, Some, None, Result, Ok, refl}
use Rattle.std.specs.List.{AllByRecursion}
use Rattle.std.specs.Option.{option_map, option_to_list}
use Rattle.std.proofs.Common.{ap, sym, subst, ◌∙◌, append_assoc, append-nil}
use Rattle.daq_types.specs.declared.memory.NoMemory.{NoMemory}
use Rattle.daq_types.specs.declared.runs.RunState.{RunState}
use Rattle.daq_types.specs.declared.runs.StartOutcome.{StartOutcome}
use Rattle.daq_types.specs.declared.runs.StartOutcome.TheVariants.{Completed, Refused}
use Rattle.daq_types.specs.declared.runs.Transition.{Transition}
use Rattle.daq_types.specs.declared.runs.Transition.TheVariants.{Start, Stop, Pause, Resume}
use Rattle.odb_watch.specs.declared.entry.WatchEntry.{WatchEntry}
use Rattle.odb_watch.specs.declared.entry.WatchEntry.TheVariants.{Call}
use Rattle.odb_watch.specs.DatabasePorts.{DatabaseAccess, AddsEntries, own_watched, row_calls}
use Rattle.odb_runinfo.specs.RunSets.{number_asked}
use Rattle.member_model.specs.RunEngines.{Sheet, ClientTally, EngineEntry}
use Rattle.transitions.specs.declared.entry.EngineEntry.TheVariants.{Begin}
use Rattle.history_laws.specs.BegunTurns.{AreUnmarked}
use Rattle.session_runs.specs.declared.records.RunRecord.{RunRecord}
use Rattle.session_runs.specs.MainKnowledge.{known_from}
use Rattle.session_runs.specs.MadeTransitions.{TransitionIn, going_checks, done_check, DrivesTransition}
use Rattle.session_runs.specs.declared.opening.MemberName.{MemberName}
use Rattle.session_runs.specs.Members.{registrations, reporter_count, sender_count}
use Rattle.session_runs.specs.declared.on.CurrentRun.{CurrentRun}
use Rattle.session_runs.specs.declared.replies.RunReply.{RunReply}
use Rattle.session_runs.specs.declared.replies.RunReply.TheVariants.{WrongState, LastStart, RunNumber, StartRefused, Started as run_started, Paused as run_paused, Resumed as run_resumed, Stopped as run_stopped}
use Rattle.session_runs.specs.KeptRuns.{RunsSeen, record_of, refused_start, behind_start, with_calls}
use Rattle.session_runs.specs.RunAnswers.{CommandPoint, GotNumber, LacksNumber, BeginsRun, MakesStop, MakesChange, AnswersStart, AnswersStop, AnswersPause, AnswersResume, run_by_start}
use Rattle.session_runs.specs.RunEntries.{StartCalls, StopCalls, start_sheet, later_sheet, dump_saved}
use Rattle.session_runs.specs.RunsFit.{RunClients, run_clients, MainOwn, RecordsFit, calls_joined, StandCalls, FitsStart, FitsStop, FitsWhole, FitsOutcome, FitsRun, FitsCurrent, RunsFit, run_of, start_begun, start_of, start_on, starts_begun}

-- Calls behind.

abbrev made_more : (own more : List EngineEntry) (t : Transition) (sheet : Sheet) (start : ℕ) (outcome : StartOutcome) (tallies : List ClientTally) → TransitionIn own t sheet start outcome tallies
    → TransitionIn (own ++ more) t sheet start outcome tallies
made_more own more t sheet start outcome tallies made =
    let done : List EngineEntry = done_check outcome tallies ∷ made.after in
    let begin : EngineEntry = Begin t sheet (Ok start) in
    record {
      before = made.before;
      between = made.between;
      after = made.after ++ more;
      whole = ap (λ (l : List EngineEntry). l ++ more) made.whole
          ∙ (append_assoc made.before (begin ∷ (made.between ++ done)) more
          ∙ ap (λ (l : List EngineEntry). made.before ++ begin ∷ l) (append_assoc made.between done more));
      on = made.on;
    }

abbrev stand_more : (entries own more : List WatchEntry) → StandCalls entries own → StandCalls entries (own ++ more)
stand_more entries own more stand = record {
  before = stand.before;
  after = stand.after ++ more;
  calls = ap (λ (l : List WatchEntry). l ++ more) stand.calls
      ∙ (append_assoc stand.before (entries ++ stand.after) more
      ∙ ap (λ (l : List WatchEntry). stand.before ++ l) (append_assoc entries stand.after more));
}

abbrev start_more : (analyzers : ℕ) (own more : MainOwn) (r : CurrentRun) (outcome : StartOutcome) → FitsStart analyzers own r outcome → FitsStart analyzers (calls_joined own more) r outcome
start_more analyzers own more r outcome fits = record {
  dump = fits.dump;
  tallies = fits.tallies;
  made = made_more own.engine more.engine Start (start_sheet analyzers r.run r.time r.quota fits.dump) r.start outcome fits.tallies fits.made;
  entries = fits.entries;
  are = fits.are;
  stand = stand_more fits.entries own.database more.database fits.stand;
}

abbrev stop_more : (clients : RunClients) (own more : MainOwn) (begun : CurrentRun) (r : RunRecord) → FitsStop clients own begun r → FitsStop clients (calls_joined own more) begun r
stop_more clients own more begun r fits = record {
  state = fits.state;
  saved = fits.saved;
  tallies = fits.tallies;
  made = made_more own.engine more.engine Stop (later_sheet begun r.time1 (dump_saved fits.saved)) begun.start Completed fits.tallies fits.made;
  entries = fits.entries;
  are = fits.are;
  stand = stand_more fits.entries own.database more.database fits.stand;
  tells = fits.tells;
}

abbrev owns : List EngineEntry → List WatchEntry → MainOwn
owns engine database = record { engine = engine; database = database }

same_own : (e later : List EngineEntry) (d after : List WatchEntry) → e ≡ later → d ≡ after → owns e d ≡ owns later after
same_own e later d after engine database = ap (λ (x : List EngineEntry). owns x d) engine ∙ ap (λ (x : List WatchEntry). owns later x) database

joined_again : (one two more : MainOwn) → calls_joined (calls_joined one two) more ≡ calls_joined one (calls_joined two more)
joined_again one two more = same_own _ _ _ _ (append_assoc one.engine two.engine more.engine) (append_assoc one.database two.database more.database)

outcome_more : (clients : RunClients) (own more : MainOwn) (begun : CurrentRun) (r : RunRecord) (outcome : StartOutcome) → FitsOutcome clients own begun r outcome
    → FitsOutcome clients (calls_joined own more) begun r outcome
outcome_more clients own more begun r Completed fits = record {
  early = fits.early;
  late = calls_joined fits.late more;
  calls = ap (λ (o : MainOwn). calls_joined o more) fits.calls ∙ joined_again fits.early fits.late more;
  start = fits.start;
  stop = stop_more clients fits.late more begun r fits.stop;
  state_is = fits.state_is;
}
outcome_more clients own more begun r (Refused client why) fits = record {
  start = start_more clients.analyzers own more begun r.outcome fits.start;
  time = fits.time;
  fronts = fits.fronts;
  files = fits.files;
  reports = fits.reports;
}

run_more : (clients : RunClients) (own more : MainOwn) (r : RunRecord) → FitsRun clients own r → FitsRun clients (calls_joined own more) r
run_more clients own more r fits = (fits.0, outcome_more clients own more (run_of r fits.0) r r.outcome fits.1)

all_more : (clients : RunClients) (own more : MainOwn) (rs : List RunRecord) → AllByRecursion (FitsRun clients own) rs → AllByRecursion (FitsRun clients (calls_joined own more)) rs
all_more clients own more [] fits = fits
all_more clients own more (r ∷ rs) fits = (run_more clients own more r fits.0, all_more clients own more rs fits.1)

all_one : (P : RunRecord → Type 0) (rs : List RunRecord) (r : RunRecord) → AllByRecursion P rs → P r → AllByRecursion P (rs ++ r ∷ [])
all_one P [] r all one = (one, all)
all_one P (x ∷ rs) r all one = (all.0, all_one P rs r all.1 one)

on_more : (analyzers : ℕ) (own more : MainOwn) (on : Option CurrentRun) → FitsCurrent analyzers own on → FitsCurrent analyzers (calls_joined own more) on
on_more analyzers own more None fits = fits
on_more analyzers own more (Some r) fits = start_more analyzers own more r Completed fits

-- what the main thread called
abbrev own_of : RunsSeen → List WatchEntry → MainOwn
own_of s database = record { engine = s.main.own; database = database }

-- more calls on the database, and nothing else
pub more_fit : (s : RunsSeen) (own more : List WatchEntry) → RunsFit s own → RunsFit s (own ++ more)
more_fit s own more fits =
    let silent : MainOwn = record { engine = []; database = more } in
    let is : calls_joined (own_of s own) silent ≡ own_of s (own ++ more) = same_own _ _ _ _ (append-nil s.main.own) refl in
    record {
      each_start = fits.each_start;
      runs = subst (λ (o : MainOwn). AllByRecursion (FitsRun (run_clients s) o) s.runs) is (all_more (run_clients s) (own_of s own) silent s.runs fits.runs);
      on = subst (λ (o : MainOwn). FitsCurrent (reporter_count s.members) o s.on) is (on_more (reporter_count s.members) (own_of s own) silent s.on fits.on);
    }

-- where no run is on, the records alone fit
pub records_fit : (s : RunsSeen) (own : List WatchEntry) → RunsFit s own → s.on ≡ None → RecordsFit (run_clients s) (own_of s own) s.runs
records_fit s own fits idle = record {
  each_start = sym (append-nil (map start_of s.runs)) ∙ (ap (λ (o : Option CurrentRun). map start_of s.runs ++ option_to_list (option_map start_on o)) (sym idle) ∙ fits.each_start);
  runs = fits.runs;
}

-- before the first run all fits
pub opening_fits : (s : RunsSeen) (own : List WatchEntry) → s.runs ≡ [] → s.on ≡ None → starts_begun s.main.own ≡ [] → RunsFit s own
opening_fits s own empty idle none = record {
  each_start = ap (λ (rs : List RunRecord). map start_of rs ++ option_to_list (option_map start_on s.on)) empty
      ∙ (ap (λ (o : Option CurrentRun). option_to_list (option_map start_on o)) idle ∙ sym none);
  runs = subst (λ (rs : List RunRecord). AllByRecursion (FitsRun (run_clients s) (own_of s own)) rs) (sym empty) tt;
  on = subst (λ (o : Option CurrentRun). FitsCurrent (reporter_count s.members) (own_of s own) o) (sym idle) tt;
}

-- registrations begin no start
pub registered_none : (first : ℕ) (ms : List MemberName) → starts_begun (registrations first ms) ≡ []
registered_none first [] = refl
registered_none first (m ∷ ms) = registered_none (suc first) ms

-- A transition.

abbrev made_calls : Transition → Sheet → (start : ℕ) → StartOutcome → List ClientTally → (rounds : ℕ) → List EngineEntry
made_calls t sheet start outcome tallies rounds = Begin t sheet (Ok start) ∷ (going_checks rounds ++ done_check outcome tallies ∷ [])

-- checks neither begin a transition nor tell an end
unmarked : (rounds : ℕ) → AreUnmarked (going_checks rounds)
unmarked zero = tt
unmarked (suc n) = (refl, unmarked n)

-- Starts that were begun.

starts_joined : (own more : List EngineEntry) → starts_begun (own ++ more) ≡ starts_begun own ++ starts_begun more
starts_joined [] more = refl
starts_joined (e ∷ own) more =
    ap (λ (l : List ℕ). start_begun e ++ l) (starts_joined own more) ∙ sym (append_assoc (start_begun e) (starts_begun own) (starts_begun more))

no_starts : (rounds : ℕ) (outcome : StartOutcome) (tallies : List ClientTally) → starts_begun (going_checks rounds ++ done_check outcome tallies ∷ []) ≡ []
no_starts zero outcome tallies = refl
no_starts (suc n) outcome tallies = no_starts n outcome tallies

-- a start begins one, and no other transition any
starts_made : (t : Transition) (sheet : Sheet) (start : ℕ) (outcome : StartOutcome) (tallies : List ClientTally) (rounds : ℕ)
    → starts_begun (made_calls t sheet start outcome tallies rounds) ≡ start_begun (Begin t sheet (Ok start))
starts_made t sheet start outcome tallies rounds =
    ap (λ (l : List ℕ). start_begun (Begin t sheet (Ok start)) ++ l) (no_starts rounds outcome tallies) ∙ append-nil (start_begun (Begin t sheet (Ok start)))

starts_behind : (own later : List EngineEntry) (t : Transition) (sheet : Sheet) (start : ℕ) (outcome : StartOutcome) (tallies : List ClientTally) (rounds : ℕ)
    → later ≡ own ++ made_calls t sheet start outcome tallies rounds → starts_begun later ≡ starts_begun own ++ start_begun (Begin t sheet (Ok start))
starts_behind own later t sheet start outcome tallies rounds is =
    ap starts_begun is ∙ (starts_joined own (made_calls t sheet start outcome tallies rounds)
    ∙ ap (λ (l : List ℕ). starts_begun own ++ l) (starts_made t sheet start outcome tallies rounds))

starts_snoc : (rs : List RunRecord) (r : RunRecord) → map start_of (rs ++ r ∷ []) ≡ map start_of rs ++ r.start ∷ []
starts_snoc [] r = refl
starts_snoc (x ∷ rs) r = ap (λ (l : List ℕ). x.start ∷ l) (starts_snoc rs r)

-- the law of ports: the entries are the caller's own
abbrev pub OwnGrows : Type 0
OwnGrows = (a b : DatabaseAccess) (entries : List WatchEntry) → AddsEntries a b entries → own_watched b ≡ own_watched a ++ entries

module _ {M : Type 0} (round : M → M → Type 0) where
  -- the calls that a start made, by themselves
  abbrev fresh : (t : Transition) (sheet : Sheet) (start : ℕ) (outcome : StartOutcome) (tallies : List ClientTally) (rounds : ℕ) (entries : List WatchEntry) → MainOwn
  fresh t sheet start outcome tallies rounds entries = record { engine = made_calls t sheet start outcome tallies rounds; database = entries }

  -- the calls behind the command are those before it, and behind them the command's
  grown : OwnGrows → (old new : CommandPoint M) (t : Transition) (sheet : Sheet) (start : ℕ) (outcome : StartOutcome) (tallies : List ClientTally) (entries : List WatchEntry)
      → (drives : DrivesTransition round t sheet start outcome tallies old.runs.main.own new.runs.main.own old.members new.members) → AddsEntries old.database new.database entries
      → own_of new.runs (own_watched new.database) ≡ calls_joined (own_of old.runs (own_watched old.database)) (fresh t sheet start outcome tallies drives.rounds entries)
  grown grows old new t sheet start outcome tallies entries drives adds = same_own _ _ _ _ drives.calls (grows old.database new.database entries adds)

  start_fits : (analyzers : ℕ) (own : MainOwn) (r : CurrentRun) (outcome : StartOutcome) (dump : List ℕ) (tallies : List ClientTally) (rounds : ℕ) (entries : List WatchEntry) → StartCalls r.run r.time outcome dump entries
      → FitsStart analyzers (calls_joined own (fresh Start (start_sheet analyzers r.run r.time r.quota dump) r.start outcome tallies rounds entries)) r outcome
  start_fits analyzers own r outcome dump tallies rounds entries are = record {
    dump = dump;
    tallies = tallies;
    made = record { before = own.engine; between = going_checks rounds; after = []; whole = refl; on = unmarked rounds };
    entries = entries;
    are = are;
    stand = record { before = own.database; after = []; calls = ap (λ (l : List WatchEntry). own.database ++ l) (sym (append-nil entries)) };
  }

  -- where no run is on, the records have the starts so far
  so_far : (s : RunsSeen) (own : List WatchEntry) → s.on ≡ None → RunsFit s own → map start_of s.runs ≡ starts_begun s.main.own
  so_far s own idle fits = (records_fit s own fits idle).each_start

  -- behind a start that ended so all fit
  started : (s : RunsSeen) (own : List WatchEntry) (r : CurrentRun) (outcome : StartOutcome) (later : MainOwn) (more : MainOwn) → later ≡ calls_joined (own_of s own) more → s.on ≡ None
      → starts_begun later.engine ≡ starts_begun s.main.own ++ r.start ∷ [] → FitsStart (reporter_count s.members) (calls_joined (own_of s own) more) r outcome → RunsFit s own
      → RunsFit (with_calls (behind_start s r outcome) later.engine) later.database
  started s own r Completed later more is idle starts start fits = record {
    each_start = ap (λ (l : List ℕ). l ++ r.start ∷ []) (so_far s own idle fits) ∙ sym starts;
    runs = subst (λ (o : MainOwn). AllByRecursion (FitsRun (run_clients s) o) s.runs) (sym is) (all_more (run_clients s) (own_of s own) more s.runs fits.runs);
    on = subst (λ (o : MainOwn). FitsStart (reporter_count s.members) o r Completed) (sym is) start;
  }
  started s own r (Refused client why) later more is idle starts start fits =
      let rec : RunRecord = refused_start r (Refused client why) in
      let all : AllByRecursion (FitsRun (run_clients s) (calls_joined (own_of s own) more)) (s.runs ++ rec ∷ []) =
      all_one (FitsRun (run_clients s) (calls_joined (own_of s own) more)) s.runs rec (all_more (run_clients s) (own_of s own) more s.runs fits.runs)
      (r.quota, record { start = start; time = refl; fronts = refl; files = refl; reports = refl }) in
      record {
        each_start = ap (λ (o : Option CurrentRun). map start_of (s.runs ++ rec ∷ []) ++ option_to_list (option_map start_on o)) idle
            ∙ (append-nil (map start_of (s.runs ++ rec ∷ []))
            ∙ (starts_snoc s.runs rec ∙ (ap (λ (l : List ℕ). l ++ r.start ∷ []) (so_far s own idle fits) ∙ sym starts)));
        runs = subst (λ (o : MainOwn). AllByRecursion (FitsRun (run_clients s) o) (s.runs ++ rec ∷ [])) (sym is) all;
        on = subst (λ (o : MainOwn). FitsCurrent (reporter_count s.members) o s.on) (sym is) (on_more (reporter_count s.members) (own_of s own) more s.on fits.on);
      }

  -- the run number was got
  got_fits : OwnGrows → (run : ℕ) (old ready : CommandPoint M) → GotNumber run old ready → RunsFit old.runs (own_watched old.database) → RunsFit ready.runs (own_watched old.database)
  got_fits grows run old ready got fits = subst (λ (s : RunsSeen). RunsFit s (own_watched old.database)) (sym got.runs) fits

  begun_fits : OwnGrows → (run : ℕ) (outcome : StartOutcome) (before after : AheadTold) (old ready new : CommandPoint M) → GotNumber run old ready → BeginsRun round run outcome before after ready new
      → RunsFit old.runs (own_watched old.database) → RunsFit new.runs (own_watched new.database)
  begun_fits grows run outcome before after old ready new got begins fits =
      let s : RunsSeen = ready.runs in
      let r : CurrentRun = run_by_start s run begins.start begins.time in
      let own : List WatchEntry = own_watched old.database in
      let asked : WatchEntry = Call (number_asked got.number.got) in
      let entries : List WatchEntry = asked ∷ begins.entries in
      let sheet : Sheet = start_sheet (reporter_count s.members) run begins.time s.quota begins.dump in
      let whole : AddsEntries old.database new.database entries = (ready.database, got.number.called, begins.adds) in
      let are : StartCalls run begins.time outcome begins.dump entries = record { got = got.number.got; settled = got.number.settled; number = sym got.number.run_is; rest = begins.entries; begins = begins.calls; are = refl } in
      let more : MainOwn = fresh Start sheet begins.start outcome begins.tallies begins.drives.rounds entries in
      let is : own_of new.runs (own_watched new.database) ≡ calls_joined (own_of s own) more = same_own _ _ _ _ begins.drives.calls (grows old.database new.database entries whole) in
      subst (λ (x : RunsSeen). RunsFit x (own_watched new.database)) (sym begins.kept)
      (started s own r outcome (own_of new.runs (own_watched new.database)) more is begins.idle
      (starts_behind s.main.own new.runs.main.own Start sheet begins.start outcome begins.tallies begins.drives.rounds begins.drives.calls) (start_fits (reporter_count s.members) (own_of s own) r outcome begins.dump begins.tallies begins.drives.rounds entries are) (got_fits grows run old ready got fits))

  lacks_fits : OwnGrows → (have : _) (old new : CommandPoint M) → LacksNumber have old new → RunsFit old.runs (own_watched old.database) → RunsFit new.runs (own_watched new.database)
  lacks_fits grows have old new lacks fits =
      let asked : WatchEntry = Call (number_asked lacks.number.got) in
      let is : own_watched new.database ≡ own_watched old.database ++ asked ∷ [] = grows old.database new.database (asked ∷ []) (new.database, lacks.number.called, refl) in
      subst (λ (s : RunsSeen). RunsFit s (own_watched new.database)) (sym lacks.runs)
      (subst (RunsFit old.runs) (sym is) (more_fit old.runs (own_watched old.database) (asked ∷ []) fits))

  same_fits : (old new : CommandPoint M) → new ≡ old → RunsFit old.runs (own_watched old.database) → RunsFit new.runs (own_watched new.database)
  same_fits old new is fits = subst (λ (p : CommandPoint M). RunsFit p.runs (own_watched p.database)) (sym is) fits

  pub answered_start : OwnGrows → (reply : RunReply) (before after : AheadTold) (old new : CommandPoint M) → AnswersStart round reply before after old new → RunsFit old.runs (own_watched old.database)
      → RunsFit new.runs (own_watched new.database)
  answered_start grows (run_started run) before after old new does fits = begun_fits grows run Completed before after old does.0 new does.1 does.2 fits
  answered_start grows (StartRefused client why) before after old new does fits = begun_fits grows does.0 (Refused client why) before after old does.1.0 new does.1.1 does.1.2 fits
  answered_start grows (RunNumber have) before after old new does fits = lacks_fits grows have old new does.0 fits
  answered_start grows (WrongState state) before after old new does fits = same_fits old new does.1 fits
  answered_start grows LastStart before after old new does fits = same_fits old new does.1 fits
  answered_start grows (run_paused run) before after old new does fits = absurd does.0
  answered_start grows (run_resumed run) before after old new does fits = absurd does.0
  answered_start grows (run_stopped run) before after old new does fits = absurd does.0

  -- Stops.

  on_start : (analyzers : ℕ) (own : MainOwn) (on : Option CurrentRun) (r : CurrentRun) → on ≡ Some r → FitsCurrent analyzers own on → FitsStart analyzers own r Completed
  on_start analyzers own on r is fits = subst (FitsCurrent analyzers own) is fits

  abbrev stop_fits : (clients : RunClients) (r : CurrentRun) (time : ℕ) (tallies : List ClientTally) (state : _) (saved : Result (List ℕ) NoMemory) (rounds : ℕ) (entries : List WatchEntry)
      → StopCalls state time saved entries
      → FitsStop clients (fresh Stop (later_sheet r time (dump_saved saved)) r.start Completed tallies rounds entries) r (record_of clients.fronts clients.channels clients.analyzers r time tallies)
  stop_fits clients r time tallies state saved rounds entries are = record {
    state = state;
    saved = saved;
    tallies = tallies;
    made = record { before = []; between = going_checks rounds; after = []; whole = refl; on = unmarked rounds };
    entries = entries;
    are = are;
    stand = record { before = []; after = []; calls = sym (append-nil entries) };
    tells = record { sent = refl; files = refl; reports = refl };
  }

  pub stopped_fits : OwnGrows → (r : CurrentRun) (saved : Result (List ℕ) NoMemory) (before after : AheadTold) (old new : CommandPoint M) → MakesStop round r saved before after old new
      → RunsFit old.runs (own_watched old.database) → RunsFit new.runs (own_watched new.database)
  stopped_fits grows r saved before after old new stops fits =
      let s : RunsSeen = old.runs in
      let clients : RunClients = run_clients s in
      let own : MainOwn = own_of s (own_watched old.database) in
      let more : MainOwn = fresh Stop (later_sheet r stops.time (dump_saved saved)) r.start Completed stops.tallies stops.drives.rounds stops.entries in
      let later : MainOwn = own_of new.runs (own_watched new.database) in
      let is : later ≡ calls_joined own more = grown grows old new Stop (later_sheet r stops.time (dump_saved saved)) r.start Completed stops.tallies stops.entries stops.drives stops.adds in
      let rec : RunRecord = record_of (sender_count s.members) s.channels (reporter_count s.members) r stops.time stops.tallies in
      let state : RunState = (known_from s.main.own).state in
      let whole : FitsWhole clients (calls_joined own more) r rec = record {
        early = own;
        late = more;
        calls = refl;
        start = on_start (reporter_count s.members) own s.on r stops.on fits.on;
        stop = stop_fits clients r stops.time stops.tallies state saved stops.drives.rounds stops.entries stops.calls;
        state_is = ap (λ (l : List EngineEntry). (known_from l).state) (sym (append-nil s.main.own));
      } in
      let starts : starts_begun new.runs.main.own ≡ starts_begun s.main.own ++ [] =
      starts_behind s.main.own new.runs.main.own Stop (later_sheet r stops.time (dump_saved saved)) r.start Completed stops.tallies stops.drives.rounds stops.drives.calls in
      let before : map start_of s.runs ++ r.start ∷ [] ≡ starts_begun s.main.own =
      ap (λ (o : Option CurrentRun). map start_of s.runs ++ option_to_list (option_map start_on o)) (sym stops.on) ∙ fits.each_start in
      let all : AllByRecursion (FitsRun clients (calls_joined own more)) (s.runs ++ rec ∷ []) =
      all_one (FitsRun clients (calls_joined own more)) s.runs rec (all_more clients own more s.runs fits.runs) (r.quota, whole) in
      subst (λ (x : RunsSeen). RunsFit x (own_watched new.database)) (sym stops.kept) (record {
        each_start = append-nil (map start_of (s.runs ++ rec ∷ [])) ∙ (starts_snoc s.runs rec ∙ (before ∙ sym (starts ∙ append-nil (starts_begun s.main.own))));
        runs = subst (λ (o : MainOwn). AllByRecursion (FitsRun clients o) (s.runs ++ rec ∷ [])) (sym is) all;
        on = tt;
      })

  pub answered_stop : OwnGrows → (reply : RunReply) (before after : AheadTold) (old new : CommandPoint M) → AnswersStop round reply before after old new → RunsFit old.runs (own_watched old.database)
      → RunsFit new.runs (own_watched new.database)
  answered_stop grows (run_stopped run) before after old new does fits = stopped_fits grows does.0 (Ok does.2) before after old new does.3 fits
  answered_stop grows (WrongState state) before after old new does fits = same_fits old new does.1 fits
  answered_stop grows LastStart before after old new does fits = same_fits old new does.1 fits
  answered_stop grows (RunNumber have) before after old new does fits = absurd does.0
  answered_stop grows (StartRefused client why) before after old new does fits = absurd does.0
  answered_stop grows (run_started run) before after old new does fits = absurd does.0
  answered_stop grows (run_paused run) before after old new does fits = absurd does.0
  answered_stop grows (run_resumed run) before after old new does fits = absurd does.0

  -- Pauses and resumes.

  changed_fits : OwnGrows → (t : Transition) (r : CurrentRun) (old new : CommandPoint M) → ((sheet : Sheet) (start : ℕ) → start_begun (Begin t sheet (Ok start)) ≡ []) → MakesChange round t r old new → RunsFit old.runs (own_watched old.database) → RunsFit new.runs (own_watched new.database)
  changed_fits grows t r old new none makes fits =
      let s : RunsSeen = old.runs in
      let own : MainOwn = own_of s (own_watched old.database) in
      let sheet : Sheet = later_sheet r r.time None in
      let more : MainOwn = fresh t sheet r.start Completed makes.tallies makes.drives.rounds (row_calls makes.sets) in
      let is : own_of new.runs (own_watched new.database) ≡ calls_joined own more = grown grows old new t sheet r.start Completed makes.tallies (row_calls makes.sets) makes.drives makes.adds in
      let starts : starts_begun new.runs.main.own ≡ starts_begun s.main.own =
      starts_behind s.main.own new.runs.main.own t sheet r.start Completed makes.tallies makes.drives.rounds makes.drives.calls
      ∙ (ap (λ (l : List ℕ). starts_begun s.main.own ++ l) (none sheet r.start) ∙ append-nil (starts_begun s.main.own)) in
      subst (λ (x : RunsSeen). RunsFit x (own_watched new.database)) (sym makes.kept) (record {
        each_start = fits.each_start ∙ sym starts;
        runs = subst (λ (o : MainOwn). AllByRecursion (FitsRun (run_clients s) o) s.runs) (sym is) (all_more (run_clients s) own more s.runs fits.runs);
        on = subst (λ (o : MainOwn). FitsCurrent (reporter_count s.members) o s.on) (sym is) (on_more (reporter_count s.members) own more s.on fits.on);
      })

  pub answered_pause : OwnGrows → (reply : RunReply) (old new : CommandPoint M) → AnswersPause round reply old new → RunsFit old.runs (own_watched old.database) → RunsFit new.runs (own_watched new.database)
  answered_pause grows (run_paused run) old new does fits = changed_fits grows Pause does.0 old new (λ sheet start. refl) does.2 fits
  answered_pause grows (WrongState state) old new does fits = same_fits old new does.1 fits
  answered_pause grows LastStart old new does fits = same_fits old new does.1 fits
  answered_pause grows (RunNumber have) old new does fits = absurd does.0
  answered_pause grows (StartRefused client why) old new does fits = absurd does.0
  answered_pause grows (run_started run) old new does fits = absurd does.0
  answered_pause grows (run_resumed run) old new does fits = absurd does.0
  answered_pause grows (run_stopped run) old new does fits = absurd does.0

  pub answered_resume : OwnGrows → (reply : RunReply) (old new : CommandPoint M) → AnswersResume round reply old new → RunsFit old.runs (own_watched old.database) → RunsFit new.runs (own_watched new.database)
  answered_resume grows (run_resumed run) old new does fits = changed_fits grows Resume does.0 old new (λ sheet start. refl) does.2 fits
  answered_resume grows (WrongState state) old new does fits = same_fits old new does.1 fits
  answered_resume grows LastStart old new does fits = same_fits old new does.1 fits
  answered_resume grows (RunNumber have) old new does fits = absurd does.0
  answered_resume grows (StartRefused client why) old new does fits = absurd does.0
  answered_resume grows (run_started run) old new does fits = absurd does.0
  answered_resume grows (run_paused run) old new does fits = absurd does.0
  answered_resume grows (run_stopped run) old new does fits = absurd does.0
