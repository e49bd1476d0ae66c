-- A start and a stop, put together.
use Rattle.daq_io.specs.Told.{AheadTold}
use Rattle.std.specs.Prelude.{◌≡◌, ◌≢◌, ℕ, Bool, true, false, List, [], ◌∷◌, ◌++◌, Option, Some, None, Result, Ok, Err, is_err, IsOk, IfOk, OnErr, refl}
use Rattle.std.proofs.Common.{ap, sym, subst, ◌∙◌, inr}
use Rattle.daq_types.specs.declared.memory.NoMemory.{NoMemory}
use Rattle.daq_types.specs.declared.runs.StartOutcome.{StartOutcome}
use Rattle.daq_types.specs.declared.runs.StartOutcome.TheVariants.{Completed, Refused}
use Rattle.daq_types.specs.declared.runs.RunState.{RunState}
use Rattle.daq_types.specs.declared.runs.RunState.TheVariants.{Stopped}
use Rattle.daq_types.specs.declared.runs.Transition.TheVariants.{Start, Stop}
use Rattle.daq_types.specs.declared.runs.Why.{Why}
use Rattle.odb_watch.specs.declared.entry.WatchEntry.{WatchEntry}
use Rattle.odb_watch.specs.DatabasePorts.{DatabaseAccess, AddsEntries}
use Rattle.odb_runinfo.specs.RunSets.{SetsNumbers, state_set}
use Rattle.event_report.specs.Reports.{Totals}
use Rattle.member_model.specs.RunEngines.{Sheet, ClientTally, EngineEntry}
use Rattle.transition_lock.specs.declared.shared.SharedEngine.{SharedEngine}
use Rattle.session_runs.specs.declared.records.RunRecord.{RunRecord}
use Rattle.session_runs.specs.MainKnowledge.{MainKnows, known_from, begin_known}
use Rattle.session_runs.specs.MadeTransitions.{DrivesTransition}
use Rattle.session_runs.specs.MainSeats.{StandsFree, MainSeen}
use Rattle.session_runs.specs.declared.channels.RunChannel.{RunChannel}
use Rattle.session_runs.specs.declared.on.CurrentRun.{CurrentRun}
use Rattle.session_runs.specs.declared.opening.MemberName.{MemberName}
use Rattle.session_runs.specs.Members.{reporter_count, sender_count}
use Rattle.session_runs.specs.declared.replies.RunReply.{RunReply}
use Rattle.session_runs.specs.declared.replies.RunReply.TheVariants.{WrongState, LastStart, RunNumber, StartRefused, Started as run_started, Paused as run_paused, Resumed as run_resumed, Stopped as run_stopped}
use Rattle.session_runs.specs.KeptRuns.{RunsSeen, IsInStep, behind_start, behind_stop, record_of, refused_start, with_calls}
use Rattle.session_runs.specs.RunEntries.{AnnounceCalls, AnnouncesStop, BeginCalls, StopCalls, blank_reports, dump_saved, later_sheet, outcome_sets, start_sheet}
use Rattle.session_runs.specs.RunAnswers.{AnnouncesRun, CommandPoint, CutsAnnouncing, ReadsClock, AnswersBegin, AnswersStart, AnswersStop, BeginsRun, CutsBegin, CutsStart, DrivesStop, GotNumber, MakesStart, MakesStop, StopsUnsaved, point_of, run_by_start}
use Rattle.session_runs.proofs.Calls.{CallsAreEntries, begin_calls, stop_calls}
use Rattle.session_runs.proofs.Steps.{stop_begins}

-- what is seen of the runs, in parts
abbrev pub seen_of : (quota : ℕ) → List RunRecord → List MemberName → List RunChannel → Option CurrentRun → MainSeen → RunsSeen
seen_of quota runs members channels on main = record { quota = quota; runs = runs; members = members; channels = channels; on = on; main = main }

seen_same : (quota : ℕ) (runs later : List RunRecord) (members : List MemberName) (channels : List RunChannel) (on then_on : Option CurrentRun) (main after : MainSeen) → runs ≡ later → on ≡ then_on → main ≡ after
    → seen_of quota runs members channels on main ≡ seen_of quota later members channels then_on after
seen_same quota runs later members channels on then_on main after are on_is is =
    ap (λ (l : List RunRecord). seen_of quota l members channels on main) are
    ∙ (ap (λ (o : Option CurrentRun). seen_of quota later members channels o main) on_is
    ∙ ap (λ (m : MainSeen). seen_of quota later members channels then_on m) is)

abbrev main_of : SharedEngine → List EngineEntry → MainSeen
main_of engine own = record { engine = engine; own = own }

-- the same engine, with the later calls
main_same : (before after : MainSeen) → after.engine ≡ before.engine → after ≡ main_of before.engine after.own
main_same before after is = ap (λ (e : SharedEngine). main_of e after.own) is

-- a run is on
pub kept_on : (quota : ℕ) (runs later : List RunRecord) (members : List MemberName) (channels : List RunChannel) (on : Option CurrentRun) (main after : MainSeen) (r : CurrentRun) → later ≡ runs → after.engine ≡ main.engine
    → seen_of quota later members channels (Some r) after ≡ with_calls (behind_start (seen_of quota runs members channels on main) r Completed) after.own
kept_on quota runs later members channels on main after r are engine = seen_same quota later runs members channels (Some r) (Some r) after (main_of main.engine after.own) are refl (main_same main after engine)

-- a start was refused
pub kept_refused : (quota : ℕ) (runs between later : List RunRecord) (members : List MemberName) (channels : List RunChannel) (on : Option CurrentRun) (main after : MainSeen) (r : CurrentRun) (outcome : StartOutcome) (client : ℕ) (why : Why)
    (rec : RunRecord) → between ≡ runs → later ≡ between ++ rec ∷ [] → rec ≡ refused_start r outcome → outcome ≡ Refused client why → after.engine ≡ main.engine
    → seen_of quota later members channels on after ≡ with_calls (behind_start (seen_of quota runs members channels on main) r (Refused client why)) after.own
kept_refused quota runs between later members channels on main after r outcome client why rec same are is done engine =
    let all : later ≡ runs ++ refused_start r (Refused client why) ∷ [] =
    are ∙ (ap (λ (l : List RunRecord). l ++ rec ∷ []) same ∙ ap (λ (x : RunRecord). runs ++ x ∷ []) (is ∙ ap (refused_start r) done)) in
    seen_same quota later (runs ++ refused_start r (Refused client why) ∷ []) members channels on on after (main_of main.engine after.own) all refl (main_same main after engine)

-- a run was stopped
pub kept_stopped : (quota : ℕ) (runs later : List RunRecord) (members : List MemberName) (channels : List RunChannel) (on then_on : Option CurrentRun) (main after : MainSeen) (r : CurrentRun) (time : ℕ) (told : List ClientTally)
    (rec : RunRecord) → later ≡ runs ++ rec ∷ [] → rec ≡ record_of (sender_count members) channels (reporter_count members) r time told → then_on ≡ None → after.engine ≡ main.engine
    → seen_of quota later members channels then_on after ≡ with_calls (behind_stop (seen_of quota runs members channels on main) r time told) after.own
kept_stopped quota runs later members channels on then_on main after r time told rec are is off engine =
    let whole : RunRecord = record_of (sender_count members) channels (reporter_count members) r time told in
    seen_same quota later (runs ++ whole ∷ []) members channels then_on None after (main_of main.engine after.own) (are ∙ ap (λ (x : RunRecord). runs ++ x ∷ []) is) off (main_same main after engine)

-- the record, from what it was made of
pub recorded : (count fronts : ℕ) (listed channels : List RunChannel) (others analyzers : ℕ) (r : CurrentRun) (time : ℕ) (told : List ClientTally) (rec : RunRecord) → rec ≡ record_of count listed others r time told → count ≡ fronts → listed ≡ channels
    → others ≡ analyzers → rec ≡ record_of fronts channels analyzers r time told
recorded count fronts listed channels others analyzers r time told rec is count_is channels_are analyzers_are =
    is ∙ (ap (λ (n : ℕ). record_of n listed others r time told) count_is
    ∙ (ap (λ (l : List RunChannel). record_of fronts l others r time told) channels_are ∙ ap (λ (n : ℕ). record_of fronts channels n r time told) analyzers_are))

-- the text was saved, or there was no memory for it

pub saved_none : (saved : Result (List ℕ) NoMemory) → is_err saved ≡ true → saved ≡ Err (record {})
saved_none (Ok dump) is = absurd (cc (is))
saved_none (Err wanting) is = refl

pub saved_some : (saved : Result (List ℕ) NoMemory) → is_err saved ≡ false → (dump : List ℕ) × (saved ≡ Ok dump)
saved_some (Ok dump) is = (dump, refl)
saved_some (Err wanting) is = absurd (cc (is))

pub not_saved : (saved : Result (List ℕ) NoMemory) → ((dump : List ℕ) → saved ≡ Ok dump → ⊥) → saved ≡ Err (record {})
not_saved (Ok dump) none = absurd (none dump refl)
not_saved (Err wanting) none = refl

-- the run was announced, and there was no memory for the text
pub cut_announced : (run time : ℕ) (saved : Result (List ℕ) NoMemory) (before after : AheadTold) (a b : DatabaseAccess) → ReadsClock before after time
    → ((entries : List WatchEntry) × AnnounceCalls run time saved entries × AddsEntries a b entries) → saved ≡ Err (record {}) → CutsAnnouncing run before after a b
cut_announced run time saved before after a b reading announced is =
    inr (time, announced.0, reading, subst (λ (r : Result (List ℕ) NoMemory). AnnounceCalls run time r announced.0) is announced.1, announced.2)

-- the run was announced, and this text saved
pub run_announced : (run time quota count : ℕ) (saved : Result (List ℕ) NoMemory) (dump : List ℕ) (blanks : List Totals) (sheet : Sheet) (before after : AheadTold) (a b : DatabaseAccess) → ReadsClock before after time
    → ((entries : List WatchEntry) × AnnounceCalls run time saved entries × AddsEntries a b entries) → saved ≡ Ok dump → sheet ≡ record { run = run; time = time; quota = quota; dump = Some dump; blanks = blanks } → blanks ≡ blank_reports count
    → AnnouncesRun run quota count before after a b sheet
run_announced run time quota count saved dump blanks sheet before after a b reading announced is sheet_is made =
    let at : time ≡ sheet.time = sym (ap (λ (x : Sheet). x.time) sheet_is) in
    let calls : AnnounceCalls run time (Ok dump) announced.0 = subst (λ (r : Result (List ℕ) NoMemory). AnnounceCalls run time r announced.0) is announced.1 in
    let with_blanks : List Totals → Sheet = λ l. record { run = run; time = time; quota = quota; dump = Some dump; blanks = l } in
    record {
      reading = subst (ReadsClock before after) at reading;
      dump = dump;
      entries = announced.0;
      calls = subst (λ (t : ℕ). AnnounceCalls run t (Ok dump) announced.0) at calls;
      adds = announced.2;
      is = sheet_is ∙ (ap with_blanks made ∙ ap (λ (t : ℕ). start_sheet count run t quota dump) at);
    }

same_number : (start number : ℕ) (k : MainKnows) → begin_known k Stop ≡ Ok start → begin_known k Stop ≡ Ok number → start ≡ number
same_number start number k is also = let both : Ok start ≡ Ok number = sym is ∙ also in cc (both)

pub stop_is_none : Stop ≢ Start
stop_is_none is = absurd (cc (is))

-- the stop of the run that is on would begin
pub on_begins : (r : CurrentRun) (on : Option CurrentRun) (own : List EngineEntry) → on ≡ Some r → IsInStep on (known_from own) → StandsFree own → begin_known (known_from own) Stop ≡ Ok r.start
on_begins r on own is step between = stop_begins r (known_from own) between.open_yet between.none_going (subst (λ (o : Option CurrentRun). IsInStep o (known_from own)) is step)

module _ {M : Type 0} (round : M → M → Type 0) where
  pub begins_run : CallsAreEntries → (run start : ℕ) (outcome ended : StartOutcome) (sheet : Sheet) (before after : AheadTold) (s later : RunsSeen)
      (a b c : DatabaseAccess) (members turned : M) → s.on ≡ None → begin_known (known_from s.main.own) Start ≡ Ok start → AnnouncesRun run s.quota (reporter_count s.members) before after a b sheet
      → SetsNumbers b c (outcome_sets run ended) → ended ≡ outcome
      → ((told : List ClientTally) × DrivesTransition round Start sheet start ended told s.main.own later.main.own members turned)
      → later ≡ with_calls (behind_start s (run_by_start s run start sheet.time) outcome) later.main.own
      → BeginsRun round run outcome before after (point_of s a members) (point_of later c turned)
  begins_run are run start outcome ended sheet before after s later a b c members turned idle begins announced sets done made kept =
      let time = sheet.time in
      let dump = announced.dump in
      let last : SetsNumbers b c (outcome_sets run outcome) = subst (λ (o : StartOutcome). SetsNumbers b c (outcome_sets run o)) done sets in
      let whole : (entries : List WatchEntry) × BeginCalls run time outcome dump entries × AddsEntries a c entries = begin_calls are a b c run time outcome dump announced.entries announced.calls announced.adds last in
      let drives : DrivesTransition round Start (start_sheet (reporter_count s.members) run time s.quota dump) start ended made.0 s.main.own later.main.own members turned =
      subst (λ (x : Sheet). DrivesTransition round Start x start ended made.0 s.main.own later.main.own members turned) announced.is made.1 in
      record {
        idle = idle;
        start = start;
        begins = begins;
        time = time;
        reading = announced.reading;
        dump = dump;
        entries = whole.0;
        calls = whole.1;
        adds = whole.2;
        tallies = made.0;
        drives = subst (λ (o : StartOutcome). DrivesTransition round Start (start_sheet (reporter_count s.members) run time s.quota dump) start o made.0 s.main.own later.main.own members turned) done drives;
        kept = kept;
      }

  -- once the number was got, a start is answered so
  pub start_answered : (run : ℕ) (reply : RunReply) (before after : AheadTold) (old ready new : CommandPoint M) → GotNumber run old ready → AnswersBegin round run reply before after ready new
      → AnswersStart round reply before after old new
  start_answered run (run_started number) before after old ready new got begins =
      subst (λ (n : ℕ). MakesStart round n Completed before after old new) (sym begins.0) (ready, got, begins.1)
  start_answered run (StartRefused client why) before after old ready new got begins = (run, (ready, got, begins))
  start_answered run (RunNumber have) before after old ready new got begins = absurd begins
  start_answered run (WrongState state) before after old ready new got begins = absurd begins
  start_answered run LastStart before after old ready new got begins = absurd begins
  start_answered run (run_paused number) before after old ready new got begins = absurd begins
  start_answered run (run_resumed number) before after old ready new got begins = absurd begins
  start_answered run (run_stopped number) before after old ready new got begins = absurd begins

  pub start_answers : (result : Result RunReply NoMemory) (run : ℕ) (before after : AheadTold) (old ready new : CommandPoint M) → GotNumber run old ready
      → IfOk result (λ reply. AnswersBegin round run reply before after ready new) → IfOk result (λ reply. AnswersStart round reply before after old new)
  start_answers (Ok reply) run before after old ready new got begins = start_answered run reply before after old ready new got begins
  start_answers (Err wanting) run before after old ready new got begins = tt

  pub start_cut : (result : Result RunReply NoMemory) (run : ℕ) (before after : AheadTold) (old ready new : CommandPoint M) → IsOk (begin_known (known_from old.runs.main.own) Start) → GotNumber run old ready
      → OnErr result (CutsBegin run before after ready new) → OnErr result (CutsStart before after old new)
  start_cut (Ok reply) run before after old ready new begins got cut = tt
  start_cut (Err wanting) run before after old ready new begins got cut = record { begins = begins; cut = inr (run, ready, got, cut) }

  pub drives_stop : CallsAreEntries → (r : CurrentRun) (start time : ℕ) (outcome : StartOutcome) (state : RunState) (saved : Result (List ℕ) NoMemory) (lacking : Bool) (sheet : Sheet) (tallies : List ClientTally) (before after : AheadTold)
      (own later : List EngineEntry) (a b c : DatabaseAccess) (members turned : M) → state ≡ (known_from own).state
      → begin_known (known_from own) Stop ≡ Ok start → ReadsClock before after time → ((entries : List WatchEntry) × AnnouncesStop state time saved entries × AddsEntries a b entries)
      → SetsNumbers b c (state_set Stopped) → sheet ≡ later_sheet r time (dump_saved saved) → DrivesTransition round Stop sheet start outcome tallies own later members turned
      → outcome ≡ Completed → lacking ≡ is_err saved
      → DrivesStop round r time lacking tallies before after own later a c members turned
  drives_stop are r start time outcome state saved lacking sheet tallies before after own later a b c members turned state_is begun reading announced sets sheet_is made completed lacks =
      let k : MainKnows = known_from own in
      let first : AnnouncesStop k.state time saved announced.0 = subst (λ (x : RunState). AnnouncesStop x time saved announced.0) state_is announced.1 in
      let whole : (entries : List WatchEntry) × StopCalls k.state time saved entries × AddsEntries a c entries = stop_calls are a b c k.state time saved announced.0 first announced.2 sets in
      let by_sheet : DrivesTransition round Stop (later_sheet r time (dump_saved saved)) start outcome tallies own later members turned =
      subst (λ (x : Sheet). DrivesTransition round Stop x start outcome tallies own later members turned) sheet_is made in
      record {
        saved = saved;
        lacks = lacks;
        start = start;
        begins = begun;
        reading = reading;
        entries = whole.0;
        calls = whole.1;
        adds = whole.2;
        drives = subst (λ (o : StartOutcome). DrivesTransition round Stop (later_sheet r time (dump_saved saved)) start o tallies own later members turned) completed by_sheet;
      }

  pub stops_run : (r : CurrentRun) (time : ℕ) (lacking : Bool) (tallies : List ClientTally) (before after : AheadTold) (s later : RunsSeen) (a c : DatabaseAccess) (members turned : M)
      → (d : DrivesStop round r time lacking tallies before after s.main.own later.main.own a c members turned)
      → s.on ≡ Some r → begin_known (known_from s.main.own) Stop ≡ Ok r.start → later ≡ with_calls (behind_stop s r time tallies) later.main.own
      → MakesStop round r d.saved before after (point_of s a members) (point_of later c turned)
  stops_run r time lacking tallies before after s later a c members turned d on begins kept = record {
    on = on;
    begins = begins;
    time = time;
    reading = d.reading;
    entries = d.entries;
    calls = d.calls;
    adds = d.adds;
    tallies = tallies;
    drives = subst (λ (n : ℕ). DrivesTransition round Stop (later_sheet r time (dump_saved d.saved)) n Completed tallies s.main.own later.main.own members turned)
        (same_number d.start r.start (known_from s.main.own) d.begins begins) d.drives;
    kept = kept;
  }

  -- the same, where the text was saved or not
  pub stop_unsaved : (r : CurrentRun) (saved : Result (List ℕ) NoMemory) (before after : AheadTold) (old new : CommandPoint M) → is_err saved ≡ true → MakesStop round r saved before after old new
      → StopsUnsaved round before after old new
  stop_unsaved r saved before after old new is makes = (r, subst (λ (x : Result (List ℕ) NoMemory). MakesStop round r x before after old new) (saved_none saved is) makes)

  pub stop_answered : (r : CurrentRun) (saved : Result (List ℕ) NoMemory) (before after : AheadTold) (old new : CommandPoint M) → is_err saved ≡ false → MakesStop round r saved before after old new
      → AnswersStop round (run_stopped r.run) before after old new
  stop_answered r saved before after old new is makes =
      let dump : (text : List ℕ) × (saved ≡ Ok text) = saved_some saved is in
      (r, refl, dump.0, subst (λ (x : Result (List ℕ) NoMemory). MakesStop round r x before after old new) dump.1 makes)
