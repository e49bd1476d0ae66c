-- What is kept of a session is what the laws of ended sessions ask for, so all that they say holds of it.
use Rattle.daq_io.specs.Told.{FilesTold}
use Rattle.std.specs.Prelude.{◌≡◌, ℕ, ◌<◌, ◌≤◌, IsTrue, List, [], ◌∷◌, ◌++◌, Ok, length, map, slice_get, Option, Some, refl}
use Rattle.std.specs.List.{AllByRecursion}
use Rattle.std.specs.Option.{option_map, option_to_list}
use Rattle.std.proofs.Common.{ap, sym, subst, ◌∙◌, append_assoc, arith}
use Rattle.std.proofs.lemmas.List.{append-nil, length-map}
use Rattle.std.proofs.lemmas.Option.{slice_get-map, slice_get_within}
use Rattle.daq_types.specs.Callers.{entries_by, main_caller}
use Rattle.daq_types.specs.declared.runs.StartOutcome.TheVariants.{Completed, Refused}
use Rattle.daq_types.specs.declared.runs.Why.{Why}
use Rattle.turn_lock.specs.Closing.{history_of}
use Rattle.transitions.specs.declared.entry.EngineEntry.TheVariants.{Close}
use Rattle.transitions.specs.EngineHistories.{engine_replay}
use Rattle.member_model.specs.RunEngines.{EngineEntry, EngineState, IsLegalEngine}
use Rattle.daq_session.specs.SessionRows.{session_rows}
use Rattle.odb_tree.specs.Noting.{Watched}
use Rattle.odb_watch.specs.Steps.{LeadsDatabase, unwatched}
use Rattle.odb_watch.specs.declared.entry.WatchEntry.{WatchEntry}
use Rattle.odb_lock.specs.SharedOdbs.{first_database}
use Rattle.session_setup.specs.Setup.{Declared, lists_declared}
use Rattle.session_setup.specs.declared.declared.BufferDeclared.{BufferDeclared}
use Rattle.session_setup.specs.declared.declared.AnalyzerDeclared.{AnalyzerDeclared}
use Rattle.session_setup.specs.declared.declared.DeclaredLists.{DeclaredLists}
use Rattle.session_setup.specs.declared.declared.FrontDeclared.{FrontDeclared}
use Rattle.session_runs.specs.declared.opening.MemberName.{MemberName}
use Rattle.session_runs.specs.Members.{MembersCounted, members_named, registrations, reporter_count, sender_count}
use Rattle.mid_logger.specs.ChannelTurns.{logger_name}
use Rattle.loggers.specs.OtherFiles.{AreDeclared, specs_in}
use Rattle.session_runs.specs.declared.records.RunRecord.{RunRecord}
use Rattle.session_runs.specs.declared.on.CurrentRun.{CurrentRun}
use Rattle.session_runs.specs.RunsFit.{FitsRun, MainOwn, RecordsFit, RunClients, SteersEngine, run_clients, start_of, start_on, starts_begun}
use Rattle.session_commands.specs.Stages.{SessionStage, members_declared}
use Rattle.session_objects.specs.declared.record.BufferRecord.{BufferRecord}
use Rattle.session_objects.specs.declared.record.SessionRecord.{SessionRecord}
use Rattle.session_objects.specs.Members.{members_told}
use Rattle.session_objects.specs.Names.{member_names}
use Rattle.session_laws.specs.ClosedSessions.{ClosedSession, engine_calls}
use Rattle.session_laws.specs.CountedFaults.{CountsHold}
use Rattle.session_laws.specs.EndLaws.{SessionHolds}
use Rattle.session_laws.specs.MembersAtEnd.{MembersAtEnd}
use Rattle.session_laws.specs.OneAnswer.{OneAnswer, RisesTold}
use Rattle.session_laws.specs.OtherNames.{AreStartsOver, IsNameKept}
use Rattle.session_laws.specs.EndedSessions.{ClosedEndsSo, SessionEnded, HoldsSo, closed_session}
use Rattle.session_laws.specs.EndedRecords.{CountsSo, IsInNoRecord, NamesSo, OneAnswerSo, RecordSo, RecordsSo, RefusalSo, RefusalsSo, RisesToldSo, StartsOverSo, clients_declared}
use Rattle.session_commands.specs.Endings.{closing_calls}
use Rattle.daq_session.specs.Played.{IsSessionRecord}
use Rattle.daq_session.specs.Sessions.{KeepsSession, main_own}
use Rattle.daq_session.specs.ToldRecords.{AreHistoriesOf, AreMainCalls, IsHistoryOf, session_told}
use Rattle.daq_session.specs.RunNumbers.{GivesNumber}
use Rattle.daq_session.proofs.MembersLaws.{names_listed}
use Rattle.daq_session.proofs.NumberLaws.{RunLaws, calls_give, session_spares}
use Rattle.daq_session.proofs.ToldRuns.{run_tells, there}

all_joined : {X : Type 0} (P : X → Type 0) (xs ys : List X) → AllByRecursion P xs → AllByRecursion P ys → AllByRecursion P (xs ++ ys)
all_joined P [] ys first second = second
all_joined P (x ∷ xs) ys first second = (first.0, all_joined P xs ys first.1 second)

-- What the laws say of a closed session with these runs.
record LawsHold (c : ClosedSession) (first now : FilesTold) (own : MainOwn) (runs : List RunRecord) : Type 0 where
  members : MembersAtEnd c
  holds : SessionHolds c
  moments : holds.moments ≡ members.moments
  over : AreStartsOver (engine_calls c main_caller)
  counts : CountsHold c first now
  one : OneAnswer runs first now
  rises : RisesTold (specs_in c.slots) runs first now
  left : IsTrue first.seen.names → (name : List ℕ) → IsInNoRecord runs name → IsNameKept c first now name
  so : (number : ℕ) → (run : RunRecord) → slice_get runs number ≡ Some run → run.outcome ≡ Completed → RecordSo c holds.moments own run
  refused : (number : ℕ) → (run : RunRecord) → slice_get runs number ≡ Some run → (client : ℕ) → (why : Why) → run.outcome ≡ Refused client why → RefusalSo c first now own run client why

-- That all of it is so, by the objects and seats of such a session.
pub record EndedLaws {D F : Type 0} {g : _} (read : F → FilesTold) (r : SessionRecord D g) : Type 0 where
  pub ends : ClosedEndsSo read r
  pub holds : HoldsSo read r
  pub starts : StartsOverSo read r
  pub counts : CountsSo read r
  pub one_answer : OneAnswerSo read r
  pub rises : RisesToldSo read r
  pub names : NamesSo read r
  pub records : RecordsSo read r
  pub refusals : RefusalsSo read r

module _ {D F : Type 0} {g : _} (read : F → FilesTold) (first_files : F) (final : SessionStage) (run_files : F) (r : SessionRecord D g)
    (kept : IsSessionRecord (members_told read) first_files final run_files r) (counted : MembersCounted) where
  names : members_declared final.declared ≡ member_names kept.lists
  names = ap members_declared (sym kept.declared)

  its_lists : kept.lists ≡ lists_declared final.declared
  its_lists = ap lists_declared kept.declared

  abbrev later : List EngineEntry
  later = kept.fits.later ++ Close (Ok tt) ∷ []

  begins : closing_calls kept.last.main.own ≡ registrations 0 (member_names kept.lists) ++ later
  begins =
      ap (λ (l : List EngineEntry). l ++ Close (Ok tt) ∷ []) kept.fits.begins
      ∙ (append_assoc (registrations 0 (members_declared final.declared)) kept.fits.later (Close (Ok tt) ∷ [])
      ∙ ap (λ (l : List MemberName). registrations 0 l ++ (kept.fits.later ++ Close (Ok tt) ∷ [])) names)

  steers : AllByRecursion SteersEngine later
  steers = all_joined SteersEngine kept.fits.later (Close (Ok tt) ∷ []) kept.fits.steers (tt, tt)

  few_analyzers : length kept.lists.analyzers ≤ 8
  few_analyzers = subst (λ (d : Declared). length d.analyzers ≤ 8) (sym kept.declared) kept.sound.few_analyzers

  abbrev ended : SessionEnded read kept.lists kept.logger r
  ended = record {
    objects = kept.objects;
    shared = kept.shared;
    own = closing_calls kept.last.main.own;
    database = final.database.access.seen;
    members = kept.members;
    callers = kept.callers;
    opening = kept.are.engine;
    are = kept.are_members;
    keep = kept.keep;
    has_logger = kept.has_logger;
    histories = kept.histories;
    calls = kept.calls;
    few_analyzers = few_analyzers;
    later = later;
    begins = begins;
    steers = steers;
  }

  abbrev own : MainOwn
  own = main_own final kept.last

  -- The records fit the main thread's own calls, by the front-ends and the channels that were declared.

  abbrev its_clients : RunClients
  its_clients = clients_declared kept.lists

  same_clients : run_clients kept.last ≡ its_clients
  same_clients =
      let fronts = map (λ (f : FrontDeclared). f.name) kept.lists.fronts in
      let analyzers = map (λ (a : AnalyzerDeclared). a.name) kept.lists.analyzers in
      let named : kept.last.members ≡ members_named fronts logger_name analyzers = kept.fits.members ∙ (names ∙ names_listed kept.lists) in
      let senders : sender_count kept.last.members ≡ length kept.lists.fronts =
      ap sender_count named ∙ (counted.senders fronts logger_name analyzers ∙ length-map kept.lists.fronts (λ (f : FrontDeclared). f.name)) in
      let reporters : reporter_count kept.last.members ≡ length kept.lists.analyzers =
      ap reporter_count named ∙ (counted.reporters fronts logger_name analyzers ∙ length-map kept.lists.analyzers (λ (a : AnalyzerDeclared). a.name)) in
      rw (senders, reporters, kept.fits.channels, ← kept.declared) refl

  fit : AllByRecursion (FitsRun its_clients own) r.runs
  fit =
      subst (λ (l : List RunRecord). AllByRecursion (FitsRun its_clients own) l) (sym kept.kept)
      (subst (λ (clients : RunClients). AllByRecursion (FitsRun clients own) kept.last.runs) same_clients kept.fits.fit.runs)

  lists_fit : RecordsFit its_clients own r.runs
  lists_fit =
      let each : map start_of kept.last.runs ≡ starts_begun kept.last.main.own =
      sym (append-nil (map start_of kept.last.runs))
      ∙ ap (λ (o : Option CurrentRun). map start_of kept.last.runs ++ option_to_list (option_map start_on o)) (sym kept.over)
      ∙ kept.fits.fit.each_start in
      record { each_start = ap (map start_of) kept.kept ∙ each; runs = fit }

  -- By the objects and seats of the session, and then by what a reader of the record knows of it.

  abbrev Laws : (opened : Watched) (lists : DeclaredLists) (first now : F) → Type 0
  Laws opened lists first now =
      LawsHold (closed_session opened lists kept.logger.slots (read first).seen (read now).seen r) (read first) (read now) own r.runs

  laws_first : EndedLaws read r → Laws (first_database kept.shared) kept.lists kept.logger.first kept.logger.files
  laws_first laws =
      let ends = laws.ends kept.lists kept.logger ended in
      let holds = laws.holds kept.lists kept.logger ended in
      record {
        members = ends.0;
        holds = holds.0;
        moments = holds.1 ∙ sym ends.1;
        over = laws.starts kept.lists kept.logger ended own (Close (Ok tt) ∷ []) refl refl lists_fit;
        counts = laws.counts kept.lists kept.logger ended;
        one = laws.one_answer kept.lists kept.logger ended own (Close (Ok tt) ∷ []) refl lists_fit;
        rises = laws.rises kept.lists kept.logger ended own (Close (Ok tt) ∷ []) refl refl lists_fit;
        left = laws.names kept.lists kept.logger ended own (Close (Ok tt) ∷ []) refl refl lists_fit;
        so = laws.records kept.lists kept.logger ended holds.0 own (Close (Ok tt) ∷ []) refl fit;
        refused = laws.refusals kept.lists kept.logger ended own (Close (Ok tt) ∷ []) refl fit;
      }

  laws_read : EndedLaws read r → Laws (unwatched session_rows) (lists_declared final.declared) first_files run_files
  laws_read laws =
      subst (λ (now : F). Laws (unwatched session_rows) (lists_declared final.declared) first_files now) kept.files
      (subst (λ (first : F). Laws (unwatched session_rows) (lists_declared final.declared) first kept.logger.files) kept.first
      (subst (λ (lists : DeclaredLists). Laws (unwatched session_rows) lists kept.logger.first kept.logger.files) its_lists
      (subst (λ (opened : Watched). Laws opened kept.lists kept.logger.first kept.logger.files) kept.rows (laws_first laws))))

  -- The histories.

  buffers_same : kept.lists.buffers ≡ final.declared.buffers
  buffers_same = ap (λ (d : Declared). d.buffers) kept.declared

  many_buffers : length r.buffers ≡ length final.declared.buffers
  many_buffers = omega (arith, kept.histories.many, kept.are.buffers.many, ap (λ (l : List BufferDeclared). length l) buffers_same)

  buffer_told : (number : ℕ) (d : BufferDeclared) (b : BufferRecord) → slice_get final.declared.buffers number ≡ Some d → slice_get r.buffers number ≡ Some b → IsHistoryOf d b
  buffer_told number d b at closed_at =
      let within : number < length kept.objects.buffers.items = omega (arith, kept.histories.many, slice_get_within r.buffers number b closed_at) in
      let shared = there kept.objects.buffers.items number within in
      let declared_at : slice_get kept.lists.buffers number ≡ Some d = subst (λ (l : List BufferDeclared). slice_get l number ≡ Some d) (sym buffers_same) at in
      let of = kept.are.buffers.each number d shared.0 declared_at shared.1 in
      let closed = kept.histories.buffers number shared.0 b shared.1 closed_at in
      record {
        name = closed.name ∙ of.name;
        size = closed.size ∙ of.size;
        legal = closed.legal;
        left = closed.left;
        delivers = closed.delivers;
        runs = closed.runs;
      }

  histories : AreHistoriesOf final.declared r
  histories = record {
    many = many_buffers;
    buffers = buffer_told;
    engine = subst (λ (e : EngineState). IsLegalEngine e (history_of r.engine)) kept.are.engine kept.histories.engine;
    engine_left = subst (λ (e : EngineState). r.engine.value.engine ≡ engine_replay e (history_of r.engine)) kept.are.engine kept.histories.engine_left;
    follows = kept.histories.follows kept.are.engine;
    database = subst (λ (w : Watched). LeadsDatabase w (history_of r.database) r.database.value.database) kept.rows kept.histories.database;
    notes = kept.histories.notes session_rows kept.rows;
  }

  main_calls : AreMainCalls own r
  main_calls =
      let engine = kept.calls.engine.parts 0 (omega (arith, kept.callers.engine)) in
      let database = kept.calls.database.parts 0 kept.callers.main in
      record {
        engine = engine.1.own ∙ engine.2;
        database = database.1.own ∙ (ap (entries_by main_caller) database.2
            ∙ ap (λ (by : ℕ). entries_by by final.database.access.seen) (sym kept.caller));
      }

  -- one record for each start
  records_fit : RecordsFit (clients_declared (lists_declared final.declared)) own r.runs
  records_fit = subst (λ (lists : DeclaredLists). RecordsFit (clients_declared lists) own r.runs) its_lists lists_fit

  -- no two records of one start
  differ : RunLaws → MembersAtEnd (session_told (members_told read) final.declared kept.logger.slots first_files run_files r) → (number other : ℕ) (run second : RunRecord)
      → slice_get r.runs number ≡ Some run → slice_get r.runs other ≡ Some second → run.start ≡ second.start → number ≡ other
  differ laws members number other run second at second_at same =
      let of : (n : ℕ) (x : RunRecord) → slice_get r.runs n ≡ Some x → slice_get (starts_begun own.engine) n ≡ Some x.start =
      λ n x x_at. subst (λ (l : List ℕ). slice_get l n ≡ Some x.start) records_fit.each_start (slice_get-map start_of r.runs n ∙ ap (option_map start_of) x_at) in
      laws.differ (session_told (members_told read) final.declared kept.logger.slots first_files run_files r) members own.engine (Close (Ok tt) ∷ []) main_calls.engine
      number other run.start (of number run at) (of other second second_at ∙ ap Some (sym same))

  -- each answer that the run number got
  numbers : RunLaws → (holds : SessionHolds (session_told (members_told read) final.declared kept.logger.slots first_files run_files r)) → AllByRecursion GivesNumber own.database
  numbers laws holds =
      let c : ClosedSession = session_told (members_told read) final.declared kept.logger.slots first_files run_files r in
      subst (λ (calls : List WatchEntry). AllByRecursion GivesNumber calls) main_calls.database
      (calls_give laws.stays laws.given main_caller (unwatched session_rows) (history_of r.database) r.database.value.database histories.database
      (session_spares laws.sets laws.listed c holds own main_calls.database kept.spares) laws.opens)

  channels : AreDeclared final.declared.channels kept.logger.slots
  channels = subst (λ (lists : DeclaredLists). AreDeclared lists.channels kept.logger.slots) its_lists kept.channels

  pub keeps : RunLaws → EndedLaws read r → KeepsSession (members_told read) first_files final run_files r
  keeps number_laws ended_laws =
      let laws = laws_read ended_laws in
      let given : AllByRecursion GivesNumber own.database = numbers number_laws laws.holds in
      record {
        sound = kept.sound;
        last = kept.last;
        is_open = kept.is_open;
        over = kept.over;
        kept = kept.kept;
        tells = record {
          histories = histories;
          main = main_calls;
          fit = records_fit;
          differ = differ number_laws laws.members;
          numbers = given;
          slots = kept.logger.slots;
          channels = channels;
          members = laws.members;
          holds = laws.holds;
          moments = laws.moments;
          over = laws.over;
          counts = laws.counts;
          one_answer = laws.one;
          rises = laws.rises;
          left = laws.left;
          runs = λ number run at whole.
              run_tells (session_told (members_told read) final.declared kept.logger.slots first_files run_files r) final.declared r.buffers kept.sound many_buffers refl refl refl channels
              laws.holds.moments own given (read first_files) (read run_files) laws.counts laws.holds.composed number_laws.listed number_laws.among run (laws.so number run at whole);
          refusals = laws.refused;
        };
      }
