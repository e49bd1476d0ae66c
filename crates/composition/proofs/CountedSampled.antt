-- The session with an analyzer is as is said of it.
use Rattle.std.specs.Prelude.{◌≡◌, ◌≢◌, ℕ, zero, suc, ◌+◌, ◌==◌, Bool, true, false, List, [], ◌∷◌, ◌++◌, length, take, drop, slice_get, Some, None, Ok, refl, ◌⊎◌}
use Rattle.std.specs.List.{AllByRecursion}
use Rattle.std.proofs.Common.{ap, sym, ◌∙◌, subst, arith, inl, inr, ne_eqb, length-append}
use Rattle.std.proofs.lemmas.Bool.{eqb-true, eqb-false}
use Rattle.daq_types.specs.Callers.{entries_by}
use Rattle.daq_types.specs.declared.events.Event.{Event}
use Rattle.daq_types.specs.declared.runs.Kind.TheVariants.{All}
use Rattle.daq_types.specs.declared.runs.RunState.TheVariants.{Stopped, Running}
use Rattle.daq_types.specs.declared.runs.Transition.{Transition}
use Rattle.daq_types.specs.declared.runs.Transition.TheVariants.{Start, Stop}
use Rattle.event.specs.Events.{encoding, all_encoded, matches, slot_of_length}
use Rattle.event.proofs.Events.{length-encoding}
use Rattle.buffer_core.proofs.SlotLaws.{split}
use Rattle.buffer_core.specs.declared.gate.RunGate.TheVariants.{Shut}
use Rattle.buffer_core.specs.declared.replies.Received.TheVariants.{Got, Empty}
use Rattle.buffer_core.specs.declared.entry.BufferEntry.{BufferEntry}
use Rattle.buffer_core.specs.declared.entry.BufferEntry.TheVariants.{Attach, Request, Cancel, Receive, Accepted}
use Rattle.buffer_core.specs.Window.{opening, no_clients, no_requests, any}
use Rattle.buffer_core.specs.Histories.{History, IsLegal}
use Rattle.buffer_core.specs.Samples.{sample_event, longer_event}
use Rattle.event_report.specs.Reports.{Totals, report_of}
use Rattle.transitions.specs.declared.answers.Answer.TheVariants.{Yes}
use Rattle.transitions.specs.declared.answers.Tally.TheVariants.{Plain, Channels, Report}
use Rattle.transitions.specs.declared.entry.EngineEntry.TheVariants.{Register, Begin}
use Rattle.transitions.specs.Called.{called_list}
use Rattle.transitions.specs.Engines.{engine_opening}
use Rattle.transitions.specs.EngineCalls.{order_for}
use Rattle.transitions.specs.EngineSamples.{at_all}
use Rattle.transitions.specs.Sequences.{sequence_for}
use Rattle.member_model.specs.RunEngines.{Sheet, Answer as ClientAnswer, EngineEntry, EngineHistory, IsLegalEngine, IsSheet}
use Rattle.member_model.specs.Turns.{MemberTurn, HasTurn}
use Rattle.member_model.specs.SentCalls.{EachCall}
use Rattle.member_model.specs.OwnCalls.{calls_after, AreOwnCalls, SendsNone, AreGivenBy}
use Rattle.member_model.specs.LoggerKept.{LoggerPort, IsStartAnswer, KeepsLogger}
use Rattle.front_ends.specs.FrontKept.{KeepsFront, KeepsMoments}
use Rattle.analyzers.specs.CountedRuns.{IsWhollyCounted}
use Rattle.analyzers.specs.AnalyzerKept.{count_request, IsReportOfRun, KeepsAnalyzer}
use Rattle.history_laws.specs.OneCaller.{WasSentAt}
use Rattle.history_laws.specs.CallerSamples.{got_first}
use Rattle.history_laws.specs.BegunTurns.{IsRegisteredIn}
use Rattle.composition.specs.SentSets.{AreTurnSets}
use Rattle.history_laws.specs.SeenRuns.{SeesRun}
use Rattle.composition.specs.Sessions.{SessionFront, SessionAnalyzer, HasAnalyzer, IsMemberCaller, turns_of, buffer_calls, database_calls, IsRegistered, MembersKeep}
use Rattle.composition.specs.SessionRuns.{IsStoppedRun, ReportsRun, SawThrough, analyzer_events}
use Rattle.composition.specs.CompositionLaws.{ReportsWhole, GotWhole}
use Rattle.composition.specs.SessionSamples.{first_sheet, last_sheet, sample_front, sample_files}
use Rattle.composition.specs.CountedSamples.{counted_sheet, counted_report, counted_engine, counted_history, counted_analyzer, counted_session, counted_run}
use Rattle.composition.specs.NeededSamples.{SessionPremise, LegalBuffers, LegalEngine, OwnNames, MemberCalls, KeptFronts, FrontMoments, FrontNumbers, KeptLogger, LoggerEvents, KeptAnalyzers, AnalyzerEvents, FrontsThere, AnalyzersThere, LoggerThere, OneDump, MeetsSession, FailsSession}
use Rattle.composition.proofs.Sampled.{first_fair, last_fair, front_keeps, front_moments, front_set}

-- The histories are legal.

counted_legal : (buffer : ℕ) → IsLegal (opening 48) (counted_history buffer)
unfolding no_clients no_requests slot_of_length matches
counted_legal zero = (refl, (refl, (refl, (refl, (refl, (refl, (refl, (refl, (refl, tt)))))))))
counted_legal (suc n) = tt

counted_fair : IsSheet counted_sheet
counted_fair = record { short = first_fair.short; blank = (refl, tt) }

pub counted_engine_legal : (report : Totals) → IsLegalEngine engine_opening (counted_engine report)
unfolding called_list
counted_engine_legal report =
    (refl, refl, (refl, refl, (refl, refl, ((refl, counted_fair), refl, (tt, refl, (tt, refl, (tt, refl, (tt, refl, (tt, refl, (tt, refl, (refl, (refl, refl), ((refl, last_fair), refl, (tt, refl, (tt, refl, (tt, refl, (tt, refl, (tt, refl, (tt, refl, (refl, (refl, refl), tt)))))))))))))))))))

-- Its callers are its members.

counted_callers : (told : Event) (buffer caller : ℕ) → (entries_by caller (counted_history buffer) ≡ []) ⊎ IsMemberCaller (counted_session told) buffer caller
counted_callers told (suc n) caller = inl refl
counted_callers told zero caller =
    split (1 == caller) (λ b. (1 == caller) ≡ b → (entries_by caller (counted_history 0) ≡ []) ⊎ IsMemberCaller (counted_session told) 0 caller)
    (λ h e. inr (inl (sym (eqb-true 1 caller e))))
    (λ h e. split (2 == caller) (λ b. (2 == caller) ≡ b → (entries_by caller (counted_history 0) ≡ []) ⊎ IsMemberCaller (counted_session told) 0 caller)
    (λ h' e'. inr (inr (inl (record { front = sample_front; stands = (0, refl); buffer_is = refl; caller_is = eqb-true 2 caller e' }))))
    (λ h' e'. split (3 == caller) (λ b. (3 == caller) ≡ b → (entries_by caller (counted_history 0) ≡ []) ⊎ IsMemberCaller (counted_session told) 0 caller)
    (λ h'' e''. inr (inr (inr (record { analyzer = counted_analyzer told; stands = (0, refl); buffer_is = refl; caller_is = eqb-true 3 caller e'' }))))
    (λ h'' e''. inl (rw (ne_eqb 1 caller (eqb-false 1 caller e), ne_eqb 2 caller (eqb-false 2 caller e'), ne_eqb 3 caller (eqb-false 3 caller e'')) refl))
    refl)
    refl)
    refl

pub the_front : (P : SessionFront → Type 0) → P sample_front → (f : SessionFront) → (at : (index : ℕ) × (slice_get (sample_front ∷ []) index ≡ Some f)) → P f
the_front P it f (zero, e) = let same : sample_front ≡ f = cc (e) in subst P same it
the_front P it f (suc n, e) = absurd (cc (e))

pub the_analyzer : (P : SessionAnalyzer → Type 0) (b : SessionAnalyzer) → P b → (a : SessionAnalyzer) → (at : (index : ℕ) × (slice_get (b ∷ []) index ≡ Some a)) → P a
the_analyzer P b it a (zero, e) = let same : b ≡ a = cc (e) in subst P same it
the_analyzer P b it a (suc n, e) = absurd (cc (e))

-- The logger, which marks the run and has no channel.

abbrev marking_start : MemberTurn
marking_start = record { transition = Start; order = order_for first_sheet 1 Stopped; dump = Some (7 ∷ []); answer = Some (Yes Plain) }

abbrev marking_stop : MemberTurn
marking_stop = record { transition = Stop; order = order_for last_sheet 1 Running; dump = Some (8 ∷ []); answer = Some (Yes (Channels [])) }

abbrev marking_turns : List MemberTurn
marking_turns = marking_stop ∷ marking_start ∷ []

abbrev pub marking_port : (history : (buffer : ℕ) → History) → (buffer : ℕ) → LoggerPort
marking_port history buffer = record { own = entries_by 1 (history buffer); got = [] }

-- an answered start among two turns, of which the earlier is one, was accepted plainly
start_answer : (stop start : MemberTurn) → stop.transition ≡ Stop → start.answer ≡ Some (Yes Plain) → (t : MemberTurn) (answer : ClientAnswer) → HasTurn (stop ∷ start ∷ []) t → t.transition ≡ Start → t.answer ≡ Some answer → IsStartAnswer answer
start_answer stop start stops accepted t answer (inl same) is told = absurd (let e : Stop ≡ Start = sym stops ∙ (ap (λ (v : MemberTurn). v.transition) same ∙ is) in cc (e))
start_answer stop start stops accepted t answer (inr (inl same)) is told =
    let e : Some (Yes Plain) ≡ Some answer = sym accepted ∙ (ap (λ (v : MemberTurn). v.answer) same ∙ told) in
    let f : Yes Plain ≡ answer = cc (e) in
    subst IsStartAnswer f refl
start_answer stop start stops accepted t answer (inr (inr none)) is told = absurd none

pub marking_logger : (history : (buffer : ℕ) → History) → ((buffer : ℕ) → EachCall SendsNone (entries_by 1 (history buffer))) → ((buffer : ℕ) → AreOwnCalls (calls_after [] (entries_by 1 (history buffer))))
    → KeepsLogger [] (marking_port history) marking_turns sample_files
marking_logger history silent own = record {
  sends_none = silent;
  own_calls = own;
  starts = start_answer marking_stop marking_start refl refl;
  stops = λ are begin stop accepted stands is answered index channel at. absurd (cc (at));
  ended = λ are stop index channel told at tells is. absurd (cc (at));
  broken = λ are stop index channel told at tells is. absurd (cc (at));
}

counted_logger : KeepsLogger [] (marking_port counted_history) marking_turns sample_files
counted_logger = marking_logger counted_history silent own
  where
    silent : (buffer : ℕ) → EachCall SendsNone (entries_by 1 (counted_history buffer))
    silent zero = (tt, (tt, tt))
    silent (suc n) = tt

    own : (buffer : ℕ) → AreOwnCalls (calls_after [] (entries_by 1 (counted_history buffer)))
    own zero = (tt, (tt, tt))
    own (suc n) = tt

-- The analyzer.

abbrev counting_start : MemberTurn
counting_start = record { transition = Start; order = order_for first_sheet 1 Stopped; dump = None; answer = Some (Yes Plain) }

abbrev counting_stop : (told : Event) → MemberTurn
counting_stop told = record { transition = Stop; order = order_for last_sheet 1 Running; dump = None; answer = Some (Yes (Report (counted_report told))) }

abbrev counting_turns : (told : Event) → List MemberTurn
counting_turns told = counting_stop told ∷ counting_start ∷ []

abbrev counting_by : List BufferEntry
counting_by = Attach [] (Ok 0) ∷ Request 0 any any All (Ok 0) ∷ Receive 0 0 (Got 0 1) ∷ Accepted 1 ∷ Receive 0 0 (Empty Shut 1) ∷ []

abbrev counting_calls : List BufferEntry
counting_calls = counting_by ++ Cancel 0 0 (Ok tt) ∷ []

abbrev wholly_counted : (told : Event) → IsWhollyCounted counting_calls (got_first told ∷ []) (count_request (counted_analyzer told).wanted 0 0 1 0 0) (told ∷ [])
wholly_counted told = record {
  accepted = 1;
  reading = Receive 0 0 (Got 0 1) ∷ [];
  draining = [];
  room = 0;
  reply = Empty Shut 1;
  cancelled = Ok tt;
  own_by = counting_by;
  later = [];
  own_is = refl;
  got_by = got_first told ∷ [];
  got_later = [];
  got_is = refl;
  counted = record {
    asked = record { before = Attach [] (Ok 0) ∷ []; whole = refl; alone = λ n. refl; requests = refl; accepts = refl };
    asks_on = (tt, (tt, (tt, tt)));
    earlier = [];
    given = got_first told ∷ [];
    got_is = refl;
    gives = record { named_so = refl };
    events_are = refl;
  };
  drains = tt;
}

abbrev report_told : (told : Event) → IsReportOfRun (counted_analyzer told).wanted counting_calls (got_first told ∷ []) (counting_turns told) 1 (counted_report told)
report_told told = record {
  begin_turn = counting_start;
  is_start = record { stands = inr (inl refl); is = refl; of = refl };
  accepted = refl;
  client = 0;
  number = 0;
  earlier = 0;
  of_start = inr (inl (refl, refl));
  asked_before = 0;
  events = told ∷ [];
  counted = wholly_counted told;
  stop_turn = counting_stop told;
  is_stop = record { stands = inl refl; is = refl; of = refl };
  answered = refl;
  of_stop = inl (refl, refl);
  report_is = refl;
}

counting_keeps : (told : Event) → KeepsAnalyzer (counted_analyzer told).wanted counting_calls (got_first told ∷ []) (counting_turns told)
counting_keeps told = record {
  calls = record { only_reads = (tt, (tt, (tt, (tt, (tt, (tt, tt)))))); own_calls = (refl, (refl, (tt, (refl, (refl, (tt, tt)))))) };
  once = refl;
  asked = refl;
  reports = reports;
  starts = start_answer (counting_stop told) counting_start refl refl;
  stops = λ are start begin stop answer accepted stops is. told_so stop answer stops.stands stops.is is;
}
  where
    reports : (t : MemberTurn) (report : Totals) → HasTurn (counting_turns told) t → t.answer ≡ Some (Yes (Report report)) → (t.transition ≡ Stop) × IsReportOfRun (counted_analyzer told).wanted counting_calls (got_first told ∷ []) (counting_turns told) t.order.start report
    reports t report (inl same) is =
        let e : Some (Yes (Report (counted_report told))) ≡ Some (Yes (Report report)) = ap (λ (v : MemberTurn). v.answer) same ∙ is in
        let f : counted_report told ≡ report = cc (e) in (
          sym (ap (λ (v : MemberTurn). v.transition) same),
          subst (λ (v : MemberTurn). IsReportOfRun (counted_analyzer told).wanted counting_calls (got_first told ∷ []) (counting_turns told) v.order.start report) same
              (subst (λ (x : Totals). IsReportOfRun (counted_analyzer told).wanted counting_calls (got_first told ∷ []) (counting_turns told) 1 x) f (report_told told)),
        )
    reports t report (inr (inl same)) is = absurd (let e : Some (Yes Plain) ≡ Some (Yes (Report report)) = ap (λ (v : MemberTurn). v.answer) same ∙ is in cc (e))
    reports t report (inr (inr none)) is = absurd none

    told_so : (t : MemberTurn) (answer : ClientAnswer) → HasTurn (counting_turns told) t → t.transition ≡ Stop → t.answer ≡ Some answer → (report : Totals) × (answer ≡ Yes (Report report))
    told_so t answer (inl same) is told_it =
        let e : Some (Yes (Report (counted_report told))) ≡ Some answer = ap (λ (v : MemberTurn). v.answer) same ∙ told_it in
        let f : Yes (Report (counted_report told)) ≡ answer = cc (e) in
        (counted_report told, sym f)
    told_so t answer (inr (inl same)) is told_it = absurd (let e : Start ≡ Stop = ap (λ (v : MemberTurn). v.transition) same ∙ is in cc (e))
    told_so t answer (inr (inr none)) is told_it = absurd none

-- All are registered before the first begin.

not_begun : (place : ℕ) (dump report : Bool) (client caller : ℕ) (begun : Transition) (sheet : Sheet) (start : ℕ)
    → ◌≡◌ {A = ℕ × EngineEntry} (0, Register [] (at_all place) dump report (Ok client)) (caller, Begin begun sheet (Ok start)) → ⊥
not_begun place dump report client caller begun sheet start pair =
    let x : Register [] (at_all place) dump report (Ok client) ≡ Begin begun sheet (Ok start) = ap (λ (y : ℕ × EngineEntry). y.1) pair in
    cc (x)

there : (t : Transition) (sequence client place : ℕ) (dump report : Bool) (before after : EngineHistory) → sequence_for (at_all place) t ≡ Some sequence → IsRegisteredIn (before ++ (0, Register [] (at_all place) dump report (Ok client)) ∷ after) client t
there t sequence client place dump report before after called = record {
  before = before;
  after = after;
  caller = 0;
  name = [];
  sequences = at_all place;
  wants_dump = dump;
  wants_report = report;
  stands = refl;
  sequence = sequence;
  called = called;
}

pub logger_there : (report : Totals) (t : Transition) (sequence : ℕ) (earlier later : EngineHistory) (caller : ℕ) (begun : Transition) (sheet : Sheet) (start : ℕ) → sequence_for (at_all 1) t ≡ Some sequence → counted_engine report ≡ earlier ++ (caller, Begin begun sheet (Ok start)) ∷ later
    → IsRegisteredIn earlier 0 t
logger_there report t sequence [] later caller begun sheet start called e = absurd (not_begun 1 true false 0 caller begun sheet start (cc (e)))
logger_there report t sequence (x ∷ xs) later caller begun sheet start called e =
    let first : (0, Register [] (at_all 1) true false (Ok 0)) ≡ x = cc (e) in
    subst (λ (y : ℕ × EngineEntry). IsRegisteredIn (y ∷ xs) 0 t) first (there t sequence 0 1 true false [] xs called)

pub front_there : (report : Totals) (t : Transition) (sequence : ℕ) (earlier later : EngineHistory) (caller : ℕ) (begun : Transition) (sheet : Sheet) (start : ℕ) → sequence_for (at_all 2) t ≡ Some sequence → counted_engine report ≡ earlier ++ (caller, Begin begun sheet (Ok start)) ∷ later
    → IsRegisteredIn earlier 1 t
front_there report t sequence [] later caller begun sheet start called e = absurd (not_begun 1 true false 0 caller begun sheet start (cc (e)))
front_there report t sequence (x ∷ []) later caller begun sheet start called e = absurd (not_begun 2 false false 1 caller begun sheet start (cc (e)))
front_there report t sequence (x ∷ y ∷ ys) later caller begun sheet start called e =
    let second : (0, Register [] (at_all 2) false false (Ok 1)) ≡ y = cc (e) in
    subst (λ (z : ℕ × EngineEntry). IsRegisteredIn (x ∷ z ∷ ys) 1 t) second (there t sequence 1 2 false false (x ∷ []) ys called)

pub analyzer_there : (report : Totals) (t : Transition) (sequence : ℕ) (earlier later : EngineHistory) (caller : ℕ) (begun : Transition) (sheet : Sheet) (start : ℕ) → sequence_for (at_all 3) t ≡ Some sequence → counted_engine report ≡ earlier ++ (caller, Begin begun sheet (Ok start)) ∷ later
    → IsRegisteredIn earlier 2 t
analyzer_there report t sequence [] later caller begun sheet start called e = absurd (not_begun 1 true false 0 caller begun sheet start (cc (e)))
analyzer_there report t sequence (x ∷ []) later caller begun sheet start called e = absurd (not_begun 2 false false 1 caller begun sheet start (cc (e)))
analyzer_there report t sequence (x ∷ y ∷ []) later caller begun sheet start called e = absurd (not_begun 3 false true 2 caller begun sheet start (cc (e)))
analyzer_there report t sequence (x ∷ y ∷ z ∷ zs) later caller begun sheet start called e =
    let third : (0, Register [] (at_all 3) false true (Ok 2)) ≡ z = cc (e) in
    subst (λ (w : ℕ × EngineEntry). IsRegisteredIn (x ∷ y ∷ w ∷ zs) 2 t) third (there t sequence 2 3 false true (x ∷ y ∷ []) zs called)

-- All but that the analyzer got what was sent holds whatever event it got.

others_of_counted : (told : Event) (other : SessionPremise) → other ≢ AnalyzerEvents → MeetsSession other (counted_session told)
others_of_counted told LegalBuffers ne = counted_legal
others_of_counted told LegalEngine ne = counted_engine_legal (counted_report told)
others_of_counted told OwnNames ne = (tt, (tt, (tt, (tt, (refl, (refl, (refl, (refl, (refl, (refl, (tt, (tt, (refl, (refl, (refl, (refl, (refl, (refl, (tt, tt)))))))))))))))))))
others_of_counted told MemberCalls ne = counted_callers told
others_of_counted told KeptFronts ne = the_front (λ (x : SessionFront). KeepsFront x.takes x.makes (buffer_calls (counted_session told) x.buffer x.client) (turns_of (counted_session told) x.client)) front_keeps
others_of_counted told FrontMoments ne = the_front (λ (x : SessionFront). KeepsMoments (buffer_calls (counted_session told) x.buffer x.client) (turns_of (counted_session told) x.client) x.moments) front_moments
others_of_counted told FrontNumbers ne = λ f has are. the_front (λ (x : SessionFront). AreTurnSets x.name (buffer_calls (counted_session told) x.buffer x.client) (turns_of (counted_session told) x.client) x.moments (database_calls (counted_session told) x.client)) front_set f has
others_of_counted told KeptLogger ne = counted_logger
others_of_counted told LoggerEvents ne = λ buffer. tt
others_of_counted told KeptAnalyzers ne = the_analyzer (λ (x : SessionAnalyzer). KeepsAnalyzer x.wanted (buffer_calls (counted_session told) x.buffer x.client) x.got (turns_of (counted_session told) x.client)) (counted_analyzer told) (counting_keeps told)
others_of_counted told AnalyzerEvents ne = absurd (ne refl)
others_of_counted told FrontsThere ne = the_front (λ (x : SessionFront). IsRegistered (counted_session told) x.client Start × IsRegistered (counted_session told) x.client Stop) (
  (λ earlier later caller begun sheet start e. front_there (counted_report told) Start 2 earlier later caller begun sheet start refl e),
  (λ earlier later caller begun sheet start e. front_there (counted_report told) Stop 2 earlier later caller begun sheet start refl e),
)
others_of_counted told AnalyzersThere ne = the_analyzer (λ (x : SessionAnalyzer). IsRegistered (counted_session told) x.client Start × IsRegistered (counted_session told) x.client Stop) (counted_analyzer told) (
  (λ earlier later caller begun sheet start e. analyzer_there (counted_report told) Start 3 earlier later caller begun sheet start refl e),
  (λ earlier later caller begun sheet start e. analyzer_there (counted_report told) Stop 3 earlier later caller begun sheet start refl e),
)
others_of_counted told LoggerThere ne = (
  (λ earlier later caller begun sheet start e. logger_there (counted_report told) Start 1 earlier later caller begun sheet start refl e),
  (λ earlier later caller begun sheet start e. logger_there (counted_report told) Stop 1 earlier later caller begun sheet start refl e),
)
others_of_counted told OneDump ne = (((λ e. refl), (λ e. refl)), (((λ (e : false ≡ true). absurd (cc (e))), (λ (e : 1 ≡ 0). absurd (omega (arith, e)))), (((λ (e : false ≡ true). absurd (cc (e))), (λ (e : 2 ≡ 0). absurd (omega (arith, e)))), (tt, (tt, (tt, (tt, (tt, (tt, (tt, (tt, (tt, (tt, (tt, (tt, (tt, (tt, (tt, (tt, tt)))))))))))))))))))

-- What it got was sent, where it got the event that was sent.

counted_got : (a : SessionAnalyzer) → HasAnalyzer (counted_session sample_event) a → AllByRecursion (WasSentAt (counted_history a.buffer)) a.got × AreGivenBy (buffer_calls (counted_session sample_event) a.buffer a.client) a.got
counted_got = the_analyzer (λ (x : SessionAnalyzer). AllByRecursion (WasSentAt (counted_history x.buffer)) x.got × AreGivenBy (buffer_calls (counted_session sample_event) x.buffer x.client) x.got) (counted_analyzer sample_event) ((refl, tt), record { named_so = refl })

pub counted_keeps : MembersKeep (counted_session sample_event)
counted_keeps = record {
  buffers_legal = others_of_counted sample_event LegalBuffers (λ e. cc (e));
  engine_legal = others_of_counted sample_event LegalEngine (λ e. cc (e));
  own_clients = others_of_counted sample_event OwnNames (λ e. cc (e));
  callers = others_of_counted sample_event MemberCalls (λ e. cc (e));
  fronts_keep = others_of_counted sample_event KeptFronts (λ e. cc (e));
  fronts_moments = others_of_counted sample_event FrontMoments (λ e. cc (e));
  fronts_set = others_of_counted sample_event FrontNumbers (λ e. cc (e));
  logger_keeps = others_of_counted sample_event KeptLogger (λ e. cc (e));
  logger_got = others_of_counted sample_event LoggerEvents (λ e. cc (e));
  analyzers_keep = others_of_counted sample_event KeptAnalyzers (λ e. cc (e));
  analyzers_got = counted_got;
  fronts_registered = others_of_counted sample_event FrontsThere (λ e. cc (e));
  analyzers_registered = others_of_counted sample_event AnalyzersThere (λ e. cc (e));
  logger_registered = others_of_counted sample_event LoggerThere (λ e. cc (e));
  one_dump = others_of_counted sample_event OneDump (λ e. cc (e));
}

pub counted_stopped : IsStoppedRun (counted_session sample_event) (counted_run sample_event)
counted_stopped = record {
  started = record {
    earlier = take 3 (counted_engine (counted_report sample_event));
    between = take 6 (drop 4 (counted_engine (counted_report sample_event)));
    later = drop 11 (counted_engine (counted_report sample_event));
    opener = 0;
    closer = 0;
    whole = refl;
    on = (refl, (refl, (refl, (refl, (refl, (refl, tt))))));
  };
  stopped = record {
    earlier = take 11 (counted_engine (counted_report sample_event));
    between = take 6 (drop 12 (counted_engine (counted_report sample_event)));
    later = [];
    opener = 0;
    closer = 0;
    whole = refl;
    on = (refl, (refl, (refl, (refl, (refl, (refl, tt))))));
  };
}

-- The analyzer saw the run through.

pub saw_run : (told : Event) → (so : ReportsRun (counted_session told) (counted_run told) (counted_analyzer told) (counted_report told)) × SawThrough (counted_history 0) 3 so
saw_run told = (
  report_told told,
  record {
    before = (3, Attach [] (Ok 0)) ∷ [];
    running = take 3 (drop 2 (counted_history 0));
    draining = (3, Accepted 1) ∷ [];
    after = (3, Cancel 0 0 (Ok tt)) ∷ [];
    by = 1;
    ended = 1;
    room = 0;
    gate = Shut;
    last = 1;
    whole = refl;
    by_request = refl;
    early = tt;
    lives = (tt, (tt, tt));
  },
)

counted_sees : SeesRun (counted_history 0) 3 0 any any 1 1
counted_sees = record {
  before = (3, Attach [] (Ok 0)) ∷ [];
  running = take 3 (drop 2 (counted_history 0));
  draining = (3, Accepted 1) ∷ [];
  after = (3, Cancel 0 0 (Ok tt)) ∷ [];
  number = 0;
  by = 1;
  room = 0;
  gate = Shut;
  last = 1;
  whole = refl;
  early = tt;
  alone = λ n. refl;
  keeps = (tt, (tt, tt));
}

-- What it was told is needed.

-- the event between the marks
one_event : analyzer_events (counted_session longer_event) (counted_run longer_event) (counted_analyzer longer_event) ≡ sample_event ∷ []
unfolding matches
one_event = refl

-- how many bytes a report counts
bytes_in : (es : List Event) → (report_of es).bytes ≡ length (all_encoded es)
unfolding report_of
bytes_in es = refl

one_encoded : (e : Event) → length (all_encoded (e ∷ [])) ≡ 16 + length e.body
one_encoded e = omega (arith, length-append (encoding e) [], length-encoding e)

other_report : report_of (longer_event ∷ []) ≡ report_of (sample_event ∷ []) → ⊥
other_report e =
    let bytes : length (all_encoded (longer_event ∷ [])) ≡ length (all_encoded (sample_event ∷ [])) = sym (bytes_in (longer_event ∷ [])) ∙ (ap (λ (x : Totals). x.bytes) e ∙ bytes_in (sample_event ∷ [])) in
    let long : length (all_encoded (longer_event ∷ [])) ≡ 17 = one_encoded longer_event in
    let short : length (all_encoded (sample_event ∷ [])) ≡ 16 = one_encoded sample_event in
    let never : 17 ≡ 16 = sym long ∙ (bytes ∙ short) in
    omega (arith, never)

pub counted_needed : FailsSession AnalyzerEvents (counted_session longer_event) ReportsWhole
counted_needed = record {
  others = others_of_counted longer_event;
  wrong = λ law.
      let saw = saw_run longer_event in
      let all = law (counted_run longer_event) (counted_analyzer longer_event) (0, refl) (counted_report longer_event) saw.0 saw.1 in
      other_report (saw.0.report_is ∙ ap report_of (all.counted ∙ one_event));
}

one_got : longer_event ∷ [] ≡ sample_event ∷ [] → ⊥
one_got e = other_report (ap report_of e)

pub got_needed : FailsSession AnalyzerEvents (counted_session longer_event) GotWhole
got_needed = record {
  others = others_of_counted longer_event;
  wrong = λ law. one_got (law (counted_run longer_event) (counted_analyzer longer_event) (0, refl) 0 1 counted_sees ∙ one_event);
}
