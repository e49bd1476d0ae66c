-- That an analyzer makes one request for each start is needed: one that asks a second time in a run reports what it got since.
use Rattle.std.specs.Prelude.{◌≡◌, ◌≢◌, ℕ, zero, suc, ◌+◌, ◌==◌, true, false, List, [], ◌∷◌, ◌++◌, take, drop, Ok, refl, ◌⊎◌}
use Rattle.std.specs.List.{AllByRecursion}
use Rattle.std.proofs.Common.{ap, sym, ◌∙◌, subst, arith, inl, inr, ne_eqb}
use Rattle.std.proofs.lemmas.Bool.{eqb-true, eqb-false}
use Rattle.daq_types.specs.Callers.{entries_by}
use Rattle.daq_types.specs.declared.runs.Kind.TheVariants.{All}
use Rattle.daq_types.specs.declared.runs.Transition.TheVariants.{Start, Stop}
use Rattle.event.specs.Events.{matches, slot_of_length}
use Rattle.buffer_core.proofs.SlotLaws.{split}
use Rattle.buffer_core.specs.declared.gate.RunGate.TheVariants.{Shut}
use Rattle.buffer_core.specs.declared.replies.Received.TheVariants.{Got, Empty}
use Rattle.buffer_core.specs.declared.entry.BufferEntry.{BufferEntry}
use Rattle.buffer_core.specs.declared.entry.BufferEntry.TheVariants.{Attach, Request, Cancel, Receive, Accepted}
use Rattle.buffer_core.specs.Window.{opening, no_clients, no_requests, any}
use Rattle.buffer_core.specs.Histories.{IsLegal}
use Rattle.buffer_core.specs.Samples.{sample_event}
use Rattle.event_report.specs.Reports.{report_of}
use Rattle.member_model.specs.Turns.{MemberTurn}
use Rattle.member_model.specs.SentCalls.{EachCall}
use Rattle.member_model.specs.OwnCalls.{calls_after, AreOwnCalls, SendsNone, AreGivenBy, LeavesAsking, KeepsAsking}
use Rattle.front_ends.specs.FrontKept.{KeepsFront, KeepsMoments}
use Rattle.analyzers.specs.CountedRuns.{requests_by, requests_made}
use Rattle.analyzers.specs.AnalyzerKept.{starts_accepted, HasTurnBehind}
use Rattle.history_laws.specs.OneCaller.{WasSentAt}
use Rattle.composition.specs.SentSets.{AreTurnSets}
use Rattle.composition.specs.Sessions.{SessionFront, SessionAnalyzer, IsMemberCaller, turns_of, buffer_calls, database_calls, IsRegistered}
use Rattle.composition.specs.SessionRuns.{IsStoppedRun, ReportsRun}
use Rattle.composition.specs.CompositionLaws.{ReportsSo}
use Rattle.composition.specs.SessionSamples.{sample_front}
use Rattle.composition.specs.CountedSamples.{counted_engine, counted_analyzer, asked_history, asked_twice, asked_run}
use Rattle.composition.specs.NeededSamples.{SessionPremise, LegalBuffers, LegalEngine, OwnNames, MemberCalls, KeptFronts, FrontMoments, FrontNumbers, KeptLogger, LoggerEvents, KeptAnalyzers, AnalyzerEvents, FrontsThere, AnalyzersThere, LoggerThere, OneDump, MeetsSession, FailsSession}
use Rattle.composition.proofs.Sampled.{front_keeps, front_moments, front_set}
use Rattle.composition.proofs.CountedSampled.{counted_engine_legal, the_front, the_analyzer, marking_logger, logger_there, front_there, analyzer_there}

-- All but its contract holds.

asked_legal : (buffer : ℕ) → IsLegal (opening 48) (asked_history buffer)
unfolding no_clients no_requests slot_of_length matches
asked_legal zero = (refl, (refl, (refl, (refl, (refl, (refl, (refl, (refl, (refl, (refl, (refl, tt)))))))))))
asked_legal (suc n) = tt

asked_callers : (buffer caller : ℕ) → (entries_by caller (asked_history buffer) ≡ []) ⊎ IsMemberCaller asked_twice buffer caller
asked_callers (suc n) caller = inl refl
asked_callers zero caller =
    split (1 == caller) (λ b. (1 == caller) ≡ b → (entries_by caller (asked_history 0) ≡ []) ⊎ IsMemberCaller asked_twice 0 caller)
    (λ h e. inr (inl (sym (eqb-true 1 caller e))))
    (λ h e. split (2 == caller) (λ b. (2 == caller) ≡ b → (entries_by caller (asked_history 0) ≡ []) ⊎ IsMemberCaller asked_twice 0 caller)
    (λ h' e'. inr (inr (inl (record { front = sample_front; stands = (0, refl); buffer_is = refl; caller_is = eqb-true 2 caller e' }))))
    (λ h' e'. split (3 == caller) (λ b. (3 == caller) ≡ b → (entries_by caller (asked_history 0) ≡ []) ⊎ IsMemberCaller asked_twice 0 caller)
    (λ h'' e''. inr (inr (inr (record { analyzer = counted_analyzer sample_event; stands = (0, refl); buffer_is = refl; caller_is = eqb-true 3 caller e'' }))))
    (λ h'' e''. inl (rw (ne_eqb 1 caller (eqb-false 1 caller e), ne_eqb 2 caller (eqb-false 2 caller e'), ne_eqb 3 caller (eqb-false 3 caller e'')) refl))
    refl)
    refl)
    refl

silent : (buffer : ℕ) → EachCall SendsNone (entries_by 1 (asked_history buffer))
silent zero = (tt, (tt, tt))
silent (suc n) = tt

own : (buffer : ℕ) → AreOwnCalls (calls_after [] (entries_by 1 (asked_history buffer)))
own zero = (tt, (tt, tt))
own (suc n) = tt

others_of_asked : (other : SessionPremise) → other ≢ KeptAnalyzers → MeetsSession other asked_twice
others_of_asked LegalBuffers ne = asked_legal
others_of_asked LegalEngine ne = counted_engine_legal (report_of [])
others_of_asked OwnNames ne = (tt, (tt, (tt, (tt, (refl, (refl, (refl, (refl, (refl, (refl, (tt, (tt, (refl, (refl, (refl, (refl, (refl, (refl, (tt, tt)))))))))))))))))))
others_of_asked MemberCalls ne = asked_callers
others_of_asked KeptFronts ne = the_front (λ (x : SessionFront). KeepsFront x.takes x.makes (buffer_calls asked_twice x.buffer x.client) (turns_of asked_twice x.client)) front_keeps
others_of_asked FrontMoments ne = the_front (λ (x : SessionFront). KeepsMoments (buffer_calls asked_twice x.buffer x.client) (turns_of asked_twice x.client) x.moments) front_moments
others_of_asked FrontNumbers ne = λ f has are. the_front (λ (x : SessionFront). AreTurnSets x.name (buffer_calls asked_twice x.buffer x.client) (turns_of asked_twice x.client) x.moments (database_calls asked_twice x.client)) front_set f has
others_of_asked KeptLogger ne = marking_logger asked_history silent own
others_of_asked LoggerEvents ne = λ buffer. tt
others_of_asked KeptAnalyzers ne = absurd (ne refl)
others_of_asked AnalyzerEvents ne = the_analyzer (λ (x : SessionAnalyzer). AllByRecursion (WasSentAt (asked_history x.buffer)) x.got × AreGivenBy (buffer_calls asked_twice x.buffer x.client) x.got) (counted_analyzer sample_event) ((refl, tt), record { named_so = refl })
others_of_asked FrontsThere ne = the_front (λ (x : SessionFront). IsRegistered asked_twice x.client Start × IsRegistered asked_twice x.client Stop) (
  (λ earlier later caller begun sheet start e. front_there (report_of []) Start 2 earlier later caller begun sheet start refl e),
  (λ earlier later caller begun sheet start e. front_there (report_of []) Stop 2 earlier later caller begun sheet start refl e),
)
others_of_asked AnalyzersThere ne = the_analyzer (λ (x : SessionAnalyzer). IsRegistered asked_twice x.client Start × IsRegistered asked_twice x.client Stop) (counted_analyzer sample_event) (
  (λ earlier later caller begun sheet start e. analyzer_there (report_of []) Start 3 earlier later caller begun sheet start refl e),
  (λ earlier later caller begun sheet start e. analyzer_there (report_of []) Stop 3 earlier later caller begun sheet start refl e),
)
others_of_asked LoggerThere ne = (
  (λ earlier later caller begun sheet start e. logger_there (report_of []) Start 1 earlier later caller begun sheet start refl e),
  (λ earlier later caller begun sheet start e. logger_there (report_of []) Stop 1 earlier later caller begun sheet start refl e),
)
others_of_asked OneDump ne = (((λ e. refl), (λ e. refl)), (((λ (e : false ≡ true). absurd (cc (e))), (λ (e : 1 ≡ 0). absurd (omega (arith, e)))), (((λ (e : false ≡ true). absurd (cc (e))), (λ (e : 2 ≡ 0). absurd (omega (arith, e)))), (tt, (tt, (tt, (tt, (tt, (tt, (tt, (tt, (tt, (tt, (tt, (tt, (tt, (tt, (tt, (tt, tt)))))))))))))))))))

asked_stopped : IsStoppedRun asked_twice asked_run
asked_stopped = record {
  started = record {
    earlier = take 3 (counted_engine (report_of []));
    between = take 6 (drop 4 (counted_engine (report_of [])));
    later = drop 11 (counted_engine (report_of []));
    opener = 0;
    closer = 0;
    whole = refl;
    on = (refl, (refl, (refl, (refl, (refl, (refl, tt))))));
  };
  stopped = record {
    earlier = take 11 (counted_engine (report_of []));
    between = take 6 (drop 12 (counted_engine (report_of [])));
    later = [];
    opener = 0;
    closer = 0;
    whole = refl;
    on = (refl, (refl, (refl, (refl, (refl, (refl, tt))))));
  };
}

-- Its report is that of no run by the request of the run's start.

-- the calls behind its first request
abbrev behind_first : List BufferEntry
behind_first = Receive 0 0 (Got 0 1) ∷ Cancel 0 0 (Ok tt) ∷ Request 0 any any All (Ok 0) ∷ Accepted 1 ∷ Receive 0 0 (Empty Shut 1) ∷ Cancel 0 0 (Ok tt) ∷ []

abbrev asked_calls : List BufferEntry
asked_calls = Attach [] (Ok 0) ∷ Request 0 any any All (Ok 0) ∷ behind_first

-- by the first request no count was asked for before the request was cancelled
first_not_counted : (client accepted : ℕ) (reading more later : List BufferEntry) → client ≡ 0 → KeepsAsking client (reading ++ Accepted accepted ∷ more) → behind_first ≡ (reading ++ Accepted accepted ∷ more) ++ later → ⊥
first_not_counted client accepted [] more later own_is keeps is =
    let never : Receive 0 0 (Got 0 1) ≡ Accepted accepted = cc (is) in cc (never)
first_not_counted client accepted (x ∷ []) more later own_is keeps is =
    let never : Cancel 0 0 (Ok tt) ≡ Accepted accepted = cc (is) in cc (never)
first_not_counted client accepted (x ∷ y ∷ reading) more later own_is keeps is =
    let cancel : Cancel 0 0 (Ok tt) ≡ y = cc (is) in
    let other : 0 ≢ client = subst (LeavesAsking client) (sym cancel) keeps.1.0 in
    other (sym own_is)

not_first : (client number accepted : ℕ) (id mask : ℕ) (before reading more later : List BufferEntry) → requests_made before ≡ 0 → KeepsAsking client (reading ++ Accepted accepted ∷ more)
    → asked_calls ≡ (before ++ Request client id mask All (Ok number) ∷ (reading ++ Accepted accepted ∷ more)) ++ later → ⊥
not_first client number accepted id mask [] reading more later none keeps is =
    let never : Attach [] (Ok 0) ≡ Request client id mask All (Ok number) = cc (is) in cc (never)
not_first client number accepted id mask (x ∷ []) reading more later none keeps is =
    let here : Request 0 any any All (Ok 0) ≡ Request client id mask All (Ok number) = cc (is) in
    let client_is : 0 ≡ client = cc (here) in
    let rest : behind_first ≡ (reading ++ Accepted accepted ∷ more) ++ later = cc (is) in
    first_not_counted client accepted reading more later (sym client_is) keeps rest
not_first client number accepted id mask (x ∷ y ∷ before) reading more later none keeps is =
    let here : Request 0 any any All (Ok 0) ≡ y = cc (is) in
    let one : 1 ≡ requests_by y = ap requests_by here in
    let never : requests_by x + (requests_by y + requests_made before) ≡ 0 = none in
    omega (arith, one, never)

-- its one start has none before it
none_before : (turns : List MemberTurn) (stop start t : MemberTurn) (starts : ℕ) → turns ≡ stop ∷ start ∷ [] → stop.transition ≡ Stop → t.transition ≡ Start → HasTurnBehind starts_accepted turns t starts → starts ≡ 0
none_before turns stop start t starts are stops is has = by_place (subst (λ (ts : List MemberTurn). HasTurnBehind starts_accepted ts t starts) are has)
  where
    by_place : HasTurnBehind starts_accepted (stop ∷ start ∷ []) t starts → starts ≡ 0
    by_place (inl here) = absurd (let e : Stop ≡ Start = sym stops ∙ (ap (λ (v : MemberTurn). v.transition) here.0 ∙ is) in cc (e))
    by_place (inr (inl here)) = sym here.1
    by_place (inr (inr none)) = absurd none

no_report : ReportsRun asked_twice asked_run (counted_analyzer sample_event) (report_of []) → ⊥
no_report it = in_turns (turns_of asked_twice 2) refl it
  where
    in_turns : (turns : List MemberTurn) → turns ≡ turns_of asked_twice 2 → ReportsRun asked_twice asked_run (counted_analyzer sample_event) (report_of []) → ⊥
    in_turns [] is told = absurd (cc (is))
    in_turns (stop ∷ []) is told = absurd (cc (is))
    in_turns (stop ∷ start ∷ t ∷ more) is told = absurd (cc (is))
    in_turns (stop ∷ start ∷ []) is told =
        let w = told.counted in
        let stops : stop.transition ≡ Stop = cc (is) in
        let first : told.earlier ≡ 0 = none_before (turns_of asked_twice 2) stop start told.begin_turn told.earlier (sym is) stops told.is_start.is told.of_start in
        not_first told.client told.number w.accepted any any w.counted.asked.before w.reading (w.draining ++ Receive told.client w.room w.reply ∷ []) (Cancel told.client told.number w.cancelled ∷ w.later)
        (w.counted.asked.requests ∙ first) w.counted.asks_on (w.own_is ∙ ap (λ (l : List BufferEntry). l ++ Cancel told.client told.number w.cancelled ∷ w.later) w.counted.asked.whole)

pub asked_needed : FailsSession KeptAnalyzers asked_twice ReportsSo
asked_needed = record { others = others_of_asked; wrong = λ law. no_report (law asked_run asked_stopped (counted_analyzer sample_event) (0, refl) (report_of []) (2, refl)) }
