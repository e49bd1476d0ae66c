-- What front-ends sent in a run, by the engine's history and the buffers'.
use Rattle.std.specs.Prelude.{◌≡◌, ℕ, zero, suc, Bool, true, false, if◌then◌else◌, List, [], ◌∷◌, ◌++◌, length, slice_get, Contains, Some, Ok, refl}
use Rattle.std.proofs.Common.{ap, sym, ◌∙◌, subst, arith, inl, inr, length-append}
use Rattle.daq_types.specs.Callers.{caller_of_client, entries_by}
use Rattle.daq_types.specs.declared.events.Event.{Event}
use Rattle.daq_types.specs.declared.runs.FrontEnded.{FrontEnded}
use Rattle.daq_types.specs.declared.runs.FrontEnded.TheVariants.{Quota, Paused as EndedPaused, Spent as EndedSpent}
use Rattle.daq_types.specs.declared.runs.Order.{Order}
use Rattle.daq_types.specs.declared.runs.StartOutcome.TheVariants.{Completed}
use Rattle.daq_types.specs.declared.runs.Transition.TheVariants.{Start, Stop}
use Rattle.daq_types.specs.declared.runs.Why.TheVariants.{NotReady}
use Rattle.buffer_core.specs.declared.entry.BufferEntry.{BufferEntry}
use Rattle.buffer_core.specs.declared.entry.BufferEntry.TheVariants.{Send, SendInRun}
use Rattle.buffer_core.specs.Histories.{History}
use Rattle.transitions.specs.declared.answers.Answer.TheVariants.{Yes, No}
use Rattle.transitions.specs.declared.answers.Tally.TheVariants.{Plain, Front}
use Rattle.transitions.specs.declared.replies.Progress.TheVariants.{Done}
use Rattle.transitions.specs.declared.entry.EngineEntry.TheVariants.{Check}
use Rattle.transitions.specs.EnginePoints.{tally_of}
use Rattle.member_model.specs.RunEngines.{Answer, Tally}
use Rattle.member_model.specs.Turns.{MemberTurn, IsAcceptedStart, HasTurnOf, AreEngineTurns}
use Rattle.member_model.specs.SentCalls.{own_sent, EachCall, WasSpent}
use Rattle.member_model.specs.OwnCalls.{SendsNone}
use Rattle.front_ends.specs.FrontKept.{made_events, EndedSo, IsFrontTally, KeepsFront}
use Rattle.analyzers.specs.AnalyzerKept.{IsAnalyzerCall}
use Rattle.history_laws.specs.OneCaller.{HaveRunSends}
use Rattle.history_laws.specs.CallerLaws.{IsSendOf, SendsStandInOrder, SentByCaller, SendIsAmong, SendsOrReads, MembersFit}
use Rattle.history_laws.specs.BegunTurns.{HasTally}
use Rattle.composition.specs.Sessions.{Session, SessionFront, turns_of, buffer_calls, MembersKeep}
use Rattle.composition.specs.SessionRuns.{SessionRun, IsStoppedRun, run_order, TellsFront, EndedIn, IsOfFront}
use Rattle.composition.specs.CompositionLaws.{FrontsTell, FrontsSent, FrontsStand, OnlyFrontsSent, SegmentsAreMade}
use Rattle.composition.proofs.SessionTurns.{EngineFacts, are_turns, start_turn, StopTally, number_of, stop_tally, HasStartTally, start_tally, last_tally}

-- What a front-end told at the stop.

pub yes_front : (answer : Answer) (sent : ℕ) (ended : FrontEnded) → Front sent ended ≡ tally_of answer → answer ≡ Yes (Front sent ended)
yes_front (Yes tally) sent ended e = ap (λ (t : Tally). Yes t) (sym e)
yes_front (No why) sent ended e = absurd (cc (e))

length_made : (makes : Order → ℕ → Event) (order : Order) (n : ℕ) → length (made_events makes order n) ≡ n
length_made makes order zero = refl
length_made makes order (suc n) = omega (arith, length-append (made_events makes order n) (makes order (suc n) ∷ []), length_made makes order n)

ended_in : (laws : EngineFacts) (s : Session) (keep : MembersKeep s) (r : SessionRun) (run : IsStoppedRun s r) (f : SessionFront) (sent : ℕ) (ended : FrontEnded) (t : StopTally s r run f.client (Front sent ended))
    → EndedSo (buffer_calls s f.buffer f.client) (turns_of s f.client) t.turn.order sent ended → EndedIn s r f sent ended
ended_in laws s keep r run f sent Quota t so =
    let number : t.turn.order.start ≡ r.start = number_of Stop r.last r.start t.turn t.of_begin in
    let of : HasTurnOf (turns_of s f.client) Start r.start so.0 = subst (λ (n : ℕ). HasTurnOf (turns_of s f.client) Start n so.0) number so.1 in
    so.2 ∙ ap (λ (o : Order). o.quota) (start_turn laws s keep r run f.client so.0 of).order
ended_in laws s keep r run f sent EndedPaused t so = record {
  earlier = run.stopped.earlier;
  later = run.stopped.between ++ (run.stopped.closer, Check (Done Completed) r.last_tallies) ∷ run.stopped.later;
  caller = run.stopped.opener;
  stands = run.stopped.whole;
  paused = sym (ap (λ (o : Order). o.from) t.of_begin.order) ∙ so;
}
ended_in laws s keep r run f sent (EndedSpent total) t so = subst (λ (n : ℕ). WasSpent (buffer_calls s f.buffer f.client) n total) (number_of Stop r.last r.start t.turn t.of_begin) so

pub fronts_sent : EngineFacts → (s : Session) → MembersKeep s → FrontsSent s
fronts_sent laws s keep r run f has sent ended tells =
    let own : List BufferEntry = buffer_calls s f.buffer f.client in
    let turns : List MemberTurn = turns_of s f.client in
    let keeps : KeepsFront f.takes f.makes own turns = keep.fronts_keep f has in
    let are : AreEngineTurns turns = are_turns laws s keep f.client in
    let t : StopTally s r run f.client (Front sent ended) = stop_tally laws s keep r run f.client tells.0 (Front sent ended) tells.1 in
    let answered : t.turn.answer ≡ Some (Yes (Front sent ended)) = t.answered ∙ ap (λ (a : Answer). Some a) (yes_front t.answer sent ended t.tally_is) in
    let tally : IsFrontTally own turns t.turn.order sent ended = keeps.tallies are t.turn sent ended t.stands (t.completed refl) answered in
    let count : length (own_sent own r.start) ≡ sent = subst (λ (n : ℕ). length (own_sent own n) ≡ sent) (number_of Stop r.last r.start t.turn t.of_begin) tally.number in
    record {
      events = elim (keeps.made are r.start) as (λ w. own_sent own r.start ≡ made_events f.makes (run_order r) sent) [
        | inl none ↦
            let zero_is : 0 ≡ sent = sym (ap (λ (es : List Event). length es) none) ∙ count in
            none ∙ ap (made_events f.makes (run_order r)) zero_is
        | inr m ↦
            let number : m.number ≡ sent = sym (length_made f.makes m.turn.order m.number) ∙ (sym (ap (λ (es : List Event). length es) m.sent) ∙ count) in
            m.sent
            ∙ (ap (λ (o : Order). made_events f.makes o m.number) (start_turn laws s keep r run f.client m.turn m.is_start).order
            ∙ ap (made_events f.makes (run_order r)) number)
      ];
      ended_so = ended_in laws s keep r run f sent ended t tally.ended_so;
    }

pub fronts_stand : EngineFacts → SendsStandInOrder → (s : Session) → MembersKeep s → FrontsStand s
fronts_stand laws stand s keep r run f has sent ended tells =
    sym (stand (s.size f.buffer) (s.history f.buffer) (keep.buffers_legal f.buffer) (caller_of_client f.client) r.start) ∙ (fronts_sent laws s keep r run f has sent ended tells).events

-- That it told at all.

taken_plain : (takes : Bool) (tally : Tally) (a : Answer) → Some a ≡ Some (if takes then Yes Plain else No NotReady) → a ≡ Yes tally → Some a ≡ Some (Yes Plain)
taken_plain true tally a e is = e
taken_plain false tally a e is = absurd (let never : Some (Yes tally) ≡ Some (No NotReady) = sym (ap (λ (x : Answer). Some x) is) ∙ e in cc (never))

retold : (r : SessionRun) (client index : ℕ) (tally : Tally) (sent : ℕ) (ended : FrontEnded) → slice_get r.last_tallies index ≡ Some (record { client = client; tally = tally }) → tally ≡ Front sent ended → TellsFront r client sent ended
retold r client index tally sent ended at is = (index, at ∙ ap (λ (x : Tally). Some (record { client = client; tally = x })) is)

told_as : (tally : Tally) (answer : Answer) (sent : ℕ) (ended : FrontEnded) → tally ≡ tally_of answer → answer ≡ Yes (Front sent ended) → tally ≡ Front sent ended
told_as tally answer sent ended is answered = is ∙ ap tally_of answered

pub fronts_tell : EngineFacts → (s : Session) → MembersKeep s → FrontsTell s
fronts_tell laws s keep r run f has =
    let turns : List MemberTurn = turns_of s f.client in
    let keeps : KeepsFront f.takes f.makes (buffer_calls s f.buffer f.client) turns = keep.fronts_keep f has in
    let are : AreEngineTurns turns = are_turns laws s keep f.client in
    let registered = keep.fronts_registered f has in
    let first : HasStartTally s r run f.client = start_tally laws s keep r run f.client registered.0 in
    let t0 = first.told in
    let starts : t0.turn.transition ≡ Start = t0.completed refl in
    let number0 : t0.turn.order.start ≡ r.start = number_of Start r.first r.start t0.turn t0.of_begin in
    let plain : Some t0.answer ≡ Some (Yes Plain) = taken_plain (f.takes t0.turn.order) first.tally t0.answer (ap (λ (x : Answer). Some x) (keeps.starts t0.turn t0.answer t0.stands starts t0.answered)) (t0.accepted starts) in
    let accepted : IsAcceptedStart turns r.start t0.turn = record { is_start = record { stands = t0.stands; is = starts; of = number0 }; accepted = t0.answered ∙ plain } in
    let last : HasTally f.client r.last_tallies = last_tally laws s keep r run f.client registered.1 in
    let t1 : StopTally s r run f.client last.1 = stop_tally laws s keep r run f.client last.0 last.1 last.2 in
    let number1 : t1.turn.order.start ≡ r.start = number_of Stop r.last r.start t1.turn t1.of_begin in
    let told = keeps.stops are r.start t0.turn t1.turn t1.answer accepted (record { stands = t1.stands; is = t1.completed refl; of = number1 }) t1.answered in
    (told.0, told.1, retold r f.client last.0 last.1 told.0 told.1 last.2 (told_as last.1 t1.answer told.0 told.1 t1.tally_is told.2))

-- Who sent what stands between the marks.

no_send : (own before after : List BufferEntry) (e : BufferEntry) → own ≡ [] → own ≡ before ++ e ∷ after → ⊥
no_send own [] after e none is = let never : [] ≡ e ∷ after = sym none ∙ is in cc (never)
no_send own (b ∷ before) after e none is = let never : [] ≡ b ∷ (before ++ e ∷ after) = sym none ∙ is in cc (never)

each_at : (P : BufferEntry → Type 0) (before after : List BufferEntry) (e : BufferEntry) → EachCall P (before ++ e ∷ after) → P e
each_at P [] after e each = each.0
each_at P (b ∷ before) after e each = each_at P before after e each.1

analyzer_silent : (e : BufferEntry) → IsAnalyzerCall e → SendsNone e
analyzer_silent (Send stated event reply) reads = absurd reads
analyzer_silent (SendInRun start stated event reply) reads = absurd reads
analyzer_silent e reads = tt

analyzers_silent : (own : List BufferEntry) → EachCall IsAnalyzerCall own → EachCall SendsNone own
analyzers_silent [] each = tt
analyzers_silent (e ∷ own) each = (analyzer_silent e each.0, analyzers_silent own each.1)

pub each_reads_or_sends : (s : Session) → MembersKeep s → (buffer caller : ℕ) → SendsOrReads (entries_by caller (s.history buffer))
each_reads_or_sends s keep buffer caller = elim (keep.callers buffer caller) as (λ w. SendsOrReads (entries_by caller (s.history buffer))) [
  | inl none ↦ subst SendsOrReads (sym none) (inl tt)
  | inr member ↦ elim member as (λ w. SendsOrReads (entries_by caller (s.history buffer))) [
    | inl logger ↦
        subst (λ (by : ℕ). SendsOrReads (entries_by by (s.history buffer))) (sym logger) (inr (keep.logger_keeps.sends_none buffer, keep.logger_keeps.own_calls buffer))
    | inr other ↦ elim other as (λ w. SendsOrReads (entries_by caller (s.history buffer))) [
      | inl front ↦
          let keeps = keep.fronts_keep front.front front.stands in
          subst (λ (by : ℕ). SendsOrReads (entries_by by (s.history buffer))) front.caller_is
          (subst (λ (b : ℕ). SendsOrReads (entries_by (caller_of_client front.front.client) (s.history b))) front.buffer_is (inl keeps.only_sends))
      | inr analyzer ↦
          let keeps = keep.analyzers_keep analyzer.analyzer analyzer.stands in
          subst (λ (by : ℕ). SendsOrReads (entries_by by (s.history buffer))) analyzer.caller_is
          (subst (λ (b : ℕ). SendsOrReads (entries_by (caller_of_client analyzer.analyzer.client) (s.history b))) analyzer.buffer_is
          (inr (analyzers_silent (buffer_calls s analyzer.analyzer.buffer analyzer.analyzer.client) keeps.calls.only_reads, keeps.calls.own_calls)))
    ]
  ]
]

pub only_fronts_sent : SentByCaller → MembersFit → (s : Session) → MembersKeep s → OnlyFrontsSent s
only_fronts_sent sent fit s keep buffer start index place x at =
    let h : History = s.history buffer in
    let runs : HaveRunSends h = (fit h (each_reads_or_sends s keep buffer)).1 in
    let it : (caller : ℕ) × IsSendOf (entries_by caller h) start place x.event = sent (s.size buffer) h (keep.buffers_legal buffer) runs start index place x at in
    elim (keep.callers buffer it.0) as (λ w. IsOfFront s buffer start place x.event) [
      | inl none ↦ absurd (no_send (entries_by it.0 h) it.1.before it.1.after (SendInRun start it.1.stated x.event (Ok place)) none it.1.stands)
      | inr member ↦ elim member as (λ w. IsOfFront s buffer start place x.event) [
        | inl logger ↦
            let calls : entries_by (caller_of_client s.logger) h ≡ it.1.before ++ SendInRun start it.1.stated x.event (Ok place) ∷ it.1.after = ap (λ (by : ℕ). entries_by by h) (sym logger) ∙ it.1.stands in
            absurd (each_at SendsNone it.1.before it.1.after (SendInRun start it.1.stated x.event (Ok place)) (subst (EachCall SendsNone) calls (keep.logger_keeps.sends_none buffer)))
        | inr other ↦ elim other as (λ w. IsOfFront s buffer start place x.event) [
          | inl front ↦ record {
            front = front.front;
            stands = front.stands;
            buffer_is = front.buffer_is;
            send = subst (λ (by : ℕ). IsSendOf (entries_by by h) start place x.event) (sym front.caller_is) it.1;
          }
          | inr analyzer ↦
              let own : ℕ → ℕ → List BufferEntry = λ b by. entries_by by (s.history b) in
              let reads : EachCall IsAnalyzerCall (own buffer it.0) =
              subst (λ (by : ℕ). EachCall IsAnalyzerCall (own buffer by)) analyzer.caller_is
              (subst (λ (b : ℕ). EachCall IsAnalyzerCall (own b (caller_of_client analyzer.analyzer.client))) analyzer.buffer_is (keep.analyzers_keep analyzer.analyzer analyzer.stands).calls.only_reads) in
              absurd (each_at IsAnalyzerCall it.1.before it.1.after (SendInRun start it.1.stated x.event (Ok place)) (subst (EachCall IsAnalyzerCall) it.1.stands reads))
        ]
      ]
    ]

-- And it is one of the events that this front-end told.

pub segments_are_made : EngineFacts → SentByCaller → SendIsAmong → MembersFit → (s : Session) → MembersKeep s → SegmentsAreMade s
segments_are_made laws sent among fit s keep r run buffer index place x at =
    let by : IsOfFront s buffer r.start place x.event = only_fronts_sent sent fit s keep buffer r.start index place x at in
    let f : SessionFront = by.front in
    let tells = fronts_tell laws s keep r run f by.stands in
    let is_sent : Contains (own_sent (buffer_calls s buffer f.client) r.start) x.event = among (buffer_calls s buffer f.client) r.start place x.event by.send in
    let own : List Event = own_sent (buffer_calls s f.buffer f.client) r.start in
    let here : Contains own x.event = subst (λ (b : ℕ). Contains (own_sent (buffer_calls s b f.client) r.start) x.event) (sym by.buffer_is) is_sent in
    record {
      front = f;
      stands = by.stands;
      buffer_is = by.buffer_is;
      sent = tells.0;
      ended = tells.1;
      told = tells.2;
      made = subst (λ (es : List Event). Contains es x.event) (fronts_sent laws s keep r run f by.stands tells.0 tells.1 tells.2).events here;
    }
