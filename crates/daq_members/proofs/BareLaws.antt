-- What an analyzer refused as not ready came without a blank report, behind each of its turns.
use Rattle.std.specs.Prelude.{◌≡◌, ℕ, ◌==◌, Bool, true, false, List, [], ◌∷◌, ◌++◌, Option, Some, None, Result, Ok, Err, refl}
use Rattle.std.proofs.Common.{ap, sym, subst, ◌∙◌, inl, inr, append_assoc}
use Rattle.std.proofs.lemmas.List.{append-nil}
use Rattle.daq_types.specs.declared.runs.Order.{Order}
use Rattle.daq_types.specs.declared.runs.Transition.{Transition}
use Rattle.daq_types.specs.declared.runs.Transition.TheVariants.{Start, Stop, Pause, Resume, StartAbort}
use Rattle.daq_types.specs.declared.runs.Why.TheVariants.{NotReady, BufferRefused}
use Rattle.buffer_core.specs.declared.replies.RequestRefusal.{RequestRefusal}
use Rattle.buffer_core.specs.Ports.{Access}
use Rattle.event_report.specs.Reports.{Totals}
use Rattle.transitions.specs.declared.answers.Answer.TheVariants.{Yes, No}
use Rattle.transitions.specs.declared.answers.Tally.TheVariants.{Plain}
use Rattle.transitions.specs.declared.replies.Polled.TheVariants.{Turn}
use Rattle.member_model.specs.RunEngines.{Answer, Tally, Polled, EngineEntry}
use Rattle.transitions.specs.declared.entry.EngineEntry.TheVariants.{Poll, Answer as Answers}
use Rattle.member_model.specs.Turns.{MemberTurn, HasTurn, latest_answered}
use Rattle.member_model.specs.TurnCalls.{member_turns}
use Rattle.analyzers.specs.declared.analyzer_run.EventRequest.{EventRequest}
use Rattle.analyzers.specs.declared.analyzer_run.AnalyzerRun.{AnalyzerRun}
use Rattle.analyzers.specs.declared.analyzer_run.AnalyzerStage.{AnalyzerStage}
use Rattle.analyzers.specs.declared.analyzer_run.AnalyzerStage.TheVariants.{Counting, Draining, Drained}
use Rattle.analyzers.specs.Analyzers.{AnalyzerAt}
use Rattle.analyzers.specs.AnalyzerTurns.{BeginsBy, RequestsRun, StartsAnalyzer, StopsOwn, StopsAnalyzer, TurnsBy, report_in, report_answer}
use Rattle.daq_members.specs.OwnTurns.{start_owed, GivesAnswer}
use Rattle.daq_members.proofs.OwnTurnLaws.{taken_turn}
use Rattle.daq_members.specs.BareTurns.{IsBareTurn, AreBare}

-- More calls.

bare_still : (client : ℕ) (calls more : List EngineEntry) (t : MemberTurn) → IsBareTurn client calls t → IsBareTurn client (calls ++ more) t
bare_still client calls more t bare = record {
  earlier = bare.earlier;
  later = bare.later ++ more;
  is = ap (λ (l : List EngineEntry). l ++ more) bare.is ∙ append_assoc bare.earlier (Poll client (Turn t.transition t.order t.dump None) ∷ bare.later) more;
  fresh = bare.fresh;
}

-- that tell no turn more
pub bare_asked : (client : ℕ) (calls later : List EngineEntry) (reply : Polled) → later ≡ calls ++ Poll client reply ∷ [] → member_turns client later ≡ member_turns client calls → AreBare client calls → AreBare client later
bare_asked client calls later reply is same bare t has no_blank =
    subst (λ (l : List EngineEntry). IsBareTurn client l t) (sym is)
    (bare_still client calls (Poll client reply ∷ []) t (bare t (subst (λ (ts : List MemberTurn). HasTurn ts t) same has) no_blank))

-- the calls behind an answer that may have been given
given_more : (client : ℕ) (answer : Option Answer) (asked later : List EngineEntry) → GivesAnswer client answer asked later → (more : List EngineEntry) × (later ≡ asked ++ more)
given_more client None asked later gives = ([], gives ∙ sym (append-nil asked))
given_more client (Some answer) asked later gives = (Answers client answer gives.0 ∷ [], gives.1)

-- A turn that is taken.

no_yes : (answer : Option Answer) (tally : Tally) → answer ≡ Some (Yes tally) → answer ≡ Some (No NotReady) → ⊥
no_yes answer tally told refused = let both : Some (Yes tally) ≡ Some (No NotReady) = sym told ∙ refused in cc (both)

not_for_buffer : (answer : Answer) → answer ≡ No BufferRefused → answer ≡ No NotReady → ⊥
not_for_buffer answer buffer refused = let both : No BufferRefused ≡ No NotReady = sym buffer ∙ refused in cc (both)

begins_ready : (reply : Result ℕ RequestRefusal) (start client : ℕ) (blank : Totals) (run : Option AnalyzerRun) (answer : Answer) → BeginsBy reply start client blank run answer → answer ≡ No NotReady → ⊥
begins_ready (Ok request) start client blank run answer begins refused = let both : Yes Plain ≡ No NotReady = sym begins.1 ∙ refused in cc (both)
begins_ready (Err why) start client blank run answer begins refused = not_for_buffer answer begins.1 refused

requests_ready : (wanted : EventRequest) (start : ℕ) (blank : Totals) (client : Option ℕ) (run : Option AnalyzerRun) (answer : Answer) (a b : Access) → RequestsRun wanted start blank client run answer a b → answer ≡ No NotReady → ⊥
requests_ready wanted start blank None run answer a b requests refused = not_for_buffer answer requests.1 refused
requests_ready wanted start blank (Some client) run answer a b requests refused = begins_ready requests.0 start client blank run answer requests.2 refused

start_bare : (blank : Option Totals) (wanted : EventRequest) (start : ℕ) (a b : AnalyzerAt) (answer : Answer) → StartsAnalyzer blank wanted start a b answer → answer ≡ No NotReady → blank ≡ None
start_bare None wanted start a b answer starts refused = refl
start_bare (Some blank) wanted start a b answer starts refused = absurd (requests_ready wanted start blank b.client b.run answer starts.attached b.port starts.request refused)

stops_ready : (is_own : Bool) (r : AnalyzerRun) (a b : AnalyzerAt) (answer : Option Answer) → StopsOwn is_own r a b answer → answer ≡ Some (No NotReady) → ⊥
stops_ready true r a b answer stops refused = let never : None ≡ Some (No NotReady) = sym stops.answer_is ∙ refused in cc (never)
stops_ready false r a b answer stops refused = no_yes answer Plain stops.0 refused

stop_ready : (run : Option AnalyzerRun) (start : ℕ) (a b : AnalyzerAt) (answer : Option Answer) → StopsAnalyzer run start a b answer → answer ≡ Some (No NotReady) → ⊥
stop_ready None start a b answer stops refused = no_yes answer Plain stops.0 refused
stop_ready (Some r) start a b answer stops refused = stops_ready (r.start == start) r a b answer stops refused

-- a turn is refused as not ready only without a blank
pub no_blank : (transition : Transition) (wanted : EventRequest) (order : Order) (blank : Option Totals) (a b : AnalyzerAt) (answer : Option Answer) → TurnsBy transition wanted order blank a b answer → answer ≡ Some (No NotReady) → blank ≡ None
no_blank Start wanted order blank a b answer turns refused =
    let both : Some turns.0 ≡ Some (No NotReady) = sym turns.1 ∙ refused in
    let is : turns.0 ≡ No NotReady = cc (both) in
    start_bare blank wanted order.start a b turns.0 turns.2 is
no_blank Stop wanted order blank a b answer turns refused = absurd (stop_ready a.run order.start a b answer turns refused)
no_blank Pause wanted order blank a b answer turns refused = absurd (no_yes answer Plain turns.0 refused)
no_blank Resume wanted order blank a b answer turns refused = absurd (no_yes answer Plain turns.0 refused)
no_blank StartAbort wanted order blank a b answer turns refused = absurd (no_yes answer Plain turns.0 refused)

pub bare_taken : (client : ℕ) (calls asked later : List EngineEntry) (transition : Transition) (order : Order) (dump : Option (List ℕ)) (blank : Option Totals) (answer : Option Answer) → start_owed client calls ≡ None
    → asked ≡ calls ++ Poll client (Turn transition order dump blank) ∷ [] → GivesAnswer client answer asked later → (answer ≡ Some (No NotReady) → blank ≡ None) → member_turns client later ≡ taken_turn transition order dump answer ∷ member_turns client calls
    → AreBare client calls → AreBare client later
bare_taken client calls asked later transition order dump blank answer owed asks gives blanks turns bare t has refused =
    let more = given_more client answer asked later gives in
    let poll : EngineEntry = Poll client (Turn transition order dump blank) in
    let later_is : later ≡ calls ++ (poll ∷ more.0) = more.1 ∙ (ap (λ (l : List EngineEntry). l ++ more.0) asks ∙ append_assoc calls (poll ∷ []) more.0) in
    let there : HasTurn (taken_turn transition order dump answer ∷ member_turns client calls) t = subst (λ (ts : List MemberTurn). HasTurn ts t) turns has in
    elim there as (λ w. IsBareTurn client later t) [
      | inl same ↦
          let none : blank ≡ None = blanks (ap (λ (u : MemberTurn). u.answer) same ∙ refused) in
          let now : IsBareTurn client later (taken_turn transition order dump answer) = record {
            earlier = calls;
            later = more.0;
            is = later_is ∙ ap (λ (b : Option Totals). calls ++ (Poll client (Turn transition order dump b) ∷ more.0)) none;
            fresh = owed;
          } in
          subst (λ (u : MemberTurn). IsBareTurn client later u) same now
      | inr old ↦ subst (λ (l : List EngineEntry). IsBareTurn client l t) (sym later_is) (bare_still client calls (poll ∷ more.0) t (bare t old refused))
    ]

-- An answer that waited.

report_ready : (stage : AnalyzerStage) (report : Totals) → report_in stage report ≡ Some (No NotReady) → ⊥
report_ready Counting report refused = cc (refused)
report_ready (Draining accepted) report refused = cc (refused)
report_ready Drained report refused = cc (refused)

pub reported_ready : (run : Option AnalyzerRun) (answer : Option Answer) → answer ≡ report_answer run → answer ≡ Some (No NotReady) → ⊥
reported_ready None answer is refused = let never : None ≡ Some (No NotReady) = sym is ∙ refused in cc (never)
reported_ready (Some r) answer is refused = report_ready r.stage r.report (sym is ∙ refused)

was_told : (turns : List MemberTurn) (answer : Option Answer) (t : MemberTurn) → (answer ≡ Some (No NotReady) → ⊥) → HasTurn (latest_answered turns answer) t → t.answer ≡ Some (No NotReady) → HasTurn turns t
was_told turns None t ready has refused = has
was_told [] (Some answer) t ready has refused = has
was_told (u ∷ us) (Some answer) t ready has refused = elim has as (λ w. HasTurn (u ∷ us) t) [
  | inl same ↦ absurd (ready (ap (λ (x : MemberTurn). x.answer) same ∙ refused))
  | inr old ↦ inr old
]

pub bare_finished : (client : ℕ) (calls asked later : List EngineEntry) (reply : Polled) (answer : Option Answer) → asked ≡ calls ++ Poll client reply ∷ [] → GivesAnswer client answer asked later → (answer ≡ Some (No NotReady) → ⊥)
    → member_turns client later ≡ latest_answered (member_turns client calls) answer → AreBare client calls → AreBare client later
bare_finished client calls asked later reply answer asks gives ready turns bare t has refused =
    let more = given_more client answer asked later gives in
    let later_is : later ≡ calls ++ (Poll client reply ∷ more.0) = more.1 ∙ (ap (λ (l : List EngineEntry). l ++ more.0) asks ∙ append_assoc calls (Poll client reply ∷ []) more.0) in
    let old : HasTurn (member_turns client calls) t = was_told (member_turns client calls) answer t ready (subst (λ (ts : List MemberTurn). HasTurn ts t) turns has) refused in
    subst (λ (l : List EngineEntry). IsBareTurn client l t) (sym later_is) (bare_still client calls (Poll client reply ∷ more.0) t (bare t old refused))
