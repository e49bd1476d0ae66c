-- An analyzer of a closed session refused a start as not ready only where its sheet has fewer blank reports than there are
-- analyzers.
use Rattle.std.specs.Prelude.{◌≡◌, ℕ, suc, ◌+◌, ◌<◌, Bool, true, false, cond, length, slice_get, List, [], ◌∷◌, ◌++◌, Some, Ok, refl}
use Rattle.std.specs.List.{AllByRecursion}
use Rattle.std.proofs.Common.{ap, sym, subst, ◌∙◌, arith}
use Rattle.daq_types.specs.Callers.{caller_of_client, main_caller}
use Rattle.daq_types.specs.declared.runs.StartOutcome.TheVariants.{Refused}
use Rattle.daq_types.specs.declared.runs.Transition.TheVariants.{Start}
use Rattle.daq_types.specs.declared.runs.Why.TheVariants.{NotReady}
use Rattle.member_model.specs.RunEngines.{Sheet, ClientTally, EngineEntry}
use Rattle.transitions.specs.declared.entry.EngineEntry.TheVariants.{Register}
use Rattle.history_laws.specs.BegunTurns.{HasTransition}
use Rattle.daq_members.specs.OwnTurns.{is_call_for}
use Rattle.session_runs.specs.declared.opening.MemberName.{MemberName}
use Rattle.session_runs.specs.Members.{gets_dumps, gets_reports, member_in, registration, registrations, reporter_count}
use Rattle.session_runs.specs.RunsFit.{SteersEngine}
use Rattle.session_laws.specs.BlankLaws.{asked_by, reports_asked, AsksReports, BlanksSuffice}
use Rattle.composition.proofs.SessionTurns.{speaks}
use Rattle.session_laws.specs.ClosedSessions.{ClosedAnalyzer, ClosedSession, analyzer_client, engine_calls}
use Rattle.session_laws.specs.MembersAtEnd.{MembersAtEnd}
use Rattle.session_laws.proofs.EachCaller.{each_call}
use Rattle.session_laws.proofs.KeptTogether.{names_own}
use Rattle.std.proofs.lemmas.List.Sums.{sum_by-cons}
use Rattle.std.proofs.lemmas.Option.{same_Some}
use Rattle.transitions.specs.declared.sequences.Role.TheVariants.{Analyzer}
use Rattle.transitions.specs.declared.sequences.Sequences.{Sequences}
use Rattle.transitions.specs.Sequences.{sequences_of}

-- How many clients ask for reports.

asked_if : (report : Bool) (name : List ℕ) (sequences : Sequences) (dump : Bool) (client : ℕ) → asked_by (Register name sequences dump report (Ok client)) ≡ cond report 1 0
asked_if true name sequences dump client = refl
asked_if false name sequences dump client = refl

members_count : (first : ℕ) (ms : List MemberName) (later : List EngineEntry) → reports_asked (registrations first ms ++ later) ≡ reporter_count ms + reports_asked later
members_count first [] later = grind arith
members_count first (m ∷ ms) later =
    let here : asked_by (registration first m) ≡ cond (gets_reports m.role) 1 0 = asked_if (gets_reports m.role) m.name (sequences_of m.role) (gets_dumps m.role) first in
    let rest = members_count (suc first) ms later in
    let counted : reporter_count (m ∷ ms) ≡ cond (gets_reports m.role) 1 0 + reporter_count ms = sum_by-cons (λ (x : MemberName). cond (gets_reports x.role) 1 0) m ms in
    omega (arith, here, rest, counted)

steered_none : (e : EngineEntry) (es : List EngineEntry) → SteersEngine e → reports_asked (e ∷ es) ≡ reports_asked es
steered_none (Register name sequences dump report reply) es is = absurd is
steered_none e es is = omega arith

later_none : (es : List EngineEntry) → AllByRecursion SteersEngine es → reports_asked es ≡ 0
later_none [] all = refl
later_none (e ∷ es) all = steered_none e es all.0 ∙ later_none es all.1

-- as many as there are analyzers
asked_so : (c : ClosedSession) (ends : MembersAtEnd c) → reports_asked (engine_calls c main_caller) ≡ length c.analyzers
asked_so c ends =
    let whole = ap reports_asked ends.main.calls in
    let count = members_count 0 c.registered ends.main.later in
    let none = later_none ends.main.later ends.main.steers in
    omega (arith, whole, count, none, ends.named.reporters)

-- Each analyzer does.

asks_at : (c : ClosedSession) → MembersAtEnd c → (place : ℕ) (a : ClosedAnalyzer) → slice_get c.analyzers place ≡ Some a → (client : ℕ) (m : MemberName) → slice_get c.registered client ≡ Some m → client ≡ analyzer_client c place → gets_reports m.role ≡ true
asks_at c ends place a there client m at is =
    let same : m ≡ member_in Analyzer a.name = same_Some m (member_in Analyzer a.name) (sym at ∙ ap (λ (n : ℕ). slice_get c.registered n) is ∙ ends.named.analyzers place a there) in
    ap (λ (x : MemberName). gets_reports x.role) same

asks_call : (n by client : ℕ) (e : EngineEntry) → is_call_for client e ≡ true → AsksReports n (by, e)
asks_call n by client (Register name sequences dump report reply) is = absurd (cc (is))
asks_call n by client e is = tt

asks_steered : (n by : ℕ) (e : EngineEntry) → SteersEngine e → AsksReports n (by, e)
asks_steered n by (Register name sequences dump report reply) is = absurd is
asks_steered n by e is = tt

asks_reports : (c : ClosedSession) → MembersAtEnd c → (place : ℕ) (a : ClosedAnalyzer) → slice_get c.analyzers place ≡ Some a → AllByRecursion (AsksReports (analyzer_client c place)) c.engine
asks_reports c ends place a there =
    let n : ℕ = analyzer_client c place in
    each_call c ends (λ by e. AsksReports n (by, e)) (asks_at c ends place a there) (asks_steered n main_caller) (λ client. asks_call n (caller_of_client client) client)

pub few_blanks : BlanksSuffice → (c : ClosedSession) (ends : MembersAtEnd c) (place : ℕ) (a : ClosedAnalyzer) → slice_get c.analyzers place ≡ Some a → (sheet : Sheet) (start : ℕ) (tallies : List ClientTally)
    → HasTransition c.engine Start sheet start (Refused (analyzer_client c place) NotReady) tallies → length sheet.blanks < length c.analyzers
few_blanks law c ends place a at sheet start tallies has =
    let client : ℕ = analyzer_client c place in
    subst (λ (n : ℕ). length sheet.blanks < n) (asked_so c ends)
    (law (caller_of_client client) client c.engine ends.engine (speaks client c.engine (names_own c ends)) (asks_reports c ends place a at) (ends.analyzers place a at).stands.blanks sheet start tallies has)
