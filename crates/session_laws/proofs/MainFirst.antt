-- The main thread registered all members before it began a transition.
use Rattle.std.specs.Prelude.{◌≡◌, ℕ, List, [], ◌∷◌, ◌++◌, slice_get, Some, Ok}
use Rattle.std.proofs.Common.{ap, sym, subst, ◌∙◌, arith, append_assoc}
use Rattle.daq_types.specs.Callers.{entries_by, main_caller}
use Rattle.daq_types.specs.declared.runs.Transition.{Transition}
use Rattle.transitions.specs.declared.sequences.Role.TheVariants.{Logger}
use Rattle.transitions.specs.Sequences.{sequence_for, sequences_of}
use Rattle.transitions.specs.declared.entry.EngineEntry.TheVariants.{Begin}
use Rattle.transitions.specs.Engines.{engine_opening}
use Rattle.transitions.specs.EngineCalls.{engine_after}
use Rattle.member_model.specs.RunEngines.{Sheet, EngineEntry, EngineState, EngineHistory, IsEngineCaller, IsLegalEngine}
use Rattle.history_laws.proofs.MainCalls.{OwnAt, own_at}
use Rattle.session_runs.specs.declared.opening.MemberName.{MemberName}
use Rattle.session_runs.specs.Members.{gets_dumps, gets_reports, member_in, registration, registrations}
use Rattle.mid_logger.specs.ChannelTurns.{logger_name}
use Rattle.composition.specs.Sessions.{IsRegistered}
use Rattle.session_laws.specs.ClosedSessions.{ClosedSession, logger_client, session_of}
use Rattle.session_laws.specs.MembersAtEnd.{MembersAtEnd}
use Rattle.session_laws.proofs.EachCaller.{own_around}
use Rattle.session_laws.proofs.Registrations.{Among, registered_at, behind_all}

pub may_call : (s : EngineState) (xs : EngineHistory) (x : ℕ × EngineEntry) (ys : EngineHistory) → IsLegalEngine s (xs ++ x ∷ ys) → IsEngineCaller x.0 x.1
may_call s [] x ys legal = legal.0
may_call s (y ∷ xs) x ys legal = may_call (engine_after s y.1) xs x ys legal.2

no_begin : (t : Transition) (sheet : Sheet) (start : ℕ) (k : ℕ) (m : MemberName) → Begin t sheet (Ok start) ≡ registration k m → ⊥
no_begin t sheet start k m is = absurd (cc (is))

pub registered : (c : ClosedSession) → MembersAtEnd c → (client : ℕ) (m : MemberName) → slice_get c.registered client ≡ Some m
    → (transition : Transition) (sequence : ℕ) → sequence_for (sequences_of m.role) transition ≡ Some sequence → (moments : ℕ → List ℕ) → IsRegistered (session_of c moments) client transition
registered c ends client m at transition sequence called moments earlier later caller begun sheet start whole =
    let members : List MemberName = c.registered in
    let begin : EngineEntry = Begin begun sheet (Ok start) in
    let may : IsEngineCaller caller (Begin begun sheet (Ok start)) = may_call engine_opening earlier (caller, Begin begun sheet (Ok start)) later (subst (IsLegalEngine engine_opening) whole ends.engine) in
    let by_main : c.engine ≡ earlier ++ (main_caller, begin) ∷ later = whole ∙ ap (λ (n : ℕ). earlier ++ (n, Begin begun sheet (Ok start)) ∷ later) may.0 in
    let own : entries_by main_caller earlier ++ begin ∷ entries_by main_caller later ≡ registrations 0 members ++ ends.main.later =
    sym (ap (entries_by main_caller) by_main ∙ own_around main_caller earlier later begin) ∙ ends.main.calls in
    let first = behind_all 0 members (entries_by main_caller earlier) begin (entries_by main_caller later) ends.main.later (no_begin begun sheet start) own in
    let there : Among (registrations 0 members) (registration client m) = registered_at 0 client client members m (omega arith) at in
    let placed : entries_by main_caller earlier ≡ there.before ++ registration client m ∷ (there.after ++ first.0) =
    first.1 ∙ (ap (λ (l : List EngineEntry). l ++ first.0) there.is ∙ append_assoc there.before (registration client m ∷ there.after) first.0) in
    let found : OwnAt main_caller earlier there.before (registration client m) (there.after ++ first.0) = own_at main_caller earlier there.before (registration client m) (there.after ++ first.0) placed in
    record {
      before = found.earlier;
      after = found.later;
      caller = main_caller;
      name = m.name;
      sequences = sequences_of m.role;
      wants_dump = gets_dumps m.role;
      wants_report = gets_reports m.role;
      stands = found.whole;
      sequence = sequence;
      called = called;
    }

-- so was the logger
pub logger_called : (c : ClosedSession) → MembersAtEnd c → (transition : Transition) (sequence : ℕ) → sequence_for (sequences_of Logger) transition ≡ Some sequence → (moments : ℕ → List ℕ) → IsRegistered (session_of c moments) (logger_client c) transition
logger_called c ends transition sequence called moments = registered c ends (logger_client c) (member_in Logger logger_name) ends.named.logger transition sequence called moments
