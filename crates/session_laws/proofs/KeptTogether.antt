-- What is known of a closed session is what the law of composition asks for.
use Rattle.std.specs.Prelude.{◌≡◌, ℕ, suc, true, List, [], length, slice_get, Some, refl, ◌⊎◌}
use Rattle.std.specs.List.{AllByRecursion}
use Rattle.std.proofs.Common.{ap, sym, subst, inl, inr}
use Rattle.std.proofs.lemmas.Bool.{eqb-true}
use Rattle.std.proofs.lemmas.Bool.Decides.{eqb_tells}
use Rattle.daq_types.specs.Callers.{main_caller, caller_of_client}
use Rattle.daq_types.specs.declared.runs.Transition.TheVariants.{Start, Stop}
use Rattle.transitions.specs.declared.sequences.Role.TheVariants.{Analyzer, FrontEnd}
use Rattle.transitions.specs.Sequences.{sequence_for}
use Rattle.transitions.specs.declared.entry.EngineEntry.TheVariants.{Register, Poll, Answer}
use Rattle.session_runs.specs.Members.{member_in}
use Rattle.loggers.specs.LoggerStands.{StandingLoggerKeeps}
use Rattle.buffer_core.specs.Window.{opening}
use Rattle.buffer_core.proofs.GotNames.{named_in}
use Rattle.member_model.specs.TurnCalls.{member_turns}
use Rattle.analyzers.specs.declared.analyzer_run.EventRequest.{EventRequest}
use Rattle.analyzers.specs.AnalyzerKept.{KeepsAnalyzer}
use Rattle.daq_members.specs.AnalyzerTaken.{MemberAnalyzersKeep}
use Rattle.history_laws.specs.CallerLaws.{AttachesGiveOnce, PortTells}
use Rattle.transitions.specs.declared.client.Registered.{Registered}
use Rattle.member_model.specs.RunEngines.{EngineEntry}
use Rattle.history_laws.specs.BegunTurns.{IsAlone, OneWantsDump, OneHasNumber}
use Rattle.composition.specs.Sessions.{Session, SessionAnalyzer, SessionFront, HasAnalyzer, HasFront, NamesOwnClient, IsMemberCaller, IsRegistered, MembersKeep}
use Rattle.daq_members.specs.OwnTurns.{is_call_for}
use Rattle.daq_members.specs.FrontTaken.{FrontKeeps, KeepsFrontMember}
use Rattle.session_runs.specs.RunsFit.{SteersEngine}
use Rattle.session_laws.specs.ClosedSessions.{ClosedAnalyzer, ClosedFront, ClosedSession, analyzer_client, logger_client, logger_caller, size_of_buffer, history_of_buffer, engine_calls, calls_on_buffer, calls_on_database, got_from_buffer, session_analyzer, session_front, session_of}
use Rattle.session_laws.specs.MembersAtEnd.{AnalyzerAtEnd, FrontAtEnd, MembersAtEnd}
use Rattle.session_laws.proofs.EachCaller.{by_caller, each_call}
use Rattle.session_laws.proofs.Registrations.{IsOfLogger, logger_alone, alone_wants, alone_numbered}
use Rattle.session_laws.proofs.MainFirst.{logger_called, registered}
use Rattle.session_laws.proofs.GotSent.{got_sent, legal_buffer}
use Rattle.session_laws.proofs.LoggerEnd.{GotAll, logger_keeps}
use Rattle.session_laws.proofs.MembersListed.{analyzer_listed, front_listed, front_of, numbered_is}

-- On the engine each names its own client.

names_call : (client : ℕ) (e : EngineEntry) → is_call_for client e ≡ true → NamesOwnClient (caller_of_client client, e)
names_call client (Poll n reply) is = ap caller_of_client (sym (eqb-true n client is))
names_call client (Answer n answer reply) is = ap caller_of_client (sym (eqb-true n client is))
names_call client e is = tt

names_steered : (e : EngineEntry) → SteersEngine e → NamesOwnClient (main_caller, e)
names_steered (Poll n reply) is = absurd is
names_steered (Answer n answer reply) is = absurd is
names_steered e is = tt

pub names_own : (c : ClosedSession) → MembersAtEnd c → AllByRecursion NamesOwnClient c.engine
names_own c ends = each_call c ends (λ by e. NamesOwnClient (by, e)) (λ client m at. tt) names_steered names_call

-- The logger alone wants the dump, and has its number for a start.

alone_call : (P : Registered → Type 0) (n by client : ℕ) (e : EngineEntry) → is_call_for client e ≡ true → IsAlone P n (by, e)
alone_call P n by client (Register name sequences dump report reply) is = absurd (cc (is))
alone_call P n by client e is = tt

alone_steered : (P : Registered → Type 0) (n by : ℕ) (e : EngineEntry) → SteersEngine e → IsAlone P n (by, e)
alone_steered P n by (Register name sequences dump report reply) is = absurd is
alone_steered P n by e is = tt

one_logger : (P : Registered → Type 0) → IsOfLogger P → (c : ClosedSession) → MembersAtEnd c → AllByRecursion (IsAlone P (logger_client c)) c.engine
one_logger P of c ends =
    let n : ℕ = logger_client c in
    each_call c ends (λ by e. IsAlone P n (by, e)) (logger_alone c ends.named P of) (alone_steered P n main_caller) (λ client. alone_call P n (caller_of_client client) client)

one_dump : (c : ClosedSession) → MembersAtEnd c → OneWantsDump (logger_client c) c.engine
one_dump c ends = one_logger (λ (k : Registered). k.wants_dump ≡ true) alone_wants c ends

pub one_number : (c : ClosedSession) → MembersAtEnd c → OneHasNumber (logger_client c) Start 200 c.engine
one_number c ends = one_logger (λ (k : Registered). sequence_for k.sequences Start ≡ Some 200) alone_numbered c ends

-- The callers of a buffer.

abbrev MayCall : ClosedSession → (moments : ℕ → List ℕ) → (buffer by : ℕ) → Type 0
MayCall c moments buffer by = (calls_on_buffer c by buffer ≡ []) ⊎ IsMemberCaller (session_of c moments) buffer by

front_calls : (c : ClosedSession) (moments : ℕ → List ℕ) (client : ℕ) (f : ClosedFront) → slice_get c.fronts client ≡ Some f → FrontAtEnd c client f (moments client) → (buffer : ℕ) → MayCall c moments buffer (caller_of_client client)
front_calls c moments client f at ends buffer = elim (eqb_tells f.buffer buffer) as (λ w. MayCall c moments buffer (caller_of_client client)) [
  | inl same ↦
      inr (inr (inl (record { front = session_front client f (moments client); stands = (client, front_listed c moments client f at); buffer_is = same.1; caller_is = refl })))
  | inr differs ↦ inl (ends.elsewhere buffer (λ is. differs.1 (sym is)))
]

analyzer_calls : (c : ClosedSession) (moments : ℕ → List ℕ) (place : ℕ) (a : ClosedAnalyzer) → slice_get c.analyzers place ≡ Some a → AnalyzerAtEnd c (analyzer_client c place) a → (buffer : ℕ) → MayCall c moments buffer (caller_of_client (analyzer_client c place))
analyzer_calls c moments place a at ends buffer = elim (eqb_tells a.buffer buffer) as (λ w. MayCall c moments buffer (caller_of_client (analyzer_client c place))) [
  | inl same ↦
      inr (inr (inr (record { analyzer = session_analyzer c (analyzer_client c place) a; stands = (place, analyzer_listed c place a at); buffer_is = same.1; caller_is = refl })))
  | inr differs ↦ inl (ends.elsewhere buffer (λ is. differs.1 (sym is)))
]

member_callers : (c : ClosedSession) → (ends : MembersAtEnd c) → (buffer by : ℕ) → MayCall c ends.moments buffer by
member_callers c ends buffer =
    by_caller (MayCall c ends.moments buffer) c
    (inl (ends.main.buffers buffer))
    (λ client f at. front_calls c ends.moments client f at (ends.fronts client f at) buffer)
    (inr (inl refl))
    (λ place a at. analyzer_calls c ends.moments place a at (ends.analyzers place a at) buffer)
    (λ by past. inl (ends.others.buffers by past buffer))

-- The members are registered.

front_registered : (c : ClosedSession) → MembersAtEnd c → (moments : ℕ → List ℕ) (client : ℕ) (f : ClosedFront) → slice_get c.fronts client ≡ Some f → IsRegistered (session_of c moments) client Start × IsRegistered (session_of c moments) client Stop
front_registered c ends moments client f at =
    let there = ends.named.fronts client f at in
    (registered c ends client (member_in FrontEnd f.name) there Start 500 refl moments, registered c ends client (member_in FrontEnd f.name) there Stop 500 refl moments)

logger_registered : (c : ClosedSession) → MembersAtEnd c → (moments : ℕ → List ℕ) → IsRegistered (session_of c moments) (logger_client c) Start × IsRegistered (session_of c moments) (logger_client c) Stop
logger_registered c ends moments = (logger_called c ends Start 200 refl moments, logger_called c ends Stop 800 refl moments)

analyzer_registered : (c : ClosedSession) → MembersAtEnd c → (moments : ℕ → List ℕ) (place : ℕ) (a : ClosedAnalyzer) → slice_get c.analyzers place ≡ Some a
    → IsRegistered (session_of c moments) (analyzer_client c place) Start × IsRegistered (session_of c moments) (analyzer_client c place) Stop
analyzer_registered c ends moments place a at =
    let client : ℕ = analyzer_client c place in
    let there = ends.named.analyzers place a at in
    (registered c ends client (member_in Analyzer a.name) there Start 300 refl moments, registered c ends client (member_in Analyzer a.name) there Stop 900 refl moments)

-- All together.

-- what holds of each front-end, with its client number and its moments, holds of the session's
each_front : (c : ClosedSession) (moments : ℕ → List ℕ) (P : SessionFront → Type 0) → ((client : ℕ) (f : ClosedFront) → slice_get c.fronts client ≡ Some f → P (session_front client f (moments client)))
    → (f : SessionFront) → HasFront (session_of c moments) f → P f
each_front c moments P each f has = (let of = front_of c moments f has in subst P (sym of.3) (each of.0 of.1 of.2))

-- and so of its analyzers
each_analyzer : (c : ClosedSession) (moments : ℕ → List ℕ) (P : SessionAnalyzer → Type 0) → ((place : ℕ) (a : ClosedAnalyzer) → slice_get c.analyzers place ≡ Some a → P (session_analyzer c (analyzer_client c place) a))
    → (a : SessionAnalyzer) → HasAnalyzer (session_of c moments) a → P a
each_analyzer c moments P each a has = (let of = numbered_is (session_analyzer c) (suc (length c.fronts)) has.0 (analyzer_client c has.0) c.analyzers a refl has.1 in subst P (sym of.2) (each has.0 of.0 of.1))

-- what the front-end with this client number keeps, with the moments of its turns
front_kept : FrontKeeps → (c : ClosedSession) (client : ℕ) (f : ClosedFront) (moments : List ℕ) → FrontAtEnd c client f moments
    → KeepsFrontMember f.name f.takes f.makes (member_turns client (engine_calls c (caller_of_client client))) (calls_on_buffer c (caller_of_client client) f.buffer) moments (calls_on_database c (caller_of_client client))
front_kept law c client f moments ends =
    law client f.name f.takes f.makes ends.run (engine_calls c (caller_of_client client)) (calls_on_buffer c (caller_of_client client) f.buffer) moments (calls_on_database c (caller_of_client client)) ends.stands

analyzer_keeps : MemberAnalyzersKeep → (c : ClosedSession) (client : ℕ) (a : ClosedAnalyzer) → AnalyzerAtEnd c client a
    → KeepsAnalyzer a.wanted (calls_on_buffer c (caller_of_client client) a.buffer) (got_from_buffer c (caller_of_client client) a.buffer) (member_turns client (engine_calls c (caller_of_client client)))
analyzer_keeps law c client a ends =
    subst (λ (w : EventRequest). KeepsAnalyzer w (calls_on_buffer c (caller_of_client client) a.buffer) (got_from_buffer c (caller_of_client client) a.buffer) (member_turns client (engine_calls c (caller_of_client client)))) ends.wanted
    (law client ends.analyzer (engine_calls c (caller_of_client client)) (calls_on_buffer c (caller_of_client client) a.buffer) (got_from_buffer c (caller_of_client client) a.buffer) ends.stands)

pub members_keep : PortTells → GotAll → AttachesGiveOnce → StandingLoggerKeeps → FrontKeeps → MemberAnalyzersKeep → (c : ClosedSession) → (ends : MembersAtEnd c) → MembersKeep (session_of c ends.moments)
members_keep tells all once stands keeps reads c ends =
    let moments : ℕ → List ℕ = ends.moments in
    record {
      buffers_legal = legal_buffer c ends;
      engine_legal = ends.engine;
      own_clients = names_own c ends;
      callers = member_callers c ends;
      fronts_keep = each_front c moments (λ f. _) (λ client f at. (front_kept keeps c client f (moments client) (ends.fronts client f at)).keeps);
      fronts_moments = each_front c moments (λ f. _) (λ client f at. (front_kept keeps c client f (moments client) (ends.fronts client f at)).kept);
      fronts_set = each_front c moments (λ f. _) (λ client f at. (front_kept keeps c client f (moments client) (ends.fronts client f at)).told);
      logger_keeps = logger_keeps stands all once c ends;
      logger_got = λ buffer. got_sent tells _ (logger_caller c) (history_of_buffer c buffer) (legal_buffer c ends buffer);
      analyzers_keep = each_analyzer c moments (λ a. _) (λ place a at. analyzer_keeps reads c (analyzer_client c place) a (ends.analyzers place a at));
      analyzers_got = each_analyzer c moments (λ a. _) (λ place a at. (
        got_sent tells (size_of_buffer c a.buffer) (caller_of_client (analyzer_client c place)) (history_of_buffer c a.buffer) (legal_buffer c ends a.buffer),
        record { named_so = sym (named_in (caller_of_client (analyzer_client c place)) (opening (size_of_buffer c a.buffer)) (history_of_buffer c a.buffer)) },
      ));
      fronts_registered = each_front c moments (λ f. _) (front_registered c ends moments);
      analyzers_registered = each_analyzer c moments (λ a. _) (analyzer_registered c ends moments);
      logger_registered = logger_registered c ends moments;
      one_dump = one_dump c ends;
    }
