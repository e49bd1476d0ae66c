-- What a session's record and its members show is what the laws of closed sessions ask for.
use Rattle.std.specs.Prelude.{◌≡◌, ℕ, zero, suc, ◌+◌, ◌<◌, ◌≤◌, true, false, List, [], ◌∷◌, ◌++◌, length, map, slice_get, Option, Some, None, refl}
use Rattle.std.proofs.Common.{ap, sym, subst, ◌∙◌, arith, inl, inr, add-one, eq-eqb}
use Rattle.std.proofs.lemmas.Bool.{cases_lt, false_from_ne_true, ne_eqb}
use Rattle.std.proofs.lemmas.List.{length-map, map-append}
use Rattle.std.proofs.lemmas.Option.{slice_get-map, slice_get_cases, slice_get_past, slice_get_within}
use Rattle.std.proofs.lemmas.Simd.{map-map}
use Rattle.std.specs.Option.{option_map}
use Rattle.odb_lock.specs.declared.shared.SharedOdb.{SharedOdb}
use Rattle.odb_lock.specs.SharedOdbs.{first_database}
use Rattle.daq_types.specs.Callers.{entries_by, main_caller, caller_of_client}
use Rattle.daq_io.specs.Told.{FilesTold}
use Rattle.buffer_core.specs.Window.{opening}
use Rattle.buffer_core.specs.Histories.{IsLegal}
use Rattle.buffer_core.specs.Ports.{Access}
use Rattle.buffer_core.specs.CallersView.{given_in}
use Rattle.buffer_lock.specs.SharedPorts.{ported_by, access_to}
use Rattle.turn_lock.specs.Passes.{passes_of}
use Rattle.turn_lock.specs.Closing.{history_of}
use Rattle.buffer_lock.specs.SharedBuffers.{lock_of}
use Rattle.odb_watch.specs.DatabasePorts.{own_watched}
use Rattle.member_model.specs.TurnCalls.{member_turns}
use Rattle.frontend_kit.specs.declared.generator.Generator.{Generator}
use Rattle.session_setup.specs.declared.declared.AnalyzerDeclared.{AnalyzerDeclared}
use Rattle.session_setup.specs.declared.declared.DeclaredLists.{DeclaredLists}
use Rattle.session_setup.specs.declared.declared.FrontDeclared.{FrontDeclared}
use Rattle.daq_members.specs.OwnTurns.{are_calls_for}
use Rattle.daq_members.specs.LoggerSeats.{LoggerSeen, IsLoggerAtSeat}
use Rattle.daq_members.specs.Members.{MemberSeen, Logger, KeepsContract}
use Rattle.session_objects.specs.declared.objects.SessionBuffer.{SessionBuffer}
use Rattle.session_objects.specs.declared.record.BufferRecord.{BufferRecord}
use Rattle.session_objects.specs.declared.record.SessionRecord.{SessionRecord}
use Rattle.session_setup.specs.declared.member.MemberDeclared.{MemberDeclared}
use Rattle.session_setup.specs.declared.member.MemberDeclared.TheVariants.{FrontEnd as WantedFront, Logger as WantedLogger, Analyzer as WantedAnalyzer}
use Rattle.session_setup.specs.DeclaredMembers.{calls_buffer, calls_database, declared_members, logger_number, name_of_member, own_buffer, role_of_member}
use Rattle.transitions.specs.declared.sequences.Role.TheVariants as roles
use Rattle.mid_logger.specs.ChannelTurns.{logger_name}
use Rattle.session_runs.specs.declared.opening.MemberName.{MemberName}
use Rattle.session_runs.specs.Members.{MembersCounted, member_in, members_named, reporter_count}
use Rattle.session_objects.specs.Calls.{Account, SessionCalls, account_at, account_or_none, told_of_engine, told_of_buffer, told_of_database, port_of_caller, HoldsParts}
use Rattle.session_objects.proofs.ListedLaws.{account_there, at_front, at_last, declared_count, declared_logger, logger_declared, no_account, no_database, no_port}
use Rattle.session_objects.specs.Members.{IsMemberOf, FrontIs, LoggerIs, AnalyzerIs, IsLoggerOf, account_of, members_told, session_calls}
use Rattle.session_laws.specs.ClosedSessions.{ClosedAnalyzer, ClosedBuffer, ClosedFront, ClosedSession, analyzer_client, last_caller, logger_client, logger_caller, size_in, history_in, got_from_buffer, engine_calls, calls_on_buffer, calls_on_database}
use Rattle.session_laws.specs.CountedFaults.{LoggerReasons, LoggerNames}
use Rattle.session_laws.specs.MembersAtEnd.{AnalyzerAtEnd, FrontAtEnd, IsAccessTo, LoggerAtEnd, MembersAtEnd, NamesMembers}
use Rattle.session_laws.specs.EndedSessions.{closed_analyzer, closed_buffer, closed_front, moments_among, moments_of, session_with, SessionEnded}
use Rattle.session_laws.proofs.LoggerEnd.{GotAll}
use Rattle.session_laws.proofs.RunTurns.{there_within}

mapped : {X Y : Type 0} (f : X → Y) (xs : List X) (n : ℕ) (y : Y) → slice_get (map f xs) n ≡ Some y → (x : X) × (slice_get xs n ≡ Some x) × (f x ≡ y)
mapped f [] n y at = absurd (cc (at))
mapped f (x ∷ xs) zero y at = (x, refl, cc (at))
mapped f (x ∷ xs) (suc n) y at = mapped f xs n y at

-- A caller's own calls in a history are those that it has seen, and none where it had no part in it.
own_calls : {E : Type 0} (told : ℕ → List (ℕ × E) → Type 0) (callers : ℕ) (h : List (ℕ × E)) (by caller : ℕ) (calls : List E) → by ≡ caller → HoldsParts told callers h
    → ((seen : List (ℕ × E)) → told by seen → entries_by caller seen ≡ calls) → (callers ≤ by → calls ≡ []) → entries_by caller h ≡ calls
own_calls told callers h by caller calls is holds same none = elim (cases_lt by callers) as (λ w. entries_by caller h ≡ calls) [
  | inl less ↦ (let part = holds.parts by less in subst (λ (n : ℕ). entries_by n h ≡ entries_by n part.0) is part.1.own ∙ same part.0 part.2)
  | inr past ↦ subst (λ (n : ℕ). entries_by n h ≡ []) is (holds.others by past) ∙ sym (none past)
]

-- A member that keeps its contract asks the engine for its own client alone.
speaks_for : {D F : Type 0} {objects : _} {shared : SharedOdb D} {channels : _} (read : F → FilesTold) (client : ℕ) {wanted : MemberDeclared} {member : MemberSeen Generator F} → IsMemberOf objects shared channels client wanted member
    → KeepsContract (members_told read) member → are_calls_for client (account_of wanted member).engine ≡ true
speaks_for read client (FrontIs is) keeps = rw is.is at keeps.speaks
speaks_for read client (LoggerIs is) keeps = rw is.is at keeps.seated.speaks
speaks_for read client (AnalyzerIs is) keeps = rw is.is at keeps.speaks

-- No member behind the front-ends calls the database.
behind_fronts : (fronts : List FrontDeclared) (analyzers : List AnalyzerDeclared) (client : ℕ) → length fronts ≤ client → calls_database (slice_get (map WantedFront fronts ++ (WantedLogger ∷ map WantedAnalyzer analyzers)) client) ≡ false
behind_fronts [] analyzers zero past = refl
behind_fronts [] [] (suc n) past = refl
behind_fronts [] (a ∷ analyzers) (suc zero) past = refl
behind_fronts [] (a ∷ analyzers) (suc (suc n)) past = behind_fronts [] analyzers (suc n) (omega arith)
behind_fronts (f ∷ fronts) analyzers zero past = absurd (omega arith)
behind_fronts (f ∷ fronts) analyzers (suc n) past = behind_fronts fronts analyzers n (omega arith)

-- What stands of a session that ended.

module _ {D F : Type 0} {g : _} (read : F → FilesTold) (lists : DeclaredLists) (logger : LoggerSeen F) (r : SessionRecord D g) (ended : SessionEnded read lists logger r) where
  abbrev calls : SessionCalls
  calls = session_calls lists ended.own ended.database ended.members

  abbrev closed : ClosedSession
  closed = session_with read (first_database ended.shared) lists logger r

  abbrev wanted : List MemberDeclared
  wanted = declared_members lists

  pub number : logger_client closed ≡ logger_number lists
  number = length-map lists.fronts closed_front

  pub many_analyzers : length closed.analyzers ≡ length lists.analyzers
  many_analyzers = length-map lists.analyzers closed_analyzer

  many_members : length wanted ≡ length closed.fronts + 1 + length closed.analyzers
  many_members = omega (arith, number, many_analyzers, declared_count lists)

  -- Any member, by its client number.

  -- the member that was declared so keeps its contract, and these are its calls
  record MemberAt (client : ℕ) (d : MemberDeclared) : Type 0 where
    member : MemberSeen Generator F
    there : slice_get ended.members client ≡ Some member
    is : IsMemberOf ended.objects ended.shared lists.channels client d member
    keeps : KeepsContract (members_told read) member
    account : account_at calls client ≡ account_of d member

  member_at : (client : ℕ) (d : MemberDeclared) → slice_get wanted client ≡ Some d → MemberAt client d
  member_at client d at =
      let m = there_within ended.members client (omega (arith, ended.are.many, slice_get_within wanted client d at)) in
      record {
        member = m.0;
        there = m.1;
        is = ended.are.each client d m.0 at m.1;
        keeps = ended.keep client m.0 m.1;
        account = ap account_or_none (account_there wanted ended.members client d m.0 at m.1);
      }

  nobody : (client : ℕ) → slice_get wanted client ≡ None → account_at calls client ≡ account_or_none None
  nobody client none = ap account_or_none (no_account wanted ended.members client none)

  -- what holds of the account of each member and of no calls holds of each client
  by_account : (client : ℕ) (P : Account → Type 0) → ((d : MemberDeclared) → slice_get wanted client ≡ Some d → (m : MemberAt client d) → P (account_of d m.member)) → P (account_or_none None) → P (account_at calls client)
  by_account client P each none = elim (slice_get_cases wanted client).1 as (λ w. P (account_at calls client)) [
    | inl d ↦ (let m = member_at client d.0 d.2 in subst P (sym m.account) (each d.0 d.2 m))
    | inr past ↦ subst P (sym (nobody client past.1)) none
  ]

  -- who is no member is behind them
  behind : (by : ℕ) → last_caller closed < by → (client : ℕ) × (by ≡ caller_of_client client) × (account_at calls client ≡ account_or_none None)
  behind zero past = absurd (omega arith)
  behind (suc client) past = (client, sym (add-one client), nobody client (slice_get_past wanted client (omega (arith, many_members))))

  -- The engine.

  pub engine_by_main : engine_calls closed main_caller ≡ ended.own
  engine_by_main = own_calls (told_of_engine calls) _ _ 0 main_caller ended.own refl ended.calls.engine (λ s told. told) (λ past. absurd (omega (arith, ended.callers.engine)))

  engine_by : (client : ℕ) → engine_calls closed (caller_of_client client) ≡ (account_at calls client).engine
  engine_by client =
      own_calls (told_of_engine calls) _ _ (suc client) (caller_of_client client) _ (sym (add-one client)) ended.calls.engine (λ s told. told)
      (λ past. ap (λ (a : Account). a.engine) (nobody client (slice_get_past wanted client (omega (arith, ended.callers.engine)))))

  speaks : (client : ℕ) → are_calls_for client (engine_calls closed (caller_of_client client)) ≡ true
  speaks client = rw (engine_by client) (by_account client (λ a. are_calls_for client a.engine ≡ true) (λ d at m. speaks_for read client m.is m.keeps) refl)

  -- The database.

  none_seen : (client : ℕ) → calls_database (slice_get wanted client) ≡ false → (account_at calls client).database ≡ []
  none_seen client none = by_account client (λ a. a.database ≡ []) (λ d at m. no_database ended.objects ended.shared lists.channels client m.is (ap calls_database (sym at) ∙ none)) refl

  database_by : (client : ℕ) → calls_on_database closed (caller_of_client client) ≡ entries_by (caller_of_client client) (account_at calls client).database
  database_by client =
      let by : ℕ = caller_of_client client in
      own_calls (told_of_database calls) _ _ (suc client) by _ (sym (add-one client)) ended.calls.database (λ s told. ap (entries_by by) told)
      (λ past. ap (entries_by by) (none_seen client (false_from_ne_true _ (λ has. omega (arith, ended.callers.database client has)))))

  no_database_by : (by : ℕ) → length closed.fronts < by → calls_on_database closed by ≡ []
  no_database_by zero past = absurd (omega arith)
  no_database_by (suc client) past =
      subst (λ (n : ℕ). calls_on_database closed n ≡ []) (add-one client)
      (database_by client ∙ ap (entries_by (caller_of_client client)) (none_seen client (behind_fronts lists.fronts lists.analyzers client (omega (arith, number)))))

  -- The buffers.

  -- a buffer of the record, with the one that was shared
  record AtBuffer (buffer : ℕ) (b : BufferRecord) : Type 0 where
    shared : SessionBuffer
    size : shared.size ≡ b.size
    legal : IsLegal (opening b.size) (history_of b.closed)
    holds : HoldsParts (told_of_buffer calls buffer shared.size) (passes_of (lock_of shared.shared)) (history_of b.closed)
    callers : passes_of (lock_of shared.shared) ≡ suc (length wanted)
    closed_at : slice_get closed.buffers buffer ≡ Some (closed_buffer b)

  at_buffer : (buffer : ℕ) (b : BufferRecord) → slice_get r.buffers buffer ≡ Some b → AtBuffer buffer b
  at_buffer buffer b at =
      let shared = there_within ended.objects.buffers.items buffer (omega (arith, ended.histories.many, slice_get_within r.buffers buffer b at)) in
      let of = ended.histories.buffers buffer shared.0 b shared.1 at in
      record {
        shared = shared.0;
        size = sym of.size;
        legal = of.legal;
        holds = ended.calls.buffers buffer shared.0 b shared.1 at;
        callers = ended.callers.buffers buffer shared.0 shared.1;
        closed_at = slice_get-map closed_buffer r.buffers buffer ∙ ap (option_map closed_buffer) at;
      }

  -- who has no port to a buffer made no call there
  none_by : (buffer by caller : ℕ) → by ≡ caller → port_of_caller calls buffer by ≡ None → calls_on_buffer closed caller buffer ≡ []
  none_by buffer by caller is none = elim (slice_get_cases r.buffers buffer).1 as (λ w. calls_on_buffer closed caller buffer ≡ []) [
    | inl b ↦
        let a : AtBuffer buffer b.0 = at_buffer buffer b.0 b.2 in
        ap (λ (o : Option ClosedBuffer). entries_by caller (history_in o)) a.closed_at
        ∙ own_calls (told_of_buffer calls buffer a.shared.size) _ _ by caller [] is a.holds (λ s told. ap (entries_by caller) (rw none at told)) (λ past. refl)
    | inr past ↦ ap (λ (o : Option ClosedBuffer). entries_by caller (history_in o)) (slice_get-map closed_buffer r.buffers buffer ∙ ap (option_map closed_buffer) past.1)
  ]

  -- a member has none where those of its kind call nothing
  no_calls : (buffer client : ℕ) (d : MemberDeclared) → slice_get wanted client ≡ Some d → calls_buffer buffer (Some d) ≡ false → calls_on_buffer closed (caller_of_client client) buffer ≡ []
  no_calls buffer client d at none =
      let m = member_at client d at in
      none_by buffer (suc client) (caller_of_client client) (sym (add-one client)) (ap (λ (a : Account). a.port buffer) m.account ∙ no_port ended.objects ended.shared lists.channels client buffer m.is none)

  -- what a port told: a beginning of the history, with all of its caller's calls
  access_at : (buffer client : ℕ) (b : BufferRecord) (here : AtBuffer buffer b) (a : Access) → client < length wanted → (account_at calls client).port buffer ≡ Some a → IsAccessTo (caller_of_client client) (closed_buffer b) a
  access_at buffer client b here a less is =
      let part = here.holds.parts (suc client) (omega (arith, here.callers)) in
      let port : a ≡ access_to a.buffer (ported_by (suc client) (opening here.shared.size) part.0) = rw is at part.2 in
      subst (λ (n : ℕ). IsAccessTo n (closed_buffer b) a) (sym (add-one client))
      (record {
        seen = part.0;
        part = part.1;
        own = ap (λ (x : Access). x.own) port;
        got = ap (λ (x : Access). x.got) port ∙ ap (λ (n : ℕ). given_in (suc client) (opening n) part.0) here.size;
        known = ap (λ (x : Access). x.taken_back) port;
      })

  -- the one port of a member tells its calls on its own buffer, and what they gave
  record OwnPort (client buffer : ℕ) (port : Access) : Type 0 where
    own : port.own ≡ calls_on_buffer closed (caller_of_client client) buffer
    got : GotAll → port.got ≡ got_from_buffer closed (caller_of_client client) buffer

  own_port : (client : ℕ) (d : MemberDeclared) (buffer : ℕ) (port : Access) → slice_get wanted client ≡ Some d → own_buffer d ≡ Some buffer → (account_at calls client).port buffer ≡ Some port → OwnPort client buffer port
  own_port client d buffer port at own is =
      let b = there_within r.buffers buffer (omega (arith, ended.histories.many, ended.callers.own client d at buffer own)) in
      let here : AtBuffer buffer b.0 = at_buffer buffer b.0 b.1 in
      let access : IsAccessTo (caller_of_client client) (closed_buffer b.0) port = access_at buffer client b.0 here port (slice_get_within wanted client d at) is in
      record {
        own = access.own ∙ (sym access.part.own ∙ sym (ap (λ (o : Option ClosedBuffer). entries_by (caller_of_client client) (history_in o)) here.closed_at));
        got = λ all. access.got ∙ (sym (all (history_of b.0.closed) access.seen (caller_of_client client) (opening b.0.size) access.part)
            ∙ sym (ap (λ (o : Option ClosedBuffer). given_in (caller_of_client client) (opening (size_in o)) (history_in o)) here.closed_at));
      }

  -- Each kind of member.

  front_ends : (client : ℕ) (d : FrontDeclared) → slice_get wanted client ≡ Some (WantedFront d) → {member : MemberSeen Generator F} → IsMemberOf ended.objects ended.shared lists.channels client (WantedFront d) member
      → KeepsContract (members_told read) member → account_at calls client ≡ account_of (WantedFront d) member → FrontAtEnd closed client (closed_front d) (moments_of (Some member))
  front_ends client d at (FrontIs {front = front} is) keeps account =
      let by : ℕ = caller_of_client client in
      let port = own_port client (WantedFront d) d.buffer front.port at refl (ap (λ (a : Account). a.port d.buffer) account ∙ rw (eq-eqb d.buffer d.buffer refl) refl) in
      let engine : front.calls ≡ engine_calls closed by = sym (engine_by client ∙ ap (λ (a : Account). a.engine) account) in
      let database : own_watched front.database ≡ calls_on_database closed by =
      ap (λ (n : ℕ). entries_by n front.database.seen) is.access_caller ∙ sym (database_by client ∙ ap (λ (a : Account). entries_by by a.database) account) in
      record {
        run = front.run;
        stands = rw (is.is, is.name, is.takes, is.makes, engine, port.own, database) at keeps.stands;
        elsewhere = λ buffer other. no_calls buffer client (WantedFront d) at (ne_eqb d.buffer buffer (λ e. other (sym e)));
      }

  analyzer_ends : GotAll → (client : ℕ) (d : AnalyzerDeclared) → slice_get wanted client ≡ Some (WantedAnalyzer d) → {member : MemberSeen Generator F} → IsMemberOf ended.objects ended.shared lists.channels client (WantedAnalyzer d) member
      → KeepsContract (members_told read) member → account_at calls client ≡ account_of (WantedAnalyzer d) member → AnalyzerAtEnd closed client (closed_analyzer d)
  analyzer_ends all client d at (AnalyzerIs {analyzer = analyzer} is) keeps account =
      let port = own_port client (WantedAnalyzer d) d.buffer analyzer.port at refl (ap (λ (a : Account). a.port d.buffer) account ∙ rw (eq-eqb d.buffer d.buffer refl) refl) in
      let engine : analyzer.calls ≡ engine_calls closed (caller_of_client client) = sym (engine_by client ∙ ap (λ (a : Account). a.engine) account) in
      record {
        analyzer = analyzer.analyzer;
        wanted = is.wanted;
        stands = rw (is.is, engine, port.own, port.got all) at keeps.stands;
        elsewhere = λ buffer other. no_calls buffer client (WantedAnalyzer d) at (ne_eqb d.buffer buffer (λ e. other (sym e)));
      }

  -- The logger.

  logger_there : slice_get wanted (logger_client closed) ≡ Some WantedLogger
  logger_there = ap (slice_get wanted) number ∙ logger_declared lists

  logger_here : slice_get ended.members (logger_client closed) ≡ Some (Logger logger)
  logger_here = ap (slice_get ended.members) number ∙ ended.has_logger

  pub logger_is : IsLoggerOf ended.objects lists.channels (logger_client closed) logger
  logger_is = is_logger (ended.are.each (logger_client closed) WantedLogger (Logger logger) logger_there logger_here)
    where
      is_logger : {client : ℕ} → IsMemberOf ended.objects ended.shared lists.channels client WantedLogger (Logger logger) → IsLoggerOf ended.objects lists.channels client logger
      is_logger (LoggerIs is) = is

  logger_keeps : IsLoggerAtSeat read logger
  logger_keeps = ended.keep (logger_client closed) (Logger logger) logger_here

  logger_account : account_at calls (logger_client closed) ≡ account_of WantedLogger (Logger logger)
  logger_account = ap account_or_none (account_there wanted ended.members (logger_client closed) WantedLogger (Logger logger) logger_there logger_here)

  turns : member_turns logger.client logger.calls ≡ member_turns (logger_client closed) (engine_calls closed (logger_caller closed))
  turns = (λ i. member_turns (logger_is.is i) (sym (engine_by (logger_client closed) ∙ ap (λ (a : Account). a.engine) logger_account) i))

  logger_ends : LoggerAtEnd closed
  logger_ends = record {
    run = logger.run;
    dumps = logger.dumps;
    ports = logger.ports;
    many = logger_is.ports.many ∙ (sym ended.histories.many ∙ sym (length-map r.buffers closed_buffer));
    access = λ buffer a b at there.
        let c = mapped closed_buffer r.buffers buffer b there in
        subst (λ (x : ClosedBuffer). IsAccessTo (logger_caller closed) x a) c.2 (access_at buffer (logger_client closed) c.0 (at_buffer buffer c.0 c.1) a (slice_get_within wanted (logger_client closed) WantedLogger logger_there) (ap (λ (x : Account). x.port buffer) logger_account ∙ at));
    stands = λ none. rw turns at (logger_keeps.seated.stands none);
    others = λ none. rw turns at (logger_keeps.seated.others none);
  }

  -- How the members are registered.

  abbrev registered_as : MemberDeclared → MemberName
  registered_as d = member_in (role_of_member d) (name_of_member d)

  named_at : (client : ℕ) (d : MemberDeclared) → slice_get wanted client ≡ Some d → slice_get closed.registered client ≡ Some (registered_as d)
  named_at client d at = slice_get-map registered_as wanted client ∙ ap (option_map registered_as) at

  logger_declared_so : (d : MemberDeclared) → role_of_member d ≡ roles.Logger → d ≡ WantedLogger
  logger_declared_so WantedLogger is = refl
  logger_declared_so d is = absurd (cc (is))

  named : MembersCounted → NamesMembers closed
  named counted = record {
    fronts = λ client f at.
        let d = mapped closed_front lists.fronts client f at in
        named_at client (WantedFront d.0) (at_front WantedFront WantedLogger WantedAnalyzer lists.fronts lists.analyzers client d.0 d.1)
        ∙ ap (λ (x : ClosedFront). Some (member_in roles.FrontEnd x.name)) d.2;
    logger = named_at (logger_client closed) WantedLogger logger_there;
    analyzers = λ place a at.
        let d = mapped closed_analyzer lists.analyzers place a at in
        let client : ℕ = analyzer_client closed place in
        named_at client (WantedAnalyzer d.0) (at_last WantedFront WantedLogger WantedAnalyzer lists.fronts lists.analyzers client place d.0 (omega (arith, number)) d.1)
        ∙ ap (λ (x : ClosedAnalyzer). Some (member_in roles.Analyzer x.name)) d.2;
    one_logger = λ client m at is.
        let d = mapped registered_as wanted client m at in
        let logger : d.0 ≡ WantedLogger = logger_declared_so d.0 (ap (λ (x : MemberName). x.role) d.2 ∙ is) in
        declared_logger lists client (d.1 ∙ ap Some logger) ∙ sym number;
    reporters =
        let fronts = map (λ (f : FrontDeclared). f.name) lists.fronts in
        let analyzers = map (λ (a : AnalyzerDeclared). a.name) lists.analyzers in
        let same : closed.registered ≡ members_named fronts logger_name analyzers = simp (map-append, map-map) in
        let all = counted.reporters fronts logger_name analyzers in
        ap reporter_count same ∙ all ∙ length-map lists.analyzers (λ (a : AnalyzerDeclared). a.name) ∙ sym many_analyzers;
  }

  -- All together.

  front_at_end : (client : ℕ) (f : ClosedFront) → slice_get closed.fronts client ≡ Some f → FrontAtEnd closed client f (moments_among ended.members client)
  front_at_end client f at =
      let d = mapped closed_front lists.fronts client f at in
      let there = at_front WantedFront WantedLogger WantedAnalyzer lists.fronts lists.analyzers client d.0 d.1 in
      let m = member_at client (WantedFront d.0) there in
      subst (λ (x : ClosedFront). FrontAtEnd closed client x (moments_among ended.members client)) d.2
      (subst (λ (o : Option (MemberSeen Generator F)). FrontAtEnd closed client (closed_front d.0) (moments_of o)) (sym m.there) (front_ends client d.0 there m.is m.keeps m.account))

  analyzer_at_end : GotAll → (place : ℕ) (a : ClosedAnalyzer) → slice_get closed.analyzers place ≡ Some a → AnalyzerAtEnd closed (analyzer_client closed place) a
  analyzer_at_end all place a at =
      let client : ℕ = analyzer_client closed place in
      let d = mapped closed_analyzer lists.analyzers place a at in
      let there = at_last WantedFront WantedLogger WantedAnalyzer lists.fronts lists.analyzers client place d.0 (omega (arith, number)) d.1 in
      let m = member_at client (WantedAnalyzer d.0) there in
      subst (AnalyzerAtEnd closed client) d.2 (analyzer_ends all client d.0 there m.is m.keeps m.account)

  -- what the laws ask for, with what the logger's answers rest on and the names that it left
  pub record EndsMet : Type 0 where
    pub ends : MembersAtEnd closed
    pub moments : ends.moments ≡ moments_among ended.members
    pub reasons : LoggerReasons closed ends (read logger.first) (read logger.files)
    pub names : LoggerNames closed ends (read logger.first) (read logger.files)

  pub ends_met : GotAll → MembersCounted → EndsMet
  unfolding logger_ends
  ends_met all counted = record {
    ends = record {
      buffers = λ n b at. (let c = mapped closed_buffer r.buffers n b at in subst (λ (x : ClosedBuffer). IsLegal (opening x.size) x.history) c.2 (at_buffer n c.0 c.1).legal);
      engine = rw ended.opening at ended.histories.engine;
      database = (_, ended.histories.database);
      speaks = speaks;
      moments = moments_among ended.members;
      fronts = front_at_end;
      logger = logger_ends;
      analyzers = analyzer_at_end all;
      few_analyzers = omega (arith, ended.few_analyzers, many_analyzers);
      named = named counted;
      main = record {
        later = ended.later;
        calls = engine_by_main ∙ ended.begins;
        steers = ended.steers;
        buffers = λ buffer. none_by buffer 0 main_caller refl refl;
      };
      others = record {
        engine = λ by past. (let o = behind by past in rw o.1 (engine_by o.0 ∙ ap (λ (a : Account). a.engine) o.2));
        buffers = λ by past buffer. (let o = behind by past in rw o.1 (none_by buffer (suc o.0) (caller_of_client o.0) (sym (add-one o.0)) (ap (λ (a : Account). a.port buffer) o.2)));
        database = no_database_by;
      };
    };
    moments = refl;
    reasons = rw turns at logger_keeps.reasons;
    names = λ none. rw turns at (logger_keeps.names none);
  }
