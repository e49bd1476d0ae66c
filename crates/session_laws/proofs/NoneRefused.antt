-- No buffer of a closed session refused the logger or an analyzer a call to attach a client, to make a request or to begin a run:
-- they gave none a cause.
use Rattle.std.specs.Prelude.{◌≡◌, ℕ, zero, suc, ◌+◌, ◌<◌, ◌≤◌, ◌==◌, if◌then◌else◌, Bool, true, false, map, length, sum_by, slice_get, Contains, List, [], ◌∷◌, ◌++◌, Option, Some, None, Err, refl, ◌⊎◌}
use Rattle.std.proofs.Common.{ap, sym, subst, ◌∙◌, arith, inl, inr}
use Rattle.std.proofs.lemmas.List.Elements.{Contains-append_right}
use Rattle.std.proofs.lemmas.List.Sums.{sum_by-cons}
use Rattle.daq_types.specs.Callers.{caller_of_client, main_caller, entries_by}
use Rattle.daq_types.specs.declared.runs.Transition.TheVariants.{Start}
use Rattle.daq_types.specs.declared.runs.Transition.{Transition}
use Rattle.buffer_core.specs.declared.replies.MarkRefusal.{MarkRefusal}
use Rattle.buffer_core.specs.declared.entry.BufferEntry.{BufferEntry}
use Rattle.buffer_core.specs.declared.entry.BufferEntry.TheVariants.{Attach, Request, SendInRun, Begin}
use Rattle.buffer_core.specs.Ports.{Access}
use Rattle.member_model.specs.Turns.{MemberTurn, IsNextTurn, IsNewStart, AreEngineTurns}
use Rattle.member_model.specs.TurnCalls.{member_turns}
use Rattle.member_model.specs.SentCalls.{EachCall, IsSendInRun}
use Rattle.member_model.specs.OwnCalls.{calls_after, asks}
use Rattle.member_model.specs.FairCalls.{IsRefusedAsk, attaches_by, attaches_made, IsLoneRequest, AreLoneRequests}
use Rattle.member_model.proofs.FairLaws.{open_begun}
use Rattle.mid_logger.specs.declared.channel.Channel.{Channel}
use Rattle.loggers.specs.FairAsks.{one_client, channel_clients, StartsBehind, HasStart, HasRefusedBegin, IsFairBegin, IsFairCall, AreFairBegins}
use Rattle.loggers.specs.LoggerStands.{LoggerStands}
use Rattle.loggers.specs.Reasons.{HasRefusedAsk}
use Rattle.analyzers.specs.AnalyzerKept.{IsAnalyzerCall, HasRefusedCall, one_attached}
use Rattle.history_laws.specs.OneCaller.{HaveOwnClients}
use Rattle.history_laws.specs.CallerLaws.{MembersFit, SenderMakesNoMark}
use Rattle.history_laws.specs.RefusedCalls.{AttachesRefused, AttachesAdd, RequestsRefused, BeginsRefused}
use Rattle.history_laws.specs.BegunTurns.{ComesLast, StartsComeLast}
use Rattle.history_laws.specs.EngineLaws.{RunsAreOver}
use Rattle.composition.proofs.FilesTogether.{logger_marks_alone}
use Rattle.composition.proofs.SentTogether.{each_reads_or_sends}
use Rattle.composition.proofs.SessionTurns.{speaks}
use Rattle.session_laws.specs.ClosedSessions.{ClosedAnalyzer, ClosedBuffer, ClosedFront, ClosedSession, analyzer_client, calls_on_buffer, engine_calls, history_in, history_of_buffer, logger_caller, logger_client, numbered, session_front, session_of, size_of_buffer}
use Rattle.session_laws.specs.MembersAtEnd.{MembersAtEnd}
use Rattle.session_laws.proofs.EachCaller.{at_own, by_caller}
use Rattle.session_laws.proofs.MembersListed.{front_listed, numbered_at}
use Rattle.session_laws.proofs.GotSent.{legal_buffer}
use Rattle.session_laws.proofs.KeptTogether.{names_own}
use Rattle.session_laws.proofs.LoggerEnd.{BothAt, Both, Neither, both_at, given_once}
use Rattle.session_laws.proofs.LoggerRefusals.{always_called, own_by}
use Rattle.session_laws.proofs.RunTurns.{TurnLaws, are_turns}

-- the laws of what a buffer refuses
pub record AskLaws : Type 0 where
  pub attaches : AttachesRefused
  pub sum : AttachesAdd
  pub requests : RequestsRefused
  pub begins : BeginsRefused
  pub fits : MembersFit
  pub senders : SenderMakesNoMark

-- A call with those before it and behind it.

record Among (calls : List BufferEntry) (e : BufferEntry) : Type 0 where
  before : List BufferEntry
  after : List BufferEntry
  is : calls ≡ before ++ e ∷ after

among : (calls : List BufferEntry) (e : BufferEntry) → Contains calls e → Among calls e
among [] e has = absurd (let lt = has.1 in omega arith)
among (x ∷ calls) e (zero, lt, same) = record { before = []; after = calls; is = ap (λ (y : BufferEntry). y ∷ calls) same }
among (x ∷ calls) e (suc k, lt, same) =
    let rest : Among calls e = among calls e (k, omega arith, same) in
    record { before = x ∷ rest.before; after = rest.after; is = ap (λ (l : List BufferEntry). x ∷ l) rest.is }

again : (before after : List BufferEntry) (e : BufferEntry) → Contains (before ++ e ∷ after) e
again [] after e = (0, omega arith, refl)
again (b ∷ before) after e = Contains-append_right (b ∷ []) (before ++ e ∷ after) e (again before after e)

each_at : (P : BufferEntry → Type 0) (before after : List BufferEntry) (e : BufferEntry) → EachCall P (before ++ e ∷ after) → P e
each_at P [] after e each = each.0
each_at P (b ∷ before) after e each = each_at P before after e each.1

-- what holds of all points of the calls holds of each of them
past_at : (R : List BufferEntry → Type 0) (Q : BufferEntry → List BufferEntry → Type 0) → ((e : BufferEntry) (es : List BufferEntry) → R (e ∷ es) → Q e es × R es) → (past calls : List BufferEntry) → R (calls_after past calls) → R past
past_at R Q step past [] all = all
past_at R Q step past (x ∷ calls) all = (step x past (past_at R Q step (x ∷ past) calls all)).1

point_at : (R : List BufferEntry → Type 0) (Q : BufferEntry → List BufferEntry → Type 0) → ((e : BufferEntry) (es : List BufferEntry) → R (e ∷ es) → Q e es × R es) → (past before after : List BufferEntry) (e : BufferEntry)
    → R (calls_after past (before ++ e ∷ after)) → Q e (calls_after past before)
point_at R Q step past [] after e all = (step e past (past_at R Q step (e ∷ past) after all)).0
point_at R Q step past (b ∷ before) after e all = point_at R Q step (b ∷ past) before after e all

lone_at : (own : List BufferEntry) (e : BufferEntry) (a : Among own e) → AreLoneRequests (calls_after [] own) → IsLoneRequest e (calls_after [] a.before)
lone_at own e a lone =
    point_at AreLoneRequests IsLoneRequest (λ x xs both. both) [] a.before a.after e (subst (λ (l : List BufferEntry). AreLoneRequests (calls_after [] l)) a.is lone)

fair_at : (ports : List Access) (turns : List MemberTurn) (own : List BufferEntry) (e : BufferEntry) (a : Among own e) → AreFairBegins ports turns (calls_after [] own) → IsFairCall ports turns e (calls_after [] a.before)
fair_at ports turns own e a fair =
    point_at (AreFairBegins ports turns) (IsFairCall ports turns) (λ x xs both. both) [] a.before a.after e (subst (λ (l : List BufferEntry). AreFairBegins ports turns (calls_after [] l)) a.is fair)

-- Clients.

-- who attaches clients: the logger and the analyzers
abbrev analyzers_from : (client : ℕ) → List ClosedAnalyzer → List ℕ
analyzers_from client analyzers = numbered (λ n a. caller_of_client n) client analyzers

abbrev askers : ClosedSession → List ℕ
askers c = logger_caller c ∷ analyzers_from (suc (length c.fronts)) c.analyzers

-- where each of them counts at most one, they count no more than they are
analyzers_few : (count : ℕ → ℕ) (client : ℕ) (analyzers : List ClosedAnalyzer) → ((place n : ℕ) (a : ClosedAnalyzer) → n ≡ client + place → slice_get analyzers place ≡ Some a → count (caller_of_client n) ≤ 1)
    → sum_by count (analyzers_from client analyzers) ≤ length analyzers
analyzers_few count client [] each = omega arith
analyzers_few count client (a ∷ analyzers) each =
    let first : count (caller_of_client client) ≤ 1 = each 0 client a (omega arith) refl in
    let rest : sum_by count (analyzers_from (suc client) analyzers) ≤ length analyzers = analyzers_few count (suc client) analyzers (λ place n b number at. each (suc place) n b (omega arith) at) in
    omega (arith, sum_by-cons count (caller_of_client client) (analyzers_from (suc client) analyzers))

one_few : (client : Option ℕ) → one_client client ≤ 1
one_few None = omega arith
one_few (Some n) = omega arith

analyzer_few : (client : Option ℕ) → one_attached client ≤ 1
analyzer_few None = omega arith
analyzer_few (Some n) = omega arith

chosen_few : (here : Bool) (n : ℕ) → n ≤ 1 → (if here then n else 0) ≤ 1
chosen_few true n few = few
chosen_few false n few = omega arith

slot_few : (buffer : ℕ) (slot : Option Channel) → channel_clients buffer slot ≤ 1
slot_few buffer None = omega arith
slot_few buffer (Some c) = chosen_few (c.spec.buffer == buffer) (one_client c.client) (one_few c.client)

slots_few : (buffer : ℕ) (slots : List (Option Channel)) → sum_by (channel_clients buffer) slots ≤ length slots
slots_few buffer [] = omega arith
slots_few buffer (s ∷ slots) = omega (arith, sum_by-cons (channel_clients buffer) s slots, slot_few buffer s, slots_few buffer slots)

send_none : (e : BufferEntry) → IsSendInRun e → attaches_by e ≡ 0
send_none (SendInRun start stated event reply) sends = refl
send_none e sends = absurd sends

sends_none : (own : List BufferEntry) → EachCall IsSendInRun own → attaches_made own ≡ 0
sends_none [] sends = refl
sends_none (e ∷ own) sends = omega (arith, sum_by-cons attaches_by e own, send_none e sends.0, sends_none own sends.1)

none_attached : (own : List BufferEntry) → own ≡ [] → attaches_made own ≡ 0
none_attached own none = ap attaches_made none

module _ (laws : TurnLaws) (asking : AskLaws) (c : ClosedSession) (ends : MembersAtEnd c) where
  abbrev turns : List MemberTurn
  turns = member_turns (logger_client c) (engine_calls c (logger_caller c))

  stands : LoggerStands ends.logger.run ends.logger.dumps c.slots ends.logger.ports turns c.files
  stands = ends.logger.stands (given_once laws.once c ends)

  abbrev attached : (buffer by : ℕ) → ℕ
  attached buffer by = attaches_made (calls_on_buffer c by buffer)

  Counted : (buffer by : ℕ) → Type 0
  Counted buffer by = ((place : ℕ) × (slice_get (askers c) place ≡ Some by)) ⊎ (attached buffer by ≡ 0)

  front_counted : (buffer client : ℕ) (f : ClosedFront) → slice_get c.fronts client ≡ Some f → Counted buffer (caller_of_client client)
  unfolding Counted
  front_counted buffer client f at =
      let keep = laws.keep c ends in
      let by : ℕ = caller_of_client client in
      let sends : EachCall IsSendInRun (calls_on_buffer c by f.buffer) = (keep.fronts_keep (session_front client f (ends.moments client)) (client, front_listed c ends.moments client f at)).only_sends in
      inr (at_own c by f.buffer (ends.fronts client f at).elsewhere (λ own. attaches_made own ≡ 0) (sends_none (calls_on_buffer c by f.buffer) sends) refl buffer)

  counted : (buffer by : ℕ) → Counted buffer by
  unfolding Counted
  counted buffer =
      by_caller (Counted buffer) c
      (inr (none_attached (calls_on_buffer c main_caller buffer) (ends.main.buffers buffer)))
      (front_counted buffer)
      (inl (0, refl))
      (λ place a at. inl (suc place, numbered_at (λ n b. caller_of_client n) (suc (length c.fronts)) place (analyzer_client c place) c.analyzers a refl at))
      (λ by past. inr (none_attached (calls_on_buffer c by buffer) (ends.others.buffers by past buffer)))

  analyzer_attached : (buffer place : ℕ) (a : ClosedAnalyzer) → slice_get c.analyzers place ≡ Some a → attached buffer (caller_of_client (analyzer_client c place)) ≤ 1
  analyzer_attached buffer place a at =
      let by : ℕ = caller_of_client (analyzer_client c place) in
      let end = ends.analyzers place a at in
      let few = end.stands.stands.asks.attaches in
      at_own c by a.buffer end.elsewhere (λ own. attaches_made own ≤ 1) (omega (arith, analyzer_few end.analyzer.client)) (omega arith) buffer

  logger_attached_at : (buffer : ℕ) → BothAt ends.logger.ports c.buffers buffer → attached buffer (logger_caller c) ≤ 16
  logger_attached_at buffer (Both a b at there) =
      let own : calls_on_buffer c (logger_caller c) buffer ≡ a.own = own_by c ends buffer a at (Both a b at there) in
      let same : attached buffer (logger_caller c) ≡ attaches_made a.own = ap attaches_made own in
      let few = stands.asks.attaches buffer a at in
      let many = stands.holds.standing.many in
      omega (arith, slots_few buffer c.slots)
  logger_attached_at buffer (Neither none nor) =
      omega (arith, none_attached (calls_on_buffer c (logger_caller c) buffer) (ap (λ (o : Option ClosedBuffer). entries_by (logger_caller c) (history_in o)) nor))

  -- so fewer clients were attached than a buffer has numbers for
  few_attached : (buffer : ℕ) → attaches_made (map (λ e. e.1) (history_of_buffer c buffer)) < 64
  unfolding Counted
  few_attached buffer =
      let first : ℕ = suc (length c.fronts) in
      let logger : attached buffer (logger_caller c) ≤ 16 = logger_attached_at buffer (both_at ends.logger.ports c.buffers buffer ends.logger.many) in
      let closed_analyzers : sum_by (attached buffer) (analyzers_from first c.analyzers) ≤ length c.analyzers =
      analyzers_few (attached buffer) first c.analyzers
      (λ place n a number at. subst (λ (k : ℕ). attached buffer (caller_of_client k) ≤ 1) (sym number) (analyzer_attached buffer place a at)) in
      let few = ends.few_analyzers in
      let all = asking.sum (history_of_buffer c buffer) (askers c) (counted buffer) in
      omega (arith, sum_by-cons (attached buffer) (logger_caller c) (analyzers_from first c.analyzers))

  clients : (buffer : ℕ) → HaveOwnClients (history_of_buffer c buffer)
  clients buffer =
      let keep = laws.keep c ends in
      (asking.fits (history_of_buffer c buffer) (each_reads_or_sends (session_of c ends.moments) keep buffer)).0

  -- Who makes each request for a client that has none, and is refused no begin, is refused nothing.
  granted : (buffer by : ℕ) → AreLoneRequests (calls_after [] (calls_on_buffer c by buffer)) → ((start : ℕ) → (why : MarkRefusal) → Among (calls_on_buffer c by buffer) (Begin start (Err why)) → ⊥) → (e : BufferEntry) → Among (calls_on_buffer c by buffer) e → IsRefusedAsk e → ⊥
  granted buffer by lone begins (Attach name (Err why)) a refused =
      let many = asking.attaches (size_of_buffer c buffer) (history_of_buffer c buffer) by (legal_buffer c ends buffer) a.before a.after name why a.is in
      omega (arith, few_attached buffer)
  granted buffer by lone begins (Request client id mask kind (Err why)) a refused =
      let has = asking.requests (size_of_buffer c buffer) (history_of_buffer c buffer) by (legal_buffer c ends buffer) (clients buffer) a.before a.after client id mask kind why a.is in
      let free : asks (calls_after [] a.before) client has.0 ≡ false = lone_at (calls_on_buffer c by buffer) (Request client id mask kind (Err why)) a lone has.0 in
      let never : true ≡ false = sym has.1 ∙ free in
      cc (never)
  granted buffer by lone begins (Begin start (Err why)) a refused = begins start why a
  granted buffer by lone begins e a refused = absurd refused

  -- Runs.

  -- the logger's calls on the buffer of one of its ports, and those that the port told it
  owns : (buffer : ℕ) (a : Access) → slice_get ends.logger.ports buffer ≡ Some a → calls_on_buffer c (logger_caller c) buffer ≡ a.own
  owns buffer a at = own_by c ends buffer a at (both_at ends.logger.ports c.buffers buffer ends.logger.many)

  new_at : (ts later : List MemberTurn) (t : MemberTurn) (earlier : List MemberTurn) → ts ≡ later ++ t ∷ earlier → AreEngineTurns ts → t.transition ≡ Start → IsNewStart t.order.start earlier
  new_at ts [] t earlier is are starts =
      let here : AreEngineTurns (t ∷ earlier) = subst AreEngineTurns is are in
      subst (λ (k : Transition). IsNextTurn k t.order.start earlier) starts here.0
  new_at ts (u ∷ later) t earlier is are starts =
      let here : AreEngineTurns (u ∷ (later ++ t ∷ earlier)) = subst AreEngineTurns is are in
      new_at (later ++ t ∷ earlier) later t earlier refl here.1 starts

  last_at : (ts later : List MemberTurn) (t : MemberTurn) (earlier : List MemberTurn) → ts ≡ later ++ t ∷ earlier → StartsComeLast ts → t.transition ≡ Start → ComesLast earlier t.order.start
  last_at ts [] t earlier is last starts =
      let here : StartsComeLast (t ∷ earlier) = subst StartsComeLast is last in
      here.0 starts
  last_at ts (u ∷ later) t earlier is last starts =
      let here : StartsComeLast (u ∷ (later ++ t ∷ earlier)) = subst StartsComeLast is last in
      last_at (later ++ t ∷ earlier) later t earlier refl here.1 starts

  -- a run that has its start among the turns before the start of another has the lower number
  lower : StartsComeLast turns → (start other : ℕ) (earlier : List MemberTurn) → StartsBehind turns start earlier → HasStart earlier other → other < start
  lower last start other earlier behind has =
      let comes : ComesLast earlier behind.turn.order.start = last_at turns behind.later behind.turn earlier behind.are last behind.starts in
      let above = comes.above has.0 has.1.stands in
      let of = behind.of in
      let is = has.1.of in
      omega arith

  -- No begin of the logger is refused: the run would be one that it began, or the one that it left open would have been refused,
  -- which has a lower number.
  never_begun : StartsComeLast turns → (fuel start : ℕ) → start < fuel → HasRefusedBegin ends.logger.ports start → ⊥
  never_begun last zero start below had = omega arith
  never_begun last (suc fuel) start below had =
      let by : ℕ = logger_caller c in
      let buffer : ℕ = had.buffer in
      let own : calls_on_buffer c by buffer ≡ had.port.own = owns buffer had.port had.at in
      let a : Among (calls_on_buffer c by buffer) (Begin start (Err had.why)) = among (calls_on_buffer c by buffer) (Begin start (Err had.why)) (subst (λ (l : List BufferEntry). Contains l (Begin start (Err had.why))) (sym own) had.among) in
      let keep = laws.keep c ends in
      let fair : IsFairBegin ends.logger.ports turns (calls_after [] a.before) start =
      fair_at ends.logger.ports turns (calls_on_buffer c by buffer) (Begin start (Err had.why)) a
      (subst (λ (l : List BufferEntry). AreFairBegins ends.logger.ports turns (calls_after [] l)) (sym own) (stands.asks.begins buffer had.port had.at)) in
      let causes = asking.begins (size_of_buffer c buffer) (history_of_buffer c buffer) by (legal_buffer c ends buffer) (logger_marks_alone asking.senders (session_of c ends.moments) keep buffer) a.before a.after start had.why a.is in
      elim causes as (λ w. ⊥) [
        | inl none ↦
            let new : IsNewStart fair.at.turn.order.start fair.earlier = new_at turns fair.at.later fair.at.turn fair.earlier fair.at.are (are_turns laws c ends) fair.at.starts in
            new.0 (fair.at.of ∙ none)
        | inr runs ↦ elim runs as (λ w. ⊥) [
          | inl from ↦
              let above = from.above in
              omega (arith, lower last start from.number fair.earlier fair.at (fair.begun from.number from.begun))
          | inr left ↦
              let less : left.number < start = lower last start left.number fair.earlier fair.at (fair.begun left.number (open_begun (calls_after [] a.before) left.number left.open_is)) in
              never_begun last fuel left.number (omega arith) (fair.left left.number left.open_is)
        ]
      ]

  pub logger_granted : RunsAreOver → HasRefusedAsk ends.logger.ports → ⊥
  logger_granted over had =
      let by : ℕ = logger_caller c in
      let own : calls_on_buffer c by had.buffer ≡ had.port.own = owns had.buffer had.port had.at in
      let last : StartsComeLast turns = over by (logger_client c) c.engine ends.engine (speaks (logger_client c) c.engine (names_own c ends)) (always_called c ends) in
      granted had.buffer by
      (subst (λ (l : List BufferEntry). AreLoneRequests (calls_after [] l)) (sym own) (stands.holds.standing.calls had.buffer had.port had.at).alone)
      (λ start why a. never_begun last (suc start) start (omega arith) (record {
        buffer = had.buffer;
        port = had.port;
        at = had.at;
        why = why;
        among = subst (λ (l : List BufferEntry). Contains l (Begin start (Err why))) (sym a.is ∙ own) (again a.before a.after (Begin start (Err why)));
      }))
      had.entry (among (calls_on_buffer c by had.buffer) had.entry (subst (λ (l : List BufferEntry). Contains l had.entry) (sym own) had.among)) had.refused

  pub analyzer_granted : (place : ℕ) (a : ClosedAnalyzer) → slice_get c.analyzers place ≡ Some a → HasRefusedCall (calls_on_buffer c (caller_of_client (analyzer_client c place)) a.buffer) → ⊥
  analyzer_granted place a at had =
      let by : ℕ = caller_of_client (analyzer_client c place) in
      let end = ends.analyzers place a at in
      let reads : EachCall IsAnalyzerCall (calls_on_buffer c by a.buffer) = end.stands.stands.holds.calls.only_reads in
      granted a.buffer by end.stands.stands.asks.alone
      (λ start why m. each_at IsAnalyzerCall m.before m.after (Begin start (Err why)) (subst (EachCall IsAnalyzerCall) m.is reads))
      had.entry (among (calls_on_buffer c by a.buffer) had.entry had.among) had.refused
