-- A start is refused as not ready by a client that asks for reports only where its sheet has too few blank reports.
use Rattle.std.specs.Prelude.{◌≡◌, ℕ, ◌<◌, ◌&&◌, Bool, true, if◌then◌else◌, length, slice_get, List, [], ◌∷◌, ◌++◌, Option, Some, None, Ok, refl}
use Rattle.std.specs.List.{AllByRecursion}
use Rattle.std.proofs.Common.{ap, sym, ◌∙◌, subst, arith, append_assoc, inl, inr}
use Rattle.daq_types.specs.Callers.{entries_by, main_caller}
use Rattle.daq_types.specs.declared.runs.Order.{Order}
use Rattle.daq_types.specs.declared.runs.Transition.{Transition}
use Rattle.daq_types.specs.declared.runs.Transition.TheVariants.{Start}
use Rattle.daq_types.specs.declared.runs.StartOutcome.TheVariants.{Refused}
use Rattle.daq_types.specs.declared.runs.Why.TheVariants.{NotReady}
use Rattle.event_report.specs.Reports.{Totals}
use Rattle.buffer_core.proofs.SlotLaws.{split}
use Rattle.transitions.specs.declared.client.Registered.{Registered}
use Rattle.transitions.specs.declared.replies.Progress.TheVariants.{Done}
use Rattle.transitions.specs.declared.replies.Polled.TheVariants.{Turn, Idle, Closed as PollClosed}
use Rattle.transitions.specs.declared.entry.EngineEntry.TheVariants.{Begin, Poll, Check}
use Rattle.transitions.specs.Engines.{engine_opening}
use Rattle.transitions.specs.EngineCalls.{is_start, has_polled, is_next, turn_of, gets_blank, same_turn, first_turn, poll_reply, poll_reply_to, poll_reply_in}
use Rattle.transitions.specs.EngineHistories.{engine_replay}
use Rattle.transitions.specs.GivenTurns.{SpeaksFor}
use Rattle.member_model.specs.RunEngines.{Sheet, EngineEntry, Underway, EngineState, EngineHistory, IsLegalEngine}
use Rattle.member_model.specs.Turns.{MemberTurn}
use Rattle.member_model.specs.TurnCalls.{member_turns}
use Rattle.history_laws.specs.EngineLaws.{RefusalsAreAnswers}
use Rattle.history_laws.proofs.Standing.{next_called}
use Rattle.history_laws.proofs.Replies.{GivesFirst, IsGiven, GivesTurn, gives_turn}
use Rattle.history_laws.proofs.Gave.{OpenFor, RunsOn, StandsAt, Gave, gave_all, opening_gave}
use Rattle.daq_members.specs.OwnTurns.{start_owed, open_start}
use Rattle.daq_members.specs.BareTurns.{IsBareTurn}
use Rattle.composition.proofs.SessionTurns.{StartsRise, one_begin}
use Rattle.session_laws.specs.BlankLaws.{reports_asked, AsksReports, BlanksSuffice}
use Rattle.session_laws.proofs.Wanted.{one_if, total_without}
use Rattle.session_laws.proofs.Held.{StartHeld, Held, BlanksAt, asked_more, blanks_told}
use Rattle.session_laws.proofs.Points.{PointOf, point_of, legal_front, reply_at, speaks_front, all_front}

-- what the first reply of a turn gives for a blank report
blank_is : (s : EngineState) (client : ℕ) (turn : Transition) (order : Order) (dump : Option (List ℕ)) (blank : Option Totals) (p : GivesTurn s client turn order dump) → GivesFirst p.c p.u client dump → Turn turn order dump blank ≡ poll_reply s client
    → blank ≡ (if gets_blank p.c p.u then slice_get p.u.blanks 0 else None)
blank_is s client turn order dump blank p first e =
    split s.closed (λ b. Turn turn order dump blank ≡ (if b then PollClosed else poll_reply_in s.state client p.c s.underway) → blank ≡ (if gets_blank p.c p.u then slice_get p.u.blanks 0 else None))
    (λ h e'. absurd (cc (e')))
    (λ h e'. (let reply : Turn turn order dump blank ≡ first_turn p.c p.u =
    e'
    ∙ (ap (poll_reply_in s.state client p.c) p.underway_is
    ∙ (ap (λ (b : Bool). if b then same_turn p.u else if is_next p.u.polled p.u.called client then first_turn p.c p.u else Idle s.state) first.fresh
    ∙ ap (λ (b : Bool). if b then first_turn p.c p.u else Idle s.state) first.next)) in
    cc (reply)))
    (e ∙ ap (poll_reply_to s client) p.client_is)

-- where the client has no turn open, the one that it is given is a new one
first_given : (c : Registered) (u : Underway) (client : ℕ) (dump : Option (List ℕ)) (ts : List MemberTurn) → OpenFor (has_polled u client) u ts → open_start ts ≡ None → IsGiven c u client dump → GivesFirst c u client dump
first_given c u client dump ts opened fresh (inr first) = first
first_given c u client dump ts opened fresh (inl again) =
    let still : OpenFor true u ts = subst (λ (b : Bool). OpenFor b u ts) again.polled opened in
    let owed : Some u.order.start ≡ None = sym (ap open_start still.2) ∙ fresh in
    absurd (cc (owed))

none_left : (blanks : List Totals) → None ≡ slice_get blanks 0 → length blanks ≡ 0
none_left [] none = refl
none_left (b ∷ blanks) none = absurd (cc (none))

-- a new turn of a start without a blank report is given once no blank report is left
bare_few : (h : EngineHistory) (client : ℕ) (s : EngineState) (order : Order) (dump : Option (List ℕ)) (at : BlanksAt h client s.clients s.underway) (p : GivesTurn s client Start order dump) → None ≡ (if gets_blank p.c p.u then slice_get p.u.blanks 0 else None)
    → GivesFirst p.c p.u client dump → (hold : StartHeld h s.clients p.u) → length hold.sheet.blanks < reports_asked (entries_by main_caller h)
bare_few h client s order dump at p blank first hold =
    let wants : p.c.wants_report ≡ true = at.mine p.c p.client_is in
    let starts : is_start (turn_of p.u) ≡ true = ap is_start (sym p.turn_is) in
    let gets : gets_blank p.c p.u ≡ true = ap (λ (b : Bool). b && is_start (turn_of p.u)) wants ∙ starts in
    let none : None ≡ slice_get p.u.blanks 0 = blank ∙ ap (λ (b : Bool). if b then slice_get p.u.blanks 0 else None) gets in
    let empty : length p.u.blanks ≡ 0 = none_left p.u.blanks none in
    let one : one_if p.c.wants_report ≡ 1 = ap one_if wants in
    let asked = at.asked in
    let few = hold.few in
    omega (arith, few, total_without s.clients client p.c p.u.called p.client_is (next_called p.u client first.next))

-- A start was begun with this number, and its sheet has fewer blank reports than the main thread registered clients that ask for
-- reports.
record Begun (history : EngineHistory) (start : ℕ) : Type 0 where
  earlier : EngineHistory
  later : EngineHistory
  caller : ℕ
  sheet : Sheet
  stands : history ≡ earlier ++ (caller, Begin Start sheet (Ok start)) ∷ later
  few : length sheet.blanks < reports_asked (entries_by main_caller history)

-- the same of the history in which the bare turn is given
begun_on : (h back : EngineHistory) (x : ℕ × EngineEntry) (start : ℕ) → Begun h start → Begun (h ++ x ∷ back) start
begun_on h back x start b =
    let more = asked_more h (x ∷ back) in
    let few = b.few in
    record {
      earlier = b.earlier;
      later = b.later ++ x ∷ back;
      caller = b.caller;
      sheet = b.sheet;
      stands = ap (λ (l : EngineHistory). l ++ x ∷ back) b.stands ∙ append_assoc b.earlier ((b.caller, Begin Start b.sheet (Ok start)) ∷ b.later) (x ∷ back);
      few = omega arith;
    }

bare_begun : (by client : ℕ) (h : EngineHistory) (order : Order) (dump : Option (List ℕ)) → IsLegalEngine engine_opening h → SpeaksFor by client h → AllByRecursion (AsksReports client) h
    → start_owed client (entries_by by h) ≡ None → Turn Start order dump None ≡ poll_reply (engine_replay engine_opening h) client → Begun h order.start
bare_begun by client h order dump legal speaks asks fresh reply =
    let s : EngineState = engine_replay engine_opening h in
    let ts : List MemberTurn = member_turns client (entries_by by h) in
    let g : GivesTurn s client Start order dump = gives_turn s client Start order dump None reply in
    let at : BlanksAt h client s.clients s.underway = blanks_told client h legal asks in
    let gave : Gave s client ts = gave_all engine_opening by client h [] legal speaks (opening_gave client) in
    let now : RunsOn s.state s.start client ts g.u = subst (StandsAt s.state s.start client ts) g.underway_is gave.now in
    let first : GivesFirst g.c g.u client dump = first_given g.c g.u client dump ts now.open_turn fresh g.given in
    let held : Held h s.clients (Some g.u) = subst (Held h s.clients) g.underway_is at.held in
    let hold : StartHeld h s.clients g.u = held (ap is_start (sym g.turn_is)) in
    record {
      earlier = hold.earlier;
      later = hold.later;
      caller = hold.caller;
      sheet = hold.sheet;
      stands = subst (λ (o : Order). h ≡ hold.earlier ++ (hold.caller, Begin Start hold.sheet (Ok o.start)) ∷ hold.later) (sym g.order_is) hold.stands;
      few = bare_few h client s order dump at g (blank_is s client Start order dump None g first reply) first hold;
    }

at_point : (by client : ℕ) (h back : EngineHistory) (transition : Transition) (order : Order) (dump : Option (List ℕ)) → transition ≡ Start
    → IsLegalEngine engine_opening (h ++ (by, Poll client (Turn transition order dump None)) ∷ back) → SpeaksFor by client (h ++ (by, Poll client (Turn transition order dump None)) ∷ back)
    → AllByRecursion (AsksReports client) (h ++ (by, Poll client (Turn transition order dump None)) ∷ back) → start_owed client (entries_by by h) ≡ None → Begun (h ++ (by, Poll client (Turn transition order dump None)) ∷ back) order.start
at_point by client h back transition order dump starts legal speaks asks fresh =
    let x : ℕ × EngineEntry = (by, Poll client (Turn transition order dump None)) in
    let said : Turn transition order dump None ≡ poll_reply (engine_replay engine_opening h) client = reply_at engine_opening h back x legal in
    begun_on h back x order.start
    (bare_begun by client h order dump (legal_front engine_opening h (x ∷ back) legal) (speaks_front by client h (x ∷ back) speaks) (all_front (AsksReports client) h (x ∷ back) asks) fresh
    (subst (λ (k : Transition). Turn k order dump None ≡ poll_reply (engine_replay engine_opening h) client) starts said))

-- the sheet is the one that the start was begun with
pub blanks_suffice : RefusalsAreAnswers → StartsRise → BlanksSuffice
blanks_suffice refusals rise by client history legal speaks asks bare sheet start tallies has =
    let r = refusals by client history legal speaks sheet start NotReady tallies has in
    let t : MemberTurn = r.turn in
    let b : IsBareTurn client (entries_by by history) t = bare t r.stands r.answered in
    let e : EngineEntry = Poll client (Turn t.transition t.order t.dump None) in
    let p : PointOf by history b.earlier e = point_of by history b.earlier b.later e b.is in
    let fresh : start_owed client (entries_by by p.front) ≡ None = ap (λ (calls : List EngineEntry). start_owed client calls) p.own ∙ b.fresh in
    let there : Begun (p.front ++ (by, e) ∷ p.back) t.order.start =
    at_point by client p.front p.back t.transition t.order t.dump r.starts (subst (IsLegalEngine engine_opening) p.whole legal) (subst (SpeaksFor by client) p.whole speaks)
    (subst (AllByRecursion (AsksReports client)) p.whole asks) fresh in
    let number : t.order.start ≡ start = ap (λ (o : Order). o.start) r.of_begin.order in
    let begun : Begun history start = subst (λ (n : ℕ). Begun history n) number (subst (λ (l : EngineHistory). Begun l t.order.start) (sym p.whole) there) in
    let same : begun.sheet ≡ sheet =
    one_begin rise history legal start begun.earlier begun.later begun.caller begun.sheet begun.stands
    has.earlier (has.between ++ (has.closer, Check (Done (Refused client NotReady)) tallies) ∷ has.later) has.opener sheet has.whole in
    subst (λ (x : Sheet). length x.blanks < reports_asked (entries_by main_caller history)) same begun.few
