-- Where the caller of a client answered No to its turn of a start, the Done of that start says that it was refused.
use Rattle.std.specs.Prelude.{◌≡◌, ℕ, suc, ◌≤◌, ◌<◌, ◌==◌, Bool, true, false, if◌then◌else◌, List, [], ◌∷◌, ◌++◌, fold, Option, Some, None, Ok, Err, refl}
use Rattle.std.proofs.Common.{ap, sym, ◌∙◌, subst, arith, inl, inr}
use Rattle.std.proofs.lemmas.Bool.{eqb-true}
use Rattle.daq_types.specs.Callers.{entries_by}
use Rattle.daq_types.specs.declared.runs.Order.{Order}
use Rattle.daq_types.specs.declared.runs.RunState.{RunState}
use Rattle.daq_types.specs.declared.runs.StartOutcome.{StartOutcome}
use Rattle.daq_types.specs.declared.runs.StartOutcome.TheVariants.{Refused}
use Rattle.daq_types.specs.declared.runs.Transition.TheVariants.{Start}
use Rattle.daq_types.specs.declared.runs.Why.{Why}
use Rattle.buffer_core.proofs.SlotLaws.{split}
use Rattle.transitions.specs.declared.client.Registered.{Registered}
use Rattle.transitions.specs.declared.answers.Answer.TheVariants.{Yes, No}
use Rattle.transitions.specs.declared.engine.Refusal.{Refusal}
use Rattle.transitions.specs.declared.replies.Polled.TheVariants.{Turn, Idle, Closed as PollClosed, NoClient}
use Rattle.transitions.specs.declared.replies.Progress.TheVariants.{Going, Done, None as NoneGoing}
use Rattle.transitions.specs.declared.entry.EngineEntry.TheVariants.{Register, Begin, Poll, Answer, Check, Close}
use Rattle.transitions.specs.Engines.{engine_opening}
use Rattle.transitions.specs.EngineCalls.{turn_of, is_start, has_polled, begun, first_polled, polled_by, first_refusal, answered_by, after_poll_by, after_answer_in, outcome_of, IsEngineReply, engine_after}
use Rattle.transitions.specs.EngineHistories.{engine_replay}
use Rattle.transitions.specs.GivenTurns.{SpeaksFor}
use Rattle.transitions.specs.Marks.{is_mark}
use Rattle.member_model.specs.Turns.{MemberTurn, HasTurn}
use Rattle.member_model.specs.TurnCalls.{turn_told, turn_answered, turns_with, member_turns}
use Rattle.member_model.specs.RunEngines.{Answer as ClientAnswer, EngineEntry, Underway, EngineState, EngineHistory, IsLegalEngine, ClientTally, Sheet}
use Rattle.history_laws.specs.BegunTurns.{HasTransition}
use Rattle.history_laws.specs.EngineLaws.{NosAreRefusals}
use Rattle.history_laws.proofs.Replies.{Begins, begins, GivesTurn, gives_turn, Owes, owes, owes_none, Refuses, answered_case, Finishes, finishes}
use Rattle.history_laws.proofs.TurnLists.{HaveUpTo, with_answer}
use Rattle.history_laws.proofs.Gave.{OpenFor, Gave, GaveAt, gave_step, gave_all, kept_all, gave_unaccepted, other_step, own_or_other, opening_gave}
use Rattle.history_laws.proofs.Begun.{told_source, polled_underway, answered_underway}
use Rattle.history_laws.proofs.Tallied.{legal_apart, speaks_apart, same_underway, turns_apart, turns_begin}

-- The turns.

-- the turn is of the start with this number, and was answered No for this reason
pub record IsNo (start : ℕ) (t : MemberTurn) (why : Why) : Type 0 where
  pub starts : t.transition ≡ Start
  pub of : t.order.start ≡ start
  pub answered : t.answer ≡ Some (No why)

-- what is said of each No to this start
abbrev pub NosSaid : (start : ℕ) → (said : Why → Type 0) → List MemberTurn → Type 0
NosSaid start said ts = (t : MemberTurn) (why : Why) → HasTurn ts t → IsNo start t why → said why

pub nos_polled : (start : ℕ) (said : Why → Type 0) (ts : List MemberTurn) (x : MemberTurn) → x.answer ≡ None → NosSaid start said ts → (mine : Bool) → NosSaid start said (if mine then turn_told ts x else ts)
nos_polled start said ts x unanswered nos false t why has refuses = nos t why has refuses
nos_polled start said ts x unanswered nos true t why has refuses = elim (told_source ts x t has) as (λ w. said why) [
  | inl before ↦ nos t why before refuses
  | inr same ↦ absurd (let never : None ≡ Some (No why) = sym unanswered ∙ (ap (λ (m : MemberTurn). m.answer) same ∙ refuses.answered) in cc (never))
]

-- the latest turn, which is not answered, gets its answer
nos_answered : (start : ℕ) (said next : Why → Type 0) (ts : List MemberTurn) (u : Underway) (answer : ClientAnswer) → OpenFor true u ts → ((why : Why) → said why → next why) → ((why : Why) → answer ≡ No why → is_start (turn_of u) ≡ true → u.order.start ≡ start → next why)
    → NosSaid start said ts → NosSaid start next (turn_answered ts answer)
nos_answered start said next ts u answer still keeps new nos t why has refuses =
    let latest : MemberTurn = record { transition = turn_of u; order = u.order; dump = still.0; answer = None } in
    let later : turn_answered ts answer ≡ with_answer latest answer ∷ still.1 = ap (λ (xs : List MemberTurn). turn_answered xs answer) still.2 in
    let there : HasTurn (with_answer latest answer ∷ still.1) t = subst (λ (xs : List MemberTurn). HasTurn xs t) later has in
    elim there as (λ w. next why) [
      | inl same ↦
          let both : Some answer ≡ Some (No why) = ap (λ (m : MemberTurn). m.answer) same ∙ refuses.answered in
          let kind : turn_of u ≡ Start = ap (λ (m : MemberTurn). m.transition) same ∙ refuses.starts in
          new why (cc (both)) (ap is_start kind) (ap (λ (m : MemberTurn). m.order.start) same ∙ refuses.of)
      | inr before ↦ keeps why (nos t why (subst (λ (xs : List MemberTurn). HasTurn xs t) (sym still.2) (inr before)) refuses)
    ]

-- so it is behind any answer that the engine takes
pub nos_taken : (start client other : ℕ) (said next : Why → Type 0) (ts : List MemberTurn) (state : RunState) (low : ℕ) (u : Underway) (answer : ClientAnswer) → GaveAt state low client ts (Some u) → has_polled u other ≡ true
    → ((why : Why) → said why → next why) → ((why : Why) → other ≡ client → Refuses u answer why → u.order.start ≡ start → next why)
    → NosSaid start said ts → NosSaid start next (if other == client then turn_answered ts answer else ts)
nos_taken start client other said next ts state low u answer g polled keeps new nos =
    split (other == client) (λ b. (other == client) ≡ b → NosSaid start next (if b then turn_answered ts answer else ts))
    (λ h same.
    let mine : other ≡ client = eqb-true other client same in
    let still : OpenFor true u ts = subst (λ (b : Bool). OpenFor b u ts) (subst (λ (n : ℕ). has_polled u n ≡ true) mine polled) g.now.open_turn in
    nos_answered start said next ts u answer still keeps (λ why is starts of. new why mine (record { is = is; starts = starts }) of) nos)
    (λ h not t why has refuses. keeps why (nos t why has refuses))
    refl

-- The engine.

-- the start number never falls
pub start_grows : (s : EngineState) (e : EngineEntry) → IsEngineReply s e → s.start ≤ (engine_after s e).start
start_grows s (Register name sequences dump report (Ok n)) reply = omega arith
start_grows s (Register name sequences dump report (Err r)) reply = omega arith
start_grows s (Begin t sheet (Ok n)) reply = grown (is_start t) n (begins s t n reply).number
  where
    grown : (starts : Bool) (m : ℕ) → m ≡ (if starts then suc s.start else s.start) → s.start ≤ m
    grown true m is = omega (arith, is)
    grown false m is = omega (arith, is)
start_grows s (Begin t sheet (Err r)) reply = omega arith
start_grows s (Poll other (Turn turn order dump blank)) reply =
    let p : GivesTurn s other turn order dump = gives_turn s other turn order dump blank reply in
    let same : (engine_after s (Poll other (Turn turn order dump blank))).start ≡ s.start = ap (λ (o : Option Registered). (after_poll_by s other o).start) p.client_is in
    omega (arith, same)
start_grows s (Poll other (Idle state)) reply = omega arith
start_grows s (Poll other PollClosed) reply = omega arith
start_grows s (Poll other NoClient) reply = omega arith
start_grows s (Answer other answer (Ok done)) reply =
    let w : Owes s other = owes s other done reply in
    let same : (engine_after s (Answer other answer (Ok done))).start ≡ s.start = ap (λ (o : Option Underway). (after_answer_in s other answer o).start) w.underway_is in
    omega (arith, same)
start_grows s (Answer other answer (Err r)) reply = omega arith
start_grows s (Check (Done outcome) tallies) reply = omega arith
start_grows s (Check Going tallies) reply = omega arith
start_grows s (Check NoneGoing tallies) reply = omega arith
start_grows s (Close (Ok done)) reply = omega arith
start_grows s (Close (Err r)) reply = omega arith

-- what an answer leaves of the transition
record Answered (u later : Underway) : Type 0 where
  order : later.order ≡ u.order
  starts : is_start (turn_of later) ≡ true → is_start (turn_of u) ≡ true

answered_so : (clients : List Registered) (other : ℕ) (answer : ClientAnswer) (u : Underway) → Answered u (answered_by clients other answer u)
answered_so clients other answer u =
    answered_case (Answered u) clients other answer u
    (λ tally is. record { order = refl; starts = λ e. e }) (λ why is. record { order = refl; starts = λ e. e })
    (λ v is kept. record { order = kept.order; starts = λ e. absurd (cc (e)) })

-- and a poll
polled_so : (client : ℕ) (c : Registered) (u : Underway) → Answered u (polled_by client c u)
polled_so client c u =
    split (has_polled u client) (λ b. Answered u (if b then u else first_polled client c u)) (λ h. record { order = refl; starts = λ e. e }) (λ h. record { order = refl; starts = λ e. e })

-- Between the begin and the Done the start of each No is refused.

record IsRefused (u : Underway) : Type 0 where
  refusal : Refusal
  is : u.refusal ≡ Some refusal

abbrev SomeRefuses : Underway → Why → Type 0
SomeRefuses u why = IsRefused u

record NosGoing (client start : ℕ) (ts : List MemberTurn) (s : EngineState) : Type 0 where
  u : Underway
  underway_is : s.underway ≡ Some u
  low : start ≤ s.start
  nos : NosSaid start (SomeRefuses u) ts

-- a first reply changes no refusal
polled_refused : (client : ℕ) (c : Registered) (u : Underway) → IsRefused u → IsRefused (polled_by client c u)
polled_refused client c u r = split (has_polled u client) (λ b. IsRefused (if b then u else first_polled client c u)) (λ h. r) (λ h. record { refusal = r.refusal; is = r.is })

-- nor does an answer behind the first No
still_refused : (clients : List Registered) (other : ℕ) (answer : ClientAnswer) (u : Underway) → IsRefused u → IsRefused (answered_by clients other answer u)
still_refused clients other answer u r =
    answered_case IsRefused clients other answer u (λ tally is. record { refusal = r.refusal; is = r.is }) (λ why is. record { refusal = first_refusal u.refusal other why; is = refl })
    (λ v is kept. record { refusal = kept.refusal; is = kept.is })

-- and a No to a start is one
now_refused : (clients : List Registered) (other : ℕ) (answer : ClientAnswer) (u : Underway) (why : Why) → Refuses u answer why → IsRefused (answered_by clients other answer u)
now_refused clients other answer u why refuses =
    answered_case IsRefused clients other answer u
    (λ tally is. absurd (let both : Yes tally ≡ No why = sym (is.accepted refuses.starts) ∙ refuses.is in cc (both)))
    (λ reason is. record { refusal = first_refusal u.refusal other reason; is = refl })
    (λ v is kept. record { refusal = kept.refusal; is = kept.is })

going_answered : (client other start : ℕ) (ts : List MemberTurn) (state : RunState) (low : ℕ) (u : Underway) (clients : List Registered) (answer : ClientAnswer) → GaveAt state low client ts (Some u) → has_polled u other ≡ true → NosSaid start (SomeRefuses u) ts
    → NosSaid start (SomeRefuses (answered_by clients other answer u)) (if other == client then turn_answered ts answer else ts)
going_answered client other start ts state low u clients answer g polled nos =
    nos_taken start client other (SomeRefuses u) (SomeRefuses (answered_by clients other answer u)) ts state low u answer g polled
    (λ why r. still_refused clients other answer u r) (λ why mine refuses of. now_refused clients other answer u why refuses) nos

going_step : (client start : ℕ) (ts : List MemberTurn) (s : EngineState) (e : EngineEntry) → Gave s client ts → is_mark e ≡ false → IsEngineReply s e → NosGoing client start ts s → NosGoing client start (turns_with client ts e) (engine_after s e)
going_step client start ts s (Begin t sheet (Ok n)) g mark reply o = absurd (cc (mark))
going_step client start ts s (Check (Done outcome) tallies) g mark reply o = absurd (cc (mark))
going_step client start ts s (Poll other (Turn turn order dump blank)) g mark reply o =
    let p : GivesTurn s other turn order dump = gives_turn s other turn order dump blank reply in
    let grows : s.start ≤ (engine_after s (Poll other (Turn turn order dump blank))).start = start_grows s (Poll other (Turn turn order dump blank)) reply in
    record {
      u = polled_by other p.c p.u;
      underway_is = polled_underway s other p.c p.u p.client_is p.underway_is;
      low = omega (arith, grows, o.low);
      nos = nos_polled start (SomeRefuses (polled_by other p.c p.u)) ts (record { transition = turn; order = order; dump = dump; answer = None }) refl
          (λ t why has refuses. polled_refused other p.c p.u (subst IsRefused (same_underway s o.u p.u o.underway_is p.underway_is) (o.nos t why has refuses))) (other == client);
    }
going_step client start ts s (Answer other answer (Ok done)) g mark reply o =
    let w : Owes s other = owes s other done reply in
    let at : GaveAt s.state s.start client ts (Some w.u) = subst (GaveAt s.state s.start client ts) w.underway_is g in
    let grows : s.start ≤ (engine_after s (Answer other answer (Ok done))).start = start_grows s (Answer other answer (Ok done)) reply in
    record {
      u = answered_by s.clients other answer w.u;
      underway_is = answered_underway s other answer w.u w.underway_is;
      low = omega (arith, grows, o.low);
      nos = going_answered client other start ts s.state s.start w.u s.clients answer at w.polled
          (subst (λ (u : Underway). NosSaid start (SomeRefuses u) ts) (same_underway s o.u w.u o.underway_is w.underway_is) o.nos);
    }
going_step client start ts s (Answer other answer (Err r)) g mark reply o =
    subst (λ (x : List MemberTurn). NosGoing client start x s) (sym (gave_unaccepted s client other ts answer g (owes_none s other r reply))) o
going_step client start ts s (Register name sequences dump report (Ok n)) g mark reply o = record { u = o.u; underway_is = o.underway_is; low = o.low; nos = o.nos }
going_step client start ts s (Close (Ok done)) g mark reply o = record { u = o.u; underway_is = o.underway_is; low = o.low; nos = o.nos }
going_step client start ts s (Register name sequences dump report (Err r)) g mark reply o = o
going_step client start ts s (Begin t sheet (Err r)) g mark reply o = o
going_step client start ts s (Poll other (Idle state)) g mark reply o = o
going_step client start ts s (Poll other PollClosed) g mark reply o = o
going_step client start ts s (Poll other NoClient) g mark reply o = o
going_step client start ts s (Check Going tallies) g mark reply o = o
going_step client start ts s (Check NoneGoing tallies) g mark reply o = o
going_step client start ts s (Close (Err r)) g mark reply o = o

-- Behind the Done no turn of the start is given, and so none is answered.

pub record NosOver (start : ℕ) (said : Why → Type 0) (ts : List MemberTurn) (s : EngineState) : Type 0 where
  pub low : start ≤ s.start
  pub other : (u : Underway) → s.underway ≡ Some u → is_start (turn_of u) ≡ true → start < u.order.start
  pub nos : NosSaid start said ts

over_step : (client start : ℕ) (said : Why → Type 0) (ts : List MemberTurn) (s : EngineState) (e : EngineEntry) → Gave s client ts → IsEngineReply s e → NosOver start said ts s → NosOver start said (turns_with client ts e) (engine_after s e)
over_step client start said ts s (Begin t sheet (Ok n)) g reply o =
    let grows : s.start ≤ n = start_grows s (Begin t sheet (Ok n)) reply in
    record {
      low = omega (arith, grows, o.low);
      other = λ u is starts.
          let same : begun s t sheet n ≡ u = cc (is) in
          let kind : is_start t ≡ true = ap (λ (v : Underway). is_start (turn_of v)) same ∙ starts in
          let number : n ≡ suc s.start = (begins s t n reply).number ∙ ap (λ (b : Bool). if b then suc s.start else s.start) kind in
          let of : n ≡ u.order.start = ap (λ (v : Underway). v.order.start) same in
          omega (arith, number, of, o.low);
      nos = o.nos;
    }
over_step client start said ts s (Poll other (Turn turn order dump blank)) g reply o =
    let p : GivesTurn s other turn order dump = gives_turn s other turn order dump blank reply in
    let grows : s.start ≤ (engine_after s (Poll other (Turn turn order dump blank))).start = start_grows s (Poll other (Turn turn order dump blank)) reply in
    record {
      low = omega (arith, grows, o.low);
      other = λ u is starts.
          let both : Some (polled_by other p.c p.u) ≡ Some u = sym (polled_underway s other p.c p.u p.client_is p.underway_is) ∙ is in
          let same : polled_by other p.c p.u ≡ u = cc (both) in
          let so : Answered p.u (polled_by other p.c p.u) = polled_so other p.c p.u in
          let kind : is_start (turn_of p.u) ≡ true = so.starts (ap (λ (v : Underway). is_start (turn_of v)) same ∙ starts) in
          let of : p.u.order.start ≡ u.order.start = ap (λ (x : Order). x.start) (sym so.order) ∙ ap (λ (v : Underway). v.order.start) same in
          omega (arith, o.other p.u p.underway_is kind, of);
      nos = nos_polled start said ts (record { transition = turn; order = order; dump = dump; answer = None }) refl o.nos (other == client);
    }
over_step client start said ts s (Answer other answer (Ok done)) g reply o =
    let w : Owes s other = owes s other done reply in
    let at : GaveAt s.state s.start client ts (Some w.u) = subst (GaveAt s.state s.start client ts) w.underway_is g in
    let grows : s.start ≤ (engine_after s (Answer other answer (Ok done))).start = start_grows s (Answer other answer (Ok done)) reply in
    let later : Underway = answered_by s.clients other answer w.u in
    let so : Answered w.u later = answered_so s.clients other answer w.u in
    record {
      low = omega (arith, grows, o.low);
      other = λ u is starts.
          let both : Some later ≡ Some u = sym (answered_underway s other answer w.u w.underway_is) ∙ is in
          let same : later ≡ u = cc (both) in
          let kind : is_start (turn_of w.u) ≡ true = so.starts (ap (λ (v : Underway). is_start (turn_of v)) same ∙ starts) in
          let of : w.u.order.start ≡ u.order.start = ap (λ (x : Order). x.start) (sym so.order) ∙ ap (λ (v : Underway). v.order.start) same in
          omega (arith, o.other w.u w.underway_is kind, of);
      nos = nos_taken start client other said said ts s.state s.start w.u answer at w.polled
          (λ why is. is) (λ why mine refuses of. absurd (omega (arith, o.other w.u w.underway_is refuses.starts, of))) o.nos;
    }
over_step client start said ts s (Answer other answer (Err r)) g reply o =
    subst (λ (x : List MemberTurn). NosOver start said x s) (sym (gave_unaccepted s client other ts answer g (owes_none s other r reply))) o
over_step client start said ts s (Check (Done later) tallies) g reply o = record { low = o.low; other = λ u is. absurd (cc (is)); nos = o.nos }
over_step client start said ts s (Register name sequences dump report (Ok n)) g reply o = record { low = o.low; other = o.other; nos = o.nos }
over_step client start said ts s (Close (Ok done)) g reply o = record { low = o.low; other = o.other; nos = o.nos }
over_step client start said ts s (Register name sequences dump report (Err r)) g reply o = o
over_step client start said ts s (Begin t sheet (Err r)) g reply o = o
over_step client start said ts s (Poll other (Idle state)) g reply o = o
over_step client start said ts s (Poll other PollClosed) g reply o = o
over_step client start said ts s (Poll other NoClient) g reply o = o
over_step client start said ts s (Check Going tallies) g reply o = o
over_step client start said ts s (Check NoneGoing tallies) g reply o = o
over_step client start said ts s (Close (Err r)) g reply o = o

pub over_all : (start by client : ℕ) (said : Why → Type 0) (ts : List MemberTurn) (s : EngineState) (h : EngineHistory) → IsLegalEngine s h → SpeaksFor by client h → Gave s client ts → NosOver start said ts s
    → NosOver start said (fold (turns_with client) ts (entries_by by h)) (engine_replay s h)
over_all start by client said ts s [] legal alone g o = o
over_all start by client said ts s (x ∷ h) legal alone g o =
    let next : Gave (engine_after s x.1) client (turns_with client ts x.1) = gave_step s client ts x.1 g legal.1 in
    let over : NosOver start said (turns_with client ts x.1) (engine_after s x.1) = over_step client start said ts s x.1 g legal.1 o in
    own_or_other by client x h (λ es. NosOver start said (fold (turns_with client) ts es) (engine_replay (engine_after s x.1) h)) alone.0
    (over_all start by client said (turns_with client ts x.1) (engine_after s x.1) h legal.2 alone.1 next over)
    (λ not. let same : turns_with client ts x.1 ≡ ts = other_step s client ts x.1 g legal.1 not in
    over_all start by client said ts (engine_after s x.1) h legal.2 alone.1 (subst (Gave (engine_after s x.1) client) same next)
    (subst (λ (y : List MemberTurn). NosOver start said y (engine_after s x.1)) same over))

-- The law.

-- a check is no call of a client
turns_check : (by client : ℕ) (ts : List MemberTurn) (closer : ℕ) (outcome : StartOutcome) (tallies : _) (ys : EngineHistory) → fold (turns_with client) ts (entries_by by ((closer, Check (Done outcome) tallies) ∷ ys)) ≡ fold (turns_with client) ts (entries_by by ys)
turns_check by client ts closer outcome tallies ys =
    own_or_other by client (closer, Check (Done outcome) tallies) ys (λ es. fold (turns_with client) ts es ≡ fold (turns_with client) ts (entries_by by ys)) (λ (is : false ≡ true). absurd (cc (is))) refl (λ not. refl)

-- What is kept from the begin of a start to its Done tells of each No to it at the history's end: behind the Done no turn of the
-- start is given, and so none is answered.
pub start_law : (by client : ℕ) (history : EngineHistory) → IsLegalEngine engine_opening history → SpeaksFor by client history → (sheet : Sheet) (start : ℕ) (outcome : StartOutcome) (tallies : List ClientTally)
    → (has : HasTransition history Start sheet start outcome tallies) → (K : List MemberTurn → EngineState → Type 0) → (said : Why → Type 0)
    → (IsLegalEngine engine_opening has.earlier → (ts : List MemberTurn) → Begins (engine_replay engine_opening has.earlier) Start start → HaveUpTo (engine_replay engine_opening has.earlier).start ts
    → K ts (engine_after (engine_replay engine_opening has.earlier) (Begin Start sheet (Ok start))))
    → ((ts : List MemberTurn) (s : EngineState) (e : EngineEntry) → Gave s client ts → is_mark e ≡ false → IsEngineReply s e → K ts s → K (turns_with client ts e) (engine_after s e))
    → ((ts : List MemberTurn) (s : EngineState) → IsEngineReply s (Check (Done outcome) tallies) → K ts s → (start ≤ s.start) × NosSaid start said ts)
    → NosSaid start said (member_turns client (entries_by by history))
start_law by client history legal alone sheet start outcome tallies has K said opens step ends =
    let begin : ℕ × EngineEntry = (has.opener, Begin Start sheet (Ok start)) in
    let done : ℕ × EngineEntry = (has.closer, Check (Done outcome) tallies) in
    let rest : EngineHistory = has.between ++ done ∷ has.later in
    let s1 : EngineState = engine_replay engine_opening has.earlier in
    let first = legal_apart engine_opening has.earlier (begin ∷ rest) (subst (IsLegalEngine engine_opening) has.whole legal) in
    let s2 : EngineState = engine_after s1 begin.1 in
    let second = legal_apart s2 has.between (done ∷ has.later) first.1.2 in
    let s3 : EngineState = engine_replay s2 has.between in
    let s4 : EngineState = engine_after s3 done.1 in
    let speaks = speaks_apart by client has.earlier (begin ∷ rest) (subst (SpeaksFor by client) has.whole alone) in
    let speaks_later = speaks_apart by client has.between (done ∷ has.later) speaks.1.1 in
    let ts1 : List MemberTurn = fold (turns_with client) [] (entries_by by has.earlier) in
    let ts2 : List MemberTurn = fold (turns_with client) ts1 (entries_by by has.between) in
    let g1 : Gave s1 client ts1 = gave_all engine_opening by client has.earlier [] first.0 speaks.0 (opening_gave client) in
    let g2 : Gave s2 client ts1 = gave_step s1 client ts1 begin.1 g1 first.1.1 in
    let g3 : Gave s3 client ts2 = gave_all s2 by client has.between ts1 second.0 speaks_later.0 g2 in
    let g4 : Gave s4 client ts2 = gave_step s3 client ts2 done.1 g3 second.1.1 in
    let kept : K ts2 s3 = kept_all by client K step ts1 s2 has.between second.0 speaks_later.0 has.on g2 (opens first.0 ts1 (begins s1 Start start first.1.1) g1.low) in
    let last = ends ts2 s3 second.1.1 kept in
    let over : NosOver start said ts2 s4 = record { low = last.0; other = λ u is. absurd (cc (is)); nos = last.1 } in
    let end : NosOver start said (fold (turns_with client) ts2 (entries_by by has.later)) (engine_replay s4 has.later) = over_all start by client said ts2 s4 has.later second.1.2 speaks_later.1.1 g4 over in
    let turns_are : member_turns client (entries_by by history) ≡ fold (turns_with client) ts2 (entries_by by has.later) =
    ap (λ (h : EngineHistory). member_turns client (entries_by by h)) has.whole
    ∙ (turns_apart by client [] has.earlier (begin ∷ rest)
    ∙ (turns_begin by client ts1 has.opener Start sheet start rest
    ∙ (turns_apart by client ts1 has.between (done ∷ has.later) ∙ turns_check by client ts2 has.closer outcome tallies has.later))) in
    subst (NosSaid start said) (sym turns_are) end.nos

-- no turn before the begin is of this start
pub none_before : (start low : ℕ) (said : Why → Type 0) (ts : List MemberTurn) → start ≡ suc low → HaveUpTo low ts → NosSaid start said ts
none_before start low said ts number up_to t why has refuses = absurd (omega (arith, up_to t has, number, refuses.of))

abbrev IsRefusal : StartOutcome → Type 0
IsRefusal outcome = (refuser : ℕ) × (reason : Why) × (outcome ≡ Refused refuser reason)

pub nos_are_refusals : NosAreRefusals
nos_are_refusals by client history legal alone sheet start outcome tallies has turn stands starts of why answered =
    start_law by client history legal alone sheet start outcome tallies has (NosGoing client start) (λ reason. IsRefusal outcome) opens (going_step client start) ends turn why stands (record { starts = starts; of = of; answered = answered })
  where
    opens : IsLegalEngine engine_opening has.earlier → (ts : List MemberTurn) → Begins (engine_replay engine_opening has.earlier) Start start → HaveUpTo (engine_replay engine_opening has.earlier).start ts
        → NosGoing client start ts (engine_after (engine_replay engine_opening has.earlier) (Begin Start sheet (Ok start)))
    opens past ts b low =
        let u : Underway = begun (engine_replay engine_opening has.earlier) Start sheet start in
        record { u = u; underway_is = refl; low = omega arith; nos = none_before start (engine_replay engine_opening has.earlier).start (SomeRefuses u) ts b.number low }

    ends : (ts : List MemberTurn) (s : EngineState) → IsEngineReply s (Check (Done outcome) tallies) → NosGoing client start ts s → (start ≤ s.start) × NosSaid start (λ reason. IsRefusal outcome) ts
    ends ts s reply going = (
      going.low,
      λ t reason there refuses.
          let f : Finishes s outcome = finishes s outcome reply.0 in
          let r : IsRefused f.u = subst IsRefused (same_underway s going.u f.u going.underway_is f.underway_is) (going.nos t reason there refuses) in
          (r.refusal.client, r.refusal.why, f.outcome_is ∙ ap outcome_of r.is),
    )
