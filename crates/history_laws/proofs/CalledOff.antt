-- Where a start was refused, each client that is called for a start-abort answered its turn of that.
use Rattle.std.specs.Prelude.{◌≡◌, ℕ, ◌==◌, Bool, true, false, if◌then◌else◌, List, [], ◌∷◌, ◌++◌, fold, Some, None, Ok, Err, refl, ◌⊎◌}
use Rattle.std.proofs.Common.{ap, sym, ◌∙◌, subst, inl, inr}
use Rattle.std.proofs.lemmas.Bool.{eqb-true}
use Rattle.daq_types.specs.Callers.{entries_by}
use Rattle.daq_types.specs.declared.runs.RunState.{RunState}
use Rattle.daq_types.specs.declared.runs.StartOutcome.{StartOutcome}
use Rattle.daq_types.specs.declared.runs.StartOutcome.TheVariants.{Refused}
use Rattle.daq_types.specs.declared.runs.Transition.TheVariants.{Start, StartAbort}
use Rattle.buffer_core.proofs.SlotLaws.{split}
use Rattle.transitions.specs.declared.client.Registered.{Registered}
use Rattle.transitions.specs.declared.replies.Polled.TheVariants.{Turn, Idle, Closed as PollClosed, NoClient}
use Rattle.transitions.specs.declared.replies.Progress.TheVariants.{Going, Done, None as NoneGoing}
use Rattle.transitions.specs.declared.entry.EngineEntry.TheVariants.{Register, Begin, Poll, Answer, Check, Close}
use Rattle.transitions.specs.Engines.{engine_opening}
use Rattle.transitions.specs.EngineCalls.{turn_kind, turn_of, stands_in, without, group_of, has_polled, open_of, begun, first_polled, polled_by, is_due_off, called_off, answered_with, answered_by, IsEngineReply, engine_after}
use Rattle.transitions.specs.EngineHistories.{engine_replay}
use Rattle.transitions.specs.GivenTurns.{SpeaksFor}
use Rattle.transitions.specs.Marks.{is_mark}
use Rattle.member_model.specs.RunEngines.{Answer as ClientAnswer, EngineEntry, Underway, EngineState, EngineHistory, IsLegalEngine}
use Rattle.member_model.specs.Turns.{MemberTurn}
use Rattle.member_model.specs.TurnCalls.{turn_answered, turns_with, member_turns}
use Rattle.history_laws.specs.BegunTurns.{IsCalledOff}
use Rattle.history_laws.specs.EngineLaws.{RefusedAreCalledOff}
use Rattle.transitions.proofs.Groups.{settled_not_due}
use Rattle.transitions.proofs.Tracked.{pushed_not_due}
use Rattle.history_laws.proofs.Standing.{open_called, first_open, answered_open, none_open, start_not_off, off_at_end}
use Rattle.history_laws.proofs.Replies.{GivesTurn, gives_turn, Owes, owes, owes_none, answered_case, Finishes, finishes}
use Rattle.history_laws.proofs.TurnLists.{with_answer}
use Rattle.history_laws.proofs.Gave.{OpenFor, Gave, GaveAt, gave_step, gave_all, kept_all, gave_unaccepted, opening_gave}
use Rattle.history_laws.proofs.Begun.{polled_underway, answered_underway}
use Rattle.history_laws.proofs.Tallied.{legal_apart, speaks_apart, step_stays, all_stay, register_number, polled_clients, answered_clients, same_underway, turns_apart, turns_begin, refusal_is}
use Rattle.history_laws.proofs.Completed.{CalledLists, Listed, listed_in, registered_listed}

-- Once start-abort is begun, the client has yet to answer its turn of that, or it did.

abbrev MayBeOff : (client start : ℕ) → List MemberTurn → Underway → Type 0
MayBeOff client start ts u = u.is_off ≡ true → (stands_in (open_of u) client ≡ true) ⊎ IsCalledOff ts start

record Off (client start : ℕ) (ts : List MemberTurn) (s : EngineState) : Type 0 where
  u : Underway
  underway_is : s.underway ≡ Some u
  number : u.order.start ≡ start
  listed : Listed StartAbort client s.clients
  unsettled : is_due_off u.refusal u.polled u.is_off ≡ false
  off : MayBeOff client start ts u

off_stays : (client start : ℕ) (ts : List MemberTurn) (e : EngineEntry) → IsCalledOff ts start → IsCalledOff (turns_with client ts e) start
off_stays client start ts e o = record { turn = o.turn; stands = step_stays client ts e o.answer o.turn o.answered o.stands; is = o.is; of = o.of; answer = o.answer; answered = o.answered }

-- the client answers its turn of the start-abort
own_off : (client start : ℕ) (ts : List MemberTurn) (u : Underway) (answer : ClientAnswer) → u.order.start ≡ start → u.is_off ≡ true → OpenFor true u ts → IsCalledOff (turn_answered ts answer) start
own_off client start ts u answer number is still =
    let t : MemberTurn = record { transition = turn_of u; order = u.order; dump = still.0; answer = None } in
    let later : turn_answered ts answer ≡ with_answer t answer ∷ still.1 = ap (λ (xs : List MemberTurn). turn_answered xs answer) still.2 in
    subst (λ (xs : List MemberTurn). IsCalledOff xs start) (sym later)
    (record { turn = with_answer t answer; stands = inl refl; is = ap (turn_kind u.transition) is; of = number; answer = answer; answered = refl })

told_off : (client other start : ℕ) (ts : List MemberTurn) (state : RunState) (low : ℕ) (u : Underway) (answer : ClientAnswer) → GaveAt state low client ts (Some u) → u.order.start ≡ start → has_polled u other ≡ true → MayBeOff client start ts u
    → u.is_off ≡ true → (stands_in (without other u.polled ++ u.called) client ≡ true) ⊎ IsCalledOff (if other == client then turn_answered ts answer else ts) start
told_off client other start ts state low u answer g number polled off is = moves (other == client) refl (off is)
  where
    moves : (b : Bool) → (other == client) ≡ b → (stands_in (open_of u) client ≡ true) ⊎ IsCalledOff ts start
        → (stands_in (without other u.polled ++ u.called) client ≡ true) ⊎ IsCalledOff (if b then turn_answered ts answer else ts) start
    moves b e (inr done) = inr (subst (λ (x : Bool). IsCalledOff (if x then turn_answered ts answer else ts) start) e (off_stays client start ts (Answer other answer (Ok tt)) done))
    moves true e (inl waits) =
        let same : other ≡ client = eqb-true other client e in
        let still : OpenFor true u ts = subst (λ (b : Bool). OpenFor b u ts) (subst (λ (n : ℕ). has_polled u n ≡ true) same polled) g.now.open_turn in
        inr (own_off client start ts u answer number is still)
    moves false e (inl waits) = inl (answered_open client other u.polled u.called e waits)

abbrev AnsweredOff : (client start : ℕ) → List MemberTurn → Underway → Type 0
AnsweredOff client start later u = (u.order.start ≡ start) × MayBeOff client start later u

answered_off : (lists : CalledLists) (client other start : ℕ) (ts : List MemberTurn) (state : RunState) (low : ℕ) (u : Underway) (clients : List Registered) (answer : ClientAnswer) → Listed StartAbort client clients → GaveAt state low client ts (Some u) → u.order.start ≡ start
    → has_polled u other ≡ true → MayBeOff client start ts u → AnsweredOff client start (if other == client then turn_answered ts answer else ts) (answered_by clients other answer u)
answered_off lists client other start ts state low u clients answer listed g number polled off =
    let later : List MemberTurn = if other == client then turn_answered ts answer else ts in
    answered_case (AnsweredOff client start later) clients other answer u
    (λ tally is. (number, told_off client other start ts state low u answer g number polled off))
    (λ why is. (number, λ off_is. absurd (let never : false ≡ true = sym (start_not_off u.transition u.is_off is.starts) ∙ off_is in cc (never))))
    (λ v is kept. (kept.0, λ off_is. inl (open_called (called_off clients v) client (listed_in lists StartAbort client clients listed))))

-- One call.

abbrev PolledOff : (client start : ℕ) → List MemberTurn → Underway → Type 0
PolledOff client start ts u = (u.order.start ≡ start) × (is_due_off u.refusal u.polled u.is_off ≡ false) × MayBeOff client start ts u

polled_off : (client other start : ℕ) (ts later : List MemberTurn) (u : Underway) (c : Registered) → (IsCalledOff ts start → IsCalledOff later start) → PolledOff client start ts u → PolledOff client start later (polled_by other c u)
polled_off client other start ts later u c stays before =
    split (has_polled u other) (λ b. PolledOff client start later (if b then u else first_polled other c u))
    (λ h. (before.0, before.1, λ is. elim (before.2 is) [ inl waits ↦ inl waits | inr done ↦ inr (stays done) ]))
    (λ h. (
      before.0,
      pushed_not_due u.refusal u.polled (record { client = other; sequence = group_of u.polled u.called }) u.is_off,
      λ is. elim (before.2 is) [ inl waits ↦ inl (first_open client other c u waits) | inr done ↦ inr (stays done) ],
    ))

off_step : (lists : CalledLists) (client start : ℕ) (ts : List MemberTurn) (s : EngineState) (e : EngineEntry) → Gave s client ts → is_mark e ≡ false → IsEngineReply s e → Off client start ts s → Off client start (turns_with client ts e) (engine_after s e)
off_step lists client start ts s (Register name sequences dump report (Ok n)) g mark reply o =
    absurd (let never : None ≡ Some o.u = sym (register_number s n reply).0 ∙ o.underway_is in cc (never))
off_step lists client start ts s (Begin t sheet (Ok n)) g mark reply o = absurd (cc (mark))
off_step lists client start ts s (Check (Done outcome) tallies) g mark reply o = absurd (cc (mark))
off_step lists client start ts s (Poll other (Turn turn order dump blank)) g mark reply o =
    let p : GivesTurn s other turn order dump = gives_turn s other turn order dump blank reply in
    let same : o.u ≡ p.u = same_underway s o.u p.u o.underway_is p.underway_is in
    let before : PolledOff client start ts p.u = subst (PolledOff client start ts) same (o.number, o.unsettled, o.off) in
    let polled : PolledOff client start (turns_with client ts (Poll other (Turn turn order dump blank))) (polled_by other p.c p.u) =
    polled_off client other start ts (turns_with client ts (Poll other (Turn turn order dump blank))) p.u p.c (off_stays client start ts (Poll other (Turn turn order dump blank))) before in
    record {
      u = polled_by other p.c p.u;
      underway_is = polled_underway s other p.c p.u p.client_is p.underway_is;
      number = polled.0;
      listed = subst (Listed StartAbort client) (sym (polled_clients s other turn order dump p)) o.listed;
      unsettled = polled.1;
      off = polled.2;
    }
off_step lists client start ts s (Answer other answer (Ok done)) g mark reply o =
    let w : Owes s other = owes s other done reply in
    let same : o.u ≡ w.u = same_underway s o.u w.u o.underway_is w.underway_is in
    let at : GaveAt s.state s.start client ts (Some w.u) = subst (GaveAt s.state s.start client ts) w.underway_is g in
    let now : AnsweredOff client start (if other == client then turn_answered ts answer else ts) (answered_by s.clients other answer w.u) =
    answered_off lists client other start ts s.state s.start w.u s.clients answer o.listed at (subst (λ (x : Underway). x.order.start ≡ start) same o.number) w.polled (subst (MayBeOff client start ts) same o.off) in
    record {
      u = answered_by s.clients other answer w.u;
      underway_is = answered_underway s other answer w.u w.underway_is;
      number = now.0;
      listed = subst (Listed StartAbort client) (sym (answered_clients s other answer s.underway)) o.listed;
      unsettled = settled_not_due s.clients (answered_with other answer w.u);
      off = now.1;
    }
off_step lists client start ts s (Answer other answer (Err r)) g mark reply o =
    subst (λ (x : List MemberTurn). Off client start x s) (sym (gave_unaccepted s client other ts answer g (owes_none s other r reply))) o
off_step lists client start ts s (Close (Ok done)) g mark reply o = record { u = o.u; underway_is = o.underway_is; number = o.number; listed = o.listed; unsettled = o.unsettled; off = o.off }
off_step lists client start ts s (Register name sequences dump report (Err r)) g mark reply o = o
off_step lists client start ts s (Begin t sheet (Err r)) g mark reply o = o
off_step lists client start ts s (Poll other (Idle state)) g mark reply o = o
off_step lists client start ts s (Poll other PollClosed) g mark reply o = o
off_step lists client start ts s (Poll other NoClient) g mark reply o = o
off_step lists client start ts s (Check Going tallies) g mark reply o = o
off_step lists client start ts s (Check NoneGoing tallies) g mark reply o = o
off_step lists client start ts s (Close (Err r)) g mark reply o = o

-- From the begin to the Done.

done_off : (client start : ℕ) (ts : List MemberTurn) (s : EngineState) (refuser : ℕ) (why : _) (tallies : _) → Off client start ts s → IsEngineReply s (Check (Done (Refused refuser why)) tallies) → IsCalledOff ts start
done_off client start ts s refuser why tallies o reply =
    let outcome : StartOutcome = Refused refuser why in
    let f : Finishes s outcome = finishes s outcome reply.0 in
    let same : o.u ≡ f.u = same_underway s o.u f.u o.underway_is f.underway_is in
    let said : f.u.refusal ≡ Some (record { client = refuser; why = why }) = refusal_is f.u.refusal refuser why f.outcome_is in
    let unsettled : is_due_off f.u.refusal f.u.polled f.u.is_off ≡ false = subst (λ (u : Underway). is_due_off u.refusal u.polled u.is_off ≡ false) same o.unsettled in
    let off : f.u.is_off ≡ true = off_at_end f.u.refusal f.u.polled f.u.called f.u.is_off (record { client = refuser; why = why }) said unsettled f.done in
    elim (subst (MayBeOff client start ts) same o.off off) as (λ w. IsCalledOff ts start) [
      | inl waits ↦ absurd (let never : false ≡ true = sym (none_open (open_of f.u) client f.done) ∙ waits in cc (never))
      | inr done ↦ done
    ]

pub refused_are_called_off : CalledLists → RefusedAreCalledOff
refused_are_called_off lists by client history legal alone sheet start refuser why tallies has registered =
    let begin : ℕ × EngineEntry = (has.opener, Begin Start sheet (Ok start)) in
    let done : ℕ × EngineEntry = (has.closer, Check (Done (Refused refuser why)) tallies) in
    let rest : EngineHistory = has.between ++ done ∷ has.later in
    let s1 : EngineState = engine_replay engine_opening has.earlier in
    let first = legal_apart engine_opening has.earlier (begin ∷ rest) (subst (IsLegalEngine engine_opening) has.whole legal) in
    let s2 : EngineState = engine_after s1 begin.1 in
    let second = legal_apart s2 has.between (done ∷ has.later) first.1.2 in
    let speaks = speaks_apart by client has.earlier (begin ∷ rest) (subst (SpeaksFor by client) has.whole alone) in
    let speaks_later = speaks_apart by client has.between (done ∷ has.later) speaks.1.1 in
    let ts1 : List MemberTurn = fold (turns_with client) [] (entries_by by has.earlier) in
    let g1 : Gave s1 client ts1 = gave_all engine_opening by client has.earlier [] first.0 speaks.0 (opening_gave client) in
    let g2 : Gave s2 client ts1 = gave_step s1 client ts1 begin.1 g1 first.1.1 in
    let opens : Off client start ts1 s2 = record {
      u = begun s1 Start sheet start;
      underway_is = refl;
      number = refl;
      listed = registered_listed has.earlier client StartAbort first.0 registered;
      unsettled = refl;
      off = λ is. absurd (cc (is));
    } in
    let ts2 : List MemberTurn = fold (turns_with client) ts1 (entries_by by has.between) in
    let last : Off client start ts2 (engine_replay s2 has.between) = kept_all by client (Off client start) (off_step lists client start) ts1 s2 has.between second.0 speaks_later.0 has.on g2 opens in
    let there : IsCalledOff ts2 start = done_off client start ts2 (engine_replay s2 has.between) refuser why tallies last second.1.1 in
    let after : List EngineEntry = entries_by by (done ∷ has.later) in
    let stays : IsCalledOff (fold (turns_with client) ts2 after) start =
    record { turn = there.turn; stands = all_stay client ts2 after there.answer there.turn there.answered there.stands; is = there.is; of = there.of; answer = there.answer; answered = there.answered } in
    let turns_are : member_turns client (entries_by by history) ≡ fold (turns_with client) ts2 after =
    ap (λ (h : EngineHistory). member_turns client (entries_by by h)) has.whole
    ∙ (turns_apart by client [] has.earlier (begin ∷ rest) ∙ (turns_begin by client ts1 has.opener Start sheet start rest ∙ turns_apart by client ts1 has.between (done ∷ has.later))) in
    subst (λ (xs : List MemberTurn). IsCalledOff xs start) (sym turns_are) stays
