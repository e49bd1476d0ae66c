-- Where a client is alone in its group, a No of its caller to a start is the refusal that the Done tells.
use Rattle.std.specs.Prelude.{◌≡◌, ℕ, ◌≤◌, ◌==◌, true, false, if◌then◌else◌, List, ◌∷◌, ◌++◌, Option, Some, None, Ok, Err, refl}
use Rattle.std.specs.List.{AllByRecursion}
use Rattle.std.proofs.Common.{ap, sym, ◌∙◌, subst, arith, inl, inr}
use Rattle.daq_types.specs.declared.runs.StartOutcome.TheVariants.{Refused}
use Rattle.daq_types.specs.declared.runs.Transition.TheVariants.{Start}
use Rattle.daq_types.specs.declared.runs.Why.{Why}
use Rattle.buffer_core.proofs.SlotLaws.{split}
use Rattle.transitions.specs.declared.client.Registered.{Registered}
use Rattle.transitions.specs.declared.answers.Answer.TheVariants.{Yes, No}
use Rattle.transitions.specs.declared.engine.Refusal.{Refusal}
use Rattle.transitions.specs.declared.replies.Polled.TheVariants.{Turn, Idle, Closed as PollClosed, NoClient}
use Rattle.transitions.specs.declared.replies.Progress.TheVariants.{Going, Done, None as NoneGoing}
use Rattle.transitions.specs.declared.entry.EngineEntry.TheVariants.{Register, Begin, Poll, Answer, Check, Close}
use Rattle.transitions.specs.Engines.{engine_opening}
use Rattle.transitions.specs.EngineCalls.{has_polled, is_next, begun, first_polled, polled_by, first_refusal, answered_by, outcome_of, IsEngineReply, engine_after}
use Rattle.transitions.specs.EngineHistories.{engine_replay}
use Rattle.transitions.specs.Marks.{is_mark}
use Rattle.member_model.specs.RunEngines.{Answer as ClientAnswer, EngineEntry, Underway, EngineState, IsLegalEngine}
use Rattle.member_model.specs.Turns.{MemberTurn}
use Rattle.member_model.specs.TurnCalls.{turn_answered, turns_with}
use Rattle.history_laws.specs.BegunTurns.{IsNumberedAlone}
use Rattle.history_laws.specs.EngineLaws.{LoneNosAreRefusals}
use Rattle.history_laws.proofs.Standing.{start_not_off}
use Rattle.history_laws.proofs.Replies.{Begins, IsGiven, GivesTurn, gives_turn, Owes, owes, owes_none, Refuses, answered_case, Finishes, finishes}
use Rattle.history_laws.proofs.TurnLists.{HaveUpTo}
use Rattle.history_laws.proofs.Gave.{Gave, GaveAt, gave_unaccepted}
use Rattle.history_laws.proofs.Begun.{polled_underway, answered_underway}
use Rattle.history_laws.proofs.Tallied.{OnlyIs, alone_all, opening_alone, all_front, same_underway}
use Rattle.history_laws.proofs.Completed.{CalledLists}
use Rattle.history_laws.proofs.NosRefuse.{NosSaid, nos_polled, nos_taken, start_grows, start_law, none_before}
use Rattle.history_laws.proofs.Lone.{IsLone, HasStart, lone_begun, lone_polled, lone_answered}

-- this client refused first, for this reason
abbrev IsRefusalBy : (client : ℕ) → Underway → Why → Type 0
IsRefusalBy client u why = u.refusal ≡ Some (record { client = client; why = why })

record LoneGoing (client q start : ℕ) (ts : List MemberTurn) (s : EngineState) : Type 0 where
  u : Underway
  underway_is : s.underway ≡ Some u
  low : start ≤ s.start
  lone : IsLone client q u
  nos : NosSaid start (IsRefusalBy client u) ts

next_if : (c : Registered) (u : Underway) (other : ℕ) (dump : Option (List ℕ)) → IsGiven c u other dump → has_polled u other ≡ false → is_next u.polled u.called other ≡ true
next_if c u other dump (inl again) fresh =
    let never : true ≡ false = sym again.polled ∙ fresh in
    absurd (cc (never))
next_if c u other dump (inr first) fresh = first.next

polled_refusal : (client : ℕ) (c : Registered) (u : Underway) → (polled_by client c u).refusal ≡ u.refusal
polled_refusal client c u = split (has_polled u client) (λ b. (if b then u else first_polled client c u).refusal ≡ u.refusal) (λ h. refl) (λ h. refl)

-- the first refusal stays
still_first : (clients : List Registered) (other : ℕ) (answer : ClientAnswer) (u : Underway) (r : Refusal) → u.refusal ≡ Some r → (answered_by clients other answer u).refusal ≡ Some r
still_first clients other answer u r is =
    answered_case (λ v. v.refusal ≡ Some r) clients other answer u
    (λ tally told. is) (λ why refuses. ap (λ (o : Option Refusal). Some (first_refusal o other why)) is) (λ v due kept. kept)

-- and the client's own No is the first one
own_first : (clients : List Registered) (other : ℕ) (answer : ClientAnswer) (u : Underway) (why : Why) → u.refusal ≡ None → Refuses u answer why → (answered_by clients other answer u).refusal ≡ Some (record { client = other; why = why })
own_first clients other answer u why none refuses =
    answered_case (λ v. v.refusal ≡ Some (record { client = other; why = why })) clients other answer u
    (λ tally is. absurd (let both : Yes tally ≡ No why = sym (is.accepted refuses.starts) ∙ refuses.is in cc (both)))
    (λ reason is.
    let both : No reason ≡ No why = sym is.is ∙ refuses.is in
    let same : reason ≡ why = cc (both) in
    ap (λ (o : Option Refusal). Some (first_refusal o other reason)) none ∙ ap (λ (w : Why). Some (record { client = other; why = w })) same)
    (λ v due kept. kept)

lone_nos_answered : (client q other start : ℕ) (ts : List MemberTurn) (state : _) (low : ℕ) (u : Underway) (clients : List Registered) (answer : ClientAnswer) → GaveAt state low client ts (Some u) → has_polled u other ≡ true → IsLone client q u → NosSaid start (IsRefusalBy client u) ts
    → NosSaid start (IsRefusalBy client (answered_by clients other answer u)) (if other == client then turn_answered ts answer else ts)
lone_nos_answered client q other start ts state low u clients answer g polled lone nos =
    nos_taken start client other (IsRefusalBy client u) (IsRefusalBy client (answered_by clients other answer u)) ts state low u answer g polled
    (λ why is. still_first clients other answer u (record { client = client; why = why }) is)
    (λ why mine refuses of.
    let own : has_polled u client ≡ true = subst (λ (n : ℕ). has_polled u n ≡ true) mine polled in
    let none : u.refusal ≡ None = (lone (start_not_off u.transition u.is_off refuses.starts)).first own in
    own_first clients other answer u why none refuses ∙ ap (λ (n : ℕ). Some (record { client = n; why = why })) mine)
    nos

lone_step : (client q start : ℕ) (ts : List MemberTurn) (s : EngineState) (e : EngineEntry) → Gave s client ts → is_mark e ≡ false → IsEngineReply s e → LoneGoing client q start ts s → LoneGoing client q start (turns_with client ts e) (engine_after s e)
lone_step client q start ts s (Begin t sheet (Ok n)) g mark reply o = absurd (cc (mark))
lone_step client q start ts s (Check (Done outcome) tallies) g mark reply o = absurd (cc (mark))
lone_step client q start ts s (Poll other (Turn turn order dump blank)) g mark reply o =
    let p : GivesTurn s other turn order dump = gives_turn s other turn order dump blank reply in
    let grows : s.start ≤ (engine_after s (Poll other (Turn turn order dump blank))).start = start_grows s (Poll other (Turn turn order dump blank)) reply in
    let same : o.u ≡ p.u = same_underway s o.u p.u o.underway_is p.underway_is in
    record {
      u = polled_by other p.c p.u;
      underway_is = polled_underway s other p.c p.u p.client_is p.underway_is;
      low = omega (arith, grows, o.low);
      lone = lone_polled client q other p.c p.u (next_if p.c p.u other dump p.given) (subst (IsLone client q) same o.lone);
      nos = nos_polled start (IsRefusalBy client (polled_by other p.c p.u)) ts (record { transition = turn; order = order; dump = dump; answer = None }) refl
          (λ t why has refuses. polled_refusal other p.c p.u ∙ (ap (λ (u : Underway). u.refusal) (sym same) ∙ o.nos t why has refuses)) (other == client);
    }
lone_step client q start ts s (Answer other answer (Ok done)) g mark reply o =
    let w : Owes s other = owes s other done reply in
    let at : GaveAt s.state s.start client ts (Some w.u) = subst (GaveAt s.state s.start client ts) w.underway_is g in
    let grows : s.start ≤ (engine_after s (Answer other answer (Ok done))).start = start_grows s (Answer other answer (Ok done)) reply in
    let same : o.u ≡ w.u = same_underway s o.u w.u o.underway_is w.underway_is in
    let lone : IsLone client q w.u = subst (IsLone client q) same o.lone in
    record {
      u = answered_by s.clients other answer w.u;
      underway_is = answered_underway s other answer w.u w.underway_is;
      low = omega (arith, grows, o.low);
      lone = lone_answered client q other s.clients w.u answer w.polled lone;
      nos = lone_nos_answered client q other start ts s.state s.start w.u s.clients answer at w.polled lone (subst (λ (u : Underway). NosSaid start (IsRefusalBy client u) ts) same o.nos);
    }
lone_step client q start ts s (Answer other answer (Err r)) g mark reply o =
    subst (λ (x : List MemberTurn). LoneGoing client q start x s) (sym (gave_unaccepted s client other ts answer g (owes_none s other r reply))) o
lone_step client q start ts s (Register name sequences dump report (Ok n)) g mark reply o = record { u = o.u; underway_is = o.underway_is; low = o.low; lone = o.lone; nos = o.nos }
lone_step client q start ts s (Close (Ok done)) g mark reply o = record { u = o.u; underway_is = o.underway_is; low = o.low; lone = o.lone; nos = o.nos }
lone_step client q start ts s (Register name sequences dump report (Err r)) g mark reply o = o
lone_step client q start ts s (Begin t sheet (Err r)) g mark reply o = o
lone_step client q start ts s (Poll other (Idle state)) g mark reply o = o
lone_step client q start ts s (Poll other PollClosed) g mark reply o = o
lone_step client q start ts s (Poll other NoClient) g mark reply o = o
lone_step client q start ts s (Check Going tallies) g mark reply o = o
lone_step client q start ts s (Check NoneGoing tallies) g mark reply o = o
lone_step client q start ts s (Close (Err r)) g mark reply o = o

pub lone_nos_are_refusals : CalledLists → LoneNosAreRefusals
lone_nos_are_refusals lists by client history legal alone q number sheet start outcome tallies has turn stands starts of why answered =
    start_law by client history legal alone sheet start outcome tallies has (LoneGoing client q start) (λ reason. outcome ≡ Refused client reason) opens (lone_step client q start) ends turn why stands (record { starts = starts; of = of; answered = answered })
  where
    opens : IsLegalEngine engine_opening has.earlier → (ts : List MemberTurn) → Begins (engine_replay engine_opening has.earlier) Start start → HaveUpTo (engine_replay engine_opening has.earlier).start ts
        → LoneGoing client q start ts (engine_after (engine_replay engine_opening has.earlier) (Begin Start sheet (Ok start)))
    opens past ts b low =
        let s : EngineState = engine_replay engine_opening has.earlier in
        let u : Underway = begun s Start sheet start in
        let numbered : AllByRecursion (IsNumberedAlone client Start q) has.earlier =
        all_front (IsNumberedAlone client Start q) has.earlier ((has.opener, Begin Start sheet (Ok start)) ∷ (has.between ++ (has.closer, Check (Done outcome) tallies) ∷ has.later))
        (subst (AllByRecursion (IsNumberedAlone client Start q)) has.whole number) in
        let only : OnlyIs (HasStart q) client s.clients = alone_all (HasStart q) client engine_opening has.earlier past numbered (opening_alone (HasStart q) client) in
        record { u = u; underway_is = refl; low = omega arith; lone = λ off. lone_begun lists client q s sheet start only; nos = none_before start s.start (IsRefusalBy client u) ts b.number low }

    ends : (ts : List MemberTurn) (s : EngineState) → IsEngineReply s (Check (Done outcome) tallies) → LoneGoing client q start ts s → (start ≤ s.start) × NosSaid start (λ reason. outcome ≡ Refused client reason) ts
    ends ts s reply going = (
      going.low,
      λ t reason there refuses.
          let f : Finishes s outcome = finishes s outcome reply.0 in
          let refusal : f.u.refusal ≡ Some (record { client = client; why = reason }) = ap (λ (u : Underway). u.refusal) (same_underway s f.u going.u f.underway_is going.underway_is) ∙ going.nos t reason there refuses in
          f.outcome_is ∙ ap outcome_of refusal,
    )
