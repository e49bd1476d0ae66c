-- The moments of a front-end's turns, and how much it had sent by then.
use Rattle.std.specs.Prelude.{◌≡◌, ◌≢◌, ℕ, ◌==◌, ◌≤◌, Bool, true, false, if◌then◌else◌, List, [], ◌∷◌, ◌++◌, length, take, drop, Option, Some, None, Result, Ok, Err, refl, ◌⊎◌}
use Rattle.std.proofs.Common.{ap, sym, subst, ◌∙◌, inl, inr, arith, length-append}
use Rattle.std.proofs.lemmas.Bool.Decides.{eqb_tells}
use Rattle.std.proofs.lemmas.List.{drop_all, drop-append-le, length-take, take-append-le, take-take}
use Rattle.daq_types.specs.declared.events.Event.{Event}
use Rattle.daq_types.specs.declared.runs.Order.{Order}
use Rattle.daq_types.specs.declared.runs.Transition.{Transition}
use Rattle.daq_types.specs.declared.runs.Transition.TheVariants.{Stop}
use Rattle.buffer_core.specs.declared.replies.SendRefusal.{SendRefusal}
use Rattle.buffer_core.specs.declared.entry.BufferEntry.{BufferEntry}
use Rattle.buffer_core.specs.declared.entry.BufferEntry.TheVariants.{SendInRun}
use Rattle.member_model.specs.RunEngines.{Answer}
use Rattle.member_model.specs.Turns.{MemberTurn, IsAcceptedStart, HasAnswer, IsOfRun, AreEngineTurns, latest_answered}
use Rattle.member_model.specs.Moments.{AreMoments, moments_answered}
use Rattle.member_model.specs.SentCalls.{sent_by_call, own_sent, SendsNotIn, EachCall}
use Rattle.member_model.proofs.SentLaws.{EachCall-push}
use Rattle.member_model.proofs.MomentLaws.{AreMoments-later, moment_within, moment_stands, all_sent_by}
use Rattle.front_ends.specs.declared.front_run.FrontRun.{FrontRun}
use Rattle.front_ends.specs.Fronts.{is_at_work, events_sent, front_turn, finish_answer, finish_with}
use Rattle.front_ends.specs.Spans.{moment_or_now, HasSpan}
use Rattle.front_ends.specs.FrontKept.{IsNextCall, AreNextSends, KeepsMoments, SentAtPauses, IsWaiting, TakesPart, IsInRun, answered_last, last_answered, FrontStands}
use Rattle.front_ends.proofs.FrontGrows.{length-made_events}

-- nothing stands behind all calls
none_behind : (P : BufferEntry → Type 0) (own : List BufferEntry) (moment : ℕ) → length own ≡ moment → EachCall P (drop moment own)
none_behind P own moment is = subst (EachCall P) (sym (drop_all moment own (omega (arith, is)))) tt

-- nor between them and a moment
none_between : (P : BufferEntry → Type 0) (own : List BufferEntry) (moment until : ℕ) → length own ≡ moment → EachCall P (drop moment (take until own))
none_between P own moment until is = subst (EachCall P) (sym (drop_all moment (take until own) (omega (arith, length-take until own, is)))) tt

-- A span begins at its turn's moment, and ends by all calls.
span_within : (turns : List MemberTurn) (moments : List ℕ) (calls : ℕ) (t : MemberTurn) (moment until : ℕ) → AreMoments turns moments calls → HasSpan turns moments calls t moment until → (moment ≤ until) × (until ≤ calls)
span_within [] moments calls t moment until are span = absurd span
span_within (u ∷ turns) [] calls t moment until are span = absurd span
span_within (u ∷ turns) (m ∷ moments) calls t moment until are span = elim span as (λ w. (moment ≤ until) × (until ≤ calls)) [
  | inl here ↦ (omega (arith, are.0, here.1, here.2), omega (arith, here.2))
  | inr earlier ↦ by_answer u.answer (λ now before later. span_within turns moments now t moment until before later) earlier
]
  where
    by_answer : (a : Option Answer) → ((now : ℕ) → AreMoments turns moments now → HasSpan turns moments now t moment until → (moment ≤ until) × (until ≤ now)) → HasSpan turns moments (moment_or_now a m calls) t moment until
        → (moment ≤ until) × (until ≤ calls)
    by_answer None within later = within calls (AreMoments-later turns moments m calls are.0 are.1) later
    by_answer (Some answer) within later = let it : (moment ≤ until) × (until ≤ m) = within m are.1 later in (it.0, omega (arith, it.1, are.0))

-- A turn that was answered and whose span is not over is the last one that was answered; else the span stays with more calls.

answered_now : (a : Option Answer) (k : Transition) (before : Option Transition) → HasAnswer a → answered_last a k before ≡ Some k
answered_now None k before has = absurd has
answered_now (Some answer) k before has = refl

span_ends : (turns : List MemberTurn) (moments : List ℕ) (calls : ℕ) (t : MemberTurn) (moment until : ℕ) → HasAnswer t.answer → HasSpan turns moments calls t moment until
    → (last_answered turns ≡ Some t.transition) ⊎ ((now : ℕ) → HasSpan turns moments now t moment until)
span_ends [] moments calls t moment until answered span = absurd span
span_ends (u ∷ turns) [] calls t moment until answered span = absurd span
span_ends (u ∷ turns) (m ∷ moments) calls t moment until answered span =
    elim span as (λ w. (last_answered (u ∷ turns) ≡ Some t.transition) ⊎ ((now : ℕ) → HasSpan (u ∷ turns) (m ∷ moments) now t moment until)) [
      | inl here ↦ inl (subst (λ (v : MemberTurn). last_answered (v ∷ turns) ≡ Some t.transition) (sym here.0) (answered_now t.answer t.transition (last_answered turns) answered))
      | inr earlier ↦ elim (by_answer u.answer (λ later. span_ends turns moments calls t moment until answered later) earlier) as (λ w. (last_answered (u ∷ turns) ≡ Some t.transition) ⊎ ((now : ℕ) → HasSpan (u ∷ turns) (m ∷ moments) now t moment until)) [
        | inl last ↦ inl last
        | inr over ↦ inr (λ now. inr (over now))
      ]
    ]
  where
    by_answer : (a : Option Answer) → (HasSpan turns moments calls t moment until → (last_answered turns ≡ Some t.transition) ⊎ ((now : ℕ) → HasSpan turns moments now t moment until))
        → HasSpan turns moments (moment_or_now a m calls) t moment until → (answered_last a u.transition (last_answered turns) ≡ Some t.transition) ⊎ ((now : ℕ) → HasSpan turns moments (moment_or_now a m now) t moment until)
    by_answer None ends later = ends later
    by_answer (Some answer) ends later = inr (λ now. later)

now_or_now : (a : Option Answer) (calls : ℕ) → moment_or_now a calls calls ≡ calls
now_or_now None calls = refl
now_or_now (Some answer) calls = refl

pub no_moments : KeepsMoments [] [] []
no_moments = record { are = tt; ends = λ are t moment has is answer. absurd has; holds = λ t moment until span is answer. absurd span }

-- a turn more, behind all calls so far
pub turn_moments : {t : MemberTurn} (own : List BufferEntry) (turns : List MemberTurn) (moments : List ℕ) → KeepsMoments own turns moments → KeepsMoments own (t ∷ turns) (length own ∷ moments)
turn_moments {t} own turns moments keeps = record {
  are = (omega arith, keeps.are);
  ends = λ are u moment has is answer. elim has as (λ w. EachCall (SendsNotIn u.order.start) (drop moment own)) [
    | inl here ↦ none_behind (SendsNotIn u.order.start) own moment here.1
    | inr earlier ↦ keeps.ends are.1 u moment earlier is answer
  ];
  holds = λ u moment until span is answer. elim span as (λ w. EachCall (SendsNotIn u.order.start) (drop moment (take until own))) [
    | inl here ↦ none_between (SendsNotIn u.order.start) own moment until here.1
    | inr earlier ↦ keeps.holds u moment until (subst (λ (n : ℕ). HasSpan turns moments n u moment until) (now_or_now t.answer (length own)) earlier) is answer
  ];
}

-- the stop that waits is answered behind all calls so far
stop_moments : (own : List BufferEntry) (turns : List MemberTurn) (moments : List ℕ) (order : Order) (start : ℕ) (answer : Answer) → IsWaiting (Some order) start turns → KeepsMoments own turns moments
    → KeepsMoments own (latest_answered turns (Some answer)) (moments_answered moments (Some answer) (length own))
stop_moments own [] moments order start answer waits keeps = absurd (let never : [] ≡ front_turn waits.1 Stop order None ∷ waits.2 = waits.3 in cc (never))
stop_moments own (t ∷ turns) [] order start answer waits keeps = absurd keeps.are
stop_moments own (t ∷ turns) (m ∷ moments) order start answer waits keeps =
    let latest : t ≡ front_turn waits.1 Stop order None = cc (waits.3) in
    let waits_still : t.answer ≡ None = ap (λ (v : MemberTurn). v.answer) latest in
    record {
      are = (omega arith, AreMoments-later turns moments m (length own) keeps.are.0 keeps.are.1);
      ends = λ are u moment has is told. elim has as (λ w. EachCall (SendsNotIn u.order.start) (drop moment own)) [
        | inl here ↦ none_behind (SendsNotIn u.order.start) own moment here.1
        | inr earlier ↦ keeps.ends are u moment (inr earlier) is told
      ];
      holds = λ u moment until span is told. elim span as (λ w. EachCall (SendsNotIn u.order.start) (drop moment (take until own))) [
        | inl here ↦ none_between (SendsNotIn u.order.start) own moment until here.1
        | inr earlier ↦ keeps.holds u moment until (inr (subst (λ (a : Option Answer). HasSpan turns moments (moment_or_now a m (length own)) u moment until) (sym waits_still) earlier)) is told
      ];
    }

pub finish_moments : (takes : Order → Bool) (makes : Order → ℕ → Event) (run : Option FrontRun) (own : List BufferEntry) (turns : List MemberTurn) (moments : List ℕ) (answer : Answer) → finish_answer run ≡ Some answer → FrontStands takes makes run own turns
    → KeepsMoments own turns moments → KeepsMoments own (latest_answered turns (Some answer)) (moments_answered moments (Some answer) (length own))
finish_moments takes makes None own turns moments answer told stands keeps = absurd (cc (told))
finish_moments takes makes (Some r) own turns moments answer told stands keeps = by_stop r.stop stands.run_stands.waiting told
  where
    by_stop : (stop : Option Order) → IsWaiting stop r.order.start turns → finish_with stop r ≡ Some answer → KeepsMoments own (latest_answered turns (Some answer)) (moments_answered moments (Some answer) (length own))
    by_stop None waits is = absurd (cc (is))
    by_stop (Some order) waits is = stop_moments own turns moments order r.order.start answer waits keeps

-- a send of the run that the front-end takes part in is none in a run whose stop was answered, and none behind a pause
pub step_moments : (takes : Order → Bool) (makes : Order → ℕ → Event) (own : List BufferEntry) (turns : List MemberTurn) (moments : List ℕ) (r : FrontRun) (stated : ℕ) (event : Event) (reply : Result ℕ SendRefusal) → is_at_work (Some r) ≡ true
    → FrontStands takes makes (Some r) own turns → KeepsMoments own turns moments → KeepsMoments (own ++ SendInRun r.order.start stated event reply ∷ []) turns moments
step_moments takes makes own turns moments r stated event reply work stands keeps =
    let entry : BufferEntry = SendInRun r.order.start stated event reply in
    let on : TakesPart makes own turns r = stands.run_stands in
    record {
      are = AreMoments-later turns moments (length own) (length (own ++ entry ∷ [])) (omega (arith, length-append own (entry ∷ []))) keeps.are;
      ends = λ are t moment has is answer.
          let other : r.order.start ≢ t.order.start = λ same. on.fresh are t (moment_stands turns moments t moment has) is answer (sym same) in
          subst (EachCall (SendsNotIn t.order.start)) (sym (drop-append-le moment own (entry ∷ []) (moment_within turns moments (length own) t moment keeps.are has)))
          (EachCall-push (SendsNotIn t.order.start) (drop moment own) entry (keeps.ends are t moment has is answer) other);
      holds = λ t moment until span is answer.
          elim (span_ends turns moments (length (own ++ entry ∷ [])) t moment until answer span) as (λ w. EachCall (SendsNotIn t.order.start) (drop moment (take until (own ++ entry ∷ [])))) [
            | inl last ↦ absurd (let never : true ≡ false = sym work ∙ stands.rests (last ∙ ap (λ (k : Transition). Some k) is) in cc (never))
            | inr over ↦
                let before : HasSpan turns moments (length own) t moment until = over (length own) in
                let within : until ≤ length own = (span_within turns moments (length own) t moment until keeps.are before).1 in
                subst (λ (es : List BufferEntry). EachCall (SendsNotIn t.order.start) (drop moment es)) (sym (take-append-le until own (entry ∷ []) within)) (keeps.holds t moment until before is answer)
          ];
    }

-- How much was sent.

pub sent_at_pauses : SentAtPauses
sent_at_pauses own turns moments keeps t moment until span pause answered =
    let within : (moment ≤ until) × (until ≤ length own) = span_within turns moments (length own) t moment until keeps.are span in
    ap (λ (es : List BufferEntry). own_sent es t.order.start) (sym (take-take moment until own within.0))
    ∙ all_sent_by (take until own) t.order.start moment (keeps.holds t moment until span pause answered)

-- without an accepted start with this number nothing was sent in the run

call_of_none : (makes : Order → ℕ → Event) (before : List BufferEntry) (turns : List MemberTurn) (e : BufferEntry) (start : ℕ) → ((t : MemberTurn) → IsAcceptedStart turns start t → ⊥) → IsNextCall makes before turns e → sent_by_call e start ≡ []
call_of_none makes before turns (SendInRun s stated event (Ok place)) start none is = elim (eqb_tells s start) as (λ w. (if s == start then event ∷ [] else []) ≡ []) [
  | inl same ↦ absurd (none is.turn (subst (λ (n : ℕ). IsAcceptedStart turns n is.turn) same.1 is.of_run))
  | inr differs ↦ rw differs.0 refl
]
call_of_none makes before turns (SendInRun s stated event (Err why)) start none is = refl
call_of_none makes before turns e start none is = absurd is

no_start_no_send : (makes : Order → ℕ → Event) (before es : List BufferEntry) (turns : List MemberTurn) (start : ℕ) → ((t : MemberTurn) → IsAcceptedStart turns start t → ⊥) → AreNextSends makes before turns es → own_sent es start ≡ []
no_start_no_send makes before [] turns start none are = refl
no_start_no_send makes before (e ∷ es) turns start none are =
    ap (λ (l : List Event). l ++ own_sent es start) (call_of_none makes before turns e start none are.0) ∙ no_start_no_send makes (before ++ e ∷ []) es turns start none are.1

-- of the run that it takes part in
pub sent_in_own : (takes : Order → Bool) (makes : Order → ℕ → Event) (run : Option FrontRun) (own : List BufferEntry) (turns : List MemberTurn) (start : ℕ) → FrontStands takes makes run own turns → AreEngineTurns turns → IsInRun run start
    → length (own_sent own start) ≡ events_sent run start
sent_in_own takes makes None own turns start stands are in_run = absurd in_run
sent_in_own takes makes (Some r) own turns start stands are in_run =
    let on : TakesPart makes own turns r = stands.run_stands in
    let count : length (own_sent own r.order.start) ≡ r.sent = ap (λ (es : List Event). length es) (on.sent_is are) ∙ length-made_events makes r.order r.sent in
    elim (eqb_tells r.order.start start) as (λ w. length (own_sent own start) ≡ (if r.order.start == start then r.sent else 0)) [
      | inl same ↦ rw same.0 (subst (λ (n : ℕ). length (own_sent own n) ≡ r.sent) same.1 count)
      | inr differs ↦ absurd (differs.1 in_run)
    ]

-- where it takes part in no run with this number
sent_in_other : (takes : Order → Bool) (makes : Order → ℕ → Event) (run : Option FrontRun) (own : List BufferEntry) (turns : List MemberTurn) (start : ℕ) → FrontStands takes makes run own turns → AreEngineTurns turns → IsOfRun start turns
    → (IsInRun run start → ⊥) → length (own_sent own start) ≡ 0
sent_in_other takes makes run own turns start stands are of_run out = elim of_run as (λ w. length (own_sent own start) ≡ 0) [
  | inl on ↦
      ap (λ (es : List Event). length es)
      (no_start_no_send makes [] own turns start (λ begin accepted. out (stands.current are start begin on accepted)) (stands.keeps.sends are))
  | inr none ↦ elim (stands.keeps.made are start) as (λ w. length (own_sent own start) ≡ 0) [
    | inl nothing ↦ ap (λ (es : List Event). length es) nothing
    | inr m ↦ absurd (none m.turn m.is_start.stands m.is_start.is m.is_start.of)
  ]
]

pub sent_of_run : (takes : Order → Bool) (makes : Order → ℕ → Event) (run : Option FrontRun) (own : List BufferEntry) (turns : List MemberTurn) (start : ℕ) → FrontStands takes makes run own turns → AreEngineTurns turns → IsOfRun start turns
    → length (own_sent own start) ≡ events_sent run start
sent_of_run takes makes None own turns start stands are of_run = sent_in_other takes makes None own turns start stands are of_run (λ never. never)
sent_of_run takes makes (Some r) own turns start stands are of_run = elim (eqb_tells r.order.start start) as (λ w. length (own_sent own start) ≡ (if r.order.start == start then r.sent else 0)) [
  | inl same ↦ sent_in_own takes makes (Some r) own turns start stands are same.1
  | inr differs ↦ rw differs.0 (sent_in_other takes makes (Some r) own turns start stands are of_run differs.1)
]
