-- The Done of a transition that is no start says Completed: only a start is called off.
use Rattle.std.specs.Prelude.{◌≡◌, ◌≢◌, ℕ, Bool, true, false, ◌&&◌, not, is_some, if◌then◌else◌, [], ◌∷◌, ◌++◌, Option, Some, None, Ok, Err, refl, ⊤}
use Rattle.std.proofs.Common.{ap, sym, ◌∙◌, subst, append_assoc}
use Rattle.daq_types.specs.declared.runs.Transition.{Transition}
use Rattle.daq_types.specs.declared.runs.Transition.TheVariants.{Start, Stop, Pause, Resume, StartAbort}
use Rattle.event_report.specs.Reports.{Totals}
use Rattle.transitions.specs.declared.answers.Answer.TheVariants.{Yes, No}
use Rattle.transitions.specs.declared.engine.Refusal.{Refusal}
use Rattle.transitions.specs.declared.replies.Polled.TheVariants.{Turn, Idle, Closed as PollClosed, NoClient}
use Rattle.transitions.specs.declared.replies.Progress.TheVariants.{Going, Done, None as NoneGoing}
use Rattle.transitions.specs.declared.entry.EngineEntry.TheVariants.{Register, Begin, Poll, Answer, Check, Close}
use Rattle.transitions.specs.EngineCalls.{is_start, outcome_of}
use Rattle.transitions.specs.EnginePoints.{Calling, engine_past_after, engine_past, transition_at, refuses, refusal_from, are_among, opens_off, off_opened, refusal_at, off_at, turned_at, answered_at}
use Rattle.transitions.specs.Marks.{is_mark, HasNoMark}
use Rattle.transitions.specs.TurnOrder.{IsRightEnd}
use Rattle.member_model.specs.RunEngines.{Answer as ClientAnswer, EngineEntry, EngineHistory}
use Rattle.transitions.proofs.Stands.{and_false}
use Rattle.history_laws.specs.EngineLaws.{OthersComplete}
use Rattle.history_laws.proofs.StateTold.{Follows}

no_start : (t : Transition) → t ≢ Start → is_start t ≡ false
no_start Start other = absurd (other refl)
no_start Stop other = refl
no_start Pause other = refl
no_start Resume other = refl
no_start StartAbort other = refl

-- the transition is in progress, and was not refused
record IsUncalled (t : Transition) (past : EngineHistory) : Type 0 where
  is : transition_at past ≡ Some t
  none : refusal_at past ≡ None
  off : off_at past ≡ false

-- an answer to a transition that is no start, and of which no start-abort is given, is no refusal
no_refusal : (t : Transition) (client : ℕ) (answer : ClientAnswer) → is_start t ≡ false → refusal_from (refuses answer (Some t) false) client answer None ≡ None
no_refusal t client (Yes tally) other = refl
no_refusal t client (No why) other = ap (λ (b : Bool). refusal_from {R = Totals} b client (No why) None) other

-- and opens no start-abort
not_opened : (c : Calling) → c.refusal ≡ None → c.off ≡ false → ((off_opened c).refusal ≡ None) × ((off_opened c).off ≡ false)
not_opened c none off =
    let closed : opens_off c ≡ false = ap (λ (r : Option Refusal). not c.off && (is_some r && are_among c.turned c.answered)) none ∙ and_false (not c.off) in
    let same : off_opened c ≡ c = ap (λ (b : Bool). if b then record { refusal = c.refusal; off = true; turned = []; answered = [] } else c) closed in
    (ap (λ (x : Calling). x.refusal) same ∙ none, ap (λ (x : Calling). x.off) same ∙ off)

answered_uncalled : (t : Transition) (past : EngineHistory) (by client : ℕ) (answer : ClientAnswer) (done : ⊤) → is_start t ≡ false → IsUncalled t past → IsUncalled t ((by, Answer client answer (Ok done)) ∷ past)
answered_uncalled t past by client answer done other u =
    let none : refusal_from (refuses answer (transition_at past) (off_at past)) client answer (refusal_at past) ≡ None =
    ap (λ (o : Option Transition). refusal_from (refuses answer o (off_at past)) client answer (refusal_at past)) u.is
    ∙ (ap (λ (b : Bool). refusal_from (refuses answer (Some t) b) client answer (refusal_at past)) u.off
    ∙ (ap (refusal_from (refuses answer (Some t) false) client answer) u.none ∙ no_refusal t client answer other)) in
    let c : Calling = record { refusal = refusal_from (refuses answer (transition_at past) (off_at past)) client answer (refusal_at past); off = off_at past; turned = turned_at past; answered = answered_at past ++ client ∷ [] } in
    let kept = not_opened c none u.off in
    record { is = u.is; none = kept.0; off = kept.1 }

uncalled_step : (t : Transition) (past : EngineHistory) (by : ℕ) (e : EngineEntry) → is_start t ≡ false → is_mark e ≡ false → IsUncalled t past → IsUncalled t ((by, e) ∷ past)
uncalled_step t past by (Register name sequences dump report (Ok n)) other mark u = record { is = u.is; none = u.none; off = u.off }
uncalled_step t past by (Register name sequences dump report (Err r)) other mark u = record { is = u.is; none = u.none; off = u.off }
uncalled_step t past by (Begin begun sheet (Ok n)) other mark u = absurd (cc (mark))
uncalled_step t past by (Begin begun sheet (Err r)) other mark u = record { is = u.is; none = u.none; off = u.off }
uncalled_step t past by (Poll client (Turn turn order dump blank)) other mark u = record { is = u.is; none = u.none; off = u.off }
uncalled_step t past by (Poll client (Idle state)) other mark u = record { is = u.is; none = u.none; off = u.off }
uncalled_step t past by (Poll client PollClosed) other mark u = record { is = u.is; none = u.none; off = u.off }
uncalled_step t past by (Poll client NoClient) other mark u = record { is = u.is; none = u.none; off = u.off }
uncalled_step t past by (Answer client answer (Ok done)) other mark u = answered_uncalled t past by client answer done other u
uncalled_step t past by (Answer client answer (Err r)) other mark u = record { is = u.is; none = u.none; off = u.off }
uncalled_step t past by (Check (Done outcome) tallies) other mark u = absurd (cc (mark))
uncalled_step t past by (Check Going tallies) other mark u = record { is = u.is; none = u.none; off = u.off }
uncalled_step t past by (Check NoneGoing tallies) other mark u = record { is = u.is; none = u.none; off = u.off }
uncalled_step t past by (Close (Ok done)) other mark u = record { is = u.is; none = u.none; off = u.off }
uncalled_step t past by (Close (Err r)) other mark u = record { is = u.is; none = u.none; off = u.off }

uncalled_all : (t : Transition) (past es : EngineHistory) → is_start t ≡ false → HasNoMark es → IsUncalled t past → IsUncalled t (engine_past_after past es)
uncalled_all t past [] other marks u = u
uncalled_all t past (e ∷ es) other marks u = uncalled_all t (e ∷ past) es other marks.1 (uncalled_step t past e.0 e.1 other marks.0 u)

past_behind : (past xs ys : EngineHistory) → engine_past_after past (xs ++ ys) ≡ engine_past_after (engine_past_after past xs) ys
past_behind past [] ys = refl
past_behind past (x ∷ xs) ys = past_behind (x ∷ past) xs ys

pub others_complete : Follows → OthersComplete
others_complete follows h legal t sheet start outcome tallies has other =
    let begun : ℕ × EngineEntry = (has.opener, Begin t sheet (Ok start)) in
    let done : ℕ × EngineEntry = (has.closer, Check (Done outcome) tallies) in
    let before : EngineHistory = has.earlier ++ begun ∷ has.between in
    let whole : h ≡ before ++ done ∷ has.later = has.whole ∙ sym (append_assoc has.earlier (begun ∷ has.between) (done ∷ has.later)) in
    let end : IsRightEnd (engine_past before) outcome tallies = (follows h legal).right before has.later has.closer (Check (Done outcome) tallies) whole in
    let at_begin : IsUncalled t (begun ∷ engine_past has.earlier) = record { is = refl; none = refl; off = refl } in
    let at_end : IsUncalled t (engine_past_after (begun ∷ engine_past has.earlier) has.between) =
    uncalled_all t (begun ∷ engine_past has.earlier) has.between (no_start t other) has.on at_begin in
    let at_done : IsUncalled t (engine_past before) = subst (IsUncalled t) (sym (past_behind [] has.earlier (begun ∷ has.between))) at_end in
    end.outcome_is ∙ ap outcome_of at_done.none
