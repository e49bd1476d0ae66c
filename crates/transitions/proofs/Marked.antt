-- Where a transition is in progress, its begin is the last mark.
use Rattle.std.proofs.Common.{◌≡◌, ℕ, Bool, true, false, List, [], ◌∷◌, ◌++◌, Option, Some, None, refl, ap, sym, subst, ◌∙◌, inl, inr}
use Rattle.std.specs.Prelude.{◌⊎◌, if◌then◌else◌, Ok, Err, ⊤}
use Rattle.std.specs.Option.{option_map}
use Rattle.daq_types.specs.declared.runs.Transition.{Transition}
use Rattle.daq_types.specs.declared.runs.Order.{Order}
use Rattle.transitions.specs.declared.answers.Answer.{Answer as ClientAnswer}
use Rattle.daq_types.specs.declared.runs.StartOutcome.{StartOutcome}
use Rattle.transitions.specs.declared.answers.ClientTally.{ClientTally}
use Rattle.transitions.specs.declared.replies.Polled.TheVariants.{Turn, Idle, Closed as PollClosed, NoClient}
use Rattle.transitions.specs.declared.replies.Progress.TheVariants.{Going, Done, None as NoneGoing}
use Rattle.transitions.specs.declared.entry.EngineEntry.{EngineEntry}
use Rattle.transitions.specs.declared.entry.EngineEntry.TheVariants.{Register, Begin, Poll, Answer, Check, Close}
use Rattle.transitions.specs.Engines.{Underway, engine_opening}
use Rattle.transitions.specs.EngineCalls.{turn_kind, turn_of, order_for}
use Rattle.transitions.specs.EngineHistories.{IsLegalEngine}
use Rattle.transitions.specs.EnginePoints.{engine_past, engine_past_after, transition_at, order_at, off_at, dump_at, state_at, callable_at, wants_dump}
use Rattle.transitions.specs.TurnOrder.{IsRightTurn, IsRightEnd}
use Rattle.transitions.specs.Marks.{is_mark, HasNoMark, IsUnderway, IsEndOf}
use Rattle.transitions.proofs.Apart.{split}
use Rattle.transitions.specs.GivenTurns.{IsFromBegin, ClosesTurn}
use Rattle.transitions.proofs.Tracked.{TracksUnderway, TracksTransition}
use Rattle.transitions.proofs.Followed.{history_in_order, owes, opens}
use Rattle.transitions.proofs.Given.{past_append, open_in, open_none, open_owed, open_reach}

module _ {R : Type 0} where
  record LastMark (es : List (ℕ × EngineEntry R)) : Type 0 where
    earlier : List (ℕ × EngineEntry R)
    later : List (ℕ × EngineEntry R)
    caller : ℕ
    entry : EngineEntry R
    stands : es ≡ earlier ++ (caller, entry) ∷ later
    mark : is_mark entry ≡ true
    on : HasNoMark later

  last_mark : (es : List (ℕ × EngineEntry R)) → HasNoMark es ⊎ LastMark es
  last_mark [] = inl tt
  last_mark (e ∷ es) =
      elim (last_mark es) [
        | inl none ↦ split (is_mark e.1) (λ b. is_mark e.1 ≡ b → HasNoMark (e ∷ es) ⊎ LastMark (e ∷ es))
            (λ h g. inr (record { earlier = []; later = es; caller = e.0; entry = e.1; stands = refl; mark = g; on = none }))
            (λ h g. inl (g, none)) refl
        | inr m ↦ inr (record {
          earlier = e ∷ m.earlier;
          later = m.later;
          caller = m.caller;
          entry = m.entry;
          stands = ap (λ (xs : List (ℕ × EngineEntry R)). e ∷ xs) m.stands;
          mark = m.mark;
          on = m.on;
        })
      ]

  -- an entry that is no mark leaves the transition and its order
  unmarked : (past : List (ℕ × EngineEntry R)) (by : ℕ) (entry : EngineEntry R) → is_mark entry ≡ false → (transition_at ((by, entry) ∷ past) ≡ transition_at past) × (order_at ((by, entry) ∷ past) ≡ order_at past)
  unmarked past by (Register name sequences dump report (Ok n)) h = (refl, refl)
  unmarked past by (Register name sequences dump report (Err r)) h = (refl, refl)
  unmarked past by (Begin t sheet (Ok n)) h = absurd cc
  unmarked past by (Begin t sheet (Err r)) h = (refl, refl)
  unmarked past by (Poll client (Turn turn order dump blank)) h = (refl, refl)
  unmarked past by (Poll client (Idle state)) h = (refl, refl)
  unmarked past by (Poll client PollClosed) h = (refl, refl)
  unmarked past by (Poll client NoClient) h = (refl, refl)
  unmarked past by (Answer client answer (Ok done)) h = (refl, refl)
  unmarked past by (Answer client answer (Err r)) h = (refl, refl)
  unmarked past by (Check (Done outcome) tallies) h = absurd cc
  unmarked past by (Check Going tallies) h = (refl, refl)
  unmarked past by (Check NoneGoing tallies) h = (refl, refl)
  unmarked past by (Close (Ok done)) h = (refl, refl)
  unmarked past by (Close (Err r)) h = (refl, refl)

  all_unmarked : (past es : List (ℕ × EngineEntry R)) → HasNoMark es → (transition_at (engine_past_after past es) ≡ transition_at past) × (order_at (engine_past_after past es) ≡ order_at past)
  all_unmarked past [] none = (refl, refl)
  all_unmarked past (e ∷ es) none =
      let here = unmarked past e.0 e.1 none.0 in
      let rest = all_unmarked (e ∷ past) es none.1 in
      (rest.0 ∙ here.0, rest.1 ∙ here.1)

some_same : (t u : Transition) → Some t ≡ Some u → t ≡ u
some_same t u e = cc

module _ {R : Type 0} where
  marked_in : (before earlier later : List (ℕ × EngineEntry R)) (caller : ℕ) (entry : EngineEntry R) (t : Transition) → before ≡ earlier ++ (caller, entry) ∷ later → is_mark entry ≡ true → HasNoMark later
      → transition_at ((caller, entry) ∷ engine_past earlier) ≡ Some t → order_at (engine_past before) ≡ order_at ((caller, entry) ∷ engine_past earlier) → IsUnderway before t
  marked_in before earlier later caller (Register name sequences dump report (Ok n)) t stands mark on is order = absurd cc
  marked_in before earlier later caller (Register name sequences dump report (Err r)) t stands mark on is order = absurd cc
  marked_in before earlier later caller (Begin u sheet (Ok n)) t stands mark on is order = record {
    earlier = earlier;
    later = later;
    caller = caller;
    sheet = sheet;
    start = n;
    stands = stands ∙ ap (λ (x : Transition). earlier ++ (caller, Begin x sheet (Ok n)) ∷ later) (some_same u t is);
    on = on;
    order_is = order;
  }
  marked_in before earlier later caller (Begin u sheet (Err r)) t stands mark on is order = absurd cc
  marked_in before earlier later caller (Poll client (Turn turn o dump blank)) t stands mark on is order = absurd cc
  marked_in before earlier later caller (Poll client (Idle state)) t stands mark on is order = absurd cc
  marked_in before earlier later caller (Poll client PollClosed) t stands mark on is order = absurd cc
  marked_in before earlier later caller (Poll client NoClient) t stands mark on is order = absurd cc
  marked_in before earlier later caller (Answer client answer (Ok done)) t stands mark on is order = absurd cc
  marked_in before earlier later caller (Answer client answer (Err r)) t stands mark on is order = absurd cc
  marked_in before earlier later caller (Check (Done outcome) tallies) t stands mark on is order = absurd cc
  marked_in before earlier later caller (Check Going tallies) t stands mark on is order = absurd cc
  marked_in before earlier later caller (Check NoneGoing tallies) t stands mark on is order = absurd cc
  marked_in before earlier later caller (Close (Ok done)) t stands mark on is order = absurd cc
  marked_in before earlier later caller (Close (Err r)) t stands mark on is order = absurd cc

  marked : (before : List (ℕ × EngineEntry R)) (t : Transition) → transition_at (engine_past before) ≡ Some t → HasNoMark before ⊎ LastMark before → IsUnderway before t
  marked before t is (inl none) =
      let open_end : None ≡ Some t = sym (all_unmarked [] before none).0 ∙ is in
      absurd cc
  marked before t is (inr m) =
      let e : ℕ × (EngineEntry R) = (m.caller, m.entry) in
      let past_is : engine_past before ≡ engine_past_after (e ∷ engine_past m.earlier) m.later = ap engine_past m.stands ∙ past_append [] m.earlier (e ∷ m.later) in
      let same = all_unmarked (e ∷ engine_past m.earlier) m.later m.on in
      marked_in before m.earlier m.later m.caller m.entry t m.stands m.mark m.on (sym same.0 ∙ (ap transition_at (sym past_is) ∙ is)) (ap order_at past_is ∙ same.1)

  -- the transition in progress has its begin behind all other begins and ends
  pub underway_begun : (before : List (ℕ × EngineEntry R)) (t : Transition) → transition_at (engine_past before) ≡ Some t → IsUnderway before t
  underway_begun before t is = marked before t is (last_mark before)

module _ {R : Type 0} (is_blank : R → Type 0) where
  pub end_of : (before after : List (ℕ × EngineEntry R)) (caller : ℕ) (outcome : StartOutcome) (tallies : List (ClientTally R))
      → IsLegalEngine is_blank engine_opening (before ++ (caller, Check (Done outcome) tallies) ∷ after) → (t : Transition) × IsEndOf before t tallies
  end_of before after caller outcome tallies legal =
      let right : IsRightEnd (engine_past before) outcome tallies =
      (history_in_order is_blank (before ++ (caller, Check (Done outcome) tallies) ∷ after) legal).right before after caller (Check (Done outcome) tallies) refl in
      (right.transition, record { underway = underway_begun before right.transition right.in_progress; tallies_is = right.tallies_is })

-- Where a turn comes from.

some_order : (a b : Order) → Some a ≡ Some b → b ≡ a
some_order a b e = cc

still_there : (wants : Bool) (d : Option (List ℕ)) (bytes : List ℕ) → (if wants then None else d) ≡ Some bytes → d ≡ Some bytes
still_there false d bytes e = e
still_there true d bytes e = absurd cc

module _ {R : Type 0} where
  -- a dump that is there behind an entry that is no mark was there before it
  dump_unmarked : (past : List (ℕ × EngineEntry R)) (by : ℕ) (entry : EngineEntry R) (bytes : List ℕ) → is_mark entry ≡ false → dump_at ((by, entry) ∷ past) ≡ Some bytes → dump_at past ≡ Some bytes
  dump_unmarked past by (Register name sequences dump report (Ok n)) bytes h d = d
  dump_unmarked past by (Register name sequences dump report (Err r)) bytes h d = d
  dump_unmarked past by (Begin t sheet (Ok n)) bytes h d = absurd cc
  dump_unmarked past by (Begin t sheet (Err r)) bytes h d = d
  dump_unmarked past by (Poll client (Turn turn order dump blank)) bytes h d = still_there (wants_dump (callable_at past) client) (dump_at past) bytes d
  dump_unmarked past by (Poll client (Idle state)) bytes h d = d
  dump_unmarked past by (Poll client PollClosed) bytes h d = d
  dump_unmarked past by (Poll client NoClient) bytes h d = d
  dump_unmarked past by (Answer client answer (Ok done)) bytes h d = d
  dump_unmarked past by (Answer client answer (Err r)) bytes h d = d
  dump_unmarked past by (Check (Done outcome) tallies) bytes h d = absurd cc
  dump_unmarked past by (Check Going tallies) bytes h d = d
  dump_unmarked past by (Check NoneGoing tallies) bytes h d = d
  dump_unmarked past by (Close (Ok done)) bytes h d = d
  dump_unmarked past by (Close (Err r)) bytes h d = d

  dump_kept : (past es : List (ℕ × EngineEntry R)) (bytes : List ℕ) → HasNoMark es → dump_at (engine_past_after past es) ≡ Some bytes → dump_at past ≡ Some bytes
  dump_kept past [] bytes none d = d
  dump_kept past (e ∷ es) bytes none d = dump_unmarked past e.0 e.1 bytes none.0 (dump_kept (e ∷ past) es bytes none.1 d)

  -- a dump that is there comes from the sheet of the transition in progress
  dump_begun : (before : List (ℕ × EngineEntry R)) (t : Transition) (u : IsUnderway before t) (bytes : List ℕ) → dump_at (engine_past before) ≡ Some bytes → u.sheet.dump ≡ Some bytes
  dump_begun before t u bytes d =
      let e : ℕ × (EngineEntry R) = (u.caller, Begin t u.sheet (Ok u.start)) in
      let past_is : engine_past before ≡ engine_past_after (e ∷ engine_past u.earlier) u.later = ap engine_past u.stands ∙ past_append [] u.earlier (e ∷ u.later) in
      dump_kept (e ∷ engine_past u.earlier) u.later bytes u.on (sym (ap dump_at past_is) ∙ d)

was_there : (wants : Bool) (d : Option (List ℕ)) (bytes : List ℕ) → (if wants then d else None) ≡ Some bytes → d ≡ Some bytes
was_there true d bytes e = e
was_there false d bytes e = absurd cc

record TurnFrom (o : Option Transition) (off : Bool) (turn : Transition) : Type 0 where
  transition : Transition
  is : o ≡ Some transition
  turn_is : turn ≡ turn_kind transition off

turn_from : (o : Option Transition) (off : Bool) (turn : Transition) → option_map (λ t. turn_kind t off) o ≡ Some turn → TurnFrom o off turn
turn_from None off turn e = absurd cc
turn_from (Some t) off turn e = record { transition = t; is = refl; turn_is = some_same turn (turn_kind t off) (sym e) }

module _ {R : Type 0} (is_blank : R → Type 0) where
  -- a turn is one of the transition in progress, and so is the dump that it gives
  pub turn_begun : (before after : List (ℕ × EngineEntry R)) (caller client : ℕ) (turn : Transition) (order : Order) (dump : Option (List ℕ)) (blank : Option R)
      → IsLegalEngine is_blank engine_opening (before ++ (caller, Poll client (Turn turn order dump blank)) ∷ after) → IsFromBegin before turn order dump
  turn_begun before after caller client turn order dump blank legal =
      let past : List (ℕ × EngineEntry R) = engine_past before in
      let right : IsRightTurn past client turn order dump blank =
      (history_in_order is_blank (before ++ (caller, Poll client (Turn turn order dump blank)) ∷ after) legal).right before after caller (Poll client (Turn turn order dump blank)) refl in
      let from : TurnFrom (transition_at past) (off_at past) turn = turn_from (transition_at past) (off_at past) turn right.turn_is in
      let u : IsUnderway before from.transition = underway_begun before from.transition from.is in
      record {
        transition = from.transition;
        underway = u;
        turn_is = from.turn_is;
        order_is = some_order (order_for u.sheet u.start (state_at (engine_past u.earlier))) order (sym u.order_is ∙ right.order_is);
        dump_is = λ bytes e. dump_begun before from.transition u bytes (was_there (wants_dump (callable_at past) client) (dump_at past) bytes (sym right.dump_is ∙ e));
      }

module _ {R : Type 0} (is_blank : R → Type 0) where
  -- an answer is one to the open turn of the client, which is of the transition in progress
  pub answer_closes : (before after : List (ℕ × EngineEntry R)) (caller client : ℕ) (answer : ClientAnswer R) (done : ⊤)
      → IsLegalEngine is_blank engine_opening (before ++ (caller, Answer client answer (Ok done)) ∷ after) → ClosesTurn before client
  answer_closes before after caller client answer done legal =
      let r = open_reach is_blank client [] engine_opening before ((caller, Answer client answer (Ok done)) ∷ after) (opens R) (sym (open_none R client)) legal in
      let o = owes r.state client done r.legal.1 in
      let tracks : TracksUnderway (engine_past before) r.state.state r.state.clients o.u =
      subst (TracksTransition (engine_past before) r.state.state r.state.clients) o.underway_is r.tracks.transition in
      let u : IsUnderway before o.u.transition = underway_begun before o.u.transition tracks.transition in
      record {
        transition = o.u.transition;
        underway = u;
        open_turn = record { turn = turn_of o.u; order = o.u.order };
        open_is = r.is ∙ (ap (λ (x : Option (Underway R)). open_in x client) o.underway_is ∙ open_owed o.u client o.polled);
        turn_is = ap (turn_kind o.u.transition) (sym tracks.calling.off);
        order_is = some_order (order_for u.sheet u.start (state_at (engine_past u.earlier))) o.u.order (sym u.order_is ∙ tracks.order);
      }
