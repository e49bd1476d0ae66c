-- Laws of the turns that one client is given.
use Rattle.std.proofs.Common.{◌≡◌, ℕ, suc, ◌<◌, ◌≤◌, Bool, true, false, eqb, List, [], ◌∷◌, ◌++◌, Option, Some, None, refl, ap, sym, subst, ◌∙◌, arith, append_assoc, inl, inr}
use Rattle.std.specs.Prelude.{◌||◌, if◌then◌else◌, Ok, Err}
use Rattle.std.specs.Option.{option_map}
use Rattle.std.proofs.lemmas.Bool.{eqb-true}
use Rattle.daq_types.specs.declared.runs.Transition.{Transition}
use Rattle.daq_types.specs.declared.runs.Transition.TheVariants.{Start}
use Rattle.daq_types.specs.declared.runs.Order.{Order}
use Rattle.transitions.specs.declared.client.Registered.{Registered}
use Rattle.transitions.specs.declared.called.Called.{Called}
use Rattle.transitions.specs.declared.sheet.Sheet.{Sheet}
use Rattle.transitions.specs.declared.answers.Answer.{Answer as ClientAnswer}
use Rattle.transitions.specs.declared.answers.Answer.TheVariants.{Yes, No}
use Rattle.transitions.specs.declared.answers.Tally.TheVariants.{Plain}
use Rattle.transitions.specs.declared.replies.Polled.TheVariants.{Turn, Idle, Closed as PollClosed, NoClient}
use Rattle.transitions.specs.declared.replies.Progress.TheVariants.{Going, Done, None as NoneGoing}
use Rattle.transitions.specs.declared.entry.EngineEntry.{EngineEntry}
use Rattle.transitions.specs.declared.entry.EngineEntry.TheVariants.{Register, Begin, Poll, Answer, Check, Close}
use Rattle.transitions.specs.Engines.{Underway, EngineState, engine_opening}
use Rattle.transitions.specs.EngineCalls.{turn_kind, turn_of, is_start, stands_in, without, group_of, open_of, first_polled, polled_by, told, refused_by, is_due_off, called_off, settled, answered_with, answered_by, after_poll_by, after_answer_in, IsEngineReply, engine_after}
use Rattle.transitions.specs.EngineHistories.{IsLegalEngine}
use Rattle.transitions.specs.EnginePoints.{EngineNews, Silence, Joined, Begun, GaveTurn, Answered, Ended, engine_news, engine_past_after, engine_past, starts_after, starts_at}
use Rattle.transitions.specs.GivenTurns.{OpenTurn, open_at, calls_of, IsRepeated}
use Rattle.transitions.proofs.Apart.{split}
use Rattle.transitions.proofs.Stands.{either, or_false, never_both, stands_gone, stands_other, stands_push}
use Rattle.transitions.proofs.Groups.{due_none}
use Rattle.transitions.proofs.Tracked.{Tracks}
use Rattle.transitions.proofs.Followed.{begins, IsGiven, gives_turn, owes, finishes, history_in_order, tracks_step, opens}

module _ {R : Type 0} where
  -- Start numbers.

  starts_grow : (past es : List (ℕ × EngineEntry R)) → starts_at past ≤ starts_at (engine_past_after past es)
  starts_grow past [] = omega arith
  starts_grow past (e ∷ es) = omega (arith, starts_grow (e ∷ past) es, one (engine_news e.1) (starts_at past))
    where
      one : (n : EngineNews R) (count : ℕ) → count ≤ starts_after n count
      one Silence count = omega arith
      one (Joined c) count = omega arith
      one (Begun t sheet n) count = split (is_start t) (λ b. count ≤ (if b then suc count else count)) (λ h. omega arith) (λ h. omega arith)
      one (GaveTurn client blank) count = omega arith
      one (Answered client answer) count = omega arith
      one (Ended outcome) count = omega arith

  pub past_append : (past xs ys : List (ℕ × EngineEntry R)) → engine_past_after past (xs ++ ys) ≡ engine_past_after (engine_past_after past xs) ys
  past_append past [] ys = refl
  past_append past (x ∷ xs) ys = past_append (x ∷ past) xs ys

module _ {R : Type 0} (is_blank : R → Type 0) where
  -- the start number of a start is above that of each start before it
  pub starts_rise : (before between after : List (ℕ × EngineEntry R)) (caller other : ℕ) (sheet more : Sheet R) (n m : ℕ)
      → IsLegalEngine is_blank engine_opening (before ++ (caller, Begin Start sheet (Ok n)) ∷ (between ++ (other, Begin Start more (Ok m)) ∷ after)) → n < m
  starts_rise before between after caller other sheet more n m legal =
      let first : ℕ × (EngineEntry R) = (caller, Begin Start sheet (Ok n)) in
      let second : ℕ × (EngineEntry R) = (other, Begin Start more (Ok m)) in
      let law = history_in_order is_blank (before ++ first ∷ (between ++ second ∷ after)) legal in
      let one : n ≡ suc (starts_at (engine_past before)) = (law.right before (between ++ second ∷ after) caller (Begin Start sheet (Ok n)) refl).number in
      let two : m ≡ suc (starts_at (engine_past (before ++ first ∷ between))) =
      (law.right (before ++ first ∷ between) after other (Begin Start more (Ok m)) (sym (append_assoc before (first ∷ between) (second ∷ after)))).number in
      let same : starts_at (engine_past (before ++ first ∷ between)) ≡ starts_at (engine_past_after (first ∷ engine_past before) between) = ap starts_at (past_append [] before (first ∷ between)) in
      let grow : starts_at (first ∷ engine_past before) ≤ starts_at (engine_past_after (first ∷ engine_past before) between) = starts_grow (first ∷ engine_past before) between in
      let raised : starts_at (first ∷ engine_past before) ≡ suc (starts_at (engine_past before)) = refl in
      omega (arith, one, two, same, grow, raised)

-- The open turn.

abbrev pub opened : Transition → Order → Option OpenTurn
opened turn order = Some (record { turn = turn; order = order })

module _ {R : Type 0} where
  -- the open turn of a client in the engine
  pub open_in : Option (Underway R) → (client : ℕ) → Option OpenTurn
  open_in None client = None
  open_in (Some u) client = if stands_in u.polled client then opened (turn_of u) u.order else None

  open_again : (client other : ℕ) (u : Underway R) (turn : Transition) (order : Order) → stands_in u.polled other ≡ true → turn ≡ turn_of u → order ≡ u.order
      → (if eqb other client then opened turn order else open_in (Some u) client) ≡ open_in (Some u) client
  unfolding open_in
  open_again client other u turn order polled turn_is order_is =
      split (eqb other client) (λ b. eqb other client ≡ b
      → (if b then opened turn order else (if stands_in u.polled client then opened (turn_of u) u.order else None)) ≡ (if stands_in u.polled client then opened (turn_of u) u.order else None))
      (λ h g.
      let here : stands_in u.polled client ≡ true = ap (λ (n : ℕ). stands_in u.polled n) (sym (eqb-true other client g)) ∙ polled in
      ap (λ (t : Transition). opened t order) turn_is ∙ (ap (opened (turn_of u)) order_is ∙ sym (ap (λ (b : Bool). if b then opened (turn_of u) u.order else None) here)))
      (λ h g. refl)
      refl

  open_first : (client other : ℕ) (c : Registered) (u : Underway R) (turn : Transition) (order : Order) → turn ≡ turn_of u → order ≡ u.order
      → (if eqb other client then opened turn order else open_in (Some u) client) ≡ open_in (Some (first_polled other c u)) client
  unfolding open_in
  open_first client other c u turn order turn_is order_is =
      let pushed : stands_in (first_polled other c u).polled client ≡ (stands_in u.polled client || eqb other client) =
      stands_push client u.polled (record { client = other; sequence = group_of u.polled u.called }) in
      split (eqb other client) (λ b. eqb other client ≡ b
      → (if b then opened turn order else (if stands_in u.polled client then opened (turn_of u) u.order else None)) ≡ (if stands_in (first_polled other c u).polled client then opened (turn_of u) u.order else None))
      (λ h g.
      let here : stands_in (first_polled other c u).polled client ≡ true = pushed ∙ (ap (λ (b : Bool). stands_in u.polled client || b) g ∙ either (stands_in u.polled client)) in
      ap (λ (t : Transition). opened t order) turn_is ∙ (ap (opened (turn_of u)) order_is ∙ sym (ap (λ (b : Bool). if b then opened (turn_of u) u.order else None) here)))
      (λ h g.
      let there : stands_in (first_polled other c u).polled client ≡ stands_in u.polled client = pushed ∙ (ap (λ (b : Bool). stands_in u.polled client || b) g ∙ or_false (stands_in u.polled client)) in
      sym (ap (λ (b : Bool). if b then opened (turn_of u) u.order else None) there))
      refl

  open_given : (client other : ℕ) (c : Registered) (u : Underway R) (turn : Transition) (order : Order) (dump : Option (List ℕ)) (blank : Option R) → IsGiven c u other (Turn turn order dump blank)
      → (if eqb other client then opened turn order else open_in (Some u) client) ≡ open_in (Some (polled_by other c u)) client
  open_given client other c u turn order dump blank (inl again) =
      let same = again.reply_is in
      let turn_is : turn ≡ turn_of u = cc in
      let order_is : order ≡ u.order = cc in
      subst (λ (b : Bool). (if eqb other client then opened turn order else open_in (Some u) client) ≡ open_in (Some (if b then u else first_polled other c u)) client) (sym again.polled)
      (open_again client other u turn order again.polled turn_is order_is)
  open_given client other c u turn order dump blank (inr first) =
      let same = first.reply_is in
      let turn_is : turn ≡ turn_of u = cc in
      let order_is : order ≡ u.order = cc in
      subst (λ (b : Bool). (if eqb other client then opened turn order else open_in (Some u) client) ≡ open_in (Some (if b then u else first_polled other c u)) client) (sym first.fresh)
      (open_first client other c u turn order turn_is order_is)

  -- an answer closes its own turn
  open_told : (client other : ℕ) (u v : Underway R) → v.polled ≡ without other u.polled → v.transition ≡ u.transition → v.is_off ≡ u.is_off → v.order ≡ u.order
      → (if eqb other client then None else open_in (Some u) client) ≡ open_in (Some v) client
  unfolding open_in
  open_told client other u v polled transition off order =
      let turn : turn_of v ≡ turn_of u = ap (λ (t : Transition). turn_kind t v.is_off) transition ∙ ap (turn_kind u.transition) off in
      let same : opened (turn_of v) v.order ≡ opened (turn_of u) u.order = ap (λ (t : Transition). opened t v.order) turn ∙ ap (opened (turn_of u)) order in
      let left : stands_in v.polled client ≡ stands_in (without other u.polled) client = ap (λ (cs : List Called). stands_in cs client) polled in
      split (eqb other client) (λ b. eqb other client ≡ b
      → (if b then None else (if stands_in u.polled client then opened (turn_of u) u.order else None)) ≡ (if stands_in v.polled client then opened (turn_of v) v.order else None))
      (λ h g.
      let gone : stands_in v.polled client ≡ false = left ∙ (ap (λ (n : ℕ). stands_in (without other u.polled) n) (sym (eqb-true other client g)) ∙ stands_gone other u.polled) in
      sym (ap (λ (b : Bool). if b then opened (turn_of v) v.order else None) gone))
      (λ h g.
      let there : stands_in v.polled client ≡ stands_in u.polled client = left ∙ stands_other client other u.polled g in
      ap (λ (x : Option OpenTurn). if stands_in u.polled client then x else None) (sym same) ∙ ap (λ (b : Bool). if b then opened (turn_of v) v.order else None) (sym there))
      refl

  open_with : (client other : ℕ) (answer : ClientAnswer R) (u : Underway R) → (if eqb other client then None else open_in (Some u) client) ≡ open_in (Some (answered_with other answer u)) client
  open_with client other (Yes tally) u = open_told client other u (told other tally u) refl refl refl refl
  open_with client other (No why) u =
      split (is_start (turn_of u))
      (λ b. (if eqb other client then None else open_in (Some u) client) ≡ open_in (Some (if b then refused_by other why u else told other Plain u)) client)
      (λ h. open_told client other u (refused_by other why u) refl refl refl refl) (λ h. open_told client other u (told other Plain u) refl refl refl refl)

  open_fresh : (client : ℕ) (u : Underway R) → u.polled ≡ [] → open_in (Some u) client ≡ None
  unfolding open_in
  open_fresh client u none = ap (λ (cs : List Called). if stands_in cs client then opened (turn_of u) u.order else None) none

  -- and none is open where start-abort begins
  open_settled : (client : ℕ) (clients : List Registered) (u : Underway R) → open_in (Some u) client ≡ open_in (Some (settled clients u)) client
  open_settled client clients u =
      split (is_due_off u.refusal u.polled u.is_off)
      (λ b. is_due_off u.refusal u.polled u.is_off ≡ b → open_in (Some u) client ≡ open_in (Some (if b then called_off clients u else u)) client)
      (λ h g.
      let none : u.polled ≡ [] = due_none u.refusal u.polled u.is_off g in
      open_fresh client u none ∙ sym (open_fresh client (called_off clients u) none))
      (λ h g. refl)
      refl

  open_answered : (client other : ℕ) (clients : List Registered) (answer : ClientAnswer R) (u : Underway R) → (if eqb other client then None else open_in (Some u) client) ≡ open_in (Some (answered_by clients other answer u)) client
  open_answered client other clients answer u = open_with client other answer u ∙ open_settled client clients (answered_with other answer u)

nobody : (polled called : List Called) → polled ++ called ≡ [] → polled ≡ []
nobody [] called e = refl
nobody (p ∷ ps) called e = absurd cc

module _ {R : Type 0} where
  open_done : (client : ℕ) (u : Underway R) → open_of u ≡ [] → open_in (Some u) client ≡ None
  open_done client u done = open_fresh client u (nobody u.polled u.called done)

pub open_none : (R : Type 0) (client : ℕ) → open_in {R = R} None client ≡ None
unfolding open_in
open_none R client = refl

module _ {R : Type 0} where
  open_step : (client : ℕ) (es : List (EngineEntry R)) (s : EngineState R) (entry : EngineEntry R) → open_at client es ≡ open_in s.underway client → IsEngineReply s entry → open_at client (entry ∷ es) ≡ open_in (engine_after s entry).underway client
  open_step client es s (Register name sequences dump report (Ok n)) is e = is
  open_step client es s (Register name sequences dump report (Err r)) is e = is
  open_step client es s (Begin t sheet (Ok n)) is e =
      let b = begins s t n e in
      is ∙ (ap (λ (o : Option (Underway R)). open_in o client) b.free ∙ (open_none R client ∙ sym (open_fresh client _ refl)))
  open_step client es s (Begin t sheet (Err r)) is e = is
  open_step client es s (Poll other (Turn turn order dump blank)) is e =
      let g = gives_turn s other turn order dump blank e in
      ap (λ (o : Option OpenTurn). if eqb other client then opened turn order else o) (is ∙ ap (λ (o : Option (Underway R)). open_in o client) g.underway_is)
      ∙ (open_given client other g.c g.u turn order dump blank g.given
      ∙ sym (ap (λ (o : Option Registered). open_in (after_poll_by s other o).underway client) g.client_is ∙ ap (λ (o : Option (Underway R)). open_in (option_map (polled_by other g.c) o) client) g.underway_is))
  open_step client es s (Poll other (Idle state)) is e = is
  open_step client es s (Poll other PollClosed) is e = is
  open_step client es s (Poll other NoClient) is e = is
  open_step client es s (Answer other answer (Ok done)) is e =
      let o = owes s other done e in
      ap (λ (x : Option OpenTurn). if eqb other client then None else x) (is ∙ ap (λ (x : Option (Underway R)). open_in x client) o.underway_is)
      ∙ (open_answered client other s.clients answer o.u
      ∙ sym (ap (λ (x : Option (Underway R)). open_in (after_answer_in s other answer x).underway client) o.underway_is))
  open_step client es s (Answer other answer (Err r)) is e = is
  open_step client es s (Check (Done outcome) tallies) is e =
      let f = finishes s outcome e.0 in
      is ∙ (ap (λ (o : Option (Underway R)). open_in o client) f.underway_is ∙ (open_done client f.u f.done ∙ sym (open_none R client)))
  open_step client es s (Check Going tallies) is e = is
  open_step client es s (Check NoneGoing tallies) is e = is
  open_step client es s (Close (Ok done)) is e = is
  open_step client es s (Close (Err r)) is e = is

module _ {R : Type 0} (is_blank : R → Type 0) where
  pub record OpenReached (client : ℕ) (past after : List (ℕ × EngineEntry R)) : Type 0 where
    pub state : EngineState R
    pub tracks : Tracks past state
    pub is : open_at client (calls_of past) ≡ open_in state.underway client
    pub legal : IsLegalEngine is_blank state after

module _ {R : Type 0} (is_blank : R → Type 0) where
  pub open_reach : (client : ℕ) (past : List (ℕ × EngineEntry R)) (s : EngineState R) (before after : List (ℕ × EngineEntry R)) → Tracks past s → open_at client (calls_of past) ≡ open_in s.underway client → IsLegalEngine is_blank s (before ++ after)
      → OpenReached is_blank client (engine_past_after past before) after
  open_reach client past s [] after tracks is legal = record { state = s; tracks = tracks; is = is; legal = legal }
  open_reach client past s (e ∷ es) after tracks is legal =
      open_reach client (e ∷ past) (engine_after s e.1) es after (tracks_step past s e.0 e.1 tracks legal.1) (open_step client (calls_of past) s e.1 is legal.1) legal.2

module _ {R : Type 0} where
  open_is : (u : Underway R) (client : ℕ) (o : OpenTurn) → open_in (Some u) client ≡ Some o → (stands_in u.polled client ≡ true) × (turn_of u ≡ o.turn) × (u.order ≡ o.order)
  unfolding open_in
  open_is u client o e =
      split (stands_in u.polled client)
      (λ b. stands_in u.polled client ≡ b → (if b then opened (turn_of u) u.order else None) ≡ Some o → (stands_in u.polled client ≡ true) × (turn_of u ≡ o.turn) × (u.order ≡ o.order))
      (λ h g e'.
      let same : opened (turn_of u) u.order ≡ Some o = e' in
      (g, ap (λ (x : Option OpenTurn). turn_or (turn_of u) x) same, ap (λ (x : Option OpenTurn). order_or u.order x) same))
      (λ h g e'. absurd cc) refl e
    where
      turn_or : Transition → Option OpenTurn → Transition
      turn_or d None = d
      turn_or d (Some x) = x.turn

      order_or : Order → Option OpenTurn → Order
      order_or d None = d
      order_or d (Some x) = x.order

  pub open_owed : (u : Underway R) (client : ℕ) → stands_in u.polled client ≡ true → open_in (Some u) client ≡ opened (turn_of u) u.order
  unfolding open_in
  open_owed u client polled = ap (λ (b : Bool). if b then opened (turn_of u) u.order else None) polled

  repeats : (c : Registered) (u : Underway R) (client : ℕ) (turn : Transition) (order : Order) (dump : Option (List ℕ)) (blank : Option R) (o : OpenTurn)
      → stands_in u.polled client ≡ true → turn_of u ≡ o.turn → u.order ≡ o.order → IsGiven c u client (Turn turn order dump blank) → IsRepeated o turn order dump blank
  repeats c u client turn order dump blank o polled turn_is order_is (inl again) =
      let same = again.reply_is in
      let turn_same : turn ≡ turn_of u = cc in
      let order_same : order ≡ u.order = cc in
      let no_dump : dump ≡ None = cc in
      let no_blank : blank ≡ None = cc in
      record { turn_is = turn_same ∙ turn_is; order_is = order_same ∙ order_is; dump_is = no_dump; blank_is = no_blank }
  repeats c u client turn order dump blank o polled turn_is order_is (inr first) = absurd (never_both (stands_in u.polled client) polled first.fresh)

module _ {R : Type 0} (is_blank : R → Type 0) where
  -- a turn that is polled again is the same, and gives nothing more
  pub turn_repeats : (before after : List (ℕ × EngineEntry R)) (caller client : ℕ) (turn : Transition) (order : Order) (dump : Option (List ℕ)) (blank : Option R) (o : OpenTurn)
      → IsLegalEngine is_blank engine_opening (before ++ (caller, Poll client (Turn turn order dump blank)) ∷ after) → open_at client (calls_of (engine_past before)) ≡ Some o → IsRepeated o turn order dump blank
  turn_repeats before after caller client turn order dump blank o legal is =
      let r = open_reach is_blank client [] engine_opening before ((caller, Poll client (Turn turn order dump blank)) ∷ after) (opens R) (sym (open_none R client)) legal in
      let g = gives_turn r.state client turn order dump blank r.legal.1 in
      let was = open_is g.u client o (ap (λ (x : Option (Underway R)). open_in x client) (sym g.underway_is) ∙ (sym r.is ∙ is)) in
      repeats g.c g.u client turn order dump blank o was.0 was.1 was.2 g.given
