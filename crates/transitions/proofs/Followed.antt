-- Every legal history of an engine is in order.
use Rattle.std.proofs.Common.{◌≡◌, ℕ, suc, ◌+◌, Bool, true, false, ltb, List, [], ◌∷◌, ◌++◌, length, Option, Some, None, refl, ap, sym, subst, ◌∙◌, arith, inl, inr}
use Rattle.std.specs.Prelude.{◌||◌, ◌&&◌, not, ◌⊎◌, if◌then◌else◌, slice_get, is_some, Ok, Err, ⊤}
use Rattle.std.specs.Option.{option_map}
use Rattle.daq_types.specs.declared.runs.RunState.{RunState}
use Rattle.daq_types.specs.declared.runs.Transition.{Transition}
use Rattle.daq_types.specs.declared.runs.Transition.TheVariants.{Start, Stop, Pause, Resume, StartAbort}
use Rattle.daq_types.specs.declared.runs.Order.{Order}
use Rattle.daq_types.specs.declared.runs.StartOutcome.{StartOutcome}
use Rattle.transitions.specs.States.{is_allowed}
use Rattle.transitions.specs.declared.client.Registered.{Registered}
use Rattle.transitions.specs.declared.called.Called.{Called}
use Rattle.transitions.specs.declared.answers.ClientTally.{ClientTally}
use Rattle.transitions.specs.declared.engine.Refusal.{Refusal}
use Rattle.transitions.specs.declared.replies.BeginRefusal.TheVariants.{Closed as BeginClosed, InProgress as BeginInProgress, WrongState, LastStart}
use Rattle.transitions.specs.declared.replies.RegisterRefusal.TheVariants.{Closed as RegisterClosed, NoSlot}
use Rattle.transitions.specs.declared.replies.Polled.{Polled}
use Rattle.transitions.specs.declared.replies.Polled.TheVariants.{Turn, Idle, Closed as PollClosed, NoClient}
use Rattle.transitions.specs.declared.replies.Progress.{Progress}
use Rattle.transitions.specs.declared.replies.Progress.TheVariants.{Going, Done, None as NoneGoing}
use Rattle.transitions.specs.declared.entry.EngineEntry.{EngineEntry}
use Rattle.transitions.specs.declared.entry.EngineEntry.TheVariants.{Register, Begin, Poll, Answer, Check, Close}
use Rattle.transitions.specs.Limits.{most_clients, last_start_number}
use Rattle.transitions.specs.Called.{called_list}
use Rattle.transitions.specs.CalledOrder.{IsCalledIn}
use Rattle.transitions.specs.Engines.{Underway, EngineState, engine_opening}
use Rattle.transitions.specs.EngineCalls.{turn_kind, turn_of, is_start, stands_in, group_of, has_polled, is_next, open_of, gets_blank, first_turn, same_turn, first_polled, polled_by, is_due_off, outcome_of, register_reply, register_reply_in, begin_reply, begin_reply_in, start_reply, poll_reply, poll_reply_to, poll_reply_in, owes_answer, answer_reply, not_your_turn, check_reply, check_reply_in, progress_of, tallies_in, after_poll_by, after_answer_in, IsEngineReply, engine_after}
use Rattle.transitions.specs.EngineHistories.{IsLegalEngine}
use Rattle.transitions.specs.EnginePoints.{Calling, uncalled, engine_past_after, engine_past, Joined, Begun, GaveTurn, Answered, Ended, callable_at, calling_at, refusal_at, off_at, turn_at, turned_at, answered_at, dump_at, blanks_at, wants_dump, wants_report, is_among}
use Rattle.transitions.specs.TurnOrder.{IsClientReached, AreDistinct, AreTurnsInGroups, is_refused_at, IsRightTurn, IsRightEnd, IsRightCall, number_with, TurnsInOrder}
use Rattle.transitions.proofs.Apart.{split}
use Rattle.transitions.proofs.Stands.{and_false, and_true, never_both, with_stands}
use Rattle.transitions.proofs.Groups.{Stand, is_refused, fresh_owes, polled_turned, unrefused, next_reached, all_answered}
use Rattle.transitions.proofs.Tracked.{TracksUnderway, TracksNone, TracksTransition, Tracks, state_tracks, called_is, tracks_silent, none_joined, clients_joined, clients_kept, starts_kept, underway_begun, starts_begun, dump_wish, report_wish, underway_first, underway_again, underway_answered, none_ended}

module _ {R : Type 0} where
  -- What a reply says of the engine.

  register_free_in : (o : Option (Underway R)) (count n : ℕ) → Ok n ≡ register_reply_in o count → o ≡ None
  register_free_in None count n e = refl
  register_free_in (Some u) count n e = absurd cc

  pub register_free : (s : EngineState R) (n : ℕ) → Ok n ≡ register_reply s → s.underway ≡ None
  register_free s n e =
      split s.closed (λ b. Ok n ≡ (if b then Err RegisterClosed else register_reply_in s.underway (length s.clients)) → s.underway ≡ None)
      (λ h e'. absurd cc) (λ h e'. register_free_in s.underway (length s.clients) n e') e

  register_number_in : (o : Option (Underway R)) (count n : ℕ) → Ok n ≡ register_reply_in o count → n ≡ count
  register_number_in None count n e =
      split (ltb count most_clients) (λ b. Ok n ≡ (if b then Ok count else Err NoSlot) → n ≡ count) (λ h e'. cc) (λ h e'. absurd cc) e
  register_number_in (Some u) count n e = absurd cc

  register_number : (s : EngineState R) (n : ℕ) → Ok n ≡ register_reply s → n ≡ length s.clients
  register_number s n e =
      split s.closed (λ b. Ok n ≡ (if b then Err RegisterClosed else register_reply_in s.underway (length s.clients)) → n ≡ length s.clients)
      (λ h e'. absurd cc) (λ h e'. register_number_in s.underway (length s.clients) n e') e

  pub record Begins (s : EngineState R) (t : Transition) (n : ℕ) : Type 0 where
    pub free : s.underway ≡ None
    pub allowed : is_allowed s.state t ≡ true
    pub number : n ≡ number_with t s.start

start_number : (t : Transition) (start n : ℕ) → Ok n ≡ start_reply t start → n ≡ number_with t start
start_number Start start n e =
    split (ltb start last_start_number) (λ b. Ok n ≡ (if b then Ok (start + 1) else Err LastStart) → n ≡ suc start)
    (λ h e'. let same : n ≡ start + 1 = cc in omega (arith, same)) (λ h e'. absurd cc) e
start_number Stop start n e = cc
start_number Pause start n e = cc
start_number Resume start n e = cc
start_number StartAbort start n e = cc

module _ {R : Type 0} where
  begins_in : (s : EngineState R) (t : Transition) (n : ℕ) (o : Option (Underway R)) → s.underway ≡ o → Ok n ≡ begin_reply_in o s.state t s.start → Begins s t n
  begins_in s t n (Some u) is e = absurd cc
  begins_in s t n None is e =
      split (is_allowed s.state t) (λ b. is_allowed s.state t ≡ b → Ok n ≡ (if b then start_reply t s.start else Err (WrongState s.state)) → Begins s t n)
      (λ h g e'. record { free = is; allowed = g; number = start_number t s.start n e' }) (λ h g e'. absurd cc) refl e

  pub begins : (s : EngineState R) (t : Transition) (n : ℕ) → Ok n ≡ begin_reply s t → Begins s t n
  begins s t n e =
      split s.closed (λ b. Ok n ≡ (if b then Err BeginClosed else begin_reply_in s.underway s.state t s.start) → Begins s t n)
      (λ h e'. absurd cc) (λ h e'. begins_in s t n s.underway refl e') e

start_right : (t : Transition) (start : ℕ) (state : RunState) → Err (WrongState state) ≡ start_reply t start → ⊥
start_right Start start state e =
    split (ltb start last_start_number) (λ b. Err (WrongState state) ≡ (if b then Ok (start + 1) else Err LastStart) → ⊥) (λ h e'. absurd cc) (λ h e'. absurd cc) e
start_right Stop start state e = absurd cc
start_right Pause start state e = absurd cc
start_right Resume start state e = absurd cc
start_right StartAbort start state e = absurd cc

module _ {R : Type 0} where
  wrong_in : (o : Option (Underway R)) (now : RunState) (t : Transition) (start : ℕ) (state : RunState) → Err (WrongState state) ≡ begin_reply_in o now t start → state ≡ now
  wrong_in (Some u) now t start state e = absurd cc
  wrong_in None now t start state e =
      split (is_allowed now t) (λ b. Err (WrongState state) ≡ (if b then start_reply t start else Err (WrongState now)) → state ≡ now)
      (λ h e'. absurd (start_right t start state e')) (λ h e'. cc) e

  wrong_state : (s : EngineState R) (t : Transition) (state : RunState) → Err (WrongState state) ≡ begin_reply s t → state ≡ s.state
  wrong_state s t state e =
      split s.closed (λ b. Err (WrongState state) ≡ (if b then Err BeginClosed else begin_reply_in s.underway s.state t s.start) → state ≡ s.state)
      (λ h e'. absurd cc) (λ h e'. wrong_in s.underway s.state t s.start state e') e

  -- a turn is given again until it is answered, and else to a client of the group whose turn it is
  pub record GivesAgain (u : Underway R) (client : ℕ) (reply : Polled R) : Type 0 where
    pub polled : has_polled u client ≡ true
    pub reply_is : reply ≡ same_turn u

  pub record GivesFirst (c : Registered) (u : Underway R) (client : ℕ) (reply : Polled R) : Type 0 where
    pub fresh : has_polled u client ≡ false
    pub next : is_next u.polled u.called client ≡ true
    pub reply_is : reply ≡ first_turn c u

  abbrev pub IsGiven : Registered → Underway R → (client : ℕ) → Polled R → Type 0
  IsGiven c u client reply = GivesAgain u client reply ⊎ GivesFirst c u client reply

  pub record GivesTurn (s : EngineState R) (client : ℕ) (reply : Polled R) : Type 0 where
    pub c : Registered
    pub u : Underway R
    pub client_is : slice_get s.clients client ≡ Some c
    pub underway_is : s.underway ≡ Some u
    pub given : IsGiven c u client reply

  given_in : (state : RunState) (client : ℕ) (c : Registered) (u : Underway R) (turn : Transition) (order : Order) (dump : Option (List ℕ)) (blank : Option R)
      → Turn turn order dump blank ≡ poll_reply_in state client c (Some u) → IsGiven c u client (Turn turn order dump blank)
  given_in state client c u turn order dump blank e =
      split (has_polled u client) (λ b. has_polled u client ≡ b
      → Turn turn order dump blank ≡ (if b then same_turn u else if is_next u.polled u.called client then first_turn c u else Idle state) → IsGiven c u client (Turn turn order dump blank))
      (λ h g e'. inl (record { polled = g; reply_is = e' }))
      (λ h g e'. split (is_next u.polled u.called client) (λ b. is_next u.polled u.called client ≡ b
      → Turn turn order dump blank ≡ (if b then first_turn c u else Idle state) → IsGiven c u client (Turn turn order dump blank))
      (λ k f e''. inr (record { fresh = g; next = f; reply_is = e'' })) (λ k f e''. absurd cc) refl e')
      refl e

  gives_in : (s : EngineState R) (client : ℕ) (c : Registered) (o : Option (Underway R)) (turn : Transition) (order : Order) (dump : Option (List ℕ)) (blank : Option R)
      → slice_get s.clients client ≡ Some c → s.underway ≡ o → Turn turn order dump blank ≡ poll_reply_in s.state client c o → GivesTurn s client (Turn turn order dump blank)
  gives_in s client c None turn order dump blank is at e = absurd cc
  gives_in s client c (Some u) turn order dump blank is at e =
      record { c = c; u = u; client_is = is; underway_is = at; given = given_in s.state client c u turn order dump blank e }

  gives_to : (s : EngineState R) (client : ℕ) (o : Option Registered) (turn : Transition) (order : Order) (dump : Option (List ℕ)) (blank : Option R)
      → slice_get s.clients client ≡ o → Turn turn order dump blank ≡ poll_reply_to s client o → GivesTurn s client (Turn turn order dump blank)
  gives_to s client None turn order dump blank is e = absurd cc
  gives_to s client (Some c) turn order dump blank is e =
      split s.closed (λ b. Turn turn order dump blank ≡ (if b then PollClosed else poll_reply_in s.state client c s.underway) → GivesTurn s client (Turn turn order dump blank))
      (λ h e'. absurd cc) (λ h e'. gives_in s client c s.underway turn order dump blank is refl e') e

  pub gives_turn : (s : EngineState R) (client : ℕ) (turn : Transition) (order : Order) (dump : Option (List ℕ)) (blank : Option R) → Turn turn order dump blank ≡ poll_reply s client → GivesTurn s client (Turn turn order dump blank)
  gives_turn s client turn order dump blank e = gives_to s client (slice_get s.clients client) turn order dump blank refl e

  idle_in : (now : RunState) (client : ℕ) (c : Registered) (o : Option (Underway R)) (state : RunState) → Idle state ≡ poll_reply_in now client c o → state ≡ now
  idle_in now client c None state e = cc
  idle_in now client c (Some u) state e =
      split (has_polled u client) (λ b. Idle state ≡ (if b then same_turn u else if is_next u.polled u.called client then first_turn c u else Idle now) → state ≡ now)
      (λ h e'. absurd cc)
      (λ h e'. split (is_next u.polled u.called client) (λ b. Idle state ≡ (if b then first_turn c u else Idle now) → state ≡ now) (λ k e''. absurd cc) (λ k e''. cc) e') e

  idle_to : (s : EngineState R) (client : ℕ) (o : Option Registered) (state : RunState) → Idle state ≡ poll_reply_to s client o → state ≡ s.state
  idle_to s client None state e = absurd cc
  idle_to s client (Some c) state e =
      split s.closed (λ b. Idle state ≡ (if b then PollClosed else poll_reply_in s.state client c s.underway) → state ≡ s.state)
      (λ h e'. absurd cc) (λ h e'. idle_in s.state client c s.underway state e') e

  pub record Owes (s : EngineState R) (client : ℕ) : Type 0 where
    pub u : Underway R
    pub underway_is : s.underway ≡ Some u
    pub polled : has_polled u client ≡ true

  owes_in : (s : EngineState R) (client : ℕ) (o : Option (Underway R)) → s.underway ≡ o → owes_answer o client ≡ true → Owes s client
  owes_in s client None is e = absurd cc
  owes_in s client (Some u) is e = record { u = u; underway_is = is; polled = e }

  pub owes : (s : EngineState R) (client : ℕ) (done : ⊤) → Ok done ≡ answer_reply s client → Owes s client
  owes s client done e =
      split (owes_answer s.underway client) (λ b. owes_answer s.underway client ≡ b → Ok done ≡ (if b then Ok tt else Err not_your_turn) → Owes s client)
      (λ h g e'. owes_in s client s.underway refl g) (λ h g e'. absurd cc) refl e

  pub record Finishes (s : EngineState R) (outcome : StartOutcome) : Type 0 where
    pub u : Underway R
    pub underway_is : s.underway ≡ Some u
    pub done : open_of u ≡ []
    pub outcome_is : outcome ≡ outcome_of u.refusal

finishes_at : (called : List Called) (r : Option Refusal) (outcome : StartOutcome) → Done outcome ≡ progress_of called r → (called ≡ []) × (outcome ≡ outcome_of r)
finishes_at [] r outcome e = (refl, cc)
finishes_at (c ∷ cs) r outcome e = absurd cc

module _ {R : Type 0} where
  finishes_in : (s : EngineState R) (o : Option (Underway R)) (outcome : StartOutcome) → s.underway ≡ o → Done outcome ≡ check_reply_in o → Finishes s outcome
  finishes_in s None outcome is e = absurd cc
  finishes_in s (Some u) outcome is e =
      let parts = finishes_at (open_of u) u.refusal outcome e in
      record { u = u; underway_is = is; done = parts.0; outcome_is = parts.1 }

  pub finishes : (s : EngineState R) (outcome : StartOutcome) → Done outcome ≡ check_reply s → Finishes s outcome
  finishes s outcome e = finishes_in s s.underway outcome refl e

  -- One call.

  tracks_turn : (past : List (ℕ × EngineEntry R)) (s : EngineState R) (by client : ℕ) (turn : Transition) (order : Order) (dump : Option (List ℕ)) (blank : Option R) (c : Registered) (u : Underway R)
      → TracksUnderway past s.state s.clients u → slice_get s.clients client ≡ Some c → IsGiven c u client (Turn turn order dump blank)
      → TracksUnderway ((by, Poll client (Turn turn order dump blank)) ∷ past) s.state s.clients (polled_by client c u)
  tracks_turn past s by client turn order dump blank c u t is (inl again) =
      let same = again.reply_is in
      let blank_is : blank ≡ None = cc in
      let e : ℕ × (EngineEntry R) = (by, Poll client (Turn turn order dump blank)) in
      subst (λ (b : Bool). TracksUnderway (e ∷ past) s.state s.clients (if b then u else first_polled client c u)) (sym again.polled)
      (underway_again past e s.state s.clients u client (ap (λ (o : Option R). GaveTurn client o) blank_is) t again.polled)
  tracks_turn past s by client turn order dump blank c u t is (inr first) =
      let same = first.reply_is in
      let blank_is : blank ≡ (if gets_blank c u then slice_get u.blanks 0 else None) = cc in
      let e : ℕ × (EngineEntry R) = (by, Poll client (Turn turn order dump blank)) in
      subst (λ (b : Bool). TracksUnderway (e ∷ past) s.state s.clients (if b then u else first_polled client c u)) (sym first.fresh)
      (underway_first past e s.state s.clients u client c blank refl t is first.next blank_is)

  pub tracks_step : (past : List (ℕ × EngineEntry R)) (s : EngineState R) (by : ℕ) (entry : EngineEntry R) → Tracks past s → IsEngineReply s entry → Tracks ((by, entry) ∷ past) (engine_after s entry)
  tracks_step past s by (Register name sequences dump report (Ok n)) t reply =
      let e : ℕ × (EngineEntry R) = (by, Register name sequences dump report (Ok n)) in
      let c : Registered = record { name = name; sequences = sequences; wants_dump = dump; wants_report = report } in
      let free = register_free s n reply in
      record {
        clients = clients_joined past e c refl ∙ ap (λ (cs : List Registered). cs ++ c ∷ []) t.clients;
        starts = starts_kept past e (Joined c) refl refl ∙ t.starts;
        transition = subst (TracksTransition (e ∷ past) s.state (s.clients ++ c ∷ [])) (sym free) (none_joined past e s.state c refl (subst (TracksTransition past s.state s.clients) free t.transition));
      }
  tracks_step past s by (Register name sequences dump report (Err r)) t reply = tracks_silent past s (by, Register name sequences dump report (Err r)) refl t
  tracks_step past s by (Begin transition sheet (Ok n)) t reply =
      let e : ℕ × (EngineEntry R) = (by, Begin transition sheet (Ok n)) in
      let b = begins s transition n reply in
      record {
        clients = clients_kept past e (Begun transition sheet n) refl refl ∙ t.clients;
        starts = starts_begun past e transition sheet n refl ∙ (ap (number_with transition) t.starts ∙ sym b.number);
        transition = underway_begun past e s transition sheet n refl t.clients (subst (TracksTransition past s.state s.clients) b.free t.transition);
      }
  tracks_step past s by (Begin transition sheet (Err r)) t reply = tracks_silent past s (by, Begin transition sheet (Err r)) refl t
  tracks_step past s by (Poll client (Turn turn order dump blank)) t reply =
      let e : ℕ × (EngineEntry R) = (by, Poll client (Turn turn order dump blank)) in
      let g = gives_turn s client turn order dump blank reply in
      let tu : TracksUnderway past s.state s.clients g.u = subst (TracksTransition past s.state s.clients) g.underway_is t.transition in
      subst (λ (o : Option Registered). Tracks (e ∷ past) (after_poll_by s client o)) (sym g.client_is) (record {
        clients = clients_kept past e (GaveTurn client blank) refl refl ∙ t.clients;
        starts = starts_kept past e (GaveTurn client blank) refl refl ∙ t.starts;
        transition = subst (λ (o : Option (Underway R)). TracksTransition (e ∷ past) s.state s.clients (option_map (polled_by client g.c) o)) (sym g.underway_is)
            (tracks_turn past s by client turn order dump blank g.c g.u tu g.client_is g.given);
      })
  tracks_step past s by (Poll client (Idle state)) t reply = tracks_silent past s (by, Poll client (Idle state)) refl t
  tracks_step past s by (Poll client PollClosed) t reply = tracks_silent past s (by, Poll client PollClosed) refl t
  tracks_step past s by (Poll client NoClient) t reply = tracks_silent past s (by, Poll client NoClient) refl t
  tracks_step past s by (Answer client answer (Ok done)) t reply =
      let e : ℕ × (EngineEntry R) = (by, Answer client answer (Ok done)) in
      let o = owes s client done reply in
      let tu : TracksUnderway past s.state s.clients o.u = subst (TracksTransition past s.state s.clients) o.underway_is t.transition in
      subst (λ (x : Option (Underway R)). Tracks (e ∷ past) (after_answer_in s client answer x)) (sym o.underway_is) (record {
        clients = clients_kept past e (Answered client answer) refl refl ∙ t.clients;
        starts = starts_kept past e (Answered client answer) refl refl ∙ t.starts;
        transition = underway_answered past e s.state s.clients o.u client answer refl tu o.polled;
      })
  tracks_step past s by (Answer client answer (Err r)) t reply = tracks_silent past s (by, Answer client answer (Err r)) refl t
  tracks_step past s by (Check (Done outcome) tallies) t reply =
      let e : ℕ × (EngineEntry R) = (by, Check (Done outcome) tallies) in
      let f = finishes s outcome reply.0 in
      let tu : TracksUnderway past s.state s.clients f.u = subst (TracksTransition past s.state s.clients) f.underway_is t.transition in
      record {
        clients = clients_kept past e (Ended outcome) refl refl ∙ t.clients;
        starts = starts_kept past e (Ended outcome) refl refl ∙ t.starts;
        transition = none_ended past e s.state s.clients f.u outcome refl tu f.done f.outcome_is;
      }
  tracks_step past s by (Check Going tallies) t reply = tracks_silent past s (by, Check Going tallies) refl t
  tracks_step past s by (Check NoneGoing tallies) t reply = tracks_silent past s (by, Check NoneGoing tallies) refl t
  tracks_step past s by (Close (Ok done)) t reply =
      let kept = tracks_silent past s (by, Close (Ok done)) refl t in
      record { clients = kept.clients; starts = kept.starts; transition = kept.transition }
  tracks_step past s by (Close (Err r)) t reply = tracks_silent past s (by, Close (Err r)) refl t

  -- Each point is in order.

  nothing_called : (past : List (ℕ × EngineEntry R)) → calling_at past ≡ uncalled → AreTurnsInGroups past
  nothing_called past is = record {
    turned = λ n e.
        let nobody : is_among n [] ≡ true = ap (λ (c : Calling). is_among n c.turned) (sym is) ∙ e in
        absurd cc;
    answered = λ n e.
        let nobody : is_among n [] ≡ true = ap (λ (c : Calling). is_among n c.answered) (sym is) ∙ e in
        absurd cc;
    once = subst (λ (c : Calling). AreDistinct c.answered) (sym is) tt;
  }

  point_in_order : (past : List (ℕ × EngineEntry R)) (state : RunState) (clients : List Registered) (o : Option (Underway R)) → TracksTransition past state clients o → AreTurnsInGroups past
  point_in_order past state clients None t = nothing_called past t.calling
  point_in_order past state clients (Some u) t =
      let all : List Called = called_list (turn_of u) clients in
      let stand : Stand all (turned_at past) (answered_at past) u.called u.polled (is_refused u) = t.calling.stand in
      record {
        turned = λ n e. subst (λ (cs : List Called). IsClientReached cs (answered_at past) n) (sym (called_is past state clients u t)) (stand.reached n e);
        answered = λ n e. stand.turned_is n ∙ ap (λ (b : Bool). b || stands_in u.polled n) e;
        once = stand.once;
      }

  -- Each call is right.

  refused_is : (past : List (ℕ × EngineEntry R)) (state : RunState) (clients : List Registered) (u : Underway R) → TracksUnderway past state clients u → is_refused_at past ≡ is_refused u
  refused_is past state clients u t =
      ap (λ (b : Bool). not b && is_some (refusal_at past)) t.calling.off ∙ ap (λ (r : Option Refusal). not u.is_off && is_some r) t.calling.refusal

  turn_is : (past : List (ℕ × EngineEntry R)) (state : RunState) (clients : List Registered) (u : Underway R) → TracksUnderway past state clients u → turn_at past ≡ Some (turn_of u)
  turn_is past state clients u t =
      ap (λ (o : Option Transition). option_map (λ x. turn_kind x (off_at past)) o) t.transition ∙ ap (λ (b : Bool). Some (turn_kind u.transition b)) t.calling.off

  -- a further reply gives nothing
  again_blank : (wants start : Bool) (polled : Bool) (bs : List R) → polled ≡ true → None ≡ (if wants && (not polled && start) then slice_get bs 0 else None)
  again_blank false start polled bs e = refl
  again_blank true start true bs e = refl
  again_blank true start false bs e = absurd cc

again_dump : (wants : Bool) (dump : Option (List ℕ)) → (wants ≡ true → dump ≡ None) → None ≡ (if wants then dump else None)
again_dump false dump given = refl
again_dump true dump given = sym (given refl)

module _ {R : Type 0} where
  -- and a first one has its blank report
  first_blank : (wants start : Bool) (polled : Bool) (bs : List R) → polled ≡ false → (if wants && start then slice_get bs 0 else None) ≡ (if wants && (not polled && start) then slice_get bs 0 else None)
  first_blank wants start false bs e = refl
  first_blank wants start true bs e = absurd cc

  right_again : (past : List (ℕ × EngineEntry R)) (s : EngineState R) (client : ℕ) (turn : Transition) (order : Order) (dump : Option (List ℕ)) (blank : Option R) (u : Underway R)
      → TracksUnderway past s.state s.clients u → GivesAgain u client (Turn turn order dump blank) → IsRightTurn past client turn order dump blank
  right_again past s client turn order dump blank u t given =
      let same = given.reply_is in
      let turn_same : turn ≡ turn_of u = cc in
      let order_same : order ≡ u.order = cc in
      let dump_same : dump ≡ None = cc in
      let blank_same : blank ≡ None = cc in
      let all : List Called = called_list (turn_of u) s.clients in
      let stand : Stand all (turned_at past) (answered_at past) u.called u.polled (is_refused u) = t.calling.stand in
      let turned : is_among client (turned_at past) ≡ true = polled_turned all (turned_at past) (answered_at past) u.called u.polled (is_refused u) client stand given.polled in
      record {
        turn_is = turn_is past s.state s.clients u t ∙ ap (λ (x : Transition). Some x) (sym turn_same);
        order_is = t.order ∙ ap (λ (x : Order). Some x) (sym order_same);
        reached = subst (λ (cs : List Called). IsClientReached cs (answered_at past) client) (sym (called_is past s.state s.clients u t)) (stand.reached client turned);
        owes = stand.owes client given.polled;
        no_later = λ e. turned;
        dump_is = dump_same ∙ again_dump (wants_dump (callable_at past) client) (dump_at past)
            (λ wants. t.dump ∙ t.given client given.polled (ap (λ (cs : List Registered). wants_dump cs client) (sym t.callable) ∙ wants));
        blank_is = blank_same ∙ again_blank (wants_report (callable_at past) client) (is_start turn) (is_among client (turned_at past)) (blanks_at past) turned;
      }

  right_first : (past : List (ℕ × EngineEntry R)) (s : EngineState R) (client : ℕ) (turn : Transition) (order : Order) (dump : Option (List ℕ)) (blank : Option R) (c : Registered) (u : Underway R)
      → TracksUnderway past s.state s.clients u → slice_get s.clients client ≡ Some c → GivesFirst c u client (Turn turn order dump blank) → IsRightTurn past client turn order dump blank
  right_first past s client turn order dump blank c u t is given =
      let same = given.reply_is in
      let turn_same : turn ≡ turn_of u = cc in
      let order_same : order ≡ u.order = cc in
      let dump_same : dump ≡ (if c.wants_dump then u.dump else None) = cc in
      let blank_same : blank ≡ (if gets_blank c u then slice_get u.blanks 0 else None) = cc in
      let dump_wanted : wants_dump (callable_at past) client ≡ c.wants_dump = ap (λ (cs : List Registered). wants_dump cs client) t.callable ∙ dump_wish s.clients client c is in
      let report_wanted : wants_report (callable_at past) client ≡ c.wants_report = ap (λ (cs : List Registered). wants_report cs client) t.callable ∙ report_wish s.clients client c is in
      let all : List Called = called_list (turn_of u) s.clients in
      let stand : Stand all (turned_at past) (answered_at past) u.called u.polled (is_refused u) = t.calling.stand in
      let group : ℕ = group_of u.polled u.called in
      let stands : stands_in u.called client ≡ true = with_stands group u.called client given.next in
      let fresh : is_among client (turned_at past) ≡ false = stand.fresh client stands in
      let un : is_refused u ≡ false = unrefused all (turned_at past) (answered_at past) u.called u.polled (is_refused u) group client stand given.next in
      let own : IsClientReached all (answered_at past) client =
      record { one = record { client = client; sequence = group }; is = refl; group = next_reached all (turned_at past) (answered_at past) u.called u.polled (is_refused u) client stand given.next } in
      record {
        turn_is = turn_is past s.state s.clients u t ∙ ap (λ (x : Transition). Some x) (sym turn_same);
        order_is = t.order ∙ ap (λ (x : Order). Some x) (sym order_same);
        reached = subst (λ (cs : List Called). IsClientReached cs (answered_at past) client) (sym (called_is past s.state s.clients u t)) own;
        owes = fresh_owes all (turned_at past) (answered_at past) u.called u.polled (is_refused u) client stand stands;
        no_later = λ e. absurd (never_both (is_refused_at past) e (refused_is past s.state s.clients u t ∙ un));
        dump_is = dump_same ∙ sym (ap (λ (b : Bool). if b then dump_at past else None) dump_wanted ∙ ap (λ (d : Option (List ℕ)). if c.wants_dump then d else None) t.dump);
        blank_is = blank_same ∙ (first_blank c.wants_report (is_start (turn_of u)) (is_among client (turned_at past)) u.blanks fresh
            ∙ sym (ap (λ (b : Bool). if b && (not (is_among client (turned_at past)) && is_start turn) then slice_get (blanks_at past) 0 else None) report_wanted
            ∙ (ap (λ (x : Transition). if c.wants_report && (not (is_among client (turned_at past)) && is_start x) then slice_get (blanks_at past) 0 else None) turn_same
            ∙ ap (λ (xs : List R). if c.wants_report && (not (is_among client (turned_at past)) && is_start (turn_of u)) then slice_get xs 0 else None) t.blanks)));
      }

  right_turn : (past : List (ℕ × EngineEntry R)) (s : EngineState R) (client : ℕ) (turn : Transition) (order : Order) (dump : Option (List ℕ)) (blank : Option R) (c : Registered) (u : Underway R)
      → TracksUnderway past s.state s.clients u → slice_get s.clients client ≡ Some c → IsGiven c u client (Turn turn order dump blank) → IsRightTurn past client turn order dump blank
  right_turn past s client turn order dump blank c u t is (inl again) = right_again past s client turn order dump blank u t again
  right_turn past s client turn order dump blank c u t is (inr first) = right_first past s client turn order dump blank c u t is first

-- where nobody has yet to answer, no refused start waits to be called off
settled_unrefused : (r : Option Refusal) (polled called : List Called) (off : Bool) → is_due_off r polled off ≡ false → polled ++ called ≡ [] → (not off && is_some r) ≡ false
settled_unrefused None polled called off e done = and_false (not off)
settled_unrefused (Some r) [] called off e done = and_true (not off) ∙ e
settled_unrefused (Some r) (p ∷ ps) called off e done = absurd cc

module _ {R : Type 0} where
  right_end : (past : List (ℕ × EngineEntry R)) (s : EngineState R) (outcome : StartOutcome) (tallies : List (ClientTally R)) (u : Underway R) → TracksUnderway past s.state s.clients u
      → open_of u ≡ [] → outcome ≡ outcome_of u.refusal → tallies ≡ u.tallies → IsRightEnd past outcome tallies
  right_end past s outcome tallies u t done outcome_is tallies_is =
      let all : List Called = called_list (turn_of u) s.clients in
      let un : is_refused u ≡ false = settled_unrefused u.refusal u.polled u.called u.is_off t.unsettled done in
      record {
        transition = u.transition;
        in_progress = t.transition;
        off = refused_is past s.state s.clients u t ∙ un;
        all = λ one h. all_answered all (turned_at past) (answered_at past) u.called u.polled (is_refused u) t.calling.stand un done one (subst (IsCalledIn one) (called_is past s.state s.clients u t) h);
        outcome_is = outcome_is ∙ ap outcome_of (sym t.calling.refusal);
        tallies_is = tallies_is ∙ sym t.tallies;
      }

  right_call : (past : List (ℕ × EngineEntry R)) (s : EngineState R) (entry : EngineEntry R) → Tracks past s → IsEngineReply s entry → IsRightCall past entry
  right_call past s (Register name sequences dump report (Ok n)) t e = register_number s n e ∙ ap length (sym t.clients)
  right_call past s (Register name sequences dump report (Err r)) t e = tt
  right_call past s (Begin transition sheet (Ok n)) t e =
      let b = begins s transition n e in
      let none : TracksNone past s.state = subst (TracksTransition past s.state s.clients) b.free t.transition in
      record {
        free = none.transition;
        allowed = ap (λ (state : RunState). is_allowed state transition) (state_tracks past s.state s.clients s.underway t.transition) ∙ b.allowed;
        number = b.number ∙ ap (number_with transition) (sym t.starts);
      }
  right_call past s (Begin transition sheet (Err (WrongState state))) t e = wrong_state s transition state e ∙ sym (state_tracks past s.state s.clients s.underway t.transition)
  right_call past s (Begin transition sheet (Err BeginClosed)) t e = tt
  right_call past s (Begin transition sheet (Err (BeginInProgress u))) t e = tt
  right_call past s (Begin transition sheet (Err LastStart)) t e = tt
  right_call past s (Poll client (Turn turn order dump blank)) t e =
      let g = gives_turn s client turn order dump blank e in
      right_turn past s client turn order dump blank g.c g.u (subst (TracksTransition past s.state s.clients) g.underway_is t.transition) g.client_is g.given
  right_call past s (Poll client (Idle state)) t e = idle_to s client (slice_get s.clients client) state e ∙ sym (state_tracks past s.state s.clients s.underway t.transition)
  right_call past s (Poll client PollClosed) t e = tt
  right_call past s (Poll client NoClient) t e = tt
  right_call past s (Answer client answer (Ok done)) t e =
      let o = owes s client done e in
      let tu : TracksUnderway past s.state s.clients o.u = subst (TracksTransition past s.state s.clients) o.underway_is t.transition in
      record {
        turned = polled_turned (called_list (turn_of o.u) s.clients) (turned_at past) (answered_at past) o.u.called o.u.polled (is_refused o.u) client tu.calling.stand o.polled;
        owes = tu.calling.stand.owes client o.polled;
      }
  right_call past s (Answer client answer (Err r)) t e = tt
  right_call past s (Check (Done outcome) tallies) t e =
      let f = finishes s outcome e.0 in
      let tu : TracksUnderway past s.state s.clients f.u = subst (TracksTransition past s.state s.clients) f.underway_is t.transition in
      right_end past s outcome tallies f.u tu f.done f.outcome_is (e.1 ∙ (ap (λ (p : Progress). tallies_in p s.underway) (sym e.0) ∙ ap (tallies_in (Done outcome)) f.underway_is))
  right_call past s (Check Going tallies) t e = tt
  right_call past s (Check NoneGoing tallies) t e = tt
  right_call past s (Close reply) t e = tt

module _ {R : Type 0} (is_blank : R → Type 0) where
  -- Along a history.

  pub record Reached (past after : List (ℕ × EngineEntry R)) : Type 0 where
    pub state : EngineState R
    pub tracks : Tracks past state
    pub legal : IsLegalEngine is_blank state after

module _ {R : Type 0} (is_blank : R → Type 0) where
  pub reach : (past : List (ℕ × EngineEntry R)) (s : EngineState R) (before after : List (ℕ × EngineEntry R)) → Tracks past s → IsLegalEngine is_blank s (before ++ after) → Reached is_blank (engine_past_after past before) after
  reach past s [] after t legal = record { state = s; tracks = t; legal = legal }
  reach past s (e ∷ es) after t legal = reach (e ∷ past) (engine_after s e.1) es after (tracks_step past s e.0 e.1 t legal.1) legal.2

pub opens : (R : Type 0) → Tracks {R = R} [] engine_opening
opens R = record { clients = refl; starts = refl; transition = record { transition = refl; calling = refl; state_is = refl } }

module _ {R : Type 0} (is_blank : R → Type 0) where
  pub history_in_order : (history : List (ℕ × EngineEntry R)) → IsLegalEngine is_blank engine_opening history → TurnsInOrder history
  history_in_order history legal = record {
    in_order = λ before after e.
        let r = reach is_blank [] engine_opening before after (opens R) (subst (IsLegalEngine is_blank engine_opening) e legal) in
        point_in_order (engine_past before) r.state.state r.state.clients r.state.underway r.tracks.transition;
    right = λ before after caller entry e.
        let r = reach is_blank [] engine_opening before ((caller, entry) ∷ after) (opens R) (subst (IsLegalEngine is_blank engine_opening) e legal) in
        right_call (engine_past before) r.state entry r.tracks r.legal.1;
  }
