-- What the calls tell is what the engine holds, at each point of a legal history.
use Rattle.std.proofs.Common.{◌≡◌, ℕ, suc, Bool, true, false, eqb, List, [], ◌∷◌, ◌++◌, drop, Option, Some, None, refl, ap, sym, subst, ◌∙◌, inl, inr}
use Rattle.std.specs.Prelude.{◌||◌, ◌&&◌, not, if◌then◌else◌, slice_get, fold, is_some}
use Rattle.std.specs.Option.{option_map, option_map_or}
use Rattle.std.proofs.lemmas.Bool.{eqb-true, eq-eqb}
use Rattle.std.proofs.lemmas.List.{append-nil}
use Rattle.daq_types.specs.declared.runs.RunState.{RunState}
use Rattle.daq_types.specs.declared.runs.RunState.TheVariants.{Stopped}
use Rattle.daq_types.specs.declared.runs.Transition.{Transition}
use Rattle.daq_types.specs.declared.runs.Order.{Order}
use Rattle.daq_types.specs.declared.runs.StartOutcome.{StartOutcome}
use Rattle.transitions.specs.States.{run_state_after}
use Rattle.transitions.specs.declared.client.Registered.{Registered}
use Rattle.transitions.specs.declared.called.Called.{Called}
use Rattle.transitions.specs.declared.sheet.Sheet.{Sheet}
use Rattle.transitions.specs.declared.answers.Answer.{Answer as ClientAnswer}
use Rattle.transitions.specs.declared.answers.Answer.TheVariants.{Yes, No}
use Rattle.transitions.specs.declared.answers.Tally.TheVariants.{Plain}
use Rattle.transitions.specs.declared.answers.ClientTally.{ClientTally}
use Rattle.transitions.specs.declared.engine.Refusal.{Refusal}
use Rattle.transitions.specs.declared.entry.EngineEntry.{EngineEntry}
use Rattle.transitions.specs.Called.{called_list, called_numbers}
use Rattle.transitions.specs.Engines.{Underway, EngineState}
use Rattle.transitions.specs.EngineCalls.{turn_kind, turn_of, is_start, stands_in, without, group_of, has_polled, is_next, open_of, state_with, order_for, begun, gets_blank, first_polled, told, refused_by, is_due_off, called_off, settled, answered_with, answered_by, outcome_of}
use Rattle.transitions.specs.EnginePoints.{EngineNews, Silence, Joined, Begun, GaveTurn, Answered, Ended, engine_news, Calling, uncalled, refuses, off_opened, is_among, are_among, calling_after, calling_at, clients_at, starts_at, transition_at, callable_at, refusal_at, off_at, called_at, answered_at, tallies_at, dump_at, blanks_at, completed_at, state_at, order_at, state_by, list_for, tally_of, wants_dump, wants_report, joined_after, starts_after, transition_after, callable_after, tallies_after, dump_after, blanks_after, completed_after, ended_with, order_after, answered_to_the_end}
use Rattle.transitions.proofs.Apart.{split}
use Rattle.transitions.proofs.Stands.{either, and_false, or_parts, stood, stands_push, with_stands, entry_of, among_stands, all_among}
use Rattle.transitions.proofs.Groups.{Keeps, is_refused, all_answered, not_all_answered, answered_calling, keeps_begun, keeps_polled, keeps_again, keeps_answered, keeps_settled, settled_not_due}

module _ {R : Type 0} where
  -- a transition in progress
  pub record TracksUnderway (past : List (ℕ × EngineEntry R)) (state : RunState) (clients : List Registered) (u : Underway R) : Type 0 where
    pub transition : transition_at past ≡ Some u.transition
    pub order : order_at past ≡ Some u.order
    pub callable : callable_at past ≡ clients
    pub calling : Keeps (calling_at past) clients u
    -- start-abort is begun as soon as it is due
    pub unsettled : is_due_off u.refusal u.polled u.is_off ≡ false
    pub dump : dump_at past ≡ u.dump
    pub given : (n : ℕ) → stands_in u.polled n ≡ true → wants_dump clients n ≡ true → u.dump ≡ None
    pub blanks : blanks_at past ≡ u.blanks
    pub tallies : tallies_at past ≡ u.tallies
    pub state_is : state ≡ state_with (state_by (completed_at past)) u.transition u.refusal (open_of u)

  -- none in progress
  pub record TracksNone (past : List (ℕ × EngineEntry R)) (state : RunState) : Type 0 where
    pub transition : transition_at past ≡ None
    pub calling : calling_at past ≡ uncalled
    pub state_is : state ≡ state_by (completed_at past)

  abbrev pub TracksTransition : List (ℕ × EngineEntry R) → RunState → List Registered → Option (Underway R) → Type 0
  TracksTransition past state clients None = TracksNone past state
  TracksTransition past state clients (Some u) = TracksUnderway past state clients u

  pub record Tracks (past : List (ℕ × EngineEntry R)) (s : EngineState R) : Type 0 where
    pub clients : clients_at past ≡ s.clients
    pub starts : starts_at past ≡ s.start
    pub transition : TracksTransition past s.state s.clients s.underway

-- The state.

pub state_by-push : (ts : List Transition) (t : Transition) → state_by (ts ++ t ∷ []) ≡ run_state_after (state_by ts) t
state_by-push ts t = from Stopped ts
  where
    from : (state : RunState) (ts : List Transition) → fold run_state_after state (ts ++ t ∷ []) ≡ run_state_after (fold run_state_after state ts) t
    from state [] = refl
    from state (u ∷ us) = from (run_state_after state u) us

module _ {R : Type 0} where
  abbrev pub with_state : RunState → Underway R → RunState
  with_state state u = state_with state u.transition u.refusal (open_of u)

-- without a refusal the transition ends where nobody has yet to answer
ending : (t : Transition) (r : Option Refusal) (all : Bool) (left : List Called) (base : RunState) (ts : List Transition) → base ≡ state_by ts → (r ≡ None → left ≡ [] → all ≡ true)
    → ((o : Called) (os : List Called) → left ≡ o ∷ os → all ≡ false) → state_by (ts ++ answered_to_the_end (Some t) r all) ≡ state_with base t r left
ending t (Some r) all left base ts is none some = ap state_by (append-nil ts) ∙ sym is
ending t None all [] base ts is none some =
    ap (λ (b : Bool). state_by (ts ++ (if b then t ∷ [] else []))) (none refl refl) ∙ (state_by-push ts t ∙ ap (λ (b : RunState). run_state_after b t) (sym is))
ending t None all (c ∷ cs) base ts is none some =
    ap (λ (b : Bool). state_by (ts ++ (if b then t ∷ [] else []))) (some c cs refl) ∙ (ap state_by (append-nil ts) ∙ sym is)

unrefused_none : (off : Bool) (r : Option Refusal) → r ≡ None → (not off && is_some r) ≡ false
unrefused_none off r e = ap (λ (o : Option Refusal). not off && is_some o) e ∙ and_false (not off)

module _ {R : Type 0} where
  pub called_is : (past : List (ℕ × EngineEntry R)) (state : RunState) (clients : List Registered) (u : Underway R) → TracksUnderway past state clients u → called_at past ≡ called_list (turn_of u) clients
  called_is past state clients u t =
      ap (λ (o : Option Transition). list_for (option_map (λ x. turn_kind x (off_at past)) o) (callable_at past)) t.transition
      ∙ (ap (λ (b : Bool). called_list (turn_kind u.transition b) (callable_at past)) t.calling.off ∙ ap (called_list (turn_of u)) t.callable)

  state_underway : (past : List (ℕ × EngineEntry R)) (state : RunState) (clients : List Registered) (u : Underway R) → TracksUnderway past state clients u → state_at past ≡ state
  state_underway past state clients u t =
      let all : List Called = called_list (turn_of u) clients in
      let c : Calling = calling_at past in
      let answered : Bool = are_among (called_numbers (called_at past)) c.answered in
      let answered_is : answered ≡ are_among (called_numbers all) c.answered = ap (λ (cs : List Called). are_among (called_numbers cs) c.answered) (called_is past state clients u t) in
      let none : u.refusal ≡ None → open_of u ≡ [] → answered ≡ true = λ r done.
      answered_is ∙ all_among (called_numbers all) c.answered (λ n e.
      let x = entry_of all n (sym (among_stands n all) ∙ e) in
      ap (λ (m : ℕ). is_among m c.answered) (sym x.is) ∙ all_answered all c.turned c.answered u.called u.polled (is_refused u) t.calling.stand (unrefused_none u.is_off u.refusal r) done x.one x.among) in
      let some : (o : Called) (os : List Called) → open_of u ≡ o ∷ os → answered ≡ false = λ o os left.
      answered_is ∙ not_all_answered all c.turned c.answered u.called u.polled (is_refused u) o os t.calling.stand left in
      ap (λ (o : Option Transition). state_by (completed_at past ++ answered_to_the_end o (refusal_at past) answered)) t.transition
      ∙ (ap (λ (r : Option Refusal). state_by (completed_at past ++ answered_to_the_end (Some u.transition) r answered)) t.calling.refusal
      ∙ (ending u.transition u.refusal answered (open_of u) (state_by (completed_at past)) (completed_at past) refl none some ∙ sym t.state_is))

  state_none : (past : List (ℕ × EngineEntry R)) (state : RunState) → TracksNone past state → state_at past ≡ state
  state_none past state t =
      ap (λ (o : Option Transition). state_by (completed_at past ++ answered_to_the_end o (refusal_at past) (are_among (called_numbers (called_at past)) (answered_at past)))) t.transition
      ∙ (ap state_by (append-nil (completed_at past)) ∙ sym t.state_is)

  pub state_tracks : (past : List (ℕ × EngineEntry R)) (state : RunState) (clients : List Registered) (o : Option (Underway R)) → TracksTransition past state clients o → state_at past ≡ state
  state_tracks past state clients None t = state_none past state t
  state_tracks past state clients (Some u) t = state_underway past state clients u t

  -- What an entry tells.

  record Reads (past next : List (ℕ × EngineEntry R)) (n : EngineNews R) : Type 0 where
    clients : clients_at next ≡ joined_after n (clients_at past)
    starts : starts_at next ≡ starts_after n (starts_at past)
    transition : transition_at next ≡ transition_after n (transition_at past)
    calling : calling_at next ≡ calling_after n (transition_at past) (calling_at past)
    order : order_at next ≡ order_after n (state_at past) (order_at past)
    callable : callable_at next ≡ callable_after n (clients_at past) (callable_at past)
    dump : dump_at next ≡ dump_after n (callable_at past) (dump_at past)
    blanks : blanks_at next ≡ blanks_after n (blanks_at past)
    tallies : tallies_at next ≡ tallies_after n (transition_at past) (off_at past) (tallies_at past)
    ended : completed_at next ≡ completed_after n (transition_at past) (completed_at past)

  reads : (past : List (ℕ × EngineEntry R)) (e : ℕ × EngineEntry R) (n : EngineNews R) → engine_news e.1 ≡ n → Reads past (e ∷ past) n
  reads past e n is = record {
    clients = ap (λ (m : EngineNews R). joined_after m (clients_at past)) is;
    starts = ap (λ (m : EngineNews R). starts_after m (starts_at past)) is;
    transition = ap (λ (m : EngineNews R). transition_after m (transition_at past)) is;
    calling = ap (λ (m : EngineNews R). calling_after m (transition_at past) (calling_at past)) is;
    order = ap (λ (m : EngineNews R). order_after m (state_at past) (order_at past)) is;
    callable = ap (λ (m : EngineNews R). callable_after m (clients_at past) (callable_at past)) is;
    dump = ap (λ (m : EngineNews R). dump_after m (callable_at past) (dump_at past)) is;
    blanks = ap (λ (m : EngineNews R). blanks_after m (blanks_at past)) is;
    tallies = ap (λ (m : EngineNews R). tallies_after m (transition_at past) (off_at past) (tallies_at past)) is;
    ended = ap (λ (m : EngineNews R). completed_after m (transition_at past) (completed_at past)) is;
  }

  -- An entry that tells nothing.

  keeps_from : (c d : Calling) (clients : List Registered) (u : Underway R) → d ≡ c → Keeps c clients u → Keeps d clients u
  keeps_from c d clients u is k = subst (λ (x : Calling). Keeps x clients u) (sym is) k

  underway_silent : (past next : List (ℕ × EngineEntry R)) (state : RunState) (clients : List Registered) (u : Underway R) → Reads past next Silence → TracksUnderway past state clients u → TracksUnderway next state clients u
  underway_silent past next state clients u r t = record {
    transition = r.transition ∙ t.transition;
    order = r.order ∙ t.order;
    callable = r.callable ∙ t.callable;
    calling = keeps_from (calling_at past) (calling_at next) clients u r.calling t.calling;
    unsettled = t.unsettled;
    dump = r.dump ∙ t.dump;
    given = t.given;
    blanks = r.blanks ∙ t.blanks;
    tallies = r.tallies ∙ t.tallies;
    state_is = t.state_is ∙ ap (λ (ts : List Transition). state_with (state_by ts) u.transition u.refusal (open_of u)) (sym r.ended);
  }

  transition_silent : (past next : List (ℕ × EngineEntry R)) (state : RunState) (clients : List Registered) (o : Option (Underway R)) → Reads past next Silence → TracksTransition past state clients o → TracksTransition next state clients o
  transition_silent past next state clients None r t = record {
    transition = r.transition ∙ t.transition;
    calling = r.calling ∙ t.calling;
    state_is = t.state_is ∙ ap state_by (sym r.ended);
  }
  transition_silent past next state clients (Some u) r t = underway_silent past next state clients u r t

  pub tracks_silent : (past : List (ℕ × EngineEntry R)) (s : EngineState R) (e : ℕ × EngineEntry R) → engine_news e.1 ≡ Silence → Tracks past s → Tracks (e ∷ past) s
  tracks_silent past s e is t =
      let r = reads past e Silence is in
      record {
        clients = r.clients ∙ t.clients;
        starts = r.starts ∙ t.starts;
        transition = transition_silent past (e ∷ past) s.state s.clients s.underway r t.transition;
      }

  -- A registration.

  pub none_joined : (past : List (ℕ × EngineEntry R)) (e : ℕ × EngineEntry R) (state : RunState) (c : Registered) → engine_news e.1 ≡ Joined c → TracksNone past state → TracksNone (e ∷ past) state
  none_joined past e state c is t =
      let r = reads past e (Joined c) is in
      record {
        transition = r.transition ∙ t.transition;
        calling = r.calling ∙ t.calling;
        state_is = t.state_is ∙ ap state_by (sym r.ended);
      }

  pub clients_joined : (past : List (ℕ × EngineEntry R)) (e : ℕ × EngineEntry R) (c : Registered) → engine_news e.1 ≡ Joined c → clients_at (e ∷ past) ≡ clients_at past ++ c ∷ []
  clients_joined past e c is = (reads past e (Joined c) is).clients

  -- Entries that change neither the clients nor the number of starts.

  pub clients_kept : (past : List (ℕ × EngineEntry R)) (e : ℕ × EngineEntry R) (n : EngineNews R) → engine_news e.1 ≡ n → joined_after n (clients_at past) ≡ clients_at past → clients_at (e ∷ past) ≡ clients_at past
  clients_kept past e n is same = (reads past e n is).clients ∙ same

  pub starts_kept : (past : List (ℕ × EngineEntry R)) (e : ℕ × EngineEntry R) (n : EngineNews R) → engine_news e.1 ≡ n → starts_after n (starts_at past) ≡ starts_at past → starts_at (e ∷ past) ≡ starts_at past
  starts_kept past e n is same = (reads past e n is).starts ∙ same

  -- The begin of a transition.

  pub underway_begun : (past : List (ℕ × EngineEntry R)) (e : ℕ × EngineEntry R) (s : EngineState R) (t : Transition) (sheet : Sheet R) (n : ℕ)
      → engine_news e.1 ≡ Begun t sheet n → clients_at past ≡ s.clients → TracksNone past s.state
      → TracksUnderway (e ∷ past) (state_with s.state t None (called_list t s.clients)) s.clients (begun s t sheet n)
  underway_begun past e s t sheet n is clients none =
      let r = reads past e (Begun t sheet n) is in
      record {
        transition = r.transition;
        order = r.order ∙ ap (λ (state : RunState). Some (order_for sheet n state)) (state_none past s.state none);
        callable = r.callable ∙ clients;
        calling = keeps_from uncalled (calling_at (e ∷ past)) s.clients (begun s t sheet n) r.calling (keeps_begun s t sheet n);
        unsettled = refl;
        dump = r.dump;
        given = λ m polled. absurd cc;
        blanks = r.blanks;
        tallies = r.tallies;
        state_is = ap (λ (base : RunState). state_with base t None (called_list t s.clients)) (none.state_is ∙ ap state_by (sym r.ended));
      }

  pub starts_begun : (past : List (ℕ × EngineEntry R)) (e : ℕ × EngineEntry R) (t : Transition) (sheet : Sheet R) (n : ℕ) → engine_news e.1 ≡ Begun t sheet n → starts_at (e ∷ past) ≡ (if is_start t then suc (starts_at past) else starts_at past)
  starts_begun past e t sheet n is = (reads past e (Begun t sheet n) is).starts

-- A poll that gives a turn.

pub dump_wish : (clients : List Registered) (client : ℕ) (c : Registered) → slice_get clients client ≡ Some c → wants_dump clients client ≡ c.wants_dump
dump_wish clients client c is = ap (λ (o : Option Registered). option_map_or (λ (x : Registered). x.wants_dump) o false) is

pub report_wish : (clients : List Registered) (client : ℕ) (c : Registered) → slice_get clients client ≡ Some c → wants_report clients client ≡ c.wants_report
report_wish clients client c is = ap (λ (o : Option Registered). option_map_or (λ (x : Registered). x.wants_report) o false) is

-- where somebody has polled, start-abort is not due
pub pushed_not_due : (r : Option Refusal) (ps : List Called) (p : Called) (off : Bool) → is_due_off r (ps ++ p ∷ []) off ≡ false
pushed_not_due None ps p off = refl
pushed_not_due (Some r) [] p off = refl
pushed_not_due (Some r) (q ∷ qs) p off = refl

module _ {R : Type 0} where
  -- the blank reports behind a first turn
  blanks_next : (client : ℕ) (due : Bool) (blanks : List R) → blanks_after (GaveTurn client (if due then slice_get blanks 0 else None)) blanks ≡ (if due then drop 1 blanks else blanks)
  blanks_next client false blanks = refl
  blanks_next client true [] = refl
  blanks_next client true (b ∷ bs) = refl

-- while somebody has yet to answer, the state is that before the transition
state_open : (state : RunState) (t : Transition) (r : Option Refusal) (n : ℕ) (polled called : List Called) → (stands_in polled n || stands_in called n) ≡ true → state_with state t r (polled ++ called) ≡ state
state_open state t (Some r) n polled called e = refl
state_open state t None n (p ∷ ps) called e = refl
state_open state t None n [] (c ∷ cs) e = refl
state_open state t None n [] [] e = absurd cc

module _ {R : Type 0} where
  given_more : (clients : List Registered) (u : Underway R) (client : ℕ) (c : Registered) → ((n : ℕ) → stands_in u.polled n ≡ true → wants_dump clients n ≡ true → u.dump ≡ None) → wants_dump clients client ≡ c.wants_dump
      → (n : ℕ) → stands_in (first_polled client c u).polled n ≡ true → wants_dump clients n ≡ true → (if c.wants_dump then None else u.dump) ≡ None
  given_more clients u client c given wish n polled wants =
      elim (or_parts (stands_in u.polled n) (eqb client n) (sym (stands_push n u.polled (record { client = client; sequence = group_of u.polled u.called })) ∙ polled)) [
        | inl old ↦ split c.wants_dump (λ b. (if b then None else u.dump) ≡ None) (λ h. refl) (λ h. given n old wants)
        | inr same ↦ ap (λ (b : Bool). if b then None else u.dump) (sym wish ∙ (ap (wants_dump clients) (eqb-true client n same) ∙ wants))
      ]

  pub underway_first : (past : List (ℕ × EngineEntry R)) (e : ℕ × EngineEntry R) (state : RunState) (clients : List Registered) (u : Underway R) (client : ℕ) (c : Registered) (blank : Option R)
      → engine_news e.1 ≡ GaveTurn client blank → TracksUnderway past state clients u → slice_get clients client ≡ Some c → is_next u.polled u.called client ≡ true
      → blank ≡ (if gets_blank c u then slice_get u.blanks 0 else None) → TracksUnderway (e ∷ past) state clients (first_polled client c u)
  underway_first past e state clients u client c blank news t is next blank_is =
      let r = reads past e (GaveTurn client blank) news in
      let wish : wants_dump clients client ≡ c.wants_dump = dump_wish clients client c is in
      let stands : stands_in u.called client ≡ true = with_stands (group_of u.polled u.called) u.called client next in
      let one : Called = record { client = client; sequence = group_of u.polled u.called } in
      let base : state ≡ state_by (completed_at past) =
      t.state_is ∙ state_open (state_by (completed_at past)) u.transition u.refusal client u.polled u.called (ap (λ (b : Bool). stands_in u.polled client || b) stands ∙ either (stands_in u.polled client)) in
      let here : stands_in (u.polled ++ one ∷ []) client ≡ true = stands_push client u.polled one ∙ (ap (λ (b : Bool). stands_in u.polled client || b) (eq-eqb client client refl) ∙ either (stands_in u.polled client)) in
      record {
        transition = r.transition ∙ t.transition;
        order = r.order ∙ t.order;
        callable = r.callable ∙ t.callable;
        calling = keeps_from (calling_after (GaveTurn client blank) (transition_at past) (calling_at past)) (calling_at (e ∷ past)) clients (first_polled client c u) r.calling
            (keeps_polled (calling_at past) clients u client c blank (transition_at past) t.calling next);
        unsettled = pushed_not_due u.refusal u.polled one u.is_off;
        dump = r.dump ∙ (ap (λ (b : Bool). if b then None else dump_at past) (ap (λ (cs : List Registered). wants_dump cs client) t.callable ∙ wish)
            ∙ ap (λ (d : Option (List ℕ)). if c.wants_dump then None else d) t.dump);
        given = given_more clients u client c t.given wish;
        blanks = r.blanks ∙ (ap (blanks_after (GaveTurn client blank)) t.blanks
            ∙ (ap (λ (o : Option R). blanks_after (GaveTurn client o) u.blanks) blank_is ∙ blanks_next client (gets_blank c u) u.blanks));
        tallies = r.tallies ∙ t.tallies;
        state_is = base ∙ (ap state_by (sym r.ended)
            ∙ sym (state_open (state_by (completed_at (e ∷ past))) u.transition u.refusal client (u.polled ++ one ∷ []) (without client u.called) (ap (λ (b : Bool). b || stands_in (without client u.called) client) here)));
      }

-- A further poll of the turn.

no_dump_left : (wants : Bool) (dump : Option (List ℕ)) → (wants ≡ true → dump ≡ None) → (if wants then None else dump) ≡ dump
no_dump_left false dump given = refl
no_dump_left true dump given = sym (given refl)

module _ {R : Type 0} where
  pub underway_again : (past : List (ℕ × EngineEntry R)) (e : ℕ × EngineEntry R) (state : RunState) (clients : List Registered) (u : Underway R) (client : ℕ)
      → engine_news e.1 ≡ GaveTurn client None → TracksUnderway past state clients u → has_polled u client ≡ true → TracksUnderway (e ∷ past) state clients u
  underway_again past e state clients u client news t polled =
      let r = reads past e (GaveTurn client None) news in
      record {
        transition = r.transition ∙ t.transition;
        order = r.order ∙ t.order;
        callable = r.callable ∙ t.callable;
        calling = keeps_from (calling_after {R = R} (GaveTurn client None) (transition_at past) (calling_at past)) (calling_at (e ∷ past)) clients u r.calling
            (keeps_again (calling_at past) clients u client None (transition_at past) t.calling polled);
        unsettled = t.unsettled;
        dump = r.dump ∙ (ap (λ (cs : List Registered). if wants_dump cs client then None else dump_at past) t.callable
            ∙ (ap (λ (d : Option (List ℕ)). if wants_dump clients client then None else d) t.dump ∙ no_dump_left (wants_dump clients client) u.dump (t.given client polled)));
        given = t.given;
        blanks = r.blanks ∙ t.blanks;
        tallies = r.tallies ∙ t.tallies;
        state_is = t.state_is ∙ ap (λ (ts : List Transition). state_with (state_by ts) u.transition u.refusal (open_of u)) (sym r.ended);
      }

  -- An answer.

  -- what an answer leaves as it was
  record IsAlike (u v : Underway R) : Type 0 where
    transition : v.transition ≡ u.transition
    order : v.order ≡ u.order
    dump : v.dump ≡ u.dump
    blanks : v.blanks ≡ u.blanks
    polled : (n : ℕ) → stands_in v.polled n ≡ true → stands_in u.polled n ≡ true

  alike_with : (client : ℕ) (answer : ClientAnswer R) (u : Underway R) → IsAlike u (answered_with client answer u)
  alike_with client (Yes tally) u = record { transition = refl; order = refl; dump = refl; blanks = refl; polled = λ n e. (stood n client u.polled e).1 }
  alike_with client (No why) u =
      split (is_start (turn_of u)) (λ b. IsAlike u (if b then refused_by client why u else told client Plain u))
      (λ h. record { transition = refl; order = refl; dump = refl; blanks = refl; polled = λ n e. (stood n client u.polled e).1 })
      (λ h. record { transition = refl; order = refl; dump = refl; blanks = refl; polled = λ n e. (stood n client u.polled e).1 })

  alike_settled : (clients : List Registered) (u v : Underway R) → IsAlike u v → IsAlike u (settled clients v)
  alike_settled clients u v a =
      split (is_due_off v.refusal v.polled v.is_off) (λ b. IsAlike u (if b then called_off clients v else v))
      (λ h. record { transition = a.transition; order = a.order; dump = a.dump; blanks = a.blanks; polled = a.polled }) (λ h. a)

  settled_tallies : (clients : List Registered) (v : Underway R) → (settled clients v).tallies ≡ v.tallies
  settled_tallies clients v =
      split (is_due_off v.refusal v.polled v.is_off) (λ b. (if b then called_off clients v else v).tallies ≡ v.tallies) (λ h. refl) (λ h. refl)

  -- a No to a start has no tally
  tallies_with : (client : ℕ) (answer : ClientAnswer R) (u : Underway R)
      → (if refuses answer (Some u.transition) u.is_off then u.tallies else u.tallies ++ record { client = client; tally = tally_of answer } ∷ []) ≡ (answered_with client answer u).tallies
  tallies_with client (Yes tally) u = refl
  tallies_with client (No why) u =
      split (is_start (turn_of u))
      (λ b. (if b then u.tallies else u.tallies ++ record { client = client; tally = Plain } ∷ []) ≡ (if b then refused_by client why u else told client Plain u).tallies)
      (λ h. refl) (λ h. refl)

  pub underway_answered : (past : List (ℕ × EngineEntry R)) (e : ℕ × EngineEntry R) (state : RunState) (clients : List Registered) (u : Underway R) (client : ℕ) (answer : ClientAnswer R)
      → engine_news e.1 ≡ Answered client answer → TracksUnderway past state clients u → has_polled u client ≡ true
      → TracksUnderway (e ∷ past) (with_state state (answered_by clients client answer u)) clients (answered_by clients client answer u)
  underway_answered past e state clients u client answer news t polled =
      let r = reads past e (Answered client answer) news in
      let v : (Underway R) = answered_by clients client answer u in
      let a : IsAlike u v = alike_settled clients u (answered_with client answer u) (alike_with client answer u) in
      let base : state ≡ state_by (completed_at past) =
      t.state_is ∙ state_open (state_by (completed_at past)) u.transition u.refusal client u.polled u.called (ap (λ (b : Bool). b || stands_in u.called client) polled) in
      let calling : calling_at (e ∷ past) ≡ off_opened (answered_calling client answer (Some u.transition) (calling_at past)) =
      r.calling ∙ ap (λ (o : Option Transition). off_opened (answered_calling client answer o (calling_at past))) t.transition in
      record {
        transition = r.transition ∙ (t.transition ∙ ap (λ (x : Transition). Some x) (sym a.transition));
        order = r.order ∙ (t.order ∙ ap (λ (x : Order). Some x) (sym a.order));
        callable = r.callable ∙ t.callable;
        calling = keeps_from (off_opened (answered_calling client answer (Some u.transition) (calling_at past))) (calling_at (e ∷ past)) clients v calling
            (keeps_settled (answered_calling client answer (Some u.transition) (calling_at past)) clients (answered_with client answer u) (keeps_answered (calling_at past) clients u client answer t.calling polled));
        unsettled = settled_not_due clients (answered_with client answer u);
        dump = r.dump ∙ (t.dump ∙ sym a.dump);
        given = λ n h wants. a.dump ∙ t.given n (a.polled n h) wants;
        blanks = r.blanks ∙ (t.blanks ∙ sym a.blanks);
        tallies = r.tallies ∙ (ap (λ (o : Option Transition). tallies_told o (off_at past) (tallies_at past)) t.transition
            ∙ (ap (λ (b : Bool). tallies_told (Some u.transition) b (tallies_at past)) t.calling.off
            ∙ (ap (tallies_told (Some u.transition) u.is_off) t.tallies ∙ (tallies_with client answer u ∙ sym (settled_tallies clients (answered_with client answer u))))));
        state_is = ap (λ (b : RunState). with_state b v) (base ∙ ap state_by (sym r.ended));
      }
    where
      tallies_told : Option Transition → Bool → List (ClientTally R) → List (ClientTally R)
      tallies_told o off before = if refuses answer o off then before else before ++ record { client = client; tally = tally_of answer } ∷ []

-- The end.

ended_state : (t : Transition) (r : Option Refusal) (ts : List Transition) → state_with (state_by ts) t r [] ≡ state_by (ended_with (outcome_of r) (Some t) ts)
ended_state t None ts = sym (state_by-push ts t)
ended_state t (Some r) ts = refl

module _ {R : Type 0} where
  pub none_ended : (past : List (ℕ × EngineEntry R)) (e : ℕ × EngineEntry R) (state : RunState) (clients : List Registered) (u : Underway R) (outcome : StartOutcome)
      → engine_news e.1 ≡ Ended outcome → TracksUnderway past state clients u → open_of u ≡ [] → outcome ≡ outcome_of u.refusal → TracksNone (e ∷ past) state
  none_ended past e state clients u outcome news t done outcome_is =
      let r = reads past e (Ended outcome) news in
      record {
        transition = r.transition;
        calling = r.calling;
        state_is = t.state_is ∙ (ap (state_with (state_by (completed_at past)) u.transition u.refusal) done ∙ (ended_state u.transition u.refusal (completed_at past)
            ∙ ap state_by (sym (r.ended ∙ (ap (λ (o : StartOutcome). ended_with o (transition_at past) (completed_at past)) outcome_is
            ∙ ap (λ (o : Option Transition). ended_with (outcome_of u.refusal) o (completed_at past)) t.transition)))));
      }
