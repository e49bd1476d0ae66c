-- The turns of a session's member in a run.
use Rattle.std.specs.Prelude.{◌≡◌, ℕ, ◌<◌, true, List, [], ◌∷◌, ◌++◌, slice_get, Some, Ok, Err, ◌⊎◌}
use Rattle.std.specs.List.{AllByRecursion}
use Rattle.std.proofs.Common.{ap, sym, ◌∙◌, subst, arith, inl, inr}
use Rattle.std.proofs.lemmas.Bool.{eqb-true}
use Rattle.daq_types.specs.Callers.{caller_of_client}
use Rattle.daq_types.specs.declared.runs.Order.{Order}
use Rattle.daq_types.specs.declared.runs.RunState.{RunState}
use Rattle.daq_types.specs.declared.runs.RunState.TheVariants.{Stopped}
use Rattle.daq_types.specs.declared.runs.StartOutcome.TheVariants.{Completed}
use Rattle.daq_types.specs.declared.runs.Transition.{Transition}
use Rattle.daq_types.specs.declared.runs.Transition.TheVariants.{Start, Stop, StartAbort}
use Rattle.transitions.specs.declared.replies.Polled.TheVariants.{Turn, Idle, Closed as PollClosed, NoClient}
use Rattle.transitions.specs.declared.replies.Progress.TheVariants.{Done}
use Rattle.transitions.specs.declared.entry.EngineEntry.TheVariants.{Register, Begin, Poll, Answer, Check, Close}
use Rattle.transitions.specs.Engines.{engine_opening}
use Rattle.transitions.specs.EngineCalls.{order_for}
use Rattle.transitions.specs.EnginePoints.{engine_past, state_at}
use Rattle.transitions.specs.GivenTurns.{is_of_client, SpeaksFor}
use Rattle.member_model.specs.RunEngines.{Sheet, Tally, EngineEntry, EngineHistory, IsLegalEngine}
use Rattle.member_model.specs.Turns.{MemberTurn, HasTurn, HasTurnOf, IsNewStart, IsNextTurn, AreEngineTurns}
use Rattle.history_laws.specs.BegunTurns.{IsOfBegin, WasBegun, HasTally, IsTallyOfTurn}
use Rattle.history_laws.specs.EngineLaws.{GivesEngineTurns, TurnsWereBegun, StartsFromStopped, TalliesAreAnswers, CalledAreTold}
use Rattle.composition.specs.Sessions.{Session, NamesOwnClient, turns_of, IsRegistered, MembersKeep}
use Rattle.composition.specs.SessionRuns.{SessionRun, IsStoppedRun, run_order}

-- each number begins once
abbrev pub StartsRise : Type 0
StartsRise = (before between after : EngineHistory) → (caller other : ℕ) → (sheet more : Sheet) → (n m : ℕ) →
    IsLegalEngine engine_opening (before ++ (caller, Begin Start sheet (Ok n)) ∷ (between ++ (other, Begin Start more (Ok m)) ∷ after)) → n < m

-- what the laws of engines say
pub record EngineFacts : Type 0 where
  pub gives : GivesEngineTurns
  pub begun : TurnsWereBegun
  pub from : StartsFromStopped
  pub tallies : TalliesAreAnswers
  pub told : CalledAreTold
  pub rise : StartsRise

-- Who speaks for a client.

speaks_one : (c : ℕ) (x : ℕ × EngineEntry) → NamesOwnClient x → is_of_client c x.1 ≡ true → x.0 ≡ caller_of_client c
speaks_one c (by, Register name sequences dump report reply) own is = absurd (cc (is))
speaks_one c (by, Begin t sheet reply) own is = absurd (cc (is))
speaks_one c (by, Poll client (Turn turn order dump blank)) own is = own ∙ ap caller_of_client (eqb-true client c is)
speaks_one c (by, Poll client (Idle state)) own is = absurd (cc (is))
speaks_one c (by, Poll client PollClosed) own is = absurd (cc (is))
speaks_one c (by, Poll client NoClient) own is = absurd (cc (is))
speaks_one c (by, Answer client answer (Ok done)) own is = own ∙ ap caller_of_client (eqb-true client c is)
speaks_one c (by, Answer client answer (Err r)) own is = absurd (cc (is))
speaks_one c (by, Check reply tallies) own is = absurd (cc (is))
speaks_one c (by, Close reply) own is = absurd (cc (is))

pub speaks : (c : ℕ) (h : EngineHistory) → AllByRecursion NamesOwnClient h → SpeaksFor (caller_of_client c) c h
speaks c [] all = tt
speaks c (x ∷ h) all = (speaks_one c x all.0, speaks c h all.1)

pub are_turns : EngineFacts → (s : Session) → MembersKeep s → (client : ℕ) → AreEngineTurns (turns_of s client)
are_turns laws s keep client = laws.gives (caller_of_client client) client s.engine keep.engine_legal (speaks client s.engine keep.own_clients)

-- A start number begins once.

pub data TwoPlaces {X : Type 0} (x v : X) (ys vs : List X) : Type 0 where
  Same : x ≡ v → TwoPlaces x v ys vs
  Later : (m : List X) → ys ≡ m ++ v ∷ vs → TwoPlaces x v ys vs
  Earlier : (m : List X) → vs ≡ m ++ x ∷ ys → TwoPlaces x v ys vs

two_places : {X : Type 0} (xs us ys vs : List X) (x v : X) → xs ++ x ∷ ys ≡ us ++ v ∷ vs → TwoPlaces x v ys vs
two_places [] [] ys vs x v e = Same (cc (e))
two_places [] (u ∷ us) ys vs x v e = Later us (cc (e))
two_places (y ∷ xs) [] ys vs x v e = Earlier xs (let same : xs ++ x ∷ ys ≡ vs = cc (e) in sym same)
two_places (y ∷ xs) (u ∷ us) ys vs x v e = two_places xs us ys vs x v (cc (e))

pub one_begin : StartsRise → (h : EngineHistory) → IsLegalEngine engine_opening h → (n : ℕ) (b1 a1 : EngineHistory) (c1 : ℕ) (sheet : Sheet) → h ≡ b1 ++ (c1, Begin Start sheet (Ok n)) ∷ a1
    → (b2 a2 : EngineHistory) (c2 : ℕ) (other : Sheet) → h ≡ b2 ++ (c2, Begin Start other (Ok n)) ∷ a2 → sheet ≡ other
one_begin rise h legal n b1 a1 c1 sheet w1 b2 a2 c2 other w2 = by_place (two_places b1 b2 a1 a2 (c1, Begin Start sheet (Ok n)) (c2, Begin Start other (Ok n)) (sym w1 ∙ w2))
  where
    by_place : TwoPlaces (c1, Begin Start sheet (Ok n)) (c2, Begin Start other (Ok n)) a1 a2 → sheet ≡ other
    by_place (Same e) = let entries : Begin Start sheet (Ok n) ≡ Begin Start other (Ok n) = ap (λ (x : ℕ × EngineEntry). x.1) e in cc (entries)
    by_place (Later m e) =
        absurd (omega (arith, rise b1 m a2 c1 c2 sheet other n n (subst (IsLegalEngine engine_opening) (w1 ∙ ap (λ (l : EngineHistory). b1 ++ (c1, Begin Start sheet (Ok n)) ∷ l) e) legal)))
    by_place (Earlier m e) =
        absurd (omega (arith, rise b2 m a1 c2 c1 other sheet n n (subst (IsLegalEngine engine_opening) (w2 ∙ ap (λ (l : EngineHistory). b2 ++ (c2, Begin Start other (Ok n)) ∷ l) e) legal)))

-- The start turn of a run.

start_begun : (t : Transition) (u : MemberTurn) → (u.transition ≡ t) ⊎ ((t ≡ Start) × (u.transition ≡ StartAbort)) → u.transition ≡ Start → t ≡ Start
start_begun t u (inl same) starts = sym same ∙ starts
start_begun t u (inr off) starts = off.0

pub record IsStartTurn (r : SessionRun) (u : MemberTurn) : Type 0 where
  pub order : u.order ≡ run_order r
  pub dump : (bytes : List ℕ) → u.dump ≡ Some bytes → r.first.dump ≡ Some bytes

pub start_turn : EngineFacts → (s : Session) → MembersKeep s → (r : SessionRun) → IsStoppedRun s r → (client : ℕ) (u : MemberTurn) → HasTurnOf (turns_of s client) Start r.start u → IsStartTurn r u
start_turn laws s keep r run client u of =
    let alone : SpeaksFor (caller_of_client client) client s.engine = speaks client s.engine keep.own_clients in
    let was : WasBegun s.engine u = laws.begun (caller_of_client client) client s.engine keep.engine_legal alone u of.stands in
    let transition : was.transition ≡ Start = start_begun was.transition u was.of_begin.kind of.is in
    let stands : s.engine ≡ was.earlier ++ (was.caller, Begin Start was.sheet (Ok r.start)) ∷ was.later =
    was.stands
    ∙ (ap (λ (t : Transition). was.earlier ++ (was.caller, Begin t was.sheet (Ok u.order.start)) ∷ was.later) transition
    ∙ ap (λ (n : ℕ). was.earlier ++ (was.caller, Begin Start was.sheet (Ok n)) ∷ was.later) of.of) in
    let came : RunState = state_at (engine_past was.earlier) in
    let stopped : came ≡ Stopped = sym (ap (λ (o : Order). o.from) was.of_begin.order) ∙ laws.from (caller_of_client client) client s.engine keep.engine_legal alone u of.stands of.is in
    let sheet : was.sheet ≡ r.first = one_begin laws.rise s.engine keep.engine_legal r.start was.earlier was.later was.caller was.sheet stands run.started.earlier
    (run.started.between ++ (run.started.closer, Check (Done Completed) r.first_tallies) ∷ run.started.later) run.started.opener r.first run.started.whole in
    record {
      order = was.of_begin.order
          ∙ (ap (λ (x : Sheet). order_for x u.order.start came) sheet
          ∙ (ap (λ (n : ℕ). order_for r.first n came) of.of
          ∙ ap (order_for r.first r.start) stopped));
      dump = λ bytes e. ap (λ (x : Sheet). x.dump) (sym sheet) ∙ was.of_begin.dump bytes e;
    }

-- one start turn has the number

new_start : (t : MemberTurn) (ts : List MemberTurn) → AreEngineTurns (t ∷ ts) → t.transition ≡ Start → IsNewStart t.order.start ts
new_start t ts are starts = subst (λ (k : Transition). IsNextTurn k t.order.start ts) starts are.0

one_of : (t : MemberTurn) (ts : List MemberTurn) (n : ℕ) (a b : MemberTurn) → AreEngineTurns (t ∷ ts) → HasTurnOf (t ∷ ts) Start n a → HasTurnOf (t ∷ ts) Start n b → (HasTurnOf ts Start n a → HasTurnOf ts Start n b → a ≡ b)
    → (t ≡ a) ⊎ HasTurn ts a → (t ≡ b) ⊎ HasTurn ts b → a ≡ b
one_of t ts n a b are ha hb later (inl x) (inl y) = sym x ∙ y
one_of t ts n a b are ha hb later (inl x) (inr y) = absurd ((new_start t ts are (ap (λ (v : MemberTurn). v.transition) x ∙ ha.is)).1 b y (hb.of ∙ sym (ap (λ (v : MemberTurn). v.order.start) x ∙ ha.of)))
one_of t ts n a b are ha hb later (inr x) (inl y) = absurd ((new_start t ts are (ap (λ (v : MemberTurn). v.transition) y ∙ hb.is)).1 a x (ha.of ∙ sym (ap (λ (v : MemberTurn). v.order.start) y ∙ hb.of)))
one_of t ts n a b are ha hb later (inr x) (inr y) = later (record { stands = x; is = ha.is; of = ha.of }) (record { stands = y; is = hb.is; of = hb.of })

pub one_start : (ts : List MemberTurn) (n : ℕ) (a b : MemberTurn) → AreEngineTurns ts → HasTurnOf ts Start n a → HasTurnOf ts Start n b → a ≡ b
one_start [] n a b are ha hb = absurd ha.stands
one_start (t ∷ ts) n a b are ha hb = one_of t ts n a b are ha hb (λ ha' hb'. one_start ts n a b are.1 ha' hb') ha.stands hb.stands

-- The turns behind tallies.

abbrev pub StartTally : (s : Session) (r : SessionRun) → IsStoppedRun s r → (client : ℕ) → Tally → Type 0
StartTally s r run client tally = IsTallyOfTurn s.engine client (turns_of s client) (state_at (engine_past run.started.earlier)) Start r.first r.start Completed tally

abbrev pub StopTally : (s : Session) (r : SessionRun) → IsStoppedRun s r → (client : ℕ) → Tally → Type 0
StopTally s r run client tally = IsTallyOfTurn s.engine client (turns_of s client) (state_at (engine_past run.stopped.earlier)) Stop r.last r.start Completed tally

pub number_of : {came : RunState} (t : Transition) (sheet : Sheet) (start : ℕ) (u : MemberTurn) → IsOfBegin came t sheet start u → u.order.start ≡ start
number_of {came} t sheet start u is = ap (λ (o : Order). o.start) is.order

pub stop_tally : EngineFacts → (s : Session) → MembersKeep s → (r : SessionRun) → (run : IsStoppedRun s r) → (client index : ℕ) (tally : Tally) → slice_get r.last_tallies index ≡ Some (record { client = client; tally = tally }) → StopTally s r run client tally
stop_tally laws s keep r run client index tally at =
    laws.tallies (caller_of_client client) client s.engine keep.engine_legal (speaks client s.engine keep.own_clients) Stop r.last r.start Completed r.last_tallies run.stopped index tally at

-- the client's tally of the start, where it was registered
pub record HasStartTally (s : Session) (r : SessionRun) (run : IsStoppedRun s r) (client : ℕ) : Type 0 where
  pub tally : Tally
  pub told : StartTally s r run client tally

pub start_tally : EngineFacts → (s : Session) → MembersKeep s → (r : SessionRun) → (run : IsStoppedRun s r) → (client : ℕ) → IsRegistered s client Start → HasStartTally s r run client
start_tally laws s keep r run client registered =
    let rest : EngineHistory = run.started.between ++ (run.started.closer, Check (Done Completed) r.first_tallies) ∷ run.started.later in
    let has : HasTally client r.first_tallies =
    laws.told client s.engine keep.engine_legal Start r.first r.start r.first_tallies run.started (registered run.started.earlier rest run.started.opener Start r.first r.start run.started.whole) in
    record {
      tally = has.1;
      told = laws.tallies (caller_of_client client) client s.engine keep.engine_legal (speaks client s.engine keep.own_clients) Start r.first r.start Completed r.first_tallies run.started has.0 has.1 has.2;
    }

pub last_tally : EngineFacts → (s : Session) → MembersKeep s → (r : SessionRun) → IsStoppedRun s r → (client : ℕ) → IsRegistered s client Stop → HasTally client r.last_tallies
last_tally laws s keep r run client registered =
    let rest : EngineHistory = run.stopped.between ++ (run.stopped.closer, Check (Done Completed) r.last_tallies) ∷ run.stopped.later in
    laws.told client s.engine keep.engine_legal Stop r.last r.start r.last_tallies run.stopped (registered run.stopped.earlier rest run.stopped.opener Stop r.last r.start run.stopped.whole)
