-- The replies that the main thread can tell before, and a transition that it makes.
use Rattle.std.specs.Prelude.{◌≡◌, ℕ, zero, suc, ◌+◌, ◌≤◌, ◌<◌, Bool, false, if◌then◌else◌, List, [], ◌∷◌, ◌++◌, length, map, take, get_or, Option, Some, None, Result, Ok, Err, refl, ⊤}
use Rattle.std.proofs.Common.{ap, sym, subst, ◌∙◌, arith, append_assoc, append-nil}
use Rattle.std.proofs.lemmas.Bool.{lt-ltb}
use Rattle.daq_types.specs.declared.runs.RunState.{RunState}
use Rattle.daq_types.specs.declared.runs.Transition.{Transition}
use Rattle.daq_types.specs.declared.runs.StartOutcome.{StartOutcome}
use Rattle.event_report.specs.Reports.{Totals}
use Rattle.transitions.specs.declared.sequences.Sequences.{Sequences}
use Rattle.transitions.specs.declared.client.Registered.{Registered}
use Rattle.transitions.specs.declared.called.Called.{Called}
use Rattle.transitions.specs.declared.engine.Refusal.{Refusal}
use Rattle.transitions.specs.declared.replies.BeginRefusal.{BeginRefusal}
use Rattle.transitions.specs.declared.replies.RegisterRefusal.{RegisterRefusal}
use Rattle.transitions.specs.declared.replies.RegisterRefusal.TheVariants.{Closed as RegisterClosed, NoSlot}
use Rattle.transitions.specs.declared.replies.InProgress.{InProgress}
use Rattle.transitions.specs.declared.replies.Progress.{Progress}
use Rattle.transitions.specs.declared.replies.Progress.TheVariants.{Going, Done, None as NoneGoing}
use Rattle.transitions.specs.declared.entry.EngineEntry.TheVariants.{Register, Begin, Check, Close}
use Rattle.transitions.specs.Limits.{most_clients}
use Rattle.transitions.specs.EnginePoints.{engine_past}
use Rattle.std.proofs.lemmas.List.{length-append, length-take-le, take_more}
use Rattle.transitions.specs.EngineCalls.{open_of, register_reply_in, close_reply_in, progress_of, check_reply_in, tallies_in}
use Rattle.session_runs.specs.declared.opening.MemberName.{MemberName}
use Rattle.session_runs.specs.Members.{gets_dumps, gets_reports, registration, registrations}
use Rattle.transitions.specs.Sequences.{sequences_of}
use Rattle.member_model.specs.RunEngines.{Sheet, ClientTally, EngineEntry, Underway, EngineState}
use Rattle.session_runs.specs.MainKnowledge.{MainKnows, state_behind, known_at, known_from, known_behind, entry_of_main, begin_known}
use Rattle.session_runs.proofs.KnownSteps.{KnowsTransition, begin_same}
use Rattle.session_runs.proofs.KnownCalls.{AtCall, known_more}
use Rattle.session_runs.specs.MadeTransitions.{going_checks, done_check, WaitsForEnd, DrivesTransition}
use Rattle.member_crew.specs.Rounds.{HadRounds}

-- Replies.

none_held : (going : Option Transition) (before state : RunState) (u : Option Underway) → KnowsTransition going before state u → going ≡ None → u ≡ None
none_held going before state None knows is = refl
none_held going before state (Some u) knows is = absurd (cc (is, knows.0))

pub begun_so : (own : List EngineEntry) (t : Transition) (sheet : Sheet) (reply : Result ℕ BeginRefusal) → AtCall own (Begin t sheet reply) → begin_known (known_from own) t ≡ reply
begun_so own t sheet reply at = sym (at.reply ∙ begin_same (known_from own) at.engine t at.knows)

pub closes : (own : List EngineEntry) (reply : Result ⊤ InProgress) → AtCall own (Close reply) → (known_from own).going ≡ None → reply ≡ Ok tt
closes own reply at none =
    at.reply ∙ ap close_reply_in (none_held (known_from own).going (known_from own).state at.engine.state at.engine.underway at.knows.transition none)

room_reply : (count : ℕ) → count + 1 ≤ most_clients → register_reply_in {R = Totals} None count ≡ Ok count
room_reply count room = ap (λ (b : Bool). if b then Ok count else Err NoSlot) (lt-ltb count most_clients (omega (arith, room)))

pub registers : (own : List EngineEntry) (name : List ℕ) (sequences : Sequences) (dump report : Bool) (reply : Result ℕ RegisterRefusal) → AtCall own (Register name sequences dump report reply)
    → (known_from own).closed ≡ false → (known_from own).going ≡ None → length (known_from own).clients + 1 ≤ most_clients → reply ≡ Ok (length (known_from own).clients)
registers own name sequences dump report reply at open_yet none room =
    let s : EngineState = at.engine in
    let free : s.underway ≡ None = none_held (known_from own).going (known_from own).state s.state s.underway at.knows.transition none in
    at.reply
    ∙ (ap (λ (b : Bool). if b then Err RegisterClosed else register_reply_in s.underway (length s.clients)) (at.knows.closed ∙ open_yet)
    ∙ (ap (λ (u : Option Underway). register_reply_in u (length s.clients)) free
    ∙ (ap (λ (cs : List Registered). register_reply_in {R = Totals} None (length cs)) at.knows.clients ∙ room_reply (length (known_from own).clients) room)))

tells_some : (called : List Called) (refusal : Option Refusal) → NoneGoing ≡ progress_of called refusal → ⊥
tells_some [] refusal is = absurd (cc (is))
tells_some (c ∷ cs) refusal is = absurd (cc (is))

is_going : (going : Option Transition) (before state : RunState) (u : Option Underway) (t : Transition) → KnowsTransition going before state u → going ≡ Some t → NoneGoing ≡ check_reply_in u → ⊥
is_going going before state None t knows some is = absurd (cc (some, knows.0))
is_going going before state (Some u) t knows some is = tells_some (open_of u) u.refusal is

-- while a transition is going on, no check tells that there is none
pub never_none : (own : List EngineEntry) (tallies : List ClientTally) (t : Transition) → (known_from own).going ≡ Some t → AtCall own (Check NoneGoing tallies) → ⊥
never_none own tallies t some at = is_going (known_from own).going (known_from own).state at.engine.state at.engine.underway t at.knows.transition some at.reply.0

none_given : (u : Option Underway) → tallies_in Going u ≡ []
none_given None = refl
none_given (Some u) = refl

-- a check that tells Going gives no tallies
pub gives_none : (own : List EngineEntry) (tallies : List ClientTally) → AtCall own (Check Going tallies) → tallies ≡ []
gives_none own tallies at = at.reply.1 ∙ (ap (λ (p : Progress). tallies_in p at.engine.underway) (sym at.reply.0) ∙ none_given at.engine.underway)

-- What is known behind one call more.

pub known_going : (own : List EngineEntry) (tallies : List ClientTally) → known_from (own ++ Check Going tallies ∷ []) ≡ known_from own
known_going own tallies = known_more own (Check Going tallies)

-- Members are registered.

-- the engine is open and idle as before, and so many clients more are known
pub record OnlyJoined (count : ℕ) (own later : List EngineEntry) : Type 0 where
  pub closed : (known_from later).closed ≡ (known_from own).closed
  pub going : (known_from later).going ≡ (known_from own).going
  pub clients : length (known_from later).clients ≡ length (known_from own).clients + count

pub known_registered : (own : List EngineEntry) (client : ℕ) (m : MemberName) → OnlyJoined 1 own (own ++ registration client m ∷ [])
known_registered own client m =
    let more : known_from (own ++ registration client m ∷ []) ≡ known_at (entry_of_main (registration client m) ∷ engine_past (map entry_of_main own)) = known_more own (registration client m) in
    record {
      closed = ap (λ (k : MainKnows). k.closed) more;
      going = ap (λ (k : MainKnows). k.going) more;
      clients = ap (λ (k : MainKnows). length k.clients) more ∙ length-append (known_from own).clients _;
    }

pub joined_none : (own : List EngineEntry) → OnlyJoined 0 own own
joined_none own = record { closed = refl; going = refl; clients = omega arith }

pub joined_one : (count : ℕ) (own between later : List EngineEntry) → OnlyJoined count own between → OnlyJoined 1 between later → OnlyJoined (count + 1) own later
joined_one count own between later first then_ = record {
  closed = then_.closed ∙ first.closed;
  going = then_.going ∙ first.going;
  clients = omega (arith, first.clients, then_.clients);
}

pub registrations_more : (first : ℕ) (ms : List MemberName) (m : MemberName) → registrations first (ms ++ m ∷ []) ≡ registrations first ms ++ registration (first + length ms) m ∷ []
registrations_more first [] m = ap (λ (n : ℕ). registration n m ∷ []) (omega arith)
registrations_more first (x ∷ ms) m =
    ap (λ (l : List EngineEntry). registration first x ∷ l) (registrations_more (suc first) ms m
    ∙ ap (λ (n : ℕ). registrations (suc first) ms ++ registration n m ∷ []) (omega arith))

-- Rounds while a transition is going on.

module _ {M : Type 0} (round : M → M → Type 0) where
  -- so far each check told that the transition is going on, and the members had a round behind it
  pub record Waits (own now : List EngineEntry) (before after : M) : Type 0 where
    pub rounds : ℕ
    pub calls : now ≡ own ++ going_checks rounds
    pub members : HadRounds round rounds before after

  pub waits_first : (own : List EngineEntry) (members : M) → Waits own own members members
  waits_first own members = record { rounds = 0; calls = sym (append-nil own); members = refl }

  checks_more : (count : ℕ) → going_checks count ++ Check Going [] ∷ [] ≡ going_checks (suc count)
  checks_more zero = refl
  checks_more (suc n) = ap (λ (l : List EngineEntry). Check Going [] ∷ l) (checks_more n)

  pub waits_more : (own now later : List EngineEntry) (before between after : M) (tallies : List ClientTally) → Waits own now before between → later ≡ now ++ Check Going tallies ∷ [] → tallies ≡ []
      → round between after → Waits own later before after
  waits_more own now later before between after tallies so_far is empty more = record {
    rounds = suc so_far.rounds;
    calls = is ∙ (ap (λ (t : List ClientTally). now ++ Check Going t ∷ []) empty
        ∙ (ap (λ (l : List EngineEntry). l ++ Check Going [] ∷ []) so_far.calls
        ∙ (append_assoc own (going_checks so_far.rounds) (Check Going [] ∷ []) ∙ ap (λ (l : List EngineEntry). own ++ l) (checks_more so_far.rounds))));
    members = (between, so_far.members, more);
  }

  pub waits_done : (own now later : List EngineEntry) (before after : M) (outcome : StartOutcome) (tallies : List ClientTally) → Waits own now before after → later ≡ now ++ Check (Done outcome) tallies ∷ []
      → WaitsForEnd round outcome tallies own later before after
  waits_done own now later before after outcome tallies so_far is = record {
    rounds = so_far.rounds;
    calls = is ∙ (ap (λ (l : List EngineEntry). l ++ done_check outcome tallies ∷ []) so_far.calls ∙ append_assoc own (going_checks so_far.rounds) (done_check outcome tallies ∷ []));
    members = so_far.members;
  }

  -- begun, and then waited for
  pub made_whole : (own begun later : List EngineEntry) (before after : M) (transition : Transition) (sheet : Sheet) (start : ℕ) (outcome : StartOutcome) (tallies : List ClientTally)
      → begun ≡ own ++ Begin transition sheet (Ok start) ∷ [] → WaitsForEnd round outcome tallies begun later before after → DrivesTransition round transition sheet start outcome tallies own later before after
  made_whole own begun later before after transition sheet start outcome tallies begins waits = record {
    rounds = waits.rounds;
    calls = waits.calls ∙ (ap (λ (l : List EngineEntry). l ++ (going_checks waits.rounds ++ done_check outcome tallies ∷ [])) begins
        ∙ append_assoc own (Begin transition sheet (Ok start) ∷ []) (going_checks waits.rounds ++ done_check outcome tallies ∷ []));
    members = waits.members;
  }

-- What is known behind a transition.

checks_tell : (own : List EngineEntry) (count : ℕ) → known_from (own ++ going_checks count) ≡ known_from own
checks_tell own zero = ap known_from (append-nil own)
checks_tell own (suc n) =
    ap known_from (sym (append_assoc own (Check Going [] ∷ []) (going_checks n))) ∙ (checks_tell (own ++ Check Going [] ∷ []) n ∙ known_going own [])

abbrev known_done : (outcome : StartOutcome) (k : MainKnows) → MainKnows
known_done outcome k = record { closed = k.closed; clients = k.clients; starts = k.starts; going = None; state = state_behind outcome k.going k.state }

pub known_begun : (own : List EngineEntry) (t : Transition) (sheet : Sheet) (start : ℕ) → (known_from (own ++ Begin t sheet (Ok start) ∷ [])).going ≡ Some t
known_begun own t sheet start = ap (λ (k : MainKnows). k.going) (known_more own (Begin t sheet (Ok start)))

pub known_made : {M : Type 0} (round : M → M → Type 0) (own begun later : List EngineEntry) (before after : M) (t : Transition) (sheet : Sheet) (start : ℕ) (outcome : StartOutcome) (tallies : List ClientTally)
    → begun ≡ own ++ Begin t sheet (Ok start) ∷ [] → WaitsForEnd round outcome tallies begun later before after → known_from later ≡ known_behind t outcome (known_from own)
known_made round own begun later before after t sheet start outcome tallies begins waits =
    let checks : List EngineEntry = going_checks waits.rounds in
    let split : later ≡ (begun ++ checks) ++ done_check outcome tallies ∷ [] = waits.calls ∙ sym (append_assoc begun checks (done_check outcome tallies ∷ [])) in
    let ends : known_from later ≡ known_done outcome (known_from (begun ++ checks)) = ap known_from split ∙ known_more (begun ++ checks) (done_check outcome tallies) in
    let told : known_from (begun ++ checks) ≡ known_from begun = checks_tell begun waits.rounds in
    let begins_so : known_done outcome (known_from begun) ≡ known_behind t outcome (known_from own) =
    ap (λ (es : List EngineEntry). known_done outcome (known_from es)) begins ∙ ap (known_done outcome) (known_more own (Begin t sheet (Ok start))) in
    ends ∙ (ap (known_done outcome) told ∙ begins_so)

-- the entry of a registration
pub registered_so : (client : ℕ) (m : MemberName) (sequences : Sequences) (dump report : Bool) (reply : Result ℕ RegisterRefusal) → sequences ≡ sequences_of m.role → dump ≡ gets_dumps m.role → report ≡ gets_reports m.role
    → reply ≡ Ok client → Register m.name sequences dump report reply ≡ registration client m
registered_so client m sequences dump report reply sequences_is dump_is report_is reply_is =
    ap (λ (s : Sequences). Register m.name s dump report reply) sequences_is
    ∙ (ap (λ (d : Bool). Register m.name (sequences_of m.role) d report reply) dump_is
    ∙ (ap (λ (r : Bool). Register m.name (sequences_of m.role) (gets_dumps m.role) r reply) report_is
    ∙ ap (λ (n : Result ℕ RegisterRefusal). Register m.name (sequences_of m.role) (gets_dumps m.role) (gets_reports m.role) n) reply_is))

-- the members up to this one are registered
pub record HasRegistered (count : ℕ) (ms : List MemberName) (own later : List EngineEntry) : Type 0 where
  pub joined : OnlyJoined count own later
  pub registered : later ≡ own ++ registrations (length (known_from own).clients) (take count ms)

pub registers_next : (ms : List MemberName) (i : ℕ) (m : MemberName) (own between later : List EngineEntry) → i < length ms → m ≡ get_or ms i m → OnlyJoined i own between
    → between ≡ own ++ registrations (length (known_from own).clients) (take i ms) → later ≡ between ++ registration (length (known_from between).clients) m ∷ [] → HasRegistered (i + 1) ms own later
registers_next ms i m own between later within here joined so_far is =
    let first : ℕ = length (known_from own).clients in
    let client : ℕ = length (known_from between).clients in
    let one : OnlyJoined 1 between later = subst (λ (es : List EngineEntry). OnlyJoined 1 between es) (sym is) (known_registered between client m) in
    let long : length (take i ms) ≡ i = length-take-le i ms (omega (arith, within)) in
    let number : client ≡ first + length (take i ms) = joined.clients ∙ ap (λ (n : ℕ). first + n) (sym long) in
    let more : take (i + 1) ms ≡ take i ms ++ m ∷ [] = take_more ms i m within ∙ ap (λ (x : MemberName). take i ms ++ x ∷ []) (sym here) in
    let listed : registrations first (take i ms) ++ registration client m ∷ [] ≡ registrations first (take (i + 1) ms) =
    ap (λ (n : ℕ). registrations first (take i ms) ++ registration n m ∷ []) number ∙ (sym (registrations_more first (take i ms) m) ∙ ap (registrations first) (sym more)) in
    record {
      joined = joined_one i own between later joined one;
      registered = is ∙ (ap (λ (es : List EngineEntry). es ++ registration client m ∷ []) so_far
          ∙ (append_assoc own (registrations first (take i ms)) (registration client m ∷ []) ∙ ap (λ (es : List EngineEntry). own ++ es) listed));
    }
