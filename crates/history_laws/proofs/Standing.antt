-- Where one client stands behind each call: among those that are called, or among those whose answers are awaited.
use Rattle.std.specs.Prelude.{◌≡◌, ℕ, Bool, true, false, ◌||◌, ◌==◌, List, [], ◌∷◌, ◌++◌, Option, Some, None, refl}
use Rattle.std.proofs.Common.{ap, sym, ◌∙◌}
use Rattle.std.proofs.lemmas.Bool.{eq-eqb}
use Rattle.daq_types.specs.declared.runs.Transition.{Transition}
use Rattle.daq_types.specs.declared.runs.Transition.TheVariants.{Start, Stop, Pause, Resume, StartAbort}
use Rattle.transitions.specs.declared.client.Registered.{Registered}
use Rattle.transitions.specs.declared.called.Called.{Called}
use Rattle.transitions.specs.declared.engine.Refusal.{Refusal}
use Rattle.transitions.specs.EngineCalls.{turn_kind, is_start, stands_in, without, group_of, is_next, open_of, first_polled, is_due_off}
use Rattle.member_model.specs.RunEngines.{Underway}
use Rattle.transitions.proofs.Stands.{either, or_false, stands_gone, stands_other, stood, stands_push, stands_append, with_stands}

-- The first reply of a turn.

-- the client is called no more, and its answer is awaited
pub first_gone : (client : ℕ) (c : Registered) (u : Underway) → stands_in (first_polled client c u).called client ≡ false
first_gone client c u = stands_gone client u.called

pub first_owes : (client : ℕ) (c : Registered) (u : Underway) → stands_in (first_polled client c u).polled client ≡ true
first_owes client c u =
    stands_push client u.polled (record { client = client; sequence = group_of u.polled u.called })
    ∙ (ap (λ (b : Bool). stands_in u.polled client || b) (eq-eqb client client refl) ∙ either (stands_in u.polled client))

-- another one stands where it stood
pub first_other_called : (client other : ℕ) (c : Registered) (u : Underway) → (other == client) ≡ false → stands_in (first_polled other c u).called client ≡ stands_in u.called client
first_other_called client other c u ne = stands_other client other u.called ne

pub first_other_owes : (client other : ℕ) (c : Registered) (u : Underway) → (other == client) ≡ false → stands_in (first_polled other c u).polled client ≡ stands_in u.polled client
first_other_owes client other c u ne =
    stands_push client u.polled (record { client = other; sequence = group_of u.polled u.called })
    ∙ (ap (λ (b : Bool). stands_in u.polled client || b) ne ∙ or_false (stands_in u.polled client))

-- nobody comes to those that are called
pub first_fewer : (client other : ℕ) (c : Registered) (u : Underway) → stands_in (first_polled other c u).called client ≡ true → stands_in u.called client ≡ true
first_fewer client other c u e = (stood client other u.called e).1

pub next_called : (u : Underway) (client : ℕ) → is_next u.polled u.called client ≡ true → stands_in u.called client ≡ true
next_called u client next = with_stands (group_of u.polled u.called) u.called client next

-- All who have yet to answer.

pub open_polled : (u : Underway) (client : ℕ) → stands_in u.polled client ≡ true → stands_in (open_of u) client ≡ true
open_polled u client e = stands_append client u.polled u.called ∙ ap (λ (b : Bool). b || stands_in u.called client) e

pub open_called : (u : Underway) (client : ℕ) → stands_in u.called client ≡ true → stands_in (open_of u) client ≡ true
open_called u client e = stands_append client u.polled u.called ∙ (ap (λ (b : Bool). stands_in u.polled client || b) e ∙ either (stands_in u.polled client))

-- a first reply leaves them
pub first_open : (client other : ℕ) (c : Registered) (u : Underway) → stands_in (open_of u) client ≡ true → stands_in (open_of (first_polled other c u)) client ≡ true
first_open client other c u e = by (other == client) refl
  where
    by : (b : Bool) → (other == client) ≡ b → stands_in (open_of (first_polled other c u)) client ≡ true
    by true same =
        open_polled (first_polled other c u) client
        (stands_push client u.polled (record { client = other; sequence = group_of u.polled u.called }) ∙ (ap (λ (b : Bool). stands_in u.polled client || b) same ∙ either (stands_in u.polled client)))
    by false ne =
        stands_append client (first_polled other c u).polled (first_polled other c u).called
        ∙ (ap (λ (b : Bool). b || stands_in (first_polled other c u).called client) (first_other_owes client other c u ne)
        ∙ (ap (λ (b : Bool). stands_in u.polled client || b) (first_other_called client other c u ne) ∙ (sym (stands_append client u.polled u.called) ∙ e)))

-- an answer takes out the one that answered, and nobody else
pub answered_open : (client other : ℕ) (polled called : List Called) → (other == client) ≡ false → stands_in (polled ++ called) client ≡ true → stands_in (without other polled ++ called) client ≡ true
answered_open client other polled called ne e =
    stands_append client (without other polled) called
    ∙ (ap (λ (b : Bool). b || stands_in called client) (stands_other client other polled ne) ∙ (sym (stands_append client polled called) ∙ e))

-- where nobody is left, this client is not
pub none_open : (xs : List Called) (client : ℕ) → xs ≡ [] → stands_in xs client ≡ false
none_open xs client e = ap (λ (cs : List Called). stands_in cs client) e

pub none_polled : (polled called : List Called) → polled ++ called ≡ [] → polled ≡ []
none_polled [] called e = refl
none_polled (p ∷ ps) called e = absurd (cc (e))

-- The kind of turn.

-- only a start is refused, and only a refused start is called off
abbrev pub KindFits : Transition → Option Refusal → (is_off : Bool) → Type 0
KindFits t None is_off = is_off ≡ false
KindFits t (Some refusal) is_off = t ≡ Start

pub unrefused_kind : (t : Transition) (r : Option Refusal) (is_off : Bool) → KindFits t r is_off → r ≡ None → is_off ≡ false
unrefused_kind t None is_off kind none = kind
unrefused_kind t (Some refusal) is_off kind none = absurd (cc (none))

-- where turns of a start are given, it is not called off
pub start_not_off : (t : Transition) (is_off : Bool) → is_start (turn_kind t is_off) ≡ true → is_off ≡ false
start_not_off t false starts = refl
start_not_off t true starts = absurd (cc (starts))

pub is_start_kind : (t : Transition) → is_start t ≡ true → t ≡ Start
is_start_kind Start starts = refl
is_start_kind Stop starts = absurd (cc (starts))
is_start_kind Pause starts = absurd (cc (starts))
is_start_kind Resume starts = absurd (cc (starts))
is_start_kind StartAbort starts = absurd (cc (starts))

pub start_kind : (t : Transition) (is_off : Bool) → is_start (turn_kind t is_off) ≡ true → t ≡ Start
start_kind t false starts = is_start_kind t starts
start_kind t true starts = absurd (cc (starts))

-- What is known where a start is called off now: it was refused, nobody's answer is awaited, and it was no start-abort before.
pub record IsDue (r : Option Refusal) (polled : List Called) (is_off : Bool) : Type 0 where
  pub refusal : Refusal
  pub refused : r ≡ Some refusal
  pub nobody : polled ≡ []
  pub not_off : is_off ≡ false

pub due : (r : Option Refusal) (polled : List Called) (is_off : Bool) → is_due_off r polled is_off ≡ true → IsDue r polled is_off
due None polled is_off e = absurd (cc (e))
due (Some refusal) [] false e = record { refusal = refusal; refused = refl; nobody = refl; not_off = refl }
due (Some refusal) [] true e = absurd (cc (e))
due (Some refusal) (p ∷ ps) is_off e = absurd (cc (e))

pub due_kind : (t : Transition) (r : Option Refusal) (polled : List Called) (is_off : Bool) → is_due_off r polled is_off ≡ true → KindFits t r is_off → t ≡ Start
due_kind t None polled is_off e kind = absurd (cc (e))
due_kind t (Some refusal) polled is_off e kind = kind

pub kind_off : (t : Transition) (r : Option Refusal) (polled : List Called) (is_off : Bool) → is_due_off r polled is_off ≡ true → KindFits t r is_off → KindFits t r true
kind_off t None polled is_off e kind = absurd (cc (e))
kind_off t (Some refusal) polled is_off e kind = kind

-- where all have answered and start-abort is not due, a refused start was called off
pub off_at_end : (r : Option Refusal) (polled called : List Called) (is_off : Bool) (refusal : Refusal) → r ≡ Some refusal → is_due_off r polled is_off ≡ false → polled ++ called ≡ [] → is_off ≡ true
off_at_end None polled called is_off refusal refused e done = absurd (cc (refused))
off_at_end (Some r) [] called true refusal refused e done = refl
off_at_end (Some r) [] called false refusal refused e done = absurd (cc (e))
off_at_end (Some r) (p ∷ ps) called is_off refusal refused e done = absurd (cc (done))
