-- What is known of an engine stays so.
use Rattle.std.proofs.Common.{◌≡◌, ℕ, ◌+◌, ◌≤◌, ◌<◌, Bool, true, false, List, [], ◌∷◌, ◌++◌, length, Option, Some, None, ap, refl, arith}
use Rattle.std.specs.Prelude.{if◌then◌else◌}
use Rattle.daq_types.specs.declared.runs.RunState.{RunState}
use Rattle.daq_types.specs.declared.runs.Transition.{Transition}
use Rattle.transitions.specs.declared.called.Called.{Called}
use Rattle.transitions.specs.declared.answers.ClientTally.{ClientTally}
use Rattle.transitions.specs.declared.engine.Refusal.{Refusal}
use Rattle.transitions.specs.declared.engine.Stage.{Stage}
use Rattle.transitions.specs.declared.replies.Progress.TheVariants.{Going}
use Rattle.transitions.specs.Limits.{most_clients, most_tallies}
use Rattle.transitions.specs.EngineCalls.{stands_in, state_with, progress_of, owes_answer, is_due_off}
use Rattle.transitions.specs.EngineInside.{most_at, underway_of}
use Rattle.transitions.proofs.Stands.{stands_some}

-- Where somebody has yet to answer.

pub open_state : (state : RunState) (t : Transition) (r : Option Refusal) (polled called : List Called) → 0 < length polled + length called → state_with state t r (polled ++ called) ≡ state
open_state state t (Some r) polled called some = refl
open_state state t None (p ∷ ps) called some = refl
open_state state t None [] (c ∷ cs) some = refl
open_state state t None [] [] some = absurd (omega (arith, some))

pub open_progress : (polled called : List Called) (r : Option Refusal) → 0 < length polled + length called → progress_of (polled ++ called) r ≡ Going
open_progress (p ∷ ps) called r some = refl
open_progress [] (c ∷ cs) r some = refl
open_progress [] [] r some = absurd (omega (arith, some))

module _ {R : Type 0} where
  -- a client that owes an answer is one of those that polled
  pub owes_stands : (o : Option Stage) (dump : Option (List ℕ)) (blanks : List R) (called polled : List Called) (tallies : List (ClientTally R)) (client : ℕ)
      → owes_answer (underway_of o dump blanks called polled tallies) client ≡ true → stands_in polled client ≡ true
  owes_stands None dump blanks called polled tallies client e = absurd cc
  owes_stands (Some stage) dump blanks called polled tallies client e = e

-- Refusals.

abbrev pub refusal_in : Option Stage → Option Refusal
refusal_in None = None
refusal_in (Some stage) = stage.refusal

-- a refused start is no stage without a refusal
pub never_unrefused : (stage now : Stage) (r : Refusal) → Some stage ≡ Some now → stage.refusal ≡ Some r → now.refusal ≡ None → ⊥
never_unrefused stage now r e some none =
    let same : stage.refusal ≡ now.refusal = ap refusal_in e in
    absurd (cc)

-- only a refused start is called off
pub due_refused : (r : Option Refusal) (polled : List Called) (off : Bool) → is_due_off r polled off ≡ true → r ≡ None → ⊥
due_refused None polled off e none = absurd cc
due_refused (Some r) polled off e none = absurd cc

-- and only once
pub due_not_off : (r : Option Refusal) (polled : List Called) (off : Bool) → is_due_off r polled off ≡ true → off ≡ false
due_not_off None polled off e = absurd cc
due_not_off (Some r) [] false e = refl
due_not_off (Some r) [] true e = absurd cc
due_not_off (Some r) (p ∷ ps) off e = absurd cc

-- Tallies.

abbrev pub most_in : Option Stage → ℕ
most_in None = 0
most_in (Some stage) = most_at stage

pub most_within : (stage : Stage) → most_at stage ≤ most_tallies
most_within stage = within stage.off
  where
    within : (off : Bool) → (if off then most_tallies else most_clients) ≤ most_tallies
    within true = omega arith
    within false = omega arith

module _ {R : Type 0} where
  -- there is room for the tally of a client that owes an answer
  pub tally_fits : (o : Option Stage) (dump : Option (List ℕ)) (blanks : List R) (called polled : List Called) (tallies : List (ClientTally R)) (client : ℕ)
      → owes_answer (underway_of o dump blanks called polled tallies) client ≡ true → ((now : Stage) → o ≡ Some now → length tallies + (length polled + length called) ≤ most_at now) → length tallies < most_tallies
  tally_fits None dump blanks called polled tallies client e fits = absurd cc
  tally_fits (Some stage) dump blanks called polled tallies client e fits =
      let some : 0 < length polled = stands_some polled client e in
      let all = fits stage refl in
      omega (arith, some, all, most_within stage)
