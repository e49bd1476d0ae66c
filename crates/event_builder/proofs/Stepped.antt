-- Steps of inputs, over any ports: one more of them, and what is at a number behind them.
use Rattle.std.specs.Prelude.{◌≡◌, ◌≢◌, ◌<◌, ◌+◌, ℕ, List, length, map, slice_get, slice_set, Option, Some, refl}
use Rattle.std.specs.Option.{option_map}
use Rattle.std.proofs.Common.{ap, sym, subst, ◌∙◌, arith, inl, inr, get_or}
use Rattle.std.proofs.lemmas.List.{length-set, map-set}
use Rattle.std.proofs.lemmas.Option.{slice_get-map, slice_get-get_or, same_Some}
use Rattle.buffer_core.specs.Ports.{Access}
use Rattle.event_builder.specs.declared.inputs.BuilderInput.{BuilderInput}
use Rattle.event_builder.specs.Inputs.{InputAt, InputsAt, IsInputAt, StepsInput, StepsBelow, input_at, inputs_at}
use Rattle.event_builder.proofs.InputLists.{same_or_other, member, got_there, got_elsewhere, kept_there}

-- what is lent stands at its place
pub lent_at : {X : Type 0} (xs : List X) (n : ℕ) (x : X) → n < length xs → x ≡ get_or xs n x → slice_get xs n ≡ Some x
lent_at {X} xs n x within is = slice_get-get_or xs n x within ∙ ap (λ (y : X). Some y) (sym is)

-- a step of one input, with its port
pub stepped : {P : Type 0} (Step : InputAt → InputAt → Type 0) (access : P → Access) (n : ℕ) (inputs : List BuilderInput) (ports : List P) (x y : BuilderInput) (p q : P) → slice_get inputs n ≡ Some x → slice_get ports n ≡ Some p
    → Step (input_at x (access p)) (input_at y (access q)) → StepsInput Step n (inputs_at inputs (map access ports)) (inputs_at (slice_set inputs n y) (map access (slice_set ports n q)))
stepped {P} Step access n inputs ports x y p q there port step = record {
  before = input_at x (access p);
  after = input_at y (access q);
  there = record { input = there; port = slice_get-map access ports n ∙ ap (λ (o : Option P). option_map access o) port };
  inputs = refl;
  ports = map-set access ports n q;
  step = step;
}

-- one number has one input
pub same_at : (m : InputsAt) (n : ℕ) (x y : InputAt) → IsInputAt m n x → IsInputAt m n y → x ≡ y
same_at m n x y one other =
    let input : x.input ≡ y.input = same_Some x.input y.input (sym one.input ∙ other.input) in
    let port : x.port ≡ y.port = same_Some x.port y.port (sym one.port ∙ other.port) in
    subst (λ (i : BuilderInput). x ≡ input_at i y.port) input (subst (λ (p : Access). x ≡ input_at x.input p) port refl)

-- the input of a number that is below their count
pub at_within : (m : InputsAt) (n : ℕ) → length m.ports ≡ length m.inputs → n < length m.inputs → (x : InputAt) × IsInputAt m n x
at_within m n many within =
    let input = member m.inputs n within in
    let port = member m.ports n (omega arith) in
    (input_at input.0 port.0, record { input = input.1; port = port.1 })

module _ (Step : InputAt → InputAt → Type 0) where
  -- the input that stepped is behind the step as it was left
  pub left_at : (n : ℕ) (m b : InputsAt) (step : StepsInput Step n m b) → IsInputAt b n step.after
  left_at n m b step = record {
    input = ap (λ (l : List BuilderInput). slice_get l n) step.inputs ∙ got_there m.inputs n step.before.input step.after.input step.there.input;
    port = ap (λ (l : List Access). slice_get l n) step.ports ∙ got_there m.ports n step.before.port step.after.port step.there.port;
  }

  -- and every other stays
  pub kept_at : (n k : ℕ) (m b : InputsAt) → StepsInput Step n m b → (y : InputAt) → k ≢ n → IsInputAt m k y → IsInputAt b k y
  kept_at n k m b step y other at = record {
    input = ap (λ (l : List BuilderInput). slice_get l k) step.inputs ∙ kept_there m.inputs n k step.after.input y.input other at.input;
    port = ap (λ (l : List Access). slice_get l k) step.ports ∙ kept_there m.ports n k step.after.port y.port other at.port;
  }

  -- an input with another number stood there before
  pub stood_at : (n k : ℕ) (m b : InputsAt) → StepsInput Step n m b → (y : BuilderInput) → k ≢ n → slice_get b.inputs k ≡ Some y → slice_get m.inputs k ≡ Some y
  stood_at n k m b step y other at =
      got_elsewhere m.inputs n k step.after.input y other (ap (λ (l : List BuilderInput). slice_get l k) (sym step.inputs) ∙ at)

  pub as_many : (n : ℕ) (m b : InputsAt) → StepsInput Step n m b → length b.inputs ≡ length m.inputs
  as_many n m b step = ap (λ (l : List BuilderInput). length l) step.inputs ∙ length-set m.inputs n step.after.input

  pub as_many_ports : (n : ℕ) (m b : InputsAt) → StepsInput Step n m b → length b.ports ≡ length m.ports
  as_many_ports n m b step = ap (λ (l : List Access). length l) step.ports ∙ length-set m.ports n step.after.port

  -- no step yet
  pub none_yet : (m : InputsAt) → StepsBelow Step 0 m m
  none_yet m = record { inputs_many = refl; ports_many = refl; done = λ n x below at. absurd (omega arith); left = λ n x above at. at }

  more_done : (n : ℕ) (a m b : InputsAt) → StepsBelow Step n a m → StepsInput Step n m b → (k : ℕ) (x : InputAt) → k < n + 1 → IsInputAt a k x → (y : InputAt) × IsInputAt b k y × Step x y
  more_done n a m b below step k x less at = elim (same_or_other k n) as (λ w. (y : InputAt) × IsInputAt b k y × Step x y) [
    | inl same ↦
        let here : IsInputAt m n x = below.left n x (omega arith) (subst (λ (j : ℕ). IsInputAt a j x) same at) in
        let is : step.before ≡ x = same_at m n step.before x step.there here in
        (step.after, subst (λ (j : ℕ). IsInputAt b j step.after) (sym same) (left_at n m b step), subst (λ (z : InputAt). Step z step.after) is step.step)
    | inr other ↦
        let was = below.done k x (omega (arith, other)) at in
        (was.0, kept_at n k m b step was.0 other was.1, was.2)
  ]

  -- one step more
  pub each_more : (n : ℕ) (a m b : InputsAt) → StepsBelow Step n a m → StepsInput Step n m b → StepsBelow Step (n + 1) a b
  each_more n a m b below step = record {
    inputs_many = as_many n m b step ∙ below.inputs_many;
    ports_many = as_many_ports n m b step ∙ below.ports_many;
    done = more_done n a m b below step;
    left = λ k x above at. kept_at n k m b step x (λ same. omega (arith, same)) (below.left k x (omega arith) at);
  }
