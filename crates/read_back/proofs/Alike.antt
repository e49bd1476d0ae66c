-- Channels of one number, and the ids of the events of a run.
use Rattle.std.proofs.Common.{◌≡◌, ◌∙◌, ℕ, zero, suc, ◌<◌, ◌≤◌, ◌^◌, true, false, List, [], ◌∷◌, map, Ok, refl, ap, sym, arith, inl, inr, eq-eqb}
use Rattle.std.specs.Prelude.{Bool, IsTrue, nat_eq, nat_lt, Contains, ℤ, pos, negsuc}
use Rattle.std.specs.List.{AllByRecursion, IsDistinct}
use Rattle.std.proofs.lemmas.Grind.{common_steps}
use Rattle.std.proofs.lemmas.List.Elements.{Contains-append_cases}
use Rattle.daq_types.specs.declared.events.Event.{Event}
use Rattle.daq_types.specs.declared.runs.Order.{Order}
use Rattle.front_ends.specs.FrontKept.{made_events}
use Rattle.frontend_kit.specs.declared.generator.Generator.{Generator}
use Rattle.mid_logger.specs.declared.channel_spec.ChannelSpec.{ChannelSpec}
use Rattle.odb_runinfo.specs.RunSets.{next_run}
use Rattle.session_setup.specs.Setup.{is_front_id}
use Rattle.session_objects.specs.Members.{generator_makes}

-- Channels

abbrev numbers : List ChannelSpec → List ℕ
numbers xs = map (λ channel. channel.number) xs

differs : (n : ℕ) (xs : List ChannelSpec) (b : ChannelSpec) → AllByRecursion (λ y. nat_eq n y ≡ false) (numbers xs) → Contains xs b → n ≡ b.number → ⊥
differs n [] b apart has same = absurd (omega (arith, has.1))
differs n (x ∷ xs) b apart (zero, within, is) same =
    let yes : nat_eq n x.number ≡ true = eq-eqb n x.number (same ∙ sym (ap (λ (c : ChannelSpec). c.number) is)) in
    let no : nat_eq n x.number ≡ false = apart.0 in
    let both : true ≡ false = sym yes ∙ no in cc
differs n (x ∷ xs) b apart (suc k, within, is) same = differs n xs b apart.1 (k, omega (arith, within), is) same

-- where the numbers differ, channels of one number are one
pub one_channel : (xs : List ChannelSpec) (a b : ChannelSpec) → IsDistinct nat_eq (numbers xs) → Contains xs a → Contains xs b → a.number ≡ b.number → a ≡ b
unfolding IsDistinct
one_channel [] a b apart has other same = absurd (omega (arith, has.1))
one_channel (x ∷ xs) a b apart (zero, within, is) (zero, below, at) same = sym is ∙ at
one_channel (x ∷ xs) a b apart (zero, within, is) (suc k, below, at) same =
    absurd (differs x.number xs b apart.0 (k, omega (arith, below), at) (ap (λ (c : ChannelSpec). c.number) is ∙ same))
one_channel (x ∷ xs) a b apart (suc k, within, is) (zero, below, at) same =
    absurd (differs x.number xs a apart.0 (k, omega (arith, within), is) (ap (λ (c : ChannelSpec). c.number) at ∙ sym same))
one_channel (x ∷ xs) a b apart (suc k, within, is) (suc j, below, at) same = one_channel xs a b apart.1 (k, omega (arith, within), is) (j, omega (arith, below), at) same

-- Events

only_one : (x e : Event) → Contains (x ∷ []) e → x ≡ e
only_one x e (zero, within, is) = is
only_one x e (suc k, within, is) = absurd (omega (arith, within))

-- each event of a generator has its id
pub made_id : (g : Generator) (order : Order) (many : ℕ) (e : Event) → Contains (made_events (generator_makes g) order many) e → e.id ≡ g.id
made_id g order zero e has = absurd (omega (arith, has.1))
made_id g order (suc n) e has =
    elim (Contains-append_cases (made_events (generator_makes g) order n) (generator_makes g order (suc n) ∷ []) e has) as (λ w. e.id ≡ g.id) [
      | inl early ↦ made_id g order n e early
      | inr last ↦ ap (λ (x : Event). x.id) (sym (only_one (generator_makes g order (suc n)) e last))
    ]

pub id_small : (id : ℕ) → IsTrue (is_front_id id) → id < 2 ^ 16
id_small id h = let most : id ≤ 32767 = grind (arith, common_steps, h) in omega (arith, most)

-- Numbers of runs

pub run_small : (before : ℤ) (run : ℕ) → next_run before ≡ Ok run → run < 2 ^ 32
run_small (pos n) run is = below (nat_lt n 2147483647) refl is
  where
    below : (less : Bool) → nat_lt n 2147483647 ≡ less → next_run (pos n) ≡ Ok run → run < 2 ^ 32
    below true less next = grind (arith, common_steps, less, next)
    below false less next = grind (arith, common_steps, less, next)
run_small (negsuc n) run is = absurd cc
