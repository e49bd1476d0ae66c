-- The channels of a logger that has those that were declared are the channels of the records of its runs.
use Rattle.std.specs.Prelude.{◌≡◌, ◌≢◌, ◌≤◌, ℕ, zero, suc, Bool, if◌then◌else◌, List, [], ◌∷◌, ◌++◌, length, take, Contains, Option, Some, None, refl}
use Rattle.std.specs.Option.{option_map, option_or, option_to_list}
use Rattle.std.proofs.Common.{ap, sym, subst, ◌∙◌, arith, inl, inr}
use Rattle.std.proofs.lemmas.Bool.Decides.{eqb_tells}
use Rattle.buffer_core.specs.Slots.{slot_at}
use Rattle.mid_logger.specs.declared.channel.Channel.{Channel}
use Rattle.mid_logger.specs.declared.channel_spec.ChannelSpec.{ChannelSpec}
use Rattle.loggers.specs.OtherFiles.{AreDeclared, specs_in}
use Rattle.session_runs.specs.declared.channels.RunChannel.{RunChannel}
use Rattle.session_runs.specs.KeptRuns.{run_channel, channel_numbered, channels_below}
use Rattle.session_laws.specs.RecordedRuns.{run_channels, ChannelsAgree}

-- The channel of a number among those that were declared.

later : (x : ChannelSpec) (xs : List ChannelSpec) (y : ChannelSpec) → Contains xs y → Contains (x ∷ xs) y
later x xs y has = (suc has.0, omega (arith, has.1), has.2)

none_numbered : (n : ℕ) (specs : List ChannelSpec) → ((spec : ChannelSpec) → Contains specs spec → spec.number ≢ n) → channel_numbered n specs ≡ None
none_numbered n [] never = refl
none_numbered n (x ∷ xs) never = elim (eqb_tells x.number n) as (λ w. channel_numbered n (x ∷ xs) ≡ None) [
  | inl same ↦ absurd (never x (0, omega arith, refl) same.1)
  | inr differs ↦
      ap (λ (b : Bool). option_or (if b then Some (run_channel x) else None) (channel_numbered n xs)) differs.0
      ∙ none_numbered n xs (λ spec has. never spec (later x xs spec has))
]

one_numbered : (n : ℕ) (specs : List ChannelSpec) (spec : ChannelSpec) → Contains specs spec → spec.number ≡ n → ((other : ChannelSpec) → Contains specs other → other.number ≡ n → other ≡ spec) → channel_numbered n specs ≡ Some (run_channel spec)
one_numbered n [] spec has number alone = absurd (omega (arith, has.1))
one_numbered n (x ∷ xs) spec has number alone = elim (eqb_tells x.number n) as (λ w. channel_numbered n (x ∷ xs) ≡ Some (run_channel spec)) [
  | inl same ↦
      ap (λ (b : Bool). option_or (if b then Some (run_channel x) else None) (channel_numbered n xs)) same.0
      ∙ ap (λ (y : ChannelSpec). Some (run_channel y)) (alone x (0, omega arith, refl) same.1)
  | inr differs ↦
      ap (λ (b : Bool). option_or (if b then Some (run_channel x) else None) (channel_numbered n xs)) differs.0
      ∙ one_numbered n xs spec (behind x xs spec has (λ is. differs.1 (ap (λ (y : ChannelSpec). y.number) is ∙ number))) number (λ other there. alone other (later x xs other there))
]
  where
    behind : (x : ChannelSpec) (xs : List ChannelSpec) (y : ChannelSpec) → Contains (x ∷ xs) y → (x ≡ y → ⊥) → Contains xs y
    behind x xs y (zero, within, is) never = absurd (never is)
    behind x xs y (suc k, within, is) never = (k, omega (arith, within), is)

-- The channel of a slot.

slot_specs : (slots : List (Option Channel)) (n : ℕ) → slot_at (specs_in slots) n ≡ option_map (λ (c : Channel). c.spec) (slot_at slots n)
slot_specs [] n = refl
slot_specs (o ∷ os) zero = refl
slot_specs (o ∷ os) (suc n) = slot_specs os n

slot_channel : Option Channel → Option RunChannel
slot_channel None = None
slot_channel (Some c) = Some (run_channel c.spec)

numbered : (specs : List ChannelSpec) (slots : List (Option Channel)) → AreDeclared specs slots → (n : ℕ) (o : Option Channel) → slot_at slots n ≡ o → channel_numbered n specs ≡ slot_channel o
unfolding slot_channel
numbered specs slots are n None at =
    none_numbered n specs (λ spec has number.
    (let there : slot_at (specs_in slots) n ≡ Some spec = subst (λ (k : ℕ). slot_at (specs_in slots) k ≡ Some spec) number (are.all spec has) in
    let none : slot_at (specs_in slots) n ≡ None = slot_specs slots n ∙ ap (option_map (λ (c : Channel). c.spec)) at in
    absurd (cc (there, none))))
numbered specs slots are n (Some c) at =
    let there : slot_at (specs_in slots) n ≡ Some c.spec = slot_specs slots n ∙ ap (option_map (λ (x : Channel). x.spec)) at in
    let is = are.each n c.spec there in
    one_numbered n specs c.spec is.0 is.1 (λ other has number.
    (let other_there : slot_at (specs_in slots) n ≡ Some other = subst (λ (k : ℕ). slot_at (specs_in slots) k ≡ Some other) number (are.all other has) in
    cc (other_there, there)))

-- The slots one by one.

one_more : (slots : List (Option Channel)) (n : ℕ) → run_channels (take (suc n) slots) ≡ run_channels (take n slots) ++ option_to_list (slot_channel (slot_at slots n))
unfolding slot_channel
one_more [] zero = refl
one_more [] (suc n) = refl
one_more (None ∷ os) zero = refl
one_more (Some c ∷ os) zero = refl
one_more (None ∷ os) (suc n) = one_more os n
one_more (Some c ∷ os) (suc n) = ap (λ (l : List RunChannel). run_channel c.spec ∷ l) (one_more os n)

below : (specs : List ChannelSpec) (slots : List (Option Channel)) → AreDeclared specs slots → (n : ℕ) → channels_below n specs ≡ run_channels (take n slots)
below specs [] are zero = refl
below specs (o ∷ os) are zero = refl
below specs slots are (suc n) =
    ap (λ (l : List RunChannel). l ++ option_to_list (channel_numbered n specs)) (below specs slots are n)
    ∙ (ap (λ (o : Option RunChannel). run_channels (take n slots) ++ option_to_list o) (numbered specs slots are n (slot_at slots n) refl)
    ∙ sym (one_more slots n))

take_all : {X : Type 0} (xs : List X) (n : ℕ) → length xs ≤ n → take n xs ≡ xs
take_all [] zero few = refl
take_all [] (suc n) few = refl
take_all (x ∷ xs) zero few = absurd (omega arith)
take_all {X} (x ∷ xs) (suc n) few = ap (λ (l : List X). x ∷ l) (take_all xs n (omega arith))

pub channels_agree : ChannelsAgree
channels_agree specs slots are = sym (below specs slots are 16 ∙ ap run_channels (take_all slots 16 are.few))
