-- The number that those of all channels are below.
use Rattle.std.specs.Prelude.{◌≡◌, ◌≢◌, ◌≤◌, ◌<◌, ◌+◌, ◌-◌, ℕ, zero, suc, Bool, true, false, if◌then◌else◌, is_some, List, [], ◌∷◌, length, Option, Some, None, refl}
use Rattle.std.specs.Option.{option_map}
use Rattle.std.proofs.Common.{ap, sym, subst, ◌∙◌, arith, inl, inr}
use Rattle.std.proofs.lemmas.Bool.{cases_lt}
use Rattle.std.proofs.lemmas.List.{get_or_past, get_or-set_other}
use Rattle.buffer_core.specs.Slots.{slot_at}
use Rattle.mid_logger.specs.declared.channel.Channel.{Channel}
use Rattle.mid_logger.specs.declared.channel_spec.ChannelSpec.{ChannelSpec}
use Rattle.mid_logger.specs.declared.pulled.Pulled.{Pulled}
use Rattle.mid_logger.specs.declared.pulled.Pulled.TheVariants.{NoChannel}
use Rattle.loggers.specs.Moments.{LoggerMoment}
use Rattle.loggers.specs.SlotPulls.{PullsSlot, PullsNumbered}
use Rattle.loggers.specs.OtherFiles.{specs_in}
use Rattle.daq_members.specs.LoggerTaken.{PullsBelow, pulled_channels}
use Rattle.daq_members.proofs.LoggerLaws.{pulls_more, pulls_nothing}

-- no channel has this number or a higher one
abbrev pub NoneFrom : (bound : ℕ) → List (Option Channel) → Type 0
NoneFrom bound slots = (n : ℕ) → bound ≤ n → slot_at slots n ≡ None

-- no channel has a number from the bound on and below this
abbrev pub NoneBetween : (bound number : ℕ) → List (Option Channel) → Type 0
NoneBetween bound number slots = (n : ℕ) → bound ≤ n → n < number → slot_at slots n ≡ None

-- The scan.

no_channel : (slot : Option Channel) → is_some slot ≡ false → slot ≡ None
no_channel None none = refl
no_channel (Some c) none = absurd (cc (none))

pub bound_few : (number bound later : ℕ) (there : Bool) → later ≡ (if there then number + 1 else bound) → bound ≤ number → later ≤ number + 1
bound_few number bound later true is few = omega (arith, is)
bound_few number bound later false is few = omega (arith, is, few)

looked : (slots : List (Option Channel)) (number bound : ℕ) (there : Bool) → there ≡ is_some (slot_at slots number) → NoneBetween bound number slots → NoneBetween (if there then number + 1 else bound) (number + 1) slots
looked slots number bound true is none n from until = absurd (omega (arith, from, until))
looked slots number bound false is none n from until = elim (cases_lt n number) as (λ w. slot_at slots n ≡ None) [
  | inl less ↦ none n from less
  | inr more ↦
      let same : number ≡ n = omega (arith, more, until) in
      subst (λ (k : ℕ). slot_at slots k ≡ None) same (no_channel (slot_at slots number) (sym is))
]

-- one number more that is looked at
pub looked_more : (slots : List (Option Channel)) (number bound later : ℕ) (there : Bool) → later ≡ (if there then number + 1 else bound) → there ≡ is_some (slot_at slots number) → NoneBetween bound number slots → NoneBetween later (number + 1) slots
looked_more slots number bound later there is at none = subst (λ (k : ℕ). NoneBetween k (number + 1) slots) (sym is) (looked slots number bound there at none)

-- all numbers that there are were looked at
pub looked_all : (slots : List (Option Channel)) (bound number : ℕ) → length slots ≤ number → NoneBetween bound number slots → NoneFrom bound slots
looked_all slots bound number many none n from = elim (cases_lt n number) as (λ w. slot_at slots n ≡ None) [
  | inl less ↦ none n from less
  | inr more ↦ get_or_past slots n None (omega (arith, many, more))
]

-- Where the channels stay, the bound is kept.

specs_at : (slots : List (Option Channel)) (n : ℕ) → slot_at (specs_in slots) n ≡ option_map (λ (c : Channel). c.spec) (slot_at slots n)
specs_at [] n = refl
specs_at (o ∷ os) zero = refl
specs_at (o ∷ os) (suc n) = specs_at os n

no_spec : (slot : Option Channel) → option_map (λ (c : Channel). c.spec) slot ≡ None → slot ≡ None
no_spec None none = refl
no_spec (Some c) none = absurd (cc (none))

pub none_kept : (bound : ℕ) (slots later : List (Option Channel)) → specs_in later ≡ specs_in slots → NoneFrom bound slots → NoneFrom bound later
none_kept bound slots later same none n from =
    no_spec (slot_at later n)
    (sym (specs_at later n) ∙ ap (λ (specs : List (Option ChannelSpec)). slot_at specs n) same ∙ specs_at slots n ∙ ap (option_map (λ (c : Channel). c.spec)) (none n from))

-- Pulls keep it.

slot_pulled : (dump : List ℕ) (slot : Option Channel) (number : ℕ) (answer : Pulled) (a b : LoggerMoment) (n : ℕ) → slot_at a.slots number ≡ slot → PullsSlot dump slot number answer a b → slot_at a.slots n ≡ None → slot_at b.slots n ≡ None
slot_pulled dump None number answer a b n at pulls none = subst (λ (m : LoggerMoment). slot_at m.slots n ≡ None) (sym pulls.1) none
slot_pulled dump (Some c) number answer a b n at pulls none =
    let other : n ≢ number = λ same.
    let both : Some c ≡ None = sym at ∙ ap (λ (k : ℕ). slot_at a.slots k) (sym same) ∙ none in absurd (cc (both)) in
    ap (λ (slots : List (Option Channel)). slot_at slots n) pulls.slots ∙ get_or-set_other a.slots number n (Some pulls.after) None other ∙ none

pub none_pulled : (dump : List ℕ) (bound number : ℕ) (answer : Pulled) (a b : LoggerMoment) → PullsNumbered dump number answer a b → NoneFrom bound a.slots → NoneFrom bound b.slots
none_pulled dump bound number answer a b pulls none n from = slot_pulled dump (slot_at a.slots number) number answer a b n refl pulls (none n from)

none_behind : (dump : List ℕ) (bound count : ℕ) (got : Bool) (a b : LoggerMoment) → PullsBelow dump count got a b → NoneFrom bound a.slots → NoneFrom bound b.slots
none_behind dump bound zero got a b pulls none = subst (λ (m : LoggerMoment). NoneFrom bound m.slots) (sym pulls.1) none
none_behind dump bound (suc count) got a b pulls none = none_pulled dump bound count pulls.2 pulls.0 b pulls.4 (none_behind dump bound count pulls.1 a pulls.0 pulls.3 none)

-- Pulls of numbers without a channel do nothing.

pulls_on : (dump : List ℕ) (more n : ℕ) (got : Bool) (a b : LoggerMoment) → PullsBelow dump n got a b → NoneFrom n b.slots → PullsBelow dump (more + n) got a b
pulls_on dump zero n got a b pulls none = (let same : n ≡ 0 + n = omega arith in subst (λ (count : ℕ). PullsBelow dump count got a b) same pulls)
pulls_on dump (suc more) n got a b pulls none =
    let next : (more + n) + 1 ≡ suc more + n = omega arith in
    subst (λ (count : ℕ). PullsBelow dump count got a b) next
    (pulls_more dump (more + n) got got NoChannel a b b (pulls_on dump more n got a b pulls none) (pulls_nothing dump (more + n) b (ap is_some (none (more + n) (omega arith)))) refl)

pub pulls_all : (dump : List ℕ) (bound number : ℕ) (got : Bool) (a b : LoggerMoment) → bound ≤ number → number ≤ bound → bound ≤ pulled_channels → PullsBelow dump number got a b → NoneFrom bound a.slots → PullsBelow dump pulled_channels got a b
pulls_all dump bound number got a b first last few pulls none =
    let here : number ≡ bound = omega (arith, first, last) in
    let all : (pulled_channels - bound) + bound ≡ pulled_channels = omega (arith, few) in
    subst (λ (count : ℕ). PullsBelow dump count got a b) all
    (pulls_on dump (pulled_channels - bound) bound got a b (subst (λ (count : ℕ). PullsBelow dump count got a b) here pulls) (none_behind dump bound number got a b pulls none))
