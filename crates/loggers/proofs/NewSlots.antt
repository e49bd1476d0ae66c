-- The channels of a new logger, which are put at their numbers from the last to the first.
use Rattle.std.specs.Prelude.{◌≡◌, ◌≢◌, ◌≤◌, ◌<◌, ◌+◌, ◌++◌, ℕ, zero, suc, List, [], ◌∷◌, length, replicate, slice_get, slice_set, Option, Some, None, refl}
use Rattle.std.proofs.Common.{ap, sym, subst, ◌∙◌, arith, inl, inr, take, get_or}
use Rattle.std.proofs.lemmas.List.{length-set, length-take-le}
use Rattle.std.proofs.lemmas.Option.{slice_get_within, slice_get-get_or}
use Rattle.buffer_core.specs.Slots.{slot_at}
use Rattle.buffer_core.proofs.SlotLaws.{slot_set_same, slot_set_other, slot_free}
use Rattle.mid_logger.specs.declared.channel.Channel.{Channel}
use Rattle.mid_logger.specs.declared.channel_spec.ChannelSpec.{ChannelSpec}
use Rattle.loggers.specs.Moments.{channel_limit}
use Rattle.loggers.specs.NewLoggers.{HaveNumbers, new_channel, IsNewChannel, HasNewChannels}
use Rattle.loggers.proofs.SlotLists.{same_or_other}

-- the channels of the specs from this place on
pub record AddedFrom (specs : List ChannelSpec) (rooms : List ℕ) (least : ℕ) (slots : List (Option Channel)) : Type 0 where
  pub many : length slots ≡ channel_limit
  pub each : (place : ℕ) → (c : Channel) → least ≤ place → IsNewChannel specs rooms place c → slot_at slots c.spec.number ≡ Some c
  pub only : (n : ℕ) → (c : Channel) → slot_at slots n ≡ Some c → (c.spec.number ≡ n) × ((place : ℕ) × IsNewChannel specs rooms place c)

spec_is : (specs : List ChannelSpec) (rooms : List ℕ) (place : ℕ) (c : Channel) (n : IsNewChannel specs rooms place c) → c.spec ≡ n.spec
spec_is specs rooms place c n = ap (λ (x : Channel). x.spec) n.is

pub added_none : (specs : List ChannelSpec) (rooms : List ℕ) (slots : List (Option Channel)) → slots ≡ replicate channel_limit None → AddedFrom specs rooms (length specs) slots
added_none specs rooms slots none = record {
  many = ap (λ (l : List (Option Channel)). length l) none;
  each = λ place c least new. absurd (omega (arith, least, slice_get_within specs place new.spec new.has_spec));
  only = λ n c there. absurd (let never : None ≡ Some c = sym (slot_free channel_limit n) ∙ (ap (λ (l : List (Option Channel)). slot_at l n) (sym none) ∙ there) in cc (never));
}

-- two channels of one place are one
one_new : (specs : List ChannelSpec) (rooms : List ℕ) (place : ℕ) (c d : Channel) → IsNewChannel specs rooms place c → IsNewChannel specs rooms place d → c ≡ d
one_new specs rooms place c d first second =
    let specs_agree : first.spec ≡ second.spec = cc (first.has_spec, second.has_spec) in
    let rooms_agree : first.room ≡ second.room = cc (first.has_room, second.has_room) in
    first.is ∙ (ap (λ (s : ChannelSpec). new_channel s first.room) specs_agree ∙ (ap (λ (r : ℕ). new_channel second.spec r) rooms_agree ∙ sym second.is))

pub added_more : (specs : List ChannelSpec) (rooms : List ℕ) (place : ℕ) (slots : List (Option Channel)) (c : Channel) → HaveNumbers specs → IsNewChannel specs rooms place c → AddedFrom specs rooms (place + 1) slots → AddedFrom specs rooms place (slice_set slots c.spec.number (Some c))
added_more specs rooms place slots c numbers new added =
    let number_is : c.spec.number ≡ new.spec.number = ap (λ (s : ChannelSpec). s.number) (spec_is specs rooms place c new) in
    let within : c.spec.number < length slots = omega (arith, number_is, numbers.below place new.spec new.has_spec, added.many) in
    record {
      many = length-set slots c.spec.number (Some c) ∙ added.many;
      each = λ other d least at. elim (same_or_other other place) as (λ w. slot_at (slice_set slots c.spec.number (Some c)) d.spec.number ≡ Some d) [
        | inl same ↦
            let is : d ≡ c = one_new specs rooms place d c (subst (λ (k : ℕ). IsNewChannel specs rooms k d) same at) new in
            subst (λ (x : Channel). slot_at (slice_set slots c.spec.number (Some c)) x.spec.number ≡ Some x) (sym is) (slot_set_same slots c.spec.number (Some c) within)
        | inr ne ↦
            let apart : d.spec.number ≢ c.spec.number = λ e. numbers.differ other place at.spec new.spec at.has_spec new.has_spec ne
            (sym (ap (λ (s : ChannelSpec). s.number) (spec_is specs rooms other d at)) ∙ (e ∙ number_is)) in
            slot_set_other slots c.spec.number d.spec.number (Some c) apart ∙ added.each other d (omega (arith, least, ne)) at
      ];
      only = λ n d there. elim (same_or_other n c.spec.number) as (λ w. (d.spec.number ≡ n) × ((k : ℕ) × IsNewChannel specs rooms k d)) [
        | inl same ↦
            let put : slot_at (slice_set slots c.spec.number (Some c)) c.spec.number ≡ Some c = slot_set_same slots c.spec.number (Some c) within in
            let is : c ≡ d = cc (put, same, there) in
            (subst (λ (x : Channel). x.spec.number ≡ n) is (sym same), (place, subst (λ (x : Channel). IsNewChannel specs rooms place x) is new))
        | inr other ↦ added.only n d (sym (slot_set_other slots c.spec.number n (Some c) other) ∙ there)
      ];
    }

pub all_added : (specs : List ChannelSpec) (rooms : List ℕ) (slots : List (Option Channel)) → AddedFrom specs rooms 0 slots → HasNewChannels specs rooms slots
all_added specs rooms slots added = record { many = added.many; each = λ place c new. added.each place c (omega arith) new; only = added.only }

-- One spec after another, from the last on.

-- where some are to come, one is left
pub none_left : (specs : List ChannelSpec) (k : ℕ) → k ≤ length specs → 0 < k → take k specs ≡ [] → ⊥
none_left specs k fits some none =
    let short : length (take k specs) ≡ 0 = ap (λ (l : List ChannelSpec). length l) none in omega (arith, short, some, length-take-le k specs fits)

none_taken : {X : Type 0} (before : List X) (x : X) → [] ≡ before ++ x ∷ [] → ⊥
none_taken {X} [] x is = cc (is)
none_taken {X} (b ∷ bs) x is = cc (is)

-- the last one of those that are left, and the others
taken_back : {X : Type 0} (xs before : List X) (x d : X) (k : ℕ) → k ≤ length xs → take k xs ≡ before ++ x ∷ [] → (get_or xs (length before) d ≡ x) × (take (length before) xs ≡ before) × (k ≡ length before + 1)
taken_back {X} [] before x d zero fits is = absurd (none_taken before x is)
taken_back {X} [] before x d (suc k) fits is = absurd (omega (arith, fits))
taken_back {X} (y ∷ ys) before x d zero fits is = absurd (none_taken before x is)
taken_back {X} (y ∷ ys) [] x d (suc k) fits is =
    let first : y ≡ x = cc (is) in
    let rest : take k ys ≡ [] = cc (is) in
    let none : length (take k ys) ≡ 0 = ap (λ (l : List X). length l) rest in
    (first, refl, omega (arith, none, length-take-le k ys (omega (arith, fits))))
taken_back {X} (y ∷ ys) (b ∷ bs) x d (suc k) fits is =
    let first : y ≡ b = cc (is) in
    let rest : take k ys ≡ bs ++ x ∷ [] = cc (is) in
    let below = taken_back ys bs x d k (omega (arith, fits)) rest in
    (below.0, ap (λ (z : X). z ∷ take (length bs) ys) first ∙ ap (λ (l : List X). b ∷ l) below.1, omega (arith, below.2))

-- a channel for the last spec that is left
pub put_more : (specs : List ChannelSpec) (rooms : List ℕ) (before : List ChannelSpec) (spec : ChannelSpec) (place k count : ℕ) (slots later : List (Option Channel)) (c : Channel) → HaveNumbers specs → length rooms ≡ length specs → k ≤ length specs → k ≡ place + 1
    → take k specs ≡ before ++ spec ∷ [] → count ≡ length before → c ≡ new_channel spec (get_or rooms count 0) → later ≡ slice_set slots spec.number (Some c) → AddedFrom specs rooms k slots → (before ≡ take place specs) × AddedFrom specs rooms place later
put_more specs rooms before spec place k count slots later c numbers many fits next left count_is is put added =
    let back = taken_back specs before spec spec k fits left in
    let here : length before ≡ place = omega (arith, back.2, next) in
    let so_far : AddedFrom specs rooms (place + 1) slots = subst (λ (n : ℕ). AddedFrom specs rooms n slots) next added in
    let has_spec : slice_get specs place ≡ Some spec =
    slice_get-get_or specs place spec (omega (arith, fits, next)) ∙ ap (λ (s : ChannelSpec). Some s) (ap (λ (n : ℕ). get_or specs n spec) (sym here) ∙ back.0) in
    let new : IsNewChannel specs rooms place c = record {
      spec = spec;
      room = get_or rooms place 0;
      has_spec = has_spec;
      has_room = slice_get-get_or rooms place 0 (omega (arith, fits, next, many));
      is = is ∙ ap (λ (n : ℕ). new_channel spec (get_or rooms n 0)) (count_is ∙ here);
    } in
    let number : c.spec.number ≡ spec.number = ap (λ (x : Channel). x.spec.number) is in
    let now : AddedFrom specs rooms place (slice_set slots c.spec.number (Some c)) = added_more specs rooms place slots c numbers new so_far in (
      sym back.1 ∙ ap (λ (n : ℕ). take n specs) here,
      subst (λ (l : List (Option Channel)). AddedFrom specs rooms place l) (ap (λ (n : ℕ). slice_set slots n (Some c)) number ∙ sym put) now,
    )

-- its number is one of the logger's
pub number_fits : (specs before : List ChannelSpec) (spec : ChannelSpec) (k : ℕ) → HaveNumbers specs → k ≤ length specs → take k specs ≡ before ++ spec ∷ [] → spec.number < channel_limit
number_fits specs before spec k numbers fits left =
    let back = taken_back specs before spec spec k fits left in
    numbers.below (length before) spec (slice_get-get_or specs (length before) spec (omega (arith, fits, back.2)) ∙ ap (λ (s : ChannelSpec). Some s) back.0)
