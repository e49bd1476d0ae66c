-- Counts that rose by so many, and what is told of a list by its members.
use Rattle.std.specs.Prelude.{◌≡◌, ◌≤◌, ◌+◌, ◌-◌, ◌^◌, ◌==◌, min, nat_lt, ℕ, zero, suc, Bool, true, false, if◌then◌else◌, cond, is_some, sum_by, List, [], ◌∷◌, map, slice_get, slice_set, Option, Some, None, ◌⊎◌, refl}
use Rattle.std.specs.Option.{option_map}
use Rattle.std.proofs.Common.{ap, subst, arith, inl, inr}
use Rattle.std.proofs.lemmas.List.Sums.{sum_by-cons}
use Rattle.daq_types.specs.declared.runs.ChannelEnd.{ChannelEnd}
use Rattle.daq_types.specs.declared.runs.Why.{Why}
use Rattle.daq_types.specs.declared.runs.Why.TheVariants.{NotReady, Exists, Fault, BufferRefused}
use Rattle.daq_io.specs.Counts.{Rose, RoseBy}
use Rattle.daq_io.specs.Told.{FilesTold}
use Rattle.daq_io.proofs.Counts.{RoseBy-fewer, RoseBy-then}
use Rattle.buffer_core.specs.Slots.{slot_at, passes}
use Rattle.transitions.specs.declared.answers.Answer.TheVariants.{Yes, No}
use Rattle.member_model.specs.RunEngines.{Answer, Tally}
use Rattle.transitions.specs.declared.answers.Tally.TheVariants.{Plain, Front, Channels, Report}
use Rattle.member_model.specs.Turns.{MemberTurn, HasTurn}
use Rattle.mid_logger.specs.declared.channel.Channel.{Channel}
use Rattle.mid_logger.specs.declared.stage.ChannelStage.{ChannelStage}
use Rattle.mid_logger.specs.ChannelTurns.{broken_run}
use Rattle.loggers.specs.Moments.{noted_channel}
use Rattle.loggers.specs.Reasons.{IsReasonSo, AreEndsSo, IsAnswerSo, AreAnswersSo, NoneFell, GivesReasons}
use Rattle.loggers.specs.ToldCounts.{faults_of_state, faults_of_end, faults_of_refusal, faults_of_answer, clashes_of_answer, count_in_answer, faults_told, clashes_told, broken_off}

-- Counts.

-- a count stayed, or rose
abbrev pub StaysOrRose : (old new : ℕ) → Type 0
StaysOrRose old new = (new ≡ old) ⊎ Rose old new

pub by_none : (f g : ℕ) → StaysOrRose f g → RoseBy 0 f g
by_none f g stays = elim stays as (λ w. RoseBy 0 f g) [
  | inl same ↦ omega (arith, same)
  | inr rose ↦ RoseBy-fewer 0 1 f g (omega arith) rose
]

pub by_same : (f g : ℕ) → g ≡ f → RoseBy 0 f g
by_same f g same = by_none f g (inl same)

-- a count that did not fall is as it was, or rose
none_or_more : (f g m : ℕ) → min (f + 0) m ≤ g → (g ≡ f) ⊎ (min (f + 1) m ≤ g)
none_or_more f g m h = by_more (nat_lt f g) refl
  where
    by_more : (b : Bool) → nat_lt f g ≡ b → (g ≡ f) ⊎ (min (f + 1) m ≤ g)
    by_more true is = inr (grind arith)
    by_more false is = by_full (nat_lt m (f + 1)) refl
      where
        by_full : (b : Bool) → nat_lt m (f + 1) ≡ b → (g ≡ f) ⊎ (min (f + 1) m ≤ g)
        by_full true full = inr (grind arith)
        by_full false room = inl (grind arith)

pub by_stays : (many f g : ℕ) → RoseBy many f g → StaysOrRose f g
by_stays many f g rose =
    let none : RoseBy 0 f g = RoseBy-fewer 0 many f g (omega arith) rose in
    none_or_more f g (2 ^ 64 - 1) none

pub by_some : (many f g : ℕ) → 1 ≤ many → RoseBy many f g → Rose f g
by_some many f g some rose = RoseBy-fewer 1 many f g some rose

-- nothing falls
pub fell_same : (files : FilesTold) → NoneFell files files
fell_same files = record { faults = by_same files.faults files.faults refl; clashes = by_same files.clashes files.clashes refl }

pub fell_then : (f g h : FilesTold) → NoneFell f g → NoneFell g h → NoneFell f h
fell_then f g h first second = record {
  faults = RoseBy-then 0 0 f.faults g.faults h.faults first.faults second.faults;
  clashes = RoseBy-then 0 0 f.clashes g.clashes h.clashes first.clashes second.clashes;
}

-- Sums.

module _ {X : Type 0} (f : X → ℕ) where
  -- a member counts for no more than the list
  pub member_counts : (xs : List X) (n : ℕ) (x : X) → slice_get xs n ≡ Some x → f x ≤ sum_by f xs
  member_counts [] n x there = absurd (cc (there))
  member_counts (y ∷ ys) zero x there =
      let is : y ≡ x = cc (there) in
      let same : f y ≡ f x = ap f is in
      omega (arith, same, sum_by-cons f y ys)
  member_counts (y ∷ ys) (suc n) x there = omega (arith, member_counts ys n x there, sum_by-cons f y ys)

  -- a list counts for no more than before and what is put into it
  pub put_counts : (xs : List X) (n : ℕ) (x : X) → sum_by f (slice_set xs n x) ≤ sum_by f xs + f x
  put_counts [] n x = omega arith
  put_counts (y ∷ ys) zero x = omega (arith, sum_by-cons f y ys, sum_by-cons f x ys)
  put_counts (y ∷ ys) (suc n) x = omega (arith, put_counts ys n x, sum_by-cons f y ys, sum_by-cons f y (slice_set ys n x))

-- a turn counts for no more than the turns
pub has_counts : (f : MemberTurn → ℕ) (turns : List MemberTurn) (t : MemberTurn) → HasTurn turns t → f t ≤ sum_by f turns
has_counts f [] t stands = absurd stands
has_counts f (u ∷ us) t stands = elim stands as (λ w. f t ≤ sum_by f (u ∷ us)) [
  | inl same ↦
      let its : f u ≡ f t = ap f same in
      omega (arith, its, sum_by-cons f u us)
  | inr old ↦ omega (arith, has_counts f us t old, sum_by-cons f u us)
]

turn_counts : (count : Answer → ℕ) (turns : List MemberTurn) (t : MemberTurn) (answer : Answer) → HasTurn turns t → t.answer ≡ Some answer → count answer ≤ sum_by (λ (u : MemberTurn). count_in_answer count u.answer) turns
turn_counts count turns t answer stands is =
    subst (λ (n : ℕ). n ≤ sum_by (λ (u : MemberTurn). count_in_answer count u.answer) turns) (ap (count_in_answer count) is) (has_counts (λ (u : MemberTurn). count_in_answer count u.answer) turns t stands)

-- Channels that broke off.

-- 1 where a channel at this stage broke off
abbrev pub off_of : ChannelStage → ℕ
off_of stage = cond (is_some (broken_run stage)) 1 0

pub off_at_most : (stage : ChannelStage) → off_of stage ≤ 1
off_at_most stage = by_off (is_some (broken_run stage))
  where
    by_off : (b : Bool) → cond b 1 0 ≤ 1
    by_off true = omega arith
    by_off false = omega arith

abbrev slot_off : Option Channel → ℕ
slot_off slot = cond (passes (λ (c : Channel). is_some (broken_run c.stage)) slot) 1 0

-- one channel changed
pub set_off : (slots : List (Option Channel)) (n : ℕ) (before after : Channel) → slot_at slots n ≡ Some before → broken_off (slice_set slots n (Some after)) + off_of before.stage ≡ broken_off slots + off_of after.stage
set_off [] n before after there = absurd (cc (there))
set_off (o ∷ os) zero before after there =
    let was : slot_off o ≡ off_of before.stage = ap slot_off there in
    omega (arith, was, sum_by-cons slot_off o os, sum_by-cons slot_off (Some after) os)
set_off (o ∷ os) (suc n) before after there = omega (arith, set_off os n before after there, sum_by-cons slot_off o os, sum_by-cons slot_off o (slice_set os n (Some after)))

-- the note breaks no channel off, and mends none
abbrev pub KeepsOff : (note : ChannelStage → ChannelStage) → Type 0
KeepsOff note = (stage : ChannelStage) → off_of (note stage) ≡ off_of stage

noted_off : (note : ChannelStage → ChannelStage) (buffer : ℕ) (slot : Option Channel) → KeepsOff note → slot_off (option_map (noted_channel note buffer) slot) ≡ slot_off slot
noted_off note buffer None keeps = refl
noted_off note buffer (Some c) keeps = by_hit (c.spec.buffer == buffer)
  where
    by_hit : (hit : Bool) → off_of (if hit then record c { stage = note c.stage } else c).stage ≡ off_of c.stage
    by_hit true = keeps c.stage
    by_hit false = refl

pub map_off : (note : ChannelStage → ChannelStage) (buffer : ℕ) (slots : List (Option Channel)) → KeepsOff note → broken_off (map (option_map (noted_channel note buffer)) slots) ≡ broken_off slots
map_off note buffer [] keeps = refl
map_off note buffer (o ∷ os) keeps = omega (arith, noted_off note buffer o keeps, map_off note buffer os keeps, sum_by-cons slot_off o os, sum_by-cons slot_off (option_map (noted_channel note buffer) o) (map (option_map (noted_channel note buffer)) os))

-- What the counts tell of each answer.

reason_by : (why : Why) (old new : FilesTold) → RoseBy (faults_of_refusal why) old.faults new.faults → RoseBy (clashes_of_answer (No why)) old.clashes new.clashes → IsReasonSo why old new
reason_by NotReady old new faults clashes = tt
reason_by (Exists channel) old new faults clashes = clashes
reason_by (Fault channel) old new faults clashes = faults
reason_by BufferRefused old new faults clashes = tt

ends_by : (ends : List ChannelEnd) (old new : FilesTold) → RoseBy (sum_by faults_of_end ends) old.faults new.faults → AreEndsSo ends old new
ends_by ends old new faults = λ n told at broke.
    let one : faults_of_end told ≡ 1 = ap faults_of_state broke in
    by_some (sum_by faults_of_end ends) old.faults new.faults (omega (arith, one, member_counts faults_of_end ends n told at)) faults

tally_by : (tally : Tally) (old new : FilesTold) → RoseBy (faults_of_answer (Yes tally)) old.faults new.faults → IsAnswerSo (Yes tally) old new
tally_by Plain old new faults = tt
tally_by (Front sent ended) old new faults = tt
tally_by (Channels ends) old new faults = ends_by ends old new faults
tally_by (Report report) old new faults = tt

pub answer_by : (answer : Answer) (old new : FilesTold) → RoseBy (faults_of_answer answer) old.faults new.faults → RoseBy (clashes_of_answer answer) old.clashes new.clashes → IsAnswerSo answer old new
answer_by (Yes tally) old new faults clashes = tally_by tally old new faults
answer_by (No why) old new faults clashes = reason_by why old new faults clashes

pub reasons_tell : (slots : List (Option Channel)) (ports : _) (first now : FilesTold) (turns : List MemberTurn) → GivesReasons slots ports first now turns → AreAnswersSo turns first now
reasons_tell slots ports first now turns gives = λ t answer stands is.
    let many : faults_of_answer answer ≤ faults_told turns = turn_counts faults_of_answer turns t answer stands is in
    answer_by answer first now
    (RoseBy-fewer (faults_of_answer answer) (faults_told turns + broken_off slots) first.faults now.faults (omega (arith, many)) gives.faults)
    (RoseBy-fewer (clashes_of_answer answer) (clashes_told turns) first.clashes now.clashes (turn_counts clashes_of_answer turns t answer stands is) gives.clashes)
