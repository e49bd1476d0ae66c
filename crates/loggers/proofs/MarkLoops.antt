-- What stands where a run is begun, paused, resumed or ended in one buffer after another.
use Rattle.std.specs.Prelude.{◌≡◌, ◌≢◌, ◌≤◌, ◌<◌, ℕ, zero, suc, List, [], ◌∷◌, ◌++◌, length, slice_get, slice_set, Option, Some, Result, Err, refl}
use Rattle.std.proofs.Common.{ap, sym, subst, ◌∙◌, arith, inl, inr}
use Rattle.buffer_core.specs.declared.replies.MarkRefusal.{MarkRefusal}
use Rattle.buffer_core.specs.declared.entry.BufferEntry.TheVariants.{Begin, Pause, Resume, End}
use Rattle.buffer_core.specs.Ports.{Access}
use Rattle.buffer_core.specs.Slots.{slot_at}
use Rattle.member_model.specs.Turns.{MemberTurn, AreEngineTurns}
use Rattle.mid_logger.specs.declared.channel.Channel.{Channel}
use Rattle.mid_logger.specs.declared.channel_spec.ChannelSpec.{ChannelSpec}
use Rattle.mid_logger.specs.declared.stage.ChannelRun.{ChannelRun}
use Rattle.mid_logger.specs.declared.stage.ChannelStage.{ChannelStage}
use Rattle.mid_logger.specs.Channels.{FileHead, KnowsTaken, stage_begun, stage_ended, place_marked}
use Rattle.mid_logger.specs.Beside.{CallsBeside, LeftBeside}
use Rattle.mid_logger.specs.Keeping.{BegunKeeps, EndedKeeps}
use Rattle.loggers.specs.Moments.{LoggerMoment, InTurn}
use Rattle.loggers.specs.Turning.{BeginsBuffer, EndsBuffer, PausesBuffer, ResumesBuffer, BeginsBelow, RefusesMark}
use Rattle.loggers.specs.LoggerStands.{IsStartedStage, ChannelKept, HasEndTurn, SlotsStand}
use Rattle.loggers.proofs.SlotLists.{same_or_other, got_there, got_elsewhere, many_set}
use Rattle.daq_io.specs.Seen.{Seen}
use Rattle.daq_io.specs.Told.{FilesTold}
use Rattle.loggers.proofs.PortSteps.{IsFrom}
use Rattle.loggers.proofs.OpenSlots.{FoundNone}
use Rattle.loggers.proofs.MarkMoves.{refused_quiet, pause_quiet, resume_quiet, called_stands, IsAskingStage, begun_started, begins_from, begins_stands, NeverEnded, HasBegunRun, begins_started, MayEnd, HasEnded, has_ended, NoneTold, ends_from, ends_stands}

-- Marks that no channel notes.

-- What stands, with the same channels and files.
record StaysStanding (H : ChannelRun → FileHead → Type 0) (turns : List MemberTurn) (slots : List (Option Channel)) (seen : Seen) (m : LoggerMoment) : Type 0 where
  standing : SlotsStand H turns m.slots m.ports m.files.seen
  same : m.slots ≡ slots
  quiet : m.files.seen ≡ seen

-- steps that keep this, one after another
all_stay : (H : ChannelRun → FileHead → Type 0) (turns : List MemberTurn) (Step : ℕ → LoggerMoment → LoggerMoment → Type 0) (slots : List (Option Channel)) (seen : Seen) (count : ℕ) (a b : LoggerMoment)
    → ((k : ℕ) (x y : LoggerMoment) → Step k x y → StaysStanding H turns slots seen x → StaysStanding H turns slots seen y) → InTurn Step count a b → StaysStanding H turns slots seen a → StaysStanding H turns slots seen b
all_stay H turns Step slots seen zero a b each steps stays = subst (λ (m : LoggerMoment). StaysStanding H turns slots seen m) (sym steps) stays
all_stay H turns Step slots seen (suc n) a b each steps stays = each n steps.0 b steps.2 (all_stay H turns Step slots seen n a steps.0 each steps.1 stays)

pub record HaveStayed (H : ChannelRun → FileHead → Type 0) (turns : List MemberTurn) (a b : LoggerMoment) : Type 0 where
  pub standing : SlotsStand H turns b.slots b.ports b.files.seen
  pub same : b.slots ≡ a.slots
  pub quiet : b.files.seen ≡ a.files.seen

pub paused_all : LeftBeside → CallsBeside → (H : ChannelRun → FileHead → Type 0) (turns : List MemberTurn) (start count : ℕ) (a b : LoggerMoment) → InTurn (λ buffer. PausesBuffer start buffer) count a b → SlotsStand H turns a.slots a.ports a.files.seen → HaveStayed H turns a b
paused_all law calls H turns start count a b steps stands =
    let done : StaysStanding H turns a.slots a.files.seen b = all_stay H turns (λ buffer. PausesBuffer start buffer) a.slots a.files.seen count a b
    (λ k x y step stays. record { standing = called_stands law calls H turns (Pause start step.0) k x y (pause_quiet start step.0) step.1 stays.standing; same = step.1.slots ∙ stays.same; quiet = ap (λ (f : FilesTold). f.seen) step.1.files ∙ stays.quiet }) steps
    (record { standing = stands; same = refl; quiet = refl }) in
    record { standing = done.standing; same = done.same; quiet = done.quiet }

pub resumed_all : LeftBeside → CallsBeside → (H : ChannelRun → FileHead → Type 0) (turns : List MemberTurn) (start count : ℕ) (a b : LoggerMoment) → InTurn (λ buffer. ResumesBuffer start buffer) count a b → SlotsStand H turns a.slots a.ports a.files.seen → HaveStayed H turns a b
resumed_all law calls H turns start count a b steps stands =
    let done : StaysStanding H turns a.slots a.files.seen b = all_stay H turns (λ buffer. ResumesBuffer start buffer) a.slots a.files.seen count a b
    (λ k x y step stays. record { standing = called_stands law calls H turns (Resume start step.0) k x y (resume_quiet start step.0) step.1 stays.standing; same = step.1.slots ∙ stays.same; quiet = ap (λ (f : FilesTold). f.seen) step.1.files ∙ stays.quiet }) steps
    (record { standing = stands; same = refl; quiet = refl }) in
    record { standing = done.standing; same = done.same; quiet = done.quiet }

-- The begin.

-- The run is begun in the buffers with numbers below this.
pub record BegunTo (H : ChannelRun → FileHead → Type 0) (turns : List MemberTurn) (start wide k : ℕ) (m : LoggerMoment) : Type 0 where
  pub standing : SlotsStand H turns m.slots m.ports m.files.seen
  pub ports : length m.ports ≡ wide
  pub done : (n : ℕ) → (c : Channel) → slot_at m.slots n ≡ Some c → c.spec.buffer < k → IsStartedStage start c.stage
  pub asking : (n : ℕ) → (c : Channel) → slot_at m.slots n ≡ Some c → k ≤ c.spec.buffer → IsAskingStage start c.stage
  pub found : FoundNone m.slots

begun_more : LeftBeside → BegunKeeps → (H : ChannelRun → FileHead → Type 0) (turns : List MemberTurn) (start wide k : ℕ) (a b : LoggerMoment) → BeginsBuffer start k a b → BegunTo H turns start wide k a → BegunTo H turns start wide (suc k) b
begun_more law begun H turns start wide k a b begins to = record {
  standing = begins_stands law begun H turns start k a b begins (λ n c stood same. to.asking n c stood (omega arith)) to.standing;
  ports = ap (λ (l : List Access). length l) begins.1.marks.ports ∙ (many_set a.ports k begins.1.marks.later_port ∙ to.ports);
  done = λ n c stood below.
      let f : IsFrom (λ s. stage_begun s begins.0) a.slots k n c = begins_from start k a b begins n c stood in
      let number : c.spec.buffer ≡ f.before.spec.buffer = ap (λ (s : ChannelSpec). s.buffer) f.keeps.spec in
      elim (same_or_other f.before.spec.buffer k) as (λ w. IsStartedStage start c.stage) [
        | inl hit ↦ subst (λ (s : ChannelStage). IsStartedStage start s) (sym (f.hit hit)) (begun_started f.before.stage start begins.0 (to.asking n f.before f.there (omega arith)))
        | inr miss ↦ subst (λ (s : ChannelStage). IsStartedStage start s) (sym (f.miss miss)) (to.done n f.before f.there (omega arith))
      ];
  asking = λ n c stood above.
      let f : IsFrom (λ s. stage_begun s begins.0) a.slots k n c = begins_from start k a b begins n c stood in
      let number : c.spec.buffer ≡ f.before.spec.buffer = ap (λ (s : ChannelSpec). s.buffer) f.keeps.spec in
      let miss : f.before.spec.buffer ≢ k = λ e. omega arith in
      subst (λ (s : ChannelStage). IsAskingStage start s) (sym (f.miss miss)) (to.asking n f.before f.there (omega arith));
  found = λ n c o stood is. let f : IsFrom (λ s. stage_begun s begins.0) a.slots k n c = begins_from start k a b begins n c stood in to.found n f.before o f.there (sym f.keeps.run ∙ is);
}

pub begun_below : LeftBeside → BegunKeeps → (H : ChannelRun → FileHead → Type 0) (turns : List MemberTurn) (start wide count : ℕ) (a b : LoggerMoment) → BeginsBelow start count a b → BegunTo H turns start wide 0 a → BegunTo H turns start wide count b
begun_below law begun H turns start wide zero a b steps to = subst (λ (m : LoggerMoment). BegunTo H turns start wide 0 m) (sym steps) to
begun_below law begun H turns start wide (suc n) a b steps to = begun_more law begun H turns start wide n steps.0 b steps.2 (begun_below law begun H turns start wide n a steps.0 steps.1 to)

-- where a buffer refuses to begin the run
pub begin_refused : LeftBeside → CallsBeside → BegunKeeps → (H : ChannelRun → FileHead → Type 0) (turns : List MemberTurn) (start wide count : ℕ) (a b : LoggerMoment) → RefusesMark start count a b → BegunTo H turns start wide 0 a → SlotsStand H turns b.slots b.ports b.files.seen
begin_refused law calls begun H turns start wide count a b refuses to =
    called_stands law calls H turns (Begin start (Err refuses.refuses.0)) count refuses.begun b (refused_quiet start refuses.refuses.0) refuses.refuses.1 ((begun_below law begun H turns start wide count a refuses.begun refuses.begins to).standing)

-- The end.

-- The run is ended in the buffers with numbers below this, or was to be; the other ports have no end of it, where the turns
-- are an engine's.
pub record EndedTo (Spare : Type 0) (H : ChannelRun → FileHead → Type 0) (turns : List MemberTurn) (start wide k : ℕ) (m : LoggerMoment) : Type 0 where
  pub standing : SlotsStand H turns m.slots m.ports m.files.seen
  pub ports : length m.ports ≡ wide
  pub done : (n : ℕ) → (c : Channel) → (x : Access) → slot_at m.slots n ≡ Some c → slice_get m.ports c.spec.buffer ≡ Some x → c.spec.buffer < k → HasEnded Spare turns x.own start c.stage
  pub may : (n : ℕ) → (c : Channel) → slot_at m.slots n ≡ Some c → k ≤ c.spec.buffer → MayEnd Spare start c.stage
  pub never : AreEngineTurns turns → (buffer : ℕ) → (x : Access) → k ≤ buffer → slice_get m.ports buffer ≡ Some x → NeverEnded x.own start
  pub knows : (n : ℕ) → (c : Channel) → slot_at m.slots n ≡ Some c → KnowsTaken m.files.seen c.spec c.stage

ended_more : LeftBeside → CallsBeside → EndedKeeps → (Spare : Type 0) (H : ChannelRun → FileHead → Type 0) (turns : List MemberTurn) (start wide k : ℕ) (a b : LoggerMoment) → HasEndTurn turns start → NoneTold turns start → EndsBuffer start k a b
    → EndedTo Spare H turns start wide k a → EndedTo Spare H turns start wide (suc k) b
ended_more law calls ended Spare H turns start wide k a b turn none ends to =
    let called = ends.1.marks in
    let p : Access = called.port in
    let q : Access = called.later_port in
    let reply : Result ℕ MarkRefusal = ends.0 in
    let put : slice_get (slice_set a.ports k q) k ≡ Some q = got_there a.ports k p q called.at_port in
    let never : AreEngineTurns turns → NeverEnded p.own start = λ are. to.never are k p (omega arith) called.at_port in
    record {
      standing = ends_stands law calls ended Spare H turns start k a b ends turn none never (λ n c stood same. to.may n c stood (omega arith)) to.standing;
      ports = ap (λ (l : List Access). length l) called.ports ∙ (many_set a.ports k q ∙ to.ports);
      done = λ n c x stood at below.
          let f : IsFrom (λ s. stage_ended s (place_marked reply)) a.slots k n c = ends_from start k a b ends n c stood in
          let number : c.spec.buffer ≡ f.before.spec.buffer = ap (λ (s : ChannelSpec). s.buffer) f.keeps.spec in
          let at_set : slice_get (slice_set a.ports k q) f.before.spec.buffer ≡ Some x = subst (λ (l : List Access). slice_get l f.before.spec.buffer ≡ Some x) called.ports (subst (λ (j : ℕ). slice_get b.ports j ≡ Some x) number at) in
          elim (same_or_other f.before.spec.buffer k) as (λ w. HasEnded Spare turns x.own start c.stage) [
            | inl hit ↦
                let is : q ≡ x = cc (put, hit, at_set) in
                let own : x.own ≡ p.own ++ End start reply ∷ [] = sym (ap (λ (y : Access). y.own) is) ∙ called.called.own in
                let at_port : slice_get a.ports f.before.spec.buffer ≡ Some p = subst (λ (j : ℕ). slice_get a.ports j ≡ Some p) (sym hit) called.at_port in
                let kept : ChannelKept H a.files.seen f.before p = to.standing.channels n f.before p f.there at_port in
                let begun : IsStartedStage start f.before.stage → HasBegunRun p.own start =
                λ started. begins_started f.before.spec f.before.client f.before.stage start kept.head p.own p.got a.files.seen started kept.stands in
                rw (own, f.hit hit) (has_ended Spare turns p.own f.before.stage start reply never begun (to.may n f.before f.there (omega arith)))
            | inr miss ↦
                let at_before : slice_get a.ports f.before.spec.buffer ≡ Some x = got_elsewhere a.ports k f.before.spec.buffer q x miss at_set in
                subst (λ (s : ChannelStage). HasEnded Spare turns x.own start s) (sym (f.miss miss)) (to.done n f.before x f.there at_before (omega arith))
          ];
      may = λ n c stood above.
          let f : IsFrom (λ s. stage_ended s (place_marked reply)) a.slots k n c = ends_from start k a b ends n c stood in
          let number : c.spec.buffer ≡ f.before.spec.buffer = ap (λ (s : ChannelSpec). s.buffer) f.keeps.spec in
          let miss : f.before.spec.buffer ≢ k = λ e. omega arith in
          subst (λ (s : ChannelStage). MayEnd Spare start s) (sym (f.miss miss)) (to.may n f.before f.there (omega arith));
      never = λ are buffer x above at.
          let other : buffer ≢ k = λ e. omega arith in
          let at_set : slice_get (slice_set a.ports k q) buffer ≡ Some x = subst (λ (l : List Access). slice_get l buffer ≡ Some x) called.ports at in
          to.never are buffer x (omega arith) (got_elsewhere a.ports k buffer q x other at_set);
      knows = rw called.files (λ n c stood.
          let f : IsFrom (λ s. stage_ended s (place_marked reply)) a.slots k n c = ends_from start k a b ends n c stood in
          subst (λ (s : ChannelSpec). KnowsTaken a.files.seen s c.stage) (sym f.keeps.spec) (λ o is taken told. to.knows n f.before f.there o (sym f.keeps.run ∙ is) taken told));
    }

pub ended_below : LeftBeside → CallsBeside → EndedKeeps → (Spare : Type 0) (H : ChannelRun → FileHead → Type 0) (turns : List MemberTurn) (start wide count : ℕ) (a b : LoggerMoment) → HasEndTurn turns start → NoneTold turns start → InTurn (λ buffer. EndsBuffer start buffer) count a b
    → EndedTo Spare H turns start wide 0 a → EndedTo Spare H turns start wide count b
ended_below law calls ended Spare H turns start wide zero a b turn none steps to = subst (λ (m : LoggerMoment). EndedTo Spare H turns start wide 0 m) (sym steps) to
ended_below law calls ended Spare H turns start wide (suc n) a b turn none steps to =
    ended_more law calls ended Spare H turns start wide n steps.0 b turn none steps.2 (ended_below law calls ended Spare H turns start wide n a steps.0 turn none steps.1 to)
