-- What the calls need, and that every channel is idle, behind the ending of the files.
use Rattle.std.specs.Prelude.{◌≡◌, ◌≢◌, ◌≤◌, ◌<◌, ◌-◌, ℕ, zero, suc, Bool, true, false, min, List, length, slice_get, slice_set, Option, Some, None, refl}
use Rattle.std.specs.List.{list_all}
use Rattle.std.proofs.Common.{ap, sym, subst, ◌∙◌, arith}
use Rattle.std.proofs.lemmas.List.{length-set}
use Rattle.event.specs.Events.{event_limit}
use Rattle.buffer_core.specs.Ports.{Access}
use Rattle.buffer_core.specs.Slots.{slot_at}
use Rattle.buffer_core.proofs.SlotLaws.{slot_within}
use Rattle.mid_logger.specs.declared.channel.Channel.{Channel}
use Rattle.mid_logger.specs.declared.channel_spec.ChannelSpec.{ChannelSpec}
use Rattle.mid_logger.specs.declared.stage.ChannelStage.TheVariants.{Idle}
use Rattle.mid_logger.specs.Channels.{files_by as files_made}
use Rattle.loggers.specs.Moments.{InTurn, HaveFilesOpen, IsLoggerReady, AreIdleChannels}
use Rattle.loggers.specs.SlotPulls.{HasEventRoom}
use Rattle.loggers.specs.Finishing.{is_settled_stage, is_settled_slot, waiting_stop, EndingMoment, EndsSlot, EndsSlotAt, LoggerFinish, ending_of, FinishesBy, FinishesLogger}
use Rattle.loggers.proofs.SlotLists.{one_changed}
use Rattle.loggers.proofs.CloseMoves.{settled_idle}
use Rattle.loggers.proofs.FinishedLogger.{all_settled}

-- Each channel stood there before, with its spec and its room for an event.
record ComesFrom (slots : List (Option Channel)) (n : ℕ) (after : Channel) : Type 0 where
  before : Channel
  there : slot_at slots n ≡ Some before
  spec : after.spec ≡ before.spec
  room : after.event.room ≡ before.event.room

record KeepsSlots (slots later : List (Option Channel)) : Type 0 where
  many : length later ≡ length slots
  from : (n : ℕ) → (c : Channel) → slot_at later n ≡ Some c → ComesFrom slots n c

-- The files of the channels with numbers below this were ended, where each was settled.
record SettledTo (slots : List (Option Channel)) (k : ℕ) (m : EndingMoment) : Type 0 where
  keeps : KeepsSlots slots m.slots
  idle : (n : ℕ) → (c : Channel) → slot_at m.slots n ≡ Some c → n < k → c.stage ≡ Idle
  settled : (n : ℕ) → (c : Channel) → slot_at m.slots n ≡ Some c → k ≤ n → is_settled_stage c.stage ≡ true

settled_slot : (slots : List (Option Channel)) (time : ℕ) (dump : Option (List ℕ)) (k : ℕ) (slot : Option Channel) (a b : EndingMoment) → slot_at a.slots k ≡ slot → EndsSlot time dump k slot a b → SettledTo slots k a → SettledTo slots (suc k) b
settled_slot slots time dump k None a b there same to =
    let never : (n : ℕ) (c : Channel) → slot_at a.slots n ≡ Some c → n ≡ k → ⊥ = λ n c stood is. (let e : None ≡ Some c = sym there ∙ subst (λ (j : ℕ). slot_at a.slots j ≡ Some c) is stood in cc (e)) in
    let now : SettledTo slots (suc k) a = record {
      keeps = to.keeps;
      idle = λ n c stood below. to.idle n c stood (let other : n ≢ k = never n c stood in omega arith);
      settled = λ n c stood above. to.settled n c stood (omega arith);
    } in
    subst (λ (m : EndingMoment). SettledTo slots (suc k) m) (sym same) now
settled_slot slots time dump k (Some before) a b there ends to =
    let after : Channel = ends.after in
    let spec : after.spec ≡ before.spec = ap (λ (c : Channel). c.spec) ends.ends.channel in
    let room : after.event.room ≡ before.event.room = ap (λ (c : Channel). c.event.room) ends.ends.channel in
    let was : ComesFrom slots k before = to.keeps.from k before there in
    let stage : after.stage ≡ Idle = ap (λ (c : Channel). c.stage) ends.ends.channel ∙ settled_idle before.stage (to.settled k before there (omega arith)) in
    let here : ComesFrom slots k after = record { before = was.before; there = was.there; spec = spec ∙ was.spec; room = room ∙ was.room } in
    let now : SettledTo slots (suc k) (ending_of (slice_set a.slots k (Some after)) b.files b.told) = record {
      keeps = record {
        many = length-set a.slots k (Some after) ∙ to.keeps.many;
        from = one_changed (λ n c. ComesFrom slots n c) a.slots k after (λ x stood. here) (λ n c other stood. to.keeps.from n c stood) before there;
      };
      idle = λ n c stood below. one_changed (λ j x. j < suc k → x.stage ≡ Idle) a.slots k after (λ x at low. stage) (λ j x other at low. to.idle j x at (omega arith)) before there n c stood below;
      settled = λ n c stood above. one_changed (λ j x. suc k ≤ j → is_settled_stage x.stage ≡ true) a.slots k after (λ x at high. absurd (omega arith)) (λ j x other at high. to.settled j x at (omega arith)) before there n c stood above;
    } in
    subst (λ (l : List (Option Channel)). SettledTo slots (suc k) (ending_of l b.files b.told)) (sym ends.slots) now

settled_below : (slots : List (Option Channel)) (time : ℕ) (dump : Option (List ℕ)) (count : ℕ) (a b : EndingMoment) → InTurn (λ number. EndsSlotAt time dump number) count a b → SettledTo slots 0 a → SettledTo slots count b
settled_below slots time dump zero a b steps to = subst (λ (m : EndingMoment). SettledTo slots 0 m) (sym steps) to
settled_below slots time dump (suc n) a b steps to = settled_slot slots time dump n (slot_at steps.0.slots n) steps.0 b refl steps.2 (settled_below slots time dump n a steps.0 steps.1 to)

all_ended : (time : ℕ) (dump : Option (List ℕ)) (a b : EndingMoment) → list_all is_settled_slot a.slots ≡ true → InTurn (λ number. EndsSlotAt time dump number) (length a.slots) a b → SettledTo a.slots (length a.slots) b
all_ended time dump a b settled steps = settled_below a.slots time dump (length a.slots) a b steps (record {
  keeps = record { many = refl; from = λ n c stood. record { before = c; there = stood; spec = refl; room = refl } };
  idle = λ n c stood below. absurd (omega arith);
  settled = λ n c stood above. all_settled a.slots n c settled stood;
})

-- every channel is idle behind the endings
pub ended_idle : (time : ℕ) (dump : Option (List ℕ)) (a b : EndingMoment) → list_all is_settled_slot a.slots ≡ true → InTurn (λ number. EndsSlotAt time dump number) (length a.slots) a b → AreIdleChannels b.slots
ended_idle time dump a b settled steps n c stood =
    let to : SettledTo a.slots (length a.slots) b = all_ended time dump a b settled steps in
    to.idle n c stood (omega (arith, slot_within b.slots n c stood, to.keeps.many))

-- the calls have what they need behind them
pub ended_ready : (time : ℕ) (dump : Option (List ℕ)) (a b : EndingMoment) (ports : List Access) → list_all is_settled_slot a.slots ≡ true → InTurn (λ number. EndsSlotAt time dump number) (length a.slots) a b → HaveFilesOpen b.slots b.files.seen
    → IsLoggerReady a.slots ports a.files.seen → IsLoggerReady b.slots ports b.files.seen
ended_ready time dump a b ports settled steps files ready =
    let to : SettledTo a.slots (length a.slots) b = all_ended time dump a b settled steps in
    record {
      many = omega (arith, ready.many, to.keeps.many);
      few = λ n c stood. (let none : files_made c.stage ≡ 0 = ap files_made (to.idle n c stood (omega (arith, slot_within b.slots n c stood, to.keeps.many))) in omega (arith, none));
      served = λ n c stood.
          let f : ComesFrom a.slots n c = to.keeps.from n c stood in
          subst (λ (s : ChannelSpec). s.buffer < length ports) (sym f.spec) (ready.served n f.before f.there);
      files = files;
    }

kept_room : (slots later : List (Option Channel)) (ports : List Access) → KeepsSlots slots later → ((number : ℕ) → HasEventRoom number slots ports) → (number : ℕ) → HasEventRoom number later ports
kept_room slots later ports keeps room number c a stood at =
    let f : ComesFrom slots number c = keeps.from number c stood in
    let at_before : slice_get ports f.before.spec.buffer ≡ Some a = subst (λ (s : ChannelSpec). slice_get ports s.buffer ≡ Some a) f.spec at in
    subst (λ (r : ℕ). min event_limit (a.size - 24) ≤ r) (sym f.room) (room number f.before a f.there at_before)

room_by : (f : LoggerFinish) (ports : List Access) (settled : Bool) (stop : Option ℕ) → list_all is_settled_slot f.slots ≡ settled → FinishesBy settled stop f → ((number : ℕ) → HasEventRoom number f.slots ports) → (number : ℕ) → HasEventRoom number f.later_slots ports
room_by f ports settled None all leaves room = subst (λ (l : List (Option Channel)). (number : ℕ) → HasEventRoom number l ports) (sym leaves.slots) room
room_by f ports false (Some time) all leaves room = subst (λ (l : List (Option Channel)). (number : ℕ) → HasEventRoom number l ports) (sym leaves.slots) room
room_by f ports true (Some time) all ends room = kept_room f.slots f.later_slots ports (all_ended time f.dumps.stop _ _ all ends.ends).keeps room

-- each channel has room for the same events behind a finish
pub ended_room : (f : LoggerFinish) (ports : List Access) → FinishesLogger f → ((number : ℕ) → HasEventRoom number f.slots ports) → (number : ℕ) → HasEventRoom number f.later_slots ports
ended_room f ports finishes room = room_by f ports (list_all is_settled_slot f.slots) (waiting_stop f.run) refl finishes room
