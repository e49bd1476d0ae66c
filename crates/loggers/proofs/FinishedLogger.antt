-- What a logger keeps where it answers the stop that waits.
use Rattle.std.specs.Prelude.{◌≡◌, ◌≢◌, ◌≤◌, ◌<◌, ◌+◌, ◌&&◌, ℕ, zero, suc, Bool, true, false, IsTrue, IsSome, List, [], ◌∷◌, length, slice_get, slice_set, Option, Some, None, refl}
use Rattle.std.specs.List.{list_all}
use Rattle.std.proofs.Common.{ap, sym, subst, ◌∙◌, arith, inl, inr}
use Rattle.std.proofs.lemmas.List.{length-set, length-replicate}
use Rattle.daq_types.specs.declared.runs.ChannelEnd.{ChannelEnd}
use Rattle.daq_types.specs.declared.runs.Order.{Order}
use Rattle.daq_types.specs.declared.runs.Transition.TheVariants.{Stop}
use Rattle.daq_io.specs.Seen.{Seen}
use Rattle.buffer_core.specs.declared.entry.BufferEntry.{BufferEntry}
use Rattle.buffer_core.specs.declared.entry.BufferEntry.TheVariants.{End}
use Rattle.buffer_core.specs.Ports.{Access}
use Rattle.buffer_core.specs.Slots.{slot_at}
use Rattle.buffer_core.proofs.SlotLaws.{slot_within}
use Rattle.transitions.specs.declared.answers.Answer.TheVariants.{Yes}
use Rattle.transitions.specs.declared.answers.Tally.TheVariants.{Channels}
use Rattle.member_model.specs.Turns.{MemberTurn, AreEngineTurns, latest_answered}
use Rattle.mid_logger.specs.declared.channel.Channel.{Channel}
use Rattle.mid_logger.specs.declared.channel_spec.ChannelSpec.{ChannelSpec}
use Rattle.sub_files.specs.Patterns.{piece_name_by}
use Rattle.mid_logger.specs.declared.stage.BegunRun.{BegunRun}
use Rattle.mid_logger.specs.declared.stage.ChannelRun.{ChannelRun}
use Rattle.mid_logger.specs.declared.stage.ChannelStage.{ChannelStage}
use Rattle.mid_logger.specs.declared.stage.ChannelStage.TheVariants.{Idle}
use Rattle.mid_logger.specs.Channels.{FileHead, KnowsTaken, channel_run}
use Rattle.mid_logger.specs.Beside.{ClosesBeside, FilesBeside, LeftBeside}
use Rattle.mid_logger.specs.Keeping.{KeepsThere, ClosesKeep, ClosesChange, ClosesKnow}
use Rattle.loggers.specs.declared.logged_run.LoggedRun.{LoggedRun}
use Rattle.loggers.specs.declared.logged_run.RunDumps.{RunDumps}
use Rattle.loggers.specs.Turning.{no_dumps}
use Rattle.loggers.specs.declared.logged_run.RunPart.{RunPart}
use Rattle.loggers.specs.declared.logged_run.RunPart.TheVariants.{Refused, Started, Stopping}
use Rattle.loggers.specs.Moments.{InTurn, HaveFilesOpen, channel_limit}
use Rattle.loggers.specs.Finishing.{is_settled_stage, is_settled_slot, waiting_stop, EndingMoment, EndsNumbered, EndsSlot, EndsSlotAt, LoggerFinish, idle_end, ends_idle, EndsFiles, FinishesBy, FinishesLogger}
use Rattle.loggers.specs.LoggerStands.{logger_turn, HasHead, HasEndTurn, IsEndTold, IsHeadTold, IsStoppingStage, IsStagePart, IsStageOf, ChannelKept, PortKept, IsNoOpenName, TakenStays, ToldSo, SlotsStand, IsStopWaiting, IsPartTold, IsRunTold, LoggerHolds}
use Rattle.loggers.proofs.SlotLists.{one_changed, got_there, kept_there}
use Rattle.loggers.proofs.StoppedRuns.{there_is}
use Rattle.loggers.proofs.ReadySteps.{ended_files}
use Rattle.loggers.proofs.Moved.{Moves, moved, left_moved, grown_none}
use Rattle.loggers.proofs.CloseMoves.{LeftNow, close_moves, put_back, settled_idle, left_now}
use Rattle.loggers.proofs.TurnsKnown.{TurnsKnown, stop_answered, across, finish_known}
use Rattle.loggers.proofs.TurnMore.{each_map, left_as, told_as}

-- what is known of the ending of a channel's files
pub record EndingLaws : Type 0 where
  pub left : LeftBeside
  pub keep : ClosesKeep
  pub change : ClosesChange
  pub know : ClosesKnow
  pub beside : ClosesBeside
  pub files : FilesBeside

-- One channel after another.

-- The files of the channels with numbers below this were ended, and their runs are left so.
record EndedTo (turns : List MemberTurn) (dumps : RunDumps) (stop : MemberTurn) (ports : List Access) (many k : ℕ) (m : EndingMoment) : Type 0 where
  standing : SlotsStand (IsHeadTold turns dumps) turns m.slots ports m.files.seen
  in_use : HaveFilesOpen m.slots m.files.seen
  served : (n : ℕ) → (c : Channel) → slot_at m.slots n ≡ Some c → c.spec.buffer < length ports
  wide : length m.told ≡ channel_limit
  long : length m.slots ≡ many
  knows : (n : ℕ) → (c : Channel) → slot_at m.slots n ≡ Some c → KnowsTaken m.files.seen c.spec c.stage
  stages : (n : ℕ) → (c : Channel) → (a : Access) → slot_at m.slots n ≡ Some c → slice_get ports c.spec.buffer ≡ Some a → k ≤ n → IsStoppingStage turns a.own stop.order.start c.stage × (is_settled_stage c.stage ≡ true)
  idle : (n : ℕ) → (c : Channel) → slot_at m.slots n ≡ Some c → n < k → c.stage ≡ Idle
  left : AreEngineTurns turns → (n : ℕ) → (c : Channel) → (a : Access) → slot_at m.slots n ≡ Some c → slice_get ports c.spec.buffer ≡ Some a → n < k → (told : ChannelEnd) × (slice_get m.told n ≡ Some told) × LeftNow turns m.slots m.files.seen c a stop told

ended_none : (turns : List MemberTurn) (dumps : RunDumps) (stop : MemberTurn) (ports : List Access) (many k : ℕ) (m : EndingMoment) → slot_at m.slots k ≡ None → EndedTo turns dumps stop ports many k m → EndedTo turns dumps stop ports many (suc k) m
ended_none turns dumps stop ports many k m none to =
    let never : (n : ℕ) (c : Channel) → slot_at m.slots n ≡ Some c → n ≡ k → ⊥ = λ n c stood is. (let e : None ≡ Some c = sym none ∙ subst (λ (j : ℕ). slot_at m.slots j ≡ Some c) is stood in cc (e)) in
    record {
      standing = to.standing;
      in_use = to.in_use;
      served = to.served;
      wide = to.wide;
      long = to.long;
      knows = to.knows;
      stages = λ n c a stood at above. to.stages n c a stood at (omega arith);
      idle = λ n c stood below. to.idle n c stood (let other : n ≢ k = never n c stood in omega arith);
      left = λ are n c a stood at below. to.left are n c a stood at (let other : n ≢ k = never n c stood in omega arith);
    }

-- the port of the channel's buffer is one alone
one_port : (ports : List Access) (k j : ℕ) (a b : Access) → k ≡ j → slice_get ports k ≡ Some a → slice_get ports j ≡ Some b → a ≡ b
one_port ports k j a b same first second = cc (same, first, second)

-- a run that was left before, behind the ending of another channel's files
now_moved : LeftBeside → (H : ChannelRun → FileHead → Type 0) (turns : List MemberTurn) (slots : List (Option Channel)) (n : ℕ) (before after : Channel) (p : Access) (old new : Seen) → Moves H turns slots n before after p p old new → slot_at slots n ≡ Some before → KeepsThere old new
    → (c : Channel) (x : Access) (stop : MemberTurn) (told : ChannelEnd) → LeftNow turns slots old c x stop told → LeftNow turns (slice_set slots n (Some after)) new c x stop told
now_moved law H turns slots n before after p old new moves there keeps c x stop told l =
    let both = left_moved law H turns slots n before after p p old new moves there c c x x (λ i is. is) (grown_none x) stop told l.left in
    record {
      left = both.0;
      there = subst (λ (r : BegunRun). IsTrue new.names → IsTrue r.opened.at.taken → IsSome (new.at (piece_name_by c.spec.pattern r.opened.run (r.opened.at.sub + 1)))) (sym both.1)
          (λ tells taken. let told_before : IsTrue old.names = subst (λ (b : Bool). IsTrue b) moves.names tells in keeps told_before _ (l.there told_before taken));
    }

ended_one : EndingLaws → (turns : List MemberTurn) (dumps : RunDumps) (stop : MemberTurn) (ports : List Access) (many k : ℕ) (before : Channel) (a b : EndingMoment) → slot_at a.slots k ≡ Some before → EndsNumbered stop.order.time stop.dump k before a b → EndedTo turns dumps stop ports many k a
    → EndedTo turns dumps stop ports many (suc k) b
ended_one laws turns dumps stop ports many k before a b there ends to =
    let port : (x : Access) × (slice_get ports before.spec.buffer ≡ Some x) = there_is ports before.spec.buffer (to.served k before there) in
    let p : Access = port.0 in
    let at_port : slice_get ports before.spec.buffer ≡ Some p = port.1 in
    let after : Channel = ends.after in
    let old : Seen = a.files.seen in
    let new : Seen = b.files.seen in
    let H : ChannelRun → FileHead → Type 0 = IsHeadTold turns dumps in
    let slots : List (Option Channel) = slice_set a.slots k (Some after) in
    let spec : after.spec ≡ before.spec = ap (λ (c : Channel). c.spec) ends.ends.channel in
    let now = to.stages k before p there at_port (omega arith) in
    let idle : after.stage ≡ Idle = ap (λ (x : Channel). x.stage) ends.ends.channel ∙ settled_idle before.stage now.1 in
    let kept : ChannelKept H old before p = to.standing.channels k before p there at_port in
    let moves : Moves H turns a.slots k before after p p old new =
    close_moves laws.keep laws.change laws.beside laws.files H turns stop.order.time stop.dump ends.told a.slots k before after p a.files b.files there to.in_use (λ m d other stood. to.standing.apart k m before d (λ same. other (sym same)) there stood) ends.ends in
    let keeps : KeepsThere old new = laws.know before.spec before.client before.stage ends.told.state stop.order.time stop.dump kept.head p.own p.got old new a.files.faults b.files.faults ends.ends.ends kept.stands in
    let standing : SlotsStand H turns slots ports new = subst (λ (l : List Access). SlotsStand H turns slots l new) (put_back ports before.spec.buffer p at_port)
    (moved laws.left H turns a.slots ports k before after p p old new there at_port moves to.standing) in
    let within : k < length a.told = omega (arith, slot_within a.slots k before there, to.standing.many, to.wide) in
    let told_there = there_is a.told k within in
    let told : slice_get (slice_set a.told k ends.told) k ≡ Some ends.told = got_there a.told k told_there.0 ends.told told_there.1 in
    let left_here : AreEngineTurns turns → LeftNow turns slots new after p stop ends.told =
    left_now laws.keep laws.change laws.know turns dumps stop ends.told a.slots ports k before after p a.files b.files there at_port (to.in_use.files k before there) (to.knows k before there) now.1 now.0 to.standing ends.ends in
    let middle : EndingMoment = record { slots = slots; files = b.files; told = slice_set a.told k ends.told } in
    let done : EndedTo turns dumps stop ports many (suc k) middle = record {
      standing = standing;
      in_use = ended_files laws.change stop.order.time stop.dump ends.told a.slots k before after a.files b.files there ends.ends to.in_use;
      served = λ n c stood. one_changed (λ j x. x.spec.buffer < length ports) a.slots k after (λ x here. subst (λ (s : ChannelSpec). s.buffer < length ports) (sym spec) (to.served k before there))
          (λ j x other here. to.served j x here) before there n c stood;
      wide = length-set a.told k ends.told ∙ to.wide;
      long = length-set a.slots k (Some after) ∙ to.long;
      knows = one_changed (λ j z. KnowsTaken new z.spec z.stage) a.slots k after
          (λ z here opened is. absurd (let never : None ≡ Some opened = sym (ap (λ (s : ChannelStage). channel_run s) idle) ∙ is in cc (never)))
          (λ j z other here opened is taken tells. let told_before : IsTrue old.names = subst (λ (t : Bool). IsTrue t) moves.names tells in keeps told_before _ (to.knows j z here opened is taken told_before)) before there;
      stages = λ n c x stood at above.
          one_changed (λ j z. (y : Access) → slice_get ports z.spec.buffer ≡ Some y → suc k ≤ j → IsStoppingStage turns y.own stop.order.start z.stage × (is_settled_stage z.stage ≡ true)) a.slots k after (λ z here y at_y high. absurd (omega arith))
          (λ j z other here y at_y high. to.stages j z y here at_y (omega arith)) before there n c stood x at above;
      idle = λ n c stood below.
          one_changed (λ j z. j < suc k → z.stage ≡ Idle) a.slots k after (λ z here low. idle) (λ j z other here low. to.idle j z here (omega arith)) before there n c stood below;
      left = λ are n c x stood at below.
          one_changed (λ j z. (y : Access) → slice_get ports z.spec.buffer ≡ Some y → j < suc k → (t : ChannelEnd) × (slice_get (slice_set a.told k ends.told) j ≡ Some t) × LeftNow turns slots new z y stop t) a.slots k after
          (λ z here y at_y low.
          let is : p ≡ y = one_port ports before.spec.buffer after.spec.buffer p y (sym (ap (λ (s : ChannelSpec). s.buffer) spec)) at_port at_y in
          (ends.told, told, subst (λ (w : Access). LeftNow turns slots new after w stop ends.told) is (left_here are)))
          (λ j z other here y at_y low.
          let was : (t : ChannelEnd) × (slice_get a.told j ≡ Some t) × LeftNow turns a.slots old z y stop t = to.left are j z y here at_y (omega arith) in (
            was.0,
            kept_there a.told k j ends.told was.0 other was.1,
            now_moved laws.left H turns a.slots k before after p old new moves there keeps z y stop was.0 was.2,
          ))
          before there n c stood x at below;
    } in
    let slots_are : EndedTo turns dumps stop ports many (suc k) (record { slots = b.slots; files = b.files; told = slice_set a.told k ends.told }) =
    subst (λ (l : List (Option Channel)). EndedTo turns dumps stop ports many (suc k) (record { slots = l; files = b.files; told = slice_set a.told k ends.told })) (sym ends.slots) done in
    subst (λ (l : List ChannelEnd). EndedTo turns dumps stop ports many (suc k) (record { slots = b.slots; files = b.files; told = l })) (sym ends.at) slots_are

ended_slot : EndingLaws → (turns : List MemberTurn) (dumps : RunDumps) (stop : MemberTurn) (ports : List Access) (many k : ℕ) (slot : Option Channel) (a b : EndingMoment) → slot_at a.slots k ≡ slot → EndsSlot stop.order.time stop.dump k slot a b → EndedTo turns dumps stop ports many k a
    → EndedTo turns dumps stop ports many (suc k) b
ended_slot laws turns dumps stop ports many k None a b there same to = subst (λ (m : EndingMoment). EndedTo turns dumps stop ports many (suc k) m) (sym same) (ended_none turns dumps stop ports many k a there to)
ended_slot laws turns dumps stop ports many k (Some before) a b there ends to = ended_one laws turns dumps stop ports many k before a b there ends to

ended_all : EndingLaws → (turns : List MemberTurn) (dumps : RunDumps) (stop : MemberTurn) (ports : List Access) (many count : ℕ) (a b : EndingMoment) → InTurn (λ number. EndsSlotAt stop.order.time stop.dump number) count a b → EndedTo turns dumps stop ports many 0 a → EndedTo turns dumps stop ports many count b
ended_all laws turns dumps stop ports many zero a b steps to = subst (λ (m : EndingMoment). EndedTo turns dumps stop ports many 0 m) (sym steps) to
ended_all laws turns dumps stop ports many (suc n) a b steps to =
    ended_slot laws turns dumps stop ports many n (slot_at steps.0.slots n) steps.0 b refl steps.2 (ended_all laws turns dumps stop ports many n a steps.0 steps.1 to)

-- Behind the answer.

head_across : (order : Order) (dump : Option (List ℕ)) (ends : List ChannelEnd) (earlier : List MemberTurn) (start : ℕ) (head : FileHead) → HasHead (logger_turn Stop order dump None ∷ earlier) start head → HasHead (stop_answered order dump ends earlier) start head
head_across order dump ends earlier start head has = record { turn = has.turn; is_start = across order dump None (Some (Yes (Channels ends))) earlier start has.turn has.is_start; run = has.run; time = has.time; dump = has.dump }

end_across : (order : Order) (dump : Option (List ℕ)) (ends : List ChannelEnd) (earlier : List MemberTurn) (e : BufferEntry) → IsEndTold (logger_turn Stop order dump None ∷ earlier) e → IsEndTold (stop_answered order dump ends earlier) e
end_across order dump ends earlier (End start reply) told = elim told.stands as (λ w. HasEndTurn (stop_answered order dump ends earlier) start) [
  | inl same ↦
      let number : order.start ≡ start = ap (λ (u : MemberTurn). u.order.start) same ∙ told.of in
      record { turn = logger_turn Stop order dump (Some (Yes (Channels ends))); stands = inl refl; ends = inl refl; of = number }
  | inr old ↦ record { turn = told.turn; stands = inr old; ends = told.ends; of = told.of }
]
end_across order dump ends earlier e told = tt

-- Where every channel is idle, a name is none of a run that one has.
no_open_idle : (slots : List (Option Channel)) → ((n : ℕ) (c : Channel) → slot_at slots n ≡ Some c → c.stage ≡ Idle) → (name : List ℕ) → IsNoOpenName slots name
no_open_idle slots idle name n d opened stood is = absurd (let never : None ≡ Some opened = sym (ap (λ (s : ChannelStage). channel_run s) (idle n d stood)) ∙ is in cc (never))

-- what was told of a channel whose run was left now
told_now : (turns later : List MemberTurn) (slots : List (Option Channel)) (seen : Seen) (n : ℕ) (c : Channel) (a : Access) (stop now : MemberTurn) (ends : List ChannelEnd) (told : ChannelEnd) → ((m : ℕ) (d : Channel) → slot_at slots m ≡ Some d → d.stage ≡ Idle) → slice_get ends n ≡ Some told
    → now.order ≡ stop.order → now.dump ≡ stop.dump → ((head : FileHead) → HasHead turns stop.order.start head → HasHead later stop.order.start head) → LeftNow turns slots seen c a stop told → ToldSo later slots seen n c a now ends
told_now turns later slots seen n c a stop now ends told idle at order dump heads l =
    let both = left_as turns later slots seen c a stop now told order dump heads l.left in
    record {
      told = told;
      at = at;
      left = both.0;
      taken = subst (λ (r : BegunRun). IsTrue seen.names → IsTrue r.opened.at.taken → TakenStays slots seen (piece_name_by c.spec.pattern r.opened.run (r.opened.at.sub + 1))) (sym both.1)
          (λ tells taken. record { there = l.there tells taken; apart = no_open_idle slots idle _ });
    }

-- what stands behind the answer
answered_slots : (order : Order) (dumps : RunDumps) (earlier : List MemberTurn) (ports : List Access) (many : ℕ) (m : EndingMoment) → EndedTo (logger_turn Stop order dumps.stop None ∷ earlier) dumps (logger_turn Stop order dumps.stop None) ports many many m
    → SlotsStand (IsHeadTold (stop_answered order dumps.stop m.told earlier) no_dumps) (stop_answered order dumps.stop m.told earlier) m.slots ports m.files.seen
answered_slots order dumps earlier ports many m to =
    let dump : Option (List ℕ) = dumps.stop in
    let before : List MemberTurn = logger_turn Stop order dump None ∷ earlier in
    let turn : MemberTurn = logger_turn Stop order dump (Some (Yes (Channels m.told))) in
    let turns : List MemberTurn = turn ∷ earlier in
    let idle : (n : ℕ) (c : Channel) → slot_at m.slots n ≡ Some c → c.stage ≡ Idle = λ n c stood. to.idle n c stood (omega (arith, slot_within m.slots n c stood, to.long)) in
    record {
      many = to.standing.many;
      numbered = to.standing.numbered;
      channels = λ n c a stood at.
          let kept : ChannelKept (IsHeadTold before dumps) m.files.seen c a = to.standing.channels n c a stood at in
          record {
            head = kept.head;
            stands = kept.stands;
            headed = λ o is. absurd (let never : None ≡ Some o = sym (ap (λ (s : ChannelStage). channel_run s) (idle n c stood)) ∙ is in cc (never));
          };
      apart = to.standing.apart;
      calls = λ buffer a at.
          let kept : PortKept before a.own = to.standing.calls buffer a at in
          record { calls = kept.calls; alone = kept.alone; told = each_map (IsEndTold before) (IsEndTold turns) a.own (end_across order dump m.told earlier) kept.told; once = λ are. kept.once are };
      left = λ are stop ends tells n c a stood at. elim tells.stands as (λ w. ToldSo turns m.slots m.files.seen n c a stop ends) [
        | inl same ↦
            let answers : Some (Yes (Channels m.told)) ≡ Some (Yes (Channels ends)) = ap (λ (u : MemberTurn). u.answer) same ∙ tells.answered in
            let ends_are : m.told ≡ ends = cc (answers) in
            let so : (t : ChannelEnd) × (slice_get m.told n ≡ Some t) × LeftNow before m.slots m.files.seen c a (logger_turn Stop order dump None) t = to.left are n c a stood at (omega (arith, slot_within m.slots n c stood, to.long)) in
            let now : ToldSo turns m.slots m.files.seen n c a turn m.told = told_now before turns m.slots m.files.seen n c a (logger_turn Stop order dump None) turn m.told so.0 idle so.1 refl refl (λ head has. head_across order dump m.told earlier order.start head has) so.2 in
            subst (λ (l : List ChannelEnd). ToldSo turns m.slots m.files.seen n c a stop l) ends_are (subst (λ (u : MemberTurn). ToldSo turns m.slots m.files.seen n c a u m.told) same now)
        | inr old ↦
            told_as before turns m.slots m.files.seen n c a stop ends (λ head has. head_across order dump m.told earlier stop.order.start head has)
            (to.standing.left are stop ends (record { stands = inr old; is = tells.is; answered = tells.answered }) n c a stood at)
      ];
    }

-- The call.

and_both : (a b : Bool) → (a && b) ≡ true → (a ≡ true) × (b ≡ true)
and_both true b e = (refl, e)
and_both false b e = absurd (cc (e))

pub all_settled : (slots : List (Option Channel)) (n : ℕ) (c : Channel) → list_all is_settled_slot slots ≡ true → slot_at slots n ≡ Some c → is_settled_stage c.stage ≡ true
all_settled [] n c all stood = absurd (cc (stood))
all_settled (o ∷ os) zero c all stood = subst (λ (x : Option Channel). is_settled_slot x ≡ true) stood (and_both (is_settled_slot o) (list_all is_settled_slot os) all).0
all_settled (o ∷ os) (suc n) c all stood = all_settled os n c (and_both (is_settled_slot o) (list_all is_settled_slot os) all).1 stood

-- the run whose stop waits
pub record Waits (run : Option LoggedRun) (time : ℕ) : Type 0 where
  pub r : LoggedRun
  pub is : run ≡ Some r
  pub part : r.part ≡ Stopping time

part_waits : (part : RunPart) (r : LoggedRun) (time : ℕ) → r.part ≡ part → waiting_stop (Some (record r { part = part })) ≡ Some time → Waits (Some r) time
part_waits Refused r time is waits = absurd (cc (waits))
part_waits Started r time is waits = absurd (cc (waits))
part_waits (Stopping at) r time is waits = let same : at ≡ time = cc (waits) in record { r = r; is = refl; part = is ∙ ap (λ (t : ℕ). Stopping t) same }

pub run_waits : (run : Option LoggedRun) (time : ℕ) → waiting_stop run ≡ Some time → Waits run time
run_waits None time waits = absurd (cc (waits))
run_waits (Some r) time waits = part_waits r.part r time refl waits

ended_with : EndingLaws → (f : LoggerFinish) (ports : List Access) (order : Order) (earlier : List MemberTurn) (start time : ℕ) → order.start ≡ start → order.time ≡ time → list_all is_settled_slot f.slots ≡ true → HaveFilesOpen f.slots f.files.seen
    → SlotsStand (IsHeadTold (logger_turn Stop order f.dumps.stop None ∷ earlier) f.dumps) (logger_turn Stop order f.dumps.stop None ∷ earlier) f.slots ports f.files.seen → ((n : ℕ) (c : Channel) → slot_at f.slots n ≡ Some c → c.spec.buffer < length ports)
    → ((n : ℕ) (c : Channel) → slot_at f.slots n ≡ Some c → KnowsTaken f.files.seen c.spec c.stage)
    → ((n : ℕ) (c : Channel) (a : Access) → slot_at f.slots n ≡ Some c → slice_get ports c.spec.buffer ≡ Some a → IsStoppingStage (logger_turn Stop order f.dumps.stop None ∷ earlier) a.own start c.stage)
    → (ends : EndsFiles f time) → EndedTo (logger_turn Stop order f.dumps.stop None ∷ earlier) f.dumps (logger_turn Stop order f.dumps.stop None) ports (length f.slots) (length f.slots) (record { slots = f.later_slots; files = f.later_files; told = ends.told })
ended_with laws f ports order earlier start time start_is time_is settled in_use standing served knows stages ends =
    let stop : MemberTurn = logger_turn Stop order f.dumps.stop None in
    let first : EndingMoment = record { slots = f.slots; files = f.files; told = ends_idle } in
    let last : EndingMoment = record { slots = f.later_slots; files = f.later_files; told = ends.told } in
    ended_all laws (stop ∷ earlier) f.dumps stop ports (length f.slots) (length f.slots) first last
    (subst (λ (t : ℕ). InTurn (λ number. EndsSlotAt t f.dumps.stop number) (length f.slots) first last) (sym time_is) ends.ends)
    (record {
      standing = standing;
      in_use = in_use;
      served = served;
      wide = length-replicate channel_limit idle_end;
      long = refl;
      knows = knows;
      stages = λ n c a stood at above. (subst (λ (k : ℕ). IsStoppingStage (stop ∷ earlier) a.own k c.stage) (sym start_is) (stages n c a stood at), all_settled f.slots n c settled stood);
      idle = λ n c stood below. absurd (omega arith);
      left = λ are n c a stood at below. absurd (omega arith);
    })

finished : EndingLaws → (f : LoggerFinish) (ports : List Access) (turns : List MemberTurn) (time : ℕ) → waiting_stop f.run ≡ Some time → list_all is_settled_slot f.slots ≡ true → HaveFilesOpen f.slots f.files.seen → EndsFiles f time → LoggerHolds f.run f.dumps f.slots ports turns f.files.seen
    → LoggerHolds f.later_run f.later_dumps f.later_slots ports (latest_answered turns f.answer) f.later_files.seen
finished laws f ports turns time waits settled in_use ends stands =
    let w : Waits f.run time = run_waits f.run time waits in
    let dumps : RunDumps = f.dumps in
    let told_run : IsRunTold (Some w.r) turns dumps = subst (λ (x : Option LoggedRun). IsRunTold x turns dumps) w.is stands.told in
    let told : IsPartTold (Stopping time) turns w.r.start dumps = subst (λ (p : RunPart). IsPartTold p turns w.r.start dumps) w.part told_run in
    let stop : IsStopWaiting turns w.r.start time dumps.stop = told.0 in
    let before : List MemberTurn = logger_turn Stop stop.order dumps.stop None ∷ stop.earlier in
    let now : LoggerHolds f.run dumps f.slots ports before f.files.seen = subst (λ (l : List MemberTurn). LoggerHolds f.run dumps f.slots ports l f.files.seen) stop.latest stands in
    let last : EndingMoment = record { slots = f.later_slots; files = f.later_files; told = ends.told } in
    let turns_now : List MemberTurn = stop_answered stop.order dumps.stop ends.told stop.earlier in
    let stages : (n : ℕ) (c : Channel) (a : Access) → slot_at f.slots n ≡ Some c → slice_get ports c.spec.buffer ≡ Some a → IsStoppingStage before a.own w.r.start c.stage = λ n c a stood at.
    subst (λ (p : RunPart). IsStagePart p before a.own w.r.start c.stage) w.part (subst (λ (x : Option LoggedRun). IsStageOf x before a.own c.stage) w.is (now.stages n c a stood at)) in
    let to : EndedTo before dumps (logger_turn Stop stop.order dumps.stop None) ports (length f.slots) (length f.slots) last = ended_with laws f ports stop.order stop.earlier w.r.start time stop.of stop.at settled in_use now.standing now.served now.taken stages ends in
    let known : TurnsKnown None no_dumps turns_now =
    finish_known f.run dumps dumps.stop ends.told stop.order stop.earlier (record { starts = now.starts; stops = now.stops; told = now.told; current = now.current; not_off = now.not_off; going = now.going; unready = now.unready }) in
    let done : LoggerHolds None no_dumps f.later_slots ports turns_now f.later_files.seen = record {
      standing = answered_slots stop.order dumps stop.earlier ports (length f.slots) last to;
      taken = to.knows;
      served = to.served;
      stages = λ n c a stood at. to.idle n c stood (omega (arith, slot_within f.later_slots n c stood, to.long));
      starts = known.starts;
      stops = known.stops;
      told = known.told;
      current = known.current;
      not_off = known.not_off;
      going = known.going;
      unready = known.unready;
    } in
    let answered : LoggerHolds None no_dumps f.later_slots ports (latest_answered before (Some (Yes (Channels ends.told)))) f.later_files.seen = done in
    rw (ends.answer_is, ends.run, ends.dumps) (subst (λ (l : List MemberTurn). LoggerHolds None no_dumps f.later_slots ports (latest_answered l (Some (Yes (Channels ends.told)))) f.later_files.seen) (sym stop.latest) answered)

finish_by : EndingLaws → (f : LoggerFinish) (ports : List Access) (turns : List MemberTurn) (settled : Bool) (stop : Option ℕ) → list_all is_settled_slot f.slots ≡ settled → waiting_stop f.run ≡ stop → HaveFilesOpen f.slots f.files.seen → FinishesBy settled stop f
    → LoggerHolds f.run f.dumps f.slots ports turns f.files.seen → LoggerHolds f.later_run f.later_dumps f.later_slots ports (latest_answered turns f.answer) f.later_files.seen
finish_by laws f ports turns settled None all waits in_use leaves stands = rw (leaves.answer_is, leaves.run, leaves.dumps, leaves.slots, leaves.files) stands
finish_by laws f ports turns false (Some time) all waits in_use leaves stands = rw (leaves.answer_is, leaves.run, leaves.dumps, leaves.slots, leaves.files) stands
finish_by laws f ports turns true (Some time) all waits in_use ends stands = finished laws f ports turns time waits all in_use ends stands

-- what a logger keeps before a finish it keeps behind it, with the answer, if there is one
pub finish_stands : EndingLaws → (f : LoggerFinish) (ports : List Access) (turns : List MemberTurn) → FinishesLogger f → HaveFilesOpen f.slots f.files.seen → LoggerHolds f.run f.dumps f.slots ports turns f.files.seen
    → LoggerHolds f.later_run f.later_dumps f.later_slots ports (latest_answered turns f.answer) f.later_files.seen
finish_stands laws f ports turns finishes in_use stands = finish_by laws f ports turns (list_all is_settled_slot f.slots) (waiting_stop f.run) refl refl in_use finishes stands
