-- What the ending of one channel's files is to the others, and how its run is left.
use Rattle.std.specs.Prelude.{◌≡◌, ◌≢◌, ◌≤◌, ◌<◌, ◌+◌, ℕ, suc, Bool, true, IsTrue, IsSome, List, slice_get, slice_set, Option, Some, None, ◌⊎◌, refl}
use Rattle.std.proofs.Common.{ap, sym, subst, ◌∙◌, arith, inl, inr}
use Rattle.std.proofs.lemmas.List.{set-get_or}
use Rattle.std.proofs.lemmas.Option.{get_or_from_slice_get}
use Rattle.daq_types.specs.declared.events.Event.{Event}
use Rattle.daq_types.specs.declared.runs.ChannelEnd.{ChannelEnd}
use Rattle.daq_types.specs.declared.runs.ChannelState.{ChannelState}
use Rattle.daq_types.specs.declared.runs.ChannelState.TheVariants.{Broken as IsBroken, Ended, NoEnd, NoMark, Idle as IsIdle, Writing as IsWriting}
use Rattle.daq_io.specs.Seen.{Seen}
use Rattle.daq_io.specs.Told.{FilesTold}
use Rattle.buffer_core.specs.declared.entry.BufferEntry.{BufferEntry}
use Rattle.buffer_core.specs.Ports.{Access, GotEvent}
use Rattle.buffer_core.specs.Slots.{slot_at}
use Rattle.member_model.specs.Turns.{MemberTurn, AreEngineTurns}
use Rattle.member_model.specs.LoggerKept.{AreFramedSo}
use Rattle.sub_files.specs.declared.open_file.Fallen.{Fallen}
use Rattle.sub_files.specs.Cuts.{last_number}
use Rattle.sub_files.specs.Patterns.{piece_name_by}
use Rattle.sub_files.specs.Pieces.{HasPart, Series}
use Rattle.sub_files.specs.Rolls.{fallen_at}
use Rattle.mid_logger.specs.declared.channel.Channel.{Channel}
use Rattle.mid_logger.specs.declared.channel_spec.ChannelSpec.{ChannelSpec}
use Rattle.mid_logger.specs.declared.stage.BegunRun.{BegunRun}
use Rattle.mid_logger.specs.declared.stage.ChannelRun.{ChannelRun}
use Rattle.mid_logger.specs.declared.stage.ChannelStage.{ChannelStage}
use Rattle.mid_logger.specs.declared.stage.ChannelStage.TheVariants.{Idle, Asking, Writing, Draining, Drained, Broken}
use Rattle.mid_logger.specs.Channels.{FileHead, ChannelStands, IsLastOpen, KnowsTaken, channel_run, written_run, files_by as files_made}
use Rattle.mid_logger.specs.ChannelTurns.{drained_run}
use Rattle.mid_logger.specs.ChannelEnds.{ClosesRead, ClosesFile, HasBroken, HasLeftSo, HasLeftRead, end_of, framed_by, stage_settled, state_ended}
use Rattle.mid_logger.specs.Beside.{ClosesBeside, FilesBeside}
use Rattle.mid_logger.specs.Keeping.{ChangesRun, KeepsThere, ClosesKeep, ClosesChange, ClosesKnow}
use Rattle.loggers.specs.declared.logged_run.RunDumps.{RunDumps}
use Rattle.loggers.specs.Moments.{HaveFilesOpen}
use Rattle.loggers.specs.ChannelSteps.{EndsChannel}
use Rattle.loggers.specs.Finishing.{is_settled_stage}
use Rattle.loggers.specs.LoggerStands.{HasHead, IsHeadTold, IsEndedSo, IsStoppingStage, ChannelKept, SlotsApart, LeftRun, SlotsStand}
use Rattle.loggers.proofs.SlotLists.{one_changed}
use Rattle.loggers.proofs.ReadySteps.{settled_written, last_used}
use Rattle.loggers.proofs.Moved.{Moves, grown_none}
use Rattle.loggers.proofs.PullMoves.{file_left, run_files_left, apart_on, goes_on, tells_same}

settled_run : (stage : ChannelStage) → (channel_run (stage_settled stage) ≡ channel_run stage) ⊎ (channel_run (stage_settled stage) ≡ None)
settled_run Idle = inl refl
settled_run (Asking opened) = inl refl
settled_run (Writing opened begun) = inl refl
settled_run (Draining run) = inl refl
settled_run (Drained run) = inr refl
settled_run (Broken run fallen) = inr refl

-- no file is made meanwhile
pub settled_made : (stage : ChannelStage) → files_made (stage_settled stage) ≤ files_made stage
settled_made Idle = omega arith
settled_made (Asking opened) = omega arith
settled_made (Writing opened begun) = omega arith
settled_made (Draining run) = omega arith
settled_made (Drained run) = omega arith
settled_made (Broken run fallen) = omega arith

-- where there is a run behind the step, it was that before
same_run : (before later : Option ChannelRun) (o : ChannelRun) → (later ≡ before) ⊎ (later ≡ None) → later ≡ Some o → before ≡ Some o
same_run before later o either is = elim either as (λ w. before ≡ Some o) [
  | inl same ↦ sym same ∙ is
  | inr none ↦ absurd (let never : None ≡ Some o = sym none ∙ is in cc (never))
]

-- the ending of a channel's file, as a step among all channels: its port stays
pub close_moves : ClosesKeep → ClosesChange → ClosesBeside → FilesBeside → (H : ChannelRun → FileHead → Type 0) (turns : List MemberTurn) (time : ℕ) (dump : Option (List ℕ)) (told : ChannelEnd) (slots : List (Option Channel)) (n : ℕ) (before after : Channel) (a : Access) (files later : FilesTold)
    → slot_at slots n ≡ Some before → HaveFilesOpen slots files.seen → ((m : ℕ) (d : Channel) → m ≢ n → slot_at slots m ≡ Some d → SlotsApart files.seen before d) → EndsChannel time dump told before after files later
    → Moves H turns slots n before after a a files.seen later.seen
close_moves keep change beside others H turns time dump told slots n before after a files later there open_files apart ends =
    let old : Seen = files.seen in
    let new : Seen = later.seen in
    let spec : after.spec ≡ before.spec = ap (λ (c : Channel). c.spec) ends.channel in
    let client : after.client ≡ before.client = ap (λ (c : Channel). c.client) ends.channel in
    let stage : after.stage ≡ stage_settled before.stage = ap (λ (c : Channel). c.stage) ends.channel in
    let file : IsLastOpen old before.spec (written_run before.stage) = open_files.files n before there in
    let made : ℕ = files_made before.stage in
    let changes : ChangesRun before.spec (channel_run before.stage) (written_run before.stage) made made old new = change before.spec before.stage told.state time dump old new files.faults later.faults ends.ends file in
    let tells : new.names ≡ old.names = tells_same before.spec (channel_run before.stage) (written_run before.stage) made made old new changes in
    let used : (m : ℕ) (d : Channel) → slot_at slots m ≡ Some d → (o : ChannelRun) → written_run d.stage ≡ Some o → IsTrue (old.writes o.at.file) = λ m d stood o is. last_used d.spec old (written_run d.stage) (open_files.files m d stood) o is in
    let as_many : files_made after.stage ≤ made = subst (λ (s : ChannelStage). files_made s ≤ made) (sym stage) (settled_made before.stage) in
    let ran : (o : ChannelRun) → channel_run after.stage ≡ Some o → channel_run before.stage ≡ Some o =
    λ o is. same_run (channel_run before.stage) (channel_run (stage_settled before.stage)) o (settled_run before.stage) (sym (ap (λ (s : ChannelStage). channel_run s) stage) ∙ is) in
    let wrote : (o : ChannelRun) → written_run after.stage ≡ Some o → written_run before.stage ≡ Some o =
    λ o is. same_run (written_run before.stage) (written_run (stage_settled before.stage)) o (settled_written before.stage) (sym (ap (λ (s : ChannelStage). written_run s) stage) ∙ is) in
    record {
      spec = spec;
      client = λ k is. client ∙ is;
      names = tells;
      on = goes_on before.spec (channel_run before.stage) (written_run before.stage) made made old new changes;
      self = λ k. record { head = k.head; stands = rw (spec, client, stage) (keep before.spec before.client before.stage told.state time dump k.head a.own a.got old new files.faults later.faults ends.ends k.stands).0; headed = λ o is. k.headed o (ran o is) };
      beside = λ m d other stood same b k. record {
        head = k.head;
        stands = beside before.spec before.client before.stage told.state d.spec d.client d.stage k.head time dump a.own a.got old new files.faults later.faults ends.ends file (apart_on old before d (sym same) (apart m d other stood)) k.stands;
        headed = k.headed;
      };
      elsewhere = λ m d x other stood k. record {
        head = k.head;
        stands = others d.spec d.client d.stage k.head x.own x.got old new k.stands
            (run_files_left before.spec (channel_run before.stage) (written_run before.stage) made made d.spec (channel_run d.stage) (written_run d.stage) (files_made d.stage) old new changes (apart m d other stood).names (used m d stood) (apart m d other stood).numbers);
        headed = k.headed;
      };
      apart = λ m d other stood was. record {
        clients = λ same i j is other_is. was.clients (ap (λ (s : ChannelSpec). s.buffer) (sym spec) ∙ same) i j (sym client ∙ is) other_is;
        names = λ r s is other_is told_now i j low below e.
            was.names r s (ran r is) other_is (subst (λ (b : Bool). IsTrue b) tells told_now) i j (omega (arith, low, as_many)) below (ap (λ (x : ChannelSpec). piece_name_by x.pattern r.run i) (sym spec) ∙ e);
        numbers = λ r s is other_is. was.numbers r s (wrote r is) other_is;
      };
      calls = λ calls. calls;
      grows = grown_none a;
      left = λ name told_old stays. (
        file_left before.spec (channel_run before.stage) (written_run before.stage) made made old new changes name (λ r is i low. stays.apart n before r there is i low),
        λ o is i low same. stays.apart n before o there (ran o is) i (omega (arith, low, as_many)) (same ∙ ap (λ (s : ChannelSpec). piece_name_by s.pattern o.run i) spec),
      );
    }

-- a port that is put where it stood leaves the ports
pub put_back : (ports : List Access) (k : ℕ) (a : Access) → slice_get ports k ≡ Some a → slice_set ports k a ≡ ports
put_back ports k a there = ap (λ (x : Access). slice_set ports k x) (sym (get_or_from_slice_get ports k a a there)) ∙ set-get_or ports k a

-- How the run is left.

read_told : (state : ChannelState) (run : BegunRun) (time : ℕ) (dump : Option (List ℕ)) (a b : Seen) (faults later : ℕ) → ClosesRead state run time dump a b faults later → (state ≡ IsBroken) ⊎ (state ≡ state_ended run.ended dump)
read_told IsBroken run time dump a b faults later closes = inl refl
read_told IsIdle run time dump a b faults later closes = inr closes.0
read_told IsWriting run time dump a b faults later closes = inr closes.0
read_told Ended run time dump a b faults later closes = inr closes.0
read_told NoEnd run time dump a b faults later closes = inr closes.0
read_told NoMark run time dump a b faults later closes = inr closes.0

-- how many of the files are told to have both records, where the run was read
read_framed : (state : ChannelState) (run : BegunRun) → AreFramedSo state (files_made (Drained run)) (framed_by (Drained run) state)
read_framed IsBroken run = (omega arith, omega arith)
read_framed IsIdle run = omega arith
read_framed IsWriting run = omega arith
read_framed Ended run = refl
read_framed NoEnd run = omega arith
read_framed NoMark run = omega arith

-- the files of a run that was left are no more than there may be
left_few : (state : ChannelState) (told : ChannelEnd) (spec : ChannelSpec) (head : FileHead) (run : BegunRun) (time : ℕ) (dump : Option (List ℕ)) (own : List BufferEntry) (got : List GotEvent) (seen : Seen) → HasLeftSo state told spec head run time dump own got seen → told.files ≤ suc last_number
left_few IsBroken told spec head run time dump own got seen left = elim left.reads as (λ w. told.files ≤ suc last_number) [
  | inl part ↦ part.1.few
  | inr whole ↦ whole.1.few
]
left_few IsIdle told spec head run time dump own got seen left = left.stored.few
left_few IsWriting told spec head run time dump own got seen left = left.stored.few
left_few Ended told spec head run time dump own got seen left = left.stored.few
left_few NoEnd told spec head run time dump own got seen left = left.stored.few
left_few NoMark told spec head run time dump own got seen left = left.stored.few

part_framed : (seen : Seen) (s : Series) (fallen : Fallen) (last : List ℕ) (events : List Event) → HasPart seen s fallen last events → AreFramedSo IsBroken fallen.files fallen.framed
part_framed seen s fallen last events part = (omega (arith, part.framed, part.files, part.some), omega (arith, part.framed, part.files, part.two))

-- where it broke off, one or two of them have not both records
broken_framed : (spec : ChannelSpec) (head : FileHead) (run : BegunRun) (fallen : Fallen) (time : ℕ) (dump : Option (List ℕ)) (own : List BufferEntry) (got : List GotEvent) (seen : Seen) → HasBroken spec head run fallen time dump own got seen → AreFramedSo IsBroken fallen.files fallen.framed
broken_framed spec head run fallen time dump own got seen broken = elim broken.reads as (λ w. AreFramedSo IsBroken fallen.files fallen.framed) [
  | inl part ↦ part_framed seen _ fallen _ broken.events part.1
  | inr whole ↦ part_framed seen _ fallen _ broken.events whole.1
]

-- what is known of the run of a channel whose files are ended
record RunLeft (turns : List MemberTurn) (start time : ℕ) (dump : Option (List ℕ)) (before : Channel) (head : FileHead) (a : Access) (new : Seen) (told : ChannelEnd) : Type 0 where
  run : BegunRun
  is : channel_run before.stage ≡ Some run.opened
  of : run.opened.start ≡ start
  client : before.client ≡ Some run.opened.client
  ended : AreEngineTurns turns → IsEndedSo a.own start run.ended
  state : (told.state ≡ IsBroken) ⊎ (told.state ≡ state_ended run.ended dump)
  framed : AreFramedSo told.state told.files told.framed
  files : told.files ≡ files_made before.stage
  last : told.state ≢ IsBroken → told.files ≡ run.opened.at.sub + 1
  left : HasLeftRead told before.spec head run time dump a.own a.got new

run_left : ClosesKeep → (turns : List MemberTurn) (start time : ℕ) (dump : Option (List ℕ)) (state : ChannelState) (stage : ChannelStage) (before : Channel) (head : FileHead) (a : Access) (old new : Seen) (faults later : ℕ) → before.stage ≡ stage → is_settled_stage stage ≡ true
    → IsStoppingStage turns a.own start stage → ChannelStands before.spec before.client stage head a.own a.got old → ClosesFile (drained_run stage) stage state time dump old new faults later → RunLeft turns start time dump before head a new (end_of stage state)
run_left keep turns start time dump state Idle before head a old new faults later is settled at stands closes = absurd at
run_left keep turns start time dump state (Asking opened) before head a old new faults later is settled at stands closes = absurd at
run_left keep turns start time dump state (Writing opened begun) before head a old new faults later is settled at stands closes = absurd at
run_left keep turns start time dump state (Draining run) before head a old new faults later is settled at stands closes = absurd (cc (settled))
run_left keep turns start time dump state (Drained run) before head a old new faults later is settled at stands closes = record {
  run = run;
  is = ap (λ (s : ChannelStage). channel_run s) is;
  of = at.of;
  client = stands.at.of;
  ended = at.so;
  state = read_told state run time dump old new faults later closes;
  framed = read_framed state run;
  files = sym (ap (λ (s : ChannelStage). files_made s) is);
  last = λ not. refl;
  left = (keep before.spec before.client (Drained run) state time dump head a.own a.got old new faults later closes stands).1;
}
run_left keep turns start time dump state (Broken run fallen) before head a old new faults later is settled at stands closes =
    let left : HasLeftRead (end_of (Broken run fallen) state) before.spec head run time dump a.own a.got new = (keep before.spec before.client (Broken run fallen) state time dump head a.own a.got old new faults later closes stands).1 in
    let broken : HasBroken before.spec head run (fallen_at fallen.files fallen.framed) time dump a.own a.got new =
    subst (λ (s : ChannelState). HasLeftSo s (record { state = state; files = fallen.files; framed = fallen.framed }) before.spec head run time dump a.own a.got new) closes.0 left in
    let framed : AreFramedSo IsBroken fallen.files fallen.framed = broken_framed before.spec head run (fallen_at fallen.files fallen.framed) time dump a.own a.got new broken in
    record {
      run = run;
      is = ap (λ (s : ChannelStage). channel_run s) is;
      of = at.of;
      client = stands.at.of;
      ended = at.so;
      state = inl closes.0;
      framed = subst (λ (s : ChannelState). AreFramedSo s fallen.files fallen.framed) (sym closes.0) framed;
      files = sym (ap (λ (s : ChannelStage). files_made s) is);
      last = λ not. absurd (not closes.0);
      left = left;
    }

-- a settled stage is idle behind the ending
pub settled_idle : (stage : ChannelStage) → is_settled_stage stage ≡ true → stage_settled stage ≡ Idle
settled_idle Idle settled = refl
settled_idle (Asking opened) settled = absurd (cc (settled))
settled_idle (Writing opened begun) settled = absurd (cc (settled))
settled_idle (Draining run) settled = absurd (cc (settled))
settled_idle (Drained run) settled = refl
settled_idle (Broken run fallen) settled = refl

-- A run that was left now, while other channels may have theirs; where its channel found a name taken, a file of that is there.
pub record LeftNow (turns : List MemberTurn) (slots : List (Option Channel)) (seen : Seen) (c : Channel) (port : Access) (stop : MemberTurn) (told : ChannelEnd) : Type 0 where
  pub left : LeftRun turns slots seen c port stop told
  pub there : IsTrue seen.names → IsTrue left.run.opened.at.taken → IsSome (seen.at (piece_name_by c.spec.pattern left.run.opened.run (left.run.opened.at.sub + 1)))

-- the run of the channel whose files are ended, behind that
pub left_now : ClosesKeep → ClosesChange → ClosesKnow → (turns : List MemberTurn) (dumps : RunDumps) (stop : MemberTurn) (told : ChannelEnd) (slots : List (Option Channel)) (ports : List Access) (n : ℕ) (before after : Channel) (a : Access) (files later : FilesTold) → slot_at slots n ≡ Some before
    → slice_get ports before.spec.buffer ≡ Some a → IsLastOpen files.seen before.spec (written_run before.stage) → KnowsTaken files.seen before.spec before.stage → is_settled_stage before.stage ≡ true → IsStoppingStage turns a.own stop.order.start before.stage
    → SlotsStand (IsHeadTold turns dumps) turns slots ports files.seen → EndsChannel stop.order.time stop.dump told before after files later → AreEngineTurns turns → LeftNow turns (slice_set slots n (Some after)) later.seen after a stop told
left_now keep change know turns dumps stop told slots ports n before after a files later there at_port file knows settled at stands ends are =
    let kept : ChannelKept (IsHeadTold turns dumps) files.seen before a = stands.channels n before a there at_port in
    let time : ℕ = stop.order.time in
    let dump : Option (List ℕ) = stop.dump in
    let l : RunLeft turns stop.order.start time dump before kept.head a later.seen told =
    subst (λ (t : ChannelEnd). RunLeft turns stop.order.start time dump before kept.head a later.seen t) (sym ends.told_is)
    (run_left keep turns stop.order.start time dump told.state before.stage before kept.head a files.seen later.seen files.faults later.faults refl settled at kept.stands ends.ends) in
    let spec : after.spec ≡ before.spec = ap (λ (c : Channel). c.spec) ends.channel in
    let client : after.client ≡ before.client = ap (λ (c : Channel). c.client) ends.channel in
    let stage : after.stage ≡ Idle = ap (λ (c : Channel). c.stage) ends.channel ∙ settled_idle before.stage settled in
    let tells : later.seen.names ≡ files.seen.names =
    tells_same before.spec (channel_run before.stage) (written_run before.stage) (files_made before.stage) (files_made before.stage) files.seen later.seen (change before.spec before.stage told.state time dump files.seen later.seen files.faults later.faults ends.ends file) in
    let keeps : KeepsThere files.seen later.seen = know before.spec before.client before.stage told.state time dump kept.head a.own a.got files.seen later.seen files.faults later.faults ends.ends kept.stands in
    let now : LeftRun turns (slice_set slots n (Some after)) later.seen after a stop told = record {
      run = l.run;
      head = kept.head;
      of = l.of;
      client = client ∙ l.client;
      headed = subst (λ (k : ℕ). HasHead turns k kept.head) l.of (kept.headed l.run.opened l.is).has;
      ended = l.ended are;
      state = l.state;
      framed = l.framed;
      few = left_few told.state told before.spec kept.head l.run time dump a.own a.got later.seen l.left;
      left = subst (λ (s : ChannelSpec). HasLeftRead told s kept.head l.run time dump a.own a.got later.seen) (sym spec) l.left;
      apart = λ told_now i below m d opened stood is.
          one_changed (λ k z. channel_run z.stage ≡ Some opened → (j : ℕ) → j < files_made z.stage → piece_name_by after.spec.pattern l.run.opened.run i ≢ piece_name_by z.spec.pattern opened.run j) slots n after
          (λ b here now. absurd (let never : None ≡ Some opened = sym (ap (λ (s : ChannelStage). channel_run s) stage) ∙ now in cc (never)))
          (λ k z other here now j low same. (stands.apart n k before z (λ e. other (sym e)) there here).names l.run.opened opened l.is now (subst (λ (b : Bool). IsTrue b) tells told_now) i j (omega (arith, below, l.files)) low
          (ap (λ (s : ChannelSpec). piece_name_by s.pattern l.run.opened.run i) (sym spec) ∙ same)) before there m d stood is;
      last = l.last;
    } in
    record {
      left = now;
      there = λ told_now taken.
          let told_before : IsTrue files.seen.names = subst (λ (b : Bool). IsTrue b) tells told_now in
          let was : IsSome (files.seen.at (piece_name_by before.spec.pattern l.run.opened.run (l.run.opened.at.sub + 1))) = knows l.run.opened l.is taken told_before in
          subst (λ (s : ChannelSpec). IsSome (later.seen.at (piece_name_by s.pattern l.run.opened.run (l.run.opened.at.sub + 1)))) (sym spec) (keeps told_before (piece_name_by before.spec.pattern l.run.opened.run (l.run.opened.at.sub + 1)) was);
    }
