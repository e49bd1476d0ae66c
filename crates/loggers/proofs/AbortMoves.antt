-- What the calling off of one channel's run is to the others.
use Rattle.std.specs.Prelude.{◌≡◌, ◌≢◌, ℕ, IsTrue, List, Option, Some, None}
use Rattle.std.proofs.Common.{ap, sym, subst, ◌∙◌}
use Rattle.daq_io.specs.Seen.{Seen}
use Rattle.buffer_core.specs.Ports.{Access}
use Rattle.buffer_core.specs.Slots.{slot_at}
use Rattle.member_model.specs.Turns.{MemberTurn}
use Rattle.mid_logger.specs.declared.channel.Channel.{Channel}
use Rattle.mid_logger.specs.declared.channel_spec.ChannelSpec.{ChannelSpec}
use Rattle.mid_logger.specs.declared.stage.ChannelRun.{ChannelRun}
use Rattle.mid_logger.specs.declared.stage.ChannelStage.{ChannelStage}
use Rattle.mid_logger.specs.declared.stage.ChannelStage.TheVariants.{Idle}
use Rattle.mid_logger.specs.Channels.{FileHead, ChannelStands, channel_run, written_run, files_by as files_made}
use Rattle.mid_logger.specs.ChannelTurns.{asking_run}
use Rattle.mid_logger.specs.ChannelEnds.{CancelsStanding}
use Rattle.mid_logger.specs.Beside.{AbortsBeside, FilesBeside, LeftBeside}
use Rattle.mid_logger.specs.Keeping.{ChangesRun, AbortsKeep, AbortsChange}
use Rattle.loggers.specs.Moments.{LoggerMoment, ChannelStep, StepsSlot, HaveFilesOpen}
use Rattle.loggers.specs.ChannelSteps.{AbortsChannel}
use Rattle.loggers.specs.LoggerStands.{ChannelKept, SlotsApart, SlotsStand}
use Rattle.loggers.proofs.ReadySteps.{last_used}
use Rattle.loggers.proofs.Moved.{Moves, moved}
use Rattle.loggers.proofs.LoneCalls.{cancels_lone}
use Rattle.loggers.proofs.PullMoves.{GrowsOn, grows_same, grows_cancel, grown_on, port_grown, file_left, run_files_left, apart_on, goes_on, tells_same}

pub standing_grows : (standing : Option ChannelRun) (x y : Access) → CancelsStanding standing x y → GrowsOn x y
standing_grows None x y cancels = grows_same x y cancels
standing_grows (Some opened) x y cancels = grows_cancel x y opened cancels

-- an idle channel is apart from any other where their clients are
idle_slots_apart : (new : Seen) (before after d : Channel) (old : Seen) → after.spec ≡ before.spec → after.client ≡ before.client → after.stage ≡ Idle → SlotsApart old before d → SlotsApart new after d
idle_slots_apart new before after d old spec client idle apart = record {
  clients = λ same m n is other_is. apart.clients (ap (λ (s : ChannelSpec). s.buffer) (sym spec) ∙ same) m n (sym client ∙ is) other_is;
  names = λ r s is other_is told. absurd (let never : None ≡ Some r = sym (ap (λ (x : ChannelStage). channel_run x) idle) ∙ is in cc (never));
  numbers = λ r s is other_is. absurd (let never : None ≡ Some r = sym (ap (λ (x : ChannelStage). written_run x) idle) ∙ is in cc (never));
}

pub abort_moves : AbortsKeep → AbortsChange → AbortsBeside → FilesBeside → (H : ChannelRun → FileHead → Type 0) (turns : List MemberTurn) (slots : List (Option Channel)) (n : ℕ) (s : ChannelStep) → slot_at slots n ≡ Some s.before → HaveFilesOpen slots s.files.seen
    → ((m : ℕ) (d : Channel) → m ≢ n → slot_at slots m ≡ Some d → SlotsApart s.files.seen s.before d) → ChannelKept H s.files.seen s.before s.port → AbortsChannel s → Moves H turns slots n s.before s.after s.port s.later_port s.files.seen s.later_files.seen
abort_moves keep change beside files H turns slots n s there open_files apart kept aborts =
    let old : Seen = s.files.seen in
    let new : Seen = s.later_files.seen in
    let before : Channel = s.before in
    let spec : s.after.spec ≡ before.spec = ap (λ (c : Channel). c.spec) aborts.channel in
    let client : s.after.client ≡ before.client = ap (λ (c : Channel). c.client) aborts.channel in
    let idle : s.after.stage ≡ Idle = ap (λ (c : Channel). c.stage) aborts.channel in
    let no_run : channel_run s.after.stage ≡ None = ap (λ (x : ChannelStage). channel_run x) idle in
    let made : ℕ = files_made before.stage in
    let changes : ChangesRun before.spec (channel_run before.stage) (written_run before.stage) made made old new = change before.spec before.stage old new s.files.faults s.later_files.faults aborts.removes aborts.last in
    let tells : new.names ≡ old.names = tells_same before.spec (channel_run before.stage) (written_run before.stage) made made old new changes in
    let used : (m : ℕ) (d : Channel) → slot_at slots m ≡ Some d → (o : ChannelRun) → written_run d.stage ≡ Some o → IsTrue (old.writes o.at.file) = λ m d stood o is. last_used d.spec old (written_run d.stage) (open_files.files m d stood) o is in
    let grows : GrowsOn s.port s.later_port = standing_grows (asking_run before.stage) s.port s.later_port aborts.cancels in
    let own_stands : (head : FileHead) → ChannelStands before.spec before.client before.stage head s.port.own s.port.got old → ChannelStands s.after.spec s.after.client s.after.stage head s.later_port.own s.later_port.got new =
    λ head stands. rw (spec, client, idle) (keep before.spec before.client before.stage head s.port s.later_port old new aborts.cancels stands) in
    record {
      spec = spec;
      client = λ k is. client ∙ is;
      names = tells;
      on = goes_on before.spec (channel_run before.stage) (written_run before.stage) made made old new changes;
      self = λ b. record { head = b.head; stands = own_stands b.head b.stands; headed = λ opened is. absurd (let never : None ≡ Some opened = sym no_run ∙ is in cc (never)) };
      beside = λ m d other stood same b k. record {
        head = k.head;
        stands = beside before.spec before.client before.stage b.head d.spec d.client d.stage k.head s.port s.later_port old new s.files.faults s.later_files.faults aborts.cancels aborts.removes aborts.last b.stands
            (apart_on old before d (sym same) (apart m d other stood)) k.stands;
        headed = k.headed;
      };
      elsewhere = λ m d a other stood k. record {
        head = k.head;
        stands = files d.spec d.client d.stage k.head a.own a.got old new k.stands
            (run_files_left before.spec (channel_run before.stage) (written_run before.stage) made made d.spec (channel_run d.stage) (written_run d.stage) (files_made d.stage) old new changes (apart m d other stood).names (used m d stood) (apart m d other stood).numbers);
        headed = k.headed;
      };
      apart = λ m d other stood was. idle_slots_apart new before s.after d old spec client idle was;
      calls = λ calls. port_grown turns s.port s.later_port grows (own_stands kept.head kept.stands).port (cancels_lone (asking_run before.stage) s.port s.later_port aborts.cancels) calls;
      grows = grown_on s.port s.later_port grows;
      left = λ name told stays. (
        file_left before.spec (channel_run before.stage) (written_run before.stage) made made old new changes name (λ r is i low. stays.apart n before r there is i low),
        λ opened is. absurd (let never : None ≡ Some opened = sym no_run ∙ is in cc (never)),
      );
    }

pub abort_stands : LeftBeside → AbortsKeep → AbortsChange → AbortsBeside → FilesBeside → (H : ChannelRun → FileHead → Type 0) (turns : List MemberTurn) (n : ℕ) (slot : Option Channel) (a b : LoggerMoment) → slot_at a.slots n ≡ slot → HaveFilesOpen a.slots a.files.seen → StepsSlot AbortsChannel n slot a b
    → SlotsStand H turns a.slots a.ports a.files.seen → SlotsStand H turns b.slots b.ports b.files.seen
abort_stands law keep change beside files H turns n None a b there open_files step stands = subst (λ (m : LoggerMoment). SlotsStand H turns m.slots m.ports m.files.seen) (sym step) stands
abort_stands law keep change beside files H turns n (Some before) a b there open_files s stands =
    let step : ChannelStep = record { before = before; after = s.after; port = s.port; later_port = s.later_port; files = a.files; later_files = b.files } in
    let moves : Moves H turns a.slots n before s.after s.port s.later_port a.files.seen b.files.seen =
    abort_moves keep change beside files H turns a.slots n step there open_files (λ m d other stood. stands.apart n m before d (λ same. other (sym same)) there stood) (stands.channels n before s.port there s.at_port) s.step in
    rw (s.slots, s.ports) (moved law H turns a.slots a.ports n before s.after s.port s.later_port a.files.seen b.files.seen there s.at_port moves stands)
