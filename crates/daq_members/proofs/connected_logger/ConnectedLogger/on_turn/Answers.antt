use Rattle.std.specs.Prelude.{map}
use Rattle.daq_members.specs.ConnectedLoggers.{connected, connected_turned}
use Rattle.daq_members.proofs.LoggerSeatLaws.{begun_mapped, begun_read}
use Rattle.daq_members.proofs.OtherFilesKept.{turn_specs}
use Rattle.daq_members.proofs.ChannelBounds.{none_kept}
use Rattle.daq_members.proofs.connected_logger.ConnectedLogger.on_turn.Goals as goal

pub on_turn-requires-clause-begun : goal.on_turn-requires-clause-begun
on_turn-requires-clause-begun g c = begun_read g.P.BufferPort.access c.self.inside.ports _ c.self.invariant.0.begun

pub invariant_of-self : goal.invariant_of-self
invariant_of-self g c =
    let did = c.on_turn.ensures in
    let was = c.self.invariant in
    let now = c.self.inside in
    let new = c.on_turn.new in
    let read = g.F.Files.told in
    let before = connected now.logger (map g.P.BufferPort.access now.ports) now.files in
    let after = connected new.self (map g.P.BufferPort.access new.ports) new.files in
    let call = connected_turned read c.args.transition c.args.order.now c.args.dump c.on_turn.result before after in (
      record {
        ready = did.ready;
        room = did.room was.0.room;
        idle = did.idle;
        begun = begun_mapped g.P.BufferPort.access new.ports _ did.begun;
        small = did.small was.0.small;
      },
      was.1,
      none_kept now.bound before.slots after.slots (turn_specs c.other_files.ensures.turns call did.takes was.0.ready) was.2,
    )

pub returns-clause-takes : goal.returns-clause-takes
returns-clause-takes g c = rw (← c.self.view_is) c.on_turn.ensures.takes

pub returns-clause-same : goal.returns-clause-same
returns-clause-same g c = rw (← c.self.view_is) c.on_turn.ensures.same

pub returns-clause-keeps : goal.returns-clause-keeps
returns-clause-keeps g c = rw (← c.self.view_is) c.on_turn.ensures.keeps
