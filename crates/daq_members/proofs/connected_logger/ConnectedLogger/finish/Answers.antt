use Rattle.std.specs.Prelude.{map}
use Rattle.std.proofs.Common.{ap, arith}
use Rattle.daq_members.specs.ConnectedLoggers.{ConnectedSeen, connected, connected_finish}
use Rattle.daq_members.proofs.OtherFilesKept.{finish_specs}
use Rattle.daq_members.proofs.ChannelBounds.{none_kept}
use Rattle.daq_members.proofs.connected_logger.ConnectedLogger.finish.Goals as goal

pub invariant_of-self : goal.invariant_of-self
invariant_of-self g c =
    let did = c.finish.ensures in
    let was = c.self.invariant in
    let accesses = map g.P.BufferPort.access c.self.inside.ports in
    let read = g.F.Files.told in
    let call = connected_finish read c.finish.result (connected c.self.inside.logger accesses c.self.inside.files) (connected c.finish.new.self accesses c.finish.new.files) in (
      record {
        ready = did.ready accesses was.0.ready;
        room = did.room accesses was.0.room;
        idle = did.idle;
        begun = omega (arith, did.begun, was.0.begun);
        small = did.small;
      },
      was.1,
      none_kept c.self.inside.bound call.slots call.later_slots (finish_specs c.other_files.ensures.finishes call did.finishes was.0.ready.files) was.2,
    )

pub returns-clause-finishes : goal.returns-clause-finishes
returns-clause-finishes g c = rw (← c.self.view_is) c.finish.ensures.finishes

pub returns-clause-ports : goal.returns-clause-ports
returns-clause-ports g c = ap (λ (logger : ConnectedSeen _). logger.ports) c.self.view_is

pub returns-clause-keeps : goal.returns-clause-keeps
returns-clause-keeps g c = rw (← c.self.view_is) c.finish.ensures.keeps
