use Rattle.std.specs.Prelude.{map}
use Rattle.std.proofs.Common.{sym, ◌∙◌}
use Rattle.daq_members.specs.ConnectedLoggers.{connected, moment_at}
use Rattle.daq_members.proofs.LoggerLaws.{pulls_nothing, stays_at_none}
use Rattle.daq_members.proofs.ChannelBounds.{none_pulled}
use Rattle.daq_members.proofs.connected_logger.ConnectedLogger.pull_one.Goals as goal

pub returns-then-not-has_channel-clause-pulls : goal.returns-then-not-has_channel-clause-pulls
returns-then-not-has_channel-clause-pulls g c = rw (← c.self.view_is) (pulls_nothing _ c.args.channel _ (sym c.has_channel.ensures ∙ c.if-not-has_channel.true))

pub returns-then-not-has_channel-clause-stays : goal.returns-then-not-has_channel-clause-stays
returns-then-not-has_channel-clause-stays g c = stays_at_none g.F.Files.told _

pub invariant_of-self : goal.invariant_of-self
invariant_of-self g c =
    let did = c.pull-pulled.ensures in
    let was = c.self.invariant in
    let read = g.F.Files.told in
    let now = c.self.inside in
    let new = c.pull-pulled.new in
    let before = moment_at read (connected now.logger (map g.P.BufferPort.access now.ports) now.files) in
    let after = moment_at read (connected new.self (map g.P.BufferPort.access new.ports) new.files) in (
      record {
        ready = did.ready;
        room = did.room was.0.room;
        idle = did.idle;
        begun = rw (did.run, did.same.many) was.0.begun;
        small = rw did.dumps was.0.small;
      },
      was.1,
      none_pulled _ now.bound c.args.channel c.pull-pulled.result before after did.pulls was.2,
    )

pub returns-clause-pulls : goal.returns-clause-pulls
returns-clause-pulls g c = rw (← c.self.view_is) c.pull-pulled.ensures.pulls

pub returns-clause-stays : goal.returns-clause-stays
returns-clause-stays g c =
    let did = c.pull-pulled.ensures in
    rw (← c.self.view_is) (record { run = did.run; dumps = did.dumps; same = did.same; keeps = did.keeps })
