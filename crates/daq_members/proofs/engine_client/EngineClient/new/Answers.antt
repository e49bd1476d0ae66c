use Rattle.std.proofs.Common.{ap, sym}
use Rattle.daq_members.specs.OwnTurns.{start_owed, are_calls_for}
use Rattle.daq_members.proofs.engine_client.EngineClient.new.Goals as goal

pub invariant_of-result : goal.invariant_of-result
invariant_of-result c = (c.requires.own, c.requires.idle, c.requires.number, sym (ap (start_owed c.args.number) c.requires.fresh), ap (are_calls_for c.args.number) c.requires.fresh)
