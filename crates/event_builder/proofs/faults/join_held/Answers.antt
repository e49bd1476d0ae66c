use Rattle.std.proofs.Common.{arith, rules}
use Rattle.event_builder.proofs.JoinedBanks.{size_fits}
use Rattle.event_builder.proofs.faults.join_held.Goals as goal

pub built_size-size-requires : goal.built_size-size-requires
built_size-size-requires c = record { few = c.requires.few; joins = c.requires.joins (search rules) }

pub join-requires : goal.join-requires
join-requires c = record {
  format = c.requires.format;
  joins = size_fits c.args.inputs.now c.args.body.now.limit c.built_size-size.result c.built_size-size.ensures (omega (arith, c.requires.limit));
}
