use Rattle.std.proofs.Common.{refl}
use Rattle.member_rows.proofs.RowSteps.{lent_sizes, sizes_same}
use Rattle.member_rows.proofs.calls.call.Goals as goal

pub returns-in_default : goal.returns-in_default
returns-in_default g c = record { sizes = sizes_same _ }

pub returns : goal.returns
returns g c =
    record { sizes = lent_sizes g.P.BufferPort.access c.args.ports.now c.args.buffer c.in-Some.port.now c.call_on.new.port (c.in-Some.ensures.variant.0 refl) c.in-Some.ensures.entry.1 c.call_on.ensures.size }
