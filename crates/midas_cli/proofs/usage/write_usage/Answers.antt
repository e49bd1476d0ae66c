use Rattle.std.proofs.Common.{ℕ, List, subst}
use Rattle.daq_io.specs.Streams.{AppendsPart}
use Rattle.midas_cli.proofs.Parts.{part_either}
use Rattle.midas_cli.proofs.usage.write_usage.Goals as goal

pub returns-clause-part : goal.returns-clause-part
returns-clause-part g c =
    subst (λ (text : List ℕ). AppendsPart (g.O.Sink.told c.args.out.now).written (g.O.Sink.told c.write_all.new.out).written text) c.as_bytes.ensures.value
    (part_either c.write_all.result (g.O.Sink.told c.args.out.now).written (g.O.Sink.told c.write_all.new.out).written c.as_bytes.result.now c.write_all.ensures.all c.write_all.ensures.part)
