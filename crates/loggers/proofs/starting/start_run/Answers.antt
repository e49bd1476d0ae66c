use Rattle.std.proofs.Common.{map, sym, ◌∙◌, arith}
use Rattle.std.proofs.lemmas.List.{length-map}
use Rattle.loggers.specs.Moments.{moment_of}
use Rattle.loggers.proofs.InTurns.{turns_as_many}
use Rattle.loggers.proofs.ReadySteps.{files_with}
use Rattle.loggers.proofs.starting.start_run.Goals as goal

pub returns-in-Err-begin_all-clause-begun : goal.returns-in-Err-begin_all-clause-begun
returns-in-Err-begin_all-clause-begun g c =
    omega (
      arith,
      (c.in-Err-begin_all.ensures.refuses (files_with (g.F.Files.told c.open_all.new.files).seen)).within,
      length-map c.open_all.new.ports g.P.BufferPort.access,
      c.begin_all.ensures.count,
      c.abort_all-in-Err-begin_all.ensures.count,
    )

pub returns-in-Ok-clause-starts : goal.returns-in-Ok-clause-starts
returns-in-Ok-clause-starts g c = record {
  opened = moment_of c.open_all.new.slots (map g.P.BufferPort.access c.open_all.new.ports) (g.F.Files.told c.open_all.new.files);
  opens = c.in_default.ensures.opens;
  begins = turns_as_many _ _ _ _ _ (c.open_all.ensures.count ∙ sym (length-map c.args.ports.now g.P.BufferPort.access))
      (c.in-Ok.ensures.begins (g.F.Files.told c.open_all.new.files));
  all = omega (arith, c.len.ensures, c.begin_all.ensures.count, c.open_all.ensures.count, length-map c.args.ports.now g.P.BufferPort.access);
}
