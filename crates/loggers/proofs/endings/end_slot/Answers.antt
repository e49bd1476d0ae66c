use Rattle.std.specs.Prelude.{Some, slice_set}
use Rattle.std.proofs.Common.{refl}
use Rattle.daq_io.specs.Told.{FilesTold}
use Rattle.loggers.specs.Finishing.{EndingMoment, EndsNumbered, ending_of}
use Rattle.loggers.proofs.StepEntries.{slot_ends}
use Rattle.loggers.proofs.endings.end_slot.Goals as goal

pub close-requires-clause-file : goal.close-requires-clause-file
close-requires-clause-file g c = c.requires.file c.in-Some.channel c.in-Some.is

pub returns-in-Some : goal.returns-in-Some
returns-in-Some g c = record {
  ends = λ slots at.
      let old : FilesTold = g.F.Files.told c.args.files.now in
      let new : FilesTold = g.F.Files.told c.close.new.files in
      let before : EndingMoment = ending_of slots old c.args.ends.now in
      let behind : EndingMoment = ending_of (slice_set slots c.args.number (Some c.close.new.self)) new (slice_set c.args.ends.now c.args.number c.close.result) in
      let ends : EndsNumbered c.args.time c.args.dump.now c.args.number c.in-Some.channel before behind = record {
        after = c.close.new.self;
        told = c.close.result;
        slots = refl;
        at = refl;
        ends = record {
          channel = c.close.ensures.channel;
          told_is = c.close.ensures.told;
          ends = c.close.ensures.closes;
          failed = c.close.ensures.failed;
          clashes = c.close.ensures.clashes;
          first = c.close.ensures.first;
        };
      } in
      slot_ends c.args.time c.args.dump.now c.args.number c.args.slot.now c.in-Some.channel before behind c.in-Some.is ends;
}
