use Rattle.composition.proofs.NeededSessions.{all_met, buffers_needed, engine_needed, names_needed, members_needed, fronts_needed, moments_needed, sets_needed, alone_needed, logger_needed, events_needed, analyzers_needed, fronts_there, analyzers_there, logger_there_needed, dump_needed}
use Rattle.composition.proofs.PausedNeeded.{pauses_needed}
use Rattle.composition.proofs.CountedSampled.{counted_needed, got_needed}
use Rattle.composition.proofs.AskedTwice.{asked_needed}
use Rattle.composition.proofs.laws.needs_each_premise.Goals as goal

pub returns : goal.returns
returns c =
    record {
      met = all_met;
      buffers = buffers_needed;
      engine = engine_needed;
      names = names_needed;
      members = members_needed;
      fronts = fronts_needed;
      moments = moments_needed;
      pauses = pauses_needed;
      sets = sets_needed;
      sets_alone = alone_needed;
      logger = logger_needed;
      events = events_needed;
      analyzers = analyzers_needed;
      asked = asked_needed;
      counted = counted_needed;
      got = got_needed;
      fronts_there = fronts_there;
      analyzers_there = analyzers_there;
      logger_there = logger_there_needed;
      dump = dump_needed;
    }
