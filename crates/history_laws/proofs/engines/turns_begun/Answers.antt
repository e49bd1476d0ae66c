use Rattle.history_laws.proofs.Begun.{turns_were_begun, starts_from_stopped, stops_from_run}
use Rattle.history_laws.proofs.engines.turns_begun.Goals as goal

pub returns : goal.returns
returns c = record {
  begun = turns_were_begun c.follows.ensures;
  starts = starts_from_stopped c.follows.ensures;
  stops = stops_from_run c.follows.ensures;
}
