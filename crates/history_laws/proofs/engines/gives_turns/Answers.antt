use Rattle.history_laws.proofs.Gave.{gives_engine_turns}
use Rattle.history_laws.proofs.engines.gives_turns.Goals as goal

pub returns : goal.returns
returns c = gives_engine_turns
