use Rattle.loggers.proofs.FaultsNoted.{turn_faults, pull_faults, finish_faults, notes_then}
use Rattle.loggers.proofs.laws.faults_noted.Goals as goal

pub returns : goal.returns
returns c = record {
  turns = turn_faults;
  pulls = pull_faults;
  finishes = finish_faults;
  follow = notes_then;
}
