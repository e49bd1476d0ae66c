-- What the commands of runs keep.
use Rattle.std.specs.Prelude.{◌≡◌, ℕ}
use Rattle.odb_watch.specs.DatabasePorts.{IsSamePort}
use Rattle.member_crew.specs.Rounds.{HadRounds}
use Rattle.session_runs.specs.RunAnswers.{CommandPoint}

-- The quota of the runs to come stays, and so do the engine and the database; the members had so many rounds.
pub record KeptByCommand {M : Type 0} (round : M → M → Type 0) (old new : CommandPoint M) : Type 0 where
  pub quota : new.runs.quota ≡ old.runs.quota
  pub engine : new.runs.main.engine ≡ old.runs.main.engine
  pub count : ℕ
  pub rounds : HadRounds round count old.members new.members
  pub port : IsSamePort old.database new.database
