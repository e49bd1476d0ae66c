use Rattle.odb_commands.proofs.CommandsMade.{load_clash, load_done, load_long, load_none, load_uncalled}
use Rattle.odb_commands.proofs.watch_laws.loads_by_file_reply.Goals as goal

pub returns-clause-done : goal.returns-clause-done
returns-clause-done c = load_done

pub returns-clause-uncalled : goal.returns-clause-uncalled
returns-clause-uncalled c = load_uncalled

pub returns-clause-none : goal.returns-clause-none
returns-clause-none c = load_none

pub returns-clause-clash : goal.returns-clause-clash
returns-clause-clash c = load_clash

pub returns-clause-long : goal.returns-clause-long
returns-clause-long c = load_long
