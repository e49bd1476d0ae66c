use Rattle.odb_commands.proofs.CommandsMade.{save_clash, save_done, save_short}
use Rattle.odb_commands.proofs.watch_laws.saves_by_file_reply.Goals as goal

pub returns-clause-done : goal.returns-clause-done
returns-clause-done c = save_done

pub returns-clause-clash : goal.returns-clause-clash
returns-clause-clash c = save_clash

pub returns-clause-short : goal.returns-clause-short
returns-clause-short c = save_short
