use Rattle.odb_watch.proofs.Standing.{leads_stand, saved_text, saved_small}
use Rattle.odb_watch.proofs.laws.watched_databases_stay.Goals as goal

pub returns-clause-stays : goal.returns-clause-stays
returns-clause-stays c = leads_stand

pub returns-clause-saved : goal.returns-clause-saved
returns-clause-saved c = saved_text

pub returns-clause-small : goal.returns-clause-small
returns-clause-small c = saved_small
