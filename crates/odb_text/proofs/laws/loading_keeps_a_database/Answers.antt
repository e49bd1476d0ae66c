use Rattle.odb_text.proofs.LoadKeeps.{load_keeps}
use Rattle.odb_text.proofs.laws.loading_keeps_a_database.Goals as goal

pub returns : goal.returns
returns c = load_keeps
