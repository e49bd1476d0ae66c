use Rattle.odb_text.proofs.Splitting.{is_blanks}
use Rattle.odb_text.proofs.words.are_blanks.Goals as goal

pub returns : goal.returns
returns c = is_blanks c.args.bytes.now c.behind_blanks.result.now c.is_empty.result c.behind_blanks.ensures c.is_empty.ensures
