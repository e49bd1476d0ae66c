use Rattle.console.proofs.ClosingLaws.{text_part, text_whole}
use Rattle.console.proofs.script_laws.texts_are_written.Goals as goal

pub returns-clause-part : goal.returns-clause-part
returns-clause-part g c = text_part g.A.Answerer.withdraws

pub returns-clause-whole : goal.returns-clause-whole
returns-clause-whole g c = text_whole g.A.Answerer.withdraws
