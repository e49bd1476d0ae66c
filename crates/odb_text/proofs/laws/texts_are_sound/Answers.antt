use Rattle.odb_text.proofs.LoadKeeps.{act_links, text_sound}
use Rattle.odb_text.proofs.laws.texts_are_sound.Goals as goal

pub returns-clause-acts : goal.returns-clause-acts
returns-clause-acts c = text_sound

pub returns-clause-links : goal.returns-clause-links
returns-clause-links c = act_links
