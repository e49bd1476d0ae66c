use Rattle.session_laws.proofs.Suffice.{blanks_suffice}
use Rattle.session_laws.proofs.blank_laws.blanks_suffice.Goals as goal

pub returns : goal.returns
returns c = blanks_suffice c.tallies_answered.ensures.refusals c.start_numbers_rise.ensures
