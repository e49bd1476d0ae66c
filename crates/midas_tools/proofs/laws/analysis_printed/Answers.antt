use Rattle.midas_tools.proofs.ReadBack.{printed_is}
use Rattle.midas_tools.proofs.laws.analysis_printed.Goals as goal

pub returns : goal.returns
returns c = printed_is c.one_reading.ensures
