use Rattle.sub_files.proofs.OnePattern.{one_pattern}
use Rattle.sub_files.proofs.laws.one_pattern.Goals as goal

pub returns : goal.returns
returns c = one_pattern
