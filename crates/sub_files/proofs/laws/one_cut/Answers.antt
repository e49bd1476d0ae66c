use Rattle.sub_files.proofs.CutLaws.{unlimited_cut}
use Rattle.sub_files.proofs.OneCut.{one_cut, one_free_cut}
use Rattle.sub_files.proofs.laws.one_cut.Goals as goal

pub returns-clause-many : goal.returns-clause-many
returns-clause-many c = one_cut

pub returns-clause-free : goal.returns-clause-free
returns-clause-free c = one_free_cut

pub returns-clause-unlimited : goal.returns-clause-unlimited
returns-clause-unlimited c = unlimited_cut
