use Rattle.sub_files.proofs.SampleCuts.{cuts_samples}
use Rattle.sub_files.proofs.laws.sample_cuts.Goals as goal

pub returns : goal.returns
returns c = cuts_samples
