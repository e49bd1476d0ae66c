use Rattle.daq_members.proofs.AnalyzerLaws.{member_keeps}
use Rattle.daq_members.proofs.analyzer_laws.analyzers_keep.Goals as goal

pub returns : goal.returns
returns c = member_keeps
