use Rattle.std.proofs.lemmas.Str.{IsUtf8-from_ascii}
use Rattle.daq_std.proofs.ByteSteps.{name_ascii}
use Rattle.daq_std.proofs.folder.text_of.Goals as goal

pub unreachable-requires : goal.unreachable-requires
unreachable-requires c = c.in-Err.ensures.cases.0 (IsUtf8-from_ascii _ (name_ascii _ c.requires))
