-- So far no channel has this number.
use Rattle.std.specs.Prelude.{◌≡◌, drop}
use Rattle.session_runs.specs.KeptRuns.{channel_numbered}
use Rattle.session_runs.proofs.channels.channel_numbered.Given as goal

abbrev pub invariant-loop-spec : goal.invariant-loop-spec
invariant-loop-spec l = channel_numbered l.number l.fn.specs ≡ channel_numbered l.number (drop l.spec-index l.fn.specs)
