use Rattle.std.specs.Prelude.{ℕ}
use Rattle.std.proofs.Common.{subst}
use Rattle.sub_files.specs.declared.open_file.OpenFile.{OpenFile}
use Rattle.mid_logger.specs.ChannelTurns.{OpenFaults}
use Rattle.mid_logger.proofs.OpenSteps.{begun_not_taken, refused_taken}
use Rattle.mid_logger.proofs.channel.Channel.open_run.Goals as goal

pub returns-in-Ok-clause-faults : goal.returns-in-Ok-clause-faults
returns-in-Ok-clause-faults g c =
    subst (λ (n : ℕ). OpenFaults c.start_asking.result n (g.F.Files.told c.start_asking.new.files).faults) c.in-Ok.ensures.faults.done c.start_asking.ensures.faults

pub returns-in-Ok-clause-exists : goal.returns-in-Ok-clause-exists
returns-in-Ok-clause-exists g c = λ told.
    begun_not_taken _ _ _ _ c.start_asking.ensures.why (c.in-Ok.ensures.exists told)

pub returns-in-Err-clause-exists : goal.returns-in-Err-clause-exists
returns-in-Err-clause-exists g c = λ told.
    refused_taken {T = OpenFile} _ _ _ _ c.refusal.ensures.why (c.in-Err.ensures.exists told)
