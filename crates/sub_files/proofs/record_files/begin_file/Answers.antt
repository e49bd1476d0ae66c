use Rattle.std.proofs.Common.{ap}
use Rattle.event.specs.Events.{encoding}
use Rattle.event.specs.declared.head.Header.{Header}
use Rattle.event.specs.Headers.{event_of}
use Rattle.sub_files.proofs.FileSteps.{made_with}
use Rattle.sub_files.proofs.record_files.begin_file.Goals as goal

pub returns-in-Ok-append_record-clause-begun : goal.returns-in-Ok-append_record-clause-begun
returns-in-Ok-append_record-clause-begun g c =
    made_with _ _ (ap (λ (h : Header). encoding (event_of h c.args.dump.now)) c.begin_record-header.ensures) c.in-Ok.ensures.made c.in-Ok-append_record.ensures.whole
