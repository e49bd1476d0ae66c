use Rattle.std.proofs.Common.{ap, subst}
use Rattle.std.specs.Prelude.{ℕ, List}
use Rattle.event.specs.Events.{encoding}
use Rattle.event.specs.declared.head.Header.{Header}
use Rattle.event.specs.Headers.{event_of}
use Rattle.sub_files.specs.RecordFiles.{ClosesPart}
use Rattle.sub_files.proofs.FileParts.{part_closed}
use Rattle.sub_files.proofs.open_file.OpenFile.begin_next.Goals as goal

pub returns-in-Err-clause-fails : goal.returns-in-Err-clause-fails
returns-in-Err-clause-fails g c =
    subst (λ (bytes : List ℕ). ClosesPart (g.F.Files.told c.args.files.now).seen (g.F.Files.told c.close_behind.new.files).seen c.args.file bytes)
    (ap (λ (h : Header). encoding (event_of h c.args.dump.now)) c.begin_record-header.ensures)
    (part_closed _ c.in-Err.ensures.part c.close_behind.ensures.closes)
