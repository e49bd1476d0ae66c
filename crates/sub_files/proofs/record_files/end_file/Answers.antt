use Rattle.std.proofs.Common.{ℕ, List, ap, subst}
use Rattle.event.specs.Events.{encoding}
use Rattle.daq_io.specs.Seen.{close_state}
use Rattle.daq_io.proofs.SeenLaws.{Extends-writes, Writes-writes}
use Rattle.event.specs.declared.head.Header.{Header}
use Rattle.event.specs.Headers.{event_of}
use Rattle.sub_files.specs.RecordFiles.{ClosesPart}
use Rattle.sub_files.proofs.FileParts.{part_closed}
use Rattle.sub_files.proofs.FileSteps.{closed_whole, closed_part}
use Rattle.sub_files.proofs.record_files.end_file.Goals as goal

pub returns-in-Ok-clause-whole : goal.returns-in-Ok-clause-whole
returns-in-Ok-clause-whole g c =
    closed_whole _ _ c.close.result (ap (λ (h : Header). encoding (event_of h c.args.dump.now)) c.end_record-header.ensures) c.in-Ok.ensures.whole (c.close.ensures.written (Extends-writes c.in-Ok.ensures.whole))

pub returns-in-Ok-clause-part : goal.returns-in-Ok-clause-part
returns-in-Ok-clause-part g c =
    closed_part _ _ c.close.result (ap (λ (h : Header). encoding (event_of h c.args.dump.now)) c.end_record-header.ensures) c.in-Ok.ensures.whole (c.close.ensures.written (Extends-writes c.in-Ok.ensures.whole))

pub returns-in-Err-clause-part : goal.returns-in-Err-clause-part
returns-in-Err-clause-part g c =
    subst (λ (bytes : List ℕ). ClosesPart (g.F.Files.told c.args.files.now).seen (g.F.Files.told c.close-in-Err.new.self).seen c.args.file bytes)
    (ap (λ (h : Header). encoding (event_of h c.args.dump.now)) c.end_record-header.ensures)
    (part_closed _ c.in-Err.ensures.part (record { state = close_state c.close-in-Err.result; closes = c.close-in-Err.ensures.written (Writes-writes c.in-Err.ensures.part.wrote) }))
