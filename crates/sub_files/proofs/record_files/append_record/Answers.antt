use Rattle.std.proofs.Common.{ℕ, List, subst}
use Rattle.daq_io.specs.Seen.{Extends, ExtendsPart}
use Rattle.sub_files.proofs.FileSteps.{record_whole, header_cut, dump_cut}
use Rattle.sub_files.proofs.record_files.append_record.Goals as goal

pub returns-in-Ok-clause-whole : goal.returns-in-Ok-clause-whole
returns-in-Ok-clause-whole g c =
    record_whole _ c.args.header.now c.args.dump.now c.append-in-Ok.result c.requires.stated
    (subst (λ (bytes : List ℕ). Extends (g.F.Files.told c.args.files.now).seen (g.F.Files.told c.append.new.self).seen c.args.file bytes) c.write_header.ensures c.in-Ok.ensures.written) c.append-in-Ok.ensures.written

pub returns-in-Ok-clause-part : goal.returns-in-Ok-clause-part
returns-in-Ok-clause-part g c =
    dump_cut _ c.args.header.now c.args.dump.now c.append-in-Ok.result c.requires.stated
    (subst (λ (bytes : List ℕ). Extends (g.F.Files.told c.args.files.now).seen (g.F.Files.told c.append.new.self).seen c.args.file bytes) c.write_header.ensures c.in-Ok.ensures.written) c.append-in-Ok.ensures.part

pub returns-in-Err-clause-part : goal.returns-in-Err-clause-part
returns-in-Err-clause-part g c =
    header_cut c.args.header.now c.args.dump.now c.requires.stated
    (subst (λ (bytes : List ℕ). ExtendsPart (g.F.Files.told c.args.files.now).seen (g.F.Files.told c.append.new.self).seen c.args.file bytes) c.write_header.ensures c.in-Err.ensures.part)
