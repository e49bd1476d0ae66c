use Rattle.std.proofs.Common.{◌∙◌, ℕ, rules, refl, ap, subst}
use Rattle.midas_tools.specs.declared.opening.Refused.TheVariants.{NameCompressed}
use Rattle.midas_tools.specs.Dumps.{ReadCounts}
use Rattle.midas_tools.specs.Findings.{call_counts}
use Rattle.midas_tools.proofs.EndCounts.{closed_clashes, closed_files, closed_sink, refused_clashes, refused_files, refused_sink}
use Rattle.midas_tools.proofs.Complete.{dump_ends}
use Rattle.midas_tools.proofs.Dumped.{dump_refused, dump_read, origin_of, closed_has_memory, refused_has_memory}
use Rattle.midas_tools.proofs.dump.dump_file.Goals as goal

pub returns-then-compressed-clause-writes : goal.returns-then-compressed-clause-writes
returns-then-compressed-clause-writes g c =
    dump_refused (g.F.Files.told c.args.files).seen c.args.name.now _ _ (g.O.Sink.told c.args.out.now).written (g.O.Sink.told c.refuse.new.out).written 0 0 0 0 _ _ NameCompressed c.refuse.result (search rules, refl) c.refuse.ensures refl

pub returns-then-compressed-clause-ends : goal.returns-then-compressed-clause-ends
returns-then-compressed-clause-ends g c =
    dump_ends _ _ _ _ (call_counts g.O.Sink.told g.F.Files.told c.args.out.now c.refuse.new.out c.args.files c.args.files) c.refuse.result (returns-then-compressed-clause-writes g c)
    (refused_sink _ _ _ _ NameCompressed c.refuse.result c.refuse.ensures)
    (refused_files (g.F.Files.told c.args.files).faults (g.F.Files.told c.args.files).faults (g.F.Files.told c.args.files).seen c.args.name.now (g.F.Files.told c.args.files).clashes (g.F.Files.told c.args.files).clashes _ _ _ _ NameCompressed c.refuse.result (search rules, refl) c.refuse.ensures)
    (refused_clashes (g.F.Files.told c.args.files).clashes (g.F.Files.told c.args.files).clashes (g.F.Files.told c.args.files).seen c.args.name.now (g.F.Files.told c.args.files).faults (g.F.Files.told c.args.files).faults _ _ _ _ NameCompressed c.refuse.result (search rules, refl) c.refuse.ensures)

pub returns-in-Ok-open-clause-writes : goal.returns-in-Ok-open-clause-writes
returns-in-Ok-open-clause-writes g c =
    dump_read (g.F.Files.told c.args.files).seen c.args.name.now (g.F.Files.told c.args.files).bytes_read (g.F.Files.told c.close_file.result.1).bytes_read (g.O.Sink.told c.args.out.now).written (g.O.Sink.told c.dump_source-end.new.out).written
    (g.F.Files.told c.in-Ok-open.source.files).seen c.in-Ok-open.source.number c.in-Ok-open.ensures.opened (g.F.Files.told c.dump_source-end.result.1.files).seen
    (record { files = (g.F.Files.told c.dump_source-end.result.1.first).seen; bytes_read = (g.F.Files.told c.dump_source-end.result.1.first).bytes_read; number = c.dump_source-end.result.1.number }) _ _ c.dump_source-end.result.0 c.close_file.result.0
    (c.dump_source-end.ensures.origin ∙ (origin_of (g.F.Files.told c.in-Ok-open.source.first).seen (g.F.Files.told c.in-Ok-open.source.files).seen (g.F.Files.told c.in-Ok-open.source.first).bytes_read (g.F.Files.told c.args.files).bytes_read c.in-Ok-open.source.number
    (ap (λ files. (g.F.Files.told files).seen) c.in-Ok-open.ensures.first) (ap (λ files. (g.F.Files.told files).bytes_read) c.in-Ok-open.ensures.first ∙ c.in-Ok-open.ensures.bytes_read))) c.dump_source-end.ensures.dumps
    c.close_file.ensures.front c.close_file.ensures.closed

pub returns-in-Ok-open-clause-ends : goal.returns-in-Ok-open-clause-ends
returns-in-Ok-open-clause-ends g c =
    dump_ends _ _ _ _ (call_counts g.O.Sink.told g.F.Files.told c.args.out.now c.dump_source-end.new.out c.args.files c.close_file.result.1) c.close_file.result.0 (returns-in-Ok-open-clause-writes g c)
    (closed_sink _ _ _ _ _ c.close_file.result.0 c.dump_source-end.ensures.sink c.close_file.ensures.closed)
    (closed_files _ _ (g.F.Files.told c.dump_source-end.result.1.files).faults _ c.close_file.result.0 (subst (λ (n : ℕ). ReadCounts c.dump_source-end.result.0 n (g.F.Files.told c.dump_source-end.result.1.files).faults) c.in-Ok-open.ensures.faults c.dump_source-end.ensures.source) c.close_file.ensures.closed)
    (closed_clashes _ _ _ _ _ _ _ _ _ c.close_file.result.0 c.dump_source-end.ensures.dumps c.close_file.ensures.closed)

pub returns-in-Err-clause-writes : goal.returns-in-Err-clause-writes
returns-in-Err-clause-writes g c =
    dump_refused (g.F.Files.told c.args.files).seen c.args.name.now _ _ (g.O.Sink.told c.args.out.now).written (g.O.Sink.told c.refuse-in-Err.new.out).written _ _ _ _ _ _ c.in-Err.refused c.refuse-in-Err.result c.in-Err.ensures.refused c.refuse-in-Err.ensures c.in-Err.ensures.none_read

pub returns-in-Err-clause-ends : goal.returns-in-Err-clause-ends
returns-in-Err-clause-ends g c =
    dump_ends _ _ _ _ (call_counts g.O.Sink.told g.F.Files.told c.args.out.now c.refuse-in-Err.new.out c.args.files c.in-Err.files) c.refuse-in-Err.result (returns-in-Err-clause-writes g c)
    (refused_sink _ _ _ _ c.in-Err.refused c.refuse-in-Err.result c.refuse-in-Err.ensures)
    (refused_files (g.F.Files.told c.args.files).faults (g.F.Files.told c.in-Err.files).faults (g.F.Files.told c.args.files).seen c.args.name.now (g.F.Files.told c.args.files).clashes (g.F.Files.told c.in-Err.files).clashes _ _ _ _ c.in-Err.refused c.refuse-in-Err.result c.in-Err.ensures.refused c.refuse-in-Err.ensures)
    (refused_clashes (g.F.Files.told c.args.files).clashes (g.F.Files.told c.in-Err.files).clashes (g.F.Files.told c.args.files).seen c.args.name.now (g.F.Files.told c.args.files).faults (g.F.Files.told c.in-Err.files).faults _ _ _ _ c.in-Err.refused c.refuse-in-Err.result c.in-Err.ensures.refused c.refuse-in-Err.ensures)

pub returns-in-Ok-open-clause-uncalled : goal.returns-in-Ok-open-clause-uncalled
returns-in-Ok-open-clause-uncalled g c = λ e. absurd (closed_has_memory _ _ _ _ _ _ _ _ c.dump_source-end.ensures.dumps c.close_file.ensures.closed e)

pub returns-in-Err-clause-uncalled : goal.returns-in-Err-clause-uncalled
returns-in-Err-clause-uncalled g c = λ e. absurd (refused_has_memory _ _ _ _ _ _ c.refuse-in-Err.ensures e)
