use Rattle.std.proofs.Common.{Option, Some, None, Err, subst}
use Rattle.event.specs.declared.head.Header.{Header}
use Rattle.midas_tools.specs.Dumps.{EndsText, ListsTo, ended_text}
use Rattle.midas_tools.specs.declared.halts.Halt.{Halt}
use Rattle.midas_tools.proofs.Dumping.{dumps_good, dumps_fault}
use Rattle.midas_tools.proofs.dump.read_and_dump.Goals as goal

pub returns-in-Ok-clause-dumps : goal.returns-in-Ok-clause-dumps
returns-in-Ok-clause-dumps g c =
    let u = c.in-Ok.ensures.lists in
    dumps_good _ _ c.print_events.new.reader.progress _ (g.O.Sink.told c.print_events.new.out).written (g.O.Sink.told c.end_dump.new.out).written c.print_events.new.page u.1.0 u.0 u.1.1 c.end_dump.result
    (subst (λ (o : Option Header). EndsText None (g.O.Sink.told c.print_events.new.out).written (g.O.Sink.told c.end_dump.new.out).written (ended_text c.print_events.new.page o None) c.end_dump.result) c.last.ensures c.end_dump.ensures.text)

pub returns-in-Err-Bad-clause-dumps : goal.returns-in-Err-Bad-clause-dumps
returns-in-Err-Bad-clause-dumps g c =
    let u = subst (λ (h : Halt). ListsTo (g.S.Source.told c.args.reader.now.source).left (g.S.Source.told c.print_events.new.reader.source).left c.print_events.new.reader.progress (g.O.Sink.told c.args.out.now).written (g.O.Sink.told c.print_events.new.out).written
    c.print_events.new.page (Err h)) c.in-Err-Bad.field-0-is c.in-Err-Bad.ensures.lists in
    dumps_fault _ _ c.print_events.new.reader.progress _ (g.O.Sink.told c.print_events.new.out).written (g.O.Sink.told c.end_dump-in-Err-Bad.new.out).written c.print_events.new.page c.in-Err-Bad.fault u c.end_dump-in-Err-Bad.result
    (subst (λ (o : Option Header). EndsText (Some c.in-Err-Bad.fault) (g.O.Sink.told c.print_events.new.out).written (g.O.Sink.told c.end_dump-in-Err-Bad.new.out).written (ended_text c.print_events.new.page o (Some c.in-Err-Bad.fault)) c.end_dump-in-Err-Bad.result)
    c.last-in-Err-Bad.ensures c.end_dump-in-Err-Bad.ensures.text)
