use Rattle.std.proofs.Common.{◌≡◌, ◌∙◌, ℕ, Option, Some, None, Result, Ok, Err, refl, ap, sym, subst, rules}
use Rattle.std.specs.Prelude.{is_some}
use Rattle.std.proofs.lemmas.Result.{err_from_is_err_and}
use Rattle.daq_types.specs.declared.events.Event.{Event}
use Rattle.daq_io.specs.Counts.{RoseBy}
use Rattle.event.specs.declared.head.Header.{Header}
use Rattle.mid_format.specs.Opened.{fault_of}
use Rattle.mid_format.specs.declared.faults.MidFault.{MidFault}
use Rattle.midas_tools.specs.Areas.{AreEventLines, PassesLines}
use Rattle.midas_tools.specs.Dumps.{new_begin}
use Rattle.midas_tools.specs.Printing.{PassesText}
use Rattle.midas_tools.proofs.Dumping.{Stepped, printing_none, stepped, begin_cut, one_more, one_cut, up_to_end, up_to_fault, counts_ok, next_by_none, not_ended, ended_at, event_again}
use Rattle.midas_tools.proofs.dump.print_events.Goals as goal

pub events-init : goal.events-init
events-init g c = record { printing = printing_none _ _ _ _ c.requires.new c.requires.blank; room = c.requires.room; origin = refl; source = refl; sink = refl }

pub returns-in_err-print_begin-clause-lists : goal.returns-in_err-print_begin-clause-lists
returns-in_err-print_begin-clause-lists g c =
    let p = err_from_is_err_and c.from_residual.result c.from_residual.ensures.1 in
    rw (p.1, p.2) (begin_cut _ _ (g.S.Source.told c.next-given.new.self.source).left _ c.next-given.new.self.progress _ (g.O.Sink.told c.events.out).written (g.O.Sink.told c.print_begin.new.out).written c.events.page c.print_begin.new.page c.is_some-begun.result
    c.next-given.result c.next-given.new.into.event c.in_err-print_begin.field-0.0 c.events.invariant.printing c.next-given.ensures.reads (c.is_some-begun.ensures ∙ ap (is_some {T = Header}) c.begin.ensures)
    (subst (λ (o : Option Header). PassesText (g.O.Sink.told c.events.out).written (g.O.Sink.told c.print_begin.new.out).written c.events.page c.print_begin.new.page (new_begin c.is_some-begun.result o) (Err c.in_err-print_begin.field-0.0))
    c.begin-in-events.ensures c.in_err-print_begin.ensures.passes))

pub returns-in_err-print_begin-clause-source : goal.returns-in_err-print_begin-clause-source
returns-in_err-print_begin-clause-source g c =
    let p = err_from_is_err_and c.from_residual.result c.from_residual.ensures.1 in
    rw (p.1, p.2) (next_by_none _ _ _ _ c.next-given.result c.next-given.ensures.counted c.events.invariant.source)

pub returns-in_err-print_event-in-Ok-Some-clause-source : goal.returns-in_err-print_event-in-Ok-Some-clause-source
returns-in_err-print_event-in-Ok-Some-clause-source g c =
    let p = err_from_is_err_and c.from_residual-in_err-print_event-in-Ok-Some.result c.from_residual-in_err-print_event-in-Ok-Some.ensures.1 in
    rw (p.1, p.2) (next_by_none _ _ _ _ c.next-given.result c.next-given.ensures.counted c.events.invariant.source)

pub returns-in_err-print_at_hand-in-Ok-Some-clause-source : goal.returns-in_err-print_at_hand-in-Ok-Some-clause-source
returns-in_err-print_at_hand-in-Ok-Some-clause-source g c =
    let p = err_from_is_err_and c.from_residual-in_err-print_at_hand-in-Ok-Some.result c.from_residual-in_err-print_at_hand-in-Ok-Some.ensures.1 in
    rw (p.1, p.2)
    (subst (λ (n : ℕ). RoseBy 0 (g.S.Source.told c.args.reader.now.source).faults n) (sym c.print_at_hand.ensures.source)
    (next_by_none _ _ _ _ c.next-given.result c.next-given.ensures.counted c.events.invariant.source))

pub returns-in_err-print_event-in-Ok-Some-clause-lists : goal.returns-in_err-print_event-in-Ok-Some-clause-lists
returns-in_err-print_event-in-Ok-Some-clause-lists g c =
    let one = rw c.in-Ok-Some.is at c.in-Ok-Some.field-0-is in
    let given : c.next-given.result ≡ Ok (Some c.in-Ok-Some.field-0-0) = c.in-Ok-Some.is ∙ ap Ok one in
    let st = stepped (g.S.Source.told c.args.reader.now.source).left _ (g.S.Source.told c.next-given.new.self.source).left _ c.next-given.new.self.progress (g.O.Sink.told c.args.out.now).written (g.O.Sink.told c.events.out).written (g.O.Sink.told c.print_begin.new.out).written
    c.events.page c.print_begin.new.page c.is_some-begun.result c.next-given.result c.next-given.new.into.event c.in_ok-print_begin.field-0 c.events.invariant.printing c.next-given.ensures.reads
    (c.is_some-begun.ensures ∙ ap (is_some {T = Header}) c.begin.ensures) c.next-given.ensures.begun
    (subst (λ (o : Option Header). PassesText (g.O.Sink.told c.events.out).written (g.O.Sink.told c.print_begin.new.out).written c.events.page c.print_begin.new.page (new_begin c.is_some-begun.result o) (Ok c.in_ok-print_begin.field-0))
    c.begin-in-events.ensures c.in_ok-print_begin.ensures.passes) in
    let p = err_from_is_err_and c.from_residual-in_err-print_event-in-Ok-Some.result c.from_residual-in_err-print_event-in-Ok-Some.ensures.1 in
    rw (p.1, p.2) (one_cut (g.S.Source.told c.args.reader.now.source).left (g.S.Source.told c.next-given.new.self.source).left c.next-given.new.self.progress (g.O.Sink.told c.args.out.now).written (g.O.Sink.told c.print_begin.new.out).written (g.O.Sink.told c.print_event.new.out).written
    c.print_begin.new.page c.print_event.new.page c.in-Ok-Some.field-0-0 c.in_err-print_event-in-Ok-Some.field-0.0 c.next-given.new.into.event
    (subst (λ (r : Result (Option (Unit {0})) MidFault). Stepped (g.S.Source.told c.args.reader.now.source).left (g.S.Source.told c.next-given.new.self.source).left c.next-given.new.self.progress (g.O.Sink.told c.args.out.now).written (g.O.Sink.told c.print_begin.new.out).written
    c.print_begin.new.page r c.next-given.new.into.event) given st)
    (subst (λ (e : Event). PassesLines (AreEventLines e) (g.O.Sink.told c.print_begin.new.out).written (g.O.Sink.told c.print_event.new.out).written c.print_begin.new.page c.print_event.new.page (Err c.in_err-print_event-in-Ok-Some.field-0.0))
    (event_again c.header.result c.body.result.now c.next-given.new.into.event c.header.ensures c.body.ensures) c.in_err-print_event-in-Ok-Some.ensures.passes))

pub events-preserved : goal.events-preserved
events-preserved g c =
    let one = rw c.in-Ok-Some.is at c.in-Ok-Some.field-0-is in
    let given : c.next-given.result ≡ Ok (Some c.in-Ok-Some.field-0-0) = c.in-Ok-Some.is ∙ ap Ok one in
    let st = stepped (g.S.Source.told c.args.reader.now.source).left _ (g.S.Source.told c.next-given.new.self.source).left _ c.next-given.new.self.progress (g.O.Sink.told c.args.out.now).written (g.O.Sink.told c.events.out).written (g.O.Sink.told c.print_begin.new.out).written
    c.events.page c.print_begin.new.page c.is_some-begun.result c.next-given.result c.next-given.new.into.event c.in_ok-print_begin.field-0 c.events.invariant.printing c.next-given.ensures.reads
    (c.is_some-begun.ensures ∙ ap (is_some {T = Header}) c.begin.ensures) c.next-given.ensures.begun
    (subst (λ (o : Option Header). PassesText (g.O.Sink.told c.events.out).written (g.O.Sink.told c.print_begin.new.out).written c.events.page c.print_begin.new.page (new_begin c.is_some-begun.result o) (Ok c.in_ok-print_begin.field-0))
    c.begin-in-events.ensures c.in_ok-print_begin.ensures.passes) in
    record {
      printing = c.in_ok-print_at_hand-in-Ok-Some.ensures.prints _ _ (one_more (g.S.Source.told c.args.reader.now.source).left (g.S.Source.told c.next-given.new.self.source).left c.next-given.new.self.progress (g.O.Sink.told c.args.out.now).written (g.O.Sink.told c.print_begin.new.out).written (g.O.Sink.told c.print_event.new.out).written
          c.print_begin.new.page c.print_event.new.page c.in-Ok-Some.field-0-0 c.in_ok-print_event-in-Ok-Some.field-0 c.next-given.new.into.event
          (subst (λ (r : Result (Option (Unit {0})) MidFault). Stepped (g.S.Source.told c.args.reader.now.source).left (g.S.Source.told c.next-given.new.self.source).left c.next-given.new.self.progress (g.O.Sink.told c.args.out.now).written (g.O.Sink.told c.print_begin.new.out).written
          c.print_begin.new.page r c.next-given.new.into.event) given st)
          (subst (λ (e : Event). PassesLines (AreEventLines e) (g.O.Sink.told c.print_begin.new.out).written (g.O.Sink.told c.print_event.new.out).written c.print_begin.new.page c.print_event.new.page (Ok c.in_ok-print_event-in-Ok-Some.field-0))
          (event_again c.header.result c.body.result.now c.next-given.new.into.event c.header.ensures c.body.ensures) c.in_ok-print_event-in-Ok-Some.ensures.passes)
          (c.next-given.ensures.fault ∙ ap fault_of given) (not_ended _ c.in-Ok-Some.field-0-0 _ given c.next-given.ensures.end));
      room = search rules;
      origin = c.print_at_hand.ensures.origin ∙ (c.next-given.ensures.origin ∙ c.events.invariant.origin);
      source = c.print_at_hand.ensures.source ∙ (counts_ok _ _ _ _ _ c.events.invariant.printing.sound c.next-given.ensures.counted given ∙ c.events.invariant.source);
      sink = c.in_ok-print_at_hand-in-Ok-Some.ensures.sink.done ∙ (c.in_ok-print_event-in-Ok-Some.ensures.faults.done ∙ (c.in_ok-print_begin.ensures.faults.done ∙ c.events.invariant.sink));
    }

pub returns-in_err-print_at_hand-in-Ok-Some-clause-lists : goal.returns-in_err-print_at_hand-in-Ok-Some-clause-lists
returns-in_err-print_at_hand-in-Ok-Some-clause-lists g c =
    let one = rw c.in-Ok-Some.is at c.in-Ok-Some.field-0-is in
    let given : c.next-given.result ≡ Ok (Some c.in-Ok-Some.field-0-0) = c.in-Ok-Some.is ∙ ap Ok one in
    let st = stepped (g.S.Source.told c.args.reader.now.source).left _ (g.S.Source.told c.next-given.new.self.source).left _ c.next-given.new.self.progress (g.O.Sink.told c.args.out.now).written (g.O.Sink.told c.events.out).written (g.O.Sink.told c.print_begin.new.out).written
    c.events.page c.print_begin.new.page c.is_some-begun.result c.next-given.result c.next-given.new.into.event c.in_ok-print_begin.field-0 c.events.invariant.printing c.next-given.ensures.reads
    (c.is_some-begun.ensures ∙ ap (is_some {T = Header}) c.begin.ensures) c.next-given.ensures.begun
    (subst (λ (o : Option Header). PassesText (g.O.Sink.told c.events.out).written (g.O.Sink.told c.print_begin.new.out).written c.events.page c.print_begin.new.page (new_begin c.is_some-begun.result o) (Ok c.in_ok-print_begin.field-0))
    c.begin-in-events.ensures c.in_ok-print_begin.ensures.passes) in
    let p = err_from_is_err_and c.from_residual-in_err-print_at_hand-in-Ok-Some.result c.from_residual-in_err-print_at_hand-in-Ok-Some.ensures.1 in
    rw (p.1, p.2) (c.in_err-print_at_hand-in-Ok-Some.ensures.prints _ _ (one_more (g.S.Source.told c.args.reader.now.source).left (g.S.Source.told c.next-given.new.self.source).left c.next-given.new.self.progress (g.O.Sink.told c.args.out.now).written (g.O.Sink.told c.print_begin.new.out).written (g.O.Sink.told c.print_event.new.out).written
    c.print_begin.new.page c.print_event.new.page c.in-Ok-Some.field-0-0 c.in_ok-print_event-in-Ok-Some.field-0 c.next-given.new.into.event
    (subst (λ (r : Result (Option (Unit {0})) MidFault). Stepped (g.S.Source.told c.args.reader.now.source).left (g.S.Source.told c.next-given.new.self.source).left c.next-given.new.self.progress (g.O.Sink.told c.args.out.now).written (g.O.Sink.told c.print_begin.new.out).written
    c.print_begin.new.page r c.next-given.new.into.event) given st)
    (subst (λ (e : Event). PassesLines (AreEventLines e) (g.O.Sink.told c.print_begin.new.out).written (g.O.Sink.told c.print_event.new.out).written c.print_begin.new.page c.print_event.new.page (Ok c.in_ok-print_event-in-Ok-Some.field-0))
    (event_again c.header.result c.body.result.now c.next-given.new.into.event c.header.ensures c.body.ensures) c.in_ok-print_event-in-Ok-Some.ensures.passes)
    (c.next-given.ensures.fault ∙ ap fault_of given) (not_ended _ c.in-Ok-Some.field-0-0 _ given c.next-given.ensures.end)))

pub returns-in-Ok-None-clause-lists : goal.returns-in-Ok-None-clause-lists
returns-in-Ok-None-clause-lists g c =
    let none = rw c.in-Ok-None.is at c.in-Ok-None.field-0-is in
    let given : c.next-given.result ≡ Ok None = c.in-Ok-None.is ∙ ap Ok none in
    let st = stepped (g.S.Source.told c.args.reader.now.source).left _ (g.S.Source.told c.next-given.new.self.source).left _ c.next-given.new.self.progress (g.O.Sink.told c.args.out.now).written (g.O.Sink.told c.events.out).written (g.O.Sink.told c.print_begin.new.out).written
    c.events.page c.print_begin.new.page c.is_some-begun.result c.next-given.result c.next-given.new.into.event c.in_ok-print_begin.field-0 c.events.invariant.printing c.next-given.ensures.reads
    (c.is_some-begun.ensures ∙ ap (is_some {T = Header}) c.begin.ensures) c.next-given.ensures.begun
    (subst (λ (o : Option Header). PassesText (g.O.Sink.told c.events.out).written (g.O.Sink.told c.print_begin.new.out).written c.events.page c.print_begin.new.page (new_begin c.is_some-begun.result o) (Ok c.in_ok-print_begin.field-0))
    c.begin-in-events.ensures c.in_ok-print_begin.ensures.passes) in (
      up_to_end _ _ _ _ _ _ c.next-given.new.into.event
          (subst (λ (r : Result (Option (Unit {0})) MidFault). Stepped (g.S.Source.told c.args.reader.now.source).left (g.S.Source.told c.next-given.new.self.source).left c.next-given.new.self.progress (g.O.Sink.told c.args.out.now).written (g.O.Sink.told c.print_begin.new.out).written
          c.print_begin.new.page r c.next-given.new.into.event) given st)
          (c.next-given.ensures.fault ∙ ap fault_of given),
      ended_at _ _ given c.next-given.ensures.end,
    )

pub returns-in-Err-clause-lists : goal.returns-in-Err-clause-lists
returns-in-Err-clause-lists g c =
    let st = stepped (g.S.Source.told c.args.reader.now.source).left _ (g.S.Source.told c.next-given.new.self.source).left _ c.next-given.new.self.progress (g.O.Sink.told c.args.out.now).written (g.O.Sink.told c.events.out).written (g.O.Sink.told c.print_begin.new.out).written
    c.events.page c.print_begin.new.page c.is_some-begun.result c.next-given.result c.next-given.new.into.event c.in_ok-print_begin.field-0 c.events.invariant.printing c.next-given.ensures.reads
    (c.is_some-begun.ensures ∙ ap (is_some {T = Header}) c.begin.ensures) c.next-given.ensures.begun
    (subst (λ (o : Option Header). PassesText (g.O.Sink.told c.events.out).written (g.O.Sink.told c.print_begin.new.out).written c.events.page c.print_begin.new.page (new_begin c.is_some-begun.result o) (Ok c.in_ok-print_begin.field-0))
    c.begin-in-events.ensures c.in_ok-print_begin.ensures.passes) in
    up_to_fault _ _ _ _ _ _ c.in-Err.fault c.next-given.new.into.event
    (subst (λ (r : Result (Option (Unit {0})) MidFault). Stepped (g.S.Source.told c.args.reader.now.source).left (g.S.Source.told c.next-given.new.self.source).left c.next-given.new.self.progress (g.O.Sink.told c.args.out.now).written (g.O.Sink.told c.print_begin.new.out).written
    c.print_begin.new.page r c.next-given.new.into.event) c.in-Err.is st)
    c.in-Err.ensures.fault
