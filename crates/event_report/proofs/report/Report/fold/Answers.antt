use Rattle.std.proofs.Common.{◌≡◌, ◌≤◌, ◌+◌, ℕ, List, Some, None, ap, sym, subst, ◌∙◌, refl, arith}
use Rattle.std.specs.Prelude.{is_none}
use Rattle.std.specs.List.{filter_map}
use Rattle.daq_types.specs.declared.events.Event.{Event}
use Rattle.bank_format.specs.BankAreas.{BankValue}
use Rattle.bank_format.specs.Places.{BankReading}
use Rattle.event.specs.Headers.{event_of}
use Rattle.event_report.specs.EventBanks.{banks_of, integer_bank}
use Rattle.event_report.proofs.BankAreaLaws.{weight_within, banks_of_area, no_banks}
use Rattle.event_report.specs.Steps.{banks_after}
use Rattle.event_report.specs.Held.{weight}
use Rattle.event_report.specs.Reports.{Totals}
use Rattle.event_report.proofs.Listed.{bit}
use Rattle.event_report.proofs.Loops.{banks_weaker, ids_weaker}
use Rattle.event_report.proofs.Folded.{report_after, banks_there, banks_not_there}
use Rattle.event_report.proofs.report.Report.fold.Goals as goal

light : (all left : List BankValue) (n : ℕ) → left ≡ all → weight all ≤ n → weight left ≤ n
light all left n same le = subst (λ (bs : List BankValue). weight bs ≤ n) (sym same) le

pub count_all-requires-clause-long : goal.count_all-requires-clause-long
count_all-requires-clause-long c =
    let banks : BankReading = c.in-Ok.banks in
    let few = light banks.all banks.left _ (ap (λ (r : BankReading). r.left) c.in-Ok.ensures.unread) (weight_within banks.all c.args.body.now c.in-Ok.ensures.found) in
    omega (arith, few, c.requires)

pub count_all-requires-clause-within : goal.count_all-requires-clause-within
count_all-requires-clause-within c =
    let banks : BankReading = c.in-Ok.banks in
    let few = light banks.all banks.left _ (ap (λ (r : BankReading). r.left) c.in-Ok.ensures.unread) (weight_within banks.all c.args.body.now c.in-Ok.ensures.found) in
    let bytes = ap (λ (t : Totals). t.bytes) c.self.view_is in
    banks_weaker c.self.inside.bytes _ c.self.inside.banks (omega (arith, few, bytes, c.requires)) c.self.invariant.banks_within

pub invariant_of-self : goal.invariant_of-self
invariant_of-self c =
    let banks : BankReading = c.in-Ok.banks in
    let few = light banks.all banks.left _ (ap (λ (r : BankReading). r.left) c.in-Ok.ensures.unread) (weight_within banks.all c.args.body.now c.in-Ok.ensures.found) in
    let bytes = ap (λ (t : Totals). t.bytes) c.self.view_is in
    let was = c.self.invariant in
    record {
      most = omega (arith, bytes, c.requires);
      events_within = omega (arith, was.events_within);
      ids_within = ids_weaker (c.self.inside.bytes + 1) _ c.count.new.self (omega arith) (c.count.ensures.within c.self.inside.bytes was.ids_within);
      banks_within = banks_weaker (c.self.inside.bytes + weight banks.left) _ c.count_all.new.self (omega (arith, few)) (c.count_all.ensures.within c.self.inside.bytes was.banks_within);
      bad_within = omega (arith, was.bad_within);
    }

pub invariant_of-self-in-Err : goal.invariant_of-self-in-Err
invariant_of-self-in-Err c =
    let bytes = ap (λ (t : Totals). t.bytes) c.self.view_is in
    let was = c.self.invariant in
    record {
      most = omega (arith, bytes, c.requires);
      events_within = omega (arith, was.events_within);
      ids_within = ids_weaker (c.self.inside.bytes + 1) _ c.count.new.self (omega arith) (c.count.ensures.within c.self.inside.bytes was.ids_within);
      banks_within = banks_weaker c.self.inside.bytes _ c.self.inside.banks (omega arith) was.banks_within;
      bad_within = omega (arith, was.bad_within);
    }

pub returns-in-Ok-clause-report : goal.returns-in-Ok-clause-report
returns-in-Ok-clause-report c = λ events is.
    let e : Event = event_of c.args.header.now c.args.body.now in
    let banks : BankReading = c.in-Ok.banks in
    let are : banks_of c.args.body.now ≡ Some banks.all = banks_of_area banks.all c.args.body.now c.in-Ok.ensures.found in
    let left_is : banks.left ≡ banks.all = ap (λ (r : BankReading). r.left) c.in-Ok.ensures.unread in
    let good : bit (is_none (banks_of c.args.body.now)) ≡ 0 = rw are refl in
    report_after _ events e c.count.new.self c.count_all.new.self c.self.inside.bad (c.self.view_is ∙ is)
    c.count.ensures.counted
    (c.count_all.ensures.counted ∙ ap (λ (bs : List BankValue). banks_after c.self.inside.banks (filter_map integer_bank bs)) left_is
    ∙ ap (banks_after c.self.inside.banks) (sym (banks_there e banks.all are)))
    (omega (arith, good))

pub returns-in-Err-clause-report : goal.returns-in-Err-clause-report
returns-in-Err-clause-report c = λ events is.
    let e : Event = event_of c.args.header.now c.args.body.now in
    let none : banks_of c.args.body.now ≡ None = no_banks c.args.body.now c.in-Err.field-0 (λ i. (c.type_inv.body i).fits) c.in-Err.ensures.fault in
    let bad : bit (is_none (banks_of c.args.body.now)) ≡ 1 = rw none refl in
    report_after _ events e c.count.new.self c.self.inside.banks (c.self.inside.bad + 1) (c.self.view_is ∙ is)
    c.count.ensures.counted
    (ap (banks_after c.self.inside.banks) (sym (banks_not_there e none)))
    (omega (arith, bad))
