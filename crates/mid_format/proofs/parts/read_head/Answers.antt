use Rattle.std.proofs.Common.{◌≡◌, ℕ, ◌<◌, length, IfSome, Some, rules, ap, sym, subst, arith, length-take}
use Rattle.mid_format.specs.Faults.{fault_at, nothing_left, OfBytes}
use Rattle.mid_format.specs.Parts.{IsInRange}
use Rattle.mid_format.specs.declared.faults.MidFault.{MidFault}
use Rattle.mid_format.proofs.Ends.{left_none, counted_at, counted_ok}
use Rattle.mid_format.proofs.Failing.{of_header}
use Rattle.mid_format.proofs.PartsRead.{of_bytes, head_missing, head_cut, head_bad, head_whole}
use Rattle.mid_format.proofs.parts.read_head.Goals as goal

pub returns-in_default-clause-fails : goal.returns-in_default-clause-fails
returns-in_default-clause-fails g c = c.in_default.ensures.fails

pub returns-in_default-clause-counted : goal.returns-in_default-clause-counted
returns-in_default-clause-counted g c = record { done = tt; fault = c.in_default.ensures.faults.failed }

pub returns-then-count-eq0-clause-fault : goal.returns-then-count-eq0-clause-fault
returns-then-count-eq0-clause-fault g c =
    subst (λ (f : MidFault). OfBytes f (IfSome (g.S.Source.told c.args.source.now).left (λ rest. fault_at c.args.run c.args.at rest ≡ Some f))) (sym c.nothing_left.ensures)
    (of_bytes (nothing_left c.args.run c.args.at) _ (head_missing (g.S.Source.told c.args.source.now).left (g.S.Source.told c.read_full.new.source).left c.read_full.new.into c.in-Ok.count c.args.run c.args.at
    c.in-Ok.ensures.gathers c.in-Ok.ensures.length c.if-count-eq0.true))

pub returns-then-count-eq0-clause-fails : goal.returns-then-count-eq0-clause-fails
returns-then-count-eq0-clause-fails g c = left_none c.args.run c.args.at c.nothing_left.result _ c.nothing_left.ensures

pub returns-then-count-eq0-clause-counted : goal.returns-then-count-eq0-clause-counted
returns-then-count-eq0-clause-counted g c = record {
  done = tt;
  fault = counted_at c.nothing_left.result (g.S.Source.told c.args.source.now).faults (g.S.Source.told c.read_full.new.source).faults (left_none c.args.run c.args.at c.nothing_left.result ⊥ c.nothing_left.ensures)
      c.in-Ok.ensures.faults.done;
}

pub overflow_add-result : goal.overflow_add-result
overflow_add-result g c = omega (arith, c.in-Ok.ensures.gathers.within, c.in-Ok.ensures.length)

pub returns-in_default-read_header-clause-fault : goal.returns-in_default-read_header-clause-fault
returns-in_default-read_header-clause-fault g c =
    let short : length c.split_at.result.0.now < 16 = search rules in
    head_cut (g.S.Source.told c.args.source.now).left (g.S.Source.told c.read_full.new.source).left c.read_full.new.into c.in-Ok.count c.args.run c.args.at c.in-Ok.ensures.gathers c.in-Ok.ensures.length
    (omega (arith, c.if-count-eq0.false))
    (omega (arith, short, ap (length {A = ℕ}) c.split_at.ensures.front, length-take c.in-Ok.count c.read_full.new.into, c.in-Ok.ensures.gathers.within, c.in-Ok.ensures.length))

pub returns-in_default-read_header-clause-fails : goal.returns-in_default-read_header-clause-fails
returns-in_default-read_header-clause-fails g c = tt

pub returns-in-Some-clause-fault : goal.returns-in-Some-clause-fault
returns-in-Some-clause-fault g c =
    let in_range : IsInRange c.in-Ok-read_header.header = record { event_id = search rules; trigger_mask = search rules; serial_number = search rules; time_stamp = search rules; data_size = search rules } in
    of_bytes c.in-Some.fault _ (head_bad _ _ c.in-Ok-read_header.header c.args.run c.args.at c.in-Some.fault
    (head_whole _ _ c.read_full.new.into c.split_at.result.0.now c.in-Ok.count c.in-Ok-read_header.header c.in-Ok.ensures.gathers c.in-Ok.ensures.length c.split_at.ensures.front
    (search rules) c.in-Ok-read_header.ensures.read)
    in_range (sym c.in-Some.ensures))

pub returns-in-Some-clause-fails : goal.returns-in-Some-clause-fails
returns-in-Some-clause-fails g c = of_header c.args.run c.args.at c.in-Ok-read_header.header c.in-Some.fault _ (sym c.in-Some.ensures)

pub returns-in-Some-clause-counted : goal.returns-in-Some-clause-counted
returns-in-Some-clause-counted g c = record {
  done = tt;
  fault = counted_at c.in-Some.fault (g.S.Source.told c.args.source.now).faults (g.S.Source.told c.read_full.new.source).faults (of_header c.args.run c.args.at c.in-Ok-read_header.header c.in-Some.fault ⊥ (sym c.in-Some.ensures))
      c.in-Ok.ensures.faults.done;
}

pub returns-in-None-clause-head : goal.returns-in-None-clause-head
returns-in-None-clause-head g c = record {
  consumed = head_whole _ _ c.read_full.new.into c.split_at.result.0.now c.in-Ok.count c.in-Ok-read_header.header c.in-Ok.ensures.gathers c.in-Ok.ensures.length c.split_at.ensures.front
      (search rules) c.in-Ok-read_header.ensures.read;
  fine = sym c.in-None.ensures;
  in_range = record { event_id = search rules; trigger_mask = search rules; serial_number = search rules; time_stamp = search rules; data_size = search rules };
}

pub returns-in-None-clause-counted : goal.returns-in-None-clause-counted
returns-in-None-clause-counted g c = counted_ok (g.S.Source.told c.args.source.now).faults (g.S.Source.told c.read_full.new.source).faults _ c.in-Ok.ensures.faults.done
