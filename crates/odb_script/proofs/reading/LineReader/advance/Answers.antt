use Rattle.std.proofs.Common.{◌∙◌, ap, refl, ℕ, List, subst, sym, true, false}
use Rattle.odb_script.specs.Lines.{Reading, ReadsLine, ReadsLast, ReadsNone}
use Rattle.odb_script.specs.Advances.{IsRefilled, IsScanned}
use Rattle.odb_script.proofs.LinesSoFar.{so_far_first, so_far_refilled, so_far_more, reads_line, reads_last, reads_none, reads_part, reads_too_much}
use Rattle.odb_script.proofs.reading.LineReader.advance.Goals as goal

pub line-init : goal.line-init
line-init g c =
    let begun = c.begin_line.ensures.line in
    record {
      so_far = so_far_first c.args.self.now c.begin_line.new.self (g.S.Source.told c.args.source.now) (ap (λ (r : Reading). r.pending) begun) (ap (λ (r : Reading). r.line) begun)
          (ap (λ (r : Reading). r.taken) begun) c.begin_line.ensures.within;
      faults = refl;
    }

pub returns-in-Err-clause-advances : goal.returns-in-Err-clause-advances
returns-in-Err-clause-advances g c =
    reads_part c.args.self.now c.line.self c.refill.new.self (g.S.Source.told c.args.source.now) (g.S.Source.told c.line.source) (g.S.Source.told c.refill.new.source)
    c.line.invariant.so_far c.in-Err.ensures.same c.in-Err.ensures.drained c.in-Err.ensures.kept c.in-Err.ensures.gave

pub returns-else-end_last-clause-advances : goal.returns-else-end_last-clause-advances
returns-else-end_last-clause-advances g c =
    let ended : IsRefilled (g.S.Source.told c.line.source) (g.S.Source.told c.refill.new.source) c.line.self c.refill.new.self false =
    subst (IsRefilled (g.S.Source.told c.line.source) (g.S.Source.told c.refill.new.source) c.line.self c.refill.new.self) c.if-not-more.true (c.in-Ok.ensures.refilled) in
    subst (λ r. ReadsNone c.args.self.now r (g.S.Source.told c.args.source.now) (g.S.Source.told c.refill.new.source)) (sym c.end_last.ensures.line)
    (reads_none c.args.self.now c.line.self c.refill.new.self (g.S.Source.told c.args.source.now) (g.S.Source.told c.line.source) (g.S.Source.told c.refill.new.source)
    c.line.invariant.so_far ended.0 ended.1 ended.2 (c.end_last.ensures.none c.if-end_last.false))

pub returns-then-end_last-clause-advances : goal.returns-then-end_last-clause-advances
returns-then-end_last-clause-advances g c =
    let ended : IsRefilled (g.S.Source.told c.line.source) (g.S.Source.told c.refill.new.source) c.line.self c.refill.new.self false =
    subst (IsRefilled (g.S.Source.told c.line.source) (g.S.Source.told c.refill.new.source) c.line.self c.refill.new.self) c.if-not-more.true (c.in-Ok.ensures.refilled) in
    subst (λ r. (line : List ℕ) × ReadsLast c.args.self.now r (g.S.Source.told c.args.source.now) (g.S.Source.told c.refill.new.source) line) (sym c.end_last.ensures.line)
    (reads_last c.args.self.now c.line.self c.refill.new.self (g.S.Source.told c.args.source.now) (g.S.Source.told c.line.source) (g.S.Source.told c.refill.new.source)
    c.line.invariant.so_far ended.0 ended.1 ended.2 (c.end_last.ensures.some c.if-end_last.true))

pub returns-then-is_full-clause-advances : goal.returns-then-is_full-clause-advances
returns-then-is_full-clause-advances g c =
    let more : IsRefilled (g.S.Source.told c.line.source) (g.S.Source.told c.refill.new.source) c.line.self c.refill.new.self true =
    subst (IsRefilled (g.S.Source.told c.line.source) (g.S.Source.told c.refill.new.source) c.line.self c.refill.new.self) c.if-not-more.false (c.in-Ok.ensures.refilled) in
    reads_too_much c.args.self.now c.refill.new.self (g.S.Source.told c.args.source.now) (g.S.Source.told c.refill.new.source)
    (so_far_refilled c.args.self.now c.line.self c.refill.new.self (g.S.Source.told c.args.source.now) (g.S.Source.told c.line.source) (g.S.Source.told c.refill.new.source) c.line.invariant.so_far more.0)
    more.1 (c.is_full.ensures.full c.if-is_full.true)

pub returns-then-scan-clause-advances : goal.returns-then-scan-clause-advances
returns-then-scan-clause-advances g c =
    let more : IsRefilled (g.S.Source.told c.line.source) (g.S.Source.told c.refill.new.source) c.line.self c.refill.new.self true =
    subst (IsRefilled (g.S.Source.told c.line.source) (g.S.Source.told c.refill.new.source) c.line.self c.refill.new.self) c.if-not-more.false (c.in-Ok.ensures.refilled) in
    let scanned : IsScanned true c.refill.new.self c.scan.new.self = subst (λ b. IsScanned b c.refill.new.self c.scan.new.self) c.if-scan.true c.scan.ensures in
    subst (λ r. (line : List ℕ) × ReadsLine c.args.self.now r (g.S.Source.told c.args.source.now) (g.S.Source.told c.refill.new.source) line) (sym c.end_line.ensures)
    (reads_line c.args.self.now c.refill.new.self c.scan.new.self (g.S.Source.told c.args.source.now) (g.S.Source.told c.refill.new.source) scanned.0
    (so_far_refilled c.args.self.now c.line.self c.refill.new.self (g.S.Source.told c.args.source.now) (g.S.Source.told c.line.source) (g.S.Source.told c.refill.new.source) c.line.invariant.so_far more.0)
    scanned.1)

pub line-preserved : goal.line-preserved
line-preserved g c =
    let more : IsRefilled (g.S.Source.told c.line.source) (g.S.Source.told c.refill.new.source) c.line.self c.refill.new.self true =
    subst (IsRefilled (g.S.Source.told c.line.source) (g.S.Source.told c.refill.new.source) c.line.self c.refill.new.self) c.if-not-more.false (c.in-Ok.ensures.refilled) in
    let scanned : IsScanned false c.refill.new.self c.scan.new.self = subst (λ b. IsScanned b c.refill.new.self c.scan.new.self) c.if-scan.false c.scan.ensures in
    record {
      so_far = so_far_more c.args.self.now c.refill.new.self c.scan.new.self (g.S.Source.told c.args.source.now) (g.S.Source.told c.refill.new.source) scanned.0
          (so_far_refilled c.args.self.now c.line.self c.refill.new.self (g.S.Source.told c.args.source.now) (g.S.Source.told c.line.source) (g.S.Source.told c.refill.new.source) c.line.invariant.so_far more.0)
          scanned.2;
      faults = c.in-Ok.ensures.faults.done ∙ c.line.invariant.faults;
    }
