use Rattle.std.proofs.Common.{◌≡◌, ℕ, List, ap, sym, subst, ◌∙◌, refl, arith}
use Rattle.bank_format.specs.BankAreas.{BankValue, IsBankArea}
use Rattle.bank_format.specs.Places.{BankReading}
use Rattle.bank_format.specs.Faults.{HoldsBanks}
use Rattle.event_builder.proofs.JoinedBanks.{NextBanks, next_banks, written_none, written_more, next_fits, written_all}
use Rattle.event_builder.proofs.joining.join.Goals as goal

pub loop-input-init : goal.loop-input-init
loop-input-init c = rw c.clear.ensures (record {
  written = written_none c.args.inputs.now c.args.body.now.limit c.requires.joins.0 c.requires.joins.1 c.requires.joins.2;
  format = c.requires.format;
  limit = refl;
})

pub unreachable-requires : goal.unreachable-requires
unreachable-requires c =
    let to = c.loop-input.invariant.written in
    let next : NextBanks c.args.inputs.now c.loop-input.input-index c.input-item.result to.rest = next_banks c.args.inputs.now c.loop-input.input-index c.input-item.result to.rest (omega arith) c.input-item.is to.left in
    c.in-Err.ensures.only next.holds.0 next.bs (subst (λ (bytes : List ℕ). IsBankArea next.holds.0 next.bs bytes) (sym c.body.ensures) next.holds.1)

pub add_banks-requires : goal.add_banks-requires
add_banks-requires c =
    let only : (cs : List BankValue) → HoldsBanks cs c.input-item.result.event.event.body → c.in-Ok.banks.left ≡ cs =
    λ cs holds. ap (λ (r : BankReading). r.left) (c.in-Ok.ensures.only holds.0 cs (subst (λ (bytes : List ℕ). IsBankArea holds.0 cs bytes) (sym c.body.ensures) holds.1)) in
    record {
      format = c.loop-input.invariant.format;
      fits = next_fits c.args.inputs.now c.loop-input.input-index c.loop-input.body.limit c.loop-input.body.banks c.in-Ok.banks.left c.input-item.result (omega arith) c.input-item.is only c.loop-input.invariant.written;
    }

pub loop-input-preserved : goal.loop-input-preserved
loop-input-preserved c =
    let only : (cs : List BankValue) → HoldsBanks cs c.input-item.result.event.event.body → c.in-Ok.banks.left ≡ cs =
    λ cs holds. ap (λ (r : BankReading). r.left) (c.in-Ok.ensures.only holds.0 cs (subst (λ (bytes : List ℕ). IsBankArea holds.0 cs bytes) (sym c.body.ensures) holds.1)) in
    let more = written_more c.args.inputs.now c.loop-input.input-index c.loop-input.body.limit c.loop-input.body.banks c.in-Ok.banks.left c.input-item.result (omega arith) c.input-item.is only c.loop-input.invariant.written in
    record {
      written = rw (c.add_banks.ensures.limit, c.add_banks.ensures.banks) more;
      format = c.add_banks.ensures.format;
      limit = c.add_banks.ensures.limit ∙ c.loop-input.invariant.limit;
    }

pub returns-clause-joins : goal.returns-clause-joins
returns-clause-joins c = (written_all c.args.inputs.now c.loop-input.input-index c.loop-input.body.limit c.loop-input.body.banks (omega arith) c.loop-input.invariant.written).joins

pub returns-clause-fits : goal.returns-clause-fits
returns-clause-fits c =
    let all = written_all c.args.inputs.now c.loop-input.input-index c.loop-input.body.limit c.loop-input.body.banks (omega arith) c.loop-input.invariant.written in
    omega (arith, all.fits, c.loop-input.invariant.limit)
