use Rattle.std.proofs.Common.{ℕ, ◌-◌, ◌*◌, length, take, ap, ◌∙◌, arith}
use Rattle.bank_format.specs.Formats.{padding_len}
use Rattle.bank_format.proofs.Appending.{pieces, zeros_cut}
use Rattle.bank_format.proofs.bytes.append_bank.Goals as goal

pub returns-clause-items : goal.returns-clause-items
returns-clause-items c =
    let len : ℕ = length c.args.body.now in
    pieces c.args.bytes.now.items _ c.args.body.now _ c.append.new.bytes.items c.append-2.new.bytes.items c.append-3.new.bytes.items _ _
    c.append.ensures.items c.append-2.ensures.items c.append-3.ensures.items
    (ap (λ (n : ℕ). take n c.make_header-header.result) c.header_len.ensures ∙ c.make_header-header.ensures)
    (zeros_cut (c.div_ceil.result * 8 - len) (padding_len len) (omega (arith, c.div_ceil.ensures)) (omega arith))
