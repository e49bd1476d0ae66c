use Rattle.std.proofs.Common.{◌≡◌, ◌+◌, ◌-◌, [], List, ℕ, length, drop, ap, ◌∙◌, arith, vec_len}
use Rattle.bank_format.specs.declared.formats.Format.{Format}
use Rattle.bank_format.specs.BankAreas.{BankValue, plain_banks}
use Rattle.bank_format.specs.Places.{banks_in}
use Rattle.bank_format.proofs.PlainLaws.{plain_back, length-plain_banks}
use Rattle.bank_format.specs.Writing.{Written, nothing_written}
use Rattle.bank_format.proofs.Appending.{cleared}
use Rattle.bank_format.proofs.Holding.{held, written}
use Rattle.bank_format.proofs.writer.BankWriter.clear.Goals as goal
use Rattle.bank_format.proofs.writer.BankWriter.clear.Goals.{After-state_length}

front_len : (f : Format) (bs : List BankValue) (v cut : ℕ) (items : List ℕ) → items ≡ plain_banks f bs → v ≡ length items → cut + (v - 8) ≡ v → cut ≡ 8
front_len f bs v cut items is counted len = omega (arith, ap length is, length-plain_banks f bs)

pub state_length-requires-clause-front : goal.state_length-requires-clause-front
state_length-requires-clause-front c =
    let inv = c.self.invariant in
    let f : Format = c.self.inside.format in
    let e = front_len f (banks_in f (drop 8 c.self.inside.bytes.items)) _ (vec_len c.truncate.new.self) c.self.inside.bytes.items inv.spelled inv.counted c.truncate.ensures.len in
    omega (arith, e)

short : (c : After-state_length) → vec_len c.truncate.new.self ≡ 8
short c =
    let f : Format = c.self.inside.format in
    front_len f (banks_in f (drop 8 c.self.inside.bytes.items)) _ (vec_len c.truncate.new.self) c.self.inside.bytes.items c.self.invariant.spelled c.self.invariant.counted c.truncate.ensures.len

items_are : (c : After-state_length) → c.state_length.new.bytes.items ≡ plain_banks c.self.inside.format []
items_are c =
    let f : Format = c.self.inside.format in
    cleared f (banks_in f (drop 8 c.self.inside.bytes.items)) c.self.inside.bytes.items c.truncate.new.self.items c.state_length.new.bytes.items (vec_len c.truncate.new.self - 8)
    c.self.invariant.spelled c.truncate.ensures.items (omega (arith, short c)) c.state_length.ensures.items

pub invariant_of-self : goal.invariant_of-self
invariant_of-self c =
    let inv = c.self.invariant in
    let len = c.state_length.ensures.len in
    held c.self.inside.format c.self.inside.limit c.state_length.new.bytes [] tt (items_are c)
    (omega (arith, len, short c, ap length (items_are c), length-plain_banks c.self.inside.format []))
    (omega (arith, len, short c, inv.front)) inv.front inv.most (omega (arith, inv.room, c.truncate.ensures.capacity, c.state_length.ensures.room))

pub returns : goal.returns
returns c =
    let f : Format = c.self.inside.format in
    ap (written f c.self.inside.limit) (plain_back f [] c.state_length.new.bytes.items tt (items_are c))
    ∙ ap (λ (w : Written). nothing_written w.format w.limit) c.self.view_is
