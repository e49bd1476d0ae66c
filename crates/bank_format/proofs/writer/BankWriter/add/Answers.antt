use Rattle.std.proofs.Common.{◌≡◌, ◌+◌, ◌-◌, ◌++◌, ◌∷◌, [], List, ℕ, length, drop, ap, ◌∙◌, sym, subst, arith, rules, Some, None, vec_len, length-append}
use Rattle.std.specs.Int.{to_le_bytes, w32}
use Rattle.std.proofs.lemmas.Bool.{lt-ltb, le-ltb}
use Rattle.std.specs.List.{AllByRecursion}
use Rattle.bank_format.specs.declared.formats.Format.{Format}
use Rattle.bank_format.specs.declared.faults.BankRefusal.TheVariants.{TooLong, BadTid, NoRoom}
use Rattle.bank_format.specs.BankAreas.{BankValue, IsBank, bank_value, plain_bank, plain_banks}
use Rattle.bank_format.specs.Formats.{header_len, padded}
use Rattle.bank_format.specs.Places.{banks_in}
use Rattle.bank_format.proofs.PlainLaws.{plain_back, plain_more, length-plain_bank, length-plain_banks, length-plain_banks-snoc}
use Rattle.bank_format.specs.Writing.{Written, refusal_of, with_bank}
use Rattle.bank_format.proofs.Appending.{refused_long, refused_tid, refused_room, not_refused, fits_field}
use Rattle.bank_format.proofs.Holding.{all-snoc, held, written}
use Rattle.bank_format.proofs.writer.BankWriter.add.Goals as goal
use Rattle.bank_format.proofs.writer.BankWriter.add.Goals.{After-state_length}

pub returns-then-is_past_16_bits-clause-refused : goal.returns-then-is_past_16_bits-clause-refused
returns-then-is_past_16_bits-clause-refused c =
    let b : BankValue = bank_value c.args.name c.args.tid c.args.body.now in
    subst (λ (w : Written). refusal_of w b ≡ Some (TooLong (length c.args.body.now))) c.self.view_is (refused_long _ b (sym c.is_past_16_bits.ensures ∙ c.if-is_past_16_bits.true))

pub returns-then-is_past_16_bits-2-clause-refused : goal.returns-then-is_past_16_bits-2-clause-refused
returns-then-is_past_16_bits-2-clause-refused c =
    let b : BankValue = bank_value c.args.name c.args.tid c.args.body.now in
    subst (λ (w : Written). refusal_of w b ≡ Some (BadTid c.args.tid)) c.self.view_is
    (refused_tid _ b (sym c.is_past_16_bits.ensures ∙ c.if-is_past_16_bits.false) (sym c.is_past_16_bits-2.ensures ∙ c.if-is_past_16_bits-2.true))

pub returns-then-self-need-clause-refused : goal.returns-then-self-need-clause-refused
returns-then-self-need-clause-refused c =
    let inv = c.self.invariant in
    let f : Format = c.self.inside.format in
    let bs : List BankValue = banks_in f (drop 8 c.self.inside.bytes.items) in
    let b : BankValue = bank_value c.args.name c.args.tid c.args.body.now in
    let need : ℕ = c.len.result + c.bank_len.result in
    let four : length c.args.name ≡ 4 = search rules in
    let is : length (plain_banks f (bs ++ b ∷ [])) ≡ need =
    omega (arith, length-plain_banks-snoc f bs b four, ap length inv.spelled, inv.counted, c.len.ensures, c.bank_len.ensures) in
    subst (λ (w : Written). refusal_of w b ≡ Some (NoRoom need)) c.self.view_is
    (refused_room (written f c.self.inside.limit bs) b need (sym c.is_past_16_bits.ensures ∙ c.if-is_past_16_bits.false) (sym c.is_past_16_bits-2.ensures ∙ c.if-is_past_16_bits-2.false) is (lt-ltb _ _ c.if-self-need.true))

pub returns-clause-fits : goal.returns-clause-fits
returns-clause-fits c =
    let inv = c.self.invariant in
    let f : Format = c.self.inside.format in
    let bs : List BankValue = banks_in f (drop 8 c.self.inside.bytes.items) in
    let b : BankValue = bank_value c.args.name c.args.tid c.args.body.now in
    let need : ℕ = c.len.result + c.bank_len.result in
    let four : length c.args.name ≡ 4 = search rules in
    let is : length (plain_banks f (bs ++ b ∷ [])) ≡ need =
    omega (arith, length-plain_banks-snoc f bs b four, ap length inv.spelled, inv.counted, c.len.ensures, c.bank_len.ensures) in
    subst (λ (w : Written). refusal_of w b ≡ None) c.self.view_is
    (not_refused (written f c.self.inside.limit bs) b need (sym c.is_past_16_bits.ensures ∙ c.if-is_past_16_bits.false) (sym c.is_past_16_bits-2.ensures ∙ c.if-is_past_16_bits-2.false) is (le-ltb _ _ c.if-self-need.false))

one_bank : (c : After-state_length) → IsBank c.self.inside.format (bank_value c.args.name c.args.tid c.args.body.now)
one_bank c =
    let f : Format = c.self.inside.format in
    let four : length c.args.name ≡ 4 = search rules in
    record {
      name = four;
      tid = fits_field f c.args.tid (sym c.is_past_16_bits-2.ensures ∙ c.if-is_past_16_bits-2.false) (omega (arith, c.ranges.tid.fits));
      size = fits_field f (length c.args.body.now) (sym c.is_past_16_bits.ensures ∙ c.if-is_past_16_bits.false) (omega (arith, c.if-self-need.false, c.bank_len.ensures, c.self.invariant.most));
    }

all_banks : (c : After-state_length) → AllByRecursion (IsBank c.self.inside.format) (banks_in c.self.inside.format (drop 8 c.self.inside.bytes.items) ++ bank_value c.args.name c.args.tid c.args.body.now ∷ [])
all_banks c = all-snoc c.self.inside.format (banks_in c.self.inside.format (drop 8 c.self.inside.bytes.items)) (bank_value c.args.name c.args.tid c.args.body.now) c.self.invariant.banks (one_bank c)

items_are : (c : After-state_length) → c.state_length.new.bytes.items ≡ plain_banks c.self.inside.format (banks_in c.self.inside.format (drop 8 c.self.inside.bytes.items) ++ bank_value c.args.name c.args.tid c.args.body.now ∷ [])
items_are c =
    let inv = c.self.invariant in
    let f : Format = c.self.inside.format in
    let old : List ℕ = c.self.inside.bytes.items in
    let bs : List BankValue = banks_in f (drop 8 old) in
    let b : BankValue = bank_value c.args.name c.args.tid c.args.body.now in
    let n : ℕ = vec_len c.append_bank.new.bytes - 8 in
    let four : length c.args.name ≡ 4 = (one_bank c).name in
    let grown : c.append_bank.new.bytes.items ≡ plain_banks f bs ++ plain_bank f b = c.append_bank.ensures.items ∙ ap (λ (xs : List ℕ). xs ++ plain_bank f b) inv.spelled in
    let len : n + 8 ≡ length (plain_banks f bs ++ plain_bank f b) =
    omega (arith, c.append_bank.ensures.len, inv.counted, ap length inv.spelled, length-plain_banks f bs, length-append (plain_banks f bs) (plain_bank f b), length-plain_bank f b four) in
    c.state_length.ensures.items ∙ ap (λ (xs : List ℕ). to_le_bytes w32 n ++ drop 4 xs) grown ∙ plain_more f bs b n len

pub invariant_of-self : goal.invariant_of-self
invariant_of-self c =
    let inv = c.self.invariant in
    let f : Format = c.self.inside.format in
    let bs : List BankValue = banks_in f (drop 8 c.self.inside.bytes.items) in
    let b : BankValue = bank_value c.args.name c.args.tid c.args.body.now in
    let len : vec_len c.state_length.new.bytes ≡ vec_len c.self.inside.bytes + (header_len f + padded (length c.args.body.now)) = omega (arith, c.state_length.ensures.len, c.append_bank.ensures.len) in
    held f c.self.inside.limit c.state_length.new.bytes (bs ++ b ∷ []) (all_banks c) (items_are c)
    (omega (arith, len, inv.counted, ap length inv.spelled, ap length (items_are c), length-plain_banks-snoc f bs b (one_bank c).name))
    (omega (arith, len, c.if-self-need.false, c.len.ensures, c.bank_len.ensures)) inv.front inv.most (omega (arith, inv.room, c.append_bank.ensures.room, c.state_length.ensures.room))

pub returns-clause-added : goal.returns-clause-added
returns-clause-added c =
    let f : Format = c.self.inside.format in
    let bs : List BankValue = banks_in f (drop 8 c.self.inside.bytes.items) in
    let b : BankValue = bank_value c.args.name c.args.tid c.args.body.now in
    ap (written f c.self.inside.limit) (plain_back f (bs ++ b ∷ []) c.state_length.new.bytes.items (all_banks c) (items_are c))
    ∙ ap (λ (w : Written). with_bank w b) c.self.view_is
