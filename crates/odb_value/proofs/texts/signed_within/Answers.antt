use Rattle.std.proofs.Common.{◌≡◌, ◌∙◌, arith, sym, w64, to_z, of_z}
use Rattle.std.proofs.lemmas.Int.{ints}
use Rattle.std.specs.Prelude.{Ok, Some}
use Rattle.daq_text.specs.Numbers.{behind, is_blank, mapped}
use Rattle.odb_value.specs.Forms.{signed_form}
use Rattle.odb_value.specs.Sized.{in_signed_64_bits}
use Rattle.odb_value.proofs.SignedReads.{held_taken, held_refused}
use Rattle.odb_value.proofs.texts.signed_within.Goals as goal

pub returns-then-is_within-clause-read : goal.returns-then-is_within-clause-read
returns-then-is_within-clause-read c =
    let form = signed_form (behind is_blank c.args.text.now) in
    let read : mapped in_signed_64_bits form ≡ Ok (Some c.in-Ok-Some.number) = cc in
    held_taken c.args.most c.args.text.now form c.in-Ok-Some.number (to_z w64 (of_z w64 c.in-Ok-Some.number)) read (sym c.is_within.ensures ∙ c.if-is_within.true) (omega (arith, ints))

pub returns-else-is_within-clause-read : goal.returns-else-is_within-clause-read
returns-else-is_within-clause-read c =
    let form = signed_form (behind is_blank c.args.text.now) in
    let read : mapped in_signed_64_bits form ≡ Ok (Some c.in-Ok-Some.number) = cc in
    held_refused c.args.most c.args.text.now form c.in-Ok-Some.number (to_z w64 (of_z w64 c.in-Ok-Some.number)) read (sym c.is_within.ensures ∙ c.if-is_within.false) (omega (arith, ints))
