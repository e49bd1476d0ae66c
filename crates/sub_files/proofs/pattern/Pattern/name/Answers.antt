use Rattle.std.proofs.Common.{◌≡◌, ◌++◌, true, false, subst, sym}
use Rattle.std.specs.Option.{option_map}
use Rattle.daq_types.specs.FileDigits.{five_digits}
use Rattle.daq_types.specs.Names.{IsFileName}
use Rattle.sub_files.specs.Patterns.{IsPattern, parts_of, plain_parts, numbered_parts, behind_run, four_digits, piece_name_by}
use Rattle.sub_files.proofs.PatternLaws.{plain_named, numbered_named}
use Rattle.sub_files.proofs.pattern.Pattern.name.Goals as goal

pub unreachable-requires : goal.unreachable-requires
unreachable-requires c =
    let front = c.self.inside.front.items in let middle = c.self.inside.middle.items in
    let pattern : IsPattern (plain_parts front middle) = subst (λ o. IsPattern (parts_of front middle (option_map (λ b. b.items) o))) c.in-None.is c.self.invariant in
    let named = plain_named front middle c.args.run pattern c.ranges.run.fits in
    let whole : IsFileName (c.as_slice-front.result.now ++ (c.as_slice.result.now ++ c.as_slice-middle.result.now)) =
    rw (c.as_slice-front.ensures.value, c.as_slice.ensures.value, c.digits_of-digits.ensures, c.as_slice-middle.ensures.value) named in
    let never : false ≡ true = c.in-Err.ensures.exact.1 whole in cc (never)

pub unreachable-requires-in-Err-numbered_name : goal.unreachable-requires-in-Err-numbered_name
unreachable-requires-in-Err-numbered_name c =
    let front = c.self.inside.front.items in let middle = c.self.inside.middle.items in let back = c.in-Some.back.items in
    let pattern : IsPattern (numbered_parts front middle back) = subst (λ o. IsPattern (parts_of front middle (option_map (λ b. b.items) o))) c.in-Some.is c.self.invariant in
    let named = numbered_named front middle back c.args.run c.args.sub pattern c.ranges.run.fits c.requires in
    let whole : IsFileName (c.as_slice-front.result.now ++ (c.as_slice-in-Some.result.now ++ (c.as_slice-middle.result.now ++ (c.as_slice-in-Some-2.result.now ++ c.as_slice-in-Some-3.result.now)))) =
    rw (c.as_slice-front.ensures.value, c.as_slice-in-Some.ensures.value, c.digits_of-digits.ensures, c.as_slice-middle.ensures.value, c.as_slice-in-Some-2.ensures.value, c.digits_of-number.ensures, c.as_slice-in-Some-3.ensures.value) named in
    let never : false ≡ true = c.in-Err-numbered_name.ensures.exact.1 whole in cc (never)

pub returns-in-Ok : goal.returns-in-Ok
unfolding piece_name_by
returns-in-Ok c =
    let front = c.self.inside.front.items in let middle = c.self.inside.middle.items in
    let made : c.in-Ok.name ≡ front ++ (five_digits c.args.run ++ middle) =
    rw (c.as_slice-front.ensures.value, c.as_slice.ensures.value, c.digits_of-digits.ensures, c.as_slice-middle.ensures.value) at c.in-Ok.ensures.name in
    rw (← c.self.view_is)
    (subst (λ o. c.in-Ok.name ≡ front ++ (five_digits c.args.run ++ behind_run middle (option_map (λ b. b.items) o) (four_digits c.args.sub))) (sym c.in-None.is) made)

pub returns-in-Ok-numbered_name : goal.returns-in-Ok-numbered_name
unfolding piece_name_by
returns-in-Ok-numbered_name c =
    let front = c.self.inside.front.items in let middle = c.self.inside.middle.items in
    let made : c.in-Ok-numbered_name.name ≡ front ++ (five_digits c.args.run ++ (middle ++ (four_digits c.args.sub ++ c.in-Some.back.items))) =
    rw (c.as_slice-front.ensures.value, c.as_slice-in-Some.ensures.value, c.digits_of-digits.ensures, c.as_slice-middle.ensures.value, c.as_slice-in-Some-2.ensures.value, c.digits_of-number.ensures, c.as_slice-in-Some-3.ensures.value) at c.in-Ok-numbered_name.ensures.name in
    rw (← c.self.view_is)
    (subst (λ o. c.in-Ok-numbered_name.name ≡ front ++ (five_digits c.args.run ++ behind_run middle (option_map (λ b. b.items) o) (four_digits c.args.sub))) (sym c.in-Some.is) made)
