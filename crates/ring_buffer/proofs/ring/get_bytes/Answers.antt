use Rattle.std.proofs.Common.{◌≡◌, ℕ, ◌+◌, ◌-◌, ◌%◌, length, take, drop, ap, ◌∙◌, arith, rules}
use Rattle.ring_buffer.proofs.Turns.{IsCut, get_is, get_straight}
use Rattle.ring_buffer.proofs.ring.get_bytes.Goals as goal

pub returns-then-into-size : goal.returns-then-into-size
returns-then-into-size c =
    let start : ℕ = c.args.off % length c.args.bytes.now in
    let long : start + length c.args.into.now - start ≡ length c.args.into.now = omega arith in
    c.copy_from_slice.ensures.after
    ∙ (ap (λ (n : ℕ). take n (drop start c.args.bytes.now)) long
    ∙ get_straight c.args.bytes.now c.args.off start (length c.args.into.now) (search rules) c.requires.some (omega (arith, c.requires.some)))

pub returns : goal.returns
returns c =
    let start : ℕ = c.args.off % length c.args.bytes.now in
    let cut : IsCut (length c.args.bytes.now) c.args.off (c.args.off % length c.args.bytes.now) (length c.args.bytes.now - c.args.off % length c.args.bytes.now) c.args.into.now c.split_at_mut-front.result.0.now c.split_at_mut-front.result.1.now =
    record {
      start_is = search rules;
      some = c.requires.some;
      fits = c.requires.fits;
      first_is = omega arith;
      front_is = c.split_at_mut-front.ensures.front;
      back_is = c.split_at_mut-front.ensures.back;
    } in
    let long : start + (length c.args.bytes.now - start) - start ≡ length c.split_at_mut-front.result.0.now = omega (arith, c.split_at_mut-front.ensures.front_len) in
    get_is _ _ _ _ c.copy_from_slice-2.new.self c.copy_from_slice-3.new.self _ _ _ cut
    (c.copy_from_slice-2.ensures.after ∙ ap (λ (n : ℕ). take n (drop start c.args.bytes.now)) long)
    c.copy_from_slice-3.ensures.after
