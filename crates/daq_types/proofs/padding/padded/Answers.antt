use Rattle.std.proofs.Common.{◌≡◌, ◌∙◌, ◌-◌, length, drop, replicate, subst, length-set, arith}
use Rattle.daq_types.proofs.ZerosBehind.{head_more, rest_more}
use Rattle.daq_types.proofs.padding.padded.Goals as goal

pub loop-place-preserved : goal.loop-place-preserved
loop-place-preserved g c = record {
  whole = length-set c.loop-place.bytes c.loop-place.place _ ∙ c.loop-place.invariant.whole;
  head = head_more c.args.text.now c.loop-place.bytes c.loop-place.place c.loop-place-test.true (omega (arith, c.requires, c.loop-place.invariant.whole)) c.loop-place.invariant.head;
  rest = rest_more c.loop-place.bytes g.row.N c.loop-place.place _ (omega (arith, c.requires)) c.loop-place.invariant.rest;
}

pub returns-clause-padded : goal.returns-clause-padded
returns-clause-padded g c =
    let done : c.loop-place.place ≡ length c.args.text.now = omega (arith, c.loop-place.auto.place-end, c.loop-place-test.false) in
    record {
      whole = c.loop-place.invariant.whole;
      fits = c.requires;
      rest = subst (λ n. drop n c.loop-place.bytes ≡ replicate (g.row.N - n) 0) done c.loop-place.invariant.rest;
    }
