use Rattle.std.proofs.Common.{◌≡◌, ◌∙◌, ap, subst, sym, refl, ◌+◌, cond, length, arith, All}
use Rattle.std.proofs.lemmas.List.{length_push}
use Rattle.std.proofs.lemmas.List.Sums.{sum_by_push}
use Rattle.std.proofs.lemmas.List.Elements.{All-push}
use Rattle.daq_io.proofs.UseLemmas.{use_free}
use Rattle.daq_io.specs.Uses.{free_numbers, is_unused}
use Rattle.daq_io.specs.declared.uses.Usage.TheVariants.{Free}
use Rattle.daq_io.proofs.uses.UseTable.new.Goals as goal

pub loop-preserved : goal.loop-preserved
loop-preserved c =
    let uses = c.loop.uses.items in
    let before = c.loop.invariant in
    let pushed = c.in_ok-push.ensures.items in
    record {
      count = ap length pushed ∙ length_push uses Free ∙ ap (λ n. n + 1) before.count;
      free = subst (All (λ usage. usage ≡ Free)) (sym pushed) (All-push (λ usage. usage ≡ Free) uses Free before.free refl);
      all_free = ap free_numbers pushed ∙ sum_by_push (λ usage. cond (is_unused usage) 1 0) uses Free ∙ ap (λ n. n + 1) before.all_free;
    }

pub returns : goal.returns
returns c =
    let made = c.loop.invariant in
    let all_pushed : c.loop.counter ≡ c.args.count = omega (arith, c.loop-test.false, c.loop.auto.counter-end) in
    record {
      free = use_free c.loop.uses.items made.free;
      count = made.count ∙ all_pushed;
      all_free = made.all_free ∙ all_pushed;
    }
