use Rattle.std.proofs.Common.{◌≡◌, false, length, get_or, sym, ◌∙◌, below_more}
use Rattle.daq_types.specs.Names.{breaks_name}
use Rattle.daq_types.proofs.names.Name.new.Goals as goal

pub loop-place-preserved : goal.loop-place-preserved
loop-place-preserved c =
    below_more (λ before. breaks_name (length c.args.text.now) before (get_or c.args.text.now before 0) ≡ false) c.loop-place.place
    c.loop-place.invariant (sym c.breaks.ensures ∙ c.if-breaks.false)
