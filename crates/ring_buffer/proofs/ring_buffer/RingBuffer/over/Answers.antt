use Rattle.std.proofs.Common.{List, ap, sym, subst, ◌∙◌, Option}
use Rattle.ring_buffer.specs.declared.pointer.Pointer.{Pointer}
use Rattle.ring_buffer.specs.RingViews.{window_of, IsRingBuffer}
use Rattle.ring_buffer.proofs.Opening.{opened, opened_is, opening_is}
use Rattle.ring_buffer.proofs.ring_buffer.RingBuffer.over.Goals as goal

pub invariant_of-result : goal.invariant_of-result
invariant_of-result c =
    subst (λ (slots : List (Option Pointer)). IsRingBuffer (opened c.args.ring slots)) (sym c.new.ensures) (opened_is c.args.ring c.requires)

pub returns-clause-window : goal.returns-clause-window
returns-clause-window c = ap (λ (slots : List (Option Pointer)). window_of (opened c.args.ring slots)) c.new.ensures ∙ opening_is c.args.ring
