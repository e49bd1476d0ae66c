use Rattle.std.proofs.Common.{ℕ, ◌≡◌, ◌<◌, None, sym, subst, ◌∙◌, arith}
use Rattle.std.proofs.lemmas.List.{length-map}
use Rattle.buffer_core.specs.Slots.{slot_at}
use Rattle.loggers.proofs.ReadySteps.{pulled_slot}
use Rattle.loggers.proofs.steps.pull_at.Goals as goal

pub pull_slot-requires-clause-served : goal.pull_slot-requires-clause-served
pull_slot-requires-clause-served g c =
    let there : slot_at c.args.slots.now c.args.number ≡ c.in-Some.slot.now = sym (c.in-Some.ensures.entry.4 (omega arith) None) in
    λ d is. subst (λ (k : ℕ). d.spec.buffer < k) (length-map c.args.ports.now g.P.BufferPort.access) (c.requires.ready.served c.args.number d (there ∙ is))

pub pull_slot-requires-clause-few : goal.pull_slot-requires-clause-few
pull_slot-requires-clause-few g c =
    let there : slot_at c.args.slots.now c.args.number ≡ c.in-Some.slot.now = sym (c.in-Some.ensures.entry.4 (omega arith) None) in
    λ d is. c.requires.ready.few c.args.number d (there ∙ is)

pub returns-in-Some-clause-ready : goal.returns-in-Some-clause-ready
returns-in-Some-clause-ready g c =
    let there : slot_at c.args.slots.now c.args.number ≡ c.in-Some.slot.now = sym (c.in-Some.ensures.entry.4 (omega arith) None) in
    pulled_slot c.pulls_kept.ensures.change c.args.dump.now c.pull_slot.result c.args.number c.in-Some.slot.now _ _ there (c.pull_slot.ensures.pulls c.args.slots.now c.args.number there) c.requires.ready
