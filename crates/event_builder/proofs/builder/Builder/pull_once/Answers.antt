use Rattle.std.proofs.Common.{◌≡◌, ◌∙◌, ◌<◌, ◌+◌, ℕ, suc, List, length, map, ap, sym, subst, Some, get_or, arith}
use Rattle.std.specs.Prelude.{slice_get}
use Rattle.std.proofs.lemmas.List.{length-map}
use Rattle.event_builder.specs.declared.inputs.BuilderInput.{BuilderInput}
use Rattle.event_builder.specs.Inputs.{InputsAt, inputs_at}
use Rattle.event_builder.specs.Builders.{BuilderState, IsBuilderReady}
use Rattle.event_builder.specs.BuilderPulls.{FaultsReply, HoldBanksBut}
use Rattle.event_builder.proofs.InputLists.{member}
use Rattle.event_builder.proofs.Stepped.{lent_at}
use Rattle.event_builder.proofs.Faulted.{pull_idle, pull_unasked, pull_waits, pulls_once}
use Rattle.event_builder.proofs.Readiness.{ready_of, ready_pulled, receives_held, others_hold}
use Rattle.event_builder.proofs.builder.Builder.pull_once.Goals as goal

pub returns-in_default-clause-pulls : goal.returns-in_default-clause-pulls
returns-in_default-clause-pulls g c =
    let within : c.args.input < length c.self.inside.inputs = omega (arith, c.requires.input, ap (λ (s : BuilderState). length s.inputs) c.self.view_is) in
    let x = member c.self.inside.inputs c.args.input within in
    rw (← c.self.view_is) (record { input = x.0; there = x.1; pulls = pull_idle c.args.input c.self.inside.limit c.self.inside.run x.0 _ c.in_default.is })

pub returns-in_default-asked-clause-pulls : goal.returns-in_default-asked-clause-pulls
returns-in_default-asked-clause-pulls g c =
    let within : c.args.input < length c.self.inside.inputs = omega (arith, c.requires.input, ap (λ (s : BuilderState). length s.inputs) c.self.view_is) in
    let x : BuilderInput = c.index-as_slice-input.result in
    let there : slice_get c.self.inside.inputs c.args.input ≡ Some x = lent_at c.self.inside.inputs c.args.input x within (c.index-as_slice-input.is ∙ ap (λ (l : List BuilderInput). get_or l c.args.input x) c.as_slice.ensures) in
    rw (← c.self.view_is) (record { input = x; there = there; pulls = pull_unasked c.args.input c.self.inside.limit c.self.inside.run c.in-Some.run' x _ c.in-Some.is c.in_default-asked.is })

pub returns-then-held-clause-pulls : goal.returns-then-held-clause-pulls
returns-then-held-clause-pulls g c =
    let within : c.args.input < length c.self.inside.inputs = omega (arith, c.requires.input, ap (λ (s : BuilderState). length s.inputs) c.self.view_is) in
    let x : BuilderInput = c.index-as_slice-input.result in
    let there : slice_get c.self.inside.inputs c.args.input ≡ Some x = lent_at c.self.inside.inputs c.args.input x within (c.index-as_slice-input.is ∙ ap (λ (l : List BuilderInput). get_or l c.args.input x) c.as_slice.ensures) in
    rw (← c.self.view_is) (record { input = x; there = there; pulls = pull_waits c.args.input c.self.inside.limit c.self.inside.run c.in-Some.run' x c.in-Some-asked.request _ c.in-Some.is c.in-Some-asked.is c.if-held.true })

pub fault_of-fault-requires-clause-there : goal.fault_of-fault-requires-clause-there
fault_of-fault-requires-clause-there g c =
    rw c.as_slice-inputs.ensures
    (receives_held c.args.input c.in-Some.run'.start c.in-Some-asked.request c.receive_at-reply.result (inputs_at c.self.inside.inputs (map g.P.BufferPort.access c.args.ports.now)) (inputs_at c.receive_at-reply.new.inputs (map g.P.BufferPort.access c.receive_at-reply.new.ports)) c.receive_at-reply.ensures.reads)

pub fault_of-fault-requires-clause-others : goal.fault_of-fault-requires-clause-others
fault_of-fault-requires-clause-others g c =
    let ready : IsBuilderReady c.self.inside.id c.self.inside.limit c.self.inside.inputs (Some c.in-Some.run') c.self.inside.body = ready_of c.self.inside.id c.self.inside.limit c.self.inside.inputs c.self.inside.run c.in-Some.run' c.self.inside.body c.in-Some.is c.self.invariant in
    let hold : HoldBanksBut c.args.input c.receive_at-reply.new.inputs =
    others_hold c.args.input c.self.inside.id c.self.inside.limit c.in-Some.run' c.in-Some-asked.request c.receive_at-reply.result (inputs_at c.self.inside.inputs (map g.P.BufferPort.access c.args.ports.now)) (inputs_at c.receive_at-reply.new.inputs (map g.P.BufferPort.access c.receive_at-reply.new.ports)) c.self.inside.body ready c.receive_at-reply.ensures.reads in
    subst (λ (l : List BuilderInput). HoldBanksBut c.args.input l) (sym c.as_slice-inputs.ensures) hold

pub invariant_of-self : goal.invariant_of-self
invariant_of-self g c =
    let ready : IsBuilderReady c.self.inside.id c.self.inside.limit c.self.inside.inputs (Some c.in-Some.run') c.self.inside.body = ready_of c.self.inside.id c.self.inside.limit c.self.inside.inputs c.self.inside.run c.in-Some.run' c.self.inside.body c.in-Some.is c.self.invariant in
    let k : c.from-k.result + 1 ≡ suc c.in-Some.run'.sent = omega (arith, c.from-k.ensures) in
    let faults : FaultsReply c.receive_at-reply.result c.in-Some.run'.start c.args.input (suc c.in-Some.run'.sent) c.self.inside.limit c.receive_at-reply.new.inputs c.fault_of-fault.result =
    subst (λ (n : ℕ). FaultsReply c.receive_at-reply.result c.in-Some.run'.start c.args.input n c.self.inside.limit c.receive_at-reply.new.inputs c.fault_of-fault.result) k
    (subst (λ (l : List BuilderInput). FaultsReply c.receive_at-reply.result c.in-Some.run'.start c.args.input (c.from-k.result + 1) c.self.inside.limit l c.fault_of-fault.result) c.as_slice-inputs.ensures c.fault_of-fault.ensures.faults) in
    ready_pulled c.fault_of-fault.result c.args.input c.self.inside.id c.self.inside.limit c.in-Some.run' c.end_by-later.result c.in-Some-asked.request c.receive_at-reply.result (inputs_at c.self.inside.inputs (map g.P.BufferPort.access c.args.ports.now))
    (inputs_at c.receive_at-reply.new.inputs (map g.P.BufferPort.access c.receive_at-reply.new.ports)) (inputs_at c.end_by-later.new.inputs (map g.P.BufferPort.access c.end_by-later.new.ports)) c.self.inside.body c.fault_of-fault.new.body ready
    (omega (arith, c.requires.ports, ap (λ (s : BuilderState). length s.inputs) c.self.view_is, length-map c.args.ports.now g.P.BufferPort.access)) c.receive_at-reply.ensures.reads faults (rw c.as_slice-inputs.ensures at c.fault_of-fault.ensures.joined)
    c.fault_of-fault.ensures.format c.fault_of-fault.ensures.limit c.end_by-later.ensures

pub returns-clause-pulls : goal.returns-clause-pulls
returns-clause-pulls g c =
    let within : c.args.input < length c.self.inside.inputs = omega (arith, c.requires.input, ap (λ (s : BuilderState). length s.inputs) c.self.view_is) in
    let x : BuilderInput = c.index-as_slice-input.result in
    let there : slice_get c.self.inside.inputs c.args.input ≡ Some x = lent_at c.self.inside.inputs c.args.input x within (c.index-as_slice-input.is ∙ ap (λ (l : List BuilderInput). get_or l c.args.input x) c.as_slice.ensures) in
    let k : c.from-k.result + 1 ≡ suc c.in-Some.run'.sent = omega (arith, c.from-k.ensures) in
    let faults : FaultsReply c.receive_at-reply.result c.in-Some.run'.start c.args.input (suc c.in-Some.run'.sent) c.self.inside.limit c.receive_at-reply.new.inputs c.fault_of-fault.result =
    subst (λ (n : ℕ). FaultsReply c.receive_at-reply.result c.in-Some.run'.start c.args.input n c.self.inside.limit c.receive_at-reply.new.inputs c.fault_of-fault.result) k
    (subst (λ (l : List BuilderInput). FaultsReply c.receive_at-reply.result c.in-Some.run'.start c.args.input (c.from-k.result + 1) c.self.inside.limit l c.fault_of-fault.result) c.as_slice-inputs.ensures c.fault_of-fault.ensures.faults) in
    let middle : InputsAt = inputs_at c.receive_at-reply.new.inputs (map g.P.BufferPort.access c.receive_at-reply.new.ports) in
    rw (← c.self.view_is) (record {
      input = x;
      there = there;
      pulls = pulls_once c.args.input c.self.inside.limit c.self.inside.run c.in-Some.run' x c.in-Some-asked.request _ _ _ c.in-Some.is c.in-Some-asked.is c.if-held.false (record {
        reply = c.receive_at-reply.result;
        middle = middle;
        fault = c.fault_of-fault.result;
        receives = c.receive_at-reply.ensures.reads;
        faults = faults;
        ends = c.end_by-later.ensures;
        answer_is = c.answer_of.ensures;
      });
    })
