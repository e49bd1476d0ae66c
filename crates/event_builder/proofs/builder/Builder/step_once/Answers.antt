use Rattle.std.proofs.Common.{◌≡◌, ◌≤◌, ◌∙◌, suc, List, length, map, ap, sym, subst, Some, get_or, refl, arith, true, rules}
use Rattle.std.specs.Prelude.{slice_get}
use Rattle.std.specs.List.{list_all}
use Rattle.std.proofs.lemmas.List.{length-map}
use Rattle.event.specs.Events.{slot_of_length}
use Rattle.event.specs.Headers.{fields_of}
use Rattle.event_builder.specs.declared.inputs.BuilderInput.{BuilderInput}
use Rattle.event_builder.specs.Inputs.{inputs_at, is_held}
use Rattle.event_builder.specs.Builders.{BuilderState, IsBuilderReady}
use Rattle.event_builder.proofs.Stepped.{lent_at}
use Rattle.event_builder.proofs.WaitReplies.{slot_within, wait_reply}
use Rattle.event_builder.proofs.Readiness.{ready_of}
use Rattle.event_builder.proofs.Sending.{SetHeld, set_held, ready_sent, step_held}
use Rattle.event_builder.proofs.builder.Builder.step_once.Goals as goal

pub end_send-answer-requires-clause-below : goal.end_send-answer-requires-clause-below
end_send-answer-requires-clause-below g c =
    let ready : IsBuilderReady c.self.inside.id c.self.inside.limit c.self.inside.inputs (Some c.in-Some.run') c.self.inside.body = ready_of c.self.inside.id c.self.inside.limit c.self.inside.inputs c.self.inside.run c.in-Some.run' c.self.inside.body c.in-Some.is c.self.invariant in
    let sliced : list_all is_held c.as_slice.result.now ≡ true = search rules in
    let all : list_all is_held c.self.inside.inputs ≡ true = subst (λ (l : List BuilderInput). list_all is_held l ≡ true) c.as_slice.ensures sliced in
    let x : BuilderInput = c.index-as_slice-0.result in
    let there : slice_get c.self.inside.inputs 0 ≡ Some x = lent_at c.self.inside.inputs 0 x c.self.invariant.some (c.index-as_slice-0.is ∙ ap (λ (l : List BuilderInput). get_or l 0 x) c.as_slice-2.ensures) in
    let set : SetHeld c.self.inside.id c.self.inside.mask c.self.inside.limit c.self.inside.inputs c.in-Some.run' c.self.inside.body c.header-first.result c.finish-body.result.now =
    set_held c.self.inside.id c.self.inside.mask c.self.inside.limit c.self.inside.inputs c.in-Some.run' c.self.inside.body x c.header-first.result c.finish-body.result.now ready all there (c.header-first.ensures ∙ ap (λ (y : BuilderInput). fields_of y.event.event) (sym c.index-as_slice-0.is)) c.finish-body.ensures.plain in
    let serial : c.header-first.result.serial_number ≡ suc c.in-Some.run'.sent = set.serial in
    first_of (omega (arith, serial), grind (arith, serial))

pub end_send-answer-requires-clause-reply : goal.end_send-answer-requires-clause-reply
end_send-answer-requires-clause-reply g c =
    let ready : IsBuilderReady c.self.inside.id c.self.inside.limit c.self.inside.inputs (Some c.in-Some.run') c.self.inside.body = ready_of c.self.inside.id c.self.inside.limit c.self.inside.inputs c.self.inside.run c.in-Some.run' c.self.inside.body c.in-Some.is c.self.invariant in
    let sliced : list_all is_held c.as_slice.result.now ≡ true = search rules in
    let all : list_all is_held c.self.inside.inputs ≡ true = subst (λ (l : List BuilderInput). list_all is_held l ≡ true) c.as_slice.ensures sliced in
    let x : BuilderInput = c.index-as_slice-0.result in
    let there : slice_get c.self.inside.inputs 0 ≡ Some x = lent_at c.self.inside.inputs 0 x c.self.invariant.some (c.index-as_slice-0.is ∙ ap (λ (l : List BuilderInput). get_or l 0 x) c.as_slice-2.ensures) in
    let set : SetHeld c.self.inside.id c.self.inside.mask c.self.inside.limit c.self.inside.inputs c.in-Some.run' c.self.inside.body c.header-first.result c.finish-body.result.now =
    set_held c.self.inside.id c.self.inside.mask c.self.inside.limit c.self.inside.inputs c.in-Some.run' c.self.inside.body x c.header-first.result c.finish-body.result.now ready all there (c.header-first.ensures ∙ ap (λ (y : BuilderInput). fields_of y.event.event) (sym c.index-as_slice-0.is)) c.finish-body.ensures.plain in
    let slot : slot_of_length (length c.finish-body.result.now) ≤ slot_of_length c.self.inside.limit = slot_within (length c.finish-body.result.now) c.self.inside.limit set.small in
    let fits : slot_of_length (length c.finish-body.result.now) ≤ (g.Q.BufferPort.access c.args.output.now).size = omega (arith, slot, c.requires.size, ap (λ (s : BuilderState). slot_of_length s.limit) c.self.view_is) in
    wait_reply (g.Q.BufferPort.access c.args.output.now).size (length c.finish-body.result.now)
    (record { id = c.self.inside.id; mask = c.self.inside.mask; serial = c.header-first.result.serial_number; time = c.header-first.result.time_stamp; body = c.finish-body.result.now })
    c.send_in_run-reply.result c.send_in_run-reply.ensures.refused refl (omega (arith, set.small, set.within)) set.free fits

pub invariant_of-self : goal.invariant_of-self
invariant_of-self g c =
    let ready : IsBuilderReady c.self.inside.id c.self.inside.limit c.self.inside.inputs (Some c.in-Some.run') c.self.inside.body = ready_of c.self.inside.id c.self.inside.limit c.self.inside.inputs c.self.inside.run c.in-Some.run' c.self.inside.body c.in-Some.is c.self.invariant in
    let many : length (map g.P.BufferPort.access c.args.ports.now) ≡ length c.self.inside.inputs = omega (arith, c.requires.ports, ap (λ (s : BuilderState). length s.inputs) c.self.view_is, length-map c.args.ports.now g.P.BufferPort.access) in
    ready_sent c.send_in_run-reply.result c.self.inside.id c.self.inside.limit c.in-Some.run' c.end_send-answer.result.0 (inputs_at c.self.inside.inputs (map g.P.BufferPort.access c.args.ports.now))
    (inputs_at c.end_send-answer.new.inputs (map g.P.BufferPort.access c.end_send-answer.new.ports)) c.end_send-answer.result.1 c.self.inside.body ready many c.end_send-answer.ensures

pub returns-clause-steps : goal.returns-clause-steps
returns-clause-steps g c =
    let ready : IsBuilderReady c.self.inside.id c.self.inside.limit c.self.inside.inputs (Some c.in-Some.run') c.self.inside.body = ready_of c.self.inside.id c.self.inside.limit c.self.inside.inputs c.self.inside.run c.in-Some.run' c.self.inside.body c.in-Some.is c.self.invariant in
    let sliced : list_all is_held c.as_slice.result.now ≡ true = search rules in
    let all : list_all is_held c.self.inside.inputs ≡ true = subst (λ (l : List BuilderInput). list_all is_held l ≡ true) c.as_slice.ensures sliced in
    let x : BuilderInput = c.index-as_slice-0.result in
    let there : slice_get c.self.inside.inputs 0 ≡ Some x = lent_at c.self.inside.inputs 0 x c.self.invariant.some (c.index-as_slice-0.is ∙ ap (λ (l : List BuilderInput). get_or l 0 x) c.as_slice-2.ensures) in
    let set : SetHeld c.self.inside.id c.self.inside.mask c.self.inside.limit c.self.inside.inputs c.in-Some.run' c.self.inside.body c.header-first.result c.finish-body.result.now =
    set_held c.self.inside.id c.self.inside.mask c.self.inside.limit c.self.inside.inputs c.in-Some.run' c.self.inside.body x c.header-first.result c.finish-body.result.now ready all there (c.header-first.ensures ∙ ap (λ (y : BuilderInput). fields_of y.event.event) (sym c.index-as_slice-0.is)) c.finish-body.ensures.plain in
    rw (← c.self.view_is)
    (step_held c.self.inside.run c.in-Some.run' c.self.inside.id c.self.inside.mask _ _ (inputs_at c.self.inside.inputs (map g.P.BufferPort.access c.args.ports.now)) _ _ c.in-Some.is all (record {
      event = record { id = c.self.inside.id; mask = c.self.inside.mask; serial = c.header-first.result.serial_number; time = c.header-first.result.time_stamp; body = c.finish-body.result.now };
      reply = c.send_in_run-reply.result;
      built = set.built;
      sends = c.send_in_run-reply.ensures.called;
      then = c.end_send-answer.ensures;
    }))
