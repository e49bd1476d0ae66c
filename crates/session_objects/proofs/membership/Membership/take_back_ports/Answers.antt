use Rattle.std.proofs.Common.{rules, ◌≡◌, ◌∙◌, ◌<◌, ◌+◌, ◌++◌, ◌∷◌, [], ℕ, suc, add-one, length, map, ap, sym, refl, subst, arith, append-nil, append_assoc, length-append}
use Rattle.std.specs.Prelude.{slice_get, Option, Some}
use Rattle.std.proofs.lemmas.List.{length-map}
use Rattle.std.specs.Option.{option_map}
use Rattle.std.proofs.lemmas.Option.{slice_get_within, slice_get-map}
use Rattle.buffer_core.specs.Ports.{Access}
use Rattle.turn_lock.specs.Passes.{number_of}
use Rattle.buffer_lock.specs.SharedPorts.{access_by}
use Rattle.buffer_lock.specs.declared.port.SharedPort.{SharedPort}
use Rattle.session_objects.specs.Kept.{ports_out}
use Rattle.session_objects.specs.Records.{HasCallsBut}
use Rattle.session_objects.specs.Members.{ring_window}
use Rattle.session_objects.proofs.ChangeLaws.{get_seam, there_below}
use Rattle.session_objects.proofs.OutLaws.{port_now}
use Rattle.session_objects.proofs.ReturnLaws.{buffer_room, logger_port_back}
use Rattle.session_objects.proofs.ToldLaws.{port_tells}
use Rattle.session_objects.proofs.membership.Membership.take_back_ports.Goals as goal

pub loop-port-init : goal.loop-port-init
loop-port-init g c = (([], sym (append-nil c.args.ports)), c.requires.1.1.1.1)

pub put_to_buffer-requires-clause-within : goal.put_to_buffer-requires-clause-within
put_to_buffer-requires-clause-within g c =
    let inv = c.loop-port.invariant in
    let new = c.pop.new.self in
    let x : SharedPort _ _ = c.in-Some.port in
    let popped : c.loop-port.ports ≡ new ++ x ∷ [] = c.in-Some.ensures.last in
    let same : c.len.result ≡ length new = search rules in
    let at : slice_get c.args.ports c.len.result ≡ Some x = ap (λ m. slice_get c.args.ports m) same ∙ ap (λ zs. slice_get zs (length new)) (inv.0.1 ∙ ap (λ zs. zs ++ inv.0.0) popped) ∙ get_seam new inv.0.0 x in
    let l : c.len.result < length c.args.ports = slice_get_within c.args.ports c.len.result x at in
    let many : length c.args.ports ≡ length c.args.self.now.objects.now.buffers.items = sym (length-map c.args.ports (access_by ring_window)) ∙ c.requires.1.1.0.many in
    let kept : length c.loop-port.passes.buffers.items ≡ length c.args.self.now.objects.now.buffers.items = inv.1.many in omega arith

pub put_to_buffer-requires-clause-room : goal.put_to_buffer-requires-clause-room
put_to_buffer-requires-clause-room g c =
    let inv = c.loop-port.invariant in
    let new = c.pop.new.self in
    let x : SharedPort _ _ = c.in-Some.port in
    let n : ℕ = c.len.result in
    let popped : c.loop-port.ports ≡ new ++ x ∷ [] = c.in-Some.ensures.last in
    let same : n ≡ length new = search rules in
    let at : slice_get c.args.ports n ≡ Some x = ap (λ m. slice_get c.args.ports m) same ∙ ap (λ zs. slice_get zs (length new)) (inv.0.1 ∙ ap (λ zs. zs ++ inv.0.0) popped) ∙ get_seam new inv.0.0 x in
    let l : n < length c.args.ports = slice_get_within c.args.ports n x at in
    let many : length c.args.ports ≡ length c.args.self.now.objects.now.buffers.items = sym (length-map c.args.ports (access_by ring_window)) ∙ c.requires.1.1.0.many in
    let b = there_below c.args.self.now.objects.now.buffers.items n (omega arith) in
    let count : length c.loop-port.ports ≡ suc n = ap length popped ∙ length-append new (x ∷ []) ∙ ap (λ m. m + 1) (sym same) ∙ add-one n in
    let P : ℕ → Type 0 = λ m. HasCallsBut (ports_out c.args.self.now.lists.now c.args.client m) g.calls c.args.self.now.objects.now c.args.self.now.database.now c.loop-port.passes in
    λ roster there. buffer_room g.calls c.args.self.now.objects.now c.args.self.now.database.now (ports_out c.args.self.now.lists.now c.args.client (suc n)) n _ ((ports_out c.args.self.now.lists.now c.args.client n).buffers n) b.0 c.loop-port.passes roster b.1
    (port_now c.args.self.now.lists.now c.args.client n c.requires.1.0) (subst P count inv.1) there

pub loop-port-preserved : goal.loop-port-preserved
loop-port-preserved g c =
    let inv = c.loop-port.invariant in
    let new = c.pop.new.self in
    let x : SharedPort _ _ = c.in-Some.port in
    let n : ℕ = c.len.result in
    let popped : c.loop-port.ports ≡ new ++ x ∷ [] = c.in-Some.ensures.last in
    let same : n ≡ length new = search rules in
    let at : slice_get c.args.ports n ≡ Some x = ap (λ m. slice_get c.args.ports m) same ∙ ap (λ zs. slice_get zs (length new)) (inv.0.1 ∙ ap (λ zs. zs ++ inv.0.0) popped) ∙ get_seam new inv.0.0 x in
    let l : n < length c.args.ports = slice_get_within c.args.ports n x at in
    let many : length c.args.ports ≡ length c.args.self.now.objects.now.buffers.items = sym (length-map c.args.ports (access_by ring_window)) ∙ c.requires.1.1.0.many in
    let b = there_below c.args.self.now.objects.now.buffers.items n (omega arith) in
    let count : length c.loop-port.ports ≡ suc n = ap length popped ∙ length-append new (x ∷ []) ∙ ap (λ m. m + 1) (sym same) ∙ add-one n in
    let P : ℕ → Type 0 = λ m. HasCallsBut (ports_out c.args.self.now.lists.now c.args.client m) g.calls c.args.self.now.objects.now c.args.self.now.database.now c.loop-port.passes in
    let Q : ℕ → Type 0 = λ m. HasCallsBut (ports_out c.args.self.now.lists.now c.args.client m) g.calls c.args.self.now.objects.now c.args.self.now.database.now c.put_to_buffer.new.self in
    let told : Access = access_by ring_window x in
    let at_told : slice_get (map (access_by ring_window) c.args.ports) n ≡ Some told = slice_get-map (access_by ring_window) c.args.ports n ∙ ap (option_map (access_by ring_window)) at in
    let is = c.requires.1.1.0.each n b.0 told b.1 at_told in (
      (x ∷ inv.0.0, inv.0.1 ∙ ap (λ zs. zs ++ inv.0.0) popped ∙ append_assoc new (x ∷ []) inv.0.0),
      subst Q same (logger_port_back g.calls c.args.self.now.objects.now c.args.self.now.database.now c.args.self.now.lists.now c.args.client n b.0 told c.loop-port.passes c.put_to_buffer.new.self c.into_pass.result
          c.requires.1.0 b.1 (ap (λ (f : ℕ → Option Access). f n) c.requires.1.1.1.0 ∙ at_told) (subst P count inv.1)
          c.put_to_buffer.ensures.put c.put_to_buffer.ensures.engine c.put_to_buffer.ensures.database
          (ap (λ p. number_of p) c.into_pass.ensures.pass ∙ is.1) (c.into_pass.ensures.told b.0.shared is.0) c.into_pass.ensures.idle
          (port_tells x told b.0.shared b.0.size c.args.client c.into_pass.result refl is.0 b.0.opens is.1 c.into_pass.ensures.pass)),
    )

pub returns : goal.returns
returns g c =
    let none : c.loop-port.ports ≡ [] = search rules in
    let P : ℕ → Type 0 = λ m. HasCallsBut (ports_out c.args.self.now.lists.now c.args.client m) g.calls c.args.self.now.objects.now c.args.self.now.database.now c.loop-port.passes in
    subst P (ap length none) c.loop-port.invariant.1
