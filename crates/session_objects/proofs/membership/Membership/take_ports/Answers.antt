use Rattle.std.proofs.Common.{rules, ◌≡◌, ◌∙◌, ◌<◌, ◌+◌, ◌++◌, ◌∷◌, [], ℕ, List, length, map, take, ap, sym, refl, subst, arith, length-append}
use Rattle.std.proofs.Math.Seq.{take-length}
use Rattle.std.proofs.lemmas.List.{map-append, take_more}
use Rattle.std.proofs.lemmas.Option.{get_or_from_slice_get}
use Rattle.buffer_core.specs.Ports.{Access}
use Rattle.buffer_lock.specs.SharedPorts.{access_by}
use Rattle.session_objects.specs.declared.objects.SessionBuffer.{SessionBuffer}
use Rattle.session_setup.specs.declared.member.MemberDeclared.TheVariants.{Logger as WantedLogger}
use Rattle.session_objects.specs.Kept.{out_to, ports_out, buffer_out, HasFreshBut}
use Rattle.session_objects.specs.Members.{ring_window, new_port, new_ports}
use Rattle.session_objects.proofs.OutLaws.{port_gone, port_next}
use Rattle.session_objects.proofs.PlaceLaws.{buffer_has, client_few, fresh_said}
use Rattle.session_objects.proofs.membership.Membership.take_ports.Goals as goal

pub loop-number-init : goal.loop-number-init
loop-number-init g c =
    let m = c.args.self.now in (
      search rules,
      fresh_said m.objects.now m.database.now (out_to m.lists.now c.args.client) (ports_out m.lists.now c.args.client 0) c.args.passes.now refl
          (λ n l. sym (port_gone m.lists.now c.args.client 0 n (omega arith))) refl c.requires.out,
      search rules,
    )

pub take_port-requires-clause-client : goal.take_port-requires-clause-client
take_port-requires-clause-client g c =
    let m = c.args.self.now in
    client_few m.lists.now c.args.client WantedLogger c.requires.declared m.objects.now m.database.now c.requires.suit

pub take_port-requires-clause-out : goal.take_port-requires-clause-out
take_port-requires-clause-out g c = (ports_out c.args.self.now.lists.now c.args.client c.loop-number.number, c.loop-number.invariant.1)

pub take_port-requires-clause-there : goal.take_port-requires-clause-there
take_port-requires-clause-there g c =
    let m = c.args.self.now in
    let n : ℕ = c.loop-number.number in
    buffer_has m.objects.now m.database.now m.lists.now c.args.client WantedLogger c.requires.declared c.requires.suit.callers (ports_out m.lists.now c.args.client n) n c.loop-number.passes
    (search rules) (port_gone m.lists.now c.args.client n n (omega arith)) c.loop-number.invariant.1

pub loop-number-preserved : goal.loop-number-preserved
loop-number-preserved g c =
    let m = c.args.self.now in
    let lists = m.lists.now in
    let bs : List SessionBuffer = m.objects.now.buffers.items in
    let n : ℕ = c.loop-number.number in
    let inv = c.loop-number.invariant in
    let port = c.take_port.ensures.port in
    let made : SessionBuffer → Access = λ z. new_port z.shared (c.args.client + 1) in
    let pushed : c.push.new.self ≡ c.loop-number.ports ++ c.take_port.result ∷ [] = c.push.ensures in
    let count : length c.loop-number.ports ≡ n = inv.0 in
    let within : n < length bs = search rules in
    let more : take (n + 1) bs ≡ take n bs ++ port.buffer ∷ [] = take_more bs n port.buffer within ∙ ap (λ (z : SessionBuffer). take n bs ++ z ∷ []) (get_or_from_slice_get bs n port.buffer port.buffer port.has_buffer) in (
      ap length pushed ∙ length-append c.loop-number.ports (c.take_port.result ∷ []) ∙ ap (λ (k : ℕ). k + 1) count,
      fresh_said m.objects.now m.database.now (buffer_out (c.args.client + 1) n (ports_out lists c.args.client n)) (ports_out lists c.args.client (n + 1)) c.take_port.new.passes refl
          (λ k l. port_next lists c.args.client n c.requires.declared k) refl (c.take_port.ensures.out _ inv.1),
      ap (map (access_by ring_window)) pushed ∙ map-append (access_by ring_window) c.loop-number.ports (c.take_port.result ∷ [])
          ∙ ap (λ (heads : List Access). heads ++ access_by ring_window c.take_port.result ∷ []) inv.2 ∙ ap (λ (a : Access). map made (take n bs) ++ a ∷ []) port.is
          ∙ sym (map-append made (take n bs) (port.buffer ∷ [])) ∙ ap (map made) (sym more),
    )

pub returns-clause-out : goal.returns-clause-out
returns-clause-out g c =
    let m = c.args.self.now in
    let e : c.loop-number.number ≡ length m.objects.now.buffers.items = search rules in
    let P : ℕ → Type 0 = λ k. HasFreshBut (ports_out m.lists.now c.args.client k) m.objects.now m.database.now c.loop-number.passes in
    subst P e c.loop-number.invariant.1

pub returns-clause-ports : goal.returns-clause-ports
returns-clause-ports g c =
    let bs : List SessionBuffer = c.args.self.now.objects.now.buffers.items in
    let e : c.loop-number.number ≡ length bs = search rules in
    c.loop-number.invariant.2 ∙ ap (λ (k : ℕ). new_ports (take k bs) (c.args.client + 1)) e ∙ ap (λ (xs : List SessionBuffer). new_ports xs (c.args.client + 1)) (take-length bs)
