use Rattle.std.proofs.Common.{◌≡◌, ◌∙◌, ◌<◌, ℕ, length, ap, sym, refl, subst}
use Rattle.std.specs.Prelude.{slice_get}
use Rattle.std.proofs.lemmas.Option.{slice_get_within}
use Rattle.turn_lock.specs.Passes.{number_of}
use Rattle.buffer_lock.specs.SharedPorts.{access_by}
use Rattle.session_setup.specs.DeclaredMembers.{declared_members}
use Rattle.session_objects.specs.Kept.{out_to, ports_out}
use Rattle.session_objects.specs.Members.{ring_window}
use Rattle.session_objects.specs.Rosters.{ChangesAt, PutsBack}
use Rattle.session_objects.proofs.ChangeLaws.{some_same}
use Rattle.session_objects.proofs.OutLaws.{own_port}
use Rattle.session_objects.proofs.ReturnLaws.{buffer_room, buffer_within, own_port_back}
use Rattle.session_objects.proofs.ToldLaws.{port_tells}
use Rattle.session_objects.proofs.membership.Membership.take_back_port.Goals as goal

pub own_buffer-requires : goal.own_buffer-requires
own_buffer-requires g c = slice_get_within (declared_members c.args.self.now.lists.now) c.args.client _ c.requires.1.0.has_wanted

pub unreachable-requires : goal.unreachable-requires
unreachable-requires g c = let is = c.requires.1.0 in c.in_default.not-Some is.number (c.own_buffer.ensures is.wanted is.has_wanted ∙ is.has_number)

pub put_to_buffer-requires-clause-within : goal.put_to_buffer-requires-clause-within
put_to_buffer-requires-clause-within g c =
    let m = c.args.self.now in
    let is = c.requires.1.0 in
    let same : c.in-Some.buffer ≡ is.number = some_same c.in-Some.buffer is.number (sym c.in-Some.is ∙ c.own_buffer.ensures is.wanted is.has_wanted ∙ is.has_number) in
    let P : ℕ → Type 0 = λ n. n < length c.args.passes.now.buffers.items in
    subst P (sym same) (buffer_within g.calls m.objects.now m.database.now (ports_out m.lists.now c.args.client (length m.objects.now.buffers.items)) is.number is.buffer
    c.args.passes.now c.args.passes.now is.has_buffer c.requires.1.1 refl)

pub put_to_buffer-requires-clause-room : goal.put_to_buffer-requires-clause-room
put_to_buffer-requires-clause-room g c =
    let m = c.args.self.now in
    let is = c.requires.1.0 in
    let many : ℕ = length m.objects.now.buffers.items in
    let same : c.in-Some.buffer ≡ is.number = some_same c.in-Some.buffer is.number (sym c.in-Some.is ∙ c.own_buffer.ensures is.wanted is.has_wanted ∙ is.has_number) in
    λ roster there. buffer_room g.calls m.objects.now m.database.now (ports_out m.lists.now c.args.client many) is.number _ ((out_to m.lists.now c.args.client).buffers is.number) is.buffer c.args.passes.now roster
    is.has_buffer
    (own_port m.lists.now c.args.client is.wanted is.has_wanted is.number is.has_number many (slice_get_within m.objects.now.buffers.items is.number is.buffer is.has_buffer))
    c.requires.1.1 (ap (λ (n : ℕ). slice_get c.args.passes.now.buffers.items n) (sym same) ∙ there)

pub returns : goal.returns
returns g c =
    let m = c.args.self.now in
    let is = c.requires.1.0 in
    let same : c.in-Some.buffer ≡ is.number = some_same c.in-Some.buffer is.number (sym c.in-Some.is ∙ c.own_buffer.ensures is.wanted is.has_wanted ∙ is.has_number) in
    let P : ℕ → Type 0 = λ n. ChangesAt (λ before after. PutsBack before c.into_pass.result after) n c.args.passes.now.buffers.items c.put_to_buffer.new.self.buffers.items in
    own_port_back g.calls m.objects.now m.database.now m.lists.now c.args.client (access_by ring_window c.args.port) is c.args.passes.now c.put_to_buffer.new.self c.into_pass.result c.requires.1.1
    (subst P same c.put_to_buffer.ensures.put) c.put_to_buffer.ensures.engine c.put_to_buffer.ensures.database
    (ap (λ p. number_of p) c.into_pass.ensures.pass ∙ is.caller) (c.into_pass.ensures.told is.buffer.shared is.leads_to) c.into_pass.ensures.idle
    (port_tells c.args.port (access_by ring_window c.args.port) is.buffer.shared is.buffer.size c.args.client c.into_pass.result refl is.leads_to is.buffer.opens is.caller c.into_pass.ensures.pass)
