use Rattle.std.proofs.Common.{◌≡◌, ◌∙◌, ◌<◌, ◌+◌, length, ap, refl, arith}
use Rattle.std.specs.Prelude.{slice_get, Some}
use Rattle.std.proofs.lemmas.Option.{slice_get_read}
use Rattle.turn_lock.specs.Passes.{number_of, seen_by}
use Rattle.buffer_lock.specs.SharedBuffers.{lock_of}
use Rattle.session_objects.specs.declared.objects.SessionBuffer.{SessionBuffer}
use Rattle.session_objects.proofs.ChangeLaws.{there_below}
use Rattle.session_objects.proofs.PlaceLaws.{buffer_taken}
use Rattle.session_objects.proofs.ToldLaws.{new_port_is}
use Rattle.session_objects.proofs.membership.Membership.take_port.Goals as goal

pub take_of_buffer-pass-requires-clause-there : goal.take_of_buffer-pass-requires-clause-there
take_of_buffer-pass-requires-clause-there g c =
    let has_number : c.number-caller.result ≡ c.args.client + 1 = c.number-caller.ensures ∙ c.of_client.ensures in
    λ roster at. rw has_number (c.requires.there roster at)

pub new-requires-clause-own : goal.new-requires-clause-own
new-requires-clause-own g c =
    let bs = c.args.self.now.objects.now.buffers.items in
    let many : length c.args.passes.now.buffers.items ≡ length bs = c.requires.out.1.many in
    let at_b : slice_get bs c.args.number ≡ Some c.index.result.now = slice_get_read bs (length bs) c.args.number c.index.result.now refl c.requires.number c.index.ensures in
    let within : c.args.number < length bs = c.requires.number in
    let r = there_below c.args.passes.now.buffers.items c.args.number (omega arith) in
    let k = c.requires.out.1.buffers c.args.number c.index.result.now r.0 at_b r.1 in
    let taken = c.take_of_buffer-pass.ensures.taken.there r.0 r.1 in taken.2.own (lock_of c.index.result.now.shared) k.keeps.own

pub new-requires-clause-idle : goal.new-requires-clause-idle
new-requires-clause-idle g c =
    let bs = c.args.self.now.objects.now.buffers.items in
    let many : length c.args.passes.now.buffers.items ≡ length bs = c.requires.out.1.many in
    let at_b : slice_get bs c.args.number ≡ Some c.index.result.now = slice_get_read bs (length bs) c.args.number c.index.result.now refl c.requires.number c.index.ensures in
    let within : c.args.number < length bs = c.requires.number in
    let r = there_below c.args.passes.now.buffers.items c.args.number (omega arith) in
    let k = c.requires.out.1.buffers c.args.number c.index.result.now r.0 at_b r.1 in
    let taken = c.take_of_buffer-pass.ensures.taken.there r.0 r.1 in (taken.2.fresh k.fresh).idle

pub returns-clause-out : goal.returns-clause-out
returns-clause-out g c =
    let has_number : c.number-caller.result ≡ c.args.client + 1 = c.number-caller.ensures ∙ c.of_client.ensures in
    λ out k. buffer_taken c.args.self.now.objects.now c.args.self.now.database.now out c.args.number (c.args.client + 1) c.args.passes.now c.take_of_buffer-pass.new.self c.take_of_buffer-pass.result k
    (rw has_number at c.take_of_buffer-pass.ensures.taken) c.take_of_buffer-pass.ensures.engine c.take_of_buffer-pass.ensures.database

pub returns-clause-port : goal.returns-clause-port
returns-clause-port g c =
    let bs = c.args.self.now.objects.now.buffers.items in
    let many : length c.args.passes.now.buffers.items ≡ length bs = c.requires.out.1.many in
    let b : SessionBuffer = c.index.result.now in
    let at_b : slice_get bs c.args.number ≡ Some b = slice_get_read bs (length bs) c.args.number b refl c.requires.number c.index.ensures in
    let within : c.args.number < length bs = c.requires.number in
    let r = there_below c.args.passes.now.buffers.items c.args.number (omega arith) in
    let k = c.requires.out.1.buffers c.args.number b r.0 at_b r.1 in
    let taken = c.take_of_buffer-pass.ensures.taken.there r.0 r.1 in
    let has_number : c.number-caller.result ≡ c.args.client + 1 = c.number-caller.ensures ∙ c.of_client.ensures in record {
      buffer = b;
      has_buffer = at_b;
      is = new_port_is c.new.result b.shared (c.args.client + 1) c.new.ensures.buffer
          (ap (λ p. number_of p) c.new.ensures.pass ∙ (taken.2.is ∙ has_number))
          (ap (λ p. seen_by p) c.new.ensures.pass ∙ (taken.2.fresh k.fresh).seen);
    }
