use Rattle.std.proofs.Common.{◌≡◌, ◌∙◌, ◌+◌, refl}
use Rattle.transition_lock.specs.SharedEngines.{engine_lock_of}
use Rattle.session_objects.specs.declared.passes.SessionPasses.{SessionPasses}
use Rattle.session_objects.proofs.PlaceLaws.{engine_taken}
use Rattle.session_objects.proofs.membership.Membership.take_engine.Goals as goal

pub take_fresh-pass-requires : goal.take_fresh-pass-requires
take_fresh-pass-requires g c =
    let has_number : c.number-caller.result ≡ c.args.client + 1 = c.number-caller.ensures ∙ c.of_client.ensures in
    rw has_number c.requires.there

pub new-requires-clause-own : goal.new-requires-clause-own
new-requires-clause-own g c = c.take_fresh-pass.ensures.own (engine_lock_of c.args.self.now.objects.now.engine) c.requires.out.1.engine.keeps.own

pub returns-clause-out : goal.returns-clause-out
returns-clause-out g c =
    let has_number : c.number-caller.result ≡ c.args.client + 1 = c.number-caller.ensures ∙ c.of_client.ensures in
    let after : SessionPasses _ _ = record c.args.passes.now { engine = c.take_fresh-pass.new.passes } in
    λ out k. engine_taken c.args.self.now.objects.now c.args.self.now.database.now out (c.args.client + 1) c.args.passes.now after c.take_fresh-pass.result k
    (rw has_number at c.take_fresh-pass.ensures) refl refl
