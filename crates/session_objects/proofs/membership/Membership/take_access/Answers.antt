use Rattle.std.proofs.Common.{◌≡◌, ◌∙◌, ◌+◌, refl}
use Rattle.odb_lock.specs.SharedOdbs.{odb_lock_of}
use Rattle.session_objects.specs.declared.passes.SessionPasses.{SessionPasses}
use Rattle.session_objects.proofs.PlaceLaws.{database_taken}
use Rattle.session_objects.proofs.membership.Membership.take_access.Goals as goal

pub take_fresh-requires : goal.take_fresh-requires
take_fresh-requires g c =
    let has_number : c.number-caller.result ≡ c.args.client + 1 = c.number-caller.ensures ∙ c.of_client.ensures in
    rw has_number c.requires.there

pub new-requires-clause-own : goal.new-requires-clause-own
new-requires-clause-own g c = c.take_fresh.ensures.own (odb_lock_of c.args.self.now.database.now) c.requires.out.1.database.keeps.own

pub new-requires-clause-idle : goal.new-requires-clause-idle
new-requires-clause-idle g c = (c.take_fresh.ensures.fresh c.requires.out.1.database.fresh).idle

pub returns-clause-out : goal.returns-clause-out
returns-clause-out g c =
    let has_number : c.number-caller.result ≡ c.args.client + 1 = c.number-caller.ensures ∙ c.of_client.ensures in
    let after : SessionPasses _ _ = record c.args.passes.now { database = c.take_fresh.new.passes } in
    λ out k. database_taken c.args.self.now.objects.now c.args.self.now.database.now out (c.args.client + 1) c.args.passes.now after c.take_fresh.result k
    (rw has_number at c.take_fresh.ensures) refl refl
