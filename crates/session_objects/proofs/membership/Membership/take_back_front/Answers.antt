use Rattle.std.proofs.Common.{◌∙◌, ◌+◌, ◌<◌, ℕ, length, ap, sym, refl, subst, arith}
use Rattle.turn_lock.specs.Passes.{number_of, seen_by, IsOf}
use Rattle.turn_lock.specs.Roster.{items_of, room_of}
use Rattle.turn_lock.specs.declared.roster.Passes.{Passes}
use Rattle.buffer_core.specs.Ports.{Access}
use Rattle.transition_lock.specs.declared.shared.SharedEngine.{SharedEngine}
use Rattle.transition_lock.specs.SharedEngines.{engine_lock_of}
use Rattle.odb_watch.specs.DatabasePorts.{DatabaseAccess}
use Rattle.session_objects.specs.Kept.{out_to}
use Rattle.session_objects.specs.Members.{front_account, IsOwnPort}
use Rattle.session_setup.specs.declared.member.MemberDeclared.TheVariants.{FrontEnd as WantedFront}
use Rattle.session_objects.proofs.ListedLaws.{front_port}
use Rattle.session_objects.proofs.OutLaws.{engine_one, database_one}
use Rattle.session_objects.proofs.ReturnLaws.{engine_room, database_room, client_engine_back, client_database_back, ports_still}
use Rattle.session_objects.proofs.membership.Membership.take_back_front.Goals as goal

pub put_to_engine-requires : goal.put_to_engine-requires
put_to_engine-requires g c =
    let m = c.args.self.now in
    engine_room g.calls m.objects.now m.database.now (out_to m.lists.now (c.args.client + 1)) _ (out_to m.lists.now c.args.client).engine c.args.passes.now (engine_one m.lists.now c.args.client) c.requires.1.1

pub put_to_database-requires : goal.put_to_database-requires
put_to_database-requires g c =
    let m = c.args.self.now in
    let P : Passes _ _ _ _ → Type 0 = λ db. length (items_of db) < room_of db in
    subst P (sym c.put_to_engine.ensures.database)
    (database_room g.calls m.objects.now m.database.now (out_to m.lists.now (c.args.client + 1)) _ (out_to m.lists.now c.args.client).database c.args.passes.now
    (database_one m.lists.now c.args.client (WantedFront c.requires.1.0.0) c.requires.1.0.2.has_wanted refl) c.requires.1.1)

pub take_back_port-requires : goal.take_back_port-requires
take_back_port-requires g c =
    let m = c.args.self.now in
    let lists = m.lists.now in
    let client : ℕ = c.args.client in
    let d = c.requires.1.0.0 in
    let is = c.requires.1.0.1 in
    let has = c.requires.1.0.2 in
    let parts = c.into_parts-pass.ensures in
    let account = front_account d c.args.front in
    let k1 = client_engine_back g.calls m.objects.now m.database.now lists client (WantedFront d) account has c.args.passes.now c.put_to_engine.new.self c.into_parts-pass.result.pass c.requires.1.1
    c.put_to_engine.ensures.put c.put_to_engine.ensures.buffers c.put_to_engine.ensures.database
    (parts.number ∙ ap (λ (n : ℕ). n + 1) is.is)
    (let P : SharedEngine → Type 0 = λ e. IsOf (engine_lock_of e) c.into_parts-pass.result.pass in subst P is.engine parts.own)
    parts.idle parts.calls in
    let k2 = client_database_back g.calls m.objects.now m.database.now lists client (WantedFront d) account has _ c.put_to_engine.new.self c.put_to_database.new.self c.into_pass.result refl refl k1
    c.put_to_database.ensures.put c.put_to_database.ensures.buffers c.put_to_database.ensures.engine
    (ap (λ p. number_of p) c.into_pass.ensures.pass ∙ ap (λ (a : DatabaseAccess). a.caller) parts.database ∙ is.access_caller)
    (c.into_pass.ensures.told m.database.now (ap (λ (a : DatabaseAccess). a.database) parts.database ∙ is.access))
    c.into_pass.ensures.idle
    (ap (λ p. seen_by p) c.into_pass.ensures.pass ∙ ap (λ (a : DatabaseAccess). a.seen) parts.database) in
    let P : Access → Type 0 = λ port. IsOwnPort lists m.objects.now g.calls client port in
    λ κs lives. (
      lives,
      (
        subst P (sym parts.port) (front_port lists m.objects.now g.calls client m.database.now c.args.front d is has),
        ports_still g.calls m.objects.now m.database.now lists client (length m.objects.now.buffers.items) (out_to lists client).database c.put_to_database.new.self refl (omega arith) k2,
      ),
    )

pub returns : goal.returns
returns g c = c.take_back_port.ensures
