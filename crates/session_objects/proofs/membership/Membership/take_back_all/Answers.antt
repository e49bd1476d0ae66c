use Rattle.std.proofs.Common.{◌≡◌, ◌∙◌, ◌<◌, [], ℕ, length, ap, sym, subst, arith}
use Rattle.turn_lock.specs.Roster.{items_of, room_of}
use Rattle.turn_lock.specs.declared.roster.Passes.{Passes}
use Rattle.transition_lock.specs.SharedEngines.{engine_lock_of}
use Rattle.odb_lock.specs.SharedOdbs.{odb_lock_of}
use Rattle.session_objects.specs.Calls.{SessionCalls, told_of_engine, told_of_database}
use Rattle.session_setup.specs.DeclaredMembers.{declared_members, member_count}
use Rattle.session_objects.specs.Kept.{out_to}
use Rattle.session_objects.specs.Members.{accounts_of, AreCalledAt}
use Rattle.session_objects.specs.Records.{HasCallsBut}
use Rattle.session_objects.proofs.ListedLaws.{accounts_count, all_called, logger_left, logger_there}
use Rattle.session_objects.proofs.RosterLaws.{room_for}
use Rattle.session_objects.proofs.ReturnLaws.{main_back, untold}
use Rattle.session_objects.proofs.membership.Membership.take_back_all.Goals as goal

pub take_back_members-requires : goal.take_back_members-requires
take_back_members-requires g c =
    let m = c.args.self.now in
    let lists = m.lists.now in
    let are = c.requires.1.1.1.0 in
    let told : g.calls.members ≡ accounts_of (declared_members lists) c.args.members = ap (λ (k : SessionCalls). k.members) c.requires.1.1.0 in
    let accounts : length g.calls.members ≡ member_count lists = ap length told ∙ accounts_count (declared_members lists) c.args.members (omega (arith, are.many)) ∙ are.many in
    let called : AreCalledAt lists m.objects.now m.database.now g.calls c.args.members = all_called lists m.objects.now m.database.now c.args.members are g.calls told in
    let O : ℕ → Type 0 = λ n. HasCallsBut (out_to lists n) g.calls m.objects.now m.database.now c.args.passes in
    λ κs bounds. (
      bounds.0,
      (
        bounds.1,
        (called, subst O (sym are.many) (untold g.calls m.objects.now m.database.now lists c.args.members called (member_count lists) are.many accounts c.args.passes c.requires.1.1.1.1.0)),
      ),
    )

pub unreachable-requires : goal.unreachable-requires
unreachable-requires g c =
    let m = c.args.self.now in
    let are = c.requires.1.1.1.0 in
    let there = logger_there m.lists.now m.objects.now m.database.now c.args.members are in
    c.in_default.not-Some _ (c.take_back_members.ensures.left ∙ logger_left m.lists.now m.objects.now m.database.now c.args.members are there.0 there.1)

pub put_to_engine-requires : goal.put_to_engine-requires
put_to_engine-requires g c =
    let m = c.args.self.now in
    room_for (told_of_engine g.calls) (engine_lock_of m.objects.now.engine) c.take_back_members.new.passes.engine 0 [] c.take_back_members.ensures.out.engine

pub put_to_database-requires : goal.put_to_database-requires
put_to_database-requires g c =
    let m = c.args.self.now in
    let P : Passes _ _ _ _ → Type 0 = λ db. length (items_of db) < room_of db in
    subst P (sym c.put_to_engine.ensures.database)
    (room_for (told_of_database g.calls) (odb_lock_of m.database.now) c.take_back_members.new.passes.database 0 [] c.take_back_members.ensures.out.database)

pub returns-clause-calls : goal.returns-clause-calls
returns-clause-calls g c =
    let m = c.args.self.now in
    let calls = c.requires.1.1.0 in
    let engine = c.requires.1.1.1.1.1.0 in
    let database = c.requires.1.1.1.1.1.1 in
    main_back g.calls m.objects.now m.database.now m.lists.now c.take_back_members.new.passes c.put_to_engine.new.self c.put_to_database.new.self
    c.args.main_engine c.args.main_database c.take_back_members.ensures.out
    c.put_to_engine.ensures.put c.put_to_engine.ensures.buffers c.put_to_engine.ensures.database
    engine.is engine.own engine.idle (sym (ap (λ (k : SessionCalls). k.main_engine) calls))
    c.put_to_database.ensures.put c.put_to_database.ensures.buffers c.put_to_database.ensures.engine
    database.is database.own database.idle (sym (ap (λ (k : SessionCalls). k.main_database) calls))

pub returns-clause-logger : goal.returns-clause-logger
returns-clause-logger g c = sym c.take_back_members.ensures.left ∙ c.in-Some.is
