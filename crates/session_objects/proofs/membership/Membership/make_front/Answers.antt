use Rattle.std.proofs.Common.{◌∙◌, ◌+◌, ◌≤◌, ◌∷◌, ℕ, ap, sym, refl, subst, add-one}
use Rattle.buffer_core.specs.Window.{Window}
use Rattle.buffer_core.specs.Ports.{Access}
use Rattle.daq_members.specs.OwnTurns.{are_calls_for}
use Rattle.odb_watch.specs.DatabasePorts.{DatabaseAccess, own_watched}
use Rattle.front_ends.specs.FrontIds.{IsFrontId}
use Rattle.front_ends.specs.Fronts.{FrontState}
use Rattle.frontend_kit.specs.declared.generator.Generator.{Generator}
use Rattle.session_setup.specs.declared.member.MemberDeclared.TheVariants.{FrontEnd as WantedFront}
use Rattle.session_objects.specs.Kept.{out_to, engine_out, database_out, buffer_out}
use Rattle.session_objects.specs.Members.{new_front}
use Rattle.session_objects.proofs.ListedLaws.{declared_front}
use Rattle.session_objects.proofs.OutLaws.{engine_one, database_one, own_next}
use Rattle.session_objects.proofs.PlaceLaws.{buffer_has, client_few, engine_has, database_has, fresh_said}
use Rattle.session_objects.proofs.SeatLaws.{seen_same, front_stands_yet, wide_enough}
use Rattle.session_objects.proofs.membership.Membership.make_front.Goals as goal

pub new-requires-2 : goal.new-requires-2
new-requires-2 g c =
    let P : Generator → Type 0 = λ e. IsFrontId e.id in
    subst P (sym c.generator_of.ensures) (c.requires.suit.ids c.args.client c.args.declared.now (declared_front c.args.self.now.lists.now c.args.client c.args.declared.now c.requires.declared))

pub take_port-port-requires-clause-client : goal.take_port-port-requires-clause-client
take_port-port-requires-clause-client g c =
    let m = c.args.self.now in
    client_few m.lists.now c.args.client (WantedFront c.args.declared.now) c.requires.declared m.objects.now m.database.now c.requires.suit

pub take_port-port-requires-clause-number : goal.take_port-port-requires-clause-number
take_port-port-requires-clause-number g c = c.requires.suit.callers.own c.args.client (WantedFront c.args.declared.now) c.requires.declared c.args.declared.now.buffer refl

pub take_port-port-requires-clause-out : goal.take_port-port-requires-clause-out
take_port-port-requires-clause-out g c = (out_to c.args.self.now.lists.now c.args.client, c.requires.out)

pub take_port-port-requires-clause-there : goal.take_port-port-requires-clause-there
take_port-port-requires-clause-there g c =
    let m = c.args.self.now in
    let d = c.args.declared.now in
    buffer_has m.objects.now m.database.now m.lists.now c.args.client (WantedFront d) c.requires.declared c.requires.suit.callers (out_to m.lists.now c.args.client) d.buffer c.args.passes.now
    (c.requires.suit.callers.own c.args.client (WantedFront d) c.requires.declared d.buffer refl) refl c.requires.out

pub take_access-access-requires-clause-out : goal.take_access-access-requires-clause-out
take_access-access-requires-clause-out g c = (buffer_out (c.args.client + 1) c.args.declared.now.buffer (out_to c.args.self.now.lists.now c.args.client), c.take_port-port.ensures.out _ c.requires.out)

pub take_access-access-requires-clause-there : goal.take_access-access-requires-clause-there
take_access-access-requires-clause-there g c =
    let m = c.args.self.now in
    let d = c.args.declared.now in
    database_has m.objects.now m.database.now m.lists.now c.args.client (WantedFront d) c.requires.declared c.requires.suit.callers refl (buffer_out (c.args.client + 1) d.buffer (out_to m.lists.now c.args.client))
    c.take_port-port.new.passes refl (c.take_port-port.ensures.out _ c.requires.out)

pub take_engine-engine-requires-clause-out : goal.take_engine-engine-requires-clause-out
take_engine-engine-requires-clause-out g c = (
  database_out (c.args.client + 1) (buffer_out (c.args.client + 1) c.args.declared.now.buffer (out_to c.args.self.now.lists.now c.args.client)),
  c.take_access-access.ensures.out _ (c.take_port-port.ensures.out _ c.requires.out),
)

pub take_engine-engine-requires-clause-there : goal.take_engine-engine-requires-clause-there
take_engine-engine-requires-clause-there g c =
    let m = c.args.self.now in
    let d = c.args.declared.now in
    engine_has m.objects.now m.database.now m.lists.now c.args.client (WantedFront d) c.requires.declared c.requires.suit.callers
    (database_out (c.args.client + 1) (buffer_out (c.args.client + 1) d.buffer (out_to m.lists.now c.args.client))) c.take_access-access.new.passes refl
    (c.take_access-access.ensures.out _ (c.take_port-port.ensures.out _ c.requires.out))

pub new-requires-3 : goal.new-requires-3
new-requires-3 g c =
    let engine = c.take_engine-engine.result in
    let asks = c.take_engine-engine.ensures in
    let port = c.take_port-port.ensures.port in
    let access = c.take_access-access.ensures.access in
    let made = c.in_ok-front.ensures in
    let P : ℕ → Type 0 = λ n. 104 ≤ n in record {
      speaks = ap (are_calls_for engine.client) asks.calls;
      caller = ap (λ (a : Access). a.caller) port.is ∙ ap (λ (n : ℕ). n + 1) (sym asks.client);
      database_caller = ap (λ (a : DatabaseAccess). a.caller) access ∙ ap (λ (n : ℕ). n + 1) (sym asks.client);
      size = subst P (sym (ap (λ (a : Access). a.size) port.is ∙ ap (λ (w : Window). w.size) port.buffer.opens)) (wide_enough port.buffer.size port.buffer.sized);
      stands = front_stands_yet engine.client c.in_ok-key.key.name c.generator_of.result c.in_ok-front.front engine.calls _ _
          made.made asks.calls (ap (λ (a : Access). a.own) port.is) (ap own_watched access) made.stands made.moments;
    }

pub returns-clause-out : goal.returns-clause-out
returns-clause-out g c =
    let m = c.args.self.now in
    let lists = m.lists.now in
    let client : ℕ = c.args.client in
    let d = c.args.declared.now in
    fresh_said m.objects.now m.database.now (engine_out (client + 1) (database_out (client + 1) (buffer_out (client + 1) d.buffer (out_to lists client)))) (out_to lists (client + 1)) c.take_engine-engine.new.passes
    (ap (λ (n : ℕ). n ∷ (out_to lists client).engine) (add-one client) ∙ sym (engine_one lists client))
    (λ n l. own_next lists client (WantedFront d) c.requires.declared d.buffer refl n)
    (ap (λ (n : ℕ). n ∷ (out_to lists client).database) (add-one client) ∙ sym (database_one lists client (WantedFront d) c.requires.declared refl))
    (c.take_engine-engine.ensures.out _ (c.take_access-access.ensures.out _ (c.take_port-port.ensures.out _ c.requires.out)))

pub returns-clause-front : goal.returns-clause-front
returns-clause-front g c =
    let m = c.args.self.now in
    let d = c.args.declared.now in
    let made = c.in_ok-front.ensures in
    let port = c.take_port-port.ensures.port in
    let access = c.take_access-access.ensures.access in
    let asks = c.take_engine-engine.ensures in record {
      buffer = port.buffer;
      has_buffer = port.has_buffer;
      is = c.new-3.ensures ∙ seen_same _ (new_front m.objects.now m.database.now c.args.client d port.buffer)
          asks.engine asks.client c.in_ok-key.ensures
          (ap (λ (f : FrontState Generator). f.equipment) made.made ∙ c.generator_of.ensures)
          (ap (λ (f : FrontState Generator). f.run) made.made)
          asks.calls port.is refl access access;
    }
