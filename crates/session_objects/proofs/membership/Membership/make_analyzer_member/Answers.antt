use Rattle.std.proofs.Common.{rules, ◌≡◌, ◌∙◌, ◌<◌, ◌+◌, ◌-◌, ◌≤◌, ◌∷◌, min, ℕ, List, length, ap, sym, refl, subst, arith, add-one}
use Rattle.std.specs.Prelude.{slice_get, Option}
use Rattle.event.specs.Events.{event_limit}
use Rattle.buffer_core.specs.Window.{Window}
use Rattle.buffer_core.specs.Ports.{Access}
use Rattle.buffer_lock.specs.SharedPorts.{access_by}
use Rattle.analyzers.specs.declared.analyzer_run.AnalyzerRun.{AnalyzerRun}
use Rattle.analyzers.specs.Analyzers.{AnalyzerState, IsWithinGot}
use Rattle.daq_members.specs.OwnTurns.{are_calls_for}
use Rattle.session_objects.specs.declared.objects.SessionBuffer.{SessionBuffer}
use Rattle.session_setup.specs.declared.member.MemberDeclared.TheVariants.{Analyzer as WantedAnalyzer}
use Rattle.session_objects.specs.Kept.{out_to, engine_out, buffer_out}
use Rattle.session_objects.specs.Members.{ring_window, event_room_of, idle_analyzer, new_analyzer}
use Rattle.session_objects.proofs.OutLaws.{engine_one, database_same, own_next}
use Rattle.session_objects.proofs.PlaceLaws.{buffer_has, client_few, engine_has, fresh_said}
use Rattle.session_objects.proofs.SeatLaws.{analyzer_same, analyzer_stands_yet}
use Rattle.session_objects.proofs.membership.Membership.make_analyzer_member.Goals as goal

pub make_analyzer-requires : goal.make_analyzer-requires
make_analyzer-requires g c =
    let d = c.args.declared.now in
    let bs : c.deref.result.now ≡ c.args.self.now.objects.now.buffers.items = search rules in
    let P : List SessionBuffer → Type 0 = λ xs. d.buffer < length xs in
    subst P (sym bs) (c.requires.suit.callers.own c.args.client (WantedAnalyzer d) c.requires.declared d.buffer refl)

pub take_port-port-requires-clause-client : goal.take_port-port-requires-clause-client
take_port-port-requires-clause-client g c =
    let m = c.args.self.now in
    client_few m.lists.now c.args.client (WantedAnalyzer c.args.declared.now) c.requires.declared m.objects.now m.database.now c.requires.suit

pub take_port-port-requires-clause-number : goal.take_port-port-requires-clause-number
take_port-port-requires-clause-number g c = c.requires.suit.callers.own c.args.client (WantedAnalyzer c.args.declared.now) c.requires.declared c.args.declared.now.buffer refl

pub take_port-port-requires-clause-out : goal.take_port-port-requires-clause-out
take_port-port-requires-clause-out g c = (out_to c.args.self.now.lists.now c.args.client, c.requires.out)

pub take_port-port-requires-clause-there : goal.take_port-port-requires-clause-there
take_port-port-requires-clause-there g c =
    let m = c.args.self.now in
    let d = c.args.declared.now in
    buffer_has m.objects.now m.database.now m.lists.now c.args.client (WantedAnalyzer d) c.requires.declared c.requires.suit.callers (out_to m.lists.now c.args.client) d.buffer c.args.passes.now
    (c.requires.suit.callers.own c.args.client (WantedAnalyzer d) c.requires.declared d.buffer refl) refl c.requires.out

pub take_engine-engine-requires-clause-out : goal.take_engine-engine-requires-clause-out
take_engine-engine-requires-clause-out g c = (buffer_out (c.args.client + 1) c.args.declared.now.buffer (out_to c.args.self.now.lists.now c.args.client), c.take_port-port.ensures.out _ c.requires.out)

pub take_engine-engine-requires-clause-there : goal.take_engine-engine-requires-clause-there
take_engine-engine-requires-clause-there g c =
    let m = c.args.self.now in
    let d = c.args.declared.now in
    engine_has m.objects.now m.database.now m.lists.now c.args.client (WantedAnalyzer d) c.requires.declared c.requires.suit.callers (buffer_out (c.args.client + 1) d.buffer (out_to m.lists.now c.args.client))
    c.take_port-port.new.passes refl (c.take_port-port.ensures.out _ c.requires.out)

pub new-requires : goal.new-requires
new-requires g c =
    let d = c.args.declared.now in
    let made = c.in_ok-analyzer.ensures in
    let analyzer = c.in_ok-analyzer.analyzer in
    let port = c.take_port-port.ensures.port in
    let asks = c.take_engine-engine.ensures in
    let engine = c.take_engine-engine.result in
    let b : SessionBuffer = port.buffer in
    let size : _ ≡ b.size = ap (λ (a : Access). a.size) port.is ∙ ap (λ (w : Window). w.size) b.opens in
    let bs : c.deref.result.now ≡ c.args.self.now.objects.now.buffers.items = search rules in
    let room : analyzer.room ≡ min event_limit (b.size - 24) =
    ap (λ (a : AnalyzerState). a.room) made.made ∙ ap (λ (xs : List SessionBuffer). event_room_of (slice_get xs d.buffer)) bs ∙ ap event_room_of port.has_buffer in
    let P : ℕ → Type 0 = λ n. min event_limit (n - 24) ≤ analyzer.room in
    let Q : ℕ → Type 0 = λ n. min event_limit (b.size - 24) ≤ n in
    let R : Option AnalyzerRun → Type 0 = λ run. IsWithinGot run (access_by ring_window c.take_port-port.result).got in
    let least : min event_limit (b.size - 24) ≤ min event_limit (b.size - 24) = omega arith in record {
      speaks = ap (are_calls_for engine.client) asks.calls;
      caller = ap (λ (a : Access). a.caller) port.is ∙ ap (λ (n : ℕ). n + 1) (sym asks.client);
      room = subst P (sym size) (subst Q (sym room) least);
      counted = subst R (sym (ap (λ (a : AnalyzerState). a.run) made.made)) tt;
      stands = analyzer_stands_yet engine.client analyzer engine.calls _ _ asks.calls (ap (λ (a : Access). a.own) port.is) (ap (λ (a : Access). a.got) port.is) made.stands made.tells;
    }

pub returns-clause-out : goal.returns-clause-out
returns-clause-out g c =
    let m = c.args.self.now in
    let lists = m.lists.now in
    let client : ℕ = c.args.client in
    let d = c.args.declared.now in
    fresh_said m.objects.now m.database.now (engine_out (client + 1) (buffer_out (client + 1) d.buffer (out_to lists client))) (out_to lists (client + 1)) c.take_engine-engine.new.passes
    (ap (λ (n : ℕ). n ∷ (out_to lists client).engine) (add-one client) ∙ sym (engine_one lists client))
    (λ n l. own_next lists client (WantedAnalyzer d) c.requires.declared d.buffer refl n)
    (sym (database_same lists client (WantedAnalyzer d) c.requires.declared refl))
    (c.take_engine-engine.ensures.out _ (c.take_port-port.ensures.out _ c.requires.out))

pub returns-clause-analyzer : goal.returns-clause-analyzer
returns-clause-analyzer g c =
    let m = c.args.self.now in
    let d = c.args.declared.now in
    let port = c.take_port-port.ensures.port in
    let asks = c.take_engine-engine.ensures in
    let bs : c.deref.result.now ≡ m.objects.now.buffers.items = search rules in record {
      buffer = port.buffer;
      has_buffer = port.has_buffer;
      is = c.new.ensures ∙ analyzer_same _ (new_analyzer m.objects.now c.args.client d port.buffer)
          asks.engine asks.client
          (c.in_ok-analyzer.ensures.made
          ∙ ap (λ (xs : List SessionBuffer). idle_analyzer (event_room_of (slice_get xs d.buffer)) d) bs ∙ ap (λ (o : Option SessionBuffer). idle_analyzer (event_room_of o) d) port.has_buffer)
          asks.calls port.is port.is;
    }
