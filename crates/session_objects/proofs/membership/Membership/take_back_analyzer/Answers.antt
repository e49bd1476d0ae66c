use Rattle.std.proofs.Common.{◌∙◌, ◌+◌, ℕ, length, ap, sym, refl, subst, arith}
use Rattle.turn_lock.specs.Passes.{IsOf}
use Rattle.buffer_core.specs.Ports.{Access}
use Rattle.transition_lock.specs.declared.shared.SharedEngine.{SharedEngine}
use Rattle.transition_lock.specs.SharedEngines.{engine_lock_of}
use Rattle.session_objects.specs.Kept.{out_to}
use Rattle.session_objects.specs.Members.{analyzer_account, IsOwnPort}
use Rattle.session_setup.specs.declared.member.MemberDeclared.TheVariants.{Analyzer as WantedAnalyzer}
use Rattle.session_objects.proofs.ListedLaws.{analyzer_port}
use Rattle.session_objects.proofs.OutLaws.{engine_one, database_same}
use Rattle.session_objects.proofs.ReturnLaws.{engine_room, client_engine_back, ports_still}
use Rattle.session_objects.proofs.membership.Membership.take_back_analyzer.Goals as goal

pub put_to_engine-requires : goal.put_to_engine-requires
put_to_engine-requires g c =
    let m = c.args.self.now in
    engine_room g.calls m.objects.now m.database.now (out_to m.lists.now (c.args.client + 1)) _ (out_to m.lists.now c.args.client).engine c.args.passes.now (engine_one m.lists.now c.args.client) c.requires.1.1

pub take_back_port-requires : goal.take_back_port-requires
take_back_port-requires g c =
    let m = c.args.self.now in
    let lists = m.lists.now in
    let client : ℕ = c.args.client in
    let d = c.requires.1.0.0 in
    let is = c.requires.1.0.1 in
    let has = c.requires.1.0.2 in
    let parts = c.into_parts-pass.ensures in
    let account = analyzer_account d c.args.analyzer in
    let k1 = client_engine_back g.calls m.objects.now m.database.now lists client (WantedAnalyzer d) account has c.args.passes.now c.put_to_engine.new.self c.into_parts-pass.result.pass c.requires.1.1
    c.put_to_engine.ensures.put c.put_to_engine.ensures.buffers c.put_to_engine.ensures.database
    (parts.number ∙ ap (λ (n : ℕ). n + 1) is.is)
    (let P : SharedEngine → Type 0 = λ e. IsOf (engine_lock_of e) c.into_parts-pass.result.pass in subst P is.engine parts.own)
    parts.idle parts.calls in
    let P : Access → Type 0 = λ port. IsOwnPort lists m.objects.now g.calls client port in
    λ κs lives. (
      lives,
      (
        subst P (sym parts.port) (analyzer_port lists m.objects.now g.calls client c.args.analyzer d is has),
        ports_still g.calls m.objects.now m.database.now lists client (length m.objects.now.buffers.items) (out_to lists (client + 1)).database c.put_to_engine.new.self
            (database_same lists client (WantedAnalyzer d) has.has_wanted refl) (omega arith) k1,
      ),
    )

pub returns : goal.returns
returns g c = c.take_back_port.ensures
