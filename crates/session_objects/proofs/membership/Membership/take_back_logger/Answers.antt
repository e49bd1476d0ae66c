use Rattle.std.proofs.Common.{◌≡◌, ◌∙◌, ◌+◌, ℕ, List, length, ap, sym, refl, subst, arith}
use Rattle.std.specs.Prelude.{slice_get, Option}
use Rattle.std.proofs.lemmas.List.{length-map}
use Rattle.buffer_core.specs.Ports.{Access}
use Rattle.transition_lock.specs.declared.shared.SharedEngine.{SharedEngine}
use Rattle.transition_lock.specs.SharedEngines.{engine_lock_of}
use Rattle.daq_types.specs.Callers.{caller_of_client}
use Rattle.turn_lock.specs.Passes.{IsOf}
use Rattle.buffer_lock.specs.SharedPorts.{access_by}
use Rattle.session_objects.specs.Calls.{Account, account_or_none}
use Rattle.session_objects.specs.Kept.{out_to, ports_out}
use Rattle.session_objects.specs.Members.{ring_window, logger_account, ArePortsTo}
use Rattle.session_setup.specs.declared.member.MemberDeclared.TheVariants.{Logger as WantedLogger}
use Rattle.session_objects.proofs.OutLaws.{engine_one, database_same, port_gone}
use Rattle.session_objects.proofs.ReturnLaws.{calls_said, client_engine_back, engine_room, ports_still}
use Rattle.session_objects.proofs.membership.Membership.take_back_logger.Goals as goal

pub put_to_engine-requires : goal.put_to_engine-requires
put_to_engine-requires g c =
    let m = c.args.self.now in
    engine_room g.calls m.objects.now m.database.now (out_to m.lists.now (c.args.client + 1)) _ (out_to m.lists.now c.args.client).engine c.args.passes.now (engine_one m.lists.now c.args.client) c.requires.1.1.1.1

pub take_back_ports-requires : goal.take_back_ports-requires
take_back_ports-requires g c =
    let m = c.args.self.now in
    let lists = m.lists.now in
    let client : ℕ = c.args.client in
    let parts = c.into_parts-pass.ensures in
    let ports = c.into_parts-pass.result.ports in
    let is = c.requires.1.1.0 in
    let has = c.requires.1.1.1.0 in
    let P : List Access → Type 0 = λ ps. ArePortsTo m.objects.now.buffers.items (caller_of_client client) ps in
    let Q : SharedEngine → Type 0 = λ e. IsOf (engine_lock_of e) c.into_parts-pass.result.pass in
    let many : length ports ≡ length m.objects.now.buffers.items = sym (length-map ports (access_by ring_window)) ∙ ap length parts.ports ∙ is.ports.many in
    let back = client_engine_back g.calls m.objects.now m.database.now lists client WantedLogger (logger_account c.args.logger) has c.args.passes.now c.put_to_engine.new.self c.into_parts-pass.result.pass c.requires.1.1.1.1
    c.put_to_engine.ensures.put c.put_to_engine.ensures.buffers c.put_to_engine.ensures.database
    (parts.number ∙ ap (λ (n : ℕ). n + 1) is.is) (subst Q is.engine parts.own) parts.idle parts.calls in
    λ κs lives. (
      lives,
      (
        has.has_wanted,
        (
          subst P (sym parts.ports) is.ports,
          (
            ap (λ (o : Option Account). (account_or_none o).port) has.told ∙ ap (λ (ps : List Access). slice_get ps) (sym parts.ports),
            ports_still g.calls m.objects.now m.database.now lists client (length ports) (out_to lists (client + 1)).database c.put_to_engine.new.self (database_same lists client WantedLogger has.has_wanted refl)
                (omega (arith, many)) back,
          ),
        ),
      ),
    )

pub returns-clause-end : goal.returns-clause-end
returns-clause-end g c =
    ap (λ files. record { files = files; failed = c.failed-failed.result }) c.into_parts-pass.ensures.files
    ∙ ap (λ failed. record { files = c.args.logger.files; failed = failed }) c.failed-failed.ensures

pub returns-clause-out : goal.returns-clause-out
returns-clause-out g c =
    let m = c.args.self.now in
    calls_said g.calls m.objects.now m.database.now (ports_out m.lists.now c.args.client 0) (out_to m.lists.now c.args.client) _ refl (λ n l. port_gone m.lists.now c.args.client 0 n (omega arith)) refl c.take_back_ports.ensures
