use Rattle.std.proofs.Common.{rules, ◌≡◌, ◌∙◌, ◌+◌, ◌≤◌, ◌∷◌, ℕ, List, length, map, ap, sym, refl, subst, add-one}
use Rattle.std.specs.Prelude.{Option}
use Rattle.buffer_lock.specs.SharedPorts.{access_by}
use Rattle.loggers.specs.declared.logged_run.LoggedRun.{LoggedRun}
use Rattle.loggers.specs.Turning.{buffers_begun}
use Rattle.session_setup.specs.declared.member.MemberDeclared.TheVariants.{Logger as WantedLogger}
use Rattle.session_objects.specs.Kept.{out_to, ports_out, engine_out}
use Rattle.session_objects.specs.Members.{ring_window, IsMadeLogger, IsNewLogger}
use Rattle.mid_logger.specs.declared.channel_spec.ChannelSpec.{ChannelSpec}
use Rattle.loggers.specs.NewLoggers.{HaveNumbers}
use Rattle.session_objects.specs.Objects.{HaveBuffers}
use Rattle.session_objects.specs.declared.objects.SessionBuffer.{SessionBuffer}
use Rattle.session_objects.proofs.CrewedLaws.{first_bare, logger_bare}
use Rattle.session_objects.proofs.OutLaws.{engine_one, database_same, port_here}
use Rattle.session_objects.proofs.PlaceLaws.{client_few, engine_has, fresh_said}
use Rattle.session_objects.proofs.membership.Membership.make_logger_member.Goals as goal

pub take_engine-engine-requires-clause-client : goal.take_engine-engine-requires-clause-client
take_engine-engine-requires-clause-client g c =
    let m = c.args.self.now in
    client_few m.lists.now c.args.client WantedLogger c.requires.declared m.objects.now m.database.now c.requires.suit

pub take_engine-engine-requires-clause-out : goal.take_engine-engine-requires-clause-out
take_engine-engine-requires-clause-out g c = (ports_out c.args.self.now.lists.now c.args.client (length c.args.self.now.objects.now.buffers.items), c.in_ok-ports.ensures.out)

pub take_engine-engine-requires-clause-there : goal.take_engine-engine-requires-clause-there
take_engine-engine-requires-clause-there g c =
    let m = c.args.self.now in
    engine_has m.objects.now m.database.now m.lists.now c.args.client WantedLogger c.requires.declared c.requires.suit.callers (ports_out m.lists.now c.args.client (length m.objects.now.buffers.items)) _ refl
    c.in_ok-ports.ensures.out

pub make_logger-requires-clause-numbers : goal.make_logger-requires-clause-numbers
make_logger-requires-clause-numbers g c =
    let P : List ChannelSpec → Type 0 = λ channels. HaveNumbers channels in
    subst P (sym (c.in_ok-channels.ensures ∙ c.as_slice.ensures)) c.requires.suit.numbers

pub make_logger-requires-clause-read : goal.make_logger-requires-clause-read
make_logger-requires-clause-read g c =
    let bs : c.deref.result.now ≡ c.args.self.now.objects.now.buffers.items = search rules in
    let P : List ChannelSpec → Type 0 = λ channels. HaveBuffers channels (length c.args.self.now.objects.now.buffers.items) in
    let Q : List SessionBuffer → Type 0 = λ buffers. HaveBuffers c.in_ok-channels.channels (length buffers) in
    subst Q (sym bs) (subst P (sym (c.in_ok-channels.ensures ∙ c.as_slice.ensures)) c.requires.suit.read)

pub new-requires : goal.new-requires
new-requires g c =
    let m = c.args.self.now in
    let asks = c.take_engine-engine.ensures in
    let bs : c.deref.result.now ≡ m.objects.now.buffers.items = search rules in
    let A : List SessionBuffer → Type 0 = λ buffers. IsMadeLogger buffers m.lists.now.channels c.in_ok-logger.logger in
    let B : List ChannelSpec → Type 0 = λ channels. IsMadeLogger c.deref.result.now channels c.in_ok-logger.logger in
    let made : IsMadeLogger m.objects.now.buffers.items m.lists.now.channels c.in_ok-logger.logger = subst A bs (subst B (c.in_ok-channels.ensures ∙ c.as_slice.ensures) c.in_ok-logger.ensures) in
    let P : Option LoggedRun → Type 0 = λ run. buffers_begun run ≤ length (map (access_by ring_window) c.in_ok-ports.ports) in
    first_bare m.lists.now.channels m.objects.now c.args.client c.take_engine-engine.result c.in_ok-logger.logger (map (access_by ring_window) c.in_ok-ports.ports)
    made asks.engine asks.client asks.calls c.in_ok-ports.ensures.ports g.F.Files.told c.in-Some.files (subst P (sym made.run) (search rules))

pub returns-clause-out : goal.returns-clause-out
returns-clause-out g c =
    let m = c.args.self.now in
    let lists = m.lists.now in
    let client : ℕ = c.args.client in
    fresh_said m.objects.now m.database.now (engine_out (client + 1) (ports_out lists client (length m.objects.now.buffers.items))) (out_to lists (client + 1)) c.take_engine-engine.new.passes
    (ap (λ (n : ℕ). n ∷ (out_to lists client).engine) (add-one client) ∙ sym (engine_one lists client))
    (λ n l. port_here lists client (length m.objects.now.buffers.items) n l ∙ sym (ap (λ (k : ℕ). (out_to lists k).buffers n) (add-one client)))
    (sym (database_same lists client WantedLogger c.requires.declared refl))
    (c.take_engine-engine.ensures.out _ c.in_ok-ports.ensures.out)

pub returns-clause-logger : goal.returns-clause-logger
returns-clause-logger g c = λ given is.
    let m = c.args.self.now in
    let asks = c.take_engine-engine.ensures in
    let bs : c.deref.result.now ≡ m.objects.now.buffers.items = search rules in
    let A : List SessionBuffer → Type 0 = λ buffers. IsMadeLogger buffers m.lists.now.channels c.in_ok-logger.logger in
    let B : List ChannelSpec → Type 0 = λ channels. IsMadeLogger c.deref.result.now channels c.in_ok-logger.logger in
    let made : IsMadeLogger m.objects.now.buffers.items m.lists.now.channels c.in_ok-logger.logger = subst A bs (subst B (c.in_ok-channels.ensures ∙ c.as_slice.ensures) c.in_ok-logger.ensures) in
    let G : _ → Type 0 = λ files. IsNewLogger m.objects.now c.args.client m.lists.now.channels files c.new.result in
    subst G (search (rules, is)) (logger_bare m.lists.now.channels m.objects.now c.args.client c.take_engine-engine.result c.in_ok-logger.logger (map (access_by ring_window) c.in_ok-ports.ports)
    made asks.engine asks.client asks.calls c.in_ok-ports.ensures.ports c.in-Some.files c.new.result c.new.ensures)
