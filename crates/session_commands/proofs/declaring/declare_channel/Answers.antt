use Rattle.std.proofs.Common.{ℕ, List, subst}
use Rattle.session_commands.specs.SetupReplies.{DeclaresChannel}
use Rattle.session_commands.proofs.DeclaringLaws.{channel_so}
use Rattle.session_commands.proofs.declaring.declare_channel.Goals as goal

pub returns-clause-did : goal.returns-clause-did
returns-clause-did c =
    let answer = c.channel.ensures.answer in
    subst (λ (n : List ℕ). DeclaresChannel c.args.number n c.args.buffer c.args.id c.args.mask c.args.sub_bytes c.args.declarations.now c.setup_reply.result c.channel.new.self) c.as_slice.ensures
    (subst (λ (b : List ℕ). DeclaresChannel c.args.number c.as_slice.result.now b c.args.id c.args.mask c.args.sub_bytes c.args.declarations.now c.setup_reply.result c.channel.new.self) c.as_slice-2.ensures
    (answer.0, answer.1, channel_so _ _ _ _ _ _ _ _ _ _ _ answer.2 c.channel.ensures.added c.channel.ensures.same c.setup_reply.ensures))
