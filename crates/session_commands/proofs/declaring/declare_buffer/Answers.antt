use Rattle.std.proofs.Common.{ℕ, List, subst}
use Rattle.session_commands.specs.SetupReplies.{DeclaresBuffer}
use Rattle.session_commands.proofs.DeclaringLaws.{taken_so}
use Rattle.session_commands.proofs.declaring.declare_buffer.Goals as goal

pub returns-clause-did : goal.returns-clause-did
returns-clause-did c =
    let answer = c.buffer.ensures.answer in
    subst (λ (n : List ℕ). DeclaresBuffer n c.args.size c.args.declarations.now c.setup_reply.result c.buffer.new.self) c.as_slice.ensures
    (answer.0, answer.1, taken_so _ _ _ _ _ _ answer.2 c.buffer.ensures.added c.buffer.ensures.same c.setup_reply.ensures)
