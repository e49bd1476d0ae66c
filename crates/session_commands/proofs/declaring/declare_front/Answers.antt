use Rattle.std.proofs.Common.{ℕ, List, subst}
use Rattle.session_commands.specs.SetupReplies.{DeclaresFront}
use Rattle.session_commands.proofs.DeclaringLaws.{taken_so}
use Rattle.session_commands.proofs.declaring.declare_front.Goals as goal

pub returns-clause-did : goal.returns-clause-did
returns-clause-did c =
    let answer = c.equip.ensures.answer in
    subst (λ (n : List ℕ). DeclaresFront n c.args.id c.args.mask c.args.buffer c.args.limit c.args.declarations.now c.setup_reply.result c.equip.new.self) c.as_slice.ensures
    (subst (λ (b : List ℕ). DeclaresFront c.as_slice.result.now c.args.id c.args.mask b c.args.limit c.args.declarations.now c.setup_reply.result c.equip.new.self) c.as_slice-2.ensures
    (answer.0, answer.1, taken_so _ _ _ _ _ _ answer.2 c.equip.ensures.added c.equip.ensures.same c.setup_reply.ensures))
