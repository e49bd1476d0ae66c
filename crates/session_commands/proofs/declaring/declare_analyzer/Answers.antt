use Rattle.std.proofs.Common.{ℕ, List, subst}
use Rattle.session_commands.specs.SetupReplies.{DeclaresAnalyzer}
use Rattle.session_commands.proofs.DeclaringLaws.{taken_so}
use Rattle.session_commands.proofs.declaring.declare_analyzer.Goals as goal

pub returns-clause-did : goal.returns-clause-did
returns-clause-did c =
    let answer = c.analyzer.ensures.answer in
    subst (λ (n : List ℕ). DeclaresAnalyzer n c.args.buffer c.args.id c.args.mask c.args.kind c.args.declarations.now c.setup_reply.result c.analyzer.new.self) c.as_slice.ensures
    (subst (λ (b : List ℕ). DeclaresAnalyzer c.as_slice.result.now b c.args.id c.args.mask c.args.kind c.args.declarations.now c.setup_reply.result c.analyzer.new.self) c.as_slice-2.ensures
    (answer.0, answer.1, taken_so _ _ _ _ _ _ answer.2 c.analyzer.ensures.added c.analyzer.ensures.same c.setup_reply.ensures))
