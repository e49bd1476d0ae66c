use Rattle.std.specs.Fmt.{decimal}
use Rattle.std.specs.Prelude.{codes}
use Rattle.std.proofs.lemmas.Result.{IfOk-equal}
use Rattle.odb_commands.specs.Texts.{odb_text}
use Rattle.odb_commands.proofs.Added.{four_added}
use Rattle.odb_commands.proofs.dump_texts.add_key_refused.Goals as goal

pub returns : goal.returns
returns c =
    IfOk-equal c.add_odb_refusal.result _ _ _ c.add_odb_refusal.ensures
    (four_added c.args.text.now _ _ _ (codes "KeyRefused ") (decimal c.args.line) (codes " ") (odb_text c.args.why) c.in_ok-text.ensures.added c.in_ok-number.ensures.added c.in_ok-text-2.ensures.added)
