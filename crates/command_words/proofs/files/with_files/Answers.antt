use Rattle.std.proofs.Common.{◌≡◌, ◌∙◌, Some, None, sym, arith}
use Rattle.command_words.specs.declared.forms.Form.TheVariants.{OnFiles}
use Rattle.command_words.proofs.FormParts.{no_form}
use Rattle.command_words.proofs.files.with_files.Goals as goal

pub returns-in_default-4 : goal.returns-in_default-4
returns-in_default-4 c = λ has.
    no_form c.args.words.now c.args.first (omega (arith, c.if-len-le2.false, c.len.ensures)) c.requires (λ tool parts. let clash : None ≡ Some (OnFiles tool) = sym c.in_default.is ∙ parts.first_is in absurd cc) has
