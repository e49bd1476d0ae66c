use Rattle.console.proofs.ConsoleLaws.{console_text-more}
use Rattle.console.proofs.laws.text_grows.Goals as goal

pub returns : goal.returns
returns c = console_text-more
